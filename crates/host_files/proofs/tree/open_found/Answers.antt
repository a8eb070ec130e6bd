use Rattle.std.proofs.Common.{◌≡◌, ◌++◌, List, ℕ, subst, sym}
use Rattle.std.specs.Prelude.{OnOk, string_bytes}
use Rattle.host_files.specs.Folders.{HasIn}
use Rattle.host_files.specs.declared.folders.Found.{Found}
use Rattle.host_files.specs.declared.folders.FoundKind.{FoundKind}
use Rattle.host_files.specs.declared.folders.FoundKind.TheVariants as kinds
use Rattle.host_files.proofs.tree.open_found.Goals as goal

pub returns-in-Folder-clause-ok : goal.returns-in-Folder-clause-ok
returns-in-Folder-clause-ok g c =
    let stacks = c.open_folder.new.stack.items in
    subst (λ (kind : FoundKind). OnOk c.open_folder.result ((more : List Found)
    × HasIn g.R.ImageFiles.listed kind (string_bytes c.args.found.now.path) more × (stacks ≡ c.args.stack.now.items ++ more))) (sym c.in-Folder.is)
    (subst (λ (path : List ℕ). OnOk c.open_folder.result ((more : List Found)
    × HasIn g.R.ImageFiles.listed kinds.Folder path more × (stacks ≡ c.args.stack.now.items ++ more))) c.deref.ensures c.open_folder.ensures.ok)
