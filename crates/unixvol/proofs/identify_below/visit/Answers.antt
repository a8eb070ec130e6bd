use Rattle.std.proofs.Common.{[], List, ℕ, refl, subst, sym}
use Rattle.std.proofs.KnownBytes.{Appends-nil}
use Rattle.std.proofs.lemmas.List.{append-nil}
use Rattle.std.specs.Prelude.{string_bytes}
use Rattle.host_files.specs.declared.folders.FoundKind.{FoundKind}
use Rattle.unixvol.specs.Below.{IsOpened, IsVisitOf}
use Rattle.unixvol.proofs.identify_below.visit.Goals as goal

pub returns-in-Folder-clause-visited : goal.returns-in-Folder-clause-visited
returns-in-Folder-clause-visited g c =
    let opened = c.open_folder.ensures in (
      [],
      opened.0,
      subst (λ (kind : FoundKind). IsVisitOf g.R.File.Read.remaining g.R.ImageFiles.had g.R.ImageFiles.stood g.R.ImageFiles.listed c.args.form kind (string_bytes c.args.found.now.path) [] opened.0 c.open_folder.result)
          (sym c.in-Folder.is) (subst (λ (path : List ℕ). IsOpened g.R.ImageFiles.listed path opened.0 c.open_folder.result) c.deref-in-Folder.ensures opened.1, refl),
      opened.2,
      Appends-nil (g.O.Sink.contents c.args.output.now),
      refl,
    )

pub returns-in-Other-clause-visited : goal.returns-in-Other-clause-visited
returns-in-Other-clause-visited g c = (
  [],
  [],
  subst (λ (kind : FoundKind). IsVisitOf g.R.File.Read.remaining g.R.ImageFiles.had g.R.ImageFiles.stood g.R.ImageFiles.listed c.args.form kind (string_bytes c.args.found.now.path) [] [] 0)
      (sym c.in-Other.is) (refl, refl, refl),
  sym (append-nil c.args.stack.now.items),
  Appends-nil (g.O.Sink.contents c.args.output.now),
  refl,
)
