use Rattle.std.proofs.Common.{◌≡◌, ℕ, ◌∙◌, sym}
use Rattle.std.proofs.lemmas.Result.{IfOk-weaker}
use Rattle.vol_dir.specs.Entries.{entry_at, slot_count}
use Rattle.count_table.specs.Sums.{below}
use Rattle.vol_check.specs.LineCounts.{named_one, name_count}
use Rattle.vol_check.proofs.LineCounts.{directory_names}
use Rattle.vol_check.proofs.memory_check.count_names.Goals as goal

pub returns-in-Directory-clause-exact : goal.returns-in-Directory-clause-exact
returns-in-Directory-clause-exact c =
    let g = c.args.geometry.now in
    let image = c.args.image.now in
    let d = c.args.d in
    IfOk-weaker c.count_directory.result (λ count. count ≡ below (λ s. named_one (entry_at g image d s)) (slot_count g image d)) (λ count. count ≡ name_count g image d)
    (λ count is. is ∙ sym (directory_names g image d (sym c.in-Directory.ensures))) c.count_directory.ensures.exact
