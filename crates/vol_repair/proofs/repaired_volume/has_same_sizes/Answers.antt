use Rattle.std.proofs.Common.{sym, ◌∙◌}
use Rattle.std.proofs.lemmas.Bool.{eqb-true}
use Rattle.vol_repair.proofs.Repairs.{sizes_same}
use Rattle.vol_repair.proofs.repaired_volume.has_same_sizes.Goals as goal

pub returns-then-list_size : goal.returns-then-list_size
returns-then-list_size c = λ found.
    sizes_same c.args.edition c.args.old.now c.args.new.now (sym c.list_size-2.ensures ∙ (sym c.if-list_size.true ∙ c.list_size.ensures))
    (sym c.block_count-then-list_size.ensures.value ∙ (sym (eqb-true _ _ found) ∙ c.block_count.ensures.value))
