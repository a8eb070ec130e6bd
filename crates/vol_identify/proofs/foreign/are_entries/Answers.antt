use Rattle.std.proofs.Common.{refl, sym}
use Rattle.vol_identify.proofs.WordSums.{entries_more, entries_none}
use Rattle.vol_identify.proofs.foreign.are_entries.Goals as goal

pub loop-k-init : goal.loop-k-init
loop-k-init c = sym (entries_none c.args.image.now c.args.at)

pub loop-k-preserved : goal.loop-k-preserved
loop-k-preserved c = rw (entries_more c.args.image.now c.args.at c.loop-k.k, ← c.loop-k.invariant, ← c.is_entry-all.ensures) refl
