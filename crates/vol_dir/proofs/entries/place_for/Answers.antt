use Rattle.std.proofs.Common.{arith}
use Rattle.vol_dir.proofs.Searches.{slots_low}
use Rattle.vol_dir.proofs.NewEntries.{new_within}
use Rattle.vol_dir.proofs.entries.place_for.Goals as goal

pub overflow_mul-result : goal.overflow_mul-result
overflow_mul-result c =
    let within = new_within c.args.geometry.now c.args.image.now c.args.dir in
    let low = slots_low c.args.geometry.now c.args.image.now c.args.dir in
    omega (arith, within, low, c.new_slot.ensures)
