use Rattle.std.proofs.Common.{◌∙◌, sym}
use Rattle.vol_dir.proofs.Searches.{new_slot_found, new_slot_past}
use Rattle.vol_dir.proofs.entries.new_slot.Goals as goal

pub returns-in-Some : goal.returns-in-Some
returns-in-Some c = sym (new_slot_found c.args.geometry.now c.args.image.now c.args.dir c.in-Some.ensures)

pub returns-in-None : goal.returns-in-None
returns-in-None c = c.slot_count.ensures ∙ sym (new_slot_past c.args.geometry.now c.args.image.now c.args.dir c.in-None.ensures)
