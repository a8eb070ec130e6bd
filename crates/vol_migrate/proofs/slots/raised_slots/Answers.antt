-- Each slot is raised and written.
use Rattle.std.proofs.Common.{◌≡◌, ◌∙◌, ap, ◌*◌, length, arith}
use Rattle.vol_layout.specs.Slot.{slot_at}
use Rattle.vol_layout.specs.declared.slot.Slot.{Slot}
use Rattle.vol_migrate.specs.Raised.{raised_slot}
use Rattle.vol_migrate.specs.Stages.{bytes_of_slot}
use Rattle.vol_migrate.proofs.RaisedSlots.{slot_put, bytes_length}
use Rattle.vol_migrate.proofs.slots.raised_slots.Goals as goal

pub raised_slot-slot-requires : goal.raised_slot-slot-requires
raised_slot-slot-requires c =
    let number = c.requires.numbers c.loop-s.s (omega arith) in
    let is : c.read.result.inode ≡ (slot_at c.args.text.now (16 * c.loop-s.s)).inode = ap (λ (slot : Slot). slot.inode) c.read.ensures in
    omega (arith, number, is)

pub loop-s-preserved : goal.loop-s-preserved
loop-s-preserved c =
    let slot : c.raised_slot-slot.result ≡ raised_slot (slot_at c.args.text.now (16 * c.loop-s.s)) =
    c.raised_slot-slot.ensures ∙ ap raised_slot c.read.ensures in
    slot_put c.args.text.now c.loop-s.raised c.put_bytes.new.bytes c.to_bytes.result c.loop-s.s
    (c.to_bytes.ensures.bytes ∙ ap bytes_of_slot slot)
    (ap length (c.to_bytes.ensures.bytes ∙ ap bytes_of_slot slot) ∙ bytes_length c.args.text.now (16 * c.loop-s.s) (omega arith)) c.put_bytes.ensures.put c.put_bytes.ensures.others c.loop-s.invariant
