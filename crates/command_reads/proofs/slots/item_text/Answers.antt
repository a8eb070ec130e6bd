use Rattle.command_reads.proofs.ListTexts.{text_of}
use Rattle.command_reads.proofs.SlotItems.{slot_whole}
use Rattle.command_reads.proofs.slots.item_text.Goals as goal

pub returns : goal.returns
returns c = text_of _ _ c.to_string.result c.in_ok-value.ensures (slot_whole c.args.number c.args.slot.now) c.to_string.ensures.text
