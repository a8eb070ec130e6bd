use Rattle.command_reads.specs.Slots.{slot_text}
use Rattle.command_reads.proofs.slots.push_text.Goals as goal

pub returns-in-Item : goal.returns-in-Item
unfolding slot_text
returns-in-Item c = rw c.in-Item.is c.push_item.ensures
