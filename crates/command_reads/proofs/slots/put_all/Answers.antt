use Rattle.command_reads.proofs.slots.put_all.Goals as goal

pub returns-in-Text : goal.returns-in-Text
returns-in-Text g c = rw c.in-Text.is c.put_slots.ensures

pub returns-in-Json : goal.returns-in-Json
returns-in-Json g c = rw c.in-Json.is c.put_json.ensures
