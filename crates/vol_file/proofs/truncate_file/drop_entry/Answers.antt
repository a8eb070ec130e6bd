use Rattle.std.proofs.Common.{◌∷◌}
use Rattle.vol_file.proofs.DroppedPlaces.{drops}
use Rattle.vol_file.proofs.Entries.{named_zone, entry_room, entry_stores, stored_fresh}
use Rattle.vol_file.proofs.FreedCounts.{gains_one, zone_some}
use Rattle.vol_file.proofs.truncate_file.drop_entry.Goals as goal

pub put_number-requires-clause-room : goal.put_number-requires-clause-room
put_number-requires-clause-room c =
    let r = c.requires in
    entry_room c.args.geometry.now c.args.image.now r.blocks r.file c.args.j r.index c.args.m c.args.b r.place r.sound r.block r.is

pub give-requires-clause-stack : goal.give-requires-clause-stack
give-requires-clause-stack c =
    let r = c.requires in
    let store = entry_stores c.args.geometry.now c.args.image.now c.put_number.new.image r.blocks r.file c.args.j r.index c.args.m c.args.b r.place
    r.sound r.block r.is c.put_number.ensures.others c.put_number.ensures.put in
    record { blocks = r.blocks; free = store.free }

pub give-requires-clause-zone : goal.give-requires-clause-zone
give-requires-clause-zone c =
    let r = c.requires in
    named_zone c.args.geometry.now c.args.image.now r.blocks r.file c.args.b (c.args.j ∷ (r.index ∷ r.place)) r.sound r.is

pub give-requires-clause-fresh : goal.give-requires-clause-fresh
give-requires-clause-fresh c =
    let r = c.requires in
    stored_fresh c.args.geometry.now c.args.image.now c.put_number.new.image r.blocks r.file c.args.b (c.args.j ∷ (r.index ∷ r.place)) r.sound r.is
    (entry_stores c.args.geometry.now c.args.image.now c.put_number.new.image r.blocks r.file c.args.j r.index c.args.m c.args.b r.place
    r.sound r.block r.is c.put_number.ensures.others c.put_number.ensures.put)

pub returns-clause-dropped : goal.returns-clause-dropped
returns-clause-dropped c = λ i a p blocks block sound is empty.
    let store = entry_stores c.args.geometry.now c.args.image.now c.put_number.new.image blocks i c.args.j a c.args.m c.args.b p
    sound block is c.put_number.ensures.others c.put_number.ensures.put in
    drops c.args.geometry.now c.args.image.now c.put_number.new.image c.give.new.image blocks i c.args.b (c.args.j ∷ (a ∷ p))
    sound is empty store c.give.ensures.others (c.give.ensures.pushed blocks store.free)

pub returns-clause-counted : goal.returns-clause-counted
returns-clause-counted c =
    let r = c.requires in
    let store = entry_stores c.args.geometry.now c.args.image.now c.put_number.new.image r.blocks r.file c.args.j r.index c.args.m c.args.b r.place
    r.sound r.block r.is c.put_number.ensures.others c.put_number.ensures.put in
    gains_one c.args.geometry.now c.args.image.now c.give.new.image c.args.b r.blocks (zone_some c.args.geometry.now c.args.image.now r.sound.fits)
    r.sound.free (c.give.ensures.pushed r.blocks store.free)
