use Rattle.std.proofs.Common.{[], ◌∷◌}
use Rattle.vol_file.proofs.DroppedPlaces.{drops}
use Rattle.vol_file.proofs.Entries.{named_zone, address_stores, stored_fresh}
use Rattle.vol_file.proofs.FreedCounts.{gains_one, zone_some}
use Rattle.vol_file.proofs.truncate_file.drop_address.Goals as goal

pub give-requires-clause-stack : goal.give-requires-clause-stack
give-requires-clause-stack c =
    let r = c.requires in
    let store = address_stores c.args.geometry.now c.args.image.now c.put_address.new.image r.blocks c.args.i c.args.k c.args.b
    r.sound r.is c.put_address.ensures.others c.put_address.ensures.put in
    record { blocks = r.blocks; free = store.free }

pub give-requires-clause-zone : goal.give-requires-clause-zone
give-requires-clause-zone c =
    let r = c.requires in
    named_zone c.args.geometry.now c.args.image.now r.blocks c.args.i c.args.b (c.args.k ∷ []) r.sound r.is

pub give-requires-clause-fresh : goal.give-requires-clause-fresh
give-requires-clause-fresh c =
    let r = c.requires in
    stored_fresh c.args.geometry.now c.args.image.now c.put_address.new.image r.blocks c.args.i c.args.b (c.args.k ∷ []) r.sound r.is
    (address_stores c.args.geometry.now c.args.image.now c.put_address.new.image r.blocks c.args.i c.args.k c.args.b
    r.sound r.is c.put_address.ensures.others c.put_address.ensures.put)

pub returns-clause-dropped : goal.returns-clause-dropped
returns-clause-dropped c = λ blocks sound is empty.
    let store = address_stores c.args.geometry.now c.args.image.now c.put_address.new.image blocks c.args.i c.args.k c.args.b
    sound is c.put_address.ensures.others c.put_address.ensures.put in
    drops c.args.geometry.now c.args.image.now c.put_address.new.image c.give.new.image blocks c.args.i c.args.b (c.args.k ∷ [])
    sound is empty store c.give.ensures.others (c.give.ensures.pushed blocks store.free)

pub returns-clause-counted : goal.returns-clause-counted
returns-clause-counted c =
    let r = c.requires in
    let store = address_stores c.args.geometry.now c.args.image.now c.put_address.new.image r.blocks c.args.i c.args.k c.args.b
    r.sound r.is c.put_address.ensures.others c.put_address.ensures.put in
    gains_one c.args.geometry.now c.args.image.now c.give.new.image c.args.b r.blocks (zone_some c.args.geometry.now c.args.image.now r.sound.fits)
    r.sound.free (c.give.ensures.pushed r.blocks store.free)
