use Rattle.std.proofs.Common.{[], ◌∷◌, sym, ◌∙◌}
use Rattle.vol_file.proofs.ReachedPlaces.{steps_named, steps_out, steps_address, reaches_first, taken_zoned, zone_limit}
use Rattle.vol_file.proofs.take_blocks.name_address.Goals as goal

pub returns-then-named-ne0 : goal.returns-then-named-ne0
returns-then-named-ne0 c = λ wanted blocks want.
    reaches_first c.args.geometry.now c.args.image.now c.args.image.now c.args.i wanted c.args.k blocks c.address-named.result
    (steps_named c.args.geometry.now c.args.image.now c.args.i wanted (c.args.k ∷ []) blocks c.address-named.result want
    (sym c.address-named.ensures) c.if-named-ne0.true)

pub put_address-requires-clause-range : goal.put_address-requires-clause-range
put_address-requires-clause-range c =
    let may = c.requires.may in
    let sound = may.is.ready.sound in
    zone_limit c.args.geometry.now c.args.image.now c.in-Some.b sound.fits
    (taken_zoned c.args.geometry.now c.args.image.now c.take.new.image may.blocks c.in-Some.b sound (c.in-Some.ensures.popped may.blocks sound.free))

pub returns-in-None : goal.returns-in-None
returns-in-None c = λ wanted blocks want.
    absurd (steps_out c.args.geometry.now c.args.image.now c.take.new.image c.args.i wanted (c.args.k ∷ []) blocks want
    (sym c.address-named.ensures ∙ c.if-named-ne0.false) (c.in-None.ensures.popped blocks want.ready.sound.free))

pub returns-in-Some : goal.returns-in-Some
returns-in-Some c = λ wanted blocks want.
    reaches_first c.args.geometry.now c.args.image.now c.put_address.new.image c.args.i wanted c.args.k blocks c.in-Some.b
    (steps_address c.args.geometry.now c.args.image.now c.take.new.image c.put_address.new.image c.args.i wanted c.args.k blocks c.in-Some.b want
    (sym c.address-named.ensures ∙ c.if-named-ne0.false) (c.in-Some.ensures.popped blocks want.ready.sound.free)
    c.put_address.ensures.others c.put_address.ensures.put)
