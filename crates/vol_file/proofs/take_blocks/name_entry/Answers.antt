use Rattle.std.proofs.Common.{◌≡◌, ℕ, ◌<◌, ◌∷◌, sym, ◌∙◌}
use Rattle.vol_layout.specs.Edition.{constants}
use Rattle.vol_layout.specs.declared.edition.Edition.{Edition}
use Rattle.vol_layout.specs.declared.edition.Edition.TheVariants.{V6, V7}
use Rattle.vol_file.proofs.ReachedPlaces.{steps_named, steps_out, steps_entry, reaches_next, wanted_next, reached_zone, taken_zoned, zone_limit, entry_room, next_index, next_named}
use Rattle.vol_file.proofs.take_blocks.name_entry.Goals as goal

pub number-named-requires : goal.number-named-requires
number-named-requires c =
    let may = c.requires.may in
    entry_room c.args.geometry.now c.args.image.now c.args.m c.args.j may.next.reached.extends.sound.fits
    (reached_zone c.args.geometry.now may.old c.args.image.now may.i may.wanted c.args.j may.a may.p may.blocks c.args.m may.next)
    (next_index c.args.geometry.now may.old c.args.image.now may.i may.wanted c.args.j may.a may.p may.blocks c.args.m may.next)

pub returns-then-named-ne0 : goal.returns-then-named-ne0
returns-then-named-ne0 c = λ old i wanted a p blocks next.
    reaches_next c.args.geometry.now old c.args.image.now c.args.image.now i wanted c.args.j a p blocks c.args.m c.number-named.result next
    (steps_named c.args.geometry.now c.args.image.now i wanted (c.args.j ∷ (a ∷ p)) next.reached.rest c.number-named.result
    (wanted_next c.args.geometry.now old c.args.image.now i wanted c.args.j a p blocks c.args.m next)
    (next_named c.args.geometry.now old c.args.image.now i wanted c.args.j a p blocks c.args.m next ∙ sym c.number-named.ensures) c.if-named-ne0.true)

pub put_number-requires-clause-room : goal.put_number-requires-clause-room
put_number-requires-clause-room c =
    let may = c.requires.may in
    entry_room c.args.geometry.now c.take.new.image c.args.m c.args.j c.take.ensures.fits
    (reached_zone c.args.geometry.now may.old c.args.image.now may.i may.wanted c.args.j may.a may.p may.blocks c.args.m may.next)
    (next_index c.args.geometry.now may.old c.args.image.now may.i may.wanted c.args.j may.a may.p may.blocks c.args.m may.next)

-- the number of a block in the sixth edition is below 65536
below_limit : (edition : Edition) (b : ℕ) → b < (constants edition).number_limit → edition ≡ V6 → b < 65536
below_limit V6 b h v6 = h
below_limit V7 b h v6 = absurd (cc)

pub put_number-requires-clause-range : goal.put_number-requires-clause-range
put_number-requires-clause-range c = λ v6.
    let may = c.requires.may in
    let sound = may.next.reached.extends.sound in
    below_limit c.args.geometry.now.edition c.in-Some.b
    (zone_limit c.args.geometry.now c.args.image.now c.in-Some.b sound.fits
    (taken_zoned c.args.geometry.now c.args.image.now c.take.new.image may.next.reached.rest c.in-Some.b sound
    (c.in-Some.ensures.popped may.next.reached.rest sound.free))) v6

pub returns-in-None : goal.returns-in-None
returns-in-None c = λ old i wanted a p blocks next.
    let want = wanted_next c.args.geometry.now old c.args.image.now i wanted c.args.j a p blocks c.args.m next in
    absurd (steps_out c.args.geometry.now c.args.image.now c.take.new.image i wanted (c.args.j ∷ (a ∷ p)) next.reached.rest want
    (next_named c.args.geometry.now old c.args.image.now i wanted c.args.j a p blocks c.args.m next ∙ (sym c.number-named.ensures ∙ c.if-named-ne0.false))
    (c.in-None.ensures.popped next.reached.rest want.ready.sound.free))

pub returns-in-Some : goal.returns-in-Some
returns-in-Some c = λ old i wanted a p blocks next.
    let want = wanted_next c.args.geometry.now old c.args.image.now i wanted c.args.j a p blocks c.args.m next in
    let place = want.place in
    let above = next.reached.is in
    reaches_next c.args.geometry.now old c.args.image.now c.put_number.new.image i wanted c.args.j a p blocks c.args.m c.in-Some.b next
    (steps_entry c.args.geometry.now c.args.image.now c.take.new.image c.put_number.new.image i wanted c.args.j a p next.reached.rest c.args.m c.in-Some.b want
    (next_named c.args.geometry.now old c.args.image.now i wanted c.args.j a p blocks c.args.m next ∙ (sym c.number-named.ensures ∙ c.if-named-ne0.false))
    (c.in-Some.ensures.popped next.reached.rest want.ready.sound.free) next.reached.is
    (reached_zone c.args.geometry.now old c.args.image.now i wanted c.args.j a p blocks c.args.m next)
    c.put_number.ensures.others c.put_number.ensures.put)
