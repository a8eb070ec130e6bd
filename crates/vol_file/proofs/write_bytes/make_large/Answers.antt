use Rattle.std.proofs.Common.{◌≡◌, ◌≤◌, true, ◌∷◌, ap, sym, subst, ◌∙◌, arith}
use Rattle.vol_layout.specs.Inode.{kind_of, is_large, with_large}
use Rattle.vol_layout.specs.BlockPointers.{mode_of}
use Rattle.vol_layout.specs.declared.edition.Edition.TheVariants.{V6}
use Rattle.vol_layout.proofs.BodyLaws.{zone_room}
use Rattle.vol_file.specs.Rules.{Rules3To7With}
use Rattle.vol_file.specs.Steps.{Enlarges}
use Rattle.vol_file.proofs.ReachedPlaces.{pops_some, taken_zoned, zone_limit}
use Rattle.vol_file.proofs.LargeFiles.{enlarges}
use Rattle.vol_file.proofs.EnlargedFiles.{moves, large_kind}
use Rattle.vol_file.proofs.write_bytes.make_large.Goals as goal

pub copy_addresses-requires-clause-room : goal.copy_addresses-requires-clause-room
copy_addresses-requires-clause-room c =
    let may = c.requires.may in
    let zone = taken_zoned c.args.geometry.now c.args.image.now c.take.new.image may.blocks c.in-Some.b may.sound (c.in-Some.ensures.popped may.blocks may.sound.free) in
    omega (arith, zone_room c.args.geometry.now c.take.new.image c.in-Some.b c.take.ensures.fits zone)

pub put_address-requires-clause-range : goal.put_address-requires-clause-range
put_address-requires-clause-range c =
    let may = c.requires.may in
    zone_limit c.args.geometry.now c.args.image.now c.in-Some.b may.sound.fits
    (taken_zoned c.args.geometry.now c.args.image.now c.take.new.image may.blocks c.in-Some.b may.sound (c.in-Some.ensures.popped may.blocks may.sound.free))

pub returns-in-Some : goal.returns-in-Some
returns-in-Some c = λ blocks sound some.
    let geometry = c.args.geometry.now in
    let first = pops_some geometry c.args.image.now c.take.new.image blocks c.in-Some.b (c.in-Some.ensures.popped blocks sound.free) in
    let sound_first : Rules3To7With geometry c.args.image.now (c.in-Some.b ∷ first.rest) = subst (Rules3To7With geometry c.args.image.now) first.is sound in
    let bits : mode_of geometry c.put_mode.new.image c.args.i ≡ c.with_large-large.result.bits = c.put_mode.ensures.put in
    let was : c.with_large-large.result.bits ≡ with_large (mode_of geometry c.args.image.now c.args.i) true =
    c.with_large-large.ensures.bits ∙ ap (λ m. with_large m true) c.mode.ensures in
    subst (Enlarges geometry c.args.image.now c.put_mode.new.image c.args.i) (sym first.is)
    (enlarges geometry c.args.image.now c.put_mode.new.image c.args.i c.in-Some.b first.rest sound_first c.requires.may.file
    (moves geometry c.args.image.now c.take.new.image c.copy_addresses.new.image c.clear_addresses.new.image c.put_address.new.image c.put_mode.new.image
    c.args.i c.in-Some.b first.rest sound_first c.requires.may.file c.requires.form (record {
      popped = first.popped;
      copied = c.copy_addresses.ensures.copied;
      copy = c.copy_addresses.ensures.others;
      zero = c.clear_addresses.ensures.zero;
      clear = c.clear_addresses.ensures.others;
      first = c.put_address.ensures.put;
      put = c.put_address.ensures.others;
      mode = bits ∙ was;
      kind = large_kind geometry c.args.image.now c.put_mode.new.image c.args.i c.with_large-large.result.bits c.requires.form c.requires.may.file bits
          (λ high. c.with_large-large.ensures.kind (subst (λ m. 32768 ≤ m) (sym c.mode.ensures) high) ∙ ap (kind_of V6) c.mode.ensures);
      flag = ap (is_large V6) bits ∙ c.with_large-large.ensures.large;
      last = c.put_mode.ensures.others;
    })))
