use Rattle.std.proofs.Common.{rules, subst, arith}
use Rattle.vol_resize.specs.Resized.{IsLeastSize}
use Rattle.vol_resize.proofs.Marks.{least_size, named_more, sound_apart, sound_zoned}
use Rattle.vol_resize.proofs.resized_volume.used_for.Goals as goal

pub named_blocks-requires-clause-zoned : goal.named_blocks-requires-clause-zoned
named_blocks-requires-clause-zoned c =
    sound_zoned c.args.edition c.args.image.now c.in-Ok-examined.examined.geometry
    (rw c.in-Ok-examined.is at c.in-Ok.ensures.sizes) (rw c.in-Ok-examined.is at c.in-Ok.ensures.judged)

pub named_blocks-requires-clause-apart : goal.named_blocks-requires-clause-apart
named_blocks-requires-clause-apart c =
    sound_apart c.args.edition c.args.image.now c.in-Ok-examined.examined.geometry
    (rw c.in-Ok-examined.is at c.in-Ok.ensures.sizes) (rw c.in-Ok-examined.is at c.in-Ok.ensures.judged)

pub returns-then-blocks-least-clause-fault : goal.returns-then-blocks-least-clause-fault
returns-then-blocks-least-clause-fault c =
    let geometry = c.in-Ok-examined.examined.geometry in
    let same = rw c.in-Ok-examined.is at c.in-Ok.ensures.sizes in
    let sound = rw c.in-Ok-examined.is at c.in-Ok.ensures.judged in
    let named = c.in-Ok-named_blocks.ensures.named in
    let least = rw c.deref.ensures.value at c.least_blocks-least.ensures in
    let limit = rw c.constants.ensures at c.if-blocks-constants.false in (
      omega (arith, limit),
      sound,
      subst (λ g. IsLeastSize g c.args.image.now c.least_blocks-least.result) same
          (least_size geometry c.args.image.now c.in-Ok-named_blocks.used.items c.least_blocks-least.result
          (sound_zoned c.args.edition c.args.image.now geometry same sound) named least),
      c.if-blocks-least.true,
    )

pub returns-clause-used : goal.returns-clause-used
returns-clause-used c =
    let geometry = c.in-Ok-examined.examined.geometry in
    let same = rw c.in-Ok-examined.is at c.in-Ok.ensures.sizes in
    let sound = rw c.in-Ok-examined.is at c.in-Ok.ensures.judged in
    let least = rw c.deref.ensures.value at c.least_blocks-least.ensures in
    let few = c.if-blocks-least.false in
    record {
      limit = search rules;
      sound = sound;
      same = same;
      fits = rw c.in-Ok-examined.is at c.in-Ok.ensures.fits;
      zone = omega (arith, least.zone, few);
      count = search rules;
      named = named_more geometry c.args.image.now c.in-Ok-named_blocks.used.items c.resize.new.self.items c.args.blocks c.least_blocks-least.result
          (sound_zoned c.args.edition c.args.image.now geometry same sound) c.in-Ok-named_blocks.ensures.named least (omega (arith, few)) (search rules)
          (λ k d low inside. c.resize.ensures.by_index.0 k d low (search rules)) (λ k d past low. c.resize.ensures.by_index.1 k d (search rules) (search rules) low);
    }
