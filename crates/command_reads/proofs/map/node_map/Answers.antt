use Rattle.std.proofs.Common.{List, Option, length, ap, arith}
use Rattle.vol_free.proofs.Stacks.{limit_below}
use Rattle.vol_inspect.specs.declared.uses.Use.{Use}
use Rattle.command_reads.proofs.Mapped.{shown_count}
use Rattle.command_reads.proofs.map.node_map.Goals as goal

pub picture_of-requires-clause-some : goal.picture_of-requires-clause-some
picture_of-requires-clause-some c =
    omega (
      arith,
      ap (λ (bs : List (Option Use)). length bs) c.deref.ensures.value,
      ap (λ (bs : List (Option Use)). length bs) c.in_ok-blocks.ensures,
      shown_count c.args.geometry.now c.args.image.now c.args.node,
      c.requires.fits.zone,
      c.requires.fits.i_list,
    )

pub picture_of-requires-clause-few : goal.picture_of-requires-clause-few
picture_of-requires-clause-few c =
    omega (
      arith,
      ap (λ (bs : List (Option Use)). length bs) c.deref.ensures.value,
      ap (λ (bs : List (Option Use)). length bs) c.in_ok-blocks.ensures,
      shown_count c.args.geometry.now c.args.image.now c.args.node,
      limit_below c.requires.fits,
    )
