use Rattle.std.proofs.Common.{List, length, ap, arith}
use Rattle.vol_free.proofs.Stacks.{limit_below}
use Rattle.vol_inspect.specs.declared.uses.Use.{Use}
use Rattle.command_reads.proofs.KnownUses.{known_count}
use Rattle.command_reads.proofs.bad_uses.known_runs.Goals as goal

pub runs-requires : goal.runs-requires
runs-requires c =
    omega (
      arith,
      ap (λ (us : List Use). length us) c.deref.ensures.value,
      ap (λ (us : List Use). length us) c.in_ok-uses.ensures,
      known_count c.args.geometry.now c.args.image.now c.args.lost.now,
      limit_below c.requires,
    )
