-- A byte of the name isn't the slot's.
use Rattle.std.proofs.Common.{◌-◌, arith}
use Rattle.vol_dir.proofs.OtherNames.{other_name}
use Rattle.vol_dir.proofs.entries.is_other.Goals as goal

pub returns-then-bytes-at : goal.returns-then-bytes-at
returns-then-bytes-at c = λ is.
    other_name c.args.bytes.now c.args.name.now c.args.at (c.loop-k.k - 1) (omega (arith, c.loop-k.auto.k, c.loop-k-test.true, c.min-k.ensures))
    (omega (arith, c.loop-k.auto.k, c.loop-k-test.true, c.min-k.ensures)) c.if-bytes-at.true
