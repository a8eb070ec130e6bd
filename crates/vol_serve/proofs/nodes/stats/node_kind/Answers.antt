use Rattle.std.proofs.Common.{arith}
use Rattle.vol_serve.proofs.HeldNodes.{none_zero, none_above, held}
use Rattle.vol_serve.proofs.nodes.stats.node_kind.Goals as goal
use Rattle.vol_serve.proofs.nodes.stats.node_kind.Goals.{then-i-eq0-via-then-i-eq0, then-i-eq0-via-else-i-eq0+then-i-geometry}

pub returns-then-i-eq0 : goal.returns-then-i-eq0
returns-then-i-eq0 c = elim c.then-i-eq0.branch [
  | then-i-eq0-via-then-i-eq0 w ↦ none_zero c.args.geometry.now c.args.image.now c.args.i (omega (arith, w.if-i-eq0.true))
  | then-i-eq0-via-else-i-eq0+then-i-geometry w ↦ none_above c.args.geometry.now c.args.image.now c.args.i (omega (arith, w.if-i-geometry.true))
]

pub returns-in_default : goal.returns-in_default
returns-in_default c =
    held c.args.geometry.now c.args.image.now c.args.i c.kind.result (omega (arith, c.if-i-eq0.false)) (omega (arith, c.if-i-geometry.false)) c.kind.ensures
    c.in_default.not-Free c.in_default.not-Odd
