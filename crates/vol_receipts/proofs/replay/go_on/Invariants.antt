use Rattle.vol_receipts.specs.Replay.{HasFirst}
use Rattle.vol_receipts.proofs.replay.go_on.Given as goal

abbrev pub invariant-loop-k : goal.invariant-loop-k
invariant-loop-k l = HasFirst l.volume l.made l.k
