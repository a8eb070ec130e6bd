use Rattle.std.proofs.Common.{subst, sym}
use Rattle.command_reads.proofs.Got.{IsStat, answer_stat}
use Rattle.command_reads.proofs.get.read_stat.Goals as goal

pub unreachable-requires : goal.unreachable-requires
unreachable-requires c = subst IsStat c.in-Ok-Names.field-0-is (answer_stat _ _ _ _ c.in_ok-query.ensures (sym c.in-Ok-Names.ensures))

pub unreachable-requires-in-Ok-Bytes : goal.unreachable-requires-in-Ok-Bytes
unreachable-requires-in-Ok-Bytes c = subst IsStat c.in-Ok-Bytes.field-0-is (answer_stat _ _ _ _ c.in_ok-query.ensures (sym c.in-Ok-Bytes.ensures))
