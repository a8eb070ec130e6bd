use Rattle.vol_volume.proofs.Refusals.{verdict_other, query_other}
use Rattle.vol_volume.proofs.laws.no_verdict_is_want_of_memory.Goals as goal

pub returns-clause-calls : goal.returns-clause-calls
returns-clause-calls c = verdict_other

pub returns-clause-queries : goal.returns-clause-queries
returns-clause-queries c = query_other
