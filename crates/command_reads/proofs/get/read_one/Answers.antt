use Rattle.std.proofs.lemmas.Result.{err_from_is_err_and}
use Rattle.command_reads.proofs.Got.{refused_file}
use Rattle.command_reads.proofs.get.read_one.Goals as goal

pub returns-in_err-stat-clause-fault : goal.returns-in_err-stat-clause-fault
returns-in_err-stat-clause-fault c =
    let p = err_from_is_err_and c.from_residual.result c.from_residual.ensures.1 in
    rw (p.1, p.2) (refused_file _ _ _ c.in_err-stat.ensures.fault)
