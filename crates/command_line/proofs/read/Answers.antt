use Rattle.std.proofs.Common.{inl, inr, rules}
use Rattle.command_line.proofs.ReadWords.{asks_nothing, handed_on, memory_ran_out, met_by, reads, refuses, takes, tells, tells_of}
use Rattle.command_line.proofs.read.Goals as goal

pub returns-in_err-command-clause-refused : goal.returns-in_err-command-clause-refused
returns-in_err-command-clause-refused c =
    memory_ran_out c.args.clock _ c.new.result.editions _ c.new.ensures c.from_residual.ensures.1

pub returns-in_err-matches-clause-refused : goal.returns-in_err-matches-clause-refused
returns-in_err-matches-clause-refused c =
    handed_on _ _ _ c.from_residual-in_err-matches.ensures.1
    (refuses c.args.clock c.new.result.editions _ _ c.new.ensures (tells _ _ _ c.in_err-matches.field-0.0 c.in_ok-command.ensures c.in_err-matches.ensures.kinds))

pub returns-in_err-invocation-clause-refused : goal.returns-in_err-invocation-clause-refused
returns-in_err-invocation-clause-refused c =
    handed_on _ _ _ c.from_residual-in_err-invocation.ensures.1
    (tells_of c.args.clock c.new.result.editions _ _ _ c.new.ensures (takes _ _ _ c.in_ok-command.ensures c.in_ok-matches.ensures.kinds)
    (met_by _ _ _ _ c.in_ok-command.ensures c.in_ok-matches.ensures.ok.2) c.in_err-invocation.ensures.refused)

pub returns-in-Some-clause-read : goal.returns-in-Some-clause-read
returns-in-Some-clause-read c =
    reads c.args.clock c.new.result.editions _ _ _ c.new.ensures (takes _ _ _ c.in_ok-command.ensures c.in_ok-matches.ensures.kinds)
    (met_by _ _ _ _ c.in_ok-command.ensures c.in_ok-matches.ensures.ok.2) (search rules)

pub returns-in_err-error-in-None-clause-refused : goal.returns-in_err-error-in-None-clause-refused
returns-in_err-error-in-None-clause-refused c =
    memory_ran_out c.args.clock _ c.new.result.editions _ c.new.ensures c.from_residual-in_err-error-in-None.ensures.1

pub returns-clause-refused : goal.returns-clause-refused
returns-clause-refused c =
    asks_nothing c.args.clock c.new.result.editions _ _ _ c.new.ensures (takes _ _ _ c.in_ok-command.ensures c.in_ok-matches.ensures.kinds)
    (met_by _ _ _ _ c.in_ok-command.ensures c.in_ok-matches.ensures.ok.2) (inr (inr (inl c.in_ok-error-in-None.ensures.kind)))
    (c.in_ok-invocation.ensures.missing c.in-None.is)
