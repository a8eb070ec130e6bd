use Rattle.std.proofs.Common.{sym}
use Rattle.command_line.proofs.ReadWords.{asked, missed, none_met, refused}
use Rattle.command_line.proofs.read_matches.Goals as goal

pub returns-in-Some-clause-read : goal.returns-in-Some-clause-read
returns-in-Some-clause-read c = asked c.args.clock _ _ _ _ c.in-Some.ensures.name c.in-Some.ensures.rows c.read_command.ensures.read

pub returns-in-Some-clause-missing : goal.returns-in-Some-clause-missing
returns-in-Some-clause-missing c = missed c.args.clock _ _ _ _ c.in-Some.ensures.name c.in-Some.ensures.rows c.read_command.ensures.missing

pub returns-in-Some-clause-refused : goal.returns-in-Some-clause-refused
returns-in-Some-clause-refused c = refused c.args.clock _ _ _ _ c.in-Some.ensures.name c.in-Some.ensures.rows c.read_command.ensures.refused

pub returns-in-None-clause-missing : goal.returns-in-None-clause-missing
returns-in-None-clause-missing c = λ _. none_met c.args.clock _ (sym c.in-None.ensures.variant)
