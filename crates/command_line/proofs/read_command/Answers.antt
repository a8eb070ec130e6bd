use Rattle.std.proofs.Common.{inr}
use Rattle.command_line.specs.CommandLine.{words_of}
use Rattle.command_line.proofs.ReadWords.{told_nothing}
use Rattle.command_line.proofs.read_command.Goals as goal

pub returns-in_ok-told-in-Err-clause-refused : goal.returns-in_ok-told-in-Err-clause-refused
returns-in_ok-told-in-Err-clause-refused c = inr (
  c.in_ok-told-in-Err.ensures.kind,
  told_nothing c.args.clock (words_of c.args.values.now) c.args.name.now c.in-Some.verb c.in-Err.fault c.in-Some.ensures.some c.in-Err.ensures.refused
      c.in_ok-told-in-Err.ensures.wrong,
)
