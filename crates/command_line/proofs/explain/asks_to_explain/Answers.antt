use Rattle.std.specs.String.{string_bytes}
use Rattle.command_line.proofs.SecondLines.{nothing}
use Rattle.command_line.proofs.explain.asks_to_explain.Goals as goal

pub returns-in-None : goal.returns-in-None
returns-in-None c = nothing string_bytes c.args.words.now c.in-None.ensures.cases
