use Rattle.std.proofs.Common.{◌∙◌}
use Rattle.command_line.proofs.FoundWords.{first_word}
use Rattle.command_line.proofs.clap_words.ClapWordsGiven.first.Goals as goal

pub returns : goal.returns
returns c = c.get_str.ensures ∙ first_word c.args.self.now.values.now c.args.name.now
