use Rattle.std.proofs.Common.{rules}
use Rattle.command_words.proofs.FileWords.{all_files, files_before, none_told}
use Rattle.command_words.proofs.Moments.{tells}
use Rattle.command_words.proofs.several.with_moment.Goals as goal

pub returns-in-Some-clock-clause-read : goal.returns-in-Some-clock-clause-read
returns-in-Some-clock-clause-read c =
    all_files c.args.clock c.deref.result.now c.args.words.items c.in-Some-clock.seconds (search rules) (c.moment_after.ensures.none c.in-None.is) c.in-Some-clock.is

pub returns-clause-refused : goal.returns-clause-refused
returns-clause-refused c =
    tells _ c.missing.result
    (none_told c.args.clock c.deref.result.now c.args.words.items (search rules) (c.moment_after.ensures.none c.in-None.is) c.in-None-clock.is)

pub returns-in-Some-clause-read : goal.returns-in-Some-clause-read
returns-in-Some-clause-read c =
    files_before c.args.clock c.deref.result.now c.args.words.items c.pop-word.new.self.items c.in-Some.seconds c.args.words.len c.pop-word.result (search rules)
    (search rules) c.in-Some.ensures.some c.pop-word.ensures.rest c.pop-word.ensures.value
