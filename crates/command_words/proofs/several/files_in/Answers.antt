use Rattle.std.proofs.Common.{rules}
use Rattle.command_words.proofs.Faults.{hands_on}
use Rattle.command_words.proofs.FileWords.{found_given, none_after, none_apart, none_found}
use Rattle.command_words.proofs.several.files_in.Goals as goal

pub returns-in_err-found-clause-refused : goal.returns-in_err-found-clause-refused
returns-in_err-found-clause-refused g c =
    hands_on _ _ _ _ c.from_residual-in_err-found.ensures.1 c.in_err-found.ensures.refused (none_after c.args.clock _ _ c.in_ok-words.ensures)

pub returns-in_err-one_or_more-clause-refused : goal.returns-in_err-one_or_more-clause-refused
returns-in_err-one_or_more-clause-refused g c =
    hands_on _ _ _ _ c.from_residual-in_err-one_or_more.ensures.1 c.in_err-one_or_more.ensures.refused
    (none_found c.args.clock _ _ c.in_ok-found.found.files.items c.deref.result.now c.in_ok-found.found.now.seconds _ c.in_ok-words.ensures (search rules) c.in_ok-found.ensures.read)

pub returns-in_err-apart-clause-refused : goal.returns-in_err-apart-clause-refused
returns-in_err-apart-clause-refused g c =
    hands_on _ _ _ _ c.from_residual-in_err-apart.ensures.1 c.in_err-apart.ensures.refused
    (none_apart c.args.clock _ _ c.in_ok-found.found.files.items c.deref-2.result.now c.in_ok-found.found.now.seconds _ c.in_ok-words.ensures (search rules) c.in_ok-found.ensures.read)

pub returns-clause-read : goal.returns-clause-read
returns-clause-read g c =
    found_given c.args.clock _ _ c.in_ok-found.found.files.items c.deref.result.now c.deref-2.result.now c.in_ok-found.found.now.seconds _ c.in_ok-words.ensures (search rules)
    (search rules) c.in_ok-found.ensures.read c.in_ok-one_or_more.ensures.some c.in_ok-apart.ensures.apart
