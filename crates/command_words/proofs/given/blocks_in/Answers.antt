-- A word that isn't a number of blocks isn't valid.
use Rattle.std.proofs.Common.{ℕ, codes, subst, sym}
use Rattle.command_words.specs.Invocations.{the_word}
use Rattle.command_words.specs.Disks.{AreBlocksOf}
use Rattle.command_words.proofs.Moments.{refused}
use Rattle.command_words.proofs.given.blocks_in.Goals as goal

pub returns-clause-refused : goal.returns-clause-refused
returns-clause-refused g c =
    let word = the_word (g.G.Given.words c.args.given.now) (codes "FSIZE") in
    refused (((blocks : ℕ) × AreBlocksOf word blocks) → ⊥) c.blocks_of.result c.ok_or.result c.wrong.result c.ok_or.ensures.value
    (λ none are. c.blocks_of.ensures.none none are.0 (subst (λ text. AreBlocksOf text are.0) (sym c.text_in-text.ensures) are.1))
