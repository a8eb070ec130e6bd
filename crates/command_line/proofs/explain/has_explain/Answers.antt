use Rattle.std.proofs.Common.{◌∙◌, sym}
use Rattle.std.specs.String.{string_bytes}
use Rattle.command_line.proofs.SecondLines.{asked, ended, passed, stopped}
use Rattle.command_line.proofs.explain.has_explain.Goals as goal

pub returns-then-eq : goal.returns-then-eq
returns-then-eq c =
    stopped string_bytes c.args.words.now c.loop-word.word-index c.word-item.result c.as_str-word.result.now c.loop-word-test.true c.word-item.is
    c.as_str-word.ensures.value (sym c.eq.ensures ∙ c.if-eq.true) c.loop-word.invariant

pub returns-then-eq-2 : goal.returns-then-eq-2
returns-then-eq-2 c =
    asked string_bytes c.args.words.now c.loop-word.word-index c.word-item.result c.as_str-word.result.now c.loop-word-test.true c.word-item.is
    c.as_str-word.ensures.value (sym c.eq.ensures ∙ c.if-eq.false) (sym c.eq-in-loop-word.ensures ∙ c.if-eq-2.true) c.loop-word.invariant

pub loop-word-preserved : goal.loop-word-preserved
loop-word-preserved c =
    passed string_bytes c.args.words.now c.loop-word.word-index c.word-item.result c.as_str-word.result.now c.loop-word-test.true c.word-item.is
    c.as_str-word.ensures.value (sym c.eq.ensures ∙ c.if-eq.false) (sym c.eq-in-loop-word.ensures ∙ c.if-eq-2.false) c.loop-word.invariant

pub returns : goal.returns
returns c = ended string_bytes c.args.words.now c.loop-word.word-index c.loop-word-test.false c.loop-word.invariant
