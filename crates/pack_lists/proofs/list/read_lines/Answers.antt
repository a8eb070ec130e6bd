use Rattle.std.proofs.Common.{◌∙◌, ap, arith, refl}
use Rattle.line_words.proofs.PieceLemmas.{space, space_split}
use Rattle.pack_lists.proofs.Lemmas.{line_fails, line_read, no_line}
use Rattle.pack_lists.proofs.list.read_lines.Goals as goal

pub lines-init : goal.lines-init
lines-init c = record {
  same = rw (c.new-draft.ensures, c.of-lines.ensures) refl;
  within = let all = ap space c.of-lines.ensures ∙ space_split _ c.args.text.now in omega (arith, all);
}

pub returns-in-Err-clause-fault : goal.returns-in-Err-clause-fault
returns-in-Err-clause-fault c = λ other.
    c.lines.invariant.same ∙ line_fails _ _ _ _ _ _ _ c.in-Some.ensures c.in_line.ensures c.in-Err.ensures.fault other

pub lines-preserved : goal.lines-preserved
lines-preserved c = record {
  same = c.lines.invariant.same ∙ line_read _ _ _ _ _ _ c.in-Some.ensures c.in_default-take_line.ensures.ok;
  within = let was = c.lines.invariant.within in let taken = ap space c.in-Some.ensures in omega (arith, was, taken);
}

pub returns-clause-ok : goal.returns-clause-ok
returns-clause-ok c = c.lines.invariant.same ∙ no_line _ _ _ c.in_default.ensures.0
