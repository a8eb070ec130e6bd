use Rattle.std.proofs.Common.{◌≡◌, ◌≤◌, ◌<◌, ◌+◌, ◌∙◌, [], get_or, drop, refl, sym, ap, subst, arith}
use Rattle.std.proofs.lemmas.Bool.Decides.{nat_tests}
use Rattle.std.proofs.lemmas.List.{drop_all}
use Rattle.std.specs.Char.{digit_value}
use Rattle.line_words.proofs.DigitLemmas.{ends, number_after, reads_digit, reads_no_digit, reads_too_much, starts}
use Rattle.line_words.proofs.numbers.number_in.Goals as goal

pub digits-init : goal.digits-init
digits-init c = record {
  same = starts c.args.radix c.args.most c.args.word.now (grind (arith, nat_tests));
  below = omega arith;
}

pub returns-in_err-digit : goal.returns-in_err-digit
returns-in_err-digit c =
    c.from_residual.ensures
    ∙ sym (reads_no_digit c.args.radix c.args.most c.digits.number c.args.word.now c.digits.byte-index c.digits-test.true c.digits.invariant.same (digit_value (get_or c.args.word.now c.digits.byte-index 0)) refl
    (λ is. c.in_err-digit.ensures.value (subst (λ b. digit_value b < c.args.radix) (sym c.from.ensures) is)))

pub returns-in_err-number : goal.returns-in_err-number
returns-in_err-number c =
    let read = c.in_ok-digit.ensures.value in
    c.from_residual-in_err-number.ensures
    ∙ sym (reads_too_much c.args.radix c.args.most c.digits.number c.args.word.now c.digits.byte-index c.digits-test.true c.digits.invariant.same c.in_ok-digit.digit (read.1 ∙ ap digit_value c.from.ensures)
    (omega (arith, c.requires.least)) (subst (λ n. n < c.args.radix) (sym read.1) read.0) c.in_err-number.ensures)

pub digits-preserved : goal.digits-preserved
digits-preserved c =
    let read = c.in_ok-digit.ensures.value in
    let more = c.in_ok-number.ensures in record {
      same =
          reads_digit c.args.radix c.args.most c.digits.number c.args.word.now c.digits.byte-index c.digits-test.true c.digits.invariant.same c.in_ok-digit.digit (read.1 ∙ ap digit_value c.from.ensures)
          (subst (λ n. n < c.args.radix) (sym read.1) read.0)
          ∙ ap (λ n. number_after c.args.radix c.args.most n (drop (c.digits.byte-index + 1) c.args.word.now)) (sym more.1);
      below = subst (λ n. n ≤ c.args.most) (sym more.1) more.0;
    }

pub returns : goal.returns
returns c =
    let all : drop c.digits.byte-index c.args.word.now ≡ [] = drop_all _ _ c.digits-test.false in
    sym (c.digits.invariant.same ∙ ap (number_after c.args.radix c.args.most c.digits.number) all ∙ ends c.args.radix c.args.most c.digits.number c.digits.invariant.below)
