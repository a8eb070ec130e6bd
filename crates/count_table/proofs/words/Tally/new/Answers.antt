use Rattle.std.proofs.Common.{◌+◌, length, sym, ap, ◌∙◌, subst}
use Rattle.count_table.specs.Rule.{IsStart}
use Rattle.count_table.proofs.Steps.{opens}
use Rattle.count_table.proofs.words.Tally.new.Goals as goal

pub of_words-requires : goal.of_words-requires
of_words-requires c =
    let start = subst (IsStart c.args.shape) (sym c.deref.ensures.value) (c.in_ok-words.ensures) in
    opens c.args.shape c.deref.result.now c.requires.pieces start

pub invariant_of-result : goal.invariant_of-result
invariant_of-result c =
    let told = c.in_ok-table.ensures in
    let start = c.in_ok-words.ensures in
    record {
      wide = told.0 ∙ (ap length c.deref.ensures.value ∙ (start.wide ∙ ap (λ k. 1 + (k.counts + k.leasts)) (sym told.5)));
      bare = told.1;
    }
