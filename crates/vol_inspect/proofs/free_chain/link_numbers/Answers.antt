use Rattle.std.proofs.Common.{◌≡◌, ℕ, List, ◌+◌, ◌++◌, ◌∷◌, [], ap, sym, arith, ◌∙◌, map}
use Rattle.std.specs.List.{range_with_len}
use Rattle.std.proofs.lemmas.List.FromFn.{map-range_with_len_more}
use Rattle.pdp_words.specs.Words.{word}
use Rattle.vol_layout.specs.Edition.{number}
use Rattle.vol_layout.specs.declared.edition.Constants.{Constants}
use Rattle.vol_inspect.specs.Inspect.{link_numbers, used}
use Rattle.vol_inspect.proofs.free_chain.link_numbers.Goals as goal

pub loop-k-preserved : goal.loop-k-preserved
loop-k-preserved c =
    let f = λ (k : ℕ). number c.args.edition c.args.image.now (c.args.head + 2) k in
    ◌∙◌ {A = List ℕ} c.in_ok-push.ensures.items
    (ap (λ xs. xs ++ c.number.result ∷ []) c.loop-k.invariant
    ∙ (ap (λ x. map f (range_with_len 0 c.loop-k.k) ++ x ∷ []) c.number.ensures
    ∙ sym (map-range_with_len_more f 0 c.loop-k.k c.loop-k.k (omega arith))))

pub returns : goal.returns
unfolding link_numbers
returns c =
    let end : c.loop-k.k ≡ c.used-count.result = omega arith in
    c.loop-k.invariant
    ∙ ap (λ n. map (λ k. number c.args.edition c.args.image.now (c.args.head + 2) k) (range_with_len 0 n)) (end ∙ (c.used-count.ensures.value
    ∙ (ap (λ n. used n c.constants.result.free_slots) c.word.ensures
    ∙ ap (λ (k : Constants). used (word c.args.image.now c.args.head) k.free_slots) c.constants.ensures)))
