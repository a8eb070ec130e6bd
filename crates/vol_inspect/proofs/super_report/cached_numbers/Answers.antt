use Rattle.std.proofs.Common.{◌≡◌, ℕ, List, ◌+◌, ◌*◌, ◌++◌, ◌∷◌, [], ap, sym, arith, ◌∙◌, map}
use Rattle.std.specs.List.{range_with_len}
use Rattle.std.proofs.lemmas.List.FromFn.{map-range_with_len_more}
use Rattle.pdp_words.specs.Words.{word}
use Rattle.vol_layout.specs.Super.{cache_head}
use Rattle.vol_inspect.specs.Inspect.{cached_numbers, used}
use Rattle.vol_inspect.proofs.super_report.cached_numbers.Goals as goal

pub loop-k-preserved : goal.loop-k-preserved
loop-k-preserved c =
    let f = λ (k : ℕ). word c.args.image.now (cache_head c.args.edition + 2 + 2 * k) in
    ◌∙◌ {A = List ℕ} c.in_ok-push.ensures.items
    (ap (λ xs. xs ++ c.cached.result ∷ []) c.loop-k.invariant
    ∙ (ap (λ x. map f (range_with_len 0 c.loop-k.k) ++ x ∷ []) c.cached.ensures
    ∙ sym (map-range_with_len_more f 0 c.loop-k.k c.loop-k.k (omega arith))))

pub returns : goal.returns
unfolding cached_numbers
returns c =
    let end : c.loop-k.k ≡ c.used-count.result = omega arith in
    c.loop-k.invariant
    ∙ ap (λ n. map (λ k. word c.args.image.now (cache_head c.args.edition + 2 + 2 * k)) (range_with_len 0 n)) (end ∙ (c.used-count.ensures.value ∙ ap (λ n. used n 100) c.cache_count.ensures))
