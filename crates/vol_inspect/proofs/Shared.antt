-- The blocks that belong to files more than once, from the counts.
use Rattle.std.proofs.Common.{◌≡◌, ℕ, ◌+◌, ◌-◌, ◌*◌, ◌<◌, ◌≤◌, ◌∙◌, ap, sym, min, Bool, cond, nat_lt, List, [], ◌∷◌, ◌++◌, map, refl, arith}
use Rattle.std.specs.List.{filter, range_with_len}
use Rattle.std.proofs.lemmas.Bool.Decides.{nat_tests}
use Rattle.std.proofs.lemmas.List.FromFn.{filter_of_map_range_with_len_more}
use Rattle.vol_layout.specs.Geometry.{Fits}
use Rattle.vol_layout.specs.declared.geometry.Geometry.{Geometry}
use Rattle.vol_layout.specs.declared.mode.Kind.TheVariants as kinds
use Rattle.vol_reports.specs.Icheck.{use_count}
use Rattle.vol_inspect.specs.PlaceCounts.{CountsKind}
use Rattle.vol_inspect.specs.SharedBlocks.{is_counted_twice, is_shared}
use Rattle.vol_inspect.specs.Uses.{named_in}
use Rattle.vol_inspect.proofs.UseLaws.{zone_within, named_is}

map_same : (xs : List ℕ) → map (λ n. n) xs ≡ xs
map_same [] = refl
map_same (x ∷ xs) = ap (λ ys. x ∷ ys) (map_same xs)

-- filtering a range of one more number appends it if it passes
pub kept_more : (p : ℕ → Bool) (a b : ℕ) → a ≤ b
    → filter p (range_with_len a (b + 1 - a)) ≡ filter p (range_with_len a (b - a)) ++ cond (p b) (b ∷ []) []
kept_more p a b from =
    let more : b + 1 - a ≡ b - a + 1 = omega arith in
    ap (λ n. filter p (range_with_len a n)) more
    ∙ (ap (filter p) (sym (map_same (range_with_len a (b - a + 1))))
    ∙ (filter_of_map_range_with_len_more p (λ n. n) a (b - a) b (omega arith)
    ∙ ap (λ xs. filter p xs ++ cond (p b) (b ∷ []) []) (map_same (range_with_len a (b - a)))))

-- two numbers that are equal up to two are both above 1, or both not
above_one : (n u : ℕ) → min 2 n ≡ min 2 u → nat_lt 1 n ≡ nat_lt 1 u
above_one n u same = grind (arith, nat_tests)

-- a data block is counted twice if and only if two block-map positions point to it
pub counted_is : (g : Geometry) (image directories files : List ℕ) (b : ℕ) → Fits g image → g.zone_start ≤ b → b < g.zone_end
    → CountsKind g image kinds.Directory directories → CountsKind g image kinds.Regular files
    → is_counted_twice directories files b ≡ is_shared g image b
counted_is g image directories files b fits from to ds fs =
    above_one (named_in directories (4 * b) + named_in files (4 * b)) (use_count g image b)
    (named_is g image directories files b fits (zone_within g b from to) ds fs)

-- filtering a range of one more number appends it if `test`, the result for this number, is true
pub kept_next : (p : ℕ → Bool) (a b : ℕ) (kept new : List ℕ) (test : Bool) → a ≤ b → p b ≡ test → kept ≡ filter p (range_with_len a (b - a))
    → new ≡ kept ++ cond test (b ∷ []) [] → new ≡ filter p (range_with_len a (b + 1 - a))
kept_next p a b kept new test from is was more =
    more
    ∙ (ap (λ xs. xs ++ cond test (b ∷ []) []) was
    ∙ (ap (λ t. filter p (range_with_len a (b - a)) ++ cond t (b ∷ []) []) (sym is) ∙ sym (kept_more p a b from)))
