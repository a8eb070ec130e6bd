-- Laws of the number of missing blocks: counted over all positions in the block map it is the same as counted block by block.
use Rattle.std.proofs.Common.{◌≡◌, ℕ, zero, suc, ◌+◌, ◌-◌, ◌*◌, ◌/◌, ◌%◌, ◌<◌, ◌≤◌, ◌==◌, ◌⊎◌, ◌∙◌, sym, ap, subst, List, [], ◌∷◌, length, slice_index, true, false, Bool, not, ◌&&◌, ◌||◌, cond, if◌then◌else◌, Some, None, refl, arith, inl, inr}
use Rattle.std.specs.List.{count_by, list_any, range_with_len}
use Rattle.std.specs.Option.{option_map_or}
use Rattle.std.specs.Str.{bytes_eq}
use Rattle.std.proofs.lemmas.Bool.{cases_lt, and_parts, or_parts}
use Rattle.std.proofs.lemmas.Bool.Decides.{nat_tests, same_from_decides, Decides-like, Decides-eqb}
use Rattle.std.proofs.lemmas.List.Sums.{sum_by-cons}
use Rattle.std.proofs.lemmas.Slice.Eq.{bytes_eq-Decides}
use Rattle.std.specs.Prelude.{nat_le, nat_lt}
use Rattle.std.proofs.Math.Bool.{or-false, or_assoc}
use Rattle.vol_layout.specs.BlockMaps.{pointer_count, levels, levels_below, IsPlace, block_limit, last_place, place_to, fronts, way, places}
use Rattle.vol_layout.specs.Laws.{IsFront}
use Rattle.vol_layout.specs.declared.block_map.BlockMap.{BlockMap}
use Rattle.vol_layout.specs.declared.block_map.BlockMap.TheVariants.{Small, Large, Deep, Bare}
use Rattle.vol_layout.proofs.PlaceLaws.{last_leaf, has_no_way}
use Rattle.vol_file.specs.Shape.{touched, is_on_ways, moved_down, grows_large}
use Rattle.vol_file.specs.Need.{missing_count, need_of}
use Rattle.vol_file.specs.MissingBlocks.{missing_to, missing_at, missing_from, grown_form, grown_names, grows_at}
use Rattle.vol_file.proofs.PlaceLists.{bytes_same, same_bytes, first_or_later, count_same, count_none, places_once}
use Rattle.vol_file.proofs.Fronts.{front_length}
use Rattle.vol_layout.proofs.LastPlaces.{last_small, last_large, last_huge, last_direct, last_single, last_double, last_triple}

-- 1 if true, else 0
abbrev pub one_if : Bool → ℕ
one_if t = cond t 1 0

-- the count for a list with one more item
counted_step : (t : List ℕ → Bool) (q : List ℕ) (qs : List (List ℕ)) → count_by t (q ∷ qs) ≡ one_if (t q) + count_by t qs
counted_step t q qs = sum_by-cons (λ x. cond (t x) 1 0) q qs

-- if at most one of two conditions is true, the count for either is the sum of both counts
ones : (x y : Bool) → (x ≡ true → y ≡ false) → one_if (x || y) ≡ one_if x + one_if y
ones true true h = let no : true ≡ false = h refl in cc
ones true false h = refl
ones false true h = refl
ones false false h = refl

-- if no item passes two tests, the number of items that pass either is the sum of both numbers
pub count_apart : (s t : List ℕ → Bool) (qs : List (List ℕ)) → ((q : List ℕ) → s q ≡ true → t q ≡ false)
    → count_by (λ q. s q || t q) qs ≡ count_by s qs + count_by t qs
count_apart s t [] h = refl
count_apart s t (q ∷ qs) h =
    let here : one_if (s q || t q) ≡ one_if (s q) + one_if (t q) = ones (s q) (t q) (h q) in
    let rest : count_by (λ x. s x || t x) qs ≡ count_by s qs + count_by t qs = count_apart s t qs h in
    counted_step (λ x. s x || t x) q qs ∙ omega (arith, here, rest, counted_step s q qs, counted_step t q qs)

-- comparing two positions in the block map gives the same result in either order
bytes_eq_sym : (p q : List ℕ) → bytes_eq p q ≡ bytes_eq q p
bytes_eq_sym p q =
    same_from_decides (bytes_eq p q) (bytes_eq q p) (bytes_eq-Decides p q)
    (Decides-like (bytes_eq q p) (λ (e : q ≡ p). sym e) (λ (e : p ≡ q). sym e) (bytes_eq-Decides q p))

-- if `x || y` is true, one of them is
pub either : (x y : Bool) → (x || y) ≡ true → (x ≡ true) ⊎ ((x ≡ false) × (y ≡ true))
either true y e = inl refl
either false y e = inr (refl, e)

-- `&&` distributes over `||`
or_and : (x y z : Bool) → ((x || y) && z) ≡ ((x && z) || (y && z))
or_and true true true = refl
or_and true true false = refl
or_and true false true = refl
or_and true false false = refl
or_and false y z = refl

-- `x || y` is true if `y` is
yes_after : (x y : Bool) → y ≡ true → (x || y) ≡ true
yes_after true y e = refl
yes_after false y e = e

-- a truth value that isn't true is false
pub no_from : (x : Bool) → (x ≡ true → ⊥) → x ≡ false
no_from true h = absurd (h refl)
no_from false h = refl

-- true if position `q` in the block map is on the path to `p` and counts: every position if `whole`, else only those followed by no index other than
-- 0
abbrev pub is_new : Bool → List ℕ → List ℕ → Bool
is_new whole [] q = false
is_new whole (k ∷ []) q = bytes_eq q (k ∷ [])
is_new whole (j ∷ (a ∷ p)) q = bytes_eq q (j ∷ (a ∷ p)) || ((whole || j == 0) && is_new whole (a ∷ p) q)

-- a position in the block map that counts is on the path
new_front : (whole : Bool) (p q : List ℕ) → is_new whole p q ≡ true → IsFront q p
new_front whole [] q e = absurd (cc)
new_front whole (k ∷ []) q e = inl (same_bytes q (k ∷ []) e)
new_front whole (j ∷ (a ∷ p)) q e =
    elim (either (bytes_eq q (j ∷ (a ∷ p))) ((whole || j == 0) && is_new whole (a ∷ p) q) e) [
      | inl here ↦ inl (same_bytes q (j ∷ (a ∷ p)) here)
      | inr (other, above) ↦ inr (new_front whole (a ∷ p) q (and_parts (whole || j == 0) (is_new whole (a ∷ p) q) above).1)
    ]

-- if the whole path counts, each position on it counts
front_new : (p q : List ℕ) → IsFront q p → is_new true p q ≡ true
front_new [] q front = absurd front
front_new (k ∷ []) q (inl e) = bytes_same q (k ∷ []) e
front_new (k ∷ []) q (inr none) = absurd none
front_new (j ∷ (a ∷ p)) q (inl e) = ap (λ x. x || is_new true (a ∷ p) q) (bytes_same q (j ∷ (a ∷ p)) e)
front_new (j ∷ (a ∷ p)) q (inr deeper) =
    let above : is_new true (a ∷ p) q ≡ true = front_new (a ∷ p) q deeper in
    yes_after (bytes_eq q (j ∷ (a ∷ p))) (is_new true (a ∷ p) q) above

-- if the whole path counts, the positions in the block map that count are those on the path
pub fronts_new : (p q : List ℕ) → list_any (bytes_eq q) (fronts p) ≡ is_new true p q
fronts_new [] q = refl
fronts_new (k ∷ []) q = or-false (bytes_eq q (k ∷ []))
fronts_new (j ∷ (a ∷ p)) q = ap (λ x. bytes_eq q (j ∷ (a ∷ p)) || x) (fronts_new (a ∷ p) q)

-- a position in the block map that is in a list once is counted there as 1 if it points to no block, else as 0
count_at : (names : List ℕ → Bool) (p : List ℕ) (qs : List (List ℕ)) → count_by (bytes_eq p) qs ≡ 1
    → count_by (λ q. bytes_eq q p && not (names q)) qs ≡ (if names p then 0 else 1)
count_at names p qs once =
    elim (names p) as (λ t. names p ≡ t → count_by (λ q. bytes_eq q p && not (names q)) qs ≡ (if t then 0 else 1)) [
      | true ↦ λ e. count_none (λ q. bytes_eq q p && not (names q)) qs (λ q. no_from (bytes_eq q p && not (names q)) (λ passes.
          let parts : (bytes_eq q p ≡ true) × (not (names q) ≡ true) = and_parts (bytes_eq q p) (not (names q)) passes in
          let no : not (names q) ≡ false = ap (λ x. not (names x)) (same_bytes q p parts.0) ∙ ap not e in
          let clash : true ≡ false = sym parts.1 ∙ no in cc))
      | false ↦ λ e. count_same (λ q. bytes_eq q p && not (names q)) (bytes_eq p) qs (λ q.
          elim (bytes_eq q p) as (λ t. bytes_eq q p ≡ t → (t && not (names q)) ≡ bytes_eq p q) [
            | true ↦ λ same. ap (λ x. not (names x)) (same_bytes q p same) ∙ (ap not e ∙ (sym same ∙ bytes_eq_sym q p))
            | false ↦ λ other. sym other ∙ bytes_eq_sym q p
          ] refl) ∙ once
    ] refl

-- positions in the block map that count only under a condition add their number or 0
count_if : (t : Bool) (s names : List ℕ → Bool) (qs : List (List ℕ)) (n : ℕ) → count_by (λ q. s q && not (names q)) qs ≡ n
    → count_by (λ q. (t && s q) && not (names q)) qs ≡ (if t then n else 0)
count_if true s names qs n h = h
count_if false s names qs n h = count_none (λ q. false) qs (λ q. refl)

-- the number of positions in the block map that count on the path to `p` and point to no block is `missing_to`
pub count_new : (form : BlockMap) (names : List ℕ → Bool) (whole : Bool) (p : List ℕ) → IsPlace form p
    → count_by (λ q. is_new whole p q && not (names q)) (places form) ≡ missing_to names whole p
count_new form names whole [] place = absurd place
count_new form names whole (k ∷ []) place = count_at names (k ∷ []) (places form) (places_once form (k ∷ []) place)
count_new form names whole (j ∷ (a ∷ p)) place =
    let here : List ℕ → Bool = λ q. bytes_eq q (j ∷ (a ∷ p)) && not (names q) in
    let above : List ℕ → Bool = λ q. ((whole || j == 0) && is_new whole (a ∷ p) q) && not (names q) in
    let one : count_by here (places form) ≡ (if names (j ∷ (a ∷ p)) then 0 else 1) =
    count_at names (j ∷ (a ∷ p)) (places form) (places_once form (j ∷ (a ∷ p)) place) in
    let rest : count_by above (places form) ≡ (if whole || j == 0 then missing_to names whole (a ∷ p) else 0) =
    count_if (whole || j == 0) (is_new whole (a ∷ p)) names (places form) (missing_to names whole (a ∷ p)) (count_new form names whole (a ∷ p) place.2) in
    count_same (λ q. is_new whole (j ∷ (a ∷ p)) q && not (names q)) (λ q. here q || above q) (places form)
    (λ q. or_and (bytes_eq q (j ∷ (a ∷ p))) ((whole || j == 0) && is_new whole (a ∷ p) q) (not (names q)))
    ∙ (count_apart here above (places form) (λ q passes. no_from (above q) (λ higher.
    let same : q ≡ j ∷ (a ∷ p) = same_bytes q (j ∷ (a ∷ p)) (and_parts (bytes_eq q (j ∷ (a ∷ p))) (not (names q)) passes).0 in
    let new : is_new whole (a ∷ p) q ≡ true =
    (and_parts (whole || j == 0) (is_new whole (a ∷ p) q) (and_parts ((whole || j == 0) && is_new whole (a ∷ p) q) (not (names q)) higher).0).1 in
    let short : length q ≤ length (a ∷ p) = front_length (a ∷ p) q (new_front whole (a ∷ p) q new) in
    let len : length q ≡ length (j ∷ (a ∷ p)) = ap length same in
    omega (arith, short, len)))
    ∙ omega (arith, one, rest))

-- the number of logical blocks below a position in the block map with `d` levels below it
abbrev spread : BlockMap → ℕ → ℕ
spread form zero = 1
spread form (suc d) = pointer_count form * spread form d

-- the first logical block whose path contains address `k`
abbrev first_of : BlockMap → ℕ → ℕ
first_of Small k = k
first_of Large k = if k == 7 then 1792 else 256 * k
first_of Deep k = if k == 12 then 16522 else if k == 11 then 138 else k
first_of Bare k = k

-- the first logical block whose path contains a position in the block map
abbrev first_through : BlockMap → List ℕ → ℕ
first_through form [] = 0
first_through form (k ∷ []) = first_of form k
first_through form (j ∷ (a ∷ p)) = first_through form (a ∷ p) + j * spread form (levels_below form (j ∷ (a ∷ p)))

-- the first path through a position in the block map is not after the first path through a position below it
first_front : (form : BlockMap) (p q : List ℕ) → IsFront q p → first_through form q ≤ first_through form p
first_front form [] q front = absurd front
first_front form (k ∷ []) q (inl e) = let same : first_through form q ≡ first_through form (k ∷ []) = ap (first_through form) e in omega (arith, same)
first_front form (k ∷ []) q (inr none) = absurd none
first_front form (j ∷ (a ∷ p)) q (inl e) =
    let same : first_through form q ≡ first_through form (j ∷ (a ∷ p)) = ap (first_through form) e in omega (arith, same)
first_front form (j ∷ (a ∷ p)) q (inr deeper) =
    let above : first_through form q ≤ first_through form (a ∷ p) = first_front form (a ∷ p) q deeper in omega (arith, above)

-- a position in the block map on a path that no earlier path shares has the same first logical block as the end of the path
first_new : (form : BlockMap) (p q : List ℕ) → is_new false p q ≡ true → first_through form q ≡ first_through form p
first_new form [] q e = absurd (cc)
first_new form (k ∷ []) q e = ap (first_through form) (same_bytes q (k ∷ []) e)
first_new form (j ∷ (a ∷ p)) q e =
    elim (either (bytes_eq q (j ∷ (a ∷ p))) ((false || j == 0) && is_new false (a ∷ p) q) e) [
      | inl here ↦ ap (first_through form) (same_bytes q (j ∷ (a ∷ p)) here)
      | inr (other, above) ↦
          let parts : (j == 0 ≡ true) × (is_new false (a ∷ p) q ≡ true) = and_parts (j == 0) (is_new false (a ∷ p) q) above in
          let none : j ≡ 0 = (Decides-eqb j 0).0 parts.0 in
          let less : j * spread form (levels_below form (j ∷ (a ∷ p))) ≡ 0 = ap (λ x. x * spread form (levels_below form (j ∷ (a ∷ p)))) none ∙ omega arith in
          first_new form (a ∷ p) q parts.1 ∙ omega (arith, less)
    ]

-- the position in the block map left after removing the last indexes that are 0 and one more index
abbrev above : List ℕ → List ℕ
above [] = []
above (k ∷ []) = []
above (j ∷ (a ∷ p)) = if j == 0 then above (a ∷ p) else a ∷ p

-- a position in the block map on the path that isn't new is on the path to `above p`
front_above_zeros : (p q : List ℕ) → IsFront q p → is_new false p q ≡ false → IsFront q (above p)
front_above_zeros [] q front e = absurd front
front_above_zeros (k ∷ []) q (inl same) e = let passes : bytes_eq q (k ∷ []) ≡ true = bytes_same q (k ∷ []) same in let clash : true ≡ false = sym passes ∙ e in absurd (cc)
front_above_zeros (k ∷ []) q (inr none) e = absurd none
front_above_zeros (j ∷ (a ∷ p)) q (inl same) e =
    let passes : bytes_eq q (j ∷ (a ∷ p)) ≡ true = bytes_same q (j ∷ (a ∷ p)) same in
    let clash : true ≡ false = sym passes ∙ (or_parts (bytes_eq q (j ∷ (a ∷ p))) ((false || j == 0) && is_new false (a ∷ p) q) e).0 in absurd (cc)
front_above_zeros (j ∷ (a ∷ p)) q (inr deeper) e =
    let rest : ((j == 0) && is_new false (a ∷ p) q) ≡ false = (or_parts (bytes_eq q (j ∷ (a ∷ p))) ((false || j == 0) && is_new false (a ∷ p) q) e).1 in
    elim (j == 0) as (λ t. (t && is_new false (a ∷ p) q) ≡ false → IsFront q (if t then above (a ∷ p) else a ∷ p))
    [ true ↦ λ old. front_above_zeros (a ∷ p) q deeper old | false ↦ λ old. deeper ] rest

-- the positions in the block map on the path to `above p`: if the last index is 0, those of the position above; else the whole path above
above_cases : (j a : ℕ) (p q : List ℕ) → IsFront q (above (j ∷ (a ∷ p))) → ((j ≡ 0) × IsFront q (above (a ∷ p))) ⊎ ((1 ≤ j) × IsFront q (a ∷ p))
above_cases j a p q front =
    elim (j == 0) as (λ t. j == 0 ≡ t → IsFront q (if t then above (a ∷ p) else a ∷ p) → ((j ≡ 0) × IsFront q (above (a ∷ p))) ⊎ ((1 ≤ j) × IsFront q (a ∷ p)))
    [ true ↦ λ e high. inl ((Decides-eqb j 0).0 e, high) | false ↦ λ e high. inr (grind (arith, nat_tests), high) ] refl front

-- equal positions in the block map have the same positions on their paths
front_same : (q p r : List ℕ) → p ≡ r → IsFront q p → IsFront q r
front_same q p r e front = subst (IsFront q) e front

-- position `q` in the block map is on the path of logical block `b`
abbrev pub IsOnWay : BlockMap → ℕ → List ℕ → Type 0
IsOnWay form b q = (p : List ℕ) × (last_place form b ≡ Some p) × IsFront q p

-- `b` is the first logical block whose path contains position `p` in the block map, and the positions on the path to `above p` are also on the path
-- of block `b - 1`
record IsLastOf (form : BlockMap) (b : ℕ) (p : List ℕ) : Type 0 where
  starts : first_through form p ≡ b
  shares : (q : List ℕ) → IsFront q (above p) → (1 ≤ b) × IsOnWay form (b - 1) q

-- `IsLastOf` holds for the position of a logical block below an indirect block of a large file
of_large : (b : ℕ) → b < 1792 → IsLastOf Large b ((b % 256) ∷ ((b / 256) ∷ []))
of_large b h =
    let low : b / 256 < 7 = omega arith in
    let one : levels Large (b / 256) ≡ 1 = grind (arith, nat_tests) in
    let from : first_of Large (b / 256) ≡ 256 * (b / 256) = grind (arith, nat_tests) in
    let times : (b % 256) * spread Large (levels Large (b / 256) - 1) ≡ b % 256 = ap (λ n. (b % 256) * spread Large (n - 1)) one ∙ omega arith in
    record {
      starts = omega (arith, from, times);
      shares = λ q front. elim (above_cases (b % 256) (b / 256) [] q front) [
        | inl (even, none) ↦ absurd none
        | inr (some, higher) ↦
            let same : b / 256 ≡ (b - 1) / 256 = omega arith in (
              omega arith,
              (
                ((b - 1) % 256) ∷ (((b - 1) / 256) ∷ []),
                last_large (b - 1) (omega arith),
                inr (front_same q ((b / 256) ∷ []) (((b - 1) / 256) ∷ []) (ap (λ a. a ∷ []) same) higher),
              ),
            )
      ];
    }

-- `IsLastOf` holds for the position of a logical block below the doubly indirect block of a large file
of_huge : (b : ℕ) → 1792 ≤ b → b < 32768 → IsLastOf Large b ((b % 256) ∷ ((b / 256 - 7) ∷ (7 ∷ [])))
of_huge b l h = record {
  starts = omega arith;
  shares = λ q front. elim (above_cases (b % 256) (b / 256 - 7) (7 ∷ []) q front) [
    | inl (even, next) ↦
        elim (above_cases (b / 256 - 7) 7 [] q next) [
          | inl (none, nothing) ↦ absurd nothing
          | inr (some, higher) ↦
              (omega arith, (((b - 1) % 256) ∷ (((b - 1) / 256 - 7) ∷ (7 ∷ [])), last_huge (b - 1) (omega arith) (omega arith), inr (inr higher)))
        ]
    | inr (some, higher) ↦
        let same : b / 256 - 7 ≡ (b - 1) / 256 - 7 = omega arith in (
          omega arith,
          (
            ((b - 1) % 256) ∷ (((b - 1) / 256 - 7) ∷ (7 ∷ [])),
            last_huge (b - 1) (omega arith) (omega arith),
            inr (front_same q ((b / 256 - 7) ∷ (7 ∷ [])) (((b - 1) / 256 - 7) ∷ (7 ∷ [])) (ap (λ a. a ∷ (7 ∷ [])) same) higher),
          ),
        )
  ];
}

-- `IsLastOf` holds for the position of a logical block below the indirect block of the seventh edition
of_single : (b : ℕ) → 10 ≤ b → b < 138 → IsLastOf Deep b ((b - 10) ∷ (10 ∷ []))
of_single b l h = record {
  starts = omega arith;
  shares = λ q front. elim (above_cases (b - 10) 10 [] q front) [
    | inl (even, none) ↦ absurd none
    | inr (some, higher) ↦ (omega arith, ((b - 1 - 10) ∷ (10 ∷ []), last_single (b - 1) (omega arith) (omega arith), inr higher))
  ];
}

-- `IsLastOf` holds for the position of a logical block below the doubly indirect block of the seventh edition
of_double : (b : ℕ) → 138 ≤ b → b < 16522 → IsLastOf Deep b (((b - 138) % 128) ∷ (((b - 138) / 128) ∷ (11 ∷ [])))
of_double b l h = record {
  starts = omega arith;
  shares = λ q front. elim (above_cases ((b - 138) % 128) ((b - 138) / 128) (11 ∷ []) q front) [
    | inl (even, next) ↦
        elim (above_cases ((b - 138) / 128) 11 [] q next) [
          | inl (none, nothing) ↦ absurd nothing
          | inr (some, higher) ↦
              (omega arith, (((b - 1 - 138) % 128) ∷ (((b - 1 - 138) / 128) ∷ (11 ∷ [])), last_double (b - 1) (omega arith) (omega arith), inr (inr higher)))
        ]
    | inr (some, higher) ↦
        let same : (b - 138) / 128 ≡ (b - 1 - 138) / 128 = omega arith in (
          omega arith,
          (
            ((b - 1 - 138) % 128) ∷ (((b - 1 - 138) / 128) ∷ (11 ∷ [])),
            last_double (b - 1) (omega arith) (omega arith),
            inr (front_same q (((b - 138) / 128) ∷ (11 ∷ [])) (((b - 1 - 138) / 128) ∷ (11 ∷ [])) (ap (λ a. a ∷ (11 ∷ [])) same) higher),
          ),
        )
  ];
}

-- the position in the block map that points to logical block 16522 + `c` of the seventh edition
abbrev triple_place : ℕ → List ℕ
triple_place c = (c % 128) ∷ ((c / 128 % 128) ∷ ((c / 16384) ∷ (12 ∷ [])))

-- the path to this position shares all positions up to `above` with the path of the logical block before
triple_shares : (c : ℕ) (q : List ℕ) → IsFront q (above (triple_place c)) → (1 ≤ c) × IsFront q (triple_place (c - 1))
triple_shares c q front =
    elim (above_cases (c % 128) (c / 128 % 128) ((c / 16384) ∷ (12 ∷ [])) q front) [
      | inl (even, next) ↦
          elim (above_cases (c / 128 % 128) (c / 16384) (12 ∷ []) q next) [
            | inl (none, further) ↦
                elim (above_cases (c / 16384) 12 [] q further) [
                  | inl (nought, nothing) ↦ absurd nothing
                  | inr (some, higher) ↦ (omega arith, inr (inr (inr higher)))
                ]
            | inr (some, higher) ↦
                let same : c / 16384 ≡ (c - 1) / 16384 = omega arith in
                (omega arith, inr (inr (front_same q ((c / 16384) ∷ (12 ∷ [])) (((c - 1) / 16384) ∷ (12 ∷ [])) (ap (λ a. a ∷ (12 ∷ [])) same) higher)))
          ]
      | inr (some, higher) ↦
          let same : c / 16384 ≡ (c - 1) / 16384 = omega arith in
          let alike : c / 128 % 128 ≡ (c - 1) / 128 % 128 = omega arith in (
            omega arith,
            inr (front_same q ((c / 128 % 128) ∷ ((c / 16384) ∷ (12 ∷ []))) (((c - 1) / 128 % 128) ∷ (((c - 1) / 16384) ∷ (12 ∷ [])))
                (ap (λ a. a ∷ ((c / 16384) ∷ (12 ∷ []))) alike ∙ ap (λ a. ((c - 1) / 128 % 128) ∷ (a ∷ (12 ∷ []))) same) higher),
          )
    ]

-- `IsLastOf` holds for the position of a logical block below the triply indirect block of the seventh edition
of_triple : (b : ℕ) → 16522 ≤ b → b < 2113674 → IsLastOf Deep b (triple_place (b - 16522))
of_triple b l h = record {
  starts = omega arith;
  shares = λ q front.
      let before : (1 ≤ b - 16522) × IsFront q (triple_place (b - 16522 - 1)) = triple_shares (b - 16522) q front in
      let same : b - 16522 - 1 ≡ b - 1 - 16522 = omega arith in (
        omega (arith, before.0),
        (
          triple_place (b - 1 - 16522),
          last_triple (b - 1) (omega (arith, before.0)) (omega arith),
          front_same q (triple_place (b - 16522 - 1)) (triple_place (b - 1 - 16522)) (ap triple_place same) before.1,
        ),
      );
}

-- `IsLastOf` holds for a position in the block map if it holds for an equal position
one_place : (form : BlockMap) (b : ℕ) (p r : List ℕ) → last_place form b ≡ Some r → last_place form b ≡ Some p → IsLastOf form b r → IsLastOf form b p
one_place form b p r e f last = let same : Some r ≡ Some p = sym e ∙ f in let place : r ≡ p = cc in subst (IsLastOf form b) place last

-- `IsLastOf` holds for the position of each logical block
last_of : (form : BlockMap) (b : ℕ) (p : List ℕ) → last_place form b ≡ Some p → IsLastOf form b p
last_of Small b p e =
    one_place Small b p (b ∷ []) (last_small b (last_leaf Small b p e).limit) e (record { starts = refl; shares = λ q none. absurd none })
last_of Large b p e =
    let limit : b < 32768 = (last_leaf Large b p e).limit in
    elim (cases_lt b 1792) [
      | inl low ↦ one_place Large b p ((b % 256) ∷ ((b / 256) ∷ [])) (last_large b low) e (of_large b low)
      | inr high ↦ one_place Large b p ((b % 256) ∷ ((b / 256 - 7) ∷ (7 ∷ []))) (last_huge b high limit) e (of_huge b high limit)
    ]
last_of Deep b p e =
    let limit : b < 2113674 = (last_leaf Deep b p e).limit in
    elim (cases_lt b 10) [
      | inl direct ↦ one_place Deep b p (b ∷ []) (last_direct b direct) e
          (record { starts = grind (arith, nat_tests); shares = λ q none. absurd none })
      | inr past ↦ elim (cases_lt b 138) [
        | inl single ↦ one_place Deep b p ((b - 10) ∷ (10 ∷ [])) (last_single b past single) e (of_single b past single)
        | inr beyond ↦ elim (cases_lt b 16522) [
          | inl double ↦ one_place Deep b p (((b - 138) % 128) ∷ (((b - 138) / 128) ∷ (11 ∷ []))) (last_double b beyond double) e (of_double b beyond double)
          | inr far ↦ one_place Deep b p (triple_place (b - 16522)) (last_triple b far limit) e (of_triple b far limit)
        ]
      ]
    ]
last_of Bare b p e = let limit : b < 0 = (last_leaf Bare b p e).limit in absurd (omega arith)

-- true if a position in the block map is on the path of logical block `b`
abbrev pub is_on_way : BlockMap → List ℕ → ℕ → Bool
is_on_way form q b = list_any (bytes_eq q) (way form b)

-- no position in the block map is on the path of a logical block that has no path
way_none : (form : BlockMap) (q : List ℕ) (b : ℕ) → last_place form b ≡ None → is_on_way form q b ≡ false
way_none form q b e = ap (λ o. list_any (bytes_eq q) (option_map_or fronts o [])) e

-- the positions in the block map on the path of a logical block are those on the path to its position
way_some : (form : BlockMap) (q : List ℕ) (b : ℕ) (p : List ℕ) → last_place form b ≡ Some p → is_on_way form q b ≡ is_new true p q
way_some form q b p e = ap (λ o. list_any (bytes_eq q) (option_map_or fronts o [])) e ∙ fronts_new p q

-- if the test `is_on_way` is true, the position in the block map is on the path
pub on_way_from : (form : BlockMap) (q : List ℕ) (b : ℕ) → is_on_way form q b ≡ true → IsOnWay form b q
on_way_from form q b passes =
    elim (last_place form b) as (λ o. last_place form b ≡ o → IsOnWay form b q) [
      | None ↦ λ e. let clash : true ≡ false = sym passes ∙ way_none form q b e in absurd (cc)
      | Some p ↦ λ e. (p, e, new_front true p q (sym (way_some form q b p e) ∙ passes))
    ] refl

-- if a position in the block map is on the path, the test `is_on_way` is true
pub on_way : (form : BlockMap) (q : List ℕ) (b : ℕ) → IsOnWay form b q → is_on_way form q b ≡ true
on_way form q b on = way_some form q b on.0 on.1 ∙ front_new on.0 q on.2

-- if a search of a range succeeds, some number of the range passes the test
pub any_from : (t : ℕ → Bool) (a n : ℕ) → list_any t (range_with_len a n) ≡ true → (j : ℕ) × (a ≤ j) × (j < a + n) × (t j ≡ true)
any_from t a zero e = absurd (cc)
any_from t a (suc n) e =
    elim (either (t a) (list_any t (range_with_len (a + 1) n)) e) [
      | inl here ↦ (a, omega arith, omega arith, here)
      | inr (other, later) ↦
          let found = any_from t (a + 1) n later in (found.0, omega (arith, found.1), omega (arith, found.2), found.3)
    ]

-- if a number of a range passes the test, a search of the range succeeds
pub any_at : (t : ℕ → Bool) (a n j : ℕ) → a ≤ j → j < a + n → t j ≡ true → list_any t (range_with_len a n) ≡ true
any_at t a zero j low high e = absurd (omega arith)
any_at t a (suc n) j low high e =
    elim (first_or_later a j low) [
      | inl here ↦ ap (λ x. x || list_any t (range_with_len (a + 1) n)) (ap t here ∙ e)
      | inr later ↦ yes_after (t a) (list_any t (range_with_len (a + 1) n)) (any_at t (a + 1) n j later (omega arith) e)
    ]

-- a search of a range with one more number succeeds if a search of the range succeeds or the number passes
pub any_more : (t : ℕ → Bool) (a n : ℕ) → list_any t (range_with_len a (suc n)) ≡ (list_any t (range_with_len a n) || t (a + n))
any_more t a zero = let same : a ≡ a + 0 = omega arith in or-false (t a) ∙ ap t same
any_more t a (suc n) =
    let same : a + 1 + n ≡ a + suc n = omega arith in
    ap (λ x. t a || x) (any_more t (a + 1) n)
    ∙ (sym (or_assoc (t a) (list_any t (range_with_len (a + 1) n)) (t (a + 1 + n))) ∙ ap (λ m. list_any t (range_with_len a (suc n)) || t m) same)

-- a position that is new on a path is on no earlier path
new_is_new : (form : BlockMap) (p q : List ℕ) (first n : ℕ) → last_place form (first + n) ≡ Some p → is_new false p q ≡ true
    → is_on_ways form (range_with_len first n) q ≡ true → ⊥
new_is_new form p q first n e new passes =
    let found = any_from (is_on_way form q) first n passes in
    let on : IsOnWay form found.0 q = on_way_from form q found.0 found.3 in
    let begin : first_through form on.0 ≡ found.0 = (last_of form found.0 on.0 on.1).starts in
    let low : first_through form q ≤ first_through form on.0 = first_front form on.0 q on.2 in
    let here : first_through form p ≡ first + n = (last_of form (first + n) p e).starts in
    let same : first_through form q ≡ first_through form p = first_new form p q new in
    omega (arith, begin, low, here, same, found.2)

-- a position that isn't new on a path is on the path of the logical block before
old_is_old : (form : BlockMap) (p q : List ℕ) (first n : ℕ) → last_place form (first + suc n) ≡ Some p → is_new true p q ≡ true
    → is_new false p q ≡ false → is_on_ways form (range_with_len first (suc n)) q ≡ true
old_is_old form p q first n e on old =
    let before = (last_of form (first + suc n) p e).shares q (front_above_zeros p q (new_front true p q on) old) in
    any_at (is_on_way form q) first (suc n) (first + suc n - 1) (omega arith) (omega arith) (on_way form q (first + suc n - 1) before.1)

-- a position that is new on a path is on the path
new_on_way : (p q : List ℕ) → is_new false p q ≡ true → is_new true p q ≡ true
new_on_way p q e = front_new p q (new_front false p q e)

-- adding one more path adds only the positions that are new on it
more_or_new : (x w z : Bool) → (z ≡ true → w ≡ true) → (w ≡ true → z ≡ false → x ≡ true) → (x || w) ≡ (x || z)
more_or_new true w z h k = refl
more_or_new false true true h k = refl
more_or_new false true false h k = sym (k refl refl)
more_or_new false false true h k = h refl
more_or_new false false false h k = refl

-- the number of positions missing on the path of a logical block, computed from its position in the block map
missing_some : (form : BlockMap) (names : List ℕ → Bool) (whole : Bool) (b : ℕ) (p : List ℕ) → last_place form b ≡ Some p
    → missing_at form names whole b ≡ missing_to names whole p
missing_some form names whole b p e = ap (λ o. option_map_or (missing_to names whole) o 0) e

-- no block is missing if a logical block has no path
missing_none : (form : BlockMap) (names : List ℕ → Bool) (whole : Bool) (b : ℕ) → last_place form b ≡ None → missing_at form names whole b ≡ 0
missing_none form names whole b e = ap (λ o. option_map_or (missing_to names whole) o 0) e

-- the number of missing positions counted with one more logical block, if it has a path and isn't the first
count_later : (form : BlockMap) (names : List ℕ → Bool) (first n : ℕ) (p : List ℕ) → last_place form (first + suc n) ≡ Some p
    → missing_count form names (range_with_len first (suc n)) ≡ missing_from form names first (suc n)
    → count_by (λ q. (is_on_ways form (range_with_len first (suc n)) q || is_on_way form q (first + suc n)) && not (names q)) (places form)
    ≡ missing_from form names first (suc n) + missing_at form names false (first + suc n)
unfolding missing_count
count_later form names first n p e sofar =
    let old : List ℕ → Bool = λ q. is_on_ways form (range_with_len first (suc n)) q && not (names q) in
    let new : List ℕ → Bool = λ q. is_new false p q && not (names q) in
    let added : count_by new (places form) ≡ missing_to names false p = count_new form names false p (last_leaf form (first + suc n) p e).place in
    let at : missing_at form names false (first + suc n) ≡ missing_to names false p = missing_some form names false (first + suc n) p e in
    count_same (λ q. (is_on_ways form (range_with_len first (suc n)) q || is_on_way form q (first + suc n)) && not (names q))
    (λ q. old q || new q) (places form)
    (λ q. ap (λ x. (is_on_ways form (range_with_len first (suc n)) q || x) && not (names q)) (way_some form q (first + suc n) p e)
    ∙ (ap (λ x. x && not (names q)) (more_or_new (is_on_ways form (range_with_len first (suc n)) q) (is_new true p q) (is_new false p q)
    (new_on_way p q) (old_is_old form p q first n e))
    ∙ or_and (is_on_ways form (range_with_len first (suc n)) q) (is_new false p q) (not (names q))))
    ∙ (count_apart old new (places form) (λ q passes. no_from (new q) (λ fresh.
    new_is_new form p q first (suc n) e (and_parts (is_new false p q) (not (names q)) fresh).0
    (and_parts (is_on_ways form (range_with_len first (suc n)) q) (not (names q)) passes).0))
    ∙ omega (arith, sofar, added, at))

-- the number of missing positions counted with one more logical block, if it has a path
count_way : (form : BlockMap) (names : List ℕ → Bool) (first n : ℕ) (p : List ℕ) → last_place form (first + n) ≡ Some p
    → missing_count form names (range_with_len first n) ≡ missing_from form names first n
    → count_by (λ q. (is_on_ways form (range_with_len first n) q || is_on_way form q (first + n)) && not (names q)) (places form)
    ≡ missing_from form names first n + missing_at form names (n == 0) (first + n)
unfolding missing_from
count_way form names first zero p e sofar =
    let at : missing_at form names true (first + 0) ≡ missing_to names true p = missing_some form names true (first + 0) p e in
    count_same (λ q. is_on_way form q (first + 0) && not (names q)) (λ q. is_new true p q && not (names q)) (places form)
    (λ q. ap (λ x. x && not (names q)) (way_some form q (first + 0) p e))
    ∙ (count_new form names true p (last_leaf form (first + 0) p e).place ∙ omega (arith, at))
count_way form names first (suc n) p e sofar =
    let more : (suc n == 0) ≡ false = grind (arith, nat_tests) in
    count_later form names first n p e sofar
    ∙ ap (λ t. missing_from form names first (suc n) + missing_at form names t (first + suc n)) (sym more)

-- the number of missing positions counted with one more logical block
count_next : (form : BlockMap) (names : List ℕ → Bool) (first n : ℕ)
    → missing_count form names (range_with_len first n) ≡ missing_from form names first n
    → count_by (λ q. (is_on_ways form (range_with_len first n) q || is_on_way form q (first + n)) && not (names q)) (places form)
    ≡ missing_from form names first n + missing_at form names (n == 0) (first + n)
unfolding missing_count
count_next form names first n sofar =
    elim (last_place form (first + n)) as (λ o. last_place form (first + n) ≡ o
    → count_by (λ q. (is_on_ways form (range_with_len first n) q || is_on_way form q (first + n)) && not (names q)) (places form)
    ≡ missing_from form names first n + missing_at form names (n == 0) (first + n)) [
      | Some p ↦ λ e. count_way form names first n p e sofar
      | None ↦ λ e.
          let at : missing_at form names (n == 0) (first + n) ≡ 0 = missing_none form names (n == 0) (first + n) e in
          count_same (λ q. (is_on_ways form (range_with_len first n) q || is_on_way form q (first + n)) && not (names q))
          (λ q. is_on_ways form (range_with_len first n) q && not (names q)) (places form)
          (λ q. ap (λ x. (is_on_ways form (range_with_len first n) q || x) && not (names q)) (way_none form q (first + n) e)
          ∙ ap (λ x. x && not (names q)) (or-false (is_on_ways form (range_with_len first n) q)))
          ∙ omega (arith, sofar, at)
    ] refl

-- the number of missing blocks counted over all positions in the block map is the number counted block by block
pub count_blocks : (form : BlockMap) (names : List ℕ → Bool) (first n : ℕ)
    → missing_count form names (range_with_len first n) ≡ missing_from form names first n
unfolding missing_count missing_from
count_blocks form names first zero = count_none (λ q. false) (places form) (λ q. refl)
count_blocks form names first (suc n) =
    let sofar : missing_count form names (range_with_len first n) ≡ missing_from form names first n = count_blocks form names first n in
    count_same (λ q. is_on_ways form (range_with_len first (suc n)) q && not (names q))
    (λ q. (is_on_ways form (range_with_len first n) q || is_on_way form q (first + n)) && not (names q)) (places form)
    (λ q. ap (λ x. x && not (names q)) (any_more (is_on_way form q) first n))
    ∙ count_next form names first n sofar

-- the number of positions missing on a path with one more entry
pub missing_to_more : (names : List ℕ → Bool) (whole : Bool) (k : ℕ) (entries : List ℕ) (d : ℕ)
    → missing_to names whole (place_to k entries (d + 1))
    ≡ (if names (place_to k entries (d + 1)) then 0 else 1)
    + (if whole || slice_index entries d == 0 then missing_to names whole (place_to k entries d) else 0)
missing_to_more names whole k entries zero = refl
missing_to_more names whole k entries (suc d) = let next : suc d + 1 ≡ suc (suc d) = omega arith in rw next refl

-- whether an entry of a small file that was made large points to a block
pub moved_more : (names : List ℕ → Bool) (k : ℕ) (entries : List ℕ) (d : ℕ)
    → moved_down names (place_to k entries (d + 1))
    ≡ ((k == 0) && ((d == 0) && (nat_lt (slice_index entries d) 8 && names (slice_index entries d ∷ []))))
moved_more names k entries zero = refl
moved_more names k entries (suc zero) = grind (arith, nat_tests)
moved_more names k entries (suc (suc d)) =
    let next : suc (suc d) + 1 ≡ suc (suc (suc d)) = omega arith in rw next (grind (arith, nat_tests))

-- before the first logical block, no missing block has been counted
pub missing_start : (form : BlockMap) (names : List ℕ → Bool) (first : ℕ) → missing_from form names first (first - first) ≡ 0
unfolding missing_from
missing_start form names first = let none : first - first ≡ 0 = omega arith in ap (missing_from form names first) none

-- the number of missing positions counted with one more logical block, by the number of logical blocks
missing_next : (form : BlockMap) (names : List ℕ → Bool) (first n : ℕ)
    → missing_from form names first (suc n) ≡ missing_from form names first n + missing_at form names (n == 0) (first + n)
unfolding missing_from
missing_next form names first n = refl

-- the number of missing positions counted with one more logical block, by the logical block's number
pub missing_more : (form : BlockMap) (names : List ℕ → Bool) (first b : ℕ) → first ≤ b
    → missing_from form names first (b + 1 - first) ≡ missing_from form names first (b - first) + missing_at form names (b == first) b
missing_more form names first b low =
    let count : b + 1 - first ≡ suc (b - first) = omega arith in
    let place : first + (b - first) ≡ b = omega arith in
    let start : (b - first == 0) ≡ (b == first) = grind (arith, nat_tests) in
    ap (missing_from form names first) count
    ∙ (missing_next form names first (b - first)
    ∙ ap (λ x. missing_from form names first (b - first) + x)
    (ap (λ t. missing_at form names t (first + (b - first))) start ∙ ap (missing_at form names (b == first)) place))

-- logical blocks past the block map's limit add nothing to the number of missing positions
missing_past : (form : BlockMap) (names : List ℕ → Bool) (first n k : ℕ) → block_limit form ≤ first + n
    → missing_from form names first (n + k) ≡ missing_from form names first n
missing_past form names first n zero h = let same : n + 0 ≡ n = omega arith in ap (missing_from form names first) same
missing_past form names first n (suc k) h =
    let count : n + suc k ≡ suc (n + k) = omega arith in
    let none : missing_at form names (n + k == 0) (first + (n + k)) ≡ 0 =
    missing_none form names (n + k == 0) (first + (n + k)) (has_no_way form (first + (n + k)) (omega arith)) in
    let before : missing_from form names first (n + k) ≡ missing_from form names first n = missing_past form names first n k h in
    ap (missing_from form names first) count ∙ (missing_next form names first (n + k) ∙ omega (arith, none, before))

-- the number of missing positions counted up to the end of the range, or up to the block map's limit, is the total
pub missing_limit : (form : BlockMap) (names : List ℕ → Bool) (first b end : ℕ) → first ≤ b → (b ≤ end) ⊎ (b ≡ first) → (end ≤ b) ⊎ (block_limit form ≤ b)
    → missing_from form names first (b - first) ≡ missing_from form names first (end - first)
missing_limit form names first b end low (inl high) (inl done) = let same : b ≡ end = omega arith in ap (λ x. missing_from form names first (x - first)) same
missing_limit form names first b end low (inr none) (inl done) =
    let same : b - first ≡ end - first = omega arith in ap (missing_from form names first) same
missing_limit form names first b end low (inl high) (inr past) =
    let same : end - first ≡ b - first + (end - b) = omega arith in
    sym (ap (missing_from form names first) same ∙ missing_past form names first (b - first) (end - b) (omega arith))
missing_limit form names first b end low (inr none) (inr past) =
    let same : end - first ≡ b - first + (end - first) = omega arith in
    sym (ap (missing_from form names first) same ∙ missing_past form names first (b - first) (end - first) (omega arith))

-- if the smaller of two numbers is at least `m`, the larger is too
later : (m a b : ℕ) → a ≤ b → (nat_le m a || nat_le m b) ≡ nat_le m b
later m a b h = grind (arith, nat_tests)

-- a number of a range is at least `m` if and only if the last one is
any_large : (m a n : ℕ) → list_any (λ b. nat_le m b) (range_with_len a (suc n)) ≡ nat_le m (a + n)
any_large m a zero = let same : a ≡ a + 0 = omega arith in or-false (nat_le m a) ∙ ap (nat_le m) same
any_large m a (suc n) =
    let same : a + 1 + n ≡ a + suc n = omega arith in
    ap (λ x. nat_le m a || x) (any_large m (a + 1) n ∙ ap (nat_le m) same) ∙ later m a (a + suc n) (omega arith)

-- whether a file becomes large depends only on the last logical block touched
large_by_last : (form : BlockMap) (a n : ℕ) → grows_large form (range_with_len a (suc n)) ≡ grows_at form (a + n)
large_by_last Small a n = any_large 8 a n
large_by_last Large a n = refl
large_by_last Deep a n = refl
large_by_last Bare a n = refl

-- the number of blocks needed for a range of logical blocks, computed from the number of missing positions
need_by_count : (form : BlockMap) (names : List ℕ → Bool) (a n : ℕ)
    → need_of form names (range_with_len a (suc n))
    ≡ missing_from (grown_form form (grows_at form (a + n))) (grown_names names (grows_at form (a + n))) a (suc n) + (if grows_at form (a + n) then 1 else 0)
unfolding need_of
need_by_count form names a n =
    let blocks : List ℕ = range_with_len a (suc n) in
    ap (λ t. missing_count (grown_form form t) (grown_names names t) blocks + (if t then 1 else 0)) (large_by_last form a n)
    ∙ ap (λ x. x + (if grows_at form (a + n) then 1 else 0))
    (count_blocks (grown_form form (grows_at form (a + n))) (grown_names names (grows_at form (a + n))) a (suc n))

-- the number of blocks needed for a write of at least one byte, computed from the number of missing positions
pub need_some : (form : BlockMap) (names : List ℕ → Bool) (offset len last : ℕ) → 1 ≤ len → last ≡ (offset + (len - 1)) / 512
    → need_of form names (touched offset len)
    ≡ missing_from (grown_form form (grows_at form last)) (grown_names names (grows_at form last)) (offset / 512) (last + 1 - offset / 512)
    + (if grows_at form last then 1 else 0)
need_some form names offset zero last some e = absurd (omega arith)
need_some form names offset (suc n) last some e =
    let ends : last ≡ (offset + n) / 512 = e ∙ ap (λ x. (offset + x) / 512) (omega arith) in
    let order : offset / 512 ≤ (offset + n) / 512 = omega arith in
    let count : (offset + n) / 512 - offset / 512 + 1 ≡ suc ((offset + n) / 512 - offset / 512) = omega arith in
    let place : offset / 512 + ((offset + n) / 512 - offset / 512) ≡ last = omega arith in
    let number : suc ((offset + n) / 512 - offset / 512) ≡ last + 1 - offset / 512 = omega arith in
    ap (λ x. need_of form names (range_with_len (offset / 512) x)) count
    ∙ (need_by_count form names (offset / 512) ((offset + n) / 512 - offset / 512)
    ∙ (ap (λ x. missing_from (grown_form form (grows_at form x)) (grown_names names (grows_at form x)) (offset / 512)
    (suc ((offset + n) / 512 - offset / 512)) + (if grows_at form x then 1 else 0)) place
    ∙ ap (λ x. missing_from (grown_form form (grows_at form last)) (grown_names names (grows_at form last)) (offset / 512) x
    + (if grows_at form last then 1 else 0)) number))

-- a write of no bytes makes no file large
small_grows_not : (form : BlockMap) → grows_large form [] ≡ false
small_grows_not Small = refl
small_grows_not Large = refl
small_grows_not Deep = refl
small_grows_not Bare = refl

-- a write of no bytes needs no blocks
pub need_nothing : (form : BlockMap) (names : List ℕ → Bool) → need_of form names [] ≡ 0
unfolding need_of missing_count
need_nothing form names = let none : grows_large form [] ≡ false = small_grows_not form in
    ap (λ t. missing_count (grown_form form t) (grown_names names t) [] + (if t then 1 else 0)) none
    ∙ omega (arith, count_none (λ q. false) (places form) (λ q. refl))
