-- The test `is_place` accepts exactly the positions in the block map.
use Rattle.std.proofs.Common.{◌≡◌, ◌∙◌, sym, ap, ℕ, ◌&&◌, List, [], ◌∷◌, nat_lt, true, true≢false, arith}
use Rattle.std.specs.Prelude.{nat_le}
use Rattle.std.proofs.lemmas.Bool.{and_parts, leb-true, ltb-true}
use Rattle.std.proofs.lemmas.Bool.Decides.{nat_tests}
use Rattle.vol_layout.specs.BlockMaps.{IsPlace, first_count, pointer_count, levels_below}
use Rattle.vol_layout.specs.declared.block_map.BlockMap.{BlockMap}
use Rattle.vol_dir.specs.Tree.{is_place}

-- a list of indexes that passes the test is a position in the block map
pub place_passed : (form : BlockMap) (p : List ℕ) → is_place form p ≡ true → IsPlace form p
place_passed form [] h = absurd (true≢false (sym h))
place_passed form (k ∷ []) h = ltb-true k (first_count form) h
place_passed form (j ∷ (a ∷ p)) h =
    let low = and_parts _ _ h in
    let deep = and_parts _ _ low.1 in
    (ltb-true j (pointer_count form) low.0, leb-true 1 (levels_below form (a ∷ p)) deep.0, place_passed form (a ∷ p) deep.1)

-- a position in the block map passes the test
pub place_test : (form : BlockMap) (p : List ℕ) → IsPlace form p → is_place form p ≡ true
place_test form [] place = absurd place
place_test form (k ∷ []) place = grind (arith, nat_tests)
place_test form (j ∷ (a ∷ p)) place =
    let rest : is_place form (a ∷ p) ≡ true = place_test form (a ∷ p) place.2 in
    let low : nat_lt j (pointer_count form) ≡ true = grind (arith, nat_tests, place.0) in
    let deep : nat_le 1 (levels_below form (a ∷ p)) ≡ true = grind (arith, nat_tests, place.1) in
    ap (λ t. t && (nat_le 1 (levels_below form (a ∷ p)) && is_place form (a ∷ p))) low ∙ (ap (λ t. t && is_place form (a ∷ p)) deep ∙ rest)
