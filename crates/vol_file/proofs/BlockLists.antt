-- Laws of the lists of blocks to which positions in a block map point.
use Rattle.std.proofs.Common.{◌≡◌, ◌≢◌, ℕ, zero, suc, ◌+◌, ◌==◌, ◌∙◌, not, false, ap, List, [], ◌∷◌, ◌++◌, map, filter, cond, refl, arith, inl}
use Rattle.std.proofs.lemmas.Bool.Decides.{nat_tests}
use Rattle.std.proofs.lemmas.List.{map-append}
use Rattle.std.proofs.lemmas.List.Elements.{filter-append}
use Rattle.std.specs.List.{flat_map, range_with_len}
use Rattle.vol_layout.specs.BlockMaps.{places_from}
use Rattle.vol_layout.specs.Laws.{IsFront}
use Rattle.vol_layout.specs.BlockPointers.{named}
use Rattle.vol_layout.specs.declared.geometry.Geometry.{Geometry}
use Rattle.vol_layout.proofs.PlaceLaws.{front_above}
use Rattle.vol_file.specs.Clears.{blocks_at, places_below}

-- no positions in the block map point to no blocks
pub at_nil : (geometry : Geometry) (image : List ℕ) (i : ℕ) → blocks_at geometry image i [] ≡ []
unfolding blocks_at
at_nil geometry image i = refl

-- the blocks of two joined lists of positions in the block map are those of the first followed by those of the second
pub at_append : (geometry : Geometry) (image : List ℕ) (i : ℕ) (ps qs : List (List ℕ))
    → blocks_at geometry image i (ps ++ qs) ≡ blocks_at geometry image i ps ++ blocks_at geometry image i qs
unfolding blocks_at
at_append geometry image i ps qs =
    ap (filter (λ k. not (k == 0))) (map-append (named geometry image i) ps qs)
    ∙ filter-append (λ k. not (k == 0)) (map (named geometry image i) ps) (map (named geometry image i) qs)

-- a number that isn't 0 fails the test for 0
not_zero : (b : ℕ) → b ≢ 0 → (b == 0) ≡ false
not_zero b some = grind (arith, nat_tests)

-- a position in the block map that points to no block adds nothing to the list
pub at_zero : (geometry : Geometry) (image : List ℕ) (i : ℕ) (p : List ℕ) (ps : List (List ℕ)) → named geometry image i p ≡ 0
    → blocks_at geometry image i (p ∷ ps) ≡ blocks_at geometry image i ps
unfolding blocks_at
at_zero geometry image i p ps e =
    let rest = filter (λ k. not (k == 0)) (map (named geometry image i) ps) in
    ap (λ k. cond (not (k == 0)) (k ∷ rest) rest) e

-- a position in the block map that points to block `b` adds `b` to the list
pub at_some : (geometry : Geometry) (image : List ℕ) (i b : ℕ) (p : List ℕ) (ps : List (List ℕ)) → named geometry image i p ≡ b → b ≢ 0
    → blocks_at geometry image i (p ∷ ps) ≡ b ∷ blocks_at geometry image i ps
unfolding blocks_at
at_some geometry image i b p ps e some =
    let rest = filter (λ k. not (k == 0)) (map (named geometry image i) ps) in
    ap (λ k. cond (not (k == 0)) (k ∷ rest) rest) e ∙ ap (λ t. cond (not t) (b ∷ rest) rest) (not_zero b some)

-- if a position in the block map holds the same number in both images, adding it keeps the lists of blocks equal
pub at_same : (geometry : Geometry) (old new : List ℕ) (i : ℕ) (p : List ℕ) (ps : List (List ℕ)) → named geometry new i p ≡ named geometry old i p
    → blocks_at geometry new i ps ≡ blocks_at geometry old i ps → blocks_at geometry new i (p ∷ ps) ≡ blocks_at geometry old i (p ∷ ps)
unfolding blocks_at
at_same geometry old new i p ps e f =
    let rest = filter (λ k. not (k == 0)) (map (named geometry old i) ps) in
    ap (λ xs. cond (not (named geometry new i p == 0)) (named geometry new i p ∷ xs) xs) f
    ∙ ap (λ k. cond (not (k == 0)) (k ∷ rest) rest) e

-- a position in the block map is listed before the positions below it
pub from_below : (n : ℕ) (p : List ℕ) (d : ℕ) → places_from n p d ≡ p ∷ places_below n p d
from_below n p zero = refl
from_below n p (suc d) = refl

-- lists of positions in the block map that point to no block, joined, point to no block
flat_none : (geometry : Geometry) (image : List ℕ) (i : ℕ) (f : ℕ → List (List ℕ)) (from count : ℕ)
    → ((x : ℕ) → blocks_at geometry image i (f x) ≡ [])
    → blocks_at geometry image i (flat_map f (range_with_len from count)) ≡ []
flat_none geometry image i f from zero none = at_nil geometry image i
flat_none geometry image i f from (suc count) none =
    let rest = flat_map f (range_with_len (from + 1) count) in
    at_append geometry image i (f from) rest
    ∙ (ap (λ xs. xs ++ blocks_at geometry image i rest) (none from) ∙ flat_none geometry image i f (from + 1) count none)

-- if no position in the block map at or below a position points to a block, the list of the positions at and below it gives no blocks
pub from_none : (geometry : Geometry) (image : List ℕ) (i n d a : ℕ) (p : List ℕ)
    → ((q : List ℕ) → IsFront (a ∷ p) q → named geometry image i q ≡ 0) → blocks_at geometry image i (places_from n (a ∷ p) d) ≡ []
from_none geometry image i n zero a p none = at_zero geometry image i (a ∷ p) [] (none (a ∷ p) (inl refl)) ∙ at_nil geometry image i
from_none geometry image i n (suc d) a p none =
    at_zero geometry image i (a ∷ p) (flat_map (λ x. places_from n (x ∷ (a ∷ p)) d) (range_with_len 0 n)) (none (a ∷ p) (inl refl))
    ∙ flat_none geometry image i (λ x. places_from n (x ∷ (a ∷ p)) d) 0 n
    (λ x. from_none geometry image i n d x (a ∷ p) (λ q front. none q (front_above q p x a front)))
