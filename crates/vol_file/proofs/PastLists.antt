-- Laws of the lists of blocks at positions in the block map past the blocks kept by a truncation.
use Rattle.std.proofs.Common.{◌≡◌, ℕ, zero, suc, ◌+◌, ◌<◌, ◌≤◌, ◌∙◌, Bool, true, false, sym, ap, List, [], ◌∷◌, ◌++◌, filter, cond, refl, arith, inl}
use Rattle.std.proofs.lemmas.List.Elements.{filter-append}
use Rattle.std.specs.List.{flat_map, range_with_len}
use Rattle.vol_layout.specs.BlockMaps.{IsPlace, levels_below, pointer_count, places_from}
use Rattle.vol_layout.specs.Laws.{IsFront}
use Rattle.vol_layout.specs.BlockPointers.{named}
use Rattle.vol_layout.specs.declared.geometry.Geometry.{Geometry}
use Rattle.vol_layout.specs.declared.block_map.BlockMap.{BlockMap}
use Rattle.vol_layout.proofs.PlaceLaws.{front_above}
use Rattle.vol_file.specs.Clears.{blocks_at, places_among, places_below}
use Rattle.vol_file.proofs.BlockLists.{at_nil, at_append, at_zero, at_some, at_same}

-- the blocks at those of some positions in the block map that are past the blocks kept by a truncation
abbrev pub past_at : Geometry → List ℕ → ℕ → (List ℕ → Bool) → List (List ℕ) → List ℕ
past_at geometry image i past ps = blocks_at geometry image i (filter past ps)

-- the blocks for two joined lists of positions in the block map are those for the first followed by those for the second
pub past_append : (geometry : Geometry) (image : List ℕ) (i : ℕ) (past : List ℕ → Bool) (ps qs : List (List ℕ))
    → past_at geometry image i past (ps ++ qs) ≡ past_at geometry image i past ps ++ past_at geometry image i past qs
past_append geometry image i past ps qs =
    ap (blocks_at geometry image i) (filter-append past ps qs) ∙ at_append geometry image i (filter past ps) (filter past qs)

-- a kept position in the block map adds nothing to the list
pub past_kept : (geometry : Geometry) (image : List ℕ) (i : ℕ) (past : List ℕ → Bool) (p : List ℕ) (ps : List (List ℕ)) → past p ≡ false
    → past_at geometry image i past (p ∷ ps) ≡ past_at geometry image i past ps
past_kept geometry image i past p ps e = ap (λ t. blocks_at geometry image i (cond t (p ∷ filter past ps) (filter past ps))) e

-- a position in the block map past the blocks kept by a truncation is one of the positions in the list
past_here : (geometry : Geometry) (image : List ℕ) (i : ℕ) (past : List ℕ → Bool) (p : List ℕ) (ps : List (List ℕ)) → past p ≡ true
    → past_at geometry image i past (p ∷ ps) ≡ blocks_at geometry image i (p ∷ filter past ps)
past_here geometry image i past p ps e = ap (λ t. blocks_at geometry image i (cond t (p ∷ filter past ps) (filter past ps))) e

-- a position in the block map past the blocks kept by a truncation adds the block to which it points
pub past_some : (geometry : Geometry) (image : List ℕ) (i b : ℕ) (past : List ℕ → Bool) (p : List ℕ) (ps : List (List ℕ)) → past p ≡ true
    → named geometry image i p ≡ b → (b ≡ 0 → ⊥) → past_at geometry image i past (p ∷ ps) ≡ b ∷ past_at geometry image i past ps
past_some geometry image i b past p ps e is some =
    past_here geometry image i past p ps e ∙ at_some geometry image i b p (filter past ps) is some

-- a position in the block map past the blocks kept by a truncation that points to no block adds nothing
past_zero : (geometry : Geometry) (image : List ℕ) (i : ℕ) (past : List ℕ → Bool) (p : List ℕ) (ps : List (List ℕ))
    → (past p ≡ true → named geometry image i p ≡ 0) → past_at geometry image i past (p ∷ ps) ≡ past_at geometry image i past ps
past_zero geometry image i past p ps none =
    elim (past p) as (λ t. past p ≡ t → past_at geometry image i past (p ∷ ps) ≡ past_at geometry image i past ps) [
      | true ↦ λ e. past_here geometry image i past p ps e ∙ at_zero geometry image i p (filter past ps) (none e)
      | false ↦ λ e. past_kept geometry image i past p ps e
    ] refl

-- if a position in the block map holds the same number in both images, adding it keeps the lists of blocks equal
past_same : (geometry : Geometry) (old new : List ℕ) (i : ℕ) (past : List ℕ → Bool) (p : List ℕ) (ps : List (List ℕ))
    → named geometry new i p ≡ named geometry old i p → past_at geometry new i past ps ≡ past_at geometry old i past ps
    → past_at geometry new i past (p ∷ ps) ≡ past_at geometry old i past (p ∷ ps)
past_same geometry old new i past p ps same rest =
    elim (past p) as (λ t. past p ≡ t → past_at geometry new i past (p ∷ ps) ≡ past_at geometry old i past (p ∷ ps)) [
      | true ↦ λ e. past_here geometry new i past p ps e
          ∙ (at_same geometry old new i p (filter past ps) same rest ∙ sym (past_here geometry old i past p ps e))
      | false ↦ λ e. past_kept geometry new i past p ps e ∙ (rest ∙ sym (past_kept geometry old i past p ps e))
    ] refl

-- lists of positions in the block map that hold the same numbers in both images, joined, give the same blocks
flat_same : (geometry : Geometry) (old new : List ℕ) (i : ℕ) (past : List ℕ → Bool) (f : ℕ → List (List ℕ)) (from count n : ℕ) → from + count ≤ n
    → ((x : ℕ) → x < n → past_at geometry new i past (f x) ≡ past_at geometry old i past (f x))
    → past_at geometry new i past (flat_map f (range_with_len from count)) ≡ past_at geometry old i past (flat_map f (range_with_len from count))
flat_same geometry old new i past f from zero n fit same = at_nil geometry new i ∙ sym (at_nil geometry old i)
flat_same geometry old new i past f from (suc count) n fit same =
    let rest = flat_map f (range_with_len (from + 1) count) in
    let here : past_at geometry new i past (f from) ≡ past_at geometry old i past (f from) = same from (omega arith) in
    let later : past_at geometry new i past rest ≡ past_at geometry old i past rest =
    flat_same geometry old new i past f (from + 1) count n (omega arith) same in
    past_append geometry new i past (f from) rest
    ∙ (ap (λ xs. xs ++ past_at geometry new i past rest) here
    ∙ (ap (λ xs. past_at geometry old i past (f from) ++ xs) later
    ∙ sym (past_append geometry old i past (f from) rest)))

-- lists of positions in the block map that give no blocks, joined, give no blocks
pub flat_none : (geometry : Geometry) (image : List ℕ) (i : ℕ) (past : List ℕ → Bool) (f : ℕ → List (List ℕ)) (from count n : ℕ) → from + count ≤ n
    → ((x : ℕ) → x < n → past_at geometry image i past (f x) ≡ [])
    → past_at geometry image i past (flat_map f (range_with_len from count)) ≡ []
flat_none geometry image i past f from zero n fit none = at_nil geometry image i
flat_none geometry image i past f from (suc count) n fit none =
    let rest = flat_map f (range_with_len (from + 1) count) in
    past_append geometry image i past (f from) rest
    ∙ (ap (λ xs. xs ++ past_at geometry image i past rest) (none from (omega arith))
    ∙ flat_none geometry image i past f (from + 1) count n (omega arith) none)

-- if the positions in the block map at and below a position hold the same numbers in both images, the list of them gives the same blocks
from_same : (geometry : Geometry) (old new : List ℕ) (i : ℕ) (past : List ℕ → Bool) (form : BlockMap) (n d a : ℕ) (p : List ℕ) → n ≤ pointer_count form
    → IsPlace form (a ∷ p) → d ≤ levels_below form (a ∷ p)
    → ((q : List ℕ) → IsPlace form q → IsFront (a ∷ p) q → named geometry new i q ≡ named geometry old i q)
    → past_at geometry new i past (places_from n (a ∷ p) d) ≡ past_at geometry old i past (places_from n (a ∷ p) d)
from_same geometry old new i past form n zero a p many place deep same =
    past_same geometry old new i past (a ∷ p) [] (same (a ∷ p) place (inl refl)) (at_nil geometry new i ∙ sym (at_nil geometry old i))
from_same geometry old new i past form n (suc d) a p many place deep same =
    past_same geometry old new i past (a ∷ p) (flat_map (λ x. places_from n (x ∷ (a ∷ p)) d) (range_with_len 0 n)) (same (a ∷ p) place (inl refl))
    (flat_same geometry old new i past (λ x. places_from n (x ∷ (a ∷ p)) d) 0 n n (omega arith)
    (λ x h. from_same geometry old new i past form n d x (a ∷ p) many (omega arith, omega arith, place) (omega arith)
    (λ q place_q front. same q place_q (front_above q p x a front))))

-- if the positions in the block map at and below a position hold the same numbers in both images, the list of those below it gives the same blocks
pub below_same : (geometry : Geometry) (old new : List ℕ) (i : ℕ) (past : List ℕ → Bool) (form : BlockMap) (n d a : ℕ) (p : List ℕ) → n ≤ pointer_count form
    → IsPlace form (a ∷ p) → d ≤ levels_below form (a ∷ p)
    → ((q : List ℕ) → IsPlace form q → IsFront (a ∷ p) q → named geometry new i q ≡ named geometry old i q)
    → past_at geometry new i past (places_below n (a ∷ p) d) ≡ past_at geometry old i past (places_below n (a ∷ p) d)
below_same geometry old new i past form n zero a p many place deep same = at_nil geometry new i ∙ sym (at_nil geometry old i)
below_same geometry old new i past form n (suc d) a p many place deep same =
    flat_same geometry old new i past (λ x. places_from n (x ∷ (a ∷ p)) d) 0 n n (omega arith)
    (λ x h. from_same geometry old new i past form n d x (a ∷ p) many (omega arith, omega arith, place) (omega arith)
    (λ q place_q front. same q place_q (front_above q p x a front)))

-- if no position in the block map at or below a position that is past the blocks kept by a truncation points to a block, the list of them gives no
-- blocks
pub past_none : (geometry : Geometry) (image : List ℕ) (i : ℕ) (past : List ℕ → Bool) (form : BlockMap) (n d a : ℕ) (p : List ℕ) → n ≤ pointer_count form
    → IsPlace form (a ∷ p) → d ≤ levels_below form (a ∷ p)
    → ((q : List ℕ) → IsPlace form q → IsFront (a ∷ p) q → past q ≡ true → named geometry image i q ≡ 0)
    → past_at geometry image i past (places_from n (a ∷ p) d) ≡ []
past_none geometry image i past form n zero a p many place deep none =
    past_zero geometry image i past (a ∷ p) [] (none (a ∷ p) place (inl refl)) ∙ at_nil geometry image i
past_none geometry image i past form n (suc d) a p many place deep none =
    past_zero geometry image i past (a ∷ p) (flat_map (λ x. places_from n (x ∷ (a ∷ p)) d) (range_with_len 0 n)) (none (a ∷ p) place (inl refl))
    ∙ flat_none geometry image i past (λ x. places_from n (x ∷ (a ∷ p)) d) 0 n n (omega arith)
    (λ x h. past_none geometry image i past form n d x (a ∷ p) many (omega arith, omega arith, place) (omega arith)
    (λ q place_q front. none q place_q (front_above q p x a front)))

-- the blocks at and below an entry come before those of the later entries
pub among_step : (geometry : Geometry) (image : List ℕ) (i : ℕ) (past : List ℕ → Bool) (n : ℕ) (level : ℕ → ℕ) (p : List ℕ) (j k count rest : ℕ)
    → k ≡ j + 1 → count ≡ rest + 1
    → past_at geometry image i past (places_among n level p j count)
    ≡ past_at geometry image i past (places_from n (j ∷ p) (level j)) ++ past_at geometry image i past (places_among n level p k rest)
among_step geometry image i past n level p j k count rest next more =
    let one : count ≡ suc rest = omega arith in
    ap (λ c. past_at geometry image i past (places_among n level p j c)) one
    ∙ (past_append geometry image i past (places_from n (j ∷ p) (level j)) (places_among n level p (j + 1) rest)
    ∙ ap (λ f. past_at geometry image i past (places_from n (j ∷ p) (level j)) ++ past_at geometry image i past (places_among n level p f rest)) (sym next))
