-- Laws of the first logical block at or below a position in the block map.
use Rattle.std.proofs.Common.{◌≡◌, ℕ, suc, ◌+◌, ◌-◌, ◌*◌, ◌/◌, ◌^◌, ◌<◌, ◌≤◌, ◌∙◌, true, false, sym, ap, subst, List, [], ◌∷◌, arith, inl, inr}
use Rattle.std.proofs.lemmas.Bool.Decides.{nat_tests}
use Rattle.std.proofs.Math.Nat.{one-le-pow, pow-suc, mul-le-mul_right, div-mul-le_self}
use Rattle.vol_layout.specs.Edition.{constants}
use Rattle.vol_layout.specs.BlockMaps.{pointer_count, levels_below, IsPlace}
use Rattle.vol_layout.specs.Laws.{IsFront}
use Rattle.vol_layout.specs.declared.edition.Edition.{Edition}
use Rattle.vol_layout.specs.declared.edition.Edition.TheVariants.{V6, V7}
use Rattle.vol_layout.specs.declared.block_map.BlockMap.{BlockMap}
use Rattle.vol_layout.specs.declared.block_map.BlockMap.TheVariants.{Small, Large, Deep, Bare}
use Rattle.vol_file.specs.Clears.{first_block, is_past}

-- a position in the block map is past the blocks kept by a truncation if its first logical block is not kept
pub past_true : (form : BlockMap) (kept : ℕ) (q : List ℕ) → kept ≤ first_block form q → is_past form kept q ≡ true
past_true form kept q h = grind (arith, nat_tests, h)

-- a position in the block map is not past the blocks kept by a truncation if its first logical block is kept
pub past_false : (form : BlockMap) (kept : ℕ) (q : List ℕ) → first_block form q < kept → is_past form kept q ≡ false
past_false form kept q h = grind (arith, nat_tests, h)

-- if a position in the block map is past the blocks kept by a truncation, its first logical block is not kept
pub past_from : (form : BlockMap) (kept : ℕ) (q : List ℕ) → is_past form kept q ≡ true → kept ≤ first_block form q
past_from form kept q h = grind (arith, nat_tests, h)

-- if a position in the block map is not past the blocks kept by a truncation, its first logical block is kept
pub past_within : (form : BlockMap) (kept : ℕ) (q : List ℕ) → is_past form kept q ≡ false → first_block form q < kept
past_within form kept q h = grind (arith, nat_tests, h)

-- the first logical block at or below a position in the block map is not before the first one of a position above it
pub first_front : (form : BlockMap) (a : ℕ) (p q : List ℕ) → IsFront (a ∷ p) q → first_block form (a ∷ p) ≤ first_block form q
first_front form a p [] front = absurd front
first_front form a p (j ∷ r) (inl e) = subst (λ x. first_block form (a ∷ p) ≤ first_block form x) e (omega arith)
first_front form a p (j ∷ []) (inr front) = absurd front
first_front form a p (j ∷ (b ∷ r)) (inr front) =
    let above : first_block form (a ∷ p) ≤ first_block form (b ∷ r) = first_front form a p (b ∷ r) front in
    omega (arith, above)

-- a position in the block map below a position past the blocks kept by a truncation is past them too
pub past_front : (form : BlockMap) (kept a : ℕ) (p q : List ℕ) → is_past form kept (a ∷ p) ≡ true → IsFront (a ∷ p) q → is_past form kept q ≡ true
past_front form kept a p q on front =
    let here = past_from form kept (a ∷ p) on in
    let later = first_front form a p q front in
    past_true form kept q (omega (arith, here, later))

-- the number of logical blocks at or below a position in the block map
abbrev pub spread_of : BlockMap → List ℕ → ℕ
spread_of form q = pointer_count form ^ levels_below form q

-- if a block map has a position, its indirect blocks have at least one entry
pub some_pointers : (form : BlockMap) (p : List ℕ) → IsPlace form p → 1 ≤ pointer_count form
some_pointers Small p place = omega arith
some_pointers Large p place = omega arith
some_pointers Deep p place = omega arith
some_pointers Bare [] place = absurd place
some_pointers Bare (k ∷ []) place = absurd (omega (arith, place))
some_pointers Bare (j ∷ (a ∷ p)) place = absurd (omega (arith, place.0))

-- at least one logical block is at or below each position in the block map
pub spread_some : (form : BlockMap) (p : List ℕ) → IsPlace form p → 1 ≤ spread_of form p
spread_some form p place =
    let some = some_pointers form p place in
    one-le-pow (levels_below form p) (pointer_count form) (omega (arith, some))

-- each entry of an indirect block has an equal share of the logical blocks below the block
spread_entry : (form : BlockMap) (j a : ℕ) (p : List ℕ) → IsPlace form (j ∷ (a ∷ p))
    → spread_of form (a ∷ p) ≡ spread_of form (j ∷ (a ∷ p)) * pointer_count form
spread_entry form j a p place =
    let next : levels_below form (a ∷ p) ≡ suc (levels_below form (j ∷ (a ∷ p))) = omega (arith, place.1) in
    ap (λ d. pointer_count form ^ d) next ∙ pow-suc (pointer_count form) (levels_below form (j ∷ (a ∷ p)))

-- the logical blocks below a position in the block map end no later than those below a position above it
pub spread_front : (form : BlockMap) (a : ℕ) (p q : List ℕ) → IsPlace form q → IsFront (a ∷ p) q
    → first_block form q + spread_of form q ≤ first_block form (a ∷ p) + spread_of form (a ∷ p)
spread_front form a p [] place front = absurd front
spread_front form a p (j ∷ r) place (inl e) =
    subst (λ x. first_block form x + spread_of form x ≤ first_block form (a ∷ p) + spread_of form (a ∷ p)) e (omega arith)
spread_front form a p (j ∷ []) place (inr front) = absurd front
spread_front form a p (j ∷ (b ∷ r)) place (inr front) =
    let above = spread_front form a p (b ∷ r) place.2 front in
    let w = spread_of form (j ∷ (b ∷ r)) in
    let whole : spread_of form (b ∷ r) ≡ w * pointer_count form = spread_entry form j b r place in
    let part : (j + 1) * w ≤ pointer_count form * w = mul-le-mul_right w (omega (arith, place.0)) in
    let split : (j + 1) * w ≡ j * w + w = grind arith in
    let turn : pointer_count form * w ≡ w * pointer_count form = grind arith in
    omega (arith, above, whole, part, split, turn)

-- the first logical block below an entry, computed from the first one below its block
pub entry_first : (form : BlockMap) (n level j a : ℕ) (p : List ℕ) → pointer_count form ≡ n → levels_below form (a ∷ p) ≡ level
    → first_block form (j ∷ (a ∷ p)) ≡ first_block form (a ∷ p) + j * n ^ (level - 1)
entry_first form n level j a p many deep =
    ap (λ c. first_block form (a ∷ p) + j * c ^ levels_below form (j ∷ (a ∷ p))) many
    ∙ ap (λ d. first_block form (a ∷ p) + j * n ^ (d - 1)) deep

-- subtracting `more` from the number of kept blocks is the same as starting `more` blocks later
sub_more : (bound first more kept rest : ℕ) → kept ≡ bound - first → rest ≡ kept - more → rest ≡ bound - (first + more)
sub_more bound first more kept rest e f = omega arith

-- the number of logical blocks kept by a truncation that are at or after entry `j`
pub entry_rest : (form : BlockMap) (n level j a bound kept rest : ℕ) (p : List ℕ) → pointer_count form ≡ n → levels_below form (a ∷ p) ≡ level
    → kept ≡ bound - first_block form (a ∷ p) → rest ≡ kept - j * n ^ (level - 1) → rest ≡ bound - first_block form (j ∷ (a ∷ p))
entry_rest form n level j a bound kept rest p many deep e f =
    sub_more bound (first_block form (a ∷ p)) (j * n ^ (level - 1)) kept rest e f
    ∙ ap (λ x. bound - x) (sym (entry_first form n level j a p many deep))

-- if no kept block is left at a position in the block map, the position is past the blocks kept by a truncation
pub rest_past : (form : BlockMap) (bound rest : ℕ) (q : List ℕ) → rest ≡ bound - first_block form q → rest ≡ 0 → is_past form bound q ≡ true
rest_past form bound rest q e none = past_true form bound q (omega arith)

-- if a kept block is left at a position in the block map, the position is not past the blocks kept by a truncation
pub rest_kept : (form : BlockMap) (bound rest : ℕ) (q : List ℕ) → rest ≡ bound - first_block form q → (rest ≡ 0 → ⊥) → is_past form bound q ≡ false
rest_kept form bound rest q e some = past_false form bound q (omega arith)

-- no position in the block map below an entry before the entry in which the blocks kept by a truncation end is past the kept blocks
pub entry_kept : (form : BlockMap) (n level x j a bound kept : ℕ) (p q : List ℕ) → pointer_count form ≡ n → levels_below form (a ∷ p) ≡ level
    → kept ≡ bound - first_block form (a ∷ p) → x < j → j ≤ kept / n ^ (level - 1)
    → IsPlace form q → IsFront (x ∷ (a ∷ p)) q → is_past form bound q ≡ false
entry_kept form n level x j a bound kept p q many deep e less within place front =
    let w = n ^ (level - 1) in
    let is : spread_of form (x ∷ (a ∷ p)) ≡ w = ap (λ c. c ^ levels_below form (x ∷ (a ∷ p))) many ∙ ap (λ d. n ^ (d - 1)) deep in
    let start = entry_first form n level x a p many deep in
    let end = spread_front form x (a ∷ p) q place front in
    let some = spread_some form q place in
    let split : (x + 1) * w ≡ x * w + w = grind arith in
    let first : (x + 1) * w ≤ j * w = mul-le-mul_right w (omega arith) in
    let second : j * w ≤ kept / w * w = mul-le-mul_right w within in
    let third : kept / w * w ≤ kept = div-mul-le_self kept w in
    let low : first_block form q + spread_of form q ≤ first_block form (a ∷ p) + (x * w + w) = omega (arith, end, start, is) in
    past_false form bound q (omega (arith, low, some, split, first, second, third, e))

-- no position in the block map has more than three levels below it
pub levels_few : (form : BlockMap) (p : List ℕ) → IsPlace form p → levels_below form p ≤ 3
levels_few form [] place = absurd place
levels_few Small (k ∷ []) place = omega arith
levels_few Large (k ∷ []) place = grind (arith, nat_tests)
levels_few Deep (k ∷ []) place = omega (arith, place)
levels_few Bare (k ∷ []) place = omega arith
levels_few form (j ∷ (a ∷ p)) place = let above = levels_few form (a ∷ p) place.2 in omega (arith, above)

-- an indirect block has at least one entry
pub some_edition : (edition : Edition) → 0 < (constants edition).pointers
some_edition V6 = omega arith
some_edition V7 = omega arith
