-- The free list of a new volume: its heads, one after another, list all data blocks except the root's.
use Rattle.std.proofs.Common.{◌≡◌, ℕ, zero, suc, ◌+◌, ◌-◌, ◌*◌, ◌/◌, ◌%◌, ◌<◌, ◌≤◌, List, refl, sym, subst, ◌∙◌, arith, inl, inr, true, nat_lt}
use Rattle.std.specs.List.{range_with_len}
use Rattle.std.proofs.lemmas.Bool.{cases_lt}
use Rattle.std.proofs.lemmas.Bool.Decides.{nat_tests}
use Rattle.pdp_words.specs.Words.{word}
use Rattle.vol_layout.specs.Edition.{constants, number}
use Rattle.vol_layout.specs.Geometry.{in_zone}
use Rattle.vol_layout.specs.Super.{free_head}
use Rattle.vol_layout.specs.declared.edition.Edition.{Edition}
use Rattle.vol_layout.specs.declared.edition.Edition.TheVariants.{V6, V7}
use Rattle.vol_layout.specs.declared.geometry.Geometry.{Geometry}
use Rattle.vol_free.specs.Stack.{Once, IsStack, IsFree}
use Rattle.vol_free.proofs.Stacks.{stack_above, stack_chained, stack_zero}
use Rattle.vol_free.proofs.Frames.{IsFree-none}
use Rattle.vol_mkfs.proofs.NewVolumes.{IsIn-range_with_len, range_before}
use Rattle.vol_mkfs.proofs.BlankHeads.{head_count, head_number, listed_chain, listed_last, listed_below}
use Rattle.vol_mkfs.specs.Blank.{HasHead, first_chain}
use Rattle.vol_mkfs.specs.Mkfs.{is_chain}

-- an array has at least 50 entries
pub slots_some : (edition : Edition) → 50 ≤ (constants edition).free_slots
slots_some V6 = omega arith
slots_some V7 = omega arith

-- an array has at most 100 entries
pub slots_few : (edition : Edition) → (constants edition).free_slots ≤ 100
slots_few V6 = omega arith
slots_few V7 = omega arith

-- if the distance to the volume's end is a multiple of an array's entries, the remainder is 0
rest_none : (edition : Edition) (k top end : ℕ) → top + (constants edition).free_slots * (k + 1) ≡ end
    → (end - top) % (constants edition).free_slots ≡ 0
rest_none V6 k top end e = omega arith
rest_none V7 k top end e = omega arith

-- the distance from the first chain block to the volume's end is a multiple of an array's entries
chain_fills : (edition : Edition) (start end : ℕ) → start < end
    → start + (end - start - 1) % (constants edition).free_slots + 1
    + (constants edition).free_slots * ((end - start - 1) / (constants edition).free_slots) ≡ end
chain_fills V6 start end h = omega arith
chain_fills V7 start end h = omega arith

-- a remainder is below its divisor
rest_below : (edition : Edition) (n : ℕ) → n % (constants edition).free_slots < (constants edition).free_slots
rest_below V6 n = omega arith
rest_below V7 n = omega arith

-- the first chain block is a whole number of arrays before the volume's end
pub chain_first : (geometry : Geometry) → geometry.zone_start < geometry.zone_end
    → first_chain geometry + (constants geometry.edition).free_slots
    * ((geometry.zone_end - geometry.zone_start - 1) / (constants geometry.edition).free_slots) ≡ geometry.zone_end
unfolding first_chain
chain_first geometry h = chain_fills geometry.edition geometry.zone_start geometry.zone_end h

-- the first chain block is after the root's block
pub chain_after : (geometry : Geometry) → geometry.zone_start + 1 ≤ first_chain geometry
unfolding first_chain
chain_after geometry = omega arith

-- the first chain block is after the first data block by at most the number of entries in an array
pub chain_near : (geometry : Geometry) → first_chain geometry ≤ geometry.zone_start + (constants geometry.edition).free_slots
unfolding first_chain
chain_near geometry =
    let below = rest_below geometry.edition (geometry.zone_end - geometry.zone_start - 1) in omega (arith, below)

-- the first chain block is at most the volume's end
chain_by : (edition : Edition) (start end : ℕ) → start < end → start + (end - start - 1) % (constants edition).free_slots + 1 ≤ end
chain_by V6 start end h = omega arith
chain_by V7 start end h = omega arith

-- the same law for a geometry
pub chain_within : (geometry : Geometry) → geometry.zone_start < geometry.zone_end
    → geometry.zone_start + (geometry.zone_end - geometry.zone_start - 1) % (constants geometry.edition).free_slots + 1 ≤ geometry.zone_end
chain_within geometry h = chain_by geometry.edition geometry.zone_start geometry.zone_end h

-- if the first chain block isn't the volume's end, at least as many blocks as an array has entries remain after it
chain_more : (edition : Edition) (start end : ℕ) → start < end → start + (end - start - 1) % (constants edition).free_slots + 1 < end
    → start + (end - start - 1) % (constants edition).free_slots + 1 + (constants edition).free_slots ≤ end
chain_more V6 start end h more = omega arith
chain_more V7 start end h more = omega arith

-- the conditions for writing the super-block's head hold for the first chain block
pub chain_fits : (geometry : Geometry) (top : ℕ) → geometry.zone_start < geometry.zone_end → top ≡ first_chain geometry
    → (geometry.zone_start ≤ top) × (top ≤ geometry.zone_end) × (top - geometry.zone_start ≤ 100)
    × (top < geometry.zone_end → top + (constants geometry.edition).free_slots ≤ geometry.zone_end)
unfolding first_chain
chain_fits geometry top some is =
    let few : (constants geometry.edition).free_slots ≤ 100 = slots_few geometry.edition in
    let below = rest_below geometry.edition (geometry.zone_end - geometry.zone_start - 1) in
    let within = chain_within geometry some in (
      omega arith,
      omega (arith, within),
      omega (arith, below),
      λ more. omega (arith, chain_more geometry.edition geometry.zone_start geometry.zone_end some (omega arith)),
    )

-- a block whose distance to the volume's end is a multiple of an array's entries is a chain block
chain_here : (geometry : Geometry) (b : ℕ) → geometry.zone_start < b → b < geometry.zone_end
    → (geometry.zone_end - b) % (constants geometry.edition).free_slots ≡ 0 → is_chain geometry b ≡ true
unfolding is_chain
chain_here geometry b low high left =
    let after : nat_lt geometry.zone_start b ≡ true = grind (arith, nat_tests) in
    let before : nat_lt b geometry.zone_end ≡ true = grind (arith, nat_tests) in
    rw (after, before, left)

-- no number occurs twice in a range
once_range : (a n : ℕ) → Once (range_with_len a n)
unfolding Once
once_range a zero = tt
once_range a (suc n) =
    ((λ inside. let above : a + 1 ≤ a = IsIn-range_with_len a (a + 1) n inside in absurd (omega arith)), once_range (a + 1) n)

module _ (geometry : Geometry) (image : List ℕ)
    (chains : (c : ℕ) → is_chain geometry c ≡ true
    → HasHead geometry image (512 * c) (c + (constants geometry.edition).free_slots) (constants geometry.edition).free_slots) where
  -- a head with one more entry counted describes a stack with one more block
  grow : (at top count n : ℕ) → HasHead geometry image at top count → count ≤ (constants geometry.edition).free_slots
      → top ≤ geometry.zone_end → geometry.zone_start + count ≤ top → n < count
      → IsStack geometry image at 1 (range_with_len top (geometry.zone_end - top))
      → IsStack geometry image at (n + 1) (range_with_len (top - n) (geometry.zone_end - (top - n)))
  grow at top count zero head few within low h base =
      let none : top - 0 ≡ top = omega arith in rw none base
  grow at top count (suc n) head few within low h base =
      let b = top - suc n in
      let next : b + 1 ≡ top - n = omega arith in
      let rest : IsStack geometry image at (n + 1) (range_with_len (top - n) (geometry.zone_end - (top - n))) =
      grow at top count n head few within low (omega arith) base in
      let is : number geometry.edition image (at + 2) (n + 1) ≡ b =
      head_number geometry image at top count (n + 1) head (omega arith)
      ∙ (listed_below geometry top count (n + 1) (omega arith) (omega arith) ∙ omega arith) in
      let zone : in_zone geometry b ≡ true = grind (arith, nat_tests) in
      subst (IsStack geometry image at (suc n + 1)) (sym (range_before (top - n) b geometry.zone_end next (omega arith)))
      (stack_above geometry image at (n + 1) (suc n + 1) b _ (omega arith) (omega arith) is zone rest)

  -- the blocks from entry 0 of a head up are a stack with one entry counted
  base : (k at top count : ℕ) → HasHead geometry image at top count → geometry.zone_start < top
      → top + (constants geometry.edition).free_slots * k ≡ geometry.zone_end
      → IsStack geometry image at 1 (range_with_len top (geometry.zone_end - top))
  base zero at top count head low fills =
      let slots = (constants geometry.edition).free_slots in
      let end : top ≡ geometry.zone_end = omega arith in
      let none : geometry.zone_end - top ≡ 0 = omega arith in
      let some : 50 ≤ slots = slots_some geometry.edition in
      let is : number geometry.edition image (at + 2) 0 ≡ 0 =
      head_number geometry image at top count 0 head (omega arith) ∙ listed_last geometry top count end in
      rw none (stack_zero geometry image at is)
  base (suc k) at top count head low fills =
      let slots = (constants geometry.edition).free_slots in
      let some : 50 ≤ slots = slots_some geometry.edition in
      let more : slots * suc k ≡ slots + slots * k = omega arith in
      let within : top + slots ≤ geometry.zone_end = omega arith in
      let is : number geometry.edition image (at + 2) 0 ≡ top =
      head_number geometry image at top count 0 head (omega arith) ∙ listed_chain geometry top count (omega arith) in
      let left : (geometry.zone_end - top) % slots ≡ 0 = rest_none geometry.edition k top geometry.zone_end (omega arith) in
      let chain : is_chain geometry top ≡ true = chain_here geometry top low (omega arith) left in
      let next = chains top chain in
      let word_of : word image (512 * top) ≡ slots = head_count geometry image (512 * top) (top + slots) slots next in
      let zone : in_zone geometry top ≡ true = grind (arith, nat_tests) in
      let above : IsStack geometry image (512 * top) 1 (range_with_len (top + slots) (geometry.zone_end - (top + slots))) =
      base k (512 * top) (top + slots) slots next (omega arith) (omega arith) in
      let all : IsStack geometry image (512 * top) (slots - 1 + 1)
      (range_with_len (top + slots - (slots - 1)) (geometry.zone_end - (top + slots - (slots - 1)))) =
      grow (512 * top) (top + slots) slots (slots - 1) next (omega arith) within (omega arith) (omega arith) above in
      let count_is : slots - 1 + 1 ≡ word image (512 * top) = omega arith in
      let first : top + slots - (slots - 1) ≡ top + 1 = omega arith in
      let rest : IsStack geometry image (512 * top) (word image (512 * top)) (range_with_len (top + 1) (geometry.zone_end - (top + 1))) =
      subst (λ n. IsStack geometry image (512 * top) n (range_with_len (top + 1) (geometry.zone_end - (top + 1)))) count_is
      (subst (λ a. IsStack geometry image (512 * top) (slots - 1 + 1) (range_with_len a (geometry.zone_end - a))) first all) in
      subst (IsStack geometry image at 1) (sym (range_before (top + 1) top geometry.zone_end refl (omega arith)))
      (stack_chained geometry image at 1 top _ refl is zone (omega arith) rest)

  -- the free blocks are all data blocks except the root's
  pub blank_free : geometry.zone_start < geometry.zone_end
      → (geometry.zone_end ≡ geometry.zone_start + 1 → word image (free_head geometry.edition) ≡ 0)
      → (geometry.zone_start + 1 < geometry.zone_end
      → HasHead geometry image (free_head geometry.edition) (first_chain geometry) (first_chain geometry - geometry.zone_start))
      → IsFree geometry image (range_with_len (geometry.zone_start + 1) (geometry.zone_end - (geometry.zone_start + 1)))
  blank_free some none head = elim (cases_lt (geometry.zone_start + 1) geometry.zone_end) [
    | inr past ↦
        let no_more : geometry.zone_end - (geometry.zone_start + 1) ≡ 0 = omega arith in
        rw no_more (IsFree-none geometry image (none (omega arith)))
    | inl more ↦
        let top = first_chain geometry in
        let at = free_head geometry.edition in
        let count = top - geometry.zone_start in
        let after : geometry.zone_start + 1 ≤ top = chain_after geometry in
        let near : top ≤ geometry.zone_start + (constants geometry.edition).free_slots = chain_near geometry in
        let arrays = (geometry.zone_end - geometry.zone_start - 1) / (constants geometry.edition).free_slots in
        let fills : top + (constants geometry.edition).free_slots * arrays ≡ geometry.zone_end = chain_first geometry some in
        let count_is : word image at ≡ count = head_count geometry image at top count (head more) in
        let chained : IsStack geometry image at 1 (range_with_len top (geometry.zone_end - top)) =
        base arrays at top count (head more) (omega arith) fills in
        let all : IsStack geometry image at (count - 1 + 1) (range_with_len (top - (count - 1)) (geometry.zone_end - (top - (count - 1)))) =
        grow at top count (count - 1) (head more) (omega arith) (omega arith) (omega arith) (omega arith) chained in
        let whole : count - 1 + 1 ≡ word image at = omega arith in
        let first : top - (count - 1) ≡ geometry.zone_start + 1 = omega arith in
        record {
          count = omega arith;
          stack = subst (λ n. IsStack geometry image at n (range_with_len (geometry.zone_start + 1) (geometry.zone_end - (geometry.zone_start + 1)))) whole
              (subst (λ a. IsStack geometry image at (count - 1 + 1) (range_with_len a (geometry.zone_end - a))) first all);
          once = once_range (geometry.zone_start + 1) (geometry.zone_end - (geometry.zone_start + 1));
        }
  ]
