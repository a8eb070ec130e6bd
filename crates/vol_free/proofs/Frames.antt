-- Writes that do not change the stack of free blocks.
use Rattle.std.proofs.Common.{true, ◌≡◌, ℕ, ◌+◌, ◌*◌, ◌≤◌, ◌⊎◌, inl, inr, List, [], arith}
use Rattle.std.proofs.lemmas.Bool.{cases_lt}
use Rattle.std.proofs.Math.Nat.{eq-or-lt_of_le}
use Rattle.pdp_words.specs.Words.{word, SameOutside}
use Rattle.vol_layout.specs.Geometry.{in_zone}
use Rattle.vol_layout.specs.Super.{free_head}
use Rattle.vol_layout.specs.declared.geometry.Geometry.{Geometry}
use Rattle.vol_free.specs.Stack.{IsIn, Once, IsStack, IsFree, StaysBut}
use Rattle.vol_free.proofs.Copies.{IsCopy, word_copied, number_copied, copied_below, copied_above}
use Rattle.vol_free.proofs.Stacks.{IsStack-moved, array_copied, stack_zoned, zone_from, head_end}

-- each free block is a data block
pub free_zone : {geometry : Geometry} {image blocks : List ℕ} → IsFree geometry image blocks → (b : ℕ) → IsIn b blocks
    → in_zone geometry b ≡ true
free_zone {geometry = geometry} {image = image} {blocks = blocks} free b i =
    stack_zoned geometry image (free_head geometry.edition) (word image (free_head geometry.edition)) blocks free.stack b i

-- no free block is before the data zone
pub free_from : {geometry : Geometry} {image blocks : List ℕ} → IsFree geometry image blocks → (b : ℕ) → IsIn b blocks
    → geometry.zone_start ≤ b
free_from {geometry = geometry} free b i = zone_from geometry b (free_zone free b i)

-- the free blocks are the same if the super-block's count and array and the first 202 bytes of each free block are unchanged
pub IsFree-kept : {geometry : Geometry} {old new blocks : List ℕ} → IsCopy old new (free_head geometry.edition) (free_head geometry.edition) 202
    → ((b : ℕ) → IsIn b blocks → IsCopy old new (512 * b) (512 * b) 202) → IsFree geometry old blocks → IsFree geometry new blocks
IsFree-kept {geometry = geometry} {old = old} {new = new} {blocks = blocks} head kept free =
    let same : word new (free_head geometry.edition) ≡ word old (free_head geometry.edition) =
    word_copied head (free_head geometry.edition) (free_head geometry.edition) 0 (omega arith) (omega arith) (omega arith) in
    record {
      count = omega (arith, same, free.count);
      stack = rw same (IsStack-moved geometry old new (free_head geometry.edition) (free_head geometry.edition) (word old (free_head geometry.edition)) blocks
          (λ j h. number_copied geometry.edition (array_copied head) j (omega (arith, free.count))) kept free.stack);
      once = free.once;
    }

-- a write that begins after the super-block's count and array, and overlaps no free block, does not change the free blocks
pub IsFree-behind : {geometry : Geometry} {old new blocks : List ℕ} {from to : ℕ} → SameOutside old new from to
    → free_head geometry.edition + 202 ≤ from → ((b : ℕ) → IsIn b blocks → (512 * b + 512 ≤ from) ⊎ (to ≤ 512 * b))
    → IsFree geometry old blocks → IsFree geometry new blocks
IsFree-behind {geometry = geometry} s h apart free =
    IsFree-kept (copied_below s (free_head geometry.edition) 202 (omega arith))
    (λ b i. elim (apart b i) [ inl below ↦ copied_below s (512 * b) 202 (omega arith) | inr above ↦ copied_above s (512 * b) 202 above ]) free

-- a write that begins at byte 720 or later, after the free list of either edition, and overlaps no free block, does not change the free blocks
pub IsFree-outside : {geometry : Geometry} {old new blocks : List ℕ} {from to : ℕ} → SameOutside old new from to
    → 720 ≤ from → ((b : ℕ) → IsIn b blocks → (512 * b + 512 ≤ from) ⊎ (to ≤ 512 * b)) → IsFree geometry old blocks
    → IsFree geometry new blocks
IsFree-outside {geometry = geometry} s h apart free =
    let end : free_head geometry.edition + 202 ≤ 720 = head_end geometry.edition in IsFree-behind s (omega arith) apart free

-- a write between the super-block's free list and the data zone does not change the free blocks
pub IsFree-before_zone : {geometry : Geometry} {old new blocks : List ℕ} {from to : ℕ} → SameOutside old new from to
    → 720 ≤ from → to ≤ 512 * geometry.zone_start → IsFree geometry old blocks → IsFree geometry new blocks
IsFree-before_zone s h t free =
    IsFree-outside s h (λ b i. inr (omega (arith, free_from free b i))) free

-- if the super-block's count is 0, no block is free
pub IsFree-none : (geometry : Geometry) (image : List ℕ) → word image (free_head geometry.edition) ≡ 0 → IsFree geometry image []
unfolding IsStack Once
IsFree-none geometry image none = record { count = omega arith; stack = inl none; once = tt }

-- two different blocks don't overlap
pub apart_blocks : (b c : ℕ) → (b ≡ c → ⊥) → (512 * b + 512 ≤ 512 * c) ⊎ (512 * c + 512 ≤ 512 * b)
apart_blocks b c differ =
    elim (cases_lt c b) [
      | inl less ↦ inr (omega arith)
      | inr more ↦
          elim (eq-or-lt_of_le more) [ inl same ↦ absurd (differ same) | inr less ↦ inl (omega arith) ]
    ]

-- a write within a block that isn't free does not change the free blocks
pub IsFree-within : {geometry : Geometry} {old new blocks : List ℕ} {from to : ℕ} → SameOutside old new from to → (b : ℕ)
    → 2 ≤ b → 512 * b ≤ from → to ≤ 512 * b + 512 → (IsIn b blocks → ⊥) → IsFree geometry old blocks → IsFree geometry new blocks
IsFree-within {blocks = blocks} {from = from} {to = to} s b two low high fresh free =
    IsFree-outside s (omega arith)
    (λ c i. elim (apart_blocks c b (λ same. fresh (rw (← same) i))) [ inl below ↦ inl (omega arith) | inr above ↦ inr (omega arith) ]) free

-- if only the super-block's count and array and block `b` have changed, the first 202 bytes of the other blocks are unchanged
pub kept_apart : {geometry : Geometry} {old new : List ℕ} {b size : ℕ} → StaysBut geometry old new b size → size ≤ 512 → (c : ℕ)
    → 2 ≤ c → (b ≡ c → ⊥) → IsCopy old new (512 * c) (512 * c) 202
kept_apart {geometry = geometry} {b = b} s small c two differ =
    let end : free_head geometry.edition + 202 ≤ 720 = head_end geometry.edition in
    elim (apart_blocks b c differ) [
      | inl less ↦ record { bytes = λ k h. s.above (512 * c + k) (omega arith) }
      | inr more ↦ record { bytes = λ k h. s.between (512 * c + k) (omega arith) (omega arith) }
    ]
