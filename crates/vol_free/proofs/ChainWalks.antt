-- Walking along the chain blocks of the free list.
use Rattle.std.proofs.Common.{◌≡◌, ℕ, ◌+◌, ◌-◌, ◌*◌, ◌≤◌, inl, true, List, [], length, sym, ◌∙◌, arith}
use Rattle.pdp_words.specs.Words.{word}
use Rattle.vol_layout.specs.Edition.{constants, number}
use Rattle.vol_layout.specs.Geometry.{in_zone}
use Rattle.vol_layout.specs.declared.geometry.Geometry.{Geometry}
use Rattle.vol_free.specs.Stack.{IsStack, IsFree}
use Rattle.vol_free.proofs.Stacks.{IsChained, stack_next, stack_last, stack_none}
use Rattle.vol_free.proofs.Lengths.{free_within}

-- `total` free blocks have been counted, and the stack at byte `at`, with `n` numbers left, has the others
pub record IsLeft (geometry : Geometry) (image : List ℕ) (at n total : ℕ) (blocks : List ℕ) : Type 0 where
  pub rest : List ℕ
  pub stack : IsStack geometry image at n rest
  pub sum : length blocks ≡ total + length rest

-- chain block `b` begins with the stack of the blocks that are left after `total + n` have been counted
pub record CountsNext (geometry : Geometry) (image : List ℕ) (n total b : ℕ) (blocks : List ℕ) : Type 0 where
  pub zone : in_zone geometry b ≡ true
  pub few : word image (512 * b) ≤ (constants geometry.edition).free_slots
  pub left : IsLeft geometry image (512 * b) (word image (512 * b)) (total + n) blocks

-- the number of blocks counted is at most the number of free blocks
pub left_within : {geometry : Geometry} {image blocks : List ℕ} {at n total : ℕ} → IsFree geometry image blocks
    → IsLeft geometry image at n total blocks → total ≤ geometry.zone_end - geometry.zone_start
left_within free left = omega (arith, free_within free, left.sum)

-- if number 0 isn't 0, it is the chain block that begins with the rest of the stack
pub left_next : {geometry : Geometry} {image blocks : List ℕ} {at n total : ℕ} → (b : ℕ) → IsLeft geometry image at n total blocks → 1 ≤ n
    → b ≡ number geometry.edition image (at + 2) 0 → (b ≡ 0 → ⊥) → CountsNext geometry image n total b blocks
left_next {geometry = geometry} {image = image} {at = at} {n = n} b left some is more =
    let next : IsChained geometry image at n left.rest = stack_next geometry image at n left.rest some (λ zero. more (is ∙ zero)) left.stack in
    let same : b ≡ next.block = is ∙ next.is in
    rw same (record {
      zone = next.zone;
      few = next.few;
      left = record { rest = next.rest; stack = next.stack; sum = omega (arith, left.sum, next.sum) };
    })

-- if number 0 is 0, the other `n - 1` numbers are the last free blocks
pub left_last : {geometry : Geometry} {image blocks : List ℕ} {at n total : ℕ} → (b : ℕ) → IsLeft geometry image at n total blocks → 1 ≤ n
    → 1 ≤ geometry.zone_start → b ≡ number geometry.edition image (at + 2) 0 → b ≡ 0 → length blocks + 1 ≡ total + n
left_last {geometry = geometry} {image = image} {at = at} {n = n} b left some low is zero =
    omega (arith, left.sum, stack_last geometry image at n left.rest some low (sym is ∙ zero) left.stack)

-- if no number is left, all free blocks have been counted
pub left_none : {geometry : Geometry} {image blocks : List ℕ} {at n total : ℕ} → IsLeft geometry image at n total blocks → n ≡ 0
    → 1 ≤ geometry.zone_start → total ≡ length blocks
left_none {geometry = geometry} {image = image} {at = at} {n = n} left none low =
    let empty : left.rest ≡ [] = stack_none geometry image at n left.rest low left.stack (inl none) in
    let sum = rw empty at left.sum in omega (arith, sum)
