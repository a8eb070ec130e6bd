-- The stack of the free list after a block is taken from it.
use Rattle.std.proofs.Common.{◌≡◌, ℕ, ◌+◌, ◌-◌, ◌*◌, ◌<◌, ◌≤◌, ◌⊎◌, inl, inr, true, List, [], ◌∷◌, Option, None, Some, slice_index, refl, sym, ◌∙◌, arith}
use Rattle.pdp_words.specs.Words.{word, SameOutside}
use Rattle.pdp_words.proofs.Below.{word_below}
use Rattle.vol_layout.specs.Edition.{constants, number}
use Rattle.vol_layout.specs.Geometry.{in_zone, Fits}
use Rattle.vol_layout.specs.Super.{free_head}
use Rattle.vol_layout.specs.declared.geometry.Geometry.{Geometry}
use Rattle.vol_free.specs.Stack.{IsIn, Once, IsStack, IsFree, HasStack, StaysBut, HeadTaken, Pops}
use Rattle.vol_free.proofs.Copies.{IsCopy, word_copied, number_copied, copied_twice, copied_below, copied_above}
use Rattle.vol_free.proofs.Stacks.{IsStack-moved, array_copied, stack_not_none, head_end, zone_behind}
use Rattle.vol_free.proofs.Frames.{free_from, kept_apart}

-- if the super-block's count is 0, or the next number is 0, taking a block returns None
pub pops_none : (geometry : Geometry) (image : List ℕ) (blocks : List ℕ) → Fits geometry image → IsFree geometry image blocks
    → (word image (free_head geometry.edition) ≡ 0)
    ⊎ (number geometry.edition image (free_head geometry.edition + 2) (word image (free_head geometry.edition) - 1) ≡ 0)
    → Pops geometry image image blocks None
pops_none geometry image [] fits free none = (refl, refl)
pops_none geometry image (b ∷ rest) fits free none =
    let low : 2 ≤ geometry.zone_start = zone_behind fits in
    absurd (stack_not_none geometry image (free_head geometry.edition) (word image (free_head geometry.edition)) b rest (omega arith) free.stack none)

-- the next number of a stack is a data block if it isn't 0
pub stack_first : (geometry : Geometry) (image : List ℕ) (at n b : ℕ) (blocks : List ℕ) → IsStack geometry image at n blocks → (n ≡ 0 → ⊥)
    → number geometry.edition image (at + 2) (n - 1) ≡ b → (b ≡ 0 → ⊥) → in_zone geometry b ≡ true
unfolding IsStack
stack_first geometry image at n b [] (inl e) some is more = absurd (some e)
stack_first geometry image at n b [] (inr (e, z)) some is more =
    let less : n - 1 ≡ 0 = omega arith in
    let zero = rw less at is in absurd (more (sym zero ∙ z))
stack_first geometry image at n b (c ∷ rest) (e, z, s) some is more = rw (sym is ∙ e) z

-- the block that is taken from a volume's stack is a data block
pub taken_zone : {geometry : Geometry} {image : List ℕ} (b : ℕ) → HasStack geometry image → (word image (free_head geometry.edition) ≡ 0 → ⊥)
    → number geometry.edition image (free_head geometry.edition + 2) (word image (free_head geometry.edition) - 1) ≡ b → (b ≡ 0 → ⊥)
    → in_zone geometry b ≡ true
taken_zone {geometry = geometry} {image = image} b has some is more =
    stack_first geometry image (free_head geometry.edition) (word image (free_head geometry.edition)) b has.blocks has.free.stack some is more

-- the two writes of taking block `b`: the first is within the super-block's count and array, and the second clears block `b`
pub record IsTaken (geometry : Geometry) (old mid new : List ℕ) (b : ℕ) : Type 0 where
  pub head : SameOutside old mid (free_head geometry.edition) (free_head geometry.edition + 202)
  pub block : SameOutside mid new (512 * b) (512 * b + 512)
  pub zero : (k : ℕ) → 512 * b ≤ k → k < 512 * b + 512 → slice_index new k ≡ 0

-- taking block `b` changes nothing except the super-block's count and array and block `b`
pub taken_stays : {geometry : Geometry} {old mid new : List ℕ} {b : ℕ} → IsTaken geometry old mid new b → 2 ≤ b → StaysBut geometry old new b 512
taken_stays {geometry = geometry} taken two =
    let end : free_head geometry.edition + 202 ≤ 720 = head_end geometry.edition in
    record {
      len = taken.block.len ∙ taken.head.len;
      below = λ k h. taken.block.below k (omega arith) ∙ taken.head.below k h;
      between = λ k h less. taken.block.below k less ∙ taken.head.above k h;
      above = λ k h. taken.block.above k h ∙ taken.head.above k (omega arith);
    }

-- the first free block is not before the data zone
pub first_from : {geometry : Geometry} {image : List ℕ} {b : ℕ} {rest : List ℕ} → IsFree geometry image (b ∷ rest) → geometry.zone_start ≤ b
unfolding IsIn
first_from {b = b} free = free_from free b (inl refl)

-- a write of the first free block does not change the first bytes of the other free blocks
pub rest_kept : {geometry : Geometry} {old new : List ℕ} {b size : ℕ} {rest : List ℕ} → IsFree geometry old (b ∷ rest) → 2 ≤ geometry.zone_start
    → StaysBut geometry old new b size → size ≤ 512 → (c : ℕ) → IsIn c rest → IsCopy old new (512 * c) (512 * c) 202
unfolding IsIn Once
rest_kept free low s small c i =
    let from = free_from free c (inr i) in
    kept_apart s small c (omega arith) (λ same. free.once.0 (rw same i))

-- the other free blocks are distinct
pub rest_once : (b : ℕ) (rest : List ℕ) → Once (b ∷ rest) → Once rest
unfolding Once
rest_once b rest once = once.1

-- if the first block of a stack isn't number 0, the rest of the stack has the numbers below it
pub stack_below : (geometry : Geometry) (image : List ℕ) (at n b : ℕ) (rest : List ℕ) → IsStack geometry image at n (b ∷ rest) → (n ≡ 1 → ⊥)
    → IsStack geometry image at (n - 1) rest
unfolding IsStack
stack_below geometry image at n b rest (e, z, inl (two, s)) more = s
stack_below geometry image at n b rest (e, z, inr (one, few, s)) more = absurd (more one)

-- if the first block of a stack is number 0, the block begins with the rest of the stack
pub stack_inside : (geometry : Geometry) (image : List ℕ) (at n b : ℕ) (rest : List ℕ) → IsStack geometry image at n (b ∷ rest) → n ≡ 1
    → (word image (512 * b) ≤ (constants geometry.edition).free_slots) × IsStack geometry image (512 * b) (word image (512 * b)) rest
unfolding IsStack
stack_inside geometry image at n b rest (e, z, inl (two, s)) one = absurd (omega arith)
stack_inside geometry image at n b rest (e, z, inr (_, few, s)) one = (few, s)

-- if taking block `b` decreased the count, the other blocks are still free
lowered_free : (geometry : Geometry) (old mid new : List ℕ) (b : ℕ) (rest : List ℕ) → 2 ≤ geometry.zone_start → IsTaken geometry old mid new b
    → IsFree geometry old (b ∷ rest) → (word old (free_head geometry.edition) ≡ 1 → ⊥)
    → word mid (free_head geometry.edition) ≡ word old (free_head geometry.edition) - 1
    → SameOutside old mid (free_head geometry.edition) (free_head geometry.edition + 2) → IsFree geometry new rest
lowered_free geometry old mid new b rest low taken free more less s =
    let end : free_head geometry.edition + 202 ≤ 720 = head_end geometry.edition in
    let from : geometry.zone_start ≤ b = first_from free in
    let head : IsCopy mid new (free_head geometry.edition) (free_head geometry.edition) 202 = copied_below taken.block (free_head geometry.edition) 202 (omega arith) in
    let count : word new (free_head geometry.edition) ≡ word old (free_head geometry.edition) - 1 =
    word_copied head (free_head geometry.edition) (free_head geometry.edition) 0 (omega arith) (omega arith) (omega arith) ∙ less in
    let array : IsCopy old new (free_head geometry.edition + 2) (free_head geometry.edition + 2) 200 =
    copied_twice (copied_above s (free_head geometry.edition + 2) 200 (omega arith)) (array_copied head) in
    record {
      count = omega (arith, count, free.count);
      stack = rw count (IsStack-moved geometry old new (free_head geometry.edition) (free_head geometry.edition) (word old (free_head geometry.edition) - 1) rest
          (λ j h. number_copied geometry.edition array j (omega (arith, free.count)))
          (rest_kept free low (taken_stays taken (omega arith)) (omega arith))
          (stack_below geometry old (free_head geometry.edition) (word old (free_head geometry.edition)) b rest free.stack more));
      once = rest_once b rest free.once;
    }

-- if taking block `b` copied its count and array to the super-block, the other blocks are still free
refilled_free : (geometry : Geometry) (old mid new : List ℕ) (b : ℕ) (rest : List ℕ) → 2 ≤ geometry.zone_start → IsTaken geometry old mid new b
    → IsFree geometry old (b ∷ rest) → word old (free_head geometry.edition) ≡ 1
    → IsCopy old mid (512 * b) (free_head geometry.edition) 202 → IsFree geometry new rest
refilled_free geometry old mid new b rest low taken free one copy =
    let end : free_head geometry.edition + 202 ≤ 720 = head_end geometry.edition in
    let from : geometry.zone_start ≤ b = first_from free in
    let head : IsCopy old new (512 * b) (free_head geometry.edition) 202 =
    copied_twice copy (copied_below taken.block (free_head geometry.edition) 202 (omega arith)) in
    let count : word new (free_head geometry.edition) ≡ word old (512 * b) =
    word_copied head (free_head geometry.edition) (512 * b) 0 (omega arith) (omega arith) (omega arith) in
    let inside : (word old (512 * b) ≤ (constants geometry.edition).free_slots) × IsStack geometry old (512 * b) (word old (512 * b)) rest =
    stack_inside geometry old (free_head geometry.edition) (word old (free_head geometry.edition)) b rest free.stack one in
    record {
      count = omega (arith, count, inside.0);
      stack = rw count (IsStack-moved geometry old new (512 * b) (free_head geometry.edition) (word old (512 * b)) rest
          (λ j h. number_copied geometry.edition (array_copied head) j (omega (arith, inside.0)))
          (rest_kept free low (taken_stays taken (omega arith)) (omega arith)) inside.1);
      once = rest_once b rest free.once;
    }

-- a stack is not empty if a number is left and the next number isn't 0
stack_some : (geometry : Geometry) (image : List ℕ) (at n b : ℕ) → IsStack geometry image at n [] → (n ≡ 0 → ⊥)
    → number geometry.edition image (at + 2) (n - 1) ≡ b → (b ≡ 0 → ⊥) → ⊥
unfolding IsStack
stack_some geometry image at n b (inl e) some is more = some e
stack_some geometry image at n b (inr (e, z)) some is more =
    let less : n - 1 ≡ 0 = omega arith in
    let zero = rw less at is in more (sym zero ∙ z)

-- the first block of a stack is the next number
stack_is : (geometry : Geometry) (image : List ℕ) (at n b c : ℕ) (rest : List ℕ) → IsStack geometry image at n (c ∷ rest)
    → number geometry.edition image (at + 2) (n - 1) ≡ b → b ≡ c
unfolding IsStack
stack_is geometry image at n b c rest (e, _, _) is = sym is ∙ e

-- if at least two numbers are left, taking a block decreases the count
pub pops_lowered : (geometry : Geometry) (old mid new : List ℕ) (b : ℕ) (blocks : List ℕ) → Fits geometry old → IsTaken geometry old mid new b
    → (word old (free_head geometry.edition) ≡ 0 → ⊥) → (word old (free_head geometry.edition) ≡ 1 → ⊥)
    → number geometry.edition old (free_head geometry.edition + 2) (word old (free_head geometry.edition) - 1) ≡ b → (b ≡ 0 → ⊥)
    → word mid (free_head geometry.edition) ≡ word old (free_head geometry.edition) - 1
    → SameOutside old mid (free_head geometry.edition) (free_head geometry.edition + 2) → IsFree geometry old blocks
    → Pops geometry old new blocks (Some b)
pops_lowered geometry old mid new b [] fits taken some more is nonzero less s free =
    absurd (stack_some geometry old (free_head geometry.edition) (word old (free_head geometry.edition)) b free.stack some is nonzero)
pops_lowered geometry old mid new b (c ∷ rest) fits taken some more is nonzero less s free =
    let low : 2 ≤ geometry.zone_start = zone_behind fits in
    let same : b ≡ c = stack_is geometry old (free_head geometry.edition) (word old (free_head geometry.edition)) b c rest free.stack is in
    let there : IsFree geometry old (b ∷ rest) = rw same free in
    let from : geometry.zone_start ≤ b = first_from there in
    rw (← same) (
      refl,
      record {
        free = lowered_free geometry old mid new b rest low taken there more less s;
        zero = taken.zero;
        stays = taken_stays taken (omega arith);
      },
    )

-- if one number is left, taking the block copies its count and array to the super-block
pub pops_refilled : (geometry : Geometry) (old mid new : List ℕ) (b : ℕ) (blocks : List ℕ) → Fits geometry old → IsTaken geometry old mid new b
    → word old (free_head geometry.edition) ≡ 1
    → number geometry.edition old (free_head geometry.edition + 2) (word old (free_head geometry.edition) - 1) ≡ b → (b ≡ 0 → ⊥)
    → IsCopy old mid (512 * b) (free_head geometry.edition) 202 → IsFree geometry old blocks
    → Pops geometry old new blocks (Some b)
pops_refilled geometry old mid new b [] fits taken one is nonzero copy free =
    absurd (stack_some geometry old (free_head geometry.edition) (word old (free_head geometry.edition)) b free.stack (λ none. omega arith) is nonzero)
pops_refilled geometry old mid new b (c ∷ rest) fits taken one is nonzero copy free =
    let low : 2 ≤ geometry.zone_start = zone_behind fits in
    let same : b ≡ c = stack_is geometry old (free_head geometry.edition) (word old (free_head geometry.edition)) b c rest free.stack is in
    let there : IsFree geometry old (b ∷ rest) = rw same free in
    let from : geometry.zone_start ≤ b = first_from there in
    rw (← same) (
      refl,
      record {
        free = refilled_free geometry old mid new b rest low taken there one copy;
        zero = taken.zero;
        stays = taken_stays taken (omega arith);
      },
    )

-- after a block is taken, the volume still has a stack of free blocks
pub pops_left : (geometry : Geometry) (old new : List ℕ) (blocks : List ℕ) (result : Option ℕ) → IsFree geometry old blocks
    → Pops geometry old new blocks result → HasStack geometry new
pops_left geometry old new [] result free (none, same) = rw same (record { blocks = []; free = free })
pops_left geometry old new (b ∷ rest) result free (some, popped) = record { blocks = rest; free = popped.free }

-- the effect on the super-block's count and array of taking block `b`, if the count was decreased
pub head_lowered : (geometry : Geometry) (old mid new : List ℕ) (b : ℕ) → 2 ≤ b → IsTaken geometry old mid new b
    → (word old (free_head geometry.edition) ≡ 1 → ⊥)
    → word mid (free_head geometry.edition) ≡ word old (free_head geometry.edition) - 1
    → SameOutside old mid (free_head geometry.edition) (free_head geometry.edition + 2) → HeadTaken geometry.edition old new b
head_lowered geometry old mid new b two taken more less s =
    let end : free_head geometry.edition + 202 ≤ 720 = head_end geometry.edition in
    record {
      lowered = λ some. word_below taken.block (free_head geometry.edition) (omega arith) ∙ less;
      array = λ some k from to. taken.block.below k (omega arith) ∙ s.above k from;
      refilled = λ one. absurd (more one);
    }

-- the effect on the super-block's count and array of taking block `b`, if they were copied from the block
pub head_refilled : (geometry : Geometry) (old mid new : List ℕ) (b : ℕ) → 2 ≤ b → IsTaken geometry old mid new b
    → word old (free_head geometry.edition) ≡ 1 → IsCopy old mid (512 * b) (free_head geometry.edition) 202 → HeadTaken geometry.edition old new b
head_refilled geometry old mid new b two taken one copy =
    let end : free_head geometry.edition + 202 ≤ 720 = head_end geometry.edition in
    record {
      lowered = λ some. absurd (omega arith);
      array = λ some. absurd (omega arith);
      refilled = λ _ k h. taken.block.below (free_head geometry.edition + k) (omega arith) ∙ copy.bytes k h;
    }
