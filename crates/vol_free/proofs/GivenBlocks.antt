-- The stack of the free list after a block is added to it.
use Rattle.std.proofs.Common.{◌≡◌, ℕ, ◌+◌, ◌*◌, ◌<◌, ◌≤◌, inl, inr, true, List, [], ◌∷◌, slice_index, refl, ◌∙◌, arith}
use Rattle.std.proofs.lemmas.Bool.Decides.{nat_tests}
use Rattle.pdp_words.specs.Words.{word, SameOutside}
use Rattle.vol_layout.specs.Edition.{constants, number}
use Rattle.vol_layout.specs.Geometry.{in_zone}
use Rattle.vol_layout.specs.Super.{free_head}
use Rattle.vol_layout.specs.declared.geometry.Geometry.{Geometry}
use Rattle.vol_layout.specs.declared.edition.Edition.{Edition}
use Rattle.vol_layout.specs.declared.edition.Edition.TheVariants.{V6, V7}
use Rattle.vol_free.specs.Stack.{IsIn, Once, IsFree, HasStack, StaysBut, count_given, HeadGiven}
use Rattle.vol_free.proofs.Copies.{IsCopy, word_copied, number_copied, copied_twice, copied_above}
use Rattle.vol_free.proofs.Stacks.{IsStack-moved, IsFree_unique, array_copied, stack_none, stack_above, stack_chained, stack_zero, zone_from, head_end}
use Rattle.vol_free.proofs.Frames.{free_from, kept_apart}

-- a write of a block that isn't free does not change the first bytes of the free blocks
pub others_kept : {geometry : Geometry} {old new : List ℕ} {b size : ℕ} {blocks : List ℕ} → IsFree geometry old blocks → 2 ≤ geometry.zone_start
    → StaysBut geometry old new b size → size ≤ 512 → (IsIn b blocks → ⊥) → (c : ℕ) → IsIn c blocks → IsCopy old new (512 * c) (512 * c) 202
others_kept free low s small fresh c i =
    let from = free_from free c i in
    kept_apart s small c (omega arith) (λ same. fresh (rw same i))

-- adding a number that is not in a list of different numbers gives a list of different numbers
pub more_once : (b : ℕ) (blocks : List ℕ) → (IsIn b blocks → ⊥) → Once blocks → Once (b ∷ blocks)
unfolding Once
more_once b blocks fresh once = (fresh, once)

-- the array has room for at least two numbers
pub slots_above : (edition : Edition) → 2 ≤ (constants edition).free_slots
slots_above V6 = omega arith
slots_above V7 = omega arith

-- block `b` was stored as number `count` of the super-block's array, the count was set to `count + 1`, and the earlier numbers are unchanged
pub record IsPushed (geometry : Geometry) (old new : List ℕ) (count b : ℕ) : Type 0 where
  pub more : word new (free_head geometry.edition) ≡ count + 1
  pub put : number geometry.edition new (free_head geometry.edition + 2) count ≡ b
  pub kept : (j : ℕ) → j < count → number geometry.edition new (free_head geometry.edition + 2) j
      ≡ number geometry.edition old (free_head geometry.edition + 2) j

-- if the array is neither empty nor full, storing block `b` above its numbers adds it to the front of the free list
pub pushed_above : (geometry : Geometry) (old new : List ℕ) (b n : ℕ) (blocks : List ℕ) → 2 ≤ geometry.zone_start → in_zone geometry b ≡ true
    → (IsIn b blocks → ⊥) → IsFree geometry old blocks → StaysBut geometry old new b 202
    → word old (free_head geometry.edition) ≡ n → (n ≡ 0 → ⊥) → n < (constants geometry.edition).free_slots
    → IsPushed geometry old new n b → IsFree geometry new (b ∷ blocks)
pushed_above geometry old new b n blocks low zone fresh free stays is some room pushed =
    let stack = rw is at free.stack in
    record {
      count = omega (arith, pushed.more);
      stack = rw pushed.more (stack_above geometry new (free_head geometry.edition) n (n + 1) b blocks refl (omega arith) pushed.put zone
          (IsStack-moved geometry old new (free_head geometry.edition) (free_head geometry.edition) n blocks
          pushed.kept (others_kept free low stays (omega arith) fresh) stack));
      once = more_once b blocks fresh free.once;
    }

-- if the array is empty, setting number 0 to 0 and storing block `b` as number 1 adds it to the front of the free list
pub pushed_first : (geometry : Geometry) (old mid new : List ℕ) (b : ℕ) (blocks : List ℕ) → 2 ≤ geometry.zone_start → in_zone geometry b ≡ true
    → IsFree geometry old blocks → word old (free_head geometry.edition) ≡ 0
    → number geometry.edition mid (free_head geometry.edition + 2) 0 ≡ 0
    → IsPushed geometry mid new 1 b → (IsIn b blocks → ⊥) → IsFree geometry new (b ∷ blocks)
pushed_first geometry old mid new b [] low zone free none zero pushed fresh =
    let slots : 2 ≤ (constants geometry.edition).free_slots = slots_above geometry.edition in
    record {
      count = omega (arith, pushed.more);
      stack = rw pushed.more (stack_above geometry new (free_head geometry.edition) 1 2 b [] (omega arith) (omega arith) pushed.put zone
          (stack_zero geometry new (free_head geometry.edition) (pushed.kept 0 (omega arith) ∙ zero)));
      once = more_once b [] fresh free.once;
    }
pushed_first geometry old mid new b (c ∷ rest) low zone free none zero pushed fresh =
    let empty : c ∷ rest ≡ [] = stack_none geometry old (free_head geometry.edition) (word old (free_head geometry.edition)) (c ∷ rest)
    (omega arith) free.stack (inl none) in absurd (cc)

-- if the array is full, copying the count and array to block `b` and storing `b` as number 0 adds it to the front of the free list
pub pushed_chained : (geometry : Geometry) (old mid new : List ℕ) (b : ℕ) (blocks : List ℕ) → 2 ≤ geometry.zone_start → in_zone geometry b ≡ true
    → (IsIn b blocks → ⊥) → IsFree geometry old blocks → StaysBut geometry old new b 202
    → IsCopy old mid (free_head geometry.edition) (512 * b) 202
    → SameOutside mid new (free_head geometry.edition) (free_head geometry.edition + 202)
    → IsPushed geometry mid new 0 b → IsFree geometry new (b ∷ blocks)
pushed_chained geometry old mid new b blocks low zone fresh free stays copy outside pushed =
    let slots : 2 ≤ (constants geometry.edition).free_slots = slots_above geometry.edition in
    let end : free_head geometry.edition + 202 ≤ 720 = head_end geometry.edition in
    let from : geometry.zone_start ≤ b = zone_from geometry b zone in
    let head : IsCopy old new (free_head geometry.edition) (512 * b) 202 =
    copied_twice copy (copied_above outside (512 * b) 202 (omega arith)) in
    let count : word new (512 * b) ≡ word old (free_head geometry.edition) =
    word_copied head (512 * b) (free_head geometry.edition) 0 (omega arith) (omega arith) (omega arith) in
    record {
      count = omega (arith, pushed.more);
      stack = rw pushed.more (stack_chained geometry new (free_head geometry.edition) 1 b blocks refl pushed.put zone
          (omega (arith, count, free.count))
          (rw count (IsStack-moved geometry old new (free_head geometry.edition) (512 * b) (word old (free_head geometry.edition)) blocks
          (λ j h. number_copied geometry.edition (array_copied head) j (omega (arith, free.count)))
          (others_kept free low stays (omega arith) fresh) free.stack)));
      once = more_once b blocks fresh free.once;
    }

-- a write within the super-block's count and array changes nothing except these and block `b`
pub head_stays : {geometry : Geometry} {old new : List ℕ} {b size : ℕ} → 2 ≤ b
    → SameOutside old new (free_head geometry.edition) (free_head geometry.edition + 202) → StaysBut geometry old new b size
head_stays {geometry = geometry} two s =
    let end : free_head geometry.edition + 202 ≤ 720 = head_end geometry.edition in
    record { len = s.len; below = s.below; between = λ k h less. s.above k h; above = λ k h. s.above k (omega arith) }

-- a copy of the count and array to block `b`, and a write within the super-block's count and array, change nothing else
pub chained_stays : {geometry : Geometry} {old mid new : List ℕ} {b : ℕ} → 2 ≤ b → SameOutside old mid (512 * b) (512 * b + 202)
    → SameOutside mid new (free_head geometry.edition) (free_head geometry.edition + 202) → StaysBut geometry old new b 202
chained_stays {geometry = geometry} two s t =
    let end : free_head geometry.edition + 202 ≤ 720 = head_end geometry.edition in
    record {
      len = t.len ∙ s.len;
      below = λ k h. t.below k h ∙ s.below k (omega arith);
      between = λ k h less. t.above k h ∙ s.below k less;
      above = λ k h. t.above k (omega arith) ∙ s.above k h;
    }

-- after a block is added to a full array, the count is 1
pub given_full : (edition : Edition) → count_given edition (constants edition).free_slots ≡ 1
given_full V6 = refl
given_full V7 = refl

-- after a block is added to an array that is neither empty nor full, the count is one more
pub given_above : (edition : Edition) (n : ℕ) → (n ≡ 0 → ⊥) → (n ≡ (constants edition).free_slots → ⊥) → count_given edition n ≡ n + 1
given_above edition n some room = grind (arith, nat_tests)

-- the count and array after a block is added, where the count was `n` and is now `m`
pub head_given : (edition : Edition) (old new : List ℕ) (n m : ℕ) → word old (free_head edition) ≡ n → count_given edition n ≡ m
    → word new (free_head edition) ≡ m
    → ((k : ℕ) → free_head edition + 2 + (constants edition).number_bytes * m ≤ k → k < free_head edition + 202 → slice_index new k ≡ slice_index old k)
    → HeadGiven edition old new
head_given edition old new n m was is now same = record { count = rw (was, is) now; past = rw (was, is) same }

-- if the empty list is the list of free blocks, no block is free
pub none_free : {geometry : Geometry} {image blocks : List ℕ} → 1 ≤ geometry.zone_start → IsFree geometry image [] → IsFree geometry image blocks
    → (b : ℕ) → IsIn b blocks → ⊥
unfolding IsIn
none_free {blocks = blocks} low none free b i =
    let same : blocks ≡ [] = IsFree_unique low free none in
    let there = rw same at i in absurd there

-- if no free block was below `b` before `b` was added, none is afterwards
pub given_from : {geometry : Geometry} {old new : List ℕ} (b : ℕ) → 1 ≤ geometry.zone_start → HasStack geometry old
    → ((blocks : List ℕ) → IsFree geometry old blocks → IsFree geometry new (b ∷ blocks))
    → ((blocks : List ℕ) → IsFree geometry old blocks → (c : ℕ) → IsIn c blocks → b ≤ c)
    → (blocks : List ℕ) → IsFree geometry new blocks → (c : ℕ) → IsIn c blocks → b ≤ c
unfolding IsIn
given_from b low has pushed above blocks free c i =
    let same : blocks ≡ b ∷ has.blocks = IsFree_unique low free (pushed has.blocks has.free) in
    let there = rw same at i in
    elim there [ inl first ↦ omega arith | inr later ↦ above has.blocks has.free c later ]
