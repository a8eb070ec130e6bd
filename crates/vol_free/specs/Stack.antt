-- The free blocks, which form a stack: the last block added is the first one taken.
use Rattle.std.specs.Prelude.{◌≡◌, ℕ, ◌+◌, ◌-◌, ◌*◌, ◌<◌, ◌≤◌, ◌==◌, ◌⊎◌, true, if◌then◌else◌, List, [], ◌∷◌, length, slice_index, Option, None, Some}
use Rattle.pdp_words.specs.Words.{word}
use Rattle.vol_layout.specs.Edition.{constants, number}
use Rattle.vol_layout.specs.Geometry.{in_zone}
use Rattle.vol_layout.specs.Super.{free_head}
use Rattle.vol_layout.specs.declared.edition.Edition.{Edition}
use Rattle.vol_layout.specs.declared.geometry.Geometry.{Geometry}

-- b is an item of the list (membership)
unfoldable pub IsIn : ℕ → List ℕ → Type 0
IsIn b [] = ⊥
IsIn b (c ∷ blocks) = (b ≡ c) ⊎ IsIn b blocks

-- no number occurs twice in the list (rule 6)
unfoldable pub Once : List ℕ → Type 0
Once [] = Unit {0}
Once (b ∷ blocks) = (IsIn b blocks → ⊥) × Once blocks

-- the blocks are those of the stack whose count and array begin at byte `at`, with n numbers left: number n - 1 is the first block, and the block
-- with number 0 begins with the count and array of the rest of the stack, which is empty if number 0 is 0 (filsys.h, fblk.h)
unfoldable pub IsStack : Geometry → List ℕ → ℕ → ℕ → List ℕ → Type 0
IsStack geometry image at n [] = (n ≡ 0) ⊎ ((n ≡ 1) × (number geometry.edition image (at + 2) 0 ≡ 0))
IsStack geometry image at n (b ∷ blocks) =
    (number geometry.edition image (at + 2) (n - 1) ≡ b) × (in_zone geometry b ≡ true)
    × (((2 ≤ n) × IsStack geometry image at (n - 1) blocks)
    ⊎ ((n ≡ 1) × (word image (512 * b) ≤ (constants geometry.edition).free_slots)
    × IsStack geometry image (512 * b) (word image (512 * b)) blocks))

-- the blocks are the free blocks of the volume, the next to be taken first: the stack whose count and array are in the super-block (filsys.h)
pub record IsFree (geometry : Geometry) (image : List ℕ) (blocks : List ℕ) : Type 0 where
  pub count : word image (free_head geometry.edition) ≤ (constants geometry.edition).free_slots
  pub stack : IsStack geometry image (free_head geometry.edition) (word image (free_head geometry.edition)) blocks
  pub once : Once blocks

-- the volume has a stack of free blocks (rule 6)
pub record HasStack (geometry : Geometry) (image : List ℕ) : Type 0 where
  pub blocks : List ℕ
  pub free : IsFree geometry image blocks

-- nothing changes except the 202 bytes of the super-block's count and array and the first `size` bytes of block b (a frame)
pub record StaysBut (geometry : Geometry) (old new : List ℕ) (b size : ℕ) : Type 0 where
  pub len : length new ≡ length old
  pub below : (k : ℕ) → k < free_head geometry.edition → slice_index new k ≡ slice_index old k
  pub between : (k : ℕ) → free_head geometry.edition + 202 ≤ k → k < 512 * b → slice_index new k ≡ slice_index old k
  pub above : (k : ℕ) → 512 * b + size ≤ k → slice_index new k ≡ slice_index old k

-- block b was taken from the stack: the other blocks are still free, block b is cleared, and the rest of the image stays (Lions on alloc)
pub record Popped (geometry : Geometry) (old new : List ℕ) (b : ℕ) (rest : List ℕ) : Type 0 where
  pub free : IsFree geometry new rest
  pub zero : (k : ℕ) → 512 * b ≤ k → k < 512 * b + 512 → slice_index new k ≡ 0
  pub stays : StaysBut geometry old new b 512

-- the result and the effect of taking a block from the stack: the first block, or None if the stack is empty (Lions on alloc)
abbrev pub Pops : Geometry → List ℕ → List ℕ → List ℕ → Option ℕ → Type 0
Pops geometry old new [] taken = (taken ≡ None) × (new ≡ old)
Pops geometry old new (b ∷ rest) taken = (taken ≡ Some b) × Popped geometry old new b rest

-- the effect of taking block b on the super-block's count and array: the count decreases by one and the array stays; or, if only one number was left,
-- both are replaced by those at the start of block b (manual section 5, file system)
pub record HeadTaken (edition : Edition) (old new : List ℕ) (b : ℕ) : Type 0 where
  pub lowered : 2 ≤ word old (free_head edition) → word new (free_head edition) ≡ word old (free_head edition) - 1
  pub array : 2 ≤ word old (free_head edition) → (k : ℕ) → free_head edition + 2 ≤ k → k < free_head edition + 202
      → slice_index new k ≡ slice_index old k
  pub refilled : word old (free_head edition) ≡ 1 → (k : ℕ) → k < 202
      → slice_index new (free_head edition + k) ≡ slice_index old (512 * b + k)

-- the count after a block is added: one more; two if the array was empty, since number 0 is then 0; one if it was full, since its numbers are then
-- moved to the block (manual section 5, file system)
abbrev pub count_given : Edition → ℕ → ℕ
count_given edition n = if n == 0 then 2 else if n == (constants edition).free_slots then 1 else n + 1

-- the effect of adding a block on the super-block's count and array; bytes past the numbers stay (manual section 5)
pub record HeadGiven (edition : Edition) (old new : List ℕ) : Type 0 where
  pub count : word new (free_head edition) ≡ count_given edition (word old (free_head edition))
  pub past : (k : ℕ) → free_head edition + 2 + (constants edition).number_bytes * count_given edition (word old (free_head edition)) ≤ k
      → k < free_head edition + 202 → slice_index new k ≡ slice_index old k
