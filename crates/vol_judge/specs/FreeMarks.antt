-- The marks of the free blocks.
use Rattle.std.specs.Prelude.{◌≡◌, ℕ, Bool, true, false, List, slice_index_or}
use Rattle.vol_free.specs.Stack.{IsIn, IsFree}
use Rattle.vol_layout.specs.declared.geometry.Geometry.{Geometry}

-- the free list is a stack, and exactly its blocks are marked (icheck)
pub record AreFreeMarks (geometry : Geometry) (image : List ℕ) (marks : List Bool) : Type 0 where
  pub blocks : List ℕ
  pub free : IsFree geometry image blocks
  pub marked : (k : ℕ) → slice_index_or marks k false ≡ true → IsIn k blocks
  pub all : (k : ℕ) → IsIn k blocks → slice_index_or marks k false ≡ true
