-- Laws of the free list.
use Rattle.std.specs.Prelude.{◌≡◌, ℕ, List, None, ◌↔◌, reverse}
use Rattle.vol_layout.specs.Geometry.{Fits}
use Rattle.vol_layout.specs.declared.geometry.Geometry.{Geometry}
use Rattle.vol_free.specs.FreeWalk.{free_walk}
use Rattle.vol_free.specs.Stack.{IsFree, HasStack}

-- a volume has only one list of free blocks (this project)
abbrev pub HasOneList : Type 0
HasOneList = (geometry : Geometry) (image xs ys : List ℕ) → Fits geometry image → IsFree geometry image xs → IsFree geometry image ys → xs ≡ ys

-- the walk over the free list ends without a fault if and only if the volume has a stack of free blocks (icheck; rule 6)
abbrev pub EndsAtStack : Type 0
EndsAtStack = (geometry : Geometry) (image : List ℕ) → ((free_walk geometry image).fault ≡ None) ↔ HasStack geometry image

-- a walk that ends without a fault visits the blocks of the stack, and lists them with the last first (icheck)
abbrev pub MeetsFree : Type 0
MeetsFree = (geometry : Geometry) (image blocks : List ℕ) → Fits geometry image → IsFree geometry image blocks
    → (free_walk geometry image).met ≡ reverse blocks
