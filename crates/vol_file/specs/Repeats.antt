-- Blocks to which several positions in the block map point, in one file or in more, and the marks that save visiting the blocks below them again.
use Rattle.std.specs.Prelude.{◌≡◌, ℕ, zero, suc, ◌+◌, ◌*◌, ◌/◌, ◌%◌, ◌^◌, ◌<◌, ◌&&◌, Bool, true, false, nat_lt, List, slice_index_or}
use Rattle.vol_layout.specs.Edition.{constants}
use Rattle.vol_layout.specs.BlockPointers.{pointer_in}
use Rattle.vol_layout.specs.declared.geometry.Geometry.{Geometry}

-- the number of the c-th block n levels below block m, if each indirect block has `pointers` entries (Lions on bmap)
abbrev pub below : Geometry → List ℕ → ℕ → ℕ → ℕ → ℕ → ℕ
below geometry image pointers m zero c = m
below geometry image pointers m (suc n) c = pointer_in geometry image (below geometry image pointers m n (c / pointers)) (c % pointers)

-- true if the mark of block m for the data blocks n levels below it is set; each block has three marks (this project)
abbrev pub is_marked : List Bool → ℕ → ℕ → Bool
is_marked marks m n = nat_lt n 3 && slice_index_or marks (3 * m + n) false

-- each part of each data block n levels below block m passes a test (this project)
abbrev pub PassesBelow : (ℕ → ℕ → Bool) → Geometry → List ℕ → ℕ → ℕ → Type 0
PassesBelow test geometry image m n =
    let pointers = (constants geometry.edition).pointers in
    (c part : ℕ) → c < pointers ^ n → test (below geometry image pointers m n c) part ≡ true

-- all data blocks below marked blocks pass a test (this project)
abbrev pub MarksPassed : (ℕ → ℕ → Bool) → Geometry → List ℕ → List Bool → Type 0
MarksPassed test geometry image marks = (m n : ℕ) → is_marked marks m n ≡ true → PassesBelow test geometry image m n
