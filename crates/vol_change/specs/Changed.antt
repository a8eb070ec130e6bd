-- The effects of a change of a node: on the rules, the tree, the free list and the other nodes.
use Rattle.std.specs.Prelude.{◌≡◌, ◌≢◌, ℕ, ◌/◌, ◌<◌, ◌≤◌, if◌then◌else◌, List, []}
use Rattle.vol_layout.specs.Body.{body, body_byte}
use Rattle.vol_layout.specs.BlockPointers.{form_at, IsPlaceOf, named}
use Rattle.vol_layout.specs.BlockMaps.{has_places}
use Rattle.vol_layout.specs.declared.geometry.Geometry.{Geometry}
use Rattle.vol_free.specs.Stack.{IsFree}
use Rattle.vol_file.specs.Changes.{blocks_of, spliced, is_kept, whole_blocks}
use Rattle.vol_file.specs.Rules.{kind_at}
use Rattle.vol_dir.specs.Tree.{State, state}
use Rattle.vol_change.specs.Alone.{KeepsContent}
use Rattle.vol_change.specs.Whole.{Keeps}

-- every i-number is in this set (this project)
abbrev pub IsAny : ℕ → Type 0
IsAny j = Unit {0}

-- the set of the i-numbers other than i (this project)
abbrev pub IsOther : ℕ → ℕ → Type 0
IsOther i j = j ≢ i

-- the free list unchanged (this project)
abbrev pub as_before : List ℕ → List ℕ
as_before blocks = blocks

-- the blocks that freeing the bytes of i-node i puts on the free list, in the order of its block map; none if it is not a file (Lions on itrunc)
abbrev pub blocks_freed : Geometry → List ℕ → ℕ → List ℕ
blocks_freed geometry image i = if has_places (kind_at geometry image i) then blocks_of geometry image i else []

-- if the image has a free list, `listed` turns it into the new one, in order (fblk.h)
abbrev pub FreeBecomes : Geometry → List ℕ → List ℕ → (List ℕ → List ℕ) → Type 0
FreeBecomes geometry old new listed = (blocks : List ℕ) → IsFree geometry old blocks → IsFree geometry new (listed blocks)

-- after a change rules 3 to 8 hold, the bytes that no call changes are unchanged, the image reads as the state `made`, `listed` turns the old free
-- list into the new one, and the i-nodes in the set `Kept` keep their contents, with all bytes of their blocks (this project)
pub record Changed (geometry : Geometry) (old new : List ℕ) (Kept : ℕ → Type 0) (made : State) (listed : List ℕ → List ℕ) : Type 0 where
  pub keeps : Keeps geometry old new
  pub makes : state geometry new ≡ made
  pub free : FreeBecomes geometry old new listed
  pub content : (j : ℕ) → 1 ≤ j → j ≤ geometry.last_inode → Kept j → KeepsContent geometry old new j

-- `text` is put into the bytes of directory d at byte `at`, and no other byte of the directory changes, not even after the end of another name or in
-- the name of an empty slot (manual section 5, directories)
abbrev pub PutsInBody : Geometry → List ℕ → List ℕ → ℕ → ℕ → List ℕ → Type 0
PutsInBody geometry old new d at text = body geometry new d ≡ spliced (body geometry old d) at text

-- file i keeps the blocks that its first `left` bytes need, with everything stored in them, even past those bytes; all other addresses in its block
-- map are 0 (Lions on itrunc; that bytes may stay is this project's)
pub record KeepsStored (geometry : Geometry) (old new : List ℕ) (i left : ℕ) : Type 0 where
  pub names : (p : List ℕ) → IsPlaceOf geometry new i p
      → named geometry new i p ≡ (if is_kept (form_at geometry old i) left p then named geometry old i p else 0)
  pub bytes : (n : ℕ) → n / 512 < whole_blocks left → body_byte geometry new i n ≡ body_byte geometry old i n

-- each i-node except a and b keeps its content, with all bytes of its blocks (this project)
abbrev pub KeepsFilesBut : Geometry → List ℕ → List ℕ → ℕ → ℕ → Type 0
KeepsFilesBut geometry old new a b = (j : ℕ) → 1 ≤ j → j ≤ geometry.last_inode → j ≢ a → j ≢ b → KeepsContent geometry old new j

-- each i-node keeps its content, with all bytes of its blocks (this project)
abbrev pub KeepsFiles : Geometry → List ℕ → List ℕ → Type 0
KeepsFiles geometry old new = (j : ℕ) → 1 ≤ j → j ≤ geometry.last_inode → KeepsContent geometry old new j
