-- The notes on damaged files, for an archive with them.
use Rattle.std.specs.Prelude.{◌≡◌, ℕ, ◌+◌, ◌&&◌, not, Bool, true, false, List, [], ◌∷◌, ◌++◌, length}
use Rattle.vol_layout.specs.declared.geometry.Geometry.{Geometry}
use Rattle.vol_losses.specs.Losses.{is_lost, is_whole, node_block}
use Rattle.vol_losses.specs.LossTexts.{IsLossText}

-- true if bytes of file i are lost, but not its i-node (this project)
abbrev pub is_damaged : Geometry → List ℕ → List Bool → ℕ → Bool
is_damaged geometry image lost i = not (is_lost lost (node_block geometry.edition i)) && not (is_whole geometry image lost i)

-- the note on file i, which is damaged or not: the text that names its lost bytes, or nothing (this project)
abbrev pub IsNoteIf : Bool → Geometry → List ℕ → List Bool → ℕ → List ℕ → Type 0
IsNoteIf true geometry image lost i note = IsLossText geometry image lost i note
IsNoteIf false geometry image lost i note = note ≡ []

-- the note on file i (this project)
abbrev pub IsNote : Geometry → List ℕ → List Bool → ℕ → List ℕ → Type 0
IsNote geometry image lost i note = IsNoteIf (is_damaged geometry image lost i) geometry image lost i note

-- the notes on the first i-nodes, each at its number; there is none on i-number 0 (this project)
pub data AreNotes (geometry : Geometry) (image : List ℕ) (lost : List Bool) : List (List ℕ) → Type 0 where
  zeroth : AreNotes geometry image lost ([] ∷ [])
  more : (notes : List (List ℕ)) (note : List ℕ) → AreNotes geometry image lost notes → IsNote geometry image lost (length notes) note
      → AreNotes geometry image lost (notes ++ note ∷ [])

-- the notes of an archive: with `damaged` those on all i-nodes, if blocks are lost; else none (this project)
abbrev pub HasNotes : Geometry → List ℕ → List Bool → Bool → List (List ℕ) → Type 0
HasNotes geometry image [] damaged notes = notes ≡ []
HasNotes geometry image (mark ∷ lost) false notes = notes ≡ []
HasNotes geometry image (mark ∷ lost) true notes = AreNotes geometry image (mark ∷ lost) notes × (length notes ≡ geometry.last_inode + 1)
