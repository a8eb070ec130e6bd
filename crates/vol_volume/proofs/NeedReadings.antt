-- The number of blocks that a file needs, computed from its shape, is the number computed from the image.
use Rattle.std.proofs.Common.{◌≡◌, ℕ, ◌+◌, ◌*◌, ◌/◌, ◌^◌, ◌<◌, ◌≤◌, ◌∙◌, ap, sym, true, nat_lt, List, [], ◌∷◌, arith}
use Rattle.std.specs.Prelude.{max}
use Rattle.vol_layout.specs.Edition.{constants}
use Rattle.vol_layout.specs.BlockPointers.{form_at}
use Rattle.vol_layout.specs.BlockMaps.{has_places}
use Rattle.vol_layout.specs.declared.edition.Edition.{Edition}
use Rattle.vol_layout.specs.declared.edition.Edition.TheVariants.{V6, V7}
use Rattle.vol_layout.specs.declared.geometry.Geometry.{Geometry}
use Rattle.vol_file.specs.Need.{need_of, need}
use Rattle.vol_file.specs.Rules.{size_of, kind_at}
use Rattle.vol_file.specs.Shape.{is_named, touched}
use Rattle.vol_dir.specs.Entries.{slots, IsDirectory}
use Rattle.vol_dir.specs.Names.{names_in}
use Rattle.vol_dir.specs.Search.{new_slot}
use Rattle.vol_dir.specs.Tree.{shapes, tree, state}
use Rattle.vol_change.specs.Nodes.{size_with_entry}
use Rattle.vol_change.specs.Shapes.{entry_blocks}
use Rattle.vol_change.proofs.EntryStates.{slot_block, shape_is, size_is}
use Rattle.vol_change.proofs.FileRooms.{need_is}
use Rattle.vol_change.specs.Ready.{entry_need}
use Rattle.vol_volume.specs.Verdict.{write_need, is_too_great}
use Rattle.vol_volume.proofs.NodeReadings.{tree_geometry, kind_of_directory}

-- the slots of a directory's shape are the names in its slots
pub slots_are : (geometry : Geometry) (image : List ℕ) (d : ℕ) → IsDirectory geometry image d → (shapes geometry image d).slots ≡ names_in (slots geometry image d)
slots_are geometry image d directory =
    ap (λ shape. shape.slots) (shape_is geometry image d (kind_of_directory geometry image d directory))

-- an entry needs as many blocks as a write of its slot
pub entry_need_is : (geometry : Geometry) (image : List ℕ) (d : ℕ) → IsDirectory geometry image d
    → entry_need (state geometry image) d ≡ need geometry image d (16 * new_slot (names_in (slots geometry image d))) 16
unfolding tree
entry_need_is geometry image d directory =
    need_is geometry image d (entry_blocks (shapes geometry image d))
    (record { first = directory.first; last = directory.last; kind = ap has_places directory.kind })
    ∙ ap (need_of (form_at geometry image d) (is_named geometry image d))
    (ap (λ s. (new_slot s / 32) ∷ []) (slots_are geometry image d directory)
    ∙ sym (slot_block (new_slot (names_in (slots geometry image d)))))

-- a write needs as many blocks as `need` computes from the image
pub write_need_is : (geometry : Geometry) (image : List ℕ) (i offset len : ℕ) → 1 ≤ i → i ≤ geometry.last_inode
    → has_places (kind_at geometry image i) ≡ true → write_need (state geometry image) i offset len ≡ need geometry image i offset len
unfolding tree
write_need_is geometry image i offset len first last file =
    need_is geometry image i (touched offset len) (record { first = first; last = last; kind = file })

-- the state's test for a directory that becomes too large is a test of its new size
pub too_great_is : (geometry : Geometry) (image : List ℕ) (d : ℕ) → IsDirectory geometry image d
    → is_too_great (tree geometry image) (size_with_entry (state geometry image) d)
    ≡ nat_lt (constants geometry.edition).greatest (max (size_of geometry image d) (16 * new_slot (names_in (slots geometry image d)) + 16))
too_great_is geometry image d directory =
    ap (λ g. nat_lt (constants g.edition).greatest (size_with_entry (state geometry image) d)) (tree_geometry geometry image)
    ∙ (ap (λ n. nat_lt (constants geometry.edition).greatest (max n (16 * new_slot (shapes geometry image d).slots + 16))) (size_is geometry image d (kind_of_directory geometry image d directory))
    ∙ ap (λ s. nat_lt (constants geometry.edition).greatest (max (size_of geometry image d) (16 * new_slot s + 16))) (slots_are geometry image d directory))

-- the greatest file size fits in 32 bits
pub greatest_fits : (edition : Edition) → (constants edition).greatest < 2 ^ 32
greatest_fits V6 = omega arith
greatest_fits V7 = omega arith
