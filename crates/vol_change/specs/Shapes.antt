-- Changes of the shapes of files, and the number of blocks that they need.
use Rattle.std.specs.Prelude.{ℕ, ◌/◌, ◌==◌, ◌&&◌, ◌||◌, not, List, [], ◌∷◌, map, Some}
use Rattle.std.specs.List.{count_by}
use Rattle.vol_layout.specs.BlockMaps.{places}
use Rattle.vol_file.specs.Changes.{is_kept}
use Rattle.vol_file.specs.Shape.{filled, grows_large}
use Rattle.vol_file.specs.Need.{need_of}
use Rattle.vol_dir.specs.EntryEdits.{with_item}
use Rattle.vol_dir.specs.Names.{dot, dot_dot}
use Rattle.vol_dir.specs.Search.{new_slot, emptied}
use Rattle.vol_dir.specs.Tree.{Shape, no_shape, form_in}
use Rattle.vol_layout.specs.declared.edition.Edition.{Edition}

-- the number of blocks that must be allocated to a file of this shape to store these logical blocks (Lions on bmap)
abbrev pub need_in : Edition → Shape → List ℕ → ℕ
need_in edition shape blocks = need_of (form_in edition shape.large) shape.names blocks

-- the shape of the file once these logical blocks are stored (Lions on bmap)
abbrev pub stored_shape : Edition → Shape → List ℕ → Shape
stored_shape edition shape blocks = record {
  names = filled (form_in edition shape.large) shape.names blocks;
  large = shape.large || grows_large (form_in edition shape.large) blocks;
  slots = shape.slots;
}

-- the logical block with the slot for a new entry (manual section 5, directories)
abbrev pub entry_blocks : Shape → List ℕ
entry_blocks shape = (new_slot shape.slots / 32) ∷ []

-- the shape of a directory after an entry of this name is added (Lions on wdir)
abbrev pub shape_with_entry : Edition → Shape → List ℕ → Shape
shape_with_entry edition shape name = record (stored_shape edition shape (entry_blocks shape)) {
  slots = with_item shape.slots (new_slot shape.slots) (Some name);
}

-- the shape of a directory after the entry of this name is removed (Lions on unlink)
abbrev pub shape_without_entry : Shape → List ℕ → Shape
shape_without_entry shape name = record shape { slots = map (emptied name) shape.slots }

-- the shape of a file cut to its first `size` bytes: it keeps only the blocks that these bytes need, and is small if there are none (Lions on itrunc;
-- that bytes may stay is this project's)
abbrev pub cut_shape : Edition → Shape → ℕ → Shape
cut_shape edition shape size = record {
  names = λ p. shape.names p && is_kept (form_in edition shape.large) size p;
  large = shape.large && not (size == 0);
  slots = shape.slots;
}

-- the number of blocks that a file loses when it is cut to its first `size` bytes (Lions on itrunc; that bytes may stay is this project's)
abbrev pub cut_count : Edition → Shape → ℕ → ℕ
cut_count edition shape size =
    count_by (λ p. shape.names p && not (is_kept (form_in edition shape.large) size p)) (places (form_in edition shape.large))

-- the shape of a new directory: one block, with `.` in the first slot and `..` in the second (mkdir)
abbrev pub new_directory_shape : Edition → Shape
new_directory_shape edition = record (stored_shape edition no_shape (0 ∷ [])) { slots = Some dot ∷ Some dot_dot ∷ [] }
