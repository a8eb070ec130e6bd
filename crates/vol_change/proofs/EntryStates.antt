-- The state after a change of an entry of a directory.
use Rattle.std.proofs.Common.{◌≡◌, ◌∙◌, sym, ap, refl, ℕ, ◌+◌, ◌-◌, ◌*◌, ◌/◌, ◌<◌, ◌≤◌, true, true≢false, max, List, [], ◌∷◌, length, map, get_or, arith, inl, inr, Option, None, Some}
use Rattle.std.specs.Prelude.{◌||◌}
use Rattle.std.specs.List.{range_with_len}
use Rattle.std.specs.Option.{is_some, option_map, unwrap_or}
use Rattle.std.proofs.Math.Bool.{or-false}
use Rattle.std.proofs.lemmas.Bool.{cases_lt}
use Rattle.std.proofs.lemmas.List.Sums.{passes_at_first, fails_before_first}
use Rattle.vol_layout.specs.Geometry.{Fits}
use Rattle.vol_layout.specs.Inode.{inode_place, inode_of, is_large}
use Rattle.vol_layout.specs.BlockPointers.{mode_of, form_at, IsFile}
use Rattle.vol_layout.specs.BlockMaps.{has_places}
use Rattle.vol_layout.specs.declared.geometry.Geometry.{Geometry}
use Rattle.vol_layout.specs.declared.mode.Kind.TheVariants as kinds
use Rattle.vol_layout.proofs.InodeLaws.{inode_size}
use Rattle.vol_file.specs.Changes.{Writes}
use Rattle.vol_file.specs.Need.{need_of, need}
use Rattle.vol_file.specs.Rules.{kind_at, size_of}
use Rattle.vol_file.specs.Shape.{is_named, touched}
use Rattle.vol_file.proofs.PlaceLists.{same_bytes}
use Rattle.vol_dir.specs.EntryEdits.{slot_bytes, with_item, HasNamesOnce}
use Rattle.vol_dir.specs.Entries.{slot_count, entry_at, slots, IsDirectory, HasEntries}
use Rattle.vol_dir.specs.Names.{insert, remove, get, names_of, names_in}
use Rattle.vol_dir.specs.Search.{holds, new_slot, slot_named, emptied}
use Rattle.vol_dir.specs.Tree.{Directory, Shape, content_of, form_in, is_named_place, node_with, shape_of, shapes, tree, state}
use Rattle.vol_dir.specs.Walk.{map_of}
use Rattle.vol_dir.proofs.NameMaps.{get_first, get_none}
use Rattle.vol_dir.proofs.ReadSlots.{length-slots, slot_is}
use Rattle.vol_dir.proofs.NewEntries.{length-slot_bytes}
use Rattle.vol_judge.proofs.Parents.{held_some}
use Rattle.vol_change.specs.Contents.{put_entry, drop_entry}
use Rattle.vol_change.specs.Edits.{change_names}
use Rattle.vol_change.specs.Nodes.{no_node, node_at, names_at, size_with_entry}
use Rattle.vol_change.specs.Shapes.{stored_shape, shape_with_entry, shape_without_entry}
use Rattle.vol_change.proofs.FreeCounts.{form_shape}
use Rattle.vol_dir.proofs.WalkLaws.{node_inside}
use Rattle.vol_change.proofs.OneNode.{only_file, only_makes}
use Rattle.vol_change.proofs.States.{shape_here}
use Rattle.vol_change.proofs.ShapePlaces.{need_places}
use Rattle.vol_change.proofs.WrittenShapes.{stores_blocks, grown_need, filled_none}
use Rattle.vol_change.proofs.WrittenStates.{IsKind, node_holds, node_edited}

-- the bytes of a slot are all in one block
pub slot_block : (s : ℕ) → touched (16 * s) 16 ≡ s / 32 ∷ []
slot_block s =
    let count : (16 * s + 15) / 512 - 16 * s / 512 + 1 ≡ 1 = omega arith in
    let first : 16 * s / 512 ≡ s / 32 = omega arith in
    ap (range_with_len (16 * s / 512)) count ∙ ap (λ n. range_with_len n 1) first

-- the shape of i-number d, read as a directory
abbrev directory_shape : Geometry → List ℕ → ℕ → Shape
directory_shape geometry image d = shape_of geometry image d kinds.Directory

-- the state's shape of a directory is `directory_shape`
pub shape_is : (geometry : Geometry) (image : List ℕ) (d : ℕ) → IsKind geometry image d kinds.Directory
    → shapes geometry image d ≡ directory_shape geometry image d
shape_is geometry image d is = shape_here geometry image d is.first is.last ∙ ap (shape_of geometry image d) is.kind

-- the state's size of a directory is the size of its i-node
pub size_is : (geometry : Geometry) (image : List ℕ) (d : ℕ) → IsKind geometry image d kinds.Directory
    → (node_at (tree geometry image) d).size ≡ size_of geometry image d
size_is geometry image d is =
    ap (λ node. (unwrap_or node no_node).size)
    (node_inside geometry image d is.first is.last
    ∙ node_holds geometry image d (Directory (names_of (slots geometry image d))) (ap (content_of geometry image d) is.kind))
    ∙ inode_size geometry.edition image (inode_place geometry.edition d)

-- the state's map of a directory has the names in its slots
pub names_is : (geometry : Geometry) (image : List ℕ) (d : ℕ) → IsKind geometry image d kinds.Directory
    → names_at (tree geometry image) d ≡ names_of (slots geometry image d)
names_is geometry image d is =
    ap (λ node. unwrap_or (map_of (unwrap_or node no_node).content) [])
    (node_inside geometry image d is.first is.last
    ∙ node_holds geometry image d (Directory (names_of (slots geometry image d))) (ap (content_of geometry image d) is.kind))

-- writing a new entry makes the directory as large as `size_with_entry`
size_after : (geometry : Geometry) (old new free name : List ℕ) (d i : ℕ) → IsKind geometry old d kinds.Directory → length name ≤ 14
    → Writes geometry old new d (16 * new_slot (names_in (slots geometry old d))) (slot_bytes name i) free
    → size_of geometry new d ≡ size_with_entry (state geometry old) d
size_after geometry old new free name d i is short writes =
    let s = new_slot (names_in (slots geometry old d)) in
    let node = size_is geometry old d is in
    let slot : 16 * new_slot (shapes geometry old d).slots + 16 ≡ 16 * s + 16 =
    ap (λ (shape : Shape). 16 * new_slot shape.slots + 16) (shape_is geometry old d is) in
    writes.size
    ∙ (ap (λ n. max (size_of geometry old d) (16 * s + n)) (length-slot_bytes name i short)
    ∙ sym (ap (λ n. max n (16 * new_slot (shapes geometry old d).slots + 16)) node ∙ ap (max (size_of geometry old d)) slot))

-- writing a new entry to its slot changes the state as `put_entry` does
pub added_state : (geometry : Geometry) (old new free name : List ℕ) (d i : ℕ) → IsKind geometry old d kinds.Directory → Fits geometry old
    → length name ≤ 14 → Writes geometry old new d (16 * new_slot (names_in (slots geometry old d))) (slot_bytes name i) free
    → names_of (slots geometry new d) ≡ insert (names_of (slots geometry old d)) name i
    → names_in (slots geometry new d) ≡ with_item (names_in (slots geometry old d)) (new_slot (names_in (slots geometry old d))) (Some name)
    → state geometry new ≡ put_entry d name i (state geometry old)
unfolding tree
added_state geometry old new free name d i is fits short writes names list =
    let edition = geometry.edition in
    let file : IsFile geometry old d = record { first = is.first; last = is.last; kind = ap has_places is.kind } in
    let s = new_slot (names_in (slots geometry old d)) in
    let stores = stores_blocks geometry old new free d (16 * s) (slot_bytes name i) file writes in
    let kind : kind_at geometry new d ≡ kinds.Directory = stores.kind ∙ is.kind in
    let size = size_with_entry (state geometry old) d in
    let old_node = inode_of edition old d in
    let before = names_of (slots geometry old d) in
    let put = with_item (names_in (slots geometry old d)) s (Some name) in
    let blocks : touched (16 * s) (length (slot_bytes name i)) ≡ s / 32 ∷ [] = ap (touched (16 * s)) (length-slot_bytes name i short) ∙ slot_block s in
    let stored : directory_shape geometry new d
    ≡ record (stored_shape edition (directory_shape geometry old d) (touched (16 * s) (length (slot_bytes name i)))) { slots = put } =
    λ k. record { names = λ p. stores.names p k; large = stores.large k; slots = list k } in
    only_makes geometry old new d _ _ is.first is.last (only_file geometry old new d fits writes.alone is.first)
    (node_edited geometry old new d (λ node. record node {
      content = change_names (λ names. insert names name i) node.content;
      size = size;
    }) (Directory before) (Directory (names_of (slots geometry new d))) size is.first is.last (ap (content_of geometry old d) is.kind)
    (ap (content_of geometry new d) kind) stores.fields (size_after geometry old new free name d i is short writes)
    (λ k. record (node_with old_node (Directory before)) { content = Directory (names k); size = size }))
    (ap (shape_of geometry new d) kind
    ∙ (stored
    ∙ (ap (λ list. record (stored_shape edition (directory_shape geometry old d) list) { slots = put }) blocks
    ∙ sym (ap (λ shape. shape_with_entry edition shape name) (shape_is geometry old d is)))))

-- clearing the i-number of a slot changes the state as `drop_entry` does
pub removed_state : (geometry : Geometry) (old new free name : List ℕ) (d s : ℕ) → IsKind geometry old d kinds.Directory → Fits geometry old
    → Writes geometry old new d (16 * s) (0 ∷ 0 ∷ []) free → need geometry old d (16 * s) 2 ≡ 0 → size_of geometry new d ≡ size_of geometry old d
    → names_of (slots geometry new d) ≡ remove (names_of (slots geometry old d)) name
    → names_in (slots geometry new d) ≡ map (emptied name) (names_in (slots geometry old d))
    → state geometry new ≡ drop_entry d name (state geometry old)
unfolding tree
removed_state geometry old new free name d s is fits writes none size names list =
    let edition = geometry.edition in
    let file : IsFile geometry old d = record { first = is.first; last = is.last; kind = ap has_places is.kind } in
    let blocks = touched (16 * s) 2 in
    let stores = stores_blocks geometry old new free d (16 * s) (0 ∷ 0 ∷ []) file writes in
    let kind : kind_at geometry new d ≡ kinds.Directory = stores.kind ∙ is.kind in
    let form = form_in edition (is_large edition (mode_of geometry old d)) in
    let needed : need_of form (is_named_place geometry old d) blocks ≡ 0 =
    ap (λ f. need_of f (is_named_place geometry old d) blocks) (form_shape edition (mode_of geometry old d) file.kind)
    ∙ (need_places (form_at geometry old d) (is_named geometry old d) blocks ∙ none) in
    let grows = grown_need form (is_named_place geometry old d) blocks needed in
    let large : is_large edition (mode_of geometry new d) ≡ is_large edition (mode_of geometry old d) =
    stores.large ∙ (ap (λ t. is_large edition (mode_of geometry old d) || t) grows ∙ or-false (is_large edition (mode_of geometry old d))) in
    let stay : (p : List ℕ) → is_named_place geometry new d p ≡ is_named_place geometry old d p =
    λ p. stores.names p ∙ filled_none form (is_named_place geometry old d) blocks p needed in
    let old_node = inode_of edition old d in
    let before = names_of (slots geometry old d) in
    let without = map (emptied name) (names_in (slots geometry old d)) in
    let left : directory_shape geometry new d ≡ record (directory_shape geometry old d) { slots = without } =
    λ k. record { names = λ p. stay p k; large = large k; slots = list k } in
    only_makes geometry old new d _ _ is.first is.last (only_file geometry old new d fits writes.alone is.first)
    (node_edited geometry old new d (λ node. record node { content = change_names (λ names. remove names name) node.content })
    (Directory before) (Directory (names_of (slots geometry new d))) old_node.size is.first is.last (ap (content_of geometry old d) is.kind)
    (ap (content_of geometry new d) kind) stores.fields (size ∙ sym (inode_size edition old (inode_place edition d)))
    (λ k. record (node_with old_node (Directory before)) { content = Directory (names k) }))
    (ap (shape_of geometry new d) kind
    ∙ (left ∙ sym (ap (λ shape. shape_without_entry shape name) (shape_is geometry old d is))))

-- a slot that holds a name has an entry with this name and the slot's i-number
held_entry : (name : List ℕ) (slot : Option (List ℕ × ℕ)) → holds name slot ≡ true
    → slot ≡ option_map (λ (i : ℕ). (name, i)) (option_map (λ (entry : List ℕ × ℕ). entry.1) slot)
held_entry name None held = refl
held_entry name (Some entry) held = let same = sym (same_bytes name entry.0 held) in λ k. Some (same k, entry.1)

-- if rule 9 holds, no directory has a name twice
pub names_once : (geometry : Geometry) (image : List ℕ) (d : ℕ) → HasEntries geometry image → IsDirectory geometry image d → HasNamesOnce geometry image d
names_once geometry image d entries is = record {
  once = λ name s t first second.
      let one = held_some name (entry_at geometry image d s) first in
      let two = held_some name (entry_at geometry image d t) second in
      entries.once d s t one.0 two.0 name (record { directory = is; entry = one.1 }) (record { directory = is; entry = two.1 });
}

-- slot s of directory d holds the name, and has the entry for its i-number
pub record HoldsName (geometry : Geometry) (image name : List ℕ) (d s : ℕ) : Type 0 where
  pub within : s < slot_count geometry image d
  pub held : holds name (entry_at geometry image d s) ≡ true
  pub entry : entry_at geometry image d s ≡ option_map (λ (i : ℕ). (name, i)) (get (names_of (slots geometry image d)) name)

-- if directory d has the name, slot `slot_named` holds it
pub named_slot : (geometry : Geometry) (image name : List ℕ) (d : ℕ) → is_some (get (names_of (slots geometry image d)) name) ≡ true
    → HoldsName geometry image name d (slot_named name (slots geometry image d))
named_slot geometry image name d there =
    let list = slots geometry image d in
    let s = slot_named name list in
    let len = length-slots geometry image d in
    let within : s < length list = (elim (cases_lt s (length list)) [
      | inl h ↦ h
      | inr h ↦
          absurd (true≢false (sym there ∙ ap is_some (get_none list name (λ t low. fails_before_first (holds name) list t None (omega (arith, low, h))))))
    ]) in
    let held = passes_at_first (holds name) list None within in
    record {
      within = omega (arith, within, len);
      held = ap (holds name) (sym (slot_is geometry image d s)) ∙ held;
      entry = sym (slot_is geometry image d s)
          ∙ (held_entry name (get_or list s None) held
          ∙ ap (option_map (λ (i : ℕ). (name, i)))
          (sym (get_first list name s within held (λ t low. fails_before_first (holds name) list t None low))));
    }
