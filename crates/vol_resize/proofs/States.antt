-- The tree and the shapes of a volume with another number of blocks.
use Rattle.std.proofs.Common.{◌≡◌, ℕ, ◌*◌, ◌≤◌, ◌&&◌, ◌==◌, ◌∙◌, ap, sym, refl, Bool, true, false, not, nat_lt, if◌then◌else◌, List, [], map, None, Some, inl, inr, Option}
use Rattle.std.specs.List.{range_with_len}
use Rattle.std.specs.Option.{option_map}
use Rattle.std.proofs.lemmas.Bool.{cases_Bool, and_parts, leb-true}
use Rattle.pdp_words.specs.Words.{long}
use Rattle.vol_layout.specs.Inode.{inode_of, is_large}
use Rattle.vol_layout.specs.BlockPointers.{IsFile, form_at, mode_of}
use Rattle.vol_layout.specs.BlockMaps.{has_places}
use Rattle.vol_layout.specs.Slot.{slot_at}
use Rattle.vol_layout.specs.Super.{time_place}
use Rattle.vol_layout.specs.declared.geometry.Geometry.{Geometry}
use Rattle.vol_layout.specs.declared.mode.Kind.{Kind}
use Rattle.vol_layout.specs.declared.mode.Kind.TheVariants as kinds
use Rattle.vol_file.specs.Rules.{kind_at}
use Rattle.vol_file.specs.Shape.{is_named}
use Rattle.vol_dir.specs.Entries.{entry_in, entry_at, slot_count, slots}
use Rattle.vol_dir.specs.Names.{names_of, names_in}
use Rattle.vol_dir.specs.Tree.{Body, Directory, Node, Shape, content_of, is_named_place, is_number, is_place, no_shape, node_of, node_with, shape_of, shapes, state, tree}
use Rattle.vol_dir.proofs.PlaceTests.{place_passed}
use Rattle.vol_resize.specs.Resized.{with_blocks, state_in}
use Rattle.vol_resize.proofs.Bodies.{HasBoth, named_in, body_in}

-- the entry in a slot of a directory is the same
pub entry_same : (blocks : ℕ) (geometry : Geometry) (image : List ℕ) (d s : ℕ) → HasBoth blocks geometry image → IsFile geometry image d
    → entry_at (with_blocks blocks geometry) image d s ≡ entry_at geometry image d s
unfolding entry_at
entry_same blocks geometry image d s both file =
    ap (λ xs. if nat_lt s (slot_count geometry image d) then entry_in (slot_at xs (16 * s)) else None) (body_in blocks geometry image d both file)

-- the entries of a directory are the same
slots_same : (blocks : ℕ) (geometry : Geometry) (image : List ℕ) (d : ℕ) → HasBoth blocks geometry image → IsFile geometry image d
    → slots (with_blocks blocks geometry) image d ≡ slots geometry image d
unfolding slots
slots_same blocks geometry image d both file =
    let each : entry_at (with_blocks blocks geometry) image d ≡ entry_at geometry image d = λ k s. entry_same blocks geometry image d s both file k in
    ap (λ f. map f (range_with_len 0 (slot_count geometry image d))) each

-- the same positions of a block map point to blocks
places_same : (blocks : ℕ) (geometry : Geometry) (image : List ℕ) (i : ℕ) → HasBoth blocks geometry image → IsFile geometry image i
    → is_named_place (with_blocks blocks geometry) image i ≡ is_named_place geometry image i
places_same blocks geometry image i both file =
    let each : (p : List ℕ) → is_named_place (with_blocks blocks geometry) image i p ≡ is_named_place geometry image i p = λ p.
    elim (is_place (form_at geometry image i) p) as (λ t. is_place (form_at geometry image i) p ≡ t
    → (t && is_named (with_blocks blocks geometry) image i p) ≡ (t && is_named geometry image i p)) [
      | true ↦ λ test. ap (λ n. not (n == 0))
          (named_in blocks geometry image i p both (record { file = file; place = place_passed (form_at geometry image i) p test }))
      | false ↦ λ test. refl
    ] refl in
    λ k p. each p k

-- an i-node of the volume with a block map is a file's
file_by : (geometry : Geometry) (image : List ℕ) (i : ℕ) (kind : Kind) → 1 ≤ i → i ≤ geometry.last_inode → kind_at geometry image i ≡ kind
    → has_places kind ≡ true → IsFile geometry image i
file_by geometry image i kind first last is has = record { first = first; last = last; kind = ap has_places is ∙ has }

-- the content is the same, for each kind
content_same : (blocks : ℕ) (geometry : Geometry) (image : List ℕ) (i : ℕ) (kind : Kind) → HasBoth blocks geometry image → 1 ≤ i
    → i ≤ geometry.last_inode → kind_at geometry image i ≡ kind
    → content_of (with_blocks blocks geometry) image i kind ≡ content_of geometry image i kind
content_same blocks geometry image i kinds.Free both first last is = refl
content_same blocks geometry image i kinds.Odd both first last is = refl
content_same blocks geometry image i kinds.Special both first last is = refl
content_same blocks geometry image i kinds.Regular both first last is =
    ap (λ xs. Some (Body xs)) (body_in blocks geometry image i both (file_by geometry image i kinds.Regular first last is refl))
content_same blocks geometry image i kinds.Directory both first last is =
    ap (λ xs. Some (Directory (names_of xs))) (slots_same blocks geometry image i both (file_by geometry image i kinds.Directory first last is refl))

-- the shape is the same, for each kind
shape_same : (blocks : ℕ) (geometry : Geometry) (image : List ℕ) (i : ℕ) (kind : Kind) → HasBoth blocks geometry image → 1 ≤ i
    → i ≤ geometry.last_inode → kind_at geometry image i ≡ kind
    → shape_of (with_blocks blocks geometry) image i kind ≡ shape_of geometry image i kind
shape_same blocks geometry image i kinds.Free both first last is = refl
shape_same blocks geometry image i kinds.Odd both first last is = refl
shape_same blocks geometry image i kinds.Special both first last is = refl
shape_same blocks geometry image i kinds.Regular both first last is =
    let names = places_same blocks geometry image i both (file_by geometry image i kinds.Regular first last is refl) in
    λ k. record { names = names k; large = is_large geometry.edition (mode_of geometry image i); slots = [] }
shape_same blocks geometry image i kinds.Directory both first last is =
    let file = file_by geometry image i kinds.Directory first last is refl in
    let names = places_same blocks geometry image i both file in
    let entries : names_in (slots (with_blocks blocks geometry) image i) ≡ names_in (slots geometry image i) =
    ap names_in (slots_same blocks geometry image i both file) in
    λ k. record { names = names k; large = is_large geometry.edition (mode_of geometry image i); slots = entries k }

-- each node is the same
node_same : (blocks : ℕ) (geometry : Geometry) (image : List ℕ) (i : ℕ) → HasBoth blocks geometry image → 1 ≤ i → i ≤ geometry.last_inode
    → node_of (with_blocks blocks geometry) image i ≡ node_of geometry image i
unfolding node_of
node_same blocks geometry image i both first last =
    ap (option_map (node_with (inode_of geometry.edition image i)))
    (content_same blocks geometry image i (kind_at geometry image i) both first last refl)

-- the node of each number is the same in the tree
nodes_same : (blocks : ℕ) (geometry : Geometry) (image : List ℕ) (i : ℕ) → HasBoth blocks geometry image
    → (tree (with_blocks blocks geometry) image).nodes i ≡ (tree geometry image).nodes i
unfolding tree
nodes_same blocks geometry image i both = elim (cases_Bool (is_number geometry i)) [
  | inl is ↦
      let parts = and_parts _ _ is in
      ap (λ (n : Option Node). if is_number geometry i then n else None) (node_same blocks geometry image i both (leb-true 1 i parts.0) (leb-true i geometry.last_inode parts.1))
  | inr out ↦
      ap (λ (t : Bool). if t then node_of (with_blocks blocks geometry) image i else None) out
      ∙ sym (ap (λ (t : Bool). if t then node_of geometry image i else None) out)
]

-- the shape of each number is the same
shapes_same : (blocks : ℕ) (geometry : Geometry) (image : List ℕ) (i : ℕ) → HasBoth blocks geometry image
    → shapes (with_blocks blocks geometry) image i ≡ shapes geometry image i
unfolding shapes
shapes_same blocks geometry image i both = elim (cases_Bool (is_number geometry i)) [
  | inl is ↦
      let parts = and_parts _ _ is in
      ap (λ (s : Shape). if is_number geometry i then s else no_shape)
      (shape_same blocks geometry image i (kind_at geometry image i) both (leb-true 1 i parts.0) (leb-true i geometry.last_inode parts.1) refl)
  | inr out ↦
      ap (λ (t : Bool). if t then shape_of (with_blocks blocks geometry) image i (kind_at geometry image i) else no_shape) out
      ∙ sym (ap (λ (t : Bool). if t then shape_of geometry image i (kind_at geometry image i) else no_shape) out)
]

-- an image reads as the same state, with another number of blocks
pub reads_in : (blocks : ℕ) (geometry : Geometry) (image : List ℕ) → HasBoth blocks geometry image
    → state (with_blocks blocks geometry) image ≡ state_in blocks (state geometry image)
unfolding tree
reads_in blocks geometry image both =
    λ k. record {
      tree = record {
        geometry = with_blocks blocks geometry;
        time = long image (time_place geometry.edition);
        nodes = λ i. nodes_same blocks geometry image i both k;
      };
      shapes = λ i. shapes_same blocks geometry image i both k;
    }
