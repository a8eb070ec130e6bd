-- If an i-node's mode, size, addresses, bytes and the addresses in its block map don't change, it reads as before. In the mode the permission bits
-- may change.
use Rattle.std.proofs.Common.{◌≡◌, ◌∙◌, ap, refl, ℕ, ◌*◌, ◌/◌, ◌%◌, ◌≤◌, ◌==◌, ◌&&◌, nat_lt, min, true, false, if◌then◌else◌, not, List, [], map, None, Some}
use Rattle.std.specs.List.{range_with_len}
use Rattle.std.specs.Option.{option_map}
use Rattle.vol_layout.specs.Edition.{constants}
use Rattle.vol_layout.specs.Inode.{inode_of, kind_of, is_large}
use Rattle.vol_layout.specs.BlockPointers.{mode_of, form_at, IsFile, IsPlaceOf, named}
use Rattle.vol_layout.specs.Body.{body}
use Rattle.vol_layout.specs.BlockMaps.{form_of, file_form, has_places}
use Rattle.vol_layout.specs.Slot.{slot_at}
use Rattle.vol_layout.specs.declared.edition.Edition.{Edition}
use Rattle.vol_layout.specs.declared.edition.Edition.TheVariants.{V6, V7}
use Rattle.vol_layout.specs.declared.geometry.Geometry.{Geometry}
use Rattle.vol_layout.specs.declared.mode.Kind.{Kind}
use Rattle.vol_layout.specs.declared.mode.Kind.TheVariants as kinds
use Rattle.vol_layout.specs.declared.block_map.BlockMap.TheVariants.{Small, Large, Deep, Bare}
use Rattle.vol_file.specs.Rules.{kind_at, size_of}
use Rattle.vol_file.specs.Shape.{is_named}
use Rattle.vol_dir.specs.Entries.{entry_in, entry_at, slots, slot_count}
use Rattle.vol_dir.specs.Names.{names_of, names_in}
use Rattle.vol_change.specs.Alone.{KeepsContent}
use Rattle.vol_dir.specs.Tree.{Body, Directory, Device, content_of, node_with, node_of, shape_of, is_place, is_named_place}
use Rattle.vol_dir.proofs.PlaceTests.{place_passed}

-- i-node i reads as before, except for its permission bits: its kind, the mode bits above the permissions, its size and addresses, its bytes, and the
-- addresses in its block map are unchanged
pub record KeepsReading (geometry : Geometry) (old new : List ℕ) (i : ℕ) : Type 0 where
  pub kind : kind_at geometry new i ≡ kind_at geometry old i
  pub type : mode_of geometry new i / 4096 ≡ mode_of geometry old i / 4096
  pub size : size_of geometry new i ≡ size_of geometry old i
  pub addresses : (inode_of geometry.edition new i).addresses ≡ (inode_of geometry.edition old i).addresses
  pub bytes : IsFile geometry old i → body geometry new i ≡ body geometry old i
  pub names : (p : List ℕ) → IsPlaceOf geometry old i p → named geometry new i p ≡ named geometry old i p

-- an i-node whose content is unchanged reads as before
pub reading : (geometry : Geometry) (old new : List ℕ) (i : ℕ) → KeepsContent geometry old new i → KeepsReading geometry old new i
reading geometry old new i kept = record {
  kind = ap (kind_of geometry.edition) kept.mode;
  type = ap (λ m. m / 4096) kept.mode;
  size = kept.size;
  addresses = kept.addresses;
  bytes = kept.bytes;
  names = kept.names;
}

-- the kind doesn't change
pub kind_same : (geometry : Geometry) (old new : List ℕ) (i : ℕ) → KeepsContent geometry old new i
    → kind_at geometry new i ≡ kind_at geometry old i
kind_same geometry old new i kept = ap (kind_of geometry.edition) kept.mode

-- the large flag depends only on the mode bits above the permissions
pub large_by : (edition : Edition) (mode other : ℕ) → mode / 4096 ≡ other / 4096 → is_large edition mode ≡ is_large edition other
large_by V6 mode other same = ap (λ n. n % 2 == 1) same
large_by V7 mode other same = refl

-- the block map depends only on the kind and the mode bits above the permissions
pub form_by : (edition : Edition) (mode other : ℕ) → kind_of edition mode ≡ kind_of edition other → mode / 4096 ≡ other / 4096
    → form_of edition mode ≡ form_of edition other
form_by V6 mode other kind same =
    ap (λ k. if has_places k then file_form V6 mode else Bare) kind
    ∙ ap (λ large. if has_places (kind_of V6 other) then (if large then Large else Small) else Bare) (large_by V6 mode other same)
form_by V7 mode other kind same = ap (λ k. if has_places k then Deep else Bare) kind

-- the block map doesn't change
pub form_reads : (geometry : Geometry) (old new : List ℕ) (i : ℕ) → KeepsReading geometry old new i → form_at geometry new i ≡ form_at geometry old i
form_reads geometry old new i kept = form_by geometry.edition (mode_of geometry new i) (mode_of geometry old i) kept.kind kept.type

-- the number of slots doesn't change
slots_count : (geometry : Geometry) (old new : List ℕ) (i : ℕ) → KeepsReading geometry old new i
    → slot_count geometry new i ≡ slot_count geometry old i
slots_count geometry old new i kept = ap (λ n. min n (constants geometry.edition).greatest / 16) kept.size

-- the entry in each slot doesn't change
pub entry_reads : (geometry : Geometry) (old new : List ℕ) (i s : ℕ) → KeepsReading geometry old new i → IsFile geometry old i
    → entry_at geometry new i s ≡ entry_at geometry old i s
unfolding entry_at
entry_reads geometry old new i s kept file =
    ap (λ n. if nat_lt s n then entry_in (slot_at (body geometry new i) (16 * s)) else None) (slots_count geometry old new i kept)
    ∙ ap (λ xs. if nat_lt s (slot_count geometry old i) then entry_in (slot_at xs (16 * s)) else None) (kept.bytes file)

-- the list of entries doesn't change
slots_same : (geometry : Geometry) (old new : List ℕ) (i : ℕ) → KeepsReading geometry old new i → IsFile geometry old i
    → slots geometry new i ≡ slots geometry old i
unfolding slots
slots_same geometry old new i kept file =
    let each : entry_at geometry new i ≡ entry_at geometry old i = λ k s. entry_reads geometry old new i s kept file k in
    ap (λ n. map (entry_at geometry new i) (range_with_len 0 n)) (slots_count geometry old new i kept)
    ∙ ap (λ f. map f (range_with_len 0 (slot_count geometry old i))) each

-- an i-node of a kind with a block map belongs to a file
pub file_by : (geometry : Geometry) (image : List ℕ) (i : ℕ) (kind : Kind) → 1 ≤ i → i ≤ geometry.last_inode → kind_at geometry image i ≡ kind
    → has_places kind ≡ true → IsFile geometry image i
file_by geometry image i kind first last is has = record { first = first; last = last; kind = ap has_places is ∙ has }

-- the content doesn't change, for each kind
content_by : (geometry : Geometry) (old new : List ℕ) (i : ℕ) (kind : Kind) → KeepsReading geometry old new i → 1 ≤ i → i ≤ geometry.last_inode
    → kind_at geometry old i ≡ kind → content_of geometry new i kind ≡ content_of geometry old i kind
content_by geometry old new i kinds.Free kept first last is = refl
content_by geometry old new i kinds.Odd kept first last is = refl
content_by geometry old new i kinds.Regular kept first last is =
    ap (λ xs. Some (Body xs)) (kept.bytes (file_by geometry old i kinds.Regular first last is refl))
content_by geometry old new i kinds.Directory kept first last is =
    ap (λ xs. Some (Directory (names_of xs))) (slots_same geometry old new i kept (file_by geometry old i kinds.Directory first last is refl))
content_by geometry old new i kinds.Special kept first last is =
    ap (λ m. Some (Device m (inode_of geometry.edition new i).addresses)) kept.type
    ∙ ap (λ xs. Some (Device (mode_of geometry old i / 4096) xs)) kept.addresses

-- the content doesn't change
pub content_reads : (geometry : Geometry) (old new : List ℕ) (i : ℕ) → KeepsReading geometry old new i → 1 ≤ i → i ≤ geometry.last_inode
    → content_of geometry new i (kind_at geometry new i) ≡ content_of geometry old i (kind_at geometry old i)
content_reads geometry old new i kept first last =
    ap (content_of geometry new i) kept.kind
    ∙ content_by geometry old new i (kind_at geometry old i) kept first last refl

-- the same positions of the block map have an address other than 0
names_same : (geometry : Geometry) (old new : List ℕ) (i : ℕ) → KeepsReading geometry old new i → IsFile geometry old i
    → is_named_place geometry new i ≡ is_named_place geometry old i
names_same geometry old new i kept file =
    let form : form_at geometry new i ≡ form_at geometry old i = form_reads geometry old new i kept in
    let each : (p : List ℕ) → is_named_place geometry new i p ≡ is_named_place geometry old i p = λ p.
    ap (λ f. is_place f p && is_named geometry new i p) form
    ∙ elim (is_place (form_at geometry old i) p) as (λ t. is_place (form_at geometry old i) p ≡ t
    → (t && is_named geometry new i p) ≡ (t && is_named geometry old i p)) [
      | true ↦ λ test. ap (λ n. not (n == 0)) (kept.names p (record { file = file; place = place_passed (form_at geometry old i) p test }))
      | false ↦ λ test. refl
    ] refl in
    λ k p. each p k

-- the shape doesn't change, for each kind
shape_by : (geometry : Geometry) (old new : List ℕ) (i : ℕ) (kind : Kind) → KeepsReading geometry old new i → 1 ≤ i → i ≤ geometry.last_inode
    → kind_at geometry old i ≡ kind → shape_of geometry new i kind ≡ shape_of geometry old i kind
shape_by geometry old new i kinds.Free kept first last is = refl
shape_by geometry old new i kinds.Odd kept first last is = refl
shape_by geometry old new i kinds.Special kept first last is = refl
shape_by geometry old new i kinds.Regular kept first last is =
    let names = names_same geometry old new i kept (file_by geometry old i kinds.Regular first last is refl) in
    let large : is_large geometry.edition (mode_of geometry new i) ≡ is_large geometry.edition (mode_of geometry old i) = large_by geometry.edition (mode_of geometry new i) (mode_of geometry old i) kept.type in
    λ k. record { names = names k; large = large k; slots = [] }
shape_by geometry old new i kinds.Directory kept first last is =
    let file = file_by geometry old i kinds.Directory first last is refl in
    let names = names_same geometry old new i kept file in
    let large : is_large geometry.edition (mode_of geometry new i) ≡ is_large geometry.edition (mode_of geometry old i) = large_by geometry.edition (mode_of geometry new i) (mode_of geometry old i) kept.type in
    let entries : names_in (slots geometry new i) ≡ names_in (slots geometry old i) = ap names_in (slots_same geometry old new i kept file) in
    λ k. record { names = names k; large = large k; slots = entries k }

-- the shape doesn't change
pub shape_reads : (geometry : Geometry) (old new : List ℕ) (i : ℕ) → KeepsReading geometry old new i → 1 ≤ i → i ≤ geometry.last_inode
    → shape_of geometry new i (kind_at geometry new i) ≡ shape_of geometry old i (kind_at geometry old i)
shape_reads geometry old new i kept first last =
    ap (shape_of geometry new i) kept.kind
    ∙ shape_by geometry old new i (kind_at geometry old i) kept first last refl

-- the node consists of the new i-node's fields and the old content
pub node_of_reading : (geometry : Geometry) (old new : List ℕ) (i : ℕ) → KeepsReading geometry old new i → 1 ≤ i → i ≤ geometry.last_inode
    → node_of geometry new i
    ≡ option_map (node_with (inode_of geometry.edition new i)) (content_of geometry old i (kind_at geometry old i))
unfolding node_of
node_of_reading geometry old new i kept first last =
    ap (option_map (node_with (inode_of geometry.edition new i))) (content_reads geometry old new i kept first last)

-- if the content of an i-node doesn't change, neither does the entry in each slot
pub entry_same : (geometry : Geometry) (old new : List ℕ) (i s : ℕ) → KeepsContent geometry old new i → IsFile geometry old i
    → entry_at geometry new i s ≡ entry_at geometry old i s
entry_same geometry old new i s kept = entry_reads geometry old new i s (reading geometry old new i kept)

-- if the content of an i-node doesn't change, neither does its shape
pub shape_same : (geometry : Geometry) (old new : List ℕ) (i : ℕ) → KeepsContent geometry old new i → 1 ≤ i → i ≤ geometry.last_inode
    → shape_of geometry new i (kind_at geometry new i) ≡ shape_of geometry old i (kind_at geometry old i)
shape_same geometry old new i kept = shape_reads geometry old new i (reading geometry old new i kept)

-- if an i-node and its content don't change, neither does its node
pub node_same : (geometry : Geometry) (old new : List ℕ) (i : ℕ) → KeepsContent geometry old new i → 1 ≤ i → i ≤ geometry.last_inode
    → inode_of geometry.edition new i ≡ inode_of geometry.edition old i → node_of geometry new i ≡ node_of geometry old i
unfolding node_of
node_same geometry old new i kept first last same =
    ap (option_map (node_with (inode_of geometry.edition new i))) (content_reads geometry old new i (reading geometry old new i kept) first last)
    ∙ ap (λ node. option_map (node_with node) (content_of geometry old i (kind_at geometry old i))) same
