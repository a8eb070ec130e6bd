-- Laws of the i-nodes: their fields, their positions, and the writes that do not change them.
use Rattle.std.specs.List.{range_with_len}
use Rattle.std.proofs.Common.{◌≡◌, ◌≢◌, ℕ, ◌+◌, ◌-◌, ◌*◌, ◌<◌, ◌≤◌, ◌∙◌, sym, ap, subst, List, map, length, get_or, refl, arith, inl, inr, Some, None, if◌then◌else◌, true, false, ltb, min}
use Rattle.std.proofs.lemmas.List.FromFn.{length-map-range_with_len, get_or-map-range_with_len}
use Rattle.std.proofs.lemmas.Grind.{same_number_lists}
use Rattle.std.proofs.lemmas.Bool.{cases_lt, ltb-true}
use Rattle.pdp_words.specs.Words.{word, long, SameOutside}
use Rattle.vol_layout.specs.Edition.{constants}
use Rattle.vol_layout.specs.Geometry.{Fits}
use Rattle.vol_layout.specs.Inode.{inode_place, address_at, addresses_at, size_at, inode_at, inode_of, kind_of}
use Rattle.vol_layout.specs.BlockPointers.{mode_of, form_at, IsFile}
use Rattle.vol_layout.specs.Body.{body_size}
use Rattle.vol_layout.specs.Laws.{manual_place}
use Rattle.vol_layout.specs.BlockMaps.{form_of, has_places}
use Rattle.vol_layout.specs.declared.edition.Edition.{Edition}
use Rattle.vol_layout.specs.declared.edition.Edition.TheVariants.{V6, V7}
use Rattle.vol_layout.specs.declared.geometry.Geometry.{Geometry}
use Rattle.vol_layout.proofs.CopyLaws.{IsCopy, copy_below, copy_above, byte_copied, word_copied, long_copied, addr3_copied}

-- the mode of an i-node is its first word
pub inode_mode : (edition : Edition) (image : List ℕ) (at : ℕ) → (inode_at edition image at).mode.bits ≡ word image at
unfolding inode_at
inode_mode V6 image at = refl
inode_mode V7 image at = refl

pub inode_size : (edition : Edition) (image : List ℕ) (at : ℕ) → (inode_at edition image at).size ≡ size_at edition image at
unfolding inode_at
inode_size V6 image at = refl
inode_size V7 image at = refl

pub inode_addresses : (edition : Edition) (image : List ℕ) (at : ℕ) → (inode_at edition image at).addresses ≡ addresses_at edition image at
unfolding inode_at
inode_addresses V6 image at = refl
inode_addresses V7 image at = refl

-- item `k` of an i-node's addresses is `address_at` at `k`
pub inode_address : (edition : Edition) (image : List ℕ) (at k : ℕ) → k < 13
    → get_or (inode_at edition image at).addresses k 0 ≡ address_at edition image at k
unfolding addresses_at
inode_address edition image at k h =
    ap (λ xs. get_or xs k 0) (inode_addresses edition image at) ∙ get_or-map-range_with_len (address_at edition image at) 0 13 k k 0 h (omega arith)

-- the link count, owner, group and times of a sixth edition i-node are at these bytes
pub inode_v6 : (image : List ℕ) (at : ℕ) → let node = inode_at V6 image at in
    (node.links ≡ get_or image (at + 2) 0) × (node.uid ≡ get_or image (at + 3) 0) × (node.gid ≡ get_or image (at + 4) 0)
    × (node.accessed ≡ long image (at + 24)) × (node.modified ≡ long image (at + 28)) × (node.changed ≡ None)
unfolding inode_at
inode_v6 image at = (refl, refl, refl, refl, refl, refl)

-- the link count, owner, group and times of a seventh edition i-node are at these bytes
pub inode_v7 : (image : List ℕ) (at : ℕ) → let node = inode_at V7 image at in
    (node.links ≡ word image (at + 2)) × (node.uid ≡ word image (at + 4)) × (node.gid ≡ word image (at + 6))
    × (node.accessed ≡ long image (at + 52)) × (node.modified ≡ long image (at + 56)) × (node.changed ≡ Some (long image (at + 60)))
unfolding inode_at
inode_v7 image at = (refl, refl, refl, refl, refl, refl)

-- an i-node begins at the byte computed by the manual's formula
pub place_manual : (edition : Edition) (i : ℕ) → 1 ≤ i → inode_place edition i ≡ manual_place edition i
place_manual V6 i h = omega arith
place_manual V7 i h = omega arith

-- an i-node begins after blocks 0 and 1
pub place_from : (edition : Edition) (i : ℕ) → 1024 ≤ inode_place edition i
place_from edition i = omega arith

-- an i-node ends before a later one begins
pub place_apart : (edition : Edition) (i j : ℕ) → 1 ≤ i → i < j → inode_place edition i + (constants edition).inode_bytes ≤ inode_place edition j
place_apart V6 i j h less = omega arith
place_apart V7 i j h less = omega arith

-- an i-node of the volume ends before the data zone
pub place_room : (geometry : Geometry) (image : List ℕ) (i : ℕ) → Fits geometry image → 1 ≤ i → i ≤ geometry.last_inode
    → inode_place geometry.edition i + (constants geometry.edition).inode_bytes ≤ 512 * geometry.zone_start
place_room geometry image i fits first last =
    let apart : inode_place geometry.edition i + (constants geometry.edition).inode_bytes ≤ inode_place geometry.edition (geometry.last_inode + 1) =
    place_apart geometry.edition i (geometry.last_inode + 1) first (omega arith) in
    let end : geometry.last_inode + 1 - 1 ≡ geometry.last_inode = omega arith in
    let whole : inode_place geometry.edition (geometry.last_inode + 1) ≡ 512 * geometry.zone_start =
    ap (λ x. 1024 + (constants geometry.edition).inode_bytes * x) end ∙ fits.i_list in
    omega (arith, apart, whole)

-- a copied i-node has the same address `k`
pub address_copied : (edition : Edition) (old new : List ℕ) (from to k : ℕ) → IsCopy old new from to (constants edition).inode_bytes → k < 13
    → address_at edition new to k ≡ address_at edition old from k
address_copied V6 old new from to k copy h =
    elim (ltb k 8) as (λ t. ltb k 8 ≡ t → (if t then word new (to + 8 + 2 * k) else 0) ≡ (if t then word old (from + 8 + 2 * k) else 0)) [
      | true ↦ λ t. let low : k < 8 = ltb-true k 8 t in
          word_copied old new from to 32 (8 + 2 * k) (from + 8 + 2 * k) (to + 8 + 2 * k) copy (omega arith) (omega arith) (omega arith)
      | false ↦ λ t. refl
    ] refl
address_copied V7 old new from to k copy h =
    addr3_copied old new from to 64 (12 + 3 * k) (from + 12 + 3 * k) (to + 12 + 3 * k) copy (omega arith) (omega arith) (omega arith)

-- a copied i-node has the same mode
pub mode_copied : (edition : Edition) (old new : List ℕ) (from to : ℕ) → IsCopy old new from to (constants edition).inode_bytes
    → word new to ≡ word old from
mode_copied V6 old new from to copy = word_copied old new from to 32 0 from to copy (omega arith) (omega arith) (omega arith)
mode_copied V7 old new from to copy = word_copied old new from to 64 0 from to copy (omega arith) (omega arith) (omega arith)

-- a copied i-node has the same size
pub size_copied : (edition : Edition) (old new : List ℕ) (from to : ℕ) → IsCopy old new from to (constants edition).inode_bytes
    → size_at edition new to ≡ size_at edition old from
size_copied V6 old new from to copy =
    let high : get_or new (to + 5) 0 ≡ get_or old (from + 5) 0 = byte_copied old new from to 32 5 (from + 5) (to + 5) copy (omega arith) refl refl in
    let low : word new (to + 6) ≡ word old (from + 6) = word_copied old new from to 32 6 (from + 6) (to + 6) copy (omega arith) refl refl in
    omega arith
size_copied V7 old new from to copy = long_copied old new from to 64 8 (from + 8) (to + 8) copy (omega arith) refl refl

-- a copied i-node has the same addresses
pub addresses_copied : (edition : Edition) (old new : List ℕ) (from to : ℕ) → IsCopy old new from to (constants edition).inode_bytes
    → addresses_at edition new to ≡ addresses_at edition old from
unfolding addresses_at
addresses_copied edition old new from to copy =
    let left : length (map (address_at edition new to) (range_with_len 0 13)) ≡ 13 = length-map-range_with_len (address_at edition new to) 0 13 in
    let right : length (map (address_at edition old from) (range_with_len 0 13)) ≡ 13 = length-map-range_with_len (address_at edition old from) 0 13 in
    same_number_lists (map (address_at edition new to) (range_with_len 0 13)) (map (address_at edition old from) (range_with_len 0 13)) (left ∙ sym right)
    (λ k h. let low : k < 13 = omega arith in
    get_or-map-range_with_len (address_at edition new to) 0 13 k k 0 low (omega arith)
    ∙ (address_copied edition old new from to k copy low ∙ sym (get_or-map-range_with_len (address_at edition old from) 0 13 k k 0 low (omega arith))))

-- a copied i-node has the same fields
pub inode_copied : (edition : Edition) (old new : List ℕ) (from to : ℕ) → IsCopy old new from to (constants edition).inode_bytes
    → inode_at edition new to ≡ inode_at edition old from
unfolding inode_at
inode_copied V6 old new from to copy =
    let mode : word new to ≡ word old from = mode_copied V6 old new from to copy in
    let links : get_or new (to + 2) 0 ≡ get_or old (from + 2) 0 = byte_copied old new from to 32 2 (from + 2) (to + 2) copy (omega arith) refl refl in
    let uid : get_or new (to + 3) 0 ≡ get_or old (from + 3) 0 = byte_copied old new from to 32 3 (from + 3) (to + 3) copy (omega arith) refl refl in
    let gid : get_or new (to + 4) 0 ≡ get_or old (from + 4) 0 = byte_copied old new from to 32 4 (from + 4) (to + 4) copy (omega arith) refl refl in
    let size : size_at V6 new to ≡ size_at V6 old from = size_copied V6 old new from to copy in
    let addresses : addresses_at V6 new to ≡ addresses_at V6 old from = addresses_copied V6 old new from to copy in
    let accessed : long new (to + 24) ≡ long old (from + 24) = long_copied old new from to 32 24 (from + 24) (to + 24) copy (omega arith) refl refl in
    let modified : long new (to + 28) ≡ long old (from + 28) = long_copied old new from to 32 28 (from + 28) (to + 28) copy (omega arith) refl refl in
    cc
inode_copied V7 old new from to copy =
    let mode : word new to ≡ word old from = mode_copied V7 old new from to copy in
    let links : word new (to + 2) ≡ word old (from + 2) = word_copied old new from to 64 2 (from + 2) (to + 2) copy (omega arith) refl refl in
    let uid : word new (to + 4) ≡ word old (from + 4) = word_copied old new from to 64 4 (from + 4) (to + 4) copy (omega arith) refl refl in
    let gid : word new (to + 6) ≡ word old (from + 6) = word_copied old new from to 64 6 (from + 6) (to + 6) copy (omega arith) refl refl in
    let size : size_at V7 new to ≡ size_at V7 old from = size_copied V7 old new from to copy in
    let addresses : addresses_at V7 new to ≡ addresses_at V7 old from = addresses_copied V7 old new from to copy in
    let accessed : long new (to + 52) ≡ long old (from + 52) = long_copied old new from to 64 52 (from + 52) (to + 52) copy (omega arith) refl refl in
    let modified : long new (to + 56) ≡ long old (from + 56) = long_copied old new from to 64 56 (from + 56) (to + 56) copy (omega arith) refl refl in
    let changed : long new (to + 60) ≡ long old (from + 60) = long_copied old new from to 64 60 (from + 60) (to + 60) copy (omega arith) refl refl in
    cc

-- i-node `i` has the same bytes in both images
abbrev pub KeepsInode : Geometry → List ℕ → List ℕ → ℕ → Type 0
KeepsInode geometry old new i =
    IsCopy old new (inode_place geometry.edition i) (inode_place geometry.edition i) (constants geometry.edition).inode_bytes

-- a write that begins in the data zone does not change the i-nodes
pub inode_kept : (geometry : Geometry) (old new : List ℕ) (from to i : ℕ) → Fits geometry old → SameOutside old new from to
    → 512 * geometry.zone_start ≤ from → 1 ≤ i → i ≤ geometry.last_inode → KeepsInode geometry old new i
inode_kept geometry old new from to i fits same zone first last =
    let room : inode_place geometry.edition i + (constants geometry.edition).inode_bytes ≤ 512 * geometry.zone_start = place_room geometry old i fits first last in
    copy_below old new from to (inode_place geometry.edition i) (constants geometry.edition).inode_bytes same (omega arith)

-- a write of i-node `i` does not change another i-node
pub inode_apart : (geometry : Geometry) (old new : List ℕ) (i j : ℕ) → 1 ≤ i → 1 ≤ j → j ≢ i
    → SameOutside old new (inode_place geometry.edition i) (inode_place geometry.edition i + (constants geometry.edition).inode_bytes)
    → KeepsInode geometry old new j
inode_apart geometry old new i j first second other same =
    elim (cases_lt j i) [
      | inl h ↦ copy_below old new (inode_place geometry.edition i) (inode_place geometry.edition i + (constants geometry.edition).inode_bytes)
          (inode_place geometry.edition j) (constants geometry.edition).inode_bytes same (place_apart geometry.edition j i second h)
      | inr h ↦ copy_above old new (inode_place geometry.edition i) (inode_place geometry.edition i + (constants geometry.edition).inode_bytes)
          (inode_place geometry.edition j) (constants geometry.edition).inode_bytes same (place_apart geometry.edition i j first (omega arith))
    ]

-- an i-node with the same bytes has the same mode
pub mode_kept : (geometry : Geometry) (old new : List ℕ) (i : ℕ) → KeepsInode geometry old new i → mode_of geometry new i ≡ mode_of geometry old i
mode_kept geometry old new i kept =
    mode_copied geometry.edition old new (inode_place geometry.edition i) (inode_place geometry.edition i) kept

-- an i-node with the same mode has the same block map
pub form_same : (geometry : Geometry) (old new : List ℕ) (i : ℕ) → mode_of geometry new i ≡ mode_of geometry old i → form_at geometry new i ≡ form_at geometry old i
form_same geometry old new i e = ap (form_of geometry.edition) e

-- an i-node with the same bytes has the same block map
pub form_kept : (geometry : Geometry) (old new : List ℕ) (i : ℕ) → KeepsInode geometry old new i → form_at geometry new i ≡ form_at geometry old i
form_kept geometry old new i kept = form_same geometry old new i (mode_kept geometry old new i kept)

-- an i-node with the same bytes has the same size
pub size_kept : (geometry : Geometry) (old new : List ℕ) (i : ℕ) → KeepsInode geometry old new i
    → size_at geometry.edition new (inode_place geometry.edition i) ≡ size_at geometry.edition old (inode_place geometry.edition i)
size_kept geometry old new i kept =
    size_copied geometry.edition old new (inode_place geometry.edition i) (inode_place geometry.edition i) kept

-- an i-node with the same bytes has a body of the same size
pub body_size_kept : (geometry : Geometry) (old new : List ℕ) (i : ℕ) → KeepsInode geometry old new i → body_size geometry new i ≡ body_size geometry old i
body_size_kept geometry old new i kept = ap (λ n. min n (constants geometry.edition).greatest) (size_kept geometry old new i kept)

-- an i-node with the same bytes has the same addresses
pub address_kept : (geometry : Geometry) (old new : List ℕ) (i k : ℕ) → KeepsInode geometry old new i → k < 13
    → address_at geometry.edition new (inode_place geometry.edition i) k ≡ address_at geometry.edition old (inode_place geometry.edition i) k
address_kept geometry old new i k kept h =
    address_copied geometry.edition old new (inode_place geometry.edition i) (inode_place geometry.edition i) k kept h

-- an i-node with the same bytes has the same fields
pub inode_of_kept : (geometry : Geometry) (old new : List ℕ) (i : ℕ) → KeepsInode geometry old new i
    → inode_of geometry.edition new i ≡ inode_of geometry.edition old i
inode_of_kept geometry old new i kept =
    inode_copied geometry.edition old new (inode_place geometry.edition i) (inode_place geometry.edition i) kept

-- an i-node with the same bytes is still a regular file or directory
pub file_kept : (geometry : Geometry) (old new : List ℕ) (i : ℕ) → KeepsInode geometry old new i → IsFile geometry old i → IsFile geometry new i
file_kept geometry old new i kept file = record {
  first = file.first;
  last = file.last;
  kind = subst (λ mode. has_places (kind_of geometry.edition mode) ≡ true) (sym (mode_kept geometry old new i kept)) file.kind;
}

-- a geometry still fits the image after a write
pub fits_kept : (geometry : Geometry) (old new : List ℕ) (from to : ℕ) → SameOutside old new from to → Fits geometry old → Fits geometry new
fits_kept geometry old new from to same fits =
    record { blocks = let len : length new ≡ length old = same.len in omega arith; i_list = fits.i_list; zone = fits.zone; root = fits.root; limit = fits.limit }
