-- The block maps and bodies of files that a write does not change.
use Rattle.std.proofs.Common.{◌≡◌, ◌≢◌, ℕ, ◌+◌, ◌*◌, ◌/◌, ◌%◌, ◌<◌, ◌≤◌, ◌∙◌, sym, ap, List, [], ◌∷◌, get_or, refl, arith, inl, inr, Some, None, if◌then◌else◌, true, false}
use Rattle.std.specs.Option.{option_map_or}
use Rattle.pdp_words.specs.Words.{SameOutside}
use Rattle.vol_layout.specs.Edition.{constants, number}
use Rattle.vol_layout.specs.Geometry.{in_zone, Fits}
use Rattle.vol_layout.specs.Inode.{inode_place, address_at, address_count, is_large, kind_of}
use Rattle.vol_layout.specs.BlockMaps.{form_of, file_form, has_places, first_count, pointer_count, levels_below, IsPlace, last_place}
use Rattle.vol_layout.specs.BlockPointers.{mode_of, form_at, pointer_in, named, stored}
use Rattle.vol_layout.specs.Body.{zone_byte, body_byte, body_size, body}
use Rattle.vol_layout.specs.Laws.{IsFront}
use Rattle.vol_layout.specs.declared.edition.Edition.{Edition}
use Rattle.vol_layout.specs.declared.edition.Edition.TheVariants.{V6, V7}
use Rattle.vol_layout.specs.declared.geometry.Geometry.{Geometry}
use Rattle.vol_layout.specs.declared.block_map.BlockMap.{BlockMap}
use Rattle.vol_layout.specs.declared.block_map.BlockMap.TheVariants.{Small, Large, Bare}
use Rattle.vol_layout.proofs.CopyLaws.{IsCopy, copy_above, copy_block, number_copied, number_room}
use Rattle.vol_layout.proofs.InodeLaws.{KeepsInode, inode_kept, form_kept, address_kept, body_size_kept}
use Rattle.vol_layout.proofs.PlaceLaws.{last_leaf, place_front, front_above, front_self}
use Rattle.vol_layout.proofs.BodyLaws.{zone_bounds, same_body, zone_byte_in, body_byte_is}
use Rattle.vol_layout.proofs.NameLaws.{stored_apart_from}

-- for a regular file or directory, `pointer_count` is the edition's number of block numbers in an indirect block
pub pointers_in : (edition : Edition) (mode : ℕ) → pointer_count (file_form edition mode) ≡ (constants edition).pointers
pointers_in V6 mode = elim (is_large V6 mode) as (λ t. pointer_count (if t then Large else Small) ≡ 256) [ true ↦ refl | false ↦ refl ]
pointers_in V7 mode = refl

-- for any i-node, `pointer_count` is at most the edition's number of block numbers in an indirect block
pub pointers_of : (edition : Edition) (mode : ℕ) → pointer_count (form_of edition mode) ≤ (constants edition).pointers
pointers_of edition mode =
    elim (has_places (kind_of edition mode)) as (λ t. pointer_count (if t then file_form edition mode else Bare) ≤ (constants edition).pointers) [
      | true ↦ let same : pointer_count (file_form edition mode) ≡ (constants edition).pointers = pointers_in edition mode in omega arith
      | false ↦ omega arith
    ]

-- a file uses all addresses of its i-node
pub addresses_in : (edition : Edition) (mode : ℕ) → first_count (file_form edition mode) ≡ address_count edition
addresses_in V6 mode = elim (is_large V6 mode) as (λ t. first_count (if t then Large else Small) ≡ 8) [ true ↦ refl | false ↦ refl ]
addresses_in V7 mode = refl

-- a file uses at most the addresses of its i-node
pub addresses_few : (edition : Edition) (mode : ℕ) → first_count (form_of edition mode) ≤ address_count edition
addresses_few edition mode =
    elim (has_places (kind_of edition mode)) as (λ t. first_count (if t then file_form edition mode else Bare) ≤ address_count edition) [
      | true ↦ let same : first_count (file_form edition mode) ≡ address_count edition = addresses_in edition mode in omega arith
      | false ↦ omega arith
    ]

-- a file uses at most 13 addresses
pub addresses_of : (edition : Edition) (mode : ℕ) → first_count (form_of edition mode) ≤ 13
addresses_of V6 mode = let few : first_count (form_of V6 mode) ≤ 8 = addresses_few V6 mode in omega arith
addresses_of V7 mode = addresses_few V7 mode

-- a write of a data block does not change the i-nodes
pub block_keeps_inode : (geometry : Geometry) (old new : List ℕ) (k i : ℕ) → Fits geometry old → SameOutside old new (512 * k) (512 * k + 512)
    → in_zone geometry k ≡ true → 1 ≤ i → i ≤ geometry.last_inode → KeepsInode geometry old new i
block_keeps_inode geometry old new k i fits same zone first last =
    let bounds : (geometry.zone_start ≤ k) × (k < geometry.zone_end) = zone_bounds geometry k zone in
    inode_kept geometry old new (512 * k) (512 * k + 512) i fits same (omega arith) first last

-- i-node `i` has the same block map and the same addresses in both images
pub record KeepsPlaces (geometry : Geometry) (old new : List ℕ) (i : ℕ) : Type 0 where
  pub form : form_at geometry new i ≡ form_at geometry old i
  pub addresses : (k : ℕ) → k < 13
      → address_at geometry.edition new (inode_place geometry.edition i) k ≡ address_at geometry.edition old (inode_place geometry.edition i) k

-- an i-node with the same bytes has the same block map and addresses
pub places_kept : (geometry : Geometry) (old new : List ℕ) (i : ℕ) → KeepsInode geometry old new i → KeepsPlaces geometry old new i
places_kept geometry old new i kept =
    record { form = form_kept geometry old new i kept; addresses = λ k h. address_kept geometry old new i k kept h }

-- entry `j` of block `m` is unchanged if its bytes are, or if `m` isn't a data block
pub entry_kept : (geometry : Geometry) (old new : List ℕ) (m j : ℕ)
    → (in_zone geometry m ≡ true → number geometry.edition new (512 * m) j ≡ number geometry.edition old (512 * m) j)
    → pointer_in geometry new m j ≡ pointer_in geometry old m j
unfolding pointer_in
entry_kept geometry old new m j same =
    elim (in_zone geometry m) as (λ z. in_zone geometry m ≡ z
    → (if z then number geometry.edition new (512 * m) j else 0) ≡ (if z then number geometry.edition old (512 * m) j else 0))
    [ true ↦ λ z. same z | false ↦ λ z. refl ] refl

-- the block number at position `p` in the block map is unchanged if the address and all entries on the path to `p` are unchanged
pub named_kept : (geometry : Geometry) (old new : List ℕ) (i : ℕ) (p : List ℕ)
    → ((k : ℕ) → IsFront (k ∷ []) p → address_at geometry.edition new (inode_place geometry.edition i) k ≡ address_at geometry.edition old (inode_place geometry.edition i) k)
    → ((j a : ℕ) (q : List ℕ) → IsFront (j ∷ (a ∷ q)) p → in_zone geometry (named geometry old i (a ∷ q)) ≡ true
    → number geometry.edition new (512 * named geometry old i (a ∷ q)) j ≡ number geometry.edition old (512 * named geometry old i (a ∷ q)) j)
    → named geometry new i p ≡ named geometry old i p
named_kept geometry old new i [] addresses entries = refl
named_kept geometry old new i (k ∷ []) addresses entries = addresses k (inl refl)
named_kept geometry old new i (j ∷ (a ∷ p)) addresses entries =
    ap (λ m. pointer_in geometry new m j) (named_kept geometry old new i (a ∷ p) (λ k front. addresses k (inr front)) (λ h b q front. entries h b q (inr front)))
    ∙ entry_kept geometry old new (named geometry old i (a ∷ p)) j (entries j a p (inl refl))

-- the block number at position `p` is unchanged if the addresses, the block map and all data blocks on the path to `p` are unchanged
pub named_frame : (geometry : Geometry) (old new : List ℕ) (i : ℕ) (p : List ℕ) → KeepsPlaces geometry old new i → IsPlace (form_at geometry old i) p
    → ((j a : ℕ) (q : List ℕ) → IsFront (j ∷ (a ∷ q)) p → in_zone geometry (named geometry old i (a ∷ q)) ≡ true
    → IsCopy old new (512 * named geometry old i (a ∷ q)) (512 * named geometry old i (a ∷ q)) 512)
    → named geometry new i p ≡ named geometry old i p
named_frame geometry old new i p kept place blocks =
    named_kept geometry old new i p
    (λ k front.
    let here : IsPlace (form_at geometry old i) (k ∷ []) = place_front (form_at geometry old i) p (k ∷ []) place front in
    let few : first_count (form_at geometry old i) ≤ 13 = addresses_of geometry.edition (mode_of geometry old i) in
    kept.addresses k (omega (arith, here, few)))
    (λ j a q front zone.
    let here : IsPlace (form_at geometry old i) (j ∷ (a ∷ q)) = place_front (form_at geometry old i) p (j ∷ (a ∷ q)) place front in
    let many : pointer_count (form_at geometry old i) ≤ (constants geometry.edition).pointers = pointers_of geometry.edition (mode_of geometry old i) in
    let within : j < (constants geometry.edition).pointers = omega (arith, here.0, many) in
    number_copied geometry.edition old new (512 * named geometry old i (a ∷ q)) (512 * named geometry old i (a ∷ q)) 512 j (blocks j a q front zone)
    (number_room geometry.edition j within))

-- a write of block `k` does not change the block number at any position in the block map if `k` isn't an indirect block of the file
pub named_apart : (geometry : Geometry) (old new : List ℕ) (i k : ℕ) (p : List ℕ) → KeepsPlaces geometry old new i
    → SameOutside old new (512 * k) (512 * k + 512)
    → ((q : List ℕ) → IsPlace (form_at geometry old i) q → 1 ≤ levels_below (form_at geometry old i) q → named geometry old i q ≢ k)
    → IsPlace (form_at geometry old i) p → named geometry new i p ≡ named geometry old i p
named_apart geometry old new i k p kept same apart place =
    named_frame geometry old new i p kept place
    (λ j a q front zone.
    let here : IsPlace (form_at geometry old i) (j ∷ (a ∷ q)) = place_front (form_at geometry old i) p (j ∷ (a ∷ q)) place front in
    copy_block old new (named geometry old i (a ∷ q)) k same (apart (a ∷ q) here.2 here.1))

-- the block number stored for a logical block is unchanged if the number at the position in the block map that points to it is unchanged
pub stored_kept : (geometry : Geometry) (old new : List ℕ) (i : ℕ) (form : BlockMap) (b : ℕ)
    → ((p : List ℕ) → last_place form b ≡ Some p → named geometry new i p ≡ named geometry old i p)
    → stored geometry new i form b ≡ stored geometry old i form b
stored_kept geometry old new i form b same =
    elim (last_place form b) as (λ o. last_place form b ≡ o → option_map_or (named geometry new i) o 0 ≡ option_map_or (named geometry old i) o 0)
    [ None ↦ λ e. refl | Some p ↦ λ e. same p e ] refl

-- a write of block `k` does not change the number stored for any logical block if `k` isn't an indirect block of the file
pub stored_apart : (geometry : Geometry) (old new : List ℕ) (i k b : ℕ) → KeepsPlaces geometry old new i
    → SameOutside old new (512 * k) (512 * k + 512)
    → ((q : List ℕ) → IsPlace (form_at geometry old i) q → 1 ≤ levels_below (form_at geometry old i) q → named geometry old i q ≢ k)
    → stored geometry new i (form_at geometry new i) b ≡ stored geometry old i (form_at geometry old i) b
stored_apart geometry old new i k b kept same apart =
    ap (λ form. stored geometry new i form b) (kept.form)
    ∙ stored_kept geometry old new i (form_at geometry old i) b
    (λ p e. named_apart geometry old new i k p kept same apart (last_leaf (form_at geometry old i) b p e).place)

-- byte `r` of data block `m` is unchanged if that byte of the image is
pub zone_byte_kept : (geometry : Geometry) (old new : List ℕ) (m r : ℕ)
    → (in_zone geometry m ≡ true → get_or new (512 * m + r) 0 ≡ get_or old (512 * m + r) 0) → zone_byte geometry new m r ≡ zone_byte geometry old m r
unfolding zone_byte
zone_byte_kept geometry old new m r same =
    elim (in_zone geometry m) as (λ z. in_zone geometry m ≡ z → (if z then get_or new (512 * m + r) 0 else 0) ≡ (if z then get_or old (512 * m + r) 0 else 0))
    [ true ↦ λ z. same z | false ↦ λ z. refl ] refl

-- the body is unchanged if the block map, the size, the block numbers of its logical blocks and the bytes of these blocks are unchanged
pub body_frame : (geometry : Geometry) (old new : List ℕ) (i : ℕ) → KeepsPlaces geometry old new i
    → body_size geometry new i ≡ body_size geometry old i
    → ((b : ℕ) → 512 * b < body_size geometry old i
    → stored geometry new i (form_at geometry old i) b ≡ stored geometry old i (form_at geometry old i) b)
    → ((b : ℕ) → 512 * b < body_size geometry old i → in_zone geometry (stored geometry old i (form_at geometry old i) b) ≡ true
    → IsCopy old new (512 * stored geometry old i (form_at geometry old i) b) (512 * stored geometry old i (form_at geometry old i) b) 512)
    → body geometry new i ≡ body geometry old i
body_frame geometry old new i kept size names blocks =
    same_body geometry old new i size
    (λ n h.
    let low : 512 * (n / 512) < body_size geometry old i = omega arith in
    let byte : n % 512 < 512 = omega arith in
    body_byte_is geometry new i n
    ∙ (ap (λ form. zone_byte geometry new (stored geometry new i form (n / 512)) (n % 512)) (kept.form)
    ∙ (ap (λ m. zone_byte geometry new m (n % 512)) (names (n / 512) low)
    ∙ (zone_byte_kept geometry old new (stored geometry old i (form_at geometry old i) (n / 512)) (n % 512)
    (λ z. (blocks (n / 512) low z).bytes (n % 512) byte)
    ∙ sym (body_byte_is geometry old i n)))))

-- a write of block `k` does not change the body of a file if no path to a logical block of the body contains `k`
pub body_ways_kept : (geometry : Geometry) (old new : List ℕ) (i k : ℕ) → Fits geometry old → KeepsInode geometry old new i
    → SameOutside old new (512 * k) (512 * k + 512)
    → ((b : ℕ) (p q : List ℕ) → 512 * b < body_size geometry old i → last_place (form_at geometry old i) b ≡ Some p → IsFront q p → named geometry old i q ≢ k)
    → body geometry new i ≡ body geometry old i
body_ways_kept geometry old new i k fits kept same apart =
    body_frame geometry old new i (places_kept geometry old new i kept) (body_size_kept geometry old new i kept)
    (λ b low. stored_kept geometry old new i (form_at geometry old i) b
    (λ p e. named_frame geometry old new i p (places_kept geometry old new i kept) (last_leaf (form_at geometry old i) b p e).place
    (λ j a q front zone. copy_block old new (named geometry old i (a ∷ q)) k same (apart b p (a ∷ q) low e (front_above p q j a front)))))
    (λ b low zone. copy_block old new (stored geometry old i (form_at geometry old i) b) k same
    (stored_apart_from geometry old i k (form_at geometry old i) b fits zone (λ p e. apart b p p low e (front_self (form_at geometry old i) p (last_leaf (form_at geometry old i) b p e).place))))

-- a write of block `k` does not change the body of a file that doesn't point to `k`
pub body_apart : (geometry : Geometry) (old new : List ℕ) (i k : ℕ) → Fits geometry old → KeepsInode geometry old new i
    → SameOutside old new (512 * k) (512 * k + 512)
    → ((q : List ℕ) → IsPlace (form_at geometry old i) q → named geometry old i q ≢ k)
    → body geometry new i ≡ body geometry old i
body_apart geometry old new i k fits kept same apart =
    body_ways_kept geometry old new i k fits kept same
    (λ b p q low e front. apart q (place_front (form_at geometry old i) p q (last_leaf (form_at geometry old i) b p e).place front))

-- after a write of data block `k`, which isn't an indirect block of the file, a logical block stored in `k` has the new bytes
pub body_byte_there : (geometry : Geometry) (old new : List ℕ) (i k n : ℕ) → KeepsPlaces geometry old new i
    → SameOutside old new (512 * k) (512 * k + 512) → in_zone geometry k ≡ true
    → ((q : List ℕ) → IsPlace (form_at geometry old i) q → 1 ≤ levels_below (form_at geometry old i) q → named geometry old i q ≢ k)
    → stored geometry old i (form_at geometry old i) (n / 512) ≡ k → body_byte geometry new i n ≡ get_or new (512 * k + n % 512) 0
body_byte_there geometry old new i k n kept same zone apart here =
    body_byte_is geometry new i n
    ∙ (ap (λ m. zone_byte geometry new m (n % 512)) (stored_apart geometry old new i k (n / 512) kept same apart ∙ here)
    ∙ zone_byte_in geometry new k (n % 512) zone)

-- a write of data block `k`, which isn't an indirect block of the file, does not change the bytes of logical blocks stored in other blocks
pub body_byte_elsewhere : (geometry : Geometry) (old new : List ℕ) (i k n : ℕ) → KeepsPlaces geometry old new i
    → SameOutside old new (512 * k) (512 * k + 512)
    → ((q : List ℕ) → IsPlace (form_at geometry old i) q → 1 ≤ levels_below (form_at geometry old i) q → named geometry old i q ≢ k)
    → stored geometry old i (form_at geometry old i) (n / 512) ≢ k → body_byte geometry new i n ≡ body_byte geometry old i n
body_byte_elsewhere geometry old new i k n kept same apart other =
    let byte : n % 512 < 512 = omega arith in
    body_byte_is geometry new i n
    ∙ (ap (λ m. zone_byte geometry new m (n % 512)) (stored_apart geometry old new i k (n / 512) kept same apart)
    ∙ (zone_byte_kept geometry old new (stored geometry old i (form_at geometry old i) (n / 512)) (n % 512)
    (λ z. (copy_block old new (stored geometry old i (form_at geometry old i) (n / 512)) k same other).bytes (n % 512) byte)
    ∙ sym (body_byte_is geometry old i n)))

-- a write that ends before the data zone does not change a data block
pub zone_kept : (geometry : Geometry) (old new : List ℕ) (from to m : ℕ) → SameOutside old new from to → to ≤ 512 * geometry.zone_start
    → in_zone geometry m ≡ true → IsCopy old new (512 * m) (512 * m) 512
zone_kept geometry old new from to m same below zone =
    let bounds : (geometry.zone_start ≤ m) × (m < geometry.zone_end) = zone_bounds geometry m zone in
    copy_above old new from to (512 * m) 512 same (omega arith)

-- a write that ends before the data zone does not change the block numbers in the block map of a file whose own addresses stay
pub named_list_kept : (geometry : Geometry) (old new : List ℕ) (from to i : ℕ) (p : List ℕ) → KeepsPlaces geometry old new i
    → SameOutside old new from to → to ≤ 512 * geometry.zone_start → IsPlace (form_at geometry old i) p
    → named geometry new i p ≡ named geometry old i p
named_list_kept geometry old new from to i p kept same below place =
    named_frame geometry old new i p kept place
    (λ j a q front zone. zone_kept geometry old new from to (named geometry old i (a ∷ q)) same below zone)

-- a write that ends before the data zone does not change the block numbers stored for the logical blocks of a file whose own addresses stay
pub stored_list_kept : (geometry : Geometry) (old new : List ℕ) (from to i b : ℕ) → KeepsPlaces geometry old new i
    → SameOutside old new from to → to ≤ 512 * geometry.zone_start
    → stored geometry new i (form_at geometry new i) b ≡ stored geometry old i (form_at geometry old i) b
stored_list_kept geometry old new from to i b kept same below =
    ap (λ form. stored geometry new i form b) kept.form
    ∙ stored_kept geometry old new i (form_at geometry old i) b
    (λ p e. named_list_kept geometry old new from to i p kept same below (last_leaf (form_at geometry old i) b p e).place)

-- a write that ends before the data zone does not change any byte of the body of a file whose own addresses stay, at any size
pub body_byte_list_kept : (geometry : Geometry) (old new : List ℕ) (from to i n : ℕ) → KeepsPlaces geometry old new i
    → SameOutside old new from to → to ≤ 512 * geometry.zone_start → body_byte geometry new i n ≡ body_byte geometry old i n
body_byte_list_kept geometry old new from to i n kept same below =
    let byte : n % 512 < 512 = omega arith in
    body_byte_is geometry new i n
    ∙ (ap (λ m. zone_byte geometry new m (n % 512)) (stored_list_kept geometry old new from to i (n / 512) kept same below)
    ∙ (zone_byte_kept geometry old new (stored geometry old i (form_at geometry old i) (n / 512)) (n % 512)
    (λ z. (zone_kept geometry old new from to (stored geometry old i (form_at geometry old i) (n / 512)) same below z).bytes (n % 512) byte)
    ∙ sym (body_byte_is geometry old i n)))
