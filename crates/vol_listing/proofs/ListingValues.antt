-- The values of a listing as JSON.
use Rattle.std.proofs.Common.{◌≡◌, ℕ, zero, suc, ◌+◌, ◌/◌, ◌%◌, ◌<◌, Bool, true, false, ◌||◌, if◌then◌else◌, List, [], ◌∷◌, ◌++◌, map, nat_le, nat_lt, Option, None, Some, slice_index, refl, ap, arith}
use Rattle.std.specs.Prelude.{◌==◌, ◌&&◌, codes}
use Rattle.std.specs.List.{flat_map}
use Rattle.std.specs.Str.{IsAscii, IsUtf8}
use Rattle.std.proofs.lemmas.Bool.Decides.{nat_tests}
use Rattle.std.proofs.lemmas.Str.{IsAscii-append, IsUtf8-from_ascii}
use Rattle.std.proofs.lemmas.Str.Ascii.{IsAscii-nil}
use Rattle.serde_json.specs.Data.{Data, Members, null, string, object, member, no_members, put}
use Rattle.serde_json.specs.View.{items_of}
use Rattle.serde_json.specs.Written.{has_float, items_have_float, members_have_float}
use Rattle.vol_dir.specs.Tree.{Tree}
use Rattle.vol_change.specs.Nodes.{node_at}
use Rattle.vol_listing.specs.Depths.{opens}
use Rattle.vol_listing.specs.Json.{listed}
use Rattle.vol_listing.specs.ListingJson.{all_data, device_members, entries_data, entry_data, kind_data, row_data, sort_word, with_device, with_file, with_numbers}
use Rattle.vol_listing.specs.Places.{joined, names_under}
use Rattle.vol_listing.specs.Rows.{is_blank, row_of}
use Rattle.vol_listing.specs.Sums.{span_data, sum_data, summed_data, with_losses}
use Rattle.escaped_text.specs.Escape.{escaped, escaped_byte}
use Rattle.vol_losses.specs.declared.spans.LostSpan.{LostSpan}
use Rattle.vol_listing.specs.declared.options.Depth.{Depth}
use Rattle.vol_listing.specs.declared.places.ListedNode.{ListedNode}
use Rattle.vol_listing.specs.declared.rows.Row.{Row}
use Rattle.vol_listing.specs.declared.rows.Sort.{Sort}
use Rattle.vol_listing.specs.declared.rows.Sort.TheVariants as sorts

-- if all bytes of a text are ASCII, they still are with one more ASCII byte before them
ascii_more : (b : ℕ) (bytes : List ℕ) → b < 128 → IsAscii bytes → (i : ℕ) → slice_index (b ∷ bytes) i < 128
ascii_more b bytes low rest zero = low
ascii_more b bytes low rest (suc i) = rest i

-- a backslash and three octal digits are ASCII
digits_ascii : (b : ℕ) → b < 256 → IsAscii (92 ∷ (48 + b / 64) ∷ (48 + b / 8 % 8) ∷ (48 + b % 8) ∷ [])
digits_ascii b byte =
    ascii_more 92 ((48 + b / 64) ∷ (48 + b / 8 % 8) ∷ (48 + b % 8) ∷ []) (omega arith)
    (ascii_more (48 + b / 64) ((48 + b / 8 % 8) ∷ (48 + b % 8) ∷ []) (omega arith)
    (ascii_more (48 + b / 8 % 8) ((48 + b % 8) ∷ []) (omega arith) (ascii_more (48 + b % 8) [] (omega arith) IsAscii-nil)))

-- an escaped byte is ASCII
byte_ascii : (backslash printable : Bool) (b : ℕ) → printable ≡ (nat_le 32 b && nat_lt b 127) → b < 256
    → IsAscii (if backslash then 92 ∷ 92 ∷ [] else if printable then b ∷ [] else 92 ∷ (48 + b / 64) ∷ (48 + b / 8 % 8) ∷ (48 + b % 8) ∷ [])
byte_ascii true printable b is byte = ascii_more 92 (92 ∷ []) (omega arith) (ascii_more 92 [] (omega arith) IsAscii-nil)
byte_ascii false true b is byte = let low : b < 128 = grind (arith, nat_tests) in ascii_more b [] low IsAscii-nil
byte_ascii false false b is byte = digits_ascii b byte

-- escaped bytes are ASCII
bytes_ascii : (bytes : List ℕ) → ((i : ℕ) → slice_index bytes i < 256) → IsAscii (flat_map escaped_byte bytes)
bytes_ascii [] bound = IsAscii-nil
bytes_ascii (b ∷ bytes) bound =
    IsAscii-append (escaped_byte b) (flat_map escaped_byte bytes) (byte_ascii (b == 92) (nat_le 32 b && nat_lt b 127) b refl (bound 0))
    (bytes_ascii bytes (λ i. bound (suc i)))

-- escaped bytes are UTF-8
pub escaped_utf8 : (bytes : List ℕ) → ((i : ℕ) → slice_index bytes i < 256) → IsUtf8 (escaped bytes)
unfolding escaped
escaped_utf8 bytes bound = IsUtf8-from_ascii (flat_map escaped_byte bytes) (bytes_ascii bytes bound)

-- in the object of a special file the members of its device come after the links and before the time
device_in_order : (sort : Sort) (gid inode kind links modified path permissions size uid : Data)
    → with_device sort (member (codes "gid") gid (member (codes "ino") inode (member (codes "kind") kind (member (codes "links") links
    (member (codes "mtime") modified (member (codes "path") path (member (codes "permissions") permissions (member (codes "size") size (member (codes "uid") uid no_members)))))))))
    ≡ member (codes "gid") gid (member (codes "ino") inode (member (codes "kind") kind (member (codes "links") links (device_members sort
    (member (codes "mtime") modified (member (codes "path") path (member (codes "permissions") permissions (member (codes "size") size (member (codes "uid") uid no_members)))))))))
device_in_order sorts.Regular gid inode kind links modified path permissions size uid = refl
device_in_order sorts.Directory gid inode kind links modified path permissions size uid = refl
device_in_order (sorts.Character device) gid inode kind links modified path permissions size uid = refl
device_in_order (sorts.Block device) gid inode kind links modified path permissions size uid = refl

-- the members of a row are in the order of their keys
pub row_in_order : (path : List ℕ) (row : Row) → object (with_device row.sort (with_file path row (with_numbers row no_members))) ≡ row_data path row
unfolding row_data with_file with_numbers
row_in_order path row = ap object (device_in_order row.sort _ _ _ _ _ _ _ _ _)

-- the members of a device have no fraction
device_whole : (sort : Sort) (others : Members) → members_have_float others ≡ false → members_have_float (device_members sort others) ≡ false
device_whole sorts.Regular others whole = whole
device_whole sorts.Directory others whole = whole
device_whole (sorts.Character device) others whole = whole
device_whole (sorts.Block device) others whole = whole

-- the kind of a row has no fraction
kind_whole : (row : Row) → has_float (kind_data row) ≡ false
kind_whole row = elim (is_blank row) as (λ b. has_float (if b then null else string (sort_word row.type_bits row.sort)) ≡ false) [
  | true ↦ refl
  | false ↦ refl
]

-- the object of a row has no fraction
row_whole : (path : List ℕ) (row : Row) → has_float (row_data path row) ≡ false
unfolding row_data
row_whole path row = rw (kind_whole row) (device_whole row.sort _ refl)

-- none of these values has a fraction
abbrev pub AreWhole : List Data → Type 0
AreWhole ds = items_have_float (items_of ds) ≡ false

-- if some entries have no fraction, the object with them has none
pub listed_whole : (ds : List Data) → items_have_float (items_of ds) ≡ false → has_float (listed ds) ≡ false
listed_whole ds whole = rw whole refl

-- if a value and a list of values have no fraction, the list with the value before it has none
pub whole_more : (d : Data) (ds : List Data) → has_float d ≡ false → AreWhole ds → AreWhole (d ∷ ds)
whole_more d ds here rest = rw here rest

-- if two lists of values have no fraction, the lists joined have none
pub whole_append : (ds es : List Data) → AreWhole ds → AreWhole es → AreWhole (ds ++ es)
whole_append [] es whole rest = rest
whole_append (d ∷ ds) es whole rest = both (has_float d) (items_have_float (items_of ds)) (items_have_float (items_of (ds ++ es))) whole (whole_append ds es)
  where
    both : (here tail all : Bool) → (here || tail) ≡ false → (tail ≡ false → AreWhole es → all ≡ false) → (here || all) ≡ false
    both true tail all is goes = absurd (cc)
    both false tail all is goes = goes is rest

-- the objects of the entries of a directory have no fraction
entries_whole : (tree : Tree) (place : ListedNode) → AreWhole (entries_data tree place)
unfolding entries_data
entries_whole tree place = names_whole (names_under tree place.path)
  where
    names_whole : (names : List (List ℕ × ℕ)) → AreWhole (map (entry_data tree place.path) names)
    names_whole [] = refl
    names_whole (entry ∷ names) =
        whole_more (entry_data tree place.path entry) (map (entry_data tree place.path) names)
        (row_whole (joined place.path entry.0) (row_of entry.1 (node_at tree entry.1))) (names_whole names)

-- the objects of the entries of several directories have no fraction
places_whole : (tree : Tree) (places : List ListedNode) → AreWhole (flat_map (entries_data tree) places)
places_whole tree [] = refl
places_whole tree (place ∷ places) =
    whole_append (entries_data tree place) (flat_map (entries_data tree) places) (entries_whole tree place) (places_whole tree places)

-- the objects of a listing have no fraction
pub all_whole : (tree : Tree) (depth : Depth) (place : ListedNode) (places : List ListedNode) → AreWhole (all_data tree depth place places)
all_whole tree depth place places =
    elim (opens depth (node_at tree place.inode)) as (λ b. AreWhole (if b then entries_data tree place ++ flat_map (entries_data tree) places
    else row_data place.path (row_of place.inode (node_at tree place.inode)) ∷ [])) [
      | true ↦ whole_append (entries_data tree place) (flat_map (entries_data tree) places) (entries_whole tree place) (places_whole tree places)
      | false ↦ whole_more (row_data place.path (row_of place.inode (node_at tree place.inode))) [] (row_whole place.path (row_of place.inode (node_at tree place.inode))) refl
    ]

-- the lost bytes of a file have no fraction
spans_whole : (spans : List LostSpan) → AreWhole (map span_data spans)
spans_whole [] = refl
spans_whole (span ∷ spans) = whole_more (span_data span) (map span_data spans) refl (spans_whole spans)

-- the object of a node with its sum and its lost bytes has no fraction
summed_by : (sum : Option (List ℕ)) (losses : Option (List LostSpan)) (sort : Sort) (path : List ℕ) (row : Row)
    → has_float (object (with_losses losses (put (codes "sha256") (sum_data sum) (with_device sort (with_file path row (with_numbers row no_members)))))) ≡ false
unfolding with_file with_numbers
summed_by None None sorts.Regular path row = rw (kind_whole row) refl
summed_by None None sorts.Directory path row = rw (kind_whole row) refl
summed_by None None (sorts.Character device) path row = rw (kind_whole row) refl
summed_by None None (sorts.Block device) path row = rw (kind_whole row) refl
summed_by (Some sum) None sorts.Regular path row = rw (kind_whole row) refl
summed_by (Some sum) None sorts.Directory path row = rw (kind_whole row) refl
summed_by (Some sum) None (sorts.Character device) path row = rw (kind_whole row) refl
summed_by (Some sum) None (sorts.Block device) path row = rw (kind_whole row) refl
summed_by None (Some spans) sorts.Regular path row = rw (spans_whole spans) (rw (kind_whole row) refl)
summed_by None (Some spans) sorts.Directory path row = rw (spans_whole spans) (rw (kind_whole row) refl)
summed_by None (Some spans) (sorts.Character device) path row = rw (spans_whole spans) (rw (kind_whole row) refl)
summed_by None (Some spans) (sorts.Block device) path row = rw (spans_whole spans) (rw (kind_whole row) refl)
summed_by (Some sum) (Some spans) sorts.Regular path row = rw (spans_whole spans) (rw (kind_whole row) refl)
summed_by (Some sum) (Some spans) sorts.Directory path row = rw (spans_whole spans) (rw (kind_whole row) refl)
summed_by (Some sum) (Some spans) (sorts.Character device) path row = rw (spans_whole spans) (rw (kind_whole row) refl)
summed_by (Some sum) (Some spans) (sorts.Block device) path row = rw (spans_whole spans) (rw (kind_whole row) refl)

pub summed_whole : (sum : Option (List ℕ)) (losses : Option (List LostSpan)) (row : Row) (path : List ℕ) → has_float (summed_data sum losses row path) ≡ false
unfolding summed_data
summed_whole sum losses row path = summed_by sum losses row.sort path row
