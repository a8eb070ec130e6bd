-- The files of an image of a volume with more blocks: all are the same, whatever their block numbers.
use Rattle.std.proofs.Common.{◌≡◌, ℕ, ◌+◌, ◌*◌, ◌/◌, ◌%◌, ◌<◌, ◌≤◌, ◌∙◌, ◌==◌, not, sym, ap, subst, Bool, true, false, if◌then◌else◌, nat_lt, List, [], ◌∷◌, map, filter, slice_index, refl, arith, inl, inr, None, Some}
use Rattle.std.proofs.lemmas.Bool.{and_from, cases_lt, le-leb, lt-ltb, true≢false}
use Rattle.std.specs.List.{count_by, range_with_len, sum_by}
use Rattle.std.specs.Option.{option_map_or}
use Rattle.vol_layout.specs.Edition.{constants, number}
use Rattle.vol_layout.specs.Geometry.{Fits, block_count, first_data_block, geometry_of, in_zone, list_size}
use Rattle.vol_layout.specs.Inode.{inode_place, kind_of}
use Rattle.vol_layout.specs.BlockMaps.{IsPlace, first_count, last_place, places, pointer_count}
use Rattle.vol_layout.specs.BlockPointers.{form_at, mode_of, named, pointer_in, stored}
use Rattle.vol_layout.specs.Body.{body, body_byte, body_size, zone_byte}
use Rattle.vol_layout.specs.Slot.{slot_at}
use Rattle.vol_layout.specs.declared.edition.Edition.{Edition}
use Rattle.vol_layout.specs.declared.edition.Edition.TheVariants.{V6, V7}
use Rattle.vol_layout.specs.declared.mode.Kind.{Kind}
use Rattle.vol_layout.specs.declared.mode.Kind.TheVariants as kinds
use Rattle.vol_layout.proofs.BodyLaws.{body_byte_is, zone_bounds}
use Rattle.vol_layout.proofs.CopyLaws.{number_copied, number_room}
use Rattle.vol_layout.proofs.FrameLaws.{KeepsPlaces, addresses_of, places_kept, pointers_of}
use Rattle.vol_layout.proofs.InodeLaws.{KeepsInode, body_size_kept, mode_kept, place_from, place_room, size_kept}
use Rattle.vol_layout.proofs.PlaceLaws.{last_leaf}
use Rattle.vol_free.specs.Stack.{IsIn}
use Rattle.vol_file.specs.Changes.{blocks_of}
use Rattle.vol_file.specs.Rules.{kind_at}
use Rattle.vol_file.proofs.PlaceLists.{among_places}
use Rattle.vol_file.proofs.ReachedPlaces.{map_same}
use Rattle.vol_file.proofs.ZeroNumbers.{zero_number}
use Rattle.vol_dir.specs.Entries.{entry_at, entry_in, slot_count}
use Rattle.vol_judge.proofs.GraphCounts.{sum_same}
use Rattle.vol_reports.specs.Icheck.{use_count}
use Rattle.vol_repair.specs.Kept.{FitsFile}
use Rattle.vol_repair.specs.Lines.{dir_entry, entry_of_kind}
use Rattle.vol_repair.specs.Longer.{IsLonger}

-- an image whose sizes are known, and one of a volume with more blocks
pub record Grown (edition : Edition) (blocks : ℕ) (old new : List ℕ) : Type 0 where
  pub fits : Fits (geometry_of edition old) old
  pub longer : IsLonger edition blocks old new

-- the size of the i-list is the same
pub list_longer : (edition : Edition) (blocks : ℕ) (old new : List ℕ) → IsLonger edition blocks old new → list_size new ≡ list_size old
list_longer edition blocks old new longer =
    let high : slice_index new 512 ≡ slice_index old 512 = longer.before 512 (omega arith) in
    let low : slice_index new 513 ≡ slice_index old 513 = longer.before 513 (omega arith) in
    omega (arith, high, low)

-- the data zone begins at the same block
pub start_longer : (edition : Edition) (blocks : ℕ) (old new : List ℕ) → IsLonger edition blocks old new
    → first_data_block edition new ≡ first_data_block edition old
start_longer V6 blocks old new longer = ap (λ n. n + 2) (list_longer V6 blocks old new longer)
start_longer V7 blocks old new longer = list_longer V7 blocks old new longer

-- there are as many i-nodes
pub last_longer : (edition : Edition) (blocks : ℕ) (old new : List ℕ) → IsLonger edition blocks old new
    → (geometry_of edition new).last_inode ≡ (geometry_of edition old).last_inode
last_longer edition blocks old new longer = rw (start_longer edition blocks old new longer) refl

-- the data zone begins after the first i-node's block
pub zone_high : (edition : Edition) (old : List ℕ) → Fits (geometry_of edition old) old → 3 ≤ first_data_block edition old
zone_high V6 old fits = omega (arith, fits.i_list, fits.root)
zone_high V7 old fits = omega (arith, fits.i_list, fits.root)

-- the number of blocks ends before the i-list
number_low : (edition : Edition) → 514 + (constants edition).number_bytes ≤ 1024
number_low V6 = omega arith
number_low V7 = omega arith

-- a byte of the i-list or the data zone is the same
pub same_byte : (edition : Edition) (blocks : ℕ) (old new : List ℕ) (k : ℕ) → IsLonger edition blocks old new → 1024 ≤ k → k < 512 * block_count edition old
    → slice_index new k ≡ slice_index old k
same_byte edition blocks old new k longer high low = longer.after k (omega (arith, high, number_low edition)) low

-- a data block is still one
still_zone : (edition : Edition) (blocks : ℕ) (old new : List ℕ) (m : ℕ) → IsLonger edition blocks old new → in_zone (geometry_of edition old) m ≡ true
    → in_zone (geometry_of edition new) m ≡ true
still_zone edition blocks old new m longer zone =
    let bounds = zone_bounds (geometry_of edition old) m zone in
    and_from _ _ (le-leb (first_data_block edition new) m (omega (arith, bounds.0, start_longer edition blocks old new longer)))
    (lt-ltb m (block_count edition new) (omega (arith, bounds.1, longer.more, longer.count)))

-- a block that has become a data block is one of those that were appended
appended : (edition : Edition) (blocks : ℕ) (old new : List ℕ) (m : ℕ) → IsLonger edition blocks old new → in_zone (geometry_of edition old) m ≡ false
    → in_zone (geometry_of edition new) m ≡ true → (block_count edition old ≤ m) × (m < blocks)
appended edition blocks old new m longer out zone =
    let bounds = zone_bounds (geometry_of edition new) m zone in
    let end : m < blocks = omega (arith, bounds.1, longer.count) in
    elim (cases_lt m (block_count edition old)) [
      | inl less ↦
          let inside : in_zone (geometry_of edition old) m ≡ true =
          and_from _ _ (le-leb (first_data_block edition old) m (omega (arith, bounds.0, start_longer edition blocks old new longer)))
          (lt-ltb m (block_count edition old) less) in
          absurd (true≢false (sym inside ∙ out))
      | inr high ↦ (high, end)
    ]

-- each byte of each block reads as the same: those of appended blocks are zeros, as those of no block are
byte_longer : (edition : Edition) (blocks : ℕ) (old new : List ℕ) (m r : ℕ) → Grown edition blocks old new → r < 512
    → zone_byte (geometry_of edition new) new m r ≡ zone_byte (geometry_of edition old) old m r
unfolding zone_byte
byte_longer edition blocks old new m r grown low =
    let longer = grown.longer in
    elim (in_zone (geometry_of edition old) m) as (λ z. in_zone (geometry_of edition old) m ≡ z
    → (if in_zone (geometry_of edition new) m then slice_index new (512 * m + r) else 0) ≡ (if z then slice_index old (512 * m + r) else 0)) [
      | true ↦ λ zone.
          let bounds = zone_bounds (geometry_of edition old) m zone in
          let high = zone_high edition old grown.fits in
          ap (λ (z : Bool). if z then slice_index new (512 * m + r) else 0) (still_zone edition blocks old new m longer zone)
          ∙ same_byte edition blocks old new (512 * m + r) longer (omega (arith, bounds.0, high)) (omega (arith, bounds.1, low))
      | false ↦ λ out.
          elim (in_zone (geometry_of edition new) m) as (λ y. in_zone (geometry_of edition new) m ≡ y → (if y then slice_index new (512 * m + r) else 0) ≡ 0) [
            | true ↦ λ zone.
                let there = appended edition blocks old new m longer out zone in
                longer.zeros (512 * m + r) (omega (arith, there.0)) (omega (arith, there.1, low))
            | false ↦ λ none. refl
          ] refl
    ] refl

-- a byte of an entry of an appended block is before the end
room_end : (edition : Edition) (blocks m j k : ℕ) → m < blocks → j < (constants edition).pointers → k < 512 * m + (constants edition).number_bytes * (j + 1)
    → k < 512 * blocks
room_end V6 blocks m j k end within to = omega (arith, end, within, to)
room_end V7 blocks m j k end within to = omega (arith, end, within, to)

-- each entry of each indirect block reads as the same
pointer_longer : (edition : Edition) (blocks : ℕ) (old new : List ℕ) (m j : ℕ) → Grown edition blocks old new → j < (constants edition).pointers
    → pointer_in (geometry_of edition new) new m j ≡ pointer_in (geometry_of edition old) old m j
unfolding pointer_in
pointer_longer edition blocks old new m j grown within =
    let longer = grown.longer in
    let room = number_room edition j within in
    elim (in_zone (geometry_of edition old) m) as (λ z. in_zone (geometry_of edition old) m ≡ z
    → (if in_zone (geometry_of edition new) m then number edition new (512 * m) j else 0) ≡ (if z then number edition old (512 * m) j else 0)) [
      | true ↦ λ zone.
          let bounds = zone_bounds (geometry_of edition old) m zone in
          let high = zone_high edition old grown.fits in
          ap (λ (z : Bool). if z then number edition new (512 * m) j else 0) (still_zone edition blocks old new m longer zone)
          ∙ number_copied edition old new (512 * m) (512 * m) 512 j
          (record { bytes = λ r low. same_byte edition blocks old new (512 * m + r) longer (omega (arith, bounds.0, high)) (omega (arith, bounds.1, low)) }) room
      | false ↦ λ out.
          elim (in_zone (geometry_of edition new) m) as (λ y. in_zone (geometry_of edition new) m ≡ y → (if y then number edition new (512 * m) j else 0) ≡ 0) [
            | true ↦ λ zone.
                let there = appended edition blocks old new m longer out zone in
                zero_number edition new (512 * m) j
                (λ k from to. longer.zeros k (omega (arith, there.0, from)) (room_end edition blocks m j k there.1 within to))
            | false ↦ λ none. refl
          ] refl
    ] refl

-- an i-node of the volume has the same bytes
pub inode_longer : (edition : Edition) (blocks : ℕ) (old new : List ℕ) (i : ℕ) → Grown edition blocks old new → 1 ≤ i
    → i ≤ (geometry_of edition old).last_inode → KeepsInode (geometry_of edition old) old new i
inode_longer edition blocks old new i grown first last = record {
  bytes = λ r low.
      let from = place_from edition i in
      let room = place_room (geometry_of edition old) old i grown.fits first last in
      same_byte edition blocks old new (inode_place edition i + r) grown.longer (omega (arith, from)) (omega (arith, low, room, grown.fits.zone));
}

-- the kind of an i-node of the volume is the same
kind_longer : (edition : Edition) (blocks : ℕ) (old new : List ℕ) (i : ℕ) → Grown edition blocks old new → 1 ≤ i
    → i ≤ (geometry_of edition old).last_inode → kind_at (geometry_of edition new) new i ≡ kind_at (geometry_of edition old) old i
kind_longer edition blocks old new i grown first last =
    ap (kind_of edition) (mode_kept (geometry_of edition old) old new i (inode_longer edition blocks old new i grown first last))

-- the block number at each position in a block map is the same
named_longer : (edition : Edition) (blocks : ℕ) (old new : List ℕ) (i : ℕ) (p : List ℕ) → Grown edition blocks old new
    → KeepsPlaces (geometry_of edition old) old new i → IsPlace (form_at (geometry_of edition old) old i) p
    → named (geometry_of edition new) new i p ≡ named (geometry_of edition old) old i p
named_longer edition blocks old new i [] grown kept place = refl
named_longer edition blocks old new i (k ∷ []) grown kept place =
    let few : first_count (form_at (geometry_of edition old) old i) ≤ 13 = addresses_of edition (mode_of (geometry_of edition old) old i) in
    kept.addresses k (omega (arith, place, few))
named_longer edition blocks old new i (j ∷ (a ∷ p)) grown kept place =
    let many : pointer_count (form_at (geometry_of edition old) old i) ≤ (constants edition).pointers =
    pointers_of edition (mode_of (geometry_of edition old) old i) in
    ap (λ m. pointer_in (geometry_of edition new) new m j) (named_longer edition blocks old new i (a ∷ p) grown kept place.2)
    ∙ pointer_longer edition blocks old new (named (geometry_of edition old) old i (a ∷ p)) j grown (omega (arith, place.0, many))

-- the block number stored for each logical block is the same
stored_longer : (edition : Edition) (blocks : ℕ) (old new : List ℕ) (i b : ℕ) → Grown edition blocks old new
    → KeepsPlaces (geometry_of edition old) old new i
    → stored (geometry_of edition new) new i (form_at (geometry_of edition new) new i) b
    ≡ stored (geometry_of edition old) old i (form_at (geometry_of edition old) old i) b
stored_longer edition blocks old new i b grown kept =
    let form = form_at (geometry_of edition old) old i in
    ap (λ f. stored (geometry_of edition new) new i f b) kept.form
    ∙ elim (last_place form b) as (λ o. last_place form b ≡ o
    → option_map_or (named (geometry_of edition new) new i) o 0 ≡ option_map_or (named (geometry_of edition old) old i) o 0) [
      | None ↦ λ e. refl
      | Some p ↦ λ e. named_longer edition blocks old new i p grown kept (last_leaf form b p e).place
    ] refl

-- the body of each i-node of the volume is the same
pub body_longer : (edition : Edition) (blocks : ℕ) (old new : List ℕ) (i : ℕ) → Grown edition blocks old new → 1 ≤ i
    → i ≤ (geometry_of edition old).last_inode → body (geometry_of edition new) new i ≡ body (geometry_of edition old) old i
unfolding body
body_longer edition blocks old new i grown first last =
    let inode = inode_longer edition blocks old new i grown first last in
    let kept = places_kept (geometry_of edition old) old new i inode in
    let each : (n : ℕ) → body_byte (geometry_of edition new) new i n ≡ body_byte (geometry_of edition old) old i n = λ n.
    let low : n % 512 < 512 = omega arith in
    body_byte_is (geometry_of edition new) new i n
    ∙ (ap (λ m. zone_byte (geometry_of edition new) new m (n % 512)) (stored_longer edition blocks old new i (n / 512) grown kept)
    ∙ (byte_longer edition blocks old new (stored (geometry_of edition old) old i (form_at (geometry_of edition old) old i) (n / 512)) (n % 512) grown low
    ∙ sym (body_byte_is (geometry_of edition old) old i n))) in
    let bytes : body_byte (geometry_of edition new) new i ≡ body_byte (geometry_of edition old) old i = λ k n. each n k in
    ap (λ f. map f (range_with_len 0 (body_size (geometry_of edition new) new i))) bytes
    ∙ ap (λ n. map (body_byte (geometry_of edition old) old i) (range_with_len 0 n)) (body_size_kept (geometry_of edition old) old new i inode)

-- the blocks of each i-node of the volume are the same
blocks_longer : (edition : Edition) (blocks : ℕ) (old new : List ℕ) (i : ℕ) → Grown edition blocks old new → 1 ≤ i
    → i ≤ (geometry_of edition old).last_inode → blocks_of (geometry_of edition new) new i ≡ blocks_of (geometry_of edition old) old i
unfolding blocks_of
blocks_longer edition blocks old new i grown first last =
    let kept = places_kept (geometry_of edition old) old new i (inode_longer edition blocks old new i grown first last) in
    let form = form_at (geometry_of edition old) old i in
    ap (λ f. filter (λ k. not (k == 0)) (map (named (geometry_of edition new) new i) (places f))) kept.form
    ∙ ap (filter (λ k. not (k == 0)))
    (map_same (named (geometry_of edition new) new i) (named (geometry_of edition old) old i) (places form)
    (λ p among. named_longer edition blocks old new i p grown kept (among_places form p among)))

-- as many positions of block maps point to a block
uses_longer : (edition : Edition) (blocks : ℕ) (old new : List ℕ) (b : ℕ) → Grown edition blocks old new
    → use_count (geometry_of edition new) new b ≡ use_count (geometry_of edition old) old b
unfolding use_count
uses_longer edition blocks old new b grown =
    let last = last_longer edition blocks old new grown.longer in
    ap (λ n. sum_by (λ i. count_by (λ k. k == b) (blocks_of (geometry_of edition new) new i)) (range_with_len 1 n)) last
    ∙ sum_same (λ i. count_by (λ k. k == b) (blocks_of (geometry_of edition new) new i)) (λ i. count_by (λ k. k == b) (blocks_of (geometry_of edition old) old i))
    1 (geometry_of edition old).last_inode
    (λ i low high. ap (count_by (λ k. k == b)) (blocks_longer edition blocks old new i grown low (omega (arith, high))))

-- a file that fits still does
pub fits_longer : (edition : Edition) (blocks : ℕ) (old new : List ℕ) (i : ℕ) → Grown edition blocks old new → FitsFile (geometry_of edition old) old i
    → FitsFile (geometry_of edition new) new i
fits_longer edition blocks old new i grown fits =
    let g = geometry_of edition old in
    let inode = inode_longer edition blocks old new i grown fits.first fits.last in
    let kept = places_kept g old new i inode in
    let size = size_kept g old new i inode in
    let same = blocks_longer edition blocks old new i grown fits.first fits.last in
    record {
      first = fits.first;
      last = subst (λ n. i ≤ n) (sym (last_longer edition blocks old new grown.longer)) fits.last;
      kind = kind_longer edition blocks old new i grown fits.first fits.last ∙ fits.kind;
      other = fits.other;
      greatest = subst (λ n. n ≤ (constants edition).greatest) (sym size) fits.greatest;
      small = λ is. subst (λ n. n ≤ 4096) (sym size) (fits.small (sym kept.form ∙ is));
      zoned = λ b among. still_zone edition blocks old new b grown.longer (fits.zoned b (subst (IsIn b) same among));
      alone = λ b among. uses_longer edition blocks old new b grown ∙ fits.alone b (subst (IsIn b) same among);
    }

-- the entry in a slot of an i-node of one kind is the same if it is of a directory
entry_by_kind : (edition : Edition) (old new : List ℕ) (d s : ℕ) (kind : Kind)
    → entry_at (geometry_of edition new) new d s ≡ entry_at (geometry_of edition old) old d s
    → entry_of_kind (geometry_of edition new) new d s kind ≡ entry_of_kind (geometry_of edition old) old d s kind
entry_by_kind edition old new d s kinds.Directory same = same
entry_by_kind edition old new d s kinds.Free same = refl
entry_by_kind edition old new d s kinds.Regular same = refl
entry_by_kind edition old new d s kinds.Special same = refl
entry_by_kind edition old new d s kinds.Odd same = refl

-- each entry of each directory of the volume is the same
pub entry_longer : (edition : Edition) (blocks : ℕ) (old new : List ℕ) (d s : ℕ) → Grown edition blocks old new → 1 ≤ d
    → d ≤ (geometry_of edition old).last_inode → dir_entry (geometry_of edition new) new d s ≡ dir_entry (geometry_of edition old) old d s
unfolding entry_at
entry_longer edition blocks old new d s grown first last =
    let size = body_size_kept (geometry_of edition old) old new d (inode_longer edition blocks old new d grown first last) in
    let entries : entry_at (geometry_of edition new) new d s ≡ entry_at (geometry_of edition old) old d s =
    ap (λ n. if nat_lt s (n / 16) then entry_in (slot_at (body (geometry_of edition new) new d) (16 * s)) else None) size
    ∙ ap (λ xs. if nat_lt s (slot_count (geometry_of edition old) old d) then entry_in (slot_at xs (16 * s)) else None)
    (body_longer edition blocks old new d grown first last) in
    ap (entry_of_kind (geometry_of edition new) new d s) (kind_longer edition blocks old new d grown first last)
    ∙ entry_by_kind edition old new d s (kind_at (geometry_of edition old) old d) entries
