-- Clearing the entries of an indirect block, and the addresses of an i-node, one after another.
use Rattle.std.proofs.Common.{◌≡◌, ◌≢◌, ℕ, zero, suc, ◌+◌, ◌-◌, ◌*◌, ◌/◌, ◌^◌, ◌<◌, ◌≤◌, ◌∙◌, Bool, true, sym, ap, subst, List, [], ◌∷◌, ◌++◌, length, refl, arith, inl}
use Rattle.vol_layout.specs.Edition.{constants, number}
use Rattle.vol_layout.specs.Geometry.{Fits}
use Rattle.vol_layout.specs.Inode.{inode_place, address_at}
use Rattle.vol_layout.specs.BlockMaps.{places, levels, levels_below, first_count, pointer_count}
use Rattle.vol_layout.specs.Laws.{IsFront}
use Rattle.vol_layout.specs.BlockPointers.{mode_of, form_at, IsFile, IsPlaceOf, named}
use Rattle.vol_layout.specs.declared.geometry.Geometry.{Geometry}
use Rattle.vol_layout.specs.declared.block_map.BlockMap.{BlockMap}
use Rattle.vol_layout.proofs.CopyLaws.{number_room}
use Rattle.vol_layout.proofs.InodeLaws.{form_same}
use Rattle.vol_layout.proofs.BodyLaws.{zone_bounds}
use Rattle.vol_layout.proofs.PlaceLaws.{place_front}
use Rattle.vol_layout.proofs.FrameLaws.{pointers_in}
use Rattle.vol_layout.proofs.KindLaws.{form_file}
use Rattle.vol_file.specs.Rules.{Rules3To7With}
use Rattle.vol_file.specs.Clears.{IsUnder, IsPast, IsPastUnder, first_at, first_block, is_past, places_among, places_below, IsNamedAt, Clears, Drops, IsNamedAtLevel, HasPointer, HasAddress, ClearsBelow, ClearsPast}
use Rattle.vol_file.proofs.BlockLists.{at_nil}
use Rattle.vol_file.proofs.Fronts.{front_longer, under_front}
use Rattle.vol_file.proofs.ClearSteps.{ClearsFrom, clears_none, clears_as, from_start, from_none_on, from_some_on, from_part_on, from_kept_on, from_above, entry_place, entry_named, below_named, below_empty}
use Rattle.vol_file.proofs.FirstBlocks.{past_front, rest_past, rest_kept, entry_rest, entry_kept}
use Rattle.vol_file.proofs.PastLists.{past_at}
use Rattle.vol_file.proofs.PlaceLists.{front_first}
use Rattle.vol_file.proofs.Entries.{named_zone}
use Rattle.vol_file.proofs.Cells.{entry_end}
use Rattle.vol_file.proofs.StoredNames.{place_same}

-- for a regular file or directory, `pointer_count` is the edition's number of entries in an indirect block
pub pointers_file : (geometry : Geometry) (image : List ℕ) (i : ℕ) → IsFile geometry image i
    → pointer_count (form_at geometry image i) ≡ (constants geometry.edition).pointers
pointers_file geometry image i file =
    ap pointer_count (form_file geometry.edition (mode_of geometry image i) file.kind) ∙ pointers_in geometry.edition (mode_of geometry image i)

-- clearing positions below a position, stated with the block map that the file had before
below_form : (geometry : Geometry) (old mid low : List ℕ) (i bound n level : ℕ) (q others : List ℕ) → mode_of geometry mid i ≡ mode_of geometry old i
    → Clears geometry mid low i (IsPastUnder (is_past (form_at geometry mid i) bound) q 0)
    (past_at geometry mid i (is_past (form_at geometry mid i) bound) (places_below n q level)) others
    → Clears geometry mid low i (IsPastUnder (is_past (form_at geometry old i) bound) q 0)
    (past_at geometry mid i (is_past (form_at geometry old i) bound) (places_below n q level)) others
below_form geometry old mid low i bound n level q others mode t =
    subst (λ f. Clears geometry mid low i (IsPastUnder (is_past f bound) q 0) (past_at geometry mid i (is_past f bound) (places_below n q level)) others)
    (form_same geometry old mid i mode) t

-- a position in the block map below an entry that is past the blocks kept by a truncation is past them
under_past : (form : BlockMap) (bound j : ℕ) (p q : List ℕ) → is_past form bound (j ∷ p) ≡ true → IsUnder (j ∷ p) 0 q → is_past form bound q ≡ true
under_past form bound j p q on under = past_front form bound j p q on (under_front j 0 p q under)

-- an entry or address in which the blocks kept by a truncation end is cleared by clearing the positions in the block map below it that are past them
one_parted : (geometry : Geometry) (old mid low : List ℕ) (i b bound rest : ℕ) (level : ℕ → ℕ) (p : List ℕ) (count j k : ℕ) (blocks : List ℕ)
    → k ≡ j + 1 → k ≤ count → Fits geometry old → IsPlaceOf geometry old i (j ∷ p)
    → level j ≡ levels_below (form_at geometry old i) (j ∷ p) → IsNamedAt geometry mid i (j ∷ p) b
    → rest ≡ bound - first_block (form_at geometry old i) (j ∷ p) → rest ≢ 0
    → ClearsFrom geometry old mid i (is_past (form_at geometry old i) bound) (constants geometry.edition).pointers level p count k blocks
    → ClearsBelow geometry mid low b (level j) rest
    → ClearsFrom geometry old low i (is_past (form_at geometry old i) bound) (constants geometry.edition).pointers level p count j blocks
one_parted geometry old mid low i b bound rest level p count j k blocks next few fits place deep is left some s below =
    let n = (constants geometry.edition).pointers in
    let past = is_past (form_at geometry old i) bound in
    let more = past_at geometry old i past (places_among n level p k (count - k)) ++ blocks in
    let form : form_at geometry mid i ≡ form_at geometry old i = form_same geometry old mid i s.mode in
    let levels : levels_below (form_at geometry mid i) (j ∷ p) ≡ level j = ap (λ f. levels_below f (j ∷ p)) form ∙ sym deep in
    let first : rest ≡ bound - first_block (form_at geometry mid i) (j ∷ p) = left ∙ ap (λ f. bound - first_block f (j ∷ p)) (sym form) in
    let t = below_form geometry old mid low i bound n (level j) (j ∷ p) more s.mode (below i j bound p more s.sound is levels first) in
    let many : pointer_count (form_at geometry old i) ≡ n = pointers_file geometry old i place.file in
    from_part_on geometry old mid low i past n level p count j k blocks next few fits place (omega arith) (omega arith)
    (rest_kept (form_at geometry old i) bound rest (j ∷ p) left some) s t

-- an entry or address after the blocks kept by a truncation that points to a block is cleared by clearing the positions in the block map below it and
-- then itself
one_cleared : (geometry : Geometry) (old mid low new : List ℕ) (i b bound rest : ℕ) (level : ℕ → ℕ) (p : List ℕ) (count j k : ℕ) (blocks : List ℕ)
    → k ≡ j + 1 → k ≤ count → Fits geometry old → IsPlaceOf geometry old i (j ∷ p)
    → level j ≡ levels_below (form_at geometry old i) (j ∷ p) → IsNamedAt geometry mid i (j ∷ p) b
    → rest ≡ bound - first_block (form_at geometry old i) (j ∷ p) → rest ≡ 0
    → ClearsFrom geometry old mid i (is_past (form_at geometry old i) bound) (constants geometry.edition).pointers level p count k blocks
    → ClearsBelow geometry mid low b (level j) rest → ((others : List ℕ) → Drops geometry low new i (j ∷ p) b others)
    → ClearsFrom geometry old new i (is_past (form_at geometry old i) bound) (constants geometry.edition).pointers level p count j blocks
one_cleared geometry old mid low new i b bound rest level p count j k blocks next few fits place deep is left none s below drop =
    let n = (constants geometry.edition).pointers in
    let past = is_past (form_at geometry old i) bound in
    let more = past_at geometry old i past (places_among n level p k (count - k)) ++ blocks in
    let given = past_at geometry mid i past (places_below n (j ∷ p) (level j)) in
    let form : form_at geometry mid i ≡ form_at geometry old i = form_same geometry old mid i s.mode in
    let levels : levels_below (form_at geometry mid i) (j ∷ p) ≡ level j = ap (λ f. levels_below f (j ∷ p)) form ∙ sym deep in
    let first : rest ≡ bound - first_block (form_at geometry mid i) (j ∷ p) = left ∙ ap (λ f. bound - first_block f (j ∷ p)) (sym form) in
    let t : Clears geometry mid low i (IsPastUnder past (j ∷ p) 0) given more =
    below_form geometry old mid low i bound n (level j) (j ∷ p) more s.mode (below i j bound p more s.sound is levels first) in
    let on : past (j ∷ p) ≡ true = rest_past (form_at geometry old i) bound rest (j ∷ p) left none in
    let u : Clears geometry low new i (IsFront (j ∷ p)) (b ∷ []) (given ++ more) =
    drop (given ++ more) t.sound (below_named geometry mid low i past b (j ∷ p) given more is t)
    (below_empty geometry mid low i past (j ∷ p) given more (λ q under. under_past (form_at geometry old i) bound j p q on under) t) in
    let many : pointer_count (form_at geometry old i) ≡ n = pointers_file geometry old i place.file in
    from_some_on geometry old mid low new i past n b level p count j k blocks next few fits place (omega arith) (omega arith) is
    (λ q front. past_front (form_at geometry old i) bound j p q on front) s t u

-- the same number of levels for all entries
abbrev pub same_level : ℕ → ℕ → ℕ
same_level d x = d

-- entry `j` of block `m` and the later entries are cleared after the first `kept` logical blocks below `m`, if a position in the block map with
-- `level` levels below it pointed to `m`
abbrev pub ClearsEntries : Geometry → List ℕ → List ℕ → ℕ → ℕ → ℕ → ℕ → Type 0
ClearsEntries geometry old new m level kept j = (i a bound : ℕ) (p blocks : List ℕ) → Rules3To7With geometry old blocks
    → IsNamedAt geometry old i (a ∷ p) m → levels_below (form_at geometry old i) (a ∷ p) ≡ level
    → kept ≡ bound - first_block (form_at geometry old i) (a ∷ p)
    → ClearsFrom geometry old new i (is_past (form_at geometry old i) bound) (constants geometry.edition).pointers (same_level (level - 1)) (a ∷ p)
    (constants geometry.edition).pointers j blocks

-- the first logical block below a position in the block map that isn't kept, if `kept` logical blocks below it are
abbrev bound_at : Geometry → List ℕ → ℕ → List ℕ → ℕ → ℕ
bound_at geometry image i q kept = first_block (form_at geometry image i) q + kept

-- the number of kept logical blocks, computed from that block
bound_is : (geometry : Geometry) (image : List ℕ) (i : ℕ) (q : List ℕ) (kept : ℕ)
    → kept ≡ bound_at geometry image i q kept - first_block (form_at geometry image i) q
bound_is geometry image i q kept = omega arith

-- if block `m` has no levels below it, there is nothing below it to clear
pub below_none : (geometry : Geometry) (image : List ℕ) (m kept : ℕ) → ClearsBelow geometry image image m 0 kept
below_none geometry image m kept i a bound p blocks sound is level left =
    let past = is_past (form_at geometry image i) bound in
    let list : [] ≡ past_at geometry image i past [] = sym (at_nil geometry image i) in
    subst (λ xs. Clears geometry image image i (IsPastUnder past (a ∷ p) 0) xs blocks) list
    (clears_none geometry image i (IsPastUnder past (a ∷ p) 0) blocks sound
    (λ q place under.
    let here = place_front (form_at geometry image i) q (under.0.index ∷ (a ∷ p)) place.place under.0.front in
    absurd (omega (arith, here.1))))

-- before the first step no entry has been cleared
pub entries_start : (geometry : Geometry) (image : List ℕ) (m level kept j : ℕ) → j ≡ (constants geometry.edition).pointers
    → ClearsEntries geometry image image m level kept j
entries_start geometry image m level kept j e i a bound p blocks sound is deep left =
    let many = pointers_file geometry image i is.place.file in
    from_start geometry image i (is_past (form_at geometry image i) bound) (constants geometry.edition).pointers (same_level (level - 1)) (a ∷ p)
    (constants geometry.edition).pointers j blocks e
    sound (λ x place. let low : x < pointer_count (form_at geometry image i) = place.place.0 in omega arith)

-- the entries before the entry in which the blocks kept by a truncation end are cleared already
entries_kept : (geometry : Geometry) (old new : List ℕ) (m level kept j : ℕ) → 1 ≤ level → j ≤ (constants geometry.edition).pointers
    → j ≤ kept / (constants geometry.edition).pointers ^ (level - 1)
    → ClearsEntries geometry old new m level kept j → ClearsEntries geometry old new m level kept 0
entries_kept geometry old new m level kept zero some few within cleared i a bound p blocks sound is deep left =
    cleared i a bound p blocks sound is deep left
entries_kept geometry old new m level kept (suc j) some few within cleared i a bound p blocks sound is deep left =
    entries_kept geometry old new m level kept j some (omega arith) (omega arith)
    (λ i a bound p blocks sound is deep left.
    let n = (constants geometry.edition).pointers in
    let many : pointer_count (form_at geometry old i) ≡ n = pointers_file geometry old i is.place.file in
    from_kept_on geometry old new i (is_past (form_at geometry old i) bound) n (same_level (level - 1)) (a ∷ p) n j (suc j) blocks (omega arith) few
    (entry_place geometry old i j a p is.place (omega arith) (omega arith)) (omega arith) (omega arith)
    (λ q place front. entry_kept (form_at geometry old i) n level j (suc j) a bound kept p q many deep left (omega arith) within place.place front)
    (cleared i a bound p blocks sound is deep left)) i a bound p blocks sound is deep left

-- if the entry in which the kept blocks end and all later entries are cleared, everything below the block is cleared
pub entries_end : (geometry : Geometry) (old new : List ℕ) (m level kept j : ℕ) → 1 ≤ level → j ≤ (constants geometry.edition).pointers
    → j ≤ kept / (constants geometry.edition).pointers ^ (level - 1)
    → ClearsEntries geometry old new m level kept j → ClearsBelow geometry old new m level kept
entries_end geometry old new m zero kept j some few within cleared i a bound p blocks sound is deep left = absurd (omega arith)
entries_end geometry old new m (suc d) kept j some few within cleared i a bound p blocks sound is deep left =
    let n = (constants geometry.edition).pointers in
    let past = is_past (form_at geometry old i) bound in
    let less : suc d - 1 ≡ d = omega arith in
    let all : n - 0 ≡ n = omega arith in
    subst (λ c. Clears geometry old new i (IsPastUnder past (a ∷ p) 0) (past_at geometry old i past (places_among n (same_level d) (a ∷ p) 0 c)) blocks) all
    (subst (λ x. Clears geometry old new i (IsPastUnder past (a ∷ p) 0) (past_at geometry old i past (places_among n (same_level x) (a ∷ p) 0 (n - 0))) blocks) less
    (entries_kept geometry old new m (suc d) kept j some few within cleared i a bound p blocks sound is deep left))

-- the number in entry `j` is the number at its position in the block map while later entries are cleared
entries_named : (geometry : Geometry) (old new : List ℕ) (m level kept j k i a bound : ℕ) (p blocks : List ℕ) → ClearsEntries geometry old new m level kept k
    → Rules3To7With geometry old blocks → IsNamedAt geometry old i (a ∷ p) m → levels_below (form_at geometry old i) (a ∷ p) ≡ level
    → kept ≡ bound - first_block (form_at geometry old i) (a ∷ p)
    → named geometry new i (j ∷ (a ∷ p)) ≡ number geometry.edition new (512 * m) j
entries_named geometry old new m level kept j k i a bound p blocks cleared sound is deep left =
    let n = (constants geometry.edition).pointers in
    let past = is_past (form_at geometry old i) bound in
    let s = cleared i a bound p blocks sound is deep left in
    entry_named geometry new (past_at geometry old i past (places_among n (same_level (level - 1)) (a ∷ p) k (n - k)) ++ blocks) i j a m p s.sound
    (from_above geometry old new i past n m (same_level (level - 1)) (a ∷ p) n k blocks is s)

-- an entry that isn't 0 points to a block
entries_at : (geometry : Geometry) (old new : List ℕ) (m level kept j k b i a bound : ℕ) (p blocks : List ℕ) → ClearsEntries geometry old new m level kept k
    → Rules3To7With geometry old blocks → IsNamedAt geometry old i (a ∷ p) m → levels_below (form_at geometry old i) (a ∷ p) ≡ level
    → kept ≡ bound - first_block (form_at geometry old i) (a ∷ p)
    → 1 ≤ level → j < (constants geometry.edition).pointers → b ≡ number geometry.edition new (512 * m) j → b ≢ 0
    → IsNamedAt geometry new i (j ∷ (a ∷ p)) b
entries_at geometry old new m level kept j k b i a bound p blocks cleared sound is deep left some low number_is not_zero =
    let many = pointers_file geometry old i is.place.file in
    let s = cleared i a bound p blocks sound is deep left in
    record {
      place = place_same geometry old new i (j ∷ (a ∷ p)) s.mode (entry_place geometry old i j a p is.place (omega arith) (omega arith));
      names = entries_named geometry old new m level kept j k i a bound p blocks cleared sound is deep left ∙ sym number_is;
      some = not_zero;
    }

-- an entry of block `m` is within the image
pub entries_room : (geometry : Geometry) (old new : List ℕ) (m level kept j k : ℕ) → ClearsEntries geometry old new m level kept k → IsNamedAtLevel geometry old m level
    → j < (constants geometry.edition).pointers → 512 * m + (constants geometry.edition).number_bytes * (j + 1) ≤ length new
entries_room geometry old new m level kept j k cleared node low =
    let q = node.index ∷ node.place in
    let s = cleared node.file node.index (bound_at geometry old node.file q kept) node.place node.blocks node.sound node.is node.below
    (bound_is geometry old node.file q kept) in
    let bounds = zone_bounds geometry m (named_zone geometry old node.blocks node.file m q node.sound node.is) in
    let fit = number_room geometry.edition j low in
    let end = entry_end (512 * m) (constants geometry.edition).number_bytes j fit in
    omega (arith, end, bounds.1, s.sound.fits.blocks)

-- an entry that is 0 is cleared already
pub entries_none : (geometry : Geometry) (old new : List ℕ) (m level kept j k : ℕ) → k ≡ j + 1 → k ≤ (constants geometry.edition).pointers → 1 ≤ level
    → number geometry.edition new (512 * m) j ≡ 0 → ClearsEntries geometry old new m level kept k → ClearsEntries geometry old new m level kept j
entries_none geometry old new m level kept j k next few some none cleared i a bound p blocks sound is deep left =
    let n = (constants geometry.edition).pointers in
    let many = pointers_file geometry old i is.place.file in
    from_none_on geometry old new i (is_past (form_at geometry old i) bound) n (same_level (level - 1)) (a ∷ p) n j k blocks next few sound.fits
    (entry_place geometry old i j a p is.place (omega arith) (omega arith)) (omega arith) (omega arith)
    (entries_named geometry old new m level kept j k i a bound p blocks cleared sound is deep left ∙ none)
    (cleared i a bound p blocks sound is deep left)

-- the block to which an entry points has one level fewer below it
pub entries_node : (geometry : Geometry) (old new : List ℕ) (m level kept j k b : ℕ) → ClearsEntries geometry old new m level kept k
    → IsNamedAtLevel geometry old m level → 1 ≤ level → j < (constants geometry.edition).pointers → b ≡ number geometry.edition new (512 * m) j → b ≢ 0
    → IsNamedAtLevel geometry new b (level - 1)
entries_node geometry old new m level kept j k b cleared node some low number_is not_zero =
    let n = (constants geometry.edition).pointers in
    let q = node.index ∷ node.place in
    let bound = bound_at geometry old node.file q kept in
    let left = bound_is geometry old node.file q kept in
    let s = cleared node.file node.index bound node.place node.blocks node.sound node.is node.below left in
    let form : form_at geometry new node.file ≡ form_at geometry old node.file = form_same geometry old new node.file s.mode in
    record {
      blocks = past_at geometry old node.file (is_past (form_at geometry old node.file) bound) (places_among n (same_level (level - 1)) q k (n - k)) ++ node.blocks;
      sound = s.sound;
      file = node.file;
      index = j;
      place = node.index ∷ node.place;
      is = entries_at geometry old new m level kept j k b node.file node.index bound node.place node.blocks cleared node.sound node.is node.below left some low number_is not_zero;
      below = ap (λ f. levels_below f (j ∷ (node.index ∷ node.place))) form ∙ ap (λ x. x - 1) node.below;
    }

-- an entry still points to its block after the positions in the block map below it are cleared
pub entries_entry : (geometry : Geometry) (old mid low : List ℕ) (m level kept rest j k b : ℕ) → ClearsEntries geometry old mid m level kept k
    → IsNamedAtLevel geometry old m level → 1 ≤ level → j < (constants geometry.edition).pointers → b ≡ number geometry.edition mid (512 * m) j → b ≢ 0
    → ClearsBelow geometry mid low b (level - 1) rest → HasPointer geometry low m j b
unfolding entries_node
entries_entry geometry old mid low m level kept rest j k b cleared node some index number_is not_zero below =
    let n = (constants geometry.edition).pointers in
    let q = node.index ∷ node.place in
    let bound = bound_at geometry old node.file q kept in
    let past = is_past (form_at geometry old node.file) bound in
    let s = cleared node.file node.index bound node.place node.blocks node.sound node.is node.below (bound_is geometry old node.file q kept) in
    let next = entries_node geometry old mid m level kept j k b cleared node some index number_is not_zero in
    let deeper = bound_at geometry mid node.file (j ∷ q) rest in
    let beyond = is_past (form_at geometry mid node.file) deeper in
    let given = past_at geometry mid node.file beyond (places_below n (j ∷ q) (level - 1)) in
    let t : Clears geometry mid low node.file (IsPastUnder beyond (j ∷ q) 0) given next.blocks =
    below node.file j deeper q next.blocks next.sound next.is next.below (bound_is geometry mid node.file (j ∷ q) rest) in
    let above = from_above geometry old mid node.file past n m (same_level (level - 1)) q n k node.blocks node.is s in
    record {
      blocks = given ++ next.blocks;
      sound = t.sound;
      file = node.file;
      index = node.index;
      place = node.place;
      block = t.kept q above.place (λ under. front_longer j q (under_front j 0 q q under.0)) ∙ above.names;
      is = below_named geometry mid low node.file beyond b (j ∷ q) given next.blocks next.is t;
    }

-- the number of logical blocks kept by a truncation that are at or after entry `j`
entries_rest : (geometry : Geometry) (old : List ℕ) (level kept rest j i a bound : ℕ) (p : List ℕ) → IsFile geometry old i
    → levels_below (form_at geometry old i) (a ∷ p) ≡ level → kept ≡ bound - first_block (form_at geometry old i) (a ∷ p)
    → rest ≡ kept - j * (constants geometry.edition).pointers ^ (level - 1)
    → rest ≡ bound - first_block (form_at geometry old i) (j ∷ (a ∷ p))
entries_rest geometry old level kept rest j i a bound p file deep left rest_is =
    entry_rest (form_at geometry old i) (constants geometry.edition).pointers level j a bound kept rest p (pointers_file geometry old i file) deep left rest_is

-- an entry in which the blocks kept by a truncation end is cleared by clearing the positions in the block map below it that are past them
pub entries_part : (geometry : Geometry) (old mid low : List ℕ) (m level kept rest j k b : ℕ) → k ≡ j + 1 → k ≤ (constants geometry.edition).pointers
    → 1 ≤ level → b ≡ number geometry.edition mid (512 * m) j → b ≢ 0
    → rest ≡ kept - j * (constants geometry.edition).pointers ^ (level - 1) → rest ≢ 0
    → ClearsEntries geometry old mid m level kept k → ClearsBelow geometry mid low b (level - 1) rest → ClearsEntries geometry old low m level kept j
entries_part geometry old mid low m level kept rest j k b next few some number_is not_zero rest_is more cleared below i a bound p blocks sound is deep left =
    let n = (constants geometry.edition).pointers in
    let many = pointers_file geometry old i is.place.file in
    let s = cleared i a bound p blocks sound is deep left in
    let at : IsNamedAt geometry mid i (j ∷ (a ∷ p)) b =
    entries_at geometry old mid m level kept j k b i a bound p blocks cleared sound is deep left some (omega arith) number_is not_zero in
    one_parted geometry old mid low i b bound rest (same_level (level - 1)) (a ∷ p) n j k blocks next few sound.fits
    (entry_place geometry old i j a p is.place (omega arith) (omega arith)) (sym (ap (λ x. x - 1) deep)) at
    (entries_rest geometry old level kept rest j i a bound p is.place.file deep left rest_is) more s below

-- an entry after the blocks kept by a truncation that points to a block is cleared after the block is freed
pub entries_some : (geometry : Geometry) (old mid low new : List ℕ) (m level kept rest j k b : ℕ) → k ≡ j + 1 → k ≤ (constants geometry.edition).pointers
    → 1 ≤ level → b ≡ number geometry.edition mid (512 * m) j → b ≢ 0
    → rest ≡ kept - j * (constants geometry.edition).pointers ^ (level - 1) → rest ≡ 0
    → ClearsEntries geometry old mid m level kept k → ClearsBelow geometry mid low b (level - 1) rest
    → ((i a : ℕ) (p others : List ℕ) → named geometry low i (a ∷ p) ≡ m → Drops geometry low new i (j ∷ (a ∷ p)) b others)
    → ClearsEntries geometry old new m level kept j
entries_some geometry old mid low new m level kept rest j k b next few some number_is not_zero rest_is none cleared below drop i a bound p blocks sound is deep left =
    let n = (constants geometry.edition).pointers in
    let past = is_past (form_at geometry old i) bound in
    let many = pointers_file geometry old i is.place.file in
    let s = cleared i a bound p blocks sound is deep left in
    let more = past_at geometry old i past (places_among n (same_level (level - 1)) (a ∷ p) k (n - k)) ++ blocks in
    let form : form_at geometry mid i ≡ form_at geometry old i = form_same geometry old mid i s.mode in
    let at : IsNamedAt geometry mid i (j ∷ (a ∷ p)) b =
    entries_at geometry old mid m level kept j k b i a bound p blocks cleared sound is deep left some (omega arith) number_is not_zero in
    let above = from_above geometry old mid i past n m (same_level (level - 1)) (a ∷ p) n k blocks is s in
    let levels : levels_below (form_at geometry mid i) (j ∷ (a ∷ p)) ≡ level - 1 =
    ap (λ f. levels_below f (j ∷ (a ∷ p))) form ∙ ap (λ x. x - 1) deep in
    let at_rest = entries_rest geometry old level kept rest j i a bound p is.place.file deep left rest_is in
    let t = below i j bound (a ∷ p) more s.sound at levels (at_rest ∙ ap (λ f. bound - first_block f (j ∷ (a ∷ p))) (sym form)) in
    let block : named geometry low i (a ∷ p) ≡ m =
    t.kept (a ∷ p) above.place (λ under. front_longer j (a ∷ p) (under_front j 0 (a ∷ p) (a ∷ p) under.0)) ∙ above.names in
    one_cleared geometry old mid low new i b bound rest (same_level (level - 1)) (a ∷ p) n j k blocks next few sound.fits
    (entry_place geometry old i j a p is.place (omega arith) (omega arith)) (sym (ap (λ x. x - 1) deep)) at at_rest none s below
    (λ others. drop i a p others block)

-- address `k` of file `i` and the later addresses are cleared after its first `kept` logical blocks
abbrev pub ClearsAddresses : Geometry → List ℕ → List ℕ → ℕ → ℕ → ℕ → Type 0
ClearsAddresses geometry old new i kept k = (blocks : List ℕ) → Rules3To7With geometry old blocks
    → ClearsFrom geometry old new i (is_past (form_at geometry old i) kept) (constants geometry.edition).pointers (levels (form_at geometry old i)) []
    (first_count (form_at geometry old i)) k blocks

-- before the first step no address has been cleared
pub addresses_start : (geometry : Geometry) (image : List ℕ) (i kept k : ℕ) → k ≡ first_count (form_at geometry image i)
    → ClearsAddresses geometry image image i kept k
addresses_start geometry image i kept k e blocks sound =
    from_start geometry image i (is_past (form_at geometry image i) kept) (constants geometry.edition).pointers (levels (form_at geometry image i)) []
    (first_count (form_at geometry image i)) k blocks e sound (λ x place. place.place)

-- an address that isn't 0 points to a block
addresses_at : (geometry : Geometry) (old new : List ℕ) (i kept j k b : ℕ) (blocks : List ℕ) → IsFile geometry old i → ClearsAddresses geometry old new i kept k
    → Rules3To7With geometry old blocks → j < first_count (form_at geometry old i)
    → b ≡ address_at geometry.edition new (inode_place geometry.edition i) j → b ≢ 0 → IsNamedAt geometry new i (j ∷ []) b
addresses_at geometry old new i kept j k b blocks file cleared sound low is not_zero = record {
  place = place_same geometry old new i (j ∷ []) (cleared blocks sound).mode (record { file = file; place = low });
  names = sym is;
  some = not_zero;
}

-- an address that is 0 is cleared already
pub addresses_none : (geometry : Geometry) (old new : List ℕ) (i kept j k : ℕ) → k ≡ j + 1 → k ≤ first_count (form_at geometry old i)
    → IsFile geometry old i → address_at geometry.edition new (inode_place geometry.edition i) j ≡ 0
    → ClearsAddresses geometry old new i kept k → ClearsAddresses geometry old new i kept j
addresses_none geometry old new i kept j k next few file none cleared blocks sound =
    let many = pointers_file geometry old i file in
    from_none_on geometry old new i (is_past (form_at geometry old i) kept) (constants geometry.edition).pointers (levels (form_at geometry old i)) []
    (first_count (form_at geometry old i)) j k blocks
    next few sound.fits (record { file = file; place = omega arith }) (omega arith) (omega arith) none (cleared blocks sound)

-- the block to which an address points has as many levels below it as the address
pub addresses_node : (geometry : Geometry) (old new : List ℕ) (i kept j k b : ℕ) (blocks : List ℕ) → IsFile geometry old i → ClearsAddresses geometry old new i kept k
    → Rules3To7With geometry old blocks → j < first_count (form_at geometry old i)
    → b ≡ address_at geometry.edition new (inode_place geometry.edition i) j → b ≢ 0 → IsNamedAtLevel geometry new b (levels (form_at geometry old i) j)
addresses_node geometry old new i kept j k b blocks file cleared sound low is not_zero =
    let s = cleared blocks sound in
    let form = form_at geometry old i in
    record {
      blocks = past_at geometry old i (is_past form kept) (places_among (constants geometry.edition).pointers (levels form) [] k (first_count form - k)) ++ blocks;
      sound = s.sound;
      file = i;
      index = j;
      place = [];
      is = addresses_at geometry old new i kept j k b blocks file cleared sound low is not_zero;
      below = ap (λ f. levels f j) (form_same geometry old new i s.mode);
    }

-- an address still points to its block after the positions in the block map below it are cleared
pub addresses_address : (geometry : Geometry) (old mid low : List ℕ) (i kept rest j k b : ℕ) (blocks : List ℕ) → IsFile geometry old i
    → ClearsAddresses geometry old mid i kept k → Rules3To7With geometry old blocks → j < first_count (form_at geometry old i)
    → b ≡ address_at geometry.edition mid (inode_place geometry.edition i) j → b ≢ 0
    → ClearsBelow geometry mid low b (levels (form_at geometry old i) j) rest → HasAddress geometry low i j b
unfolding addresses_node
addresses_address geometry old mid low i kept rest j k b blocks file cleared sound index is not_zero below =
    let next = addresses_node geometry old mid i kept j k b blocks file cleared sound index is not_zero in
    let bound = bound_at geometry mid i (j ∷ []) rest in
    let past = is_past (form_at geometry mid i) bound in
    let given = past_at geometry mid i past (places_below (constants geometry.edition).pointers (j ∷ []) (levels (form_at geometry old i) j)) in
    let t : Clears geometry mid low i (IsPastUnder past (j ∷ []) 0) given next.blocks =
    below i j bound [] next.blocks next.sound next.is next.below (bound_is geometry mid i (j ∷ []) rest) in
    record { blocks = given ++ next.blocks; sound = t.sound; is = below_named geometry mid low i past b (j ∷ []) given next.blocks next.is t }

-- an address in which the blocks kept by a truncation end is cleared by clearing the positions in the block map below it that are past them
pub addresses_part : (geometry : Geometry) (old mid low : List ℕ) (i kept rest j k b : ℕ) → k ≡ j + 1 → k ≤ first_count (form_at geometry old i)
    → IsFile geometry old i → b ≡ address_at geometry.edition mid (inode_place geometry.edition i) j → b ≢ 0
    → rest ≡ kept - first_at (form_at geometry old i) j → rest ≢ 0
    → ClearsAddresses geometry old mid i kept k → ClearsBelow geometry mid low b (levels (form_at geometry old i) j) rest
    → ClearsAddresses geometry old low i kept j
addresses_part geometry old mid low i kept rest j k b next few file is not_zero rest_is some cleared below blocks sound =
    one_parted geometry old mid low i b kept rest (levels (form_at geometry old i)) [] (first_count (form_at geometry old i)) j k blocks next few sound.fits
    (record { file = file; place = omega arith }) refl
    (addresses_at geometry old mid i kept j k b blocks file cleared sound (omega arith) is not_zero) rest_is some (cleared blocks sound) below

-- an address after the blocks kept by a truncation that points to a block is cleared after the block is freed
pub addresses_some : (geometry : Geometry) (old mid low new : List ℕ) (i kept rest j k b : ℕ) → k ≡ j + 1 → k ≤ first_count (form_at geometry old i)
    → IsFile geometry old i → b ≡ address_at geometry.edition mid (inode_place geometry.edition i) j → b ≢ 0
    → rest ≡ kept - first_at (form_at geometry old i) j → rest ≡ 0
    → ClearsAddresses geometry old mid i kept k → ClearsBelow geometry mid low b (levels (form_at geometry old i) j) rest
    → ((others : List ℕ) → Drops geometry low new i (j ∷ []) b others) → ClearsAddresses geometry old new i kept j
addresses_some geometry old mid low new i kept rest j k b next few file is not_zero rest_is none cleared below drop blocks sound =
    one_cleared geometry old mid low new i b kept rest (levels (form_at geometry old i)) [] (first_count (form_at geometry old i)) j k blocks next few sound.fits
    (record { file = file; place = omega arith }) refl
    (addresses_at geometry old mid i kept j k b blocks file cleared sound (omega arith) is not_zero) rest_is none (cleared blocks sound) below drop

-- the blocks of a file past the kept ones are those at and below its addresses
all_past : (geometry : Geometry) (image : List ℕ) (i : ℕ) (past : List ℕ → Bool) → IsFile geometry image i
    → past_at geometry image i past
    (places_among (constants geometry.edition).pointers (levels (form_at geometry image i)) [] 0 (first_count (form_at geometry image i) - 0))
    ≡ past_at geometry image i past (places (form_at geometry image i))
unfolding places
all_past geometry image i past file =
    let form = form_at geometry image i in
    let none : first_count form - 0 ≡ first_count form = omega arith in
    ap (λ c. past_at geometry image i past (places_among (constants geometry.edition).pointers (levels form) [] 0 c)) none
    ∙ ap (λ n. past_at geometry image i past (places_among n (levels form) [] 0 (first_count form))) (sym (pointers_file geometry image i file))

-- if all addresses are cleared, all positions in the block map past the blocks kept by a truncation are cleared
pub addresses_end : (geometry : Geometry) (old new : List ℕ) (i kept k : ℕ) → k ≡ 0 → IsFile geometry old i → ClearsAddresses geometry old new i kept k
    → (blocks : List ℕ) → Rules3To7With geometry old blocks → ClearsPast geometry old new i kept blocks
addresses_end geometry old new i kept k end file cleared blocks sound =
    let form = form_at geometry old i in
    let past = is_past form kept in
    let given = past_at geometry old i past (places form) in
    let s : Clears geometry old new i (IsPastUnder past [] 0) given blocks =
    subst (λ xs. Clears geometry old new i (IsPastUnder past [] 0) xs blocks) (all_past geometry old i past file)
    (subst (λ j. ClearsFrom geometry old new i past (constants geometry.edition).pointers (levels form) [] (first_count form) j blocks) end
    (cleared blocks sound)) in
    clears_as geometry old new i (IsPastUnder past [] 0) (IsPast geometry old i kept) given given blocks refl
    (λ q place on.
    let base = front_first form q place.place in
    inl (record { index = base.0; from = omega arith; front = base.2 }, on))
    (λ q under. under.1) s
