-- The block numbers in a small file's block map after the writes that make it large.
use Rattle.std.proofs.Common.{◌≡◌, ℕ, ◌+◌, ◌*◌, ◌<◌, ◌≤◌, ◌⊎◌, ◌∙◌, sym, ap, List, [], ◌∷◌, get_or, refl, arith, inl, inr, true, false, if◌then◌else◌, ltb}
use Rattle.std.proofs.lemmas.Bool.{cases_lt, lt-ltb, ltb-true}
use Rattle.std.proofs.lemmas.Bool.Decides.{nat_tests}
use Rattle.pdp_words.specs.Words.{word, SameOutside}
use Rattle.pdp_words.proofs.Outside.{widen, join}
use Rattle.vol_layout.specs.Edition.{constants, number}
use Rattle.vol_layout.specs.Geometry.{in_zone}
use Rattle.vol_layout.specs.Inode.{inode_place, address_at, address_bytes, address_offset, address_place, kind_of, is_large, with_large}
use Rattle.vol_layout.specs.BlockMaps.{form_of, has_places}
use Rattle.vol_layout.specs.BlockPointers.{mode_of, form_at, IsFile, IsPlaceOf, named, pointer_in}
use Rattle.vol_layout.specs.declared.edition.Edition.{Edition}
use Rattle.vol_layout.specs.declared.edition.Edition.TheVariants.{V6, V7}
use Rattle.vol_layout.specs.declared.geometry.Geometry.{Geometry}
use Rattle.vol_layout.specs.declared.block_map.BlockMap.TheVariants.{Small, Large, Deep, Bare}
use Rattle.vol_layout.proofs.InodeLaws.{KeepsInode, place_from, place_room, mode_kept, size_kept, address_kept}
use Rattle.vol_layout.proofs.AddressLaws.{address_others, addresses_before, size_behind, size_above}
use Rattle.vol_layout.proofs.BodyLaws.{zone_bounds}
use Rattle.vol_layout.proofs.NameLaws.{entry_in}
use Rattle.vol_layout.proofs.KindLaws.{file_allocated}
use Rattle.vol_free.specs.Stack.{IsFree, StaysBut, Popped}
use Rattle.vol_free.proofs.Stacks.{head_end}
use Rattle.vol_free.proofs.Frames.{IsFree-before_zone, IsFree-within}
use Rattle.vol_file.specs.Changes.{StaysElsewhere, is_kept_byte}
use Rattle.vol_file.specs.Rules.{kind_at, Rules3To7With}
use Rattle.vol_file.proofs.Alone.{elsewhere_then}
use Rattle.vol_file.proofs.Cells.{number_above, names_zoned}
use Rattle.vol_file.proofs.TakenBlocks.{IsUnnamed, stays_block, stays_inode, stays_named, stays_before, stays_elsewhere, stays_sound, zone_two, first_unnamed, first_zoned, first_once, taken_sound}
use Rattle.vol_file.proofs.LargeFiles.{Moves}

-- the writes that make file `i` large: block `b` was taken from the free list, the addresses were copied to it and cleared, the first address was set
-- to `b`, and the large flag was set
pub record IsMoved (geometry : Geometry) (old mid one two three new : List ℕ) (i b : ℕ) (rest : List ℕ) : Type 0 where
  pub popped : Popped geometry old mid b rest
  pub copied : (k : ℕ) → k < 16 → get_or one (512 * b + k) 0 ≡ get_or mid (inode_place geometry.edition i + 8 + k) 0
  pub copy : SameOutside mid one (512 * b) (512 * b + 16)
  pub zero : (k : ℕ) → 8 ≤ k → k < 24 → get_or two (inode_place geometry.edition i + k) 0 ≡ 0
  pub clear : SameOutside one two (inode_place geometry.edition i + 8) (inode_place geometry.edition i + 24)
  pub first : address_at geometry.edition three (inode_place geometry.edition i) 0 ≡ b
  pub put : SameOutside two three (address_place geometry.edition i 0) (address_place geometry.edition i 0 + address_bytes geometry.edition)
  pub mode : mode_of geometry new i ≡ with_large (mode_of geometry old i) true
  pub kind : kind_at geometry new i ≡ kind_at geometry old i
  pub flag : is_large V6 (mode_of geometry new i) ≡ true
  pub last : SameOutside three new (inode_place geometry.edition i) (inode_place geometry.edition i + 2)

-- only the sixth edition has small files
pub small_edition : (edition : Edition) (mode : ℕ) → form_of edition mode ≡ Small → edition ≡ V6
small_edition V6 mode small = refl
small_edition V7 mode small =
    absurd (elim (has_places (kind_of V7 mode)) as (λ t. (if t then Deep else Bare) ≡ Small → ⊥) [ true ↦ λ e. cc | false ↦ λ e. cc ] small)

-- a file of the sixth edition whose mode has the flag is large
large_form : (edition : Edition) (mode : ℕ) → edition ≡ V6 → has_places (kind_of edition mode) ≡ true → is_large V6 mode ≡ true → form_of edition mode ≡ Large
large_form V6 mode v6 kind flag = rw (kind, flag) refl
large_form V7 mode v6 kind flag = absurd (cc)

-- the constants and the first address of a sixth edition i-node
first_place : (edition : Edition) (i : ℕ) → edition ≡ V6
    → (address_place edition i 0 ≡ inode_place edition i + 8) × (address_place edition i 0 + address_bytes edition ≡ inode_place edition i + 10)
    × (address_offset edition ≡ 8) × ((constants edition).inode_bytes ≡ 32) × ((constants edition).pointers ≡ 256)
first_place V6 i v6 = (omega arith, omega arith, refl, refl, refl)
first_place V7 i v6 = absurd (cc)

-- the bytes of a sixth edition i-node that a change of a file must keep are between the mode and the addresses, or after the addresses
kept_between : (edition : Edition) (r : ℕ) → edition ≡ V6 → is_kept_byte edition r ≡ true → (2 ≤ r) × ((r < 8) ⊎ (24 ≤ r)) × (r < 32)
kept_between V6 r v6 kept =
    (grind (arith, nat_tests), elim (cases_lt r 8) [ inl less ↦ inl less | inr more ↦ inr (grind (arith, nat_tests)) ], grind (arith, nat_tests))
kept_between V7 r v6 kept = absurd (cc)

-- the copied addresses are the first eight numbers of the indirect block
word_moved : (edition : Edition) (mid one : List ℕ) (i b j : ℕ) → edition ≡ V6 → j < 8
    → ((k : ℕ) → k < 16 → get_or one (512 * b + k) 0 ≡ get_or mid (inode_place edition i + 8 + k) 0)
    → number edition one (512 * b) j ≡ address_at edition mid (inode_place edition i) j
word_moved V6 mid one i b j v6 h copied =
    let low : get_or one (512 * b + 2 * j) 0 ≡ get_or mid (inode_place V6 i + 8 + 2 * j) 0 = copied (2 * j) (omega arith) in
    let next : 512 * b + 2 * j + 1 ≡ 512 * b + (2 * j + 1) = omega arith in
    let there : inode_place V6 i + 8 + (2 * j + 1) ≡ inode_place V6 i + 8 + 2 * j + 1 = omega arith in
    let high : get_or one (512 * b + 2 * j + 1) 0 ≡ get_or mid (inode_place V6 i + 8 + 2 * j + 1) 0 =
    ap (λ x. get_or one x 0) next ∙ (copied (2 * j + 1) (omega arith) ∙ ap (λ x. get_or mid x 0) there) in
    let same : word one (512 * b + 2 * j) ≡ word mid (inode_place V6 i + 8 + 2 * j) = omega (arith, low, high) in
    same ∙ sym (ap (λ t. if t then word mid (inode_place V6 i + 8 + 2 * j) else 0) (lt-ltb j 8 h))
word_moved V7 mid one i b j v6 h copied = absurd (cc)

-- a cleared address is 0
word_cleared : (edition : Edition) (two : List ℕ) (i k : ℕ) → edition ≡ V6
    → ((r : ℕ) → 8 ≤ r → r < 24 → get_or two (inode_place edition i + r) 0 ≡ 0)
    → address_at edition two (inode_place edition i) k ≡ 0
word_cleared V6 two i k v6 zero =
    elim (ltb k 8) as (λ t. ltb k 8 ≡ t → (if t then word two (inode_place V6 i + 8 + 2 * k) else 0) ≡ 0) [
      | true ↦ λ t.
          let h : k < 8 = ltb-true k 8 t in
          let one : inode_place V6 i + 8 + 2 * k ≡ inode_place V6 i + (8 + 2 * k) = omega arith in
          let next : inode_place V6 i + 8 + 2 * k + 1 ≡ inode_place V6 i + (8 + 2 * k + 1) = omega arith in
          let low : get_or two (inode_place V6 i + 8 + 2 * k) 0 ≡ 0 = ap (λ x. get_or two x 0) one ∙ zero (8 + 2 * k) (omega arith) (omega arith) in
          let high : get_or two (inode_place V6 i + 8 + 2 * k + 1) 0 ≡ 0 = ap (λ x. get_or two x 0) next ∙ zero (8 + 2 * k + 1) (omega arith) (omega arith) in
          omega (arith, low, high)
      | false ↦ λ t. refl
    ] refl
word_cleared V7 two i k v6 zero = absurd (cc)

-- the numbers of the new indirect block after the first eight are 0
word_empty : (edition : Edition) (one : List ℕ) (b j : ℕ) → edition ≡ V6 → 8 ≤ j → j < 256
    → ((r : ℕ) → 16 ≤ r → r < 512 → get_or one (512 * b + r) 0 ≡ 0) → number edition one (512 * b) j ≡ 0
word_empty V6 one b j v6 low high zero =
    let next : 512 * b + 2 * j + 1 ≡ 512 * b + (2 * j + 1) = omega arith in
    let first : get_or one (512 * b + 2 * j) 0 ≡ 0 = zero (2 * j) (omega arith) (omega arith) in
    let second : get_or one (512 * b + 2 * j + 1) 0 ≡ 0 = ap (λ x. get_or one x 0) next ∙ zero (2 * j + 1) (omega arith) (omega arith) in
    omega (arith, first, second)
word_empty V7 one b j v6 low high zero = absurd (cc)

-- two writes within i-node `i` change only file `i`
inode_elsewhere : (geometry : Geometry) (one three new rest : List ℕ) (i : ℕ) → geometry.edition ≡ V6 → Rules3To7With geometry one rest
    → 1 ≤ i → i ≤ geometry.last_inode
    → SameOutside one three (inode_place geometry.edition i + 8) (inode_place geometry.edition i + 24)
    → SameOutside three new (inode_place geometry.edition i) (inode_place geometry.edition i + 2) → StaysElsewhere geometry one new i
inode_elsewhere geometry one three new rest i v6 sound first last s t =
    let from = place_from geometry.edition i in
    let room = place_room geometry one i sound.fits first last in
    let facts = first_place geometry.edition i v6 in
    let head = head_end geometry.edition in
    record {
      len = t.len ∙ s.len;
      before = λ k h. t.below k (omega (arith, from, head, h)) ∙ s.below k (omega (arith, from, head, h));
      super_block = λ k h l. t.below k (omega (arith, from, l)) ∙ s.below k (omega (arith, from, l));
      lower_inodes = λ k h l. t.below k l ∙ s.below k (omega arith);
      higher_inodes = λ k h l. t.above k (omega (arith, facts.3, h)) ∙ s.above k (omega (arith, facts.3, h));
      inode = λ r kept. let at = kept_between geometry.edition r v6 kept in
          t.above (inode_place geometry.edition i + r) (omega (arith, at.0))
          ∙ elim at.1 [
            | inl less ↦ s.below (inode_place geometry.edition i + r) (omega arith)
            | inr more ↦ s.above (inode_place geometry.edition i + r) (omega arith)
          ];
      blocks = λ j p k r other names h.
          let bounds = zone_bounds geometry k (names_zoned geometry one rest j p k sound names) in
          t.above (512 * k + r) (omega (arith, bounds.0, room, facts.3)) ∙ s.above (512 * k + r) (omega (arith, bounds.0, room, facts.3));
      behind = λ k h. t.above k (omega (arith, h, room, facts.3, sound.fits.zone)) ∙ s.above k (omega (arith, h, room, facts.3, sound.fits.zone));
    }

-- these writes move the addresses of file `i` to the new indirect block
pub moves : (geometry : Geometry) (old mid one two three new : List ℕ) (i b : ℕ) (rest : List ℕ) → Rules3To7With geometry old (b ∷ rest)
    → IsFile geometry old i → form_at geometry old i ≡ Small → IsMoved geometry old mid one two three new i b rest → Moves geometry old new i b rest
moves geometry old mid one two three new i b rest sound file small m =
    let v6 : geometry.edition ≡ V6 = small_edition geometry.edition (mode_of geometry old i) small in
    let facts = first_place geometry.edition i v6 in
    let zoned : in_zone geometry b ≡ true = first_zoned geometry old b rest sound in
    let bounds = zone_bounds geometry b zoned in
    let unnamed : IsUnnamed geometry old b = first_unnamed geometry old b rest sound in
    let sound_mid : Rules3To7With geometry mid rest = taken_sound geometry old mid b rest sound m.popped in
    let room = place_room geometry old i sound.fits file.first file.last in
    let from = place_from geometry.edition i in
    let head = head_end geometry.edition in
    let two_b : 2 ≤ b = zone_two geometry old b sound.fits zoned in
    let same_mid : (j : ℕ) (p : List ℕ) → IsPlaceOf geometry old j p → named geometry mid j p ≡ named geometry old j p =
    λ j p at. stays_named geometry old mid b 512 j p sound.fits m.popped.stays (omega arith) zoned unnamed at in
    let unnamed_mid : IsUnnamed geometry mid b =
    λ j p at e. let before = stays_before geometry old mid b 512 j p sound.fits m.popped.stays zoned at in unnamed j p before (sym (same_mid j p before) ∙ e) in
    let stays_one : StaysBut geometry mid one b 512 = record {
      len = m.copy.len;
      below = λ k h. m.copy.below k (omega (arith, head, h, two_b));
      between = λ k h l. m.copy.below k l;
      above = λ k h. m.copy.above k (omega (arith, h));
    } in
    let free_one : IsFree geometry one rest = IsFree-within m.copy b two_b (omega arith) (omega arith) (first_once geometry old b rest sound) sound_mid.free in
    let sound_one : Rules3To7With geometry one rest =
    stays_sound geometry mid one rest rest b 512 sound_mid stays_one (omega arith) zoned unnamed_mid free_one sound_mid.outside in
    let file_mid : IsFile geometry mid i = record {
      first = file.first;
      last = file.last;
      kind = ap (λ x. has_places (kind_of geometry.edition x)) (mode_kept geometry old mid i (stays_inode geometry old mid b 512 i sound.fits m.popped.stays zoned file.first file.last)) ∙ file.kind;
    } in
    let kept_mid : KeepsInode geometry old mid i = stays_inode geometry old mid b 512 i sound.fits m.popped.stays zoned file.first file.last in
    let kept_one : KeepsInode geometry mid one i = stays_inode geometry mid one b 512 i sound_mid.fits stays_one zoned file.first file.last in
    let three_same : SameOutside one three (inode_place geometry.edition i + 8) (inode_place geometry.edition i + 24) =
    join m.clear
    (widen {from = inode_place geometry.edition i + 8} {to = inode_place geometry.edition i + 24} m.put (omega (arith, facts.0)) (omega (arith, facts.1)))
    (omega arith) (omega arith) (omega arith) (omega arith) in
    let alone : StaysElsewhere geometry old new i =
    elsewhere_then geometry old mid new i sound.fits file.first
    (stays_elsewhere geometry old mid (b ∷ rest) b 512 i sound file m.popped.stays (omega arith) zoned unnamed)
    (elsewhere_then geometry mid one new i sound_mid.fits file.first
    (stays_elsewhere geometry mid one rest b 512 i sound_mid file_mid stays_one (omega arith) zoned unnamed_mid)
    (inode_elsewhere geometry one three new rest i v6 sound_one file.first file.last three_same m.last)) in
    let number_new : (j : ℕ) → number geometry.edition new (512 * b) j ≡ number geometry.edition one (512 * b) j =
    λ j. number_above geometry.edition three new b j (inode_place geometry.edition i) (inode_place geometry.edition i + 2) m.last (omega (arith, room, facts.3, bounds.0))
    ∙ number_above geometry.edition one three b j (inode_place geometry.edition i + 8) (inode_place geometry.edition i + 24) three_same (omega (arith, room, facts.3, bounds.0)) in
    let address_new : (k : ℕ) → address_at geometry.edition new (inode_place geometry.edition i) k ≡ address_at geometry.edition three (inode_place geometry.edition i) k =
    λ k. addresses_before geometry.edition three new i (inode_place geometry.edition i) (inode_place geometry.edition i + 2) k m.last (omega (arith, facts.2)) in
    let first : named geometry new i (0 ∷ []) ≡ b = address_new 0 ∙ m.first in
    let zero_one : (r : ℕ) → 16 ≤ r → r < 512 → get_or one (512 * b + r) 0 ≡ 0 =
    λ r low high. m.copy.above (512 * b + r) (omega arith) ∙ m.popped.zero (512 * b + r) (omega arith) (omega arith) in
    let entry_new : (j : ℕ) → named geometry new i (j ∷ (0 ∷ [])) ≡ number geometry.edition one (512 * b) j =
    λ j. ap (λ x. pointer_in geometry new x j) first ∙ (entry_in geometry new b j zoned ∙ number_new j) in
    record {
      alone = alone;
      free = IsFree-before_zone m.last (omega (arith, from)) (omega (arith, room, facts.3))
          (IsFree-before_zone three_same (omega (arith, from)) (omega (arith, room, facts.3)) free_one);
      size = size_above geometry.edition three new i (inode_place geometry.edition i) (inode_place geometry.edition i + 2) m.last (omega arith)
          ∙ (size_behind geometry.edition one three i (inode_place geometry.edition i + 8) (inode_place geometry.edition i + 24) three_same (omega (arith, facts.2))
          ∙ (size_kept geometry mid one i kept_one ∙ size_kept geometry old mid i kept_mid));
      mode = m.mode;
      kind = m.kind;
      small = small;
      large = large_form geometry.edition (mode_of geometry new i) v6 (ap has_places m.kind ∙ file.kind) m.flag;
      first = first;
      others = λ k low high.
          address_new k ∙ (address_others geometry.edition two three i 0 k m.put (λ e. omega arith) ∙ word_cleared geometry.edition two i k v6 m.zero);
      moved = λ j low.
          entry_new j ∙ (word_moved geometry.edition mid one i b j v6 low m.copied ∙ address_kept geometry old mid i j kept_mid (omega arith));
      empty = λ j low high. entry_new j ∙ word_empty geometry.edition one b j v6 low high zero_one;
      bytes = λ k r zone other h.
          let at = zone_bounds geometry k zone in
          let two_k = zone_two geometry old k sound.fits zone in
          m.last.above (512 * k + r) (omega (arith, room, facts.3, at.0))
          ∙ (three_same.above (512 * k + r) (omega (arith, room, facts.3, at.0))
          ∙ ((stays_block geometry mid one b 512 k stays_one (omega arith) two_k other).bytes r h
          ∙ (stays_block geometry old mid b 512 k m.popped.stays (omega arith) two_k other).bytes r h));
    }

-- setting the large flag does not change the kind
pub large_kind : (geometry : Geometry) (old new : List ℕ) (i bits : ℕ) → form_at geometry old i ≡ Small → IsFile geometry old i
    → mode_of geometry new i ≡ bits → (32768 ≤ mode_of geometry old i → kind_of V6 bits ≡ kind_of V6 (mode_of geometry old i))
    → kind_at geometry new i ≡ kind_at geometry old i
large_kind geometry old new i bits small file is same =
    let v6 : geometry.edition ≡ V6 = small_edition geometry.edition (mode_of geometry old i) small in
    let high = file_allocated (mode_of geometry old i) (ap (λ e. has_places (kind_of e (mode_of geometry old i))) (sym v6) ∙ file.kind) in
    ap (kind_of geometry.edition) is ∙ (ap (λ e. kind_of e bits) v6 ∙ (same high ∙ ap (λ e. kind_of e (mode_of geometry old i)) (sym v6)))
