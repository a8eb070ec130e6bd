-- The effect of taking a block from the free list and storing its number at a position in the block map of a file.
use Rattle.std.proofs.Common.{◌≡◌, ◌≢◌, ℕ, ◌+◌, ◌*◌, ◌≤◌, ◌∙◌, sym, ap, subst, List, [], ◌∷◌, ◌++◌, refl, arith, inl, inr, true}
use Rattle.pdp_words.specs.Words.{word}
use Rattle.vol_layout.specs.Edition.{constants}
use Rattle.vol_layout.specs.Geometry.{in_zone, Fits}
use Rattle.vol_layout.specs.Super.{free_head}
use Rattle.vol_layout.specs.Inode.{inode_place, kind_of}
use Rattle.vol_layout.specs.BlockMaps.{IsPlace}
use Rattle.vol_layout.specs.BlockPointers.{mode_of, form_at, IsFile, IsPlaceOf, named, NamesBlock}
use Rattle.vol_layout.specs.declared.geometry.Geometry.{Geometry}
use Rattle.vol_layout.proofs.CopyLaws.{IsCopy}
use Rattle.vol_layout.proofs.InodeLaws.{KeepsInode, place_from, place_room, mode_kept, size_kept, form_kept, inode_of_kept}
use Rattle.vol_layout.proofs.PlaceLaws.{place_front}
use Rattle.vol_layout.proofs.BodyLaws.{zone_bounds}
use Rattle.vol_layout.proofs.NameLaws.{holds_named}
use Rattle.vol_layout.proofs.FrameLaws.{named_frame, places_kept}
use Rattle.vol_free.specs.Stack.{IsIn, Once, IsFree, StaysBut, Popped}
use Rattle.vol_free.proofs.Stacks.{head_end, stack_zoned}
use Rattle.vol_free.proofs.Frames.{apart_blocks}
use Rattle.vol_file.specs.Rules.{Rules3To7With}
use Rattle.vol_file.proofs.Alone.{fits_len, copy_back, place_kept}
use Rattle.vol_file.proofs.Cells.{kept_within, names_zoned}
use Rattle.vol_file.proofs.StoredNames.{kinds_kept, file_same}
use Rattle.vol_file.specs.Changes.{StaysElsewhere}

-- no position in the block map points to block `b`
abbrev pub IsUnnamed : Geometry → List ℕ → ℕ → Type 0
IsUnnamed geometry image b = (j : ℕ) (p : List ℕ) → IsPlaceOf geometry image j p → named geometry image j p ≢ b

-- if only the free list and block `b` are written, another block is unchanged
pub stays_block : (geometry : Geometry) (old new : List ℕ) (b size m : ℕ) → StaysBut geometry old new b size → size ≤ 512 → 2 ≤ m → m ≢ b
    → IsCopy old new (512 * m) (512 * m) 512
stays_block geometry old new b size m stays small two differ =
    let head = head_end geometry.edition in
    elim (apart_blocks b m (λ e. differ (sym e))) [
      | inl less ↦ record { bytes = λ r h. stays.above (512 * m + r) (omega arith) }
      | inr more ↦ record { bytes = λ r h. stays.between (512 * m + r) (omega arith) (omega arith) }
    ]

-- if only the free list and a data block are written, the i-nodes are unchanged
pub stays_inode : (geometry : Geometry) (old new : List ℕ) (b size j : ℕ) → Fits geometry old → StaysBut geometry old new b size
    → in_zone geometry b ≡ true → 1 ≤ j → j ≤ geometry.last_inode → KeepsInode geometry old new j
stays_inode geometry old new b size j fits stays zone first last =
    let head = head_end geometry.edition in
    let bounds = zone_bounds geometry b zone in
    let from = place_from geometry.edition j in
    let room = place_room geometry old j fits first last in
    record { bytes = λ r h. stays.between (inode_place geometry.edition j + r) (omega (arith, head, from)) (omega (arith, room, bounds.0)) }

-- a data block is after the super-block
pub zone_two : (geometry : Geometry) (image : List ℕ) (k : ℕ) → Fits geometry image → in_zone geometry k ≡ true → 2 ≤ k
zone_two geometry image k fits zone = let bounds = zone_bounds geometry k zone in omega (arith, bounds.0, fits.i_list)

-- if only the free list and a data block to which no position points are written, the block numbers in block maps are unchanged
pub stays_named : (geometry : Geometry) (old new : List ℕ) (b size j : ℕ) (p : List ℕ) → Fits geometry old → StaysBut geometry old new b size
    → size ≤ 512 → in_zone geometry b ≡ true → IsUnnamed geometry old b → IsPlaceOf geometry old j p → named geometry new j p ≡ named geometry old j p
stays_named geometry old new b size j p fits stays small zone unnamed place =
    named_frame geometry old new j p (places_kept geometry old new j (stays_inode geometry old new b size j fits stays zone place.file.first place.file.last)) place.place
    (λ x a q front zone_q.
    let here : IsPlace (form_at geometry old j) (x ∷ (a ∷ q)) = place_front (form_at geometry old j) p (x ∷ (a ∷ q)) place.place front in
    stays_block geometry old new b size (named geometry old j (a ∷ q)) stays small
    (zone_two geometry old (named geometry old j (a ∷ q)) fits zone_q) (unnamed j (a ∷ q) (record { file = place.file; place = here.2 })))

-- if only the free list and a data block are written, each position in a block map was there before
pub stays_before : (geometry : Geometry) (old new : List ℕ) (b size j : ℕ) (p : List ℕ) → Fits geometry old → StaysBut geometry old new b size
    → in_zone geometry b ≡ true → IsPlaceOf geometry new j p → IsPlaceOf geometry old j p
stays_before geometry old new b size j p fits stays zone place =
    let kept = stays_inode geometry old new b size j fits stays zone place.file.first place.file.last in
    place_kept geometry new old j p (copy_back old new (inode_place geometry.edition j) (constants geometry.edition).inode_bytes kept) place

-- if only the free list and a data block to which no position in the block map points are written, only file `i` may have changed, for any `i`; the
-- blocks of other files must be data blocks
pub stays_around : (geometry : Geometry) (old new : List ℕ) (b size i : ℕ) → Fits geometry old
    → ((j : ℕ) (p : List ℕ) (k : ℕ) → j ≢ i → NamesBlock geometry old j p k → in_zone geometry k ≡ true) → 1 ≤ i → i ≤ geometry.last_inode
    → StaysBut geometry old new b size → size ≤ 512 → in_zone geometry b ≡ true → IsUnnamed geometry old b → StaysElsewhere geometry old new i
stays_around geometry old new b size i fits zoned first last stays small zone unnamed =
    let head = head_end geometry.edition in
    let bounds = zone_bounds geometry b zone in
    let from = place_from geometry.edition i in
    let kept = stays_inode geometry old new b size i fits stays zone first last in
    record {
      len = stays.len;
      before = stays.below;
      super_block = λ k h l. stays.between k h (omega (arith, bounds.0, fits.i_list));
      lower_inodes = λ k h l. stays.between k (omega (arith, head)) (omega (arith, bounds.0, l, place_room geometry old i fits first last));
      higher_inodes = λ k h l. stays.between k (omega (arith, head, from)) (omega (arith, bounds.0));
      inode = λ r h. kept.bytes r (kept_within geometry.edition r h);
      blocks = λ j p k r other names h.
          let held = holds_named geometry old j p k names.holds in
          let two = zone_two geometry old k fits (zoned j p k other names) in
          (stays_block geometry old new b size k stays small two (λ e. unnamed j p names.place (held.0 ∙ e))).bytes r h;
      behind = λ k h. stays.above k (omega (arith, bounds.1));
    }

-- if rules 3 to 7 hold, and only the free list and a data block to which no position in the block map points are written, only file `i` may have
-- changed, for any `i`
pub stays_elsewhere : (geometry : Geometry) (old new blocks : List ℕ) (b size i : ℕ) → Rules3To7With geometry old blocks → IsFile geometry old i
    → StaysBut geometry old new b size → size ≤ 512 → in_zone geometry b ≡ true → IsUnnamed geometry old b → StaysElsewhere geometry old new i
stays_elsewhere geometry old new blocks b size i sound file =
    stays_around geometry old new b size i sound.fits (λ j p k other names. names_zoned geometry old blocks j p k sound names) file.first file.last

-- rules 3 to 7 still hold, with the new free blocks, if only the free list and a data block to which no position in the block map points are written
pub stays_sound : (geometry : Geometry) (old new blocks rest : List ℕ) (b size : ℕ) → Rules3To7With geometry old blocks
    → StaysBut geometry old new b size → size ≤ 512 → in_zone geometry b ≡ true → IsUnnamed geometry old b → IsFree geometry new rest
    → ((j : ℕ) (p : List ℕ) → IsPlaceOf geometry old j p → IsIn (named geometry old j p) rest → ⊥) → Rules3To7With geometry new rest
stays_sound geometry old new blocks rest b size sound stays small zone unnamed free outside =
    let kept : (j : ℕ) → 1 ≤ j → j ≤ geometry.last_inode → KeepsInode geometry old new j =
    λ j first last. stays_inode geometry old new b size j sound.fits stays zone first last in
    let modes : (j : ℕ) → 1 ≤ j → j ≤ geometry.last_inode → mode_of geometry new j ≡ mode_of geometry old j =
    λ j first last. mode_kept geometry old new j (kept j first last) in
    let before : (j : ℕ) (p : List ℕ) → IsPlaceOf geometry new j p → IsPlaceOf geometry old j p =
    λ j p place. stays_before geometry old new b size j p sound.fits stays zone place in
    let same : (j : ℕ) (p : List ℕ) → IsPlaceOf geometry old j p → named geometry new j p ≡ named geometry old j p =
    λ j p place. stays_named geometry old new b size j p sound.fits stays small zone unnamed place in
    record {
      fits = fits_len geometry old new stays.len sound.fits;
      kinds = kinds_kept geometry old new sound.fits (λ j first last. ap (kind_of geometry.edition) (modes j first last)) sound.kinds;
      sizes = record {
        greatest = λ j file. rw (size_kept geometry old new j (kept j file.first file.last))
            (sound.sizes.greatest j (file_same geometry new old j (sym (modes j file.first file.last)) file));
        small = λ j file small_form. rw (size_kept geometry old new j (kept j file.first file.last))
            (sound.sizes.small j (file_same geometry new old j (sym (modes j file.first file.last)) file)
            (sym (form_kept geometry old new j (kept j file.first file.last)) ∙ small_form));
        links = λ j first last used. rw (inode_of_kept geometry old new j (kept j first last))
            (sound.sizes.links j first last (λ none. used (ap (kind_of geometry.edition) (modes j first last) ∙ none)));
      };
      zoned = λ j p place some. let e = same j p (before j p place) in
          ap (in_zone geometry) e ∙ sound.zoned j p (before j p place) (λ zero. some (e ∙ zero));
      free = free;
      apart = λ j k p r place place' some equal.
          let e = same j p (before j p place) in
          let f = same k r (before k r place') in
          sound.apart j k p r (before j p place) (before k r place') (λ zero. some (e ∙ zero)) (sym e ∙ (equal ∙ f));
      outside = λ j p place within.
          outside j p (before j p place) (subst (λ k. IsIn k rest) (same j p (before j p place)) within);
    }

-- no position in the block map points to the first free block
pub first_unnamed : (geometry : Geometry) (image : List ℕ) (b : ℕ) (rest : List ℕ) → Rules3To7With geometry image (b ∷ rest) → IsUnnamed geometry image b
unfolding IsIn
first_unnamed geometry image b rest sound j p place e = sound.outside j p place (inl e)

-- the first free block is a data block
pub first_zoned : (geometry : Geometry) (image : List ℕ) (b : ℕ) (rest : List ℕ) → Rules3To7With geometry image (b ∷ rest) → in_zone geometry b ≡ true
unfolding IsIn
first_zoned geometry image b rest sound =
    stack_zoned geometry image (free_head geometry.edition) (word image (free_head geometry.edition)) (b ∷ rest) sound.free.stack b (inl refl)

-- the first free block is not one of the other free blocks
pub first_once : (geometry : Geometry) (image : List ℕ) (b : ℕ) (rest : List ℕ) → Rules3To7With geometry image (b ∷ rest) → IsIn b rest → ⊥
unfolding Once
first_once geometry image b rest sound = sound.free.once.0

-- a block of the rest of the free list is in the free list
pub rest_in : (b k : ℕ) (rest : List ℕ) → IsIn k rest → IsIn k (b ∷ rest)
unfolding IsIn
rest_in b k rest within = inr within

-- a block that is still free after others were taken was free before
pub rest_within : (k : ℕ) (taken rest blocks : List ℕ) → blocks ≡ taken ++ rest → IsIn k rest → IsIn k blocks
rest_within k [] rest blocks e within = subst (IsIn k) (sym e) within
rest_within k (b ∷ taken) rest blocks e within = subst (IsIn k) (sym e) (rest_in b k (taken ++ rest) (rest_within k taken rest (taken ++ rest) refl within))

-- rules 3 to 7 still hold after the first free block was taken
pub taken_sound : (geometry : Geometry) (old new : List ℕ) (b : ℕ) (rest : List ℕ) → Rules3To7With geometry old (b ∷ rest)
    → Popped geometry old new b rest → Rules3To7With geometry new rest
taken_sound geometry old new b rest sound popped =
    stays_sound geometry old new (b ∷ rest) rest b 512 sound popped.stays (omega arith) (first_zoned geometry old b rest sound)
    (first_unnamed geometry old b rest sound) popped.free
    (λ j p place within. sound.outside j p place (rest_in b (named geometry old j p) rest within))
