-- A volume with an empty root directory and an empty file, with which tests start.
use Rattle.std.proofs.Common.{◌≡◌, ◌≢◌, ℕ, ◌+◌, ◌*◌, ◌<◌, ◌≤◌, ◌∙◌, sym, ap, List, [], ◌∷◌, get_or, refl, arith, inl, inr, true, false, if◌then◌else◌, ltb}
use Rattle.std.proofs.lemmas.Bool.{cases_lt, cases_eq}
use Rattle.pdp_words.specs.Words.{word, SameOutside}
use Rattle.vol_layout.specs.Edition.{constants}
use Rattle.vol_layout.specs.Geometry.{Fits}
use Rattle.vol_layout.specs.Inode.{inode_place, inode_at, address_at, address_count, size_at, kind_of}
use Rattle.vol_layout.specs.BlockMaps.{first_count}
use Rattle.vol_layout.specs.BlockPointers.{mode_of, form_at, IsPlaceOf, named}
use Rattle.vol_layout.specs.declared.edition.Edition.{Edition}
use Rattle.vol_layout.specs.declared.edition.Edition.TheVariants.{V6, V7}
use Rattle.vol_layout.specs.declared.geometry.Geometry.{Geometry}
use Rattle.vol_layout.specs.declared.mode.Kind.TheVariants as kinds
use Rattle.vol_layout.proofs.InodeLaws.{inode_v6, inode_v7, place_from, place_apart, place_room, mode_kept, fits_kept}
use Rattle.vol_layout.proofs.AddressLaws.{mode_within, inode_within}
use Rattle.vol_layout.proofs.NameLaws.{zone_some}
use Rattle.vol_layout.proofs.KindLaws.{kind_zero}
use Rattle.vol_free.specs.Stack.{IsFree}
use Rattle.vol_free.proofs.Frames.{IsFree-before_zone, free_zone}
use Rattle.vol_file.specs.Rules.{size_of, kind_at, HasKinds, Rules3To7With}
use Rattle.vol_file.proofs.Fronts.{front_zero}
use Rattle.vol_file.proofs.Truncated.{addresses_file}
use Rattle.vol_file.proofs.PlaceLists.{front_first}
use Rattle.vol_file.proofs.StoredNames.{root_first}

-- the size of an i-node is 0 if all its bytes after the mode are 0
size_zero : (edition : Edition) (image : List ℕ) (at : ℕ)
    → ((r : ℕ) → 2 ≤ r → r < (constants edition).inode_bytes → get_or image (at + r) 0 ≡ 0) → size_at edition image at ≡ 0
size_zero V6 image at zero =
    let next : at + 6 + 1 ≡ at + 7 = omega arith in
    let last : get_or image (at + 6 + 1) 0 ≡ 0 = rw next (zero 7 (omega arith) (omega arith)) in
    omega (arith, zero 5 (omega arith) (omega arith), zero 6 (omega arith) (omega arith))
size_zero V7 image at zero =
    let one : at + 8 + 1 ≡ at + 9 = omega arith in
    let two : at + 8 + 2 ≡ at + 10 = omega arith in
    let three : at + 8 + 2 + 1 ≡ at + 11 = omega arith in
    let first : get_or image (at + 8 + 1) 0 ≡ 0 = rw one (zero 9 (omega arith) (omega arith)) in
    let second : get_or image (at + 8 + 2) 0 ≡ 0 = rw two (zero 10 (omega arith) (omega arith)) in
    let third : get_or image (at + 8 + 2 + 1) 0 ≡ 0 = rw three (zero 11 (omega arith) (omega arith)) in
    omega (arith, zero 8 (omega arith) (omega arith))

-- the link count of an i-node is 0 if all its bytes after the mode are 0
links_zero : (edition : Edition) (image : List ℕ) (at : ℕ)
    → ((r : ℕ) → 2 ≤ r → r < (constants edition).inode_bytes → get_or image (at + r) 0 ≡ 0) → (inode_at edition image at).links ≡ 0
links_zero V6 image at zero = (inode_v6 image at).0 ∙ zero 2 (omega arith) (omega arith)
links_zero V7 image at zero =
    let next : at + 2 + 1 ≡ at + 3 = omega arith in
    let high : get_or image (at + 2 + 1) 0 ≡ 0 = rw next (zero 3 (omega arith) (omega arith)) in
    let none : word image (at + 2) ≡ 0 = omega (arith, zero 2 (omega arith) (omega arith)) in
    (inode_v7 image at).0 ∙ none

-- each address of an i-node is 0 if all its bytes after the mode are 0
address_zero : (edition : Edition) (image : List ℕ) (at k : ℕ)
    → ((r : ℕ) → 2 ≤ r → r < (constants edition).inode_bytes → get_or image (at + r) 0 ≡ 0) → k < address_count edition
    → address_at edition image at k ≡ 0
address_zero V6 image at k zero low =
    let here : at + 8 + 2 * k ≡ at + (8 + 2 * k) = omega arith in
    let next : at + 8 + 2 * k + 1 ≡ at + (9 + 2 * k) = omega arith in
    let first : get_or image (at + 8 + 2 * k) 0 ≡ 0 = rw here (zero (8 + 2 * k) (omega arith) (omega arith)) in
    let second : get_or image (at + 8 + 2 * k + 1) 0 ≡ 0 = rw next (zero (9 + 2 * k) (omega arith) (omega arith)) in
    let none : word image (at + 8 + 2 * k) ≡ 0 = omega arith in
    elim (ltb k 8) as (λ t. (if t then word image (at + 8 + 2 * k) else 0) ≡ 0) [ true ↦ none | false ↦ refl ]
address_zero V7 image at k zero low =
    let here : at + 12 + 3 * k ≡ at + (12 + 3 * k) = omega arith in
    let one : at + 12 + 3 * k + 1 ≡ at + (13 + 3 * k) = omega arith in
    let two : at + 12 + 3 * k + 2 ≡ at + (14 + 3 * k) = omega arith in
    let first : get_or image (at + 12 + 3 * k) 0 ≡ 0 = rw here (zero (12 + 3 * k) (omega arith) (omega arith)) in
    let second : get_or image (at + 12 + 3 * k + 1) 0 ≡ 0 = rw one (zero (13 + 3 * k) (omega arith) (omega arith)) in
    let third : get_or image (at + 12 + 3 * k + 2) 0 ≡ 0 = rw two (zero (14 + 3 * k) (omega arith) (omega arith)) in
    omega arith

-- all bytes of each i-node after its mode are 0
pub record HasBareInodes (geometry : Geometry) (image : List ℕ) : Type 0 where
  pub bytes : (j : ℕ) → 1 ≤ j → j ≤ geometry.last_inode → (r : ℕ) → 2 ≤ r → r < (constants geometry.edition).inode_bytes
      → get_or image (inode_place geometry.edition j + r) 0 ≡ 0

-- a write of a mode keeps all bytes of i-nodes after their modes 0
bare_after : (geometry : Geometry) (old new : List ℕ) (x : ℕ) → 1 ≤ x
    → SameOutside old new (inode_place geometry.edition x) (inode_place geometry.edition x + 2) → HasBareInodes geometry old → HasBareInodes geometry new
bare_after geometry old new x one same bare = record {
  bytes = λ j first last r low high.
      let within = mode_within geometry.edition x in
      let byte : get_or new (inode_place geometry.edition j + r) 0 ≡ get_or old (inode_place geometry.edition j + r) 0 = elim (cases_lt j x) [
        | inl less ↦
            let apart = place_apart geometry.edition j x first less in
            same.below (inode_place geometry.edition j + r) (omega (arith, apart))
        | inr more ↦ elim (cases_eq j x) [
          | inl e ↦ let place : inode_place geometry.edition j ≡ inode_place geometry.edition x = ap (inode_place geometry.edition) e in
              same.above (inode_place geometry.edition j + r) (omega (arith, place))
          | inr other ↦
              let later : x < j = omega arith in
              let apart = place_apart geometry.edition x j one later in
              same.above (inode_place geometry.edition j + r) (omega (arith, apart, within.1))
        ]
      ] in
      byte ∙ bare.bytes j first last r low high;
}

-- if the i-list is zeros, all bytes of i-nodes after their modes are 0
pub bare_zeros : (geometry : Geometry) (image : List ℕ) → Fits geometry image
    → ((k : ℕ) → 1024 ≤ k → k < 512 * geometry.zone_start → get_or image k 0 ≡ 0) → HasBareInodes geometry image
bare_zeros geometry image fits zero = record {
  bytes = λ j first last r low high.
      let room = place_room geometry image j fits first last in
      let from = place_from geometry.edition j in
      zero (inode_place geometry.edition j + r) (omega (arith, from)) (omega (arith, room));
}

-- if all bytes of i-nodes after their modes are 0, no position in the block map points to a block
bare_named : (geometry : Geometry) (image : List ℕ) (j : ℕ) (p : List ℕ) → Fits geometry image → HasBareInodes geometry image
    → IsPlaceOf geometry image j p → named geometry image j p ≡ 0
bare_named geometry image j p fits bare place =
    let base = front_first (form_at geometry image j) p place.place in
    let few : first_count (form_at geometry image j) ≡ address_count geometry.edition = addresses_file geometry image j place.file in
    front_zero geometry image j (base.0 ∷ []) p fits
    (address_zero geometry.edition image (inode_place geometry.edition j) base.0 (bare.bytes j place.file.first place.file.last) (omega (arith, base.1, few)))
    base.2

-- rules 3 to 7 hold if all bytes of i-nodes after their modes are 0, rule 3 holds, and the free list is a stack
pub bare_sound : (geometry : Geometry) (image blocks : List ℕ) → Fits geometry image → HasBareInodes geometry image → HasKinds geometry image
    → IsFree geometry image blocks → Rules3To7With geometry image blocks
bare_sound geometry image blocks fits bare kinds free =
    let size : (j : ℕ) → 1 ≤ j → j ≤ geometry.last_inode → size_of geometry image j ≡ 0 =
    λ j first last. size_zero geometry.edition image (inode_place geometry.edition j) (bare.bytes j first last) in
    record {
      fits = fits;
      kinds = kinds;
      sizes = record {
        greatest = λ j file. let none = size j file.first file.last in omega arith;
        small = λ j file form. let none = size j file.first file.last in omega arith;
        links = λ j first last some.
            let none = links_zero geometry.edition image (inode_place geometry.edition j) (bare.bytes j first last) in omega (arith, none);
      };
      zoned = λ j p place some. absurd (some (bare_named geometry image j p fits bare place));
      free = free;
      apart = λ j k p q place other some same. absurd (some (bare_named geometry image j p fits bare place));
      outside = λ j p place inside.
          zone_some geometry image (named geometry image j p) fits (free_zone free (named geometry image j p) inside)
          (bare_named geometry image j p fits bare place);
    }

-- rule 3 holds for an i-list of zeros after the root's mode and a file's mode are written
kinds_put : (geometry : Geometry) (old mid new : List ℕ) (i : ℕ) → Fits geometry old
    → ((k : ℕ) → 1024 ≤ k → k < 512 * geometry.zone_start → get_or old k 0 ≡ 0)
    → SameOutside old mid (inode_place geometry.edition (constants geometry.edition).root) (inode_place geometry.edition (constants geometry.edition).root + 2)
    → kind_at geometry mid (constants geometry.edition).root ≡ kinds.Directory
    → SameOutside mid new (inode_place geometry.edition i) (inode_place geometry.edition i + 2) → kind_at geometry new i ≡ kinds.Regular
    → 1 ≤ (constants geometry.edition).root → (constants geometry.edition).root < i → i ≤ geometry.last_inode → HasKinds geometry new
kinds_put geometry old mid new i fits zero first directory second regular from above last =
    let root = (constants geometry.edition).root in
    let within = mode_within geometry.edition i in
    let within_root = mode_within geometry.edition root in
    let later : (j : ℕ) → 1 ≤ j → j ≢ i → kind_at geometry new j ≡ kind_at geometry mid j =
    λ j one other. ap (kind_of geometry.edition) (mode_kept geometry mid new j
    (inode_within geometry mid new i j (inode_place geometry.edition i) (inode_place geometry.edition i + 2) second (omega arith) within.1 (omega arith) one other)) in
    let free : (j : ℕ) → 1 ≤ j → j ≤ geometry.last_inode → j ≢ i → j ≢ root → kind_at geometry new j ≡ kinds.Free =
    λ j one most other differ.
    let room = place_room geometry old j fits one most in
    let start = place_from geometry.edition j in
    let bytes = mode_within geometry.edition j in
    let low : get_or old (inode_place geometry.edition j) 0 ≡ 0 = zero (inode_place geometry.edition j) (omega (arith, start)) (omega (arith, room, bytes.1)) in
    let high : get_or old (inode_place geometry.edition j + 1) 0 ≡ 0 = zero (inode_place geometry.edition j + 1) (omega (arith, start)) (omega (arith, room, bytes.1)) in
    let none : mode_of geometry old j ≡ 0 = omega arith in
    later j one other ∙ (ap (kind_of geometry.edition) (mode_kept geometry old mid j
    (inode_within geometry old mid root j (inode_place geometry.edition root) (inode_place geometry.edition root + 2) first (omega arith) within_root.1 from one differ)
    ∙ none) ∙ kind_zero geometry.edition) in
    let is_root : kind_at geometry new root ≡ kinds.Directory = later root from (λ e. let same : root ≡ i = e in omega arith) ∙ directory in
    record {
      known = λ j one most odd. elim (cases_eq j i) [
        | inl e ↦ let is : kind_at geometry new j ≡ kinds.Regular = ap (kind_at geometry new) e ∙ regular in
            let clash : kinds.Regular ≡ kinds.Odd = sym is ∙ odd in cc
        | inr other ↦ elim (cases_eq j root) [
          | inl e ↦ let is : kind_at geometry new j ≡ kinds.Directory = ap (kind_at geometry new) e ∙ is_root in
              let clash : kinds.Directory ≡ kinds.Odd = sym is ∙ odd in cc
          | inr differ ↦ let clash : kinds.Free ≡ kinds.Odd = sym (free j one most other differ) ∙ odd in cc
        ]
      ];
      root = is_root;
      bad_blocks = λ e.
          let two : root ≡ 2 = ap (λ x. (constants x).root) e in
          inl (free 1 (omega arith) (omega arith) (λ same. let f : 1 ≡ i = same in omega arith) (λ same. let f : 1 ≡ root = same in omega arith));
    }

-- rules 3 to 7 hold for a volume of zeros with a free list after the root's mode and a file's mode are written
pub volume_sound : (geometry : Geometry) (old mid new blocks : List ℕ) (i directory regular : ℕ) → Fits geometry old → IsFree geometry old blocks
    → ((k : ℕ) → 1024 ≤ k → k < 512 * geometry.zone_start → get_or old k 0 ≡ 0)
    → SameOutside old mid (inode_place geometry.edition (constants geometry.edition).root) (inode_place geometry.edition (constants geometry.edition).root + 2)
    → mode_of geometry mid (constants geometry.edition).root ≡ directory → kind_of geometry.edition directory ≡ kinds.Directory
    → SameOutside mid new (inode_place geometry.edition i) (inode_place geometry.edition i + 2)
    → mode_of geometry new i ≡ regular → kind_of geometry.edition regular ≡ kinds.Regular
    → (constants geometry.edition).root < i → i ≤ geometry.last_inode → Rules3To7With geometry new blocks
volume_sound geometry old mid new blocks i directory regular fits free zero first put_root is_directory second put_file is_regular above last =
    let root = (constants geometry.edition).root in
    let from : 1 ≤ root = root_first geometry.edition in
    let fits_mid = fits_kept geometry old mid (inode_place geometry.edition root) (inode_place geometry.edition root + 2) first fits in
    let fits_new = fits_kept geometry mid new (inode_place geometry.edition i) (inode_place geometry.edition i + 2) second fits_mid in
    let bare = bare_after geometry mid new i (omega arith) second (bare_after geometry old mid root from first (bare_zeros geometry old fits zero)) in
    let low = place_from geometry.edition root in
    let start = place_from geometry.edition i in
    let room_root = place_room geometry old root fits from (omega arith) in
    let room = place_room geometry mid i fits_mid (omega arith) last in
    let within_root = mode_within geometry.edition root in
    let within = mode_within geometry.edition i in
    let free_mid : IsFree geometry mid blocks = IsFree-before_zone first (omega (arith, low)) (omega (arith, room_root, within_root.1)) free in
    let free_new : IsFree geometry new blocks = IsFree-before_zone second (omega (arith, start)) (omega (arith, room, within.1)) free_mid in
    bare_sound geometry new blocks fits_new bare
    (kinds_put geometry old mid new i fits zero first (ap (kind_of geometry.edition) put_root ∙ is_directory) second
    (ap (kind_of geometry.edition) put_file ∙ is_regular) from above last) free_new
