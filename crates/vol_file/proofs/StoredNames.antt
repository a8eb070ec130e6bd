-- The block numbers in a file's block map, and rules 3 to 7, after a number was stored at a position.
use Rattle.std.proofs.Common.{◌≡◌, ◌≢◌, ℕ, ◌+◌, ◌<◌, ◌≤◌, ◌∙◌, sym, ap, subst, List, [], ◌∷◌, get_or, refl, arith, inl, inr, true}
use Rattle.std.proofs.lemmas.Bool.{cases_eq}
use Rattle.std.proofs.lemmas.Bool.Decides.{nat_tests}
use Rattle.vol_layout.specs.Edition.{constants}
use Rattle.vol_layout.specs.Geometry.{in_zone, Fits}
use Rattle.vol_layout.specs.Inode.{inode_place, inode_at, inode_of, kind_of}
use Rattle.vol_layout.specs.BlockMaps.{IsPlace, has_places, pointer_count}
use Rattle.vol_layout.specs.Laws.{IsFront}
use Rattle.vol_layout.specs.BlockPointers.{mode_of, form_at, IsFile, IsPlaceOf, named, pointer_in}
use Rattle.vol_layout.specs.declared.edition.Edition.{Edition}
use Rattle.vol_layout.specs.declared.edition.Edition.TheVariants.{V6, V7}
use Rattle.vol_layout.specs.declared.geometry.Geometry.{Geometry}
use Rattle.vol_layout.proofs.FrameLaws.{pointers_of}
use Rattle.vol_layout.proofs.InodeLaws.{mode_kept, size_kept, inode_of_kept, inode_v6, inode_v7, form_same}
use Rattle.vol_layout.proofs.NameLaws.{zero_out, named_stops}
use Rattle.vol_free.specs.Stack.{IsIn}
use Rattle.vol_free.proofs.Frames.{free_from}
use Rattle.vol_file.specs.Changes.{StaysElsewhere, is_kept_byte}
use Rattle.vol_file.specs.Rules.{size_of, kind_at, HasKinds, HasSizes, Rules3To7With}
use Rattle.vol_file.proofs.Stores.{Stores}
use Rattle.vol_file.proofs.Alone.{fits_len, elsewhere_inode, elsewhere_before, elsewhere_named}
use Rattle.vol_file.proofs.Fronts.{same_or, front_or}

-- the root's i-number is not 0
pub root_first : (edition : Edition) → 1 ≤ (constants edition).root
root_first V6 = omega arith
root_first V7 = omega arith

-- the root's i-number is an i-number of the volume
pub root_within : (geometry : Geometry) (image : List ℕ) → Fits geometry image
    → (1 ≤ (constants geometry.edition).root) × ((constants geometry.edition).root ≤ geometry.last_inode)
root_within geometry image fits = let one = root_first geometry.edition in (one, omega (arith, fits.root))

-- rule 3 still holds if the kinds are unchanged
pub kinds_kept : (geometry : Geometry) (old new : List ℕ) → Fits geometry old
    → ((j : ℕ) → 1 ≤ j → j ≤ geometry.last_inode → kind_at geometry new j ≡ kind_at geometry old j)
    → HasKinds geometry old → HasKinds geometry new
kinds_kept geometry old new fits same kinds =
    let root = root_within geometry old fits in
    let one : kind_at geometry new 1 ≡ kind_at geometry old 1 = same 1 (omega arith) (omega (arith, root.0, root.1)) in
    record {
      known = λ j first last odd. kinds.known j first last (sym (same j first last) ∙ odd);
      root = same (constants geometry.edition).root root.0 root.1 ∙ kinds.root;
      bad_blocks = λ v7. elim (kinds.bad_blocks v7) [ inl free ↦ inl (one ∙ free) | inr regular ↦ inr (one ∙ regular) ];
    }

-- `at + 2 + 1` is `at + 3`
the_third : (at : ℕ) → at + 2 + 1 ≡ at + 3
the_third at = omega arith

-- the link count of an i-node is unchanged if its bytes 2 and 3 are
pub links_same : (edition : Edition) (old new : List ℕ) (at : ℕ)
    → ((r : ℕ) → 2 ≤ r → r < 4 → get_or new (at + r) 0 ≡ get_or old (at + r) 0)
    → (inode_at edition new at).links ≡ (inode_at edition old at).links
links_same V6 old new at same = (inode_v6 new at).0 ∙ (same 2 (omega arith) (omega arith) ∙ sym (inode_v6 old at).0)
links_same V7 old new at same =
    let two = same 2 (omega arith) (omega arith) in
    let three : get_or new (at + 2 + 1) 0 ≡ get_or old (at + 2 + 1) 0 =
    ap (λ x. get_or new x 0) (the_third at) ∙ (same 3 (omega arith) (omega arith) ∙ ap (λ x. get_or old x 0) (sym (the_third at))) in
    (inode_v7 new at).0 ∙ (omega (arith, two, three) ∙ sym (inode_v7 old at).0)

-- a change of a file must keep the bytes of the link count
pub links_kept_byte : (edition : Edition) (r : ℕ) → 2 ≤ r → r < 4 → is_kept_byte edition r ≡ true
links_kept_byte V6 r h l = grind (arith, nat_tests)
links_kept_byte V7 r h l = grind (arith, nat_tests)

-- the link counts are unchanged
pub links_kept : (geometry : Geometry) (old new : List ℕ) (i j : ℕ) → Fits geometry old → StaysElsewhere geometry old new i → 1 ≤ i
    → 1 ≤ j → j ≤ geometry.last_inode → (inode_of geometry.edition new j).links ≡ (inode_of geometry.edition old j).links
links_kept geometry old new i j fits stays one first last =
    elim (cases_eq j i) [
      | inl e ↦ rw e (links_same geometry.edition old new (inode_place geometry.edition i)
          (λ r low high. stays.inode r (links_kept_byte geometry.edition r low high)))
      | inr other ↦ ap (λ node. node.links) (inode_of_kept geometry old new j (elsewhere_inode geometry old new i j fits stays one first last other))
    ]

-- all modes are unchanged if file `i`'s mode is
pub modes_kept : (geometry : Geometry) (old new : List ℕ) (i j : ℕ) → Fits geometry old → StaysElsewhere geometry old new i → 1 ≤ i
    → mode_of geometry new i ≡ mode_of geometry old i
    → 1 ≤ j → j ≤ geometry.last_inode → mode_of geometry new j ≡ mode_of geometry old j
modes_kept geometry old new i j fits stays one mode first last =
    elim (cases_eq j i) [
      | inl e ↦ rw e mode
      | inr other ↦ mode_kept geometry old new j (elsewhere_inode geometry old new i j fits stays one first last other)
    ]

-- all sizes are unchanged if file `i`'s size is
pub sizes_stay : (geometry : Geometry) (old new : List ℕ) (i j : ℕ) → Fits geometry old → StaysElsewhere geometry old new i → 1 ≤ i
    → size_of geometry new i ≡ size_of geometry old i
    → 1 ≤ j → j ≤ geometry.last_inode → size_of geometry new j ≡ size_of geometry old j
sizes_stay geometry old new i j fits stays one size first last =
    elim (cases_eq j i) [
      | inl e ↦ rw e size
      | inr other ↦ size_kept geometry old new j (elsewhere_inode geometry old new i j fits stays one first last other)
    ]

-- a file with an unchanged mode is still a regular file or directory
pub file_same : (geometry : Geometry) (old new : List ℕ) (i : ℕ) → mode_of geometry new i ≡ mode_of geometry old i
    → IsFile geometry old i → IsFile geometry new i
file_same geometry old new i mode file = record {
  first = file.first;
  last = file.last;
  kind = subst (λ m. has_places (kind_of geometry.edition m) ≡ true) (sym mode) file.kind;
}

-- a file with an unchanged mode has the same positions in its block map
pub place_same : (geometry : Geometry) (old new : List ℕ) (i : ℕ) (p : List ℕ) → mode_of geometry new i ≡ mode_of geometry old i
    → IsPlaceOf geometry old i p → IsPlaceOf geometry new i p
place_same geometry old new i p mode place = record {
  file = file_same geometry old new i mode place.file;
  place = subst (λ form. IsPlace form p) (sym (form_same geometry old new i mode)) place.place;
}

-- rule 4 still holds if the sizes and the modes are unchanged
pub sizes_kept : (geometry : Geometry) (old new : List ℕ) (i : ℕ) → Fits geometry old → StaysElsewhere geometry old new i → 1 ≤ i
    → mode_of geometry new i ≡ mode_of geometry old i → size_of geometry new i ≡ size_of geometry old i
    → HasSizes geometry old → HasSizes geometry new
sizes_kept geometry old new i fits stays one mode size sizes = record {
  greatest = λ j file.
      let same = modes_kept geometry old new i j fits stays one mode file.first file.last in
      let equal = sizes_stay geometry old new i j fits stays one size file.first file.last in
      rw equal (sizes.greatest j (file_same geometry new old j (sym same) file));
  small = λ j file small.
      let same = modes_kept geometry old new i j fits stays one mode file.first file.last in
      let equal = sizes_stay geometry old new i j fits stays one size file.first file.last in
      rw equal (sizes.small j (file_same geometry new old j (sym same) file) (sym (form_same geometry old new j same) ∙ small));
  links = λ j first last used.
      let same = modes_kept geometry old new i j fits stays one mode first last in
      rw (links_kept geometry old new i j fits stays one first last)
      (sizes.links j first last (λ free. used (ap (kind_of geometry.edition) same ∙ free)));
}

-- if the block to which position `q` in the block map points has only zero entries, no position below `q` points to a block
below_none : (geometry : Geometry) (image : List ℕ) (i v : ℕ) (q : List ℕ) → Fits geometry image → named geometry image i q ≡ v
    → ((x : ℕ) → x < (constants geometry.edition).pointers → pointer_in geometry image v x ≡ 0)
    → (p : List ℕ) (x : ℕ) → IsPlaceOf geometry image i (x ∷ p) → IsFront q p → named geometry image i (x ∷ p) ≡ 0
below_none geometry image i v q fits is none [] x place front = absurd front
below_none geometry image i v q fits is none (h ∷ p) x place (inl e) =
    let many = pointers_of geometry.edition (mode_of geometry image i) in
    let index : x < pointer_count (form_at geometry image i) = place.place.0 in
    ap (λ m. pointer_in geometry image m x) (ap (named geometry image i) (sym e) ∙ is) ∙ none x (omega (arith, index, many))
below_none geometry image i v q fits is none (h ∷ p) x place (inr front) =
    let zero : named geometry image i (h ∷ p) ≡ 0 =
    below_none geometry image i v q fits is none p h (record { file = place.file; place = place.place.2 }) front in
    named_stops geometry image i x h p (ap (in_zone geometry) zero ∙ zero_out geometry image fits)

-- if no position in the block map below `q` pointed to a block, and the number stored at `q` is the number of a block with only zero entries, the
-- other positions are unchanged
pub stores_only : (geometry : Geometry) (old new blocks : List ℕ) (i v : ℕ) (q : List ℕ) → Fits geometry old → Stores geometry old new i q v blocks
    → ((x : ℕ) → x < (constants geometry.edition).pointers → pointer_in geometry new v x ≡ 0)
    → ((x : ℕ) (p : List ℕ) → IsPlaceOf geometry old i (x ∷ p) → IsFront q p → named geometry old i (x ∷ p) ≡ 0)
    → (p : List ℕ) → IsPlaceOf geometry old i p → p ≢ q → named geometry new i p ≡ named geometry old i p
stores_only geometry old new blocks i v q fits stores none lower [] place differ = refl
stores_only geometry old new blocks i v q fits stores none lower (x ∷ p) place differ =
    elim (front_or q p) [
      | inl front ↦
          below_none geometry new i v q (fits_len geometry old new stores.alone.len fits) stores.here none p x
          (place_same geometry old new i (x ∷ p) stores.mode place) front ∙ sym (lower x p place front)
      | inr apart ↦ stores.others (x ∷ p) place (λ front. elim front [ inl e ↦ differ (sym e) | inr deeper ↦ apart deeper ])
    ]

-- number `v` may be stored at a position in the block map: it is 0, or the number of a data block that is not free and to which no position points
pub data MayStand (geometry : Geometry) (image blocks : List ℕ) (v : ℕ) : Type 0 where
  none : v ≡ 0 → MayStand geometry image blocks v
  fresh : in_zone geometry v ≡ true → ((j : ℕ) (p : List ℕ) → IsPlaceOf geometry image j p → named geometry image j p ≢ v)
      → (IsIn v blocks → ⊥) → MayStand geometry image blocks v

-- the block number at a position in the block map after number `v` was stored at position `q` of file `i`: it is `v` at `q`, and unchanged elsewhere
data NamedAfter (geometry : Geometry) (old new : List ℕ) (i : ℕ) (q : List ℕ) (v j : ℕ) (p : List ℕ) : Type 0 where
  there : j ≡ i → p ≡ q → named geometry new j p ≡ v → NamedAfter geometry old new i q v j p
  elsewhere : IsPlaceOf geometry old j p → named geometry new j p ≡ named geometry old j p → NamedAfter geometry old new i q v j p

-- one of the cases of `NamedAfter` holds for each position in any block map of the new image
named_after : (geometry : Geometry) (old new blocks : List ℕ) (i v : ℕ) (q : List ℕ) → Fits geometry old → 1 ≤ i → Stores geometry old new i q v blocks
    → ((p : List ℕ) → IsPlaceOf geometry old i p → p ≢ q → named geometry new i p ≡ named geometry old i p)
    → (j : ℕ) (p : List ℕ) → IsPlaceOf geometry new j p → NamedAfter geometry old new i q v j p
named_after geometry old new blocks i v q fits one stores only j p place =
    elim (cases_eq j i) [
      | inl e ↦
          let place_i : IsPlaceOf geometry new i p = subst (λ x. IsPlaceOf geometry new x p) e place in
          let before : IsPlaceOf geometry old i p = place_same geometry new old i p (sym stores.mode) place_i in
          elim (same_or p q) [
            | inl same ↦ NamedAfter.there e same (ap (λ x. named geometry new x p) e ∙ (ap (named geometry new i) same ∙ stores.here))
            | inr differ ↦ NamedAfter.elsewhere (subst (λ x. IsPlaceOf geometry old x p) (sym e) before)
                (subst (λ x. named geometry new x p ≡ named geometry old x p) (sym e) (only p before differ))
          ]
      | inr other ↦
          let before = elsewhere_before geometry old new i j p fits stores.alone one other place in
          NamedAfter.elsewhere before (elsewhere_named geometry old new i j p fits stores.alone one other before)
    ]

-- each block number in a block map of the new image is the number of a data block
after_zoned : (geometry : Geometry) (old new blocks : List ℕ) (i v : ℕ) (q : List ℕ) (j : ℕ) (p : List ℕ) → Rules3To7With geometry old blocks
    → MayStand geometry old blocks v → NamedAfter geometry old new i q v j p → named geometry new j p ≢ 0
    → in_zone geometry (named geometry new j p) ≡ true
after_zoned geometry old new blocks i v q j p sound (MayStand.none z) (NamedAfter.there e f is) some = absurd (some (is ∙ z))
after_zoned geometry old new blocks i v q j p sound (MayStand.fresh zone _ _) (NamedAfter.there e f is) some = ap (in_zone geometry) is ∙ zone
after_zoned geometry old new blocks i v q j p sound may (NamedAfter.elsewhere place is) some =
    ap (in_zone geometry) is ∙ sound.zoned j p place (λ zero. some (is ∙ zero))

-- no position in the block map of the old image holds the stored number unless it is 0
after_fresh : (geometry : Geometry) (old blocks : List ℕ) (v j : ℕ) (p : List ℕ) → MayStand geometry old blocks v → IsPlaceOf geometry old j p
    → v ≢ 0 → named geometry old j p ≢ v
after_fresh geometry old blocks v j p (MayStand.none z) place some = absurd (some z)
after_fresh geometry old blocks v j p (MayStand.fresh _ unnamed _) place some = unnamed j p place

-- no two positions in the block map of the new image point to the same block
after_apart : (geometry : Geometry) (old new blocks : List ℕ) (i v : ℕ) (q : List ℕ) (j k : ℕ) (p r : List ℕ) → Rules3To7With geometry old blocks
    → MayStand geometry old blocks v → NamedAfter geometry old new i q v j p → NamedAfter geometry old new i q v k r
    → named geometry new j p ≢ 0 → named geometry new j p ≡ named geometry new k r → (j ≡ k) × (p ≡ r)
after_apart geometry old new blocks i v q j k p r sound may (NamedAfter.there e f is) (NamedAfter.there e' f' is') some same =
    (e ∙ sym e', f ∙ sym f')
after_apart geometry old new blocks i v q j k p r sound may (NamedAfter.there e f is) (NamedAfter.elsewhere place is') some same =
    absurd (after_fresh geometry old blocks v k r may place (λ zero. some (is ∙ zero)) (sym is' ∙ (sym same ∙ is)))
after_apart geometry old new blocks i v q j k p r sound may (NamedAfter.elsewhere place is) (NamedAfter.there e f is') some same =
    absurd (after_fresh geometry old blocks v j p may place (λ zero. some (same ∙ (is' ∙ zero))) (sym is ∙ (same ∙ is')))
after_apart geometry old new blocks i v q j k p r sound may (NamedAfter.elsewhere place is) (NamedAfter.elsewhere place' is') some same =
    sound.apart j k p r place place' (λ zero. some (is ∙ zero)) (sym is ∙ (same ∙ is'))

-- no block number in a block map of the new image is a free block
after_outside : (geometry : Geometry) (old new blocks : List ℕ) (i v : ℕ) (q : List ℕ) (j : ℕ) (p : List ℕ) → Rules3To7With geometry old blocks
    → MayStand geometry old blocks v → NamedAfter geometry old new i q v j p → IsIn (named geometry new j p) blocks → ⊥
after_outside geometry old new blocks i v q j p sound (MayStand.none z) (NamedAfter.there e f is) within =
    let from = free_from sound.free (named geometry new j p) within in omega (arith, from, is, z, sound.fits.i_list)
after_outside geometry old new blocks i v q j p sound (MayStand.fresh _ _ apart) (NamedAfter.there e f is) within =
    apart (subst (λ k. IsIn k blocks) is within)
after_outside geometry old new blocks i v q j p sound may (NamedAfter.elsewhere place is) within =
    sound.outside j p place (subst (λ k. IsIn k blocks) is within)

-- rules 3 to 7 still hold after a number was stored at a position in the block map below which no position points to a block
pub stores_sound : (geometry : Geometry) (old new blocks : List ℕ) (i v : ℕ) (q : List ℕ) → Rules3To7With geometry old blocks → IsFile geometry old i
    → Stores geometry old new i q v blocks → MayStand geometry old blocks v
    → ((p : List ℕ) → IsPlaceOf geometry old i p → p ≢ q → named geometry new i p ≡ named geometry old i p)
    → Rules3To7With geometry new blocks
stores_sound geometry old new blocks i v q sound file stores may only =
    let one = file.first in
    let modes = modes_kept geometry old new i in
    let after = named_after geometry old new blocks i v q sound.fits one stores only in
    record {
      fits = fits_len geometry old new stores.alone.len sound.fits;
      kinds = kinds_kept geometry old new sound.fits
          (λ j first last. ap (kind_of geometry.edition) (modes j sound.fits stores.alone one stores.mode first last)) sound.kinds;
      sizes = sizes_kept geometry old new i sound.fits stores.alone one stores.mode stores.size sound.sizes;
      zoned = λ j p place some. after_zoned geometry old new blocks i v q j p sound may (after j p place) some;
      free = stores.free;
      apart = λ j k p r place place' some same. after_apart geometry old new blocks i v q j k p r sound may (after j p place) (after k r place') some same;
      outside = λ j p place within. after_outside geometry old new blocks i v q j p sound may (after j p place) within;
    }
