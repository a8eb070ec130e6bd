-- Clearing the number at a position in the block map, and freeing the block to which the position pointed.
use Rattle.std.proofs.Common.{◌≡◌, ◌≢◌, ℕ, ◌≤◌, ◌⊎◌, ◌∙◌, sym, ap, subst, List, [], ◌∷◌, arith, inl, inr, true}
use Rattle.std.proofs.lemmas.Bool.{cases_eq}
use Rattle.vol_layout.specs.Edition.{constants}
use Rattle.vol_layout.specs.Geometry.{in_zone, Fits}
use Rattle.vol_layout.specs.Inode.{kind_of}
use Rattle.vol_layout.specs.BlockMaps.{levels_below}
use Rattle.vol_layout.specs.Laws.{IsFront}
use Rattle.vol_layout.specs.BlockPointers.{mode_of, form_at, IsFile, IsPlaceOf, named}
use Rattle.vol_layout.specs.declared.geometry.Geometry.{Geometry}
use Rattle.vol_layout.proofs.InodeLaws.{mode_kept, size_kept, form_same}
use Rattle.vol_layout.proofs.PlaceLaws.{front_self}
use Rattle.vol_layout.proofs.NameLaws.{zone_some, named_holds, holds_named}
use Rattle.vol_free.specs.Stack.{IsIn, IsFree, StaysBut}
use Rattle.vol_free.proofs.Frames.{free_zone}
use Rattle.vol_file.specs.Rules.{size_of, Rules3To7With, IsCovered}
use Rattle.vol_file.proofs.Stores.{Stores}
use Rattle.vol_file.specs.Clears.{IsNamedAt, IsEmptyUnder, Clears}
use Rattle.vol_file.proofs.Alone.{fits_len, elsewhere_before, elsewhere_named, elsewhere_names, elsewhere_then}
use Rattle.vol_file.proofs.Fronts.{front_or, front_under, front_zero}
use Rattle.vol_file.proofs.Soundness.{Lessens, named_before, sound_after}
use Rattle.vol_file.proofs.StoredNames.{place_same}
use Rattle.vol_file.proofs.TakenBlocks.{IsUnnamed, stays_block, stays_inode, stays_named, stays_around, zone_two, rest_in}
use Rattle.vol_file.specs.Changes.{StaysElsewhere}

-- `b` is a data block to which no position in the block map points
pub record IsReleased (geometry : Geometry) (image : List ℕ) (b : ℕ) : Type 0 where
  pub fits : Fits geometry image
  pub zone : in_zone geometry b ≡ true
  pub unnamed : IsUnnamed geometry image b

-- after the position in the block map that pointed to block `b` is cleared, no position points to `b`
stored_unnamed : (geometry : Geometry) (old mid blocks : List ℕ) (i b : ℕ) (q : List ℕ) → Rules3To7With geometry old blocks
    → IsNamedAt geometry old i q b → Stores geometry old mid i q 0 blocks → IsReleased geometry mid b
stored_unnamed geometry old mid blocks i b q sound is store =
    let some : named geometry old i q ≢ 0 = λ zero. is.some (sym is.names ∙ zero) in
    let fits : Fits geometry mid = fits_len geometry old mid store.alone.len sound.fits in
    record {
      fits = fits;
      zone = ap (in_zone geometry) (sym is.names) ∙ sound.zoned i q is.place some;
      unnamed = λ j p place e. elim (cases_eq j i) [
        | inl same ↦
            let own : IsPlaceOf geometry mid i p = subst (λ x. IsPlaceOf geometry mid x p) same place in
            let before : IsPlaceOf geometry old i p = place_same geometry mid old i p (sym store.mode) own in
            let names : named geometry mid i p ≡ b = ap (λ x. named geometry mid x p) (sym same) ∙ e in
            elim (front_or q p) [
              | inl front ↦ is.some (sym names ∙ front_zero geometry mid i q p fits store.here front)
              | inr apart ↦
                  let was : named geometry old i p ≡ b = sym (store.others p before apart) ∙ names in
                  let one = sound.apart i i q p is.place before some (is.names ∙ sym was) in
                  apart (subst (IsFront q) one.1 (front_self (form_at geometry old i) q is.place.place))
            ]
        | inr other ↦
            let before = elsewhere_before geometry old mid i j p sound.fits store.alone is.place.file.first other place in
            let was : named geometry old j p ≡ b =
            sym (elsewhere_named geometry old mid i j p sound.fits store.alone is.place.file.first other before) ∙ e in
            other (sym (sound.apart i j q p is.place before some (is.names ∙ sym was)).0)
      ];
    }

-- the effect on file `i` of clearing position `q` in the block map and freeing its block: `q` and the positions below it point to no block, and the
-- other positions are unchanged
record Dropped (geometry : Geometry) (old new : List ℕ) (i : ℕ) (q : List ℕ) : Type 0 where
  alone : StaysElsewhere geometry old new i
  mode : mode_of geometry new i ≡ mode_of geometry old i
  size : size_of geometry new i ≡ size_of geometry old i
  gone : (p : List ℕ) → IsPlaceOf geometry old i p → IsFront q p → named geometry new i p ≡ 0
  kept : (p : List ℕ) → IsPlaceOf geometry old i p → (IsFront q p → ⊥) → named geometry new i p ≡ named geometry old i p

-- clearing position `q` in the block map and then freeing its block has this effect
dropped : (geometry : Geometry) (old mid new blocks : List ℕ) (i b : ℕ) (q : List ℕ) → Rules3To7With geometry old blocks
    → IsNamedAt geometry old i q b → Stores geometry old mid i q 0 blocks → StaysBut geometry mid new b 202 → Dropped geometry old new i q
dropped geometry old mid new blocks i b q sound is store stays =
    let free = stored_unnamed geometry old mid blocks i b q sound is store in
    let first = is.place.file.first in
    let kept = stays_inode geometry mid new b 202 i free.fits stays free.zone first is.place.file.last in
    let same : (p : List ℕ) → IsPlaceOf geometry old i p → named geometry new i p ≡ named geometry mid i p =
    λ p place. stays_named geometry mid new b 202 i p free.fits stays (omega arith) free.zone free.unnamed
    (place_same geometry old mid i p store.mode place) in
    record {
      alone = elsewhere_then geometry old mid new i sound.fits first store.alone
          (stays_around geometry mid new b 202 i free.fits
          (λ j p k other names.
          let held = holds_named geometry mid j p k names.holds in
          let before = elsewhere_before geometry old mid i j p sound.fits store.alone first other names.place in
          let was : named geometry old j p ≡ k = sym (elsewhere_named geometry old mid i j p sound.fits store.alone first other before) ∙ held.0 in
          ap (in_zone geometry) (sym was) ∙ sound.zoned j p before (λ zero. held.1 (sym was ∙ zero)))
          first is.place.file.last stays (omega arith) free.zone free.unnamed);
      mode = mode_kept geometry mid new i kept ∙ store.mode;
      size = size_kept geometry mid new i kept ∙ store.size;
      gone = λ p place front. same p place ∙ front_zero geometry mid i q p free.fits store.here front;
      kept = λ p place apart. same p place ∙ store.others p place apart;
    }

-- clearing a position in the block map and freeing its block changes file `i` only by clearing positions
lessens : (geometry : Geometry) (old new blocks : List ℕ) (i : ℕ) (q : List ℕ) → Rules3To7With geometry old blocks → IsFile geometry old i
    → Dropped geometry old new i q → Lessens geometry old new i
lessens geometry old new blocks i q sound file drop = record {
  alone = drop.alone;
  kind = ap (kind_of geometry.edition) drop.mode;
  greatest = subst (λ n. n ≤ (constants geometry.edition).greatest) (sym drop.size) (sound.sizes.greatest i file);
  small = λ e. subst (λ n. n ≤ 4096) (sym drop.size) (sound.sizes.small i file (sym (form_same geometry old new i drop.mode) ∙ e));
  names = λ p place some.
      let before : IsPlaceOf geometry old i p = place_same geometry new old i p (sym drop.mode) place in
      elim (front_or q p) [
        | inl front ↦ absurd (some (drop.gone p before front))
        | inr apart ↦ (before, drop.kept p before apart)
      ];
}

-- an item of `b ∷ blocks` is `b` or an item of `blocks`
pub in_more : (k b : ℕ) (blocks : List ℕ) → IsIn k (b ∷ blocks) → (k ≡ b) ⊎ IsIn k blocks
unfolding IsIn
in_more k b blocks within = within

-- a number equal to the first item of a list is in the list
first_in : (k b : ℕ) (blocks : List ℕ) → k ≡ b → IsIn k (b ∷ blocks)
unfolding IsIn
first_in k b blocks e = inl e

-- after block `b` is freed, each data block is still free or in a file
dropped_covered : (geometry : Geometry) (old new blocks : List ℕ) (i b : ℕ) (q : List ℕ) → Rules3To7With geometry old blocks
    → IsNamedAt geometry old i q b → IsEmptyUnder geometry old i q → Dropped geometry old new i q
    → IsCovered geometry old blocks → IsCovered geometry new (b ∷ blocks)
dropped_covered geometry old new blocks i b q sound is empty drop covered k zone = elim (covered k zone) [
  | inl within ↦ inl (rest_in b k blocks within)
  | inr (j, p, names) ↦
      let held = holds_named geometry old j p k names.holds in
      elim (cases_eq j i) [
        | inl same ↦
            let place : IsPlaceOf geometry old i p = subst (λ x. IsPlaceOf geometry old x p) same names.place in
            let was : named geometry old i p ≡ k = ap (λ x. named geometry old x p) (sym same) ∙ held.0 in
            elim (front_or q p) [
              | inl front ↦ elim (front_under q p front) [
                | inl e ↦ inl (first_in k b blocks (sym was ∙ (ap (named geometry old i) e ∙ is.names)))
                | inr under ↦ absurd (held.1 (sym was ∙ empty p place under))
              ]
              | inr apart ↦ inr (
                i,
                p,
                record {
                  place = place_same geometry old new i p drop.mode place;
                  holds = named_holds geometry new i p k (fits_len geometry old new drop.alone.len sound.fits) (drop.kept p place apart ∙ was) held.1;
                },
              )
            ]
        | inr other ↦ inr (j, p, elsewhere_names geometry old new i j p k sound.fits drop.alone is.place.file.first other names)
      ]
]

-- storing 0 at a position in the block map and freeing the block to which it pointed clears the position
pub drops : (geometry : Geometry) (old mid new blocks : List ℕ) (i b : ℕ) (q : List ℕ) → Rules3To7With geometry old blocks
    → IsNamedAt geometry old i q b → IsEmptyUnder geometry old i q → Stores geometry old mid i q 0 blocks
    → StaysBut geometry mid new b 202 → IsFree geometry new (b ∷ blocks) → Clears geometry old new i (IsFront q) (b ∷ []) blocks
drops geometry old mid new blocks i b q sound is empty store stays free =
    let drop = dropped geometry old mid new blocks i b q sound is store stays in
    let less = lessens geometry old new blocks i q sound is.place.file drop in
    let unnamed = stored_unnamed geometry old mid blocks i b q sound is store in
    let first = is.place.file.first in
    let fits : Fits geometry new = fits_len geometry old new drop.alone.len sound.fits in
    record {
      alone = drop.alone;
      mode = drop.mode;
      size = drop.size;
      sound = sound_after geometry old new blocks (b ∷ blocks) i sound is.place.file less free
          (λ j p place within.
          let zone : in_zone geometry (named geometry new j p) ≡ true = free_zone free (named geometry new j p) within in
          let some = zone_some geometry new (named geometry new j p) fits zone in
          let before = named_before geometry old new i j p sound.fits is.place.file less place some in
          elim (in_more (named geometry new j p) b blocks within) [
            | inl e ↦
                let was : named geometry old j p ≡ named geometry old i q = sym before.1 ∙ (e ∙ sym is.names) in
                let one = sound.apart i j q p is.place before.0 (λ zero. is.some (sym is.names ∙ zero)) (sym was) in
                let here : named geometry new i q ≡ 0 =
                drop.gone q is.place (front_self (form_at geometry old i) q is.place.place) in
                some (ap (λ x. named geometry new x p) (sym one.0) ∙ (ap (named geometry new i) (sym one.1) ∙ here))
            | inr rest ↦ sound.outside j p before.0 (subst (λ k. IsIn k blocks) before.1 rest)
          ]);
      covered = dropped_covered geometry old new blocks i b q sound is empty drop;
      less = λ p place. elim (front_or q p) [ inl front ↦ inr (drop.gone p place front) | inr apart ↦ inl (drop.kept p place apart) ];
      gone = drop.gone;
      kept = drop.kept;
      bytes = λ p r place bottom apart some low.
          let k = named geometry old i p in
          let zone = sound.zoned i p place some in
          let other : k ≢ b = λ e.
          let one = sound.apart i i p q place is.place some (e ∙ sym is.names) in
          apart (subst (IsFront q) (sym one.1) (front_self (form_at geometry old i) q is.place.place)) in
          (stays_block geometry mid new b 202 k stays (omega arith) (zone_two geometry old k sound.fits zone) other).bytes r low
          ∙ store.bytes k r zone
          (λ at at_place deep e.
          let one = sound.apart i i p at place at_place some (sym e) in
          let leaf : levels_below (form_at geometry old i) at ≡ 0 = ap (levels_below (form_at geometry old i)) (sym one.1) ∙ bottom in
          absurd (omega arith)) low;
      unused = λ k r within low.
          let zone = free_zone sound.free k within in
          let other : k ≢ b = λ e. sound.outside i q is.place (subst (λ x. IsIn x blocks) (e ∙ sym is.names) within) in
          (stays_block geometry mid new b 202 k stays (omega arith) (zone_two geometry old k sound.fits zone) other).bytes r low
          ∙ store.bytes k r zone (λ p place deep e. sound.outside i p place (subst (λ x. IsIn x blocks) (sym e) within)) low;
    }
