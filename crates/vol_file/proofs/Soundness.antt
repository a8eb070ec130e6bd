-- Rules 3 to 7 after a change of one file that only clears positions in the block map.
use Rattle.std.proofs.Common.{◌≡◌, ◌≢◌, ℕ, ◌≤◌, ◌∙◌, sym, ap, subst, List, inl, inr}
use Rattle.std.proofs.lemmas.Bool.{cases_eq}
use Rattle.vol_layout.specs.Edition.{constants}
use Rattle.vol_layout.specs.Geometry.{in_zone, Fits}
use Rattle.vol_layout.specs.Inode.{inode_place, inode_of, kind_of}
use Rattle.vol_layout.specs.BlockMaps.{has_places}
use Rattle.vol_layout.specs.BlockPointers.{form_at, IsFile, IsPlaceOf, named}
use Rattle.vol_layout.specs.declared.geometry.Geometry.{Geometry}
use Rattle.vol_layout.specs.declared.mode.Kind.TheVariants as kinds
use Rattle.vol_layout.specs.declared.block_map.BlockMap.TheVariants.{Small}
use Rattle.vol_layout.proofs.InodeLaws.{inode_of_kept, mode_kept, size_kept, form_kept}
use Rattle.vol_free.specs.Stack.{IsIn, IsFree}
use Rattle.vol_file.specs.Rules.{size_of, kind_at, HasKinds, HasSizes, Rules3To7With}
use Rattle.vol_file.proofs.Alone.{fits_len, elsewhere_inode, elsewhere_before, elsewhere_named}
use Rattle.vol_file.proofs.StoredNames.{kinds_kept, links_same, links_kept_byte}
use Rattle.vol_file.specs.Changes.{StaysElsewhere}

-- file `i` changed: its kind is the same, its size is within the limits, and each position in its block map is unchanged or cleared
pub record Lessens (geometry : Geometry) (old new : List ℕ) (i : ℕ) : Type 0 where
  pub alone : StaysElsewhere geometry old new i
  pub kind : kind_at geometry new i ≡ kind_at geometry old i
  pub greatest : size_of geometry new i ≤ (constants geometry.edition).greatest
  pub small : form_at geometry new i ≡ Small → size_of geometry new i ≤ 4096
  pub names : (p : List ℕ) → IsPlaceOf geometry new i p → named geometry new i p ≢ 0
      → IsPlaceOf geometry old i p × (named geometry new i p ≡ named geometry old i p)

-- the change does not change the kind of any i-node
kind_after : (geometry : Geometry) (old new : List ℕ) (i j : ℕ) → Fits geometry old → IsFile geometry old i → Lessens geometry old new i
    → 1 ≤ j → j ≤ geometry.last_inode → kind_at geometry new j ≡ kind_at geometry old j
kind_after geometry old new i j fits file less first last =
    elim (cases_eq j i) [
      | inl e ↦ subst (λ x. kind_at geometry new x ≡ kind_at geometry old x) (sym e) less.kind
      | inr other ↦ ap (kind_of geometry.edition) (mode_kept geometry old new j (elsewhere_inode geometry old new i j fits less.alone file.first first last other))
    ]

-- a file of the new image was a file before the change
file_before : (geometry : Geometry) (old new : List ℕ) (i j : ℕ) → Fits geometry old → IsFile geometry old i → Lessens geometry old new i
    → IsFile geometry new j → IsFile geometry old j
file_before geometry old new i j fits file less is = record {
  first = is.first;
  last = is.last;
  kind = ap has_places (sym (kind_after geometry old new i j fits file less is.first is.last)) ∙ is.kind;
}

-- a position in the block map that points to a block pointed to the same block before the change
pub named_before : (geometry : Geometry) (old new : List ℕ) (i j : ℕ) (p : List ℕ) → Fits geometry old → IsFile geometry old i
    → Lessens geometry old new i → IsPlaceOf geometry new j p → named geometry new j p ≢ 0
    → IsPlaceOf geometry old j p × (named geometry new j p ≡ named geometry old j p)
named_before geometry old new i j p fits file less place some =
    elim (cases_eq j i) [
      | inl e ↦
          subst (λ x. IsPlaceOf geometry old x p × (named geometry new x p ≡ named geometry old x p)) (sym e)
          (less.names p (subst (λ x. IsPlaceOf geometry new x p) e place) (λ zero. some (ap (λ x. named geometry new x p) e ∙ zero)))
      | inr other ↦
          let before = elsewhere_before geometry old new i j p fits less.alone file.first other place in
          (before, elsewhere_named geometry old new i j p fits less.alone file.first other before)
    ]

-- rule 3 still holds after the change
kinds_after : (geometry : Geometry) (old new : List ℕ) (i : ℕ) → Fits geometry old → IsFile geometry old i → Lessens geometry old new i
    → HasKinds geometry old → HasKinds geometry new
kinds_after geometry old new i fits file less has =
    kinds_kept geometry old new fits (λ j first last. kind_after geometry old new i j fits file less first last) has

-- rule 4 still holds after the change
sizes_after : (geometry : Geometry) (old new : List ℕ) (i : ℕ) → Fits geometry old → IsFile geometry old i → Lessens geometry old new i
    → HasSizes geometry old → HasSizes geometry new
sizes_after geometry old new i fits file less has = record {
  greatest = λ j is. elim (cases_eq j i) [
    | inl e ↦ subst (λ x. size_of geometry new x ≤ (constants geometry.edition).greatest) (sym e) less.greatest
    | inr other ↦
        let before = file_before geometry old new i j fits file less is in
        let same = size_kept geometry old new j (elsewhere_inode geometry old new i j fits less.alone file.first is.first is.last other) in
        subst (λ n. n ≤ (constants geometry.edition).greatest) (sym same) (has.greatest j before)
  ];
  small = λ j is e. elim (cases_eq j i) [
    | inl f ↦ subst (λ x. size_of geometry new x ≤ 4096) (sym f) (less.small (ap (form_at geometry new) (sym f) ∙ e))
    | inr other ↦
        let before = file_before geometry old new i j fits file less is in
        let kept = elsewhere_inode geometry old new i j fits less.alone file.first is.first is.last other in
        subst (λ n. n ≤ 4096) (sym (size_kept geometry old new j kept))
        (has.small j before (sym (form_kept geometry old new j kept) ∙ e))
  ];
  links = λ j first last some.
      let before : kind_at geometry old j ≢ kinds.Free = λ free. some (kind_after geometry old new i j fits file less first last ∙ free) in
      let same : (inode_of geometry.edition new j).links ≡ (inode_of geometry.edition old j).links = elim (cases_eq j i) [
        | inl e ↦ subst (λ x. (inode_of geometry.edition new x).links ≡ (inode_of geometry.edition old x).links) (sym e)
            (links_same geometry.edition old new (inode_place geometry.edition i)
            (λ r low high. less.alone.inode r (links_kept_byte geometry.edition r low high)))
        | inr other ↦ ap (λ node. node.links) (inode_of_kept geometry old new j (elsewhere_inode geometry old new i j fits less.alone file.first first last other))
      ] in
      subst (λ n. n ≤ (constants geometry.edition).link_limit) (sym same) (has.links j first last before);
}

-- rules 3 to 7 still hold after the change if the free list is a stack and no position in the block map points to one of its blocks
pub sound_after : (geometry : Geometry) (old new blocks after : List ℕ) (i : ℕ) → Rules3To7With geometry old blocks → IsFile geometry old i
    → Lessens geometry old new i → IsFree geometry new after
    → ((j : ℕ) (p : List ℕ) → IsPlaceOf geometry new j p → IsIn (named geometry new j p) after → ⊥) → Rules3To7With geometry new after
sound_after geometry old new blocks after i sound file less free out = record {
  fits = fits_len geometry old new less.alone.len sound.fits;
  kinds = kinds_after geometry old new i sound.fits file less sound.kinds;
  sizes = sizes_after geometry old new i sound.fits file less sound.sizes;
  zoned = λ j p place some.
      let before = named_before geometry old new i j p sound.fits file less place some in
      ap (in_zone geometry) before.1 ∙ sound.zoned j p before.0 (λ zero. some (before.1 ∙ zero));
  free = free;
  apart = λ j k p q place other some same.
      let before = named_before geometry old new i j p sound.fits file less place some in
      let too = named_before geometry old new i k q sound.fits file less other (λ zero. some (same ∙ zero)) in
      sound.apart j k p q before.0 too.0 (λ zero. some (before.1 ∙ zero)) (sym before.1 ∙ (same ∙ too.1));
  outside = out;
}
