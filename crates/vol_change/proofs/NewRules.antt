-- Rules 3 to 8 after a change of one node above the root that has no blocks before or afterwards.
use Rattle.std.proofs.Common.{◌≡◌, ◌≢◌, ◌∙◌, sym, ap, subst, ℕ, ◌<◌, ◌≤◌, List, length, inl, inr, arith}
use Rattle.std.proofs.lemmas.Bool.{cases_eq}
use Rattle.vol_layout.specs.Edition.{constants}
use Rattle.vol_layout.specs.Inode.{inode_of}
use Rattle.vol_layout.specs.BlockPointers.{IsFile, IsPlaceOf, named}
use Rattle.vol_layout.specs.BlockMaps.{form_of, has_places}
use Rattle.vol_layout.specs.declared.geometry.Geometry.{Geometry}
use Rattle.vol_layout.specs.declared.mode.Kind.TheVariants as kinds
use Rattle.vol_free.specs.Stack.{IsFree}
use Rattle.vol_file.specs.Rules.{size_of, kind_at, HasKinds, HasSizes}
use Rattle.vol_file.proofs.StoredNames.{root_within}
use Rattle.vol_change.specs.Alone.{KeepsNode}
use Rattle.vol_change.specs.Whole.{Rules3To8}
use Rattle.vol_change.proofs.Contents.{kind_same}
use Rattle.vol_file.proofs.StoredNames.{place_same}
use Rattle.vol_change.proofs.WholeLaws.{SameNames, whole_names}

-- i-node i has no blocks in either image, and the others are unchanged
pub record ChangesBare (geometry : Geometry) (old new : List ℕ) (i : ℕ) : Type 0 where
  pub above : (constants geometry.edition).root < i
  pub others : (j : ℕ) → 1 ≤ j → j ≤ geometry.last_inode → j ≢ i → KeepsNode geometry old new j
  pub known : kind_at geometry new i ≢ kinds.Odd
  pub size : IsFile geometry new i → size_of geometry new i ≡ 0
  pub links : kind_at geometry new i ≢ kinds.Free → (inode_of geometry.edition new i).links ≤ (constants geometry.edition).link_limit
  pub before : (p : List ℕ) → IsPlaceOf geometry old i p → named geometry old i p ≡ 0
  pub after : (p : List ℕ) → IsPlaceOf geometry new i p → named geometry new i p ≡ 0

module _ (geometry : Geometry) (old new : List ℕ) (i : ℕ) (rules : Rules3To8 geometry old) (changes : ChangesBare geometry old new i) where
  -- the kinds of other i-nodes don't change
  kind_other : (j : ℕ) → 1 ≤ j → j ≤ geometry.last_inode → j ≢ i → kind_at geometry new j ≡ kind_at geometry old j
  kind_other j first last other = kind_same geometry old new j (changes.others j first last other).content

  -- rule 3 holds
  kinds_new : HasKinds geometry new
  kinds_new =
      let root = root_within geometry old rules.sound.fits in
      let one : kind_at geometry new 1 ≡ kind_at geometry old 1 =
      kind_other 1 (omega arith) (omega (arith, root)) (λ e. omega (arith, root, changes.above, e)) in
      record {
        known = λ j first last odd. elim (cases_eq j i) [
          | inl e ↦ changes.known (ap (kind_at geometry new) (sym e) ∙ odd)
          | inr other ↦ rules.sound.kinds.known j first last (sym (kind_other j first last other) ∙ odd)
        ];
        root = kind_other (constants geometry.edition).root root.0 root.1 (λ e. omega (arith, changes.above, e)) ∙ rules.sound.kinds.root;
        bad_blocks = λ v7. elim (rules.sound.kinds.bad_blocks v7) [ inl free ↦ inl (one ∙ free) | inr regular ↦ inr (one ∙ regular) ];
      }

  -- a file other than i was a file before
  file_before : (j : ℕ) → j ≢ i → IsFile geometry new j → IsFile geometry old j
  file_before j other file = record {
    first = file.first;
    last = file.last;
    kind = ap has_places (sym (kind_other j file.first file.last other)) ∙ file.kind;
  }

  -- rule 4 holds
  sizes_new : HasSizes geometry new
  sizes_new = record {
    greatest = λ j file. elim (cases_eq j i) [
      | inl e ↦
          let zero : size_of geometry new j ≡ 0 = rw e (changes.size (subst (IsFile geometry new) e file)) in
          omega (arith, zero)
      | inr other ↦
          subst (λ n. n ≤ (constants geometry.edition).greatest) (sym (changes.others j file.first file.last other).content.size)
          (rules.sound.sizes.greatest j (file_before j other file))
    ];
    small = λ j file small. elim (cases_eq j i) [
      | inl e ↦
          let zero : size_of geometry new j ≡ 0 = rw e (changes.size (subst (IsFile geometry new) e file)) in
          omega (arith, zero)
      | inr other ↦
          let kept = (changes.others j file.first file.last other).content in
          subst (λ n. n ≤ 4096) (sym kept.size)
          (rules.sound.sizes.small j (file_before j other file) (sym (ap (form_of geometry.edition) kept.mode) ∙ small))
    ];
    links = λ j first last used. elim (cases_eq j i) [
      | inl e ↦ rw e (changes.links (λ free. used (ap (kind_at geometry new) e ∙ free)))
      | inr other ↦
          subst (λ node. node.links ≤ (constants geometry.edition).link_limit) (sym (changes.others j first last other).inode)
          (rules.sound.sizes.links j first last (λ free. used (kind_other j first last other ∙ free)))
    ];
  }

  -- both images have the same addresses other than 0
  names_new : SameNames geometry old new
  names_new = record {
    from = λ j p place some. elim (cases_eq j i) [
      | inl e ↦
          absurd (some (ap (λ x. named geometry new x p) e ∙ changes.after p (subst (λ x. IsPlaceOf geometry new x p) e place)))
      | inr other ↦
          let kept = (changes.others j place.file.first place.file.last other).content in
          let before = place_same geometry new old j p (sym kept.mode) place in
          (before, kept.names p before)
    ];
    to = λ j p place some. elim (cases_eq j i) [
      | inl e ↦
          absurd (some (ap (λ x. named geometry old x p) e ∙ changes.before p (subst (λ x. IsPlaceOf geometry old x p) e place)))
      | inr other ↦
          let kept = (changes.others j place.file.first place.file.last other).content in
          (place_same geometry old new j p kept.mode place, sym (kept.names p place))
    ];
  }

  -- rules 3 to 8 hold
  pub bare_whole : length new ≡ length old → ((blocks : List ℕ) → IsFree geometry old blocks → IsFree geometry new blocks) → Rules3To8 geometry new
  bare_whole len free = whole_names geometry old new len names_new free kinds_new sizes_new rules
