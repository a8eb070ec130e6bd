-- The i-nodes of a new volume and their addresses: only the root has an address, the number of one block.
use Rattle.std.proofs.Common.{◌≡◌, ◌≢◌, ℕ, zero, suc, ◌+◌, ◌-◌, ◌<◌, ◌≤◌, List, [], ◌∷◌, refl, sym, ap, subst, ◌∙◌, arith, ◌⊎◌, inl, inr, get_or, true, false, replicate}
use Rattle.std.specs.List.{range_with_len}
use Rattle.std.proofs.lemmas.Bool.{cases_eq, false≢true}
use Rattle.std.proofs.lemmas.Bool.Decides.{nat_tests}
use Rattle.vol_layout.specs.Edition.{constants}
use Rattle.vol_layout.specs.Geometry.{Fits, in_zone}
use Rattle.vol_layout.specs.Inode.{inode_place, inode_of, address_at, kind_of}
use Rattle.vol_layout.specs.BlockPointers.{mode_of, form_at, IsFile, IsPlaceOf, named}
use Rattle.vol_layout.specs.BlockMaps.{form_of, levels_below, IsPlace, has_places, first_count}
use Rattle.vol_layout.specs.declared.edition.Edition.{Edition}
use Rattle.vol_layout.specs.declared.edition.Edition.TheVariants.{V6, V7}
use Rattle.vol_layout.specs.declared.geometry.Geometry.{Geometry}
use Rattle.vol_layout.specs.declared.mode.Kind.TheVariants as kinds
use Rattle.vol_layout.proofs.InodeLaws.{inode_mode, inode_size, inode_address}
use Rattle.vol_layout.proofs.NameLaws.{named_stops, zero_out, named_holds}
use Rattle.vol_layout.proofs.KindLaws.{kind_zero}
use Rattle.vol_free.specs.Stack.{IsIn, IsFree}
use Rattle.vol_free.proofs.Frames.{free_from}
use Rattle.vol_free.proofs.Stacks.{zone_from, zone_below, IsFree_unique}
use Rattle.vol_file.specs.Rules.{size_of, kind_at, HasKinds, HasSizes, IsZoned, IsApart, IsOutside, IsCovered}
use Rattle.vol_mkfs.specs.Mkfs.{root_mode, IsNewVolume}
use Rattle.vol_file.proofs.StoredNames.{root_first}
use Rattle.vol_layout.proofs.EditionLaws.{mode_room, few_links, dots_fit}
use Rattle.vol_mkfs.proofs.NewVolumes.{addresses_above, none_below}

-- the root's mode is the mode of a directory that isn't a large file
root_kind : (edition : Edition) → kind_of edition (root_mode edition) ≡ kinds.Directory
unfolding kind_of
root_kind V6 = refl
root_kind V7 = refl

-- no level of indirect blocks is below the root's first address
root_leaf : (edition : Edition) → levels_below (form_of edition (root_mode edition)) (0 ∷ []) ≡ 0
unfolding kind_of
root_leaf V6 = refl
root_leaf V7 = refl

root_addresses : (edition : Edition) → first_count (form_of edition (root_mode edition)) ≤ 13
unfolding kind_of
root_addresses V6 = omega arith
root_addresses V7 = omega arith

-- the root's block map has an address
root_some : (edition : Edition) → 0 < first_count (form_of edition (root_mode edition))
unfolding kind_of
root_some V6 = omega arith
root_some V7 = omega arith

-- a number from a to below a + n is in the range
pub in_range : (x a n : ℕ) → a ≤ x → x < a + n → IsIn x (range_with_len a n)
unfolding IsIn
in_range x a zero from to = absurd (omega arith)
in_range x a (suc n) from to = elim (cases_eq x a) [
  | inl e ↦ inl e
  | inr other ↦ inr (in_range x (a + 1) n (omega (arith, other)) (omega arith))
]

module _ (geometry : Geometry) (uid gid now : ℕ) (image : List ℕ) (new : IsNewVolume geometry uid gid now image) (fits : Fits geometry image)
    (start : 3 ≤ geometry.zone_start) where
  -- the root's i-number
  abbrev pub root : ℕ
  root = (constants geometry.edition).root

  -- the mode of the root's i-node is `root_mode`
  pub mode_root : mode_of geometry image root ≡ root_mode geometry.edition
  mode_root = sym (inode_mode geometry.edition image (inode_place geometry.edition root)) ∙ ap (λ node. node.mode.bits) new.root

  -- the root is a directory
  pub kind_root : kind_at geometry image root ≡ kinds.Directory
  kind_root = ap (kind_of geometry.edition) mode_root ∙ root_kind geometry.edition

  -- the root's size is 32
  pub size_root : size_of geometry image root ≡ 32
  size_root = sym (inode_size geometry.edition image (inode_place geometry.edition root)) ∙ ap (λ node. node.size) new.root

  -- each other i-node is free
  pub kind_other : (i : ℕ) → 1 ≤ i → i ≤ geometry.last_inode → i ≢ root → kind_at geometry image i ≡ kinds.Free
  kind_other i first last other =
      let room : 2 ≤ (constants geometry.edition).inode_bytes = mode_room geometry.edition in
      let low : get_or image (inode_place geometry.edition i + 0) 0 ≡ 0 = new.others i 0 first last other (omega arith) in
      let high : get_or image (inode_place geometry.edition i + 1) 0 ≡ 0 = new.others i 1 first last other (omega arith) in
      let here : inode_place geometry.edition i + 0 ≡ inode_place geometry.edition i = omega arith in
      let first_byte : get_or image (inode_place geometry.edition i) 0 ≡ 0 = subst (λ at. get_or image at 0 ≡ 0) here low in
      let none : mode_of geometry image i ≡ 0 = omega (arith, first_byte, high) in
      ap (kind_of geometry.edition) none ∙ kind_zero geometry.edition

  -- an i-node that isn't free is the root
  pub only_root : (i : ℕ) → 1 ≤ i → i ≤ geometry.last_inode → kind_at geometry image i ≢ kinds.Free → i ≡ root
  only_root i first last some = elim (cases_eq i root) [ inl e ↦ e | inr other ↦ absurd (some (kind_other i first last other)) ]

  -- an i-node with a block map is the root
  pub only_file : (i : ℕ) → IsFile geometry image i → i ≡ root
  only_file i file =
      only_root i file.first file.last (λ none.
      let clash : false ≡ true = sym (ap has_places none) ∙ file.kind in absurd (false≢true clash))

  -- address k of the root is the first data block for k = 0, else 0
  address_root : (k : ℕ) → k < 13 → address_at geometry.edition image (inode_place geometry.edition root) k ≡ get_or (geometry.zone_start ∷ replicate 12 0) k 0
  address_root k low =
      sym (inode_address geometry.edition image (inode_place geometry.edition root) k low) ∙ ap (λ node. get_or node.addresses k 0) new.root

  -- the root's block map is the block map of `root_mode`
  pub form_root : form_at geometry image root ≡ form_of geometry.edition (root_mode geometry.edition)
  form_root = ap (form_of geometry.edition) mode_root

  -- the root's first address points to the first data block
  pub named_root : named geometry image root (0 ∷ []) ≡ geometry.zone_start
  named_root = address_root 0 (omega arith)

  -- all other addresses of the root are 0
  pub named_others : (p : List ℕ) → IsPlace (form_at geometry image root) p → (p ≡ 0 ∷ []) ⊎ (named geometry image root p ≡ 0)
  named_others [] place = absurd place
  named_others (k ∷ []) place = elim (cases_eq k 0) [
    | inl e ↦ inl (ap (λ j. j ∷ []) e)
    | inr other ↦
        let few : first_count (form_at geometry image root) ≤ 13 = subst (λ form. first_count form ≤ 13) (sym form_root) (root_addresses geometry.edition) in
        inr (address_root k (omega (arith, place, few)) ∙ addresses_above geometry.zone_start k (omega (arith, other)))
  ]
  named_others (j ∷ (a ∷ p)) place = elim (named_others (a ∷ p) place.2) [
    | inl e ↦
        let leaf : levels_below (form_at geometry image root) (a ∷ p) ≡ 0 =
        ap (levels_below (form_at geometry image root)) e ∙ (ap (λ form. levels_below form (0 ∷ [])) form_root ∙ root_leaf geometry.edition) in
        let below : 1 ≤ levels_below (form_at geometry image root) (a ∷ p) = place.1 in absurd (omega arith)
    | inr none ↦ inr (named_stops geometry image root j a p (ap (in_zone geometry) none ∙ zero_out geometry image fits))
  ]

  -- the only address other than 0 is the root's first, which points to the first data block
  pub only_place : (i : ℕ) (p : List ℕ) → IsPlaceOf geometry image i p → named geometry image i p ≢ 0
      → (i ≡ root) × (p ≡ 0 ∷ []) × (named geometry image i p ≡ geometry.zone_start)
  only_place i p place some =
      let is : i ≡ root = only_file i place.file in
      let at_root : IsPlace (form_at geometry image root) p = subst (λ j. IsPlace (form_at geometry image j) p) is place.place in
      elim (named_others p at_root) [
        | inl e ↦ (is, e, ap (λ j. named geometry image j p) is ∙ (ap (named geometry image root) e ∙ named_root))
        | inr none ↦ absurd (some (ap (λ j. named geometry image j p) is ∙ none))
      ]

  -- the first data block is in the data zone
  pub zone_first : in_zone geometry geometry.zone_start ≡ true
  zone_first = let zone : geometry.zone_start < geometry.zone_end = fits.zone in grind (arith, nat_tests)

  -- a new volume keeps rule 3
  pub new_kinds : HasKinds geometry image
  new_kinds = record {
    known = λ i first last odd. elim (cases_eq i root) [
      | inl e ↦ let clash : kinds.Directory ≡ kinds.Odd = sym kind_root ∙ (ap (kind_at geometry image) (sym e) ∙ odd) in cc
      | inr other ↦ let clash : kinds.Free ≡ kinds.Odd = sym (kind_other i first last other) ∙ odd in cc
    ];
    root = kind_root;
    bad_blocks = λ e.
        let two : root ≡ 2 = ap (λ x. (constants x).root) e in
        let above : root < geometry.last_inode = fits.root in
        inl (kind_other 1 (omega arith) (omega arith) (λ same. let f : 1 ≡ root = same in omega arith));
  }

  -- a new volume keeps rule 4
  pub new_sizes : HasSizes geometry image
  new_sizes = record {
    greatest = λ i file.
        let size : size_of geometry image i ≡ 32 = ap (size_of geometry image) (only_file i file) ∙ size_root in
        let most : 32 ≤ (constants geometry.edition).greatest = dots_fit geometry.edition in omega arith;
    small = λ i file form. let size : size_of geometry image i ≡ 32 = ap (size_of geometry image) (only_file i file) ∙ size_root in omega arith;
    links = λ i first last some.
        let links : (inode_of geometry.edition image i).links ≡ 2 =
        ap (λ j. (inode_of geometry.edition image j).links) (only_root i first last some) ∙ ap (λ node. node.links) new.root in
        let most : 2 ≤ (constants geometry.edition).link_limit = few_links geometry.edition in omega arith;
  }

  -- a new volume keeps rule 5
  pub new_zoned : IsZoned geometry image
  new_zoned i p place some = ap (in_zone geometry) (only_place i p place some).2 ∙ zone_first

  -- a new volume keeps rule 7 for files
  pub new_apart : IsApart geometry image
  new_apart i j p q place other some same =
      let one = only_place i p place some in
      let two = only_place j q other (λ none. some (same ∙ none)) in
      (one.0 ∙ sym two.0, one.1 ∙ sym two.1)

  -- a new volume keeps rule 7 for the free blocks
  pub new_outside : (blocks : List ℕ) → IsFree geometry image blocks → IsOutside geometry image blocks
  new_outside blocks free i p place inside = elim (cases_eq (named geometry image i p) 0) [
    | inl none ↦
        let above : geometry.zone_start ≤ named geometry image i p = free_from free (named geometry image i p) inside in absurd (omega arith)
    | inr some ↦
        let one = only_place i p place some in
        none_below geometry image (geometry.zone_start + 1) (named geometry image i p) (geometry.zone_end - (geometry.zone_start + 1)) (omega arith)
        (omega (arith, one.2)) new.free blocks free inside
  ]

  -- a new volume keeps rule 8
  pub new_covered : (blocks : List ℕ) → IsFree geometry image blocks → IsCovered geometry image blocks
  new_covered blocks free k zone =
      let from : geometry.zone_start ≤ k = zone_from geometry k zone in
      let below : k < geometry.zone_end = zone_below geometry k zone in
      elim (cases_eq k geometry.zone_start) [
        | inl e ↦
            let place : IsPlaceOf geometry image root (0 ∷ []) = root_place in
            inr (root, (0 ∷ []), record { place = place; holds = named_holds geometry image root (0 ∷ []) k fits (named_root ∙ sym e) (λ none. omega arith) })
        | inr other ↦
            let same : range_with_len (geometry.zone_start + 1) (geometry.zone_end - (geometry.zone_start + 1)) ≡ blocks = IsFree_unique (omega arith) new.free free in
            inl (subst (IsIn k) same
            (in_range k (geometry.zone_start + 1) (geometry.zone_end - (geometry.zone_start + 1)) (omega (arith, other)) (omega arith)))
      ] where
        root_place : IsPlaceOf geometry image root (0 ∷ [])
        root_place =
            let above : root < geometry.last_inode = fits.root in
            record {
              file = record { first = root_first geometry.edition; last = omega arith; kind = ap has_places kind_root };
              place = subst (λ form. 0 < first_count form) (sym form_root) (root_some geometry.edition);
            }
