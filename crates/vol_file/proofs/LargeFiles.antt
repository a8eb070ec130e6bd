-- Making a small file of the sixth edition large: block numbers, rules 3 to 7 and bytes.
use Rattle.std.proofs.Common.{◌≡◌, ◌≢◌, ℕ, ◌+◌, ◌-◌, ◌*◌, ◌/◌, ◌%◌, ◌<◌, ◌≤◌, ◌∙◌, sym, ap, subst, List, [], ◌∷◌, ◌++◌, get_or, refl, arith, inl, inr, true, Some, None, ltb, eqb}
use Rattle.std.specs.Prelude.{◌&&◌, not}
use Rattle.std.specs.Option.{option_map_or}
use Rattle.std.proofs.lemmas.Bool.{cases_lt, cases_eq, lt-ltb, le-ltb, ne_eqb}
use Rattle.vol_layout.specs.Geometry.{in_zone, Fits}
use Rattle.vol_layout.specs.Inode.{kind_of, with_large}
use Rattle.vol_layout.specs.BlockMaps.{IsPlace, has_places, levels, levels_below, last_place}
use Rattle.vol_layout.specs.BlockPointers.{mode_of, form_at, IsFile, IsPlaceOf, named, stored, NamesBlock}
use Rattle.vol_layout.specs.Body.{body_byte, zone_byte}
use Rattle.vol_layout.specs.declared.geometry.Geometry.{Geometry}
use Rattle.vol_layout.specs.declared.block_map.BlockMap.TheVariants.{Small, Large}
use Rattle.vol_layout.proofs.InodeLaws.{mode_kept, size_kept, form_kept}
use Rattle.vol_layout.proofs.PlaceLaws.{IsLeaf, leaf_block, last_leaf, has_no_way, large_levels, small_levels}
use Rattle.vol_layout.proofs.BodyLaws.{body_byte_is, zone_byte_out}
use Rattle.vol_layout.proofs.NameLaws.{zone_some, zero_out, named_stops, holds_named, named_holds}
use Rattle.vol_layout.proofs.FrameLaws.{zone_byte_kept}
use Rattle.vol_free.specs.Stack.{IsIn, IsFree}
use Rattle.vol_free.proofs.Frames.{free_zone, free_from}
use Rattle.vol_file.specs.Shape.{is_named, moved_down}
use Rattle.vol_file.specs.Rules.{size_of, kind_at, HasSizes, Rules3To7With, IsCovered}
use Rattle.vol_file.specs.Steps.{Enlarges}
use Rattle.vol_file.proofs.Alone.{fits_len, elsewhere_inode, elsewhere_before, elsewhere_named, elsewhere_names}
use Rattle.vol_file.proofs.StoredNames.{kinds_kept, links_kept, sizes_stay}
use Rattle.vol_file.proofs.OneMoreBlock.{unnamed_false, named_true}
use Rattle.vol_layout.proofs.LastPlaces.{last_small, last_large}
use Rattle.vol_file.proofs.TakenBlocks.{first_unnamed, first_zoned, first_once, rest_in}
use Rattle.vol_file.specs.Changes.{StaysElsewhere}

-- file `i` became large: its addresses were moved to the free block `b`, to which its first address now points
pub record Moves (geometry : Geometry) (old new : List ℕ) (i b : ℕ) (rest : List ℕ) : Type 0 where
  pub alone : StaysElsewhere geometry old new i
  pub free : IsFree geometry new rest
  pub size : size_of geometry new i ≡ size_of geometry old i
  pub mode : mode_of geometry new i ≡ with_large (mode_of geometry old i) true
  pub kind : kind_at geometry new i ≡ kind_at geometry old i
  pub small : form_at geometry old i ≡ Small
  pub large : form_at geometry new i ≡ Large
  pub first : named geometry new i (0 ∷ []) ≡ b
  pub others : (k : ℕ) → 1 ≤ k → k < 8 → named geometry new i (k ∷ []) ≡ 0
  pub moved : (j : ℕ) → j < 8 → named geometry new i (j ∷ (0 ∷ [])) ≡ named geometry old i (j ∷ [])
  pub empty : (j : ℕ) → 8 ≤ j → j < 256 → named geometry new i (j ∷ (0 ∷ [])) ≡ 0
  pub bytes : (k r : ℕ) → in_zone geometry k ≡ true → k ≢ b → r < 512 → get_or new (512 * k + r) 0 ≡ get_or old (512 * k + r) 0

-- the origin of the block number at a position in the block map of the new image: the block taken, a moved address, unchanged, or 0
data Origin (geometry : Geometry) (old new : List ℕ) (i b j : ℕ) (p : List ℕ) : Type 0 where
  fresh : j ≡ i → p ≡ 0 ∷ [] → named geometry new j p ≡ b → Origin geometry old new i b j p
  moved : (x : ℕ) → j ≡ i → x < 8 → p ≡ x ∷ (0 ∷ []) → named geometry new j p ≡ named geometry old i (x ∷ []) → Origin geometry old new i b j p
  kept : j ≢ i → IsPlaceOf geometry old j p → named geometry new j p ≡ named geometry old j p → Origin geometry old new i b j p
  none : named geometry new j p ≡ 0 → Origin geometry old new i b j p

-- no entry below a position in the block map that points to no block points to a block
entry_none : (geometry : Geometry) (image : List ℕ) (i j a : ℕ) (p : List ℕ) → Fits geometry image → named geometry image i (a ∷ p) ≡ 0
    → named geometry image i (j ∷ (a ∷ p)) ≡ 0
entry_none geometry image i j a p fits zero = named_stops geometry image i j a p (ap (in_zone geometry) zero ∙ zero_out geometry image fits)

-- a position in a large file's block map has at most two levels below it
few_levels : (h : ℕ) (q : List ℕ) → levels_below Large (h ∷ q) ≤ 2
few_levels h [] = elim (cases_eq h 7) [
  | inl e ↦ rw e (omega arith)
  | inr other ↦ rw (ne_eqb h 7 other) (omega arith)
]
few_levels h (a ∷ q) = let less : levels_below Large (a ∷ q) ≤ 2 = few_levels a q in omega arith

-- no position in a large file's block map has four indexes
deep_absurd : (l j k h : ℕ) (q : List ℕ) → IsPlace Large (l ∷ (j ∷ (k ∷ (h ∷ q)))) → ⊥
deep_absurd l j k h q place =
    let few : levels_below Large (h ∷ q) ≤ 2 = few_levels h q in
    let deep : 1 ≤ levels_below Large (h ∷ q) - 1 - 1 = place.1 in omega (arith, few, deep)

-- a position in the block map with three indexes points to no block in a file that has just become large
deep_none : (geometry : Geometry) (old new : List ℕ) (i b : ℕ) (rest : List ℕ) (l j k : ℕ) (q : List ℕ) → Fits geometry new → Moves geometry old new i b rest
    → IsPlace Large (l ∷ (j ∷ (k ∷ q))) → named geometry new i (l ∷ (j ∷ (k ∷ q))) ≡ 0
deep_none geometry old new i b rest l j k [] fits moves place =
    elim (cases_lt k 7) [
      | inl low ↦ let one : levels Large k ≡ 1 = large_levels k low in let deep : 1 ≤ levels Large k - 1 = place.1 in absurd (omega (arith, one, deep))
      | inr high ↦
          entry_none geometry new i l j (k ∷ []) fits (entry_none geometry new i j k [] fits (moves.others k (omega arith) place.2.2))
    ]
deep_none geometry old new i b rest l j k (h ∷ q) fits moves place =
    absurd (deep_absurd l j k h q place)

-- one of the cases of `Origin` holds for each position in the block map of the large file
origin_here : (geometry : Geometry) (old new : List ℕ) (i b : ℕ) (rest p : List ℕ) → Fits geometry new → Moves geometry old new i b rest
    → IsPlace Large p → Origin geometry old new i b i p
origin_here geometry old new i b rest [] fits moves place = absurd place
origin_here geometry old new i b rest (k ∷ []) fits moves place =
    elim (cases_eq k 0) [
      | inl e ↦ Origin.fresh refl (ap (λ x. x ∷ []) e) (ap (λ x. named geometry new i (x ∷ [])) e ∙ moves.first)
      | inr more ↦ Origin.none (moves.others k (omega arith) place)
    ]
origin_here geometry old new i b rest (j ∷ (k ∷ [])) fits moves place =
    elim (cases_eq k 0) [
      | inl e ↦ elim (cases_lt j 8) [
        | inl low ↦ Origin.moved j refl low (ap (λ x. j ∷ (x ∷ [])) e) (ap (λ x. named geometry new i (j ∷ (x ∷ []))) e ∙ moves.moved j low)
        | inr high ↦ Origin.none (ap (λ x. named geometry new i (j ∷ (x ∷ []))) e ∙ moves.empty j high place.0)
      ]
      | inr more ↦ Origin.none (entry_none geometry new i j k [] fits (moves.others k (omega arith) place.2))
    ]
origin_here geometry old new i b rest (l ∷ (j ∷ (k ∷ q))) fits moves place =
    Origin.none (deep_none geometry old new i b rest l j k q fits moves place)

-- one of the cases of `Origin` holds for each position in the block map of another file
origin_there : (geometry : Geometry) (old new : List ℕ) (i b : ℕ) (rest : List ℕ) (j : ℕ) (p : List ℕ) → Fits geometry old → 1 ≤ i
    → Moves geometry old new i b rest → j ≢ i → IsPlaceOf geometry new j p → Origin geometry old new i b j p
origin_there geometry old new i b rest j p fits one moves other place =
    let before = elsewhere_before geometry old new i j p fits moves.alone one other place in
    Origin.kept other before (elsewhere_named geometry old new i j p fits moves.alone one other before)

-- one of the cases of `Origin` holds for each position in any block map
origin : (geometry : Geometry) (old new : List ℕ) (i b : ℕ) (rest : List ℕ) → Rules3To7With geometry old (b ∷ rest) → 1 ≤ i
    → Moves geometry old new i b rest → (j : ℕ) (p : List ℕ) → IsPlaceOf geometry new j p → Origin geometry old new i b j p
origin geometry old new i b rest sound one moves j p place =
    elim (cases_eq j i) [
      | inl e ↦
          let here : IsPlace Large p = subst (λ f. IsPlace f p) (ap (form_at geometry new) e ∙ moves.large) place.place in
          subst (λ x. Origin geometry old new i b x p) (sym e)
          (origin_here geometry old new i b rest p (fits_len geometry old new moves.alone.len sound.fits) moves here)
      | inr other ↦ origin_there geometry old new i b rest j p sound.fits one moves other place
    ]

-- each of the eight old addresses was a position in the block map of the small file
old_place : (geometry : Geometry) (old new : List ℕ) (i b x : ℕ) (rest : List ℕ) → IsFile geometry old i → Moves geometry old new i b rest → x < 8
    → IsPlaceOf geometry old i (x ∷ [])
old_place geometry old new i b x rest file moves h = record { file = file; place = subst (λ f. IsPlace f (x ∷ [])) (sym moves.small) h }

-- each block number in a block map of the new image is the number of a data block
origin_zoned : (geometry : Geometry) (old new : List ℕ) (i b : ℕ) (rest : List ℕ) (j : ℕ) (p : List ℕ) → Rules3To7With geometry old (b ∷ rest)
    → IsFile geometry old i → Moves geometry old new i b rest → Origin geometry old new i b j p → named geometry new j p ≢ 0
    → in_zone geometry (named geometry new j p) ≡ true
origin_zoned geometry old new i b rest j p sound file moves (Origin.fresh e f is) some = ap (in_zone geometry) is ∙ first_zoned geometry old b rest sound
origin_zoned geometry old new i b rest j p sound file moves (Origin.moved x e h f is) some =
    ap (in_zone geometry) is ∙ sound.zoned i (x ∷ []) (old_place geometry old new i b x rest file moves h) (λ zero. some (is ∙ zero))
origin_zoned geometry old new i b rest j p sound file moves (Origin.kept other place is) some =
    ap (in_zone geometry) is ∙ sound.zoned j p place (λ zero. some (is ∙ zero))
origin_zoned geometry old new i b rest j p sound file moves (Origin.none zero) some = absurd (some zero)

-- no block number in a block map of the new image is a free block
origin_outside : (geometry : Geometry) (old new : List ℕ) (i b : ℕ) (rest : List ℕ) (j : ℕ) (p : List ℕ) → Rules3To7With geometry old (b ∷ rest)
    → IsFile geometry old i → Moves geometry old new i b rest → Origin geometry old new i b j p → IsIn (named geometry new j p) rest → ⊥
origin_outside geometry old new i b rest j p sound file moves (Origin.fresh e f is) within =
    first_once geometry old b rest sound (subst (λ k. IsIn k rest) is within)
origin_outside geometry old new i b rest j p sound file moves (Origin.moved x e h f is) within =
    sound.outside i (x ∷ []) (old_place geometry old new i b x rest file moves h) (rest_in b (named geometry old i (x ∷ [])) rest (subst (λ k. IsIn k rest) is within))
origin_outside geometry old new i b rest j p sound file moves (Origin.kept other place is) within =
    sound.outside j p place (rest_in b (named geometry old j p) rest (subst (λ k. IsIn k rest) is within))
origin_outside geometry old new i b rest j p sound file moves (Origin.none zero) within =
    let from = free_from moves.free (named geometry new j p) within in omega (arith, from, zero, sound.fits.i_list)

-- lists with the same first item and rest are equal only if the first items are
head_same : (x y : ℕ) (p : List ℕ) → x ∷ p ≡ y ∷ p → x ≡ y
head_same x y p e = cc

-- no two positions in the block map of the new image point to the same block
origin_apart : (geometry : Geometry) (old new : List ℕ) (i b : ℕ) (rest : List ℕ) (j k : ℕ) (p r : List ℕ) → Rules3To7With geometry old (b ∷ rest)
    → IsFile geometry old i → Moves geometry old new i b rest → Origin geometry old new i b j p → Origin geometry old new i b k r
    → named geometry new j p ≢ 0 → named geometry new j p ≡ named geometry new k r → (j ≡ k) × (p ≡ r)
origin_apart geometry old new i b rest j k p r sound file moves (Origin.none zero) second some same = absurd (some zero)
origin_apart geometry old new i b rest j k p r sound file moves first (Origin.none zero) some same = absurd (some (same ∙ zero))
origin_apart geometry old new i b rest j k p r sound file moves (Origin.fresh e f is) (Origin.fresh e' f' is') some same = (e ∙ sym e', f ∙ sym f')
origin_apart geometry old new i b rest j k p r sound file moves (Origin.fresh e f is) (Origin.moved x e' h' f' is') some same =
    absurd (first_unnamed geometry old b rest sound i (x ∷ []) (old_place geometry old new i b x rest file moves h') (sym is' ∙ (sym same ∙ is)))
origin_apart geometry old new i b rest j k p r sound file moves (Origin.fresh e f is) (Origin.kept other' place' is') some same =
    absurd (first_unnamed geometry old b rest sound k r place' (sym is' ∙ (sym same ∙ is)))
origin_apart geometry old new i b rest j k p r sound file moves (Origin.moved x e h f is) (Origin.fresh e' f' is') some same =
    absurd (first_unnamed geometry old b rest sound i (x ∷ []) (old_place geometry old new i b x rest file moves h) (sym is ∙ (same ∙ is')))
origin_apart geometry old new i b rest j k p r sound file moves (Origin.moved x e h f is) (Origin.moved y e' h' f' is') some same =
    let twice = sound.apart i i (x ∷ []) (y ∷ []) (old_place geometry old new i b x rest file moves h) (old_place geometry old new i b y rest file moves h')
    (λ zero. some (is ∙ zero)) (sym is ∙ (same ∙ is')) in
    let equal : x ≡ y = head_same x y [] twice.1 in
    (e ∙ sym e', f ∙ (ap (λ z. z ∷ (0 ∷ [])) equal ∙ sym f'))
origin_apart geometry old new i b rest j k p r sound file moves (Origin.moved x e h f is) (Origin.kept other' place' is') some same =
    let twice = sound.apart i k (x ∷ []) r (old_place geometry old new i b x rest file moves h) place' (λ zero. some (is ∙ zero)) (sym is ∙ (same ∙ is')) in
    absurd (other' (sym twice.0))
origin_apart geometry old new i b rest j k p r sound file moves (Origin.kept other place is) (Origin.fresh e' f' is') some same =
    absurd (first_unnamed geometry old b rest sound j p place (sym is ∙ (same ∙ is')))
origin_apart geometry old new i b rest j k p r sound file moves (Origin.kept other place is) (Origin.moved y e' h' f' is') some same =
    let twice = sound.apart j i p (y ∷ []) place (old_place geometry old new i b y rest file moves h') (λ zero. some (is ∙ zero)) (sym is ∙ (same ∙ is')) in
    absurd (other twice.0)
origin_apart geometry old new i b rest j k p r sound file moves (Origin.kept other place is) (Origin.kept other' place' is') some same =
    sound.apart j k p r place place' (λ zero. some (is ∙ zero)) (sym is ∙ (same ∙ is'))

-- making a file large does not change the kinds
large_kinds : (geometry : Geometry) (old new : List ℕ) (i b : ℕ) (rest : List ℕ) → Rules3To7With geometry old (b ∷ rest) → IsFile geometry old i
    → Moves geometry old new i b rest → (j : ℕ) → 1 ≤ j → j ≤ geometry.last_inode → kind_at geometry new j ≡ kind_at geometry old j
large_kinds geometry old new i b rest sound file moves j first last =
    elim (cases_eq j i) [
      | inl e ↦ ap (kind_at geometry new) e ∙ (moves.kind ∙ sym (ap (kind_at geometry old) e))
      | inr other ↦ ap (kind_of geometry.edition)
          (mode_kept geometry old new j (elsewhere_inode geometry old new i j sound.fits moves.alone file.first first last other))
    ]

-- the block maps Large and Small are different
large_small : Large ≡ Small → ⊥
large_small e = cc

-- rule 4 holds after a file was made large
large_sizes : (geometry : Geometry) (old new : List ℕ) (i b : ℕ) (rest : List ℕ) → Rules3To7With geometry old (b ∷ rest) → IsFile geometry old i
    → Moves geometry old new i b rest → HasSizes geometry new
large_sizes geometry old new i b rest sound file moves =
    let one = file.first in
    let kinds : (j : ℕ) → 1 ≤ j → j ≤ geometry.last_inode → kind_at geometry new j ≡ kind_at geometry old j = large_kinds geometry old new i b rest sound file moves in
    let was : (j : ℕ) → IsFile geometry new j → IsFile geometry old j =
    λ j at. record { first = at.first; last = at.last; kind = ap has_places (sym (kinds j at.first at.last)) ∙ at.kind } in
    record {
      greatest = λ j at. rw (sizes_stay geometry old new i j sound.fits moves.alone one moves.size at.first at.last) (sound.sizes.greatest j (was j at));
      small = λ j at is. elim (cases_eq j i) [
        | inl e ↦ absurd (large_small (sym moves.large ∙ (ap (form_at geometry new) (sym e) ∙ is)))
        | inr other ↦
            let kept = elsewhere_inode geometry old new i j sound.fits moves.alone one at.first at.last other in
            rw (size_kept geometry old new j kept) (sound.sizes.small j (was j at) (sym (form_kept geometry old new j kept) ∙ is))
      ];
      links = λ j first last used. rw (links_kept geometry old new i j sound.fits moves.alone one first last)
          (sound.sizes.links j first last (λ free. used (kinds j first last ∙ free)));
    }

-- rules 3 to 7 hold after a file was made large
large_sound : (geometry : Geometry) (old new : List ℕ) (i b : ℕ) (rest : List ℕ) → Rules3To7With geometry old (b ∷ rest) → IsFile geometry old i
    → Moves geometry old new i b rest → Rules3To7With geometry new rest
large_sound geometry old new i b rest sound file moves =
    let from = origin geometry old new i b rest sound file.first moves in
    record {
      fits = fits_len geometry old new moves.alone.len sound.fits;
      kinds = kinds_kept geometry old new sound.fits (large_kinds geometry old new i b rest sound file moves) sound.kinds;
      sizes = large_sizes geometry old new i b rest sound file moves;
      zoned = λ j p place some. origin_zoned geometry old new i b rest j p sound file moves (from j p place) some;
      free = moves.free;
      apart = λ j k p r place place' some same. origin_apart geometry old new i b rest j k p r sound file moves (from j p place) (from k r place') some same;
      outside = λ j p place within. origin_outside geometry old new i b rest j p sound file moves (from j p place) within;
    }

-- position `p` in the block map is one of the eight addresses of a small file
record IsAddress (p : List ℕ) : Type 0 where
  index : ℕ
  low : index < 8
  is : p ≡ index ∷ []

-- each position in the block map of a small file is an address
small_place : (p : List ℕ) → IsPlace Small p → IsAddress p
small_place [] place = absurd place
small_place (k ∷ []) place = record { index = k; low = place; is = refl }
small_place (j ∷ (a ∷ p)) place = let none : levels_below Small (a ∷ p) ≡ 0 = small_levels (a ∷ p) in let deep = place.1 in absurd (omega (arith, none, deep))

-- each moved address is a position in the block map of the large file
moved_place : (x : ℕ) → x < 8 → IsPlace Large (x ∷ (0 ∷ []))
moved_place x h = (omega arith, omega arith, omega arith)

-- each data block is still free or in a file after a file was made large
large_covered : (geometry : Geometry) (old new : List ℕ) (i b : ℕ) (rest : List ℕ) → Rules3To7With geometry old (b ∷ rest) → IsFile geometry old i
    → Moves geometry old new i b rest → IsFile geometry new i → IsCovered geometry old (b ∷ rest) → IsCovered geometry new rest
unfolding IsIn
large_covered geometry old new i b rest sound file moves file_new covered k zone =
    let fits : Fits geometry new = fits_len geometry old new moves.alone.len sound.fits in
    let some : k ≢ 0 = zone_some geometry old k sound.fits zone in
    elim (covered k zone) [
      | inl (inl e) ↦ inr (
        i,
        0 ∷ [],
        record {
          place = record { file = file_new; place = subst (λ f. IsPlace f (0 ∷ [])) (sym moves.large) (omega arith) };
          holds = named_holds geometry new i (0 ∷ []) k fits (moves.first ∙ sym e) some;
        },
      )
      | inl (inr within) ↦ inl within
      | inr (j, p, names) ↦ elim (cases_eq j i) [
        | inl e ↦
            let names_i : NamesBlock geometry old i p k = subst (λ x. NamesBlock geometry old x p k) e names in
            let held = holds_named geometry old i p k names_i.holds in
            let at = small_place p (subst (λ f. IsPlace f p) moves.small names_i.place.place) in
            inr (
              i,
              at.index ∷ (0 ∷ []),
              record {
                place = record { file = file_new; place = subst (λ f. IsPlace f (at.index ∷ (0 ∷ []))) (sym moves.large) (moved_place at.index at.low) };
                holds = named_holds geometry new i (at.index ∷ (0 ∷ [])) k fits (moves.moved at.index at.low ∙ (ap (named geometry old i) (sym at.is) ∙ held.0)) some;
              },
            )
        | inr other ↦ inr (j, p, elsewhere_names geometry old new i j p k sound.fits moves.alone file.first other names)
      ]
    ]

-- the positions in the block map of the large file that point to blocks are those of `moved_down`
large_names : (geometry : Geometry) (old new : List ℕ) (i b : ℕ) (rest : List ℕ) → Fits geometry new → b ≢ 0 → Moves geometry old new i b rest
    → (p : List ℕ) → IsPlace Large p → is_named geometry new i p ≡ moved_down (is_named geometry old i) p
large_names geometry old new i b rest fits some moves [] place = absurd place
large_names geometry old new i b rest fits some moves (k ∷ []) place =
    elim (cases_eq k 0) [
      | inl e ↦ named_true geometry new i (k ∷ []) (λ zero. some (sym (ap (λ x. named geometry new i (x ∷ [])) e ∙ moves.first) ∙ zero)) ∙ sym (ap (λ x. eqb x 0) e)
      | inr more ↦ unnamed_false geometry new i (k ∷ []) (moves.others k (omega arith) place) ∙ sym (ne_eqb k 0 more)
    ]
large_names geometry old new i b rest fits some moves (j ∷ (k ∷ [])) place =
    elim (cases_eq k 0) [
      | inl e ↦ elim (cases_lt j 8) [
        | inl low ↦
            let now : named geometry new i (j ∷ (k ∷ [])) ≡ named geometry old i (j ∷ []) = ap (λ x. named geometry new i (j ∷ (x ∷ []))) e ∙ moves.moved j low in
            ap (λ m. not (eqb m 0)) now
            ∙ sym (ap (λ x. eqb x 0 && (ltb j 8 && is_named geometry old i (j ∷ []))) e ∙ ap (λ t. t && is_named geometry old i (j ∷ [])) (lt-ltb j 8 low))
        | inr high ↦
            let now : named geometry new i (j ∷ (k ∷ [])) ≡ 0 = ap (λ x. named geometry new i (j ∷ (x ∷ []))) e ∙ moves.empty j high place.0 in
            unnamed_false geometry new i (j ∷ (k ∷ [])) now
            ∙ sym (ap (λ x. eqb x 0 && (ltb j 8 && is_named geometry old i (j ∷ []))) e ∙ ap (λ t. t && is_named geometry old i (j ∷ [])) (le-ltb j 8 high))
      ]
      | inr more ↦
          unnamed_false geometry new i (j ∷ (k ∷ [])) (entry_none geometry new i j k [] fits (moves.others k (omega arith) place.2))
          ∙ sym (ap (λ t. t && (ltb j 8 && is_named geometry old i (j ∷ []))) (ne_eqb k 0 more))
    ]
large_names geometry old new i b rest fits some moves (l ∷ (j ∷ (k ∷ q))) place =
    unnamed_false geometry new i (l ∷ (j ∷ (k ∷ q))) (deep_none geometry old new i b rest l j k q fits moves place)

-- the first eight logical blocks of a large file are the first eight entries of its first indirect block
first_leaf : (c : ℕ) → c < 8 → (c % 256) ∷ ((c / 256) ∷ []) ≡ c ∷ (0 ∷ [])
first_leaf c h =
    let rest : c % 256 ≡ c = omega arith in
    let none : c / 256 ≡ 0 = omega arith in ap (λ x. x ∷ ((c / 256) ∷ [])) rest ∙ ap (λ x. c ∷ (x ∷ [])) none

-- the positions in the block map for logical blocks after the first eight point to no block
leaf_none : (geometry : Geometry) (old new : List ℕ) (i b : ℕ) (rest : List ℕ) (c : ℕ) (p : List ℕ) → IsLeaf Large c p → 8 ≤ c
    → Origin geometry old new i b i p → named geometry new i p ≡ 0
leaf_none geometry old new i b rest c p leaf high (Origin.fresh e f is) =
    let bottom : levels_below Large (0 ∷ []) ≡ 0 = ap (levels_below Large) (sym f) ∙ leaf.bottom in absurd (omega (arith, bottom))
leaf_none geometry old new i b rest c p leaf high (Origin.moved x e h f is) =
    let block : leaf_block Large (x ∷ (0 ∷ [])) ≡ c = ap (leaf_block Large) (sym f) ∙ leaf.block in absurd (omega (arith, block, h, high))
leaf_none geometry old new i b rest c p leaf high (Origin.kept other place is) = absurd (other refl)
leaf_none geometry old new i b rest c p leaf high (Origin.none zero) = zero

-- no block number is stored for the logical blocks of the large file after the first eight
large_stored : (geometry : Geometry) (old new : List ℕ) (i b : ℕ) (rest : List ℕ) (c : ℕ) → Fits geometry new → Moves geometry old new i b rest → 8 ≤ c
    → stored geometry new i Large c ≡ 0
large_stored geometry old new i b rest c fits moves high =
    elim (last_place Large c) as (λ o. last_place Large c ≡ o → option_map_or (named geometry new i) o 0 ≡ 0) [
      | None ↦ λ e. refl
      | Some p ↦ λ e.
          let leaf : IsLeaf Large c p = last_leaf Large c p e in
          leaf_none geometry old new i b rest c p leaf high (origin_here geometry old new i b rest p fits moves leaf.place)
    ] refl

-- making a file large does not change its bytes
large_bytes : (geometry : Geometry) (old new : List ℕ) (i b : ℕ) (rest : List ℕ) → Rules3To7With geometry old (b ∷ rest) → IsFile geometry old i
    → Moves geometry old new i b rest → (n : ℕ) → body_byte geometry new i n ≡ body_byte geometry old i n
large_bytes geometry old new i b rest sound file moves n =
    let c = n / 512 in
    let r = n % 512 in
    let low : r < 512 = omega arith in
    let fits : Fits geometry new = fits_len geometry old new moves.alone.len sound.fits in
    let zero_new : zone_byte geometry new 0 r ≡ 0 = zone_byte_out geometry new 0 r (zero_out geometry new fits) in
    let zero_old : zone_byte geometry old 0 r ≡ 0 = zone_byte_out geometry old 0 r (zero_out geometry old sound.fits) in
    body_byte_is geometry new i n
    ∙ (ap (λ f. zone_byte geometry new (stored geometry new i f c) r) moves.large
    ∙ (elim (cases_lt c 8) [
      | inl small ↦
          let first : last_place Large c ≡ Some (c ∷ (0 ∷ [])) = last_large c (omega arith) ∙ ap Some (first_leaf c small) in
          let same : stored geometry new i Large c ≡ named geometry old i (c ∷ []) =
          ap (λ o. option_map_or (named geometry new i) o 0) first ∙ moves.moved c small in
          let was : stored geometry old i Small c ≡ named geometry old i (c ∷ []) = ap (λ o. option_map_or (named geometry old i) o 0) (last_small c small) in
          ap (λ m. zone_byte geometry new m r) same
          ∙ (zone_byte_kept geometry old new (named geometry old i (c ∷ [])) r
          (λ zone. moves.bytes (named geometry old i (c ∷ [])) r zone
          (first_unnamed geometry old b rest sound i (c ∷ []) (old_place geometry old new i b c rest file moves small)) low)
          ∙ sym (ap (λ m. zone_byte geometry old m r) was))
      | inr high ↦
          let was : stored geometry old i Small c ≡ 0 = ap (λ o. option_map_or (named geometry old i) o 0) (has_no_way Small c high) in
          ap (λ m. zone_byte geometry new m r) (large_stored geometry old new i b rest c fits moves high) ∙ (zero_new ∙ sym (ap (λ m. zone_byte geometry old m r) was ∙ zero_old))
    ]
    ∙ sym (body_byte_is geometry old i n ∙ ap (λ f. zone_byte geometry old (stored geometry old i f c) r) moves.small)))

-- moving the addresses to a free block makes a small file large
pub enlarges : (geometry : Geometry) (old new : List ℕ) (i b : ℕ) (rest : List ℕ) → Rules3To7With geometry old (b ∷ rest) → IsFile geometry old i
    → Moves geometry old new i b rest → Enlarges geometry old new i (b ∷ rest)
enlarges geometry old new i b rest sound file moves =
    let file_new : IsFile geometry new i = record { first = file.first; last = file.last; kind = ap has_places moves.kind ∙ file.kind } in
    let fits : Fits geometry new = fits_len geometry old new moves.alone.len sound.fits in
    let some : b ≢ 0 = zone_some geometry old b sound.fits (first_zoned geometry old b rest sound) in
    record {
      first = b;
      rest = rest;
      free = refl;
      alone = moves.alone;
      sound = large_sound geometry old new i b rest sound file moves;
      covered = large_covered geometry old new i b rest sound file moves file_new;
      form = moves.large;
      mode = moves.mode;
      size = moves.size;
      names = large_names geometry old new i b rest fits some moves;
      bytes = large_bytes geometry old new i b rest sound file moves;
      is = moves.first;
      some = some;
      kept = λ p place.
          let at = small_place p (subst (λ f. IsPlace f p) moves.small place.place) in
          ap (λ q. named geometry new i (q ++ (0 ∷ []))) at.is ∙ (moves.moved at.index at.low ∙ sym (ap (named geometry old i) at.is));
      moved = λ p place.
          let at = small_place p (subst (λ f. IsPlace f p) moves.small place.place) in
          subst (λ q. IsPlaceOf geometry new i (q ++ (0 ∷ []))) (sym at.is) (record {
            file = file_new;
            place = subst (λ f. IsPlace f (at.index ∷ (0 ∷ []))) (sym moves.large) (moved_place at.index at.low);
          });
      unused = λ k r within low.
          moves.bytes k r (free_zone moves.free k within) (λ e. first_once geometry old b rest sound (subst (λ x. IsIn x rest) e within)) low;
    }
