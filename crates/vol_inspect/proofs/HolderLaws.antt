-- Lemmas on a table of holders to which blocks are added.
use Rattle.std.proofs.Common.{◌≡◌, ◌≢◌, ℕ, zero, suc, ◌+◌, ◌*◌, ◌^◌, ◌==◌, ◌≤◌, ◌∙◌, arith, cond, inl, inr, Bool, set, replicate, get_or, sym, ap, subst, refl, List, [], ◌∷◌, ◌++◌, length, Option, None, Some, true, false}
use Rattle.std.specs.Option.{option_or, option_map}
use Rattle.std.specs.List.{find}
use Rattle.std.proofs.lemmas.List.Folds.{find-append}
use Rattle.vol_layout.specs.Geometry.{in_zone}
use Rattle.vol_layout.specs.declared.geometry.Geometry.{Geometry}
use Rattle.vol_inspect.specs.Owners.{is_block, naming}
use Rattle.vol_inspect.specs.Holders.{held, holder_in, Notes, AreNoted, first_of, AreHolders}
use Rattle.vol_reports.proofs.Ranges.{range_more}
use Rattle.std.specs.List.{flat_map, range_with_len}
use Rattle.std.proofs.lemmas.Bool.{cases_eq, true≢false}
use Rattle.std.proofs.lemmas.List.{length-set, get_or-set_other, length-replicate}
use Rattle.vol_inspect.proofs.Owned.{clear}
use Rattle.vol_layout.specs.Edition.{constants}
use Rattle.vol_layout.specs.BlockPointers.{pointer_in}
use Rattle.vol_inspect.specs.Extents.{single, holdings, holdings_from}
use Rattle.vol_inspect.specs.declared.extent.Extent.{Extent}
use Rattle.vol_inspect.specs.declared.holders.Holder.{Holder}

or_none : {A : Type 0} (o : Option A) → o ≡ option_or o None
or_none None = refl
or_none (Some x) = refl

-- nothing is noted
pub notes_none : (g : Geometry) (i : ℕ) (t : List (Option Holder)) → Notes g i t t []
notes_none g i t = record { len = refl; each = λ c zone. or_none (holder_in t c) }

or_map : {A B : Type 0} (f : A → B) (o : Option B) (x y : Option A)
    → option_or (option_or o (option_map f x)) (option_map f y) ≡ option_or o (option_map f (option_or x y))
or_map f (Some o) x y = refl
or_map f None (Some x) y = refl
or_map f None None y = refl

-- blocks noted in two steps are the blocks of the first step followed by those of the second
pub notes_then : (g : Geometry) (i : ℕ) (old mid new : List (Option Holder)) (xs ys : List Extent) → Notes g i old mid xs → Notes g i mid new ys
    → Notes g i old new (xs ++ ys)
notes_then g i old mid new xs ys first next = record {
  len = next.len ∙ first.len;
  each = λ c zone. next.each c zone
      ∙ (ap (λ o. option_or o (option_map (held i) (find (is_block c) ys))) (first.each c zone)
      ∙ (or_map (held i) (holder_in old c) (find (is_block c) xs) (find (is_block c) ys)
      ∙ ap (λ o. option_or (holder_in old c) (option_map (held i) o)) (sym (find-append (is_block c) xs ys))));
}

-- the same blocks, written otherwise
pub notes_as : (g : Geometry) (i : ℕ) (old new : List (Option Holder)) (xs ys : List Extent) → Notes g i old new xs → xs ≡ ys → Notes g i old new ys
notes_as g i old new xs ys done same = subst (λ zs. Notes g i old new zs) same done

-- true of Some
abbrev is_one : {A : Type 0} → Option A → Type 0
is_one None = ⊥
is_one (Some x) = Unit

some_none : {A : Type 0} (x : A) → Some x ≢ None
some_none x h = subst (λ o. is_one o) h tt

or_left : {A : Type 0} (o p : Option A) → option_or o p ≡ None → o ≡ None
or_left None p h = refl
or_left (Some x) p h = h

or_right : {A : Type 0} (o p : Option A) → option_or o p ≡ None → p ≡ None
or_right None p h = h
or_right (Some x) p h = absurd (some_none x h)

map_none : {A B : Type 0} (f : A → B) (o : Option A) → option_map f o ≡ None → o ≡ None
map_none f None h = refl
map_none f (Some x) h = absurd (some_none (f x) h)

-- more holders keep the marks right
pub noted_more : (g : Geometry) (image : List ℕ) (i : ℕ) (old new : List (Option Holder)) (seen : List Bool) (xs : List Extent) → Notes g i old new xs
    → AreNoted g image old seen → AreNoted g image new seen
noted_more g image i old new seen xs done were = record {
  len = were.len;
  none = λ m d logical c zone small there inside none.
      were.none m d logical c zone small there inside (or_left _ _ (sym (done.each c inside) ∙ none));
}

-- blocks of which each has a holder already add nothing
pub notes_rest : (g : Geometry) (i : ℕ) (old new : List (Option Holder)) (e : Extent) (rest : List Extent) → Notes g i old new (e ∷ [])
    → ((c : ℕ) → in_zone g c ≡ true → holder_in new c ≡ None → find (is_block c) (e ∷ rest) ≡ None) → Notes g i old new (e ∷ rest)
notes_rest g i old new e rest done none = record {
  len = done.len;
  each = λ c zone. (elim (is_block c e) as (λ t. holder_in new c ≡ option_or (holder_in old c) (option_map (held i) (cond t (Some e) None))
      → (holder_in new c ≡ None → cond t (Some e) (find (is_block c) rest) ≡ None)
      → holder_in new c ≡ option_or (holder_in old c) (option_map (held i) (cond t (Some e) (find (is_block c) rest)))) [
        | true ↦ λ first later. first
        | false ↦ elim (holder_in old c) as (λ o. holder_in new c ≡ option_or o None → (holder_in new c ≡ None → find (is_block c) rest ≡ None)
            → holder_in new c ≡ option_or o (option_map (held i) (find (is_block c) rest))) [
              | None ↦ λ first later. first ∙ sym (ap (option_map (held i)) (later first))
              | Some h ↦ λ first later. first
            ]
      ]) (done.each c zone) (none c zone);
}

none_flat : {X A : Type 0} (p : A → Bool) (f h : X → List A) (xs : List X) → ((x : X) → find p (f x) ≡ None → find p (h x) ≡ None)
    → find p (flat_map f xs) ≡ None → find p (flat_map h xs) ≡ None
none_flat p f h [] each none = refl
none_flat p f h (x ∷ xs) each none =
    let both : option_or (find p (f x)) (find p (flat_map f xs)) ≡ None = sym (find-append p (f x) (flat_map f xs)) ∙ none in
    find-append p (h x) (flat_map h xs)
    ∙ (ap (λ o. option_or o (find p (flat_map h xs))) (each x (or_left _ _ both)) ∙ none_flat p f h xs each (or_right _ _ both))

-- whether a block is below a number doesn't depend on the logical block at which this begins
pub level_free : (g : Geometry) (image : List ℕ) (d l k m c : ℕ) → find (is_block c) (holdings_from g image d l m) ≡ None
    → find (is_block c) (holdings_from g image d k m) ≡ None
unfolding holdings_from
level_free g image zero l k m c =
    elim (m == 0) as (λ t. find (is_block c) (cond t [] (single g 0 l m ∷ [])) ≡ None → find (is_block c) (cond t [] (single g 0 k m ∷ [])) ≡ None) [
      | true ↦ λ h. refl
      | false ↦ elim (m == c) as (λ t. cond t (Some (single g 0 l m)) None ≡ None → cond t (Some (single g 0 k m)) None ≡ None) [
        | true ↦ λ h. absurd (some_none _ h)
        | false ↦ λ h. refl
      ]
    ]
level_free g image (suc d) l k m c =
    let p = (constants g.edition).pointers in
    let below = λ (x : ℕ). flat_map (λ j. holdings_from g image d (x + j * p ^ d) (pointer_in g image m j)) (range_with_len 0 p) in
    elim (m == 0) as (λ t. find (is_block c) (cond t [] (single g (suc d) l m ∷ below l)) ≡ None
    → find (is_block c) (cond t [] (single g (suc d) k m ∷ below k)) ≡ None) [
      | true ↦ λ h. refl
      | false ↦ elim (m == c) as (λ t. cond t (Some (single g (suc d) l m)) (find (is_block c) (below l)) ≡ None
          → cond t (Some (single g (suc d) k m)) (find (is_block c) (below k)) ≡ None) [
            | true ↦ λ h. absurd (some_none _ h)
            | false ↦ λ h. none_flat (is_block c) (λ j. holdings_from g image d (l + j * p ^ d) (pointer_in g image m j))
                (λ j. holdings_from g image d (k + j * p ^ d) (pointer_in g image m j)) (range_with_len 0 p)
                (λ j none. level_free g image d (l + j * p ^ d) (k + j * p ^ d) (pointer_in g image m j) c none) h
          ]
    ]

-- marking a block below which all blocks have holders keeps the marks right
pub noted_marked : (g : Geometry) (image : List ℕ) (i : ℕ) (old new : List (Option Holder)) (seen : List Bool) (m d logical at : ℕ)
    → Notes g i old new (holdings_from g image d logical m) → AreNoted g image new seen → at ≡ 4 * m + d → d ≤ 3 → AreNoted g image new (set seen at true)
noted_marked g image i old new seen m d logical at done were is few = record {
  len = length-set seen at true ∙ were.len;
  none = λ n e l c zone small there inside none. elim (cases_eq at (4 * n + e)) [
    | inl same ↦
        let block : m ≡ n = omega (arith, same, is, few, small) in
        let level : d ≡ e = omega (arith, same, is, few, small) in
        let here : find (is_block c) (holdings_from g image d logical m) ≡ None =
        map_none (held i) _ (or_right _ _ (sym (done.each c inside) ∙ none)) in
        (λ j. find (is_block c) (holdings_from g image (sym level j) l (sym block j))) ∙ level_free g image d logical l m c here
    | inr other ↦ were.none n e l c zone small (sym (get_or-set_other seen at (4 * n + e) true false (λ s. other (sym s))) ∙ there) inside none
  ];
}

or_assoc : {A : Type 0} (a b c : Option A) → option_or (option_or a b) c ≡ option_or a (option_or b c)
or_assoc None b c = refl
or_assoc (Some x) b c = refl

first_push : (g : Geometry) (image : List ℕ) (c i : ℕ) (xs : List ℕ)
    → first_of g image c (xs ++ i ∷ []) ≡ option_or (first_of g image c xs) (option_map (held i) (naming g image c i))
unfolding first_of
first_push g image c i [] = sym (or_none (option_map (held i) (naming g image c i)))
first_push g image c i (x ∷ xs) =
    ap (λ o. option_or (option_map (held x) (naming g image c x)) o) (first_push g image c i xs)
    ∙ sym (or_assoc (option_map (held x) (naming g image c x)) (first_of g image c xs) (option_map (held i) (naming g image c i)))

-- with the blocks of one more i-node, each data block has the first of one more i-node
pub holders_more : (g : Geometry) (image : List ℕ) (n i m : ℕ) (old new : List (Option Holder)) → i ≡ 1 + n → m ≡ n + 1 → AreHolders g image n old
    → Notes g i old new (holdings g image i) → AreHolders g image m new
unfolding naming
holders_more g image n i m old new is more were done = λ c zone.
    done.each c zone ∙ (ap (λ o. option_or o (option_map (held i) (naming g image c i))) (were c zone)
    ∙ (sym (first_push g image c i (range_with_len 1 n)) ∙ ap (first_of g image c) (sym (range_more 1 n m i more (sym is)))))

blank : (n c : ℕ) → holder_in (replicate n None) c ≡ None
blank zero c = refl
blank (suc n) zero = refl
blank (suc n) (suc c) = blank n c

-- at first no block has a holder
pub holders_none : (g : Geometry) (image : List ℕ) (table : List (Option Holder)) → table ≡ replicate g.zone_end None → AreHolders g image 0 table
unfolding first_of
holders_none g image table is = λ c zone. ap (λ t. holder_in t c) is ∙ blank g.zone_end c

-- at first there are no marks
pub noted_none : (g : Geometry) (image : List ℕ) (table : List (Option Holder)) (seen : List Bool) → seen ≡ replicate (4 * g.zone_end) false
    → AreNoted g image table seen
noted_none g image table seen is = record {
  len = ap length is ∙ length-replicate (4 * g.zone_end) false;
  none = λ m d logical c zone few there inside none.
      absurd (true≢false (sym there ∙ (ap (λ ms. get_or ms (4 * m + d) false) is ∙ clear (4 * g.zone_end) (4 * m + d))));
}
