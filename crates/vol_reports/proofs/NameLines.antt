-- The naming entries that were found give the paths of the name report.
use Rattle.std.proofs.Common.{◌≡◌, ◌≢◌, ◌⊎◌, inl, inr, ℕ, zero, suc, ◌+◌, ◌<◌, ◌≤◌, Bool, true, cond, eqb, ◌&&◌, List, [], ◌∷◌, ◌++◌, map, Option, Some, None, length, Bor, refl, sym, ap, ◌∙◌, subst, arith}
use Rattle.std.specs.List.{Contains, All, sum_by, flat_map, range_with_len}
use Rattle.std.specs.Str.{bytes_eq}
use Rattle.std.proofs.lemmas.List.Elements.{All-append, All-cons, All-contains, Contains-append_cases, Contains-append_right, Contains-push_cases}
use Rattle.std.proofs.lemmas.List.Sums.{sum_by-append}
use Rattle.std.proofs.lemmas.Bool.{eqb-true, eq-eqb, ne_eqb, cases_eq, cases_Bool, and_parts, and_from}
use Rattle.vol_layout.specs.declared.geometry.Geometry.{Geometry}
use Rattle.vol_layout.specs.declared.mode.Kind.{Kind}
use Rattle.vol_layout.specs.declared.mode.Kind.TheVariants as kinds
use Rattle.vol_file.specs.Rules.{kind_at}
use Rattle.vol_file.proofs.PlaceLists.{bytes_same, same_bytes}
use Rattle.vol_dir.specs.Entries.{entry_at, slot_count}
use Rattle.vol_dir.specs.Names.{is_dots}
use Rattle.vol_dir.proofs.Searches.{slots_low}
use Rattle.vol_judge.specs.Directories.{root_of}
use Rattle.vol_judge.specs.Steps.{rank}
use Rattle.vol_reports.specs.Placed.{Placed, placed}
use Rattle.vol_reports.specs.Ncheck.{slashed, entered, entries_of, entries_in, all_entries, naming_entry, path_up, named_path, named_paths}
use Rattle.vol_reports.specs.Counted.{CountsNames, rank_of}
use Rattle.vol_reports.specs.Climb.{naming_in, IsNaming, HasNaming, path_in}

-- a first item adds its weight to a sum
sum_front : {X : Type 0} (f : X → ℕ) (x : X) (xs : List X) → sum_by f (x ∷ xs) ≡ f x + sum_by f xs
sum_front f x xs = sum_by-append f (x ∷ []) xs ∙ ap (λ n. n + sum_by f xs) (omega arith)

-- a list has its first item
in_front : {X : Type 0} (x : X) (xs : List X) → Contains (x ∷ xs) x
in_front x xs = (0, omega arith, refl)

-- a list has each item of its rest
in_rest : {X : Type 0} (x y : X) (xs : List X) → Contains xs y → Contains (x ∷ xs) y
in_rest x y xs has = Contains-append_right (x ∷ []) xs y has

-- an item of a list is its first item, or an item of the rest
in_cases : {X : Type 0} (x y : X) (xs : List X) → Contains (x ∷ xs) y → (x ≡ y) ⊎ Contains xs y
in_cases x y xs has =
    elim (Contains-append_cases (x ∷ []) xs y has) [
      | inl first ↦ inl (elim (Contains-push_cases [] x y first) [ inl none ↦ absurd (omega (arith, none.1)) | inr same ↦ same ])
      | inr rest ↦ inr rest
    ]

-- an item weighs at most as much as the whole list
weight_in : {X : Type 0} (f : X → ℕ) (xs : List X) (x : X) → Contains xs x → f x ≤ sum_by f xs
weight_in f [] x has = absurd (omega (arith, has.1))
weight_in f (y ∷ xs) x has =
    let e = sum_front f y xs in
    elim (in_cases y x xs has) [
      | inl first ↦ let h = ap f first in omega (arith, e, h)
      | inr rest ↦ let h = weight_in f xs x rest in omega (arith, e, h)
    ]

-- if a count of the items that pass a test isn't 0, one of them passes it
some_weighs : {X : Type 0} (t : X → Bool) (xs : List X) → 1 ≤ sum_by (λ x. cond (t x) 1 0) xs → (x : X) × Contains xs x × (t x ≡ true)
some_weighs t [] low = absurd (omega arith)
some_weighs t (y ∷ xs) low =
    elim (cases_Bool (t y)) [
      | inl passes ↦ (y, in_front y xs, passes)
      | inr fails ↦
          let e = sum_front (λ x. cond (t x) 1 0) y xs in
          let none : ◌≡◌ {A = ℕ} (cond (t y) 1 0) 0 = ap (λ b. cond b 1 0) fails in
          let found = some_weighs t xs (omega (arith, e, none, low)) in
          (found.0, in_rest y found.0 xs found.1, found.2)
    ]

-- true if two entries are the same
same_entry : Placed → Placed → Bool
same_entry a b = (eqb a.directory b.directory && eqb a.slot b.slot) && (eqb a.inode b.inode && bytes_eq a.name b.name)

-- entries with the same fields are the same
same_fields : (a b : Placed) → a.directory ≡ b.directory → a.slot ≡ b.slot → a.inode ≡ b.inode → a.name ≡ b.name → a ≡ b
same_fields a b d s i n =
    ap (λ x. placed x a.slot a.inode a.name) d ∙ (ap (λ x. placed b.directory x a.inode a.name) s
    ∙ (ap (λ x. placed b.directory b.slot x a.name) i ∙ ap (placed b.directory b.slot b.inode) n))

-- entries that the test finds the same are equal
same_true : (a b : Placed) → same_entry a b ≡ true → a ≡ b
unfolding same_entry
same_true a b is =
    let halves = and_parts (eqb a.directory b.directory && eqb a.slot b.slot) (eqb a.inode b.inode && bytes_eq a.name b.name) is in
    let places = and_parts (eqb a.directory b.directory) (eqb a.slot b.slot) halves.0 in
    let values = and_parts (eqb a.inode b.inode) (bytes_eq a.name b.name) halves.1 in
    same_fields a b (eqb-true a.directory b.directory places.0) (eqb-true a.slot b.slot places.1) (eqb-true a.inode b.inode values.0)
    (same_bytes a.name b.name values.1)

-- an entry is the same as itself
same_itself : (a : Placed) → same_entry a a ≡ true
unfolding same_entry
same_itself a = and_from _ _ (and_from _ _ (eq-eqb a.directory a.directory refl) (eq-eqb a.slot a.slot refl)) (and_from _ _ (eq-eqb a.inode a.inode refl) (bytes_same a.name a.name refl))

-- lists with equal sums under every weight have the same entries
member_moves : (xs ys : List Placed) → ((weight : Placed → ℕ) → sum_by weight xs ≡ sum_by weight ys) → (entry : Placed) → Contains xs entry → Contains ys entry
member_moves xs ys same entry has =
    let weighs = weight_in (λ x. cond (same_entry x entry) 1 0) xs entry has in
    let one : ◌≡◌ {A = ℕ} (cond (same_entry entry entry) 1 0) 1 = ap (λ b. cond b 1 0) (same_itself entry) in
    let e = same (λ x. cond (same_entry x entry) 1 0) in
    let found = some_weighs (λ x. same_entry x entry) ys (omega (arith, weighs, one, e)) in
    subst (Contains ys) (same_true found.0 entry found.2) found.1

-- the first entry is the naming entry if it is for the i-number
first_here : (i : ℕ) (first : Placed) (entries : List Placed) → first.inode ≡ i → naming_entry i (first ∷ entries) ≡ Some first
unfolding naming_entry
first_here i first entries here = rw (eq-eqb first.inode i here) refl

-- if the first entry isn't for the i-number, the naming entry is that of the rest
first_other : (i : ℕ) (first : Placed) (entries : List Placed) → first.inode ≢ i → naming_entry i (first ∷ entries) ≡ naming_entry i entries
unfolding naming_entry
first_other i first entries other = rw (ne_eqb first.inode i other) refl

-- the naming entry is for the i-number, and is one of the entries
naming_some : (i : ℕ) (entries : List Placed) (entry : Placed) → naming_entry i entries ≡ Some entry → (entry.inode ≡ i) × Contains entries entry
unfolding naming_entry
naming_some i [] entry is = absurd (cc)
naming_some i (first ∷ entries) entry is =
    elim (cases_eq first.inode i) [
      | inl here ↦
          let same : Some first ≡ Some entry = sym (first_here i first entries here) ∙ is in
          let e : first ≡ entry = cc in
          subst (λ x. (x.inode ≡ i) × Contains (first ∷ entries) x) e (here, in_front first entries)
      | inr other ↦
          let rest = naming_some i entries entry (sym (first_other i first entries other) ∙ is) in
          (rest.0, in_rest first entry entries rest.1)
    ]

-- if an i-number has no naming entry, no entry is for it
naming_never : (i : ℕ) (entries : List Placed) → naming_entry i entries ≡ None → (entry : Placed) → Contains entries entry → entry.inode ≢ i
unfolding naming_entry
naming_never i [] is entry has = absurd (omega (arith, has.1))
naming_never i (first ∷ entries) is entry has =
    elim (cases_eq first.inode i) [
      | inl here ↦ let e : Some first ≡ None = sym (first_here i first entries here) ∙ is in absurd (cc)
      | inr other ↦ elim (in_cases first entry entries has) [
        | inl same ↦ subst (λ x. x.inode ≢ i) same other
        | inr rest ↦ naming_never i entries (sym (first_other i first entries other) ∙ is) entry rest
      ]
    ]

-- an entry is that of a slot of a directory in the image
record IsOfImage (g : Geometry) (image : List ℕ) (entry : Placed) : Type 0 where
  first : 1 ≤ entry.directory
  last : entry.directory ≤ g.last_inode
  low : entry.slot < 4294967296
  slot : entry_at g image entry.directory entry.slot ≡ Some (entry.name, entry.inode)

-- a property of all elements of each list over a range is a property of all elements of their concatenation
all_flat : {A : Type 0} (P : A → Type 0) (f : ℕ → List A) (a n : ℕ) → ((j : ℕ) → a ≤ j → j < a + n → All P (f j)) → All P (flat_map f (range_with_len a n))
all_flat P f a zero each = λ k d low. absurd (omega (arith, low))
all_flat P f a (suc n) each =
    All-append P (f a) (flat_map f (range_with_len (a + 1) n)) (each a (omega arith) (omega arith))
    (all_flat P f (a + 1) n (λ j low high. each j (omega arith) (omega arith)))

-- a directory has fewer than 2^32 slots
slots_few : (g : Geometry) (image : List ℕ) (d s : ℕ) → s < slot_count g image d → s < 4294967296
slots_few g image d s low = omega (arith, low, slots_low g image d)

-- the entry of a slot of the image satisfies `IsOfImage`
slot_of_image : (g : Geometry) (image : List ℕ) (d s : ℕ) (o : Option (List ℕ × ℕ)) → 1 ≤ d → d ≤ g.last_inode → s < slot_count g image d
    → entry_at g image d s ≡ o → All (IsOfImage g image) (entered d s o)
slot_of_image g image d s None first last low is = λ k e none. absurd (omega (arith, none))
slot_of_image g image d s (Some entry) first last low is =
    let of : IsOfImage g image (placed d s entry.1 entry.0) = record { first = first; last = last; low = slots_few g image d s low; slot = is } in
    let one : All (IsOfImage g image) (placed d s entry.1 entry.0 ∷ []) =
    All-cons (IsOfImage g image) (placed d s entry.1 entry.0) [] of (λ k e none. absurd (omega (arith, none))) in
    elim (cases_Bool (is_dots entry.0)) [
      | inl yes_dots ↦ rw yes_dots (λ k e none. absurd (omega (arith, none)))
      | inr other ↦ rw other one
    ]

-- each entry in an i-number of this kind satisfies `IsOfImage`
kind_of_image : (g : Geometry) (image : List ℕ) (d : ℕ) → 1 ≤ d → d ≤ g.last_inode → (kind : Kind) → All (IsOfImage g image) (entries_in g image d kind)
unfolding entries_of
kind_of_image g image d low high kinds.Directory =
    all_flat (IsOfImage g image) (λ s. entered d s (entry_at g image d s)) 0 (slot_count g image d) (λ s first below.
    slot_of_image g image d s (entry_at g image d s) low high (omega arith) refl)
kind_of_image g image d low high kinds.Free = λ k e none. absurd (omega (arith, none))
kind_of_image g image d low high kinds.Regular = λ k e none. absurd (omega (arith, none))
kind_of_image g image d low high kinds.Special = λ k e none. absurd (omega (arith, none))
kind_of_image g image d low high kinds.Odd = λ k e none. absurd (omega (arith, none))

-- each entry of an image satisfies `IsOfImage`
all_of_image : (g : Geometry) (image : List ℕ) → All (IsOfImage g image) (all_entries g image)
unfolding all_entries
all_of_image g image =
    all_flat (IsOfImage g image) (λ d. entries_in g image d (kind_at g image d)) 1 g.last_inode (λ d low high.
    kind_of_image g image d low (omega arith) (kind_at g image d))

-- equal options have equal values
some_same : {A : Type 0} (x y : A) → Some x ≡ Some y → x ≡ y
some_same x y e = cc

-- two entries of an image with the same rank are equal
rank_once : {g : Geometry} {image : List ℕ} (a b : Placed) → IsOfImage g image a → IsOfImage g image b
    → rank a.directory a.slot ≡ rank b.directory b.slot → a ≡ b
rank_once {g} {image} a b first second same =
    let d : a.directory ≡ b.directory = omega (arith, same, first.low, second.low) in
    let s : a.slot ≡ b.slot = omega (arith, same, first.low, second.low) in
    let e : Some (a.name, a.inode) ≡ Some (b.name, b.inode) =
    sym first.slot ∙ (ap (λ x. entry_at g image x a.slot) d ∙ (ap (λ x. entry_at g image b.directory x) s ∙ second.slot)) in
    let pair : (a.name, a.inode) ≡ (b.name, b.inode) = some_same (a.name, a.inode) (b.name, b.inode) e in
    same_fields a b d s (ap (λ x. x.1) pair) (ap (λ x. x.0) pair)

-- an option is `Some` or `None`
some_or_none : {A : Type 0} (o : Option A) → ((x : A) × (o ≡ Some x)) ⊎ (o ≡ None)
some_or_none None = inr refl
some_or_none (Some x) = inl (x, refl)

-- the naming entry found for an i-number is its naming entry in the image
naming_right : {g : Geometry} {image words : List ℕ} {entries : List Placed} {naming : List (Option (Bor Placed))} (i : ℕ) → CountsNames g image words entries
    → 1 ≤ i → i ≤ g.last_inode → HasNaming words entries naming i → naming_in naming i ≡ naming_entry i (all_entries g image)
naming_right {g} {image} {words} {entries} {naming} i counts low high has =
    let all = all_entries g image in
    let backward : (weight : Placed → ℕ) → sum_by weight all ≡ sum_by weight entries = λ weight. sym (counts.same weight) in
    elim (some_or_none (naming_in naming i)) [
      | inl some ↦
          let found = has.found some.0 some.1 in
          let here = member_moves entries all counts.same some.0 found.1 in
          elim (some_or_none (naming_entry i all)) [
            | inl named ↦
                let right = naming_some i all named.0 named.1 in
                let ranks : rank some.0.directory some.0.slot ≡ rank named.0.directory named.0.slot =
                found.0.first ∙ (counts.ranks i low high ∙ ap rank_of named.1) in
                let e = rank_once some.0 named.0 (All-contains (IsOfImage g image) all some.0 (all_of_image g image) here)
                (All-contains (IsOfImage g image) all named.0 (all_of_image g image) right.1) ranks in
                some.1 ∙ (ap Some e ∙ sym named.1)
            | inr none ↦ absurd (naming_never i all none some.0 here found.0.inode)
          ]
      | inr missing ↦
          elim (some_or_none (naming_entry i all)) [
            | inl named ↦
                let right = naming_some i all named.0 named.1 in
                let is : IsNaming words i named.0 = record { inode = right.0; first = sym (counts.ranks i low high ∙ ap rank_of named.1) } in
                absurd (has.missing missing named.0 (member_moves all entries backward named.0 right.1) is)
            | inr none ↦ missing ∙ sym none
          ]
    ]

-- paths are the same if the naming entries of all directories are the same
path_same : (root last : ℕ) (f h : ℕ → Option Placed) → ((i : ℕ) → 1 ≤ i → i ≤ last → f i ≡ h i)
    → ((i : ℕ) (entry : Placed) → h i ≡ Some entry → (1 ≤ entry.directory) × (entry.directory ≤ last))
    → (fuel : ℕ) (met : List ℕ) (d : ℕ) → 1 ≤ d → d ≤ last → path_up root f fuel met d ≡ path_up root h fuel met d
unfolding path_up
path_same root last f h same inside zero met d low high = refl
path_same root last f h same inside (suc fuel) met d low high =
    let e = same d low high in
    elim (some_or_none (h d)) [
      | inl some ↦
          let to = inside d some.0 some.1 in
          let rest = path_same root last f h same inside fuel (d ∷ met) some.0.directory to.0 to.1 in
          rw (e, some.1, rest) refl
      | inr none ↦ rw (e, none) refl
    ]

-- a sum over mapped items is the sum of their mapped weights
sum_map : {X Y : Type 0} (f : Y → ℕ) (h : X → Y) (xs : List X) → sum_by f (map h xs) ≡ sum_by (λ x. f (h x)) xs
sum_map f h [] = refl
sum_map f h (x ∷ xs) = sum_front f (h x) (map h xs) ∙ (ap (λ n. f (h x) + n) (sum_map f h xs) ∙ sym (sum_front (λ y. f (h y)) x xs))

-- sums are equal if all items have equal weights
sum_same : {X : Type 0} (f h : X → ℕ) (xs : List X) → ((x : X) → Contains xs x → f x ≡ h x) → sum_by f xs ≡ sum_by h xs
sum_same f h [] same = refl
sum_same f h (x ∷ xs) same =
    sum_front f x xs ∙ (ap (λ n. n + sum_by f xs) (same x (in_front x xs))
    ∙ (ap (λ n. h x + n) (sum_same f h xs (λ y has. same y (in_rest x y xs has))) ∙ sym (sum_front h x xs)))

-- the paths found have the same sum as those of the report, under every weight
pub paths_weigh : {g : Geometry} {image words : List ℕ} {entries : List Placed} {naming : List (Option (Bor Placed))} → CountsNames g image words entries
    → length naming ≡ g.last_inode + 1 → ((i : ℕ) → i ≤ g.last_inode → HasNaming words entries naming i) → (weight : ℕ × List ℕ → ℕ)
    → sum_by weight (map (path_in (root_of g) naming) entries) ≡ sum_by weight (named_paths g image)
unfolding named_paths
paths_weigh {g} {image} {words} {entries} {naming} counts wide has weight =
    let all = all_entries g image in
    let named : ℕ → Option Placed = λ i. naming_entry i all in
    let inside : (i : ℕ) (entry : Placed) → named i ≡ Some entry → (1 ≤ entry.directory) × (entry.directory ≤ g.last_inode) =
    λ i entry is. let of = All-contains (IsOfImage g image) all entry (all_of_image g image) (naming_some i all entry is).1 in (of.first, of.last) in
    let fuel : length naming + 1 ≡ g.last_inode + 2 = omega (arith, wide) in
    let path : (entry : Placed) → Contains all entry → path_in (root_of g) naming entry ≡ named_path g named entry =
    λ entry here.
    let of = All-contains (IsOfImage g image) all entry (all_of_image g image) here in
    ap (λ p. (entry.inode, p ++ slashed entry.name))
    (ap (λ n. path_up (root_of g) (naming_in naming) n [] entry.directory) fuel
    ∙ path_same (root_of g) g.last_inode (naming_in naming) named (λ i low high. naming_right i counts low high (has i high)) inside
    (g.last_inode + 2) [] entry.directory of.first of.last) in
    sum_map weight (path_in (root_of g) naming) entries
    ∙ (counts.same (λ entry. weight (path_in (root_of g) naming entry))
    ∙ (sum_same (λ entry. weight (path_in (root_of g) naming entry)) (λ entry. weight (named_path g named entry)) all (λ entry here. ap weight (path entry here))
    ∙ sym (sum_map weight (named_path g named) all)))
