-- The positions in the block map for which a write allocates blocks, and their number.
use Rattle.std.proofs.Common.{◌≡◌, ℕ, ◌+◌, ◌∙◌, sym, ap, subst, List, [], ◌∷◌, ◌++◌, length, filter, reverse, refl, arith, true, false, true≢false, Bool, None, Some, inl, inr}
use Rattle.std.specs.Prelude.{◌&&◌, ◌||◌, not, if◌then◌else◌}
use Rattle.std.specs.Option.{option_map_or}
use Rattle.std.specs.List.{count_by, list_any}
use Rattle.std.specs.Str.{bytes_eq}
use Rattle.std.proofs.lemmas.Bool.{or_parts, or_cases}
use Rattle.std.proofs.lemmas.List.{length-append, reverse-reverse}
use Rattle.vol_layout.specs.BlockMaps.{last_place, fronts, way, places}
use Rattle.vol_layout.specs.declared.block_map.BlockMap.{BlockMap}
use Rattle.vol_layout.specs.declared.block_map.BlockMap.TheVariants.{Large}
use Rattle.vol_layout.proofs.PlaceLaws.{last_leaf}
use Rattle.vol_file.specs.Laws.{IsAmong}
use Rattle.vol_file.specs.MissingBlocks.{missing_to}
use Rattle.vol_file.specs.Need.{missing_count, need_of, missing_on_way, missing_places, places_taken}
use Rattle.vol_file.specs.Shape.{is_on_ways, grows_large, moved_down}
use Rattle.vol_file.specs.Steps.{unnamed_of}
use Rattle.vol_file.proofs.PlaceLists.{among_append, bytes_same, same_bytes, count_same, count_none}
use Rattle.vol_file.proofs.Lasts.{or_true}
use Rattle.vol_file.proofs.ReachedPlaces.{unnamed_step}
use Rattle.vol_file.proofs.Ranges.{among_reverse}
use Rattle.vol_file.proofs.MissingLaws.{is_new, count_apart, fronts_new, count_new}

-- an item of a filtered list is in the list and passes the test
among_filter : (f : List ℕ → Bool) (p : List ℕ) (qs : List (List ℕ)) → IsAmong p (filter f qs) → IsAmong p qs × (f p ≡ true)
among_filter f p [] among = absurd among
among_filter f p (q ∷ qs) among =
    elim (f q) as (λ t. f q ≡ t → IsAmong p (if t then q ∷ filter f qs else filter f qs) → IsAmong p (q ∷ qs) × (f p ≡ true)) [
      | true ↦ λ e on. elim on [
        | inl here ↦ (inl here, ap f here ∙ e)
        | inr later ↦ let rest = among_filter f p qs later in (inr rest.0, rest.1)
      ]
      | false ↦ λ e on. let rest = among_filter f p qs on in (inr rest.0, rest.1)
    ] refl among

-- an item of a list that passes the test is in the filtered list
filter_among : (f : List ℕ → Bool) (p : List ℕ) (qs : List (List ℕ)) → IsAmong p qs → f p ≡ true → IsAmong p (filter f qs)
filter_among f p [] among e = among
filter_among f p (q ∷ qs) (inl here) e =
    subst (λ t. IsAmong p (if t then q ∷ filter f qs else filter f qs)) (sym (ap f (sym here) ∙ e)) (inl here)
filter_among f p (q ∷ qs) (inr later) e =
    let rest = filter_among f p qs later e in
    elim (f q) as (λ t. IsAmong p (if t then q ∷ filter f qs else filter f qs)) [ true ↦ inr rest | false ↦ rest ]

-- a search finds a position in the block map that is in the list
among_any : (p : List ℕ) (qs : List (List ℕ)) → IsAmong p qs → list_any (bytes_eq p) qs ≡ true
among_any p [] among = absurd among
among_any p (q ∷ qs) (inl here) = ap (λ t. t || list_any (bytes_eq p) qs) (bytes_same p q here)
among_any p (q ∷ qs) (inr later) = ap (λ t. bytes_eq p q || t) (among_any p qs later) ∙ or_true (bytes_eq p q)

-- a position in the block map that a search finds is in the list
any_among : (p : List ℕ) (qs : List (List ℕ)) → list_any (bytes_eq p) qs ≡ true → IsAmong p qs
any_among p [] e = absurd (true≢false (sym e))
any_among p (q ∷ qs) e = elim (or_cases (bytes_eq p q) (list_any (bytes_eq p) qs) e) [
  | inl here ↦ inl (same_bytes p q here)
  | inr later ↦ inr (any_among p qs later)
]

-- an item of a list is in the reversed list
reverse_among : (p : List ℕ) (qs : List (List ℕ)) → IsAmong p qs → IsAmong p (reverse qs)
reverse_among p qs among = among_reverse p (reverse qs) (subst (IsAmong p) (sym (reverse-reverse qs)) among)

-- an item of the first list is in the joined lists
among_first : (p : List ℕ) (ps qs : List (List ℕ)) → IsAmong p ps → IsAmong p (ps ++ qs)
among_first p [] qs among = absurd among
among_first p (q ∷ ps) qs (inl here) = inl here
among_first p (q ∷ ps) qs (inr later) = inr (among_first p ps qs later)

-- an item of the second list is in the joined lists
among_second : (p : List ℕ) (ps qs : List (List ℕ)) → IsAmong p qs → IsAmong p (ps ++ qs)
among_second p [] qs among = among
among_second p (q ∷ ps) qs among = inr (among_second p ps qs among)

-- if `not x` is true, `x` is false
not_true : (x : Bool) → not x ≡ true → x ≡ false
not_true true e = absurd (true≢false (sym e))
not_true false e = refl

-- a missing position in the block map is on one of the paths and points to no block
pub missing_unnamed : (form : BlockMap) (names : List ℕ → Bool) (blocks p : List ℕ) → IsAmong p (missing_places form names blocks)
    → (is_on_ways form blocks p ≡ true) × (names p ≡ false)
unfolding missing_places
missing_unnamed form names [] p among = absurd among
missing_unnamed form names (b ∷ blocks) p among =
    let more : List ℕ → Bool = λ q. names q || list_any (bytes_eq q) (way form b) in
    elim (among_append p (missing_on_way form names b) (missing_places form more blocks) among) [
      | inl here ↦
          let part = among_filter (λ q. not (names q)) p (reverse (way form b)) here in (
            ap (λ t. t || is_on_ways form blocks p) (among_any p (way form b) (among_reverse p (way form b) part.0)),
            not_true (names p) part.1,
          )
      | inr later ↦
          let rest = missing_unnamed form more blocks p later in (
            ap (λ t. list_any (bytes_eq p) (way form b) || t) rest.0 ∙ or_true (list_any (bytes_eq p) (way form b)),
            (or_parts (names p) (list_any (bytes_eq p) (way form b)) rest.1).0,
          )
    ]

-- a position in the block map that is on one of the paths and points to no block is missing
pub unnamed_missing : (form : BlockMap) (names : List ℕ → Bool) (blocks p : List ℕ) → (is_on_ways form blocks p ≡ true) × (names p ≡ false)
    → IsAmong p (missing_places form names blocks)
unfolding missing_places
unnamed_missing form names [] p (on, none) = absurd (true≢false (sym on))
unnamed_missing form names (b ∷ blocks) p (on, none) =
    let more : List ℕ → Bool = λ q. names q || list_any (bytes_eq q) (way form b) in
    elim (list_any (bytes_eq p) (way form b)) as (λ t. list_any (bytes_eq p) (way form b) ≡ t → (t || is_on_ways form blocks p) ≡ true
    → IsAmong p (missing_on_way form names b ++ missing_places form more blocks)) [
      | true ↦ λ here some. among_first p (missing_on_way form names b) (missing_places form more blocks)
          (filter_among (λ q. not (names q)) p (reverse (way form b)) (reverse_among p (way form b) (any_among p (way form b) here)) (ap not none))
      | false ↦ λ away some. among_second p (missing_on_way form names b) (missing_places form more blocks)
          (unnamed_missing form more blocks p (some, ap (λ t. t || list_any (bytes_eq p) (way form b)) none ∙ away))
    ] refl on

-- a list of one position in the block map has one missing position if it points to no block, else none
length_one : (names : List ℕ → Bool) (q : List ℕ) → length (unnamed_of names (q ∷ [])) ≡ (if names q then 0 else 1)
length_one names q = elim (names q) as (λ t. length (if not t then q ∷ [] else []) ≡ (if t then 0 else 1)) [ true ↦ refl | false ↦ refl ]

-- the number of positions in the block map on the path to `q` that point to no block is `missing_to`
length_fronts : (names : List ℕ → Bool) (q : List ℕ) → length (unnamed_of names (fronts q)) ≡ missing_to names true q
length_fronts names [] = refl
length_fronts names (k ∷ []) = length_one names (k ∷ [])
length_fronts names (j ∷ (a ∷ p)) =
    let rest : length (unnamed_of names (fronts (a ∷ p))) ≡ missing_to names true (a ∷ p) = length_fronts names (a ∷ p) in
    let one = length_one names (j ∷ (a ∷ p)) in
    ap length (unnamed_step names (j ∷ (a ∷ p)) (fronts (a ∷ p)))
    ∙ (length-append (unnamed_of names (fronts (a ∷ p))) (unnamed_of names ((j ∷ (a ∷ p)) ∷ [])) ∙ omega (arith, rest, one))

-- the length of the list of positions in the block map missing on one path is their count among all positions
length_way : (form : BlockMap) (names : List ℕ → Bool) (b : ℕ)
    → length (missing_on_way form names b) ≡ count_by (λ p. list_any (bytes_eq p) (way form b) && not (names p)) (places form)
length_way form names b =
    elim (last_place form b) as (λ o. last_place form b ≡ o → length (unnamed_of names (option_map_or fronts o []))
    ≡ count_by (λ p. list_any (bytes_eq p) (option_map_or fronts o []) && not (names p)) (places form)) [
      | None ↦ λ e. sym (count_none (λ p. false) (places form) (λ p. refl))
      | Some q ↦ λ e.
          length_fronts names q
          ∙ (sym (count_new form names true q (last_leaf form b q e).place)
          ∙ count_same (λ p. is_new true q p && not (names p)) (λ p. list_any (bytes_eq p) (fronts q) && not (names p)) (places form)
          (λ p. ap (λ t. t && not (names p)) (sym (fronts_new q p))))
    ] refl

-- the positions in the block map on either of two paths that point to no block are those on the first, and the others on the second
parted : (x y n : Bool) → ((x || y) && not n) ≡ ((x && not n) || (y && not (n || x)))
parted true true true = refl
parted true true false = refl
parted true false true = refl
parted true false false = refl
parted false true true = refl
parted false true false = refl
parted false false true = refl
parted false false false = refl

-- no position is in both of these parts
parts_apart : (x y n : Bool) → (x && not n) ≡ true → (y && not (n || x)) ≡ false
parts_apart true true true e = refl
parts_apart true true false e = refl
parts_apart true false n e = refl
parts_apart false y n e = absurd (true≢false (sym e))

-- the length of the list of positions in the block map missing on some paths is their count among all positions
length_missing : (form : BlockMap) (names : List ℕ → Bool) (blocks : List ℕ) → length (missing_places form names blocks) ≡ missing_count form names blocks
unfolding missing_places missing_count
length_missing form names [] = sym (count_none (λ p. false) (places form) (λ p. refl))
length_missing form names (b ∷ blocks) =
    let on : List ℕ → Bool = λ p. list_any (bytes_eq p) (way form b) in
    let more : List ℕ → Bool = λ p. names p || on p in
    let first : length (missing_on_way form names b) ≡ count_by (λ p. on p && not (names p)) (places form) = length_way form names b in
    let rest : length (missing_places form more blocks) ≡ count_by (λ p. is_on_ways form blocks p && not (more p)) (places form) =
    length_missing form more blocks in
    length-append (missing_on_way form names b) (missing_places form more blocks)
    ∙ (omega (arith, first, rest)
    ∙ sym (count_same (λ p. (on p || is_on_ways form blocks p) && not (names p))
    (λ p. (on p && not (names p)) || (is_on_ways form blocks p && not (more p))) (places form)
    (λ p. parted (on p) (is_on_ways form blocks p) (names p))
    ∙ count_apart (λ p. on p && not (names p)) (λ p. is_on_ways form blocks p && not (more p)) (places form)
    (λ p. parts_apart (on p) (is_on_ways form blocks p) (names p))))

-- the number of positions in the block map for which blocks are allocated is the number of blocks needed
pub taken_need : (form : BlockMap) (names : List ℕ → Bool) (blocks : List ℕ) → length (places_taken form names blocks) ≡ need_of form names blocks
unfolding need_of
taken_need form names blocks =
    elim (grows_large form blocks) as (λ t.
    length ((if t then (0 ∷ []) ∷ [] else []) ++ missing_places (if t then Large else form) (if t then moved_down names else names) blocks)
    ≡ missing_count (if t then Large else form) (if t then moved_down names else names) blocks + (if t then 1 else 0)) [
      | true ↦ let many = length_missing Large (moved_down names) blocks in omega (arith, many)
      | false ↦ let many = length_missing form names blocks in omega (arith, many)
    ]
