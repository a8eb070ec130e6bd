-- The use that `map` shows of a block, although blocks are lost, is its use in the volume, or the block is named twice there.
use Rattle.std.proofs.Common.{◌≡◌, ◌≢◌, ◌⊎◌, ◌≤◌, ◌<◌, ◌+◌, ◌-◌, ◌*◌, ◌==◌, ◌&&◌, ◌∙◌, nat_lt, ℕ, zero, suc, Bool, true, false, cond, if◌then◌else◌, List, [], ◌∷◌, get_or, ap, arith, eq-eqb, inl, inr, refl, subst, sym}
use Rattle.std.specs.Prelude.{◌||◌}
use Rattle.std.specs.List.{count_by, list_any, range_with_len, sum_by}
use Rattle.std.proofs.lemmas.Bool.{cases_eq, cases_lt, lt-ltb, ltb-false, ne_eqb, true≢false}
use Rattle.std.proofs.lemmas.List.Sums.{sum_by-cons}
use Rattle.pdp_words.specs.Words.{word}
use Rattle.vol_layout.specs.BlockMaps.{IsPlace, form_of, levels_below, places}
use Rattle.vol_layout.specs.BlockPointers.{form_at, mode_of, named, pointer_in}
use Rattle.vol_layout.specs.Edition.{constants, number}
use Rattle.vol_layout.specs.Geometry.{Fits, in_zone}
use Rattle.vol_layout.specs.Inode.{kind_of}
use Rattle.vol_layout.specs.Super.{free_head}
use Rattle.vol_layout.specs.declared.edition.Edition.{Edition}
use Rattle.vol_layout.specs.declared.edition.Edition.TheVariants.{V6, V7}
use Rattle.vol_layout.specs.declared.geometry.Geometry.{Geometry}
use Rattle.vol_layout.specs.declared.mode.Kind.{Kind}
use Rattle.vol_layout.specs.declared.mode.Kind.TheVariants as kinds
use Rattle.vol_layout.proofs.BodyLaws.{zone_bounds}
use Rattle.vol_layout.proofs.CopyLaws.{number_copied}
use Rattle.vol_layout.proofs.FrameLaws.{KeepsPlaces, addresses_of, places_kept, pointers_of}
use Rattle.vol_layout.proofs.InodeLaws.{mode_kept}
use Rattle.vol_layout.proofs.NameLaws.{entry_out, zero_out, zone_some}
use Rattle.vol_file.specs.Laws.{IsAmong}
use Rattle.vol_file.specs.Rules.{kind_at}
use Rattle.vol_file.proofs.PlaceLists.{among_places}
use Rattle.vol_file.proofs.TakenBlocks.{zone_two}
use Rattle.vol_free.specs.FreeWalk.{Walked, free_walk, walk_rest}
use Rattle.vol_free.specs.Walk.{left_after}
use Rattle.vol_free.proofs.WalkLaws.{walk_again, walk_chain, walk_end, walk_many, walk_none, walk_on, walk_out}
use Rattle.vol_reports.specs.Icheck.{is_kind, is_lost_of, is_met, one_if, use_count}
use Rattle.vol_inspect.specs.FreeListStatus.{listed_at, listed_in, listed_of}
use Rattle.vol_inspect.specs.PlaceCounts.{names_at, naming_count, node_count, wanted_count}
use Rattle.vol_inspect.specs.Uses.{data_use, free_use, is_listed, use_of}
use Rattle.vol_inspect.specs.declared.uses.Use.{Use}
use Rattle.vol_inspect.specs.declared.uses.Use.TheVariants as uses
use Rattle.vol_inspect.proofs.Found.{sum_more}
use Rattle.vol_inspect.proofs.Named.{used_by_level}
use Rattle.vol_inspect.proofs.UseLaws.{met_is, zone_within}
use Rattle.vol_losses.specs.Losses.{is_lost, node_block}
use Rattle.vol_losses.proofs.Agreement.{node_agrees}
use Rattle.command_reads.specs.BadLaws.{BadUsesAreRight}
use Rattle.command_reads.specs.BadUses.{known_as}
use Rattle.command_reads.proofs.RightOwners.{IsLeft, bare_form, entry_left, is_left, lost_mode}

-- a count is at most that of a test which each item passes that passes the first
count_left : (t u : List ℕ → Bool) (qs : List (List ℕ)) → ((q : List ℕ) → IsAmong q qs → t q ≡ true → u q ≡ true) → count_by t qs ≤ count_by u qs
count_left t u [] each = omega arith
count_left t u (q ∷ qs) each =
    let rest = count_left t u qs (λ p among. each p (inr among)) in
    let here : one_if (t q) ≤ one_if (u q) = elim (t q) as (λ b. t q ≡ b → one_if b ≤ one_if (u q)) [
      | true ↦ λ is. let same = ap one_if (each q (inl refl) is) in omega (arith, same)
      | false ↦ λ is. omega arith
    ] refl in
    omega (arith, sum_by-cons (λ p. one_if (t p)) q qs, sum_by-cons (λ p. one_if (u p)) q qs, rest, here)

-- a sum over a range is at most that of terms that are as large there
sum_left : (f h : ℕ → ℕ) (a n : ℕ) → ((j : ℕ) → a ≤ j → j < a + n → f j ≤ h j) → sum_by f (range_with_len a n) ≤ sum_by h (range_with_len a n)
sum_left f h a zero each = omega arith
sum_left f h a (suc n) each =
    let more : suc n ≡ n + 1 = omega arith in
    let rest = sum_left f h a n (λ j low high. each j low (omega (arith, high))) in
    let last = each (a + n) (omega arith) (omega arith) in
    omega (arith, sum_more f a n (suc n) (a + n) more refl, sum_more h a n (suc n) (a + n) more refl, rest, last)

-- a number in the block map that isn't 0 is that of the volume
named_left : (geometry : Geometry) (lost : List Bool) (image volume : List ℕ) (i : ℕ) (p : List ℕ) → Fits geometry image → IsLeft geometry lost image volume
    → KeepsPlaces geometry image volume i → IsPlace (form_at geometry image i) p → named geometry image i p ≢ 0
    → named geometry volume i p ≡ named geometry image i p
named_left geometry lost image volume i [] fits left kept place some = absurd place
named_left geometry lost image volume i (k ∷ []) fits left kept place some =
    let few = addresses_of geometry.edition (mode_of geometry image i) in kept.addresses k (omega (arith, place, few))
named_left geometry lost image volume i (j ∷ (a ∷ p)) fits left kept place some =
    let m = named geometry image i (a ∷ p) in
    let many = pointers_of geometry.edition (mode_of geometry image i) in
    let there : m ≢ 0 = λ none. some (ap (λ n. pointer_in geometry image n j) none ∙ entry_out geometry image 0 j (zero_out geometry image fits)) in
    let above = named_left geometry lost image volume i (a ∷ p) fits left kept place.2 there in
    ap (λ n. pointer_in geometry volume n j) above ∙ entry_left geometry lost image volume m j fits left (omega (arith, place.0, many)) some

-- the positions of an i-node that point to a block at a level are as many in the volume, or more, if its addresses are those of the volume
kept_count : (geometry : Geometry) (lost : List Bool) (image volume : List ℕ) (i c e : ℕ) → Fits geometry image → IsLeft geometry lost image volume
    → KeepsPlaces geometry image volume i → c ≢ 0 → node_count geometry image i c e ≤ node_count geometry volume i c e
unfolding node_count
kept_count geometry lost image volume i c e fits left kept some =
    subst (λ form. count_by (names_at geometry image i c e) (places (form_at geometry image i))
    ≤ count_by (λ p. (named geometry volume i p == c) && (e == levels_below form p)) (places form)) (sym kept.form)
    (count_left (names_at geometry image i c e) (λ p. (named geometry volume i p == c) && (e == levels_below (form_at geometry image i) p))
    (places (form_at geometry image i)) (λ p among is. elim (cases_eq (named geometry image i p) 0) [
      | inl none ↦
          let other = ne_eqb (named geometry image i p) c (λ same. some (sym same ∙ none)) in
          absurd (true≢false (sym is ∙ ap (λ b. b && (e == levels_below (form_at geometry image i) p)) other))
      | inr named_there ↦
          ap (λ n. (n == c) && (e == levels_below (form_at geometry image i) p))
          (named_left geometry lost image volume i p fits left kept (among_places (form_at geometry image i) p among) named_there)
          ∙ is
    ]))

-- an i-node of zeros has no such position
bare_count : (geometry : Geometry) (image : List ℕ) (i c e : ℕ) → mode_of geometry image i ≡ 0 → node_count geometry image i c e ≡ 0
unfolding node_count places
bare_count geometry image i c e mode =
    ap (λ form. count_by (names_at geometry image i c e) (places form)) (ap (form_of geometry.edition) mode ∙ bare_form geometry.edition)

-- if the i-node is of a kind
kind_count : (wanted kind : Kind) (n m : ℕ) → n ≤ m → (if is_kind wanted kind then n else 0) ≤ (if is_kind wanted kind then m else 0)
kind_count wanted kind n m less = elim (is_kind wanted kind) as (λ b. (if b then n else 0) ≤ (if b then m else 0)) [ true ↦ less | false ↦ omega arith ]

none_count : (wanted kind : Kind) (n m : ℕ) → n ≡ 0 → (if is_kind wanted kind then n else 0) ≤ m
none_count wanted kind n m none = elim (is_kind wanted kind) as (λ b. (if b then n else 0) ≤ m) [ true ↦ omega (arith, none) | false ↦ omega arith ]

wanted_left : (geometry : Geometry) (lost : List Bool) (image volume : List ℕ) (wanted : Kind) (i c e : ℕ) → Fits geometry image → IsLeft geometry lost image volume
    → c ≢ 0 → 1 ≤ i → i ≤ geometry.last_inode → wanted_count geometry image wanted i c e ≤ wanted_count geometry volume wanted i c e
wanted_left geometry lost image volume wanted i c e fits left some first last =
    elim (is_lost lost (node_block geometry.edition i)) as (λ gone. is_lost lost (node_block geometry.edition i) ≡ gone
    → wanted_count geometry image wanted i c e ≤ wanted_count geometry volume wanted i c e) [
      | true ↦ λ gone.
          none_count wanted (kind_at geometry image i) (node_count geometry image i c e) (wanted_count geometry volume wanted i c e)
          (bare_count geometry image i c e (lost_mode geometry lost image volume i fits first last left gone))
      | false ↦ λ known.
          let node = node_agrees geometry lost image volume i fits first last left.agrees known in
          let more = kept_count geometry lost image volume i c e fits left (places_kept geometry image volume i node) some in
          subst (λ mode. wanted_count geometry image wanted i c e ≤ (if is_kind wanted (kind_of geometry.edition mode) then node_count geometry volume i c e else 0))
          (sym (mode_kept geometry image volume i node))
          (kind_count wanted (kind_at geometry image i) (node_count geometry image i c e) (node_count geometry volume i c e) more)
    ] refl

-- so are those of all i-nodes of a kind
naming_left : (geometry : Geometry) (lost : List Bool) (image volume : List ℕ) (wanted : Kind) (c e : ℕ) → Fits geometry image → IsLeft geometry lost image volume
    → c ≢ 0 → naming_count geometry image wanted c e ≤ naming_count geometry volume wanted c e
unfolding naming_count
naming_left geometry lost image volume wanted c e fits left some =
    sum_left (λ i. wanted_count geometry image wanted i c e) (λ i. wanted_count geometry volume wanted i c e) 1 geometry.last_inode
    (λ i first last. wanted_left geometry lost image volume wanted i c e fits left some first (omega (arith, last)))

-- a number in an array of zeros is 0
array_zero : (edition : Edition) (image : List ℕ) (at j : ℕ) → ((r : ℕ) → r < 200 → get_or image (at + r) 0 ≡ 0) → j < (constants edition).free_slots
    → number edition image at j ≡ 0
array_zero V6 image at j none low =
    let first : get_or image (at + 2 * j) 0 ≡ 0 = none (2 * j) (omega (arith, low)) in
    let next : at + 2 * j + 1 ≡ at + (2 * j + 1) = omega arith in
    let second : get_or image (at + 2 * j + 1) 0 ≡ 0 = ap (λ n. get_or image n 0) next ∙ none (2 * j + 1) (omega (arith, low)) in
    omega (arith, first, second)
array_zero V7 image at j none low =
    let after_one : at + 4 * j + 1 ≡ at + (4 * j + 1) = omega arith in
    let after_two : at + 4 * j + 2 ≡ at + (4 * j + 2) = omega arith in
    let after_three : at + 4 * j + 2 + 1 ≡ at + (4 * j + 3) = omega arith in
    let one : get_or image (at + 4 * j) 0 ≡ 0 = none (4 * j) (omega (arith, low)) in
    let two : get_or image (at + 4 * j + 1) 0 ≡ 0 = ap (λ n. get_or image n 0) after_one ∙ none (4 * j + 1) (omega (arith, low)) in
    let three : get_or image (at + 4 * j + 2) 0 ≡ 0 = ap (λ n. get_or image n 0) after_two ∙ none (4 * j + 2) (omega (arith, low)) in
    let four : get_or image (at + 4 * j + 2 + 1) 0 ≡ 0 = ap (λ n. get_or image n 0) after_three ∙ none (4 * j + 3) (omega (arith, low)) in
    omega (arith, one, two, three, four)

slots_room : (edition : Edition) (j : ℕ) → j < (constants edition).free_slots → (constants edition).number_bytes * j + (constants edition).number_bytes ≤ 200
slots_room V6 j low = omega (arith, low)
slots_room V7 j low = omega (arith, low)

-- a count and array of the free list begin at this byte, in block k
record IsHead (geometry : Geometry) (k r head : ℕ) : Type 0 where
  at : head ≡ 512 * k + r
  room : r + 202 ≤ 512
  inside : k < geometry.zone_end
  high : k ≡ 1 → 4 ≤ r

-- the array of a lost block has zeros
head_lost : (geometry : Geometry) (lost : List Bool) (image volume : List ℕ) (k r head j : ℕ) → IsLeft geometry lost image volume → IsHead geometry k r head
    → is_lost lost k ≡ true → j < (constants geometry.edition).free_slots → number geometry.edition image (head + 2) j ≡ 0
head_lost geometry lost image volume k r head j left begins gone low =
    array_zero geometry.edition image (head + 2) j (λ x few.
    let place : head + 2 + x ≡ 512 * k + (r + 2 + x) = omega (arith, begins.at) in
    ap (λ n. get_or image n 0) place
    ∙ left.zeros k (r + 2 + x) begins.inside (λ one. let four = begins.high one in omega (arith, four)) (omega (arith, few, begins.room)) gone) low

-- that of a known block is the volume's
head_byte : (geometry : Geometry) (lost : List Bool) (image volume : List ℕ) (k r head x : ℕ) → IsLeft geometry lost image volume → IsHead geometry k r head
    → is_lost lost k ≡ false → x < 202 → get_or volume (head + x) 0 ≡ get_or image (head + x) 0
head_byte geometry lost image volume k r head x left begins known few =
    let place : head + x ≡ 512 * k + (r + x) = omega (arith, begins.at) in
    ap (λ n. get_or volume n 0) place
    ∙ (left.agrees.bytes k (r + x) begins.inside (omega (arith, few, begins.room)) known ∙ ap (λ n. get_or image n 0) (sym place))

head_number : (geometry : Geometry) (lost : List Bool) (image volume : List ℕ) (k r head j : ℕ) → IsLeft geometry lost image volume → IsHead geometry k r head
    → is_lost lost k ≡ false → j < (constants geometry.edition).free_slots → number geometry.edition volume (head + 2) j ≡ number geometry.edition image (head + 2) j
head_number geometry lost image volume k r head j left begins known low =
    number_copied geometry.edition image volume (head + 2) (head + 2) 200 j (record {
      bytes = λ x few.
          let place : head + 2 + x ≡ head + (2 + x) = omega arith in
          ap (λ n. get_or volume n 0) place
          ∙ (head_byte geometry lost image volume k r head (2 + x) left begins known (omega (arith, few)) ∙ ap (λ n. get_or image n 0) (sym place));
    }) (slots_room geometry.edition j low)

head_word : (geometry : Geometry) (lost : List Bool) (image volume : List ℕ) (k r head : ℕ) → IsLeft geometry lost image volume → IsHead geometry k r head
    → is_lost lost k ≡ false → word volume head ≡ word image head
head_word geometry lost image volume k r head left begins known =
    let none : head + 0 ≡ head = omega arith in
    let first : get_or volume head 0 ≡ get_or image head 0 =
    ap (λ n. get_or volume n 0) (sym none) ∙ (head_byte geometry lost image volume k r head 0 left begins known (omega arith) ∙ ap (λ n. get_or image n 0) none) in
    let second : get_or volume (head + 1) 0 ≡ get_or image (head + 1) 0 = head_byte geometry lost image volume k r head 1 left begins known (omega arith) in
    omega (arith, first, second)

-- a walk over the free list stops, or visits the next block
record Stops (geometry : Geometry) (image : List ℕ) (fuel head count : ℕ) (met : List ℕ) : Type 0 where
  same : (walk_rest geometry image (suc fuel) head count met).met ≡ met

record Goes (geometry : Geometry) (image : List ℕ) (head count : ℕ) (met : List ℕ) : Type 0 where
  some : count ≢ 0
  few : count ≤ (constants geometry.edition).free_slots
  zone : in_zone geometry (number geometry.edition image (head + 2) (count - 1)) ≡ true
  fresh : list_any (λ k. k == number geometry.edition image (head + 2) (count - 1)) met ≡ false

-- the byte of the array, and the number of entries, after block n
abbrev head_after : ℕ → ℕ → ℕ → ℕ
head_after head count n = if count == 1 then 512 * n else head

abbrev count_after : List ℕ → ℕ → ℕ → ℕ
count_after image count n = if count == 1 then word image (512 * n) else count - 1

stops_or_goes : (geometry : Geometry) (image : List ℕ) (fuel head count : ℕ) (met : List ℕ) → Stops geometry image fuel head count met ⊎ Goes geometry image head count met
stops_or_goes geometry image fuel head count met =
    let n = number geometry.edition image (head + 2) (count - 1) in
    elim (cases_eq count 0) [
      | inl none ↦ inl (record { same = ap (λ (w : Walked). w.met) (walk_none geometry image fuel head count met none) })
      | inr some ↦ elim (cases_lt (constants geometry.edition).free_slots count) [
        | inl many ↦ inl (record { same = ap (λ (w : Walked). w.met) (walk_many geometry image fuel head count met some many) })
        | inr few ↦ elim (in_zone geometry n) as (λ z. in_zone geometry n ≡ z → Stops geometry image fuel head count met ⊎ Goes geometry image head count met) [
          | false ↦ λ out. elim (cases_eq count 1) [
            | inl one ↦ elim (cases_eq n 0) [
              | inl zero_there ↦ inl (record { same = ap (λ (w : Walked). w.met) (walk_end geometry image fuel head count met n refl some few one zero_there) })
              | inr other ↦ inl (record { same = ap (λ (w : Walked). w.met) (walk_out geometry image fuel head count met n refl some few (λ is zero_there. other zero_there) out) })
            ]
            | inr two ↦ inl (record { same = ap (λ (w : Walked). w.met) (walk_out geometry image fuel head count met n refl some few (λ is zero_there. two is) out) })
          ]
          | true ↦ λ zone. elim (list_any (λ k. k == n) met) as (λ b. list_any (λ k. k == n) met ≡ b → Stops geometry image fuel head count met ⊎ Goes geometry image head count met) [
            | false ↦ λ fresh. inr (record { some = some; few = few; zone = zone; fresh = fresh })
            | true ↦ λ again. elim (cases_eq n 0) [
              | inl zero_there ↦ elim (cases_eq count 1) [
                | inl one ↦ inl (record { same = ap (λ (w : Walked). w.met) (walk_end geometry image fuel head count met n refl some few one zero_there) })
                | inr two ↦ inl (record { same = ap (λ (w : Walked). w.met) (walk_again geometry image fuel head count met n refl some few zone (λ is none. two is) again) })
              ]
              | inr other ↦ inl (record { same = ap (λ (w : Walked). w.met) (walk_again geometry image fuel head count met n refl some few zone (λ is none. other none) again) })
            ]
          ] refl
        ] refl
      ]
    ]

-- a walk that visits block n goes on from there
goes_on : (geometry : Geometry) (image : List ℕ) (fuel head count : ℕ) (met : List ℕ) (n : ℕ) → number geometry.edition image (head + 2) (count - 1) ≡ n → n ≢ 0
    → count ≢ 0 → count ≤ (constants geometry.edition).free_slots → in_zone geometry n ≡ true → list_any (λ k. k == n) met ≡ false
    → walk_rest geometry image (suc fuel) head count met ≡ walk_rest geometry image fuel (head_after head count n) (count_after image count n) (n ∷ met)
goes_on geometry image fuel head count met n is other some few zone fresh = elim (cases_eq count 1) [
  | inl one ↦
      walk_chain geometry image fuel head count met n is some few zone (λ same none. other none) fresh one
      ∙ ap (λ b. walk_rest geometry image fuel (if b then 512 * n else head) (if b then word image (512 * n) else count - 1) (n ∷ met)) (sym (eq-eqb count 1 one))
  | inr two ↦
      walk_on geometry image fuel head count met n is some few zone (λ same none. other none) fresh two
      ∙ ap (λ b. walk_rest geometry image fuel (if b then 512 * n else head) (if b then word image (512 * n) else count - 1) (n ∷ met)) (sym (ne_eqb count 1 two))
]

-- a block that is new isn't one that was visited
fresh_other : (n b : ℕ) (met : List ℕ) → list_any (λ k. k == n) met ≡ false → list_any (λ k. k == b) met ≡ true → (n == b) ≡ false
fresh_other n b met fresh there =
    ne_eqb n b (λ same. true≢false (sym there ∙ (ap (λ x. list_any (λ k. k == x) met) (sym same) ∙ fresh)))

any_more : (n b : ℕ) (met : List ℕ) → list_any (λ k. k == b) met ≡ true → list_any (λ k. k == b) (n ∷ met) ≡ true
any_more n b met there = elim (n == b) as (λ t. (t || list_any (λ k. k == b) met) ≡ true) [ true ↦ refl | false ↦ there ]

-- 0 isn't a data block
zone_there : (geometry : Geometry) (n : ℕ) → in_zone geometry 0 ≡ false → in_zone geometry n ≡ true → n ≢ 0
zone_there geometry n out zone none = true≢false (sym zone ∙ (ap (in_zone geometry) none ∙ out))

-- the status of a block that was visited before the last one
listed_past : (geometry : Geometry) (image : List ℕ) (n b : ℕ) (met : List ℕ) → (n == b) ≡ false
    → listed_in geometry image (n ∷ met) b ≡ listed_in geometry image met b
unfolding listed_in
listed_past geometry image n b met other = ap (λ t. if t then listed_at (left_after geometry image met) else listed_in geometry image met b) other

-- a walk without fuel visits nothing
walk_zero : (geometry : Geometry) (image : List ℕ) (head count : ℕ) (met : List ℕ) → (walk_rest geometry image zero head count met).met ≡ met
unfolding walk_rest
walk_zero geometry image head count met = refl

-- a walk keeps the status of the blocks that it visited before
walk_grows : (geometry : Geometry) (volume : List ℕ) (fuel head count : ℕ) (met : List ℕ) (b : ℕ) → in_zone geometry 0 ≡ false
    → list_any (λ k. k == b) met ≡ true → listed_in geometry volume (walk_rest geometry volume fuel head count met).met b ≡ listed_in geometry volume met b
walk_grows geometry volume zero head count met b out there = ap (λ ms. listed_in geometry volume ms b) (walk_zero geometry volume head count met)
walk_grows geometry volume (suc fuel) head count met b out there =
    let n = number geometry.edition volume (head + 2) (count - 1) in
    elim (stops_or_goes geometry volume fuel head count met) [
      | inl stops ↦ ap (λ ms. listed_in geometry volume ms b) stops.same
      | inr goes ↦
          ap (λ (w : Walked). listed_in geometry volume w.met b)
          (goes_on geometry volume fuel head count met n refl (zone_there geometry n out goes.zone) goes.some goes.few goes.zone goes.fresh)
          ∙ (walk_grows geometry volume fuel (head_after head count n) (count_after volume count n) (n ∷ met) b out (any_more n b met there)
          ∙ listed_past geometry volume n b met (fresh_other n b met goes.fresh there))
    ]

-- the blocks that are visited in what is left have the same status in the volume: what is known of the walks after the blocks `met`
record AreSame (geometry : Geometry) (lost : List Bool) (image volume : List ℕ) (k count now : ℕ) (met : List ℕ) : Type 0 where
  counted : is_lost lost k ≡ false → now ≡ count
  left : is_lost lost k ≡ false → left_after geometry image met ≡ count
  there : is_lost lost k ≡ false → left_after geometry volume met ≡ count
  listed : (b : ℕ) → listed_in geometry volume met b ≡ listed_in geometry image met b

-- a walk of what is left stops in a lost block
lost_stops : (geometry : Geometry) (lost : List Bool) (image volume : List ℕ) (fuel k r head count : ℕ) (met : List ℕ) → in_zone geometry 0 ≡ false
    → IsLeft geometry lost image volume → IsHead geometry k r head → is_lost lost k ≡ true → (walk_rest geometry image fuel head count met).met ≡ met
lost_stops geometry lost image volume zero k r head count met out left begins gone = walk_zero geometry image head count met
lost_stops geometry lost image volume (suc fuel) k r head count met out left begins gone =
    elim (stops_or_goes geometry image fuel head count met) [
      | inl stops ↦ stops.same
      | inr goes ↦
          let none = head_lost geometry lost image volume k r head (count - 1) left begins gone (omega (arith, goes.few, goes.some)) in
          absurd (zone_there geometry (number geometry.edition image (head + 2) (count - 1)) out goes.zone none)
    ]

-- the array after a block begins in this block, at this byte of it
abbrev block_after : ℕ → ℕ → ℕ → ℕ
block_after k count n = if count == 1 then n else k

abbrev byte_after : ℕ → ℕ → ℕ
byte_after r count = if count == 1 then 0 else r

next_head : (geometry : Geometry) (image : List ℕ) (k r head count n : ℕ) → Fits geometry image → IsHead geometry k r head → in_zone geometry n ≡ true
    → IsHead geometry (block_after k count n) (byte_after r count) (head_after head count n)
next_head geometry image k r head count n fits begins zone =
    elim (count == 1) as (λ b. IsHead geometry (if b then n else k) (if b then 0 else r) (if b then 512 * n else head)) [
      | true ↦
          let bounds = zone_bounds geometry n zone in
          let two = zone_two geometry image n fits zone in
          record { at = omega arith; room = omega arith; inside = bounds.1; high = λ one. absurd (omega (arith, two, one)) }
      | false ↦ begins
    ]

-- after the next block they are the same again
same_more : (geometry : Geometry) (lost : List Bool) (image volume : List ℕ) (k r head count now : ℕ) (met : List ℕ) (n : ℕ) → Fits geometry image
    → IsLeft geometry lost image volume → IsHead geometry k r head → is_lost lost k ≡ false → AreSame geometry lost image volume k count now met
    → in_zone geometry n ≡ true
    → AreSame geometry lost image volume (block_after k count n) (count_after image count n) (count_after volume count n) (n ∷ met)
unfolding listed_in
same_more geometry lost image volume k r head count now met n fits left begins known same zone =
    let next : is_lost lost (block_after k count n) ≡ false → count_after volume count n ≡ count_after image count n =
    elim (count == 1) as (λ b. is_lost lost (if b then n else k) ≡ false
    → (if b then word volume (512 * n) else count - 1) ≡ (if b then word image (512 * n) else count - 1)) [
      | true ↦ λ there.
          let bounds = zone_bounds geometry n zone in
          let two = zone_two geometry image n fits zone in
          head_word geometry lost image volume n 0 (512 * n) left
          (record { at = omega arith; room = omega arith; inside = bounds.1; high = λ one. absurd (omega (arith, two, one)) }) there
      | false ↦ λ there. refl
    ] in
    let before = same.left known in
    let after = same.there known in
    record {
      counted = next;
      left = λ there. ap (λ l. count_after image l n) before;
      there = λ there. ap (λ l. count_after volume l n) after ∙ next there;
      listed = λ b.
          ap (λ l. if n == b then listed_at l else listed_in geometry volume met b) (after ∙ sym before)
          ∙ ap (λ how. if n == b then listed_at (left_after geometry image met) else how) (same.listed b);
    }

-- a block that a walk of what is left visits has the same status in the volume
walk_left : (geometry : Geometry) (lost : List Bool) (image volume : List ℕ) (fuel k r head count now : ℕ) (met : List ℕ) (b : ℕ) → Fits geometry image
    → IsLeft geometry lost image volume → IsHead geometry k r head → AreSame geometry lost image volume k count now met
    → list_any (λ x. x == b) (walk_rest geometry image fuel head count met).met ≡ true
    → listed_in geometry volume (walk_rest geometry volume fuel head now met).met b ≡ listed_in geometry image (walk_rest geometry image fuel head count met).met b
walk_left geometry lost image volume zero k r head count now met b fits left begins same there =
    ap (λ ms. listed_in geometry volume ms b) (walk_zero geometry volume head now met)
    ∙ (same.listed b ∙ ap (λ ms. listed_in geometry image ms b) (sym (walk_zero geometry image head count met)))
walk_left geometry lost image volume (suc fuel) k r head count now met b fits left begins same there =
    let out = zero_out geometry image fits in
    let ended : (walk_rest geometry image (suc fuel) head count met).met ≡ met
    → listed_in geometry volume (walk_rest geometry volume (suc fuel) head now met).met b
    ≡ listed_in geometry image (walk_rest geometry image (suc fuel) head count met).met b =
    λ stops.
    walk_grows geometry volume (suc fuel) head now met b out (ap (list_any (λ x. x == b)) (sym stops) ∙ there)
    ∙ (same.listed b ∙ ap (λ ms. listed_in geometry image ms b) (sym stops)) in
    elim (is_lost lost k) as (λ gone. is_lost lost k ≡ gone
    → listed_in geometry volume (walk_rest geometry volume (suc fuel) head now met).met b
    ≡ listed_in geometry image (walk_rest geometry image (suc fuel) head count met).met b) [
      | true ↦ λ gone. ended (lost_stops geometry lost image volume (suc fuel) k r head count met out left begins gone)
      | false ↦ λ known. elim (stops_or_goes geometry image fuel head count met) [
        | inl stops ↦ ended stops.same
        | inr goes ↦
            let n = number geometry.edition image (head + 2) (count - 1) in
            let other = zone_there geometry n out goes.zone in
            let mine = goes_on geometry image fuel head count met n refl other goes.some goes.few goes.zone goes.fresh in
            let number_there = head_number geometry lost image volume k r head (count - 1) left begins known (omega (arith, goes.few, goes.some)) in
            let theirs =
            ap (λ c. walk_rest geometry volume (suc fuel) head c met) (same.counted known)
            ∙ goes_on geometry volume fuel head count met n number_there other goes.some goes.few goes.zone goes.fresh in
            ap (λ (w : Walked). listed_in geometry volume w.met b) theirs
            ∙ (walk_left geometry lost image volume fuel (block_after k count n) (byte_after r count) (head_after head count n) (count_after image count n)
            (count_after volume count n) (n ∷ met) b fits left (next_head geometry image k r head count n fits begins goes.zone)
            (same_more geometry lost image volume k r head count now met n fits left begins known same goes.zone)
            (ap (λ (w : Walked). list_any (λ x. x == b) w.met) (sym mine) ∙ there)
            ∙ ap (λ (w : Walked). listed_in geometry image w.met b) (sym mine))
      ]
    ] refl

-- a block with a status was visited
in_listed : (geometry : Geometry) (image : List ℕ) (b : ℕ) (met : List ℕ) → is_listed (listed_in geometry image met b) ≡ true → list_any (λ k. k == b) met ≡ true
unfolding listed_in
in_listed geometry image b [] is = absurd (true≢false (sym is))
in_listed geometry image b (m ∷ met) is =
    elim (m == b) as (λ t. is_listed (if t then listed_at (left_after geometry image met) else listed_in geometry image met b) ≡ true
    → (t || list_any (λ k. k == b) met) ≡ true)
    [ true ↦ λ here. refl | false ↦ λ rest. in_listed geometry image b met rest ] is

-- the free list begins in the super-block
head_of : (edition : Edition) → (r : ℕ) × (free_head edition ≡ 512 * 1 + r) × (r + 202 ≤ 512) × (4 ≤ r)
head_of V6 = (4, refl, omega arith, omega arith)
head_of V7 = (6, refl, omega arith, omega arith)

-- a block of the free list of what is left has the same place in the free list of the volume
listed_left : (geometry : Geometry) (lost : List Bool) (image volume : List ℕ) (b : ℕ) → Fits geometry image → IsLeft geometry lost image volume
    → is_listed (listed_of geometry image b) ≡ true → listed_of geometry volume b ≡ listed_of geometry image b
unfolding listed_in
listed_left geometry lost image volume b fits left is =
    let first = head_of geometry.edition in
    let head = free_head geometry.edition in
    let begins : IsHead geometry 1 first.0 head =
    record { at = first.1; room = first.2; inside = omega (arith, fits.zone, fits.i_list); high = λ one. first.3 } in
    let word_there = head_word geometry lost image volume 1 first.0 head left begins in
    walk_left geometry lost image volume (geometry.zone_end - geometry.zone_start + 1) 1 first.0 head (word image head) (word volume head) [] b fits left begins
    (record { counted = word_there; left = λ known. refl; there = word_there; listed = λ x. refl })
    (in_listed geometry image b (free_walk geometry image).met is)

-- the use of a data block, as `data_use` has it, from the use that it has if it is in the free list
abbrev used : ℕ → Bool → Use → ℕ → ℕ → Use
used n met free d f =
    if nat_lt 1 (n + one_if met) then uses.Twice else if is_lost_of n met then uses.Lost else if met then free
    else if d == 1 then uses.Directory else if f == 1 then uses.File else uses.Pointer

-- a block that two positions point to, or one and the free list, is used twice
twice_used : (n d f : ℕ) (met : Bool) (free : Use) → 2 ≤ n + one_if met → used n met free d f ≡ uses.Twice
twice_used n d f met free many =
    ap (λ t. cond t uses.Twice (if is_lost_of n met then uses.Lost else if met then free
    else if d == 1 then uses.Directory else if f == 1 then uses.File else uses.Pointer)) (lt-ltb 1 (n + one_if met) (omega (arith, many)))

-- a data block that isn't lost, by the counts of what is left, has that use by the counts of the volume, or is used twice
use_left : (n m d e f g p q : ℕ) (met now : Bool) (free there : Use) → n ≡ d + f + p → m ≡ e + g + q → d ≤ e → f ≤ g → p ≤ q
    → (met ≡ true → (now ≡ true) × (there ≡ free)) → used n met free d f ≢ uses.Lost
    → (used m now there e g ≡ used n met free d f) ⊎ (used m now there e g ≡ uses.Twice)
use_left n m d e f g p q met now free there parts all first next last listed shown = elim (cases_lt (m + one_if now) 2) [
  | inr many ↦ inr (twice_used m e g now there many)
  | inl few ↦ inl (by met now listed shown few)
]
  where
    named_used : (now : Bool) → n ≢ 0 → m + one_if now < 2 → used m now there e g ≡ used n false free d f
    named_used false some low =
        let less : m + 0 < 2 = low in
        let same : m ≡ n = omega (arith, less, some, parts, all, first, next, last) in
        let one : e ≡ d = omega (arith, less, some, parts, all, first, next, last) in
        let two : g ≡ f = omega (arith, less, some, parts, all, first, next, last) in
        λ i. used (same i) false free (one i) (two i)
    named_used true some low = let less : m + 1 < 2 = low in absurd (omega (arith, less, some, parts, all, first, next, last))

    by : (met now : Bool) → (met ≡ true → (now ≡ true) × (there ≡ free)) → used n met free d f ≢ uses.Lost → m + one_if now < 2
        → used m now there e g ≡ used n met free d f
    by false now listed shown low = elim (cases_eq n 0) [
      | inl none ↦ absurd (shown (ap (λ x. used x false free d f) none))
      | inr some ↦ named_used now some low
    ]
    by true false listed shown low = absurd (true≢false (sym (listed refl).0))
    by true true listed shown low =
        let less : m + 1 < 2 = low in
        let none : m ≡ 0 = omega (arith, less) in
        let none_left : n ≡ 0 = omega (arith, less, parts, all, first, next, last) in
        ap (λ x. used x true there e g) none ∙ ((listed refl).1 ∙ sym (ap (λ x. used x true free d f) none_left))

-- the positions that point to a block, but for those that point to it as data
abbrev others : (ℕ → ℕ) → (ℕ → ℕ) → ℕ
others d f = d 1 + d 2 + d 3 + (f 1 + f 2 + f 3)

-- a data block that isn't lost in what is left has the same use in the volume, or is used twice there
zone_use_left : (geometry : Geometry) (lost : List Bool) (image volume : List ℕ) (b : ℕ) → Fits geometry image → IsLeft geometry lost image volume
    → in_zone geometry b ≡ true
    → let shown = λ (bytes : List ℕ). data_use (use_count geometry bytes b) (is_met geometry bytes b) (listed_of geometry bytes b)
    (naming_count geometry bytes kinds.Directory b 0) (naming_count geometry bytes kinds.Regular b 0) in
    shown image ≢ uses.Lost → (shown volume ≡ shown image) ⊎ (shown volume ≡ uses.Twice)
zone_use_left geometry lost image volume b fits left zone shown_there =
    let some = zone_some geometry image b fits zone in
    let d = naming_count geometry image kinds.Directory b in
    let f = naming_count geometry image kinds.Regular b in
    let e = naming_count geometry volume kinds.Directory b in
    let g = naming_count geometry volume kinds.Regular b in
    let more = λ (kind : Kind) (level : ℕ). naming_left geometry lost image volume kind b level fits left some in
    let parts : use_count geometry image b ≡ d 0 + f 0 + others d f = omega (arith, used_by_level geometry image b some) in
    let all : use_count geometry volume b ≡ e 0 + g 0 + others e g = omega (arith, used_by_level geometry volume b some) in
    let rest : others d f ≤ others e g =
    omega (arith, more kinds.Directory 1, more kinds.Directory 2, more kinds.Directory 3, more kinds.Regular 1, more kinds.Regular 2, more kinds.Regular 3) in
    use_left (use_count geometry image b) (use_count geometry volume b) (d 0) (e 0) (f 0) (g 0) (others d f) (others e g) (is_met geometry image b)
    (is_met geometry volume b) (free_use (listed_of geometry image b)) (free_use (listed_of geometry volume b)) parts all (more kinds.Directory 0)
    (more kinds.Regular 0) rest (λ met.
    let same = listed_left geometry lost image volume b fits left (met_is geometry image b ∙ met) in (
      sym (met_is geometry volume b) ∙ (ap is_listed same ∙ (met_is geometry image b ∙ met)),
      ap free_use same,
    )) shown_there

-- so has any block of the volume
all_left : (geometry : Geometry) (lost : List Bool) (image volume : List ℕ) (b : ℕ) → Fits geometry image → IsLeft geometry lost image volume → b < geometry.zone_end
    → use_of geometry image b ≢ uses.Lost → (use_of geometry volume b ≡ use_of geometry image b) ⊎ (use_of geometry volume b ≡ uses.Twice)
unfolding use_of
all_left geometry lost image volume b fits left inside used =
    let shown = λ (bytes : List ℕ). data_use (use_count geometry bytes b) (is_met geometry bytes b) (listed_of geometry bytes b)
    (naming_count geometry bytes kinds.Directory b 0) (naming_count geometry bytes kinds.Regular b 0) in
    elim (b == 0) as (λ t. (if t then uses.Boot else if b == 1 then uses.SuperBlock else if nat_lt b geometry.zone_start then uses.IList else shown image) ≢ uses.Lost
    → ((if t then uses.Boot else if b == 1 then uses.SuperBlock else if nat_lt b geometry.zone_start then uses.IList else shown volume)
    ≡ (if t then uses.Boot else if b == 1 then uses.SuperBlock else if nat_lt b geometry.zone_start then uses.IList else shown image))
    ⊎ ((if t then uses.Boot else if b == 1 then uses.SuperBlock else if nat_lt b geometry.zone_start then uses.IList else shown volume) ≡ uses.Twice)) [
      | true ↦ λ known. inl refl
      | false ↦ elim (b == 1) as (λ t. (if t then uses.SuperBlock else if nat_lt b geometry.zone_start then uses.IList else shown image) ≢ uses.Lost
          → ((if t then uses.SuperBlock else if nat_lt b geometry.zone_start then uses.IList else shown volume)
          ≡ (if t then uses.SuperBlock else if nat_lt b geometry.zone_start then uses.IList else shown image))
          ⊎ ((if t then uses.SuperBlock else if nat_lt b geometry.zone_start then uses.IList else shown volume) ≡ uses.Twice)) [
            | true ↦ λ known. inl refl
            | false ↦ elim (nat_lt b geometry.zone_start) as (λ t. nat_lt b geometry.zone_start ≡ t → (if t then uses.IList else shown image) ≢ uses.Lost
                → ((if t then uses.IList else shown volume) ≡ (if t then uses.IList else shown image)) ⊎ ((if t then uses.IList else shown volume) ≡ uses.Twice)) [
                  | true ↦ λ listed known. inl refl
                  | false ↦ λ past known.
                      zone_use_left geometry lost image volume b fits left (zone_within geometry b (ltb-false b geometry.zone_start past) inside) known
                ] refl
          ]
    ] used

-- a use that is known is the one by what is left, and the block isn't lost by that
known_is : (unread : Bool) (u : Use) → known_as unread u ≢ uses.Unreadable → known_as unread u ≢ uses.Unknown → (known_as unread u ≡ u) × (u ≢ uses.Lost)
known_is true u read known = absurd (read refl)
known_is false uses.Boot read known = (refl, λ is. absurd (cc))
known_is false uses.SuperBlock read known = (refl, λ is. absurd (cc))
known_is false uses.IList read known = (refl, λ is. absurd (cc))
known_is false uses.Directory read known = (refl, λ is. absurd (cc))
known_is false uses.File read known = (refl, λ is. absurd (cc))
known_is false uses.Pointer read known = (refl, λ is. absurd (cc))
known_is false uses.Free read known = (refl, λ is. absurd (cc))
known_is false uses.Chain read known = (refl, λ is. absurd (cc))
known_is false uses.Lost read known = absurd (known refl)
known_is false uses.Twice read known = (refl, λ is. absurd (cc))
known_is false uses.Unreadable read known = absurd (read refl)
known_is false uses.Unknown read known = absurd (known refl)

-- a use that is shown, but for unreadable and unknown, is the block's use in the volume, or the block is named twice there
pub bad_uses_right : BadUsesAreRight
bad_uses_right edition ranges at sizes bytes volume image lost geometry b rescued has fits inside read known =
    let left = is_left edition ranges at sizes bytes volume image lost geometry rescued has fits in
    let is = known_is (is_lost lost b) (use_of geometry image b) read known in
    subst (λ u. (use_of geometry volume b ≡ u) ⊎ (use_of geometry volume b ≡ uses.Twice)) (sym is.0) (all_left geometry lost image volume b fits left inside is.1)
