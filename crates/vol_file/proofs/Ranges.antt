-- The positions in the block map on the paths of a range of logical blocks.
use Rattle.std.proofs.Common.{◌≡◌, ℕ, zero, suc, ◌+◌, ◌<◌, ◌∙◌, sym, ap, subst, List, [], ◌∷◌, ◌++◌, filter, reverse, refl, arith, rules, true, false, Bool, None, Some, inl, inr}
use Rattle.std.specs.Prelude.{◌||◌, not}
use Rattle.std.specs.Option.{option_map_or}
use Rattle.std.proofs.lemmas.List.{append_assoc, append-nil, reverse-append}
use Rattle.std.specs.List.{list_any, range_with_len}
use Rattle.std.specs.Str.{bytes_eq}
use Rattle.std.proofs.Math.Bool.{or-false, or_assoc}
use Rattle.vol_layout.specs.BlockMaps.{IsPlace, block_limit, last_place, fronts, way}
use Rattle.vol_layout.specs.Laws.{IsFront}
use Rattle.vol_layout.proofs.PlaceLaws.{place_front, last_leaf}
use Rattle.vol_layout.specs.BlockPointers.{form_at}
use Rattle.vol_layout.specs.declared.geometry.Geometry.{Geometry}
use Rattle.vol_layout.specs.declared.block_map.BlockMap.{BlockMap}
use Rattle.vol_layout.proofs.InodeLaws.{form_same}
use Rattle.vol_file.specs.Laws.{IsAmong}
use Rattle.vol_file.specs.Need.{missing_on_way, missing_places}
use Rattle.vol_file.specs.Shape.{is_named, is_on_ways}
use Rattle.vol_file.specs.Steps.{WantsWay, NamesWay, WantsWays, NamesWays}
use Rattle.vol_file.proofs.Lasts.{or_true}
use Rattle.vol_file.proofs.PlaceLists.{among_append}
use Rattle.vol_file.proofs.ReachedPlaces.{extends_as, extends_then, extends_none, ready_after}

-- the paths of a range with one more logical block have the positions in the block map of the paths so far and those of the last path
is_on_suc : (form : BlockMap) (p : List ℕ) (a d : ℕ)
    → is_on_ways form (range_with_len a (suc d)) p ≡ (is_on_ways form (range_with_len a d) p || list_any (bytes_eq p) (way form (a + d)))
is_on_suc form p a zero =
    let same : a ≡ a + 0 = omega arith in
    or-false (list_any (bytes_eq p) (way form a)) ∙ ap (λ b. list_any (bytes_eq p) (way form b)) same
is_on_suc form p a (suc d) =
    let same : a + 1 + d ≡ a + suc d = omega arith in
    ap (λ t. list_any (bytes_eq p) (way form a) || t)
    (is_on_suc form p (a + 1) d ∙ ap (λ b. is_on_ways form (range_with_len (a + 1) d) p || list_any (bytes_eq p) (way form b)) same)
    ∙ sym (or_assoc (list_any (bytes_eq p) (way form a)) (is_on_ways form (range_with_len (a + 1) d) p) (list_any (bytes_eq p) (way form (a + suc d))))

-- the paths of a range with one more logical block, with its length as a sum
pub is_on_more : (form : BlockMap) (p : List ℕ) (a d : ℕ)
    → is_on_ways form (range_with_len a (d + 1)) p ≡ (is_on_ways form (range_with_len a d) p || list_any (bytes_eq p) (way form (a + d)))
is_on_more form p a d = let next : d + 1 ≡ suc d = omega arith in ap (λ n. is_on_ways form (range_with_len a n) p) next ∙ is_on_suc form p a d

-- a position in the block map on the path of one logical block of a range is on the paths of the range
pub is_on_at : (form : BlockMap) (p : List ℕ) (a n d : ℕ) → d < n → list_any (bytes_eq p) (way form (a + d)) ≡ true
    → is_on_ways form (range_with_len a n) p ≡ true
is_on_at form p a zero d h on = absurd (omega arith)
is_on_at form p a (suc n) zero h on =
    let same : a + 0 ≡ a = omega arith in
    ap (λ t. t || is_on_ways form (range_with_len (a + 1) n) p) (ap (λ b. list_any (bytes_eq p) (way form b)) (sym same) ∙ on)
is_on_at form p a (suc n) (suc d) h on =
    let same : a + 1 + d ≡ a + suc d = omega arith in
    ap (λ t. list_any (bytes_eq p) (way form a) || t)
    (is_on_at form p (a + 1) n d (omega arith) (ap (λ b. list_any (bytes_eq p) (way form b)) same ∙ on))
    ∙ or_true (list_any (bytes_eq p) (way form a))

-- no position in the block map is missing if there are no logical blocks
pub missing_nil : (form : BlockMap) (names : List ℕ → Bool) → missing_places form names [] ≡ []
unfolding missing_places
missing_nil form names = refl

-- two tests that agree on the items of a list filter it in the same way
filter_same : (f g : List ℕ → Bool) (qs : List (List ℕ)) → ((q : List ℕ) → IsAmong q qs → f q ≡ g q) → filter f qs ≡ filter g qs
filter_same f g [] same = refl
filter_same f g (q ∷ qs) same =
    let here : f q ≡ g q = same q (inl refl) in
    let rest : filter f qs ≡ filter g qs = filter_same f g qs (λ p among. same p (inr among)) in rw (here, rest) refl

-- an item of a reversed list is in the list
pub among_reverse : (p : List ℕ) (qs : List (List ℕ)) → IsAmong p (reverse qs) → IsAmong p qs
among_reverse p [] among = among
among_reverse p (q ∷ qs) among =
    elim (among_append p (reverse qs) (q ∷ []) (subst (IsAmong p) (reverse-append (q ∷ []) qs) among)) [
      | inl later ↦ inr (among_reverse p qs later)
      | inr (inl first) ↦ inl first
      | inr (inr none) ↦ absurd none
    ]

-- an item of the list `fronts q` is on the path to `q`
pub among_fronts : (p q : List ℕ) → IsAmong p (fronts q) → IsFront p q
among_fronts p [] among = among
among_fronts p (j ∷ q) (inl e) = inl e
among_fronts p (j ∷ q) (inr above) = inr (among_fronts p q above)

-- each position on the path of a logical block is in the block map
pub way_places : (form : BlockMap) (b : ℕ) (p : List ℕ) → IsAmong p (way form b) → IsPlace form p
way_places form b p among =
    elim (last_place form b) as (λ o. last_place form b ≡ o → IsAmong p (option_map_or fronts o []) → IsPlace form p) [
      | None ↦ λ e none. absurd none
      | Some q ↦ λ e on. place_front form q p (last_leaf form b q e).place (among_fronts p q on)
    ] refl among

-- the positions in the block map missing on a path depend only on which of its positions point to blocks
pub missing_same : (form : BlockMap) (names same : List ℕ → Bool) (b : ℕ) → ((p : List ℕ) → IsPlace form p → names p ≡ same p)
    → missing_on_way form names b ≡ missing_on_way form same b
missing_same form names same b equal =
    filter_same (λ p. not (names p)) (λ p. not (same p)) (reverse (way form b))
    (λ p among. ap not (equal p (way_places form b p (among_reverse p (way form b) among))))

-- the positions in the block map missing on several paths depend only on which of their positions point to blocks
pub missing_all_same : (form : BlockMap) (names same : List ℕ → Bool) (blocks : List ℕ) → ((p : List ℕ) → IsPlace form p → names p ≡ same p)
    → missing_places form names blocks ≡ missing_places form same blocks
unfolding missing_places
missing_all_same form names same [] equal = refl
missing_all_same form names same (b ∷ blocks) equal =
    let more : List ℕ → Bool = λ p. names p || list_any (bytes_eq p) (way form b) in
    ap (λ qs. qs ++ missing_places form more blocks) (missing_same form names same b equal)
    ∙ ap (λ qs. missing_on_way form same b ++ qs)
    (missing_all_same form more (λ p. same p || list_any (bytes_eq p) (way form b)) blocks
    (λ p place. ap (λ t. t || list_any (bytes_eq p) (way form b)) (equal p place)))

-- the positions in the block map missing for a range with one more logical block are those missing for the range, and those that are then still
-- missing on the last path
missing_suc : (form : BlockMap) (names : List ℕ → Bool) (a d : ℕ)
    → missing_places form names (range_with_len a (suc d))
    ≡ missing_places form names (range_with_len a d) ++ missing_on_way form (λ p. names p || is_on_ways form (range_with_len a d) p) (a + d)
unfolding missing_places
missing_suc form names a zero =
    let same : a ≡ a + 0 = omega arith in
    append-nil (missing_on_way form names a)
    ∙ (missing_same form names (λ p. names p || false) a (λ p place. sym (or-false (names p))) ∙ ap (missing_on_way form (λ p. names p || false)) same)
missing_suc form names a (suc d) =
    let same : a + 1 + d ≡ a + suc d = omega arith in
    let more : List ℕ → Bool = λ p. names p || list_any (bytes_eq p) (way form a) in
    ap (λ qs. missing_on_way form names a ++ qs)
    (missing_suc form more (a + 1) d
    ∙ ap (λ qs. missing_places form more (range_with_len (a + 1) d) ++ qs)
    (missing_same form (λ p. more p || is_on_ways form (range_with_len (a + 1) d) p) (λ p. names p || is_on_ways form (range_with_len a (suc d)) p) (a + 1 + d)
    (λ p place. or_assoc (names p) (list_any (bytes_eq p) (way form a)) (is_on_ways form (range_with_len (a + 1) d) p))
    ∙ ap (missing_on_way form (λ p. names p || is_on_ways form (range_with_len a (suc d)) p)) same))
    ∙ sym (append_assoc (missing_on_way form names a) (missing_places form more (range_with_len (a + 1) d))
    (missing_on_way form (λ p. names p || is_on_ways form (range_with_len a (suc d)) p) (a + suc d)))

-- the positions in the block map missing for a range with one more logical block, with its length as a sum
missing_more : (form : BlockMap) (names : List ℕ → Bool) (a d : ℕ)
    → missing_places form names (range_with_len a (d + 1))
    ≡ missing_places form names (range_with_len a d) ++ missing_on_way form (λ p. names p || is_on_ways form (range_with_len a d) p) (a + d)
missing_more form names a d =
    let next : d + 1 ≡ suc d = omega arith in ap (λ n. missing_places form names (range_with_len a n)) next ∙ missing_suc form names a d

-- before the first step no path has been filled
pub ways_none : (geometry : Geometry) (image : List ℕ) (i : ℕ) (wanted : List ℕ → Bool) (from n d : ℕ) (blocks : List ℕ)
    → WantsWays geometry image i wanted from n blocks → d ≡ 0 → NamesWays geometry image image i wanted from d blocks
ways_none geometry image i wanted from n d blocks wants none =
    rw none (record {
      rest = blocks;
      extends = extends_as geometry image image i wanted (is_on_ways (form_at geometry image i) (range_with_len from 0))
          (is_on_ways (form_at geometry image i) (range_with_len from 0)) [] (missing_places (form_at geometry image i) (is_named geometry image i) []) blocks blocks
          (λ p. refl) (sym (missing_nil (form_at geometry image i) (is_named geometry image i)))
          (extends_none geometry image i wanted (is_on_ways (form_at geometry image i) (range_with_len from 0)) blocks wants.ready.sound
          (λ p e. absurd (search (e, rules))));
    })

-- the path of the next logical block can be filled
pub ways_next : (geometry : Geometry) (old mid : List ℕ) (i : ℕ) (wanted : List ℕ → Bool) (from n d b : ℕ) (blocks : List ℕ)
    → WantsWays geometry old i wanted from n blocks → (named : NamesWays geometry old mid i wanted from d blocks) → d < n → from + d ≡ b
    → WantsWay geometry mid i wanted b named.rest
ways_next geometry old mid i wanted from n d b blocks wants named h at =
    let form : form_at geometry mid i ≡ form_at geometry old i = form_same geometry old mid i named.extends.mode in
    record {
      ready = ready_after geometry old mid i wanted (is_on_ways (form_at geometry old i) (range_with_len from d))
          (missing_places (form_at geometry old i) (is_named geometry old i) (range_with_len from d)) blocks named.rest wants.ready named.extends;
      limit = subst (λ f. b < block_limit f) (sym form) (omega (arith, wants.limit, h, at));
      want = λ p on. wants.want p (is_on_at (form_at geometry old i) p from n d h
          (ap (λ c. list_any (bytes_eq p) (way (form_at geometry old i) c)) at ∙ (ap (λ f. list_any (bytes_eq p) (way f b)) (sym form) ∙ on)));
    }

-- filling the path of one more logical block fills the paths of a range with one more logical block
pub ways_more : (geometry : Geometry) (old mid new : List ℕ) (i : ℕ) (wanted : List ℕ → Bool) (from n d b e : ℕ) (blocks : List ℕ)
    → WantsWays geometry old i wanted from n blocks → (named : NamesWays geometry old mid i wanted from d blocks) → from + d ≡ b → d + 1 ≡ e
    → NamesWay geometry mid new i wanted b named.rest → NamesWays geometry old new i wanted from e blocks
ways_more geometry old mid new i wanted from n d b e blocks wants named at next way_named =
    let form : form_at geometry mid i ≡ form_at geometry old i = form_same geometry old mid i named.extends.mode in
    let f = form_at geometry old i in
    subst (λ x. NamesWays geometry old new i wanted from x blocks) next (record {
      rest = way_named.rest;
      extends = extends_as geometry old new i wanted
          (λ p. is_on_ways f (range_with_len from d) p || list_any (bytes_eq p) (way (form_at geometry mid i) b)) (is_on_ways f (range_with_len from (d + 1)))
          (missing_places f (is_named geometry old i) (range_with_len from d) ++ missing_on_way (form_at geometry mid i) (is_named geometry mid i) b)
          (missing_places f (is_named geometry old i) (range_with_len from (d + 1))) blocks way_named.rest
          (λ p. ap (λ g. is_on_ways f (range_with_len from d) p || list_any (bytes_eq p) (way g b)) form
          ∙ (ap (λ c. is_on_ways f (range_with_len from d) p || list_any (bytes_eq p) (way f c)) (sym at) ∙ sym (is_on_more f p from d)))
          (ap (λ qs. missing_places f (is_named geometry old i) (range_with_len from d) ++ qs)
          (ap (λ g. missing_on_way g (is_named geometry mid i) b) form
          ∙ (missing_same f (is_named geometry mid i) (λ p. is_named geometry old i p || is_on_ways f (range_with_len from d) p) b
          (λ p place. named.extends.names p (record { file = wants.ready.file; place = place }))
          ∙ ap (missing_on_way f (λ p. is_named geometry old i p || is_on_ways f (range_with_len from d) p)) (sym at)))
          ∙ sym (missing_more f (is_named geometry old i) from d))
          (extends_then geometry old mid new i wanted (is_on_ways f (range_with_len from d)) (λ p. list_any (bytes_eq p) (way (form_at geometry mid i) b))
          (missing_places f (is_named geometry old i) (range_with_len from d)) (missing_on_way (form_at geometry mid i) (is_named geometry mid i) b)
          blocks named.rest way_named.rest wants.ready named.extends way_named.extends);
    })
