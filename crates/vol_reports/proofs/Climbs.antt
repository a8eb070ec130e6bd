-- A climb from a directory, step by step.
use Rattle.std.proofs.Common.{◌≡◌, ◌≢◌, ◌⊎◌, inl, inr, ℕ, suc, zero, ◌+◌, ◌-◌, ◌<◌, ◌≤◌, Bool, true, false, cond, ◌||◌, List, [], ◌∷◌, ◌++◌, Option, Some, None, length, get_or, set, Bor, refl, sym, ap, ◌∙◌, subst, arith, append_assoc, append-nil, length-set, add-one, ◌==◌}
use Rattle.std.specs.List.{count_by, list_any}
use Rattle.std.specs.Option.{option_map}
use Rattle.std.proofs.lemmas.List.{get_or-set_same, get_or-set_other, get_or_past, get_or_default}
use Rattle.std.proofs.lemmas.List.Sums.{sum_by-set, sum_by-append, count_by-le-length}
use Rattle.std.proofs.lemmas.Bool.{eq-eqb, ne_eqb, cases_eq}
use Rattle.vol_reports.specs.Placed.{Placed}
use Rattle.vol_reports.specs.Ncheck.{slashed, dots, path_up}
use Rattle.vol_reports.specs.Climb.{naming_in, trail, path_start, AreBefore, Steps, Climbs}

-- a first item adds 1 to a count if it passes the test
count_front : {X : Type 0} (t : X → Bool) (x : X) (xs : List X) → count_by t (x ∷ xs) ≡ cond (t x) 1 0 + count_by t xs
count_front t x xs = sum_by-append (λ y. cond (t y) 1 0) (x ∷ []) xs ∙ ap (λ n. n + count_by t xs) (omega arith)

-- if no item passes a test, none is counted
pub count_none : {X : Type 0} (t : X → Bool) (xs : List X) (d : X) → ((k : ℕ) → k < length xs → t (get_or xs k d) ≡ false) → count_by t xs ≡ 0
count_none t [] d none = refl
count_none t (x ∷ xs) d none =
    count_front t x xs ∙ (ap (λ b. cond b 1 0 + count_by t xs) (none 0 (omega arith))
    ∙ ap (λ n. 0 + n) (count_none t xs d (λ k low. none (suc k) (omega arith))))

-- replacing an item that fails the test by one that passes it adds 1 to the count
count_set : (t : ℕ → Bool) (xs : List ℕ) (k v : ℕ) → k < length xs → t (get_or xs k 0) ≡ false → t v ≡ true
    → count_by t (set xs k v) ≡ count_by t xs + 1
count_set t xs k v low fails passes =
    let e = sum_by-set (λ y. cond (t y) 1 0) xs k v 0 low in
    let a : ◌≡◌ {A = ℕ} (cond (t (get_or xs k 0)) 1 0) 0 = ap (λ b. cond b 1 0) fails in
    let b : ◌≡◌ {A = ℕ} (cond (t v) 1 0) 1 = ap (λ b. cond b 1 0) passes in
    omega (arith, e, a, b)

-- the trail of a climb with one more entry begins with this entry's name
pub trail_push : (way : List (Bor Placed)) (entry : Bor Placed) → trail (way ++ entry ∷ []) ≡ slashed entry.now.name ++ trail way
unfolding trail
trail_push [] entry = sym (append-nil (slashed entry.now.name))
trail_push (first ∷ way) entry =
    ap (λ xs. xs ++ slashed first.now.name) (trail_push way entry) ∙ append_assoc (slashed entry.now.name) (trail way) (slashed first.now.name)

-- a climb that passed no entries has an empty trail
pub trail_none : (way : List (Bor Placed)) → length way ≡ 0 → trail way ≡ []
unfolding trail
trail_none [] e = refl
trail_none (entry ∷ way) e = absurd (omega (arith, e))

-- a choice between two equal values is that value
both_same : {X : Type 0} (b : Bool) (x : X) → cond b x x ≡ x
both_same true x = refl
both_same false x = refl

-- the path of the root is empty
up_root : (root : ℕ) (naming : ℕ → Option Placed) (fuel : ℕ) (met : List ℕ) (at : ℕ) → at ≡ root → 1 ≤ fuel → path_up root naming fuel met at ≡ []
unfolding path_up
up_root root naming zero met at e low = absurd (omega arith)
up_root root naming (suc fuel) met at e low = rw (eq-eqb at root e) refl

-- a climb ends in dots at a directory that it passed before or that has no naming entry
up_dots : (root : ℕ) (naming : ℕ → Option Placed) (fuel : ℕ) (met : List ℕ) (at : ℕ) → at ≢ root
    → (list_any (λ e. e == at) met ≡ true) ⊎ (naming at ≡ None) → path_up root naming fuel met at ≡ dots
unfolding path_up
up_dots root naming zero met at other ends = refl
up_dots root naming (suc fuel) met at other ends =
    elim ends [
      | inl seen ↦ rw (ne_eqb at root other, seen) refl
      | inr none ↦ rw (ne_eqb at root other, none) (both_same (list_any (λ e. e == at) met) dots)
    ]

-- at any other directory the path ends with the naming entry's name, and the climb continues at the entry's directory
up_next : (root : ℕ) (naming : ℕ → Option Placed) (more : ℕ) (met : List ℕ) (at : ℕ) (entry : Placed) → at ≢ root
    → list_any (λ e. e == at) met ≡ false → naming at ≡ Some entry
    → path_up root naming (suc more) met at ≡ path_up root naming more (at ∷ met) entry.directory ++ slashed entry.name
unfolding path_up
up_next root naming more met at entry other fresh is = rw (ne_eqb at root other, fresh, is) refl

-- if `fuel` is `more` + 1, the path of `at` within `fuel` steps is that of the naming entry's directory within `more` steps, followed by the entry's
-- name
up_more : (root : ℕ) (naming : ℕ → Option Placed) (fuel more : ℕ) (met : List ℕ) (at : ℕ) (entry : Placed) → fuel ≡ more + 1 → at ≢ root
    → list_any (λ e. e == at) met ≡ false → naming at ≡ Some entry
    → path_up root naming fuel met at ≡ path_up root naming more (at ∷ met) entry.directory ++ slashed entry.name
up_more root naming fuel more met at entry e other fresh is =
    ap (λ n. path_up root naming n met at) (e ∙ add-one more) ∙ up_next root naming more met at entry other fresh is

-- at the start of a climb from `d`, it is at `d` and has passed no entries
pub climbs_first : {root turn d : ℕ} {naming : List (Option (Bor Placed))} {marks : List ℕ} (way : List (Bor Placed)) → length marks ≡ length naming
    → AreBefore turn marks → way ≡ [] → Climbs root naming turn d d marks way
unfolding trail
climbs_first {root} {turn} {d} {naming} {marks} way room before none =
    let start = path_up root (naming_in naming) (length naming + 1) [] d in
    let other : (x : ℕ) → get_or marks x 0 ≡ turn → ⊥ = λ x e. let h = before x in omega (arith, h, e) in
    record {
      met = [];
      fuel = length naming + 1;
      spent = omega arith;
      room = room;
      count = count_none (λ m. m == turn) marks 0 (λ x low. ne_eqb (get_or marks x 0) turn (other x));
      flags = λ x low. sym (ne_eqb (get_or marks x 0) turn (other x));
      early = λ x. let h = before x in omega (arith, h);
      path = sym (ap (λ w. start ++ trail w) none ∙ append-nil start);
    }

-- a climb in progress has at least one step left
fuel_some : {root turn d at : ℕ} {naming : List (Option (Bor Placed))} {marks : List ℕ} {way : List (Bor Placed)}
    → (was : Climbs root naming turn d at marks way) → 1 ≤ was.fuel
fuel_some {turn = turn} {marks = marks} was =
    let few = count_by-le-length (λ m. m == turn) marks in omega (arith, few, was.spent, was.room, was.count)

-- after a step at `at`, the directories that the climb passed are those marked with its turn
flags_more : (met old new : List ℕ) (turn at x : ℕ) → at < length old → new ≡ set old at turn
    → list_any (λ e. e == x) met ≡ (get_or old x 0 == turn) → list_any (λ e. e == x) (at ∷ met) ≡ (get_or new x 0 == turn)
flags_more met old new turn at x low is was =
    elim (cases_eq at x) [
      | inl same ↦
          ap (λ b. b || list_any (λ e. e == x) met) (eq-eqb at x same)
          ∙ sym (eq-eqb (get_or new x 0) turn (ap (λ xs. get_or xs x 0) is ∙ (ap (λ k. get_or (set old at turn) k 0) (sym same) ∙ get_or-set_same old at turn 0 low)))
      | inr other ↦
          ap (λ b. b || list_any (λ e. e == x) met) (ne_eqb at x other)
          ∙ (was ∙ ap (λ n. n == turn) (sym (ap (λ xs. get_or xs x 0) is ∙ get_or-set_other old at x turn 0 (λ e. other (sym e)))))
    ]

-- after a step over a naming entry, the climb is at the entry's directory
climbs_on : {root turn d at : ℕ} {naming : List (Option (Bor Placed))} {old new : List ℕ} {way : List (Bor Placed)} (entry : Bor Placed)
    → Climbs root naming turn d at old way → at ≢ root → Steps naming turn at old new (Some entry) → AreBefore (turn + 1) new
    → Climbs root naming turn d entry.now.directory new (way ++ entry ∷ [])
climbs_on {root} {turn} {d} {at} {naming} {old} {new} {way} entry was other steps early =
    let some = fuel_some was in
    let wide = length-set old at turn in
    let len = ap length steps.2 in
    let fresh = was.flags at steps.0 ∙ ne_eqb (get_or old at 0) turn steps.1 in
    let set_count = count_set (λ m. m == turn) old at turn steps.0 (ne_eqb (get_or old at 0) turn steps.1) (eq-eqb turn turn refl) in
    record {
      met = at ∷ was.met;
      fuel = was.fuel - 1;
      spent = omega (arith, some, was.spent);
      room = omega (arith, wide, len, was.room);
      count = ap (count_by (λ m. m == turn)) steps.2 ∙ omega (arith, set_count, was.count);
      flags = λ x low. flags_more was.met old new turn at x steps.0 steps.2 (was.flags x (omega (arith, low, wide, len)));
      early = early;
      path = was.path ∙ (ap (λ xs. xs ++ trail way)
          (up_more root (naming_in naming) was.fuel (was.fuel - 1) was.met at entry.now (omega (arith, some)) other fresh steps.3)
          ∙ (append_assoc (path_up root (naming_in naming) (was.fuel - 1) (at ∷ was.met) entry.now.directory) (slashed entry.now.name) (trail way)
          ∙ ap (λ xs. path_up root (naming_in naming) (was.fuel - 1) (at ∷ was.met) entry.now.directory ++ xs) (sym (trail_push way entry))));
    }

-- after a step over a naming entry, the climb is at `next`, if that is the entry's directory
pub climbs_more : {root turn d at next : ℕ} {naming : List (Option (Bor Placed))} {old new : List ℕ} {way more : List (Bor Placed)} (entry : Bor Placed)
    → Climbs root naming turn d at old way → at ≢ root → Steps naming turn at old new (Some entry) → AreBefore (turn + 1) new
    → next ≡ entry.now.directory → more ≡ way ++ entry ∷ [] → Climbs root naming turn d next new more
climbs_more {root} {turn} {d} {naming = naming} {new = new} {way = way} {more = more} entry was other steps early to grown =
    subst (λ x. Climbs root naming turn d x new more) (sym to)
    (subst (λ w. Climbs root naming turn d entry.now.directory new w) (sym grown) (climbs_on entry was other steps early))

-- a climb that ends elsewhere than at the root gives the path of `d`, with dots at the start
pub climbs_end : {root turn d at : ℕ} {naming : List (Option (Bor Placed))} {old : List ℕ} {way : List (Bor Placed)} (new : List ℕ)
    → Climbs root naming turn d at old way → at ≢ root → Steps naming turn at old new None
    → path_up root (naming_in naming) (length naming + 1) [] d ≡ path_start false ++ trail way
climbs_end {root} {turn} {d} {at} {naming} {old} {way} new was other steps =
    let ends : (list_any (λ e. e == at) was.met ≡ true) ⊎ (naming_in naming at ≡ None) =
    elim steps [ inl seen ↦ inl (was.flags at seen.0 ∙ eq-eqb (get_or old at 0) turn seen.1) | inr none ↦ inr none ] in
    was.path ∙ ap (λ xs. xs ++ trail way) (up_dots root (naming_in naming) was.fuel was.met at other ends)

-- a climb that ends at the root gives the path of `d`
pub climbs_root : {root turn d at : ℕ} {naming : List (Option (Bor Placed))} {marks : List ℕ} {way : List (Bor Placed)}
    → Climbs root naming turn d at marks way → at ≡ root
    → path_up root (naming_in naming) (length naming + 1) [] d ≡ path_start true ++ trail way
climbs_root {root} {turn} {d} {at} {naming} {marks} {way} was e =
    was.path ∙ ap (λ xs. xs ++ trail way) (up_root root (naming_in naming) was.fuel was.met at e (fuel_some was))

-- a step leaves one directory fewer without a mark of this turn
pub climbs_fall : {root turn d at : ℕ} {naming : List (Option (Bor Placed))} {old new : List ℕ} {way : List (Bor Placed)} (entry : Bor Placed)
    → Climbs root naming turn d at old way → Steps naming turn at old new (Some entry)
    → length new - count_by (λ m. m == turn) new < length old - count_by (λ m. m == turn) old
climbs_fall {turn = turn} {at = at} {old = old} {new = new} entry was steps =
    let wide = length-set old at turn in
    let len = ap length steps.2 in
    let set_count = count_set (λ m. m == turn) old at turn steps.0 (ne_eqb (get_or old at 0) turn steps.1) (eq-eqb turn turn refl) in
    let counted = ap (count_by (λ m. m == turn)) steps.2 in
    let few = count_by-le-length (λ m. m == turn) new in
    omega (arith, wide, len, set_count, counted, few)

-- there is no naming entry past the end of the list
pub none_past : (naming : List (Option (Bor Placed))) (at : ℕ) → length naming ≤ at → naming_in naming at ≡ None
none_past naming at past = ap (option_map (λ (entry : Bor Placed). entry.now)) (get_or_past naming at None past)

-- the naming entry of an i-number is the element at its index
named_at : (naming : List (Option (Bor Placed))) (at : ℕ) (o : Option (Bor Placed)) → at < length naming → o ≡ get_or naming at o
    → naming_in naming at ≡ option_map (λ (entry : Bor Placed). entry.now) o
named_at naming at o low is = ap (option_map (λ (entry : Bor Placed). entry.now)) (get_or_default naming at None o low ∙ sym is)

-- marking a directory that isn't marked with this turn makes a step to its naming entry
pub steps_at : (naming : List (Option (Bor Placed))) (turn at : ℕ) (old : List ℕ) (o : Option (Bor Placed)) → length old ≡ length naming
    → at < length old → get_or old at 0 ≢ turn → o ≡ get_or naming at o → Steps naming turn at old (set old at turn) o
steps_at naming turn at old None room low unmet is = inr (named_at naming at None (omega (arith, low, room)) is)
steps_at naming turn at old (Some entry) room low unmet is = (low, unmet, refl, named_at naming at (Some entry) (omega (arith, low, room)) is)
