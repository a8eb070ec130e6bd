-- Laws of the map of a directory's names: looking up a name, and adding or removing an entry.
use Rattle.std.proofs.Common.{◌≡◌, ◌∙◌, sym, ap, subst, refl, ℕ, zero, suc, ◌+◌, ◌<◌, ◌≤◌, Bool, true, false, cond, not, ◌||◌, List, [], ◌∷◌, ◌++◌, take, drop, map, length, get_or, None, Some, arith}
use Rattle.std.specs.Prelude.{Option, T}
use Rattle.std.specs.List.{list_any}
use Rattle.std.specs.Option.{option_map, is_some}
use Rattle.std.specs.Str.{bytes_eq}
use Rattle.std.specs.Ordering.{nat_cmp, eq_by_cmp}
use Rattle.std.specs.declared.cmp.Ordering.TheVariants.{Less, Equal, Greater}
use Rattle.std.specs.Cmp.Lexicographic.{slice_cmp}
use Rattle.std.specs.FinMap.Entries.{by_order, put, is_sorted, find-put, is_sorted-put, find-where_key, is_sorted-where_key, same_entries}
use Rattle.std.proofs.lemmas.Cmp.{nat_list_cmp_total}
use Rattle.std.proofs.lemmas.Bool.{or_parts, true≢false, false_from_ne_true}
use Rattle.std.proofs.lemmas.Map.Lookups.{exact_bytes}
use Rattle.std.proofs.lemmas.Map.Text.{is_eq-slice_cmp}
use Rattle.vol_file.proofs.PlaceLists.{bytes_same, same_bytes}
use Rattle.vol_dir.specs.EntryEdits.{with_item}
use Rattle.vol_dir.specs.Names.{Names, get, insert, remove, names_of, names_in}
use Rattle.vol_dir.specs.Names.{is_dots}
use Rattle.vol_dir.specs.Search.{holds, holds_other, emptied, slot_named}

-- inserting a name in a map changes only the value of this name
get_insert : (names : Names) (name q : List ℕ) (i : ℕ) → get (insert names name i) q ≡ cond (bytes_eq q name) (Some i) (get names q)
get_insert names name q i =
    find-put (slice_cmp nat_cmp) nat_list_cmp_total q name i names ∙ ap (λ b. cond b (Some i) (get names q)) (is_eq-slice_cmp q name)

-- the names of a map are in ascending order
pub sorted : (slots : List (Option (List ℕ × ℕ))) → T (is_sorted (slice_cmp nat_cmp) (names_of slots))
sorted [] = tt
sorted (None ∷ slots) = sorted slots
sorted (Some entry ∷ slots) = is_sorted-put (slice_cmp nat_cmp) nat_list_cmp_total entry.0 entry.1 (names_of slots) (sorted slots)

-- the i-number of a name is the one in the first slot that has the name
pub get_first : (slots : List (Option (List ℕ × ℕ))) (name : List ℕ) (s : ℕ) → s < length slots → holds name (get_or slots s None) ≡ true
    → ((t : ℕ) → t < s → holds name (get_or slots t None) ≡ false)
    → get (names_of slots) name ≡ option_map (λ (entry : List ℕ × ℕ). entry.1) (get_or slots s None)
get_first [] name s h here before = absurd (omega arith)
get_first (None ∷ slots) name zero h here before = absurd (subst T (sym here) tt)
get_first (None ∷ slots) name (suc s) h here before = get_first slots name s (omega arith) here (λ t l. before (suc t) (omega arith))
get_first (Some entry ∷ slots) name zero h here before =
    get_insert (names_of slots) entry.0 name entry.1 ∙ ap (λ b. cond b (Some entry.1) (get (names_of slots) name)) here
get_first (Some entry ∷ slots) name (suc s) h here before =
    get_insert (names_of slots) entry.0 name entry.1
    ∙ (ap (λ b. cond b (Some entry.1) (get (names_of slots) name)) (before zero (omega arith))
    ∙ get_first slots name s (omega arith) here (λ t l. before (suc t) (omega arith)))

-- a name that no slot has is not in the map
pub get_none : (slots : List (Option (List ℕ × ℕ))) (name : List ℕ)
    → ((t : ℕ) → t < length slots → holds name (get_or slots t None) ≡ false) → get (names_of slots) name ≡ None
get_none [] name none = refl
get_none (None ∷ slots) name none = get_none slots name (λ t h. none (suc t) (omega arith))
get_none (Some entry ∷ slots) name none =
    get_insert (names_of slots) entry.0 name entry.1
    ∙ (ap (λ b. cond b (Some entry.1) (get (names_of slots) name)) (none zero (omega arith))
    ∙ get_none slots name (λ t h. none (suc t) (omega arith)))

-- after a name is inserted, some name of the map passes a test if it does or if an old name does
any_put : (test : List ℕ → Bool) (name : List ℕ) (i : ℕ) (names : Names)
    → list_any (λ (entry : List ℕ × ℕ). test entry.0) (put (slice_cmp nat_cmp) name i names)
    ≡ (test name || list_any (λ (entry : List ℕ × ℕ). test entry.0) names)
any_put test name i [] = refl
any_put test name i (e ∷ es) =
    elim (slice_cmp nat_cmp name e.0) as (λ o. slice_cmp nat_cmp name e.0 ≡ o
    → list_any (λ (entry : List ℕ × ℕ). test entry.0) (by_order o ((name, i) ∷ e ∷ es) ((e.0, i) ∷ es) (e ∷ put (slice_cmp nat_cmp) name i es))
    ≡ (test name || (test e.0 || list_any (λ (entry : List ℕ × ℕ). test entry.0) es))) [
      | Less ↦ λ c. refl
      | Equal ↦ λ c. same_or (test name) (test e.0) (list_any (λ (entry : List ℕ × ℕ). test entry.0) es) (ap test (exact_bytes name e.0 c))
      | Greater ↦ λ c. ap (λ b. test e.0 || b) (any_put test name i es)
          ∙ or_turned (test e.0) (test name) (list_any (λ (entry : List ℕ × ℕ). test entry.0) es)
    ] refl
  where
    same_or : (a b c : Bool) → a ≡ b → (b || c) ≡ (a || (b || c))
    same_or true b c e = ap (λ x. x || c) (sym e)
    same_or false b c e = refl

    or_turned : (a b c : Bool) → (a || (b || c)) ≡ (b || (a || c))
    or_turned true true c = refl
    or_turned true false c = refl
    or_turned false b c = refl

-- the map has a name other than `.` and `..` if and only if a slot has one
pub any_other : (slots : List (Option (List ℕ × ℕ)))
    → list_any (λ (entry : List ℕ × ℕ). not (is_dots entry.0)) (names_of slots) ≡ list_any holds_other slots
any_other [] = refl
any_other (None ∷ slots) = any_other slots
any_other (Some entry ∷ slots) =
    any_put (λ name. not (is_dots name)) entry.0 entry.1 (names_of slots) ∙ ap (λ b. not (is_dots entry.0) || b) (any_other slots)

-- adding a slot without the name in front does not change the entry found for the name
slot_next : (name : List ℕ) (slot : Option (List ℕ × ℕ)) (slots : List (Option (List ℕ × ℕ))) → holds name slot ≡ false
    → get_or (slot ∷ slots) (slot_named name (slot ∷ slots)) None ≡ get_or slots (slot_named name slots) None
slot_next name slot slots e =
    let k = slot_named name slots in
    let next : 1 + k ≡ suc k = omega arith in
    ap (λ b. get_or (slot ∷ slots) (cond (not b) (1 + k) 0) None) e ∙ ap (λ n. get_or (slot ∷ slots) n None) next

-- the i-number of a name is the one in the first slot that has the name, or None if no slot has it
pub get_named : (slots : List (Option (List ℕ × ℕ))) (name : List ℕ)
    → get (names_of slots) name ≡ option_map (λ (entry : List ℕ × ℕ). entry.1) (get_or slots (slot_named name slots) None)
get_named [] name = refl
get_named (None ∷ slots) name =
    get_named slots name ∙ sym (ap (option_map (λ (entry : List ℕ × ℕ). entry.1)) (slot_next name None slots refl))
get_named (Some entry ∷ slots) name =
    get_insert (names_of slots) entry.0 name entry.1
    ∙ elim (bytes_eq name entry.0) as (λ b. bytes_eq name entry.0 ≡ b → cond b (Some entry.1) (get (names_of slots) name)
    ≡ option_map (λ (entry : List ℕ × ℕ). entry.1) (get_or (Some entry ∷ slots) (slot_named name (Some entry ∷ slots)) None)) [
      | true ↦ λ e. rw e refl
      | false ↦ λ e. get_named slots name ∙ sym (ap (option_map (λ (entry : List ℕ × ℕ). entry.1)) (slot_next name (Some entry) slots e))
    ] refl

-- if a name is not in the map, no slot has it
pub none_held : (slots : List (Option (List ℕ × ℕ))) (name : List ℕ) → get (names_of slots) name ≡ None → list_any (holds name) slots ≡ false
none_held [] name none = refl
none_held (None ∷ slots) name none = none_held slots name none
none_held (Some entry ∷ slots) name none =
    elim (bytes_eq name entry.0) as (λ b. cond b (Some entry.1) (get (names_of slots) name) ≡ None → (b || list_any (holds name) slots) ≡ false) [
      | true ↦ λ e. absurd (true≢false (ap is_some e))
      | false ↦ λ e. none_held slots name e
    ] (sym (get_insert (names_of slots) entry.0 name entry.1) ∙ none)

-- the order of two conditionals makes no difference if both conditions can't be true
turned : {X : Type 0} (a b : Bool) (x y z : X) → (a ≡ true → b ≡ true → ⊥) → cond a x (cond b y z) ≡ cond b y (cond a x z)
turned true true x y z apart = absurd (apart refl refl)
turned true false x y z apart = refl
turned false b x y z apart = refl

-- replacing an item other than the first keeps the first item
with_item_next : {X : Type 0} (first x : X) (xs : List X) (s : ℕ) → with_item (first ∷ xs) (suc s) x ≡ first ∷ with_item xs s x
with_item_next first x xs s = let next : suc s + 1 ≡ suc (s + 1) = omega arith in ap (λ n. first ∷ (take s xs ++ x ∷ drop n (first ∷ xs))) next

-- appending to an empty list gives a list of one item
with_item_none : {X : Type 0} (x : X) (s : ℕ) → with_item [] (suc s) x ≡ x ∷ []
with_item_none x s = let next : suc s + 1 ≡ suc (s + 1) = omega arith in ap (λ n. x ∷ drop n []) next

-- after a new name is stored in an empty slot or after the last slot, only the value of this name has changed
get_with : (slots : List (Option (List ℕ × ℕ))) (s i : ℕ) (name q : List ℕ) → s ≤ length slots → get_or slots s None ≡ None
    → list_any (holds name) slots ≡ false
    → get (names_of (with_item slots s (Some (name, i)))) q ≡ cond (bytes_eq q name) (Some i) (get (names_of slots) q)
get_with [] zero i name q h empty none = get_insert [] name q i
get_with [] (suc s) i name q h empty none = absurd (omega arith)
get_with (None ∷ slots) zero i name q h empty none = get_insert (names_of slots) name q i
get_with (None ∷ slots) (suc s) i name q h empty none =
    ap (λ xs. get (names_of xs) q) (with_item_next None (Some (name, i)) slots s) ∙ get_with slots s i name q (omega arith) empty none
get_with (Some entry ∷ slots) zero i name q h empty none = absurd (true≢false (ap is_some empty))
get_with (Some entry ∷ slots) (suc s) i name q h empty none =
    let parts = or_parts (bytes_eq name entry.0) (list_any (holds name) slots) none in
    ap (λ xs. get (names_of xs) q) (with_item_next (Some entry) (Some (name, i)) slots s)
    ∙ (get_insert (names_of (with_item slots s (Some (name, i)))) entry.0 q entry.1
    ∙ (ap (cond (bytes_eq q entry.0) (Some entry.1)) (get_with slots s i name q (omega arith) empty parts.1)
    ∙ (turned (bytes_eq q entry.0) (bytes_eq q name) (Some entry.1) (Some i) (get (names_of slots) q)
    (λ a b. true≢false (sym (bytes_same name entry.0 (sym (same_bytes q name b) ∙ same_bytes q entry.0 a)) ∙ parts.0))
    ∙ ap (cond (bytes_eq q name) (Some i)) (sym (get_insert (names_of slots) entry.0 q entry.1)))))

-- storing a new name in an empty slot or after the last slot inserts it in the map
pub names_with : (slots : List (Option (List ℕ × ℕ))) (s i : ℕ) (name : List ℕ) → s ≤ length slots → get_or slots s None ≡ None
    → list_any (holds name) slots ≡ false → names_of (with_item slots s (Some (name, i))) ≡ insert (names_of slots) name i
names_with slots s i name h empty none =
    same_entries (slice_cmp nat_cmp) nat_list_cmp_total exact_bytes (names_of (with_item slots s (Some (name, i)))) (insert (names_of slots) name i)
    (sorted (with_item slots s (Some (name, i))))
    (is_sorted-put (slice_cmp nat_cmp) nat_list_cmp_total name i (names_of slots) (sorted slots))
    (λ q. get_with slots s i name q h empty none ∙ sym (get_insert (names_of slots) name q i))

-- replacing a slot replaces its name in the list of names
pub names_in_with : (slots : List (Option (List ℕ × ℕ))) (s : ℕ) (slot : Option (List ℕ × ℕ))
    → names_in (with_item slots s slot) ≡ with_item (names_in slots) s (option_map (λ (entry : List ℕ × ℕ). entry.0) slot)
names_in_with [] zero slot = refl
names_in_with [] (suc s) slot =
    ap names_in (with_item_none slot s) ∙ sym (with_item_none (option_map (λ (entry : List ℕ × ℕ). entry.0) slot) s)
names_in_with (first ∷ slots) zero slot = refl
names_in_with (first ∷ slots) (suc s) slot =
    ap names_in (with_item_next first slot slots s)
    ∙ (ap (λ names. option_map (λ (entry : List ℕ × ℕ). entry.0) first ∷ names) (names_in_with slots s slot)
    ∙ sym (with_item_next (option_map (λ (entry : List ℕ × ℕ). entry.0) first) (option_map (λ (entry : List ℕ × ℕ). entry.0) slot) (names_in slots) s))

-- a slot after a name is removed: empty if it had the name
abbrev pub cleared : List ℕ → Option (List ℕ × ℕ) → Option (List ℕ × ℕ)
cleared name slot = cond (holds name slot) None slot

-- removing a name from a map changes only the value of this name
pub get_remove : (names : Names) (name q : List ℕ) → get (remove names name) q ≡ cond (bytes_eq name q) None (get names q)
get_remove names name q =
    find-where_key (slice_cmp nat_cmp) (λ other. not (eq_by_cmp (slice_cmp nat_cmp) name other)) q
    (λ x e. ap (λ other. not (eq_by_cmp (slice_cmp nat_cmp) name other)) (sym (exact_bytes q x e))) names
    ∙ (ap (λ b. cond (not b) (get names q) None) (is_eq-slice_cmp name q) ∙ not_cond (bytes_eq name q) (get names q) None)
  where
    not_cond : {X : Type 0} (b : Bool) (x y : X) → cond (not b) x y ≡ cond b y x
    not_cond true x y = refl
    not_cond false x y = refl

-- after a name is removed from all slots, only the value of this name has changed
get_cleared : (slots : List (Option (List ℕ × ℕ))) (name q : List ℕ)
    → get (names_of (map (cleared name) slots)) q ≡ cond (bytes_eq name q) None (get (names_of slots) q)
get_cleared [] name q = elim (bytes_eq name q) as (λ b. get [] q ≡ cond b None (get [] q)) [ true ↦ refl | false ↦ refl ]
get_cleared (None ∷ slots) name q = get_cleared slots name q
get_cleared (Some entry ∷ slots) name q =
    elim (bytes_eq name entry.0) as (λ b. bytes_eq name entry.0 ≡ b
    → get (names_of (cond b None (Some entry) ∷ map (cleared name) slots)) q ≡ cond (bytes_eq name q) None (get (insert (names_of slots) entry.0 entry.1) q)) [
      | true ↦ λ e. get_cleared slots name q
          ∙ elim (bytes_eq name q) as (λ b. bytes_eq name q ≡ b
          → cond b None (get (names_of slots) q) ≡ cond b None (get (insert (names_of slots) entry.0 entry.1) q)) [
            | true ↦ λ f. refl
            | false ↦ λ f. sym (get_insert (names_of slots) entry.0 q entry.1
                ∙ ap (λ b. cond b (Some entry.1) (get (names_of slots) q))
                (false_from_ne_true (bytes_eq q entry.0)
                (λ g. true≢false (sym (bytes_same name q (same_bytes name entry.0 e ∙ sym (same_bytes q entry.0 g))) ∙ f))))
          ] refl
      | false ↦ λ e. get_insert (names_of (map (cleared name) slots)) entry.0 q entry.1
          ∙ (ap (cond (bytes_eq q entry.0) (Some entry.1)) (get_cleared slots name q)
          ∙ (turned (bytes_eq q entry.0) (bytes_eq name q) (Some entry.1) None (get (names_of slots) q)
          (λ a b. true≢false (sym (bytes_same name entry.0 (same_bytes name q b ∙ same_bytes q entry.0 a)) ∙ e))
          ∙ ap (cond (bytes_eq name q) None) (sym (get_insert (names_of slots) entry.0 q entry.1))))
    ] refl

-- removing a name from all slots removes it from the map
pub names_cleared : (slots : List (Option (List ℕ × ℕ))) (name : List ℕ) → names_of (map (cleared name) slots) ≡ remove (names_of slots) name
names_cleared slots name =
    same_entries (slice_cmp nat_cmp) nat_list_cmp_total exact_bytes (names_of (map (cleared name) slots)) (remove (names_of slots) name)
    (sorted (map (cleared name) slots))
    (is_sorted-where_key (slice_cmp nat_cmp) (λ other. not (eq_by_cmp (slice_cmp nat_cmp) name other)) (names_of slots) (sorted slots))
    (λ q. get_cleared slots name q ∙ sym (get_remove (names_of slots) name q))

-- removing a name from all slots empties these slots in the list of names
pub names_in_cleared : (slots : List (Option (List ℕ × ℕ))) (name : List ℕ) → names_in (map (cleared name) slots) ≡ map (emptied name) (names_in slots)
names_in_cleared [] name = refl
names_in_cleared (None ∷ slots) name = ap (λ names. None ∷ names) (names_in_cleared slots name)
names_in_cleared (Some entry ∷ slots) name =
    elim (bytes_eq name entry.0) as (λ b. names_in (cond b None (Some entry) ∷ map (cleared name) slots)
    ≡ cond b None (Some entry.0) ∷ map (emptied name) (names_in slots)) [
      | true ↦ ap (λ names. None ∷ names) (names_in_cleared slots name)
      | false ↦ ap (λ names. Some entry.0 ∷ names) (names_in_cleared slots name)
    ]
