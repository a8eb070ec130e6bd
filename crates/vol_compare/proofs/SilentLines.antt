-- When two trees have no lines: lemmas on the lines of members.
use Rattle.std.proofs.Common.{◌≡◌, ◌∙◌, sym, ap, refl, ℕ, suc, ◌==◌, if◌then◌else◌, Bool, true, false, not, List, [], ◌∷◌, ◌++◌, codes, length, inl, inr, Option, None, Some, arith}
use Rattle.std.specs.Option.{option_map}
use Rattle.std.specs.Str.{bytes_eq}
use Rattle.std.proofs.lemmas.Bool.{cases_eq, eq-eqb, ne_eqb, true≢false}
use Rattle.std.proofs.lemmas.Option.{none-some}
use Rattle.std.proofs.lemmas.Slice.Eq.{bytes_eq-Decides}
use Rattle.vol_archive.specs.declared.met_entries.Reason.{Reason}
use Rattle.vol_archive.specs.declared.met_entries.Reason.TheVariants as reasons
use Rattle.vol_compare.specs.Bodies.{first_difference}
use Rattle.vol_compare.specs.Lines.{bytes_change, change, changed_line, fact_changes, is_one_kind, is_one_name, is_one_reason, kind_change, kind_text, left_text, mode_change, node_changes, nodes_changed, nodes_line, number_change, owner_changes, pair_line, reasons_line, renamed_line, time_change, time_changes, turned_line, unseen_line}
use Rattle.vol_compare.specs.Members.{Content, Node, LeftOut, is_seen, is_unseen}
use Rattle.vol_compare.specs.declared.members.Facts.{Facts}
use Rattle.vol_compare.specs.declared.members.NodeKind.{NodeKind}
use Rattle.vol_compare.specs.declared.members.NodeKind.TheVariants as nodes
use Rattle.vol_compare.proofs.BodyDifferences.{none_same}

-- a text with a byte isn't empty
pub some_text : (c : ℕ) (text : List ℕ) → (c ∷ text) ≡ [] → ⊥
some_text c text e = let bad : suc (length text) ≡ 0 = ap length e in omega (arith, bad)

-- if two texts together are empty, the first is
pub first_empty : (xs ys : List ℕ) → xs ++ ys ≡ [] → xs ≡ []
first_empty [] ys e = refl
first_empty (x ∷ xs) ys e = absurd (some_text x (xs ++ ys) e)

-- and so is the second
pub rest_empty : (xs ys : List ℕ) → xs ++ ys ≡ [] → ys ≡ []
rest_empty [] ys e = e
rest_empty (x ∷ xs) ys e = absurd (some_text x (xs ++ ys) e)

-- two empty texts together are empty
pub both_empty : (xs ys : List ℕ) → xs ≡ [] → ys ≡ [] → xs ++ ys ≡ []
both_empty xs ys first rest = ap (λ zs. zs ++ ys) first ∙ rest

-- a change of a value is not empty
some_change : (name old new : List ℕ) → change name old new ≡ [] → ⊥
unfolding change
some_change name old new e = some_text 44 _ e

-- nothing is told of a value that is the same
pub value_same : (a : ℕ) (text : List ℕ) → (if a == a then [] else text) ≡ []
value_same a text = ap (λ t. if t then [] else text) (eq-eqb a a refl)

-- a value of which nothing is told is the same
value_equal : (a b : ℕ) (name old new : List ℕ) → (if a == b then [] else change name old new) ≡ [] → a ≡ b
value_equal a b name old new e =
    elim (cases_eq a b) [
      | inl same ↦ same
      | inr other ↦ absurd (some_change name old new (sym (ap (λ t. if t then [] else change name old new) (ne_eqb a b other)) ∙ e))
    ]

-- a line of a path that leads to something else isn't empty
some_turn : (path old new : List ℕ) → turned_line path old new ≡ [] → ⊥
unfolding turned_line
some_turn path old new e = some_text 84 _ e

-- a line of a path with another name isn't empty
some_rename : (path : List ℕ) (f : Facts) (a : Option (List ℕ)) (h : Facts) (b : Option (List ℕ)) (first : Option ℕ)
    → renamed_line path f a h b first ≡ [] → ⊥
unfolding renamed_line
some_rename path f a h b first e = some_text _ _ e

-- a line of changes is empty only without any
no_changes : (path changes : List ℕ) → changed_line path changes ≡ [] → changes ≡ []
no_changes path [] e = refl
no_changes path (c ∷ changes) e = absurd (some_text 77 _ e)

-- nothing is told of one kind
kind_same : (kind : NodeKind) → kind_change kind kind ≡ []
kind_same (nodes.File m) = value_same m _
kind_same nodes.Directory = refl
kind_same (nodes.Block m) = value_same m _
kind_same (nodes.Character m) = value_same m _

-- a kind is one kind with itself
one_kind : (kind : NodeKind) → is_one_kind kind kind ≡ true
one_kind (nodes.File m) = refl
one_kind nodes.Directory = refl
one_kind (nodes.Block m) = refl
one_kind (nodes.Character m) = refl

-- a reason is one reason with itself
one_reason : (reason : Reason) → is_one_reason reason reason ≡ true
one_reason reasons.NoNode = refl
one_reason reasons.OddNode = refl
one_reason reasons.Again = refl
one_reason reasons.LongPath = refl
one_reason reasons.BadName = refl

-- two reasons that are one are equal
reasons_equal : (r s : Reason) → is_one_reason r s ≡ true → r ≡ s
reasons_equal reasons.NoNode reasons.NoNode is = refl
reasons_equal reasons.NoNode reasons.OddNode is = absurd (true≢false (sym is))
reasons_equal reasons.NoNode reasons.Again is = absurd (true≢false (sym is))
reasons_equal reasons.NoNode reasons.LongPath is = absurd (true≢false (sym is))
reasons_equal reasons.NoNode reasons.BadName is = absurd (true≢false (sym is))
reasons_equal reasons.OddNode reasons.NoNode is = absurd (true≢false (sym is))
reasons_equal reasons.OddNode reasons.OddNode is = refl
reasons_equal reasons.OddNode reasons.Again is = absurd (true≢false (sym is))
reasons_equal reasons.OddNode reasons.LongPath is = absurd (true≢false (sym is))
reasons_equal reasons.OddNode reasons.BadName is = absurd (true≢false (sym is))
reasons_equal reasons.Again reasons.NoNode is = absurd (true≢false (sym is))
reasons_equal reasons.Again reasons.OddNode is = absurd (true≢false (sym is))
reasons_equal reasons.Again reasons.Again is = refl
reasons_equal reasons.Again reasons.LongPath is = absurd (true≢false (sym is))
reasons_equal reasons.Again reasons.BadName is = absurd (true≢false (sym is))
reasons_equal reasons.LongPath reasons.NoNode is = absurd (true≢false (sym is))
reasons_equal reasons.LongPath reasons.OddNode is = absurd (true≢false (sym is))
reasons_equal reasons.LongPath reasons.Again is = absurd (true≢false (sym is))
reasons_equal reasons.LongPath reasons.LongPath is = refl
reasons_equal reasons.LongPath reasons.BadName is = absurd (true≢false (sym is))
reasons_equal reasons.BadName reasons.NoNode is = absurd (true≢false (sym is))
reasons_equal reasons.BadName reasons.OddNode is = absurd (true≢false (sym is))
reasons_equal reasons.BadName reasons.Again is = absurd (true≢false (sym is))
reasons_equal reasons.BadName reasons.LongPath is = absurd (true≢false (sym is))
reasons_equal reasons.BadName reasons.BadName is = refl

-- two kinds that are one, and of which nothing is told, are equal
kinds_equal : (a b : NodeKind) → is_one_kind a b ≡ true → kind_change a b ≡ [] → a ≡ b
kinds_equal (nodes.File m) (nodes.File n) one none = ap nodes.File (value_equal m n _ _ _ none)
kinds_equal (nodes.File m) nodes.Directory one none = absurd (true≢false (sym one))
kinds_equal (nodes.File m) (nodes.Block n) one none = absurd (true≢false (sym one))
kinds_equal (nodes.File m) (nodes.Character n) one none = absurd (true≢false (sym one))
kinds_equal nodes.Directory (nodes.File n) one none = absurd (true≢false (sym one))
kinds_equal nodes.Directory nodes.Directory one none = refl
kinds_equal nodes.Directory (nodes.Block n) one none = absurd (true≢false (sym one))
kinds_equal nodes.Directory (nodes.Character n) one none = absurd (true≢false (sym one))
kinds_equal (nodes.Block m) (nodes.File n) one none = absurd (true≢false (sym one))
kinds_equal (nodes.Block m) nodes.Directory one none = absurd (true≢false (sym one))
kinds_equal (nodes.Block m) (nodes.Block n) one none = ap nodes.Block (value_equal m n _ _ _ none)
kinds_equal (nodes.Block m) (nodes.Character n) one none = absurd (true≢false (sym one))
kinds_equal (nodes.Character m) (nodes.File n) one none = absurd (true≢false (sym one))
kinds_equal (nodes.Character m) nodes.Directory one none = absurd (true≢false (sym one))
kinds_equal (nodes.Character m) (nodes.Block n) one none = absurd (true≢false (sym one))
kinds_equal (nodes.Character m) (nodes.Character n) one none = ap nodes.Character (value_equal m n _ _ _ none)

-- nothing is told of facts that are the same
facts_same : (f : Facts) → fact_changes f f ≡ []
unfolding fact_changes
facts_same f =
    both_empty (owner_changes f f) (kind_change f.kind f.kind ++ time_changes f f)
    (both_empty _ _ (value_same f.permissions _) (both_empty _ _ (value_same f.links _) (both_empty _ _ (value_same f.uid _) (value_same f.gid _))))
    (both_empty (kind_change f.kind f.kind) (time_changes f f) (kind_same f.kind)
    (both_empty _ _ (value_same f.modified _) (both_empty _ _ (value_same f.accessed _) (value_same f.changed _))))

-- facts with these parts
abbrev parts : NodeKind → ℕ → ℕ → ℕ → ℕ → ℕ → ℕ → ℕ → Facts
parts kind permissions links uid gid modified accessed changed = record {
  kind = kind;
  permissions = permissions;
  links = links;
  uid = uid;
  gid = gid;
  modified = modified;
  accessed = accessed;
  changed = changed;
}

-- facts with the same parts are equal
facts_equal : (f h : Facts) → f.kind ≡ h.kind → f.permissions ≡ h.permissions → f.links ≡ h.links → f.uid ≡ h.uid → f.gid ≡ h.gid → f.modified ≡ h.modified → f.accessed ≡ h.accessed → f.changed ≡ h.changed → f ≡ h
facts_equal f h kind permissions links uid gid modified accessed changed =
    ap (λ x. parts x f.permissions f.links f.uid f.gid f.modified f.accessed f.changed) kind
    ∙ (ap (λ x. parts h.kind x f.links f.uid f.gid f.modified f.accessed f.changed) permissions
    ∙ (ap (λ x. parts h.kind h.permissions x f.uid f.gid f.modified f.accessed f.changed) links
    ∙ (ap (λ x. parts h.kind h.permissions h.links x f.gid f.modified f.accessed f.changed) uid
    ∙ (ap (λ x. parts h.kind h.permissions h.links h.uid x f.modified f.accessed f.changed) gid
    ∙ (ap (λ x. parts h.kind h.permissions h.links h.uid h.gid x f.accessed f.changed) modified
    ∙ (ap (λ x. parts h.kind h.permissions h.links h.uid h.gid h.modified x f.changed) accessed
    ∙ (ap (λ x. parts h.kind h.permissions h.links h.uid h.gid h.modified h.accessed x) changed)))))))

-- facts of one kind of which nothing is told are equal
told_facts : (f h : Facts) → is_one_kind f.kind h.kind ≡ true → fact_changes f h ≡ [] → f ≡ h
unfolding fact_changes
told_facts f h one none =
    let owner : owner_changes f h ≡ [] = first_empty _ _ none in
    let later : kind_change f.kind h.kind ++ time_changes f h ≡ [] = rest_empty (owner_changes f h) _ none in
    let kind : kind_change f.kind h.kind ≡ [] = first_empty _ _ later in
    let times : time_changes f h ≡ [] = rest_empty (kind_change f.kind h.kind) _ later in
    let after_mode = rest_empty (mode_change f.permissions h.permissions) _ owner in
    let after_links = rest_empty (number_change (codes "links") f.links h.links) _ after_mode in
    let after_modified = rest_empty (time_change (codes "mtime") f.modified h.modified) _ times in
    facts_equal f h
    (kinds_equal f.kind h.kind one kind)
    (value_equal f.permissions h.permissions _ _ _ (first_empty (mode_change f.permissions h.permissions) _ owner))
    (value_equal f.links h.links _ _ _ (first_empty (number_change (codes "links") f.links h.links) _ after_mode))
    (value_equal f.uid h.uid _ _ _ (first_empty (number_change (codes "uid") f.uid h.uid) _ after_links))
    (value_equal f.gid h.gid _ _ _ (rest_empty (number_change (codes "uid") f.uid h.uid) _ after_links))
    (value_equal f.modified h.modified _ _ _ (first_empty (time_change (codes "mtime") f.modified h.modified) _ times))
    (value_equal f.accessed h.accessed _ _ _ (first_empty (time_change (codes "atime") f.accessed h.accessed) _ after_modified))
    (value_equal f.changed h.changed _ _ _ (rest_empty (time_change (codes "atime") f.accessed h.accessed) _ after_modified))

-- if there is none one place on, there is none
none_on : (o : Option ℕ) → option_map suc o ≡ None → o ≡ None
none_on None e = refl
none_on (Some n) e = absurd (none-some (suc n) (sym e))

-- lists without a first difference are equal
none_equal : (xs ys : List ℕ) → first_difference xs ys ≡ None → xs ≡ ys
unfolding first_difference
none_equal [] [] e = refl
none_equal [] (y ∷ ys) e = absurd (none-some 0 (sym e))
none_equal (x ∷ xs) [] e = absurd (none-some 0 (sym e))
none_equal (x ∷ xs) (y ∷ ys) e =
    elim (cases_eq x y) [
      | inl same ↦
          let more : option_map suc (first_difference xs ys) ≡ None =
          sym (ap (λ t. if t then option_map suc (first_difference xs ys) else Some 0) (eq-eqb x y same)) ∙ e in
          ap (λ z. z ∷ xs) same ∙ ap (λ zs. y ∷ zs) (none_equal xs ys (none_on _ more))
      | inr other ↦ absurd (none-some 0 (sym e ∙ ap (λ t. if t then option_map suc (first_difference xs ys) else Some 0) (ne_eqb x y other)))
    ]

-- nothing is told of bytes only if there is no first difference
bytes_none : (at : Option ℕ) → bytes_change at ≡ [] → at ≡ None
bytes_none None e = refl
bytes_none (Some n) e = absurd (some_text 44 _ e)

-- nothing is told of a node that is the same
nodes_same : (path : List ℕ) (f : Facts) (xs : List ℕ) → nodes_line path f f (nodes_changed f.kind xs f.kind xs) ≡ []
nodes_same path f xs =
    let first = nodes_changed f.kind xs f.kind xs in
    ap (λ t. if t then changed_line path (node_changes f f first) else turned_line path (kind_text f.kind) (kind_text f.kind)) (one_kind f.kind)
    ∙ ap (changed_line path) (both_empty (fact_changes f f) (bytes_change first) (facts_same f)
    (ap bytes_change (ap (λ t. if t then first_difference xs xs else None) (one_kind f.kind) ∙ none_same xs)))

-- nodes of which nothing is told are the same
nodes_told : (path : List ℕ) (f : Facts) (xs : List ℕ) (h : Facts) (ys : List ℕ) (t : Bool) (turned : List ℕ) → (turned ≡ [] → ⊥) → is_one_kind f.kind h.kind ≡ t
    → (if t then changed_line path (node_changes f h (nodes_changed f.kind xs h.kind ys)) else turned) ≡ [] → (f ≡ h) × (xs ≡ ys)
nodes_told path f xs h ys false turned some one e = absurd (some e)
nodes_told path f xs h ys true turned some one e =
    let none = no_changes path (node_changes f h (nodes_changed f.kind xs h.kind ys)) e in (
      told_facts f h one (first_empty (fact_changes f h) _ none),
      none_equal xs ys (sym (ap (λ t. if t then first_difference xs ys else None) one) ∙ bytes_none _ (rest_empty (fact_changes f h) _ none)),
    )

-- a text equals itself
same_bytes : (a : List ℕ) → bytes_eq a a ≡ true
same_bytes a = (bytes_eq-Decides a a).1 refl

-- texts that a test finds equal are
equal_bytes : (a b : List ℕ) → bytes_eq a b ≡ true → a ≡ b
equal_bytes a b = (bytes_eq-Decides a b).0

-- a name is one name with itself
one_name : (a : Option (List ℕ)) → is_one_name a a ≡ true
one_name None = refl
one_name (Some a) = same_bytes a

-- two names that are one are equal
names_equal : (a b : Option (List ℕ)) → is_one_name a b ≡ true → a ≡ b
names_equal None None is = refl
names_equal None (Some b) is = absurd (true≢false (sym is))
names_equal (Some a) None is = absurd (true≢false (sym is))
names_equal (Some a) (Some b) is = ap Some (equal_bytes a b is)

-- names of nodes of which nothing is told lead to the same
named_told : (path : List ℕ) (f : Facts) (xs : List ℕ) (a : Option (List ℕ)) (h : Facts) (ys : List ℕ) (b : Option (List ℕ)) (t : Bool) → is_one_name a b ≡ t
    → (if t then nodes_line path f h (nodes_changed f.kind xs h.kind ys) else renamed_line path f a h b (nodes_changed f.kind xs h.kind ys)) ≡ []
    → Node f xs a ≡ Node h ys b
named_told path f xs a h ys b false one e = absurd (some_rename path f a h b _ e)
named_told path f xs a h ys b true one e =
    let same = nodes_told path f xs h ys (is_one_kind f.kind h.kind) _ (some_turn path _ _) refl e in
    ap (λ x. Node x xs a) same.0 ∙ (ap (λ zs. Node h zs a) same.1 ∙ ap (Node h ys) (names_equal a b one))

-- nothing is told of a path that is left out for one reason and leads to nothing
reasons_same : (path : List ℕ) (reason : Reason) → is_unseen reason ≡ false → reasons_line path reason reason ≡ []
reasons_same path r seen =
    ap (λ t. if t then (if is_unseen r then unseen_line path r else []) else turned_line path (left_text r) (left_text r)) (one_reason r)
    ∙ ap (λ t. if t then unseen_line path r else []) seen

-- a test whose opposite is true is false
opposite : (t : Bool) → not t ≡ true → t ≡ false
opposite true e = absurd (true≢false (sym e))
opposite false e = refl

-- nothing is told of a path that leads to the same, if it is known what it leads to
pub pair_same : (path : List ℕ) (content : Content) → is_seen content ≡ true → pair_line path content content ≡ []
pair_same path (Node f xs a) seen =
    let first = nodes_changed f.kind xs f.kind xs in
    ap (λ t. if t then nodes_line path f f first else renamed_line path f a f a first) (one_name a) ∙ nodes_same path f xs
pair_same path (LeftOut r) seen = reasons_same path r (opposite (is_unseen r) seen)

-- a choice between a text that isn't empty, nothing, and another text that isn't
chosen_twice : (t u : Bool) (unseen turned : List ℕ) → (unseen ≡ [] → ⊥) → (turned ≡ [] → ⊥) → (if t then (if u then unseen else []) else turned) ≡ []
    → (t ≡ true) × (u ≡ false)
chosen_twice false u unseen turned first second e = absurd (second e)
chosen_twice true true unseen turned first second e = absurd (first e)
chosen_twice true false unseen turned first second e = (refl, refl)

-- a path of which nothing is told is left out for one reason, and leads to nothing
reasons_told : (path : List ℕ) (r s : Reason) → reasons_line path r s ≡ [] → (LeftOut r ≡ LeftOut s) × (is_seen (LeftOut r) ≡ true)
reasons_told path r s e =
    let both = chosen_twice (is_one_reason r s) (is_unseen r) (unseen_line path r) (turned_line path (left_text r) (left_text s)) (some_text 85 _)
    (some_turn path _ _) e in
    (ap LeftOut (reasons_equal r s both.0), ap not both.1)

-- a path of which nothing is told leads to the same, and it is known what it leads to
pub pair_equal : (path : List ℕ) (old new : Content) → pair_line path old new ≡ [] → (old ≡ new) × (is_seen old ≡ true)
pair_equal path (Node f xs a) (Node h ys b) e = (named_told path f xs a h ys b (is_one_name a b) refl e, refl)
pair_equal path (LeftOut r) (LeftOut s) e = reasons_told path r s e
pair_equal path (Node f xs a) (LeftOut s) e = absurd (some_turn path _ _ e)
pair_equal path (LeftOut r) (Node h ys b) e = absurd (some_turn path _ _ e)
