-- Walks in the tree of a sound image: the parent directory, and the node at the end.
use Rattle.std.proofs.Common.{◌≡◌, ◌≢◌, ◌∙◌, sym, ap, refl, ℕ, ◌≤◌, Bool, true, false, cond, List, [], ◌∷◌, ◌++◌, Option, None, Some, Ok, Err, arith}
use Rattle.std.specs.Prelude.{Result}
use Rattle.std.specs.List.{list_any}
use Rattle.std.specs.Option.{is_none, ok_or, option_map, option_map_or}
use Rattle.std.proofs.lemmas.Bool.{false≢true}
use Rattle.std.proofs.lemmas.Bool.Decides.{nat_tests}
use Rattle.vol_layout.specs.Edition.{constants}
use Rattle.vol_layout.specs.declared.geometry.Geometry.{Geometry}
use Rattle.vol_layout.specs.declared.mode.Kind.{Kind}
use Rattle.vol_layout.specs.declared.mode.Kind.TheVariants as kinds
use Rattle.vol_file.specs.Rules.{kind_at, Rules3To7}
use Rattle.vol_dir.specs.Access.{user}
use Rattle.vol_dir.specs.Entries.{slots, IsDirectory, IsInUse, HasEntries}
use Rattle.vol_dir.specs.Names.{Names, get, names_of}
use Rattle.vol_dir.specs.Tree.{Node, Tree, tree, is_number}
use Rattle.pdp_words.specs.Steps.{and_then}
use Rattle.vol_dir.specs.Walk.{root, has_zero, components, search, search_node, walk_from, walk, split_last, parent_from, walk_parent}
use Rattle.vol_dir.proofs.WalkLaws.{found_in_use, IsInUse-root, search-outside, search-directory, search-other}
use Rattle.vol_dir.specs.declared.refusal.Refusal.{Refusal}
use Rattle.vol_dir.specs.declared.refusal.Refusal.TheVariants as refusals
use Rattle.vol_layout.specs.Ids.{is_bad_id}
use Rattle.vol_volume.specs.Verdict.{then_others, of_parent}
use Rattle.vol_volume.proofs.NodeReadings.{used_first, used_some}

-- the map of a node in which user 0 may search, or a refusal
abbrev pub searched : Option Node → Result Names Refusal
searched node = option_map_or (search_node user) node (Err refusals.NotDirectory)

-- the map of a content, or a refusal if it has none
abbrev pub named : Option Names → Result Names Refusal
named held = option_map_or (λ (names : Names). Ok names) held (Err refusals.NotDirectory)

-- if all checks of a call pass, its first checks pass
pub record PassesFirst (tree : Tree) (paths : List (List ℕ)) (others : Option Refusal) : Type 0 where
  pub good_id : is_bad_id tree.geometry.edition 0 0 ≡ false
  pub no_zero : list_any has_zero paths ≡ false
  pub others_pass : others ≡ None

pub passes_paths : (tree : Tree) (paths : List (List ℕ)) (others : Option Refusal) → then_others tree user paths others ≡ None → PassesFirst tree paths others
passes_paths tree paths others is = by (is_bad_id tree.geometry.edition 0 0) (list_any has_zero paths) refl refl is
  where
    by : (bad zero : Bool) → is_bad_id tree.geometry.edition 0 0 ≡ bad → list_any has_zero paths ≡ zero
        → cond bad (Some refusals.BadId) (cond zero (Some refusals.Invalid) others) ≡ None → PassesFirst tree paths others
    by true zero b z e = cc
    by false true b z e = cc
    by false false b z e = record { good_id = b; no_zero = z; others_pass = e }

pub passes_first : (tree : Tree) (path : List ℕ) (others : Option Refusal) → then_others tree user (path ∷ []) others ≡ None
    → PassesFirst tree (path ∷ []) others
passes_first tree path = passes_paths tree (path ∷ [])

-- the names before the last one and the last one, after one more name is put in front
abbrev longer : List ℕ → Option (List (List ℕ) × List ℕ) → List (List ℕ) × List ℕ
longer name parts = option_map_or (λ (some : List (List ℕ) × List ℕ). (name ∷ some.0, some.1)) parts ([], name)

-- only an empty list of names has no last name
pub split_none : (names : List (List ℕ)) → split_last names ≡ None → names ≡ []
split_none [] e = refl
split_none (name ∷ names) e = cc

pub split_is : (names front : List (List ℕ)) (last : List ℕ) → split_last names ≡ Some (front, last) → names ≡ front ++ last ∷ []
split_is [] front last e = cc
split_is (name ∷ names) front last e = by (split_last names) (λ none. split_none names none) (λ some is. split_is names some.0 some.1 is) e
  where
    by : (parts : Option (List (List ℕ) × List ℕ)) → (parts ≡ None → names ≡ [])
        → ((some : List (List ℕ) × List ℕ) → parts ≡ Some some → names ≡ some.0 ++ some.1 ∷ [])
        → ◌≡◌ {A = Option (List (List ℕ) × List ℕ)} (Some (longer name parts)) (Some (front, last))
        → name ∷ names ≡ front ++ last ∷ []
    by None none some e =
        let empty : List (List ℕ) × List ℕ = ([], name) in
        let whole : List (List ℕ) × List ℕ = (front, last) in
        let same : empty ≡ whole = cc in
        ap (λ ns. name ∷ ns) (none refl) ∙ ap (λ (some : List (List ℕ) × List ℕ). some.0 ++ some.1 ∷ []) same
    by (Some parts) none some e =
        let more : List (List ℕ) × List ℕ = (name ∷ parts.0, parts.1) in
        let whole : List (List ℕ) × List ℕ = (front, last) in
        let same : more ≡ whole = cc in
        ap (λ ns. name ∷ ns) (some parts refl) ∙ ap (λ (some : List (List ℕ) × List ℕ). some.0 ++ some.1 ∷ []) same

-- all names of a path but the last lead to directory `d`
pub record Reaches (tree : Tree) (path : List ℕ) (d : ℕ) (name : List ℕ) : Type 0 where
  pub front : List (List ℕ)
  pub parts : components path ≡ front ++ name ∷ []
  pub walks : walk_from tree user (root tree) front ≡ Ok d
  pub names : Names
  pub searched : search tree user d ≡ Ok names

-- if all checks of the parent pass, there is a parent
pub parent_found : (parent : Option (Result (ℕ × List ℕ) Refusal)) (bare : Refusal) (tests : ℕ → List ℕ → List (Bool × Refusal)) → of_parent parent bare tests ≡ None
    → (d : ℕ) × (name : List ℕ) × (parent ≡ Some (Ok (d, name)))
parent_found None bare tests e = cc
parent_found (Some (Err refusal)) bare tests e = cc
parent_found (Some (Ok found)) bare tests e = (found.0, found.1, refl)

-- the i-number of the parent and the last name
abbrev at_parent : List ℕ → ℕ → Result (ℕ × List ℕ) Refusal
at_parent last i = Ok (i, last)

-- a walk to the parent directory leads to it by all names of the path but the last
pub reaches : (t : Tree) (path : List ℕ) (d : ℕ) (name : List ℕ) → walk_parent t user path ≡ Some (Ok (d, name)) → Reaches t path d name
unfolding walk_parent
reaches t path d name e = by_parts (split_last (components path)) refl e
  where
    by_search : (front : List (List ℕ)) (last : List ℕ) (i : ℕ) (found : Result Names Refusal) → components path ≡ front ++ last ∷ []
        → walk_from t user (root t) front ≡ Ok i → search t user i ≡ found → and_then found (λ _. at_parent last i) ≡ Ok (d, name) → Reaches t path d name
    by_search front last i (Err refusal) is walks searched e = cc
    by_search front last i (Ok names) is walks searched e =
        let one : ℕ × List ℕ = (i, last) in
        let other : ℕ × List ℕ = (d, name) in
        let same : one ≡ other = cc in
        let number : i ≡ d = ap (λ (found : ℕ × List ℕ). found.0) same in
        record {
          front = front;
          parts = is ∙ ap (λ (found : ℕ × List ℕ). front ++ found.1 ∷ []) same;
          walks = walks ∙ ap Ok number;
          names = names;
          searched = ap (search t user) (sym number) ∙ searched;
        }

    by_walk : (front : List (List ℕ)) (last : List ℕ) (walked : Result ℕ Refusal) → components path ≡ front ++ last ∷ []
        → walk_from t user (root t) front ≡ walked → and_then walked (λ i. and_then (search t user i) (λ _. at_parent last i)) ≡ Ok (d, name)
        → Reaches t path d name
    by_walk front last (Err refusal) is walks e = cc
    by_walk front last (Ok i) is walks e = by_search front last i (search t user i) is walks refl e

    by_parts : (parts : Option (List (List ℕ) × List ℕ)) → split_last (components path) ≡ parts → option_map (parent_from t user) parts ≡ Some (Ok (d, name))
        → Reaches t path d name
    by_parts None is e = cc
    by_parts (Some parts) is e =
        let same : parent_from t user parts ≡ Ok (d, name) = cc in
        by_walk parts.0 parts.1 (walk_from t user (root t) parts.0) (split_is (components path) parts.0 parts.1 is) refl same

-- an i-number in use has a node
in_use_node : (geometry : Geometry) (image : List ℕ) (i : ℕ) → Rules3To7 geometry image → IsInUse geometry image i → (tree geometry image).nodes i ≢ None
in_use_node geometry image i files used none =
    false≢true (sym (used_some geometry image i (used_first geometry image i used) files used) ∙ ap is_none none)

-- a map that a search returns is the map of a directory
pub searched_slots : (geometry : Geometry) (image : List ℕ) (x : ℕ) (others : Names) → search (tree geometry image) user x ≡ Ok others
    → IsDirectory geometry image x × (names_of (slots geometry image x) ≡ others)
searched_slots geometry image x others is =
    elim (is_number geometry x) as (λ b. is_number geometry x ≡ b → IsDirectory geometry image x × (names_of (slots geometry image x) ≡ others)) [
      | true ↦ λ number.
          let low : 1 ≤ x = grind (arith, nat_tests) in
          let high : x ≤ geometry.last_inode = grind (arith, nat_tests) in
          by_kind low high (kind_at geometry image x) refl
      | false ↦ λ outside.
          let none : Err refusals.NotDirectory ≡ Ok others = sym (search-outside geometry image user x outside) ∙ is in
          absurd (cc)
    ] refl
  where
    other : kind_at geometry image x ≢ kinds.Directory → 1 ≤ x → x ≤ geometry.last_inode
        → IsDirectory geometry image x × (names_of (slots geometry image x) ≡ others)
    other apart low high =
        let none : Err refusals.NotDirectory ≡ Ok others = sym (search-other geometry image user x low high apart) ∙ is in
        absurd (cc)

    by_kind : 1 ≤ x → x ≤ geometry.last_inode → (kind : Kind) → kind_at geometry image x ≡ kind
        → IsDirectory geometry image x × (names_of (slots geometry image x) ≡ others)
    by_kind low high kinds.Directory e =
        let here : IsDirectory geometry image x = record { first = low; last = high; kind = e } in
        let same : Ok (names_of (slots geometry image x)) ≡ Ok others = sym (search-directory geometry image user x true here refl) ∙ is in
        (here, cc)
    by_kind low high kinds.Free e = other (λ d. let f : kinds.Free ≡ kinds.Directory = sym e ∙ d in cc) low high
    by_kind low high kinds.Regular e = other (λ d. let f : kinds.Regular ≡ kinds.Directory = sym e ∙ d in cc) low high
    by_kind low high kinds.Special e = other (λ d. let f : kinds.Special ≡ kinds.Directory = sym e ∙ d in cc) low high
    by_kind low high kinds.Odd e = other (λ d. let f : kinds.Odd ≡ kinds.Directory = sym e ∙ d in cc) low high

-- every name in the tree of an image that satisfies rules 3 to 7 leads to a node
pub names_lead : (geometry : Geometry) (image : List ℕ) → Rules3To7 geometry image → HasEntries geometry image
    → (x : ℕ) (others : Names) (word : List ℕ) (y : ℕ) → search (tree geometry image) user x ≡ Ok others → get others word ≡ Some y
    → (tree geometry image).nodes y ≢ None
names_lead geometry image files entries x others word y is found =
    let here = searched_slots geometry image x others is in
    in_use_node geometry image y files (found_in_use geometry image x word y entries here.0 (ap (λ ns. get ns word) here.1 ∙ found))

-- the root of an image that satisfies rules 3 to 7 is a node
pub root_there : (geometry : Geometry) (image : List ℕ) → Rules3To7 geometry image → (tree geometry image).nodes (root (tree geometry image)) ≢ None
unfolding tree
root_there geometry image rules = in_use_node geometry image (constants geometry.edition).root rules (IsInUse-root geometry image rules)

-- a walk that starts at a node leads to a node, if every name does
walk_leads : (t : Tree) → ((x : ℕ) (others : Names) (word : List ℕ) (y : ℕ) → search t user x ≡ Ok others → get others word ≡ Some y → t.nodes y ≢ None)
    → (names : List (List ℕ)) (x i : ℕ) → t.nodes x ≢ None → walk_from t user x names ≡ Ok i → t.nodes i ≢ None
walk_leads t leads [] x i some is = λ none. let same : x ≡ i = cc in some (ap t.nodes same ∙ none)
walk_leads t leads (name ∷ names) x i some is =
    by (search t user x) (λ y there e. walk_leads t leads names y i there e) refl is
  where
    by_found : (others : Names) (next : Option ℕ) → ((y : ℕ) → t.nodes y ≢ None → walk_from t user y names ≡ Ok i → t.nodes i ≢ None)
        → search t user x ≡ Ok others → get others name ≡ next
        → and_then (ok_or next refusals.NoEntry) (λ y. walk_from t user y names) ≡ Ok i → t.nodes i ≢ None
    by_found others None more searched found is = absurd (cc)
    by_found others (Some y) more searched found is = more y (leads x others name y searched found) is

    by : (searched : Result Names Refusal) → ((y : ℕ) → t.nodes y ≢ None → walk_from t user y names ≡ Ok i → t.nodes i ≢ None)
        → search t user x ≡ searched
        → and_then (and_then searched (λ others. ok_or (get others name) refusals.NoEntry)) (λ y. walk_from t user y names) ≡ Ok i → t.nodes i ≢ None
    by (Ok others) more searched is = by_found others (get others name) more searched refl is
    by (Err refusal) more searched is = absurd (cc)

-- the walk of a path in an image that satisfies rules 3 to 7 leads to a node
pub node_there : (geometry : Geometry) (image path : List ℕ) (i : ℕ) → Rules3To7 geometry image → HasEntries geometry image
    → walk (tree geometry image) user path ≡ Ok i → (tree geometry image).nodes i ≢ None
unfolding walk
node_there geometry image path i rules entries is =
    walk_leads (tree geometry image) (names_lead geometry image rules entries) (components path) (root (tree geometry image)) i
    (root_there geometry image rules) is
