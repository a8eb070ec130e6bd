-- The entries of a tree's directories, and what LINK and UNLINK of a path make of them.
use Rattle.std.proofs.Common.{◌≡◌, ◌≢◌, ◌∙◌, sym, ap, subst, refl, ℕ, ◌+◌, ◌-◌, ◌≤◌, arith, Bool, true, false, cond, List, [], ◌∷◌, ◌++◌, length, Option, None, Some, Result, Ok, Err, inl, inr}
use Rattle.std.specs.Prelude.{nat_lt, nat_le, if◌then◌else◌}
use Rattle.std.specs.Option.{is_some, ok_or, option_map, option_map_or, unwrap_or}
use Rattle.std.proofs.lemmas.Bool.{cases_eq, true≢false}
use Rattle.std.proofs.lemmas.Bool.Decides.{nat_tests}
use Rattle.pdp_words.specs.Steps.{and_then}
use Rattle.vol_layout.specs.Geometry.{Fits, geometry_of}
use Rattle.vol_file.proofs.PlaceLists.{bytes_same, other_place}
use Rattle.vol_dir.specs.Access.{user}
use Rattle.vol_dir.specs.Names.{Names, get, insert, remove}
use Rattle.vol_dir.specs.Tree.{Body, Content, Device, Directory, Node, State, Tree}
use Rattle.vol_dir.specs.Walk.{components, find_in, is_directory, map_of, parent_from, parent_over, root, search, split_last, walk, walk_from, walk_parent, is_plain}
use Rattle.vol_dir.specs.declared.refusal.Refusal.{Refusal}
use Rattle.vol_dir.specs.declared.refusal.Refusal.TheVariants as refusals
use Rattle.vol_dir.proofs.NameMaps.{get_remove}
use Rattle.vol_dir.proofs.PathJoins.{components-join, walk-onward}
use Rattle.vol_dir.proofs.Components.{one_component}
use Rattle.vol_judge.specs.Sound.{IsSound}
use Rattle.vol_judge.proofs.Parts.{sound_entries, sound_files}
use Rattle.vol_change.specs.Edits.{add_link, at_time, change_names, drop_link, modified, release, remove_entry, remove_node, set_at, stamped}
use Rattle.vol_change.specs.Effects.{after_link, after_unlink}
use Rattle.vol_change.specs.Nodes.{no_node, node_at, number_of_name, size_with_entry}
use Rattle.vol_change.proofs.NodeEdits.{set_here}
use Rattle.vol_change.proofs.SideStates.{set_beside}
use Rattle.vol_volume.specs.Step.{changed_by, on_node, on_parent}
use Rattle.vol_volume.specs.Verdict.{verdict}
use Rattle.vol_volume.specs.Volume.{Accepts, Mounted}
use Rattle.vol_volume.specs.declared.calls.Call.TheVariants as calls
use Rattle.vol_volume.specs.declared.calls.Done.{Done}
use Rattle.vol_volume.proofs.Accepted.{link_passed, unlink_passed}
use Rattle.vol_batch.proofs.MadeNames.{entered, entered_found, found, found_in, get_insert, linked, path_kept}
use Rattle.vol_volume.proofs.TreeWalks.{named, names_lead, searched}
use Rattle.vol_serve.specs.Nodes.{after_ok, look_up, number_in, number_of}
use Rattle.vol_serve.specs.declared.nodes.fault.NodeFault.TheVariants as faults
use Rattle.vol_mounted.proofs.FreeNodes.{reads_next, state_of}

-- the i-number for a name in a node, if it is a directory that has the name
abbrev pub entry_of : Option Node → List ℕ → Option ℕ
entry_of node word = get (unwrap_or (map_of (unwrap_or node no_node).content) []) word

-- the i-number for a name in directory x
abbrev pub entry : Tree → ℕ → List ℕ → Option ℕ
entry tree x word = entry_of (tree.nodes x) word

-- the map of a directory that has a name
pub entry_map : (node : Option Node) (word : List ℕ) (j : ℕ) → entry_of node word ≡ Some j → (names : Names) × (searched node ≡ Ok names) × (get names word ≡ Some j)
entry_map None word j is = absurd (cc)
entry_map (Some node) word j is = by node.content is
  where
    by : (held : Content) → get (unwrap_or (map_of held) []) word ≡ Some j → (names : Names) × (named (map_of held) ≡ Ok names) × (get names word ≡ Some j)
    by (Body bytes) is = absurd (cc)
    by (Directory names) is = (names, refl, is)
    by (Device type addresses) is = absurd (cc)

-- a name is found if there is an entry for it
pub entry_found : (node : Option Node) (word : List ℕ) (j : ℕ) → entry_of node word ≡ Some j → found node word ≡ Ok j
entry_found node word j is =
    let map = entry_map node word j is in
    ap (λ (names : Result Names Refusal). found_in names word) map.1 ∙ ap (λ (o : Option ℕ). ok_or o refusals.NoEntry) map.2

-- there is an entry for a name that is found
pub found_entry : (node : Option Node) (word : List ℕ) (j : ℕ) → found node word ≡ Ok j → entry_of node word ≡ Some j
found_entry None word j is = absurd (cc)
found_entry (Some node) word j is = by node.content is
  where
    got : (o : Option ℕ) → ok_or o refusals.NoEntry ≡ Ok j → o ≡ Some j
    got None is = absurd (cc)
    got (Some k) is = cc

    by : (held : Content) → found_in (named (map_of held)) word ≡ Ok j → get (unwrap_or (map_of held) []) word ≡ Some j
    by (Body bytes) is = absurd (cc)
    by (Directory names) is = got (get names word) is
    by (Device type addresses) is = absurd (cc)

-- a node that isn't a directory has no entries
pub no_entry : (node : Option Node) (word : List ℕ) → is_directory (unwrap_or node no_node) ≡ false → entry_of node word ≡ None
no_entry None word plain = refl
no_entry (Some node) word plain = by node.content plain
  where
    by : (held : Content) → is_some (map_of held) ≡ false → get (unwrap_or (map_of held) []) word ≡ None
    by (Body bytes) plain = refl
    by (Directory names) plain = absurd (true≢false plain)
    by (Device type addresses) plain = refl

-- a name that leads to a node
pub record IsLed (tree : Tree) (x : ℕ) (word : List ℕ) (j : ℕ) : Type 0 where
  pub short : nat_lt 14 (length word) ≡ false
  pub here : entry tree x word ≡ Some j

led_by : (tree : Tree) (word : List ℕ) (j : ℕ) (node : Option Node)
    → after_ok (after_ok (ok_or node faults.Stale) (λ (n : Node). ok_or (map_of n.content) faults.NotDirectory)) (λ (names : Names). number_of tree names word) ≡ Ok j
    → (nat_lt 14 (length word) ≡ false) × (entry_of node word ≡ Some j)
led_by tree word j None is = absurd (cc)
led_by tree word j (Some node) is = by node.content is
  where
    lives : (k : ℕ) (held : Option Node) → after_ok (ok_or held faults.Stale) (λ (n : Node). Ok k) ≡ Ok j → ◌≡◌ {A = Option ℕ} (Some k) (Some j)
    lives k None is = absurd (cc)
    lives k (Some held) is = cc

    got : (o : Option ℕ) → after_ok (ok_or o faults.NoEntry) (number_in tree) ≡ Ok j → o ≡ Some j
    got None is = absurd (cc)
    got (Some k) is = lives k (tree.nodes k) is

    by_length : (names : Names) (long : Bool) → nat_lt 14 (length word) ≡ long
        → (if long then Err faults.LongName else after_ok (ok_or (get names word) faults.NoEntry) (number_in tree)) ≡ Ok j
        → (nat_lt 14 (length word) ≡ false) × (get names word ≡ Some j)
    by_length names true long is = absurd (cc)
    by_length names false short is = (short, got (get names word) is)

    by : (held : Content) → after_ok (ok_or (map_of held) faults.NotDirectory) (λ (names : Names). number_of tree names word) ≡ Ok j
        → (nat_lt 14 (length word) ≡ false) × (get (unwrap_or (map_of held) []) word ≡ Some j)
    by (Body bytes) is = absurd (cc)
    by (Directory names) is = by_length names (nat_lt 14 (length word)) refl is
    by (Device type addresses) is = absurd (cc)

pub is_led : (tree : Tree) (x : ℕ) (word : List ℕ) (j : ℕ) → look_up tree x word ≡ Ok j → IsLed tree x word j
is_led tree x word j is = let both = led_by tree word j (tree.nodes x) is in record { short = both.0; here = both.1 }

-- what a name of a directory leads to, from its map
looked : (tree : Tree) (word : List ℕ) (node : Option Node) (names : Names) → nat_lt 14 (length word) ≡ false → searched node ≡ Ok names
    → after_ok (after_ok (ok_or node faults.Stale) (λ (n : Node). ok_or (map_of n.content) faults.NotDirectory)) (λ (names : Names). number_of tree names word)
    ≡ after_ok (ok_or (get names word) faults.NoEntry) (number_in tree)
looked tree word None names short held = absurd (cc)
looked tree word (Some node) names short held = by node.content held
  where
    by : (content : Content) → named (map_of content) ≡ Ok names
        → after_ok (ok_or (map_of content) faults.NotDirectory) (λ (names : Names). number_of tree names word)
        ≡ after_ok (ok_or (get names word) faults.NoEntry) (number_in tree)
    by (Body bytes) held = absurd (cc)
    by (Directory map) held =
        let same : map ≡ names = cc in
        ap (λ b. if b then Err faults.LongName else after_ok (ok_or (get map word) faults.NoEntry) (number_in tree)) short
        ∙ ap (λ (names : Names). after_ok (ok_or (get names word) faults.NoEntry) (number_in tree)) same
    by (Device type addresses) held = absurd (cc)

-- an entry for a node leads to it
pub entry_leads : (tree : Tree) (x : ℕ) (word : List ℕ) (j : ℕ) (node : Node) → nat_lt 14 (length word) ≡ false → entry tree x word ≡ Some j
    → tree.nodes j ≡ Some node → look_up tree x word ≡ Ok j
entry_leads tree x word j node short is stands =
    let map = entry_map (tree.nodes x) word j is in
    looked tree word (tree.nodes x) map.0 short map.1
    ∙ (ap (λ (o : Option ℕ). after_ok (ok_or o faults.NoEntry) (number_in tree)) map.2
    ∙ ap (λ (n : Option Node). after_ok (ok_or n faults.Stale) (λ (n : Node). Ok j)) stands)

-- the entries of a directory
pub map_entry : (node : Option Node) (names : Names) (word : List ℕ) → searched node ≡ Ok names → entry_of node word ≡ get names word
map_entry None names word held = absurd (cc)
map_entry (Some node) names word held = by node.content held
  where
    by : (content : Content) → named (map_of content) ≡ Ok names → get (unwrap_or (map_of content) []) word ≡ get names word
    by (Body bytes) held = absurd (cc)
    by (Directory map) held = let same : map ≡ names = cc in ap (λ (names : Names). get names word) same
    by (Device type addresses) held = absurd (cc)

-- a name without an entry in a directory leads to nothing
pub none_leads : (tree : Tree) (x : ℕ) (word : List ℕ) (names : Names) → nat_lt 14 (length word) ≡ false → searched (tree.nodes x) ≡ Ok names
    → entry tree x word ≡ None → look_up tree x word ≡ Err faults.NoEntry
none_leads tree x word names short held none =
    looked tree word (tree.nodes x) names short held
    ∙ ap (λ (o : Option ℕ). after_ok (ok_or o faults.NoEntry) (number_in tree)) (sym (map_entry (tree.nodes x) names word held) ∙ none)

-- a directory without a name
missing_by : (tree : Tree) (word : List ℕ) (node : Option Node)
    → after_ok (after_ok (ok_or node faults.Stale) (λ (n : Node). ok_or (map_of n.content) faults.NotDirectory)) (λ (names : Names). number_of tree names word)
    ≡ Err faults.NoEntry
    → (names : Names) × (searched node ≡ Ok names)
missing_by tree word None is = absurd (cc)
missing_by tree word (Some node) is = by node.content is
  where
    by : (held : Content) → after_ok (ok_or (map_of held) faults.NotDirectory) (λ (names : Names). number_of tree names word) ≡ Err faults.NoEntry
        → (names : Names) × (named (map_of held) ≡ Ok names)
    by (Body bytes) is = absurd (cc)
    by (Directory names) is = (names, refl)
    by (Device type addresses) is = absurd (cc)

pub is_missing : (tree : Tree) (x : ℕ) (word : List ℕ) → look_up tree x word ≡ Err faults.NoEntry → (names : Names) × (searched (tree.nodes x) ≡ Ok names)
is_missing tree x word is = missing_by tree word (tree.nodes x) is

-- each entry of a sound image is for a node
pub lives : (volume : Mounted) → Fits (geometry_of volume.edition volume.image) volume.image × IsSound volume.edition volume.image → (x : ℕ) (word : List ℕ) (j : ℕ)
    → entry (state_of volume).tree x word ≡ Some j → (node : Node) × ((state_of volume).tree.nodes j ≡ Some node)
lives volume (fits, sound) x word j is =
    let map = entry_map ((state_of volume).tree.nodes x) word j is in
    by ((state_of volume).tree.nodes j)
    (names_lead (geometry_of volume.edition volume.image) volume.image (sound_files volume.edition volume.image fits sound) (sound_entries volume.edition volume.image sound)
    x map.0 word j map.1 map.2)
  where
    by : (node : Option Node) → node ≢ None → (n : Node) × (node ≡ Some n)
    by None some = absurd (some refl)
    by (Some node) some = (node, refl)

-- a name that can be the last of a path
pub record IsName (name : List ℕ) : Type 0 where
  pub short : nat_lt 14 (length name) ≡ false
  pub plain : is_plain name ≡ true

name_component : (name : List ℕ) → IsName name → components name ≡ name ∷ []
name_component name is =
    let short = is.short in
    let low : length name ≤ 14 = grind (arith, nat_tests, short) in
    one_component name is.plain low

-- a path to an entry of a directory leads to its node
pub walk_entry : (tree : Tree) (front name : List ℕ) (d j : ℕ) → IsName name → walk tree user front ≡ Ok d → entry tree d name ≡ Some j
    → walk tree user (front ++ 47 ∷ name) ≡ Ok j
walk_entry tree front name d j is walked here =
    walk-onward tree user front name
    ∙ (ap (λ (r : Result ℕ Refusal). and_then r (λ i. walk_from tree user i (components name))) walked
    ∙ (ap (walk_from tree user d) (name_component name is)
    ∙ ap (λ (r : Result ℕ Refusal). and_then r (λ i. walk_from tree user i [])) (entry_found (tree.nodes d) name j here)))

-- the parts of a list with one more item
split_more : (front : List (List ℕ)) (last : List ℕ) → split_last (front ++ last ∷ []) ≡ Some (front, last)
split_more [] last = refl
split_more (first ∷ front) last =
    ap (λ (parts : Option (List (List ℕ) × List ℕ)). Some (option_map_or (λ (parts : List (List ℕ) × List ℕ). (first ∷ parts.0, parts.1)) parts ([], first))) (split_more front last)

-- the parent and the last name of a path
abbrev found_at : List ℕ → ℕ → Result (ℕ × List ℕ) Refusal
found_at name d = Ok (d, name)

-- the parent and the last name of a path to a name in a directory
pub parent_entry : (tree : Tree) (front name : List ℕ) (d : ℕ) (names : Names) → IsName name → walk tree user front ≡ Ok d → searched (tree.nodes d) ≡ Ok names
    → walk_parent tree user (front ++ 47 ∷ name) ≡ Some (Ok (d, name))
unfolding walk walk_parent
parent_entry tree front name d names is walked held =
    let parts = components-join front name ∙ ap (λ cs. components front ++ cs) (name_component name is) in
    ap (parent_over tree user) parts
    ∙ (ap (option_map (parent_from tree user)) (split_more (components front) name)
    ∙ (ap (λ (r : Result ℕ Refusal). Some (and_then r (λ i. and_then (search tree user i) (λ _. found_at name i)))) walked
    ∙ ap (λ (r : Result Names Refusal). Some (and_then r (λ _. found_at name d))) held))

-- if a name that goes leads to a node without entries, a walk to another node stays
pub walk_past : (old new : Tree) (d j : ℕ) (name : List ℕ) → entry old d name ≡ Some j → ((word : List ℕ) → entry old j word ≡ None)
    → ((x : ℕ) (word : List ℕ) → (x ≡ d → word ≡ name → ⊥) → entry new x word ≡ entry old x word) → (words : List (List ℕ)) (x y : ℕ) → j ≢ y
    → walk_from old user x words ≡ Ok y → walk_from new user x words ≡ Ok y
walk_past old new d j name here bare others [] x y other is = is
walk_past old new d j name here bare others (word ∷ words) x y other is =
    by (find_in old user x word) refl (λ z. walk_past old new d j name here bare others words z y other) is
  where
    -- a walk from a node without entries ends there
    ends : (words : List (List ℕ)) → walk_from old user j words ≡ Ok y → j ≡ y
    ends [] is = cc
    ends (word ∷ words) is = by (find_in old user j word) refl is
      where
        by : (r : Result ℕ Refusal) → find_in old user j word ≡ r → and_then r (λ z. walk_from old user z words) ≡ Ok y → j ≡ y
        by (Err refusal) led is = absurd (cc)
        by (Ok z) led is = let both : None ≡ Some z = sym (bare word) ∙ found_entry (old.nodes j) word z led in absurd (cc)

    by : (r : Result ℕ Refusal) → find_in old user x word ≡ r → ((z : ℕ) → walk_from old user z words ≡ Ok y → walk_from new user z words ≡ Ok y)
        → and_then r (λ z. walk_from old user z words) ≡ Ok y → walk_from new user x (word ∷ words) ≡ Ok y
    by (Err refusal) led on is = absurd (cc)
    by (Ok z) led on is =
        let entry_is = found_entry (old.nodes x) word z led in
        let apart : x ≡ d → word ≡ name → ⊥ = λ same_x same_word.
        let both : Some z ≡ Some j = sym entry_is ∙ (ap (λ k. entry old k word) same_x ∙ (ap (entry old d) same_word ∙ here)) in
        let same : z ≡ j = cc in
        other (ends words (subst (λ k. walk_from old user k words ≡ Ok y) same is)) in
        ap (λ (r : Result ℕ Refusal). and_then r (λ z. walk_from new user z words)) (entry_found (new.nodes x) word z (others x word apart ∙ entry_is)) ∙ on z is

pub path_past : (old new : Tree) (d j : ℕ) (name : List ℕ) → entry old d name ≡ Some j → ((word : List ℕ) → entry old j word ≡ None)
    → ((x : ℕ) (word : List ℕ) → (x ≡ d → word ≡ name → ⊥) → entry new x word ≡ entry old x word) → root new ≡ root old → (path : List ℕ) (y : ℕ) → j ≢ y
    → walk old user path ≡ Ok y → walk new user path ≡ Ok y
unfolding walk
path_past old new d j name here bare others same path y other is =
    ap (λ r. walk_from new user r (components path)) same ∙ walk_past old new d j name here bare others (components path) (root old) y other is

-- if no entry goes, a walk stays
pub path_stays : (old new : Tree) (d : ℕ) (name : List ℕ) → entry old d name ≡ None
    → ((x : ℕ) (word : List ℕ) → (x ≡ d → word ≡ name → ⊥) → entry new x word ≡ entry old x word) → root new ≡ root old → (path : List ℕ) (y : ℕ)
    → walk old user path ≡ Ok y → walk new user path ≡ Ok y
path_stays old new d name fresh others same path y is =
    path_kept old new path y same (λ x word j led.
    let here = found_entry (old.nodes x) word j led in
    let apart : x ≡ d → word ≡ name → ⊥ = λ same_x same_word.
    let both : None ≡ Some j = sym fresh ∙ (ap (entry old d) (sym same_word) ∙ (ap (λ k. entry old k word) (sym same_x) ∙ here)) in cc in
    entry_found (new.nodes x) word j (others x word apart ∙ here)) is

-- the entries of nodes of which one was replaced
entry_set : (nodes : ℕ → Option Node) (i : ℕ) (node : Option Node) (x : ℕ) (word : List ℕ) → (x ≡ i → entry_of node word ≡ entry_of (nodes i) word)
    → entry_of (set_at nodes i node x) word ≡ entry_of (nodes x) word
entry_set nodes i node x word same = elim (cases_eq x i) [
  | inl here ↦
      ap (λ k. entry_of (set_at nodes i node k) word) here
      ∙ (ap (λ n. entry_of n word) (set_here nodes i node) ∙ (same here ∙ ap (λ k. entry_of (nodes k) word) (sym here)))
  | inr other ↦ ap (λ n. entry_of n word) (set_beside nodes i node x other)
]

-- a change that keeps the content of a node keeps its entries
same_entry : (change : Node → Node) → ((node : Node) → (change node).content ≡ node.content) → (node : Option Node) (word : List ℕ)
    → entry_of (option_map change node) word ≡ entry_of node word
same_entry change same None word = refl
same_entry change same (Some node) word = ap (λ (content : Content). get (unwrap_or (map_of content) []) word) (same node)

-- a directory with an entry removed, and a node that lost a name
abbrev pub without : ℕ → List ℕ → Option Node → Option Node
without now name node = option_map (λ (x : Node). record (modified now x) { content = change_names (λ names. remove names name) x.content }) node

abbrev pub dropped : ℕ → Node → Node
dropped now node = record (stamped now node) { links = node.links - 1 }

without_other : (now : ℕ) (name word : List ℕ) (node : Option Node) → (word ≡ name → ⊥) → entry_of (without now name node) word ≡ entry_of node word
without_other now name word None other = refl
without_other now name word (Some node) other = by node.content
  where
    by : (held : Content) → get (unwrap_or (map_of (change_names (λ names. remove names name) held)) []) word ≡ get (unwrap_or (map_of held) []) word
    by (Body bytes) = refl
    by (Directory names) = get_remove names name word ∙ ap (λ b. cond b None (get names word)) (other_place name word (λ same. other (sym same)))
    by (Device type addresses) = refl

without_here : (now : ℕ) (name : List ℕ) (node : Option Node) → entry_of (without now name node) name ≡ None
without_here now name None = refl
without_here now name (Some node) = by node.content
  where
    by : (held : Content) → get (unwrap_or (map_of (change_names (λ names. remove names name) held)) []) name ≡ None
    by (Body bytes) = refl
    by (Directory names) = get_remove names name name ∙ ap (λ b. cond b None (get names name)) (bytes_same name name refl)
    by (Device type addresses) = refl

without_map : (now : ℕ) (name : List ℕ) (node : Option Node) (names : Names) → searched node ≡ Ok names → searched (without now name node) ≡ Ok (remove names name)
without_map now name None names held = absurd (cc)
without_map now name (Some node) names held = by node.content held
  where
    by : (content : Content) → named (map_of content) ≡ Ok names
        → named (map_of (change_names (λ names. remove names name) content)) ≡ Ok (remove names name)
    by (Body bytes) held = absurd (cc)
    by (Directory map) held = let same : map ≡ names = cc in ap (λ (names : Names). Ok (remove names name)) same
    by (Device type addresses) held = absurd (cc)

entered_other : (now size i : ℕ) (name word : List ℕ) (node : Option Node) → (word ≡ name → ⊥) → entry_of (entered now size name i node) word ≡ entry_of node word
entered_other now size i name word None other = refl
entered_other now size i name word (Some node) other = by node.content
  where
    by : (held : Content) → get (unwrap_or (map_of (change_names (λ names. insert names name i) held)) []) word ≡ get (unwrap_or (map_of held) []) word
    by (Body bytes) = refl
    by (Directory names) = get_insert names name word i ∙ ap (λ b. cond b (Some i) (get names word)) (other_place word name other)
    by (Device type addresses) = refl

-- a directory isn't a node without entries
apart : (nodes : ℕ → Option Node) (d i : ℕ) (names : Names) → searched (nodes d) ≡ Ok names → is_directory (unwrap_or (nodes i) no_node) ≡ false → d ≢ i
apart nodes d i names held plain same =
    let both : true ≡ false = sym (directory (nodes d) held) ∙ (ap (λ k. is_directory (unwrap_or (nodes k) no_node)) same ∙ plain) in true≢false both
  where
    directory : (node : Option Node) → searched node ≡ Ok names → is_directory (unwrap_or node no_node) ≡ true
    directory None held = absurd (cc)
    directory (Some node) held = by node.content held
      where
        by : (content : Content) → named (map_of content) ≡ Ok names → is_some (map_of content) ≡ true
        by (Body bytes) held = absurd (cc)
        by (Directory map) held = refl
        by (Device type addresses) held = absurd (cc)

-- node j lost a name in directory d
pub record Unlinks (old new : Tree) (now d : ℕ) (name : List ℕ) (j : ℕ) : Type 0 where
  pub plain : is_directory (node_at old j) ≡ false
  pub gone : entry new d name ≡ None
  pub others : (x : ℕ) (word : List ℕ) → (x ≡ d → word ≡ name → ⊥) → entry new x word ≡ entry old x word
  pub begins : root new ≡ root old
  pub names : Names
  pub held : searched (new.nodes d) ≡ Ok names
  pub last : Bool
  pub node : new.nodes j ≡ cond last None (option_map (dropped now) (old.nodes j))
  pub stays : (x : ℕ) → x ≢ d → x ≢ j → new.nodes x ≡ old.nodes x

-- a node without entries that lost a name has none
freed : (now : ℕ) (held : Option Node) (word : List ℕ) (last : Bool) → entry_of held word ≡ None
    → entry_of (cond last None (option_map (dropped now) held)) word ≡ None
freed now held word true none = refl
freed now held word false none = same_entry (dropped now) (λ node. refl) held word ∙ none

unlinks_by : (old new : Tree) (now d : ℕ) (name : List ℕ) (j : ℕ) (last : Bool) → entry old d name ≡ Some j → is_directory (node_at old j) ≡ false
    → root new ≡ root old
    → new.nodes ≡ set_at (set_at old.nodes d (without now name (old.nodes d))) j (cond last None (option_map (dropped now) (set_at old.nodes d (without now name (old.nodes d)) j)))
    → Unlinks old new now d name j
unlinks_by old new now d name j last here plain same nodes =
    let map = entry_map (old.nodes d) name j here in
    let less = without now name (old.nodes d) in
    let mid = set_at old.nodes d less in
    let changed = cond last None (option_map (dropped now) (mid j)) in
    let away : d ≢ j = apart old.nodes d j map.0 map.1 plain in
    let back : j ≢ d = λ same. away (sym same) in
    let beside : mid j ≡ old.nodes j = set_beside old.nodes d less j back in
    let bare : (word : List ℕ) → entry_of (mid j) word ≡ None = λ word. ap (λ n. entry_of n word) beside ∙ no_entry (old.nodes j) word plain in
    let none : (word : List ℕ) → entry_of changed word ≡ entry_of (mid j) word = λ word. freed now (mid j) word last (bare word) ∙ sym (bare word) in
    record {
      plain = plain;
      gone = ap (λ (ns : ℕ → Option Node). entry_of (ns d) name) nodes
          ∙ (ap (λ n. entry_of n name) (set_beside mid j changed d away ∙ set_here old.nodes d less) ∙ without_here now name (old.nodes d));
      others = λ x word other. ap (λ (ns : ℕ → Option Node). entry_of (ns x) word) nodes
          ∙ (entry_set mid j changed x word (λ same. none word)
          ∙ entry_set old.nodes d less x word (λ same. without_other now name word (old.nodes d) (other same)));
      begins = same;
      names = remove map.0 name;
      held = ap (λ (ns : ℕ → Option Node). searched (ns d)) nodes
          ∙ (ap searched (set_beside mid j changed d away ∙ set_here old.nodes d less) ∙ without_map now name (old.nodes d) map.0 map.1);
      last = last;
      node = ap (λ (ns : ℕ → Option Node). ns j) nodes
          ∙ (set_here mid j changed ∙ ap (λ n. cond last None (option_map (dropped now) n)) beside);
      stays = λ x other_d other_j. ap (λ (ns : ℕ → Option Node). ns x) nodes
          ∙ (set_beside mid j changed x other_j ∙ set_beside old.nodes d less x other_d);
    }

-- an accepted Unlink
pub unlinks : (old new : Mounted) (now : ℕ) (path : List ℕ) (d : ℕ) (name : List ℕ) (j : ℕ) (done : Done) → Accepts old new (calls.Unlink user now path) done
    → walk_parent (state_of old).tree user path ≡ Some (Ok (d, name)) → entry (state_of old).tree d name ≡ Some j
    → Unlinks (state_of old).tree (state_of new).tree now d name j
unfolding changed_by verdict
unlinks old new now path d name j done accepts parent here =
    let s = state_of old in
    let passed = unlink_passed s user path d name accepts.accepted parent in
    let number : number_of_name s.tree d name ≡ j = ap (λ (o : Option ℕ). unwrap_or o 0) here in
    let first = remove_entry now d name s in
    let last = nat_le (node_at first.tree j).links 1 in
    let is : state_of new ≡ at_time now (release now j first) =
    reads_next old new (calls.Unlink user now path) done accepts
    ∙ (ap (λ (p : Option (Result (ℕ × List ℕ) Refusal)). at_time now (on_parent s p (after_unlink s now))) parent
    ∙ ap (λ k. at_time now (release now k first)) number) in
    unlinks_by s.tree (state_of new).tree now d name j last here (ap (λ k. is_directory (node_at s.tree k)) (sym number) ∙ passed.1)
    (ap (λ (s : State). root s.tree) is ∙ begins first last) (ap (λ (s : State). s.tree.nodes) is ∙ nodes_by first last)
  where
    begins : (first : State) (last : Bool) → root (cond last (remove_node j first) (drop_link now j first)).tree ≡ root first.tree
    begins first true = refl
    begins first false = refl

    nodes_by : (first : State) (last : Bool) → (cond last (remove_node j first) (drop_link now j first)).tree.nodes
        ≡ set_at first.tree.nodes j (cond last None (option_map (dropped now) (first.tree.nodes j)))
    nodes_by first true = refl
    nodes_by first false = refl

-- node i got a name in directory e, which had no such name
pub record Links (old new : Tree) (now e : ℕ) (name : List ℕ) (i : ℕ) : Type 0 where
  pub fresh : entry old e name ≡ None
  pub here : entry new e name ≡ Some i
  pub others : (x : ℕ) (word : List ℕ) → (x ≡ e → word ≡ name → ⊥) → entry new x word ≡ entry old x word
  pub begins : root new ≡ root old
  pub away : e ≢ i
  pub node : new.nodes i ≡ linked now (old.nodes i)
  pub stays : (x : ℕ) → x ≢ e → x ≢ i → new.nodes x ≡ old.nodes x

links_by : (old new : Tree) (now size e : ℕ) (name : List ℕ) (i : ℕ) (names : Names) → entry old e name ≡ None → searched (old.nodes e) ≡ Ok names
    → is_directory (node_at old i) ≡ false → root new ≡ root old
    → new.nodes ≡ set_at (set_at old.nodes i (linked now (old.nodes i))) e (entered now size name i (set_at old.nodes i (linked now (old.nodes i)) e))
    → Links old new now e name i
links_by old new now size e name i names fresh held plain same nodes =
    let more = linked now (old.nodes i) in
    let mid = set_at old.nodes i more in
    let put = entered now size name i (mid e) in
    let away : e ≢ i = apart old.nodes e i names held plain in
    let there : searched (mid e) ≡ Ok names = ap searched (set_beside old.nodes i more e away) ∙ held in
    record {
      fresh = fresh;
      here = ap (λ (ns : ℕ → Option Node). entry_of (ns e) name) nodes
          ∙ (ap (λ n. entry_of n name) (set_here mid e put) ∙ found_entry put name i (entered_found now size i name (mid e) names there));
      others = λ x word other. ap (λ (ns : ℕ → Option Node). entry_of (ns x) word) nodes
          ∙ (entry_set mid e put x word (λ same. entered_other now size i name word (mid e) (other same))
          ∙ entry_set old.nodes i more x word (λ same. same_entry (λ node. record (stamped now node) { links = node.links + 1 }) (λ node. refl) (old.nodes i) word));
      begins = same;
      away = away;
      node = ap (λ (ns : ℕ → Option Node). ns i) nodes ∙ (set_beside mid e put i (λ at. away (sym at)) ∙ set_here old.nodes i more);
      stays = λ x other_e other_i. ap (λ (ns : ℕ → Option Node). ns x) nodes
          ∙ (set_beside mid e put x other_e ∙ set_beside old.nodes i more x other_i);
    }

-- an accepted Link
pub links : (old new : Mounted) (now : ℕ) (source target : List ℕ) (e : ℕ) (name : List ℕ) (i : ℕ) (names : Names) (done : Done)
    → Accepts old new (calls.Link user now source target) done → walk (state_of old).tree user source ≡ Ok i
    → walk_parent (state_of old).tree user target ≡ Some (Ok (e, name)) → searched ((state_of old).tree.nodes e) ≡ Ok names
    → Links (state_of old).tree (state_of new).tree now e name i
unfolding changed_by verdict
links old new now source target e name i names done accepts walked parent held =
    let s = state_of old in
    let may = link_passed s user source target i e name accepts.accepted walked parent in
    let is : state_of new ≡ at_time now (after_link s now i e name) =
    reads_next old new (calls.Link user now source target) done accepts
    ∙ (ap (λ (r : Result ℕ Refusal). at_time now (on_node s r (λ i. on_parent s (walk_parent s.tree user target) (after_link s now i)))) walked
    ∙ ap (λ (p : Option (Result (ℕ × List ℕ) Refusal)). at_time now (on_parent s p (after_link s now i))) parent) in
    links_by s.tree (state_of new).tree now (size_with_entry (add_link now i s) e) e name i names may.takes.fresh held may.other
    (ap (λ (s : State). root s.tree) is) (ap (λ (s : State). s.tree.nodes) is)
