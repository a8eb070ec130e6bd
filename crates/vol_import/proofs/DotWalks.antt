-- Walks over names with `.` among them, and the path of the steps, which is without them.
use Rattle.std.proofs.Common.{◌≡◌, ◌∙◌, sym, ap, subst, refl, ℕ, zero, suc, min, ◌≤◌, ◌==◌, ◌||◌, Bool, true, false, cond, not, nat_lt, List, [], ◌∷◌, ◌++◌, length, map, take, Option, Some, Result, Ok, Err, arith, append_assoc}
use Rattle.std.specs.Prelude.{filter}
use Rattle.std.specs.List.{list_any, onto_first as split_onto}
use Rattle.std.specs.Option.{ok_or, option_map}
use Rattle.std.proofs.lemmas.Bool.{eqb-true, false_from_ne_true, or_parts}
use Rattle.std.proofs.lemmas.Bool.Decides.{nat_tests}
use Rattle.std.proofs.lemmas.List.{append-nil, length-take, take_all}
use Rattle.std.specs.Str.{bytes_eq}
use Rattle.std.proofs.lemmas.List.Folds.{list_any-append}
use Rattle.vol_layout.specs.Geometry.{geometry_of}
use Rattle.vol_layout.specs.declared.edition.Edition.{Edition}
use Rattle.vol_layout.specs.declared.geometry.Geometry.{Geometry}
use Rattle.vol_file.proofs.PlaceLists.{bytes_same, same_bytes}
use Rattle.vol_dir.proofs.Components.{one_piece}
use Rattle.vol_dir.specs.Access.{user}
use Rattle.vol_dir.specs.Entries.{HasEntries, entry_at}
use Rattle.vol_dir.specs.Names.{Names, get, dot}
use Rattle.vol_dir.specs.Search.{holds}
use Rattle.vol_dir.specs.Tree.{Tree, tree}
use Rattle.pdp_words.specs.Steps.{and_then}
use Rattle.vol_dir.specs.Walk.{onto_first, pieces, is_nil, components, root, has_zero, search, find_in, walk_from, walk}
use Rattle.vol_dir.proofs.Searches.{found_number}
use Rattle.vol_dir.proofs.PathJoins.{components-join, walk_from-append, walk-onward}
use Rattle.vol_dir.specs.declared.refusal.Refusal.{Refusal}
use Rattle.vol_dir.specs.declared.refusal.Refusal.TheVariants as refusals
use Rattle.vol_judge.specs.Directories.{HasDots}
use Rattle.vol_judge.specs.Sound.{IsSound}
use Rattle.vol_judge.proofs.Parts.{sound_dots, sound_entries}
use Rattle.vol_judge.proofs.PassedEntries.{entry_within}
use Rattle.vol_change.specs.Ready.{Rules1To12}
use Rattle.vol_change.proofs.EntryStates.{names_once}
use Rattle.vol_change.proofs.ReadyLaws.{ready_entries}
use Rattle.vol_batch.specs.Paths.{below}
use Rattle.vol_import.specs.Plan.{is_long, is_step, steps_of, joined, names_of as parts_of}
use Rattle.vol_volume.proofs.TreeWalks.{searched_slots}

-- the `.` of each directory leads to itself
abbrev pub DotsLead : Tree → Type 0
DotsLead t = (x : ℕ) (names : Names) → search t user x ≡ Ok names → get names dot ≡ Some x

-- in the tree of a sound image, the `.` of each directory leads to itself
dots_found : (geometry : Geometry) (image : List ℕ) → HasEntries geometry image → HasDots geometry image → DotsLead (tree geometry image)
dots_found geometry image entries dots x names is =
    let here = searched_slots geometry image x names is in
    let itself = dots.itself x here.0 in
    let s = itself.0 in
    let found : holds dot (entry_at geometry image x s) ≡ true = ap (holds dot) itself.1.entry ∙ bytes_same dot dot refl in
    let once = names_once geometry image x entries here.0 in
    ap (λ ns. get ns dot) (sym here.1)
    ∙ found_number geometry image x s x dot (entry_within geometry image x s (dot, x) itself.1.entry) found
    (λ t low. false_from_ne_true (holds dot (entry_at geometry image x t)) (λ other. let same : s ≡ t = once.once dot s t found other in omega (arith, low, same)))
    (ap (option_map (λ (entry : List ℕ × ℕ). entry.1)) itself.1.entry)

pub dots_sound : (edition : Edition) (image : List ℕ) → IsSound edition image → DotsLead (tree (geometry_of edition image) image)
dots_sound edition image sound =
    dots_found (geometry_of edition image) image (sound_entries edition image sound) (sound_dots edition image sound)

pub dots_ready : (geometry : Geometry) (image : List ℕ) → Rules1To12 geometry image → DotsLead (tree geometry image)
dots_ready geometry image ready =
    dots_found geometry image (ready_entries geometry image ready)
    (subst (λ g. HasDots g image) (sym ready.sizes) (sound_dots geometry.edition image ready.sound))

-- user 0 may search this i-number
abbrev Opens : Tree → ℕ → Type 0
Opens t x = (names : Names) × (search t user x ≡ Ok names)

-- if a walk leads to a directory that may be searched, it begins at one
opens_first : (t : Tree) (names : List (List ℕ)) (x i : ℕ) → Opens t i → walk_from t user x names ≡ Ok i → Opens t x
opens_first t [] x i opens is = let same : i ≡ x = cc in subst (Opens t) same opens
opens_first t (name ∷ names) x i opens is = by (search t user x) refl is
  where
    by : (searched : Result Names Refusal) → search t user x ≡ searched
        → and_then (and_then searched (λ others. ok_or (get others name) refusals.NoEntry)) (λ y. walk_from t user y names) ≡ Ok i → Opens t x
    by (Ok others) e is = (others, e)
    by (Err refusal) e is = absurd (cc)

-- a name that isn't a step is `.`
is_dot : (name : List ℕ) → is_step name ≡ false → name ≡ dot
is_dot name still = same_bytes name dot (by (bytes_eq name dot) still)
  where
    by : (b : Bool) → not b ≡ false → b ≡ true
    by true e = refl
    by false e = absurd (cc)

-- the name `.` leads to the same directory
dot_step : (t : Tree) → DotsLead t → (x : ℕ) (name : List ℕ) → is_step name ≡ false → Opens t x → find_in t user x name ≡ Ok x
dot_step t dots x name still opens =
    ap (λ (r : Result Names Refusal). and_then r (λ others. ok_or (get others name) refusals.NoEntry)) opens.1
    ∙ ap (λ (o : Option ℕ). ok_or o refusals.NoEntry) (ap (get opens.0) (is_dot name still) ∙ dots x opens.0 opens.1)

-- a walk over two parts still leads to `i` if the second part is replaced by one that leads there too
then_other : (walked : Result ℕ Refusal) (f g : ℕ → Result ℕ Refusal) (i : ℕ) → ((y : ℕ) → f y ≡ Ok i → g y ≡ Ok i) → and_then walked f ≡ Ok i
    → and_then walked g ≡ Ok i
then_other (Ok y) f g i on is = on y is
then_other (Err refusal) f g i on is = absurd (cc)

-- if steps lead to a directory, the names with `.` among them lead there too
pub steps_walk : (t : Tree) → DotsLead t → (names : List (List ℕ)) (x i : ℕ) → Opens t i → walk_from t user x (filter is_step names) ≡ Ok i
    → walk_from t user x names ≡ Ok i
steps_walk t dots [] x i opens is = is
steps_walk t dots (name ∷ names) x i opens is = by (λ y is. steps_walk t dots names y i opens is) (is_step name) refl is
  where
    by : ((y : ℕ) → walk_from t user y (filter is_step names) ≡ Ok i → walk_from t user y names ≡ Ok i) → (b : Bool) → is_step name ≡ b
        → walk_from t user x (cond b (name ∷ filter is_step names) (filter is_step names)) ≡ Ok i → walk_from t user x (name ∷ names) ≡ Ok i
    by on true e is = then_other (find_in t user x name) (λ y. walk_from t user y (filter is_step names)) (λ y. walk_from t user y names) i on is
    by on false e is =
        ap (λ (r : Result ℕ Refusal). and_then r (λ y. walk_from t user y names))
        (dot_step t dots x name e (opens_first t (filter is_step names) x i opens is)) ∙ on x is

-- if names lead to a node, their steps without `.` lead there too
pub walk_steps : (t : Tree) → DotsLead t → (names : List (List ℕ)) (x i : ℕ) → walk_from t user x names ≡ Ok i
    → walk_from t user x (filter is_step names) ≡ Ok i
walk_steps t dots [] x i is = is
walk_steps t dots (name ∷ names) x i is = by (λ y is. walk_steps t dots names y i is) (is_step name) refl
  where
    by_search : (searched : Result Names Refusal) → search t user x ≡ searched → is_step name ≡ false
        → and_then (and_then searched (λ others. ok_or (get others name) refusals.NoEntry)) (λ y. walk_from t user y names) ≡ Ok i
        → walk_from t user x names ≡ Ok i
    by_search (Ok others) e still found =
        sym (ap (λ (r : Result ℕ Refusal). and_then r (λ y. walk_from t user y names)) (dot_step t dots x name still (others, e)))
        ∙ (ap (λ (r : Result Names Refusal). and_then (and_then r (λ others. ok_or (get others name) refusals.NoEntry)) (λ y. walk_from t user y names)) e ∙ found)
    by_search (Err refusal) e still found = absurd (cc)

    by : ((y : ℕ) → walk_from t user y names ≡ Ok i → walk_from t user y (filter is_step names) ≡ Ok i) → (b : Bool) → is_step name ≡ b
        → walk_from t user x (cond b (name ∷ filter is_step names) (filter is_step names)) ≡ Ok i
    by on true e = then_other (find_in t user x name) (λ y. walk_from t user y names) (λ y. walk_from t user y (filter is_step names)) i on is
    by on false e = on x (by_search (search t user x) refl e is)

-- each name is its own only component
abbrev pub AreSteps : List (List ℕ) → Type 0
AreSteps [] = Unit {0}
AreSteps (step ∷ steps) = (components step ≡ step ∷ []) × AreSteps steps

-- pieces without a slash
abbrev ArePlain : List (List ℕ) → Type 0
ArePlain [] = Unit {0}
ArePlain (piece ∷ pieces) = (list_any (λ c. c == 47) piece ≡ false) × ArePlain pieces

plain_pieces : (path : List ℕ) → ArePlain (pieces path)
plain_pieces [] = (refl, tt)
plain_pieces (c ∷ path) =
    elim (c == 47) as (λ b. (c == 47) ≡ b → ArePlain (cond b ([] ∷ pieces path) (onto_first c (pieces path)))) [
      | true ↦ λ e. (refl, plain_pieces path)
      | false ↦ λ e. onto (pieces path) e (plain_pieces path)
    ] refl
  where
    onto : (ps : List (List ℕ)) → (c == 47) ≡ false → ArePlain ps → ArePlain (onto_first c ps)
    onto [] e plain = (ap (λ b. b || false) e, tt)
    onto (p ∷ ps) e plain = (ap (λ b. b || list_any (λ c. c == 47) p) e ∙ plain.0, plain.1)

plain_front : (n : ℕ) (name : List ℕ) → list_any (λ c. c == 47) name ≡ false → list_any (λ c. c == 47) (take n name) ≡ false
plain_front zero name h = refl
plain_front (suc n) [] h = refl
plain_front (suc n) (c ∷ name) h =
    let parts = or_parts (c == 47) (list_any (λ c. c == 47) name) h in
    ap (λ b. b || list_any (λ c. c == 47) (take n name)) parts.0 ∙ plain_front n name parts.1

-- the steps among the pieces of a path satisfy `AreSteps`
steps_kept : (ps : List (List ℕ)) → ArePlain ps → AreSteps (filter is_step (map (take 14) (filter (λ piece. not (is_nil piece)) ps)))
unfolding components
steps_kept [] plain = tt
steps_kept ([] ∷ ps) plain = steps_kept ps plain.1
steps_kept ((c ∷ p) ∷ ps) plain =
    let name = take 14 (c ∷ p) in
    let count : length name ≡ min 14 (length (c ∷ p)) = length-take 14 (c ∷ p) in
    let short : length name ≤ 14 = omega (arith, count) in
    let one : components name ≡ name ∷ [] =
    ap (λ qs. map (take 14) (filter (λ piece. not (is_nil piece)) qs)) (one_piece name (plain_front 14 (c ∷ p) plain.0))
    ∙ ap (λ n. n ∷ []) (take_all 14 name short) in
    elim (is_step name) as (λ b. AreSteps (cond b (name ∷ filter is_step (map (take 14) (filter (λ piece. not (is_nil piece)) ps)))
    (filter is_step (map (take 14) (filter (λ piece. not (is_nil piece)) ps))))) [
      | true ↦ (one, steps_kept ps plain.1)
      | false ↦ steps_kept ps plain.1
    ]

pub are_steps : (path : List ℕ) → AreSteps (steps_of path)
unfolding components
are_steps path = steps_kept (pieces path) (plain_pieces path)

-- the components of a path followed by the path of steps are the path's components followed by the steps
pub joined_components : (steps : List (List ℕ)) (base : List ℕ) → AreSteps steps → components (base ++ joined steps) ≡ components base ++ steps
joined_components [] base are = ap components (append-nil base) ∙ sym (append-nil (components base))
joined_components (step ∷ steps) base are =
    ap components (sym (append_assoc base (47 ∷ step) (joined steps)))
    ∙ (joined_components steps (base ++ 47 ∷ step) are.1
    ∙ (ap (λ cs. cs ++ steps) (components-join base step ∙ ap (λ cs. components base ++ cs) are.0)
    ∙ append_assoc (components base) (step ∷ []) steps))

-- a walk of steps below a path is a walk of the path followed by a walk of the steps
steps_onward : (t : Tree) (base path : List ℕ)
    → walk t user (base ++ joined (steps_of path)) ≡ and_then (walk t user base) (λ y. walk_from t user y (steps_of path))
unfolding walk
steps_onward t base path =
    ap (walk_from t user (root t)) (joined_components (steps_of path) base (are_steps path))
    ∙ walk_from-append t user (root t) (components base) (steps_of path)

-- if the steps of a path lead to a directory, so does the path
pub with_dots : (t : Tree) (base path : List ℕ) (i : ℕ) → DotsLead t → Opens t i → walk t user (base ++ joined (steps_of path)) ≡ Ok i
    → walk t user (below base path) ≡ Ok i
with_dots t base path i dots opens is =
    walk-onward t user base path
    ∙ then_other (walk t user base) (λ y. walk_from t user y (steps_of path)) (λ y. walk_from t user y (components path)) i
    (λ y is. steps_walk t dots (components path) y i opens is) (sym (steps_onward t base path) ∙ is)

pub without_dots : (t : Tree) (base path : List ℕ) (i : ℕ) → DotsLead t → walk t user (below base path) ≡ Ok i
    → walk t user (base ++ joined (steps_of path)) ≡ Ok i
without_dots t base path i dots is =
    steps_onward t base path
    ∙ then_other (walk t user base) (λ y. walk_from t user y (components path)) (λ y. walk_from t user y (steps_of path)) i
    (λ y is. walk_steps t dots (components path) y i is) (sym (walk-onward t user base path) ∙ is)

-- the pieces of a path are the parts into which std splits it
split_pieces : (path : List ℕ) → pieces path ≡ parts_of path
split_pieces [] = refl
split_pieces (c ∷ path) =
    ap (λ ps. cond (c == 47) ([] ∷ ps) (onto_first c ps)) (split_pieces path) ∙ by (c == 47) (parts_of path)
  where
    by : (b : Bool) (ps : List (List ℕ)) → cond b ([] ∷ ps) (onto_first c ps) ≡ cond b ([] ∷ ps) (split_onto c ps)
    by true ps = refl
    by false [] = refl
    by false (p ∷ ps) = refl

-- a path has a zero byte if and only if one of its pieces has one
zeros_split : (path : List ℕ) → list_any has_zero (pieces path) ≡ has_zero path
zeros_split [] = refl
zeros_split (c ∷ path) =
    elim (c == 47) as (λ b. (c == 47) ≡ b → list_any has_zero (cond b ([] ∷ pieces path) (onto_first c (pieces path))) ≡ (c == 0 || has_zero path)) [
      | true ↦ λ e. zeros_split path ∙ ap (λ (k : ℕ). k == 0 || has_zero path) (sym (eqb-true c 47 e))
      | false ↦ λ e. onto (pieces path) ∙ ap (λ b. c == 0 || b) (zeros_split path)
    ] refl
  where
    onto : (ps : List (List ℕ)) → list_any has_zero (onto_first c ps) ≡ (c == 0 || list_any has_zero ps)
    onto [] = or_nothing (c == 0)
      where
        or_nothing : (b : Bool) → ((b || false) || false) ≡ (b || false)
        or_nothing true = refl
        or_nothing false = refl
    onto (p ∷ ps) = or_grouped (c == 0) (has_zero p) (list_any has_zero ps)
      where
        or_grouped : (a b d : Bool) → ((a || b) || d) ≡ (a || (b || d))
        or_grouped true b d = refl
        or_grouped false b d = refl

-- a piece has a zero byte if and only if a step has one, if no piece is too long
zeros_stepped : (ps : List (List ℕ)) → list_any is_long ps ≡ false
    → list_any has_zero (filter is_step (map (take 14) (filter (λ piece. not (is_nil piece)) ps))) ≡ list_any has_zero ps
zeros_stepped [] e = refl
zeros_stepped ([] ∷ ps) e = zeros_stepped ps e
zeros_stepped ((c ∷ p) ∷ ps) e =
    let parts = or_parts (is_long (c ∷ p)) (list_any is_long ps) e in
    let low : length (c ∷ p) ≤ 14 = short (length (c ∷ p)) parts.0 in
    let rest = filter is_step (map (take 14) (filter (λ piece. not (is_nil piece)) ps)) in
    ap (λ n. list_any has_zero (cond (is_step n) (n ∷ rest) rest)) (take_all 14 (c ∷ p) low)
    ∙ (elim (is_step (c ∷ p)) as (λ b. is_step (c ∷ p) ≡ b → list_any has_zero (cond b ((c ∷ p) ∷ rest) rest) ≡ (has_zero (c ∷ p) || list_any has_zero rest)) [
      | true ↦ λ step. refl
      | false ↦ λ still. ap (λ n. has_zero n || list_any has_zero rest) (sym (is_dot (c ∷ p) still))
    ] refl
    ∙ ap (λ b. has_zero (c ∷ p) || b) (zeros_stepped ps parts.1))
  where
    short : (n : ℕ) → nat_lt 14 n ≡ false → n ≤ 14
    short n e = grind (arith, nat_tests)

zeros_joined : (steps : List (List ℕ)) → has_zero (joined steps) ≡ list_any has_zero steps
zeros_joined [] = refl
zeros_joined (step ∷ steps) = list_any-append (λ c. c == 0) (47 ∷ step) (joined steps) ∙ ap (λ b. has_zero step || b) (zeros_joined steps)

-- below a path, the steps have a zero byte if and only if the path has one
pub zeros_below : (base path : List ℕ) → list_any is_long (parts_of path) ≡ false → has_zero (base ++ joined (steps_of path)) ≡ has_zero (below base path)
unfolding components
zeros_below base path short =
    let same : has_zero (joined (steps_of path)) ≡ has_zero path =
    zeros_joined (steps_of path)
    ∙ (zeros_stepped (pieces path) (ap (list_any is_long) (split_pieces path) ∙ short) ∙ zeros_split path) in
    list_any-append (λ c. c == 0) base (joined (steps_of path))
    ∙ (ap (λ b. has_zero base || b) same ∙ sym (list_any-append (λ c. c == 0) base (47 ∷ path)))
