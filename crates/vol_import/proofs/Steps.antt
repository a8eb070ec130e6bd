-- Making the directories of a path, one step after another.
use Rattle.std.proofs.Common.{◌≡◌, ◌∙◌, ◌<◌, ◌≤◌, ◌+◌, ◌-◌, ◌∷◌, ◌++◌, Bool, not, refl, false, ℕ, List, [], length, map, take, drop, get_or, sym, ap, ap₂}
use Rattle.std.specs.Borrow.{Bor}
use Rattle.std.proofs.Math.ListN.{drop_of_length-le}
use Rattle.std.proofs.lemmas.List.{at_drop_more, length-map, take-map}
use Rattle.vol_dir.specs.Tree.{Tree}
use Rattle.vol_import.specs.Plan.{Drafted, ends_in_dot, is_step, with_way, with_way_directory}

-- the texts of steps
abbrev pub texts : List (Bor (List ℕ)) → List (List ℕ)
texts steps = map (λ step. step.now) steps

-- a default step, for indexes where its value doesn't matter
abbrev pub no_step : Bor (List ℕ)
no_step = record { ref_ptr = (0, 0); now = [] }

-- the texts of the first steps are the first names
pub way_texts : (n : ℕ) (taken steps : List (Bor (List ℕ))) (names : List (List ℕ)) → taken ≡ steps → texts steps ≡ names
    → texts (take n taken) ≡ take n names
way_texts n taken steps names same is =
    ap (λ (l : List (Bor (List ℕ))). texts (take n l)) same ∙ sym (take-map (λ (step : Bor (List ℕ)). step.now) n steps) ∙ ap (take n) is

-- there are as many texts as steps
pub length_texts : (steps : List (Bor (List ℕ))) (names : List (List ℕ)) → texts steps ≡ names → length steps ≡ length names
length_texts steps names is = sym (length-map steps (λ (step : Bor (List ℕ)). step.now)) ∙ ap length is

-- the directory of one more step is made
pub way_more : (tree : Tree) (base : List ℕ) (now : ℕ) (path next : List ℕ) (steps : List (Bor (List ℕ))) (i : ℕ) (other : Bor (List ℕ)) (before after all : Drafted)
    → i < length steps → with_way tree base now path (texts (drop i steps)) before ≡ all → next ≡ path ++ 47 ∷ (get_or steps i other).now
    → after ≡ with_way_directory tree base now next before → with_way tree base now next (texts (drop (i + 1) steps)) after ≡ all
unfolding with_way
way_more tree base now path next steps i other before after all inside on is made =
    ap₂ (λ (n : List ℕ) (d : Drafted). with_way tree base now n (texts (drop (i + 1) steps)) d) is
    (made ∙ ap (λ (n : List ℕ). with_way_directory tree base now n before) is)
    ∙ sym (at_drop_more (λ (l : List (Bor (List ℕ))). with_way tree base now path (texts l) before) steps i other inside)
    ∙ on

-- if no step is left, the draft has all directories
pub way_end : (tree : Tree) (base : List ℕ) (now : ℕ) (path : List ℕ) (steps : List (Bor (List ℕ))) (i : ℕ) (before all : Drafted)
    → length steps ≤ i → with_way tree base now path (texts (drop i steps)) before ≡ all → before ≡ all
unfolding with_way
way_end tree base now path steps i before all none on =
    ap (λ (l : List (Bor (List ℕ))). with_way tree base now path (texts l) before) (sym (drop_of_length-le steps none)) ∙ on

-- the answer for components: the given one if there are none
abbrev pub last_dot : Bool → List (List ℕ) → Bool
last_dot dot [] = dot
last_dot dot (name ∷ rest) = ends_in_dot (name ∷ rest)

-- without any component there is no dot
pub dot_start : (names : List (List ℕ)) → last_dot false names ≡ ends_in_dot names
unfolding ends_in_dot
dot_start [] = refl
dot_start (name ∷ rest) = refl

-- the answer after one more component
pub dot_next : (dot : Bool) (names : List (List ℕ)) (name : List ℕ) (rest : List (List ℕ)) → names ≡ name ∷ rest
    → last_dot (not (is_step name)) rest ≡ last_dot dot names
unfolding ends_in_dot
dot_next dot names name rest is = go rest ∙ ap (last_dot dot) (sym is)
  where
    go : (rest : List (List ℕ)) → last_dot (not (is_step name)) rest ≡ last_dot dot (name ∷ rest)
    go [] = refl
    go (next ∷ rest) = refl
