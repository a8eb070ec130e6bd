-- The calls that remove paths.
use Rattle.std.proofs.Common.{◌≡◌, ◌∙◌, sym, ap, subst, refl, ℕ, List, [], ◌∷◌, ◌++◌, append_assoc}
use Rattle.std.specs.Prelude.{reverse}
use Rattle.std.proofs.lemmas.List.{append-nil, reverse-append}
use Rattle.vol_dir.specs.Tree.{Tree}
use Rattle.vol_batch.specs.Removal.{Takes, names_of, paths_of, call_of}
use Rattle.vol_volume.specs.declared.calls.Call.{Call}

-- calls that remove two lists of paths consist of those of the first list followed by those of the second
takes_split : (tree : Tree) (now : ℕ) (paths more : List (List ℕ)) (calls : List Call) → Takes tree now (paths ++ more) calls
    → (first : List Call) × (second : List Call) × (calls ≡ first ++ second) × Takes tree now paths first × Takes tree now more second
takes_split tree now [] more calls takes = ([], calls, refl, Takes.none, takes)
takes_split tree now (path ∷ paths) more _ (Takes.next _ _ inner others below beside) =
    let parts = takes_split tree now paths more others beside in
    let call = call_of now path (names_of tree path) in (
      inner ++ call ∷ parts.0,
      parts.1,
      ap (λ calls. inner ++ call ∷ calls) parts.2 ∙ sym (append_assoc inner (call ∷ parts.0) parts.1),
      Takes.next path paths inner parts.0 below parts.3,
      parts.4,
    )

-- calls that remove one list of paths followed by calls that remove another remove both
takes_join : (tree : Tree) (now : ℕ) (paths more : List (List ℕ)) (first second : List Call) → Takes tree now paths first → Takes tree now more second
    → Takes tree now (paths ++ more) (first ++ second)
takes_join tree now _ more _ second Takes.none rest = rest
takes_join tree now _ more _ second (Takes.next path paths inner others below beside) rest =
    let call = call_of now path (names_of tree path) in
    subst (Takes tree now (path ∷ (paths ++ more))) (sym (append_assoc inner (call ∷ others) second))
    (Takes.next path (paths ++ more) inner (others ++ second) below (takes_join tree now paths more others second beside rest))

-- the last call of those that remove a path is the call for the path itself
pub takes_last : (tree : Tree) (now : ℕ) (path : List ℕ) (calls : List Call) → Takes tree now (path ∷ []) calls
    → (inner : List Call) × (calls ≡ inner ++ call_of now path (names_of tree path) ∷ [])
takes_last tree now path _ (Takes.next _ _ inner _ below Takes.none) = (inner, refl)

-- two lists of calls that remove the same paths are equal
pub takes_once : (tree : Tree) (now : ℕ) (paths : List (List ℕ)) (calls others : List Call) → Takes tree now paths calls → Takes tree now paths others
    → calls ≡ others
takes_once tree now _ _ _ Takes.none Takes.none = refl
takes_once tree now _ _ _ (Takes.next path rest inner others below beside) (Takes.next _ _ inner2 others2 below2 beside2) =
    let call = call_of now path (names_of tree path) in
    ap (λ calls. calls ++ call ∷ others) (takes_once tree now _ inner inner2 below below2)
    ∙ ap (λ calls. inner2 ++ call ∷ calls) (takes_once tree now rest others others2 beside beside2)

-- calls that remove the pending paths, followed by the calls so far in reverse, remove `path`
pub TakesOn : Tree → ℕ → List ℕ → List (List ℕ) → List Call → Type 0
TakesOn tree now path pending calls = (first : List Call) → Takes tree now pending first → Takes tree now (path ∷ []) (first ++ reverse calls)

pub on_start : (tree : Tree) (now : ℕ) (path : List ℕ) (pending : List (List ℕ)) (calls : List Call) → pending ≡ path ∷ [] → calls ≡ []
    → TakesOn tree now path pending calls
unfolding TakesOn
on_start tree now path pending calls one none first takes =
    subst (Takes tree now (path ∷ [])) (sym (ap (λ cs. first ++ reverse cs) none ∙ append-nil first)) (subst (λ ps. Takes tree now ps first) one takes)

-- taking one more pending path preserves `TakesOn`
pub on_path : (tree : Tree) (now : ℕ) (path next : List ℕ) (pending rest after : List (List ℕ)) (calls more : List Call) (call : Call)
    → TakesOn tree now path pending calls → pending ≡ rest ++ next ∷ [] → after ≡ rest ++ paths_of next (names_of tree next)
    → call ≡ call_of now next (names_of tree next) → more ≡ calls ++ call ∷ [] → TakesOn tree now path after more
unfolding TakesOn
on_path tree now path next pending rest after calls more call on popped pushed is grown first takes =
    let parts = takes_split tree now rest (paths_of next (names_of tree next)) first (subst (λ ps. Takes tree now ps first) pushed takes) in
    let here : Takes tree now (next ∷ []) (parts.1 ++ call ∷ []) =
    subst (λ c. Takes tree now (next ∷ []) (parts.1 ++ c ∷ [])) (sym is) (Takes.next next [] parts.1 [] parts.4 Takes.none) in
    let all : Takes tree now pending (parts.0 ++ (parts.1 ++ call ∷ [])) =
    subst (λ ps. Takes tree now ps (parts.0 ++ (parts.1 ++ call ∷ []))) (sym popped)
    (takes_join tree now rest (next ∷ []) parts.0 (parts.1 ++ call ∷ []) parts.3 here) in
    let turned : reverse more ≡ call ∷ reverse calls = ap reverse grown ∙ reverse-append calls (call ∷ []) in
    let same : (parts.0 ++ (parts.1 ++ call ∷ [])) ++ reverse calls ≡ first ++ reverse more =
    ap (λ cs. cs ++ reverse calls) (sym (append_assoc parts.0 parts.1 (call ∷ [])))
    ∙ (append_assoc (parts.0 ++ parts.1) (call ∷ []) (reverse calls)
    ∙ (ap (λ cs. cs ++ call ∷ reverse calls) (sym parts.2) ∙ ap (λ cs. first ++ cs) (sym turned))) in
    subst (Takes tree now (path ∷ [])) same (on (parts.0 ++ (parts.1 ++ call ∷ [])) all)

-- if no path is pending, the calls so far in reverse remove `path`
pub on_end : (tree : Tree) (now : ℕ) (path : List ℕ) (pending : List (List ℕ)) (calls : List Call) → TakesOn tree now path pending calls → pending ≡ []
    → Takes tree now (path ∷ []) (reverse calls)
unfolding TakesOn
on_end tree now path pending calls on none = on [] (subst (λ ps. Takes tree now ps []) (sym none) Takes.none)
