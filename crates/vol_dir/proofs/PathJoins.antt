-- Lemmas on joined paths, and on walks along them.
use Rattle.std.proofs.Common.{◌≡◌, ℕ, true, false, cond, eqb, List, [], ◌∷◌, ◌++◌, map, take, Ok, Err, refl, ap, sym, ◌∙◌}
use Rattle.std.specs.Prelude.{not}
use Rattle.std.proofs.lemmas.List.{map-append, append-nil}
use Rattle.std.proofs.lemmas.List.Elements.{filter-append}
use Rattle.vol_dir.specs.Tree.{Tree}
use Rattle.pdp_words.specs.Steps.{and_then}
use Rattle.vol_dir.specs.Walk.{root, onto_first, pieces, is_nil, components, parent_over, find_in, walk_from, walk, walk_parent}
use Rattle.vol_dir.specs.PathLaws.{JoinsComponents, HasNoOuterSlashes, CountsSlashesOnce, BeginsAtRoot, WalksOn}
use Rattle.vol_dir.proofs.Components.{kept, has_first, components-nil}
use Rattle.vol_dir.specs.declared.cred.Cred.{Cred}

-- `onto_first` changes only the first piece, so it commutes with appending pieces
onto_first-append : (c : ℕ) (ps qs others : List (List ℕ)) (first : List ℕ) → ps ≡ first ∷ others → onto_first c (ps ++ qs) ≡ onto_first c ps ++ qs
onto_first-append c [] qs others first e = cc
onto_first-append c (p ∷ ps) qs others first e = refl

pieces-join : (path rest : List ℕ) → pieces (path ++ 47 ∷ rest) ≡ pieces path ++ pieces rest
pieces-join [] rest = refl
pieces-join (c ∷ path) rest =
    let h = has_first path in
    elim (eqb c 47) as (λ b. cond b ([] ∷ pieces (path ++ 47 ∷ rest)) (onto_first c (pieces (path ++ 47 ∷ rest))) ≡ cond b ([] ∷ pieces path) (onto_first c (pieces path)) ++ pieces rest) [
      | true ↦ ap (λ ps. [] ∷ ps) (pieces-join path rest)
      | false ↦ ap (onto_first c) (pieces-join path rest) ∙ onto_first-append c (pieces path) (pieces rest) h.others _ h.first
    ]

pub components-join : JoinsComponents
unfolding components
components-join path rest =
    ap (λ ps. map (take 14) (kept ps)) (pieces-join path rest)
    ∙ (ap (map (take 14)) (filter-append (λ piece. not (is_nil piece)) (pieces path) (pieces rest))
    ∙ map-append (take 14) (kept (pieces path)) (kept (pieces rest)))

components-before : (path : List ℕ) → components (47 ∷ path) ≡ components path
components-before path = components-join [] path ∙ ap (λ cs. cs ++ components path) components-nil

components-after : (path : List ℕ) → components (path ++ 47 ∷ []) ≡ components path
components-after path = components-join path [] ∙ (ap (λ cs. components path ++ cs) components-nil ∙ append-nil (components path))

pub components-outer : HasNoOuterSlashes
components-outer path = (components-before path, components-after path)

pub components-once : CountsSlashesOnce
components-once path rest =
    components-join path (47 ∷ rest) ∙ (ap (λ cs. components path ++ cs) (components-before rest) ∙ sym (components-join path rest))

pub components-slash : components (47 ∷ []) ≡ []
components-slash = components-before [] ∙ components-nil

pub walk-nothing : BeginsAtRoot
unfolding walk walk_parent
walk-nothing tree cred path e = (ap (walk_from tree cred (root tree)) e, ap (parent_over tree cred) e)

-- a walk along joined lists of names is the walk along the first list, continued along the second
pub walk_from-append : (tree : Tree) (cred : Cred) (i : ℕ) (names others : List (List ℕ))
    → walk_from tree cred i (names ++ others) ≡ and_then (walk_from tree cred i names) (λ j. walk_from tree cred j others)
walk_from-append tree cred i [] others = refl
walk_from-append tree cred i (name ∷ names) others =
    elim (find_in tree cred i name) as (λ r. and_then r (λ j. walk_from tree cred j (names ++ others)) ≡ and_then (and_then r (λ j. walk_from tree cred j names)) (λ j. walk_from tree cred j others)) [
      | Ok j ↦ walk_from-append tree cred j names others
      | Err refusal ↦ refl
    ]

pub walk-onward : WalksOn
unfolding walk
walk-onward tree cred path rest =
    ap (walk_from tree cred (root tree)) (components-join path rest)
    ∙ walk_from-append tree cred (root tree) (components path) (components rest)
