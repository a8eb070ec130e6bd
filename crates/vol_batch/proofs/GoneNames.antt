-- Walks in a tree where a directory lost a name.
use Rattle.std.proofs.Common.{◌≡◌, ◌≢◌, ◌∙◌, sym, ap, subst, refl, ℕ, List, [], ◌∷◌, ◌++◌, None, Some, Ok, Err}
use Rattle.std.specs.Prelude.{Option, Result}
use Rattle.std.specs.Option.{ok_or}
use Rattle.vol_dir.specs.Names.{Names, get}
use Rattle.vol_dir.specs.Tree.{Tree}
use Rattle.pdp_words.specs.Steps.{and_then}
use Rattle.vol_dir.specs.Walk.{search, walk_from}
use Rattle.vol_dir.specs.declared.cred.Cred.{Cred}
use Rattle.vol_dir.specs.declared.refusal.Refusal.{Refusal}
use Rattle.vol_dir.specs.declared.refusal.Refusal.TheVariants as refusals

-- the new tree is the old one, except that directory `d` has lost a name, and that a node without names may be freed
pub record LosesName (old new : Tree) (cred : Cred) (d : ℕ) (name : List ℕ) : Type 0 where
  pub searched : (x : ℕ) (names : Names) → new.nodes x ≢ None → search old cred x ≡ Ok names → (others : Names) × (search new cred x ≡ Ok others)
  pub kept : (x : ℕ) (names others : Names) (word : List ℕ) (y : ℕ) → new.nodes x ≢ None → search old cred x ≡ Ok names → search new cred x ≡ Ok others
      → get others word ≡ Some y → get names word ≡ Some y
  pub lost : (others : Names) → new.nodes d ≢ None → search new cred d ≡ Ok others → get others name ≡ None
  pub leads : (x : ℕ) (others : Names) (word : List ℕ) (y : ℕ) → search new cred x ≡ Ok others → get others word ≡ Some y → new.nodes y ≢ None

-- a walk from a node continues at the i-number that the node's map has for the first name
found_from : (tree : Tree) (cred : Cred) (x : ℕ) (names : Names) (word : List ℕ) (words : List (List ℕ)) (found : Option ℕ) → search tree cred x ≡ Ok names
    → get names word ≡ found
    → walk_from tree cred x (word ∷ words) ≡ and_then (ok_or found refusals.NoEntry) (λ y. walk_from tree cred y words)
found_from tree cred x names word words found searched is =
    ap (λ (s : Result Names Refusal). and_then (and_then s (λ ns. ok_or (get ns word) refusals.NoEntry)) (λ y. walk_from tree cred y words)) searched
    ∙ ap (λ (o : Option ℕ). and_then (ok_or o refusals.NoEntry) (λ y. walk_from tree cred y words)) is

-- a walk of at least one name that leads somewhere begins at a directory that may be searched
began_at : (tree : Tree) (cred : Cred) (x d : ℕ) (word : List ℕ) (words : List (List ℕ)) → walk_from tree cred x (word ∷ words) ≡ Ok d
    → (names : Names) × (search tree cred x ≡ Ok names)
began_at tree cred x d word words walks =
    elim (search tree cred x) as (λ (s : Result Names Refusal). search tree cred x ≡ s
    → and_then (and_then s (λ ns. ok_or (get ns word) refusals.NoEntry)) (λ y. walk_from tree cred y words) ≡ Ok d
    → (names : Names) × (search tree cred x ≡ Ok names)) [
      | Ok names ↦ λ is _. (names, is)
      | Err refusal ↦ λ _ e. cc
    ] refl walks

-- a walk that led to directory `d` and then over the name now ends with NoEntry
pub walk_gone : (old new : Tree) (cred : Cred) (d : ℕ) (name : List ℕ) (here : Names) → LosesName old new cred d name → search old cred d ≡ Ok here
    → (front : List (List ℕ)) (x : ℕ) → new.nodes x ≢ None → walk_from old cred x front ≡ Ok d
    → walk_from new cred x (front ++ name ∷ []) ≡ Err refusals.NoEntry
walk_gone old new cred d name here loses searched [] x is walks =
    let same : x ≡ d = cc in
    let there : new.nodes d ≢ None = subst (λ i. new.nodes i ≢ None) same is in
    let found = loses.searched d here there searched in
    ap (λ i. walk_from new cred i (name ∷ [])) same
    ∙ found_from new cred d found.0 name [] None found.1 (loses.lost found.0 there found.1)
walk_gone old new cred d name here loses searched (word ∷ words) x is walks =
    let names = began_at old cred x d word words walks in
    let others = loses.searched x names.0 is names.1 in
    elim (get others.0 word) as (λ (found : Option ℕ). get others.0 word ≡ found → walk_from new cred x (word ∷ (words ++ name ∷ [])) ≡ Err refusals.NoEntry) [
      | None ↦ λ e. found_from new cred x others.0 word (words ++ name ∷ []) None others.1 e
      | Some y ↦ λ e.
          let before : walk_from old cred y words ≡ Ok d =
          sym (found_from old cred x names.0 word words (Some y) names.1 (loses.kept x names.0 others.0 word y is names.1 others.1 e)) ∙ walks in
          found_from new cred x others.0 word (words ++ name ∷ []) (Some y) others.1 e
          ∙ walk_gone old new cred d name here loses searched words y (loses.leads x others.0 word y others.1 e) before
    ] refl
