-- Rule 12 in terms of the number of entries for each i-number.
use Rattle.std.proofs.Common.{◌≡◌, ℕ, ◌+◌, ◌<◌, ◌≤◌, ◌∙◌, sym, subst, inl, inr, List, arith, get_or}
use Rattle.std.proofs.lemmas.Bool.{cases_eq}
use Rattle.vol_layout.specs.declared.geometry.Geometry.{Geometry}
use Rattle.vol_file.proofs.StoredNames.{root_first}
use Rattle.vol_judge.specs.EntryCounts.{HasCounts, IsCounted}
use Rattle.vol_judge.specs.Directories.{entry_count, HasLinks}

module _ (g : Geometry) (image counts : List ℕ) (all : HasCounts g image counts) where
  -- if the link count of each i-node is right, rule 12 holds
  pub links_hold : (n : ℕ) → g.last_inode < n → ((j : ℕ) → 1 ≤ j → j < n → IsCounted g image j (entry_count g image j)) → HasLinks g image
  links_hold n after each = record {
    counts = λ i first last some. (each i first (omega arith) some).0;
    linked = λ i root last some. (each i (omega (arith, root_first g.edition, root)) (omega arith) some).1 root;
  }

  -- if rule 12 holds, the link count of each i-node is right
  pub links_each : HasLinks g image → (i : ℕ) → 1 ≤ i → i ≤ g.last_inode → IsCounted g image i (entry_count g image i)
  links_each rule i first last = λ some. (rule.counts i first last some, λ root. rule.linked i root last some)

  -- if the link count of i-node i agrees with its collected count, it agrees with its number of entries
  pub counted : (i : ℕ) → i ≤ g.last_inode → (n : ℕ) → n ≡ get_or counts i 0 → IsCounted g image i n → IsCounted g image i (entry_count g image i)
  counted i last n is here = subst (IsCounted g image i) (is ∙ all.count i last) here

  pub uncounted : (i : ℕ) → i ≤ g.last_inode → (n : ℕ) → n ≡ get_or counts i 0 → (IsCounted g image i n → ⊥) → IsCounted g image i (entry_count g image i) → ⊥
  uncounted i last n is wrong here = wrong (subst (IsCounted g image i) (sym (is ∙ all.count i last)) here)

  -- if the link counts of the i-nodes before n and of n are right, those up to n are right
  pub links_more : (n : ℕ) → ((j : ℕ) → 1 ≤ j → j < n → IsCounted g image j (entry_count g image j)) → IsCounted g image n (entry_count g image n)
      → (j : ℕ) → 1 ≤ j → j < n + 1 → IsCounted g image j (entry_count g image j)
  links_more n before here j first low = elim (cases_eq n j) [
    | inl same ↦ subst (λ x. IsCounted g image x (entry_count g image x)) same here
    | inr other ↦ before j first (omega arith)
  ]
