-- Descending into directories.
use Rattle.std.proofs.Common.{◌≡◌, List, [], ◌∷◌, ◌++◌, ap, sym, ◌∙◌, subst}
use Rattle.std.specs.Prelude.{reverse}
use Rattle.std.proofs.lemmas.List.{reverse-append, append-nil, append_assoc}
use Rattle.vol_dir.specs.Tree.{Tree}
use Rattle.vol_listing.specs.Places.{below, Descends, AllBelow}
use Rattle.vol_listing.specs.declared.places.ListedNode.{ListedNode}

module _ (tree : Tree) where
  -- at the beginning, descending into the pending directories finds all directories
  pub descent_begins : (start : ListedNode) (none places pending rest : List ListedNode) → none ≡ [] → places ≡ []
      → reverse pending ≡ below tree start ++ reverse none → Descends tree (reverse pending) rest → AllBelow tree start (places ++ rest)
  descent_begins start none places pending rest empty nothing is onward =
      let first : reverse pending ≡ below tree start = is ∙ (ap (λ (ps : List ListedNode). below tree start ++ reverse ps) empty ∙ append-nil (below tree start)) in
      subst (λ (ps : List ListedNode). Descends tree (below tree start) (ps ++ rest)) (sym nothing)
      (subst (λ (ps : List ListedNode). Descends tree ps rest) first onward)

  -- if the next pending directory is visited and its subdirectories are pushed, descending finds it, followed by the rest
  pub descent_on : (place : ListedNode) (pending left next rest : List ListedNode) → pending ≡ left ++ place ∷ [] → reverse next ≡ below tree place ++ reverse left → Descends tree (reverse next) rest → Descends tree (reverse pending) (place ∷ rest)
  descent_on place pending left next rest popped on onward =
      subst (λ (ps : List ListedNode). Descends tree ps (place ∷ rest)) (sym (ap reverse popped ∙ reverse-append left (place ∷ [])))
      (Descends.goes place (reverse left) rest (subst (λ (ps : List ListedNode). Descends tree ps rest) on onward))

  -- if descending finds a directory after those so far, it is the next of all directories
  pub descent_more : (start place : ListedNode) (places more rest : List ListedNode) → more ≡ places ++ place ∷ [] → AllBelow tree start (places ++ place ∷ rest)
      → AllBelow tree start (more ++ rest)
  descent_more start place places more rest pushed all =
      subst (AllBelow tree start) (sym (ap (λ (ps : List ListedNode). ps ++ rest) pushed ∙ append_assoc places (place ∷ []) rest)) all

  -- if nothing is pending, the directories so far are all directories
  pub descent_ends : (start : ListedNode) (places pending : List ListedNode) → pending ≡ []
      → ((rest : List ListedNode) → Descends tree (reverse pending) rest → AllBelow tree start (places ++ rest)) → AllBelow tree start places
  descent_ends start places pending none onward =
      subst (AllBelow tree start) (append-nil places) (onward [] (subst (λ (ps : List ListedNode). Descends tree (reverse ps) []) (sym none) Descends.ends))
