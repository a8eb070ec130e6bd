-- The graph of directories after one file is changed.
use Rattle.std.proofs.Common.{◌≡◌, ◌≢◌, ◌∙◌, sym, ap, ℕ, ◌≤◌, List, inl, inr, Bool, true, false, true≢false}
use Rattle.std.proofs.lemmas.Bool.{cases_eq}
use Rattle.vol_layout.specs.Geometry.{Fits}
use Rattle.vol_layout.specs.declared.geometry.Geometry.{Geometry}
use Rattle.vol_layout.specs.declared.mode.Kind.{Kind}
use Rattle.vol_layout.specs.declared.mode.Kind.TheVariants as kinds
use Rattle.vol_layout.proofs.InodeLaws.{mode_kept}
use Rattle.vol_layout.specs.Inode.{kind_of}
use Rattle.vol_file.specs.Changes.{ChangesFileAlone}
use Rattle.vol_file.specs.Rules.{kind_at}
use Rattle.vol_file.proofs.StoredNames.{links_kept}
use Rattle.vol_dir.specs.Entries.{IsDirectory}
use Rattle.vol_judge.specs.Graph.{graph_of}
use Rattle.vol_judge.specs.GraphEdits.{IsSameGraph}
use Rattle.vol_judge.proofs.EditedGraphs.{same_graph, kind_kept, entry_kept}
use Rattle.vol_judge.proofs.ImageGraphs.{inside_from, directory_from}
use Rattle.vol_change.specs.Beside.{StaysBeside}
use Rattle.vol_change.specs.Alone.{KeepsContent}
use Rattle.vol_change.proofs.OneNode.{alone_inode, entry_stays, only_file}

-- if the kind of file i doesn't change, no kind does
kinds_stay : (geometry : Geometry) (old new : List ℕ) (i x : ℕ) → Fits geometry old → ChangesFileAlone geometry old new i → 1 ≤ i
    → kind_at geometry new i ≡ kind_at geometry old i → 1 ≤ x → x ≤ geometry.last_inode → kind_at geometry new x ≡ kind_at geometry old x
kinds_stay geometry old new i x fits alone one kind first last = elim (cases_eq x i) [
  | inl e ↦ rw e kind
  | inr other ↦ ap (kind_of geometry.edition) (mode_kept geometry old new x (alone_inode geometry old new i x fits alone one first last other))
]

-- the content of each directory other than i doesn't change
content_stays : (geometry : Geometry) (old new : List ℕ) (i x : ℕ) → Fits geometry old → ChangesFileAlone geometry old new i → 1 ≤ i
    → x ≢ i → IsDirectory geometry old x → KeepsContent geometry old new x
content_stays geometry old new i x fits alone one other is = ((only_file geometry old new i fits alone one).others x is.first is.last other).content

-- true for the kind of regular files
abbrev is_regular : Kind → Bool
is_regular kinds.Regular = true
is_regular kinds.Directory = false
is_regular kinds.Free = false
is_regular kinds.Special = false
is_regular kinds.Odd = false

-- a regular file isn't a directory
not_regular : (geometry : Geometry) (image : List ℕ) (i x : ℕ) → kind_at geometry image i ≡ kinds.Regular → IsDirectory geometry image x → x ≢ i
not_regular geometry image i x regular is same =
    let both : kinds.Regular ≡ kinds.Directory = sym regular ∙ (ap (kind_at geometry image) (sym same) ∙ is.kind) in
    true≢false (ap is_regular both)

-- if a regular file is changed and keeps its kind, the graph doesn't change
pub regular_graph : (geometry : Geometry) (old new : List ℕ) (i : ℕ) → Fits geometry old → ChangesFileAlone geometry old new i → 1 ≤ i
    → kind_at geometry old i ≡ kinds.Regular → kind_at geometry new i ≡ kind_at geometry old i
    → IsSameGraph (graph_of geometry old) (graph_of geometry new)
regular_graph geometry old new i fits alone one regular kind =
    same_graph geometry old new (λ x first last. kinds_stay geometry old new i x fits alone one kind first last)
    (λ x first last. links_kept geometry old new i x fits alone.elsewhere one first last)
    (λ x is. (content_stays geometry old new i x fits alone one (not_regular geometry old i x regular is) is).size)
    (λ x s is. entry_stays geometry old new x s (content_stays geometry old new i x fits alone one (not_regular geometry old i x regular is) is) is)

-- if directory d is changed and keeps its kind, only its size and entries change in the graph
pub directory_beside : (geometry : Geometry) (old new : List ℕ) (d : ℕ) → Fits geometry old → ChangesFileAlone geometry old new d → 1 ≤ d
    → kind_at geometry new d ≡ kind_at geometry old d → StaysBeside (graph_of geometry old) (graph_of geometry new) d
directory_beside geometry old new d fits alone one kind = record {
  kind = λ x. kind_kept geometry old new x (λ first last. kinds_stay geometry old new d x fits alone one kind first last);
  links = λ x used.
      let inside = inside_from geometry old x used in
      links_kept geometry old new d x fits alone.elsewhere one inside.0 inside.1;
  size = λ x other is. (content_stays geometry old new d x fits alone one other (directory_from geometry old x is)).size;
  entry = λ x s other.
      entry_kept geometry old new x s (kind_kept geometry old new x (λ first last. kinds_stay geometry old new d x fits alone one kind first last))
      (λ is. entry_stays geometry old new x s (content_stays geometry old new d x fits alone one other is) is);
}
