-- What a manifest says of a node is the same in every image that agrees outside the lost blocks.
use Rattle.std.proofs.Common.{◌≡◌, ◌∙◌, ℕ, ◌&&◌, not, Bool, true, false, if◌then◌else◌, nat_le, List, [], ◌∷◌, None, Some, inl, inr, refl, ap, sym}
use Rattle.std.specs.Option.{option_map_or}
use Rattle.std.proofs.lemmas.Bool.{and_parts, cases_Bool, leb-true, true≢false}
use Rattle.vol_dir.specs.Tree.{Node, is_number, node_of, tree}
use Rattle.vol_layout.specs.Geometry.{Fits}
use Rattle.vol_layout.specs.Inode.{kind_of}
use Rattle.vol_layout.specs.declared.geometry.Geometry.{Geometry}
use Rattle.vol_layout.proofs.InodeLaws.{KeepsInode, inode_of_kept, mode_kept}
use Rattle.vol_losses.specs.Losses.{AgreesOutside, is_whole}
use Rattle.vol_losses.proofs.Agreement.{node_agrees}
use Rattle.vol_losses.proofs.LostPaths.{no_marks}
use Rattle.vol_losses.proofs.SureFlags.{whole_is, whole_unless}
use Rattle.vol_losses.proofs.SureNames.{nodes_same}
use Rattle.vol_listing.specs.KnownSums.{KnownSumsAreRight, RowsAreRight, is_damaged}
use Rattle.vol_listing.specs.Sums.{sum_at, sum_of}
use Rattle.vol_listing.proofs.NodesRead.{row_by, row_is, row_outside}

-- a number that is no i-number of the volume has no node in any image
outside_same : (g : Geometry) (old new : List ℕ) (i : ℕ) → is_number g i ≡ false → (tree g new).nodes i ≡ (tree g old).nodes i
unfolding tree
outside_same g old new i out =
    ap (λ t. if t then node_of g new i else None) out ∙ sym (ap (λ t. if t then node_of g old i else None) out)

-- a node that isn't damaged is the same
whole_same : (g : Geometry) (lost : List Bool) (old new : List ℕ) (i : ℕ) → Fits g old → AgreesOutside g lost old new → is_damaged g old lost i ≡ false
    → (tree g new).nodes i ≡ (tree g old).nodes i
whole_same g [] old new i fits agrees sound = nodes_same g [] old new i fits agrees (whole_is g old [] i (whole_unless g old [] i (no_marks [] refl)))
whole_same g (mark ∷ lost) old new i fits agrees sound = by (is_number g i) (is_whole g old (mark ∷ lost) i) refl refl sound
  where
    by : (n w : Bool) → is_number g i ≡ n → is_whole g old (mark ∷ lost) i ≡ w → (n && not w) ≡ false → (tree g new).nodes i ≡ (tree g old).nodes i
    by false w out is e = outside_same g old new i out
    by true true inside is e = nodes_same g (mark ∷ lost) old new i fits agrees (whole_is g old (mark ∷ lost) i is)
    by true false inside is e = absurd (true≢false e)

sum_same : (g : Geometry) (old new : List ℕ) (i : ℕ) → (tree g new).nodes i ≡ (tree g old).nodes i → sum_at (tree g new) i ≡ sum_at (tree g old) i
unfolding sum_at
sum_same g old new i same = ap (λ n. option_map_or (λ (node : Node). sum_of node.content) n None) same

-- each sum is right
pub sums_right : KnownSumsAreRight
sums_right g lost old new i sum fits agrees is =
    elim (is_damaged g old lost i) as (λ b. is_damaged g old lost i ≡ b → (if b then None else sum_at (tree g old) i) ≡ Some sum → sum_at (tree g new) i ≡ Some sum) [
      | true ↦ λ damaged e. absurd (cc)
      | false ↦ λ sound e. sum_same g old new i (whole_same g lost old new i fits agrees sound) ∙ e
    ] refl is

-- the attributes of each i-node whose block isn't lost are right
pub rows_right : RowsAreRight
rows_right g lost old new i fits agrees node = elim (cases_Bool (is_number g i)) [
  | inr out ↦ sym (row_outside g new i out) ∙ row_outside g old i out
  | inl number ↦
      let parts = and_parts (nat_le 1 i) (nat_le i g.last_inode) number in
      let kept : KeepsInode g old new i = node_agrees g lost old new i fits (leb-true 1 i parts.0) (leb-true i g.last_inode parts.1) agrees node in
      row_is g new i number
      ∙ ((λ k. row_by i (kind_of g.edition (mode_kept g old new i kept k)) (inode_of_kept g old new i kept k) (mode_kept g old new i kept k))
      ∙ sym (row_is g old i number))
]
