-- The effects of changing one node on the graph of directories.
use Rattle.std.specs.Prelude.{◌≡◌, ◌≢◌, ℕ, None}
use Rattle.vol_judge.specs.Graph.{Graph}
use Rattle.vol_judge.specs.GraphEdits.{KeepsOthers}
use Rattle.vol_layout.specs.declared.mode.Kind.{Kind}
use Rattle.vol_layout.specs.declared.mode.Kind.TheVariants as kinds

-- i-number i gets the link count `count`, and the rest of the graph is unchanged (Lions on link, unlink)
pub record SetsLinks (old new : Graph) (i count : ℕ) : Type 0 where
  pub kind : (x : ℕ) → new.kind x ≡ old.kind x
  pub size : (d : ℕ) → old.kind d ≡ kinds.Directory → new.size d ≡ old.size d
  pub entry : (d s : ℕ) → new.entry d s ≡ old.entry d s
  pub links : new.links i ≡ count
  pub kept : (x : ℕ) → x ≢ i → old.kind x ≢ kinds.Free → new.links x ≡ old.links x

-- i-number i, which was free, gets the kind `made`, the link count `count` and no content; the rest of the graph is unchanged (Lions on maknode)
pub record AddsNode (old new : Graph) (i : ℕ) (made : Kind) (count : ℕ) : Type 0 where
  pub others : KeepsOthers old new i i
  pub was : old.kind i ≡ kinds.Free
  pub kind : new.kind i ≡ made
  pub links : new.links i ≡ count
  pub size : new.size i ≡ 0
  pub empty : (s : ℕ) → new.entry i s ≡ None
  pub kept : (x : ℕ) → x ≢ i → old.kind x ≢ kinds.Free → new.links x ≡ old.links x

-- i-number i becomes free; the rest of the graph is unchanged (Lions on iput)
pub record DropsNode (old new : Graph) (i : ℕ) : Type 0 where
  pub others : KeepsOthers old new i i
  pub kind : new.kind i ≡ kinds.Free
  pub kept : (x : ℕ) → x ≢ i → old.kind x ≢ kinds.Free → new.links x ≡ old.links x
