-- The state of an image before and after a call.
use Rattle.std.specs.Prelude.{◌≡◌, ℕ, ◌≤◌, List, None}
use Rattle.vol_layout.specs.Edition.{constants}
use Rattle.vol_layout.specs.Geometry.{Fits, geometry_of}
use Rattle.vol_dir.specs.Names.{get}
use Rattle.vol_dir.specs.Tree.{State, state, free_count}
use Rattle.vol_judge.specs.Sound.{IsSound}
use Rattle.vol_change.specs.Nodes.{names_at, size_with_entry}
use Rattle.vol_change.specs.Shapes.{need_in, entry_blocks}
use Rattle.vol_change.specs.Whole.{StaysAround}
use Rattle.vol_layout.specs.declared.geometry.Geometry.{Geometry}

-- the image is sound, and `geometry` is its geometry (icheck, dcheck)
pub record Rules1To12 (geometry : Geometry) (image : List ℕ) : Type 0 where
  pub fits : Fits geometry image
  pub sizes : geometry ≡ geometry_of geometry.edition image
  pub sound : IsSound geometry.edition image

-- directory d doesn't have the name yet, and another entry wouldn't make it too large (Lions on wdir)
pub record TakesName (state : State) (d : ℕ) (name : List ℕ) : Type 0 where
  pub fresh : get (names_at state.tree d) name ≡ None
  pub greatest : size_with_entry state d ≤ (constants state.tree.geometry.edition).greatest

-- the number of blocks that another entry in directory d needs (Lions on bmap)
abbrev pub entry_need : State → ℕ → ℕ
entry_need state d = need_in state.tree.geometry.edition (state.shapes d) (entry_blocks (state.shapes d))

-- the number of free blocks (icheck)
abbrev pub free_in : State → ℕ
free_in state = free_count state.tree.geometry state.shapes

-- the image now reads as the state `made`, is still sound, and keeps the bytes that no call changes (this project)
pub record Becomes (geometry : Geometry) (old new : List ℕ) (made : State) : Type 0 where
  pub ready : Rules1To12 geometry new
  pub around : StaysAround geometry old new
  pub makes : state geometry new ≡ made
