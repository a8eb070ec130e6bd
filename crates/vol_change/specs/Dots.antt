-- A new directory, before and after `.` and `..` are added.
use Rattle.std.specs.Prelude.{◌≡◌, ℕ, ◌≤◌, None, Some}
use Rattle.vol_dir.specs.Names.{Names, dot, dot_dot}
use Rattle.vol_dir.specs.Tree.{Directory, Node, Shape, State}
use Rattle.vol_judge.specs.Graph.{Graph}
use Rattle.vol_change.specs.Beside.{StaysBeside}

-- node i is a directory with these entries, this size in bytes and this shape (manual section 5, directories)
pub record HoldsNames (state : State) (i : ℕ) (entries : Names) (bytes : ℕ) (places : Shape) : Type 0 where
  pub node : Node
  pub is : state.tree.nodes i ≡ Some node
  pub content : node.content ≡ Directory entries
  pub size : node.size ≡ bytes
  pub shape : state.shapes i ≡ places

-- directory i gets `.` and `..` in its first two slots, and has no other entries (mkdir)
pub record AddsDots (old new : Graph) (i d : ℕ) : Type 0 where
  pub beside : StaysBeside old new i
  pub size : new.size i ≡ 32
  pub itself : new.entry i 0 ≡ Some (dot, i)
  pub parent : new.entry i 1 ≡ Some (dot_dot, d)
  pub rest : (t : ℕ) → 2 ≤ t → new.entry i t ≡ None
