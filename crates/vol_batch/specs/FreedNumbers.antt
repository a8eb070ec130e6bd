-- The i-numbers and blocks that removing a tree frees.
use Rattle.std.specs.Prelude.{◌≡◌, ℕ, ◌≤◌, ◌==◌, Bool, false, nat_le, if◌then◌else◌, List, Option, None, Some, is_none, Result, Ok, Err}
use Rattle.std.specs.List.{count_by}
use Rattle.vol_layout.specs.BlockPointers.{NamesBlock}
use Rattle.vol_layout.specs.declared.geometry.Geometry.{Geometry}
use Rattle.vol_free.specs.Stack.{IsFree, IsIn}
use Rattle.vol_dir.specs.Tree.{Node, Tree, tree}
use Rattle.vol_dir.specs.Walk.{root, is_directory, walk}
use Rattle.vol_dir.specs.declared.refusal.Refusal.{Refusal}
use Rattle.vol_volume.specs.declared.calls.Call.{Call}
use Rattle.vol_volume.specs.declared.calls.Call.TheVariants.{Unlink, Rmdir}

-- the number of names that a node has besides `.` and `..`: one for a directory, and the link count for other nodes (dcheck)
abbrev pub own_names : Option Node → ℕ
own_names None = 0
own_names (Some node) = if is_directory node then 1 else node.links

-- true if a walk leads to i-number `i` (this project)
abbrev pub led_to : ℕ → Result ℕ Refusal → Bool
led_to i (Ok j) = i == j
led_to i (Err refusal) = false

-- true if a call removes a name of an i-number, determined by where its path leads in a tree (Lions on unlink; rmdir)
abbrev pub takes_name : Tree → ℕ → Call → Bool
takes_name tree i (Unlink cred now path) = led_to i (walk tree cred path)
takes_name tree i (Rmdir cred now path) = led_to i (walk tree cred path)
takes_name tree i _ = false

-- after the calls, an i-number at or above the root's is free if and only if the calls removed all names that its node had (Lions on iput; rmdir)
abbrev pub FreesNumbers : Tree → List Call → Tree → Type 0
FreesNumbers old calls new = (i : ℕ) → root old ≤ i
    → is_none (new.nodes i) ≡ nat_le (own_names (old.nodes i)) (count_by (takes_name old i) calls)

-- a block is in the free list (icheck)
pub record IsFreeBlock (geometry : Geometry) (image : List ℕ) (k : ℕ) : Type 0 where
  pub blocks : List ℕ
  pub free : IsFree geometry image blocks
  pub among : IsIn k blocks

-- each block that belonged to a file is free afterwards if the file's i-number is (Lions on itrunc)
abbrev pub FreesBlocks : Geometry → List ℕ → List ℕ → Type 0
FreesBlocks geometry old new = (i k : ℕ) (p : List ℕ) → NamesBlock geometry old i p k → (tree geometry new).nodes i ≡ None → IsFreeBlock geometry new k
