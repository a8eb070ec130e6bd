-- A volume in which a directory is created.
use Rattle.std.proofs.Common.{◌≡◌, ◌≢◌, ◌∙◌, sym, ap, subst, ℕ, ◌+◌, ◌-◌, ◌<◌, ◌≤◌, List, [], Some, arith}
use Rattle.vol_layout.specs.Edition.{constants}
use Rattle.vol_layout.specs.Inode.{inode_of}
use Rattle.vol_layout.specs.declared.geometry.Geometry.{Geometry}
use Rattle.vol_file.specs.Rules.{HasKinds}
use Rattle.vol_dir.specs.Entries.{IsDirectory}
use Rattle.vol_dir.specs.Names.{dot, dot_dot}
use Rattle.vol_dir.specs.Tree.{State, no_shape, state, tree}
use Rattle.vol_dir.specs.declared.cred.Cred.{Cred}
use Rattle.vol_judge.specs.Graph.{graph_of}
use Rattle.vol_judge.proofs.GraphParts.{not_free}
use Rattle.vol_change.specs.Contents.{put_entry}
use Rattle.vol_change.specs.Edits.{add_entry, add_link}
use Rattle.vol_change.specs.Nodes.{node_at}
use Rattle.vol_change.specs.Dots.{HoldsNames}
use Rattle.vol_change.specs.Effects.{after_mkdir}
use Rattle.vol_change.specs.Ready.{entry_need, free_in}
use Rattle.vol_change.proofs.DotStates.{bare_directory, bare_empty, dots_made}
use Rattle.vol_change.proofs.FreeAfter.{entry_takes}
use Rattle.vol_change.proofs.NodeEdits.{edit}
use Rattle.vol_change.proofs.NodeLinks.{links_is}

-- if there is one free block more than the new entry needs, one is left after the entry is added
pub room_entered : (state : State) (now d i : ℕ) (name : List ℕ) → 1 ≤ d → d ≤ state.tree.geometry.last_inode
    → entry_need state d + 1 ≤ free_in state → 1 ≤ free_in (add_entry now d name i state)
room_entered state now d i name first last room =
    let left : free_in (add_entry now d name i state) ≡ free_in state - entry_need state d =
    entry_takes state.tree.geometry state.shapes d name first last in
    omega (arith, left, room)

-- the new directory is empty after its parent has an entry for it
pub made_empty : (geometry : Geometry) (old bare named : List ℕ) (cred : Cred) (now perm made d : ℕ) (name : List ℕ) → made ≢ d
    → state geometry bare ≡ edit made (Some (bare_directory geometry.edition cred now perm)) no_shape (state geometry old)
    → state geometry named ≡ add_entry now d name made (state geometry bare) → HoldsNames (state geometry named) made [] 0 no_shape
made_empty geometry old bare named cred now perm made d name apart makes enters =
    subst (λ s. HoldsNames s made [] 0 no_shape) (sym (enters ∙ ap (add_entry now d name made) makes))
    (bare_empty (state geometry old) cred geometry.edition now perm made d name apart)

-- creating a directory makes the state `after_mkdir`
pub directory_makes : (geometry : Geometry) (old bare named dotted new : List ℕ) (cred : Cred) (now perm made d : ℕ) (name : List ℕ) → made ≢ d
    → state geometry bare ≡ edit made (Some (bare_directory geometry.edition cred now perm)) no_shape (state geometry old)
    → state geometry named ≡ add_entry now d name made (state geometry bare)
    → state geometry dotted ≡ put_entry made dot_dot d (put_entry made dot made (state geometry named))
    → state geometry new ≡ add_link now d (state geometry dotted) → state geometry new ≡ after_mkdir (state geometry old) cred now perm made d name
unfolding tree
directory_makes geometry old bare named dotted new cred now perm made d name apart makes enters dots links =
    links
    ∙ ap (add_link now d)
    (dots
    ∙ (ap (λ s. put_entry made dot_dot d (put_entry made dot made s)) (enters ∙ ap (add_entry now d name made) makes)
    ∙ dots_made (state geometry old) cred now perm made d name apart))

-- if the link count that the state has for d is below the limit, so is the one in the image
pub links_room : (geometry : Geometry) (old new : List ℕ) (d : ℕ) → HasKinds geometry old → IsDirectory geometry old d
    → (graph_of geometry new).links d ≡ (graph_of geometry old).links d
    → (node_at (state geometry old).tree d).links < (constants geometry.edition).link_limit
    → (inode_of geometry.edition new d).links < (constants geometry.edition).link_limit
links_room geometry old new d has is same room =
    let links = links_is geometry old d has is.first is.last (not_free _ is.kind) in
    subst (λ n. n < (constants geometry.edition).link_limit) (sym (same ∙ sym links)) room
