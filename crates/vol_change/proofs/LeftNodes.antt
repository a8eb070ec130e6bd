-- The image after a name is removed, and the named node too if it was its last name.
use Rattle.std.proofs.Common.{◌≡◌, ◌≢◌, ◌∙◌, sym, ap, subst, ℕ, ◌-◌, ◌<◌, ◌≤◌, nat_le, if◌then◌else◌, not, true, false, refl, List, None, Some, arith}
use Rattle.std.specs.List.{list_any}
use Rattle.std.specs.Option.{option_map, unwrap_or}
use Rattle.std.proofs.lemmas.Bool.Decides.{nat_tests}
use Rattle.vol_layout.specs.Inode.{inode_of}
use Rattle.vol_layout.specs.declared.geometry.Geometry.{Geometry}
use Rattle.vol_layout.specs.declared.mode.Kind.TheVariants as kinds
use Rattle.vol_file.specs.Rules.{kind_at}
use Rattle.vol_dir.specs.Entries.{IsDirectory, slots}
use Rattle.vol_dir.specs.Names.{get, names_of, is_dots}
use Rattle.vol_dir.specs.Search.{slot_named}
use Rattle.vol_dir.specs.Tree.{State, tree, state}
use Rattle.vol_judge.specs.Directories.{root_of}
use Rattle.vol_judge.specs.Graph.{graph_of}
use Rattle.vol_judge.specs.GraphEdits.{ChangesSlot}
use Rattle.vol_judge.proofs.DroppedGraphs.{dropped_name_sound, dropped_file_sound}
use Rattle.vol_judge.proofs.EmptiedGraphs.{dropped_directory_sound}
use Rattle.vol_judge.proofs.ImageGraphs.{graph_within, kind_inside, used_to, directory_to}
use Rattle.vol_change.specs.Beside.{StaysBeside}
use Rattle.vol_change.specs.Edits.{release, remove_node, remove_entry, drop_link}
use Rattle.vol_change.specs.NodeGraphs.{SetsLinks, DropsNode}
use Rattle.vol_change.specs.Nodes.{node_at, names_at, number_of_name}
use Rattle.vol_change.specs.Whole.{Keeps}
use Rattle.vol_change.proofs.WholeLaws.{keeps_then}
use Rattle.vol_change.specs.Effects.{after_unlink, after_rmdir}
use Rattle.vol_change.specs.Ready.{Rules1To12}
use Rattle.vol_change.proofs.CallSteps.{HasMade}
use Rattle.vol_change.proofs.EntryNodes.{name_found, named_used, used_first, dots_only, directory_linked}
use Rattle.vol_change.proofs.LeftGraphs.{LeavesSlot, other_directory, left_name, left_file, left_directory}
use Rattle.vol_change.proofs.NodeLinks.{links_is}
use Rattle.vol_change.proofs.ReadyLaws.{ready_graph}

-- the entry with this name for i-number i is removed from directory d of a sound image
pub record LeavesEntry (geometry : Geometry) (old mid : List ℕ) (d i : ℕ) (name : List ℕ) (now : ℕ) : Type 0 where
  pub ready : Rules1To12 geometry old
  pub directory : IsDirectory geometry old d
  pub named : get (names_at (tree geometry old) d) name ≡ Some i
  pub keeps : Keeps geometry old mid
  pub makes : state geometry mid ≡ remove_entry now d name (state geometry old)
  pub slot : ChangesSlot (graph_of geometry old) (graph_of geometry mid) d (slot_named name (slots geometry old d))
      (option_map (λ (j : ℕ). (name, j)) (get (names_of (slots geometry old d)) name)) None
  pub beside : StaysBeside (graph_of geometry old) (graph_of geometry mid) d

-- the entry is removed from the graph
leaves_slot : (geometry : Geometry) (old mid : List ℕ) (d i : ℕ) (name : List ℕ) (now : ℕ) → LeavesEntry geometry old mid d i name now
    → LeavesSlot (graph_of geometry old) (graph_of geometry mid) i d (slot_named name (slots geometry old d)) name
leaves_slot geometry old mid d i name now leaves = record {
  slot = subst (λ before. ChangesSlot (graph_of geometry old) (graph_of geometry mid) d (slot_named name (slots geometry old d)) before None)
      (ap (option_map (λ (j : ℕ). (name, j))) (name_found geometry old name d i leaves.directory leaves.named)) leaves.slot;
  beside = leaves.beside;
}

-- a directory with only `.` and `..` isn't the directory from which its entry is removed
pub left_apart : (geometry : Geometry) (old mid : List ℕ) (d i : ℕ) (name : List ℕ) (now : ℕ) → LeavesEntry geometry old mid d i name now
    → is_dots name ≡ false → IsDirectory geometry old i
    → list_any (λ (entry : List ℕ × ℕ). not (is_dots entry.0)) (names_at (tree geometry old) i) ≡ false → d ≢ i
left_apart geometry old mid d i name now leaves plain is only =
    other_directory (graph_of geometry old) (graph_of geometry mid) i d (slot_named name (slots geometry old d)) name
    (leaves_slot geometry old mid d i name now leaves) plain (λ t j word some. dots_only geometry old word i t j is only some)

-- the kind of each i-number doesn't change
kind_beside : (geometry : Geometry) (old mid : List ℕ) (d x : ℕ) → StaysBeside (graph_of geometry old) (graph_of geometry mid) d → 1 ≤ x
    → x ≤ geometry.last_inode → kind_at geometry mid x ≡ kind_at geometry old x
kind_beside geometry old mid d x beside first last =
    sym (kind_inside geometry mid x first last) ∙ (beside.kind x ∙ kind_inside geometry old x first last)

-- the named node is still in use
pub left_used : (geometry : Geometry) (old mid : List ℕ) (d i : ℕ) (name : List ℕ) (now : ℕ) → LeavesEntry geometry old mid d i name now
    → kind_at geometry mid i ≢ kinds.Free
left_used geometry old mid d i name now leaves free =
    let used = named_used geometry old name d i leaves.ready leaves.directory leaves.named in
    used.allocated (sym (kind_beside geometry old mid d i leaves.beside (used_first geometry old i used) used.last) ∙ free)

-- the named node is still in use in the graph
used_graph : (geometry : Geometry) (old mid : List ℕ) (d i : ℕ) (name : List ℕ) (now : ℕ) → LeavesEntry geometry old mid d i name now
    → (graph_of geometry old).kind i ≢ kinds.Free
used_graph geometry old mid d i name now leaves =
    let used = named_used geometry old name d i leaves.ready leaves.directory leaves.named in
    used_to geometry old i used.first used.last used.allocated

-- the link count of the named node doesn't change
pub left_same : (geometry : Geometry) (old mid : List ℕ) (d i : ℕ) (name : List ℕ) (now : ℕ) → LeavesEntry geometry old mid d i name now
    → (inode_of geometry.edition mid i).links ≡ (inode_of geometry.edition old i).links
left_same geometry old mid d i name now leaves = leaves.beside.links i (used_graph geometry old mid d i name now leaves)

-- a node that isn't a directory in the image isn't one in the graph
other_graph : (geometry : Geometry) (old mid : List ℕ) (d i : ℕ) (name : List ℕ) (now : ℕ) → LeavesEntry geometry old mid d i name now
    → kind_at geometry old i ≢ kinds.Directory → (graph_of geometry old).kind i ≢ kinds.Directory
other_graph geometry old mid d i name now leaves other is =
    let used = named_used geometry old name d i leaves.ready leaves.directory leaves.named in
    other (sym (kind_inside geometry old i (used_first geometry old i used) used.last) ∙ is)

-- directory d still has at least one link
pub left_linked : (geometry : Geometry) (old mid : List ℕ) (d i : ℕ) (name : List ℕ) (now : ℕ) → LeavesEntry geometry old mid d i name now
    → 1 ≤ (inode_of geometry.edition mid d).links
left_linked geometry old mid d i name now leaves =
    let is = leaves.directory in
    let links = directory_linked geometry old d leaves.ready is in
    let same : (inode_of geometry.edition mid d).links ≡ (inode_of geometry.edition old d).links =
    leaves.beside.links d (λ free. let clash : kinds.Directory ≡ kinds.Free = sym (directory_to geometry old d is) ∙ free in cc) in
    omega (arith, links, same)

-- releasing a node with at most one link removes it
release_last : (state : State) (now i : ℕ) → (node_at state.tree i).links ≤ 1 → remove_node i state ≡ release now i state
release_last state now i last =
    let test : nat_le (node_at state.tree i).links 1 ≡ true = grind (arith, nat_tests) in
    sym (ap (λ t. if t then remove_node i state else drop_link now i state) test)

-- releasing a node with more links drops one of them
release_one : (state : State) (now i : ℕ) → 1 < (node_at state.tree i).links → drop_link now i state ≡ release now i state
release_one state now i most =
    let test : nat_le (node_at state.tree i).links 1 ≡ false = grind (arith, nat_tests) in
    sym (ap (λ t. if t then remove_node i state else drop_link now i state) test)

-- the state's link count of the named node is that of its i-node
left_links : (geometry : Geometry) (old mid : List ℕ) (d i : ℕ) (name : List ℕ) (now : ℕ) → LeavesEntry geometry old mid d i name now
    → (node_at (tree geometry mid) i).links ≡ (inode_of geometry.edition mid i).links
left_links geometry old mid d i name now leaves =
    let used = named_used geometry old name d i leaves.ready leaves.directory leaves.named in
    links_is geometry mid i leaves.keeps.rules.sound.kinds (used_first geometry old i used) used.last (left_used geometry old mid d i name now leaves)

-- releasing the named node after its entry is removed is `after_unlink`
released : (geometry : Geometry) (old mid : List ℕ) (d i : ℕ) (name : List ℕ) (now : ℕ) → LeavesEntry geometry old mid d i name now
    → release now i (state geometry mid) ≡ after_unlink (state geometry old) now d name
released geometry old mid d i name now leaves =
    let entry : number_of_name (tree geometry old) d name ≡ i = ap (λ o. unwrap_or o 0) leaves.named in
    ap (λ s. release now i s) leaves.makes ∙ ap (λ j. release now j (remove_entry now d name (state geometry old))) (sym entry)

-- removing a name of a node that has another makes the state `after_unlink`
pub made_unnamed : (geometry : Geometry) (old mid new : List ℕ) (d i : ℕ) (name : List ℕ) (now : ℕ) → LeavesEntry geometry old mid d i name now
    → kind_at geometry old i ≢ kinds.Directory → 1 < (inode_of geometry.edition mid i).links → Keeps geometry mid new
    → state geometry new ≡ drop_link now i (state geometry mid)
    → SetsLinks (graph_of geometry mid) (graph_of geometry new) i ((inode_of geometry.edition mid i).links - 1)
    → HasMade geometry old new (after_unlink (state geometry old) now d name)
made_unnamed geometry old mid new d i name now leaves other most keeps makes sets =
    let links = left_links geometry old mid d i name now leaves in
    let drops =
    left_name (graph_of geometry old) (graph_of geometry mid) (graph_of geometry new) i d (slot_named name (slots geometry old d))
    ((inode_of geometry.edition mid i).links - 1) name (leaves_slot geometry old mid d i name now leaves) sets refl
    (used_graph geometry old mid d i name now leaves) (other_graph geometry old mid d i name now leaves other) most in
    record {
      keeps = keeps_then geometry old mid new leaves.keeps keeps;
      sound = dropped_name_sound (graph_of geometry old) (graph_of geometry new) (root_of geometry) geometry.last_inode i d
          (slot_named name (slots geometry old d)) name (graph_within geometry old) (graph_within geometry new) (ready_graph geometry old leaves.ready) drops;
      makes = makes
          ∙ (release_one (state geometry mid) now i (omega (arith, links, most)) ∙ released geometry old mid d i name now leaves);
    }

-- removing the last name of a node and freeing the node makes the state `after_unlink`
pub made_unlinked : (geometry : Geometry) (old mid new : List ℕ) (d i : ℕ) (name : List ℕ) (now : ℕ) → LeavesEntry geometry old mid d i name now
    → kind_at geometry old i ≢ kinds.Directory → (inode_of geometry.edition mid i).links ≤ 1 → Keeps geometry mid new
    → state geometry new ≡ remove_node i (state geometry mid) → DropsNode (graph_of geometry mid) (graph_of geometry new) i
    → HasMade geometry old new (after_unlink (state geometry old) now d name)
made_unlinked geometry old mid new d i name now leaves other last keeps makes gone =
    let links = left_links geometry old mid d i name now leaves in
    let drops =
    left_file (graph_of geometry old) (graph_of geometry mid) (graph_of geometry new) i d (slot_named name (slots geometry old d)) name
    (leaves_slot geometry old mid d i name now leaves) gone (used_graph geometry old mid d i name now leaves)
    (other_graph geometry old mid d i name now leaves other) last in
    record {
      keeps = keeps_then geometry old mid new leaves.keeps keeps;
      sound = dropped_file_sound (graph_of geometry old) (graph_of geometry new) (root_of geometry) geometry.last_inode i d
          (slot_named name (slots geometry old d)) name (graph_within geometry old) (graph_within geometry new) (ready_graph geometry old leaves.ready) drops;
      makes = makes
          ∙ (release_last (state geometry mid) now i (omega (arith, links, last)) ∙ released geometry old mid d i name now leaves);
    }

-- removing the name of a directory and freeing the directory makes the state `after_rmdir`
pub made_emptied : (geometry : Geometry) (old mid low new : List ℕ) (d i : ℕ) (name : List ℕ) (now : ℕ) → LeavesEntry geometry old mid d i name now
    → is_dots name ≡ false → IsDirectory geometry old i
    → list_any (λ (entry : List ℕ × ℕ). not (is_dots entry.0)) (names_at (tree geometry old) i) ≡ false
    → Keeps geometry mid low → state geometry low ≡ drop_link now d (state geometry mid)
    → SetsLinks (graph_of geometry mid) (graph_of geometry low) d ((inode_of geometry.edition mid d).links - 1)
    → Keeps geometry low new → state geometry new ≡ remove_node i (state geometry low)
    → DropsNode (graph_of geometry low) (graph_of geometry new) i
    → HasMade geometry old new (after_rmdir (state geometry old) now d name)
made_emptied geometry old mid low new d i name now leaves plain is only less_keeps less_makes sets gone_keeps gone_makes gone =
    let entry : number_of_name (tree geometry old) d name ≡ i = ap (λ o. unwrap_or o 0) leaves.named in
    let drops =
    left_directory (graph_of geometry old) (graph_of geometry mid) (graph_of geometry low) (graph_of geometry new) i d
    (slot_named name (slots geometry old d)) ((inode_of geometry.edition mid d).links - 1) name (leaves_slot geometry old mid d i name now leaves) sets
    gone refl (left_linked geometry old mid d i name now leaves) plain (directory_to geometry old i is)
    (λ t j word some. dots_only geometry old word i t j is only some) in
    record {
      keeps = keeps_then geometry old mid new leaves.keeps (keeps_then geometry mid low new less_keeps gone_keeps);
      sound = dropped_directory_sound (graph_of geometry old) (graph_of geometry new) (root_of geometry) geometry.last_inode i d
          (slot_named name (slots geometry old d)) name (graph_within geometry old) (graph_within geometry new) (ready_graph geometry old leaves.ready) drops;
      makes = gone_makes
          ∙ (ap (λ s. remove_node i s) less_makes
          ∙ (ap (λ s. remove_node i (drop_link now d s)) leaves.makes
          ∙ ap (λ j. remove_node j (drop_link now d (remove_entry now d name (state geometry old)))) (sym entry)));
    }
