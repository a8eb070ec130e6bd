use Rattle.std.proofs.Common.{◌≡◌, ◌∙◌, subst, sym}
use Rattle.vol_layout.specs.Geometry.{geometry_of}
use Rattle.vol_layout.specs.Inode.{inode_of}
use Rattle.vol_layout.specs.declared.i_node.Inode.{Inode}
use Rattle.vol_layout.proofs.InodeLaws.{inode_of_kept}
use Rattle.vol_losses.proofs.Agreement.{node_agrees, body_agrees}
use Rattle.vol_repair.proofs.laws.repaired_files_are_right.Goals as goal

pub returns : goal.returns
returns c = λ edition blocks lost old volume new lines i fits agrees copy fitting whole.
    let geometry = geometry_of edition old in
    let kept = (copy.told.fitting i fitting).0 in
    let node : inode_of edition volume i ≡ inode_of edition old i =
    inode_of_kept geometry old volume i (node_agrees geometry lost old volume i fits fitting.first fitting.last agrees whole.node) in
    record {
      node = subst (λ (was : Inode). record (inode_of edition new i) { links = was.links } ≡ was) (sym node) kept.node;
      body = kept.body ∙ sym (body_agrees geometry lost old volume i fits fitting.first fitting.last agrees whole);
    }
