use Rattle.std.proofs.Common.{◌≤◌, refl, sym, ap, subst, ◌∙◌}
use Rattle.std.specs.Option.{option_map}
use Rattle.vol_layout.specs.Edition.{constants}
use Rattle.vol_layout.specs.declared.i_node.Inode.{Inode}
use Rattle.vol_dir.specs.Tree.{node_with}
use Rattle.vol_change.specs.Edits.{modified}
use Rattle.vol_change.proofs.ChangedInodes.{storable_changed, puts_changed}
use Rattle.vol_change.proofs.FreeLists.{inode_free}
use Rattle.vol_change.proofs.ListWrites.{PutsInode, put_content, put_keeps, put_makes, put_same}
use Rattle.vol_change.proofs.UnusedBytes.{put_unused}
use Rattle.vol_change.proofs.times.touch.Goals as goal
use Rattle.vol_change.proofs.times.touch.Goals.{After-put_inode}

pub put_inode-requires-clause-storable : goal.put_inode-requires-clause-storable
put_inode-requires-clause-storable c =
    storable_changed c.args.geometry.now.edition c.inode-node.result _ c.args.now c.inode-node.ensures.storable
    (subst (λ node. node.links ≤ (constants c.args.geometry.now.edition).link_limit) (sym c.inode-node.ensures.value)
    (c.requires.node.rules.sound.sizes.links c.args.i c.requires.node.first c.requires.node.last c.requires.node.used)) refl refl refl refl c.stamp.ensures

-- the i-node that is written
abbrev put_node : After-put_inode → Inode
put_node c = record c.inode-node.result { modified = c.args.now; changed = c.stamp.result }

-- the i-node is written, and no other byte changes
puts : (c : After-put_inode) → PutsInode c.args.geometry.now c.args.image.now c.put_inode.new.image c.args.i (put_node c)
puts c =
    puts_changed c.args.geometry.now c.args.image.now c.put_inode.new.image c.args.i c.inode-node.result (put_node c) c.requires.node.first c.requires.node.last
    c.inode-node.ensures.value c.put_inode.ensures.put c.put_inode.ensures.others refl refl refl

pub returns-clause-changed : goal.returns-clause-changed
returns-clause-changed c = record {
  keeps =
      put_keeps c.args.geometry.now c.args.image.now c.put_inode.new.image c.args.i (put_node c) c.requires.node.rules (puts c)
      (subst (λ node. node.links ≤ (constants c.args.geometry.now.edition).link_limit) (sym c.inode-node.ensures.value)
      (c.requires.node.rules.sound.sizes.links c.args.i c.requires.node.first c.requires.node.last c.requires.node.used));
  makes =
      put_makes c.args.geometry.now c.args.image.now c.put_inode.new.image c.args.i (put_node c) (modified c.args.now) c.requires.node.rules (puts c)
      (λ content.
      ap (λ changed. node_with (record c.inode-node.result { modified = c.args.now; changed = changed }) content) c.stamp.ensures
      ∙ ap (λ was. node_with (record was { modified = c.args.now; changed = option_map (λ _. c.args.now) was.changed }) content) c.inode-node.ensures.value);
  free = inode_free c.args.geometry.now c.args.image.now c.put_inode.new.image c.args.i c.requires.node.rules c.requires.node.first c.requires.node.last c.put_inode.ensures.others;
  content = λ j first last any. put_content c.args.geometry.now c.args.image.now c.put_inode.new.image c.args.i j (put_node c) c.requires.node.rules (puts c)
      (ap (λ node. node.mode) c.inode-node.ensures.value) first last;
}

pub returns-clause-graph : goal.returns-clause-graph
returns-clause-graph c =
    put_same c.args.geometry.now c.args.image.now c.put_inode.new.image c.args.i (put_node c) c.requires.node.rules (puts c)
    (ap (λ node. node.links) c.inode-node.ensures.value)

pub returns-clause-unused : goal.returns-clause-unused
returns-clause-unused c = λ j first last.
    put_unused c.args.geometry.now c.args.image.now c.put_inode.new.image c.args.i j c.requires.node.first first c.requires.node.used c.put_inode.ensures.others
    c.put_inode.ensures.unused
