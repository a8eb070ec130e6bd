use Rattle.std.proofs.Common.{◌≡◌, ◌≤◌, ◌%◌, ◌/◌, refl, sym, ap, subst, ◌∙◌, arith}
use Rattle.std.specs.Option.{option_map}
use Rattle.vol_layout.specs.Edition.{constants}
use Rattle.vol_layout.specs.Inode.{inode_place, kind_of}
use Rattle.vol_layout.specs.BlockPointers.{mode_of}
use Rattle.vol_layout.specs.declared.i_node.Inode.{Inode}
use Rattle.vol_layout.proofs.InodeLaws.{inode_mode}
use Rattle.vol_layout.proofs.KindLaws.{kind_permitted}
use Rattle.vol_dir.specs.Tree.{node_with}
use Rattle.vol_change.specs.Edits.{with_permission_bits}
use Rattle.vol_change.proofs.ChangedInodes.{storable_changed, puts_permitted}
use Rattle.vol_change.proofs.Contents.{KeepsReading}
use Rattle.vol_change.proofs.FreeLists.{inode_free}
use Rattle.vol_change.proofs.ListWrites.{PutsInode, put_beside, put_reading, put_keeps, put_makes, put_same}
use Rattle.vol_change.proofs.UnusedBytes.{put_unused}
use Rattle.vol_change.proofs.ownership.put_permissions.Goals as goal
use Rattle.vol_change.proofs.ownership.put_permissions.Goals.{After-put_inode}

pub put_inode-requires-clause-storable : goal.put_inode-requires-clause-storable
put_inode-requires-clause-storable c =
    storable_changed c.args.geometry.now.edition c.inode-node.result _ c.args.now c.inode-node.ensures.storable
    (subst (λ node. node.links ≤ (constants c.args.geometry.now.edition).link_limit) (sym c.inode-node.ensures.value)
    (c.requires.node.rules.sound.sizes.links c.args.i c.requires.node.first c.requires.node.last c.requires.node.used)) refl refl refl refl c.stamp.ensures

-- the i-node that is written
abbrev put_node : After-put_inode → Inode
put_node c = record c.inode-node.result { mode = c.with_permissions.result; changed = c.stamp.result }

-- the mode bits above the permissions don't change
type_stays : (c : After-put_inode) → c.with_permissions.result.bits / 4096 ≡ c.inode-node.result.mode.bits / 4096
type_stays c = let bits = c.with_permissions.ensures in omega (arith, bits)

-- the kind doesn't change
kind_stays : (c : After-put_inode)
    → kind_of c.args.geometry.now.edition c.with_permissions.result.bits ≡ kind_of c.args.geometry.now.edition c.inode-node.result.mode.bits
kind_stays c =
    let geometry = c.args.geometry.now in
    let mode : c.inode-node.result.mode.bits ≡ mode_of geometry c.args.image.now c.args.i =
    ap (λ n. n.mode.bits) c.inode-node.ensures.value ∙ inode_mode geometry.edition c.args.image.now (inode_place geometry.edition c.args.i) in
    ap (kind_of geometry.edition) c.with_permissions.ensures
    ∙ kind_permitted geometry.edition c.inode-node.result.mode.bits c.args.permissions
    (λ free. c.requires.node.used (sym (ap (kind_of geometry.edition) mode) ∙ free))
    (λ odd. c.requires.node.rules.sound.kinds.known c.args.i c.requires.node.first c.requires.node.last (sym (ap (kind_of geometry.edition) mode) ∙ odd))

-- the i-node is written, and no other byte changes
puts : (c : After-put_inode) → PutsInode c.args.geometry.now c.args.image.now c.put_inode.new.image c.args.i (put_node c)
puts c =
    puts_permitted c.args.geometry.now c.args.image.now c.put_inode.new.image c.args.i c.inode-node.result (put_node c) c.requires.node.first c.requires.node.last
    c.inode-node.ensures.value c.put_inode.ensures.put c.put_inode.ensures.others (kind_stays c) (type_stays c) refl refl

-- the new permission bits are the lowest twelve of those given
permitted : (c : After-put_inode) → c.with_permissions.result.bits % 4096 ≡ c.args.permissions % 4096
permitted c = let bits = c.with_permissions.ensures in omega (arith, bits)

pub returns-clause-changed : goal.returns-clause-changed
returns-clause-changed c = record {
  keeps =
      put_keeps c.args.geometry.now c.args.image.now c.put_inode.new.image c.args.i (put_node c) c.requires.node.rules (puts c)
      (subst (λ node. node.links ≤ (constants c.args.geometry.now.edition).link_limit) (sym c.inode-node.ensures.value)
      (c.requires.node.rules.sound.sizes.links c.args.i c.requires.node.first c.requires.node.last c.requires.node.used));
  makes =
      put_makes c.args.geometry.now c.args.image.now c.put_inode.new.image c.args.i (put_node c) (with_permission_bits c.args.now c.args.permissions)
      c.requires.node.rules (puts c)
      (λ content.
      ap (λ bits. record (node_with c.inode-node.result content) { permissions = bits; changed = c.stamp.result }) (permitted c)
      ∙ (ap (λ changed. record (node_with c.inode-node.result content) { permissions = c.args.permissions % 4096; changed = changed }) c.stamp.ensures
      ∙ ap (λ was. record (node_with was content) { permissions = c.args.permissions % 4096; changed = option_map (λ _. c.args.now) was.changed })
      c.inode-node.ensures.value));
  free = inode_free c.args.geometry.now c.args.image.now c.put_inode.new.image c.args.i c.requires.node.rules c.requires.node.first c.requires.node.last c.put_inode.ensures.others;
  content = λ j first last other. put_beside c.args.geometry.now c.args.image.now c.put_inode.new.image c.args.i j (put_node c) c.requires.node.rules (puts c) first other;
}

pub returns-clause-graph : goal.returns-clause-graph
returns-clause-graph c =
    put_same c.args.geometry.now c.args.image.now c.put_inode.new.image c.args.i (put_node c) c.requires.node.rules (puts c)
    (ap (λ node. node.links) c.inode-node.ensures.value)

-- the i-node reads as before, except for its permission bits
held : (c : After-put_inode) → KeepsReading c.args.geometry.now c.args.image.now c.put_inode.new.image c.args.i
held c =
    put_reading c.args.geometry.now c.args.image.now c.put_inode.new.image c.args.i c.args.i (put_node c) c.requires.node.rules (puts c)
    c.requires.node.first c.requires.node.last

pub returns-clause-kind : goal.returns-clause-kind
returns-clause-kind c = (held c).kind

pub returns-clause-bytes : goal.returns-clause-bytes
returns-clause-bytes c = (held c).bytes

pub returns-clause-unused : goal.returns-clause-unused
returns-clause-unused c = λ j first last.
    put_unused c.args.geometry.now c.args.image.now c.put_inode.new.image c.args.i j c.requires.node.first first c.requires.node.used c.put_inode.ensures.others
    c.put_inode.ensures.unused
