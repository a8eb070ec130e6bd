use Rattle.std.proofs.Common.{◌+◌, arith}
use Rattle.vol_layout.specs.Super.{cache_head}
use Rattle.vol_change.proofs.FreedNodes.{FreesNode, given_inside, freed_only, freed_keeps, freed_list, freed_makes, freed_graph}
use Rattle.vol_change.proofs.UnusedBytes.{unused_then, other_unused, low_unused, cleared_by, cleared_still, cache_low}
use Rattle.vol_change.proofs.free.free_node.Goals as goal
use Rattle.vol_change.proofs.free.free_node.Goals.{After-give_inode}

-- the node is freed in three steps
frees : (c : After-give_inode)
    → FreesNode c.args.geometry.now c.args.image.now c.free_blocks-given.new.image c.clear_inode.new.image c.give_inode.new.image c.args.i
frees c = record {
  above = c.requires.above;
  last = c.requires.last;
  rules = c.free_blocks-given.ensures.rules;
  only = c.free_blocks-given.ensures.only;
  none = c.free_blocks-given.ensures.none;
  zero = c.clear_inode.ensures.zero;
  cleared = c.clear_inode.ensures.others;
  given = given_inside c.args.geometry.now.edition c.clear_inode.new.image c.give_inode.new.image c.args.i c.give_inode.ensures.cached c.give_inode.ensures.full;
}

pub returns-clause-changed : goal.returns-clause-changed
returns-clause-changed c = record {
  keeps = freed_keeps _ _ _ _ _ _ (frees c);
  makes = freed_makes _ _ _ _ _ _ (frees c);
  free = λ blocks free. freed_list _ _ _ _ _ _ (frees c) _ (c.free_blocks-given.ensures.free blocks free);
  content = λ j first last other. ((freed_only _ _ _ _ _ _ (frees c)).others j first last other).content;
}

pub returns-clause-graph : goal.returns-clause-graph
returns-clause-graph c = freed_graph _ _ _ _ _ _ (frees c)

-- the freed i-node is all zeros
pub returns-clause-cleared : goal.returns-clause-cleared
returns-clause-cleared c =
    let geometry = c.args.geometry.now in
    cleared_still geometry c.clear_inode.new.image c.give_inode.new.image c.args.i (cache_head geometry.edition) (cache_head geometry.edition + 202)
    (frees c).given (cache_low geometry.edition) (cleared_by geometry c.clear_inode.new.image c.args.i (frees c).zero)

-- the unused bytes of other i-nodes don't change
pub returns-clause-others : goal.returns-clause-others
returns-clause-others c = λ j first last other.
    let geometry = c.args.geometry.now in
    let old = c.args.image.now in
    let mid = c.free_blocks-given.new.image in
    let low = c.clear_inode.new.image in
    let new = c.give_inode.new.image in
    unused_then geometry old mid new j (c.free_blocks-given.ensures.others j first last other)
    (unused_then geometry mid low new j (other_unused geometry mid low c.args.i j (omega (arith, c.requires.above)) first other (frees c).cleared)
    (low_unused geometry low new j (cache_head geometry.edition) (cache_head geometry.edition + 202) (frees c).given (cache_low geometry.edition)))
