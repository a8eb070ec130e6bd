use Rattle.std.proofs.Common.{sym, subst}
use Rattle.vol_free.specs.Numbers.{IsFreeNumber}
use Rattle.vol_change.proofs.FreeKinds.{chosen_free, chosen_recorded}
use Rattle.vol_change.proofs.FreeLists.{cache_free_list}
use Rattle.vol_change.proofs.OneNode.{cache_free, cache_graph, cache_keeps, cache_makes, cache_node}
use Rattle.vol_change.proofs.UnusedNodes.{cache_unused}
use Rattle.vol_change.proofs.new_nodes.pick_number.Goals as goal

pub returns-clause-free : goal.returns-clause-free
returns-clause-free c =
    let geometry = c.args.geometry.now in
    let old = c.args.image.now in
    let new = c.take_inode.new.image in
    let same = c.take_inode.ensures.others in
    subst (IsFreeNumber geometry new) (sym c.unwrap_or.ensures)
    (chosen_free geometry old new c.args.recorded c.in-Some.taken (cache_graph geometry old new c.requires.rules same)
    c.requires.recorded (cache_free geometry old new c.requires.rules same c.in-Some.taken c.in-Some.ensures.free))

pub returns-clause-recorded : goal.returns-clause-recorded
returns-clause-recorded c = chosen_recorded c.args.recorded c.in-Some.taken c.unwrap_or.result c.unwrap_or.ensures

pub returns-clause-changed : goal.returns-clause-changed
returns-clause-changed c =
    let geometry = c.args.geometry.now in
    let old = c.args.image.now in
    let new = c.take_inode.new.image in
    let same = c.take_inode.ensures.others in
    record {
      keeps = cache_keeps geometry old new c.requires.rules same;
      makes = cache_makes geometry old new c.requires.rules same;
      free = cache_free_list geometry old new c.requires.rules same;
      content = λ j first last any. (cache_node geometry old new c.requires.rules same j).content;
    }

pub returns-clause-graph : goal.returns-clause-graph
returns-clause-graph c = cache_graph c.args.geometry.now c.args.image.now c.take_inode.new.image c.requires.rules c.take_inode.ensures.others

pub returns-clause-unused : goal.returns-clause-unused
returns-clause-unused c = λ j first last.
    cache_unused c.args.geometry.now c.args.image.now c.take_inode.new.image j c.take_inode.ensures.others
