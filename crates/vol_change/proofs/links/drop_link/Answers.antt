use Rattle.std.proofs.Common.{◌∙◌, ap, subst, ◌-◌}
use Rattle.vol_judge.specs.Graph.{graph_of}
use Rattle.vol_change.specs.NodeGraphs.{SetsLinks}
use Rattle.vol_change.proofs.OneLink.{link_less}
use Rattle.vol_change.proofs.links.drop_link.Goals as goal

pub returns-clause-changed : goal.returns-clause-changed
returns-clause-changed c = record {
  keeps = c.put_links.ensures.changed.keeps;
  makes =
      c.put_links.ensures.changed.makes
      ∙ link_less c.args.geometry.now c.args.image.now c.args.i c.args.now (c.inode-links.result.links - 1) c.requires.node.first c.requires.node.last
      (ap (λ node. node.links - 1) c.inode-links.ensures.value);
  free = c.put_links.ensures.changed.free;
  content = c.put_links.ensures.changed.content;
}

pub returns-clause-graph : goal.returns-clause-graph
returns-clause-graph c =
    subst (SetsLinks (graph_of c.args.geometry.now c.args.image.now) (graph_of c.args.geometry.now c.put_links.new.image) c.args.i)
    (ap (λ node. node.links - 1) c.inode-links.ensures.value) c.put_links.ensures.graph
