use Rattle.std.proofs.Common.{◌∙◌, ap, [], Some}
use Rattle.vol_layout.specs.declared.mode.Kind.TheVariants as kinds
use Rattle.vol_dir.specs.Tree.{Body, no_shape, state}
use Rattle.vol_change.specs.Edits.{put_node, put_shape}
use Rattle.vol_change.proofs.MadeNodes.{file_makes, made_keeps, made_only, made_free, made_unused, made_graph}
use Rattle.vol_change.proofs.NewInodes.{reads_new}
use Rattle.vol_change.proofs.new_nodes.make_regular.Goals as goal

pub returns-clause-changed : goal.returns-clause-changed
returns-clause-changed c =
    let node = c.args.node in
    let makes = c.make_node.ensures.makes in
    record {
      keeps = made_keeps c.args.geometry.now c.args.image.now c.make_node.new.image c.args.i _ c.requires.rules makes;
      makes =
          file_makes c.args.geometry.now c.args.image.now c.make_node.new.image c.args.i _ c.requires.rules makes c.regular-mode.ensures.kind
          ∙ ap (λ n. put_shape c.args.i no_shape (put_node c.args.i (Some n) (state c.args.geometry.now c.args.image.now)))
          (reads_new c.args.geometry.now.edition c.regular-mode.result 1 node.owner node.moment node.permissions (Body []) c.regular-mode.ensures.permissions);
      free = made_free c.args.geometry.now c.args.image.now c.make_node.new.image c.args.i _ c.requires.rules makes;
      content = λ j first last other.
          ((made_only c.args.geometry.now c.args.image.now c.make_node.new.image c.args.i _ c.requires.rules makes).others j first last other).content;
    }

pub returns-clause-graph : goal.returns-clause-graph
returns-clause-graph c =
    made_graph c.args.geometry.now c.args.image.now c.make_node.new.image c.args.i _ c.requires.rules c.make_node.ensures.makes
    kinds.Regular c.regular-mode.ensures.kind

pub returns-clause-others : goal.returns-clause-others
returns-clause-others c = λ j first last other.
    made_unused c.args.geometry.now c.args.image.now c.make_node.new.image c.args.i _ c.requires.rules c.make_node.ensures.makes j first other
