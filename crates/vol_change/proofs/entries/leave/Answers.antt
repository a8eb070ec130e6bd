use Rattle.std.proofs.Common.{◌∙◌, ap, None}
use Rattle.std.specs.Option.{option_map}
use Rattle.vol_dir.specs.Entries.{slots}
use Rattle.vol_dir.specs.Names.{get, names_of}
use Rattle.vol_dir.specs.Search.{slot_named}
use Rattle.vol_dir.specs.Tree.{state}
use Rattle.vol_judge.specs.Graph.{graph_of}
use Rattle.vol_change.specs.Edits.{change_node, modified}
use Rattle.vol_change.proofs.OneNode.{content_then, bytes_stay}
use Rattle.vol_change.proofs.TimedEdits.{change_twice}
use Rattle.vol_change.proofs.WholeLaws.{keeps_then}
use Rattle.vol_change.proofs.ReadyLaws.{slot_same, beside_same, directory_kept}
use Rattle.vol_change.proofs.UnusedBytes.{unused_then}
use Rattle.vol_change.proofs.entries.leave.Goals as goal

pub returns-clause-changed : goal.returns-clause-changed
returns-clause-changed c = record {
  keeps = keeps_then c.args.geometry.now c.args.image.now c.remove_name.new.image c.touch.new.image c.remove_name.ensures.changed.keeps c.touch.ensures.changed.keeps;
  makes = c.touch.ensures.changed.makes
      ∙ (ap (change_node c.args.dir (modified c.args.moment)) c.remove_name.ensures.changed.makes
      ∙ change_twice (state c.args.geometry.now c.args.image.now) c.args.dir _ (modified c.args.moment) _);
  free = λ blocks free. c.touch.ensures.changed.free _ (c.remove_name.ensures.changed.free blocks free);
  content = λ j first last other.
      content_then c.args.geometry.now c.args.image.now c.remove_name.new.image c.touch.new.image j
      (c.remove_name.ensures.changed.content j first last other) (c.touch.ensures.changed.content j first last tt);
}

pub returns-clause-bytes : goal.returns-clause-bytes
returns-clause-bytes c =
    let geometry = c.args.geometry.now in
    let mid = c.remove_name.new.image in
    let is = directory_kept geometry c.args.image.now mid c.args.dir (c.remove_name.ensures.beside.kind c.args.dir) c.requires.directory.is in
    bytes_stay geometry mid c.touch.new.image c.args.dir (c.touch.ensures.changed.content c.args.dir is.first is.last tt) is ∙ c.remove_name.ensures.bytes

pub returns-clause-slot : goal.returns-clause-slot
returns-clause-slot c =
    slot_same (graph_of c.args.geometry.now c.args.image.now) (graph_of c.args.geometry.now c.remove_name.new.image)
    (graph_of c.args.geometry.now c.touch.new.image) c.args.dir (slot_named c.args.name.now (slots c.args.geometry.now c.args.image.now c.args.dir))
    (option_map (λ i. (c.args.name.now, i)) (get (names_of (slots c.args.geometry.now c.args.image.now c.args.dir)) c.args.name.now)) None
    c.remove_name.ensures.slot c.touch.ensures.graph (c.remove_name.ensures.beside.kind c.args.dir)

pub returns-clause-beside : goal.returns-clause-beside
returns-clause-beside c =
    beside_same (graph_of c.args.geometry.now c.args.image.now) (graph_of c.args.geometry.now c.remove_name.new.image)
    (graph_of c.args.geometry.now c.touch.new.image) c.args.dir c.remove_name.ensures.beside c.touch.ensures.graph

pub returns-clause-unused : goal.returns-clause-unused
returns-clause-unused c = λ j first last.
    unused_then c.args.geometry.now c.args.image.now c.remove_name.new.image c.touch.new.image j (c.remove_name.ensures.unused j first last)
    (c.touch.ensures.unused j first last)
