use Rattle.std.proofs.Common.{◌≡◌, ◌∙◌, sym, ap, ◌+◌, ◌*◌, None, Some, arith}
use Rattle.vol_layout.specs.declared.mode.Kind.TheVariants as kinds
use Rattle.vol_dir.specs.Entries.{slots}
use Rattle.vol_dir.specs.Names.{get, names_in}
use Rattle.vol_dir.specs.Search.{new_slot}
use Rattle.vol_dir.specs.Tree.{Shape, shapes, state, tree}
use Rattle.vol_judge.specs.Graph.{graph_of}
use Rattle.vol_change.proofs.EntryStates.{names_is, shape_is}
use Rattle.vol_change.proofs.FileRooms.{entry_room}
use Rattle.vol_change.specs.Edits.{change_node, modified}
use Rattle.vol_change.proofs.OneNode.{content_then, bytes_stay}
use Rattle.vol_change.proofs.TimedEdits.{change_twice}
use Rattle.vol_change.proofs.WholeLaws.{keeps_then}
use Rattle.vol_change.proofs.WrittenStates.{IsKind}
use Rattle.vol_change.proofs.ReadyLaws.{slot_same, beside_same, directory_kept}
use Rattle.vol_change.proofs.UnusedBytes.{unused_then}
use Rattle.vol_change.proofs.entries.enter.Goals as goal

pub add_name-requires-clause-slot : goal.add_name-requires-clause-slot
add_name-requires-clause-slot c =
    let at : IsKind c.args.geometry.now c.args.image.now c.args.dir kinds.Directory =
    record { first = c.requires.directory.is.first; last = c.requires.directory.is.last; kind = c.requires.directory.is.kind } in
    c.requires.slot ∙ ap (λ (shape : Shape). new_slot shape.slots) (shape_is c.args.geometry.now c.args.image.now c.args.dir at)

pub add_name-requires-clause-new : goal.add_name-requires-clause-new
add_name-requires-clause-new c =
    let at : IsKind c.args.geometry.now c.args.image.now c.args.dir kinds.Directory =
    record { first = c.requires.directory.is.first; last = c.requires.directory.is.last; kind = c.requires.directory.is.kind } in
    ap (λ names. get names c.args.name.now) (sym (names_is c.args.geometry.now c.args.image.now c.args.dir at)) ∙ c.requires.takes.fresh

pub add_name-requires-clause-greatest : goal.add_name-requires-clause-greatest
unfolding tree
add_name-requires-clause-greatest c =
    let at : IsKind c.args.geometry.now c.args.image.now c.args.dir kinds.Directory =
    record { first = c.requires.directory.is.first; last = c.requires.directory.is.last; kind = c.requires.directory.is.kind } in
    let same : 16 * new_slot (shapes c.args.geometry.now c.args.image.now c.args.dir).slots + 16
    ≡ 16 * new_slot (names_in (slots c.args.geometry.now c.args.image.now c.args.dir)) + 16 =
    ap (λ (shape : Shape). 16 * new_slot shape.slots + 16) (shape_is c.args.geometry.now c.args.image.now c.args.dir at) in
    omega (arith, c.requires.takes.greatest, same)

pub add_name-requires-clause-room : goal.add_name-requires-clause-room
unfolding tree
add_name-requires-clause-room c =
    entry_room c.args.geometry.now c.args.image.now c.args.dir c.requires.directory.rules
    (record { first = c.requires.directory.is.first; last = c.requires.directory.is.last; kind = c.requires.directory.is.kind }) c.requires.room

pub returns-clause-changed : goal.returns-clause-changed
returns-clause-changed c = record {
  keeps = keeps_then c.args.geometry.now c.args.image.now c.add_name.new.image c.touch.new.image c.add_name.ensures.changed.keeps c.touch.ensures.changed.keeps;
  makes = c.touch.ensures.changed.makes
      ∙ (ap (change_node c.args.dir (modified c.args.moment)) c.add_name.ensures.changed.makes
      ∙ change_twice (state c.args.geometry.now c.args.image.now) c.args.dir _ (modified c.args.moment) _);
  free = λ blocks free. c.touch.ensures.changed.free _ (c.add_name.ensures.changed.free blocks free);
  content = λ j first last other.
      content_then c.args.geometry.now c.args.image.now c.add_name.new.image c.touch.new.image j
      (c.add_name.ensures.changed.content j first last other) (c.touch.ensures.changed.content j first last tt);
}

pub returns-clause-bytes : goal.returns-clause-bytes
returns-clause-bytes c =
    let geometry = c.args.geometry.now in
    let mid = c.add_name.new.image in
    let is = directory_kept geometry c.args.image.now mid c.args.dir (c.add_name.ensures.beside.kind c.args.dir) c.requires.directory.is in
    bytes_stay geometry mid c.touch.new.image c.args.dir (c.touch.ensures.changed.content c.args.dir is.first is.last tt) is ∙ c.add_name.ensures.bytes

pub returns-clause-slot : goal.returns-clause-slot
returns-clause-slot c =
    slot_same (graph_of c.args.geometry.now c.args.image.now) (graph_of c.args.geometry.now c.add_name.new.image)
    (graph_of c.args.geometry.now c.touch.new.image) c.args.dir (new_slot (names_in (slots c.args.geometry.now c.args.image.now c.args.dir)))
    None (Some (c.args.name.now, c.args.i)) c.add_name.ensures.slot c.touch.ensures.graph (c.add_name.ensures.beside.kind c.args.dir)

pub returns-clause-beside : goal.returns-clause-beside
returns-clause-beside c =
    beside_same (graph_of c.args.geometry.now c.args.image.now) (graph_of c.args.geometry.now c.add_name.new.image)
    (graph_of c.args.geometry.now c.touch.new.image) c.args.dir c.add_name.ensures.beside c.touch.ensures.graph

pub returns-clause-unused : goal.returns-clause-unused
returns-clause-unused c = λ j first last.
    unused_then c.args.geometry.now c.args.image.now c.add_name.new.image c.touch.new.image j (c.add_name.ensures.unused j first last)
    (c.touch.ensures.unused j first last)
