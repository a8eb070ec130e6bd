use Rattle.std.proofs.Common.{◌++◌, ap, subst, sym, ◌∙◌}
use Rattle.vol_dir.specs.Tree.{State, place_count}
use Rattle.vol_free.specs.Stack.{IsFree}
use Rattle.vol_change.proofs.OneNode.{content_then, bytes_stay}
use Rattle.vol_change.proofs.FreeAfter.{count_left}
use Rattle.vol_change.proofs.FreeLists.{freed_kept}
use Rattle.vol_change.proofs.UnusedBytes.{unused_then}
use Rattle.vol_change.proofs.CallSteps.{changed}
use Rattle.vol_change.proofs.EntryNodes.{name_there, directory_above}
use Rattle.vol_change.proofs.LeftNodes.{left_linked, made_emptied, LeavesEntry, left_apart}
use Rattle.vol_change.proofs.ReadyLaws.{directory_kept, ready_directory}
use Rattle.vol_change.proofs.UnusedNodes.{time_unused, time_cleared}
use Rattle.vol_change.proofs.image_changes.rmdir.rmdir.Goals as goal

pub leave-requires-clause-directory : goal.leave-requires-clause-directory
leave-requires-clause-directory c = ready_directory _ _ _ c.requires.ready c.requires.directory

pub leave-requires-clause-there : goal.leave-requires-clause-there
leave-requires-clause-there c =
    name_there c.args.geometry.now c.args.image.now c.args.name.now c.args.dir c.args.i c.requires.directory c.requires.named

pub drop_link-requires-clause-some : goal.drop_link-requires-clause-some
drop_link-requires-clause-some c =
    left_linked c.args.geometry.now c.args.image.now c.leave.new.image c.args.dir c.args.i c.args.name.now c.args.moment
    (record {
      ready = c.requires.ready;
      directory = c.requires.directory;
      named = c.requires.named;
      keeps = c.leave.ensures.changed.keeps;
      makes = c.leave.ensures.changed.makes;
      slot = c.leave.ensures.slot;
      beside = c.leave.ensures.beside;
    })

pub free_node-given-requires-clause-above : goal.free_node-given-requires-clause-above
free_node-given-requires-clause-above c =
    directory_above c.args.geometry.now c.args.image.now c.args.name.now c.args.dir c.args.i c.requires.ready c.requires.directory
    c.requires.named c.requires.plain

pub returns : goal.returns
returns c =
    let geometry = c.args.geometry.now in
    let old = c.args.image.now in
    let left = c.leave.new.image in
    let linked = c.drop_link.new.image in
    let gone = c.free_node-given.new.image in
    let new = c.put_time.new.image in
    let i = c.args.i in
    let leaves : LeavesEntry geometry old left c.args.dir i c.args.name.now c.args.moment = record {
      ready = c.requires.ready;
      directory = c.requires.directory;
      named = c.requires.named;
      keeps = c.leave.ensures.changed.keeps;
      makes = c.leave.ensures.changed.makes;
      slot = c.leave.ensures.slot;
      beside = c.leave.ensures.beside;
    } in
    let apart = left_apart geometry old left c.args.dir i c.args.name.now c.args.moment leaves c.requires.plain c.requires.gone c.requires.only in
    let first = c.requires.gone.first in
    let last = c.requires.gone.last in
    let kept = content_then geometry old left linked i (c.leave.ensures.changed.content i first last (λ same. apart (sym same)))
    (c.drop_link.ensures.changed.content i first last tt) in
    record {
      changes = changed _ _ _ _ _ c.args.moment c.requires.ready
          (made_emptied c.args.geometry.now c.args.image.now c.leave.new.image c.drop_link.new.image c.free_node-given.new.image c.args.dir c.args.i
          c.args.name.now c.args.moment
          leaves c.requires.plain c.requires.gone c.requires.only c.drop_link.ensures.changed.keeps c.drop_link.ensures.changed.makes c.drop_link.ensures.graph
          c.free_node-given.ensures.changed.keeps c.free_node-given.ensures.changed.makes c.free_node-given.ensures.graph)
          c.put_time.ensures.changed c.put_time.ensures.graph;
      list = λ blocks free.
          subst (λ xs. IsFree geometry new (xs ++ blocks)) (freed_kept geometry old linked i kept first last)
          (c.put_time.ensures.changed.free _ (c.free_node-given.ensures.changed.free _ (c.drop_link.ensures.changed.free _ (c.leave.ensures.changed.free blocks free))));
      count =
          c.free_node-given.ensures.count
          ∙ (ap (λ (s : State). place_count geometry.edition (s.shapes i)) c.drop_link.ensures.changed.makes
          ∙ count_left geometry old left c.args.moment i c.args.dir c.args.name.now c.leave.ensures.changed.makes);
      bytes =
          let was = c.requires.directory in
          let is = directory_kept geometry old left c.args.dir (c.leave.ensures.beside.kind c.args.dir) was in
          bytes_stay geometry left new c.args.dir
          (content_then geometry left linked new c.args.dir (c.drop_link.ensures.changed.content c.args.dir was.first was.last tt)
          (content_then geometry linked gone new c.args.dir (c.free_node-given.ensures.changed.content c.args.dir was.first was.last apart)
          (c.put_time.ensures.changed.content c.args.dir was.first was.last tt))) is
          ∙ c.leave.ensures.bytes;
      files = λ j low high there here.
          content_then geometry old left new j (c.leave.ensures.changed.content j low high there)
          (content_then geometry left linked new j (c.drop_link.ensures.changed.content j low high tt)
          (content_then geometry linked gone new j (c.free_node-given.ensures.changed.content j low high here) (c.put_time.ensures.changed.content j low high tt)));
      cleared = time_cleared c.args.geometry.now c.free_node-given.new.image c.put_time.new.image c.args.i c.put_time.ensures.others c.free_node-given.ensures.cleared;
      others = λ j low high other.
          unused_then c.args.geometry.now c.args.image.now c.leave.new.image c.put_time.new.image j (c.leave.ensures.unused j low high)
          (unused_then c.args.geometry.now c.leave.new.image c.drop_link.new.image c.put_time.new.image j (c.drop_link.ensures.unused j low high)
          (unused_then c.args.geometry.now c.drop_link.new.image c.free_node-given.new.image c.put_time.new.image j (c.free_node-given.ensures.others j low high other)
          (time_unused c.args.geometry.now c.free_node-given.new.image c.put_time.new.image j c.put_time.ensures.others)));
    }
