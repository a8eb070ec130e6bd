use Rattle.std.proofs.Common.{◌∙◌, sym, ap, ◌+◌, arith, ◌≡◌, subst, drop, ◌*◌}
use Rattle.vol_layout.specs.Inode.{inode_of}
use Rattle.vol_file.specs.Rules.{kind_at}
use Rattle.vol_file.proofs.StoredNames.{root_first}
use Rattle.vol_dir.specs.Entries.{slots}
use Rattle.vol_dir.specs.Names.{names_in}
use Rattle.vol_dir.specs.Search.{new_slot}
use Rattle.vol_dir.specs.Tree.{tree, State, state}
use Rattle.vol_judge.specs.Graph.{graph_of}
use Rattle.vol_judge.proofs.ImageGraphs.{directory_to, graph_within, kind_inside}
use Rattle.vol_free.specs.Stack.{IsFree}
use Rattle.vol_judge.specs.Directories.{root_of}
use Rattle.vol_judge.proofs.NamedGraphs.{added_link_sound}
use Rattle.vol_dir.specs.EntryEdits.{slot_bytes}
use Rattle.vol_change.specs.Ready.{entry_need}
use Rattle.vol_change.proofs.OneNode.{content_then, bytes_put, directory_stays}
use Rattle.vol_change.specs.Edits.{add_entry, at_time}
use Rattle.vol_change.proofs.UnusedBytes.{unused_then}
use Rattle.vol_change.proofs.WholeLaws.{keeps_then}
use Rattle.vol_change.proofs.NamedNodes.{linked_keeps, link_added, named_ready}
use Rattle.vol_change.proofs.NodeLinks.{links_is}
use Rattle.vol_change.proofs.ReadyLaws.{ready_whole, ready_same, directory_kept}
use Rattle.vol_change.proofs.SideStates.{takes_ready, takes_kept}
use Rattle.vol_change.proofs.UnusedNodes.{time_unused}
use Rattle.vol_change.proofs.image_changes.link.link.Goals as goal

pub add_link-requires-clause-node : goal.add_link-requires-clause-node
add_link-requires-clause-node c =
    let one = root_first c.args.geometry.now.edition in
    record {
      rules = ready_whole c.args.geometry.now c.args.image.now c.requires.ready;
      first = omega (arith, one, c.requires.used.first);
      last = c.requires.used.last;
      used = c.requires.used.allocated;
    }

pub add_link-requires-clause-room : goal.add_link-requires-clause-room
unfolding tree
add_link-requires-clause-room c =
    let geometry = c.args.geometry.now in
    let one = root_first geometry.edition in
    let same = links_is geometry c.args.image.now c.args.i (ready_whole geometry c.args.image.now c.requires.ready).sound.kinds
    (omega (arith, one, c.requires.used.first)) c.requires.used.last c.requires.used.allocated in
    omega (arith, same, c.requires.links)

pub enter-requires : goal.enter-requires
enter-requires c =
    let geometry = c.args.geometry.now in
    let old = c.args.image.now in
    let new = c.add_link.new.image in
    let d = c.args.dir in
    let i = c.args.i in
    let name = c.args.name.now in
    let one = root_first geometry.edition in
    let takes = takes_ready geometry old d name c.requires.ready c.requires.directory c.requires.takes c.requires.room in
    let made = takes_kept geometry old new d i _ name
    (λ same. c.requires.other (sym (ap (kind_at geometry old) same) ∙ c.requires.directory.kind))
    (linked_keeps (graph_of geometry old) (graph_of geometry new) d i ((inode_of geometry.edition old i).links + 1) c.add_link.ensures.graph
    (directory_to geometry old d c.requires.directory))
    c.add_link.ensures.changed.makes takes in
    record {
      slot = c.requires.slot ∙ ap (λ (s : State). new_slot (s.shapes d).slots) (sym c.add_link.ensures.changed.makes);
      directory = record { rules = c.add_link.ensures.changed.keeps.rules; is = made.directory; slots = made.slots; once = made.once };
      takes = made.takes;
      component = c.requires.component;
      text = c.requires.text;
      inode = omega (arith, one, c.requires.used.first);
      room = made.room;
    }

pub returns : goal.returns
unfolding tree
returns c =
    let geometry = c.args.geometry.now in
    let old = c.args.image.now in
    let mid = c.add_link.new.image in
    let entered = c.enter.new.image in
    let new = c.put_time.new.image in
    let d = c.args.dir in
    let i = c.args.i in
    let name = c.args.name.now in
    let one = root_first geometry.edition in
    let kind = kind_inside geometry old i (omega (arith, one, c.requires.used.first)) c.requires.used.last in
    let added = keeps_then geometry old mid entered c.add_link.ensures.changed.keeps c.enter.ensures.changed.keeps in
    let s = new_slot (names_in (slots geometry mid d)) in
    let file = named_ready geometry old entered d name c.requires.ready c.requires.directory c.requires.takes c.requires.component added
    (λ sound fresh. added_link_sound (graph_of geometry old) (graph_of geometry entered) (root_of geometry) geometry.last_inode i d s name
    (graph_within geometry old) (graph_within geometry entered) sound fresh c.requires.used.first
    (link_added (graph_of geometry old) (graph_of geometry mid) (graph_of geometry entered) i d s name c.add_link.ensures.graph
    (λ free. c.requires.used.allocated (sym kind ∙ free)) (λ is. c.requires.other (sym kind ∙ is))
    (directory_to geometry old d c.requires.directory) c.enter.ensures.slot c.enter.ensures.beside)) in
    record {
      changes = record {
        ready = ready_same geometry entered new file c.put_time.ensures.changed.keeps c.put_time.ensures.graph;
        around = (keeps_then geometry old entered new added c.put_time.ensures.changed.keeps).around;
        makes = c.put_time.ensures.changed.makes
            ∙ ap (at_time c.args.moment) (c.enter.ensures.changed.makes ∙ ap (add_entry c.args.moment d name i) c.add_link.ensures.changed.makes);
      };
      list = λ blocks free.
          let need : entry_need (state geometry mid) d ≡ entry_need (state geometry old) d = ap (λ (s : State). entry_need s d) c.add_link.ensures.changed.makes in
          subst (λ n. IsFree geometry new (drop n blocks)) need
          (c.put_time.ensures.changed.free _ (c.enter.ensures.changed.free _ (c.add_link.ensures.changed.free blocks free)));
      bytes =
          let was = c.requires.directory in
          let before = c.add_link.ensures.changed.content d was.first was.last tt in
          let is = directory_kept geometry mid entered d (c.enter.ensures.beside.kind d) (directory_stays geometry old mid d before was) in
          bytes_put geometry old mid entered new d (16 * c.args.slot) (slot_bytes c.args.name.now i) before was c.enter.ensures.bytes (c.put_time.ensures.changed.content d was.first was.last tt) is;
      files = λ j low high there also.
          content_then geometry old mid new j (c.add_link.ensures.changed.content j low high tt)
          (content_then geometry mid entered new j (c.enter.ensures.changed.content j low high there) (c.put_time.ensures.changed.content j low high tt));
      unused = λ j low high.
          unused_then geometry old mid new j (c.add_link.ensures.unused j low high)
          (unused_then geometry mid entered new j (c.enter.ensures.unused j low high) (time_unused geometry entered new j c.put_time.ensures.others));
    }
