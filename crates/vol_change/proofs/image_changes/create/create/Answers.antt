use Rattle.std.proofs.Common.{◌∙◌, sym, ap, subst, ◌≤◌, Some, arith, ◌≡◌, drop, ◌*◌}
use Rattle.vol_dir.specs.Entries.{slots}
use Rattle.vol_dir.specs.Names.{names_in}
use Rattle.vol_dir.specs.Search.{new_slot}
use Rattle.vol_dir.specs.Tree.{State, no_shape, tree, state}
use Rattle.vol_judge.specs.Graph.{graph_of}
use Rattle.vol_judge.proofs.ImageGraphs.{directory_to, graph_within}
use Rattle.vol_free.specs.Stack.{IsFree}
use Rattle.vol_judge.specs.Directories.{root_of}
use Rattle.vol_judge.proofs.NamedGraphs.{added_file_sound}
use Rattle.vol_dir.specs.EntryEdits.{slot_bytes}
use Rattle.vol_change.proofs.OneNode.{content_then, bytes_put, directory_stays}
use Rattle.vol_change.specs.Edits.{add_entry, at_time, new_content, new_kind, new_node, put_node, put_shape}
use Rattle.vol_change.proofs.UnusedBytes.{unused_then}
use Rattle.vol_change.proofs.WholeLaws.{keeps_then}
use Rattle.vol_change.specs.Ready.{TakesName, entry_need, free_in}
use Rattle.vol_change.proofs.FreeKinds.{free_kept}
use Rattle.vol_change.proofs.NewInodes.{used_kind, other_kind}
use Rattle.vol_change.proofs.NamedNodes.{not_made, made_keeps, file_added, named_ready}
use Rattle.vol_change.proofs.ReadyLaws.{ready_whole, ready_same, directory_kept}
use Rattle.vol_change.proofs.SideStates.{made_state, takes_ready, takes_kept}
use Rattle.vol_change.proofs.UnusedNodes.{time_unused}
use Rattle.vol_change.proofs.image_changes.create.create.Goals as goal

pub pick_number-made-requires-clause-rules : goal.pick_number-made-requires-clause-rules
pick_number-made-requires-clause-rules c = ready_whole c.args.geometry.now c.args.image.now c.requires.ready

pub enter-requires : goal.enter-requires
enter-requires c =
    let geometry = c.args.geometry.now in
    let old = c.args.image.now in
    let mid = c.pick_number-made.new.image in
    let new = c.make_file.new.image in
    let d = c.args.dir in
    let i = c.pick_number-made.result in
    let name = c.args.name.now in
    let node = new_node geometry.edition c.args.node.owner c.args.node.moment c.args.node.permissions (new_content geometry.edition c.args.file) 1 0 in
    let same = c.pick_number-made.ensures.graph in
    let ready = ready_same geometry old mid c.requires.ready c.pick_number-made.ensures.changed.keeps same in
    let takes = takes_ready geometry mid d name ready (directory_kept geometry old mid d (same.kind d) c.requires.directory)
    (subst (λ (s : State). TakesName s d name) (sym c.pick_number-made.ensures.changed.makes) c.requires.takes)
    (subst (λ (s : State). entry_need s d ≤ free_in s) (sym c.pick_number-made.ensures.changed.makes) c.requires.room) in
    let is = directory_to geometry mid d takes.directory in
    let made = takes_kept geometry mid new d i (Some node) name (not_made (graph_of geometry mid) d i is c.make_file.ensures.graph.was)
    (made_keeps (graph_of geometry mid) (graph_of geometry new) d i (new_kind c.args.file) 1 c.make_file.ensures.graph is)
    (c.make_file.ensures.changed.makes ∙ made_state geometry mid i (Some node) c.pick_number-made.ensures.free) takes in
    record {
      slot = c.requires.slot
          ∙ ap (λ (s : State). new_slot (s.shapes d).slots)
          (sym (c.make_file.ensures.changed.makes ∙ (made_state geometry mid i (Some node) c.pick_number-made.ensures.free
          ∙ ap (put_node i (Some node)) c.pick_number-made.ensures.changed.makes)));
      directory = record { rules = c.make_file.ensures.changed.keeps.rules; is = made.directory; slots = made.slots; once = made.once };
      takes = made.takes;
      component = c.requires.component;
      text = c.requires.text;
      inode = omega (arith, c.pick_number-made.ensures.free.above);
      room = made.room;
    }

pub returns-clause-free : goal.returns-clause-free
returns-clause-free c =
    free_kept c.args.geometry.now c.pick_number-made.new.image c.args.image.now c.pick_number-made.result
    (sym (c.pick_number-made.ensures.graph.kind c.pick_number-made.result)) c.pick_number-made.ensures.free

pub returns-clause-changes : goal.returns-clause-changes
unfolding tree
returns-clause-changes c =
    let geometry = c.args.geometry.now in
    let old = c.args.image.now in
    let picked = c.pick_number-made.new.image in
    let mid = c.make_file.new.image in
    let entered = c.enter.new.image in
    let new = c.put_time.new.image in
    let d = c.args.dir in
    let i = c.pick_number-made.result in
    let name = c.args.name.now in
    let moment = c.args.node.moment in
    let node = new_node geometry.edition c.args.node.owner moment c.args.node.permissions (new_content geometry.edition c.args.file) 1 0 in
    let same = c.pick_number-made.ensures.graph in
    let ready = ready_same geometry old picked c.requires.ready c.pick_number-made.ensures.changed.keeps same in
    let is = directory_kept geometry old picked d (same.kind d) c.requires.directory in
    let takes = subst (λ (s : State). TakesName s d name) (sym c.pick_number-made.ensures.changed.makes) c.requires.takes in
    let added = keeps_then geometry picked mid entered c.make_file.ensures.changed.keeps c.enter.ensures.changed.keeps in
    let s = new_slot (names_in (slots geometry mid d)) in
    let file = named_ready geometry picked entered d name ready is takes c.requires.component added
    (λ sound fresh. added_file_sound (graph_of geometry picked) (graph_of geometry entered) (root_of geometry) geometry.last_inode i d s name
    (graph_within geometry picked) (graph_within geometry entered) sound fresh (omega (arith, c.pick_number-made.ensures.free.above))
    (file_added (graph_of geometry picked) (graph_of geometry mid) (graph_of geometry entered) i d s name (new_kind c.args.file) (used_kind c.args.file) (other_kind c.args.file) c.make_file.ensures.graph
    (directory_to geometry picked d is) c.enter.ensures.slot c.enter.ensures.beside)) in
    record {
      ready = ready_same geometry entered new file c.put_time.ensures.changed.keeps c.put_time.ensures.graph;
      around = (keeps_then geometry old picked new c.pick_number-made.ensures.changed.keeps
          (keeps_then geometry picked entered new added c.put_time.ensures.changed.keeps)).around;
      makes = c.put_time.ensures.changed.makes
          ∙ ap (at_time moment)
          (c.enter.ensures.changed.makes
          ∙ ap (add_entry moment d name i)
          (c.make_file.ensures.changed.makes ∙ ap (λ (s : State). put_shape i no_shape (put_node i (Some node) s)) c.pick_number-made.ensures.changed.makes));
    }

pub returns-clause-list : goal.returns-clause-list
unfolding tree
returns-clause-list c = λ blocks free.
    let geometry = c.args.geometry.now in
    let d = c.args.dir in
    let i = c.pick_number-made.result in
    let node = new_node geometry.edition c.args.node.owner c.args.node.moment c.args.node.permissions (new_content geometry.edition c.args.file) 1 0 in
    let same = c.make_file.ensures.changed.makes
    ∙ (made_state geometry c.pick_number-made.new.image i (Some node) c.pick_number-made.ensures.free
    ∙ ap (put_node i (Some node)) c.pick_number-made.ensures.changed.makes) in
    let need : entry_need (state geometry c.make_file.new.image) d ≡ entry_need (state geometry c.args.image.now) d = ap (λ (s : State). entry_need s d) same in
    subst (λ n. IsFree geometry c.put_time.new.image (drop n blocks)) need
    (c.put_time.ensures.changed.free _ (c.enter.ensures.changed.free _ (c.make_file.ensures.changed.free _ (c.pick_number-made.ensures.changed.free blocks free))))

pub returns-clause-bytes : goal.returns-clause-bytes
returns-clause-bytes c =
    let geometry = c.args.geometry.now in
    let old = c.args.image.now in
    let picked = c.pick_number-made.new.image in
    let mid = c.make_file.new.image in
    let entered = c.enter.new.image in
    let new = c.put_time.new.image in
    let d = c.args.dir in
    let was = c.requires.directory in
    let still = c.pick_number-made.ensures.changed.content d was.first was.last tt in
    let other = not_made (graph_of geometry picked) d c.pick_number-made.result
    (directory_to geometry picked d (directory_stays geometry old picked d still was)) c.make_file.ensures.graph.was in
    let before = content_then geometry old picked mid d still (c.make_file.ensures.changed.content d was.first was.last other) in
    let is = directory_kept geometry mid entered d (c.enter.ensures.beside.kind d) (directory_stays geometry old mid d before was) in
    bytes_put geometry old mid entered new d (16 * c.args.slot) (slot_bytes c.args.name.now c.pick_number-made.result) before was c.enter.ensures.bytes (c.put_time.ensures.changed.content d was.first was.last tt) is

pub returns-clause-files : goal.returns-clause-files
returns-clause-files c = λ j low high there here.
    let geometry = c.args.geometry.now in
    let picked = c.pick_number-made.new.image in
    let mid = c.make_file.new.image in
    let entered = c.enter.new.image in
    let new = c.put_time.new.image in
    content_then geometry c.args.image.now picked new j (c.pick_number-made.ensures.changed.content j low high tt)
    (content_then geometry picked mid new j (c.make_file.ensures.changed.content j low high here)
    (content_then geometry mid entered new j (c.enter.ensures.changed.content j low high there) (c.put_time.ensures.changed.content j low high tt)))

pub returns-clause-unused : goal.returns-clause-unused
returns-clause-unused c = λ v7.
    let geometry = c.args.geometry.now in
    let i = c.pick_number-made.result in
    let free = c.pick_number-made.ensures.free in
    (time_unused geometry c.enter.new.image c.put_time.new.image i c.put_time.ensures.others).stays v7
    ∙ ((c.enter.ensures.unused i (omega (arith, free.above)) free.within).stays v7 ∙ c.make_file.ensures.unused v7)

pub returns-clause-others : goal.returns-clause-others
returns-clause-others c = λ j low high other.
    let geometry = c.args.geometry.now in
    let picked = c.pick_number-made.new.image in
    let mid = c.make_file.new.image in
    let entered = c.enter.new.image in
    let new = c.put_time.new.image in
    unused_then geometry c.args.image.now picked new j (c.pick_number-made.ensures.unused j low high)
    (unused_then geometry picked mid new j (c.make_file.ensures.others j low high other)
    (unused_then geometry mid entered new j (c.enter.ensures.unused j low high) (time_unused geometry entered new j c.put_time.ensures.others)))
