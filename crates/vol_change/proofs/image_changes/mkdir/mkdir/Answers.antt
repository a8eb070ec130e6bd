use Rattle.std.proofs.Common.{◌≢◌, ◌∙◌, sym, ap, subst, ◌+◌, ◌≤◌, Some, arith, ◌≡◌, drop, slice_index, ◌*◌}
use Rattle.vol_layout.specs.declared.mode.Kind.TheVariants as kinds
use Rattle.vol_dir.specs.Entries.{slots}
use Rattle.vol_dir.specs.Names.{names_in}
use Rattle.vol_dir.specs.Search.{new_slot}
use Rattle.vol_dir.specs.Tree.{State, state, tree}
use Rattle.vol_judge.specs.Graph.{graph_of}
use Rattle.vol_judge.proofs.GraphParts.{not_free}
use Rattle.vol_judge.proofs.ImageGraphs.{directory_to, directory_from, graph_within}
use Rattle.vol_free.specs.Stack.{IsFree}
use Rattle.vol_judge.specs.Directories.{root_of}
use Rattle.vol_judge.proofs.MadeGraphs.{added_directory_sound}
use Rattle.vol_dir.specs.EntryEdits.{slot_bytes}
use Rattle.vol_change.proofs.FirstBlocks.{first_kept, first_left}
use Rattle.vol_change.proofs.FreeLists.{drop_next}
use Rattle.vol_change.proofs.OneNode.{content_then, bytes_put, directory_stays}
use Rattle.vol_change.specs.Edits.{at_time, put_node}
use Rattle.vol_change.proofs.UnusedBytes.{unused_then}
use Rattle.vol_change.proofs.WholeLaws.{keeps_then}
use Rattle.vol_change.specs.Effects.{after_mkdir}
use Rattle.vol_change.specs.Ready.{TakesName, entry_need, free_in}
use Rattle.vol_change.proofs.DotGraphs.{dotted_links, directory_added}
use Rattle.vol_change.proofs.DotStates.{bare_directory}
use Rattle.vol_change.proofs.FreeKinds.{free_kept}
use Rattle.vol_change.proofs.MadeDirectories.{room_entered, made_empty, directory_makes, links_room}
use Rattle.vol_change.proofs.NamedNodes.{not_made, made_keeps, named_ready}
use Rattle.vol_change.proofs.ReadyLaws.{ready_whole, ready_same, directory_kept}
use Rattle.vol_change.proofs.SideStates.{made_state, takes_ready, takes_kept}
use Rattle.vol_change.proofs.UnusedNodes.{time_unused}
use Rattle.vol_change.proofs.image_changes.mkdir.mkdir.Goals as goal

pub pick_number-made-requires-clause-rules : goal.pick_number-made-requires-clause-rules
pick_number-made-requires-clause-rules c = ready_whole c.args.geometry.now c.args.image.now c.requires.ready

pub enter-requires : goal.enter-requires
enter-requires c =
    let geometry = c.args.geometry.now in
    let old = c.args.image.now in
    let picked = c.pick_number-made.new.image in
    let bare = c.make_directory.new.image in
    let d = c.args.dir in
    let i = c.pick_number-made.result in
    let name = c.args.name.now in
    let node = bare_directory geometry.edition c.args.node.owner c.args.node.moment c.args.node.permissions in
    let same = c.pick_number-made.ensures.graph in
    let ready = ready_same geometry old picked c.requires.ready c.pick_number-made.ensures.changed.keeps same in
    let less : entry_need (state geometry old) d ≤ free_in (state geometry old) = omega (arith, c.requires.room) in
    let takes = takes_ready geometry picked d name ready (directory_kept geometry old picked d (same.kind d) c.requires.directory)
    (subst (λ (s : State). TakesName s d name) (sym c.pick_number-made.ensures.changed.makes) c.requires.takes)
    (subst (λ (s : State). entry_need s d ≤ free_in s) (sym c.pick_number-made.ensures.changed.makes) less) in
    let is = directory_to geometry picked d takes.directory in
    let made = takes_kept geometry picked bare d i (Some node) name (not_made (graph_of geometry picked) d i is c.make_directory.ensures.graph.was)
    (made_keeps (graph_of geometry picked) (graph_of geometry bare) d i kinds.Directory 2 c.make_directory.ensures.graph is)
    (c.make_directory.ensures.changed.makes ∙ made_state geometry picked i (Some node) c.pick_number-made.ensures.free) takes in
    record {
      slot = c.requires.slot
          ∙ ap (λ (s : State). new_slot (s.shapes d).slots)
          (sym (c.make_directory.ensures.changed.makes ∙ (made_state geometry picked i (Some node) c.pick_number-made.ensures.free
          ∙ ap (put_node i (Some node)) c.pick_number-made.ensures.changed.makes)));
      directory = record { rules = c.make_directory.ensures.changed.keeps.rules; is = made.directory; slots = made.slots; once = made.once };
      takes = made.takes;
      component = c.requires.component;
      text = c.requires.text;
      inode = omega (arith, c.pick_number-made.ensures.free.above);
      room = made.room;
    }

pub add_dots-requires-clause-directory : goal.add_dots-requires-clause-directory
add_dots-requires-clause-directory c =
    directory_from c.args.geometry.now c.enter.new.image c.pick_number-made.result
    (c.enter.ensures.beside.kind c.pick_number-made.result ∙ c.make_directory.ensures.graph.kind)

pub add_dots-requires-clause-empty : goal.add_dots-requires-clause-empty
add_dots-requires-clause-empty c =
    let geometry = c.args.geometry.now in
    let picked = c.pick_number-made.new.image in
    let d = c.args.dir in
    let i = c.pick_number-made.result in
    let is = c.pick_number-made.ensures.graph.kind d ∙ directory_to geometry c.args.image.now d c.requires.directory in
    made_empty geometry picked c.make_directory.new.image c.enter.new.image c.args.node.owner c.args.node.moment c.args.node.permissions i d c.args.name.now
    (λ e. not_made (graph_of geometry picked) d i is c.make_directory.ensures.graph.was (sym e)) c.make_directory.ensures.changed.makes c.enter.ensures.changed.makes

pub add_dots-requires-clause-room : goal.add_dots-requires-clause-room
unfolding tree
add_dots-requires-clause-room c =
    let geometry = c.args.geometry.now in
    let d = c.args.dir in
    let i = c.pick_number-made.result in
    let name = c.args.name.now in
    let moment = c.args.node.moment in
    let node = bare_directory geometry.edition c.args.node.owner moment c.args.node.permissions in
    let made = c.make_directory.ensures.changed.makes
    ∙ (made_state geometry c.pick_number-made.new.image i (Some node) c.pick_number-made.ensures.free
    ∙ ap (put_node i (Some node)) c.pick_number-made.ensures.changed.makes) in
    let room : entry_need (state geometry c.make_directory.new.image) d + 1 ≤ free_in (state geometry c.make_directory.new.image) =
    subst (λ (s : State). entry_need s d + 1 ≤ free_in s) (sym made) c.requires.room in
    subst (λ (s : State). 1 ≤ free_in s) (sym c.enter.ensures.changed.makes)
    (room_entered (state geometry c.make_directory.new.image) moment d i name c.requires.directory.first c.requires.directory.last room)

pub add_link-requires-clause-room : goal.add_link-requires-clause-room
add_link-requires-clause-room c =
    let geometry = c.args.geometry.now in
    let old = c.args.image.now in
    let picked = c.pick_number-made.new.image in
    let d = c.args.dir in
    let i = c.pick_number-made.result in
    let same = c.pick_number-made.ensures.graph in
    let was = directory_to geometry old d c.requires.directory in
    let is = same.kind d ∙ was in
    links_room geometry old c.add_dots.new.image d (ready_whole geometry old c.requires.ready).sound.kinds c.requires.directory
    (dotted_links (graph_of geometry picked) (graph_of geometry c.make_directory.new.image) (graph_of geometry c.enter.new.image)
    (graph_of geometry c.add_dots.new.image) i d d c.make_directory.ensures.graph c.enter.ensures.beside c.add_dots.ensures.graph
    (not_made (graph_of geometry picked) d i is c.make_directory.ensures.graph.was) (not_free _ is)
    ∙ same.links d (not_free _ was)) c.requires.links

pub add_link-requires-clause-node : goal.add_link-requires-clause-node
add_link-requires-clause-node c =
    let geometry = c.args.geometry.now in
    let d = c.args.dir in
    let made = c.make_directory.ensures.graph in
    let is = c.pick_number-made.ensures.graph.kind d ∙ directory_to geometry c.args.image.now d c.requires.directory in
    let still = c.add_dots.ensures.graph.beside.kind d ∙ (c.enter.ensures.beside.kind d
    ∙ (made.others.kind d (not_made (graph_of geometry c.pick_number-made.new.image) d c.pick_number-made.result is made.was) ∙ is)) in
    record {
      rules = c.add_dots.ensures.changed.keeps.rules;
      first = c.requires.directory.first;
      last = c.requires.directory.last;
      used = not_free _ (directory_from geometry c.add_dots.new.image d still).kind;
    }

pub returns-clause-free : goal.returns-clause-free
returns-clause-free c =
    free_kept c.args.geometry.now c.pick_number-made.new.image c.args.image.now c.pick_number-made.result
    (sym (c.pick_number-made.ensures.graph.kind c.pick_number-made.result)) c.pick_number-made.ensures.free

pub returns-clause-changes : goal.returns-clause-changes
returns-clause-changes c =
    let geometry = c.args.geometry.now in
    let old = c.args.image.now in
    let picked = c.pick_number-made.new.image in
    let bare = c.make_directory.new.image in
    let named = c.enter.new.image in
    let dotted = c.add_dots.new.image in
    let linked = c.add_link.new.image in
    let new = c.put_time.new.image in
    let d = c.args.dir in
    let i = c.pick_number-made.result in
    let name = c.args.name.now in
    let moment = c.args.node.moment in
    let same = c.pick_number-made.ensures.graph in
    let ready = ready_same geometry old picked c.requires.ready c.pick_number-made.ensures.changed.keeps same in
    let is = directory_kept geometry old picked d (same.kind d) c.requires.directory in
    let takes = subst (λ (s : State). TakesName s d name) (sym c.pick_number-made.ensures.changed.makes) c.requires.takes in
    let apart : i ≢ d = λ e. not_made (graph_of geometry picked) d i (directory_to geometry picked d is) c.make_directory.ensures.graph.was (sym e) in
    let keeps = keeps_then geometry picked bare linked c.make_directory.ensures.changed.keeps
    (keeps_then geometry bare named linked c.enter.ensures.changed.keeps
    (keeps_then geometry named dotted linked c.add_dots.ensures.changed.keeps c.add_link.ensures.changed.keeps)) in
    let s = new_slot (names_in (slots geometry bare d)) in
    let made = named_ready geometry picked linked d name ready is takes c.requires.component keeps
    (λ sound fresh. added_directory_sound (graph_of geometry picked) (graph_of geometry linked) (root_of geometry) geometry.last_inode i d s name
    (graph_within geometry picked) (graph_within geometry linked) sound fresh (omega (arith, c.pick_number-made.ensures.free.above))
    (directory_added (graph_of geometry picked) (graph_of geometry bare) (graph_of geometry named) (graph_of geometry dotted) (graph_of geometry linked)
    i d s name apart c.make_directory.ensures.graph c.enter.ensures.slot c.enter.ensures.beside c.add_dots.ensures.graph c.add_link.ensures.graph)) in
    record {
      ready = ready_same geometry linked new made c.put_time.ensures.changed.keeps c.put_time.ensures.graph;
      around = (keeps_then geometry old picked new c.pick_number-made.ensures.changed.keeps
          (keeps_then geometry picked linked new keeps c.put_time.ensures.changed.keeps)).around;
      makes = c.put_time.ensures.changed.makes
          ∙ ap (at_time moment)
          (directory_makes geometry picked bare named dotted linked c.args.node.owner moment c.args.node.permissions i d name apart
          c.make_directory.ensures.changed.makes c.enter.ensures.changed.makes c.add_dots.ensures.changed.makes c.add_link.ensures.changed.makes
          ∙ ap (λ (s : State). after_mkdir s c.args.node.owner moment c.args.node.permissions i d name) c.pick_number-made.ensures.changed.makes);
    }

pub returns-clause-list : goal.returns-clause-list
unfolding tree
returns-clause-list c = λ blocks free.
    let geometry = c.args.geometry.now in
    let d = c.args.dir in
    let i = c.pick_number-made.result in
    let node = bare_directory geometry.edition c.args.node.owner c.args.node.moment c.args.node.permissions in
    let same = c.make_directory.ensures.changed.makes
    ∙ (made_state geometry c.pick_number-made.new.image i (Some node) c.pick_number-made.ensures.free
    ∙ ap (put_node i (Some node)) c.pick_number-made.ensures.changed.makes) in
    let need : entry_need (state geometry c.make_directory.new.image) d ≡ entry_need (state geometry c.args.image.now) d =
    ap (λ (s : State). entry_need s d) same in
    let n = entry_need (state geometry c.args.image.now) d in
    subst (IsFree geometry c.put_time.new.image) (drop_next n blocks)
    (subst (λ m. IsFree geometry c.put_time.new.image (drop 1 (drop m blocks))) need
    (c.put_time.ensures.changed.free _ (c.add_link.ensures.changed.free _ (c.add_dots.ensures.changed.free _ (c.enter.ensures.changed.free _
    (c.make_directory.ensures.changed.free _ (c.pick_number-made.ensures.changed.free blocks free)))))))

pub returns-clause-own : goal.returns-clause-own
unfolding tree
returns-clause-own c = λ blocks free.
    let geometry = c.args.geometry.now in
    let d = c.args.dir in
    let i = c.pick_number-made.result in
    let dotted = c.add_dots.new.image in
    let new = c.put_time.new.image in
    let first : 1 ≤ i = omega (arith, c.pick_number-made.ensures.free.above) in
    let last = c.pick_number-made.ensures.free.within in
    let node = bare_directory geometry.edition c.args.node.owner c.args.node.moment c.args.node.permissions in
    let same = c.make_directory.ensures.changed.makes
    ∙ (made_state geometry c.pick_number-made.new.image i (Some node) c.pick_number-made.ensures.free
    ∙ ap (put_node i (Some node)) c.pick_number-made.ensures.changed.makes) in
    let need : entry_need (state geometry c.make_directory.new.image) d ≡ entry_need (state geometry c.args.image.now) d =
    ap (λ (s : State). entry_need s d) same in
    first_kept geometry dotted new i
    (content_then geometry dotted c.add_link.new.image new i (c.add_link.ensures.changed.content i first last tt) (c.put_time.ensures.changed.content i first last tt))
    ∙ (c.add_dots.ensures.own _
    (c.enter.ensures.changed.free _ (c.make_directory.ensures.changed.free _ (c.pick_number-made.ensures.changed.free blocks free)))
    ∙ (first_left (entry_need (state geometry c.make_directory.new.image) d) blocks ∙ ap (slice_index blocks) need))

pub returns-clause-bytes : goal.returns-clause-bytes
returns-clause-bytes c =
    let geometry = c.args.geometry.now in
    let old = c.args.image.now in
    let picked = c.pick_number-made.new.image in
    let bare = c.make_directory.new.image in
    let named = c.enter.new.image in
    let dotted = c.add_dots.new.image in
    let linked = c.add_link.new.image in
    let new = c.put_time.new.image in
    let d = c.args.dir in
    let was = c.requires.directory in
    let still = c.pick_number-made.ensures.changed.content d was.first was.last tt in
    let other = not_made (graph_of geometry picked) d c.pick_number-made.result
    (directory_to geometry picked d (directory_stays geometry old picked d still was)) c.make_directory.ensures.graph.was in
    let before = content_then geometry old picked bare d still (c.make_directory.ensures.changed.content d was.first was.last other) in
    let is = directory_kept geometry bare named d (c.enter.ensures.beside.kind d) (directory_stays geometry old bare d before was) in
    bytes_put geometry old bare named new d (16 * c.args.slot) (slot_bytes c.args.name.now c.pick_number-made.result) before was c.enter.ensures.bytes
    (content_then geometry named dotted new d (c.add_dots.ensures.changed.content d was.first was.last other)
    (content_then geometry dotted linked new d (c.add_link.ensures.changed.content d was.first was.last tt)
    (c.put_time.ensures.changed.content d was.first was.last tt))) is

pub returns-clause-files : goal.returns-clause-files
returns-clause-files c = λ j low high there here.
    let geometry = c.args.geometry.now in
    let picked = c.pick_number-made.new.image in
    let bare = c.make_directory.new.image in
    let named = c.enter.new.image in
    let dotted = c.add_dots.new.image in
    let linked = c.add_link.new.image in
    let new = c.put_time.new.image in
    content_then geometry c.args.image.now picked new j (c.pick_number-made.ensures.changed.content j low high tt)
    (content_then geometry picked bare new j (c.make_directory.ensures.changed.content j low high here)
    (content_then geometry bare named new j (c.enter.ensures.changed.content j low high there)
    (content_then geometry named dotted new j (c.add_dots.ensures.changed.content j low high here)
    (content_then geometry dotted linked new j (c.add_link.ensures.changed.content j low high tt) (c.put_time.ensures.changed.content j low high tt)))))

pub returns-clause-unused : goal.returns-clause-unused
returns-clause-unused c = λ v7.
    let geometry = c.args.geometry.now in
    let i = c.pick_number-made.result in
    let free = c.pick_number-made.ensures.free in
    let first : 1 ≤ i = omega (arith, free.above) in
    (time_unused geometry c.add_link.new.image c.put_time.new.image i c.put_time.ensures.others).stays v7
    ∙ ((c.add_link.ensures.unused i first free.within).stays v7
    ∙ ((c.add_dots.ensures.unused i first free.within).stays v7
    ∙ ((c.enter.ensures.unused i first free.within).stays v7 ∙ c.make_directory.ensures.unused v7)))

pub returns-clause-others : goal.returns-clause-others
returns-clause-others c = λ j low high other.
    let geometry = c.args.geometry.now in
    let picked = c.pick_number-made.new.image in
    let bare = c.make_directory.new.image in
    let named = c.enter.new.image in
    let dotted = c.add_dots.new.image in
    let linked = c.add_link.new.image in
    let new = c.put_time.new.image in
    unused_then geometry c.args.image.now picked new j (c.pick_number-made.ensures.unused j low high)
    (unused_then geometry picked bare new j (c.make_directory.ensures.others j low high other)
    (unused_then geometry bare named new j (c.enter.ensures.unused j low high)
    (unused_then geometry named dotted new j (c.add_dots.ensures.unused j low high)
    (unused_then geometry dotted linked new j (c.add_link.ensures.unused j low high)
    (time_unused geometry linked new j c.put_time.ensures.others)))))
