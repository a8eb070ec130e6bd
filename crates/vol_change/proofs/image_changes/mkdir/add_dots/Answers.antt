use Rattle.std.proofs.Common.{◌∙◌, ap, sym, ◌%◌, [], arith, subst, drop, length, ◌≢◌, ℕ, ◌≤◌}
use Rattle.vol_dir.specs.Entries.{slots}
use Rattle.vol_dir.specs.Names.{dot, dot_dot, get, names_in}
use Rattle.vol_dir.specs.Search.{new_slot}
use Rattle.vol_dir.specs.Tree.{no_shape, tree, state}
use Rattle.vol_judge.specs.Graph.{graph_of, entry_by}
use Rattle.vol_judge.proofs.ImageGraphs.{directory_to}
use Rattle.vol_free.specs.Stack.{IsFree}
use Rattle.vol_change.specs.Changed.{FreeBecomes}
use Rattle.vol_change.specs.Alone.{KeepsContent}
use Rattle.vol_change.proofs.ReadyLaws.{directory_kept}
use Rattle.vol_change.proofs.FileRooms.{room_is}
use Rattle.vol_change.proofs.FreeLists.{one_list}
use Rattle.vol_change.proofs.FirstBlocks.{first_taken}
use Rattle.vol_change.proofs.OneNode.{content_then}
use Rattle.vol_change.specs.Ready.{entry_need}
use Rattle.vol_change.specs.Contents.{put_entry}
use Rattle.vol_change.proofs.WholeLaws.{keeps_then}
use Rattle.vol_change.proofs.DotGraphs.{dots_added}
use Rattle.vol_layout.proofs.EditionLaws.{dots_fit}
use Rattle.vol_change.proofs.DotImages.{names_held, size_held, first_slot, no_entry, none_twice, dot_room, dot_there, second_slot, dot_dot_new, dot_dot_room, dots_size, dot_need, dot_dot_need, dots_places}
use Rattle.vol_change.proofs.UnusedBytes.{unused_then}
use Rattle.vol_change.proofs.image_changes.mkdir.add_dots.Goals as goal
use Rattle.vol_change.proofs.image_changes.mkdir.add_dots.Goals.{After-add_name-2}

pub add_name-requires-clause-slot : goal.add_name-requires-clause-slot
add_name-requires-clause-slot c = sym (first_slot c.args.geometry.now c.args.image.now c.args.i c.requires.directory c.requires.empty)

pub add_name-requires-2-clause-slot : goal.add_name-requires-2-clause-slot
add_name-requires-2-clause-slot c =
    sym (second_slot c.args.geometry.now c.add_name.new.image c.args.i
    (dot_there c.args.geometry.now c.args.image.now c.add_name.new.image c.args.i c.requires.directory c.requires.empty c.add_name.ensures.changed.makes c.add_name.ensures.beside))

pub add_name-requires-clause-directory : goal.add_name-requires-clause-directory
add_name-requires-clause-directory c = record {
  rules = c.requires.rules;
  is = c.requires.directory;
  slots = ap (λ n. n % 16) (size_held c.args.geometry.now c.args.image.now c.args.i 0 [] no_shape c.requires.directory c.requires.empty);
  once = none_twice c.args.geometry.now c.args.image.now c.args.i no_shape c.requires.directory c.requires.empty;
}

pub add_name-requires-clause-new : goal.add_name-requires-clause-new
add_name-requires-clause-new c =
    ap (λ names. get names dot) (names_held c.args.geometry.now c.args.image.now c.args.i 0 [] no_shape c.requires.directory c.requires.empty)

pub add_name-requires-clause-greatest : goal.add_name-requires-clause-greatest
add_name-requires-clause-greatest c =
    let first = first_slot c.args.geometry.now c.args.image.now c.args.i c.requires.directory c.requires.empty in
    omega (arith, first, dots_fit c.args.geometry.now.edition)

pub add_name-requires-clause-room : goal.add_name-requires-clause-room
unfolding tree
add_name-requires-clause-room c = dot_room c.args.geometry.now c.args.image.now c.args.i c.requires.rules c.requires.directory c.requires.empty c.requires.room

pub add_name-requires-2-clause-directory : goal.add_name-requires-2-clause-directory
add_name-requires-2-clause-directory c = record {
  rules = c.add_name.ensures.changed.keeps.rules;
  is = directory_kept c.args.geometry.now c.args.image.now c.add_name.new.image c.args.i (c.add_name.ensures.beside.kind c.args.i) c.requires.directory;
  slots = c.add_name.ensures.slot.whole;
  once = c.add_name.ensures.once;
}

pub add_name-requires-2-clause-new : goal.add_name-requires-2-clause-new
add_name-requires-2-clause-new c =
    dot_dot_new c.args.geometry.now c.add_name.new.image c.args.i
    (dot_there c.args.geometry.now c.args.image.now c.add_name.new.image c.args.i c.requires.directory c.requires.empty c.add_name.ensures.changed.makes c.add_name.ensures.beside)

pub add_name-requires-2-clause-greatest : goal.add_name-requires-2-clause-greatest
add_name-requires-2-clause-greatest c =
    let second =
    second_slot c.args.geometry.now c.add_name.new.image c.args.i
    (dot_there c.args.geometry.now c.args.image.now c.add_name.new.image c.args.i c.requires.directory c.requires.empty c.add_name.ensures.changed.makes c.add_name.ensures.beside) in
    omega (arith, second, dots_fit c.args.geometry.now.edition)

pub add_name-requires-2-clause-room : goal.add_name-requires-2-clause-room
add_name-requires-2-clause-room c =
    let dotted =
    dot_there c.args.geometry.now c.args.image.now c.add_name.new.image c.args.i c.requires.directory c.requires.empty c.add_name.ensures.changed.makes c.add_name.ensures.beside in
    dot_dot_room c.args.geometry.now c.add_name.new.image c.args.i _ c.add_name.ensures.changed.keeps.rules dotted.is dotted.has

-- one block is taken: `.` needs one, and `..` needs none
taken : (c : After-add_name-2) → FreeBecomes c.args.geometry.now c.args.image.now c.add_name-2.new.image (drop 1)
taken c = λ blocks free.
    let geometry = c.args.geometry.now in
    let old = c.args.image.now in
    let mid = c.add_name.new.image in
    let new = c.add_name-2.new.image in
    let dotted = dot_there geometry old mid c.args.i c.requires.directory c.requires.empty c.add_name.ensures.changed.makes c.add_name.ensures.beside in
    subst (λ n. IsFree geometry new (drop n blocks)) (dot_need geometry old c.args.i c.requires.empty)
    (subst (λ n. IsFree geometry new (drop n (drop (entry_need (state geometry old) c.args.i) blocks)))
    (dot_dot_need geometry mid c.args.i _ dotted.has)
    (c.add_name-2.ensures.changed.free _ (c.add_name.ensures.changed.free blocks free)))

-- the content of other nodes doesn't change
stays : (c : After-add_name-2) (j : ℕ) → 1 ≤ j → j ≤ c.args.geometry.now.last_inode → j ≢ c.args.i
    → KeepsContent c.args.geometry.now c.args.image.now c.add_name-2.new.image j
stays c j first last other =
    content_then c.args.geometry.now c.args.image.now c.add_name.new.image c.add_name-2.new.image j
    (c.add_name.ensures.changed.content j first last other) (c.add_name-2.ensures.changed.content j first last other)

pub returns-clause-changed : goal.returns-clause-changed
returns-clause-changed c =
    let geometry = c.args.geometry.now in
    let old = c.args.image.now in
    let mid = c.add_name.new.image in
    let new = c.add_name-2.new.image in
    record {
      keeps = keeps_then geometry old mid new c.add_name.ensures.changed.keeps c.add_name-2.ensures.changed.keeps;
      makes = c.add_name-2.ensures.changed.makes ∙ ap (put_entry c.args.i dot_dot c.args.dir) c.add_name.ensures.changed.makes;
      free = taken c;
      content = stays c;
    }

pub returns-clause-own : goal.returns-clause-own
unfolding tree
returns-clause-own c = λ blocks free.
    let geometry = c.args.geometry.now in
    let old = c.args.image.now in
    let mid = c.add_name.new.image in
    let new = c.add_name-2.new.image in
    let i = c.args.i in
    let dotted = dot_there geometry old mid i c.requires.directory c.requires.empty c.add_name.ensures.changed.makes c.add_name.ensures.beside in
    let is = directory_kept geometry mid new i (c.add_name-2.ensures.beside.kind i) dotted.is in
    let some = room_is geometry old 1 c.requires.rules c.requires.room c.requires.rules.blocks c.requires.rules.sound in
    let length = ap length (one_list geometry old blocks c.requires.rules free) in
    first_taken geometry old new i blocks c.requires.rules c.add_name-2.ensures.changed.keeps.rules
    (taken c) (stays c) (record { first = is.first; last = is.last; kind = is.kind })
    (dots_places geometry mid new i c.args.dir dotted c.add_name-2.ensures.changed.makes) (omega (arith, some, length)) free

pub returns-clause-graph : goal.returns-clause-graph
returns-clause-graph c =
    let geometry = c.args.geometry.now in
    let old = c.args.image.now in
    let mid = c.add_name.new.image in
    let new = c.add_name-2.new.image in
    let i = c.args.i in
    let dotted = dot_there geometry old mid i c.requires.directory c.requires.empty c.add_name.ensures.changed.makes c.add_name.ensures.beside in
    dots_added (graph_of geometry old) (graph_of geometry mid) (graph_of geometry new) i c.args.dir (new_slot (names_in (slots geometry old i)))
    (new_slot (names_in (slots geometry mid i))) c.add_name.ensures.slot c.add_name.ensures.beside c.add_name-2.ensures.slot c.add_name-2.ensures.beside
    (first_slot geometry old i c.requires.directory c.requires.empty) (second_slot geometry mid i dotted)
    (dots_size geometry mid new i c.args.dir dotted c.add_name-2.ensures.changed.makes c.add_name-2.ensures.beside)
    (λ s. ap (λ k. entry_by k geometry old i s) (directory_to geometry old i c.requires.directory)
    ∙ no_entry geometry old i s no_shape c.requires.directory c.requires.empty)

pub returns-clause-unused : goal.returns-clause-unused
returns-clause-unused c = λ j first last.
    unused_then c.args.geometry.now c.args.image.now c.add_name.new.image c.add_name-2.new.image j (c.add_name.ensures.unused j first last)
    (c.add_name-2.ensures.unused j first last)
