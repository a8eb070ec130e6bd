use Rattle.std.proofs.Common.{◌≡◌, ◌≢◌, sym, ap, subst, refl, ℕ, ◌≤◌, List, length, drop, arith}
use Rattle.std.proofs.lemmas.Bool.Decides.{nat_tests}
use Rattle.vol_layout.specs.BlockPointers.{IsFile}
use Rattle.vol_layout.specs.BlockMaps.{has_places}
use Rattle.vol_layout.specs.declared.geometry.Geometry.{Geometry}
use Rattle.vol_layout.specs.declared.mode.Kind.TheVariants as kinds
use Rattle.vol_free.specs.Stack.{IsFree}
use Rattle.vol_file.specs.Shape.{touched}
use Rattle.vol_dir.specs.Tree.{shapes, tree, state}
use Rattle.vol_change.specs.Alone.{KeepsContent}
use Rattle.vol_change.specs.Changed.{FreeBecomes}
use Rattle.vol_change.specs.Edits.{after_write}
use Rattle.vol_change.specs.Shapes.{need_in}
use Rattle.vol_change.specs.Unused.{KeepsUnused}
use Rattle.vol_change.proofs.BodyChanges.{body_written, written_beside}
use Rattle.vol_change.proofs.CallSteps.{HasMade, changed, made_write, made_none}
use Rattle.vol_change.proofs.FileRooms.{file_room, nothing_needed}
use Rattle.vol_change.proofs.OneNode.{content_then, content_refl}
use Rattle.vol_change.proofs.ReadyLaws.{ready_whole}
use Rattle.vol_change.proofs.UnusedBytes.{unused_then, nothing_unused}
use Rattle.vol_change.proofs.UnusedNodes.{time_unused}
use Rattle.vol_change.proofs.WrittenStates.{IsKind}
use Rattle.vol_change.proofs.image_changes.write.write.Goals as goal
use Rattle.vol_change.proofs.image_changes.write.write.Goals.{After-put_time, then-not-is_empty, else-not-is_empty}

pub write-requires-clause-file : goal.write-requires-clause-file
write-requires-clause-file c = record { first = c.requires.first; last = c.requires.last; kind = ap has_places c.requires.regular }

pub write-requires-clause-sound : goal.write-requires-clause-sound
write-requires-clause-sound c =
    let rules = ready_whole c.args.geometry.now c.args.image.now c.requires.ready in record { blocks = rules.blocks; sound = rules.sound }

pub write-requires-clause-room : goal.write-requires-clause-room
unfolding tree
write-requires-clause-room c =
    let file : IsFile c.args.geometry.now c.args.image.now c.args.i =
    record { first = c.requires.first; last = c.requires.last; kind = ap has_places c.requires.regular } in
    file_room c.args.geometry.now c.args.image.now c.args.i (touched c.args.offset (length c.args.bytes.now))
    (ready_whole _ _ c.requires.ready) file c.requires.room

pub touch-requires : goal.touch-requires
touch-requires c =
    let is : IsKind c.args.geometry.now c.args.image.now c.args.i kinds.Regular =
    record { first = c.requires.first; last = c.requires.last; kind = c.requires.regular } in
    record {
      node = record {
        rules = (body_written _ _ _ _ c.args.offset c.args.bytes.now (ready_whole _ _ c.requires.ready) is (c.write.ensures.written (grind (arith, nat_tests)))).keeps.rules;
        first = c.requires.first;
        last = c.requires.last;
        used = (written_beside _ _ _ _ c.args.offset c.args.bytes.now (ready_whole _ _ c.requires.ready) is (c.write.ensures.written (grind (arith, nat_tests)))).kind;
      };
    }

pub put_time-requires : goal.put_time-requires
put_time-requires c = record {
  rules = elim c.if-not-is_empty.branch [
    | then-not-is_empty w ↦ rw w.image-is w.touch.ensures.changed.keeps.rules
    | else-not-is_empty w ↦ rw w.image-is (ready_whole _ _ c.requires.ready)
  ];
}

-- the image before the time of the volume is set
record Left (geometry : Geometry) (old new : List ℕ) (i offset moment : ℕ) (bytes : List ℕ) : Type 0 where
  pub made : HasMade geometry old new (after_write (state geometry old) moment offset bytes i)
  pub list : FreeBecomes geometry old new (drop (need_in geometry.edition (shapes geometry old i) (touched offset (length bytes))))
  pub files : (j : ℕ) → 1 ≤ j → j ≤ geometry.last_inode → j ≢ i → KeepsContent geometry old new j
  pub unused : (j : ℕ) → 1 ≤ j → j ≤ geometry.last_inode → KeepsUnused geometry old new j

-- before the volume's time is set, `Left` holds, whether there are bytes to write or not
left : (c : After-put_time) → Left c.args.geometry.now c.args.image.now c.if-not-is_empty.image c.args.i c.args.offset c.args.moment c.args.bytes.now
left c =
    let geometry = c.args.geometry.now in
    let old = c.args.image.now in
    let text = c.args.bytes.now in
    let offset = c.args.offset in
    let rules = ready_whole geometry old c.requires.ready in
    let is : IsKind geometry old c.args.i kinds.Regular = record { first = c.requires.first; last = c.requires.last; kind = c.requires.regular } in
    elim c.if-not-is_empty.branch [
      | then-not-is_empty w ↦
          let some : 1 ≤ length text = grind (arith, nat_tests) in
          let mid = w.write.new.image in
          let written = body_written geometry old mid c.args.i offset text rules is (w.write.ensures.written some) in
          let beside = written_beside geometry old mid c.args.i offset text rules is (w.write.ensures.written some) in
          rw w.image-is (record {
            made = made_write geometry old mid w.touch.new.image text c.args.i offset c.args.moment c.requires.ready some
                written beside.graph
                w.touch.ensures.changed w.touch.ensures.graph;
            list = λ blocks free. w.touch.ensures.changed.free _ (written.free blocks free);
            files = λ j low high other.
                content_then geometry old mid w.touch.new.image j (written.content j low high other) (w.touch.ensures.changed.content j low high tt);
            unused = λ j low high. unused_then geometry old mid w.touch.new.image j (beside.unused j low high) (w.touch.ensures.unused j low high);
          })
      | else-not-is_empty w ↦
          let none : length text ≡ 0 = grind (arith, nat_tests) in
          let file : IsFile geometry old c.args.i = record { first = is.first; last = is.last; kind = ap has_places is.kind } in
          rw w.image-is (record {
            made = made_none geometry old text c.args.i offset c.args.moment c.requires.ready none;
            list = λ blocks free.
                subst (λ n. IsFree geometry old (drop n blocks)) (sym (nothing_needed geometry old c.args.i offset (length text) file none)) free;
            files = λ j low high other. content_refl geometry old j;
            unused = λ j low high. nothing_unused geometry old old j refl;
          })
    ]

pub returns : goal.returns
unfolding tree
returns c =
    let geometry = c.args.geometry.now in
    let old = c.args.image.now in
    let mid = c.if-not-is_empty.image in
    let new = c.put_time.new.image in
    let left = left c in
    record {
      changes = changed _ _ _ _ _ c.args.moment c.requires.ready left.made
          c.put_time.ensures.changed c.put_time.ensures.graph;
      list = λ blocks free. c.put_time.ensures.changed.free _ (left.list blocks free);
      files = λ j low high other also. content_then geometry old mid new j (left.files j low high other) (c.put_time.ensures.changed.content j low high tt);
      unused = λ j low high.
          unused_then geometry old mid new j (left.unused j low high) (time_unused geometry mid new j c.put_time.ensures.others);
    }
