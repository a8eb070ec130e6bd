use Rattle.std.proofs.Common.{◌∙◌, ap, sym, arith}
use Rattle.vol_layout.specs.BlockMaps.{has_places}
use Rattle.vol_layout.specs.declared.mode.Kind.TheVariants as kinds
use Rattle.vol_layout.proofs.EditionLaws.{super_order}
use Rattle.vol_layout.proofs.InodeLaws.{place_room}
use Rattle.vol_change.proofs.BodyChanges.{body_cut, cut_beside}
use Rattle.vol_change.proofs.CallSteps.{changed, made_truncate}
use Rattle.vol_change.proofs.CutCounts.{cut_number}
use Rattle.vol_change.proofs.ListWrites.{stored_then}
use Rattle.vol_change.proofs.OneNode.{content_then}
use Rattle.vol_change.proofs.ReadyLaws.{ready_whole}
use Rattle.vol_change.proofs.UnusedBytes.{unused_then}
use Rattle.vol_change.proofs.UnusedNodes.{time_unused}
use Rattle.vol_change.proofs.WholeLaws.{zone_behind}
use Rattle.vol_change.proofs.WrittenStates.{IsKind}
use Rattle.vol_change.proofs.image_changes.truncate.truncate.Goals as goal

pub truncate-given-requires-clause-file : goal.truncate-given-requires-clause-file
truncate-given-requires-clause-file c = record { first = c.requires.first; last = c.requires.last; kind = ap has_places c.requires.regular }

pub truncate-given-requires-clause-sound : goal.truncate-given-requires-clause-sound
truncate-given-requires-clause-sound c =
    let rules = ready_whole c.args.geometry.now c.args.image.now c.requires.ready in record { blocks = rules.blocks; sound = rules.sound }

pub touch-requires : goal.touch-requires
touch-requires c =
    let is : IsKind c.args.geometry.now c.args.image.now c.args.i kinds.Regular =
    record { first = c.requires.first; last = c.requires.last; kind = c.requires.regular } in
    record {
      node = record {
        rules = (body_cut _ _ _ _ c.args.size (ready_whole _ _ c.requires.ready) is c.truncate-given.ensures.truncated).keeps.rules;
        first = c.requires.first;
        last = c.requires.last;
        used = (cut_beside _ _ _ _ c.args.size (ready_whole _ _ c.requires.ready) is c.truncate-given.ensures.truncated).kind;
      };
    }

pub returns : goal.returns
returns c =
    let geometry = c.args.geometry.now in
    let old = c.args.image.now in
    let mid = c.truncate-given.new.image in
    let timed = c.touch.new.image in
    let new = c.put_time.new.image in
    let rules = ready_whole geometry old c.requires.ready in
    let is : IsKind geometry old c.args.i kinds.Regular = record { first = c.requires.first; last = c.requires.last; kind = c.requires.regular } in
    let cut = body_cut geometry old mid c.args.i c.args.size rules is c.truncate-given.ensures.truncated in
    let beside = cut_beside geometry old mid c.args.i c.args.size rules is c.truncate-given.ensures.truncated in
    let cuts = c.truncate-given.ensures.truncated rules.blocks rules.sound in
    let order = (super_order geometry.edition).3 in
    let behind = zone_behind geometry old rules.sound.fits in
    record {
      changes = changed _ _ _ _ _ c.args.moment c.requires.ready
          (made_truncate geometry old mid timed c.args.i c.args.size c.args.moment c.requires.ready
          cut beside.graph
          c.touch.ensures.changed c.touch.ensures.graph)
          c.put_time.ensures.changed c.put_time.ensures.graph;
      list = λ blocks free. c.put_time.ensures.changed.free _ (c.touch.ensures.changed.free _ (cut.free blocks free));
      count = c.truncate-given.ensures.count ∙ sym (cut_number geometry old c.args.i c.args.size is);
      files = λ j low high other also.
          content_then geometry old mid new j (cut.content j low high other)
          (content_then geometry mid timed new j (c.touch.ensures.changed.content j low high tt) (c.put_time.ensures.changed.content j low high tt));
      unused = λ j low high.
          unused_then geometry old mid new j (beside.unused j low high)
          (unused_then geometry mid timed new j (c.touch.ensures.unused j low high) (time_unused geometry timed new j c.put_time.ensures.others));
      stored = stored_then geometry old timed new _ _ c.args.i c.args.size
          (stored_then geometry old mid timed _ _ c.args.i c.args.size (record { names = cuts.names; bytes = cuts.bytes })
          (c.touch.ensures.changed.content c.args.i c.requires.first c.requires.last tt) c.touch.ensures.others
          (place_room geometry mid c.args.i cut.keeps.rules.sound.fits c.requires.first c.requires.last))
          (c.put_time.ensures.changed.content c.args.i c.requires.first c.requires.last tt) c.put_time.ensures.others (omega (arith, order, behind));
    }
