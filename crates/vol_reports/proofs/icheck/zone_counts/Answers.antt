use Rattle.std.proofs.Common.{◌+◌, ◌-◌, arith}
use Rattle.count_table.specs.Tallies.{items_of}
use Rattle.vol_reports.specs.FromWords.{is_used_in, is_met_in, is_lost_in}
use Rattle.vol_reports.proofs.Ranges.{room_more, counted_more}
use Rattle.vol_reports.proofs.icheck.zone_counts.Goals as goal

pub overflow_add-counts : goal.overflow_add-counts
overflow_add-counts c =
    let g = c.args.geometry.now in
    let room = room_more (is_used_in g (items_of c.args.words.now)) g.zone_start (c.loop-b.b - g.zone_start) c.loop-b.counts.used
    c.from.result c.is_used.result c.loop-b.invariant.used c.from.ensures (omega arith) in
    omega arith

pub overflow_add-counts-in-loop-b : goal.overflow_add-counts-in-loop-b
overflow_add-counts-in-loop-b c =
    let g = c.args.geometry.now in
    let room = room_more (is_met_in g (items_of c.args.words.now)) g.zone_start (c.loop-b.b - g.zone_start) c.loop-b.counts.free
    c.from-in-loop-b.result c.is_free.result c.loop-b.invariant.free c.from-in-loop-b.ensures (omega arith) in
    omega arith

pub overflow_add-counts-in-loop-b-2 : goal.overflow_add-counts-in-loop-b-2
overflow_add-counts-in-loop-b-2 c =
    let g = c.args.geometry.now in
    let room = room_more (is_lost_in g (items_of c.args.words.now)) g.zone_start (c.loop-b.b - g.zone_start) c.loop-b.counts.missing
    c.from-in-loop-b-2.result c.is_lost.result c.loop-b.invariant.missing c.from-in-loop-b-2.ensures (omega arith) in
    omega arith

pub loop-b-preserved : goal.loop-b-preserved
loop-b-preserved c =
    let g = c.args.geometry.now in
    let words = items_of c.args.words.now in
    record {
      used = counted_more (is_used_in g words) g.zone_start (c.loop-b.b - g.zone_start) (c.loop-b.b + 1 - g.zone_start) c.loop-b.b c.loop-b.counts.used c.from.result c.is_used.result
          (omega arith) (omega arith) c.loop-b.invariant.used c.from.ensures c.is_used.ensures;
      free = counted_more (is_met_in g words) g.zone_start (c.loop-b.b - g.zone_start) (c.loop-b.b + 1 - g.zone_start) c.loop-b.b c.loop-b.counts.free c.from-in-loop-b.result c.is_free.result
          (omega arith) (omega arith) c.loop-b.invariant.free c.from-in-loop-b.ensures c.is_free.ensures;
      missing = counted_more (is_lost_in g words) g.zone_start (c.loop-b.b - g.zone_start) (c.loop-b.b + 1 - g.zone_start) c.loop-b.b c.loop-b.counts.missing c.from-in-loop-b-2.result c.is_lost.result
          (omega arith) (omega arith) c.loop-b.invariant.missing c.from-in-loop-b-2.ensures c.is_lost.ensures;
    }
