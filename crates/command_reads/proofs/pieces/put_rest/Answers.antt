use Rattle.std.proofs.Common.{◌∙◌, ◌+◌, ◌++◌, drop, subst, take, arith}
use Rattle.std.specs.Prelude.{slice_range}
use Rattle.std.specs.List.{flat_map}
use Rattle.std.specs.Io.KnownBytes.{Appends}
use Rattle.std.proofs.KnownBytes.{Appends-trans}
use Rattle.vol_archive.proofs.Outputs.{cut_front, cut_rest, cut_same, handed_on}
use Rattle.command_reads.specs.Json.{later_text}
use Rattle.command_reads.proofs.ListTexts.{few_around, few_more}
use Rattle.command_reads.proofs.pieces.put_rest.Goals as goal

pub loop-from-preserved : goal.loop-from-preserved
loop-from-preserved g c =
    let f = later_text g.T.Shown.shown in
    record {
      within = omega arith;
      text = subst (Appends (g.O.Sink.contents c.args.output.now) (g.O.Sink.contents c.put_few.new.output))
          (few_more f c.args.items.now c.loop-from.from c.min-few.result)
          (Appends-trans _ _ _ _ _ c.loop-from.invariant.text c.in_ok-put_few.ensures.0);
      working = c.in_ok-put_few.ensures.1 ∙ c.loop-from.invariant.working;
    }

pub returns-in_err-put_few : goal.returns-in_err-put_few
returns-in_err-put_few g c =
    let f = later_text g.T.Shown.shown in
    let items = c.args.items.now in
    let from = c.loop-from.from in
    let few = c.min-few.result in
    let now = flat_map f (slice_range items from (from + few)) in
    let rest = flat_map f (drop (from + few) items) in
    handed_on _ _ _ _ _ _ c.in_err-put_few.field-0.0 c.from_residual.ensures
    (cut_same _ _ _ (flat_map f (take from items) ++ (now ++ rest)) (flat_map f items) _ (few_around f items from few)
    (cut_rest _ _ _ _ (flat_map f (take from items)) (now ++ rest) _ c.loop-from.invariant.text (cut_front _ _ _ now rest _ c.in_err-put_few.ensures)))
