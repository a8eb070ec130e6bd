use Rattle.std.proofs.Common.{◌∙◌, map}
use Rattle.vol_losses.specs.Spans.{span_in}
use Rattle.vol_losses.proofs.spans.lost_spans.Goals as goal

pub returns : goal.returns
returns c = (
  c.in_ok-ranges.ranges.items,
  c.in_ok-ranges.ensures.exact,
  c.in_ok-spans.ensures ∙ (λ k. map (span_in (c.body_size.ensures k)) (c.deref.ensures.value k)),
)
