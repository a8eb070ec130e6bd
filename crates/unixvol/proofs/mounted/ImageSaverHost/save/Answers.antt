use Rattle.std.proofs.Common.{refl, sym, ◌∙◌}
use Rattle.unixvol.proofs.mounted.ImageSaverHost.save.Goals as goal

pub invariant_of-saved : goal.invariant_of-saved
invariant_of-saved g c = record {
  stored = ∣ (
    c.part_of-part.result.at,
    (c.part_of-part.result, refl, c.part_of-part.ensures.bytes ∙ (c.as_bytes.ensures ∙ sym c.of.ensures), c.in_default.ensures.saved),
  ) ∣₁;
}
