use Rattle.std.proofs.Common.{◌==◌, ◌∙◌, None, ap, sym, length, arith}
use Rattle.std.proofs.lemmas.List.Splits.{length-slice_split}
use Rattle.std.proofs.lemmas.List.Sums.{count_by-le-length}
use Rattle.bad_maps.specs.Maps.{ranges_from}
use Rattle.bad_maps.proofs.maps.read_map.Goals as goal

pub lines-init : goal.lines-init
lines-init c =
    let few = count_by-le-length (λ b. b == 10) c.args.text.now in
    let count = ap length c.of-lines.ensures ∙ length-slice_split (λ b. b == 10) c.args.text.now in record {
      same = sym (λ k. ranges_from 0 None (c.new.ensures.items k) (c.of-lines.ensures k));
      few = omega (arith, few, count);
    }
