use Rattle.std.proofs.Common.{◌∙◌, sym, ap, arith}
use Rattle.vol_check.proofs.PartCounts.{one_part, directory_parts}
use Rattle.vol_check.proofs.parts.part_count.Goals as goal

pub returns-in-Directory-clause-exact : goal.returns-in-Directory-clause-exact
returns-in-Directory-clause-exact c =
    let g = c.args.geometry.now in
    let greatest = ap (λ k. k.greatest) c.constants.ensures in
    let d = directory_parts g c.args.image.now c.args.i (sym c.in-Directory.ensures) in
    omega (arith, greatest, d, c.size.ensures, c.min-bytes.ensures, c.div_ceil.ensures, c.div_ceil-in-Directory.ensures, c.max.ensures)

pub returns-in_default : goal.returns-in_default
returns-in_default c = record {
  exact = sym (one_part c.args.geometry.now c.args.image.now c.args.i (λ e. c.in_default.not-Directory (c.kind.ensures ∙ e)));
  few = omega arith;
}
