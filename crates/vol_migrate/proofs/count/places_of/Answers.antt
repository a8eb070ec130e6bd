-- An i-node that isn't a file needs no blocks.
use Rattle.std.proofs.Common.{◌∙◌, sym, arith}
use Rattle.vol_migrate.proofs.FileShapes.{bare_need}
use Rattle.vol_migrate.proofs.count.places_of.Goals as goal

pub returns-else-is_file : goal.returns-else-is_file
returns-else-is_file c = record {
  need = sym (bare_need c.args.from.now c.args.old.now c.args.i c.requires.first c.requires.last (sym c.is_file.ensures ∙ c.if-is_file.false));
  bound = omega arith;
}
