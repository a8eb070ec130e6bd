use Rattle.std.specs.Prelude.{option_map}
use Rattle.command_reads.proofs.FoundPaths.{found_plainly}
use Rattle.command_reads.proofs.find.find.Goals as goal

pub returns : goal.returns
returns c =
    found_plainly c.args.edition c.args.image.now c.args.path.now (option_map (λ word. word.now) c.args.pattern) c.args.lost c.args.form c.args.screen c.find_in.result
    c.find_in.ensures
