use Rattle.std.proofs.Common.{List, ap, arith}
use Rattle.std.proofs.Output.{has_written_of_eq}
use Rattle.std.proofs.lemmas.List.{take_all}
use Rattle.std.specs.List.{flat_map}
use Rattle.escaped_text.specs.Escape.{escaped, escaped_byte}
use Rattle.identify_lines.proofs.shown_path.write_escaped.Goals as goal

pub returns : goal.returns
unfolding escaped
returns g c = λ plain _.
    has_written_of_eq _ _ _ _ _ (ap (flat_map escaped_byte) (take_all c.bytes.byte-index c.args.bytes.now (omega arith))) (c.bytes.invariant plain)
