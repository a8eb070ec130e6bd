use Rattle.std.proofs.Common.{◌∙◌, true, false, List, if◌then◌else◌, sym, ap}
use Rattle.std.proofs.Output.{has_written_of_eq}
use Rattle.escaped_text.specs.Escape.{escaped}
use Rattle.identify_lines.specs.ShownPath.{shown_path}
use Rattle.identify_lines.proofs.shown_path.ShownPathDisplay.fmt.Goals as goal

pub returns-then-has_control-clause-writes : goal.returns-then-has_control-clause-writes
unfolding shown_path
returns-then-has_control-clause-writes g c = λ plain ok.
    has_written_of_eq _ _ _ _ _
    (ap escaped c.as_bytes.ensures.value
    ∙ sym (ap (λ b. if b then escaped c.args.self.now.0.now else c.args.self.now.0.now) (sym c.has_control.ensures ∙ c.if-has_control.true)))
    (c.write_escaped.ensures plain ok)

pub returns-else-has_control-clause-writes : goal.returns-else-has_control-clause-writes
unfolding shown_path
returns-else-has_control-clause-writes g c = λ plain ok.
    has_written_of_eq _ _ _ _ _
    (sym (ap (λ b. if b then escaped c.args.self.now.0.now else c.args.self.now.0.now) (sym c.has_control.ensures ∙ c.if-has_control.false)))
    (c.write_str.ensures.writes plain ok)
