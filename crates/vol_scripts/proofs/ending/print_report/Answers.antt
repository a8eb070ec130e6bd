use Rattle.std.proofs.Common.{◌∙◌, ℕ, List, subst}
use Rattle.pdp_words.specs.Devices.{AppendsFront}
use Rattle.vol_scripts.proofs.ending.print_report.Goals as goal

pub returns : goal.returns
returns g c =
    let made = c.in_ok-text.ensures in
    let written = c.in-Err.field-0.written in (
      c.in-Err.ensures.fault,
      (
        made.0,
        made.1,
        made.2,
        (
          written,
          subst (λ (text : List ℕ). AppendsFront (g.O.Sink.contents c.args.output.now) (g.O.Sink.contents c.write_all.new.sink) text written) (c.deref-2.ensures.value ∙ made.3.1) c.in-Err.ensures.part,
        ),
      ),
    )
