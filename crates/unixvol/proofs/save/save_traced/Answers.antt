use Rattle.std.proofs.Common.{arith, inl, inr, refl}
use Rattle.std.proofs.KnownBytes.{Keeps-refl}
use Rattle.unixvol.proofs.Traced.{traced_end}
use Rattle.unixvol.proofs.save.save_traced.Goals as goal

pub returns-in-Ok : goal.returns-in-Ok
returns-in-Ok g c =
    traced_end _ c.args.outcome c.conclude-answer.result c.conclude-answer.result.status _ _ c.conclude-answer.ensures.made c.conclude-answer.ensures.fault
    (inl (refl, c.in-Ok.ensures.saved)) c.print_trace.ensures.unsaved c.print_trace.ensures.saved

pub returns : goal.returns
returns g c =
    traced_end _ c.args.outcome c.conclude-answer.result _ _ _ c.conclude-answer.ensures.made c.conclude-answer.ensures.fault
    (inr c.in-Err.ensures.fault)
    (λ other. record { ended = refl; kept = Keeps-refl (g.O.Sink.contents c.args.output.now); working = refl; said = refl })
    (λ zero. absurd (elim c.in-Err.ensures.fault.1 [ inl three ↦ omega (arith, three, zero) | inr four ↦ omega (arith, four, zero) ]))
