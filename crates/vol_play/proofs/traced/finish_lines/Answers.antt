use Rattle.std.proofs.Common.{Err, ap, inl, inr, refl}
use Rattle.std.proofs.KnownBytes.{Keeps-refl}
use Rattle.command_faults.specs.declared.fault.Fault.{Fault}
use Rattle.vol_play.proofs.traced.finish_lines.Goals as goal

pub returns-in-Ok : goal.returns-in-Ok
returns-in-Ok g c = inl (c.in-Ok.traced.items, c.in-Ok.ensures.text, c.finish.ensures)

pub returns-in-Err : goal.returns-in-Err
returns-in-Err g c =
    inr (
      c.in-Err.ensures.memory,
      record {
        saved = c.unmount.ensures.bytes;
        ended = inr (
          c.from-fault.result,
          (ap (λ (fault : Fault). Err fault) c.from-fault.ensures, (Keeps-refl (g.O.Sink.contents c.args.output.now), refl)),
          c.status.ensures,
          refl,
        );
      },
    )
