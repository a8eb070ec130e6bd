use Rattle.std.proofs.Common.{inl, inr, refl, sym}
use Rattle.command_reads.proofs.Shown.{dump_memory}
use Rattle.command_reads.proofs.dump.placed_text.Goals as goal

pub returns-in_ok-span_text-in-Ok-clause-text : goal.returns-in_ok-span_text-in-Ok-clause-text
returns-in_ok-span_text-in-Ok-clause-text c =
    (c.args.geometry.now, c.requires.read, (c.in-Ok.span, sym c.in-Ok.ensures.exact, c.in_ok-span_text-in-Ok.ensures))

pub returns-in_err-span_text-in-Ok-clause-fault : goal.returns-in_err-span_text-in-Ok-clause-fault
returns-in_err-span_text-in-Ok-clause-fault c =
    dump_memory c.args.edition c.args.image.now c.args.target c.args.geometry.now c.in-Ok.span c.from_residual.result c.requires.read
    (sym c.in-Ok.ensures.exact) c.from_residual.ensures.1

pub returns-in-Err-clause-fault : goal.returns-in-Err-clause-fault
returns-in-Err-clause-fault c = inr (inl (c.args.geometry.now, c.requires.read, (c.in-Err.refusal, sym c.in-Err.ensures.exact, refl)))
