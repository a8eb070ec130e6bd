use Rattle.std.proofs.Common.{◌≡◌, Ok, rules}
use Rattle.command_words.specs.declared.invocation.Invocation.TheVariants as invocations
use Rattle.unixvol.proofs.Asked.{settled_workable}
use Rattle.unixvol.proofs.main.Goals as goal

pub run_to_end-status-requires-after_bounds : goal.run_to_end-status-requires-after_bounds
run_to_end-status-requires-after_bounds g c κs within =
    let is : c.in-Ok-read_settled.read ≡ Ok (invocations.Work c.in-Ok-Work.volume c.in-Ok-Work.work) = search rules in
    settled_workable _ c.moment.result _ c.in-Ok-read_settled.read c.in-Ok-Work.volume c.in-Ok-Work.work
    c.in-Ok-read_settled.ensures.read is
