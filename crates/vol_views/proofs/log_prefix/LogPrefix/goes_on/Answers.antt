use Rattle.std.proofs.Common.{ap, subst, List, arith}
use Rattle.vol_views.specs.History.{Reached}
use Rattle.vol_views.specs.declared.history.LogEntry.{LogEntry}
use Rattle.vol_views.specs.Logs.{number_of}
use Rattle.vol_views.specs.Views.{GoesOn}
use Rattle.vol_views.proofs.Views.{goes_on}
use Rattle.vol_views.proofs.log_prefix.LogPrefix.goes_on.Goals as goal

pub returns : goal.returns
returns c =
    let mine = ap (λ (r : Reached). r.log) c.self.view_is in
    let theirs = ap (λ (r : Reached). r.log) c.later.view_is in
    let later = c.requires.later in
    let on = goes_on c.self.inside.prefix.log c.later.inside.prefix.log c.self.invariant.1 c.later.invariant.1 c.in_line.ensures
    (omega (arith, ap number_of mine, ap number_of theirs, later)) in
    subst (λ (l : List LogEntry). GoesOn l c.args.later.now.log) mine (subst (λ (l : List LogEntry). GoesOn c.self.inside.prefix.log l) theirs on)
