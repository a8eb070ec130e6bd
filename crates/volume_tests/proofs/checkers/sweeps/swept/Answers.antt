use Rattle.std.proofs.Common.{◌≡◌, ◌∙◌, ◌++◌, take, drop, length, sym, ap, subst, ◌≤◌, arith}
use Rattle.std.proofs.Math.Seq.{take-append_seam}
use Rattle.std.specs.List.{count_by}
use Rattle.vol_check.specs.Seats.{is_stopped}
use Rattle.vol_check.proofs.Joined.{some_stopped}
use Rattle.volume_tests.proofs.checkers.sweeps.swept.Goals as goal

pub finish-requires-clause-stopped : goal.finish-requires-clause-stopped
finish-requires-clause-stopped g c =
    let seats = c.run_all.new.seats in
    let all = some_stopped seats (omega (arith, c.run_all.ensures.len, c.deref_mut.ensures.len, c.requires.some))
    (λ k d lt. (c.run_all.ensures.ran k d lt).stopped) in
    let len : c.args.seats.len ≡ length seats = omega (arith, c.run_all.ensures.len, c.deref_mut.ensures.len) in
    let whole : take c.args.seats.len (seats ++ drop (length seats) c.args.seats.items) ≡ seats =
    ap (λ n. take n (seats ++ drop (length seats) c.args.seats.items)) len ∙ take-append_seam seats (drop (length seats) c.args.seats.items) in
    subst (λ xs. 1 ≤ count_by is_stopped xs) (sym whole) all
