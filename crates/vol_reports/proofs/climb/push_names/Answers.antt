use Rattle.std.proofs.Common.{◌≡◌, length, ◌++◌, ap, sym, ◌∙◌, append_assoc, append-nil}
use Rattle.vol_reports.specs.Ncheck.{slashed}
use Rattle.vol_reports.specs.Climb.{trail}
use Rattle.vol_reports.proofs.Climbs.{trail_push, trail_none}
use Rattle.vol_reports.proofs.climb.push_names.Goals as goal

pub loop-entry-preserved : goal.loop-entry-preserved
loop-entry-preserved c =
    let left = c.pop.new.self.items in
    let path = c.loop-entry.path.items in
    let name = slashed c.name.result.now in
    ap (λ xs. xs ++ trail left) c.in_ok-push_name.ensures
    ∙ (append_assoc path name (trail left)
    ∙ (ap (λ xs. path ++ xs) (ap (λ n. slashed n ++ trail left) c.name.ensures ∙ sym (ap trail c.in-Some.ensures.items ∙ trail_push left c.in-Some.entry)) ∙ c.loop-entry.invariant))

pub returns-clause-path : goal.returns-clause-path
returns-clause-path c =
    let path = c.loop-entry.path.items in
    let none : length c.loop-entry.way.items ≡ 0 = sym c.loop-entry.way.ok.0 ∙ c.in_default.ensures.cases.0 in
    sym (ap (λ xs. path ++ xs) (trail_none c.loop-entry.way.items none) ∙ append-nil path) ∙ c.loop-entry.invariant
