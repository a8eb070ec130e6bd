use Rattle.std.proofs.Common.{◌∙◌, sym, ap, subst, arith}
use Rattle.vol_shared.specs.Close.{IsSettled}
use Rattle.vol_shared.specs.Opened.{Opened}
use Rattle.vol_shared.specs.Stored.{Stored, stored_of, next_number}
use Rattle.vol_shared.proofs.ClosedVolumes.{counts, end_first, end_uncut, end_places, end_count, end_goes_on, end_agree}
use Rattle.vol_shared.proofs.shared.Shared.close.Goals as goal
use Rattle.vol_shared.proofs.shared.Shared.close.Goals.{After-new}

pub new-requires-clause-counted : goal.new-requires-clause-counted
new-requires-clause-counted c =
    let made = counts c.self.inside.table.shared.key.stock c.gather-place.result.0.me.0 c.finish-stock.result c.finish-stock.ensures.settled in
    let count = c.gather-place.ensures.count in
    let records = c.self.invariant.counted in
    let same = ap next_number c.into_volume.ensures.stored in
    omega arith

-- the closed volume satisfies `IsSettled` for the knowledge of all sessions
at_end : (c : After-new) → IsSettled c.args.self.stored c.gather-place.result.0.me.0 (stored_of c.new.result)
at_end c =
    let v = c.gather-place.result.0.me.0 in
    subst (λ (o : Stored). IsSettled o v (stored_of c.new.result)) (ap (λ (o : Opened). o.stored) c.self.view_is)
    (subst (IsSettled c.self.inside.table.shared.key.stock v) (sym (ap stored_of c.new.ensures ∙ c.into_volume.ensures.stored)) c.finish-stock.ensures.settled)

pub returns-clause-goes_on : goal.returns-clause-goes_on
returns-clause-goes_on c =
    end_goes_on c.args.self.stored c.args.sessions.items c.gather-place.result.0.me.0 (stored_of c.new.result) c.gather-place.ensures.gathered (at_end c)

pub returns-clause-uncut : goal.returns-clause-uncut
returns-clause-uncut c =
    end_uncut c.args.self.stored c.args.sessions.items c.gather-place.result.0.me.0 (stored_of c.new.result) c.gather-place.ensures.gathered (at_end c)

pub returns-clause-first : goal.returns-clause-first
returns-clause-first c =
    end_first c.args.self.stored c.args.sessions.items c.gather-place.result.0.me.0 (stored_of c.new.result) c.gather-place.ensures.gathered (at_end c)

pub returns-clause-places : goal.returns-clause-places
returns-clause-places c =
    end_places c.args.self.stored c.args.sessions.items c.gather-place.result.0.me.0 (stored_of c.new.result) c.gather-place.ensures.gathered (at_end c)

pub returns-clause-count : goal.returns-clause-count
returns-clause-count c =
    end_count c.args.self.stored c.args.sessions.items c.gather-place.result.0.me.0 (stored_of c.new.result) c.gather-place.ensures.gathered (at_end c)

pub returns-clause-agree : goal.returns-clause-agree
returns-clause-agree c =
    end_agree c.args.self.stored c.args.sessions.items c.gather-place.result.0.me.0 (stored_of c.new.result) c.gather-place.ensures.gathered (at_end c)
