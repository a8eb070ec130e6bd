use Rattle.std.proofs.Common.{◌∙◌, [], List, length, arith, ap, sym, subst}
use Rattle.std.specs.Prelude.{count_by}
use Rattle.vol_play.specs.Opened.{fresh_session}
use Rattle.vol_play.specs.Players.{InPairs, IsDealt, wants_session, wants_view}
use Rattle.vol_play.proofs.ListLaws.{counted_first, pairs_end, pairs_more}
use Rattle.vol_play.specs.declared.prepare.Prepared.{Prepared}
use Rattle.vol_play.proofs.deal.deal.Goals as goal

pub scripts-preserved : goal.scripts-preserved
scripts-preserved c =
    let left = c.in-Some.ensures.steps.0 in
    let fewer = ap length left in
    let callers = ap (count_by wants_session) left in
    let viewers = ap (count_by wants_view) left in
    let prefix = c.scripts.players.ok.0 in
    let now = c.push_reserved.new.self.ok.0 in
    record {
      left = omega (arith, callers, counted_first wants_session c.in-Some.script c.next.new.self.rest.items, counted_first wants_session c.in-Some.script [], c.seat-player.ensures.sessions, c.scripts.sessions.ok.0, c.seat-player.new.sessions.ok.0, c.scripts.invariant.left);
      views = omega (arith, viewers, counted_first wants_view c.in-Some.script c.next.new.self.rest.items, counted_first wants_view c.in-Some.script [], c.seat-player.ensures.views, c.scripts.views.ok.0, c.seat-player.new.views.ok.0, c.scripts.invariant.views);
      room = omega (arith, fewer, prefix, now, c.push_reserved.ensures.len, c.push_reserved.ensures.capacity, c.scripts.invariant.room);
      rooms = (c.seat-player.ensures.rooms.0 ∙ c.scripts.invariant.rooms.0, c.seat-player.ensures.rooms.1 ∙ c.scripts.invariant.rooms.1);
      alike = λ fresh all. c.seat-player.ensures.alike fresh (c.scripts.invariant.alike fresh all);
      fresh_views = λ shared all. c.seat-player.ensures.fresh_views shared (c.scripts.invariant.fresh_views shared all);
      dealt =
          λ shared sessions views.
          pairs_more (IsDealt shared) c.args.prepared.items c.in-Some.script c.next.new.self.rest.items c.seat-player.result c.scripts.players.items c.push_reserved.new.self.items
          c.push_reserved.ensures.items
          (c.seat-player.ensures.dealt shared (c.scripts.invariant.alike (fresh_session shared) sessions) (c.scripts.invariant.fresh_views shared views))
          (λ others all.
          c.scripts.invariant.dealt shared sessions views others (subst (λ (ps : List Prepared). InPairs (IsDealt shared) ps others) (sym left) all));
    }

pub returns-clause-dealt : goal.returns-clause-dealt
returns-clause-dealt c shared sessions views =
    pairs_end (IsDealt shared) c.args.prepared.items c.scripts.script-iterator.rest.items c.scripts.players.items
    (omega (arith, c.in-None.ensures.steps.0, c.scripts.script-iterator.rest.ok.0)) (c.scripts.invariant.dealt shared sessions views)
