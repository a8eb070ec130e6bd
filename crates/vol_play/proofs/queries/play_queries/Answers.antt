use Rattle.std.proofs.Common.{◌∙◌, ◌++◌, ◌∷◌, [], List, length, arith, ap, refl, sym, subst, append_assoc}
use Rattle.vol_views.specs.Logs.{number_of}
use Rattle.vol_volume.specs.declared.queries.Query.{Query}
use Rattle.vol_scripts.specs.Endings.{receipts_in}
use Rattle.vol_play.specs.Steps.{CameInTurn, CameOfQuery, CameOfView, next_after}
use Rattle.vol_play.proofs.QueryLaws.{in_turn_less}
use Rattle.vol_play.proofs.StepLaws.{came_end, came_more, receipts_push}
use Rattle.vol_play.proofs.queries.play_queries.Goals as goal

pub queries-preserved : goal.queries-preserved
queries-preserved c =
    let left = c.in-Some.ensures.steps.0 in
    let fewer = ap length left in
    let prefix = c.queries.played.ok.0 in
    let now = c.push_reserved-in-queries.new.self.ok.0 in
    let came = c.ask-came.result in
    record {
      book = c.ask-came.ensures.book ∙ c.queries.invariant.book;
      came =
          λ others all.
          came_more CameOfQuery (CameOfView c.args.queries (number_of c.args.view.now.log)) c.next.new.self.rest.items c.in-Some.query (number_of c.queries.view.log)
          (next_after (number_of c.queries.view.log) came) c.queries.played.items c.push_reserved-in-queries.new.self.items came refl c.push_reserved-in-queries.ensures.items c.ask-came.ensures.came
          (λ others all. c.queries.invariant.came others (subst (λ (qs : List Query). CameInTurn CameOfQuery qs (number_of c.queries.view.log) others) (sym left) all)) others
          (in_turn_less c.next.new.self.rest.items (next_after (number_of c.queries.view.log) came) (number_of c.ask-came.new.view.log) others c.ask-came.ensures.next all);
      receipts =
          c.ask-came.ensures.receipts ∙ ap (λ rs. rs ++ receipts_in (came ∷ [])) c.queries.invariant.receipts
          ∙ append_assoc c.args.view.now.receipts (receipts_in c.queries.played.items) (receipts_in (came ∷ []))
          ∙ ap (λ rs. c.args.view.now.receipts ++ rs) (sym (receipts_push c.queries.played.items came) ∙ ap receipts_in (sym c.push_reserved-in-queries.ensures.items));
      room = omega (arith, fewer, prefix, now, c.push_reserved-in-queries.ensures.len, c.push_reserved-in-queries.ensures.capacity, c.queries.invariant.room);
    }

pub returns-clause-came : goal.returns-clause-came
returns-clause-came c =
    came_end CameOfQuery (CameOfView c.args.queries (number_of c.args.view.now.log)) c.queries.query-iterator.rest.items (number_of c.queries.view.log) c.queries.played.items
    (omega (arith, c.in-None.ensures.steps.0, c.queries.query-iterator.rest.ok.0)) c.queries.invariant.came
