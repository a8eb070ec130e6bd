use Rattle.std.proofs.Common.{◌≡◌, ◌∙◌, length, max, arith, ap, sym}
use Rattle.std.proofs.lemmas.List.{length-map}
use Rattle.std.specs.Prelude.{count_by}
use Rattle.vol_shared.specs.Stored.{stored_of}
use Rattle.vol_play.specs.Players.{is_view, wants_session, wants_view}
use Rattle.vol_play.specs.declared.prepare.Prepared.{Prepared}
use Rattle.vol_play.proofs.OpenLaws.{counted_kinds, counted_views, opened_as}
use Rattle.vol_play.proofs.performance.play_on.Goals as goal

pub play_opened-requires-clause-opened : goal.play_opened-requires-clause-opened
play_opened-requires-clause-opened g c κs within =
    let prepared = c.in_ok-stage.stage.prepared.items in
    let scripts_are = c.in_ok-stage.ensures.scripts in
    let viewers : c.count_views-views.result ≡ count_by wants_view prepared =
    c.count_views-views.ensures ∙ ap (count_by is_view) (c.deref.ensures.value ∙ sym scripts_are) ∙ counted_views prepared in
    let many = ap length scripts_are in
    let callers : c.max-sessions.result ≡ max (count_by wants_session prepared) 1 =
    omega (arith, viewers, many, length-map prepared (λ (p : Prepared). p.script), counted_kinds prepared, c.max-sessions.ensures, c.len.ensures, c.args.scripts.ok.0) in
    opened_as (stored_of c.args.volume) c.max-sessions.result c.count_views-views.result (max (count_by wants_session prepared) 1) (count_by wants_view prepared) c.in_ok-shared.shared
    c.in_ok-shared.sessions.items c.in_ok-shared.views.items callers viewers c.in_ok-shared.ensures
