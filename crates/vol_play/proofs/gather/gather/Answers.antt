use Rattle.std.proofs.Common.{◌∙◌, ◌∷◌, [], List, length, map, arith, ap, refl, length-append}
use Rattle.std.specs.Prelude.{vec_capacity}
use Rattle.vol_play.specs.Players.{played_by, sessions_of, views_of}
use Rattle.vol_play.specs.declared.prepare.Player.{Player}
use Rattle.vol_play.proofs.PlayerLaws.{fits_on, put_on, sessions_first, views_first}
use Rattle.vol_play.proofs.gather.gather.Goals as goal

pub players-preserved : goal.players-preserved
players-preserved c =
    let left = c.players.player-iterator.rest.items in
    let left_is = c.in-Some.ensures.steps.0 in
    let player = c.in-Some.player in
    let others = c.next.new.self.rest.items in
    let old_sessions = c.players.sessions.items in
    let new_sessions = c.put_back.new.sessions.items in
    let old_views = c.players.views.items in
    let new_views = c.put_back.new.views.items in
    let old_played = c.players.played.items in
    let new_played = c.put_back.new.played.items in
    let whole = c.players.invariant in
    let put = c.put_back.ensures in
    record {
      sessions = put_on sessions_of sessions_first old_sessions new_sessions _ player others left left_is put.sessions whole.sessions;
      views = put_on views_of views_first old_views new_views _ player others left left_is put.views whole.views;
      played = put_on (map played_by) (λ (p : Player) (ps : List Player). refl) old_played new_played _ player others left left_is put.played whole.played;
      some_sessions =
          let fits = fits_on sessions_of sessions_first old_sessions new_sessions (vec_capacity c.players.sessions) player others left left_is put.sessions whole.some_sessions in
          omega (arith, fits.1, put.session_room);
      some_views =
          let fits = fits_on views_of views_first old_views new_views (vec_capacity c.players.views) player others left left_is put.views whole.some_views in
          omega (arith, fits.1, put.view_room);
      some_played =
          let longer = ap length put.played ∙ length-append old_played (played_by player ∷ []) in
          omega (arith, longer, ap length left_is, put.played_room, whole.some_played);
    }
