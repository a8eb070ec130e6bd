use Rattle.std.proofs.Common.{◌≡◌, ◌∙◌, ◌++◌, List, Some, length, map, arith, ap, sym, subst, length-append}
use Rattle.std.specs.Prelude.{Vec}
use Rattle.std.specs.Global.{Global}
use Rattle.std.proofs.lemmas.List.Elements.{All-same}
use Rattle.vol_scripts.specs.declared.played.Played.{Played}
use Rattle.vol_shared.specs.Sessions.{Known}
use Rattle.vol_shared.specs.Stored.{unpublished}
use Rattle.vol_views.specs.Views.{Watched}
use Rattle.vol_volume.specs.Volume.{Mounted}
use Rattle.vol_play.specs.Opened.{Closes, fresh_session}
use Rattle.vol_play.specs.Players.{CanPlay, HasPlayed, InPairs, IsDealt, played_by, sessions_of, views_of}
use Rattle.vol_play.specs.Play.{ArePlayed}
use Rattle.vol_play.specs.declared.prepare.Player.{Player}
use Rattle.vol_play.specs.declared.prepare.Prepared.{Prepared}
use Rattle.vol_play.proofs.EndLaws.{own_sessions, own_views, whole_played}
use Rattle.vol_play.proofs.ListLaws.{empty_of, written_over}
use Rattle.vol_play.proofs.PlayerLaws.{as_many, came_all, dealt_can, ended_all, ended_players, sessions_many, views_many}
use Rattle.vol_play.proofs.performance.play_opened.Goals as goal

pub run_all-requires-clause-some : goal.run_all-requires-clause-some
run_all-requires-clause-some g c κs within =
    let shared = c.args.shared in
    let many = as_many (IsDealt shared) c.args.stage.prepared.items c.deal.new.players.items (c.deal.ensures.dealt shared c.requires.opened.fresh c.requires.opened.fresh_views) in
    omega (arith, many, ap length c.deref_mut.ensures.value, c.requires.some, c.args.stage.prepared.ok.0)

pub run_all-requires-clause-can : goal.run_all-requires-clause-can
run_all-requires-clause-can g c κs within =
    let shared = c.args.shared in
    All-same (CanPlay shared.of) c.deref_mut.result.now c.deal.new.players.items c.deref_mut.ensures.value
    (dealt_can shared c.args.stage.prepared.items c.deal.new.players.items c.requires.ready
    (c.deal.ensures.dealt shared c.requires.opened.fresh c.requires.opened.fresh_views))

pub gather-requires-clause-sessions : goal.gather-requires-clause-sessions
gather-requires-clause-sessions g c =
    let shared = c.args.shared in
    let prepared = c.args.stage.prepared.items in
    let old = c.deref_mut.result.now in
    let new = c.run_all.new.players in
    let dealt_players = c.deal.new.players.items in
    let dealt = subst (λ (ps : List Player). InPairs (IsDealt shared) prepared ps) (sym c.deref_mut.ensures.value)
    (c.deal.ensures.dealt shared c.requires.opened.fresh c.requires.opened.fresh_views) in
    let as_long = as_many HasPlayed old new c.run_all.ensures ∙ ap length c.deref_mut.ensures.value in
    let whole_is = written_over dealt_players new c.deal.new.players.len as_long c.deal.new.players.ok.0 in
    let ended = ended_all shared prepared old new dealt c.run_all.ensures in
    let many = ap (λ (ps : List Player). length (sessions_of ps)) whole_is ∙ sessions_many shared prepared new ended in
    omega (arith, many, c.deal.ensures.left, c.deal.ensures.rooms.0, c.deal.new.sessions.ok.0, c.args.sessions.ok)

pub gather-requires-clause-views : goal.gather-requires-clause-views
gather-requires-clause-views g c =
    let shared = c.args.shared in
    let prepared = c.args.stage.prepared.items in
    let old = c.deref_mut.result.now in
    let new = c.run_all.new.players in
    let dealt_players = c.deal.new.players.items in
    let dealt = subst (λ (ps : List Player). InPairs (IsDealt shared) prepared ps) (sym c.deref_mut.ensures.value)
    (c.deal.ensures.dealt shared c.requires.opened.fresh c.requires.opened.fresh_views) in
    let as_long = as_many HasPlayed old new c.run_all.ensures ∙ ap length c.deref_mut.ensures.value in
    let whole_is = written_over dealt_players new c.deal.new.players.len as_long c.deal.new.players.ok.0 in
    let ended = ended_all shared prepared old new dealt c.run_all.ensures in
    let many = ap (λ (ps : List Player). length (views_of ps)) whole_is ∙ views_many shared prepared new ended in
    omega (arith, many, ap length c.deal.ensures.none_left, c.deal.ensures.rooms.1, c.deal.new.views.ok.0, c.requires.opened.views, c.args.views.ok)

pub gather-requires-clause-played : goal.gather-requires-clause-played
gather-requires-clause-played g c =
    let shared = c.args.shared in
    let many = as_many (IsDealt shared) c.args.stage.prepared.items c.deal.new.players.items (c.deal.ensures.dealt shared c.requires.opened.fresh c.requires.opened.fresh_views) in
    omega (arith, many, c.args.stage.prepared.ok.0, c.deal.new.players.ok.0, c.requires.room.1)

pub close-closed-requires : goal.close-closed-requires
close-closed-requires g c =
    let shared = c.args.shared in
    let prepared = c.args.stage.prepared.items in
    let old = c.deref_mut.result.now in
    let new = c.run_all.new.players in
    let dealt_players = c.deal.new.players.items in
    let dealt = subst (λ (ps : List Player). InPairs (IsDealt shared) prepared ps) (sym c.deref_mut.ensures.value)
    (c.deal.ensures.dealt shared c.requires.opened.fresh c.requires.opened.fresh_views) in
    let as_long = as_many HasPlayed old new c.run_all.ensures ∙ ap length c.deref_mut.ensures.value in
    let whole_is = written_over dealt_players new c.deal.new.players.len as_long c.deal.new.players.ok.0 in
    let ended = ended_all shared prepared old new dealt c.run_all.ensures in
    let each = ended_players shared prepared new ended in
    let left = c.deal.new.sessions.items in
    let unused = c.deal.ensures.alike (fresh_session shared) c.requires.opened.fresh in
    let sessions_is : c.gather.new.sessions.items ≡ left ++ sessions_of new = c.gather.ensures.sessions ∙ ap (λ (ps : List Player). left ++ sessions_of ps) whole_is in
    let views_is : c.gather.new.views.items ≡ views_of new =
    c.gather.ensures.views ∙ ap (λ (ps : List Player). c.deal.new.views.items ++ views_of ps) whole_is ∙ ap (λ (vs : List Watched). vs ++ views_of new) c.deal.ensures.none_left in
    let sessions_count = ap length sessions_is ∙ length-append left (sessions_of new) in
    let views_count = ap length views_is ∙ views_many shared prepared new ended in
    let same_views : length c.gather.new.views.items ≡ length c.args.views.items = omega (arith, views_count, c.requires.opened.views) in
    record {
      count = omega (arith, sessions_count, sessions_many shared prepared new ended, c.deal.ensures.left, c.deal.new.sessions.ok.0, c.args.sessions.ok.0, c.requires.opened.count, c.requires.opened.sessions);
      own = All-same (λ (s : Known). s.of ≡ shared.of) c.gather.new.sessions.items (left ++ sessions_of new) sessions_is (own_sessions shared left unused new each);
      own_views = All-same (λ (v : Watched). shared.of.book ≡ Some v.book) c.gather.new.views.items (views_of new) views_is (own_views shared new each);
      plain = λ e. c.requires.opened.plain (empty_of c.args.views.items (omega (arith, same_views, ap length e)));
      published =
          λ some. same_views ∙ sym (c.requires.opened.published (λ e. some (empty_of c.gather.new.views.items (omega (arith, same_views, ap length e)))));
    }

pub returns : goal.returns
returns g c =
    let shared = c.args.shared in
    let prepared = c.args.stage.prepared.items in
    let old = c.deref_mut.result.now in
    let new = c.run_all.new.players in
    let dealt_players = c.deal.new.players.items in
    let dealt = subst (λ (ps : List Player). InPairs (IsDealt shared) prepared ps) (sym c.deref_mut.ensures.value)
    (c.deal.ensures.dealt shared c.requires.opened.fresh c.requires.opened.fresh_views) in
    let as_long = as_many HasPlayed old new c.run_all.ensures ∙ ap length c.deref_mut.ensures.value in
    let whole_is = written_over dealt_players new c.deal.new.players.len as_long c.deal.new.players.ok.0 in
    let ended = ended_all shared prepared old new dealt c.run_all.ensures in
    let each = ended_players shared prepared new ended in
    let left = c.deal.new.sessions.items in
    let unused = c.deal.ensures.alike (fresh_session shared) c.requires.opened.fresh in
    let sessions_is : c.gather.new.sessions.items ≡ left ++ sessions_of new = c.gather.ensures.sessions ∙ ap (λ (ps : List Player). left ++ sessions_of ps) whole_is in
    let views_is : c.gather.new.views.items ≡ views_of new =
    c.gather.ensures.views ∙ ap (λ (ps : List Player). c.deal.new.views.items ++ views_of ps) whole_is ∙ ap (λ (vs : List Watched). vs ++ views_of new) c.deal.ensures.none_left in
    let played_is : c.gather.new.played.items ≡ map played_by new = c.gather.ensures.played ∙ ap (map played_by) whole_is in
    let closes = subst (λ (all : List Known). Closes shared.stored all (views_of new) c.close-closed.result) sessions_is
    (subst (λ (seen : List Watched). Closes shared.stored c.gather.new.sessions.items seen c.close-closed.result) views_is c.close-closed.ensures) in
    subst (λ (last : Mounted). ArePlayed (unpublished shared.stored) (map (λ (p : Prepared). p.script) prepared) last c.gather.new.played.items) (sym c.into_volume.ensures)
    (subst (λ (ps : List (Vec Played Global)). ArePlayed (unpublished shared.stored) (map (λ (p : Prepared). p.script) prepared) c.close-closed.result ps) (sym played_is)
    (whole_played shared left unused new each (map (λ (p : Prepared). p.script) prepared) c.close-closed.result (came_all shared prepared new ended) closes))
