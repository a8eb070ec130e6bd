use Rattle.std.proofs.Common.{◌≡◌, ◌+◌, ◌≤◌, ◌++◌, length, map, vec_capacity}
use Rattle.vol_play.specs.Players.{played_by, sessions_of, views_of}
use Rattle.vol_play.proofs.gather.gather.Given as goal

-- Invariant: the sessions, views and results of the players so far, followed by the ones of the remaining players, are all of them.
abbrev pub invariant-players : goal.invariant-players
invariant-players l = record {
  sessions : l.sessions.items ++ sessions_of l.player-iterator.rest.items ≡ l.fn.sessions.items ++ sessions_of l.fn.players.items;
  views : l.views.items ++ views_of l.player-iterator.rest.items ≡ l.fn.views.items ++ views_of l.fn.players.items;
  played : l.played.items ++ map played_by l.player-iterator.rest.items ≡ map played_by l.fn.players.items;
  some_sessions : length l.sessions.items + length (sessions_of l.player-iterator.rest.items) ≤ vec_capacity l.sessions;
  some_views : length l.views.items + length (views_of l.player-iterator.rest.items) ≤ vec_capacity l.views;
  some_played : length l.played.items + length l.player-iterator.rest.items ≤ vec_capacity l.played;
}
