use Rattle.std.proofs.Common.{◌≡◌, ◌+◌, ◌≤◌, ◌++◌, List, length, All, vec_capacity}
use Rattle.std.specs.Prelude.{count_by}
use Rattle.vol_shared.specs.Opened.{Opened}
use Rattle.vol_shared.specs.Sessions.{Known}
use Rattle.vol_play.specs.Opened.{fresh_session, IsFreshView}
use Rattle.vol_play.specs.Players.{InPairs, IsDealt, wants_session, wants_view}
use Rattle.vol_play.specs.declared.prepare.Player.{Player}
use Rattle.vol_play.proofs.deal.deal.Given as goal

-- Invariant: there is a session or a view for each remaining script; the players so far, followed by the players of these scripts, are all players.
abbrev pub invariant-scripts : goal.invariant-scripts
invariant-scripts l = record {
  left : length l.sessions.items + count_by wants_session l.fn.prepared.items ≡ length l.fn.sessions.items + count_by wants_session l.script-iterator.rest.items;
  views : length l.views.items ≡ count_by wants_view l.script-iterator.rest.items;
  room : length l.players.items + length l.script-iterator.rest.items ≤ vec_capacity l.players;
  rooms : (vec_capacity l.sessions ≡ vec_capacity l.fn.sessions) × (vec_capacity l.views ≡ vec_capacity l.fn.views);
  alike : (fresh : Known) → All (λ s. s ≡ fresh) l.fn.sessions.items → All (λ s. s ≡ fresh) l.sessions.items;
  fresh_views : (shared : Opened) → All (IsFreshView shared) l.fn.views.items → All (IsFreshView shared) l.views.items;
  dealt : (shared : Opened) → All (λ s. s ≡ fresh_session shared) l.fn.sessions.items → All (IsFreshView shared) l.fn.views.items → (others : List Player)
      → InPairs (IsDealt shared) l.script-iterator.rest.items others → InPairs (IsDealt shared) l.fn.prepared.items (l.players.items ++ others);
}
