use Rattle.std.proofs.Common.{◌≡◌, ◌+◌, ◌≤◌, List, ◌++◌, length, vec_capacity}
use Rattle.vol_scripts.specs.declared.played.Played.{Played}
use Rattle.vol_play.specs.Steps.{CameInTurn, CameOf, known_after_all}
use Rattle.vol_play.proofs.steps.play_steps.Given as goal

-- Invariant: the results of the remaining steps follow the results so far, and the session has run the steps so far.
abbrev pub invariant-steps : goal.invariant-steps
invariant-steps g l = record {
  own : l.session.of ≡ l.shared.of;
  came : (others : List Played) → CameInTurn CameOf l.step-iterator.rest.items l.session.next others → CameInTurn CameOf l.fn.steps l.fn.session.next (l.played.items ++ others);
  known : l.session ≡ known_after_all l.fn.session l.played.items;
  room : length l.played.items + length l.step-iterator.rest.items ≤ vec_capacity l.played;
}
