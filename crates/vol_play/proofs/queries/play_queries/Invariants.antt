use Rattle.std.proofs.Common.{◌≡◌, ◌+◌, ◌≤◌, List, ◌++◌, length, vec_capacity}
use Rattle.vol_views.specs.Logs.{number_of}
use Rattle.vol_scripts.specs.Endings.{receipts_in}
use Rattle.vol_scripts.specs.declared.played.Played.{Played}
use Rattle.vol_play.specs.Steps.{CameInTurn, CameOfQuery, CameOfView}
use Rattle.vol_play.proofs.queries.play_queries.Given as goal

-- Invariant: the results of the remaining queries follow the results so far, and the view has the receipts so far.
abbrev pub invariant-queries : goal.invariant-queries
invariant-queries l = record {
  book : l.view.book ≡ l.fn.view.book;
  came : (others : List Played) → CameInTurn CameOfQuery l.query-iterator.rest.items (number_of l.view.log) others
      → CameOfView l.fn.queries (number_of l.fn.view.log) (l.played.items ++ others);
  receipts : l.view.receipts ≡ l.fn.view.receipts ++ receipts_in l.played.items;
  room : length l.played.items + length l.query-iterator.rest.items ≤ vec_capacity l.played;
}
