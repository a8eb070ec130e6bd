-- Invariant of `run`: it has taken one request each turn, and sent the replies.
use Rattle.std.proofs.Common.{◌≡◌, ℕ, List, length}
use Rattle.std.specs.List.{filter_map}
use Rattle.vol_serve.specs.Answers.{reply_to}
use Rattle.vol_serve.specs.Messages.{Grows}
use Rattle.vol_serve.proofs.request_loop.run.Given as goal

abbrev pub invariant-requests : goal.invariant-requests
invariant-requests g l =
    (asked : List (List ℕ)) × Grows (g.Q.Requests.taken l.initial.requests) (g.Q.Requests.taken l.requests) asked
    × Grows (g.P.Replies.sent l.initial.replies) (g.P.Replies.sent l.replies) (filter_map (reply_to l.served.geometry.now l.served.image.now) asked)
    × (length asked ≡ l.turn)
