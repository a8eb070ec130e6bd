-- Invariant of `run`: it has taken one request each turn, sent the replies of the turns, and saved their images.
use Rattle.std.proofs.Common.{◌≡◌, ℕ, List, length}
use Rattle.vol_serve.specs.Messages.{Grows}
use Rattle.vol_mounted.specs.Services.{requests_of, replies_of, images_of, Stores}
use Rattle.vol_mounted.specs.Turns.{Turn, Follow}
use Rattle.vol_mounted.proofs.service.run.Given as goal

abbrev pub invariant-requests : goal.invariant-requests
invariant-requests g l =
    (turns : List Turn) × Grows (g.Q.Requests.taken l.initial.requests) (g.Q.Requests.taken l.requests) (requests_of turns)
    × Grows (g.P.Replies.sent l.initial.replies) (g.P.Replies.sent l.replies) (replies_of turns)
    × Grows (g.H.Host.saved l.initial.host) (g.H.Host.saved l.host) (images_of turns)
    × Follow l.initial.server turns l.server × (length turns ≡ l.turn)
    × ((file : List ℕ) → Stores file (g.H.Host.saved l.initial.host) l.initial.server → Stores file (g.H.Host.saved l.host) l.server)
