-- Operations that are answered.
use Rattle.std.proofs.Common.{ℕ, List, Result, Ok, Err, inr}
use Rattle.fuse_words.specs.declared.operation.Operation.{Operation}
use Rattle.fuse_words.specs.declared.request.Header.{Header}
use Rattle.vol_mounted.specs.Refusals.{Puts}
use Rattle.vol_mounted.specs.Replies.{reply_of}
use Rattle.vol_mounted.specs.Servers.{sight_at}
use Rattle.vol_mounted.specs.Turns.{IsAnswered, IsMade, put_by}
use Rattle.vol_mounted.specs.declared.refusal.MountedRefusal.{MountedRefusal}
use Rattle.vol_mounted.specs.declared.server.MountedServer.{MountedServer}

-- if the calls were made and the reply was put, or it was refused, the operation was answered
pub answered_by : (old new : MountedServer) (now : ℕ) (header : Header) (operation : Operation) (result : Result (Unit {0}) MountedRefusal) (reply : List ℕ)
    → IsMade old new now header operation → Puts (reply_of (sight_at new now) header operation) result reply
    → IsAnswered old new now header operation (put_by result reply)
answered_by old new now header operation (Ok done) reply made puts = (made, puts)
answered_by old new now header operation (Err refusal) reply made puts = inr (made, puts)
