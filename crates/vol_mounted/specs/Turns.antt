-- The effects of requests.
use Rattle.std.specs.Prelude.{◌≡◌, ◌≢◌, ◌⊎◌, ◌<◌, ◌≤◌, ℕ, ◌+◌, ◌^◌, ◌==◌, nat_lt, Bool, true, false, if◌then◌else◌, List, [], ◌∷◌, length, Option, None, Some, Result, Ok, Err, MatchBool}
use Rattle.std.specs.List.{list_any}
use Rattle.fuse_words.specs.Replies.{status_message}
use Rattle.fuse_words.specs.Requests.{wants_reply, request_of}
use Rattle.fuse_words.specs.declared.operation.Operation.{Operation}
use Rattle.fuse_words.specs.declared.operation.Operation.TheVariants as operations
use Rattle.fuse_words.specs.declared.request.Header.{Header}
use Rattle.fuse_words.specs.declared.request.Request.{Request}
use Rattle.fuse_words.specs.declared.request.RequestFault.{RequestFault}
use Rattle.fuse_words.specs.declared.request.RequestFault.TheVariants as faults
use Rattle.vol_volume.specs.Volume.{after_cut}
use Rattle.vol_volume.specs.declared.calls.Call.{Call}
use Rattle.vol_serve.specs.declared.errno.RequestRefusal.TheVariants as requests
use Rattle.vol_mounted.specs.Errno.{errno}
use Rattle.vol_layout.specs.Geometry.{geometry_of}
use Rattle.vol_mounted.specs.Losses.{lost_bytes, lost_node, lost_file, kept_after}
use Rattle.vol_mounted.specs.Orphans.{KeptFile, files_after}
use Rattle.vol_mounted.specs.Records.{remembered}
use Rattle.pdp_words.specs.Steps.{and_then}
use Rattle.vol_mounted.specs.Refusals.{no_memory, no_space}
use Rattle.vol_mounted.specs.Replies.{calls_of, reply_of}
use Rattle.vol_mounted.specs.Servers.{sight_at, files_in, limits_in, spare_in, Kept, Made, IsStopped}
use Rattle.vol_mounted.specs.declared.refusal.MountedRefusal.{MountedRefusal}
use Rattle.vol_mounted.specs.declared.refusal.MountedRefusal.TheVariants as mounted
use Rattle.vol_mounted.specs.declared.server.MountedServer.{MountedServer}

-- the reply that was made, or the refusal (this project)
abbrev pub put_by : {X : Type 0} → Result X MountedRefusal → List ℕ → Result (List ℕ) MountedRefusal
put_by (Ok done) reply = Ok reply
put_by (Err refusal) reply = Err refusal

-- the calls of an operation, if there is room for the bytes of a file that loses its last name through it (this project)
abbrev pub planned : MountedServer → ℕ → Header → Operation → Result (List Call) MountedRefusal
planned server now header operation =
    and_then (calls_of (sight_at server now) header operation) (λ calls.
    if nat_lt (spare_in server) (lost_bytes (sight_at server now) header operation) then Err no_space else Ok calls)

-- the records of the i-numbers, and the files without a name, after an operation, whose calls were all made or not, in the volume after the calls (this
-- project)
abbrev pub Remembers : MountedServer → MountedServer → ℕ → Header → Operation → Bool → Type 0
Remembers old new now header operation is_made =
    (new.nodes ≡ remembered (geometry_of new.volume.edition new.volume.image) new.volume.image old.nodes header operation is_made
    (lost_node (sight_at old now) header operation))
    × (files_in new ≡ kept_after (geometry_of new.volume.edition new.volume.image) new.volume.image (files_in old)
    (lost_node (sight_at old now) header operation) (lost_file (sight_at old now) header operation))

-- all the calls of an operation were made, and the records are those after it (this project)
abbrev pub IsMade : MountedServer → MountedServer → ℕ → Header → Operation → Type 0
IsMade old new now header operation =
    Made old.volume (planned old now header operation) new.volume × Remembers old new now header operation true

-- the volume, the records and the files without a name are unchanged, since the plan failed for this reason or memory ran out; or some calls were made, and the next one was
-- refused with this refusal: if it wasn't the first, the records are those after the operation (this project)
abbrev pub IsUnmade : MountedServer → MountedServer → ℕ → Header → Operation → MountedRefusal → Type 0
IsUnmade old new now header operation refusal =
    ((new.volume ≡ old.volume) × (new.nodes ≡ old.nodes) × (files_in new ≡ files_in old) × (refusal ≢ no_memory → planned old now header operation ≡ Err refusal))
    ⊎ ((calls : List Call) × (planned old now header operation ≡ Ok calls) × IsStopped old.volume calls new.volume refusal
    × Remembers old new now header operation (nat_lt (length old.volume.journal) (length new.volume.journal)))

-- an operation was answered: its calls were made, and the reply shows the tree after them; or it was refused: its calls weren't made, or there is no
-- reply from that tree, or memory ran out for the reply (this project)
abbrev pub IsAnswered : MountedServer → MountedServer → ℕ → Header → Operation → Result (List ℕ) MountedRefusal → Type 0
IsAnswered old new now header operation (Ok reply) =
    IsMade old new now header operation × (reply_of (sight_at new now) header operation ≡ Ok reply)
IsAnswered old new now header operation (Err refusal) =
    IsUnmade old new now header operation refusal
    ⊎ (IsMade old new now header operation × (refusal ≢ no_memory → reply_of (sight_at new now) header operation ≡ Err refusal))

-- true if a file without a name that is still open has this node number (this project)
abbrev pub is_orphan : MountedServer → ℕ → Bool
is_orphan server node = list_any (λ (file : KeptFile). file.node == node) (files_in server)

-- the files without a name and the reply are those after an operation on one of them; or it is refused, and the files are unchanged (this project)
abbrev pub IsReplied : MountedServer → MountedServer → ℕ → Header → Operation → Result (List ℕ) MountedRefusal → Type 0
IsReplied old new now header operation (Ok reply) =
    files_after (limits_in old) now header operation (files_in old) ≡ Ok (record { files = files_in new; reply = reply })
IsReplied old new now header operation (Err refusal) =
    (files_in new ≡ files_in old)
    × (refusal ≢ no_memory → files_after (limits_in old) now header operation (files_in old) ≡ Err refusal)

-- an operation on a file without a name changes neither the volume nor the records; any other is answered (this project)
abbrev pub IsServed : MountedServer → MountedServer → ℕ → Header → Operation → Result (List ℕ) MountedRefusal → Type 0
IsServed old new now header operation outcome =
    Kept old new
    × MatchBool (is_orphan old header.node)
    ((new.volume ≡ old.volume) × (new.nodes ≡ old.nodes) × IsReplied old new now header operation outcome)
    (IsAnswered old new now header operation outcome)

-- the image was saved, or wasn't changed since it was last saved; or it couldn't be saved (this project)
abbrev pub IsSaved : MountedServer → MountedServer → List (List ℕ) → Bool → Type 0
IsSaved old new images true =
    ((old.is_changed ≡ false) × (new ≡ old) × (images ≡ []))
    ⊎ ((new ≡ record old { is_changed = false }) × (images ≡ old.volume.image ∷ []))
IsSaved old new images false = (new ≡ old) × (images ≡ [])

-- true if an operation requests saving the image (fuse_opcode)
abbrev pub is_sync : Operation → Bool
is_sync (operations.Fsync handle) = true
is_sync (operations.FsyncDir handle) = true
is_sync operation = false

-- the image is saved first, and then the operation is answered; if saving fails, the operation is refused (errno.h: EIO)
abbrev pub IsSynced : MountedServer → MountedServer → ℕ → Header → Operation → Result (List ℕ) MountedRefusal → List (List ℕ) → Type 0
IsSynced old new now header operation outcome images =
    ((between : MountedServer) × IsSaved old between images true × IsServed between new now header operation outcome)
    ⊎ (IsSaved old new images false × (outcome ≡ Err mounted.Unsaved))

-- an operation is answered; FSYNC and FSYNCDIR save the image first, and no other saves one (this project)
abbrev pub HasOutcome : MountedServer → MountedServer → ℕ → Header → Operation → Result (List ℕ) MountedRefusal → List (List ℕ) → Type 0
HasOutcome old new now header operation outcome images =
    MatchBool (is_sync operation) (IsSynced old new now header operation outcome images)
    (IsServed old new now header operation outcome × (images ≡ []))

-- a reply, or the message with a refusal's error number (fuse_out_header)
abbrev pub message_of : ℕ → Result (List ℕ) MountedRefusal → List ℕ
message_of unique (Ok reply) = reply
message_of unique (Err refusal) = status_message unique (errno refusal)

-- the reply to a malformed request, if the kernel waits for one (errno.h: EIO)
abbrev pub malformed_reply : Header → Option (List ℕ)
malformed_reply header =
    if wants_reply header.opcode then Some (status_message header.unique (errno (mounted.Request requests.Malformed))) else None

-- nothing changes, and nothing is saved (this project)
abbrev pub Stays : MountedServer → MountedServer → List (List ℕ) → Type 0
Stays old new images = (new ≡ old) × (images ≡ [])

-- the effect of a request: the reply, if the kernel waits for one, and the images that are saved (this project)
unfoldable pub Answers : MountedServer → MountedServer → ℕ → Result Request RequestFault → Option (List ℕ) → List (List ℕ) → Type 0
Answers old new now (Ok request) reply images =
    MatchBool (wants_reply request.header.opcode)
    ((outcome : Result (List ℕ) MountedRefusal) × (reply ≡ Some (message_of request.header.unique outcome))
    × HasOutcome old new now request.header request.operation outcome images)
    (Stays old new images × (reply ≡ None))
Answers old new now (Err faults.NoHeader) reply images = Stays old new images × (reply ≡ None)
Answers old new now (Err (faults.Length header)) reply images = Stays old new images × (reply ≡ malformed_reply header)
Answers old new now (Err (faults.Body header)) reply images = Stays old new images × (reply ≡ malformed_reply header)

-- the bytes of a request are counted, and after 16 MiB of requests the journal is cut, unless a record's number would reach 2^64 (this project)
abbrev pub IsCut : MountedServer → MountedServer → ℕ → Type 0
IsCut old new count =
    ((old.weight + count < 2 ^ 24) × (new ≡ record old { weight = old.weight + count }))
    ⊎ ((2 ^ 24 ≤ old.weight + count)
    × ((new ≡ record old { weight = 0; volume = after_cut old.volume })
    ⊎ ((2 ^ 64 ≤ old.volume.first + length old.volume.journal) × (new ≡ record old { weight = 0 }))))

-- a turn: a request's bytes, the current time, the reply, if one is sent, and the images that are saved (this project)
pub record Turn : Type 0 where
  pub request : List ℕ
  pub now : ℕ
  pub reply : Option (List ℕ)
  pub images : List (List ℕ)

-- the effect of a turn; afterwards the journal may be cut (this project)
pub record Turns (old new : MountedServer) (turn : Turn) : Type 0 where
  pub answered : MountedServer
  pub answers : Answers old answered turn.now (request_of turn.request) turn.reply turn.images
  pub cut : IsCut answered new (length turn.request)

-- the effect of some turns, one after another (this project)
unfoldable pub Follow : MountedServer → List Turn → MountedServer → Type 0
Follow old [] new = new ≡ old
Follow old (turn ∷ turns) new = (between : MountedServer) × Turns old between turn × Follow between turns new
