-- The effects of serving.
use Rattle.std.specs.Prelude.{◌≡◌, ◌≢◌, ℕ, ◌-◌, ◌^◌, Bool, true, false, List, [], ◌∷◌, ◌++◌, length, map, fold, Option, None, Some, Result, Ok, Err}
use Rattle.std.specs.List.{filter_map, flat_map}
use Rattle.vol_serve.specs.Messages.{Grows}
use Rattle.vol_serve.specs.declared.request_loop.ServeFault.{ServeFault}
use Rattle.vol_serve.specs.declared.request_loop.ServeFault.TheVariants.{NoMemory, Send, Requests}
use Rattle.vol_mounted.specs.Turns.{Turn, Follow, IsSaved}
use Rattle.vol_mounted.specs.declared.server.MountedServer.{MountedServer}
use Rattle.vol_mounted.specs.declared.service.MountedFault.{MountedFault}
use Rattle.vol_mounted.specs.declared.service.MountedFault.TheVariants as mounted

-- the requests of some turns (this project)
abbrev pub requests_of : List Turn → List (List ℕ)
requests_of turns = map (λ (turn : Turn). turn.request) turns

-- the replies of some turns: one for each request whose reply the kernel waits for (this project)
abbrev pub replies_of : List Turn → List (List ℕ)
replies_of turns = filter_map (λ (turn : Turn). turn.reply) turns

-- the images that were saved in some turns (this project)
abbrev pub images_of : List Turn → List (List ℕ)
images_of turns = flat_map (λ (turn : Turn). turn.images) turns

-- the replies sent in a run with this end are the replies of its turns, in order. If memory ran out, there were no turns; if sending failed, the last
-- reply is missing; a run also ends after 2^64 - 1 requests (this project)
abbrev pub AreSent : {X : Type 0} → List Turn → List (List ℕ) → Result X ServeFault → Type 0
AreSent turns sent (Ok done) = sent ≡ replies_of turns
AreSent turns sent (Err NoMemory) = (turns ≡ []) × (sent ≡ [])
AreSent turns sent (Err Send) =
    (before : List Turn) × (last : Turn) × (turns ≡ before ++ last ∷ []) × (last.reply ≢ None) × (sent ≡ replies_of before)
AreSent turns sent (Err Requests) = (sent ≡ replies_of turns) × (length turns ≡ 2 ^ 64 - 1)

-- a run: the requests taken, the replies sent and the images saved belong to some turns, which turn one server into the other (this project)
abbrev pub Runs : {X : Type 0} → MountedServer → MountedServer → Option (List (List ℕ)) → Option (List (List ℕ)) → Option (List (List ℕ))
    → Option (List (List ℕ)) → Option (List (List ℕ)) → Option (List (List ℕ)) → Result X ServeFault → Type 0
Runs old new taken taken' sent sent' saved saved' result =
    (turns : List Turn) × (replies : List (List ℕ)) × Grows taken taken' (requests_of turns) × Grows sent sent' replies
    × Grows saved saved' (images_of turns) × AreSent turns replies result × Follow old turns new

-- the end of a run, and whether the image could be saved after it (this project)
abbrev pub IsEnd : {X : Type 0} → Result X ServeFault → Bool → Result X MountedFault → Type 0
IsEnd ended saved (Ok done) = (saved ≡ true) × (ended ≡ Ok done)
IsEnd ended saved (Err (mounted.Serve fault)) = (saved ≡ true) × (ended ≡ Err fault)
IsEnd ended saved (Err mounted.Unsaved) = saved ≡ false

-- a run, after which the image is saved, if it was changed since it was saved last (this project)
abbrev pub Serves : {X : Type 0} → MountedServer → MountedServer → Option (List (List ℕ)) → Option (List (List ℕ)) → Option (List (List ℕ))
    → Option (List (List ℕ)) → Option (List (List ℕ)) → Option (List (List ℕ)) → Result X MountedFault → Type 0
Serves {X = X} old new taken taken' sent sent' saved saved' result =
    (between : MountedServer) × (before : Option (List (List ℕ))) × (ended : Result X ServeFault) × (images : List (List ℕ)) × (is_saved : Bool)
    × Runs old between taken taken' sent sent' saved before ended × Grows before saved' images × IsSaved between new images is_saved
    × IsEnd ended is_saved result

-- the image in the file: the last one that was saved, or else the one that was in the file before (this project)
abbrev pub last_of : List ℕ → List (List ℕ) → List ℕ
last_of file images = fold (λ (before image : List ℕ). image) file images

-- the images that were saved are known, and this one is in the file after them (this project)
abbrev pub IsStored : List ℕ → Option (List (List ℕ)) → List ℕ → Type 0
IsStored file saved image = (images : List (List ℕ)) × (saved ≡ Some images) × (image ≡ last_of file images)

-- the images that were saved are known, and the server's image is in the file, unless it is marked as changed (this project)
abbrev pub Stores : List ℕ → Option (List (List ℕ)) → MountedServer → Type 0
Stores file saved server =
    (images : List (List ℕ)) × (saved ≡ Some images) × (server.is_changed ≡ false → server.volume.image ≡ last_of file images)
