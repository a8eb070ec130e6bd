-- The result of a run of `serve`: the report on the image, and the replies to the requests that were taken.
use Rattle.std.specs.Prelude.{All, ◌≡◌, ◌≢◌, ◌⊎◌, ℕ, Bool, true, List, [], Option, None, Some, Result, Ok, Err, option_map, IsErrAnd, IsOkAnd}
use Rattle.command_faults.specs.ChangeFaults.{IsReason}
use Rattle.command_faults.specs.Faults.{fault_line, fault_status, line_after, no_memory}
use Rattle.command_faults.specs.Streams.{Gets}
use Rattle.command_faults.specs.declared.fault.Fault.{Fault}
use Rattle.command_faults.specs.declared.fault.Fault.TheVariants as faults
use Rattle.command_words.specs.declared.invocation.Serving.{Serving}
use Rattle.command_words.specs.declared.invocation.Serving.TheVariants as servings
use Rattle.host_files.specs.declared.image_file.Stamp.{Stamp}
use Rattle.unixvol.specs.Runs.{HostFiles, IsStatusOfFileOrMemory}
use Rattle.vol_judge.specs.Sound.{IsJudged, IsSound}
use Rattle.vol_layout.specs.Geometry.{geometry_read}
use Rattle.vol_layout.specs.declared.edition.Edition.{Edition}
use Rattle.vol_layout.specs.declared.geometry.Geometry.{Geometry}
use Rattle.vol_layout.specs.declared.geometry.GeometryFault.{GeometryFault}
use Rattle.vol_mounted.specs.Servers.{volume_in}
use Rattle.vol_mounted.specs.Services as services
use Rattle.vol_mounted.specs.declared.server.MountedServer.{MountedServer}
use Rattle.vol_mounted.specs.declared.service.MountedFault.{MountedFault}
use Rattle.vol_mounted.specs.declared.service.MountedFault.TheVariants as mounts
use Rattle.vol_serve.specs.Answers.{reply_to}
use Rattle.vol_serve.specs.Serve.{Serves}
use Rattle.vol_serve.specs.declared.request_loop.ServeFault.{ServeFault}
use Rattle.vol_serve.specs.declared.request_loop.ServeFault.TheVariants as serves
use Rattle.vol_volume.specs.Volume.{Mounted, mounted}

-- the requests taken and the replies sent, before and after, if they are known (this project)
pub record Messages : Type 0 where
  pub had_taken : Option (List (List ℕ))
  pub taken : Option (List (List ℕ))
  pub had_sent : Option (List (List ℕ))
  pub sent : Option (List (List ℕ))

-- the messages taken and sent, from the requests and the replies before and after (this project)
abbrev pub messages : {Q P : Type 0} → (Q → Option (List (List ℕ))) → (P → Option (List (List ℕ))) → Q → Q → P → P → Messages
messages taken sent requests requests' replies replies' =
    record { had_taken = taken requests; taken = taken requests'; had_sent = sent replies; sent = sent replies' }

-- no request is taken and no reply is sent (this project)
abbrev pub MovesNothing : Messages → Type 0
MovesNothing moved = (moved.taken ≡ moved.had_taken) × (moved.sent ≡ moved.had_sent)

-- the geometry of a volume, or status 1 if there is none (this project)
abbrev pub or_refused : Result Geometry GeometryFault → Result Geometry ℕ
or_refused (Ok geometry) = Ok geometry
or_refused (Err fault) = Err 1

-- an image is measured: the line of the first rule that it breaks, if any, is printed, and the result is its geometry, or status 1 if rule 1 or 2 is
-- broken; or memory ran out, which is reported (this project)
abbrev pub Measures : Edition → List ℕ → (List ℕ → Type 0) → Result Geometry ℕ → Type 0
Measures edition image said result =
    ((result ≡ Err 4) × said (fault_line no_memory))
    ⊎ ((least : Option ℕ) × IsJudged true edition image least × said (line_after (option_map faults.Unsound least)) × (result ≡ or_refused (geometry_read edition image)))

-- an image that was measured is served: the replies to the requests taken are sent; without a geometry no request is taken and no reply is sent (this
-- project)
abbrev pub ServesMeasured : List ℕ → Messages → Result Geometry ℕ → Result (Result (Unit {0}) ServeFault) ℕ → Type 0
ServesMeasured image moved (Ok geometry) result =
    IsOkAnd result (λ served. Serves (reply_to geometry image) moved.had_taken moved.taken moved.had_sent moved.sent served)
ServesMeasured image moved (Err status) result = (result ≡ Err status) × MovesNothing moved

-- `serve` runs read-only: a file isn't read, and nothing is taken, sent or printed; or an image, which is read from a file, is measured, and then
-- served (this project)
abbrev pub RunsReadOnly : HostFiles → Edition → (List ℕ → Type 0) → Messages → Result (Result (Unit {0}) ServeFault) ℕ → Type 0
RunsReadOnly files edition said moved result =
    (IsErrAnd result files.unread × MovesNothing moved × said [])
    ⊎ ((image : List ℕ) × (measured : Result Geometry ℕ) × files.shown edition image × Measures edition image said measured
    × ServesMeasured image moved measured result)

-- the volume in an image is mounted, and nothing is printed; or the line with the reason why it can't be mounted is printed, with the status (this
-- project)
abbrev pub MountsImage : Edition → List ℕ → (List ℕ → Type 0) → Result Mounted ℕ → Type 0
MountsImage edition image said (Ok volume) = (volume ≡ mounted edition image) × IsSound edition image × said []
MountsImage edition image said (Err status) =
    (fault : Fault) × IsReason edition image [] fault × (status ≡ fault_status fault) × said (fault_line fault)

-- the result of a run, from the result of its server; if the image couldn't be saved at the end, it is the status of a file or of memory (this
-- project)
abbrev pub EndsMounted : Result (Unit {0}) MountedFault → Result (Result (Unit {0}) ServeFault) ℕ → Type 0
EndsMounted (Ok done) result = result ≡ Ok (Ok done)
EndsMounted (Err (mounts.Serve fault)) result = result ≡ Ok (Err fault)
EndsMounted (Err mounts.Unsaved) result = IsErrAnd result IsStatusOfFileOrMemory

-- a mounted volume is served: the requests taken, the replies sent and the images saved, each of which was written to a file, are those of the
-- server's turns, and the last image saved, or else the one that was read, is the volume's at the end, unless it couldn't be saved; or memory ran out
-- before the first request; without a volume no request is taken and no reply is sent (this project)
abbrev pub ServesMounted : (List ℕ → Type 0) → Messages → Result Mounted ℕ → Result (Result (Unit {0}) ServeFault) ℕ → Type 0
ServesMounted taken moved (Ok volume) result =
    ((result ≡ Ok (Err serves.NoMemory)) × MovesNothing moved)
    ⊎ ((old : MountedServer) × (new : MountedServer) × (images : List (List ℕ)) × (ended : Result (Unit {0}) MountedFault)
    × (volume_in old ≡ volume) × services.Serves old new moved.had_taken moved.taken moved.had_sent moved.sent (Some []) (Some images) ended
    × All (λ image. ∥ taken image ∥₁) images
    × (ended ≢ Err mounts.Unsaved → services.IsStored volume.image (Some images) (volume_in new).image) × EndsMounted ended result)
ServesMounted taken moved (Err status) result = (result ≡ Err status) × MovesNothing moved

-- `serve` runs with changes: a file isn't read, or may not be changed, and nothing is taken, sent or printed; or the volume in an image, which is
-- read from a file, is mounted, and then served (this project)
abbrev pub RunsMounted : HostFiles → Edition → (List ℕ → Type 0) → Messages → Result (Result (Unit {0}) ServeFault) ℕ → Type 0
RunsMounted files edition said moved result =
    (IsErrAnd result files.unread × MovesNothing moved × said [])
    ⊎ ((image : List ℕ) × (stamp : Stamp) × (volume : Result Mounted ℕ) × files.opened edition image stamp × MountsImage edition image said volume
    × ServesMounted files.saved moved volume result)

-- `serve` runs in the way that its options choose (this project)
abbrev pub RunsServe : HostFiles → Edition → Serving → (List ℕ → Type 0) → Messages → Result (Result (Unit {0}) ServeFault) ℕ → Type 0
RunsServe files edition servings.ReadOnly said moved result = RunsReadOnly files edition said moved result
RunsServe files edition (servings.Changes is_mine rescue) said moved result = RunsMounted files edition said moved result

-- the exit status: the status of an image that wasn't served or couldn't be saved; otherwise 0 at the end of the requests, 4 if memory ran out, and 3
-- if a reply couldn't be sent or a request couldn't be read (this project)
abbrev pub EndsServe : Result (Result (Unit {0}) ServeFault) ℕ → ℕ → Type 0
EndsServe (Err status) end = end ≡ status
EndsServe (Ok (Ok done)) end = (end ≡ 0) ⊎ (end ≡ 3)
EndsServe (Ok (Err serves.NoMemory)) end = end ≡ 4
EndsServe (Ok (Err serves.Send)) end = end ≡ 3
EndsServe (Ok (Err serves.Requests)) end = end ≡ 3

-- a server runs to its end, from the contents of standard error; nothing is assumed about the bytes that a read of standard input returns, or that a
-- write of standard output accepts (this project)
abbrev pub ServesToEnd : HostFiles → Option (List ℕ) → Edition → Serving → ℕ → Type 0
ServesToEnd files errors edition serving end =
    (told : Option (List ℕ)) × (untold : Bool) × (result : Result (Result (Unit {0}) ServeFault) ℕ)
    × RunsServe files edition serving (Gets untold errors told) (record { had_taken = None; taken = None; had_sent = None; sent = None }) result
    × EndsServe result end
