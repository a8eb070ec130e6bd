-- The effects of the functions on the volume that a handle holds.
use Rattle.std.specs.Prelude.{◌≡◌, ◌≢◌, ◌↔◌, ◌≤◌, length, ℕ, ℤ, pos, nat_eq, if◌then◌else◌, Option, None, Some, Result, Err}
use Rattle.vol_dir.specs.Refusals.{number_of}
use Rattle.vol_dir.specs.declared.refusal.Refusal.{Refusal}
use Rattle.vol_layout.specs.declared.edition.Edition.{Edition}
use Rattle.vol_layout.specs.declared.edition.Edition.TheVariants.{V6, V7}
use Rattle.vol_layout.specs.declared.mode.DeviceKind.{DeviceKind}
use Rattle.vol_layout.specs.declared.mode.DeviceKind.TheVariants as devices
use Rattle.vol_volume.specs.Answer.{Answers}
use Rattle.vol_volume.specs.Journal.{Refuses}
use Rattle.vol_volume.specs.Volume.{Mounted, reads_as, Accepts}
use Rattle.vol_volume.specs.declared.calls.Call.{Call}
use Rattle.vol_volume.specs.declared.calls.Call.TheVariants as calls
use Rattle.vol_volume.specs.declared.calls.Done.{Done}
use Rattle.vol_volume.specs.declared.calls.Done.TheVariants.{Made}
use Rattle.vol_volume.specs.declared.queries.Query.{Query}
use Rattle.vol_volume.specs.declared.queries.Query.TheVariants as queries
use Rattle.vol_volume.specs.declared.queries.Reply.{Reply}
use Rattle.vol_volume.specs.declared.queries.Reply.TheVariants as replies
use Rattle.unixvol_c.specs.Opened.{Opened, trimmed}
use Rattle.unixvol_c.specs.declared.TheConstants.{DONE, NO_MEMORY, CLOSED}

-- the edition with a number, 6 or 7 (this project)
abbrev pub edition_of : ℕ → Edition
edition_of n = if nat_eq n 6 then V6 else V7

-- the number isn't an edition's (this project)
abbrev pub IsNoEdition : ℕ → Type 0
IsNoEdition n = (n ≢ 6) × (n ≢ 7)

-- DONE if a function has done its work; CLOSED exactly if the handle is closed; else NO_MEMORY or a refusal's number, and nothing has changed (this
-- project)
pub record Returns (held : Option Opened) (done : Type 0) (is_refusal : ℤ → Type 0) (same : Type 0) (result : ℤ) : Type 0 where
  pub succeeded : result ≡ DONE → done
  pub refused : result ≢ DONE → result ≢ NO_MEMORY → result ≢ CLOSED → is_refusal result
  pub closed : result ≡ CLOSED ↔ held ≡ None
  pub unchanged : result ≢ DONE → same

-- a query on the volume of a handle has this outcome (this project)
abbrev pub IsAnswered : Option Opened → Query → Result Reply Refusal → Type 0
IsAnswered None query outcome = ⊥
IsAnswered (Some held) query outcome = Answers (reads_as held.volume.edition held.volume.image).tree query outcome

-- a reply is of its query's kind, and has no more bytes than the query's length (this project)
abbrev pub Replies : Query → Reply → Type 0
Replies (queries.Stat cred path) (replies.Stat stat) = Unit {0}
Replies (queries.Read cred path offset len) (replies.Bytes bytes) = length bytes ≤ len
Replies (queries.List cred path) (replies.Names names) = Unit {0}
Replies _ _ = ⊥

-- a query on the volume of a handle is refused, and this is the number of the refusal (this project)
pub record RefusesQuery (held : Option Opened) (query : Query) (number : ℤ) : Type 0 where
  pub refusal : Refusal
  pub numbered : number ≡ pos (number_of refusal)
  pub answered : IsAnswered held query (Err refusal)

-- the old volume accepted a call, and the new one is the result, its journal cut if it had grown too large; the stored answer stays (this project)
pub record IsMade (old new : Opened) (call : Call) (done : Done) : Type 0 where
  pub made : Mounted
  pub accepted : Accepts old.volume made call done
  pub trimmed : new.volume ≡ trimmed made
  pub answer : new.answer ≡ old.answer

-- a call makes a new node (this project)
abbrev pub MakesNode : Call → Type 0
MakesNode (calls.Create cred now path perm) = Unit {0}
MakesNode (calls.Mkdir cred now path perm) = Unit {0}
MakesNode (calls.Mknod cred now path perm device) = Unit {0}
MakesNode _ = ⊥

-- the kind of device with a letter (mknod, section 8 of the manual of the sixth edition, section 1 of the seventh's)
abbrev pub device_kind_of : ℕ → Option DeviceKind
device_kind_of letter =
    if nat_eq letter 99 then Some devices.Character
    else if nat_eq letter 98 then Some devices.Block
    else None

-- the volume of a handle accepted a call, and the handle holds the resulting volume (this project)
abbrev pub Makes : Option Opened → Option Opened → Call → Done → Type 0
Makes (Some old) (Some new) call done = IsMade old new call done
Makes _ _ call done = ⊥

-- a call on the volume of a handle is refused with this refusal (this project)
abbrev pub IsRefused : Option Opened → Call → Refusal → Type 0
IsRefused None call refusal = ⊥
IsRefused (Some held) call refusal = Refuses (reads_as held.volume.edition held.volume.image) call refusal

-- a call on the volume of a handle is refused, and this is the number of the refusal (this project)
pub record RefusesCall (held : Option Opened) (call : Call) (number : ℤ) : Type 0 where
  pub refusal : Refusal
  pub numbered : number ≡ pos (number_of refusal)
  pub refused : IsRefused held call refusal

-- a function makes a call on the volume of a handle (this project)
abbrev pub ReturnsCall : Option Opened → Option Opened → Call → ℤ → Type 0
ReturnsCall old new call result = Returns old ((done : Done) × Makes old new call done) (RefusesCall old call) (new ≡ old) result

-- a function makes a call for a new node, and sets the caller's number to its i-number (this project)
abbrev pub ReturnsNode : Option Opened → Option Opened → Call → ℕ → ℕ → ℤ → Type 0
ReturnsNode old new call before after result = Returns old (Makes old new call (Made after)) (RefusesCall old call) ((new ≡ old) × (after ≡ before)) result
