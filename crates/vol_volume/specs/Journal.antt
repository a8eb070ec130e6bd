-- The journal of accepted calls: the records that may follow one another, and the state that results from replaying them.
use Rattle.std.specs.Prelude.{◌≡◌, true, List, [], ◌∷◌, length, None, Some}
use Rattle.vol_dir.specs.Tree.{State}
use Rattle.vol_volume.specs.Verdict.{verdict, is_free_number}
use Rattle.vol_volume.specs.Step.{step}
use Rattle.vol_dir.specs.declared.refusal.Refusal.{Refusal}
use Rattle.vol_dir.specs.declared.refusal.Refusal.TheVariants as refusals
use Rattle.vol_volume.specs.declared.calls.Call.{Call}
use Rattle.vol_volume.specs.declared.calls.Call.TheVariants.{Create, Mkdir, Link, Unlink, Rmdir, Write, Truncate, Chmod, Chown, Times, Mknod}
use Rattle.vol_volume.specs.declared.calls.Done.{Done}
use Rattle.vol_volume.specs.declared.calls.Done.TheVariants.{Made, Wrote, Plain}
use Rattle.vol_volume.specs.declared.calls.Record.{Record}

-- the possible answers to an accepted call: a new node may get any free i-number, and the answer to a write is the number of its bytes (this project)
abbrev pub MayAnswer : State → Call → Done → Type 0
MayAnswer state (Create cred now path perm) (Made i) = is_free_number state.tree i ≡ true
MayAnswer state (Mkdir cred now path perm) (Made i) = is_free_number state.tree i ≡ true
MayAnswer state (Mknod cred now path perm device) (Made i) = is_free_number state.tree i ≡ true
MayAnswer state (Write cred now path offset bytes) (Wrote n) = n ≡ length bytes
MayAnswer state (Link cred now source target) Plain = Unit {0}
MayAnswer state (Unlink cred now path) Plain = Unit {0}
MayAnswer state (Rmdir cred now path) Plain = Unit {0}
MayAnswer state (Truncate cred now path size) Plain = Unit {0}
MayAnswer state (Chmod cred now path perm) Plain = Unit {0}
MayAnswer state (Chown cred now path uid gid) Plain = Unit {0}
MayAnswer state (Times cred now path atime mtime) Plain = Unit {0}
MayAnswer state _ _ = ⊥

-- a record may come next: its call isn't refused, and its answer is possible (this project)
pub record MayFollow (state : State) (entry : Record) : Type 0 where
  pub accepted : verdict state entry.call ≡ None
  pub answered : MayAnswer state entry.call entry.done

-- the state after replaying some records (this project)
abbrev pub after : State → List Record → State
after state [] = state
after state (entry ∷ entries) = after (step state entry.call entry.done) entries

-- each record may come next after those before it (this project)
abbrev pub IsLegal : State → List Record → Type 0
IsLegal state [] = Unit {0}
IsLegal state (entry ∷ entries) = MayFollow state entry × IsLegal (step state entry.call entry.done) entries

-- a call may be refused with this refusal: NoMemory if no check fails, else the refusal of the first check that fails (this project)
abbrev pub Refuses : State → Call → Refusal → Type 0
Refuses state call refusals.NoMemory = verdict state call ≡ None
Refuses state call refusal = verdict state call ≡ Some refusal
