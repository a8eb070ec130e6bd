-- Folders that are put with all below them: reading them, and the end of `sync`.
use Rattle.std.proofs.Common.{◌≡◌, ◌<◌, ◌+◌, ◌++◌, ◌∷◌, ℕ, Bool, true, false, List, [], Option, arith, get_or, inl, inr, length, map, refl, subst, sym, take}
use Rattle.std.specs.Borrow.{Bor}
use Rattle.std.specs.List.{FoldsTo}
use Rattle.std.proofs.lemmas.Fn.{FoldsTo-push}
use Rattle.std.proofs.lemmas.List.{take_more}
use Rattle.host_files.specs.declared.image_file.Stamp.{Stamp}
use Rattle.command_changes.specs.declared.sync.SyncedImage.{SyncedImage}
use Rattle.command_faults.specs.Streams.{Streams}
use Rattle.unixvol.specs.Runs.{Ends, HostFiles, IsStatusOfFileOrMemory, IsUnread}
use Rattle.unixvol.specs.Syncs.{EndsSynced}
use Rattle.unixvol.proofs.CopiesMade.{ends_printed}
use Rattle.unixvol.proofs.Identified.{path_of, paths_more}
use Rattle.unixvol.proofs.Traced.{printed_ends, quiet_ends}
use Rattle.std.specs.Prelude.{None}

-- a file that isn't read has the status of a file or of memory
pub unread_status : {F : Type 0} (remaining : F → Option (List ℕ)) (status : ℕ) → IsUnread remaining status → IsStatusOfFileOrMemory status
unread_status remaining status (inl three) = inl three
unread_status remaining status (inr memory) = inr memory.0

-- what was made of the first `k` items, and then of one more
pub next_item : {P X : Type 0} (R : P → X → P → Type 0) (p : P) (items : List X) (k : ℕ) (d : X) (old new : P) → k < length items
    → FoldsTo R p (take k items) old → R old (get_or items k d) new → FoldsTo R p (take (k + 1) items) new
next_item R p items k d old new within are one =
    subst (λ xs. FoldsTo R p xs new) (sym (take_more items k d within)) (FoldsTo-push R p (take k items) old (get_or items k d) new are one)

-- the same of the words of some paths
pub next_path : {P : Type 0} (R : P → List ℕ → P → Type 0) (p : P) (paths : List (Bor (List ℕ))) (k : ℕ) (d : Bor (List ℕ)) (old new : P) → k < length paths
    → FoldsTo R p (take k (map path_of paths)) old → R old (get_or paths k d).now new → FoldsTo R p (take (k + 1) (map path_of paths)) new
next_path R p paths k d old new within are one =
    subst (λ xs. FoldsTo R p xs new) (sym (paths_more paths k d within))
    (FoldsTo-push R p (take k (map path_of paths)) old (get_or paths k d).now new are one)

-- the end of `sync` after its calls were made
pub ends_synced : (files : HostFiles) (stamp : Stamp) (is_trial : Bool) (synced : SyncedImage) (streams : Streams) (status : ℕ)
    → EndsSynced files stamp is_trial synced streams status → Ends streams status
ends_synced files stamp true synced streams status prints = ends_printed streams synced.lines.items status prints
ends_synced files stamp false synced streams status (inl (same, quiet)) = printed_ends None [] [] streams status refl quiet
ends_synced files stamp false synced streams status (inr (inl (stored, stood, quiet))) = printed_ends None [] [] streams status refl quiet
ends_synced files stamp false synced streams status (inr (inr (inl three, quiet))) =
    quiet_ends status [] [] streams status (omega (arith, three)) (omega (arith, three)) quiet
ends_synced files stamp false synced streams status (inr (inr (inr four, quiet))) =
    quiet_ends status [] [] streams status (omega (arith, four)) (omega (arith, four)) quiet
