-- The result of a run of the program, from the bytes that its files give.
use Rattle.std.specs.Prelude.{All, length, map, nat_le, nat_lt, ◌≡◌, ◌≢◌, ◌⊎◌, ◌↔◌, ◌≤◌, ◌&&◌, ◌||◌, ◌+◌, ◌*◌, ◌++◌, ◌∷◌, ℕ, false, true, List, [], Option, None, Some, IsSome, IfSome, Result, Ok, Err, IsErrAnd, Bool, if◌then◌else◌}
use Rattle.std.specs.Io.KnownBytes.{Consumes, Keeps}
use Rattle.std.specs.Result.{is_ok}
use Rattle.clap.specs.Words.{kind_of}
use Rattle.clap.specs.declared.error.Error.{Error}
use Rattle.clap.specs.declared.error.kind.ErrorKind.{ErrorKind}
use Rattle.clap.specs.declared.error.kind.ErrorKind.TheVariants as kinds
use Rattle.vol_mkfs.specs.Blank.{Blank, blank_of, IsMade}
use Rattle.vol_mkfs.specs.Mkfs.{is_size}
use Rattle.vol_layout.specs.Edition.{constants}
use Rattle.vol_layout.specs.Geometry.{block_count, geometry_read}
use Rattle.vol_layout.specs.Ids.{is_bad_id}
use Rattle.pdp_words.specs.Devices.{LosesFront}
use Rattle.command_reads.specs.Get.{GetsFile}
use Rattle.command_reads.specs.Look.{Looks}
use Rattle.command_terms.specs.declared.looks.Look.{Look}
use Rattle.command_terms.specs.declared.looks.OutputForm.{OutputForm}
use Rattle.command_terms.specs.declared.looks.Look.TheVariants as looks
use Rattle.vol_listing.specs.declared.options.Screen.{Screen}
use Rattle.vol_listing.specs.declared.options.Screen.TheVariants as screens
use Rattle.command_changes.specs.Changes.{changed}
use Rattle.command_changes.specs.declared.kept.GivenFile.{GivenFile}
use Rattle.command_terms.specs.declared.options.Keep.{Keep}
use Rattle.command_terms.specs.declared.options.Keep.TheVariants as keeps
use Rattle.command_changes.specs.declared.kept.Kept.{Kept}
use Rattle.command_changes.specs.declared.kept.Kept.TheVariants as kepts
use Rattle.command_terms.specs.Needs.{needs_of}
use Rattle.command_terms.specs.declared.changes.Change.{Change}
use Rattle.command_terms.specs.declared.changes.Needs.{Needs}
use Rattle.command_terms.specs.declared.changes.Needs.TheVariants as needs
use Rattle.command_reads.specs.Checkers.{Checks}
use Rattle.command_reads.specs.Cat.{PrintsNode, IsNoWriters, cat_status}
use Rattle.command_reads.specs.Node.{number_of}
use Rattle.command_faults.specs.Outcomes.{Concludes, IsAmong}
use Rattle.command_faults.specs.Streams.{Streams}
use Rattle.command_changes.specs.Mkfs.{mkfs_line_at}
use Rattle.command_changes.specs.Build.{of_build, program_of}
use Rattle.command_changes.specs.Migrate.{of_migration}
use Rattle.command_changes.specs.Repair.{IsRepairReported, IsUnrepaired}
use Rattle.command_changes.specs.Resize.{of_resize}
use Rattle.command_changes.specs.Salvage.{IsReported, IsUnsalvaged}
use Rattle.command_faults.specs.declared.answer.Remarked.{Remarked}
use Rattle.command_faults.specs.declared.fault.Fault.{Fault}
use Rattle.command_reads.specs.Print.{IsTold, Prints}
use Rattle.vol_layout.specs.declared.edition.Edition.{Edition}
use Rattle.vol_layout.specs.declared.edition.Edition.TheVariants.{V6}
use Rattle.std.specs.Global.{Vec}
use Rattle.vol_play.specs.Play.{PlaysVolume}
use Rattle.vol_scripts.specs.Scripts.{has_bad_start}
use Rattle.vol_findings.specs.Reports.{other_edition}
use Rattle.command_faults.specs.declared.answer.Answer.{Answer}
use Rattle.command_reads.specs.declared.cat.CatFault.{CatFault}
use Rattle.command_reads.specs.declared.cat.CatFault.TheVariants.{Writer}
use Rattle.command_terms.specs.declared.looks.NodeName.{NodeName}
use Rattle.command_words.specs.declared.invocation.Invocation.{Invocation}
use Rattle.command_words.specs.declared.invocation.Invocation.TheVariants as invocations
use Rattle.command_words.specs.declared.invocation.NewPlace.{NewPlace}
use Rattle.command_words.specs.declared.invocation.NewPlace.TheVariants as places
use Rattle.command_words.specs.declared.invocation.VolumeFile.{VolumeFile}
use Rattle.command_words.specs.declared.invocation.Work.{Work}
use Rattle.command_words.specs.declared.invocation.Work.TheVariants as works
use Rattle.vol_check.specs.declared.checker.Checker.{Checker}
use Rattle.command_changes.specs.declared.build.FilledList.{FilledList}
use Rattle.command_changes.specs.declared.mkfs.MadeVolume.{MadeVolume}
use Rattle.command_terms.specs.declared.options.Migration.{Migration}
use Rattle.command_terms.specs.declared.options.Repairing.{Repairing}
use Rattle.command_terms.specs.declared.plays.PlayForm.{PlayForm}
use Rattle.vol_mkfs.specs.declared.blank.NewVolume.{NewVolume}
use Rattle.host_files.specs.OpenedFiles.{IsOpened}
use Rattle.host_files.specs.Packs.{IsMovedTo, IsReadFrom}
use Rattle.host_files.specs.ReadParts.{IsReadOn, IsReadUpTo}
use Rattle.host_files.specs.declared.volume_front.UpTo.{UpTo}
use Rattle.host_files.specs.declared.volume_front.UpTo.TheVariants.{End, Volume, Archive}
use Rattle.host_files.specs.Save.{IsTaken, Stores}
use Rattle.host_files.specs.declared.image_file.Stamp.{Stamp}
use Rattle.host_files.specs.declared.saved_files.VolumePart.{VolumePart}
use Rattle.pack_files.specs.PackFiles.{blocks_in}
use Rattle.pack_files.specs.declared.other_volumes.Growth.{Growth}
use Rattle.pack_lists.specs.Archive.{filled}
use Rattle.pack_lists.specs.Lists.{list_in, listed}
use Rattle.pack_lists.specs.declared.list.PackList.{PackList}
use Rattle.unixvol.specs.Builds.{IsFilled, TellsUnlisted}
use Rattle.unixvol.specs.Exits.{Exits, ExitsAfterSaving, ToEnd}
use Rattle.unixvol.specs.Reports.{IsOneFile, IsReportTold, may_report_read}
use Rattle.unixvol.specs.Resize.{IsAlone, has_only}
use Rattle.unixvol.specs.Traces.{EndsTraced}

-- these bytes were read from some file, up to this end (std::io::Read)
abbrev pub Gave : {F : Type 0} → UpTo → (F → Option (List ℕ)) → List ℕ → Type 0
Gave {F} up_to remaining bytes = (old : F) × (new : F) × IsReadUpTo up_to (remaining old) (remaining new) bytes

-- these bytes of a volume that begins at this block were read from some file, up to this end (std::io::Read)
abbrev pub GaveAt : {F : Type 0} → ℕ → UpTo → (F → Option (List ℕ)) → List ℕ → Type 0
GaveAt {F} at up_to remaining bytes = (old : F) × (new : F) × IsReadFrom (512 * at) up_to (remaining old) (remaining new) bytes

-- the first `most` bytes of a volume that begins at this block were read from some file, or as many as it had there (std::io::Read)
abbrev pub GaveFront : {F : Type 0} → ℕ → ℕ → (F → Option (List ℕ)) → List ℕ → Type 0
GaveFront {F} at most remaining bytes =
    (old : F) × (mid : Option (List ℕ)) × (new : F) × IsMovedTo (512 * at) (remaining old) mid × IsReadOn mid (remaining new) [] bytes most

-- these bytes were read from some file, which had no more left (std::io::Read)
abbrev pub GaveBytes : {F : Type 0} → (F → Option (List ℕ)) → List ℕ → Type 0
GaveBytes remaining bytes = Gave End remaining bytes

-- these bytes of a file to put into a volume of an edition were read from it: all of them; or, if the file is larger than any file of the edition, its
-- first bytes, one more than the greatest size, which no file of the volume takes (std::io::Read)
abbrev pub GavePut : {F : Type 0} → Edition → (F → Option (List ℕ)) → List ℕ → Type 0
GavePut {F} edition remaining bytes =
    GaveBytes remaining bytes
    ⊎ ((length bytes ≡ (constants edition).greatest + 1) × (old : F) × (new : F) × Consumes (remaining old) (remaining new) bytes)

-- this script was read from a file: all of it; or its first 65,536 bytes and a newline, if the first line of a script that begins with these bytes can't
-- be read, whatever follows them (std::io::Read)
abbrev pub GaveScript : {F : Type 0} → (F → Option (List ℕ)) → List ℕ → Type 0
GaveScript {F} remaining script =
    GaveBytes remaining script
    ⊎ ((front : List ℕ) × (old : F) × (new : F) × Consumes (remaining old) (remaining new) front × (length front ≡ 65536)
    × (has_bad_start front ≡ true) × (script ≡ front ++ 10 ∷ []))

-- this archive, of at most `blocks` blocks, was read from some file; the bytes after it, if any, may not have been read (std::io::Read)
abbrev pub GaveArchive : {F : Type 0} → (F → Option (List ℕ)) → List ℕ → Type 0
GaveArchive remaining archive = (blocks : ℕ) × Gave (Archive blocks) remaining archive

-- true if rule 1 or 2 doesn't hold for an image of an edition, and its super-block records more bytes for the other edition than it has, but no more than
-- a volume can have (this project)
abbrev pub is_other_longer : Edition → List ℕ → Bool
is_other_longer edition image =
    if is_ok (geometry_read edition image) then false else if nat_lt (length image) 1024 then false
    else nat_le (block_count (other_edition edition) image) (constants (other_edition edition)).block_limit
    && nat_lt (length image) (512 * block_count (other_edition edition) image)

-- this image for `check` was read from a file, from this block on: that of a volume; or, if rule 1 or 2 doesn't hold for that and the other edition's volume is longer, that
-- of a volume of the other edition (std::io::Read)
abbrev pub GaveImage : {F : Type 0} → ℕ → Edition → (F → Option (List ℕ)) → List ℕ → Type 0
GaveImage at edition remaining image =
    GaveAt at (Volume edition) remaining image
    ⊎ (((own : List ℕ) × GaveAt at (Volume edition) remaining own × (is_other_longer edition own ≡ true))
    × GaveAt at (Volume (other_edition edition)) remaining image)

-- a file isn't read, with this status: 3 if it can't be opened, can't be read to the end, is longer than the largest volume, has an archive that is
-- too long, or may not be changed; 4 if memory ran out, after some file was opened and at most a prefix of its bytes was read (this project)
abbrev pub IsUnread : {F : Type 0} → (F → Option (List ℕ)) → ℕ → Type 0
IsUnread {F} remaining status = (status ≡ 3) ⊎ ((status ≡ 4) × (old : F) × (new : F) × LosesFront (remaining old) (remaining new))

-- the volume with these bytes, which begins at this block, was saved in its place (this project)
abbrev pub IsStored : {F : Type 0} → ℕ → List ℕ → (F → Option (List ℕ)) → (F → Option (List ℕ)) → (F → Stamp → Type 0) → Type 0
IsStored {F} at bytes remaining contents had = (part : VolumePart) × (part.at ≡ at) × (part.bytes.now ≡ bytes) × Stores remaining contents had part

-- the effects of files on the program: none could be read, with this status; these bytes, these bytes to put into a volume of an edition, this
-- script, this image of a volume of an edition, these first bytes of one, or this image for `check` was read from a file; such an image was read from
-- a file that will be changed and had this stamp; these bytes were written to a file; this volume was saved in its place, or in some place; no other
-- volume has a block of this growth; the file at some path had this stamp (this project)
pub record HostFiles : Type 1 where
  pub unread : ℕ → Type 0
  pub given : List ℕ → Type 0
  pub put : Edition → List ℕ → Type 0
  pub script : List ℕ → Type 0
  pub shown : Edition → List ℕ → Type 0
  pub front : ℕ → List ℕ → Type 0
  pub checked : Edition → List ℕ → Type 0
  pub opened : Edition → List ℕ → Stamp → Type 0
  pub taken : List ℕ → Type 0
  pub stored : List ℕ → Type 0
  pub saved : List ℕ → Type 0
  pub alone : Growth → Type 0
  pub stood : Stamp → Type 0

-- the effects of files on a command whose volume begins at this block, from the contracts of reading and writing (std::io::Read and Write)
abbrev pub host_files : {F : Type 0} → ℕ → (F → Option (List ℕ)) → (F → Option (List ℕ)) → (F → Stamp → Type 0) → (Stamp → Type 0) → HostFiles
host_files at remaining contents had stood =
    record {
      unread = IsUnread remaining;
      given = GaveBytes remaining;
      put = λ edition. GavePut edition remaining;
      script = GaveScript remaining;
      shown = λ edition. GaveAt at (Volume edition) remaining;
      front = λ most. GaveFront at most remaining;
      checked = λ edition. GaveImage at edition remaining;
      opened = λ edition. IsOpened at edition remaining had;
      taken = IsTaken contents;
      stored = λ bytes. IsStored at bytes remaining contents had;
      saved = λ bytes. (place : ℕ) × IsStored place bytes remaining contents had;
      alone = IsAlone remaining had;
      stood = stood;
    }

-- the status if a file can't be read or written, or if memory ran out (this project)
abbrev pub IsStatusOfFileOrMemory : ℕ → Type 0
IsStatusOfFileOrMemory status = (status ≡ 3) ⊎ (status ≡ 4)

-- the status after `cat`: 0, or the status of its fault (this project)
abbrev pub status_after : Result (Unit {0}) CatFault → ℕ
status_after (Ok done) = 0
status_after (Err fault) = cat_status fault

-- `cat` prints: nothing if a file isn't read; or, from an image that a file gave, its output, whether standard output failed (if its fault is a writer's, and otherwise no more than before), and the status (this project)
abbrev pub PrintsBody : (ℕ → Type 0) → (List ℕ → Type 0) → Option (List ℕ) → Option (List ℕ) → Bool → Bool → Edition → NodeName → ℕ → Type 0
PrintsBody unread shown old new had_failed failed edition node status =
    (unread status × Keeps old new × (failed ≡ had_failed))
    ⊎ ((image : List ℕ) × (result : Result (Unit {0}) CatFault) × shown image × PrintsNode old new edition image (number_of edition image node) result
    × (IsErrAnd result (λ fault. (count : ℕ) × (fault ≡ Writer count)) → failed ≡ true) × (IsNoWriters result → failed ≡ had_failed)
    × (status ≡ status_after result))

-- `cat` runs: its output, and the status, which is 0 only if standard output didn't fail (this project)
abbrev pub RunsCat : Streams → HostFiles → Edition → NodeName → ℕ → Type 0
RunsCat streams files edition node status =
    PrintsBody files.unread (files.shown edition) streams.old streams.new streams.had_failed streams.failed edition node status × (status ≡ 0 → streams.failed ≡ streams.had_failed) × (streams.lines ≡ [])

-- `mkfs` runs: nothing is printed; the status is 1 exactly if its numbers can't be a volume's, with the line for that; any other line is the one for
-- out of memory, with its status; and if it succeeds, the volume was written to a file (this project)
pub record RunsMkfs (streams : Streams) (taken : List ℕ → Type 0) (volume : NewVolume) (status : ℕ) : Type 0 where
  pub unprinted : Keeps streams.old streams.new
  pub unused : streams.failed ≡ streams.had_failed
  pub refused : status ≡ 1 ↔ ((is_size volume.edition volume.blocks volume.list_blocks ≡ false)
      ⊎ (is_bad_id volume.edition volume.uid volume.gid ≡ true))
  pub within : (status ≤ 4) × (status ≢ 2)
  pub made : status ≡ 0
      → (bytes : List ℕ)
      × IsMade (blank_of volume) bytes × taken bytes
  pub quiet : status ≡ 0 → streams.lines ≡ []
  pub told : status ≡ 1 → streams.lines ≡ mkfs_line_at (is_size volume.edition volume.blocks volume.list_blocks) 1
  pub unsaved : status ≡ 3 → streams.lines ≡ []
  pub wanting : status ≡ 4 → (streams.lines ≡ []) ⊎ (streams.lines ≡ mkfs_line_at (is_size volume.edition volume.blocks volume.list_blocks) 4)

-- the status after an answer: the answer's own if its image, if any, was saved; 3 or 4 if saving failed (this project)
abbrev pub EndsSaved : (List ℕ → Type 0) → Answer → ℕ → Type 0
EndsSaved taken answer status =
    ((status ≡ answer.status) × IfSome answer.image (λ bytes. taken bytes.items)) ⊎ (IsSome answer.image × IsStatusOfFileOrMemory status)

-- the status after a play: as after another command that saves; if standard output failed, the status for that remains (this project)
abbrev pub EndsPlayed : (List ℕ → Type 0) → Answer → ℕ → Type 0
EndsPlayed taken answer status = EndsSaved taken answer status × (answer.status ≡ 3 → status ≡ 3)

-- the bytes of a new volume were saved (this project)
abbrev pub IsSavedAs : (List ℕ → Type 0) → Blank → Type 0
IsSavedAs taken blank = (bytes : List ℕ) × IsMade blank bytes × taken bytes

-- the status after `mkfs`: its own if the volume that it made, if any, was saved; otherwise the status of a file (this project)
abbrev pub MadeSaved : (List ℕ → Type 0) → MadeVolume → ℕ → Type 0
MadeSaved taken made status = ((status ≡ made.status) × IfSome made.volume (IsSavedAs taken)) ⊎ (IsSome made.volume × IsStatusOfFileOrMemory status)

-- nothing is done: a file isn't read, and nothing is printed (this project)
abbrev pub RunsNothing : Streams → HostFiles → ℕ → Type 0
RunsNothing streams files status =
    files.unread status × Keeps streams.old streams.new × (streams.failed ≡ streams.had_failed) × (streams.lines ≡ [])

-- `migrate` runs: nothing is done; or the volume in an image, which is read from a file, is migrated, nothing is printed, and the result is saved
-- (this project)
abbrev pub RunsMigrate : Streams → HostFiles → Migration → ℕ → Type 0
RunsMigrate streams files migration status =
    RunsNothing streams files status
    ⊎ ((image : List ℕ) × (answer : Answer) × files.shown V6 image × Concludes (of_migration image migration) streams answer
    × EndsSaved files.taken answer status)

-- the volume of a list is built from the bytes that its files gave, nothing is printed, and the volume is saved (this project)
abbrev pub BuildsListed : Streams → HostFiles → List ℕ → ℕ → Type 0
BuildsListed streams files text status =
    (list : PackList) × (full : FilledList) × (answer : Answer) × (list_in text ≡ Ok (listed list)) × IsFilled files.put list full
    × Concludes (of_build full.volume full.root (program_of full) (map filled full.members.items)) streams answer × EndsSaved files.taken answer status

-- `build` runs, with the list in the file of this name: nothing is done, as a file isn't read; or the list is read from a file, and it can't be read as a
-- list; or its volume is built (this project)
abbrev pub RunsBuild : Streams → HostFiles → List ℕ → ℕ → Type 0
RunsBuild streams files name status =
    RunsNothing streams files status
    ⊎ ((text : List ℕ) × files.given text × (TellsUnlisted streams name text status ⊎ BuildsListed streams files text status))

-- a volume with another number of blocks was saved, if this is no trial: in its place, or as the whole file if the file has nothing else; and the system
-- reported that some file had the stamp of the volume's file (this project)
abbrev pub IsResizedSaved : HostFiles → Stamp → Growth → Bool → List ℕ → Type 0
IsResizedSaved files stamp growth true bytes = Unit {0}
IsResizedSaved files stamp growth false bytes =
    (files.stored bytes ⊎ ((has_only stamp growth ≡ true) × files.taken bytes)) × files.stood stamp

-- no other volume has a block that a volume gets, and the volume was saved, if this is no trial (this project)
abbrev pub SavesResized : HostFiles → Stamp → Growth → Bool → List ℕ → Type 0
SavesResized files stamp growth is_trial bytes = files.alone growth × IsResizedSaved files stamp growth is_trial bytes

-- the growth of a volume in a file that was read as this image (this project)
abbrev pub growth_of : VolumeFile → List ℕ → ℕ → Growth
growth_of volume image blocks = record { at = volume.at; had = blocks_in (length image); gets = blocks }

-- `resize` runs: nothing is done; or the volume in an image, which is read from a file and may be changed, gets so many blocks, and nothing is printed; it
-- is saved, unless this is a trial (this project)
abbrev pub RunsResize : Streams → HostFiles → VolumeFile → ℕ → Bool → ℕ → Type 0
RunsResize streams files volume blocks is_trial status =
    RunsNothing streams files status
    ⊎ ((image : List ℕ) × (stamp : Stamp) × (answer : Answer) × files.opened volume.edition image stamp
    × Concludes (of_resize volume.edition image blocks) streams answer
    × EndsSaved (SavesResized files stamp (growth_of volume image blocks) is_trial) answer status)

-- a volume is saved in a file, and then its report is printed, on standard error if the system said that the file is standard output; or it isn't
-- saved, and nothing is printed (this project)
abbrev pub SavesCopy : Streams → (List ℕ → Type 0) → (Stamp → Type 0) → List ℕ → List ℕ → ℕ → Type 0
SavesCopy streams taken stood bytes report status =
    (taken bytes × Prints streams report status)
    ⊎ (IsOneFile stood × taken bytes × IsReportTold streams report status)
    ⊎ (IsStatusOfFileOrMemory status × Keeps streams.old streams.new × (streams.failed ≡ streams.had_failed) × (streams.lines ≡ []))

-- the report on a volume is printed; if a file is named for the volume, it is saved there first, and if that fails nothing is printed (this project)
abbrev pub ReportsCopy : {A : Type 0} → Option A → Streams → (List ℕ → Type 0) → (Stamp → Type 0) → List ℕ → List ℕ → ℕ → Type 0
ReportsCopy None streams taken stood bytes report status = Prints streams report status
ReportsCopy (Some copy) streams taken stood bytes report status = SavesCopy streams taken stood bytes report status

-- a command runs that makes a volume from an image, and reports on it: nothing is done; or an image is read from a file, and a fault of this kind is
-- reported; or a volume and a report of this kind are made from the image, and the report is printed (this project)
abbrev pub RunsCopying : {A : Type 0} → Streams → HostFiles → Edition → (List ℕ → Fault → Type 0) → (List ℕ → List ℕ → List ℕ → Type 0) → Option A → ℕ → Type 0
RunsCopying streams files edition fails makes copy status =
    RunsNothing streams files status
    ⊎ ((image : List ℕ) × files.shown edition image
    × (((fault : Fault) × fails image fault × IsTold streams fault status)
    ⊎ ((bytes : List ℕ) × (report : List ℕ) × makes image bytes report × ReportsCopy copy streams files.taken files.stood bytes report status)))

-- `salvage -n` or `-o` runs: nothing is done; or the reason why the image that a file gave can't be salvaged is reported; or it is salvaged, and reported
-- on (this project)
abbrev pub RunsSalvage : {A : Type 0} → Streams → HostFiles → Edition → Option A → ℕ → Type 0
RunsSalvage streams files edition copy status = RunsCopying streams files edition (IsUnsalvaged edition) (IsReported edition) copy status

-- `repair` runs: nothing is done; or the reason why the image that a file gave isn't repaired is reported; or it is repaired, to a copy, and all that
-- differs is reported (this project)
abbrev pub RunsRepair : {A : Type 0} → Streams → HostFiles → Edition → Option A → Repairing → ℕ → Type 0
RunsRepair streams files edition copy repairing status =
    RunsCopying streams files edition (IsUnrepaired edition repairing.blocks) (IsRepairReported edition repairing.blocks) copy status

-- `get` runs: nothing is done; or the file at a path of an image, which is read from a file, is printed (this project)
abbrev pub RunsGetOne : Streams → HostFiles → Edition → List ℕ → ℕ → Type 0
RunsGetOne streams files edition path status =
    RunsNothing streams files status ⊎ ((image : List ℕ) × files.shown edition image × GetsFile edition image path streams status)

-- a checker runs: nothing is done; or its findings on an image, which is read from a file, are printed (this project)
abbrev pub RunsCheck : Streams → HostFiles → Screen → Edition → Checker → OutputForm → ℕ → Type 0
RunsCheck streams files screen edition checker form status =
    RunsNothing streams files status ⊎ ((image : List ℕ) × files.shown edition image × Checks checker edition image form screen streams status)

-- `count` scripts are played: nothing is done; or they are read from files and played on an image, which is read from a file and may be changed, and
-- the volume is saved if the system reported that some file had the stamp of the image's file (this project)
abbrev pub RunsPlay : Streams → HostFiles → Edition → ℕ → Bool → PlayForm → ℕ → Type 0
RunsPlay streams files edition count journal form status =
    RunsNothing streams files status
    ⊎ ((image : List ℕ) × (stamp : Stamp) × (scripts : List (Vec ℕ)) × (answer : Answer) × files.opened edition image stamp
    × All (λ script. files.script script.items) scripts × (length scripts ≡ count)
    × PlaysVolume edition image journal form scripts streams answer × EndsPlayed (λ saved. files.stored saved × files.stood stamp) answer status)

-- work with several threads runs (this project)
abbrev pub RunsWork : Streams → HostFiles → Screen → Edition → Work → ℕ → Type 0
RunsWork streams files screen edition (works.Check checker workers form) status = RunsCheck streams files screen edition checker form status
RunsWork streams files screen edition (works.Play scripts journal form) status = RunsPlay streams files edition (length scripts.items) journal form status

-- the screen is a terminal with at least one column if the system reports that standard output is a terminal; otherwise it is no terminal (this
-- project)
abbrev pub IsShownBy : Bool → Screen → Type 0
IsShownBy true (screens.Terminal columns colours) = 1 ≤ columns
IsShownBy true screens.Stream = ⊥
IsShownBy false (screens.Terminal columns colours) = ⊥
IsShownBy false screens.Stream = Unit {0}

-- the image to show; for `check` it may be that of a volume of the other edition, since `check` also says if rules 1 and 2 hold for that (this project)
abbrev pub IsSeen : HostFiles → Edition → Look → List ℕ → Type 0
IsSeen files edition (looks.Check graded form) image = files.checked edition image
IsSeen files edition (looks.List path listing) image = files.shown edition image
IsSeen files edition (looks.Slots path form) image = files.shown edition image
IsSeen files edition (looks.ListUnsound path listing) image = files.shown edition image
IsSeen files edition (looks.ReadUnsound path) image = files.shown edition image
IsSeen files edition (looks.Export path options) image = files.shown edition image
IsSeen files edition (looks.Sums path form lost) image = files.shown edition image
IsSeen files edition (looks.Inode node form) image = files.shown edition image
IsSeen files edition (looks.Super form) image = files.shown edition image
IsSeen files edition (looks.Free form) image = files.shown edition image
IsSeen files edition (looks.Block block form) image = files.shown edition image
IsSeen files edition (looks.Dump target form) image = files.shown edition image
IsSeen files edition (looks.Df form) image = files.shown edition image
IsSeen files edition (looks.Find path name lost form) image = files.shown edition image
IsSeen files edition (looks.Map picture file) image = files.shown edition image
IsSeen files edition looks.Uses image = files.shown edition image

-- part of an image is shown: nothing is done; or it is shown from an image that was read from a file (this project)
abbrev pub RunsLook : Streams → HostFiles → Screen → Edition → Look → ℕ → Type 0
RunsLook streams files screen edition look status =
    RunsNothing streams files status ⊎ ((image : List ℕ) × IsSeen files edition look image × Looks edition image screen streams status look)

-- the effects of standard input on the program: it couldn't be read, with this status; or this archive was read from it (this project)
pub record HostInput : Type 1 where
  pub unread : ℕ → Type 0
  pub given : List ℕ → Type 0

-- the effects of standard input, from the contract of reading (std::io::Read)
abbrev pub host_input : {F : Type 0} → (F → Option (List ℕ)) → HostInput
host_input remaining = record { unread = IsUnread remaining; given = GaveArchive remaining }

-- what a change needs, the file to put or the archive on standard input, isn't read, with this status (this project)
abbrev pub IsUngiven : (ℕ → Type 0) → (ℕ → Type 0) → Needs → ℕ → Type 0
IsUngiven unread unheard (needs.File file keep) status = unread status
IsUngiven unread unheard needs.Archive status = unheard status
IsUngiven unread unheard needs.Nothing status = ⊥

-- nothing is done: what a change needs isn't read, and nothing is printed (this project)
abbrev pub TakesNothing : Streams → HostFiles → HostInput → Change → ℕ → Type 0
TakesNothing streams files input change status =
    IsUngiven files.unread input.unread (needs_of change) status × Keeps streams.old streams.new × (streams.failed ≡ streams.had_failed) × (streams.lines ≡ [])

-- this may be kept of a file, besides its bytes: permissions of 12 bits, or these and a time (this project)
abbrev pub IsKept : Keep → Kept → Type 0
IsKept keeps.Nothing kepts.Nothing = Unit {0}
IsKept keeps.Execution (kepts.Execution permissions) = permissions ≤ 4095
IsKept keeps.All (kepts.All permissions modified) = permissions ≤ 4095
IsKept keep kept = ⊥

-- these bytes were read, and this may be kept of their file (this project)
abbrev pub IsGivenFile : (List ℕ → Type 0) → Keep → GivenFile → Type 0
IsGivenFile read keep given = read given.bytes.items × IsKept keep given.kept

-- the bytes to put were read from a file, with what is kept of it, and the archive to import from standard input; other changes need no bytes (this
-- project)
abbrev pub IsGivenTo : (List ℕ → Type 0) → (List ℕ → Type 0) → Needs → GivenFile → Type 0
IsGivenTo read heard (needs.File file keep) given = IsGivenFile read keep given
IsGivenTo read heard needs.Archive given = heard given.bytes.items
IsGivenTo read heard needs.Nothing given = Unit {0}

-- true if a change imports an archive from standard input, and standard input is a terminal (this project)
abbrev pub wants_terminal : Bool → Needs → Bool
wants_terminal is_terminal needs.Archive = is_terminal
wants_terminal is_terminal _ = false

-- nothing is done or printed, since an archive is needed from a terminal; the status is the one for a file that can't be read (this project)
abbrev pub LeavesTerminal : Streams → ℕ → Type 0
LeavesTerminal streams status = (status ≡ 3) × Keeps streams.old streams.new × (streams.failed ≡ streams.had_failed) × (streams.lines ≡ [])

-- a volume is changed, with these lines about the bytes to save: nothing is done, without lines; or it is changed, with the bytes that were read for
-- it, in an image which is read from a file and may be changed, and the result is saved if the system reported that some file had the stamp of the
-- image's file; the trace of its calls is printed after that, if it is wanted, and nothing otherwise (this project)
abbrev pub ChangesImage : Streams → HostFiles → HostInput → Edition → Change → Bool → List ℕ → ℕ → Type 0
ChangesImage streams files input edition change trace lines status =
    ((lines ≡ []) × (RunsNothing streams files status ⊎ TakesNothing streams files input change status))
    ⊎ ((image : List ℕ) × (stamp : Stamp) × (given : GivenFile) × (outcome : Result Remarked Fault) × files.opened edition image stamp
    × IsGivenTo (files.put edition) input.given (needs_of change) given × IsAmong (changed edition image given change trace) outcome
    × (lines ≡ (changed edition image given change trace).lines)
    × EndsTraced (λ saved. files.stored saved × files.stood stamp) outcome streams status)

-- a change runs, with these lines about the bytes to save: if an archive is needed from a terminal, nothing is done; otherwise the volume is changed
-- (this project)
abbrev pub RunsChange : Streams → HostFiles → HostInput → Bool → Edition → Change → Bool → List ℕ → ℕ → Type 0
RunsChange streams files input is_terminal edition change trace lines status =
    ((wants_terminal is_terminal (needs_of change) ≡ true) × (lines ≡ []) × LeavesTerminal streams status)
    ⊎ ((wants_terminal is_terminal (needs_of change) ≡ false) × ChangesImage streams files input edition change trace lines status)

-- the invocation is a plain command: it doesn't show part of an image, repair one of which some blocks couldn't be read, compare two images, guess what images are, change a volume, copy several files or use several threads (this project)
abbrev pub IsPlainCommand : Invocation → Type 0
IsPlainCommand (invocations.Look volume look) = ⊥
IsPlainCommand (invocations.Identify images form is_deep) = ⊥
IsPlainCommand (invocations.Diff volume other by) = ⊥
IsPlainCommand (invocations.LookBad volume image look) = ⊥
IsPlainCommand (invocations.RepairBad volume image copy repairing) = ⊥
IsPlainCommand (invocations.Change volume change trace) = ⊥
IsPlainCommand (invocations.Copy volume copying) = ⊥
IsPlainCommand (invocations.Work volume work) = ⊥
IsPlainCommand (invocations.Serve volume serving) = ⊥
IsPlainCommand _ = Unit {0}

-- the block of its file that a new volume begins at (this project)
abbrev pub new_place_at : NewPlace → ℕ
new_place_at (places.File file) = 0
new_place_at (places.Part image at) = at

-- a new volume was saved in its place in a file: none of its blocks is another volume's, and the system reported that some file had the stamp of the
-- volume's file (this project)
abbrev pub IsMadeAt : HostFiles → Growth → List ℕ → Type 0
IsMadeAt files place bytes = files.alone place × files.stored bytes × (stamp : Stamp) × files.stood stamp

-- a new volume of `blocks` blocks was saved: in a file that has it alone, or in its place in an existing one (this project)
abbrev pub made_in : HostFiles → NewPlace → ℕ → List ℕ → Type 0
made_in files (places.File file) blocks bytes = files.taken bytes
made_in files (places.Part image at) blocks bytes = IsMadeAt files (record { at = at; had = 0; gets = blocks }) bytes

-- the block that the volume of an invocation begins at (this project)
abbrev pub volume_at : Invocation → ℕ
volume_at (invocations.Cat volume node) = volume.at
volume_at (invocations.Get volume path) = volume.at
volume_at (invocations.Mkfs place volume) = new_place_at place
volume_at (invocations.Migrate old at new migration) = at
volume_at (invocations.Build list new) = 0
volume_at (invocations.Identify images form is_deep) = 0
volume_at (invocations.Diff volume other by) = volume.at
volume_at (invocations.LookBad volume image look) = volume.at
volume_at (invocations.RepairBad volume image copy repairing) = volume.at
volume_at (invocations.Salvage volume copy) = volume.at
volume_at (invocations.Repair volume copy repairing) = volume.at
volume_at (invocations.Resize volume blocks is_trial) = volume.at
volume_at (invocations.Look volume look) = volume.at
volume_at (invocations.Change volume change trace) = volume.at
volume_at (invocations.Copy volume copying) = volume.at
volume_at (invocations.Work volume work) = volume.at
volume_at (invocations.Serve volume serving) = volume.at

-- the block that the volume of the words that were read begins at (this project)
abbrev pub read_at : Result Invocation Error → ℕ
read_at (Ok invocation) = volume_at invocation
read_at (Err error) = 0

-- a plain command runs: its output, the bytes read from files and written to them, and the status; other commands aren't run here (this project)
abbrev pub Runs : Streams → HostFiles → ℕ → Invocation → Type 0
Runs streams files status (invocations.Cat volume node) = RunsCat streams files volume.edition node status
Runs streams files status (invocations.Get volume path) = RunsGetOne streams files volume.edition path.now status
Runs streams files status (invocations.Mkfs place volume) = RunsMkfs streams (made_in files place volume.blocks) volume status
Runs streams files status (invocations.Migrate old at new migration) = RunsMigrate streams files migration status
Runs streams files status (invocations.Build list new) = RunsBuild streams files list.now status
Runs streams files status (invocations.Identify images form is_deep) = ⊥
Runs streams files status (invocations.Diff volume other by) = ⊥
Runs streams files status (invocations.LookBad volume image look) = ⊥
Runs streams files status (invocations.RepairBad volume image copy repairing) = ⊥
Runs streams files status (invocations.Salvage volume copy) = RunsSalvage streams files volume.edition copy status
Runs streams files status (invocations.Repair volume copy repairing) = RunsRepair streams files volume.edition copy repairing status
Runs streams files status (invocations.Resize volume blocks is_trial) = RunsResize streams files volume blocks is_trial status
Runs streams files status (invocations.Look volume look) = ⊥
Runs streams files status (invocations.Change volume change trace) = ⊥
Runs streams files status (invocations.Copy volume copying) = ⊥
Runs streams files status (invocations.Work volume work) = ⊥
Runs streams files status (invocations.Serve volume serving) = ⊥

-- the result of an error of the command line: the status for its kind, which is 3 only if standard output failed; a command's own line isn't printed
-- (this project)
pub record Tells (streams : Streams) (kind : ErrorKind) (status : ℕ) : Type 0 where
  pub memory : kind ≡ kinds.OutOfMemory → status ≡ 4
  pub mistake : kind ≢ kinds.OutOfMemory → kind ≢ kinds.DisplayHelp → kind ≢ kinds.DisplayVersion → status ≡ 2
  pub shown : (kind ≡ kinds.DisplayHelp) ⊎ (kind ≡ kinds.DisplayVersion) → (status ≡ 0) ⊎ IsStatusOfFileOrMemory status
  pub failed : status ≡ 3 → streams.failed ≡ true
  pub quiet : streams.lines ≡ []

-- the words that were read run: their invocation is carried out; or they are refused, with the status for that (this project)
abbrev pub RunsRead : Streams → HostFiles → ℕ → Result Invocation Error → Type 0
RunsRead streams files status (Ok invocation) = Runs streams files status invocation
RunsRead streams files status (Err error) = Tells streams (kind_of error) status

-- a run ends: the status is at most 4; something was printed only if it is 0 or 3; if it is 0, no output failed and exactly these lines were reported
-- (this project)
pub record EndsWith (lines : List ℕ) (streams : Streams) (status : ℕ) : Type 0 where
  pub within : status ≤ 4
  pub silent : status ≢ 0 → status ≢ 3 → Keeps streams.old streams.new
  pub whole : status ≡ 0 → (streams.failed ≡ streams.had_failed) × (streams.lines ≡ lines)

-- a run ends, and reports nothing if its status is 0 (this project)
abbrev pub Ends : Streams → ℕ → Type 0
Ends streams status = EndsWith [] streams status

-- the streams; without the reported lines if a run may succeed and report something (this project)
abbrev pub but_remarks : Bool → Streams → Streams
but_remarks true streams = record streams { lines = [] }
but_remarks false streams = streams

-- the program runs to its end (this project)
abbrev pub RunsToEnd : HostFiles → Option (List ℕ) → Option (List ℕ) → Result Invocation Error → ℕ → Type 0
RunsToEnd files output errors read end =
    ToEnd output errors (λ streams status. RunsRead streams files status read) (λ streams status. Ends (but_remarks (may_report_read read) streams) status)
    ExitsAfterSaving end

-- a run that may have printed something with any status ends: the status is at most `most`; if it is 0, no output failed and no fault was reported (this project)
pub record IsEndWithin (most : ℕ) (streams : Streams) (status : ℕ) : Type 0 where
  pub within : status ≤ most
  pub whole : status ≡ 0 → (streams.failed ≡ streams.had_failed) × (streams.lines ≡ [])

-- a run that may have printed something with any status ends with a status of at most 4 (this project)
abbrev pub IsEnd : Streams → ℕ → Type 0
IsEnd streams status = IsEndWithin 4 streams status

-- the highest status of a command that shows part of an image: 6 if it is graded or the image may be cut off, 5 of `find`, else 4 (this project)
abbrev pub highest_status : Look → ℕ
highest_status (looks.Export path options) = if options.graded || options.losses.cut then 6 else 4
highest_status (looks.Check graded form) = if graded then 6 else 4
highest_status (looks.Sums path form lost) = 4
highest_status (looks.Inode node form) = 4
highest_status (looks.Super form) = 4
highest_status (looks.Free form) = 4
highest_status (looks.Block block form) = 4
highest_status (looks.Dump target form) = 4
highest_status (looks.Df form) = 4
highest_status (looks.Find path name lost form) = 5
highest_status (looks.Map picture file) = 4
highest_status looks.Uses = 4
highest_status (looks.List path listing) = 4
highest_status (looks.Slots path form) = 4
highest_status (looks.ListUnsound path listing) = 4
highest_status (looks.ReadUnsound path) = 4

-- work with several threads runs to its end (this project)
abbrev pub WorksToEnd : HostFiles → Screen → Option (List ℕ) → Option (List ℕ) → Edition → Work → ℕ → Type 0
WorksToEnd files screen output errors edition work end =
    ToEnd output errors (λ streams status. RunsWork streams files screen edition work status) IsEnd
    Exits end

-- a command that shows part of an image runs to its end, as work with several threads does (this project)
abbrev pub LooksToEnd : HostFiles → Screen → Option (List ℕ) → Option (List ℕ) → Edition → Look → ℕ → Type 0
LooksToEnd files screen output errors edition look end =
    ToEnd output errors (λ streams status. RunsLook streams files screen edition look status) (λ streams status. IsEndWithin (highest_status look) streams status)
    Exits end

-- a change runs to its end, as a plain command does, except that it reports the lines about the bytes to save: an import, the members left out (this
-- project)
abbrev pub ChangesToEnd : HostFiles → HostInput → Bool → Option (List ℕ) → Option (List ℕ) → Edition → Change → Bool → ℕ → Type 0
ChangesToEnd files input is_terminal output errors edition change trace end =
    (lines : List ℕ)
    × ToEnd output errors (λ streams status. RunsChange streams files input is_terminal edition change trace lines status)
    (λ streams status. EndsWith lines streams status) ExitsAfterSaving end
