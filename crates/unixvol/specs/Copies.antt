-- The result of copying several files between the host and a volume.
use Rattle.std.specs.Prelude.{All, ◌≡◌, ◌⊎◌, ℕ, List, [], map, Option, Some, IfSome, Result, Ok, Err, Bool, true, false}
use Rattle.std.specs.Global.{Vec}
use Rattle.std.specs.Borrow.{Bor}
use Rattle.std.specs.Io.KnownBytes.{Keeps}
use Rattle.vol_dir.specs.declared.cred.Cred.{Cred}
use Rattle.vol_import.specs.Make.{told}
use Rattle.vol_volume.specs.Volume.{reads_as}
use Rattle.command_faults.specs.Faults.{fault_line, fault_status}
use Rattle.command_faults.specs.Outcomes.{IsAmong}
use Rattle.command_faults.specs.Streams.{Streams}
use Rattle.command_faults.specs.declared.answer.Remarked.{Remarked}
use Rattle.command_faults.specs.declared.fault.Fault.{Fault}
use Rattle.vol_layout.specs.declared.edition.Edition.{Edition}
use Rattle.command_words.specs.declared.invocation.Copying.{Copying}
use Rattle.command_words.specs.declared.invocation.Copying.TheVariants as copyings
use Rattle.command_words.specs.declared.invocation.Moment.{Moment}
use Rattle.command_reads.specs.GetFiles.{GetsFiles}
use Rattle.pack_lists.specs.Lists.{listed}
use Rattle.pack_lists.specs.Texts.{list_text}
use Rattle.command_copies.specs.Lists.{ListsVolume}
use Rattle.command_copies.specs.Trees.{GetsTrees, name_of, told_status}
use Rattle.command_copies.specs.declared.lists.VolumeListed.{VolumeListed}
use Rattle.command_copies.specs.declared.nodes.NodeContent.{NodeContent}
use Rattle.command_copies.specs.declared.nodes.NodeContent.TheVariants as contents
use Rattle.command_copies.specs.declared.nodes.NodeRead.{NodeRead}
use Rattle.command_copies.specs.declared.trees.TreesRead.{TreesRead}
use Rattle.host_files.specs.Folders.{IsFolderThere}
use Rattle.command_changes.specs.Import.{of_import}
use Rattle.command_changes.specs.Put.{calls_to_put}
use Rattle.command_reads.specs.declared.get.FileRead.{FileRead}
use Rattle.command_terms.specs.declared.options.Keep.{Keep}
use Rattle.command_changes.specs.declared.put.NewFile.{NewFile}
use Rattle.command_changes.specs.declared.sync.Unchanged.TheVariants as unchanged
use Rattle.unixvol.specs.Exits.{ExitsAfterSaving, ToEnd}
use Rattle.unixvol.specs.Runs.{Ends, HostFiles, IsGivenFile, IsStatusOfFileOrMemory, RunsNothing}
use Rattle.unixvol.specs.Syncs.{Listings, PutsTrees, RunsSync, extra_of}
use Rattle.unixvol.specs.Traces.{EndsTraced}
use Rattle.host_files.specs.declared.image_file.Stamp.{Stamp}

-- bytes read from files are new files, with what is kept of them, and have these names (this project)
abbrev pub AreGiven : (List ℕ → Type 0) → Keep → List (List ℕ) → List NewFile → Type 0
AreGiven given keep names news =
    All (λ (file : NewFile). IsGivenFile given keep file.content) news × (map (λ (file : NewFile). file.name.now) news ≡ names)

-- the system's reports on whether something exists at a path (this project)
abbrev pub Standing : Type 1
Standing = List ℕ → Bool → Type 0

-- the word that was read as the time, if any, isn't also a file's path: the system reported that nothing exists there (this project)
abbrev pub IsMomentAlone : Standing → Moment → Type 0
IsMomentAlone stands now = IfSome now.word (λ word. stands word.now false)

-- this word was read as the time, and is also the path of a file: the system reported that something exists there (this project)
abbrev pub IsFileToo : Standing → Moment → Bor (List ℕ) → Type 0
IsFileToo stands now word = (now.word ≡ Some word) × stands word.now true

-- nothing is done or printed, and the status is the one for words that can't be read: the word that was read as the time may be meant as one of the
-- files (this project)
abbrev pub LeavesMoment : Streams → Standing → Moment → ℕ → Type 0
LeavesMoment streams stands now status =
    (status ≡ 2) × ((word : Bor (List ℕ)) × IsFileToo stands now word)
    × Keeps streams.old streams.new × (streams.failed ≡ streams.had_failed) × (streams.lines ≡ [])

-- files with these names are put into a directory, and given this owner, if any: nothing is done; or their bytes are read from files and put into an
-- image, which is read from a file and may be changed, and the result of the calls is saved if the system reported that some file had the stamp of the
-- image's file; their trace is printed after that, if it is wanted, and nothing otherwise (this project)
abbrev pub PutsFiles : Streams → HostFiles → Edition → List ℕ → List (List ℕ) → Keep → Option Cred → ℕ → Bool → ℕ → Type 0
PutsFiles streams files edition directory names keep owner now trace status =
    RunsNothing streams files status
    ⊎ ((image : List ℕ) × (stamp : Stamp) × (news : List NewFile) × (outcome : Result Remarked Fault) × files.opened edition image stamp
    × AreGiven (files.put edition) keep names news
    × IsAmong (of_import edition image (told (calls_to_put (reads_as edition image).tree now directory owner news)) trace) outcome
    × EndsTraced (λ saved. files.stored saved × files.stood stamp) outcome streams status)

-- several files are put at a time: if the word that was read as the time is also a file's path, nothing is done; otherwise the files are put (this
-- project)
abbrev pub RunsPut : Streams → HostFiles → Standing → Edition → List ℕ → List (List ℕ) → Keep → Option Cred → Moment → Bool → ℕ → Type 0
RunsPut streams files stands edition directory names keep owner now trace status =
    LeavesMoment streams stands now status
    ⊎ (IsMomentAlone stands now × PutsFiles streams files edition directory names keep owner now.seconds trace status)

-- all bytes of each of these files were written to a file of the host (this project)
abbrev pub AreSaved : (List ℕ → Type 0) → List FileRead → Type 0
AreSaved taken files = All (λ (file : FileRead). taken file.bytes.items) files

-- a run ends after files were read from a volume: the status is 0 if each was saved, otherwise that of a file, and no fault is reported; or, if they
-- weren't read, the fault is reported, with its status (this project)
abbrev pub EndsRead : (List ℕ → Type 0) → List ℕ → Result (Vec FileRead) Fault → ℕ → Type 0
EndsRead taken lines (Ok files) status = (((status ≡ 0) × AreSaved taken files.items) ⊎ IsStatusOfFileOrMemory status) × (lines ≡ [])
EndsRead taken lines (Err fault) status = (status ≡ fault_status fault) × (lines ≡ fault_line fault)

-- the files at these paths of a volume are copied to the host: nothing is done; or nothing is printed, the files are read from an image, which is
-- read from a file, and each is saved once all are read (this project)
abbrev pub RunsGet : Streams → HostFiles → Edition → List (List ℕ) → ℕ → Type 0
RunsGet streams files edition paths status =
    RunsNothing streams files status
    ⊎ ((image : List ℕ) × (read : Result (Vec FileRead) Fault) × files.shown edition image × GetsFiles edition image paths read
    × Keeps streams.old streams.new × (streams.failed ≡ streams.had_failed) × EndsRead files.taken streams.lines read status)

-- a node was copied to the host: all bytes of a file were written to a file, or the system reported that a folder is there for a directory (this
-- project)
abbrev pub IsCopied : (List ℕ → Type 0) → (Stamp → Type 0) → NodeContent → Type 0
IsCopied taken stood contents.Directory = IsFolderThere stood
IsCopied taken stood (contents.File bytes) = taken bytes.items

-- all these nodes were copied to the host (this project)
abbrev pub AreCopied : (List ℕ → Type 0) → (Stamp → Type 0) → List NodeRead → Type 0
AreCopied taken stood nodes = All (λ (node : NodeRead). IsCopied taken stood node.content) nodes

-- a run ends after trees were read from a volume: if all was copied, the status is 0, or 1 if there are lines about what isn't copied, otherwise that of
-- a file, and these lines are reported; or, if they weren't read, the fault is reported, with its status (this project)
abbrev pub EndsCopied : (List ℕ → Type 0) → (Stamp → Type 0) → List ℕ → Result TreesRead Fault → ℕ → Type 0
EndsCopied taken stood lines (Ok read) status =
    (((status ≡ told_status read.lines.items) × AreCopied taken stood read.nodes.items) ⊎ IsStatusOfFileOrMemory status) × (lines ≡ read.lines.items)
EndsCopied taken stood lines (Err fault) status = (status ≡ fault_status fault) × (lines ≡ fault_line fault)

-- the trees at these paths of a volume are copied to the host: nothing is done; or nothing is printed, the trees are read from an image, which is read
-- from a file, and are saved once all are read (this project)
abbrev pub RunsGetTrees : Streams → HostFiles → Edition → List (List ℕ) → ℕ → Type 0
RunsGetTrees streams files edition paths status =
    RunsNothing streams files status
    ⊎ ((image : List ℕ) × (read : Result TreesRead Fault) × files.shown edition image × GetsTrees edition image paths read
    × Keeps streams.old streams.new × (streams.failed ≡ streams.had_failed) × EndsCopied files.taken files.stood streams.lines read status)

-- folders are put: if the word that was read as the time is also a file's path, nothing is done; otherwise all of them are put, whether they differ or
-- not (this project)
abbrev pub RunsPutTree : Streams → HostFiles → Standing → Listings → Edition → Bor (List ℕ) → List (List ℕ) → Keep → Option Cred → Moment → Bool → ℕ → Type 0
RunsPutTree streams files stands listed edition directory folders keep owner now trace status =
    LeavesMoment streams stands now status
    ⊎ (IsMomentAlone stands now
    × PutsTrees streams files listed edition (record { directory = directory; owner = owner; unchanged = unchanged.Put; now = now.seconds }) folders keep trace status)

-- a list was written, and the files that it names beside it: all bytes of each were written to a file, and for each directory the system reported that a
-- folder is there (this project)
abbrev pub IsListSaved : (List ℕ → Type 0) → (Stamp → Type 0) → VolumeListed → Type 0
IsListSaved taken stood read = AreCopied taken stood read.nodes.items × IfSome read.boot (λ bytes. taken bytes.items) × taken (list_text (listed read.list))

-- a run ends after a volume was read as a list: the status is 0 if all of it was written, otherwise that of a file, and nothing is reported; or, if it wasn't
-- read, the fault is reported, with its status (this project)
abbrev pub EndsListed : (List ℕ → Type 0) → (Stamp → Type 0) → List ℕ → Result VolumeListed Fault → ℕ → Type 0
EndsListed taken stood lines (Ok read) status = (((status ≡ 0) × IsListSaved taken stood read) ⊎ IsStatusOfFileOrMemory status) × (lines ≡ [])
EndsListed taken stood lines (Err fault) status = (status ≡ fault_status fault) × (lines ≡ fault_line fault)

-- the list of a volume is written into a file with this path: nothing is done; or nothing is printed, the volume is read from a file as the list of the last name of
-- this path, and all of it is saved once it is read (this project)
abbrev pub RunsBuildList : Streams → HostFiles → Edition → List ℕ → ℕ → Type 0
RunsBuildList streams files edition path status =
    RunsNothing streams files status
    ⊎ ((image : List ℕ) × (read : Result VolumeListed Fault) × files.shown edition image × ListsVolume edition image (name_of path) read
    × Keeps streams.old streams.new × (streams.failed ≡ streams.had_failed) × EndsListed files.taken files.stood streams.lines read status)

-- several files are copied (this project)
abbrev pub RunsCopy : Streams → HostFiles → Standing → Listings → Edition → Copying → ℕ → Type 0
RunsCopy streams files stands listed edition (copyings.PutTree directory folders keep owner now trace) status =
    RunsPutTree streams files stands listed edition directory (map (λ folder. folder.now) folders.items) keep owner now trace status
RunsCopy streams files stands listed edition (copyings.Sync directory folder owner now deletes is_trial) status =
    RunsSync streams files listed edition (record { directory = directory; owner = owner; unchanged = unchanged.Skip; now = now }) (extra_of deletes) folder.now
    is_trial status
RunsCopy streams files stands listed edition (copyings.Put directory paths keep owner now trace) status =
    RunsPut streams files stands edition directory.now (map (λ path. name_of path.now) paths.items) keep owner now trace status
RunsCopy streams files stands listed edition (copyings.Get folder paths true keeps) status = RunsGetTrees streams files edition (map (λ path. path.now) paths.items) status
RunsCopy streams files stands listed edition (copyings.Get folder paths false keeps) status = RunsGet streams files edition (map (λ path. path.now) paths.items) status
RunsCopy streams files stands listed edition (copyings.List new) status = RunsBuildList streams files edition new.path.now status

-- a command that copies several files runs to its end, as a plain command does (this project)
abbrev pub CopiesToEnd : HostFiles → Standing → Listings → Option (List ℕ) → Option (List ℕ) → Edition → Copying → ℕ → Type 0
CopiesToEnd files stands listed output errors edition copying end =
    ToEnd output errors (λ streams status. RunsCopy streams files stands listed edition copying status) Ends
    ExitsAfterSaving end
