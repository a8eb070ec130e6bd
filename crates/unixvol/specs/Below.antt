-- `identify -r`: the files and folders that it visits, and the lines that it prints.
use Rattle.std.specs.Prelude.{◌≡◌, ◌⊎◌, ℕ, zero, suc, max, List, [], ◌∷◌, ◌++◌, reverse, Option, None, Some, string_bytes}
use Rattle.std.specs.declared.io.Error.{Error}
use Rattle.command_faults.specs.Streams.{Streams}
use Rattle.command_reads.specs.Print.{IsBrokenOff, IsPrintedWith}
use Rattle.command_words.specs.declared.invocation.GuessForm.{GuessForm}
use Rattle.host_files.specs.Folders.{AreStacked}
use Rattle.host_files.specs.declared.folders.FolderListing.{FolderListing}
use Rattle.host_files.specs.declared.folders.Found.{Found}
use Rattle.host_files.specs.declared.folders.FoundKind.{FoundKind}
use Rattle.host_files.specs.declared.folders.FoundKind.TheVariants as found_kinds
use Rattle.host_files.specs.declared.image_file.FileKind.TheVariants as kinds
use Rattle.host_files.specs.declared.image_file.Stamp.{Stamp}
use Rattle.unixvol.specs.Exits.{Exits, ToEnd}
use Rattle.unixvol.specs.Identify.{IsLine, front_of}
use Rattle.unixvol.specs.Runs.{IsEnd, IsStatusOfFileOrMemory}

-- a word names this file or folder: it is taken for a folder only if the system said so (this project)
abbrev pub IsStarted : (Stamp → Type 0) → List ℕ → Found → Type 0
IsStarted stood path found = (string_bytes found.path ≡ path) × (found.kind ≡ found_kinds.Folder → (stamp : Stamp) × stood stamp × (stamp.kind ≡ kinds.Directory))

-- these words name these files and folders, in order (this project)
abbrev pub AreStarted : (Stamp → Type 0) → List (List ℕ) → List Found → Type 0
AreStarted stood [] all = all ≡ []
AreStarted stood (path ∷ more) all = (one : Found) × (others : List Found) × IsStarted stood path one × AreStarted stood more others × (all ≡ one ∷ others)

-- the stack of what these words name, the first on the top (this project)
abbrev pub IsStart : (Stamp → Type 0) → List (List ℕ) → List Found → Type 0
IsStart stood paths stack = (all : List Found) × AreStarted stood paths all × (stack ≡ reverse all)

-- the status of a folder that was read, by the reason why something in it couldn't be examined (this project)
abbrev pub listing_status : Option Error → ℕ
listing_status None = 0
listing_status (Some why) = 3

-- the folder at a path was opened, with this status: `more` is put on the stack, which is what the system said of the folder, each once, its files
-- before its folders, each by the bytes of their names; or it couldn't be read, or memory ran out, and nothing is (this project)
abbrev pub IsOpened : (List ℕ → FolderListing → Type 0) → List ℕ → List Found → ℕ → Type 0
IsOpened listed path more status =
    ((listing : FolderListing) × listed path listing × AreStacked listing.found.items more × (status ≡ listing_status listing.fault))
    ⊎ (IsStatusOfFileOrMemory status × (more ≡ []))

-- a visit of what is at a path, with this status: of a file its line is printed; of a folder nothing, and `more` is put on the stack; of what is neither
-- nothing (this project)
abbrev pub IsVisitOf : {F : Type 0} → (F → Option (List ℕ)) → (F → Stamp → Type 0) → (Stamp → Type 0) → (List ℕ → FolderListing → Type 0) → GuessForm → FoundKind → List ℕ → List ℕ → List Found → ℕ → Type 0
IsVisitOf remaining stamped stood listed form found_kinds.File path line more status = IsLine remaining stamped stood form path line status × (more ≡ [])
IsVisitOf remaining stamped stood listed form found_kinds.Folder path line more status = IsOpened listed path more status × (line ≡ [])
IsVisitOf remaining stamped stood listed form found_kinds.Other path line more status = (line ≡ []) × (more ≡ []) × (status ≡ 0)

-- the same of what was found (this project)
abbrev pub IsVisit : {F : Type 0} → (F → Option (List ℕ)) → (F → Stamp → Type 0) → (Stamp → Type 0) → (List ℕ → FolderListing → Type 0) → GuessForm → Found → List ℕ → List Found → ℕ → Type 0
IsVisit remaining stamped stood listed form found line more status =
    IsVisitOf remaining stamped stood listed form found.kind (string_bytes found.path) line more status

-- after so many visits, each of what was on the top of the stack, this stack is left; these are the lines so far, in order, and the greatest of the
-- statuses (this project)
abbrev pub AreVisited : {F : Type 0} → (F → Option (List ℕ)) → (F → Stamp → Type 0) → (Stamp → Type 0) → (List ℕ → FolderListing → Type 0) → GuessForm → ℕ → List Found → List Found → List ℕ → ℕ → Type 0
AreVisited remaining stamped stood listed form zero start left lines status = (left ≡ start) × (lines ≡ []) × (status ≡ 0)
AreVisited remaining stamped stood listed form (suc count) start left lines status =
    (under : List Found) × (found : Found) × (before : List ℕ) × (read : ℕ) × (line : List ℕ) × (more : List Found) × (one : ℕ)
    × AreVisited remaining stamped stood listed form count start (under ++ found ∷ []) before read × IsVisit remaining stamped stood listed form found line more one
    × (left ≡ under ++ more) × (lines ≡ before ++ line) × (status ≡ max read one)

-- all on a stack and below it is visited, and the lines are printed in this format, after what precedes them; or standard output fails, and what is
-- left on the stack isn't visited; or 4294967295 visits were made, and what is left isn't visited, with a status of at least 3 (this project)
abbrev pub VisitsAll : {F : Type 0} → (F → Option (List ℕ)) → (F → Stamp → Type 0) → (Stamp → Type 0) → (List ℕ → FolderListing → Type 0) → Streams → GuessForm → List Found → ℕ → Type 0
VisitsAll remaining stamped stood listed streams form start status =
    (count : ℕ) × (left : List Found) × (lines : List ℕ) × (read : ℕ) × AreVisited remaining stamped stood listed form count start left lines read
    × (((left ≡ []) × IsPrintedWith read streams (front_of form ++ lines) status)
    ⊎ (IsBrokenOff streams (front_of form ++ lines) status
    ⊎ ((count ≡ 4294967295) × IsPrintedWith (max read 3) streams (front_of form ++ lines) status)))

-- `identify -r` runs: all that the words name is visited; or memory ran out before anything was (this project)
abbrev pub RunsBelow : {F : Type 0} → (F → Option (List ℕ)) → (F → Stamp → Type 0) → (Stamp → Type 0) → (List ℕ → FolderListing → Type 0) → Streams → GuessForm → List (List ℕ) → ℕ → Type 0
RunsBelow remaining stamped stood listed streams form paths status =
    ((start : List Found) × IsStart stood paths start × VisitsAll remaining stamped stood listed streams form start status)
    ⊎ IsPrintedWith 4 streams [] status

-- `identify -r` runs to its end, as `identify` does (this project)
abbrev pub IdentifiesBelow : {F : Type 0} → (F → Option (List ℕ)) → (F → Stamp → Type 0) → (Stamp → Type 0) → (List ℕ → FolderListing → Type 0) → Option (List ℕ) → Option (List ℕ) → GuessForm → List (List ℕ) → ℕ → Type 0
IdentifiesBelow remaining stamped stood listed output errors form paths end =
    ToEnd output errors (λ streams status. RunsBelow remaining stamped stood listed streams form paths status) IsEnd Exits end
