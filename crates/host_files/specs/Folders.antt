-- Folders of the host.
use Rattle.std.specs.Prelude.{◌≡◌, ℕ, zero, suc, List, [], ◌∷◌, ◌++◌, None, string_bytes, string_cmp, reverse}
use Rattle.std.specs.List.Sorted.{IsSorted, IsPermutation}
use Rattle.std.specs.Ordering.{nat_cmp, ordering_then}
use Rattle.std.specs.declared.cmp.Ordering.{Ordering}
use Rattle.host_files.specs.declared.folders.FolderListing.{FolderListing}
use Rattle.host_files.specs.declared.folders.Found.{Found}
use Rattle.host_files.specs.declared.folders.FoundKind.{FoundKind}
use Rattle.host_files.specs.declared.folders.FoundKind.TheVariants.{File, Folder, Other}
use Rattle.host_files.specs.declared.image_file.FileKind.TheVariants as kinds
use Rattle.host_files.specs.declared.image_file.Stamp.{Stamp}

-- the files come before the folders, and these before all else (this project)
abbrev pub rank : FoundKind → ℕ
rank File = 0
rank Folder = 1
rank Other = 2

-- the order of what is found: the files before the folders, each by the bytes of their paths (this project)
abbrev pub found_cmp : Found → Found → Ordering
found_cmp a b = ordering_then (nat_cmp (rank a.kind) (rank b.kind)) (string_cmp a.path b.path)

-- what was found, each once, in the order of `found_cmp` from the last to the first, so that the first is on the top of a stack (this project)
abbrev pub AreStacked : List Found → List Found → Type 0
AreStacked found stacked = (sorted : List Found) × IsPermutation found sorted × IsSorted found_cmp sorted × (stacked ≡ reverse sorted)

-- the system reported the stamp of a folder for some path (this project)
abbrev pub IsFolderThere : (Stamp → Type 0) → Type 0
IsFolderThere stood = (stamp : Stamp) × stood stamp × (stamp.kind ≡ kinds.Directory)

-- what of this kind at a path has in it, as a stack: of a folder all that the system said of it; of a file nothing (this project)
abbrev pub HasIn : (List ℕ → FolderListing → Type 0) → FoundKind → List ℕ → List Found → Type 0
HasIn listed File path more = more ≡ []
HasIn listed Folder path more = (listing : FolderListing) × listed path listing × (listing.fault ≡ None) × AreStacked listing.found.items more
HasIn listed Other path more = ⊥

-- after so many visits, each of what was on the top of a stack, this is left on it, and these were visited, in order: a file, or a folder, whose
-- files and folders are put on the stack, its files before its folders, each by the bytes of their names (this project)
abbrev pub AreListed : (List ℕ → FolderListing → Type 0) → ℕ → List Found → List Found → List Found → Type 0
AreListed listed zero start left members = (left ≡ start) × (members ≡ [])
AreListed listed (suc count) start left members =
    (under : List Found) × (found : Found) × (before : List Found) × (more : List Found) × AreListed listed count start (under ++ found ∷ []) before
    × HasIn listed found.kind (string_bytes found.path) more × (left ≡ under ++ more) × (members ≡ before ++ found ∷ [])

-- these are a folder and all files and folders below it, as the system said of each folder; a folder precedes what is in it (this project)
abbrev pub IsTree : (List ℕ → FolderListing → Type 0) → List ℕ → List Found → Type 0
IsTree listed folder members =
    (count : ℕ) × (root : Found) × (root.kind ≡ Folder) × (string_bytes root.path ≡ folder) × AreListed listed count (root ∷ []) [] members
