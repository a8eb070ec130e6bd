-- The result of building a volume of a list.
use Rattle.std.specs.Prelude.{◌≡◌, ℕ, All, List, [], map, Option, None, Some, unwrap_or}
use Rattle.std.specs.Global.{Vec}
use Rattle.std.specs.Io.KnownBytes.{Keeps}
use Rattle.std.specs.Path.{path_join, path_parent}
use Rattle.pack_lists.specs.declared.archive.FilledMember.{FilledMember}
use Rattle.pack_lists.specs.declared.list.PackList.{PackList}
use Rattle.pack_lists.specs.declared.members.ListedMember.{ListedMember}
use Rattle.pack_lists.specs.declared.members.ListedMember.TheVariants as members
use Rattle.vol_layout.specs.declared.edition.Edition.{Edition}
use Rattle.command_changes.specs.ListLines.{IsUnlisted}
use Rattle.command_changes.specs.declared.build.FilledList.{FilledList}
use Rattle.command_faults.specs.Faults.{line_after}
use Rattle.command_faults.specs.Streams.{Streams}
use Rattle.command_faults.specs.declared.fault.Fault.{Fault}

-- the path of a file that the list in a file names: a relative one begins at the folder of the list (std::path)
abbrev pub place_of : List ℕ → List ℕ → List ℕ
place_of list file = path_join (unwrap_or (path_parent list) []) file

-- the program for a boot block was read from a file, if a list names one (this project)
abbrev pub IsProgramRead : (List ℕ → Type 0) → Option (List ℕ) → Option (Vec ℕ) → Type 0
IsProgramRead given None None = Unit {0}
IsProgramRead given None (Some program) = ⊥
IsProgramRead given (Some file) None = ⊥
IsProgramRead given (Some file) (Some program) = given program.items

-- the bytes of a member were read from a file, if it is a regular file; no other member has any (this project)
abbrev pub IsContentRead : (List ℕ → Type 0) → ListedMember → List ℕ → Type 0
IsContentRead given (members.File path marks file) content = given content
IsContentRead given member content = content ≡ []

-- a list is filled: with the program for its boot block, and the bytes of each of its members, which were read from files (this project)
pub record IsFilled (given : Edition → List ℕ → Type 0) (list : PackList) (full : FilledList) : Type 0 where
  pub volume : full.volume ≡ list.volume
  pub root : full.root ≡ list.root
  pub boot : IsProgramRead (given list.volume.sizes.edition) list.boot full.boot
  pub members : map (λ (member : FilledMember). member.listed.now) full.members.items ≡ list.members.items
  pub read : All (λ (member : FilledMember). IsContentRead (given list.volume.sizes.edition) member.listed.now member.content.items) full.members.items

-- the text of a file isn't read as a list, which is reported; nothing is printed (this project)
abbrev pub TellsUnlisted : Streams → List ℕ → List ℕ → ℕ → Type 0
TellsUnlisted streams name text status = (fault : Option Fault) × IsUnlisted name text status fault
    × Keeps streams.old streams.new × (streams.failed ≡ streams.had_failed) × (streams.lines ≡ line_after fault)
