-- Lists of what a new volume has.
use Rattle.std.specs.Prelude.{ℕ, ◌==◌, List, Option, Result, Ok, Err}
use Rattle.std.specs.List.{slice_split}
use Rattle.pdp_words.specs.Steps.{and_then}
use Rattle.pack_lists.specs.Drafts.{Drafted, blank, with_lines}
use Rattle.pack_lists.specs.declared.draft.Stage.TheVariants as stages
use Rattle.pack_lists.specs.declared.faults.ListFault.{ListFault}
use Rattle.pack_lists.specs.declared.faults.ListFault.TheVariants as faults
use Rattle.pack_lists.specs.declared.faults.ListWord.TheVariants as forms
use Rattle.pack_lists.specs.declared.list.PackList.{PackList}
use Rattle.pack_lists.specs.declared.members.ListedMember.{ListedMember}
use Rattle.pack_lists.specs.declared.members.ListedVolume.{ListedVolume}
use Rattle.pack_lists.specs.declared.members.RootMarks.{RootMarks}

-- a list as contracts see it: the volume, the path of the file with its boot block, the marks of its root, and the members (this project)
abbrev pub Listed : Type 0
Listed = ListedVolume × Option (List ℕ) × Option RootMarks × List ListedMember

-- a list as contracts see it (this project)
abbrev pub listed : PackList → Listed
listed list = (list.volume, list.boot, list.root, list.members.items)

-- a list in progress as a whole one, if its first two lines were read (this project)
abbrev pub finished : Drafted → Result Listed ListFault
finished (stages.Unsized, boot, root, members) = Err (faults.Ends forms.Volume)
finished (stages.Untimed sizes, boot, root, members) = Err (faults.Ends forms.Time)
finished (stages.Begun volume, boot, root, members) = Ok (volume, boot, root, members)

-- the list in a text, whose lines are apart by newlines; or the first line that can't be read, counted from 1; or the line that is missing: the first one
-- with words is `volume EDITION FSIZE [IBLOCKS]`, the second `time SECONDS`, and each other one `boot FILE`, once at most, `root PERM UID:GID`, once at most, or
-- a member's (this project)
abbrev pub list_in : List ℕ → Result Listed ListFault
list_in text = and_then (with_lines 1 blank (slice_split (λ b. b == 10) text)) finished
