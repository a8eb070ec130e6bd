-- Messages for lists that can't be read.
use Rattle.std.specs.Prelude.{◌≡◌, ◌⊎◌, ℕ, ◌++◌, true, false, List, nat_le, length, min, take, if◌then◌else◌, Option, None, Some, Err, codes, decimal}
use Rattle.escaped_text.specs.Escape.{escaped}
use Rattle.pack_lists.specs.Lists.{list_in}
use Rattle.pack_lists.specs.declared.faults.ListFault.{ListFault}
use Rattle.pack_lists.specs.declared.faults.ListFault.TheVariants as lists
use Rattle.pack_lists.specs.declared.faults.ListFlaw.{ListFlaw}
use Rattle.pack_lists.specs.declared.faults.ListFlaw.TheVariants as flaws
use Rattle.pack_lists.specs.declared.faults.ListWord.{ListWord}
use Rattle.pack_lists.specs.declared.faults.ListWord.TheVariants as forms
use Rattle.command_faults.specs.Faults.{fault_line, no_memory}
use Rattle.command_faults.specs.declared.fault.Fault.{Fault}
use Rattle.command_changes.specs.ImportLines.{worded_line}

-- the form that a word of a list must have (this project)
abbrev pub form_text : ListWord → List ℕ
form_text forms.Volume = codes "`volume`"
form_text forms.Time = codes "`time`"
form_text (forms.Line true true) = codes "`boot`, `root`, `dir`, `file`, `link`, `char` or `block`"
form_text (forms.Line true false) = codes "`boot`, `dir`, `file`, `link`, `char` or `block`"
form_text (forms.Line false true) = codes "`root`, `dir`, `file`, `link`, `char` or `block`"
form_text (forms.Line false false) = codes "`dir`, `file`, `link`, `char` or `block`"
form_text forms.Edition = codes "an edition, 6 or 7"
form_text forms.Blocks = codes "a number of blocks, or the name of a disk"
form_text forms.ListBlocks = codes "a number of blocks up to 65535"
form_text forms.Seconds = codes "a number of seconds up to 4294967295"
form_text forms.Path = codes "a path with a slash before each name"
form_text forms.Permissions = codes "an octal number up to 7777"
form_text forms.Owner = codes "a user and a group, as 3:1"
form_text forms.File = codes "a path in UTF-8"
form_text forms.DeviceNumber = codes "a number up to 255"

-- the first bytes of a word, as many as are shown (this project)
unfoldable pub front_of : List ℕ → List ℕ
front_of word = take (min (length word) 40) word

-- the quote after a word, with dots before it if the word is cut (this project)
abbrev pub quote_after : List ℕ → List ℕ
quote_after word = if nat_le (length word) 40 then codes "`" else codes "..`"

-- a word of a list in quotes, of which a long one is cut (this project)
abbrev pub shown_word : List ℕ → List ℕ
shown_word word = codes "`" ++ escaped (front_of word) ++ quote_after word

-- the words for a list, or a line of one, that ends before a word of this form (this project)
abbrev pub ends_text : ListWord → List ℕ
ends_text form = codes "it ends where " ++ form_text form ++ codes " is wanted"

-- the words for the flaw of a line (this project)
abbrev pub flaw_text : ListFlaw → List ℕ
flaw_text (flaws.Word word form) = shown_word word ++ codes " isn't " ++ form_text form
flaw_text (flaws.Extra word) = shown_word word ++ codes " is one too many"
flaw_text (flaws.Ends form) = ends_text form

-- the words for a line by its number (this project)
unfoldable pub numbered : ℕ → List ℕ
numbered number = codes "line " ++ (decimal number ++ codes ": ")

-- the message for the list in a file that can't be read for this reason, if there is one (this project)
abbrev pub list_line : List ℕ → ListFault → Option (List ℕ)
list_line name (lists.Line number flaw) = Some (worded_line name (numbered number ++ flaw_text flaw))
list_line name (lists.Ends form) = Some (worded_line name (ends_text form))
list_line name lists.NoMemory = None

-- the ending of a command whose list can't be read for this reason has its message, with status 2; or memory ran out (this project)
abbrev pub IsUnlistedEnding : List ℕ → ListFault → ℕ → Option Fault → Type 0
IsUnlistedEnding name why status fault =
    ((line : List ℕ) × (told : Fault) × (list_line name why ≡ Some line) × (fault ≡ Some told) × (fault_line told ≡ line) × (status ≡ 2))
    ⊎ ((status ≡ 4) × (fault ≡ Some no_memory))

-- the ending of a command whose list, the text of this file, can't be read (this project)
abbrev pub IsUnlisted : List ℕ → List ℕ → ℕ → Option Fault → Type 0
IsUnlisted name text status fault =
    ((why : ListFault) × (list_in text ≡ Err why) × IsUnlistedEnding name why status fault)
    ⊎ ((status ≡ 4) × (fault ≡ Some no_memory))
