-- The first flaw of a line that can't be read.
use Rattle.std.specs.Prelude.{ℕ, ◌+◌, ◌-◌, ◌==◌, nat_lt, Bool, true, false, if◌then◌else◌, List, [], ◌∷◌, length, Option, Some, None, is_some}
use Rattle.std.specs.List.{slice_split}
use Rattle.command_faults.specs.declared.line_flaw.LineFlaw.{LineFlaw}
use Rattle.command_faults.specs.declared.line_flaw.LineFlaw.TheVariants as flaws
use Rattle.command_faults.specs.declared.line_flaw.WordForm.{WordForm}
use Rattle.command_faults.specs.declared.line_flaw.WordForm.TheVariants as forms
use Rattle.vol_scripts.specs.Grammar.{command_named}
use Rattle.vol_scripts.specs.Numbers.{long_in, short_in, byte_in, permissions_in, bytes_in, device_kind_in}
use Rattle.vol_scripts.specs.declared.commands.Command.{Command}
use Rattle.vol_scripts.specs.declared.commands.Command.TheVariants as commands

-- true if a command is a query (this project)
abbrev pub is_query : Command → Bool
is_query commands.Stat = true
is_query commands.Read = true
is_query commands.List = true
is_query _ = false

-- true if there is a command and it is a query (this project)
abbrev pub names_query : Option Command → Bool
names_query None = false
names_query (Some command) = is_query command

-- true if a word has this form (this project)
abbrev pub has_form : WordForm → List ℕ → Bool
has_form forms.Number word = is_some (long_in word)
has_form forms.Id word = is_some (short_in word)
has_form forms.Command word = is_some (command_named word)
has_form forms.Query word = names_query (command_named word)
has_form forms.Path word = true
has_form forms.Permissions word = is_some (permissions_in word)
has_form forms.Bytes word = is_some (bytes_in word)
has_form forms.DeviceKind word = is_some (device_kind_in word)
has_form forms.DeviceNumber word = is_some (byte_in word)

-- the forms of the words after a command (this project)
abbrev pub forms_after : Command → List WordForm
forms_after commands.Create = forms.Path ∷ forms.Permissions ∷ []
forms_after commands.Mkdir = forms.Path ∷ forms.Permissions ∷ []
forms_after commands.Link = forms.Path ∷ forms.Path ∷ []
forms_after commands.Unlink = forms.Path ∷ []
forms_after commands.Rmdir = forms.Path ∷ []
forms_after commands.Write = forms.Path ∷ forms.Number ∷ forms.Bytes ∷ []
forms_after commands.Truncate = forms.Path ∷ forms.Number ∷ []
forms_after commands.Chmod = forms.Path ∷ forms.Permissions ∷ []
forms_after commands.Chown = forms.Path ∷ forms.Id ∷ forms.Id ∷ []
forms_after commands.Times = forms.Path ∷ forms.Number ∷ forms.Number ∷ []
forms_after commands.Mknod = forms.Path ∷ forms.Permissions ∷ forms.DeviceKind ∷ forms.DeviceNumber ∷ forms.DeviceNumber ∷ []
forms_after commands.Stat = forms.Path ∷ []
forms_after commands.Read = forms.Path ∷ forms.Number ∷ forms.Number ∷ []
forms_after commands.List = forms.Path ∷ []
forms_after commands.Cut = []

-- the forms of the words after a word that names this command, or no command (this project)
abbrev pub forms_of_named : Option Command → List WordForm
forms_of_named None = []
forms_of_named (Some command) = forms_after command

-- the forms of the words that must follow a word of this form: the forms of a command's words if it is a command, else the ones that were required
-- before (this project)
abbrev pub wanted_after : WordForm → List ℕ → List WordForm → List WordForm
wanted_after forms.Command word others = forms_of_named (command_named word)
wanted_after forms.Query word others = forms_of_named (command_named word)
wanted_after _ word others = others

-- the first of some words that doesn't have the required form, is too many or is missing; the first word begins after `at` bytes of the line (this
-- project)
abbrev pub flaw_from : ℕ → List WordForm → List (List ℕ) → Option LineFlaw
flaw_from at [] [] = None
flaw_from at (form ∷ forms) [] = Some (flaws.Ends form)
flaw_from at [] (word ∷ words) = Some (flaws.Extra at word)
flaw_from at (form ∷ forms) (word ∷ words) =
    if has_form form word then flaw_from (at + length word + 1) (wanted_after form word forms) words else Some (flaws.Word at word form)

-- the first flaw of a line, which must have a time, a user, a group, a command of this form, and the command's words (this project)
abbrev pub flaw_in : WordForm → List ℕ → Option LineFlaw
flaw_in command line = flaw_from 0 (forms.Number ∷ forms.Id ∷ forms.Id ∷ command ∷ []) (slice_split (λ b. b == 32) line)

-- true if no word that begins with `part`, which doesn't have this form, has it: a number keeps its digits, and the longest word of a command has 8
-- letters (this project)
abbrev pub cannot_become : WordForm → List ℕ → Bool
cannot_become forms.Path part = false
cannot_become forms.Bytes part = false
cannot_become forms.Command part = nat_lt 8 (length part)
cannot_become forms.Query part = nat_lt 8 (length part)
cannot_become _ part = nat_lt 0 (length part)

-- true if a flaw of the first `count` bytes of a line stays, whatever follows them: a word too many does, and so does a word of another form if a
-- space follows it (this project)
abbrev pub stays : ℕ → LineFlaw → Bool
stays count (flaws.Word at word form) = if nat_lt (length word) (count - at) then true else cannot_become form word
stays count (flaws.Extra at word) = true
stays count _ = false

-- true if there is a flaw and it stays, whatever follows the first `count` bytes of the line (this project)
abbrev pub has_lasting : ℕ → Option LineFlaw → Bool
has_lasting count None = false
has_lasting count (Some flaw) = stays count flaw

-- true if the first of a session's lines can't be read; the last of them may go on (this project)
abbrev pub has_bad_first : List (List ℕ) → Bool
has_bad_first [] = false
has_bad_first (part ∷ []) = has_lasting (length part) (flaw_in forms.Command part)
has_bad_first (line ∷ next ∷ lines) = is_some (flaw_in forms.Command line)
