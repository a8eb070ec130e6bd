-- The lines of scripts.
use Rattle.std.specs.Prelude.{ℕ, ◌==◌, List, [], ◌∷◌, Option, Some, None, find, codes}
use Rattle.std.specs.List.{slice_split}
use Rattle.std.specs.Option.{option_map, option_and_then}
use Rattle.std.specs.Str.{bytes_eq}
use Rattle.vol_dir.specs.declared.cred.Cred.{Cred}
use Rattle.vol_volume.specs.declared.calls.Call.TheVariants as calls
use Rattle.vol_volume.specs.declared.queries.Query.{Query}
use Rattle.vol_volume.specs.declared.queries.Query.TheVariants as queries
use Rattle.vol_layout.specs.declared.mode.DeviceId.{DeviceId}
use Rattle.vol_scripts.specs.Numbers.{long_in, short_in, byte_in, permissions_in, bytes_in, device_kind_in}
use Rattle.vol_scripts.specs.declared.commands.Command.{Command}
use Rattle.vol_scripts.specs.declared.commands.Command.TheVariants as commands
use Rattle.vol_scripts.specs.declared.steps.ScriptStep.{ScriptStep}
use Rattle.vol_scripts.specs.declared.steps.ScriptStep.TheVariants as steps

-- the word of a command (this project)
abbrev pub command_word : Command → List ℕ
command_word commands.Create = codes "create"
command_word commands.Mkdir = codes "mkdir"
command_word commands.Link = codes "link"
command_word commands.Unlink = codes "unlink"
command_word commands.Rmdir = codes "rmdir"
command_word commands.Write = codes "write"
command_word commands.Truncate = codes "truncate"
command_word commands.Chmod = codes "chmod"
command_word commands.Chown = codes "chown"
command_word commands.Times = codes "times"
command_word commands.Mknod = codes "mknod"
command_word commands.Stat = codes "stat"
command_word commands.Read = codes "read"
command_word commands.List = codes "list"
command_word commands.Cut = codes "cut"

-- all commands (this project)
abbrev pub all_commands : List Command
all_commands = commands.Create ∷ commands.Mkdir ∷ commands.Link ∷ commands.Unlink ∷ commands.Rmdir ∷ commands.Write
    ∷ commands.Truncate ∷ commands.Chmod ∷ commands.Chown ∷ commands.Times ∷ commands.Mknod ∷ commands.Stat ∷ commands.Read ∷ commands.List ∷ commands.Cut ∷ []

-- the command with a word (this project)
abbrev pub command_named : List ℕ → Option Command
command_named word = find (λ command. bytes_eq (command_word command) word) all_commands

-- a function of the value, if there is one (Option::and_then)
infixl 10 ◌>>=◌
abbrev pub ◌>>=◌ : {A B : Type 0} → Option A → (A → Option B) → Option B
found >>= next = option_and_then next found

-- the one word that is left, if there is exactly one (this project)
abbrev pub one_of : List (List ℕ) → Option (List ℕ)
one_of (first ∷ []) = Some first
one_of _ = None

-- the two words that are left, if there are exactly two (this project)
abbrev pub two_of : List (List ℕ) → Option (List ℕ × List ℕ)
two_of (first ∷ second ∷ []) = Some (first, second)
two_of _ = None

-- the three words that are left, if there are exactly three (this project)
abbrev pub three_of : List (List ℕ) → Option (List ℕ × List ℕ × List ℕ)
three_of (first ∷ second ∷ third ∷ []) = Some (first, second, third)
three_of _ = None

-- the five words that are left, if there are exactly five (this project)
abbrev pub five_of : List (List ℕ) → Option (List ℕ × List ℕ × List ℕ × List ℕ × List ℕ)
five_of (first ∷ second ∷ third ∷ fourth ∷ fifth ∷ []) = Some (first, second, third, fourth, fifth)
five_of _ = None

-- no word is left (this project)
abbrev pub none_of : List (List ℕ) → Option (Unit {0})
none_of [] = Some tt
none_of _ = None

-- a user and a group, read from two words (this project)
abbrev pub cred_in : List ℕ → List ℕ → Option Cred
cred_in uid gid = do
  user ← short_in uid
  group ← short_in gid
  Some (record { uid = user; gid = group })

-- the values of `PATH PERM` (this project)
abbrev pub path_and_permissions : List (List ℕ) → Option (List ℕ × ℕ)
path_and_permissions words = do
  given ← two_of words
  permissions ← permissions_in given.1
  Some (given.0, permissions)

-- the values of `PATH LENGTH` (this project)
abbrev pub path_and_length : List (List ℕ) → Option (List ℕ × ℕ)
path_and_length words = do
  given ← two_of words
  number ← long_in given.1
  Some (given.0, number)

-- the values of `PATH UID GID` (this project)
abbrev pub path_and_owner : List (List ℕ) → Option (List ℕ × Cred)
path_and_owner words = do
  given ← three_of words
  owner ← cred_in given.1 given.2
  Some (given.0, owner)

-- the values of `PATH OFFSET HEX` (this project)
abbrev pub path_and_bytes : List (List ℕ) → Option (List ℕ × ℕ × List ℕ)
path_and_bytes words = do
  given ← three_of words
  offset ← long_in given.1
  bytes ← bytes_in given.2
  Some (given.0, offset, bytes)

-- the values of `PATH OFFSET LEN`, or of `PATH ATIME MTIME` (this project)
abbrev pub path_and_numbers : List (List ℕ) → Option (List ℕ × ℕ × ℕ)
path_and_numbers words = do
  given ← three_of words
  first ← long_in given.1
  second ← long_in given.2
  Some (given.0, first, second)

-- a device, read from the words of its kind and of its major and minor numbers (this project)
abbrev pub device_in : List ℕ → List ℕ → List ℕ → Option DeviceId
device_in kind major minor = do
  letter ← device_kind_in kind
  driver ← byte_in major
  unit ← byte_in minor
  Some (record { kind = letter; major = driver; minor = unit })

-- the values of `PATH PERM KIND MAJOR MINOR` (this project)
abbrev pub path_and_device : List (List ℕ) → Option (List ℕ × ℕ × DeviceId)
path_and_device words = do
  given ← five_of words
  permissions ← permissions_in given.1
  device ← device_in given.2 given.3 given.4
  Some (given.0, permissions, device)

-- the step of a command with the words after it: `create PATH PERM`, `mkdir PATH PERM`, `link FROM TO`, `unlink PATH`, `rmdir PATH`, `write PATH
-- OFFSET HEX`, `truncate PATH LENGTH`, `chmod PATH PERM`, `chown PATH UID GID`, `times PATH ATIME MTIME`, `mknod PATH PERM KIND MAJOR MINOR`, `stat
-- PATH`, `read PATH OFFSET LEN`, `list PATH`, `cut` (this project)
abbrev pub asked_by : Command → Cred → ℕ → List (List ℕ) → Option ScriptStep
asked_by commands.Create cred now words =
    option_map (λ given. steps.Change (calls.Create cred now given.0 given.1)) (path_and_permissions words)
asked_by commands.Mkdir cred now words =
    option_map (λ given. steps.Change (calls.Mkdir cred now given.0 given.1)) (path_and_permissions words)
asked_by commands.Link cred now words = option_map (λ given. steps.Change (calls.Link cred now given.0 given.1)) (two_of words)
asked_by commands.Unlink cred now words = option_map (λ path. steps.Change (calls.Unlink cred now path)) (one_of words)
asked_by commands.Rmdir cred now words = option_map (λ path. steps.Change (calls.Rmdir cred now path)) (one_of words)
asked_by commands.Write cred now words =
    option_map (λ given. steps.Change (calls.Write cred now given.0 given.1 given.2)) (path_and_bytes words)
asked_by commands.Truncate cred now words =
    option_map (λ given. steps.Change (calls.Truncate cred now given.0 given.1)) (path_and_length words)
asked_by commands.Chmod cred now words =
    option_map (λ given. steps.Change (calls.Chmod cred now given.0 given.1)) (path_and_permissions words)
asked_by commands.Chown cred now words =
    option_map (λ given. steps.Change (calls.Chown cred now given.0 given.1.uid given.1.gid)) (path_and_owner words)
asked_by commands.Times cred now words =
    option_map (λ given. steps.Change (calls.Times cred now given.0 given.1 given.2)) (path_and_numbers words)
asked_by commands.Mknod cred now words =
    option_map (λ given. steps.Change (calls.Mknod cred now given.0 given.1 given.2)) (path_and_device words)
asked_by commands.Stat cred now words = option_map (λ path. steps.Question (queries.Stat cred path)) (one_of words)
asked_by commands.Read cred now words =
    option_map (λ given. steps.Question (queries.Read cred given.0 given.1 given.2)) (path_and_numbers words)
asked_by commands.List cred now words = option_map (λ path. steps.Question (queries.List cred path)) (one_of words)
asked_by commands.Cut cred now words = option_map (λ nothing. steps.Cut) (none_of words)

-- the step of a line with these words: `NOW UID GID`, the command and its words (this project)
abbrev pub step_by : List (List ℕ) → Option ScriptStep
step_by (now ∷ uid ∷ gid ∷ name ∷ words) = do
  moment ← long_in now
  cred ← cred_in uid gid
  command ← command_named name
  asked_by command cred moment words
step_by _ = None

-- the session's step in a line, whose words are separated by single spaces (this project)
abbrev pub step_in : List ℕ → Option ScriptStep
step_in line = step_by (slice_split (λ b. b == 32) line)

-- the query of a step, if it is one (this project)
abbrev pub query_of : ScriptStep → Option Query
query_of (steps.Change call) = None
query_of (steps.Question query) = Some query
query_of steps.Cut = None

-- the view's query in a line (this project)
abbrev pub query_in : List ℕ → Option Query
query_in line = step_in line >>= query_of
