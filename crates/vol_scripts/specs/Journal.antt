-- The journal of a volume, in the format of a script.
use Rattle.std.specs.Prelude.{ℕ, ◌++◌, Bool, if◌then◌else◌, List, [], ◌∷◌, codes, decimal}
use Rattle.vol_dir.specs.declared.cred.Cred.{Cred}
use Rattle.vol_volume.specs.Perform.{caller_of, path_of}
use Rattle.vol_volume.specs.declared.calls.Call.{Call}
use Rattle.vol_volume.specs.declared.calls.Call.TheVariants as calls
use Rattle.vol_volume.specs.declared.calls.Record.{Record}
use Rattle.vol_scripts.specs.Grammar.{command_word}
use Rattle.vol_layout.specs.declared.mode.DeviceId.{DeviceId}
use Rattle.vol_scripts.specs.Texts.{bytes_text, device_letter, permissions_text}
use Rattle.vol_scripts.specs.declared.commands.Command.{Command}
use Rattle.vol_scripts.specs.declared.commands.Command.TheVariants as commands

-- the command for a call (this project)
abbrev pub command_of : Call → Command
command_of (calls.Create cred now path perm) = commands.Create
command_of (calls.Mkdir cred now path perm) = commands.Mkdir
command_of (calls.Link cred now source target) = commands.Link
command_of (calls.Unlink cred now path) = commands.Unlink
command_of (calls.Rmdir cred now path) = commands.Rmdir
command_of (calls.Write cred now path offset bytes) = commands.Write
command_of (calls.Truncate cred now path size) = commands.Truncate
command_of (calls.Chmod cred now path perm) = commands.Chmod
command_of (calls.Chown cred now path uid gid) = commands.Chown
command_of (calls.Times cred now path atime mtime) = commands.Times
command_of (calls.Mknod cred now path perm device) = commands.Mknod

-- the words of a device, each with a space before it: the letter of its kind, its major number and its minor number (this project)
abbrev pub device_after : DeviceId → List ℕ
device_after device =
    codes " " ++ device_letter device.kind ++ codes " " ++ decimal device.major ++ codes " " ++ decimal device.minor

-- the words after a call's first path, each with a space before it (this project)
abbrev pub words_after : Call → List ℕ
words_after (calls.Create cred now path perm) = codes " " ++ permissions_text perm
words_after (calls.Mkdir cred now path perm) = codes " " ++ permissions_text perm
words_after (calls.Link cred now source target) = codes " " ++ target
words_after (calls.Unlink cred now path) = []
words_after (calls.Rmdir cred now path) = []
words_after (calls.Write cred now path offset bytes) = codes " " ++ decimal offset ++ codes " " ++ bytes_text bytes
words_after (calls.Truncate cred now path size) = codes " " ++ decimal size
words_after (calls.Chmod cred now path perm) = codes " " ++ permissions_text perm
words_after (calls.Chown cred now path uid gid) = codes " " ++ decimal uid ++ codes " " ++ decimal gid
words_after (calls.Times cred now path atime mtime) = codes " " ++ decimal atime ++ codes " " ++ decimal mtime
words_after (calls.Mknod cred now path perm device) = codes " " ++ permissions_text perm ++ device_after device

-- the words before a call's first path, each followed by a space: the call's time, user, group and command (this project)
abbrev pub words_before : ℕ → Cred → List ℕ → List ℕ
words_before now cred command =
    decimal now ++ codes " " ++ decimal cred.uid ++ codes " " ++ decimal cred.gid ++ codes " " ++ command ++ codes " "

-- the words of a call, as the line of a script has them (this project)
abbrev pub call_words : Call → List ℕ
call_words call =
    words_before (caller_of call).moment (caller_of call).cred (command_word (command_of call)) ++ path_of call ++ words_after call

-- the line of a call in a script (this project)
abbrev pub call_text : Call → List ℕ
call_text call = call_words call ++ codes "\n"

-- the lines of a journal: one for the call of each record, in order (this project)
abbrev pub journal_text : List Record → List ℕ
journal_text [] = []
journal_text (entry ∷ entries) = call_text entry.call ++ journal_text entries

-- the lines of a journal, if these lines are wanted (this project)
abbrev pub journal_if : Bool → List Record → List ℕ
journal_if wanted records = if wanted then journal_text records else []
