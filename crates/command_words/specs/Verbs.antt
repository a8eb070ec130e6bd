-- The commands, and their words.
use Rattle.std.specs.Prelude.{◌≢◌, ◌∷◌, ℕ, List, [], None, Some, codes}
use Rattle.command_words.specs.declared.parameters.WordKind.{WordKind}
use Rattle.command_words.specs.declared.parameters.WordKind.TheVariants as kinds
use Rattle.command_words.specs.declared.parameters.Need.{Need}
use Rattle.command_words.specs.declared.parameters.Need.TheVariants as needs
use Rattle.command_words.specs.declared.parameters.Parameter.{Parameter}
use Rattle.command_words.specs.declared.parameters.ValueName.{ValueName}
use Rattle.command_words.specs.declared.parameters.ValueName.TheVariants as values
use Rattle.command_words.specs.declared.verbs.Verb.{Verb}
use Rattle.command_words.specs.declared.verbs.Verb.TheVariants as verbs

-- an argument of a command: its name, the kind of its words, and their number (this project)
abbrev pub Argument : Type 0
Argument = List ℕ × WordKind × Need

-- the argument of a parameter (this project)
abbrev pub argument_of : Parameter → Argument
argument_of parameter = (parameter.name.now, parameter.kind, parameter.need)

-- the argument `EDITION` (this project)
abbrev pub edition : Argument
edition = (codes "EDITION", kinds.Edition, needs.Once)

-- the argument `EDITION` of a volume to make (this project)
abbrev pub new_edition : Argument
new_edition = (codes "EDITION", kinds.NewEdition, needs.Once)

-- an argument for any word (this project)
abbrev pub word : List ℕ → Argument
word name = (name, kinds.Text, needs.Once)

-- the argument `INO` of a command that also takes a path (this project)
abbrev pub node : Argument
node = (codes "INO", kinds.Node, needs.Once)

-- an argument for a 16-bit number (this project)
abbrev pub number : List ℕ → Argument
number name = (name, kinds.Word, needs.Once)

-- an argument for a 16-bit number, which may be left out (this project)
abbrev pub maybe_number : List ℕ → Argument
maybe_number name = (name, kinds.WordOr, needs.Maybe)

-- an argument for a 32-bit number (this project)
abbrev pub long_number : List ℕ → Argument
long_number name = (name, kinds.Long, needs.Once)

-- the argument `NOW`, which may be left out (this project)
abbrev pub moment : Argument
moment = (codes "NOW", kinds.Moment, needs.Maybe)

-- the argument `PATH`, which may be left out (this project)
abbrev pub maybe_path : Argument
maybe_path = (codes "PATH", kinds.Text, needs.Maybe)

-- an argument for a path, which isn't the empty one, of a command that changes a volume (this project)
abbrev pub path_named : List ℕ → Need → Argument
path_named name need = (name, kinds.Path, need)

-- the argument `PATH` of a command that changes the file or directory at this path (this project)
abbrev pub path : Need → Argument
path need = path_named (codes "PATH") need

-- an argument for any word, which may be left out (this project)
abbrev pub maybe_word : List ℕ → Argument
maybe_word name = (name, kinds.Text, needs.Maybe)

-- the argument `MORE`, for any number of words (this project)
abbrev pub more_words : Argument
more_words = (codes "MORE", kinds.Text, needs.Any)

-- an option with a value and a letter: its name, the letter, and the value's name in the help (this project)
abbrev pub valued : List ℕ → ℕ → ValueName → Argument
valued name letter value = (name, kinds.Text, needs.Value (Some letter) value)

-- an option with a letter: its name, and the letter (this project)
abbrev pub lettered : List ℕ → ℕ → Argument
lettered name letter = (name, kinds.Flag, needs.Flag (Some letter))

-- an option without a letter (this project)
abbrev pub option : List ℕ → Argument
option name = (name, kinds.Flag, needs.Flag None)

-- the option `--at`, with the block that a volume begins at (this project)
abbrev pub at : Argument
at = (codes "at", kinds.LongOr, needs.Value None values.Block)

-- the words of a command on a volume in a file: the edition, the file, the block of it that the volume begins at, and these arguments (this project)
abbrev pub on_volume : List Argument → List Argument
on_volume more = edition ∷ word (codes "IMAGE") ∷ at ∷ more

-- the option `--owner`, with a user and a group (this project)
abbrev pub owner : Argument
owner = (codes "owner", kinds.Owner, needs.Value (Some 111) values.Owner)

-- the words of a checker's command (this project)
abbrev pub of_checker : List Argument
of_checker = on_volume ((codes "WORKERS", kinds.Threads, needs.Once) ∷ option (codes "json") ∷ [])

-- the arguments about an image of which some blocks couldn't be read, and then further ones (this project)
abbrev pub with_bad : List Argument → List Argument
with_bad more =
    (codes "bad", kinds.Text, needs.Value None values.Map) ∷ (codes "bad-blocks", kinds.BlockList, needs.Value None values.Blocks)
    ∷ (codes "sizes", kinds.Sizes, needs.Value None values.Sizes) ∷ (codes "like", kinds.Disk, needs.Value None values.Disk) ∷ more

-- the row of a command: its name, and its words in order (this project)
abbrev pub row_of : Verb → List ℕ × List Argument
row_of verbs.Cat = (codes "cat", on_volume (node ∷ option (codes "cut") ∷ with_bad (option (codes "damaged") ∷ [])))
row_of verbs.Ls = (
  codes "ls",
  on_volume (maybe_path ∷ lettered (codes "long") 108 ∷ lettered (codes "recursive") 82
      ∷ lettered (codes "directory") 100 ∷ option (codes "json") ∷ option (codes "slots") ∷ option (codes "unsound")
      ∷ option (codes "cut") ∷ with_bad []),
)
row_of verbs.Get = (
  codes "get",
  on_volume (word (codes "PATH") ∷ more_words ∷ valued (codes "output") 111 values.Folder ∷ lettered (codes "preserve") 112
      ∷ lettered (codes "recursive") 114 ∷ option (codes "unsound") ∷ option (codes "cut") ∷ with_bad (option (codes "damaged") ∷ [])),
)
row_of verbs.Find = (
  codes "find",
  on_volume (maybe_path ∷ valued (codes "name") 103 values.Pattern ∷ option (codes "lost") ∷ option (codes "cut") ∷ with_bad (option (codes "json") ∷ [])),
)
row_of verbs.Export = (
  codes "export",
  on_volume (maybe_path ∷ option (codes "lost") ∷ option (codes "cut") ∷ with_bad (option (codes "damaged") ∷ option (codes "status") ∷ [])),
)
row_of verbs.Sums = (codes "sums", on_volume (maybe_path ∷ option (codes "lost") ∷ option (codes "cut") ∷ with_bad (option (codes "json") ∷ [])))
row_of verbs.Inode = (codes "inode", on_volume (node ∷ option (codes "json") ∷ []))
row_of verbs.Super = (codes "super", on_volume (option (codes "json") ∷ []))
row_of verbs.Free = (codes "free", on_volume (option (codes "json") ∷ []))
row_of verbs.Block = (codes "block", on_volume (long_number (codes "BLOCK") ∷ option (codes "cut") ∷ with_bad (option (codes "json") ∷ [])))
row_of verbs.Dump = (codes "dump", on_volume ((codes "BLOCK", kinds.Place, needs.Once) ∷ lettered (codes "inode") 105 ∷ option (codes "octal") ∷ option (codes "json") ∷ []))
row_of verbs.Diff = (codes "diff", on_volume (word (codes "OTHER") ∷ option (codes "times") ∷ option (codes "fields") ∷ option (codes "all") ∷ option (codes "json") ∷ []))
row_of verbs.Df = (codes "df", on_volume (option (codes "json") ∷ []))
row_of verbs.Map = (codes "map", on_volume (option (codes "svg") ∷ option (codes "cut") ∷ with_bad (option (codes "json") ∷ (codes "file", kinds.Text, needs.Value None values.Path) ∷ [])))
row_of verbs.Check = (codes "check", on_volume (option (codes "status") ∷ option (codes "cut") ∷ with_bad (option (codes "json") ∷ [])))
row_of verbs.Icheck = (codes "icheck", of_checker)
row_of verbs.Dcheck = (codes "dcheck", of_checker)
row_of verbs.Ncheck = (codes "ncheck", of_checker)
row_of verbs.Mkfs = (
  codes "mkfs",
  new_edition ∷ word (codes "IMAGE") ∷ ((codes "FSIZE", kinds.Blocks, needs.Once) ∷ maybe_number (codes "IBLOCKS") ∷ maybe_number (codes "UID") ∷ maybe_number (codes "GID") ∷ moment
      ∷ option (codes "new") ∷ at ∷ []),
)
row_of verbs.Build = (
  codes "build",
  word (codes "LIST") ∷ word (codes "IMAGE") ∷ maybe_word (codes "MORE") ∷ option (codes "list") ∷ option (codes "new") ∷ at ∷ [],
)
row_of verbs.Put = (
  codes "put",
  on_volume (word (codes "PATH") ∷ maybe_word (codes "FILE") ∷ maybe_word (codes "NOW") ∷ more_words
      ∷ valued (codes "target-directory") 116 values.Directory ∷ lettered (codes "recursive") 114 ∷ lettered (codes "preserve") 112 ∷ lettered (codes "executable") 120
      ∷ owner ∷ option (codes "trace") ∷ []),
)
row_of verbs.Sync = (
  codes "sync",
  on_volume (path needs.Once ∷ word (codes "FOLDER") ∷ moment ∷ lettered (codes "dry-run") 110 ∷ option (codes "delete") ∷ owner ∷ []),
)
row_of verbs.Import = (
  codes "import",
  on_volume (path needs.Maybe ∷ moment ∷ option (codes "skip-special") ∷ owner ∷ option (codes "trace") ∷ []),
)
row_of verbs.Rm = (codes "rm", on_volume (path needs.Once ∷ moment ∷ lettered (codes "recursive") 114 ∷ option (codes "trace") ∷ []))
row_of verbs.Rmdir = (codes "rmdir", on_volume (path needs.Once ∷ moment ∷ option (codes "trace") ∷ []))
row_of verbs.Mkdir = (codes "mkdir", on_volume (path needs.Once ∷ moment ∷ lettered (codes "parents") 112 ∷ owner ∷ option (codes "trace") ∷ []))
row_of verbs.Ln = (codes "ln", on_volume (path_named (codes "FROM") needs.Once ∷ path_named (codes "TO") needs.Once ∷ moment ∷ option (codes "trace") ∷ []))
row_of verbs.Mv = (codes "mv", on_volume (path_named (codes "FROM") needs.Once ∷ path_named (codes "TO") needs.Once ∷ moment ∷ option (codes "trace") ∷ []))
row_of verbs.Chmod = (codes "chmod", on_volume (path needs.Once ∷ (codes "PERM", kinds.Permissions, needs.Once) ∷ moment ∷ option (codes "trace") ∷ []))
row_of verbs.Chown = (codes "chown", on_volume (path needs.Once ∷ number (codes "UID") ∷ number (codes "GID") ∷ moment ∷ option (codes "trace") ∷ []))
row_of verbs.Touch = (codes "touch", on_volume (path needs.Once ∷ moment ∷ option (codes "trace") ∷ []))
row_of verbs.Mknod = (
  codes "mknod",
  on_volume (path needs.Once ∷ (codes "KIND", kinds.DeviceKind, needs.Once) ∷ (codes "MAJOR", kinds.Byte, needs.Once) ∷ (codes "MINOR", kinds.Byte, needs.Once)
      ∷ (codes "PERM", kinds.PermissionsOr, needs.Maybe) ∷ moment ∷ owner ∷ option (codes "trace") ∷ []),
)
row_of verbs.Boot = (codes "boot", on_volume (word (codes "FILE") ∷ []))
row_of verbs.Salvage = (codes "salvage", on_volume (valued (codes "output") 111 values.Copy ∷ lettered (codes "dry-run") 110 ∷ []))
row_of verbs.Repair = (
  codes "repair",
  on_volume (maybe_word (codes "NEW") ∷ moment ∷ option (codes "new") ∷ lettered (codes "dry-run") 110
      ∷ (codes "blocks", kinds.LongOr, needs.Value None values.Size) ∷ option (codes "cut") ∷ with_bad []),
)
row_of verbs.Resize = (codes "resize", on_volume (long_number (codes "BLOCKS") ∷ lettered (codes "dry-run") 110 ∷ []))
row_of verbs.Play = (codes "play", on_volume ((codes "SCRIPT", kinds.Scripts, needs.Several) ∷ option (codes "journal") ∷ option (codes "trace") ∷ option (codes "json") ∷ []))
row_of verbs.Migrate = (
  codes "migrate",
  word (codes "OLD") ∷ word (codes "NEW") ∷ long_number (codes "FSIZE") ∷ number (codes "IBLOCKS") ∷ moment ∷ option (codes "new") ∷ at
      ∷ option (codes "devices") ∷ [],
)
row_of verbs.Serve = (
  codes "serve",
  on_volume (option (codes "read-only") ∷ option (codes "mine")
      ∷ (codes "rescue", kinds.Path, needs.Value (Some 114) values.Rescue) ∷ []),
)
row_of verbs.Identify = (codes "identify", (codes "IMAGE", kinds.Text, needs.Several) ∷ option (codes "json") ∷ option (codes "csv") ∷ lettered (codes "recursive") 114 ∷ [])

-- the name of a command (this project)
abbrev pub verb_name : Verb → List ℕ
verb_name verb = (row_of verb).0

-- the words of a command, in order (this project)
abbrev pub arguments_of : Verb → List Argument
arguments_of verb = (row_of verb).1

-- all commands, in the order in which the help lists them (this project)
abbrev pub all_verbs : List Verb
all_verbs =
    verbs.Cat ∷ verbs.Ls ∷ verbs.Get ∷ verbs.Find ∷ verbs.Export ∷ verbs.Sums ∷ verbs.Inode ∷ verbs.Super ∷ verbs.Free ∷ verbs.Block
    ∷ verbs.Dump ∷ verbs.Diff ∷ verbs.Df ∷ verbs.Map ∷ verbs.Check ∷ verbs.Icheck ∷ verbs.Dcheck ∷ verbs.Ncheck ∷ verbs.Mkfs ∷ verbs.Build ∷ verbs.Put ∷ verbs.Sync ∷ verbs.Import ∷ verbs.Rm
    ∷ verbs.Rmdir ∷ verbs.Mkdir ∷ verbs.Ln ∷ verbs.Mv ∷ verbs.Chmod ∷ verbs.Chown ∷ verbs.Touch ∷ verbs.Mknod ∷ verbs.Boot ∷ verbs.Salvage ∷ verbs.Repair ∷ verbs.Resize ∷ verbs.Play ∷ verbs.Migrate
    ∷ verbs.Serve ∷ verbs.Identify ∷ []

-- no command has this name (this project)
abbrev pub IsNoCommand : List ℕ → Type 0
IsNoCommand text = (verb : Verb) → text ≢ verb_name verb
