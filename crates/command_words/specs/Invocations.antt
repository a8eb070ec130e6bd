-- The invocations that the words after a command are read as.
use Rattle.std.specs.Prelude.{◌≡◌, ◌≢◌, ◌⊎◌, ◌∷◌, ◌≤◌, ◌-◌, ◌&&◌, ◌==◌, ℕ, List, [], length, map, take, get_or, slice_get, slice_index, flat_map, Option, Some, None, option_map, Bool, false, true, not, codes, if◌then◌else◌}
use Rattle.std.specs.List.{list_any}
use Rattle.std.specs.Path.{path_file_name}
use Rattle.std.specs.Str.{bytes_eq}
use Rattle.vol_layout.specs.declared.edition.Edition.{Edition}
use Rattle.vol_layout.specs.declared.edition.Edition.TheVariants.{V6, V7}
use Rattle.vol_layout.specs.declared.mode.DeviceId.{DeviceId}
use Rattle.vol_layout.specs.declared.mode.DeviceKind.{DeviceKind}
use Rattle.vol_layout.specs.declared.mode.DeviceKind.TheVariants as devices
use Rattle.bad_maps.specs.Lists.{bytes_around}
use Rattle.command_words.specs.BadWords.{IsBadImageGiven, IsReadIfAny, sizes_of}
use Rattle.command_words.specs.Disks.{AreBlocksOf}
use Rattle.disk_sizes.specs.Disks.{disk_blocks, list_default}
use Rattle.command_words.specs.Decimal.{IsNumberUpTo, IsNumberGiven, IsThreads, IsThreadsGiven}
use Rattle.command_words.specs.Moment.{IsMomentOf}
use Rattle.command_words.specs.Owners.{IsOwnerGiven, IsOwnerIfAny}
use Rattle.command_words.specs.Permissions.{ArePermissionsIfAny, IsPermissionsGiven, IsPermissionsOr, IsPermissionsWord}
use Rattle.command_words.specs.Verbs.{Argument, verb_name}
use Rattle.command_words.specs.declared.fault.WordFault.{WordFault}
use Rattle.command_words.specs.declared.fault.WordFault.TheVariants as faults
use Rattle.command_words.specs.declared.parameters.WordKind.{WordKind}
use Rattle.command_words.specs.declared.parameters.WordKind.TheVariants as kinds
use Rattle.command_words.specs.declared.invocation.BadImage.{BadImage}
use Rattle.command_words.specs.declared.invocation.Copying.{Copying}
use Rattle.command_words.specs.declared.invocation.Copying.TheVariants as copies
use Rattle.command_words.specs.declared.invocation.GuessForm.{GuessForm}
use Rattle.command_words.specs.declared.invocation.GuessForm.TheVariants as guesses
use Rattle.command_words.specs.declared.invocation.Invocation.{Invocation}
use Rattle.command_words.specs.declared.invocation.Invocation.TheVariants as invocations
use Rattle.command_words.specs.declared.invocation.MadeFile.{MadeFile}
use Rattle.command_words.specs.declared.invocation.NewPlace.{NewPlace}
use Rattle.command_words.specs.declared.invocation.NewPlace.TheVariants as places
use Rattle.command_words.specs.declared.invocation.Serving.{Serving}
use Rattle.command_words.specs.declared.invocation.Serving.TheVariants as servings
use Rattle.command_words.specs.declared.invocation.VolumeFile.{VolumeFile}
use Rattle.command_words.specs.declared.invocation.Work.{Work}
use Rattle.command_words.specs.declared.invocation.Work.TheVariants as works
use Rattle.command_words.specs.declared.verbs.Verb.{Verb}
use Rattle.command_words.specs.declared.verbs.Verb.TheVariants as verbs
use Rattle.command_terms.specs.declared.bad_looks.BadLook.{BadLook}
use Rattle.command_terms.specs.declared.bad_looks.BadLook.TheVariants as bad_looks
use Rattle.command_terms.specs.declared.comparison.Comparison.{Comparison}
use Rattle.command_terms.specs.declared.comparison.Comparison.TheVariants as comparisons
use Rattle.command_terms.specs.declared.looks.ExportOptions.{ExportOptions}
use Rattle.command_terms.specs.declared.looks.OutputForm.{OutputForm}
use Rattle.command_terms.specs.declared.looks.OutputForm.TheVariants as forms
use Rattle.vol_listing.specs.Depths.{goes_below}
use Rattle.vol_listing.specs.declared.options.Depth.{Depth}
use Rattle.vol_listing.specs.declared.options.Depth.TheVariants as depths
use Rattle.vol_listing.specs.declared.options.Lines.{Lines}
use Rattle.vol_listing.specs.declared.options.Lines.TheVariants as lines
use Rattle.command_terms.specs.declared.looks.Look.{Look}
use Rattle.command_terms.specs.declared.looks.Look.TheVariants as looks
use Rattle.command_terms.specs.declared.looks.DumpForm.{DumpForm}
use Rattle.command_terms.specs.declared.looks.DumpForm.TheVariants as dumps
use Rattle.command_terms.specs.declared.looks.DumpTarget.{DumpTarget}
use Rattle.command_terms.specs.declared.looks.DumpTarget.TheVariants as targets
use Rattle.command_terms.specs.declared.looks.NodeName.{NodeName}
use Rattle.command_terms.specs.declared.looks.NodeName.TheVariants as nodes
use Rattle.command_terms.specs.declared.looks.Picture.{Picture}
use Rattle.command_terms.specs.declared.looks.Picture.TheVariants as pictures
use Rattle.vol_check.specs.declared.checker.Checker.{Checker}
use Rattle.vol_check.specs.declared.checker.Checker.TheVariants as checkers
use Rattle.command_terms.specs.declared.options.Keep.{Keep}
use Rattle.command_terms.specs.declared.options.Keep.TheVariants as keeps
use Rattle.command_terms.specs.declared.changes.Change.{Change}
use Rattle.command_terms.specs.declared.changes.Change.TheVariants as changes
use Rattle.command_terms.specs.Permissions.{change_to}
use Rattle.command_terms.specs.declared.options.Migration.{Migration}
use Rattle.vol_migrate.specs.declared.devices.Devices.{Devices}
use Rattle.vol_migrate.specs.declared.devices.Devices.TheVariants as treatments
use Rattle.command_terms.specs.declared.options.Repairing.{Repairing}
use Rattle.command_terms.specs.declared.plays.PlayForm.{PlayForm}
use Rattle.command_terms.specs.declared.plays.PlayForm.TheVariants as plays
use Rattle.vol_fields.specs.declared.lines.Radix.{Radix}
use Rattle.vol_fields.specs.declared.lines.Radix.TheVariants as radixes
use Rattle.vol_import.specs.declared.import_options.ImportOptions.{ImportOptions}
use Rattle.vol_mkfs.specs.declared.blank.NewVolume.{NewVolume}

-- the words given for each argument, by its name (this project)
abbrev pub Words : Type 0
Words = List ℕ → List (List ℕ)

-- the first word, or the empty one if there is none (this project)
abbrev pub first_word : List (List ℕ) → List ℕ
first_word [] = []
first_word (word ∷ more) = word

-- the first word given for an argument, or the empty one (this project)
abbrev pub the_word : Words → List ℕ → List ℕ
the_word given name = first_word (given name)

-- this is the first word given for an argument (this project)
abbrev pub IsFirstWord : Words → List ℕ → List ℕ → Type 0
IsFirstWord given name word = slice_get (given name) 0 ≡ Some word

-- this is the first word given for an argument, and it isn't empty (this project)
abbrev pub IsNonEmptyWord : Words → List ℕ → List ℕ → Type 0
IsNonEmptyWord given name word = IsFirstWord given name word × (word ≢ [])

-- no word was given for an argument (this project)
abbrev pub IsLeftOut : Words → List ℕ → Type 0
IsLeftOut given name = slice_get (given name) 0 ≡ None

-- true if an option was given: its word is `true` (clap's SetTrue)
abbrev pub is_set : List (List ℕ) → Bool
is_set words = bytes_eq (first_word words) (codes "true")

-- the word names this edition (this project)
abbrev pub IsEditionNamed : Edition → List ℕ → Type 0
IsEditionNamed V6 text = text ≡ codes "6"
IsEditionNamed V7 text = text ≡ codes "7"

-- the word names this edition, and the flag is false; or it is `any`, and the flag is true (this project)
abbrev pub IsEditionGiven : Edition → Bool → List ℕ → Type 0
IsEditionGiven edition false text = IsEditionNamed edition text
IsEditionGiven edition true text = (text ≡ codes "any") × (edition ≡ V7)

-- the time to use: the one in the first word, or the time of the program's clock if there is no word (this project)
abbrev pub IsMomentGiven : Option ℕ → List (List ℕ) → ℕ → Type 0
IsMomentGiven clock [] now = clock ≡ Some now
IsMomentGiven clock (word ∷ more) now = IsMomentOf word now

-- the number up to `greatest` that was given, or `other` if there is no word (this project)
abbrev pub IsNumberOr : ℕ → ℕ → List (List ℕ) → ℕ → Type 0
IsNumberOr greatest other [] number = number ≡ other
IsNumberOr greatest other (word ∷ more) number = IsNumberGiven greatest word number

-- if there is a word, it is a number up to `greatest` (this project)
abbrev pub IsNumberIfAny : ℕ → List (List ℕ) → Type 0
IsNumberIfAny greatest [] = Unit {0}
IsNumberIfAny greatest (word ∷ more) = IsNumberUpTo greatest word

-- the word for a path isn't the empty one; it may be left out (this project)
abbrev pub IsPathWord : List (List ℕ) → Type 0
IsPathWord words = slice_get words 0 ≢ Some []

-- this path was given; or it was left out, and this is the empty path, which is the root's (this project)
abbrev pub IsPathGiven : List (List ℕ) → List ℕ → Type 0
IsPathGiven words path = (path ≡ first_word words) × IsPathWord words

-- true if a word begins with a slash (this project)
abbrev pub is_path : List ℕ → Bool
is_path word = not (length word == 0) && (slice_index word 0 == 47)

-- the word names an i-node: it begins with a slash, or is a 16-bit number (this project)
abbrev pub IsNodeWord : List ℕ → Type 0
IsNodeWord word = (is_path word ≡ true) ⊎ IsNumberUpTo 65535 word

-- the word names this i-node: by a path if it begins with a slash, else by its number (this project)
abbrev pub IsNodeGiven : List ℕ → NodeName → Type 0
IsNodeGiven word (nodes.Number number) = IsNumberGiven 65535 word number × (is_path word ≡ false)
IsNodeGiven word (nodes.Path path) = (path.now ≡ word) × (is_path word ≡ true)

-- the word names a place in a volume: it begins with a slash, or is a 32-bit number (this project)
abbrev pub IsPlaceWord : List ℕ → Type 0
IsPlaceWord word = (is_path word ≡ true) ⊎ IsNumberUpTo 4294967295 word

-- the word names this place: the i-node of a path if it begins with a slash; else an i-node if that option is given, and a block if not (this project)
abbrev pub IsTargetGiven : List ℕ → Bool → DumpTarget → Type 0
IsTargetGiven word inode (targets.Block block) = IsNumberGiven 4294967295 word block × (is_path word ≡ false) × (inode ≡ false)
IsTargetGiven word inode (targets.Inode number) = IsNumberGiven 4294967295 word number × (is_path word ≡ false) × (inode ≡ true)
IsTargetGiven word inode (targets.Path path) = (path.now ≡ word) × (is_path word ≡ true)

-- the word names this kind of devices (mknod)
abbrev pub IsDeviceKind : DeviceKind → List ℕ → Type 0
IsDeviceKind devices.Character word = word ≡ codes "c"
IsDeviceKind devices.Block word = word ≡ codes "b"

-- the words name this device: its kind, its major and its minor number (mknod)
abbrev pub IsDeviceGiven : Words → DeviceId → Type 0
IsDeviceGiven given device = IsDeviceKind device.kind (the_word given (codes "KIND"))
    × IsNumberGiven 255 (the_word given (codes "MAJOR")) device.major
    × IsNumberGiven 255 (the_word given (codes "MINOR")) device.minor

-- the words are valid for an argument of this kind (this project)
abbrev pub IsValue : Option ℕ → WordKind → List (List ℕ) → Type 0
IsValue clock kinds.Edition words =
    (first_word words ≡ codes "6") ⊎ (first_word words ≡ codes "7") ⊎ (first_word words ≡ codes "any")
IsValue clock kinds.NewEdition words = (first_word words ≡ codes "6") ⊎ (first_word words ≡ codes "7")
IsValue clock kinds.Text words = Unit {0}
IsValue clock kinds.Path words = IsPathWord words
IsValue clock kinds.Word words = IsNumberUpTo 65535 (first_word words)
IsValue clock kinds.Node words = IsNodeWord (first_word words)
IsValue clock kinds.Place words = IsPlaceWord (first_word words)
IsValue clock kinds.WordOr words = IsNumberIfAny 65535 words
IsValue clock kinds.Blocks words = (blocks : ℕ) × AreBlocksOf (first_word words) blocks
IsValue clock kinds.Long words = IsNumberUpTo 4294967295 (first_word words)
IsValue clock kinds.Permissions words = IsPermissionsWord (first_word words)
IsValue clock kinds.PermissionsOr words = ArePermissionsIfAny words
IsValue clock kinds.DeviceKind words = (first_word words ≡ codes "c") ⊎ (first_word words ≡ codes "b")
IsValue clock kinds.Byte words = IsNumberUpTo 255 (first_word words)
IsValue clock kinds.Owner words = IsOwnerIfAny words
IsValue clock kinds.Threads words = IsThreads (first_word words)
IsValue clock kinds.Moment words = (now : ℕ) × IsMomentGiven clock words now
IsValue clock kinds.Scripts words = (1 ≤ length words) × (length words ≤ 64)
IsValue clock kinds.LongOr words = IsNumberIfAny 4294967295 words
IsValue clock kinds.BlockList words = IsReadIfAny bytes_around words
IsValue clock kinds.Sizes words = IsReadIfAny sizes_of words
IsValue clock kinds.Disk words = IsReadIfAny disk_blocks words
IsValue clock kinds.Flag words = Unit {0}

-- the words given for each of these arguments are valid for it (this project)
abbrev pub AreValues : Option ℕ → Words → List Argument → Type 0
AreValues clock given [] = Unit {0}
AreValues clock given (argument ∷ rest) = IsValue clock argument.1 (given argument.0) × AreValues clock given rest

-- the words given for one of these arguments aren't valid for it (this project)
abbrev pub IsOneWrong : Option ℕ → Words → List Argument → Type 0
IsOneWrong clock given [] = ⊥
IsOneWrong clock given (argument ∷ rest) = (IsValue clock argument.1 (given argument.0) → ⊥) ⊎ IsOneWrong clock given rest

-- the words given for the edition of a volume, by this argument, or for the block that it begins at, aren't valid (this project)
abbrev pub IsWrongBy : Words → List ℕ → Type 0
IsWrongBy given name = (IsValue None kinds.Edition (given name) → ⊥) ⊎ (IsValue None kinds.LongOr (given (codes "at")) → ⊥)

-- the words given for the edition of a volume, or for the block that it begins at, aren't valid (this project)
abbrev pub IsVolumeWrong : Words → Type 0
IsVolumeWrong given = IsWrongBy given (codes "EDITION")

-- the command of a checker (this project)
abbrev pub checker_verb : Checker → Verb
checker_verb checkers.Blocks = verbs.Icheck
checker_verb checkers.Entries = verbs.Dcheck
checker_verb checkers.Names = verbs.Ncheck

-- the command for work with several threads (this project)
abbrev pub work_verb : Work → Verb
work_verb (works.Check checker workers form) = checker_verb checker
work_verb (works.Play scripts journal form) = verbs.Play

-- the command for a change (this project)
abbrev pub change_verb : Change → Verb
change_verb (changes.Put path file keep owner now) = verbs.Put
change_verb (changes.Import path options now) = verbs.Import
change_verb (changes.Rm path now) = verbs.Rm
change_verb (changes.RmAll path now) = verbs.Rm
change_verb (changes.Rmdir path now) = verbs.Rmdir
change_verb (changes.Mkdir path owner now) = verbs.Mkdir
change_verb (changes.MkdirAll path owner now) = verbs.Mkdir
change_verb (changes.Ln from to now) = verbs.Ln
change_verb (changes.Mv from to now) = verbs.Mv
change_verb (changes.Chmod path change now) = verbs.Chmod
change_verb (changes.Chown path uid gid now) = verbs.Chown
change_verb (changes.Touch path now) = verbs.Touch
change_verb (changes.Mknod path device change owner now) = verbs.Mknod
change_verb changes.Salvage = verbs.Salvage
change_verb (changes.Boot file) = verbs.Boot

-- the command that shows part of an image (this project)
abbrev pub look_verb : Look → Verb
look_verb (looks.Export path options) = verbs.Export
look_verb (looks.Sums path form lost) = verbs.Sums
look_verb (looks.Inode node form) = verbs.Inode
look_verb (looks.Super form) = verbs.Super
look_verb (looks.Free form) = verbs.Free
look_verb (looks.Block block form) = verbs.Block
look_verb (looks.Dump target form) = verbs.Dump
look_verb (looks.Df form) = verbs.Df
look_verb (looks.Find path name lost form) = verbs.Find
look_verb (looks.Map picture file) = verbs.Map
look_verb looks.Uses = verbs.Map
look_verb (looks.Check graded form) = verbs.Check
look_verb (looks.List path listing) = verbs.Ls
look_verb (looks.Slots path form) = verbs.Ls
look_verb (looks.ListUnsound path listing) = verbs.Ls
look_verb (looks.ReadUnsound path) = verbs.Get

-- the command that shows part of an image of which some blocks couldn't be read (this project)
abbrev pub bad_look_verb : BadLook → Verb
bad_look_verb (bad_looks.Export path options) = verbs.Export
bad_look_verb (bad_looks.Find path name lost form) = verbs.Find
bad_look_verb (bad_looks.Sums path form lost) = verbs.Sums
bad_look_verb (bad_looks.Check graded form) = verbs.Check
bad_look_verb (bad_looks.Block block form) = verbs.Block
bad_look_verb (bad_looks.Map picture) = verbs.Map
bad_look_verb bad_looks.Uses = verbs.Map
bad_look_verb (bad_looks.List path listing) = verbs.Ls
bad_look_verb (bad_looks.Read path damaged) = verbs.Get
bad_look_verb (bad_looks.Body node damaged) = verbs.Cat

-- the command that copies files (this project)
abbrev pub copying_verb : Copying → Verb
copying_verb (copies.Put directory files keep owner now trace) = verbs.Put
copying_verb (copies.PutTree directory folders keep owner now trace) = verbs.Put
copying_verb (copies.Sync directory folder owner now deletes is_trial) = verbs.Sync
copying_verb (copies.Get folder paths is_deep keeps) = verbs.Get
copying_verb (copies.List new) = verbs.Build

-- the command of an invocation (this project)
abbrev pub verb_of : Invocation → Verb
verb_of (invocations.Cat volume node) = verbs.Cat
verb_of (invocations.Mkfs place volume) = verbs.Mkfs
verb_of (invocations.Migrate old at new migration) = verbs.Migrate
verb_of (invocations.Build list new) = verbs.Build
verb_of (invocations.Get volume path) = verbs.Get
verb_of (invocations.Salvage volume copy) = verbs.Salvage
verb_of (invocations.Repair volume copy repairing) = verbs.Repair
verb_of (invocations.RepairBad volume image copy repairing) = verbs.Repair
verb_of (invocations.Resize volume blocks is_trial) = verbs.Resize
verb_of (invocations.Change volume change trace) = change_verb change
verb_of (invocations.Look volume look) = look_verb look
verb_of (invocations.LookBad volume image look) = bad_look_verb look
verb_of (invocations.Copy volume copying) = copying_verb copying
verb_of (invocations.Work volume work) = work_verb work
verb_of (invocations.Serve volume serving) = verbs.Serve
verb_of (invocations.Diff volume other by) = verbs.Diff
verb_of (invocations.Identify images form is_deep) = verbs.Identify

-- the volume in a file that a command works on, if its words name the volume's edition (this project)
abbrev pub volume_of : Invocation → Option VolumeFile
volume_of (invocations.Cat volume node) = Some volume
volume_of (invocations.Mkfs place volume) = None
volume_of (invocations.Migrate old at new migration) = None
volume_of (invocations.Build list new) = None
volume_of (invocations.Get volume path) = Some volume
volume_of (invocations.Salvage volume copy) = Some volume
volume_of (invocations.Repair volume copy repairing) = Some volume
volume_of (invocations.RepairBad volume image copy repairing) = Some volume
volume_of (invocations.Resize volume blocks is_trial) = Some volume
volume_of (invocations.Change volume change trace) = Some volume
volume_of (invocations.Look volume look) = Some volume
volume_of (invocations.Copy volume copying) = Some volume
volume_of (invocations.Work volume work) = Some volume
volume_of (invocations.Serve volume serving) = Some volume
volume_of (invocations.LookBad volume image look) = Some volume
volume_of (invocations.Diff volume other by) = Some volume
volume_of (invocations.Identify images form is_deep) = None

-- the same command on this volume, if it works on a volume whose edition its words name; else the command itself (this project)
abbrev pub with_volume : Invocation → VolumeFile → Invocation
with_volume (invocations.Cat old node) volume = invocations.Cat volume node
with_volume (invocations.Mkfs place made) volume = invocations.Mkfs place made
with_volume (invocations.Migrate old at new migration) volume = invocations.Migrate old at new migration
with_volume (invocations.Build list new) volume = invocations.Build list new
with_volume (invocations.Get old path) volume = invocations.Get volume path
with_volume (invocations.Salvage old copy) volume = invocations.Salvage volume copy
with_volume (invocations.Repair old copy repairing) volume = invocations.Repair volume copy repairing
with_volume (invocations.RepairBad old image copy repairing) volume = invocations.RepairBad volume image copy repairing
with_volume (invocations.Resize old blocks is_trial) volume = invocations.Resize volume blocks is_trial
with_volume (invocations.Change old change trace) volume = invocations.Change volume change trace
with_volume (invocations.Look old look) volume = invocations.Look volume look
with_volume (invocations.Copy old copying) volume = invocations.Copy volume copying
with_volume (invocations.Work old work) volume = invocations.Work volume work
with_volume (invocations.Serve old serving) volume = invocations.Serve volume serving
with_volume (invocations.LookBad old image look) volume = invocations.LookBad volume image look
with_volume (invocations.Diff old other by) volume = invocations.Diff volume other by
with_volume (invocations.Identify images form is_deep) volume = invocations.Identify images form is_deep

-- the words say that a volume begins at this block of a file: 0 if they say nothing of it (this project)
abbrev pub IsAtGiven : Words → ℕ → Type 0
IsAtGiven given at = IsNumberOr 4294967295 0 (given (codes "at")) at

-- the words name this volume, with the edition by this argument (this project)
abbrev pub IsVolumeBy : Words → List ℕ → VolumeFile → Type 0
IsVolumeBy given name volume =
    IsEditionGiven volume.edition volume.is_any (the_word given name) × (volume.image.now ≡ the_word given (codes "IMAGE"))
    × IsAtGiven given volume.at

-- the words name this volume (this project)
abbrev pub IsVolumeGiven : Words → VolumeFile → Type 0
IsVolumeGiven given volume = IsVolumeBy given (codes "EDITION") volume

-- the words name this file to make, by the argument for its path, and say whether it must not exist (this project)
abbrev pub IsMadeGiven : Words → List ℕ → MadeFile → Type 0
IsMadeGiven given name file = (file.path.now ≡ the_word given name) × (file.is_new ≡ is_set (given (codes "new")))

-- the words give the least size and the time of a repaired copy: if they give no size, 0 (this project)
abbrev pub IsRepairingGiven : Option ℕ → Words → Repairing → Type 0
IsRepairingGiven clock given repairing =
    IsNumberOr 4294967295 0 (given (codes "blocks")) repairing.blocks × IsMomentGiven clock (given (codes "NOW")) repairing.now

-- the words name this file for a repaired copy, and don't ask to write nothing; or they do, and no file is written (this project)
abbrev pub IsNewCopyGiven : Words → Option MadeFile → Type 0
IsNewCopyGiven given None = is_set (given (codes "dry-run")) ≡ true
IsNewCopyGiven given (Some file) = (is_set (given (codes "dry-run")) ≡ false) × IsFirstWord given (codes "NEW") file.path.now
    × (file.is_new ≡ is_set (given (codes "new")))

-- the words name no file for a repaired copy, and don't ask to write nothing (this project)
abbrev pub IsNewCopyMissing : Words → Type 0
IsNewCopyMissing given = (is_set (given (codes "dry-run")) ≡ false) × IsLeftOut given (codes "NEW")

-- the words describe a repair of an image: the file for its copy, and the least size and the time of that (this project)
abbrev pub IsRepairGiven : Option ℕ → Words → VolumeFile → Option MadeFile → Repairing → Type 0
IsRepairGiven clock given volume copy repairing =
    IsVolumeGiven given volume × IsNewCopyGiven given copy × IsRepairingGiven clock given repairing

-- the invocation that repairs an image, of which some blocks may not have been read (this project)
abbrev pub repair_at : VolumeFile → Option MadeFile → Repairing → Option BadImage → Invocation
repair_at volume copy repairing None = invocations.Repair volume copy repairing
repair_at volume copy repairing (Some image) = invocations.RepairBad volume image copy repairing

-- the words name this place of a new volume: a file to make if no block was given; otherwise the blocks of a file from that one on, and the file needn't be
-- new (this project)
abbrev pub IsNewPlaceGiven : Words → NewPlace → Type 0
IsNewPlaceGiven given (places.File file) = IsMadeGiven given (codes "IMAGE") file × IsLeftOut given (codes "at")
IsNewPlaceGiven given (places.Part image at) = (image.now ≡ the_word given (codes "IMAGE"))
    × ((word : List ℕ) × IsFirstWord given (codes "at") word × IsNumberGiven 4294967295 word at) × (is_set (given (codes "new")) ≡ false)

-- the word for the block that a new volume begins at isn't valid; or one was given, and the file must not exist (this project)
abbrev pub IsNewPlaceWrong : Words → Type 0
IsNewPlaceWrong given =
    (IsValue None kinds.LongOr (given (codes "at")) → ⊥) ⊎ ((is_set (given (codes "new")) ≡ true) × (IsLeftOut given (codes "at") → ⊥))

-- the words describe this new volume: an i-list that was left out has mkfs's default size, and a user or a group that was left out is 0 (this
-- project)
abbrev pub IsNewVolumeGiven : Option ℕ → Words → NewVolume → Type 0
IsNewVolumeGiven clock given volume = IsEditionNamed volume.edition (the_word given (codes "EDITION"))
    × AreBlocksOf (the_word given (codes "FSIZE")) volume.blocks
    × IsNumberOr 65535 (list_default volume.edition volume.blocks) (given (codes "IBLOCKS")) volume.list_blocks
    × IsNumberOr 65535 0 (given (codes "UID")) volume.uid
    × IsNumberOr 65535 0 (given (codes "GID")) volume.gid
    × IsMomentGiven clock (given (codes "NOW")) volume.now

-- what becomes of special files: they are kept if that option is given (this project)
abbrev pub devices_in : Words → Devices
devices_in given = if is_set (given (codes "devices")) then treatments.Keep else treatments.Refuse

-- the words describe this migration (this project)
abbrev pub IsMigrationGiven : Option ℕ → Words → Migration → Type 0
IsMigrationGiven clock given migration = IsNumberGiven 4294967295 (the_word given (codes "FSIZE")) migration.blocks
    × IsNumberGiven 65535 (the_word given (codes "IBLOCKS")) migration.list_blocks
    × IsMomentGiven clock (given (codes "NOW")) migration.now × (migration.devices ≡ devices_in given)

-- the words name this one file of a volume, and no other (this project)
abbrev pub IsOnePathGiven : Words → List ℕ → Type 0
IsOnePathGiven given path = (path ≡ the_word given (codes "PATH")) × IsLeftOut given (codes "MORE") × IsLeftOut given (codes "output")
    × (is_set (given (codes "preserve")) ≡ false) × (is_set (given (codes "recursive")) ≡ false)

-- the words describe these options of an import (this project)
abbrev pub IsImportGiven : Words → ImportOptions → Type 0
IsImportGiven given options =
    (options.skip_special ≡ is_set (given (codes "skip-special"))) × IsOwnerGiven (given (codes "owner")) options.owner

-- the words choose what is kept of files that are put: all if that option is given, else the execute bits if that option is given (cp -p)
abbrev pub IsKeepGiven : Words → Keep → Type 0
IsKeepGiven given keeps.All = is_set (given (codes "preserve")) ≡ true
IsKeepGiven given keeps.Execution = (is_set (given (codes "preserve")) ≡ false) × (is_set (given (codes "executable")) ≡ true)
IsKeepGiven given keeps.Nothing = (is_set (given (codes "preserve")) ≡ false) × (is_set (given (codes "executable")) ≡ false)

-- the words describe this change (this project)
abbrev pub IsChangeGiven : Option ℕ → Words → Change → Type 0
IsChangeGiven clock given (changes.Put path file keep owner now) = IsPathGiven (given (codes "PATH")) path.now × IsFirstWord given (codes "FILE") file.now
    × IsMomentGiven clock (given (codes "NOW")) now × IsLeftOut given (codes "MORE") × IsLeftOut given (codes "target-directory")
    × IsKeepGiven given keep × IsOwnerGiven (given (codes "owner")) owner × (is_set (given (codes "recursive")) ≡ false)
IsChangeGiven clock given (changes.Import path options now) = IsPathGiven (given (codes "PATH")) path.now
    × IsMomentGiven clock (given (codes "NOW")) now × IsImportGiven given options
IsChangeGiven clock given (changes.Rm path now) =
    IsPathGiven (given (codes "PATH")) path.now × IsMomentGiven clock (given (codes "NOW")) now × (is_set (given (codes "recursive")) ≡ false)
IsChangeGiven clock given (changes.RmAll path now) =
    IsPathGiven (given (codes "PATH")) path.now × IsMomentGiven clock (given (codes "NOW")) now × (is_set (given (codes "recursive")) ≡ true)
IsChangeGiven clock given (changes.Rmdir path now) =
    IsPathGiven (given (codes "PATH")) path.now × IsMomentGiven clock (given (codes "NOW")) now
IsChangeGiven clock given (changes.Mkdir path owner now) =
    IsPathGiven (given (codes "PATH")) path.now × IsMomentGiven clock (given (codes "NOW")) now × (is_set (given (codes "parents")) ≡ false)
    × IsOwnerGiven (given (codes "owner")) owner
IsChangeGiven clock given (changes.MkdirAll path owner now) =
    IsPathGiven (given (codes "PATH")) path.now × IsMomentGiven clock (given (codes "NOW")) now × (is_set (given (codes "parents")) ≡ true)
    × IsOwnerGiven (given (codes "owner")) owner
IsChangeGiven clock given (changes.Ln from to now) = IsPathGiven (given (codes "FROM")) from.now
    × IsPathGiven (given (codes "TO")) to.now × IsMomentGiven clock (given (codes "NOW")) now
IsChangeGiven clock given (changes.Mv from to now) = IsPathGiven (given (codes "FROM")) from.now
    × IsPathGiven (given (codes "TO")) to.now × IsMomentGiven clock (given (codes "NOW")) now
IsChangeGiven clock given (changes.Chmod path change now) = IsPathGiven (given (codes "PATH")) path.now
    × IsPermissionsGiven (the_word given (codes "PERM")) change × IsMomentGiven clock (given (codes "NOW")) now
IsChangeGiven clock given (changes.Chown path uid gid now) = IsPathGiven (given (codes "PATH")) path.now
    × IsNumberGiven 65535 (the_word given (codes "UID")) uid × IsNumberGiven 65535 (the_word given (codes "GID")) gid
    × IsMomentGiven clock (given (codes "NOW")) now
IsChangeGiven clock given (changes.Touch path now) =
    IsPathGiven (given (codes "PATH")) path.now × IsMomentGiven clock (given (codes "NOW")) now
IsChangeGiven clock given (changes.Mknod path device change owner now) = IsPathGiven (given (codes "PATH")) path.now × IsDeviceGiven given device
    × IsPermissionsOr (change_to 0o644) (given (codes "PERM")) change × IsMomentGiven clock (given (codes "NOW")) now × IsOwnerGiven (given (codes "owner")) owner
IsChangeGiven clock given (changes.Boot file) = file.now ≡ the_word given (codes "FILE")
IsChangeGiven clock given changes.Salvage = (is_set (given (codes "dry-run")) ≡ false) × IsLeftOut given (codes "output")

-- the words ask for the trace of a change if that option is given; `salvage` and `boot` have none (this project)
abbrev pub IsTraceGiven : Words → Change → Bool → Type 0
IsTraceGiven given changes.Salvage trace = trace ≡ false
IsTraceGiven given (changes.Boot file) trace = trace ≡ false
IsTraceGiven given _ trace = trace ≡ is_set (given (codes "trace"))

-- the words choose this format of a report: JSON if its option is given (this project)
abbrev pub IsFormGiven : Words → OutputForm → Type 0
IsFormGiven given forms.Text = is_set (given (codes "json")) ≡ false
IsFormGiven given forms.Json = is_set (given (codes "json")) ≡ true

-- the words choose this format of guesses: JSON or a catalogue if its option is given, but not both (this project)
abbrev pub IsGuessFormGiven : Words → GuessForm → Type 0
IsGuessFormGiven given guesses.Lines = (is_set (given (codes "json")) ≡ false) × (is_set (given (codes "csv")) ≡ false)
IsGuessFormGiven given guesses.Json = (is_set (given (codes "json")) ≡ true) × (is_set (given (codes "csv")) ≡ false)
IsGuessFormGiven given guesses.Catalogue = (is_set (given (codes "json")) ≡ false) × (is_set (given (codes "csv")) ≡ true)

-- the words ask for both (this project)
abbrev pub AreTwoFormsGiven : Words → Type 0
AreTwoFormsGiven given = (is_set (given (codes "json")) ≡ true) × (is_set (given (codes "csv")) ≡ true)

-- the words choose this format of a picture of the blocks: SVG if its option is given (this project)
abbrev pub IsPictureGiven : Words → Picture → Type 0
IsPictureGiven given pictures.Cells = is_set (given (codes "svg")) ≡ false
IsPictureGiven given pictures.Svg = is_set (given (codes "svg")) ≡ true

-- the words choose this format of lines: JSON if that option is given, else long lines if that option is given (this project)
abbrev pub AreLinesGiven : Words → Lines → Type 0
AreLinesGiven given lines.Plain = (is_set (given (codes "json")) ≡ false) × (is_set (given (codes "long")) ≡ false)
AreLinesGiven given lines.Long = (is_set (given (codes "json")) ≡ false) × (is_set (given (codes "long")) ≡ true)
AreLinesGiven given lines.Json = is_set (given (codes "json")) ≡ true

-- the words choose the depth of a listing: only the directory itself if that option is given, else everything below if that option is given (this
-- project)
abbrev pub IsDepthGiven : Words → Depth → Type 0
IsDepthGiven given depths.Itself = is_set (given (codes "directory")) ≡ true
IsDepthGiven given depths.Names = (is_set (given (codes "directory")) ≡ false) × (is_set (given (codes "recursive")) ≡ false)
IsDepthGiven given depths.Below = (is_set (given (codes "directory")) ≡ false) × (is_set (given (codes "recursive")) ≡ true)

-- the words choose these digits: octal ones if that option is given (this project)
abbrev pub IsRadixGiven : Words → Radix → Type 0
IsRadixGiven given radixes.Hex = is_set (given (codes "octal")) ≡ false
IsRadixGiven given radixes.Octal = is_set (given (codes "octal")) ≡ true

-- the words choose this format of a dump: JSON if its option is given, which has no octal digits, else lines (this project)
abbrev pub IsDumpFormGiven : Words → DumpForm → Type 0
IsDumpFormGiven given (dumps.Text radix) = (is_set (given (codes "json")) ≡ false) × IsRadixGiven given radix
IsDumpFormGiven given dumps.Json = (is_set (given (codes "json")) ≡ true) × (is_set (given (codes "octal")) ≡ false)

-- the words ask for JSON with octal digits (this project)
abbrev pub AreDigitsOfJson : Words → Type 0
AreDigitsOfJson given = (is_set (given (codes "json")) ≡ true) × (is_set (given (codes "octal")) ≡ true)

-- the words describe an export of what is below this path, with these options (this project)
abbrev pub IsExportGiven : Words → List ℕ → ExportOptions → Type 0
IsExportGiven given path options = (path ≡ the_word given (codes "PATH")) × (options.lost ≡ is_set (given (codes "lost")))
    × (options.graded ≡ is_set (given (codes "status"))) × (options.losses.cut ≡ is_set (given (codes "cut")))
    × (options.losses.damaged ≡ is_set (given (codes "damaged")))

-- the words describe this part of an image (this project)
abbrev pub IsLookGiven : Words → Look → Type 0
IsLookGiven given (looks.Export path options) = IsExportGiven given path.now options × IsBadImageGiven given V7 false None
IsLookGiven given (looks.Sums path form lost) = (path.now ≡ the_word given (codes "PATH")) × IsFormGiven given form
    × (lost ≡ is_set (given (codes "lost"))) × IsBadImageGiven given V7 (is_set (given (codes "cut"))) None
IsLookGiven given (looks.Inode node form) = IsNodeGiven (the_word given (codes "INO")) node × IsFormGiven given form
IsLookGiven given (looks.Super form) = IsFormGiven given form
IsLookGiven given (looks.Free form) = IsFormGiven given form
IsLookGiven given (looks.Block block form) = IsNumberGiven 4294967295 (the_word given (codes "BLOCK")) block × IsFormGiven given form
    × IsBadImageGiven given V7 (is_set (given (codes "cut"))) None
IsLookGiven given (looks.Dump target form) =
    IsTargetGiven (the_word given (codes "BLOCK")) (is_set (given (codes "inode"))) target × IsDumpFormGiven given form
IsLookGiven given (looks.Df form) = IsFormGiven given form
IsLookGiven given (looks.Find path name lost form) = (path.now ≡ the_word given (codes "PATH"))
    × (option_map (λ word. word.now) name ≡ slice_get (given (codes "name")) 0) × (lost ≡ is_set (given (codes "lost"))) × IsFormGiven given form
    × IsBadImageGiven given V7 (is_set (given (codes "cut"))) None
IsLookGiven given (looks.Map picture file) = IsPictureGiven given picture × (is_set (given (codes "json")) ≡ false)
    × (option_map (λ word. word.now) file ≡ slice_get (given (codes "file")) 0) × IsBadImageGiven given V7 (is_set (given (codes "cut"))) None
IsLookGiven given looks.Uses = (is_set (given (codes "json")) ≡ true) × (is_set (given (codes "svg")) ≡ false)
    × (slice_get (given (codes "file")) 0 ≡ None) × IsBadImageGiven given V7 (is_set (given (codes "cut"))) None
IsLookGiven given (looks.Check graded form) = (graded ≡ is_set (given (codes "status"))) × IsFormGiven given form
    × IsBadImageGiven given V7 (is_set (given (codes "cut"))) None
IsLookGiven given (looks.List path listing) = (path.now ≡ the_word given (codes "PATH")) × AreLinesGiven given listing.lines
    × IsDepthGiven given listing.depth × (is_set (given (codes "slots")) ≡ false) × (is_set (given (codes "unsound")) ≡ false)
    × IsBadImageGiven given V7 (is_set (given (codes "cut"))) None
IsLookGiven given (looks.Slots path form) = (path.now ≡ the_word given (codes "PATH")) × (is_set (given (codes "slots")) ≡ true)
    × IsFormGiven given form × IsBadImageGiven given V7 (is_set (given (codes "cut"))) None
IsLookGiven given (looks.ListUnsound path listing) = (path.now ≡ the_word given (codes "PATH")) × AreLinesGiven given listing.lines
    × IsDepthGiven given listing.depth × (is_set (given (codes "slots")) ≡ false) × (is_set (given (codes "unsound")) ≡ true)
    × (goes_below listing.depth ≡ false) × IsBadImageGiven given V7 (is_set (given (codes "cut"))) None
IsLookGiven given (looks.ReadUnsound path) = IsOnePathGiven given path.now × (is_set (given (codes "unsound")) ≡ true)
    × IsBadImageGiven given V7 (is_set (given (codes "cut"))) None

-- the words describe this part of an image of which some blocks couldn't be read, and the image; an export of an image that was only cut off isn't
-- one of these (this project)
abbrev pub IsBadLookGiven : Words → Edition → BadImage → BadLook → Type 0
IsBadLookGiven given edition image (bad_looks.Export path options) =
    IsExportGiven given path.now options × IsBadImageGiven given edition false (Some image)
IsBadLookGiven given edition image (bad_looks.Find path name lost form) = (path.now ≡ the_word given (codes "PATH"))
    × (option_map (λ word. word.now) name ≡ slice_get (given (codes "name")) 0) × (lost ≡ is_set (given (codes "lost"))) × IsFormGiven given form
    × IsBadImageGiven given edition (is_set (given (codes "cut"))) (Some image)
IsBadLookGiven given edition image (bad_looks.Sums path form lost) = (path.now ≡ the_word given (codes "PATH")) × IsFormGiven given form
    × (lost ≡ is_set (given (codes "lost"))) × IsBadImageGiven given edition (is_set (given (codes "cut"))) (Some image)
IsBadLookGiven given edition image (bad_looks.Check graded form) = (graded ≡ is_set (given (codes "status"))) × IsFormGiven given form
    × IsBadImageGiven given edition (is_set (given (codes "cut"))) (Some image)
IsBadLookGiven given edition image (bad_looks.Block block form) = IsNumberGiven 4294967295 (the_word given (codes "BLOCK")) block × IsFormGiven given form
    × IsBadImageGiven given edition (is_set (given (codes "cut"))) (Some image)
IsBadLookGiven given edition image (bad_looks.Map picture) = IsPictureGiven given picture × (is_set (given (codes "json")) ≡ false)
    × (slice_get (given (codes "file")) 0 ≡ None) × IsBadImageGiven given edition (is_set (given (codes "cut"))) (Some image)
IsBadLookGiven given edition image bad_looks.Uses = (is_set (given (codes "json")) ≡ true) × (is_set (given (codes "svg")) ≡ false)
    × (slice_get (given (codes "file")) 0 ≡ None) × IsBadImageGiven given edition (is_set (given (codes "cut"))) (Some image)
IsBadLookGiven given edition image (bad_looks.List path listing) = (path.now ≡ the_word given (codes "PATH")) × AreLinesGiven given listing.lines
    × IsDepthGiven given listing.depth × (is_set (given (codes "slots")) ≡ false) × (goes_below listing.depth ≡ false)
    × IsBadImageGiven given edition (is_set (given (codes "cut"))) (Some image)
IsBadLookGiven given edition image (bad_looks.Read path damaged) = IsOnePathGiven given path.now × (damaged ≡ is_set (given (codes "damaged")))
    × IsBadImageGiven given edition (is_set (given (codes "cut"))) (Some image)
IsBadLookGiven given edition image (bad_looks.Body node damaged) = IsNodeGiven (the_word given (codes "INO")) node
    × (damaged ≡ is_set (given (codes "damaged"))) × IsBadImageGiven given edition (is_set (given (codes "cut"))) (Some image)

-- the invocation that shows the same of an image that was read whole (this project)
abbrev pub whole_at : VolumeFile → BadLook → Invocation
whole_at volume (bad_looks.Export path options) = invocations.Look volume (looks.Export path options)
whole_at volume (bad_looks.Find path name lost form) = invocations.Look volume (looks.Find path name lost form)
whole_at volume (bad_looks.Sums path form lost) = invocations.Look volume (looks.Sums path form lost)
whole_at volume (bad_looks.Check graded form) = invocations.Look volume (looks.Check graded form)
whole_at volume (bad_looks.Block block form) = invocations.Look volume (looks.Block block form)
whole_at volume (bad_looks.Map picture) = invocations.Look volume (looks.Map picture None)
whole_at volume bad_looks.Uses = invocations.Look volume looks.Uses
whole_at volume (bad_looks.List path listing) = invocations.Look volume (looks.ListUnsound path listing)
whole_at volume (bad_looks.Read path damaged) = invocations.Look volume (looks.ReadUnsound path)
whole_at volume (bad_looks.Body node damaged) = invocations.Cat volume node

-- the invocation that shows part of an image, of which some blocks may not have been read (this project)
abbrev pub look_at : VolumeFile → BadLook → Option BadImage → Invocation
look_at volume look None = whole_at volume look
look_at volume look (Some image) = invocations.LookBad volume image look

-- the words of `put` for several files, in order (this project)
abbrev pub put_words : Words → List (List ℕ)
put_words given = flat_map given (codes "PATH" ∷ codes "FILE" ∷ codes "NOW" ∷ codes "MORE" ∷ [])

-- the words of `get` for several files, in order (this project)
abbrev pub get_words : Words → List (List ℕ)
get_words given = flat_map given (codes "PATH" ∷ codes "MORE" ∷ [])

-- a list of names, after one more name if there is one (this project)
abbrev pub with_name : Option (List ℕ) → List (List ℕ) → List (List ℕ)
with_name None names = names
with_name (Some name) names = name ∷ names

-- the last names of the paths that have one: `/` and paths that end in `..` have none (std's Path::file_name)
abbrev pub last_names : List (List ℕ) → List (List ℕ)
last_names [] = []
last_names (path ∷ more) = with_name (path_file_name path) (last_names more)

-- no two names are the same (this project)
abbrev pub are_distinct : List (List ℕ) → Bool
are_distinct [] = true
are_distinct (name ∷ more) = not (list_any (λ other. bytes_eq other name) more) && are_distinct more

-- no two paths have the same last name (this project)
abbrev pub are_apart : List (List ℕ) → Bool
are_apart paths = are_distinct (last_names paths)

-- there are two words or more, and the last one is this time (this project)
abbrev pub EndsInMoment : List (List ℕ) → ℕ → Type 0
EndsInMoment words now = (2 ≤ length words) × IsMomentOf (get_or words (length words - 1) []) now

-- these are the files and the time in some words: if there are two words or more and the last one is a time, the words before it are the files, and
-- it is the time's word; otherwise all words are files, and the time is the clock's and has no word (this project)
abbrev pub IsMomentAfter : Option ℕ → List (List ℕ) → List (List ℕ) → ℕ → Option (List ℕ) → Type 0
IsMomentAfter clock words files now word =
    (EndsInMoment words now × (files ≡ take (length words - 1) words) × (word ≡ slice_get words (length words - 1)))
    ⊎ (((moment : ℕ) → EndsInMoment words moment → ⊥) × (files ≡ words) × (clock ≡ Some now) × (word ≡ None))

-- the words are these files, one or more with different last names, and this time, with its word if it has one (this project)
abbrev pub AreFilesGiven : Option ℕ → List (List ℕ) → List (List ℕ) → ℕ → Option (List ℕ) → Type 0
AreFilesGiven clock words files now word = (1 ≤ length files) × (are_apart files ≡ true) × IsMomentAfter clock words files now word

-- the words are these paths, one or more with different last names (this project)
abbrev pub ArePathsGiven : List (List ℕ) → List (List ℕ) → Type 0
ArePathsGiven words paths = (1 ≤ length paths) × (are_apart paths ≡ true) × (paths ≡ words)

-- the words name this file for the list of a volume: the third of them (this project)
abbrev pub IsListGiven : Words → MadeFile → Type 0
IsListGiven given new = IsFirstWord given (codes "MORE") new.path.now × (new.is_new ≡ is_set (given (codes "new")))

-- the words describe this copying (this project)
abbrev pub IsCopyGiven : Option ℕ → Words → Copying → Type 0
IsCopyGiven clock given (copies.Put directory files keep owner now trace) = IsNonEmptyWord given (codes "target-directory") directory.now
    × AreFilesGiven clock (put_words given) (map (λ file. file.now) files.items) now.seconds (option_map (λ word. word.now) now.word)
    × IsKeepGiven given keep × IsOwnerGiven (given (codes "owner")) owner × (trace ≡ is_set (given (codes "trace")))
    × (is_set (given (codes "recursive")) ≡ false)
IsCopyGiven clock given (copies.PutTree directory folders keep owner now trace) = IsNonEmptyWord given (codes "target-directory") directory.now
    × AreFilesGiven clock (put_words given) (map (λ folder. folder.now) folders.items) now.seconds (option_map (λ word. word.now) now.word)
    × IsKeepGiven given keep × IsOwnerGiven (given (codes "owner")) owner × (trace ≡ is_set (given (codes "trace")))
    × (is_set (given (codes "recursive")) ≡ true)
IsCopyGiven clock given (copies.Sync directory folder owner now deletes is_trial) = IsPathGiven (given (codes "PATH")) directory.now
    × (folder.now ≡ the_word given (codes "FOLDER")) × IsMomentGiven clock (given (codes "NOW")) now × IsOwnerGiven (given (codes "owner")) owner
    × (deletes ≡ is_set (given (codes "delete"))) × (is_trial ≡ is_set (given (codes "dry-run")))
IsCopyGiven clock given (copies.Get folder paths is_deep keeps) = IsNonEmptyWord given (codes "output") folder.now
    × ArePathsGiven (get_words given) (map (λ path. path.now) paths.items) × (keeps ≡ is_set (given (codes "preserve")))
    × (is_set (given (codes "unsound")) ≡ false) × IsBadImageGiven given V7 (is_set (given (codes "cut"))) None
    × (is_deep ≡ is_set (given (codes "recursive")))
IsCopyGiven clock given (copies.List new) = IsListGiven given new × (is_set (given (codes "list")) ≡ true)

-- the words name the volume of this copying; of a list to write, the edition is the first word (this project)
abbrev pub IsCopyVolume : Words → VolumeFile → Copying → Type 0
IsCopyVolume given volume (copies.Put directory files keep owner now trace) = IsVolumeGiven given volume
IsCopyVolume given volume (copies.PutTree directory folders keep owner now trace) = IsVolumeGiven given volume
IsCopyVolume given volume (copies.Sync directory folder owner now deletes is_trial) = IsVolumeGiven given volume
IsCopyVolume given volume (copies.Get folder paths is_deep keeps) = IsVolumeGiven given volume
IsCopyVolume given volume (copies.List new) = IsVolumeBy given (codes "LIST") volume

-- the words choose this form of a play's results: JSON if that option is given, but not with a trace; else lines, with the trace if that option is given
-- (this project)
abbrev pub IsPlayFormGiven : Words → PlayForm → Type 0
IsPlayFormGiven given (plays.Lines trace) = (is_set (given (codes "json")) ≡ false) × (trace ≡ is_set (given (codes "trace")))
IsPlayFormGiven given plays.Json = (is_set (given (codes "json")) ≡ true) × (is_set (given (codes "trace")) ≡ false)

-- the words ask for JSON and a trace (this project)
abbrev pub IsTraceAsJson : Words → Type 0
IsTraceAsJson given = (is_set (given (codes "json")) ≡ true) × (is_set (given (codes "trace")) ≡ true)

-- the words describe this work with several threads (this project)
abbrev pub IsWorkGiven : Words → Work → Type 0
IsWorkGiven given (works.Check checker workers form) = IsThreadsGiven (the_word given (codes "WORKERS")) workers × IsFormGiven given form
IsWorkGiven given (works.Play scripts journal form) =
    (map (λ script. script.now) scripts.items ≡ given (codes "SCRIPT")) × (1 ≤ length scripts.items) × (length scripts.items ≤ 64)
    × (journal ≡ is_set (given (codes "journal"))) × IsPlayFormGiven given form

-- the words choose how two images are compared: by fields if that option is given, else by tree; and the format (this project)
abbrev pub IsComparisonGiven : Words → Comparison → Type 0
IsComparisonGiven given (comparisons.Tree times form) =
    (is_set (given (codes "fields")) ≡ false) × (times ≡ is_set (given (codes "times"))) × IsFormGiven given form
IsComparisonGiven given (comparisons.Fields all form) =
    (is_set (given (codes "fields")) ≡ true) × (all ≡ is_set (given (codes "all"))) × IsFormGiven given form

-- this file was named for a rescue; or none was (this project)
abbrev pub IsRescueGiven : List (List ℕ) → Option (List ℕ) → Type 0
IsRescueGiven words rescue = (rescue ≡ slice_get words 0) × IsPathWord words

-- the words choose how the volume is served: read-only if that option is given; and the file for a rescue, which may be left out (this project)
abbrev pub IsServingGiven : Words → Serving → Type 0
IsServingGiven given servings.ReadOnly = (is_set (given (codes "read-only")) ≡ true) × IsPathWord (given (codes "rescue"))
IsServingGiven given (servings.Changes is_mine rescue) = (is_set (given (codes "read-only")) ≡ false) × (is_mine ≡ is_set (given (codes "mine")))
    × IsRescueGiven (given (codes "rescue")) (option_map (λ word. word.now) rescue)

-- the words describe this invocation (this project)
abbrev pub IsGiven : Option ℕ → Words → Invocation → Type 0
IsGiven clock given (invocations.Cat volume node) = IsVolumeGiven given volume × IsNodeGiven (the_word given (codes "INO")) node
    × IsBadImageGiven given V7 (is_set (given (codes "cut"))) None
IsGiven clock given (invocations.Mkfs place volume) = IsNewPlaceGiven given place × IsNewVolumeGiven clock given volume
IsGiven clock given (invocations.Migrate old at new migration) = (old.now ≡ the_word given (codes "OLD"))
    × IsMadeGiven given (codes "NEW") new × IsMigrationGiven clock given migration × IsAtGiven given at
IsGiven clock given (invocations.Build list new) = (list.now ≡ the_word given (codes "LIST")) × IsMadeGiven given (codes "IMAGE") new
    × IsLeftOut given (codes "MORE") × IsLeftOut given (codes "at") × (is_set (given (codes "list")) ≡ false)
IsGiven clock given (invocations.Get volume path) =
    IsVolumeGiven given volume × IsOnePathGiven given path.now × (is_set (given (codes "unsound")) ≡ false)
    × IsBadImageGiven given V7 (is_set (given (codes "cut"))) None
IsGiven clock given (invocations.Salvage volume None) = IsVolumeGiven given volume × (is_set (given (codes "dry-run")) ≡ true)
IsGiven clock given (invocations.Salvage volume (Some copy)) = IsVolumeGiven given volume × (is_set (given (codes "dry-run")) ≡ false)
    × IsFirstWord given (codes "output") copy.now
IsGiven clock given (invocations.Repair volume copy repairing) =
    IsRepairGiven clock given volume copy repairing × IsBadImageGiven given V7 (is_set (given (codes "cut"))) None
IsGiven clock given (invocations.RepairBad volume image copy repairing) =
    IsRepairGiven clock given volume copy repairing × IsBadImageGiven given volume.edition (is_set (given (codes "cut"))) (Some image)
IsGiven clock given (invocations.Resize volume blocks is_trial) = IsVolumeGiven given volume
    × IsNumberGiven 4294967295 (the_word given (codes "BLOCKS")) blocks × (is_trial ≡ is_set (given (codes "dry-run")))
IsGiven clock given (invocations.Change volume change trace) =
    IsVolumeGiven given volume × IsChangeGiven clock given change × IsTraceGiven given change trace
IsGiven clock given (invocations.Look volume look) = IsVolumeGiven given volume × IsLookGiven given look
IsGiven clock given (invocations.LookBad volume image look) = IsVolumeGiven given volume × IsBadLookGiven given volume.edition image look
IsGiven clock given (invocations.Copy volume copying) = IsCopyVolume given volume copying × IsCopyGiven clock given copying
IsGiven clock given (invocations.Work volume work) = IsVolumeGiven given volume × IsWorkGiven given work
IsGiven clock given (invocations.Serve volume serving) = IsVolumeGiven given volume × IsServingGiven given serving
IsGiven clock given (invocations.Diff volume other by) =
    IsVolumeGiven given volume × (other.now ≡ the_word given (codes "OTHER")) × IsComparisonGiven given by
IsGiven clock given (invocations.Identify images form is_deep) = (map (λ image. image.now) images.items ≡ given (codes "IMAGE")) × IsGuessFormGiven given form
    × (is_deep ≡ is_set (given (codes "recursive")))

-- the command, with the words for its arguments, is read as this invocation (this project)
abbrev pub AsksFor : Option ℕ → Verb → Words → Invocation → Type 0
AsksFor clock verb given invocation = (verb ≡ verb_of invocation) × IsGiven clock given invocation

-- the command, with the words for its arguments, isn't read as any invocation (this project)
unfoldable pub AsksForNothing : Option ℕ → Verb → Words → Type 0
AsksForNothing clock verb given = (invocation : Invocation) → AsksFor clock verb given invocation → ⊥

-- the command of this name, with the words for its arguments, is read as this invocation (this project)
abbrev pub NameAsksFor : Option ℕ → List ℕ → Words → Invocation → Type 0
NameAsksFor clock name given invocation = (name ≡ verb_name (verb_of invocation)) × IsGiven clock given invocation

-- memory ran out; or the fault names a word that isn't valid, and `wrong` holds (this project)
abbrev pub TellsOf : Type 0 → WordFault → Type 0
TellsOf wrong faults.NoMemory = Unit {0}
TellsOf wrong (faults.Wrong word) = wrong

-- the fault names a word that isn't valid (this project)
abbrev pub IsWrong : WordFault → Type 0
IsWrong faults.NoMemory = ⊥
IsWrong (faults.Wrong word) = Unit {0}

-- the number of threads, or of scripts, is 1 to 64 (this project)
abbrev pub IsWorkable : Work → Type 0
IsWorkable (works.Check checker workers form) = (1 ≤ workers) × (workers ≤ 64)
IsWorkable (works.Play scripts journal form) = (1 ≤ length scripts.items) × (length scripts.items ≤ 64)
