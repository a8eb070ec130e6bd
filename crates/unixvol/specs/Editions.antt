-- The edition of a volume for the word `any`.
use Rattle.std.specs.Prelude.{◌≡◌, ◌⊎◌, ℕ, true, false, List, Option, None, Some, Result, Ok, Err}
use Rattle.clap.specs.declared.error.Error.{Error}
use Rattle.command_line.specs.CommandLine.{IsRead, IsRefused}
use Rattle.command_words.specs.Invocations.{volume_of, with_volume}
use Rattle.command_words.specs.declared.invocation.Invocation.{Invocation}
use Rattle.command_words.specs.declared.invocation.VolumeFile.{VolumeFile}
use Rattle.pack_files.specs.Verdicts.{AreVerdicts, only_sound}
use Rattle.pack_files.specs.declared.verdicts.Verdicts.{Verdicts}
use Rattle.vol_layout.specs.declared.edition.Edition.{Edition}

-- the volume at this block of some file was judged as one of each edition, and is sound as one of this edition only (this project)
abbrev pub IsFoundEdition : {F : Type 0} → (F → Option (List ℕ)) → ℕ → Edition → Type 0
IsFoundEdition remaining at edition = (verdicts : Verdicts) × AreVerdicts remaining at verdicts × (only_sound verdicts ≡ Some edition)

-- a volume with this edition, which isn't open any more (this project)
abbrev pub with_edition : VolumeFile → Edition → VolumeFile
with_edition volume edition = record { edition = edition; is_any = false; image = volume.image; at = volume.at }

-- a volume whose edition is named stays; one whose edition is open gets the only one of which it is sound (this project)
abbrev pub IsVolumeSettled : {F : Type 0} → (F → Option (List ℕ)) → VolumeFile → VolumeFile → Type 0
IsVolumeSettled remaining asked found =
    ((asked.is_any ≡ false) × (found ≡ asked))
    ⊎ ((asked.is_any ≡ true) × (edition : Edition) × IsFoundEdition remaining asked.at edition × (found ≡ with_edition asked edition))

-- a command is on the volume that its words name, with the edition found; a command whose words name no volume's edition stays (this project)
abbrev pub IsSettled : {F : Type 0} → (F → Option (List ℕ)) → Invocation → Invocation → Type 0
IsSettled remaining asked settled =
    ((volume_of asked ≡ None) × (settled ≡ asked))
    ⊎ ((volume : VolumeFile) × (found : VolumeFile) × (volume_of asked ≡ Some volume) × IsVolumeSettled remaining volume found
    × (settled ≡ with_volume asked found))

-- the words are read as a command, and this is the command with the edition found; or they are refused (this project)
abbrev pub ReadsSettled : {F : Type 0} → (F → Option (List ℕ)) → Option ℕ → List (List ℕ) → Result Invocation Error → Type 0
ReadsSettled remaining clock words (Ok settled) = (asked : Invocation) × IsRead clock words asked × IsSettled remaining asked settled
ReadsSettled remaining clock words (Err error) = IsRefused clock words error

-- the status of a fault: 1, 3 or 4 (this project)
abbrev pub IsFault : ℕ → Type 0
IsFault status = (status ≡ 1) ⊎ (status ≡ 3) ⊎ (status ≡ 4)
