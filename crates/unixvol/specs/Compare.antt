-- `diff`: the files that it reads, and its result.
use Rattle.std.specs.Prelude.{◌≡◌, ◌⊎◌, ℕ, ◌≤◌, List, [], Option}
use Rattle.command_faults.specs.Streams.{Streams}
use Rattle.command_reads.specs.Comparison.{ShowsComparison}
use Rattle.command_reads.specs.TreeDiff.{AreRemarks}
use Rattle.command_terms.specs.declared.comparison.Comparison.{Comparison}
use Rattle.command_terms.specs.declared.comparison.Comparison.TheVariants as comparisons
use Rattle.command_reads.specs.declared.diff.NamedImage.{NamedImage}
use Rattle.command_words.specs.declared.invocation.VolumeFile.{VolumeFile}
use Rattle.unixvol.specs.Exits.{Exits, ToEnd}
use Rattle.unixvol.specs.Runs.{HostFiles, RunsNothing}

-- `diff` runs: nothing is done, as one of the files can't be read; or both images are read, and their differences are shown (this project)
abbrev pub RunsDiff : Streams → HostFiles → VolumeFile → List ℕ → Comparison → ℕ → Type 0
RunsDiff streams files volume other by status =
    RunsNothing streams files status
    ⊎ ((old : NamedImage) × (new : NamedImage) × files.shown volume.edition old.bytes.items × files.shown volume.edition new.bytes.items
    × (old.name.now ≡ volume.image.now) × (new.name.now ≡ other) × ShowsComparison volume.edition old new by streams status)

-- the lines of a comparison whose status is 0: by fields none, and by tree those of images that aren't sound (this project)
abbrev pub AreTold : VolumeFile → List ℕ → Comparison → List ℕ → Type 0
AreTold volume other (comparisons.Tree times form) lines =
    (old : List ℕ) × (new : List ℕ) × AreRemarks volume.edition old volume.image.now new other lines
AreTold volume other (comparisons.Fields all form) lines = lines ≡ []

-- `diff` ends with a status of at most 4; if it is 0, no output failed, and nothing was reported but lines of images that aren't sound (this project)
pub record EndsComparison (volume : VolumeFile) (other : List ℕ) (by : Comparison) (streams : Streams) (status : ℕ) : Type 0 where
  pub within : status ≤ 4
  pub whole : status ≡ 0 → (streams.failed ≡ streams.had_failed) × AreTold volume other by streams.lines

-- `diff` runs to its end, as a command that shows part of an image does (this project)
abbrev pub ComparesToEnd : HostFiles → Option (List ℕ) → Option (List ℕ) → VolumeFile → List ℕ → Comparison → ℕ → Type 0
ComparesToEnd files output errors volume other by end =
    ToEnd output errors (λ streams status. RunsDiff streams files volume other by status) (λ streams status. EndsComparison volume other by streams status)
    Exits end
