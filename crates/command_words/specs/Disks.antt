-- Sizes of new volumes, as numbers and as names of disks.
use Rattle.std.specs.Prelude.{◌≡◌, ◌⊎◌, ℕ, List, Some}
use Rattle.disk_sizes.specs.Disks.{disk_blocks}
use Rattle.command_words.specs.Decimal.{IsNumberGiven}

-- the text is this number, or the name of a disk with that many blocks (this project)
abbrev pub AreBlocksOf : List ℕ → ℕ → Type 0
AreBlocksOf text blocks = IsNumberGiven 4294967295 text blocks ⊎ (disk_blocks text ≡ Some blocks)
