-- What can be said of the rules of soundness for an image with lost blocks, whatever these held.
use Rattle.std.specs.Prelude.{◌≡◌, ℕ, ◌&&◌, Bool, true, false, not, if◌then◌else◌, List, Option, None, Some, Result, Ok, Err}
use Rattle.std.specs.List.{count_by, position}
use Rattle.std.specs.Option.{unwrap_or}
use Rattle.vol_layout.specs.Edition.{constants}
use Rattle.vol_layout.specs.Geometry.{Fits, geometry_read}
use Rattle.vol_layout.specs.declared.edition.Edition.{Edition}
use Rattle.vol_layout.specs.declared.geometry.Geometry.{Geometry}
use Rattle.vol_layout.specs.declared.geometry.GeometryFault.{GeometryFault}
use Rattle.vol_file.specs.Rules.{HasKinds, HasSizes}
use Rattle.vol_dir.specs.Entries.{HasEntries, entry_at}
use Rattle.vol_dir.specs.Tree.{is_number}
use Rattle.vol_losses.specs.Losses.{AgreesOutside, is_lost, is_whole, node_block}
use Rattle.vol_archive.specs.Export.{is_directory}
use Rattle.vol_judge.specs.declared.finding.Finding.{Finding}
use Rattle.vol_judge.specs.declared.finding.Finding.TheVariants as findings
use Rattle.vol_findings.specs.Outcomes.{Tells}
use Rattle.vol_findings.specs.declared.outcome.RuleOutcome.{RuleOutcome}
use Rattle.vol_findings.specs.declared.outcome.RuleOutcome.TheVariants.{Holds, Broken, NotAsked, Lost, Unbroken}
use Rattle.vol_findings.specs.declared.outcome.RuleOutcomes.{RuleOutcomes}

-- true if i is an i-number of the volume whose i-node isn't lost (this project)
abbrev pub is_known_node : Geometry → List Bool → ℕ → Bool
is_known_node geometry lost i = is_number geometry i && not (is_lost lost (node_block geometry.edition i))

-- true if d is a directory of which nothing is lost (this project)
abbrev pub is_known_directory : Geometry → List ℕ → List Bool → ℕ → Bool
is_known_directory geometry image lost d = is_directory geometry image d && is_whole geometry image lost d

-- true if an entry is for an i-number of the volume whose i-node isn't lost (this project)
abbrev pub is_known_number : Geometry → List Bool → Option (List ℕ × ℕ) → Bool
is_known_number geometry lost None = false
is_known_number geometry lost (Some entry) = is_known_node geometry lost entry.1

-- true if slot s of directory d has an entry for an i-number of the volume whose i-node isn't lost (this project)
abbrev pub is_known_entry : Geometry → List ℕ → List Bool → ℕ → ℕ → Bool
is_known_entry geometry image lost d s = is_directory geometry image d && is_known_number geometry lost (entry_at geometry image d s)

-- true if what a finding of rule 3, 4 or 9 rests on isn't lost: an i-node; or a directory, and the i-node of an entry in it (this project)
abbrev pub is_known : Geometry → List ℕ → List Bool → Finding → Bool
is_known geometry image lost (findings.OddMode i) = is_known_node geometry lost i
is_known geometry image lost (findings.TooLarge i) = is_known_node geometry lost i
is_known geometry image lost (findings.TooManyLinks i) = is_known_node geometry lost i
is_known geometry image lost findings.RootKind = is_known_node geometry lost (constants geometry.edition).root
is_known geometry image lost findings.BadBlocksKind = is_known_node geometry lost 1
is_known geometry image lost (findings.PartSlot d) = is_known_directory geometry image lost d
is_known geometry image lost (findings.NoName d s) = is_known_directory geometry image lost d
is_known geometry image lost (findings.Slash d s) = is_known_directory geometry image lost d
is_known geometry image lost (findings.BadNumber d s) = is_known_directory geometry image lost d
is_known geometry image lost (findings.SameName d s) = is_known_directory geometry image lost d
is_known geometry image lost (findings.FreeInode d s) = is_known_directory geometry image lost d && is_known_entry geometry image lost d s
is_known geometry image lost _ = false

-- the outcome of a rule, if the image with zeros in its lost blocks has this one, and no violation counts (this project)
abbrev pub left_outcome : RuleOutcome → RuleOutcome
left_outcome Holds = Unbroken
left_outcome _ = NotAsked

-- the outcome of a rule, if the image with zeros in its lost blocks has this one: a violation that rests on no lost block counts (this project)
abbrev pub known_outcome : Geometry → List ℕ → List Bool → RuleOutcome → RuleOutcome
known_outcome geometry image lost (Broken finding) = if is_known geometry image lost finding then Broken finding else NotAsked
known_outcome geometry image lost Holds = Unbroken
known_outcome geometry image lost _ = NotAsked

-- the outcome of rule 1: how many blocks are lost, and the first of them (this project)
abbrev pub lost_outcome : List Bool → RuleOutcome
lost_outcome lost = Lost (count_by (λ mark. mark) lost) (unwrap_or (position (λ mark. mark) lost) 0)

-- the outcome of rule 2, which rests on the super-block, block 1 (manual section 5, file system)
abbrev pub known_bounds : List Bool → RuleOutcome → RuleOutcome
known_bounds lost bounded = if is_lost lost 1 then NotAsked else bounded

-- the outcomes of an image with a geometry; rules 8 and 10 to 12 speak of what isn't there (this project)
abbrev pub known_volume : Geometry → List ℕ → List Bool → RuleOutcomes → RuleOutcomes
known_volume geometry image lost found = record {
  whole = found.whole;
  bounded = found.bounded;
  kinds = known_outcome geometry image lost found.kinds;
  sizes = known_outcome geometry image lost found.sizes;
  zoned = left_outcome found.zoned;
  listed = left_outcome found.listed;
  apart = left_outcome found.apart;
  covered = NotAsked;
  entries = known_outcome geometry image lost found.entries;
  dots = NotAsked;
  tree = NotAsked;
  links = NotAsked;
}

-- the outcomes of an image, of rules 3 to 12 if it has a geometry (this project)
abbrev pub known_of : List ℕ → List Bool → RuleOutcomes → Result Geometry GeometryFault → RuleOutcomes
known_of image lost found (Ok geometry) = known_volume geometry image lost found
known_of image lost found (Err fault) = found

-- what the outcomes of the rules for an image in which lost blocks are zeros say of the image as it was (this project)
abbrev pub known_outcomes : Edition → List ℕ → List Bool → RuleOutcomes → RuleOutcomes
known_outcomes edition image lost found =
    known_of image lost (record found { whole = lost_outcome lost; bounded = known_bounds lost found.bounded }) (geometry_read edition image)

-- a violation of rule 3, 4 or 9 that is named, and no other is, breaks the rule in every image that agrees outside the lost blocks, whatever these held (this
-- project's law)
abbrev pub KnownFindingsAreRight : Type 0
KnownFindingsAreRight = (edition : Edition) (geometry : Geometry) (lost : List Bool) (old new : List ℕ) (found : RuleOutcomes) (finding : Finding)
    → geometry_read edition old ≡ Ok geometry → Fits geometry old → AgreesOutside geometry lost old new → Tells edition old found
    → let known = known_outcomes edition old lost found in
    (known.kinds ≡ Broken finding → HasKinds geometry new → ⊥)
    × (known.sizes ≡ Broken finding → HasSizes geometry new → ⊥)
    × (known.entries ≡ Broken finding → HasEntries geometry new → ⊥)
