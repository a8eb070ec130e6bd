-- The outcome of each rule.
use Rattle.std.specs.Prelude.{◌≡◌, ◌⊎◌, ℕ, true, List, Option, None, Some}
use Rattle.vol_layout.specs.Geometry.{geometry_of}
use Rattle.vol_free.specs.Stack.{HasStack}
use Rattle.vol_file.specs.Rules.{HasKinds, HasSizes, IsZoned, IsApart}
use Rattle.vol_dir.specs.Entries.{HasEntries}
use Rattle.vol_judge.specs.Directories.{HasDots, IsTree, HasLinks}
use Rattle.vol_judge.specs.Sound.{Rule, IsNoneLost}
use Rattle.vol_layout.specs.declared.edition.Edition.{Edition}
use Rattle.vol_layout.specs.declared.geometry.Geometry.{Geometry}
use Rattle.vol_judge.specs.Dots.{IsFirstDots}
use Rattle.vol_judge.specs.Entries.{IsFirstEntry}
use Rattle.vol_judge.specs.FreeList.{IsFirstFault}
use Rattle.vol_judge.specs.INodes.{IsFirstKind, IsFirstSize}
use Rattle.vol_judge.specs.Links.{IsFirstLink}
use Rattle.vol_judge.specs.Lost.{IsFirstUncovered}
use Rattle.vol_judge.specs.SharedBlocks.{IsUsedOnce, IsFirstTwice}
use Rattle.vol_judge.specs.DirectoryTree.{IsFirstTree}
use Rattle.vol_judge.specs.OutsideBlocks.{IsFirstOutside}
use Rattle.vol_judge.specs.declared.finding.Finding.{Finding}
use Rattle.vol_judge.specs.declared.finding.Finding.TheVariants.{TooShort, BadSizes}
use Rattle.vol_findings.specs.declared.blocks.BlockOutcomes.{BlockOutcomes}
use Rattle.vol_findings.specs.declared.outcome.RuleOutcome.{RuleOutcome}
use Rattle.vol_findings.specs.declared.outcome.RuleOutcome.TheVariants.{Holds, Broken, NotAsked, Lost, Unbroken}
use Rattle.vol_findings.specs.declared.outcome.RuleOutcomes.{RuleOutcomes}

-- an outcome for an image of which no block is lost is right: the rule isn't checked if and only if there is a reason not to; otherwise it holds, or the
-- outcome has its first violation (this project)
abbrev pub Says : Type 0 → (Finding → Type 0) → Type 0 → RuleOutcome → Type 0
Says rule first reason Holds = rule × (reason → ⊥)
Says rule first reason (Broken finding) = first finding × (rule → ⊥) × (reason → ⊥)
Says rule first reason NotAsked = reason
Says rule first reason (Lost count number) = ⊥
Says rule first reason Unbroken = ⊥

-- the outcome of a rule, from the result of a search for its first violation (this project)
abbrev pub outcome_of : Option Finding → RuleOutcome
outcome_of None = Holds
outcome_of (Some finding) = Broken finding

-- the reason not to check rule 7: rule 5 fails, or rule 6 fails and no two block-map positions point to one block (this project)
abbrev pub IsTwiceUnasked : Geometry → List ℕ → Type 0
IsTwiceUnasked geometry image = (IsZoned geometry image → ⊥) ⊎ (IsApart geometry image × (HasStack geometry image → ⊥))

-- the outcomes of the rules about blocks of a volume whose geometry is known (this project)
pub record TellsBlocks (geometry : Geometry) (image : List ℕ) (found : BlockOutcomes) : Type 0 where
  pub zoned : Says (IsZoned geometry image) (IsFirstOutside geometry image) ⊥ found.zoned
  pub listed : Says (HasStack geometry image) (IsFirstFault geometry image) ⊥ found.listed
  pub apart : Says (IsUsedOnce geometry image) (IsFirstTwice geometry image) (IsTwiceUnasked geometry image) found.apart
  pub covered : Says (IsNoneLost geometry image) (IsFirstUncovered geometry image) (HasStack geometry image → ⊥) found.covered

-- the outcomes of the rules of a volume whose geometry is known: rule 7 isn't checked for the reason above, rule 8 if 6 fails, and rule 10 if 9 fails
-- (this project)
pub record TellsVolume (geometry : Geometry) (image : List ℕ) (found : RuleOutcomes) : Type 0 where
  pub whole : found.whole ≡ Holds
  pub bounded : found.bounded ≡ Holds
  pub kinds : Says (HasKinds geometry image) (IsFirstKind geometry image) ⊥ found.kinds
  pub sizes : Says (HasSizes geometry image) (IsFirstSize geometry image) ⊥ found.sizes
  pub zoned : Says (IsZoned geometry image) (IsFirstOutside geometry image) ⊥ found.zoned
  pub listed : Says (HasStack geometry image) (IsFirstFault geometry image) ⊥ found.listed
  pub apart : Says (IsUsedOnce geometry image) (IsFirstTwice geometry image) (IsTwiceUnasked geometry image) found.apart
  pub covered : Says (IsNoneLost geometry image) (IsFirstUncovered geometry image) (HasStack geometry image → ⊥) found.covered
  pub entries : Says (HasEntries geometry image) (IsFirstEntry geometry image) ⊥ found.entries
  pub dots : Says (HasDots geometry image) (IsFirstDots geometry image) (HasEntries geometry image → ⊥) found.dots
  pub tree : Says (IsTree geometry image) (IsFirstTree geometry image) ⊥ found.tree
  pub links : Says (HasLinks geometry image) (IsFirstLink geometry image) ⊥ found.links

-- an image keeps rule `n` (this project)
abbrev pub Keeps : Edition → List ℕ → ℕ → Type 0
Keeps edition image n = Rule true edition image n

-- the image has a geometry: rules 1 and 2 hold (this project)
abbrev pub HasGeometry : Edition → List ℕ → Type 0
HasGeometry edition image = Keeps edition image 1 × Keeps edition image 2

-- the outcomes of the twelve rules of an image: a rule isn't checked if and only if a rule that it needs fails; rule 7 needs rule 6 only if no two
-- block-map positions point to one block (this project)
pub record Tells (edition : Edition) (image : List ℕ) (found : RuleOutcomes) : Type 0 where
  pub whole : Says (Keeps edition image 1) (λ finding. finding ≡ TooShort) ⊥ found.whole
  pub bounded : Says (Keeps edition image 2) (λ finding. finding ≡ BadSizes) (Keeps edition image 1 → ⊥) found.bounded
  pub kinds : Says (Keeps edition image 3) (IsFirstKind (geometry_of edition image) image) (HasGeometry edition image → ⊥) found.kinds
  pub sizes : Says (Keeps edition image 4) (IsFirstSize (geometry_of edition image) image) (HasGeometry edition image → ⊥) found.sizes
  pub zoned : Says (Keeps edition image 5) (IsFirstOutside (geometry_of edition image) image) (HasGeometry edition image → ⊥) found.zoned
  pub listed : Says (Keeps edition image 6) (IsFirstFault (geometry_of edition image) image) (HasGeometry edition image → ⊥) found.listed
  pub apart : Says (Keeps edition image 7) (IsFirstTwice (geometry_of edition image) image)
      ((HasGeometry edition image × Keeps edition image 5 → ⊥)
      ⊎ (IsApart (geometry_of edition image) image × (Keeps edition image 6 → ⊥))) found.apart
  pub covered : Says (Keeps edition image 8) (IsFirstUncovered (geometry_of edition image) image)
      (HasGeometry edition image × Keeps edition image 6 → ⊥) found.covered
  pub entries : Says (Keeps edition image 9) (IsFirstEntry (geometry_of edition image) image) (HasGeometry edition image → ⊥) found.entries
  pub dots : Says (Keeps edition image 10) (IsFirstDots (geometry_of edition image) image)
      (HasGeometry edition image × Keeps edition image 9 → ⊥) found.dots
  pub tree : Says (Keeps edition image 11) (IsFirstTree (geometry_of edition image) image) (HasGeometry edition image → ⊥) found.tree
  pub links : Says (Keeps edition image 12) (IsFirstLink (geometry_of edition image) image) (HasGeometry edition image → ⊥) found.links
