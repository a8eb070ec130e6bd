-- The text of findings.
use Rattle.std.specs.Prelude.{ℕ, List, [], ◌++◌, codes, decimal}
use Rattle.vol_free.specs.FreeWalk.{fault_word}
use Rattle.vol_judge.specs.declared.finding.Finding.{Finding}
use Rattle.vol_judge.specs.declared.finding.Finding.TheVariants as findings
use Rattle.vol_findings.specs.declared.outcome.RuleOutcome.{RuleOutcome}
use Rattle.vol_findings.specs.declared.outcome.RuleOutcome.TheVariants.{Holds, Broken, NotAsked, Lost, Unbroken}
use Rattle.vol_findings.specs.declared.texts.Spot.{Spot}
use Rattle.vol_findings.specs.declared.texts.Spot.TheVariants as spots

-- the words for a finding (this project)
abbrev pub words_of : Finding → List ℕ
words_of findings.TooShort = codes "the image is too short"
words_of findings.BadSizes = codes "the sizes are no volume's"
words_of (findings.OddMode i) = codes "an odd mode"
words_of findings.RootKind = codes "the root is no directory"
words_of findings.BadBlocksKind = codes "i-node 1 is neither free nor a file"
words_of (findings.TooLarge i) = codes "too large"
words_of (findings.TooManyLinks i) = codes "too many links"
words_of (findings.OutOfZone i n) = codes "no data block"
words_of (findings.FreeList fault n) = fault_word fault
words_of (findings.Twice i b) = codes "named twice"
words_of (findings.UsedAndFree b) = codes "named and free"
words_of (findings.Lost b) = codes "neither named nor free"
words_of (findings.PartSlot d) = codes "part of a slot"
words_of (findings.NoName d s) = codes "no name"
words_of (findings.Slash d s) = codes "a slash in a name"
words_of (findings.BadNumber d s) = codes "no i-number of the volume"
words_of (findings.FreeInode d s) = codes "a free i-node"
words_of (findings.SameName d s) = codes "a name that comes before"
words_of (findings.NoDot d) = codes "no . for itself"
words_of (findings.NoDotDot d) = codes "no .. for its parent"
words_of (findings.RootEntered d s) = codes "an entry for the root"
words_of (findings.EnteredTwice d s) = codes "a second entry for a directory"
words_of (findings.Unreached d) = codes "not reached from the root"
words_of (findings.BadLinks i entries links) = codes "a wrong link count"

-- the position of a finding (this project)
abbrev pub spot_of : Finding → Spot
spot_of findings.TooShort = spots.Image
spot_of findings.BadSizes = spots.Image
spot_of (findings.OddMode i) = spots.Inode i
spot_of findings.RootKind = spots.Image
spot_of findings.BadBlocksKind = spots.Image
spot_of (findings.TooLarge i) = spots.Inode i
spot_of (findings.TooManyLinks i) = spots.Inode i
spot_of (findings.OutOfZone i n) = spots.Number i n
spot_of (findings.FreeList fault n) = spots.Count n
spot_of (findings.Twice i b) = spots.BlockOf i b
spot_of (findings.UsedAndFree b) = spots.Block b
spot_of (findings.Lost b) = spots.Block b
spot_of (findings.PartSlot d) = spots.Directory d
spot_of (findings.NoName d s) = spots.Slot d s
spot_of (findings.Slash d s) = spots.Slot d s
spot_of (findings.BadNumber d s) = spots.Slot d s
spot_of (findings.FreeInode d s) = spots.Slot d s
spot_of (findings.SameName d s) = spots.Slot d s
spot_of (findings.NoDot d) = spots.Directory d
spot_of (findings.NoDotDot d) = spots.Directory d
spot_of (findings.RootEntered d s) = spots.Slot d s
spot_of (findings.EnteredTwice d s) = spots.Slot d s
spot_of (findings.Unreached d) = spots.Directory d
spot_of (findings.BadLinks i entries links) = spots.Links i entries links

-- the text of a position, after the words of its finding (this project)
abbrev pub spot_text : Spot → List ℕ
spot_text spots.Image = []
spot_text (spots.Inode i) = codes ": i-node " ++ decimal i
spot_text (spots.Number i n) = codes ": i-node " ++ (decimal i ++ (codes ", number " ++ decimal n))
spot_text (spots.Count n) = codes ": " ++ decimal n
spot_text (spots.BlockOf i b) = codes ": i-node " ++ (decimal i ++ (codes ", block " ++ decimal b))
spot_text (spots.Block b) = codes ": block " ++ decimal b
spot_text (spots.Directory d) = codes ": directory " ++ decimal d
spot_text (spots.Slot d s) = codes ": directory " ++ (decimal d ++ (codes ", slot " ++ decimal s))
spot_text (spots.Links i entries links) =
    codes ": i-node " ++ (decimal i ++ (codes ", entries " ++ (decimal entries ++ (codes ", links " ++ decimal links))))

-- the text of a number of lost blocks, and the first of them (this project)
unfoldable pub lost_text : ℕ → ℕ → List ℕ
lost_text count first = decimal count ++ (codes " blocks are lost, the first is " ++ decimal first)

-- the text of an outcome: that the rule holds; its violation, with the position; that the rule isn't checked; that blocks are lost; or that what is left
-- doesn't break the rule (this project)
abbrev pub outcome_text : RuleOutcome → List ℕ
outcome_text Holds = codes "holds"
outcome_text (Broken finding) = words_of finding ++ spot_text (spot_of finding)
outcome_text NotAsked = codes "not asked"
outcome_text (Lost count first) = lost_text count first
outcome_text Unbroken = codes "not broken by what is left"
