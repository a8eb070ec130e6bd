-- The command that shows how two images differ.
use Rattle.std.specs.Prelude.{ℕ}
use Rattle.vol_layout.specs.declared.edition.Edition.{Edition}
use Rattle.command_faults.specs.Streams.{Streams}
use Rattle.command_reads.specs.Diff.{field_differences}
use Rattle.command_reads.specs.Print.{Shows, ShowsInPieces}
use Rattle.command_reads.specs.TreeDiff.{tree_differences}
use Rattle.command_terms.specs.declared.comparison.Comparison.{Comparison}
use Rattle.command_terms.specs.declared.comparison.Comparison.TheVariants as comparisons
use Rattle.command_reads.specs.declared.diff.NamedImage.{NamedImage}

-- two images are compared in this way: the differences between trees are shown piece by piece, and those between fields as a whole; or a fault is
-- reported (diff)
abbrev pub ShowsComparison : Edition → NamedImage → NamedImage → Comparison → Streams → ℕ → Type 0
ShowsComparison edition old new (comparisons.Tree times form) streams status = ShowsInPieces (tree_differences edition old new times form) streams status
ShowsComparison edition old new (comparisons.Fields all form) streams status = Shows (field_differences edition old new all form) streams status
