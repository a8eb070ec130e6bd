-- What changes need besides the image.
use Rattle.command_terms.specs.declared.changes.Change.{Change}
use Rattle.command_terms.specs.declared.changes.Change.TheVariants as changes
use Rattle.command_terms.specs.declared.changes.Needs.{Needs}
use Rattle.command_terms.specs.declared.changes.Needs.TheVariants as needs
use Rattle.command_terms.specs.declared.options.Keep.TheVariants as keeps

-- what a change needs: `put` and `boot` their file, `import` an archive, and all others nothing (this project)
abbrev pub needs_of : Change → Needs
needs_of (changes.Put path file keep owner now) = needs.File file keep
needs_of (changes.Boot file) = needs.File file keeps.Nothing
needs_of (changes.Import path options now) = needs.Archive
needs_of _ = needs.Nothing
