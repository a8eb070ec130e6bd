use Rattle.vol_dir.specs.Entries.{HasEntries}
use Rattle.vol_judge.specs.Directories.{HasDots}
use Rattle.vol_judge.specs.Dots.{IsFirstDots}
use Rattle.vol_findings.proofs.OutcomeLaws.{said_as}
use Rattle.vol_findings.proofs.outcome.check_dots.Goals as goal

pub returns-in-Holds : goal.returns-in-Holds
returns-in-Holds c =
    let g = c.args.geometry.now in
    let image = c.args.image.now in
    said_as (HasDots g image) (IsFirstDots g image) (HasEntries g image → ⊥) c.find_dots.result c.of.result (let says = rw c.in-Holds.is at c.requires.entries in λ broken. broken says.0) c.find_dots.ensures c.of.ensures
