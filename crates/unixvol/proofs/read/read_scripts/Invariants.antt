use Rattle.std.proofs.Common.{◌≡◌, All, length}
use Rattle.unixvol.specs.Runs.{GaveScript}
use Rattle.unixvol.proofs.read.read_scripts.Given as goal

-- Invariant: the scripts so far were read from files, one for each path so far.
abbrev pub invariant-scripts : goal.invariant-scripts
invariant-scripts g l = All (λ script. GaveScript g.R.File.Read.remaining script.items) l.scripts.items × (length l.scripts.items ≡ l.path-index)
