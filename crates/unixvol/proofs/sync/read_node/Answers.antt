use Rattle.std.proofs.Common.{refl, subst, sym}
use Rattle.command_changes.specs.declared.sync.TreeNode.TheVariants as nodes
use Rattle.host_files.specs.declared.folders.FoundKind.{FoundKind}
use Rattle.unixvol.specs.Runs.{GavePut}
use Rattle.unixvol.specs.Syncs.{IsNodeGiven}
use Rattle.unixvol.proofs.sync.read_node.Goals as goal

pub returns-in_ok-read_given-in-File-clause-read : goal.returns-in_ok-read_given-in-File-clause-read
returns-in_ok-read_given-in-File-clause-read g c =
    subst (λ (kind : FoundKind). IsNodeGiven (GavePut c.args.edition g.R.File.Read.remaining) c.args.keep kind (nodes.File c.in_ok-read_given-in-File.field-0)) (sym c.in-File.is)
    (c.in_ok-read_given-in-File.field-0, (c.in_ok-read_given-in-File.ensures.given, c.in_ok-read_given-in-File.ensures.kept), refl)
