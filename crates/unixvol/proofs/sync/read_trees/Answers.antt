use Rattle.std.proofs.Common.{arith}
use Rattle.unixvol.specs.Runs.{GavePut}
use Rattle.unixvol.specs.Syncs.{AddsTree}
use Rattle.unixvol.proofs.Synced.{next_path}
use Rattle.unixvol.proofs.sync.read_trees.Goals as goal

pub folders-preserved : goal.folders-preserved
folders-preserved g c =
    next_path (AddsTree (GavePut c.args.edition g.R.File.Read.remaining) g.R.ImageFiles.listed c.args.keep) _ c.args.folders.now c.folders.folder-index _ _ _
    (omega arith) c.folders.invariant (c.in_ok-more.more.items, (rw c.name_of.ensures at c.in_ok-more.ensures.read), c.in-Ok.ensures.items)
