-- At the real system the bytes of a file aren't known, so the clause says only that it doesn't contradict.
use Rattle.std.proofs.Common.{replicate}
use Rattle.std.proofs.lemmas.List.{length-replicate}
use Rattle.host_files.proofs.image_file.HostRuntimeImageFiles.pass_over.Goals as goal

pub returns-clause-moved : goal.returns-clause-moved
returns-clause-moved c = (replicate c.args.count 0, tt, length-replicate c.args.count 0)
