use Rattle.std.proofs.Common.{◌*◌, List, ℕ, subst}
use Rattle.host_files.specs.ReadParts.{IsReadOn}
use Rattle.unixvol.proofs.read.read_blocks.Goals as goal

pub returns-clause-given : goal.returns-clause-given
returns-clause-given g c =
    let remaining = g.R.File.Read.remaining in
    let all = c.in_ok-read.read in
    let read = subst (λ file. IsReadOn (remaining file) (remaining all.file) c.unread.result.bytes.items all.bytes.items (512 * c.args.blocks)) c.unread.ensures.file
    c.in_ok-read.ensures.given in
    let front = subst (λ (before : List ℕ). IsReadOn (remaining c.in_ok-moved.moved) (remaining all.file) before all.bytes.items (512 * c.args.blocks))
    c.unread.ensures.bytes read in
    (_, _, _, c.in_ok-moved.ensures.moved, front)
