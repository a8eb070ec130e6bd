use Rattle.std.proofs.Common.{arith, subst}
use Rattle.host_files.specs.declared.folders.Found.{Found}
use Rattle.unixvol.specs.Runs.{GavePut}
use Rattle.unixvol.specs.Syncs.{AddsMember, IsMemberGiven}
use Rattle.unixvol.proofs.Synced.{next_item}
use Rattle.unixvol.proofs.sync.read_members.Goals as goal

pub members-preserved : goal.members-preserved
members-preserved g c =
    let given = GavePut c.args.edition g.R.File.Read.remaining in
    next_item (AddsMember given c.args.keep c.args.folder.now c.args.prefix.now) _ c.args.found.now c.members.one-index c.one-item.result _ _
    (omega arith) c.members.invariant (
      c.in_ok-member.member,
      subst (λ (found : Found). IsMemberGiven given c.args.keep c.args.folder.now c.args.prefix.now found c.in_ok-member.member) c.one-item.is c.in_ok-member.ensures.read,
      c.in-Ok.ensures.items,
    )
