use Rattle.std.proofs.Common.{arith, refl}
use Rattle.std.proofs.lemmas.List.Elements.{All-push, All-same}
use Rattle.pack_lists.specs.declared.archive.FilledMember.{FilledMember}
use Rattle.unixvol.specs.Builds.{IsContentRead}
use Rattle.unixvol.specs.Runs.{GavePut}
use Rattle.unixvol.proofs.FilledLists.{filled_more}
use Rattle.unixvol.proofs.build.fill_members.Goals as goal

pub members-preserved : goal.members-preserved
members-preserved g c = (
  filled_more c.args.members.now c.members.listed-index _ c.members.filled.items _ _ (omega arith) c.members.invariant.0 c.in-Ok.ensures.items c.listed-item.is,
  All-same (λ (member : FilledMember). IsContentRead (GavePut c.args.edition g.R.File.Read.remaining) member.listed.now member.content.items) _ _ c.in-Ok.ensures.items
      (All-push (λ (member : FilledMember). IsContentRead (GavePut c.args.edition g.R.File.Read.remaining) member.listed.now member.content.items) c.members.filled.items _
      c.members.invariant.1 c.in_ok-content.ensures.read),
)
