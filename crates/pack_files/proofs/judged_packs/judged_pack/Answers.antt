use Rattle.std.proofs.Common.{subst}
use Rattle.pack_files.specs.PackFiles.{AreJudged, FindsPack}
use Rattle.pack_files.proofs.judged_packs.judged_pack.Goals as goal

pub returns-in_ok-judged_parts-in-Some : goal.returns-in_ok-judged_parts-in-Some
returns-in_ok-judged_parts-in-Some g c =
    let remaining = g.R.File.Read.remaining in (
      c.in-Some.parts,
      subst (FindsPack remaining g.R.ImageFiles.had g.R.ImageFiles.stood) c.in-Some.is c.in_ok-parts.ensures,
      subst (λ parts. AreJudged remaining parts c.in_ok-judged_parts-in-Some.field-0.items) c.deref.ensures.value c.in_ok-judged_parts-in-Some.ensures,
    )
