-- The volumes of a pack, judged one after another.
use Rattle.std.proofs.Common.{◌≡◌, ◌∙◌, ℕ, ◌+◌, ◌<◌, List, [], ◌∷◌, ◌++◌, Option, length, get_or, map, take, sym, ap, subst}
use Rattle.std.proofs.lemmas.List.{map-append, take_more}
use Rattle.std.proofs.lemmas.List.Elements.{All-push, All-same}
use Rattle.vol_identify.specs.declared.pack_scan.Part.{Part}
use Rattle.vol_identify.specs.declared.pack_texts.JudgedPart.{JudgedPart}
use Rattle.pack_files.specs.PackFiles.{AreJudged, IsPartJudged}

abbrev part_of : JudgedPart → Part
part_of one = one.part

-- one part more is judged
pub judged_more : {F : Type 0} (remaining : F → Option (List ℕ)) (parts : List Part) (n : ℕ) (d : Part) (judged more : List JudgedPart) (one : JudgedPart)
    → n < length parts → AreJudged remaining (take n parts) judged → more ≡ judged ++ one ∷ [] → one.part ≡ get_or parts n d
    → IsPartJudged remaining (get_or parts n d) one.broken → AreJudged remaining (take (n + 1) parts) more
judged_more remaining parts n d judged more one within had is part rule = record {
  same =
      ap (map part_of) is
      ∙ (map-append part_of judged (one ∷ [])
      ∙ (ap (λ l. l ++ one.part ∷ []) had.same ∙ (ap (λ p. take n parts ++ p ∷ []) part ∙ sym (take_more parts n d within))));
  each =
      All-same (λ (j : JudgedPart). IsPartJudged remaining j.part j.broken) _ _ is
      (All-push (λ (j : JudgedPart). IsPartJudged remaining j.part j.broken) judged one had.each (subst (λ p. IsPartJudged remaining p one.broken) (sym part) rule));
}
