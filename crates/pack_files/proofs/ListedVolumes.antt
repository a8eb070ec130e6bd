-- What a catalogue lists of parts, one after another.
use Rattle.std.proofs.Common.{◌≡◌, ◌∙◌, ℕ, ◌+◌, ◌<◌, List, [], ◌∷◌, ◌++◌, Option, length, get_or, take, refl, sym, ap, subst}
use Rattle.std.proofs.lemmas.List.{append_assoc, append-nil, take_more}
use Rattle.vol_catalogue.specs.declared.rows.ListedVolume.{ListedVolume}
use Rattle.vol_identify.specs.declared.pack_scan.Part.{Part}
use Rattle.pack_files.specs.Catalogued.{AreListed, IsListedPart}

-- after what is listed of some parts, what is listed of one more
one_more : {F : Type 0} (remaining : F → Option (List ℕ)) (parts : List Part) (part : Part) (listed more : List ListedVolume)
    → AreListed remaining parts listed → IsListedPart remaining part more → AreListed remaining (parts ++ part ∷ []) (listed ++ more)
one_more remaining [] part listed more are is = (more, [], is, refl, ap (λ xs. xs ++ more) are ∙ sym (append-nil more))
one_more remaining (first ∷ rest) part listed more (one, others, was, are, whole) is = (
  one,
  others ++ more,
  was,
  one_more remaining rest part others more are is,
  ap (λ xs. xs ++ more) whole ∙ append_assoc one others more,
)

-- the same of the first `n + 1` parts
pub listed_more : {F : Type 0} (remaining : F → Option (List ℕ)) (parts : List Part) (n : ℕ) (d : Part) (listed all more : List ListedVolume)
    → n < length parts → AreListed remaining (take n parts) listed → IsListedPart remaining (get_or parts n d) more → all ≡ listed ++ more
    → AreListed remaining (take (n + 1) parts) all
listed_more remaining parts n d listed all more within are is whole =
    subst (λ xs. AreListed remaining (take (n + 1) parts) xs) (sym whole)
    (subst (λ (xs : List Part). AreListed remaining xs (listed ++ more)) (sym (take_more parts n d within))
    (one_more remaining (take n parts) (get_or parts n d) listed more are is))
