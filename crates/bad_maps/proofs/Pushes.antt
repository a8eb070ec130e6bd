-- Lemmas on ranges to which one is added, and on the words of a line.
use Rattle.std.proofs.Common.{◌≡◌, ℕ, ◌∙◌, if◌then◌else◌, List, [], ◌∷◌, ◌++◌, get_or, drop, refl, ap, sym, append_assoc}
use Rattle.std.proofs.lemmas.Bool.{eq-eqb, ne_eqb}
use Rattle.bad_maps.specs.Maps.{with_range}
use Rattle.bad_maps.specs.declared.maps.ReadRange.{ReadRange}

-- a range is added to the last of the ranges
pub added_last : (rest : List ReadRange) (last range : ReadRange) → with_range (rest ++ last ∷ []) range ≡ rest ++ with_range (last ∷ []) range
added_last [] last range = refl
added_last (first ∷ []) last range = refl
added_last (first ∷ (next ∷ rest)) last range = ap (λ ranges. first ∷ ranges) (added_last (next ∷ rest) last range)

-- a range that begins where the last one ends makes that longer
pub added_touching : (rest : List ReadRange) (last range : ReadRange) → last.end ≡ range.first
    → with_range (rest ++ last ∷ []) range ≡ rest ++ record { first = last.first; end = range.end } ∷ []
added_touching rest last range touches =
    added_last rest last range
    ∙ ap (λ b. rest ++ (if b then record { first = last.first; end = range.end } ∷ [] else last ∷ range ∷ [])) (eq-eqb last.end range.first touches)

-- another range is the last one
pub added_apart : (rest : List ReadRange) (last range : ReadRange) → (last.end ≡ range.first → ⊥)
    → with_range (rest ++ last ∷ []) range ≡ (rest ++ last ∷ []) ++ range ∷ []
added_apart rest last range apart =
    added_last rest last range
    ∙ (ap (λ b. rest ++ (if b then record { first = last.first; end = range.end } ∷ [] else last ∷ range ∷ [])) (ne_eqb last.end range.first apart)
    ∙ sym (append_assoc rest (last ∷ []) (range ∷ [])))

-- a word after the first words of a list is a word of the list
pub word_after : (words : List (List ℕ)) → get_or (drop 1 words) 0 [] ≡ get_or words 1 []
word_after [] = refl
word_after (word ∷ words) = refl
