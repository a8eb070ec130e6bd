-- Finding the naming entries, one entry at a time.
use Rattle.std.proofs.Common.{◌≡◌, inl, inr, ℕ, List, [], ◌∷◌, ◌++◌, Option, Some, None, option_map, replicate, Bor, sym, ap, ◌∙◌, subst, arith}
use Rattle.std.specs.List.{Contains}
use Rattle.std.proofs.lemmas.List.{get_or-replicate, get_or_past, length-replicate}
use Rattle.std.proofs.lemmas.List.Elements.{Contains-append_left, Contains-push, Contains-push_cases}
use Rattle.std.proofs.lemmas.Bool.{cases_lt}
use Rattle.vol_reports.specs.Placed.{Placed}
use Rattle.vol_reports.specs.Climb.{naming_in, IsNaming, HasNaming, PutsNaming}

-- a list of `None` has no naming entry
naming_none : (n i : ℕ) → naming_in (replicate n None) i ≡ None
naming_none n i =
    let nothing : Option (Bor Placed) = None in
    ap (option_map (λ (entry : Bor Placed). entry.now)) (elim (cases_lt i n) [
      | inl low ↦ get_or-replicate n i None None low
      | inr high ↦ get_or_past (replicate n None) i None (omega (arith, high, length-replicate n nothing))
    ])

-- before the first entry, no naming entry is known
pub naming_first : (words : List ℕ) (naming : List (Option (Bor Placed))) (n i : ℕ) → naming ≡ replicate n None → HasNaming words [] naming i
naming_first words naming n i is =
    let none : naming_in naming i ≡ None = ap (λ xs. naming_in xs i) is ∙ naming_none n i in
    record {
      found = λ entry some. let e : None ≡ Some entry = sym none ∙ some in cc;
      missing = λ nothing entry has named. absurd (omega (arith, has.1));
    }

-- a loop's step: after one more entry, the naming entries of all entries so far are known
pub naming_more : {words : List ℕ} {xs : List Placed} {old new : List (Option (Bor Placed))} {i : ℕ} (entry : Placed) → HasNaming words xs old i
    → PutsNaming words entry old new i → HasNaming words (xs ++ entry ∷ []) new i
naming_more {words} {xs} {old} {new} {i} entry was puts =
    elim puts [
      | inl put ↦ record {
        found = λ other some.
            let same : Some entry ≡ Some other = sym put.1 ∙ some in
            let e : entry ≡ other = cc in
            (subst (IsNaming words i) e put.0, subst (Contains (xs ++ entry ∷ [])) e (Contains-push xs entry));
        missing = λ none. let e : None ≡ Some entry = sym none ∙ put.1 in absurd (cc);
      }
      | inr kept ↦ record {
        found = λ other some.
            let known = was.found other (sym kept.1 ∙ some) in (known.0, Contains-append_left xs (entry ∷ []) other known.1);
        missing = λ none other has named. elim (Contains-push_cases xs entry other has) [
          | inl before ↦ was.missing (sym kept.1 ∙ none) other before named
          | inr e ↦ kept.0 (subst (IsNaming words i) (sym e) named)
        ];
      }
    ]
