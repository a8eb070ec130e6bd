-- Lists of checks, split into a first and a second part.
use Rattle.std.proofs.Common.{◌≡◌, refl, Bool, true, false, ◌++◌, List, [], ◌∷◌, None, Some}
use Rattle.vol_dir.specs.declared.refusal.Refusal.{Refusal}
use Rattle.vol_volume.specs.Verdict.{first_of}

-- if a check of the first part fails, it gives the refusal
pub first_some : (tests others : List (Bool × Refusal)) (refusal : Refusal) → first_of tests ≡ Some refusal → first_of (tests ++ others) ≡ Some refusal
first_some [] others refusal e = cc
first_some ((true, first) ∷ tests) others refusal e = e
first_some ((false, first) ∷ tests) others refusal e = first_some tests others refusal e

-- if no check of the first part fails, the second part decides
pub first_none : (tests others : List (Bool × Refusal)) → first_of tests ≡ None → first_of (tests ++ others) ≡ first_of others
first_none [] others e = refl
first_none ((true, first) ∷ tests) others e = cc
first_none ((false, first) ∷ tests) others e = first_none tests others e
