-- The time or the number in the first word that was given for it, if any.
use Rattle.std.proofs.Common.{◌≡◌, ℕ, List, [], ◌∷◌, Option, Some, None, Result, IfErr, refl, sym, subst}
use Rattle.std.specs.List.{slice_get}
use Rattle.std.specs.Option.{ok_or}
use Rattle.command_words.specs.Moment.{IsMomentOf}
use Rattle.command_words.specs.Decimal.{IsNumberUpTo}
use Rattle.command_words.specs.Invocations.{IsMomentGiven, IsNumberIfAny, TellsOf}
use Rattle.command_words.specs.declared.fault.WordFault.{WordFault}
use Rattle.command_words.specs.declared.fault.WordFault.TheVariants as faults

-- if there is a first word and it is this time, the time to use is this one
pub written : (clock : Option ℕ) (words : List (List ℕ)) (word : List ℕ) → Some word ≡ slice_get words 0 → (now : ℕ) → IsMomentGiven clock words now
    → IsMomentOf word now
written clock [] word first now given = cc
written clock (other ∷ more) word first now given = let same : word ≡ other = cc in subst (λ (w : List ℕ). IsMomentOf w now) (sym same) given

-- if words are valid for a number that may be left out, the first word, if any, is such a number
pub first_number : (greatest : ℕ) (words : List (List ℕ)) (word : List ℕ) → Some word ≡ slice_get words 0 → IsNumberIfAny greatest words
    → IsNumberUpTo greatest word
first_number greatest [] word first if_any = absurd (cc)
first_number greatest (other ∷ more) word first if_any = let same : word ≡ other = cc in subst (IsNumberUpTo greatest) (sym same) if_any

-- if `wrong` holds, a fault that names a wrong word satisfies `TellsOf`
pub tells : (wrong : Type 0) (fault : WordFault) → wrong → TellsOf wrong fault
tells wrong faults.NoMemory is = tt
tells wrong (faults.Wrong word) is = is

-- if a word isn't a time, the fault names this word
pub refused : (wrong : Type 0) (moment : Option ℕ) (result : Result ℕ WordFault) (fault : WordFault) → result ≡ ok_or moment fault → (moment ≡ None → wrong)
    → IfErr result (TellsOf wrong)
refused wrong None result fault same none = subst (λ (r : Result ℕ WordFault). IfErr r (TellsOf wrong)) (sym same) (tells wrong fault (none refl))
refused wrong (Some now) result fault same none = subst (λ (r : Result ℕ WordFault). IfErr r (TellsOf wrong)) (sym same) tt
