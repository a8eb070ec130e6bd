-- The user and the group in a word.
use Rattle.std.proofs.Common.{◌≡◌, ◌<◌, ◌+◌, ◌==◌, ℕ, List, [], ◌∷◌, Option, Some, None, IfSome, IsSome, Result, Ok, Err, IfOk, IfErr, true≢false, drop, length, refl, sym, subst, ap, ◌∙◌, arith}
use Rattle.std.proofs.lemmas.List.{drop_all}
use Rattle.std.specs.List.{position_or_len, slice_get}
use Rattle.vol_dir.specs.declared.cred.Cred.{Cred}
use Rattle.command_words.specs.Decimal.{IsNumberGiven, IsNumberUpTo}
use Rattle.command_words.specs.Invocations.{TellsOf}
use Rattle.command_words.specs.declared.fault.WordFault.{WordFault}
use Rattle.command_words.specs.declared.fault.WordFault.TheVariants as faults
use Rattle.command_words.specs.Owners.{IsOwnerGiven, IsOwnerIfAny, IsOwnerNamed, IsOwnerWord, group_part, user_part}

-- a word without a colon has no user's and group's numbers
pub no_colon : (word : List ℕ) → position_or_len (λ c. c == 58) word ≡ length word → IsOwnerWord word → ⊥
no_colon word none is =
    let empty : group_part word ≡ [] = ap (λ n. drop (n + 1) word) none ∙ drop_all (length word + 1) word (omega arith) in
    let some : 0 < length (group_part word) = is.1.0.0 in
    omega (arith, ap (λ (part : List ℕ). length part) empty, some)

-- the numbers of a word's two parts are the user and the group in the word
pub parts_named : (word user group : List ℕ) (result : Option Cred) → user ≡ user_part word → group ≡ group_part word
    → IfSome result (λ owner. IsNumberGiven 65535 user owner.uid × IsNumberGiven 65535 group owner.gid) → IfSome result (IsOwnerNamed word)
parts_named word user group None first second named = tt
parts_named word user group (Some owner) first second named = (
  subst (λ (part : List ℕ). IsNumberGiven 65535 part owner.uid) first named.0,
  subst (λ (part : List ℕ). IsNumberGiven 65535 part owner.gid) second named.1,
)

-- if one of a word's two parts isn't a number, the word has no user and group
pub parts_missing : (word user group : List ℕ) (result : Option Cred) → user ≡ user_part word → group ≡ group_part word
    → (result ≡ None → IsNumberUpTo 65535 user × IsNumberUpTo 65535 group → ⊥) → result ≡ None → IsOwnerWord word → ⊥
parts_missing word user group result first second missing none is =
    missing none (subst (IsNumberUpTo 65535) (sym first) is.0, subst (IsNumberUpTo 65535) (sym second) is.1)

-- if the first word has a user and a group, these are the given ones
pub owner_given : (words : List (List ℕ)) (word : List ℕ) (owner : Option Cred) → Some word ≡ slice_get words 0 → IfSome owner (IsOwnerNamed word) × IsSome owner
    → IsOwnerGiven words owner
owner_given words word None first is = absurd (true≢false (sym is.1))
owner_given [] word (Some owner) first is = absurd (cc)
owner_given (other ∷ more) word (Some owner) first is = let same : word ≡ other = cc in subst (λ (w : List ℕ). IsOwnerNamed w owner) same is.0

-- the same holds for a result that may be a fault
pub owner_read : (words : List (List ℕ)) (word : List ℕ) (result : Result (Option Cred) WordFault) → Some word ≡ slice_get words 0
    → IfOk result (λ owner. IfSome owner (IsOwnerNamed word) × IsSome owner) → IfOk result (IsOwnerGiven words)
owner_read words word (Ok owner) first is = owner_given words word owner first is
owner_read words word (Err fault) first is = tt

-- if there is no word, no user and group are given
pub no_owner : (words : List (List ℕ)) → None ≡ slice_get words 0 → IsOwnerGiven words None
no_owner [] none = refl
no_owner (word ∷ more) none = absurd (cc)

-- if words are valid for a user and a group that may be left out, the first word, if any, has a user and a group
first_owner : (words : List (List ℕ)) (word : List ℕ) → Some word ≡ slice_get words 0 → IsOwnerIfAny words → IsOwnerWord word
first_owner [] word first if_any = absurd (cc)
first_owner (other ∷ more) word first if_any = let same : word ≡ other = cc in subst IsOwnerWord (sym same) if_any

-- if a fault reports that the first word has no user and group, the words aren't valid
tells_words : (words : List (List ℕ)) (word : List ℕ) (fault : WordFault) → Some word ≡ slice_get words 0 → TellsOf (IsOwnerWord word → ⊥) fault
    → TellsOf (IsOwnerIfAny words → ⊥) fault
tells_words words word faults.NoMemory first tells = tt
tells_words words word (faults.Wrong wrong) first tells = λ if_any. tells (first_owner words word first if_any)

-- the same holds for a result that returns the fault
pub owner_refused : (words : List (List ℕ)) (word : List ℕ) (result : Result (Option Cred) WordFault) → Some word ≡ slice_get words 0
    → IfErr result (TellsOf (IsOwnerWord word → ⊥)) → IfErr result (TellsOf (IsOwnerIfAny words → ⊥))
owner_refused words word (Ok owner) first tells = tt
owner_refused words word (Err fault) first tells = tells_words words word fault first tells
