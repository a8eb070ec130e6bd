-- The value of a result after `map_err`, as used by a following `?`.
use Rattle.std.proofs.Common.{◌≡◌, Result, Ok, Err, ap, sym, subst}
use Rattle.std.specs.Prelude.{MatchResult, IfOk}

-- the value of a result, or a default
value_or : {T E : Type 0} → T → Result T E → T
value_or other (Ok x) = x
value_or other (Err e) = other

-- `map_err` doesn't change the value of a result
pub mapped_value : {T E : Type 0} (D : Type 0) (P : T → Type 0) (r : Result T E) (x : T)
    → MatchResult r (λ y. ◌≡◌ {A = Result T D} (Ok x) (Ok y)) (λ e. ⊥) → IfOk r P → P x
unfolding value_or
mapped_value D P (Ok y) x is holds = subst P (sym (ap (value_or x) is)) holds
mapped_value D P (Err e) x is holds = absurd is
