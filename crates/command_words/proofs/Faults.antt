-- Faults that a function returns from a function that it calls.
use Rattle.std.proofs.Common.{◌≡◌, Result, Ok, Err, IfErr, IsErrAnd, sym, subst}
use Rattle.command_words.specs.Invocations.{TellsOf}
use Rattle.command_words.specs.declared.fault.WordFault.{WordFault}
use Rattle.command_words.specs.declared.fault.WordFault.TheVariants as faults

-- if a fault implies `one`, and `one` implies `other`, the fault implies `other`
tells_more : (one other : Type 0) (fault : WordFault) → (one → other) → TellsOf one fault → TellsOf other fault
tells_more one other faults.NoMemory leads tells = tt
tells_more one other (faults.Wrong word) leads tells = leads tells

-- the same holds for an outcome that returns the fault
pub hands_on : {T : Type 0} (result : Result T WordFault) (error : WordFault) (one other : Type 0) → IsErrAnd result (λ e. e ≡ error) → TellsOf one error → (one → other)
    → IfErr result (TellsOf other)
hands_on (Ok value) error one other is tells leads = tt
hands_on (Err e) error one other is tells leads = subst (λ (f : WordFault). TellsOf other f) (sym is) (tells_more one other error leads tells)
