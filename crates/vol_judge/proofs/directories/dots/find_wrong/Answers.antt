use Rattle.std.proofs.Common.{◌∙◌, sym, refl}
use Rattle.vol_judge.proofs.Decisions.{holds, fails, same_option, other_option}
use Rattle.vol_judge.proofs.Dotted.{before_first}
use Rattle.vol_judge.proofs.directories.dots.find_wrong.Goals as goal

pub returns-then-eq : goal.returns-then-eq
returns-then-eq c = λ image is known reached notes.
    let without = known.without c.args.d (same_option c.args.ups.now.nameless c.args.d (sym c.eq.ensures ∙ c.if-eq.true)) in
    ((refl, without.1), λ keeps. without.1 keeps.own)

pub returns-then-names_parent : goal.returns-then-names_parent
returns-then-names_parent c = λ image is known reached notes.
    let first = before_first c.args.ups.now.nameless c.args.d reached (other_option c.args.ups.now.nameless c.args.d (sym c.eq.ensures ∙ c.if-eq.false)) in
    record {
      own = known.itself c.args.d is first;
      parent = holds c.names_parent.result (c.names_parent.ensures image is (rw c.deref.ensures.value (known.named c.args.d is first)) (rw c.deref.ensures.value notes)) c.if-names_parent.true;
    }

pub returns-else-names_parent : goal.returns-else-names_parent
returns-else-names_parent c = λ image is known reached notes.
    let first = before_first c.args.ups.now.nameless c.args.d reached (other_option c.args.ups.now.nameless c.args.d (sym c.eq.ensures ∙ c.if-eq.false)) in
    let wrong = fails c.names_parent.result (c.names_parent.ensures image is (rw c.deref.ensures.value (known.named c.args.d is first)) (rw c.deref.ensures.value notes)) c.if-names_parent.false in
    ((refl, known.itself c.args.d is first, wrong), λ keeps. wrong keeps.parent)
