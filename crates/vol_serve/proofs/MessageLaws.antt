-- Messages that were taken or sent one after another.
use Rattle.std.proofs.Common.{◌∙◌, sym, ap, subst, ℕ, List, [], ◌++◌, append_assoc, Option, None, Some}
use Rattle.std.proofs.lemmas.List.{append-nil}
use Rattle.vol_serve.specs.Messages.{Grows}

-- if the messages grew by `xs` and then by `ys`, they grew by `xs ++ ys`
pub grows_more : (a b c : Option (List (List ℕ))) (xs ys : List (List ℕ)) → Grows a b xs → Grows b c ys → Grows a c (xs ++ ys)
grows_more None b c xs ys first then = tt
grows_more (Some old) b c xs ys first then =
    let moved : Grows (Some (old ++ xs)) c ys = subst (λ known. Grows known c ys) first then in
    moved ∙ ap Some (append_assoc old xs ys)

-- messages grow by none if nothing is taken or sent
pub grows_by_none : (a : Option (List (List ℕ))) → Grows a a []
grows_by_none None = tt
grows_by_none (Some old) = ap Some (sym (append-nil old))

-- if the messages grew by `xs` and then by none, they grew by `xs`
pub grows_kept : (a b c : Option (List (List ℕ))) (xs : List (List ℕ)) → Grows a b xs → Grows b c [] → Grows a c xs
grows_kept a b c xs first then = subst (λ more. Grows a c more) (append-nil xs) (grows_more a b c xs [] first then)
