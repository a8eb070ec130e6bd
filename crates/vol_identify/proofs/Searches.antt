-- The search for a volume, block by block.
use Rattle.std.proofs.Common.{◌≡◌, ◌∙◌, ℕ, zero, suc, ◌+◌, ◌-◌, ◌<◌, List, None, Some, ap, sym, arith}
use Rattle.std.specs.Option.{option_or}
use Rattle.vol_identify.specs.Guesses.{inside_at, inside_from}
use Rattle.vol_identify.specs.declared.guess.Guess.{Guess}

-- a volume that begins at the next block is the one that is searched for
pub found : (image : List ℕ) (left k : ℕ) (guess : Guess) → 0 < left → Some guess ≡ inside_at image k → inside_from image left k ≡ Some guess
unfolding inside_from
found image zero k guess some is = absurd (omega (arith, some))
found image (suc left) k guess some is = ap (λ first. option_or first (inside_from image left (k + 1))) (sym is)

-- if none begins there, the search goes on behind it
pub missed : (image : List ℕ) (left k : ℕ) → 0 < left → None ≡ inside_at image k → inside_from image left k ≡ inside_from image (left - 1) (k + 1)
unfolding inside_from
missed image zero k some is = absurd (omega (arith, some))
missed image (suc left) k some is =
    let less : suc left - 1 ≡ left = omega arith in
    ap (λ first. option_or first (inside_from image left (k + 1))) (sym is) ∙ ap (λ n. inside_from image n (k + 1)) (sym less)
