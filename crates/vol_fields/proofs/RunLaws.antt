-- Lemmas on the fields of runs that come after others.
use Rattle.std.proofs.Common.{◌≡◌, ℕ, ◌+◌, ◌-◌, ◌*◌, ◌/◌, ◌<◌, ◌≤◌, ◌∙◌, List, [], ◌∷◌, ◌++◌, sym, ap, arith}
use Rattle.std.proofs.lemmas.Nat.{div-mul-add}
use Rattle.vol_fields.specs.Laws.{Begins}
use Rattle.vol_fields.specs.Runs.{total, spot_in, spot_at}
use Rattle.vol_fields.specs.declared.runs.Run.{Run}
use Rattle.vol_fields.proofs.SpotLaws.{picks, skips}

-- field k of the first run
first_is : (run : Run) (more : List Run) (base k n : ℕ) → 0 < run.bytes → n ≡ base + run.bytes * k → n - base < run.count * run.bytes
    → Begins (run ∷ more) base n run.name (run.first + k) run.bytes
unfolding spot_at
first_is run more base k n some is room =
    let off : n - base ≡ k * run.bytes + 0 = omega (arith, is) in
    let index : (n - base) / run.bytes ≡ k = ap (λ x. x / run.bytes) off ∙ div-mul-add k run.bytes 0 some in
    let start : base + k * run.bytes ≡ n = omega (arith, is) in
    picks (spot_in run base n) (spot_at more (base + run.count * run.bytes) n) (n - base) (run.count * run.bytes) room
    ∙ (ap (λ x. record { name = run.name; index = run.first + x; start = base + x * run.bytes; bytes = run.bytes }) index
    ∙ ap (λ x. record { name = run.name; index = run.first + k; start = x; bytes = run.bytes }) start)

-- a field after some runs
later_is : (front rest : List Run) (base n : ℕ) → total front ≤ n - base → spot_at (front ++ rest) base n ≡ spot_at rest (base + total front) n
unfolding spot_at
later_is [] rest base n high = ap (λ x. spot_at rest x n) (omega arith)
later_is (run ∷ more) rest base n high =
    skips (spot_in run base n) (spot_at (more ++ rest) (base + run.count * run.bytes) n) (n - base) (run.count * run.bytes) (omega (arith, high))
    ∙ (later_is more rest (base + run.count * run.bytes) n (omega (arith, high))
    ∙ ap (λ x. spot_at rest x n) (omega arith))

-- field k of a run that comes after others
pub array_is : (front : List Run) (run : Run) (more : List Run) (base from k i n : ℕ) → base + total front ≡ from → n ≡ from + run.bytes * k
    → run.first + k ≡ i → 0 < run.bytes → run.bytes * k < run.count * run.bytes → Begins (front ++ run ∷ more) base n run.name i run.bytes
array_is front run more base from k i n at is index some room =
    later_is front (run ∷ more) base n (omega (arith, at, is))
    ∙ (first_is run more (base + total front) k n some (is ∙ ap (λ x. x + run.bytes * k) (sym at)) (omega (arith, at, is, room))
    ∙ ap (λ x. record { name = run.name; index = x; start = n; bytes = run.bytes }) index)
