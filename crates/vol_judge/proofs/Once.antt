-- Overwritten marks.
use Rattle.std.proofs.Common.{◌≡◌, ℕ, List, ◌++◌, length, take, drop, ◌∙◌, arith}
use Rattle.std.proofs.lemmas.List.{take-append-le, take_all}

-- writing new marks over all old ones leaves exactly the new ones
pub marks_written : {A : Type 0} (len : ℕ) (new old : List A) → length new ≡ len → take len (new ++ drop (length new) old) ≡ new
marks_written len new old all = take-append-le len new (drop (length new) old) (omega (arith, all)) ∙ take_all len new (omega (arith, all))
