-- The i-nodes that are out of reach.
use Rattle.std.proofs.Common.{◌≡◌, ℕ, true, List, arith}
use Rattle.std.specs.Prelude.{All}
use Rattle.std.proofs.lemmas.Bool.Decides.{nat_tests}
use Rattle.vol_layout.specs.declared.geometry.Geometry.{Geometry}
use Rattle.vol_dir.specs.Tree.{is_number}
use Rattle.vol_inspect.specs.Lost.{IsInList}

-- i-numbers of the volume are in its i-list
pub in_list : (g : Geometry) (numbers : List ℕ) → All (λ i. is_number g i ≡ true) numbers → All (IsInList g) numbers
in_list g numbers h = λ k d within. record { first = grind (arith, nat_tests, h k d within); last = grind (arith, nat_tests, h k d within) }
