-- Laws of the limits on sizes and link counts, one i-node at a time.
use Rattle.std.proofs.Common.{ℕ, ◌+◌, ◌<◌, ◌≤◌, inl, inr, List, arith}
use Rattle.std.proofs.lemmas.Bool.{cases_eq}
use Rattle.vol_layout.specs.declared.geometry.Geometry.{Geometry}
use Rattle.vol_file.specs.Rules.{HasSizes}
use Rattle.vol_judge.specs.Limits.{IsSized, IsLinked}

-- a property of the i-numbers before n, and of n, holds for all i-numbers up to n
pub up_to : (P : ℕ → Type 0) (n : ℕ) → ((i : ℕ) → 1 ≤ i → i < n → P i) → P n → (i : ℕ) → 1 ≤ i → i < n + 1 → P i
up_to P n before here i some less = elim (cases_eq i n) [
  | inl same ↦ rw same here
  | inr other ↦ before i some (omega arith)
]

-- if the size and link count of each i-node are within the limits, rule 4 holds
pub sizes_of_all : {geometry : Geometry} {image : List ℕ} (n : ℕ) → geometry.last_inode < n → ((i : ℕ) → 1 ≤ i → i < n → IsSized geometry image i)
    → ((i : ℕ) → 1 ≤ i → i < n → IsLinked geometry image i) → HasSizes geometry image
sizes_of_all n after sized linked = record {
  greatest = λ i file. (sized i file.first (omega (arith, file.last))).greatest file;
  small = λ i file. (sized i file.first (omega (arith, file.last))).small file;
  links = λ i some last. linked i some (omega arith);
}
