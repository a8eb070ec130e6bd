-- The first violation of the rule about the free list.
use Rattle.std.specs.Prelude.{◌≡◌, ℕ, List, Some}
use Rattle.vol_layout.specs.declared.geometry.Geometry.{Geometry}
use Rattle.vol_free.specs.FreeWalk.{free_walk}
use Rattle.vol_judge.specs.declared.finding.Finding.{Finding}
use Rattle.vol_judge.specs.declared.finding.Finding.TheVariants as findings

-- the first violation of rule 6: the fault that ends the walk over the free list, with the count or block number that caused it (icheck)
abbrev pub IsFirstFault : Geometry → List ℕ → Finding → Type 0
IsFirstFault geometry image (findings.FreeList fault number) = (free_walk geometry image).fault ≡ Some (fault, number)
IsFirstFault geometry image _ = ⊥
