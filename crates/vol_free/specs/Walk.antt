-- The progress of a walk over the free list, with a mark for each block of the volume.
use Rattle.std.specs.Prelude.{◌≡◌, ℕ, ◌+◌, ◌-◌, ◌*◌, ◌<◌, ◌≤◌, Bool, true, false, ◌==◌, if◌then◌else◌, List, [], ◌∷◌, length, slice_index_or, Option, None, Some, Result, Ok, Err}
use Rattle.std.specs.List.{list_any}
use Rattle.pdp_words.specs.Words.{word}
use Rattle.vol_layout.specs.Geometry.{in_zone}
use Rattle.vol_layout.specs.Super.{free_head}
use Rattle.vol_layout.specs.declared.geometry.Geometry.{Geometry}
use Rattle.vol_free.specs.FreeWalk.{walk_rest, free_walk}
use Rattle.vol_free.specs.Stack.{IsIn, Once}
use Rattle.vol_free.specs.declared.free_walk.FreeFault.{FreeFault}
use Rattle.vol_free.specs.declared.free_walk.FreeWalk.{FreeWalk}

-- the number of entries left after block b, which was the top entry of `left` entries (filsys.h, fblk.h)
abbrev pub next_count : List ℕ → ℕ → ℕ → ℕ
next_count image left b = if left == 1 then word image (512 * b) else left - 1

-- the number of entries left in the current array after a walk that visited these blocks, the last first (filsys.h, fblk.h)
abbrev pub left_after : Geometry → List ℕ → List ℕ → ℕ
left_after g image [] = word image (free_head g.edition)
left_after g image (b ∷ met) = next_count image (left_after g image met) b

-- the walk visited these blocks, the last first, and exactly these blocks are marked (icheck)
pub record HasMet (g : Geometry) (image : List ℕ) (marks : List Bool) (walk : FreeWalk) (met : List ℕ) : Type 0 where
  pub len : length marks ≡ g.zone_end
  pub room : walk.head + 202 ≤ length image
  pub counted : walk.met ≡ length met
  pub zoned : (b : ℕ) → IsIn b met → in_zone g b ≡ true
  pub once : Once met
  pub marked : (b : ℕ) → slice_index_or marks b false ≡ list_any (λ k. k == b) met
  pub left : walk.count ≡ left_after g image met
  pub rest : walk_rest g image (g.zone_end - g.zone_start + 1 - walk.met) walk.head walk.count met ≡ free_walk g image

-- the result of one step of a walk: the next block, a fault, or the end of the list (icheck)
abbrev pub StepFinds : Geometry → List ℕ → List Bool → List Bool → FreeWalk → FreeWalk → Option (Result ℕ (FreeFault × ℕ)) → Type 0
StepFinds g image old new walk next (Some (Ok b)) = (met : List ℕ) → HasMet g image old walk met → HasMet g image new next (b ∷ met)
StepFinds g image old new walk next (Some (Err fault)) = (new ≡ old) × (next ≡ walk)
    × ((met : List ℕ) → HasMet g image old walk met → free_walk g image ≡ record { met = met; fault = Some fault })
StepFinds g image old new walk next None = (new ≡ old) × (next ≡ walk)
    × ((met : List ℕ) → HasMet g image old walk met → free_walk g image ≡ record { met = met; fault = None })

-- all numbers in the list are numbers of data blocks (icheck)
abbrev pub AreZoned : Geometry → List ℕ → Type 0
AreZoned g numbers = (k d : ℕ) → k < length numbers → in_zone g (slice_index_or numbers k d) ≡ true
