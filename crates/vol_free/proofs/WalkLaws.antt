-- Laws of one step of the walk over the free list.
use Rattle.std.proofs.Common.{◌≡◌, ◌≢◌, ℕ, suc, ◌+◌, ◌-◌, ◌*◌, ◌<◌, ◌≤◌, true, false, ◌==◌, List, ◌∷◌, Some, None, arith}
use Rattle.std.specs.List.{list_any}
use Rattle.pdp_words.specs.Words.{word}
use Rattle.vol_layout.specs.Edition.{constants, number}
use Rattle.vol_layout.specs.Geometry.{in_zone}
use Rattle.vol_layout.specs.declared.geometry.Geometry.{Geometry}
use Rattle.vol_free.specs.declared.free_walk.FreeFault.{FreeFault}
use Rattle.vol_free.specs.declared.free_walk.FreeFault.TheVariants.{TooMany, OutOfZone, Repeat}
use Rattle.vol_free.specs.FreeWalk.{Walked, walk_rest}

abbrev pub ended : List ℕ → Walked
ended met = record { met = met; fault = None }

abbrev pub failed : List ℕ → FreeFault → ℕ → Walked
failed met fault n = record { met = met; fault = Some (fault, n) }

module _ (g : Geometry) (image : List ℕ) (fuel head count : ℕ) (met : List ℕ) where
  -- a walk ends if no number is left
  pub walk_none : count ≡ 0 → walk_rest g image (suc fuel) head count met ≡ ended met
  unfolding walk_rest
  walk_none none = grind (arith, none)

  -- a walk ends with the fault TooMany if the count is above the size of the array
  pub walk_many : count ≢ 0 → (constants g.edition).free_slots < count → walk_rest g image (suc fuel) head count met ≡ failed met TooMany count
  unfolding walk_rest
  walk_many some many = grind (arith, some, many)

  module _ (b : ℕ) (is : number g.edition image (head + 2) (count - 1) ≡ b) (some : count ≢ 0) (few : count ≤ (constants g.edition).free_slots) where
    -- a walk ends if number 0 is reached and is 0
    pub walk_end : count ≡ 1 → b ≡ 0 → walk_rest g image (suc fuel) head count met ≡ ended met
    unfolding walk_rest
    walk_end one zero-there = rw is (grind (arith, some, few, one, zero-there))

    -- a walk ends with the fault OutOfZone at a number that isn't a data block
    pub walk_out : (count ≡ 1 → b ≡ 0 → ⊥) → in_zone g b ≡ false → walk_rest g image (suc fuel) head count met ≡ failed met OutOfZone b
    unfolding walk_rest
    walk_out more out = rw is (rw out (grind (arith, some, few, more)))

    module _ (zone : in_zone g b ≡ true) (more : count ≡ 1 → b ≡ 0 → ⊥) where
      -- a walk ends with the fault Repeat at a block that it has visited before
      pub walk_again : list_any (λ k. k == b) met ≡ true → walk_rest g image (suc fuel) head count met ≡ failed met Repeat b
      unfolding walk_rest
      walk_again again = rw is (rw zone (rw again (grind (arith, some, few, more))))

      -- a walk continues in block `b` after number 0 of an array
      pub walk_chain : list_any (λ k. k == b) met ≡ false → count ≡ 1
          → walk_rest g image (suc fuel) head count met ≡ walk_rest g image fuel (512 * b) (word image (512 * b)) (b ∷ met)
      unfolding walk_rest
      walk_chain fresh one = rw is (rw zone (rw fresh (grind (arith, some, few, more, one))))

      -- a walk continues with the number below after a number other than number 0
      pub walk_on : list_any (λ k. k == b) met ≡ false → count ≢ 1
          → walk_rest g image (suc fuel) head count met ≡ walk_rest g image fuel head (count - 1) (b ∷ met)
      unfolding walk_rest
      walk_on fresh two = rw is (rw zone (rw fresh (grind (arith, some, few, more, two))))
