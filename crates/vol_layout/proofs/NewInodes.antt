-- New i-nodes can be stored.
use Rattle.std.proofs.Common.{◌≡◌, refl, ℕ, ◌<◌, ◌≤◌, ◌∷◌, zero, suc, get_or, replicate, inl, inr, rules, arith}
use Rattle.std.proofs.lemmas.Bool.{cases_lt}
use Rattle.std.proofs.lemmas.Grind.{common_steps}
use Rattle.std.proofs.lemmas.List.{get_or-replicate}
use Rattle.vol_layout.specs.Edition.{constants}
use Rattle.vol_layout.specs.Inode.{device_number, new_inode, special_inode, IsStorable}
use Rattle.vol_layout.specs.Inode.IsStorable.{in_v6, in_v7}
use Rattle.vol_layout.specs.declared.edition.Edition.{Edition}
use Rattle.vol_layout.specs.declared.edition.Edition.TheVariants.{V6, V7}
use Rattle.vol_layout.specs.declared.mode.DeviceId.{DeviceId}
use Rattle.vol_layout.specs.declared.mode.Mode.{Mode}

-- every item of a list of zeros is 0, and so is the default past its end
pub zeros_at : (n k : ℕ) → get_or {A = ℕ} (replicate n 0) k 0 ≡ 0
zeros_at n k = elim (cases_lt k n) [ inl low ↦ get_or-replicate n k 0 0 low | inr past ↦ grind (arith, common_steps) ]

-- the values of a new i-node fit their fields if the link count, user number and group number are within their limits
pub new_storable : (edition : Edition) (bits : Mode) (count uid gid now : ℕ) → count ≤ (constants edition).link_limit
    → uid ≤ (constants edition).id_limit → gid ≤ (constants edition).id_limit → IsStorable edition (new_inode edition bits count uid gid now)
new_storable V6 bits count uid gid now few user group =
    in_v6 (omega arith) (omega arith) (omega arith) (omega arith) (λ k h. omega (arith, zeros_at 13 k)) (λ k h. zeros_at 13 k) refl
new_storable V7 bits count uid gid now few user group =
    in_v7 {node = new_inode V7 bits count uid gid now} (λ k. omega (arith, zeros_at 13 k)) (search rules)

-- after the first address there are zeros
past_first : (first k : ℕ) → 1 ≤ k → get_or {A = ℕ} (first ∷ replicate 12 0) k 0 ≡ 0
past_first first zero low = absurd (omega (arith, low))
past_first first (suc k) low = zeros_at 12 k

-- if the first address is below a limit, all are
all_below : (limit first k : ℕ) → first < limit → get_or {A = ℕ} (first ∷ replicate 12 0) k 0 < limit
all_below limit first zero fits = fits
all_below limit first (suc k) fits = omega (arith, zeros_at 12 k, fits)

-- the values of the i-node of a new special file fit their fields if the numbers of its device, its user and its group are within their limits
pub special_storable : (edition : Edition) (bits : Mode) (device : DeviceId) (uid gid now : ℕ) → device_number device < 65536
    → uid ≤ (constants edition).id_limit → gid ≤ (constants edition).id_limit → IsStorable edition (special_inode edition bits device uid gid now)
special_storable V6 bits device uid gid now fits user group =
    in_v6 (omega arith) (omega arith) (omega arith) (omega arith) (λ k h. all_below 65536 (device_number device) k fits)
    (λ k h. past_first (device_number device) k (omega (arith, h))) refl
special_storable V7 bits device uid gid now fits user group =
    in_v7 {node = special_inode V7 bits device uid gid now} (λ k. all_below 16777216 (device_number device) k (omega (arith, fits))) (search rules)
