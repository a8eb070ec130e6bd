-- Lemmas about creating a volume.
use Rattle.std.proofs.Common.{◌≡◌, ℕ, zero, suc, ◌+◌, ◌-◌, ◌<◌, ◌≤◌, List, ◌∷◌, refl, ap, subst, ◌∙◌, arith, inl, inr, get_or, false, replicate}
use Rattle.std.specs.List.{range_with_len}
use Rattle.std.proofs.lemmas.Bool.Decides.{nat_tests}
use Rattle.vol_layout.specs.Inode.{IsStorable}
use Rattle.vol_layout.specs.Inode.IsStorable.{in_v6, in_v7}
use Rattle.vol_layout.specs.declared.edition.Edition.{Edition}
use Rattle.vol_layout.specs.declared.edition.Edition.TheVariants.{V6, V7}
use Rattle.vol_layout.specs.Edition.{constants}
use Rattle.vol_layout.proofs.NewInodes.{zeros_at}
use Rattle.vol_free.specs.Stack.{IsIn, IsFree}
use Rattle.vol_free.proofs.Stacks.{IsFree_unique}
use Rattle.vol_mkfs.specs.Mkfs.{root_inode}
use Rattle.vol_layout.specs.Ids.{is_bad_id}
use Rattle.vol_layout.specs.declared.geometry.Geometry.{Geometry}

-- a number in a range that starts at a is at least a
pub IsIn-range_with_len : (x a n : ℕ) → IsIn x (range_with_len a n) → a ≤ x
unfolding IsIn
IsIn-range_with_len x a zero h = absurd h
IsIn-range_with_len x a (suc n) h =
    elim h [ inl e ↦ omega arith | inr later ↦ let above : a + 1 ≤ x = IsIn-range_with_len x (a + 1) n later in omega arith ]

-- a number below the free blocks isn't free
pub none_below : (geometry : Geometry) (image : List ℕ) (a b n : ℕ) → 1 ≤ geometry.zone_start → b < a
    → IsFree geometry image (range_with_len a n) → (blocks : List ℕ) → IsFree geometry image blocks → IsIn b blocks → ⊥
none_below geometry image a b n start low free blocks other inside =
    let same : blocks ≡ range_with_len a n = IsFree_unique start other free in
    let above : a ≤ b = IsIn-range_with_len b a n (subst (IsIn b) same inside) in absurd (omega arith)

-- a range with one more number at its beginning
pub range_before : (a b e : ℕ) → b + 1 ≡ a → a ≤ e → range_with_len b (e - b) ≡ b ∷ range_with_len a (e - a)
range_before a b e next room =
    let longer : e - b ≡ suc (e - a) = omega arith in
    ap (range_with_len b) longer ∙ ap (λ c. b ∷ range_with_len c (e - a)) next

-- all addresses of the root except the first are 0
pub addresses_above : (block k : ℕ) → 1 ≤ k → get_or (block ∷ replicate 12 0) k 0 ≡ 0
addresses_above block zero h = absurd (omega arith)
addresses_above block (suc k) h = zeros_at 12 k

-- each address of the root is below the limit
addresses_within : (block k limit : ℕ) → block < limit → get_or (block ∷ replicate 12 0) k 0 < limit
addresses_within block zero limit h = h
addresses_within block (suc k) limit h = let none : get_or {A = ℕ} (replicate 12 0) k 0 ≡ 0 = zeros_at 12 k in omega arith

-- the root's i-node fits the fields of its edition
pub root_storable : (edition : Edition) (block uid gid now : ℕ) → block < (constants edition).number_limit
    → is_bad_id edition uid gid ≡ false → IsStorable edition (root_inode edition block uid gid now)
root_storable V6 block uid gid now room id =
    let low : (uid ≤ 255) × (gid ≤ 255) = grind (arith, nat_tests) in
    in_v6 (omega arith) (omega arith) (omega arith) (omega arith) (λ k h. addresses_within block k 65536 room)
    (λ k h. addresses_above block k (omega arith)) refl
root_storable V7 block uid gid now room id = in_v7 {node = root_inode V7 block uid gid now} (λ k. addresses_within block k 16777216 room) refl
