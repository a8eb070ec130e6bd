-- Consequences of comparing the marks of used blocks with the marks of free blocks.
use Rattle.std.proofs.Common.{◌≡◌, ℕ, ◌<◌, ◌≤◌, inl, inr, Bool, true, false, List, get_or, subst, arith}
use Rattle.std.proofs.lemmas.Bool.{cases_eq}
use Rattle.std.proofs.lemmas.Bool.Decides.{nat_tests}
use Rattle.vol_layout.specs.Geometry.{in_zone, Fits}
use Rattle.vol_layout.specs.BlockPointers.{NamesBlock}
use Rattle.vol_layout.specs.declared.geometry.Geometry.{Geometry}
use Rattle.vol_free.specs.Stack.{IsIn, IsFree}
use Rattle.vol_free.proofs.Stacks.{IsFree_unique, zone_from, zone_below, zone_behind}
use Rattle.vol_judge.specs.FreeMarks.{AreFreeMarks}
use Rattle.vol_judge.specs.Lost.{IsFirstLost}
use Rattle.vol_judge.specs.Marks.{MarksZone}
use Rattle.vol_judge.specs.Sound.{IsNoneLost}

-- the free blocks are those in the marks of the free list
same_free : {geometry : Geometry} {image blocks : List ℕ} {free : List Bool} → Fits geometry image → (marks : AreFreeMarks geometry image free)
    → IsFree geometry image blocks → blocks ≡ marks.blocks
same_free fits marks is = IsFree_unique (omega (arith, zone_behind fits)) is marks.free

-- each number from `zone_start` to below `zone_end` is the number of a data block
zone_within : (geometry : Geometry) (k : ℕ) → geometry.zone_start ≤ k → k < geometry.zone_end → in_zone geometry k ≡ true
zone_within geometry k from below = grind (arith, nat_tests)

-- if each data block is marked as used or free, no block is lost
pub none_lost : {geometry : Geometry} {image : List ℕ} (places : List ℕ) (free : List Bool) → Fits geometry image
    → MarksZone geometry image places → AreFreeMarks geometry image free
    → ((k : ℕ) → geometry.zone_start ≤ k → k < geometry.zone_end → get_or places k 0 ≡ 0 → get_or free k false ≡ true) → IsNoneLost geometry image
none_lost {geometry = geometry} {image = image} places free fits marks set covered = λ blocks is k zone.
    elim (cases_eq (get_or places k 0) 0) [
      | inl none ↦ inl (rw (same_free fits set is) (set.marked k (covered k (zone_from geometry k zone) (zone_below geometry k zone) none)))
      | inr some ↦ inr ((marks k zone).0 some)
    ]

-- the first data block that is marked neither as used nor as free is the first lost block, and rule 8 fails
pub first_lost : {geometry : Geometry} {image : List ℕ} (places : List ℕ) (free : List Bool) (b : ℕ) → Fits geometry image
    → MarksZone geometry image places → AreFreeMarks geometry image free → geometry.zone_start ≤ b → b < geometry.zone_end
    → get_or places b 0 ≡ 0 → get_or free b false ≡ false
    → ((k : ℕ) → geometry.zone_start ≤ k → k < b → get_or places k 0 ≡ 0 → get_or free k false ≡ true)
    → IsFirstLost geometry image b × (IsNoneLost geometry image → ⊥)
first_lost {geometry = geometry} {image = image} places free b fits marks set from below none other covered =
    let zone : in_zone geometry b ≡ true = zone_within geometry b from below in
    let unlisted : IsIn b set.blocks → ⊥ = λ there. let marked = set.all b there in cc in
    let unnamed : (i : ℕ) (p : List ℕ) → NamesBlock geometry image i p b → ⊥ = λ i p by. (marks b zone).1 (i, p, by) none in (
      record {
        lost = record { zone = zone; unlisted = λ blocks is there. unlisted (subst (IsIn b) (same_free fits set is) there); unnamed = unnamed };
        before = λ k low lost.
            elim (cases_eq (get_or places k 0) 0) [
              | inl clear ↦ lost.unlisted set.blocks set.free (set.marked k (covered k (zone_from geometry k lost.zone) low clear))
              | inr some ↦ let by = (marks k lost.zone).0 some in lost.unnamed by.0 by.1 by.2
            ];
      },
      λ rule. elim (rule set.blocks set.free b zone) [
        | inl there ↦ unlisted there
        | inr by ↦ unnamed by.0 by.1 by.2
      ],
    )
