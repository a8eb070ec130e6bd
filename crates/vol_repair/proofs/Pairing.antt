-- Lemmas on the entries of a directory in two images.
use Rattle.std.proofs.Common.{◌≡◌, ℕ, ◌/◌, ◌≤◌, ◌∙◌, ap, List, Option, Some, None, arith, inl, inr, min, refl}
use Rattle.std.proofs.lemmas.Bool.{cases_lt}
use Rattle.vol_layout.specs.Edition.{constants}
use Rattle.vol_layout.specs.declared.edition.Edition.{Edition}
use Rattle.vol_layout.specs.declared.edition.Edition.TheVariants.{V6, V7}
use Rattle.vol_layout.specs.declared.geometry.Geometry.{Geometry}
use Rattle.vol_layout.specs.declared.mode.Kind.{Kind}
use Rattle.vol_layout.specs.declared.mode.Kind.TheVariants as kinds
use Rattle.vol_layout.specs.declared.slot.Slot.{Slot}
use Rattle.vol_file.specs.Rules.{kind_at, size_of}
use Rattle.vol_dir.specs.Entries.{entry_at, slot_count}
use Rattle.vol_dir.specs.Scan.{GoesOn}
use Rattle.vol_dir.proofs.ReadSlots.{entry_at_past}
use Rattle.vol_repair.specs.Lines.{dir_entry, entry_of_kind}
use Rattle.vol_repair.specs.Pairs.{IsFirstEntry}

-- a directory has at most 67,637,568 slots
few_of : (edition : Edition) (size : ℕ) → min size (constants edition).greatest / 16 ≤ 67637568
few_of V6 size = omega arith
few_of V7 size = omega arith

-- an entry of a directory
pub dir_entry_is : (geometry : Geometry) (image : List ℕ) (d s : ℕ) → kind_at geometry image d ≡ kinds.Directory
    → dir_entry geometry image d s ≡ entry_at geometry image d s
dir_entry_is geometry image d s is = ap (entry_of_kind geometry image d s) is

-- an i-node of another kind has no entries
none_of : (geometry : Geometry) (image : List ℕ) (d t : ℕ) (kind : Kind) → (kind ≡ kinds.Directory → ⊥) → entry_of_kind geometry image d t kind ≡ None
none_of geometry image d t kinds.Directory other = absurd (other refl)
none_of geometry image d t kinds.Free other = refl
none_of geometry image d t kinds.Regular other = refl
none_of geometry image d t kinds.Special other = refl
none_of geometry image d t kinds.Odd other = refl

-- the first entry of a directory, found by a search over its slots
pub first_found : (geometry : Geometry) (image : List ℕ) (d from : ℕ) (result : Option (ℕ × Slot)) → kind_at geometry image d ≡ kinds.Directory
    → GoesOn (entry_at geometry image d) from (slot_count geometry image d) result → IsFirstEntry geometry image d from result
first_found geometry image d from None is found = λ t low. elim (cases_lt t (slot_count geometry image d)) [
  | inl inside ↦ dir_entry_is geometry image d t is ∙ found t low inside
  | inr past ↦ dir_entry_is geometry image d t is ∙ entry_at_past geometry image d t past
]
first_found geometry image d from (Some (s, slot)) is found = record {
  reached = found.reached;
  low = omega (arith, found.within, few_of geometry.edition (size_of geometry image d));
  holds = dir_entry_is geometry image d s is ∙ found.holds;
  before = λ t low high. dir_entry_is geometry image d t is ∙ found.none t low high;
}

-- what is no directory has no entries
pub none_found : (geometry : Geometry) (image : List ℕ) (d : ℕ) → (kind_at geometry image d ≡ kinds.Directory → ⊥)
    → (t : ℕ) → dir_entry geometry image d t ≡ None
none_found geometry image d other t = none_of geometry image d t (kind_at geometry image d) other
