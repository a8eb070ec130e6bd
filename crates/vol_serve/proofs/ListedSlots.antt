-- The entries that a listing finds are the entries of all slots.
use Rattle.std.proofs.Common.{◌≡◌, ℕ, zero, suc, ◌+◌, ◌-◌, ◌<◌, ◌≤◌, List, [], ◌∷◌, map, None, Some, refl, ap, ◌∙◌, arith}
use Rattle.std.specs.Prelude.{Option}
use Rattle.std.specs.List.{range_with_len}
use Rattle.vol_layout.specs.declared.geometry.Geometry.{Geometry}
use Rattle.vol_layout.specs.declared.slot.Slot.{Slot}
use Rattle.vol_dir.specs.Entries.{entry_in, entry_at, slot_count, slots}
use Rattle.vol_dir.specs.Names.{insert, names_of}
use Rattle.vol_dir.specs.Scan.{IsNextEntry}
use Rattle.vol_serve.specs.NodeLaws.{IsListed}

-- the entries that a listing found
abbrev pub listed : List (ℕ × Slot) → List (Option (List ℕ × ℕ))
listed founds = map (λ (found : ℕ × Slot). entry_in found.1) founds

-- empty slots have no names
names_empty : (entry : ℕ → Option (List ℕ × ℕ)) (from n : ℕ) → ((t : ℕ) → from ≤ t → t < from + n → entry t ≡ None)
    → names_of (map entry (range_with_len from n)) ≡ []
names_empty entry from zero none = refl
names_empty entry from (suc n) none =
    ap (λ first. names_of (first ∷ map entry (range_with_len (from + 1) n))) (none from (omega arith) (omega arith))
    ∙ names_empty entry (from + 1) n (λ t low high. none t (omega arith) (omega arith))

-- skipping empty slots doesn't change the names
names_passed : (entry : ℕ → Option (List ℕ × ℕ)) (from k n s : ℕ) → from + k ≡ s → ((t : ℕ) → from ≤ t → t < s → entry t ≡ None)
    → names_of (map entry (range_with_len from (k + n))) ≡ names_of (map entry (range_with_len s n))
names_passed entry from zero n s is none =
    let same : from ≡ s = omega arith in
    let more : zero + n ≡ n = omega arith in
    ap (λ m. names_of (map entry (range_with_len from m))) more ∙ ap (λ a. names_of (map entry (range_with_len a n))) same
names_passed entry from (suc k) n s is none =
    let more : suc k + n ≡ suc (k + n) = omega arith in
    ap (λ m. names_of (map entry (range_with_len from m))) more
    ∙ (ap (λ first. names_of (first ∷ map entry (range_with_len (from + 1) (k + n)))) (none from (omega arith) (omega arith))
    ∙ names_passed entry (from + 1) k n s (omega arith) (λ t low high. none t (omega arith) high))

-- putting the same slot before lists with the same names gives lists with the same names
names_behind : (first : Option (List ℕ × ℕ)) (xs ys : List (Option (List ℕ × ℕ))) → names_of xs ≡ names_of ys → names_of (first ∷ xs) ≡ names_of (first ∷ ys)
names_behind None xs ys same = same
names_behind (Some e) xs ys same = ap (λ names. insert names e.0 e.1) same

names_listed : (entry : ℕ → Option (List ℕ × ℕ)) (count from n : ℕ) (founds : List (ℕ × Slot)) → from + n ≡ count → IsListed entry count from founds
    → names_of (map entry (range_with_len from n)) ≡ names_of (listed founds)
names_listed entry count from n [] is none = names_empty entry from n (λ t low high. none t low (omega arith))
names_listed entry count from n (found ∷ founds) is met =
    let here : IsNextEntry entry from count found.0 found.1 = met.0 in
    let s = found.0 in
    let k = s - from in
    let m = count - (s + 1) in
    let all : n ≡ k + suc m = omega (arith, here.reached, here.within) in
    ap (λ j. names_of (map entry (range_with_len from j))) all
    ∙ (names_passed entry from k (suc m) s (omega (arith, here.reached)) here.none
    ∙ (ap (λ first. names_of (first ∷ map entry (range_with_len (s + 1) m))) here.holds
    ∙ names_behind (entry_in found.1) (map entry (range_with_len (s + 1) m)) (listed founds)
    (names_listed entry count (s + 1) m founds (omega (arith, here.within)) met.1)))

-- the names of a listing that starts with slot 0 are those of the directory
pub slots_listed : (geometry : Geometry) (image : List ℕ) (d : ℕ) (founds : List (ℕ × Slot))
    → IsListed (entry_at geometry image d) (slot_count geometry image d) 0 founds → names_of (slots geometry image d) ≡ names_of (listed founds)
unfolding slots
slots_listed geometry image d founds met =
    names_listed (entry_at geometry image d) (slot_count geometry image d) 0 (slot_count geometry image d) founds (omega arith) met
