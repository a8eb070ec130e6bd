-- Lemmas on the rows of a dump.
use Rattle.std.proofs.Common.{◌≡◌, ℕ, zero, suc, ◌+◌, ◌-◌, ◌<◌, ◌≤◌, ◌∙◌, ◌||◌, true, false, if◌then◌else◌, leb, List, [], ◌∷◌, ◌++◌, length, take, drop, slice_range, refl, sym, ap, subst, arith}
use Rattle.std.proofs.lemmas.Bool.{leb-false}
use Rattle.std.proofs.lemmas.List.{drop-drop}
use Rattle.std.proofs.Math.Seq.{take-add}
use Rattle.std.specs.List.{flat_map}
use Rattle.vol_layout.specs.Geometry.{Fits}
use Rattle.vol_layout.specs.declared.geometry.Geometry.{Geometry}
use Rattle.vol_fields.specs.Rows.{AreRows, AreWithin, array_end, bytes_of, is_zero, is_zero_item, item_end, row_at, row_bytes}
use Rattle.vol_fields.specs.declared.role.Role.{Role}
use Rattle.vol_fields.specs.declared.rows.Row.{Row}

-- one more row at the end
pub rows_more : (g : Geometry) (t : List Role) (image : List ℕ) (to n done : ℕ) (rows : List Row) (row : Row) → AreRows g t image to n done rows → done < to
    → row ≡ row_at g t image to done → AreRows g t image to n (done + row.bytes) (rows ++ row ∷ [])
rows_more g t image to n done [] row were before is =
    (omega (arith, were, before), is ∙ ap (row_at g t image to) (sym were), ap (λ k. k + row.bytes) were)
rows_more g t image to n done (r ∷ more) row were before is =
    (were.0, were.1, rows_more g t image to (n + r.bytes) done more row were.2 before is)

-- a part of a list is its first part and the rest
split_range : (xs : List ℕ) (a b c : ℕ) → a ≤ b → b ≤ c → slice_range xs a c ≡ slice_range xs a b ++ slice_range xs b c
split_range xs a b c low high =
    ap (λ k. take k (drop a xs)) {x = c - a} {y = (b - a) + (c - b)} (omega (arith, low, high))
    ∙ (take-add (b - a) (c - b) (drop a xs)
    ∙ ap (λ l. take (b - a) (drop a xs) ++ take (c - b) l) (drop-drop (b - a) a xs ∙ ap (λ k. drop k xs) (omega (arith, low))))

-- a row has at most the bytes up to the end
few_bytes : (image : List ℕ) (n end : ℕ) → n ≤ end → n + row_bytes image n end ≤ end
few_bytes image n end order = elim (leb (end - n) 16) as (λ t. leb (end - n) 16 ≡ t
    → n + (if t || is_zero image n end then end - n else 16) ≤ end) [
      | true ↦ λ few. omega (arith, order)
      | false ↦ λ many. let more : 16 < end - n = leb-false (end - n) 16 many in
          elim (is_zero image n end) as (λ z. n + (if z then end - n else 16) ≤ end) [ true ↦ omega (arith, order) | false ↦ omega (arith, more) ]
    ] refl

-- the bytes of the rows are the bytes from the first row on
pub rows_bytes : (g : Geometry) (t : List Role) (image : List ℕ) (to : ℕ) → Fits g image → to ≤ length image → (rows : List Row) (n : ℕ)
    → AreRows g t image to n to rows → (n ≤ to) × (flat_map (bytes_of image) rows ≡ slice_range image n to)
unfolding row_at
rows_bytes g t image to fits within [] n done = (
  omega (arith, done),
  subst (λ k. [] ≡ take k (drop n image)) {x = 0} {y = to - n} (omega (arith, done)) refl,
)
rows_bytes g t image to fits within (row ∷ more) n done =
    let next = rows_bytes g t image to fits within more (n + row.bytes) done.2 in
    let start : row.start ≡ n = ap (λ (r : Row). r.start) done.1 in (
      omega (arith, done.0),
      ap (λ k. slice_range image k (k + row.bytes) ++ flat_map (bytes_of image) more) start
          ∙ (ap (λ xs. slice_range image n (n + row.bytes) ++ xs) next.1
          ∙ sym (split_range image n (n + row.bytes) to (omega arith) next.0)),
    )

-- a zero field of an array is passed
pub array_goes_on : (g : Geometry) (t : List Role) (image : List ℕ) (to count n : ℕ) → is_zero_item g t image to n ≡ true
    → array_end g t image to (suc count) n ≡ array_end g t image to count (item_end g t (length image) to n)
unfolding array_end
array_goes_on g t image to count n is =
    ap (λ test. if test then array_end g t image to count (item_end g t (length image) to n) else n) is

-- any other field isn't
pub array_ends : (g : Geometry) (t : List Role) (image : List ℕ) (to count n : ℕ) → is_zero_item g t image to n ≡ false
    → array_end g t image to (suc count) n ≡ n
unfolding array_end
array_ends g t image to count n is =
    ap (λ test. if test then array_end g t image to count (item_end g t (length image) to n) else n) is

-- each row begins and ends at or before the end of all
pub rows_within : (g : Geometry) (t : List Role) (image : List ℕ) (to : ℕ) → Fits g image → to ≤ length image → (rows : List Row) (n : ℕ)
    → AreRows g t image to n to rows → AreWithin to rows
unfolding row_at
rows_within g t image to fits within [] n done k d before = absurd (omega (arith, before))
rows_within g t image to fits within (row ∷ more) n done zero d before =
    let next = rows_bytes g t image to fits within more (n + row.bytes) done.2 in
    let start : row.start ≡ n = ap (λ (r : Row). r.start) done.1 in
    omega (arith, start, next.0)
rows_within g t image to fits within (row ∷ more) n done (suc k) d before =
    rows_within g t image to fits within more (n + row.bytes) done.2 k d (omega arith)
