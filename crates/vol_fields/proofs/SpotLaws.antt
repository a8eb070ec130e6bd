-- Lemmas on fields that follow one another: a field has the byte, and each byte of the field has the same field.
use Rattle.std.proofs.Common.{◌≡◌, ℕ, ◌+◌, ◌-◌, ◌*◌, ◌/◌, ◌%◌, ◌<◌, ◌≤◌, ◌∙◌, List, [], ◌∷◌, refl, ap, zero, suc, arith, if◌then◌else◌, true, false, ltb}
use Rattle.std.proofs.lemmas.Bool.{ltb-true, ltb-false}
use Rattle.std.proofs.lemmas.Nat.{div-add-mod', div-mul-add, div_below}
use Rattle.std.proofs.Math.Nat.{lt-div-mul-add, mul-zero, mul-le-mul_right}
use Rattle.vol_fields.specs.declared.names.Name.TheVariants as names
use Rattle.vol_fields.specs.Runs.{total, spot_in, spot_at}
use Rattle.vol_fields.specs.declared.runs.Run.{Run}
use Rattle.vol_fields.specs.declared.runs.Spot.{Spot}

-- byte n is one of a field's bytes
abbrev pub Within : Spot → ℕ → Type 0
Within s n = (s.start ≤ n) × (n < s.start + s.bytes)

-- a test on numbers chooses one of two
pub by_lt : {A : Type 0} (P : A → Type 0) (x y : A) (r k : ℕ) → (r < k → P x) → (k ≤ r → P y) → P (if ltb r k then x else y)
by_lt P x y r k low high = elim (ltb r k) as (λ t. ltb r k ≡ t → P (if t then x else y)) [
  | true ↦ λ t. low (ltb-true r k t)
  | false ↦ λ t. high (ltb-false r k t)
] refl

-- a test that holds chooses the first
pub picks : {A : Type 0} (x y : A) (r k : ℕ) → r < k → (if ltb r k then x else y) ≡ x
picks x y r k low = by_lt (λ z. z ≡ x) x y r k (λ h. refl) (λ h. absurd (omega (arith, low, h)))

-- a test that fails chooses the second
pub skips : {A : Type 0} (x y : A) (r k : ℕ) → k ≤ r → (if ltb r k then x else y) ≡ y
skips x y r k high = by_lt (λ z. z ≡ y) x y r k (λ h. absurd (omega (arith, high, h))) (λ h. refl)

-- a run with a byte has fields of at least one byte
positive : (m count b : ℕ) → m < count * b → 0 < b
positive m count zero h = omega (arith, mul-zero count)
positive m count (suc b) h = omega arith

-- a field of a run has its byte
run_has : (run : Run) (base n : ℕ) → base ≤ n → n - base < run.count * run.bytes → Within (spot_in run base n) n
run_has run base n after within =
    let whole : (n - base) / run.bytes * run.bytes + (n - base) % run.bytes ≡ n - base = div-add-mod' (n - base) run.bytes in
    let less : n - base < (n - base) / run.bytes * run.bytes + run.bytes = lt-div-mul-add (positive (n - base) run.count run.bytes within) in
    (omega (arith, whole), omega (arith, less))

-- each byte of a field of a run has the same field, and is in the run
run_same : (run : Run) (base n q : ℕ) → base ≤ n → n - base < run.count * run.bytes → Within (spot_in run base n) q
    → (base ≤ q) × (q - base < run.count * run.bytes) × (spot_in run base q ≡ spot_in run base n)
run_same run base n q after within has =
    let k = (n - base) / run.bytes in
    let r = q - (base + k * run.bytes) in
    let low : base + k * run.bytes ≤ q = has.0 in
    let high : q < base + k * run.bytes + run.bytes = has.1 in
    let split : q - base ≡ k * run.bytes + r = omega (arith, low) in
    let small : r < run.bytes = omega (arith, low, high) in
    let before : k < run.count = div_below (n - base) run.bytes run.count (positive (n - base) run.count run.bytes within) within in
    let room : (k + 1) * run.bytes ≤ run.count * run.bytes = mul-le-mul_right run.bytes (omega (arith, before)) in
    let index : (q - base) / run.bytes ≡ k = ap (λ x. x / run.bytes) split ∙ div-mul-add k run.bytes r small in (
      omega (arith, low),
      omega (arith, split, small, room),
      ap (λ x. record { name = run.name; index = run.first + x; start = base + x * run.bytes; bytes = run.bytes }) index,
    )

-- the field found has the byte, and begins at or after the first
pub spot_has : (runs : List Run) (base n : ℕ) → base ≤ n → Within (spot_at runs base n) n × (base ≤ (spot_at runs base n).start)
unfolding spot_at
spot_has [] base n after = ((omega arith, omega arith), after)
spot_has (run ∷ more) base n after =
    by_lt (λ s. Within s n × (base ≤ s.start)) (spot_in run base n) (spot_at more (base + run.count * run.bytes) n) (n - base) (run.count * run.bytes)
    (λ low. (run_has run base n after low, omega arith))
    (λ high. let rest = spot_has more (base + run.count * run.bytes) n (omega arith) in (rest.0, omega (arith, rest.1)))

-- a byte of the runs has a field that ends at or before their end
pub spot_ends : (runs : List Run) (base n : ℕ) → base ≤ n → n < base + total runs
    → (spot_at runs base n).start + (spot_at runs base n).bytes ≤ base + total runs
unfolding spot_at
spot_ends [] base n after within = omega arith
spot_ends (run ∷ more) base n after within =
    by_lt (λ s. s.start + s.bytes ≤ base + total (run ∷ more)) (spot_in run base n) (spot_at more (base + run.count * run.bytes) n) (n - base)
    (run.count * run.bytes)
    (λ low. let before : (n - base) / run.bytes < run.count = div_below (n - base) run.bytes run.count (positive (n - base) run.count run.bytes low) low in
    let room : ((n - base) / run.bytes + 1) * run.bytes ≤ run.count * run.bytes = mul-le-mul_right run.bytes (omega (arith, before)) in
    omega (arith, room))
    (λ high. let rest = spot_ends more (base + run.count * run.bytes) n (omega arith) (omega arith) in omega (arith, rest))

-- each byte of a field has the same field
pub spot_same : (runs : List Run) (base n q : ℕ) → base ≤ n → Within (spot_at runs base n) q → spot_at runs base q ≡ spot_at runs base n
unfolding spot_at
spot_same [] base n q after = λ has. ap (λ x. record { name = names.Past; index = x - base; start = x; bytes = 1 }) (omega (arith, has.0, has.1))
spot_same (run ∷ more) base n q after =
    by_lt (λ s. Within s q → spot_at (run ∷ more) base q ≡ s) (spot_in run base n) (spot_at more (base + run.count * run.bytes) n) (n - base)
    (run.count * run.bytes)
    (λ low has. let same = run_same run base n q after low has in picks _ _ (q - base) (run.count * run.bytes) same.1 ∙ same.2)
    (λ high has. let later = spot_has more (base + run.count * run.bytes) n (omega arith) in
    skips _ _ (q - base) (run.count * run.bytes) (omega (arith, later.1, has.0)) ∙ spot_same more (base + run.count * run.bytes) n q (omega arith) has)
