-- Counts of block-map positions, up to two, as they grow.
use Rattle.std.proofs.Common.{◌≡◌, ℕ, ◌+◌, ◌-◌, ◌*◌, ◌<◌, ◌≤◌, ◌∙◌, sym, ap, min, true, List, length, get_or, set, arith, inl, inr, length-set, get_or-set_same, get_or-set_other}
use Rattle.std.proofs.lemmas.Bool.{cases_eq}
use Rattle.vol_layout.specs.Geometry.{in_zone}
use Rattle.vol_layout.proofs.BodyLaws.{zone_bounds}
use Rattle.vol_layout.specs.declared.geometry.Geometry.{Geometry}
use Rattle.vol_inspect.specs.PlaceCounts.{found_at, Counts, CountsFrom, IsTally}
use Rattle.vol_inspect.proofs.Found.{here_at, here_yes, here_other, here_level, found_through}

-- if nothing more is counted, the counts don't change
pub counts_none : (g : Geometry) (more : ℕ → ℕ → ℕ) (old : List ℕ)
    → ((c e : ℕ) → in_zone g c ≡ true → e ≤ 3 → get_or old (4 * c + e) 0 ≤ 2) → ((c e : ℕ) → in_zone g c ≡ true → more c e ≡ 0) → Counts g more old old
counts_none g more old low none = λ c e zone lvl. let x = low c e zone lvl in let z = none c e zone in omega (arith, x, z)

-- adding to a count of two, up to two, changes nothing
two_stays : (x f : ℕ) → x ≤ 2 → (1 ≤ f → 2 ≤ x) → x ≡ min 2 (x + f)
two_stays x f low high = elim (cases_eq f 0) [ inl none ↦ omega (arith, none, low) | inr some ↦ let h = high (omega (arith, some)) in omega (arith, h, low) ]

-- numbers counted in two steps add up
pub counts_then : (g : Geometry) (f h more : ℕ → ℕ → ℕ) (old mid new : List ℕ) → Counts g f old mid → Counts g h mid new
    → ((c e : ℕ) → more c e ≡ f c e + h c e) → Counts g more old new
counts_then g f h more old mid new first next sum = λ c e zone lvl.
    let a = first c e zone lvl in let b = next c e zone lvl in let s = sum c e in omega (arith, a, b, s)

-- the number counted may be replaced by an equal one
pub counts_as : (g : Geometry) (f more : ℕ → ℕ → ℕ) (old new : List ℕ) → Counts g f old new → ((c e : ℕ) → more c e ≡ f c e) → Counts g more old new
counts_as g f more old new done same = λ c e zone lvl. done c e zone lvl ∙ ap (λ x. min 2 (get_or old (4 * c + e) 0 + x)) (sym (same c e))

module _ (g : Geometry) (image : List ℕ) where
  -- a tally for `d` levels is one for fewer levels
  pub tally_weaker : (d k : ℕ) (counts : List ℕ) → k ≤ d → IsTally g image d counts → IsTally g image k counts
  tally_weaker d k counts le tally = record {
    len = tally.len;
    low = tally.low;
    closed = λ b l c e less zb zc lvl some. tally.closed b l c e (omega arith) zb zc lvl some;
  }

  -- a block counted twice keeps its count, and so do the blocks below it
  pub counts_twice : (d b : ℕ) (counts : List ℕ) → d ≤ 3 → IsTally g image d counts → in_zone g b ≡ true → 2 ≤ get_or counts (4 * b + d) 0
      → CountsFrom g image d b counts counts
  counts_twice d b counts le tally zone two = λ c e zc lvl.
      two_stays (get_or counts (4 * c + e) 0) (found_at g image d b c e) (tally.low c e zc lvl)
      (λ some. let h = tally.closed b d c e (omega arith) zone zc lvl some in omega (arith, h, two))

  -- counting one position of a block adds 1 to its count
  pub counts_one : (d b : ℕ) (counts : List ℕ) → d ≤ 3 → IsTally g image d counts → in_zone g b ≡ true → get_or counts (4 * b + d) 0 < 2
      → Counts g (λ c e. here_at b c e d) counts (set counts (4 * b + d) (get_or counts (4 * b + d) 0 + 1))
  counts_one d b counts le tally zone few = λ c e zc lvl.
      let x = get_or counts (4 * b + d) 0 in
      let end = zone_bounds g b zone in
      let wide = tally.len in
      let low = tally.low c e zc lvl in
      elim (cases_eq b c) [
        | inl same ↦ elim (cases_eq e d) [
          | inl level ↦
              let at : 4 * c + e ≡ 4 * b + d = omega (arith, same, level) in
              let now = ap (λ n. get_or (set counts (4 * b + d) (x + 1)) n 0) at ∙ get_or-set_same counts (4 * b + d) (x + 1) 0 (omega arith) in
              let was = ap (λ n. get_or counts n 0) at in
              omega (arith, now, was, here_yes b c e d same level, few)
          | inr other ↦
              let now = get_or-set_other counts (4 * b + d) (4 * c + e) (x + 1) 0 (λ at. other (omega (arith, at, same))) in
              omega (arith, now, here_level b c e d other, low)
        ]
        | inr other ↦
            let now = get_or-set_other counts (4 * b + d) (4 * c + e) (x + 1) 0 (λ at. other (omega (arith, at, lvl, le))) in
            omega (arith, now, here_other b c e d other, low)
      ]

  -- after counting one position of a block with `d` levels, the counts are still a tally for `d` - 1 levels
  pub tally_one : (d b : ℕ) (counts : List ℕ) → d ≤ 3 → 1 ≤ d → IsTally g image d counts → in_zone g b ≡ true → get_or counts (4 * b + d) 0 < 2
      → IsTally g image (d - 1) (set counts (4 * b + d) (get_or counts (4 * b + d) 0 + 1))
  tally_one d b counts le deep tally zone few =
      let x = get_or counts (4 * b + d) 0 in
      let one = counts_one d b counts le tally zone few in
      record {
        len = length-set counts (4 * b + d) (x + 1) ∙ tally.len;
        low = λ c e zc lvl. let now = one c e zc lvl in omega (arith, now);
        closed = λ m k c e less zm zc lvl some.
            let now = get_or-set_other counts (4 * b + d) (4 * m + k) (x + 1) 0 (λ at. omega (arith, at, less, le)) in
            let then = one c e zc lvl in
            let was = tally.closed m k c e (omega arith) zm zc lvl some in
            let low = tally.low c e zc lvl in
            omega (arith, now, then, was, low);
      }

  -- counting a position and the positions below it keeps a tally
  pub tally_after : (n d b : ℕ) (old new : List ℕ) → n ≤ 3 → IsTally g image n old → CountsFrom g image d b old new → length new ≡ length old
      → IsTally g image n new
  tally_after n d b old new le tally done same = record {
    len = same ∙ tally.len;
    low = λ c e zc lvl. let now = done c e zc lvl in omega (arith, now);
    closed = λ m k c e less zm zc lvl some.
        let through = found_through g image d b m k c e some in
        let was = tally.closed m k c e less zm zc lvl some in
        let here = done m k zm (omega arith) in
        let there = done c e zc lvl in
        omega (arith, through, was, here, there);
  }
