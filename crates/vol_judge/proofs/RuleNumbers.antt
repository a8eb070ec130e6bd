-- The rules, identified by their numbers.
use Rattle.std.proofs.Common.{◌≡◌, ℕ, zero, suc, ◌+◌, ◌<◌, ◌⊎◌, inl, inr, Bool, true, false, List, [], ◌∷◌, Option, None, Some, Result, Ok, Err, refl, ap, sym, ◌∙◌, arith}
use Rattle.std.proofs.Common.{IfOk, if◌then◌else◌}
use Rattle.std.specs.Result.{result_err}
use Rattle.std.specs.declared.alloc.AllocError.{AllocError}
use Rattle.vol_layout.specs.Geometry.{geometry_of, geometry_read, is_whole, is_bounded}
use Rattle.vol_layout.specs.declared.edition.Edition.{Edition}
use Rattle.vol_layout.specs.declared.geometry.Geometry.{Geometry}
use Rattle.vol_layout.specs.declared.geometry.GeometryFault.TheVariants.{Short, Bounds}
use Rattle.vol_file.specs.Rules.{IsZoned}
use Rattle.vol_judge.specs.Judge.{IsFirstBroken}
use Rattle.vol_judge.specs.Sound.{free_rules, block_rules, volume_rules, nth_fact, rules, Rule, IsJudged}

-- if a fact and all facts of a list hold, all facts of the longer list hold
each_fact : (fact : Type 0) (facts : List (Type 0)) → fact → ((m : ℕ) → nth_fact facts m) → (m : ℕ) → nth_fact (fact ∷ facts) m
each_fact fact facts holds others zero = holds
each_fact fact facts holds others (suc m) = others m

-- if a fact and the first n facts of a list hold, the first n + 1 facts of the longer list hold
each_before : (fact : Type 0) (facts : List (Type 0)) (n : ℕ) → fact → ((m : ℕ) → m < n → nth_fact facts m)
    → (m : ℕ) → m < suc n → nth_fact (fact ∷ facts) m
each_before fact facts n holds others zero less = holds
each_before fact facts n holds others (suc m) less = others m (omega arith)

-- the first broken fact is None if all hold; else it is fact k, with all before it true
broken_or_not : (n : ℕ) (facts : List (Type 0)) (answer : Option ℕ) → IsFirstBroken n facts answer
    → ((answer ≡ None) × ((m : ℕ) → nth_fact facts m))
    ⊎ ((k : ℕ) × (answer ≡ Some (n + k)) × (nth_fact facts k → ⊥) × ((m : ℕ) → m < k → nth_fact facts m))
broken_or_not n [] answer none = inl (none, λ m. tt)
broken_or_not n (fact ∷ facts) answer (inl (is, fails)) = inr (0, is ∙ ap Some (omega arith), fails, λ m less. absurd (omega arith))
broken_or_not n (fact ∷ facts) answer (inr (holds, others)) =
    elim (broken_or_not (n + 1) facts answer others) [
      | inl (none, all) ↦ inl (none, each_fact fact facts holds all)
      | inr (k, is, fails, before) ↦ inr (suc k, is ∙ ap Some (omega arith), fails, each_before fact facts k holds before)
    ]

-- the first broken rule is the result of judging the image
pub judged : (free : Bool) (edition : Edition) (image : List ℕ) (answer : Option ℕ)
    → IsFirstBroken 0 (rules free edition image (geometry_of edition image)) answer → IsJudged free edition image answer
unfolding Rule
judged free edition image answer first =
    elim (broken_or_not 0 (rules free edition image (geometry_of edition image)) answer first) [
      | inl (none, all) ↦ rw none all
      | inr (k, is, fails, before) ↦ let same : answer ≡ Some k = is ∙ ap Some (omega arith) in rw same (record { broken = fails; before = before })
    ]

-- if reading the geometry fails with `Short`, the image isn't whole
chosen_short : (w b : Bool) (geometry : Geometry) → (if w then (if b then Ok geometry else Err Bounds) else Err Short) ≡ Err Short → w ≡ true → ⊥
chosen_short true true geometry e whole = absurd (cc)
chosen_short true false geometry e whole = absurd (cc)
chosen_short false b geometry e whole = absurd (cc)

chosen_bounds : (w b : Bool) (geometry : Geometry) → (if w then (if b then Ok geometry else Err Bounds) else Err Short) ≡ Err Bounds
    → (w ≡ true) × (b ≡ true → ⊥)
chosen_bounds true true geometry e = absurd (cc)
chosen_bounds true false geometry e = (refl, λ bounded. absurd (cc))
chosen_bounds false b geometry e = absurd (cc)

chosen_ok : (w b : Bool) (geometry other : Geometry) → (if w then (if b then Ok geometry else Err Bounds) else Err Short) ≡ Ok other
    → (w ≡ true) × (b ≡ true) × (geometry ≡ other)
chosen_ok true true geometry other e = (refl, refl, cc)
chosen_ok true false geometry other e = absurd (cc)
chosen_ok false b geometry other e = absurd (cc)

-- if the image is too short for its geometry, rule 1 is the first broken rule
pub judged_short : (free : Bool) (edition : Edition) (image : List ℕ) → geometry_read edition image ≡ Err Short → IsJudged free edition image (Some 1)
unfolding geometry_read
judged_short free edition image e =
    judged free edition image (Some 1)
    (inr (tt, inl (refl, chosen_short (is_whole edition image) (is_bounded edition image) (geometry_of edition image) e)))

-- if the sizes are out of range, rule 2 is the first broken rule
pub judged_bounds : (free : Bool) (edition : Edition) (image : List ℕ) → geometry_read edition image ≡ Err Bounds → IsJudged free edition image (Some 2)
unfolding geometry_read
judged_bounds free edition image e =
    let chosen = chosen_bounds (is_whole edition image) (is_bounded edition image) (geometry_of edition image) e in
    judged free edition image (Some 2) (inr (tt, inr (chosen.0, inl (refl, chosen.1))))

-- the geometry that was read is `geometry_of` of the image
pub read_sizes : (edition : Edition) (image : List ℕ) (geometry : Geometry) → geometry_read edition image ≡ Ok geometry → geometry ≡ geometry_of edition image
unfolding geometry_read
read_sizes edition image geometry e =
    let chosen = chosen_ok (is_whole edition image) (is_bounded edition image) (geometry_of edition image) geometry e in sym chosen.2

-- if the geometry can be read, the first broken rule is the first of rules 3 to 12
pub judged_volume : (free : Bool) (edition : Edition) (image : List ℕ) (geometry : Geometry) (least : Option ℕ)
    → geometry_read edition image ≡ Ok geometry → IsFirstBroken 3 (volume_rules free geometry image) least → IsJudged free edition image least
unfolding geometry_read
judged_volume free edition image geometry least e first =
    let chosen = chosen_ok (is_whole edition image) (is_bounded edition image) (geometry_of edition image) geometry e in
    judged free edition image least (inr (tt, inr (chosen.0, inr (chosen.1, (rw (← chosen.2) at first)))))

-- if rule 5 holds, the first broken rule of 5 to 8 is the first broken rule of 6 to 8
pub first_behind_zoned : (free : Bool) (geometry : Geometry) (image : List ℕ) (result : Result (Result ℕ ℕ) AllocError) → free ≡ true
    → IsZoned geometry image → IfOk result (λ found. IsFirstBroken 6 (free_rules true geometry image) (result_err found))
    → IfOk result (λ found. IsFirstBroken 5 (block_rules free geometry image) (result_err found))
first_behind_zoned true geometry image (Ok found) asked zoned first = inr (zoned, first)
first_behind_zoned true geometry image (Err refused) asked zoned first = tt
first_behind_zoned false geometry image result asked zoned first = absurd (cc)
