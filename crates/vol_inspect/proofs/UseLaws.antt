-- The uses of blocks, from the counts.
use Rattle.std.proofs.Common.{◌≡◌, ℕ, ◌+◌, ◌*◌, ◌<◌, ◌≤◌, ◌∙◌, ◌==◌, sym, ap, min, not, Bool, true, false, cond, if◌then◌else◌, nat_lt, List, [], ◌∷◌, get_or, refl, arith, lit≤, inl, inr}
use Rattle.std.proofs.lemmas.Bool.{cases_lt, ltb-false, lt-ltb}
use Rattle.std.proofs.lemmas.List.Sums.{sum_by-cons}
use Rattle.std.specs.List.{count_by}
use Rattle.vol_layout.specs.Geometry.{in_zone, Fits}
use Rattle.vol_layout.specs.declared.geometry.Geometry.{Geometry}
use Rattle.vol_layout.specs.declared.mode.Kind.{Kind}
use Rattle.vol_layout.specs.declared.mode.Kind.TheVariants as kinds
use Rattle.vol_layout.proofs.NameLaws.{zone_some}
use Rattle.vol_free.specs.FreeWalk.{free_walk}
use Rattle.vol_free.specs.Walk.{left_after}
use Rattle.vol_reports.specs.Icheck.{one_if, use_count, met_count, is_met, is_lost_of}
use Rattle.vol_inspect.specs.PlaceCounts.{CountsKind, naming_count}
use Rattle.vol_inspect.specs.FreeListStatus.{listed_at, listed_in, listed_of}
use Rattle.vol_inspect.specs.Uses.{use_in, use_of, data_use, free_use, is_listed, named_in}
use Rattle.vol_inspect.specs.declared.free_list.Listed.{Listed}
use Rattle.vol_inspect.specs.declared.free_list.Listed.TheVariants.{Absent, Plain, Linking}
use Rattle.vol_inspect.specs.declared.uses.Use.{Use}
use Rattle.vol_inspect.specs.declared.uses.Use.TheVariants as uses
use Rattle.vol_inspect.proofs.Named.{all_levels, used_by_level}

-- a number from the start of the data zone to before its end is in the zone
pub zone_within : (geometry : Geometry) (k : ℕ) → geometry.zone_start ≤ k → k < geometry.zone_end → in_zone geometry k ≡ true
zone_within geometry k from to = grind (arith, from, to)

-- the count at level 0 is the first of a block's counts
count_here : (counts : List ℕ) (b n : ℕ) → get_or counts (4 * b + 0) 0 ≡ n → get_or counts (4 * b) 0 ≡ n
count_here counts b n is = let at : 4 * b ≡ 4 * b + 0 = omega arith in ap (λ k. get_or counts k 0) at ∙ is

-- the sum of four counts up to two is the sum of the numbers, up to two
capped : (a b c d : ℕ) → min 2 (min 2 a + min 2 b + min 2 c + min 2 d) ≡ min 2 (a + b + c + d)
capped a b c d = omega arith

-- the sum of two counts up to two is the sum of the numbers, up to two
both_capped : (x y a b : ℕ) → min 2 x ≡ min 2 a → min 2 y ≡ min 2 b → min 2 (x + y) ≡ min 2 (a + b)
both_capped x y a b first next = omega (arith, first, next)

-- the counts of a block give the number of positions of this kind, up to two
kind_is : (g : Geometry) (image counts : List ℕ) (kind : Kind) (b : ℕ) → CountsKind g image kind counts → in_zone g b ≡ true
    → min 2 (named_in counts (4 * b)) ≡ min 2 (all_levels (naming_count g image kind b))
kind_is g image counts kind b done zone =
    let n = naming_count g image kind b in
    ap (min 2) (λ i. count_here counts b (min 2 (n 0)) (done b 0 zone (lit≤ tt)) i + done b 1 zone (lit≤ tt) i + done b 2 zone (lit≤ tt) i + done b 3 zone (lit≤ tt) i)
    ∙ capped (n 0) (n 1) (n 2) (n 3)

-- the counts of a data block give the number of positions that point to it, up to two
pub named_is : (g : Geometry) (image directories files : List ℕ) (b : ℕ) → Fits g image → in_zone g b ≡ true
    → CountsKind g image kinds.Directory directories → CountsKind g image kinds.Regular files
    → min 2 (named_in directories (4 * b) + named_in files (4 * b)) ≡ min 2 (use_count g image b)
named_is g image directories files b fits zone ds fs =
    both_capped (named_in directories (4 * b)) (named_in files (4 * b)) (all_levels (naming_count g image kinds.Directory b))
    (all_levels (naming_count g image kinds.Regular b))
    (kind_is g image directories kinds.Directory b ds zone) (kind_is g image files kinds.Regular b fs zone)
    ∙ ap (min 2) (sym (used_by_level g image b (zone_some g image b fits zone)))

-- a block in an array is in the free list
listed_yes : (left : ℕ) → is_listed (listed_at left) ≡ true
listed_yes left = elim (left == 1) as (λ t. is_listed (if t then Linking else Plain) ≡ true) [ true ↦ refl | false ↦ refl ]

-- the blocks that a walk passed are those in the free list
listed_met : (g : Geometry) (image : List ℕ) (b : ℕ) (met : List ℕ) → not (count_by (λ k. k == b) met == 0) ≡ is_listed (listed_in g image met b)
unfolding listed_in
listed_met g image b [] = refl
listed_met g image b (m ∷ met) =
    let split = sum_by-cons (λ k. one_if (k == b)) m met in
    let rest = listed_met g image b met in
    ap (λ n. not (n == 0)) split
    ∙ elim (m == b) as (λ t. not (one_if t + count_by (λ k. k == b) met == 0) ≡ is_listed (if t then listed_at (left_after g image met) else listed_in g image met b)) [
      | true ↦ grind (arith, listed_yes (left_after g image met))
      | false ↦ let none : 0 + count_by (λ k. k == b) met ≡ count_by (λ k. k == b) met = omega arith in ap (λ n. not (n == 0)) none ∙ rest
    ]

pub met_is : (g : Geometry) (image : List ℕ) (b : ℕ) → is_listed (listed_of g image b) ≡ is_met g image b
unfolding met_count
met_is g image b = sym (listed_met g image b (free_walk g image).met)

-- a data block to which two positions point has the use `Twice`
twice : (n d f : ℕ) (met : Bool) (how : Listed) → 2 ≤ n → data_use n met how d f ≡ uses.Twice
twice n d f met how many =
    ap (λ t. cond t uses.Twice (if is_lost_of n met then uses.Lost else if met then free_use how
    else if d == 1 then uses.Directory else if f == 1 then uses.File else uses.Pointer)) (lt-ltb 1 (n + one_if met) (omega (arith, many)))

-- a data block has the same use if the counts are the same up to two
data_is : (n d f u x y : ℕ) (met : Bool) (how : Listed) → min 2 n ≡ min 2 u → d ≡ min 2 x → f ≡ min 2 y → x + y ≤ u
    → data_use n met how d f ≡ data_use u met how x y
data_is n d f u x y met how count first next all = elim (cases_lt u 2) [
  | inl few ↦
      let a : n ≡ u = omega (arith, count, few) in
      let b : d ≡ x = omega (arith, first, all, few) in
      let c : f ≡ y = omega (arith, next, all, few) in
      (λ i. data_use (a i) met how (b i) (c i))
  | inr many ↦ twice n d f met how (omega (arith, count, many)) ∙ sym (twice u x y met how many)
]

-- the use of each block computed from the counts is right
pub use_is : (g : Geometry) (image directories files : List ℕ) (listed : List Listed) (b : ℕ) → Fits g image → b < g.zone_end
    → CountsKind g image kinds.Directory directories → CountsKind g image kinds.Regular files
    → ((x : ℕ) → x < g.zone_end → get_or listed x Absent ≡ listed_of g image x) → use_in g directories files listed b ≡ use_of g image b
unfolding use_of
use_is g image directories files listed b fits low ds fs ls =
    let n = named_in directories (4 * b) + named_in files (4 * b) in
    let d = naming_count g image kinds.Directory b in
    let f = naming_count g image kinds.Regular b in
    let mine = data_use n (is_listed (get_or listed b Absent)) (get_or listed b Absent) (get_or directories (4 * b) 0) (get_or files (4 * b) 0) in
    let theirs = data_use (use_count g image b) (is_met g image b) (listed_of g image b) (d 0) (f 0) in
    let same : (if nat_lt b g.zone_start then uses.IList else mine) ≡ (if nat_lt b g.zone_start then uses.IList else theirs) =
    elim (nat_lt b g.zone_start) as (λ t. nat_lt b g.zone_start ≡ t → (if t then uses.IList else mine) ≡ (if t then uses.IList else theirs)) [
      | true ↦ λ e. refl
      | false ↦ λ e.
          let zone : in_zone g b ≡ true = zone_within g b (ltb-false b g.zone_start e) low in
          (λ i. data_use n (is_listed (ls b low i)) (ls b low i) (get_or directories (4 * b) 0) (get_or files (4 * b) 0))
          ∙ ((λ i. data_use n (met_is g image b i) (listed_of g image b) (get_or directories (4 * b) 0) (get_or files (4 * b) 0))
          ∙ data_is n (get_or directories (4 * b) 0) (get_or files (4 * b) 0) (use_count g image b) (d 0) (f 0) (is_met g image b) (listed_of g image b)
          (named_is g image directories files b fits zone ds fs)
          (count_here directories b (min 2 (d 0)) (ds b 0 zone (lit≤ tt))) (count_here files b (min 2 (f 0)) (fs b 0 zone (lit≤ tt)))
          (omega (arith, used_by_level g image b (zone_some g image b fits zone))))
    ] refl in
    ap (λ (u : Use). if b == 0 then uses.Boot else if b == 1 then uses.SuperBlock else u) same
