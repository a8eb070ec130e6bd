-- The use that a cell shows, and the places of its blocks.
use Rattle.std.proofs.Common.{◌≡◌, ℕ, zero, suc, ◌+◌, ◌-◌, ◌*◌, ◌<◌, ◌≤◌, ◌==◌, ◌&&◌, ◌||◌, ◌∙◌, ◌⊎◌, inl, inr, not, nat_lt, Bool, true, false, if◌then◌else◌, List, [], ◌∷◌, Option, Result, Ok, Err, length, get_or, refl, sym, ap, arith}
use Rattle.std.proofs.Math.Nat.{div-mul-le_self}
use Rattle.std.proofs.lemmas.Nat.{div_below, mul-le}
use Rattle.std.proofs.lemmas.Bool.Decides.{nat_tests}
use Rattle.std.specs.Prelude.{IfOk}
use Rattle.std.specs.Global.{Vec}
use Rattle.std.specs.declared.alloc.AllocError.{AllocError}
use Rattle.std.proofs.lemmas.List.Sums.{count_by-le-length, length-filter}
use Rattle.vol_inspect.specs.Cells.{cell_count, cell_of, has_fault, is_hidden, more_common, most_common, most_of, rivals, telling, use_count}
use Rattle.vol_inspect.specs.Legend.{is_there, kinds, legend}
use Rattle.vol_inspect.specs.Laws.{HidesNoFault, HidesNoGap, MarksAreRight, NoUseHasMore}
use Rattle.vol_inspect.specs.declared.cell_groups.Cell.{Cell}
use Rattle.vol_inspect.specs.declared.cell_groups.Cell.TheVariants as cells
use Rattle.vol_inspect.specs.declared.uses.Use.{Use}
use Rattle.vol_inspect.specs.declared.uses.Use.TheVariants as uses

-- a cell begins within the blocks
pub cell_within : (each n k : ℕ) → 1 ≤ each → k < cell_count each n → k * each < n
cell_within each n k some low =
    let all : cell_count each n * each ≤ n + (each - 1) = div-mul-le_self (n + (each - 1)) each in
    let mine : (k + 1) * each ≤ cell_count each n * each = mul-le (k + 1) each (cell_count each n) each (omega (arith, low)) (omega arith) in
    let more : (k + 1) * each ≡ k * each + each = grind arith in
    omega (arith, all, mine, more, some)

-- there are no more cells than blocks
pub cells_few : (each n : ℕ) → 1 ≤ each → cell_count each n ≤ n
cells_few each n some =
    let all : (n + 1) * each ≡ n * each + each = grind arith in
    let more : n * 1 ≤ n * each = mul-le n 1 n each (omega arith) some in
    let below = div_below (n + (each - 1)) each (n + 1) (omega (arith, some)) (omega (arith, all, more, some)) in
    omega (arith, below)

-- a legend has at most 15 kinds of cells
legend_few : (blocks : List (Option Use)) (found : List Cell) → length (legend blocks found) ≤ 15
unfolding legend
legend_few blocks found =
    let size = length-filter (is_there blocks found) kinds in
    let few = count_by-le-length (is_there blocks found) kinds in
    omega (arith, size, few)

pub few_kinds : (blocks : List (Option Use)) (found : List Cell) (result : Result (Vec Cell) AllocError)
    → IfOk result (λ all. all.items ≡ legend blocks found) → IfOk result (λ all. length all.items ≤ 15)
few_kinds blocks found (Ok all) is = let few = legend_few blocks found in omega (arith, few, ap (λ (xs : List Cell). length xs) is)
few_kinds blocks found (Err refused) is = tt

-- of two uses, the chosen one has at least as many blocks as each
chosen : (f : Use → ℕ) (a b : Use) (t : Bool) → (t ≡ true → f b ≤ f a) → (t ≡ false → f a ≤ f b)
    → (f a ≤ f (if t then a else b)) × (f b ≤ f (if t then a else b))
chosen f a b true above below = (omega arith, above refl)
chosen f a b false above below = (below refl, omega arith)

-- the more common of two uses has at least as many blocks as each
more : (blocks : List (Option Use)) (a b : Use)
    → (use_count a blocks ≤ use_count (more_common blocks a b) blocks) × (use_count b blocks ≤ use_count (more_common blocks a b) blocks)
more blocks a b =
    chosen (λ u. use_count u blocks) a b (nat_lt (use_count b blocks) (use_count a blocks)) (λ e. grind (arith, nat_tests)) (λ e. grind (arith, nat_tests))

-- the use of most blocks has at least as many as the first one
rises : (blocks : List (Option Use)) (best : Use) (us : List Use) → use_count best blocks ≤ use_count (most_of blocks best us) blocks
unfolding most_of
rises blocks best [] = omega arith
rises blocks best (u ∷ us) =
    let one = (more blocks best u).0 in
    let rest = rises blocks (more_common blocks best u) us in
    omega (arith, one, rest)

-- the use of most blocks has at least as many as each further one
within : (blocks : List (Option Use)) (best : Use) (us : List Use) (k : ℕ) → k < length us
    → use_count (get_or us k uses.Free) blocks ≤ use_count (most_of blocks best us) blocks
unfolding most_of
within blocks best [] k low = absurd (omega (arith, low))
within blocks best (u ∷ us) zero low =
    let one = (more blocks best u).1 in
    let rest = rises blocks (more_common blocks best u) us in
    omega (arith, one, rest)
within blocks best (u ∷ us) (suc k) low = within blocks (more_common blocks best u) us k (omega (arith, low))

-- no use has more blocks than the most common one
pub none_above : (blocks : List (Option Use)) (u : Use) → use_count u blocks ≤ use_count (most_common blocks) blocks
none_above blocks uses.Free = rises blocks uses.Free rivals
none_above blocks uses.Chain = within blocks uses.Free rivals 0 (omega arith)
none_above blocks uses.File = within blocks uses.Free rivals 1 (omega arith)
none_above blocks uses.Pointer = within blocks uses.Free rivals 2 (omega arith)
none_above blocks uses.Directory = within blocks uses.Free rivals 3 (omega arith)
none_above blocks uses.IList = within blocks uses.Free rivals 4 (omega arith)
none_above blocks uses.Boot = within blocks uses.Free rivals 5 (omega arith)
none_above blocks uses.SuperBlock = within blocks uses.Free rivals 6 (omega arith)
none_above blocks uses.Lost = within blocks uses.Free rivals 7 (omega arith)
none_above blocks uses.Twice = within blocks uses.Free rivals 8 (omega arith)
none_above blocks uses.Unknown = within blocks uses.Free rivals 9 (omega arith)
none_above blocks uses.Unreadable = within blocks uses.Free rivals 10 (omega arith)

-- the use that a cell shows
abbrev use_in : Cell → Use
use_in cells.Blank = uses.Free
use_in (cells.Of u) = u
use_in cells.Faulty = uses.Free
use_in cells.Unsure = uses.Free

-- a cell that shows a use is that of the most common one, and hides no fault and no gap
shown_is : (empty lost twice unknown unread faulty : Bool) (best shown : Use)
    → (if empty then cells.Blank else if lost || twice then cells.Faulty
    else if unknown || unread then (if faulty then cells.Faulty else cells.Unsure) else cells.Of best) ≡ cells.Of shown
    → (best ≡ shown) × (lost ≡ false) × (twice ≡ false) × (unknown ≡ false) × (unread ≡ false)
shown_is true lost twice unknown unread faulty best shown is = absurd (cc)
shown_is false true twice unknown unread faulty best shown is = absurd (cc)
shown_is false false true unknown unread faulty best shown is = absurd (cc)
shown_is false false false true unread true best shown is = absurd (cc)
shown_is false false false true unread false best shown is = absurd (cc)
shown_is false false false false true true best shown is = absurd (cc)
shown_is false false false false true false best shown is = absurd (cc)
shown_is false false false false false faulty best shown is = (ap use_in is, refl, refl, refl, refl)

-- a cell that is unsure has no fault
unsure_is : (empty lost twice unknown unread faulty : Bool) (best : Use)
    → (if empty then cells.Blank else if lost || twice then cells.Faulty
    else if unknown || unread then (if faulty then cells.Faulty else cells.Unsure) else cells.Of best) ≡ cells.Unsure → faulty ≡ false
unsure_is empty lost twice unknown unread false best is = refl
unsure_is true lost twice unknown unread true best is = absurd (cc)
unsure_is false true twice unknown unread true best is = absurd (cc)
unsure_is false false true unknown unread true best is = absurd (cc)
unsure_is false false false true unread true best is = absurd (cc)
unsure_is false false false false true true best is = absurd (cc)
unsure_is false false false false false true best is = absurd (cc)

-- what isn't hidden has no blocks, or is the use of most
unhidden : (best u n : ℕ) → (not (u == best) && nat_lt 0 n) ≡ false → (n ≡ 0) ⊎ (u ≡ best)
unhidden best u n is = grind (arith, nat_tests)

-- the use with a priority is the one at its place among all uses
ranked : (u : Use) → get_or (uses.Free ∷ rivals) (telling u) uses.Free ≡ u
ranked uses.Free = refl
ranked uses.Chain = refl
ranked uses.File = refl
ranked uses.Pointer = refl
ranked uses.Directory = refl
ranked uses.IList = refl
ranked uses.Boot = refl
ranked uses.SuperBlock = refl
ranked uses.Lost = refl
ranked uses.Twice = refl
ranked uses.Unknown = refl
ranked uses.Unreadable = refl

-- uses with the same priority are the same
same_use : (u v : Use) → telling u ≡ telling v → u ≡ v
same_use u v same = sym (ranked u) ∙ (ap (λ n. get_or (uses.Free ∷ rivals) n uses.Free) same ∙ ranked v)

-- if a use isn't hidden in a cell that shows a use, no block has it or it is the one shown
not_hidden : (blocks : List (Option Use)) (best shown u : Use) → best ≡ shown → is_hidden blocks best u ≡ false → (use_count u blocks ≡ 0) ⊎ (shown ≡ u)
not_hidden blocks best shown u is shows = elim (unhidden (telling best) (telling u) (use_count u blocks) shows) [
  | inl none ↦ inl none
  | inr same ↦ inr (sym is ∙ sym (same_use u best same))
]

-- what a cell that shows a use has
shown_of : (blocks : List (Option Use)) (shown : Use) → cell_of blocks ≡ cells.Of shown
    → (most_common blocks ≡ shown) × (is_hidden blocks (most_common blocks) uses.Lost ≡ false) × (is_hidden blocks (most_common blocks) uses.Twice ≡ false)
    × (is_hidden blocks (most_common blocks) uses.Unknown ≡ false) × (is_hidden blocks (most_common blocks) uses.Unreadable ≡ false)
unfolding cell_of
shown_of blocks shown is =
    let best = most_common blocks in
    shown_is (use_count best blocks == 0) (is_hidden blocks best uses.Lost) (is_hidden blocks best uses.Twice) (is_hidden blocks best uses.Unknown)
    (is_hidden blocks best uses.Unreadable) (has_fault blocks) best shown is

pub no_use_has_more : NoUseHasMore
no_use_has_more blocks shown u is =
    let most = (shown_of blocks shown is).0 in
    let above = none_above blocks u in
    omega (arith, above, ap (λ (v : Use). use_count v blocks) most)

pub hides_no_fault : HidesNoFault
hides_no_fault blocks shown is =
    let it = shown_of blocks shown is in
    (not_hidden blocks (most_common blocks) shown uses.Lost it.0 it.1, not_hidden blocks (most_common blocks) shown uses.Twice it.0 it.2)

-- of two counts none is above 0
both_none : (a b : ℕ) → (nat_lt 0 a || nat_lt 0 b) ≡ false → (a ≡ 0) × (b ≡ 0)
both_none a b is = (grind (arith, nat_tests), grind (arith, nat_tests))

unsure_of : (blocks : List (Option Use)) → cell_of blocks ≡ cells.Unsure → has_fault blocks ≡ false
unfolding cell_of
unsure_of blocks is =
    let best = most_common blocks in
    unsure_is (use_count best blocks == 0) (is_hidden blocks best uses.Lost) (is_hidden blocks best uses.Twice) (is_hidden blocks best uses.Unknown)
    (is_hidden blocks best uses.Unreadable) (has_fault blocks) best is

pub hides_no_gap : HidesNoGap
hides_no_gap blocks shown = (
  λ is. let it = shown_of blocks shown is in
      (not_hidden blocks (most_common blocks) shown uses.Unknown it.0 it.3, not_hidden blocks (most_common blocks) shown uses.Unreadable it.0 it.4),
  λ is. both_none (use_count uses.Lost blocks) (use_count uses.Twice blocks) (unsure_of blocks is),
)

-- a cell that is faulty hides a fault, or has one
faulty_is : (empty lost twice unknown unread faulty : Bool) (best : Use)
    → (if empty then cells.Blank else if lost || twice then cells.Faulty
    else if unknown || unread then (if faulty then cells.Faulty else cells.Unsure) else cells.Of best) ≡ cells.Faulty
    → (lost || (twice || faulty)) ≡ true
faulty_is true lost twice unknown unread faulty best is = absurd (cc)
faulty_is false true twice unknown unread faulty best is = refl
faulty_is false false true unknown unread faulty best is = refl
faulty_is false false false unknown unread true best is = refl
faulty_is false false false true unread false best is = absurd (cc)
faulty_is false false false false true false best is = absurd (cc)
faulty_is false false false false false false best is = absurd (cc)

-- a cell that is unsure hides a gap
gap_is : (empty lost twice unknown unread faulty : Bool) (best : Use)
    → (if empty then cells.Blank else if lost || twice then cells.Faulty
    else if unknown || unread then (if faulty then cells.Faulty else cells.Unsure) else cells.Of best) ≡ cells.Unsure → (unknown || unread) ≡ true
gap_is true lost twice unknown unread faulty best is = absurd (cc)
gap_is false true twice unknown unread faulty best is = absurd (cc)
gap_is false false true unknown unread faulty best is = absurd (cc)
gap_is false false false true unread faulty best is = refl
gap_is false false false false true faulty best is = refl
gap_is false false false false false faulty best is = absurd (cc)

-- a cell that is blank has no block of the use of most
blank_is : (empty lost twice unknown unread faulty : Bool) (best : Use)
    → (if empty then cells.Blank else if lost || twice then cells.Faulty
    else if unknown || unread then (if faulty then cells.Faulty else cells.Unsure) else cells.Of best) ≡ cells.Blank → empty ≡ true
blank_is true lost twice unknown unread faulty best is = refl
blank_is false true twice unknown unread faulty best is = absurd (cc)
blank_is false false true unknown unread faulty best is = absurd (cc)
blank_is false false false true unread true best is = absurd (cc)
blank_is false false false true unread false best is = absurd (cc)
blank_is false false false false true true best is = absurd (cc)
blank_is false false false false true false best is = absurd (cc)
blank_is false false false false false faulty best is = absurd (cc)

-- of a fault that is hidden there are blocks
faults : (lost twice best n m : ℕ) (t : Bool) → ((not (lost == best) && nat_lt 0 n) || ((not (twice == best) && nat_lt 0 m) || t)) ≡ true
    → (t ≡ true → (nat_lt 0 n || nat_lt 0 m) ≡ true) → (nat_lt 0 n || nat_lt 0 m) ≡ true
faults lost twice best n m true some is = is refl
faults lost twice best n m false some is = grind (arith, nat_tests)

-- of a gap that is hidden there are blocks
gaps : (unknown unread best n m : ℕ) → ((not (unknown == best) && nat_lt 0 n) || (not (unread == best) && nat_lt 0 m)) ≡ true → (1 ≤ n) ⊎ (1 ≤ m)
gaps unknown unread best n m some = grind (arith, nat_tests)

marked : (blocks : List (Option Use)) → cell_of blocks ≡ cells.Faulty → has_fault blocks ≡ true
unfolding cell_of
marked blocks is =
    let best = most_common blocks in
    faults (telling uses.Lost) (telling uses.Twice) (telling best) (use_count uses.Lost blocks) (use_count uses.Twice blocks) (has_fault blocks)
    (faulty_is (use_count best blocks == 0) (is_hidden blocks best uses.Lost) (is_hidden blocks best uses.Twice) (is_hidden blocks best uses.Unknown)
    (is_hidden blocks best uses.Unreadable) (has_fault blocks) best is) (λ has. has)

unsure : (blocks : List (Option Use)) → cell_of blocks ≡ cells.Unsure
    → (1 ≤ use_count uses.Unknown blocks) ⊎ (1 ≤ use_count uses.Unreadable blocks)
unfolding cell_of
unsure blocks is =
    let best = most_common blocks in
    gaps (telling uses.Unknown) (telling uses.Unreadable) (telling best) (use_count uses.Unknown blocks) (use_count uses.Unreadable blocks)
    (gap_is (use_count best blocks == 0) (is_hidden blocks best uses.Lost) (is_hidden blocks best uses.Twice) (is_hidden blocks best uses.Unknown)
    (is_hidden blocks best uses.Unreadable) (has_fault blocks) best is)

-- a number that is equal to 0 by a test is 0
is_zero : (n : ℕ) → (n == 0) ≡ true → n ≡ 0
is_zero n is = grind (arith, nat_tests)

blank : (blocks : List (Option Use)) → cell_of blocks ≡ cells.Blank → (u : Use) → use_count u blocks ≡ 0
unfolding cell_of
blank blocks is u =
    let best = most_common blocks in
    let none = is_zero (use_count best blocks) (blank_is (use_count best blocks == 0) (is_hidden blocks best uses.Lost) (is_hidden blocks best uses.Twice)
    (is_hidden blocks best uses.Unknown) (is_hidden blocks best uses.Unreadable) (has_fault blocks) best is) in
    let above = none_above blocks u in
    omega (arith, above, none)

pub marks_are_right : MarksAreRight
marks_are_right blocks = (marked blocks, unsure blocks, blank blocks)
