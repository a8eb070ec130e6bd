-- Each step preserves the invariant of the table.
use Rattle.std.proofs.Common.{◌≡◌, ◌≢◌, ℕ, zero, suc, ◌+◌, ◌-◌, ◌%◌, ◌^◌, ◌<◌, ◌≤◌, List, [], ◌∷◌, ◌++◌, length, set, slice_index, min, replicate, ◌*◌, sym, refl, ap, ◌∙◌, subst, arith, length-set, get_or-set_same, get_or-set_other, ⊎_elim}
use Rattle.std.proofs.lemmas.Bool.{cases_eq}
use Rattle.std.proofs.Math.Nat.{mod-add-mod, mod-eq_of_lt}
use mathlib.Core.Option.{some, some-injective, some-ne-none}
use lib.ListN.{get_elem?}
use Rattle.atomic_table.specs.Table.{State, keeps, stepped, opening}
use Rattle.atomic_table.proofs.Lists.{at_set, set_else, at_snoc}
use Rattle.count_table.specs.declared.rule.Mark.{Mark}
use Rattle.count_table.specs.declared.rule.SeatView.{SeatView}
use Rattle.count_table.specs.declared.rule.TableShape.{TableShape}
use Rattle.count_table.specs.Sums.{total, below, past, late, amount_at, sum_at, least_at}
use Rattle.count_table.specs.Views.{view, mark, blank, first_view, drew, marked_view, kept_half, given_half, joined, counted_view, lowered_view}
use Rattle.count_table.specs.Rule.{IsWithinParts, Kept, IsStart, IsSummed}
use Rattle.count_table.proofs.Totals.{total_nil, total_cons, total_append, total_push, total_set, total_part, total_none, total_ones, total_le_at, below_more, below_none, below_ones, past_one, word_bound, amount_here, amount_else, least_nil, least_same, least_here, least_else, total_replicate, least_elses, least_heres}

-- a mark for another word adds nothing to the sum
sum_else : (w i k : ℕ) (log : List Mark) → w ≢ i → sum_at w (mark i k ∷ log) ≡ sum_at w log
sum_else w i k log ne = let a = total_cons (amount_at w) (mark i k) log in let n = amount_else i w k ne in omega arith

-- a blank seat satisfies `IsWithinParts`
blank_fits : (pieces : ℕ) → IsWithinParts pieces blank
blank_fits pieces = record { empty = λ e. refl; bounded = let n = total_nil (past pieces) in omega arith }

-- a seat without draws and marks satisfies `IsWithinParts`
fresh_fits : (pieces parts : ℕ) → IsWithinParts pieces (view parts [] [])
fresh_fits pieces parts = record { empty = λ e. ap (λ n. view n [] []) e; bounded = let n = total_nil (past pieces) in omega arith }

-- the invariant holds for a new table
pub opens : (shape : TableShape) (words : List ℕ) → shape.pieces + shape.seats < 2 ^ 63 → IsStart shape words → Kept shape (opening words [] (first_view shape))
opens shape words small start = record {
  log = [];
  wide = start.wide;
  small = small;
  whole = let a = total_cons (λ (v : SeatView). v.parts) (first_view shape) [] in let b = total_nil (λ (v : SeatView). v.parts) in omega arith;
  drawn = λ weight. let a = total_cons (λ (v : SeatView). total weight v.draws) (first_view shape) [] in let b = total_nil (λ (v : SeatView). total weight v.draws) in
      let n = total_nil weight in let z = ap (below weight) start.zero ∙ below_none weight in omega arith;
  marked = λ weight. let a = total_cons (λ (v : SeatView). total weight v.marks) (first_view shape) [] in let b = total_nil (λ (v : SeatView). total weight v.marks) in
      let n = total_nil weight in omega arith;
  counted = λ w low high. let z = start.counts w high in let n = total_nil (amount_at w) in z ∙ sym (ap (λ k. k % 2 ^ 64) n);
  lowest = λ w low high. start.leasts w low high ∙ least_nil w;
  each = only;
}
  where
    only : (id : ℕ) (v : SeatView) → get_elem? (first_view shape ∷ []) id ≡ some v → IsWithinParts shape.pieces v
    only zero v e = subst (IsWithinParts shape.pieces) (some-injective (first_view shape) v e) (fresh_fits shape.pieces shape.seats)
    only (suc id) v e = absurd (some-ne-none v (sym e))

module _ (shape : TableShape) (s : State (Unit {0}) SeatView) (kept : Kept shape s) (id : ℕ) (v : SeatView) (at : get_elem? s.views id ≡ some v) where
  -- the total of `g` over all seats changes by the difference of `g` for this seat
  shifts : (g : SeatView → ℕ) (w : SeatView) → total g (set s.views id w) + g v ≡ total g s.views + g w
  shifts g w = total_set g s.views id v w at

  -- every seat still satisfies `IsWithinParts` if this seat's new view does
  fit : (w : SeatView) → IsWithinParts shape.pieces w → (j : ℕ) (x : SeatView) → get_elem? (set s.views id w) j ≡ some x → IsWithinParts shape.pieces x
  fit w fits j x e = ⊎_elim (λ (t : (j ≡ id) × (w ≡ x)). subst (IsWithinParts shape.pieces) t.1 fits)
      (λ (t : (j ≢ id) × (get_elem? s.views j ≡ some x)). kept.each j x t.1) (at_set s.views id j w x e)

  -- word 0 is at most the number of pieces plus the number of seats
  pub drawn_few : slice_index s.words 0 ≤ shape.pieces + shape.seats
  drawn_few =
      let n = slice_index s.words 0 in
      let d = kept.drawn (past shape.pieces) in
      let m = total_le_at (λ (x : SeatView). late shape.pieces x.draws) (λ (x : SeatView). x.parts) s.views (λ j x e. (kept.each j x e).bounded) in
      let a = kept.whole in
      let b : below (past shape.pieces) n ≤ shape.seats = omega arith in
      word_bound shape.pieces n shape.seats b

  -- a seat has at most as many draws as word 0 counts
  pub draws_few : length v.draws ≤ slice_index s.words 0
  draws_few =
      let d = kept.drawn (λ k. 1) in
      let o = below_ones (slice_index s.words 0) in
      let p = total_part (λ (x : SeatView). total (λ k. 1) x.draws) s.views id v at in
      let l = total_ones v.draws in omega arith

  -- drawing a piece preserves the invariant
  pub claims : late shape.pieces v.draws < v.parts → Kept shape (stepped s 0 ((slice_index s.words 0 + 1) % 2 ^ 64) id [] (drew v (slice_index s.words 0)) keeps)
  claims early =
      let n = slice_index s.words 0 in
      let few = drawn_few in
      let small = kept.small in
      let next : (n + 1) % 2 ^ 64 ≡ n + 1 = mod-eq_of_lt (omega arith) in
      let wide = kept.wide in
      let here : slice_index (set s.words 0 ((n + 1) % 2 ^ 64)) 0 ≡ n + 1 = get_or-set_same s.words 0 ((n + 1) % 2 ^ 64) 0 (omega arith) ∙ next in
      record {
        log = kept.log;
        wide = length-set s.words 0 ((n + 1) % 2 ^ 64) ∙ kept.wide;
        small = kept.small;
        whole = let h = shifts (λ x. x.parts) (drew v n) in let k = kept.whole in omega arith;
        drawn = λ weight. let h = shifts (λ x. total weight x.draws) (drew v n) in let k = kept.drawn weight in let p = total_push weight v.draws n in
            let b = ap (below weight) here ∙ below_more weight n in omega arith;
        marked = λ weight. let h = shifts (λ x. total weight x.marks) (drew v n) in let k = kept.marked weight in omega arith;
        counted = λ w low high. get_or-set_other s.words 0 w ((n + 1) % 2 ^ 64) 0 (λ e. omega arith) ∙ kept.counted w low high;
        lowest = λ w low high. get_or-set_other s.words 0 w ((n + 1) % 2 ^ 64) 0 (λ e. omega arith) ∙ kept.lowest w low high;
        each = fit (drew v n) (record {
          empty = λ e. absurd (omega arith);
          bounded = let p = total_push (past shape.pieces) v.draws n in let o = past_one shape.pieces n in omega arith;
        });
      }

  -- a view with one more mark satisfies `IsWithinParts`
  marked_fits : (m : Mark) → 1 ≤ v.parts → IsWithinParts shape.pieces (marked_view v m)
  marked_fits m some-parts = record { empty = λ e. absurd (omega arith); bounded = (kept.each id v at).bounded }

  -- the total of the marks of all seats is the total of the log, after one mark was added to both
  marks_more : (m : Mark) (weight : Mark → ℕ) → total (λ x. total weight x.marks) (set s.views id (marked_view v m)) ≡ total weight (m ∷ kept.log)
  marks_more m weight =
      let h = shifts (λ x. total weight x.marks) (marked_view v m) in let k = kept.marked weight in
      let p = total_push weight v.marks m in let c = total_cons weight m kept.log in omega arith

  -- adding an amount to a count preserves the invariant
  pub counts : (i k : ℕ) → 1 ≤ v.parts → 1 ≤ i → i < 1 + shape.counts
      → Kept shape (stepped s i ((slice_index s.words i + k) % 2 ^ 64) id [] (marked_view v (mark i k)) keeps)
  counts i k some-parts low high =
      let n = slice_index s.words i in
      let wide = kept.wide in
      record {
        log = mark i k ∷ kept.log;
        wide = length-set s.words i ((n + k) % 2 ^ 64) ∙ kept.wide;
        small = kept.small;
        whole = let h = shifts (λ x. x.parts) (marked_view v (mark i k)) in let k = kept.whole in omega arith;
        drawn = λ weight. let h = shifts (λ x. total weight x.draws) (marked_view v (mark i k)) in let d = kept.drawn weight in
            let b = ap (below weight) (get_or-set_other s.words i 0 ((n + k) % 2 ^ 64) 0 (λ e. omega arith)) in omega arith;
        marked = marks_more (mark i k);
        counted = λ w from to. ⊎_elim
            (λ (e : w ≡ i). subst (λ j. slice_index (set s.words i ((n + k) % 2 ^ 64)) j ≡ sum_at j (mark i k ∷ kept.log) % 2 ^ 64) (sym e)
            (get_or-set_same s.words i ((n + k) % 2 ^ 64) 0 (omega arith) ∙ summed))
            (λ (ne : w ≢ i). get_or-set_other s.words i w ((n + k) % 2 ^ 64) 0 ne ∙ (kept.counted w from to
            ∙ ap (λ x. x % 2 ^ 64) (sym (sum_else w i k kept.log ne))))
            (cases_eq w i);
        lowest = λ w from to. get_or-set_other s.words i w ((n + k) % 2 ^ 64) 0 (λ e. omega arith) ∙ (kept.lowest w from to
            ∙ sym (least_else i w k kept.log (λ e. omega arith)));
        each = fit (marked_view v (mark i k)) (marked_fits (mark i k) some-parts);
      }
    where
      summed : (slice_index s.words i + k) % 2 ^ 64 ≡ sum_at i (mark i k ∷ kept.log) % 2 ^ 64
      summed =
          let a = total_cons (amount_at i) (mark i k) kept.log ∙ ap (λ x. x + sum_at i kept.log) (amount_here i k) in
          ap (λ x. (x + k) % 2 ^ 64) (kept.counted i low high) ∙ (mod-add-mod (sum_at i kept.log) (2 ^ 64) k ∙ ap (λ x. x % 2 ^ 64) (omega arith)
          ∙ ap (λ x. x % 2 ^ 64) (sym a))

  -- lowering a minimum preserves the invariant
  pub lowers : (i k : ℕ) → 1 ≤ v.parts → 1 + shape.counts ≤ i → i < 1 + (shape.counts + shape.leasts)
      → Kept shape (stepped s i (min (slice_index s.words i) k) id [] (marked_view v (mark i k)) keeps)
  lowers i k some-parts low high =
      let n = slice_index s.words i in
      let wide = kept.wide in
      record {
        log = mark i k ∷ kept.log;
        wide = length-set s.words i (min n k) ∙ kept.wide;
        small = kept.small;
        whole = let h = shifts (λ x. x.parts) (marked_view v (mark i k)) in let k = kept.whole in omega arith;
        drawn = λ weight. let h = shifts (λ x. total weight x.draws) (marked_view v (mark i k)) in let d = kept.drawn weight in
            let b = ap (below weight) (get_or-set_other s.words i 0 (min n k) 0 (λ e. omega arith)) in omega arith;
        marked = marks_more (mark i k);
        counted = λ w from to. get_or-set_other s.words i w (min n k) 0 (λ e. omega arith) ∙ (kept.counted w from to
            ∙ ap (λ x. x % 2 ^ 64) (sym (sum_else w i k kept.log (λ e. omega arith))));
        lowest = λ w from to. ⊎_elim
            (λ (e : w ≡ i). subst (λ j. slice_index (set s.words i (min n k)) j ≡ least_at j (mark i k ∷ kept.log)) (sym e)
            (get_or-set_same s.words i (min n k) 0 (omega arith) ∙ (ap (λ x. min x k) (kept.lowest i low high) ∙ sym (least_here i k kept.log))))
            (λ (ne : w ≢ i). get_or-set_other s.words i w (min n k) 0 ne ∙ (kept.lowest w from to ∙ sym (least_else i w k kept.log ne)))
            (cases_eq w i);
        each = fit (marked_view v (mark i k)) (marked_fits (mark i k) some-parts);
      }

  -- the total of the marks of all seats is the total of the log, after some marks were added to both
  marks_many : (w : SeatView) (new : List Mark) → w.marks ≡ v.marks ++ new → (weight : Mark → ℕ)
      → total (λ x. total weight x.marks) (set s.views id w) ≡ total weight (new ++ kept.log)
  marks_many w new is weight =
      let h = shifts (λ x. total weight x.marks) w in let k = kept.marked weight in
      let p = ap (total weight) is ∙ total_append weight v.marks new in let c = total_append weight new kept.log in omega arith

  -- marks for another word add nothing to the sum
  sums_else : (w i k : ℕ) → w ≢ i → sum_at w (replicate k (mark i 1) ++ kept.log) ≡ sum_at w kept.log
  sums_else w i k ne =
      let a = total_append (amount_at w) (replicate k (mark i 1)) kept.log in
      let r = total_replicate (amount_at w) k (mark i 1) in
      let z = ap (λ x. k * x) (amount_else i w 1 ne) in
      let n : k * 0 ≡ 0 = grind arith in omega (arith, a, r, z, n)

  -- adding `k` to a count, recorded as `k` marks of 1, preserves the invariant
  pub counts_times : (i k : ℕ) → 1 ≤ v.parts → 1 ≤ i → i < 1 + shape.counts
      → Kept shape (stepped s i ((slice_index s.words i + k) % 2 ^ 64) id [] (counted_view v i k) keeps)
  counts_times i k some-parts low high =
      let n = slice_index s.words i in
      let wide = kept.wide in
      record {
        log = replicate k (mark i 1) ++ kept.log;
        wide = length-set s.words i ((n + k) % 2 ^ 64) ∙ kept.wide;
        small = kept.small;
        whole = let h = shifts (λ x. x.parts) (counted_view v i k) in let p = kept.whole in omega arith;
        drawn = λ weight. let h = shifts (λ x. total weight x.draws) (counted_view v i k) in let d = kept.drawn weight in
            let b = ap (below weight) (get_or-set_other s.words i 0 ((n + k) % 2 ^ 64) 0 (λ e. omega arith)) in omega arith;
        marked = marks_many (counted_view v i k) (replicate k (mark i 1)) refl;
        counted = λ w from to. ⊎_elim
            (λ (e : w ≡ i). subst (λ j. slice_index (set s.words i ((n + k) % 2 ^ 64)) j ≡ sum_at j (replicate k (mark i 1) ++ kept.log) % 2 ^ 64) (sym e)
            (get_or-set_same s.words i ((n + k) % 2 ^ 64) 0 (omega arith) ∙ summed))
            (λ (ne : w ≢ i). get_or-set_other s.words i w ((n + k) % 2 ^ 64) 0 ne ∙ (kept.counted w from to
            ∙ ap (λ x. x % 2 ^ 64) (sym (sums_else w i k ne))))
            (cases_eq w i);
        lowest = λ w from to. get_or-set_other s.words i w ((n + k) % 2 ^ 64) 0 (λ e. omega arith) ∙ (kept.lowest w from to
            ∙ sym (least_elses i w 1 k kept.log (λ e. omega arith)));
        each = fit (counted_view v i k) (record { empty = λ e. absurd (omega arith); bounded = (kept.each id v at).bounded });
      }
    where
      summed : (slice_index s.words i + k) % 2 ^ 64 ≡ sum_at i (replicate k (mark i 1) ++ kept.log) % 2 ^ 64
      summed =
          let a = total_append (amount_at i) (replicate k (mark i 1)) kept.log in
          let r = total_replicate (amount_at i) k (mark i 1) in
          let o = ap (λ x. k * x) (amount_here i 1) in
          let one : k * 1 ≡ k = grind arith in
          let all : sum_at i (replicate k (mark i 1) ++ kept.log) ≡ k + sum_at i kept.log = omega (arith, a, r, o, one) in
          ap (λ x. (x + k) % 2 ^ 64) (kept.counted i low high) ∙ (mod-add-mod (sum_at i kept.log) (2 ^ 64) k ∙ ap (λ x. x % 2 ^ 64) (omega arith)
          ∙ ap (λ x. x % 2 ^ 64) (sym all))

  -- lowering a minimum, recorded as many times as the previous step's marks, preserves the invariant
  pub lowers_times : (i k : ℕ) → 1 ≤ v.parts → 1 ≤ v.times → 1 + shape.counts ≤ i → i < 1 + (shape.counts + shape.leasts)
      → Kept shape (stepped s i (min (slice_index s.words i) k) id [] (lowered_view v i k) keeps)
  lowers_times i k some-parts some-times low high =
      let n = slice_index s.words i in
      let wide = kept.wide in
      record {
        log = replicate v.times (mark i k) ++ kept.log;
        wide = length-set s.words i (min n k) ∙ kept.wide;
        small = kept.small;
        whole = let h = shifts (λ x. x.parts) (lowered_view v i k) in let p = kept.whole in omega arith;
        drawn = λ weight. let h = shifts (λ x. total weight x.draws) (lowered_view v i k) in let d = kept.drawn weight in
            let b = ap (below weight) (get_or-set_other s.words i 0 (min n k) 0 (λ e. omega arith)) in omega arith;
        marked = marks_many (lowered_view v i k) (replicate v.times (mark i k)) refl;
        counted = λ w from to. get_or-set_other s.words i w (min n k) 0 (λ e. omega arith) ∙ (kept.counted w from to
            ∙ ap (λ x. x % 2 ^ 64) (sym (nothing w (λ e. omega arith))));
        lowest = λ w from to. ⊎_elim
            (λ (e : w ≡ i). subst (λ j. slice_index (set s.words i (min n k)) j ≡ least_at j (replicate v.times (mark i k) ++ kept.log)) (sym e)
            (get_or-set_same s.words i (min n k) 0 (omega arith) ∙ (ap (λ x. min x k) (kept.lowest i low high) ∙ sym (least_heres i k v.times kept.log some-times))))
            (λ (ne : w ≢ i). get_or-set_other s.words i w (min n k) 0 ne ∙ (kept.lowest w from to ∙ sym (least_elses i w k v.times kept.log ne)))
            (cases_eq w i);
        each = fit (lowered_view v i k) (record { empty = λ e. absurd (omega arith); bounded = (kept.each id v at).bounded });
      }
    where
      nothing : (w : ℕ) → w ≢ i → sum_at w (replicate v.times (mark i k) ++ kept.log) ≡ sum_at w kept.log
      nothing w ne =
          let a = total_append (amount_at w) (replicate v.times (mark i k)) kept.log in
          let r = total_replicate (amount_at w) v.times (mark i k) in
          let z = ap (λ x. v.times * x) (amount_else i w k ne) in
          let none : v.times * 0 ≡ 0 = grind arith in omega (arith, a, r, z, none)

  -- splitting one part off a seat without draws and marks preserves the invariant
  pub splits : 1 ≤ v.parts → v.draws ≡ [] → v.marks ≡ []
      → Kept shape record { words = s.words; homes = s.homes; views = set s.views id (kept_half v) ++ given_half v ∷ [] }
  splits some-parts no-draws no-marks = record {
    log = kept.log;
    wide = kept.wide;
    small = kept.small;
    whole = let h = shifts (λ x. x.parts) (kept_half v) in let k = kept.whole in let p = total_push (λ (x : SeatView). x.parts) (set s.views id (kept_half v)) (given_half v) in omega arith;
    drawn = λ weight. let h = shifts (λ x. total weight x.draws) (kept_half v) in let k = kept.drawn weight in
        let p = total_push (λ (x : SeatView). total weight x.draws) (set s.views id (kept_half v)) (given_half v) in let n = total_nil weight in omega arith;
    marked = λ weight. let h = shifts (λ x. total weight x.marks) (kept_half v) in let k = kept.marked weight in
        let p = total_push (λ (x : SeatView). total weight x.marks) (set s.views id (kept_half v)) (given_half v) in let n = total_nil weight in omega arith;
    counted = kept.counted;
    lowest = kept.lowest;
    each = λ j x e. ⊎_elim (λ (t : get_elem? (set s.views id (kept_half v)) j ≡ some x). fit (kept_half v) half j x t)
        (λ (t : given_half v ≡ x). subst (IsWithinParts shape.pieces) t (fresh_fits shape.pieces 1)) (at_snoc (set s.views id (kept_half v)) (given_half v) x j e);
  }
    where
      half : IsWithinParts shape.pieces (kept_half v)
      half = subst (λ (t : List ℕ × List Mark). IsWithinParts shape.pieces (view (v.parts - 1) t.0 t.1)) (λ i. (sym no-draws i, sym no-marks i)) (fresh_fits shape.pieces (v.parts - 1))

  -- joining two seats preserves the invariant
  pub joins : (other : ℕ) (w : SeatView) → (other ≡ id → ⊥) → get_elem? (set s.views id (joined v w)) other ≡ some w
      → Kept shape record { words = s.words; homes = s.homes; views = set (set s.views id (joined v w)) other blank }
  joins other w apart there = record {
    log = kept.log;
    wide = kept.wide;
    small = kept.small;
    whole = let h = shifts (λ x. x.parts) (joined v w) in let k = kept.whole in let p = total_set (λ (x : SeatView). x.parts) both other w blank there in omega arith;
    drawn = λ weight. let h = shifts (λ x. total weight x.draws) (joined v w) in let k = kept.drawn weight in
        let p = total_set (λ (x : SeatView). total weight x.draws) both other w blank there in let n = total_nil weight in
        let a = total_append weight v.draws w.draws in omega arith;
    marked = λ weight. let h = shifts (λ x. total weight x.marks) (joined v w) in let k = kept.marked weight in
        let p = total_set (λ (x : SeatView). total weight x.marks) both other w blank there in let n = total_nil weight in
        let a = total_append weight v.marks w.marks in omega arith;
    counted = kept.counted;
    lowest = kept.lowest;
    each = λ j x e. ⊎_elim (λ (t : (j ≡ other) × (blank ≡ x)). subst (IsWithinParts shape.pieces) t.1 (blank_fits shape.pieces))
        (λ (t : (j ≢ other) × (get_elem? both j ≡ some x)). fit (joined v w) fits j x t.1) (at_set both other j blank x e);
  }
    where
      both : List SeatView
      both = set s.views id (joined v w)

      first : IsWithinParts shape.pieces v
      first = kept.each id v at

      second : IsWithinParts shape.pieces w
      second = kept.each other w (sym (set_else s.views id other (joined v w) apart) ∙ there)

      fits : IsWithinParts shape.pieces (joined v w)
      fits = record {
        empty = λ e. let a : v ≡ blank = first.empty (omega arith) in let b : w ≡ blank = second.empty (omega arith) in λ i. joined (a i) (b i);
        bounded = let a = first.bounded in let b = second.bounded in let t = total_append (past shape.pieces) v.draws w.draws in omega arith;
      }

  -- if one seat holds all parts, the total over all seats is the value of this seat
  alone : v.parts ≡ shape.seats → (g : SeatView → ℕ) → g blank ≡ 0 → total g s.views ≡ g v
  alone all g none =
      let rest = set s.views id blank in
      let p = shifts (λ x. x.parts) blank in
      let k = kept.whole in
      let zero-parts : total (λ (x : SeatView). x.parts) rest ≡ 0 = omega arith in
      let nothing : total g rest ≡ 0 = total_none g rest (λ j x e.
      let le = total_part (λ (x : SeatView). x.parts) rest j x e in
      let is : x ≡ blank = (fit blank (blank_fits shape.pieces) j x e).empty (omega arith) in ap g is ∙ none) in
      let q = shifts g blank in omega arith

  -- if one seat holds all parts, the words are the sums and minimums of its marks
  pub sums : v.parts ≡ shape.seats → IsSummed shape v s.words
  sums all = record {
    wide = kept.wide;
    drawn = λ weight. sym (alone all (λ x. total weight x.draws) (total_nil weight)) ∙ kept.drawn weight;
    counted = λ w low high. kept.counted w low high ∙ ap (λ x. x % 2 ^ 64) (sym (same (amount_at w)));
    lowest = λ w low high. kept.lowest w low high ∙ sym (least_same w v.marks kept.log same);
  }
    where
      same : (weight : Mark → ℕ) → total weight v.marks ≡ total weight kept.log
      same weight = sym (alone all (λ x. total weight x.marks) (total_nil weight)) ∙ kept.marked weight
