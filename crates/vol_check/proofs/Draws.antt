-- A seat after it drew a number.
use Rattle.std.proofs.Common.{◌≡◌, ℕ, ◌<◌, ◌≤◌, ◌∙◌, ◌==◌, ◌||◌, sym, ap, subst, if◌then◌else◌, Bool, true, false, List, [], ◌∷◌, ◌++◌, None, Ok, Err, refl, arith}
use Rattle.vol_layout.specs.declared.geometry.Geometry.{Geometry}
use Rattle.count_table.specs.declared.words.Tally.{Tally}
use Rattle.count_table.specs.Sums.{total, late, past}
use Rattle.count_table.specs.Views.{view}
use Rattle.count_table.specs.Tallies.{IsSeatAt, table_shape}
use Rattle.count_table.proofs.Totals.{total_nil, total_push, past_here, past_short}
use Rattle.vol_reports.specs.Icheck.{one_if}
use Rattle.vol_free.specs.FreeWalk.{free_walk}
use Rattle.vol_check.specs.declared.checker.Checker.{Checker}
use Rattle.vol_check.specs.declared.checker.Checker.TheVariants.{Blocks, Entries, Names}
use Rattle.vol_check.specs.declared.seats.CheckSeat.{CheckSeat}
use Rattle.vol_check.specs.Shapes.{Layout}
use Rattle.vol_check.specs.Seats.{IsSeatOf, IsOf, IsFresh, is_stopped, checker_weight, checker_kept, checker_fault, layout_weight, layout_kept, layout_fault}
use Rattle.vol_check.specs.Notes.{Stays}
use Rattle.vol_check.specs.Steps.{Works}
use Rattle.vol_check.proofs.PastPieces.{IsPast, kept_next}

-- a flag isn't both true and false
pub clash : {A : Type 0} (b : Bool) → b ≡ true → b ≡ false → A
clash b up down = let e : ◌≡◌ {A = ℕ} 1 0 = ap one_if (sym up ∙ down) in absurd (omega (arith, e))

module _ (tally : Tally) (checker : Checker) (layout : Layout) (image : List ℕ) (old mid new : CheckSeat) (n : ℕ) (own : IsSeatOf tally old)
    (knows : IsOf checker layout image old) (early : old.ended ≡ false) (well : old.spoiled ≡ false)
    (is : mid.seat.me.0 ≡ view old.seat.me.0.parts (old.seat.me.0.draws ++ n ∷ []) old.seat.me.0.marks) (kept : mid.entries ≡ old.entries) where
  abbrev parts_is : mid.seat.me.0.parts ≡ old.seat.me.0.parts
  parts_is = ap (λ v. v.parts) is

  abbrev draws_is : mid.seat.me.0.draws ≡ old.seat.me.0.draws ++ n ∷ []
  draws_is = ap (λ v. v.draws) is

  abbrev marks_is : mid.seat.me.0.marks ≡ old.seat.me.0.marks
  marks_is = ap (λ v. v.marks) is

  late_is : late (table_shape tally).pieces (old.seat.me.0.draws ++ n ∷ []) ≡ past (table_shape tally).pieces n
  late_is =
      let p = total_push (past (table_shape tally).pieces) old.seat.me.0.draws n in
      let l = own.late in
      let z : ◌≡◌ {A = ℕ} (one_if old.ended) 0 = ap one_if early in omega (arith, p, l, z)

  -- a seat that did the piece it drew still belongs to the table
  pub done_own : (g : Geometry) → n < (table_shape tally).pieces → Works tally checker g image n mid new → mid.ended ≡ old.ended → IsSeatOf tally new
  done_own g low works ended = record {
    own = works.adds.own;
    parts = works.adds.parts ∙ (parts_is ∙ own.parts);
    late = ap (late (table_shape tally).pieces) (works.adds.draws ∙ draws_is) ∙ (late_is ∙ (past_short (table_shape tally).pieces n low
        ∙ sym (ap one_if (works.ended ∙ (ended ∙ early)))));
    last = λ end. clash new.ended end (works.ended ∙ (ended ∙ early));
  }

  pub done_knows : (g : Geometry) → layout ≡ Ok g → Works tally checker g image n mid new → mid.fault ≡ old.fault → IsOf checker layout image new
  done_knows g ok works fault = record {
    marks = λ fine weight.
        let a = works.adds.marks weight in
        let m = ap (total weight) marks_is in
        let k = knows.marks well weight in
        let p = total_push (layout_weight checker layout image weight) old.seat.me.0.draws n in
        let l : ◌≡◌ {A = ℕ} (layout_weight checker layout image weight n) (checker_weight checker g image weight n) = ap (λ (x : Layout). layout_weight checker x image weight n) ok in
        let d = ap (total (layout_weight checker layout image weight)) (works.adds.draws ∙ draws_is) in
        omega (arith, a, m, k, p, l, d);
    entries = λ fine weight.
        let a = works.entries weight in
        let m = ap (λ xs. total weight xs.items) kept in
        let k = knows.entries well weight in
        let p = total_push (layout_kept checker layout image weight) old.seat.me.0.draws n in
        let l : ◌≡◌ {A = ℕ} (layout_kept checker layout image weight n) (checker_kept checker g image weight n) = ap (λ (x : Layout). layout_kept checker x image weight n) ok in
        let d = ap (total (layout_kept checker layout image weight)) (works.adds.draws ∙ draws_is) in
        omega (arith, a, m, k, p, l, d);
    fault = λ fine. subst (λ (x : Layout). new.fault ≡ layout_fault checker x image new.seat.me.0.draws) (sym ok)
        (kept_next checker g image old.seat.me.0.draws n mid.fault new.fault (fault ∙ (knows.fault well ∙ ap (λ (x : Layout). layout_fault checker x image old.seat.me.0.draws) ok)) works.fault
        ∙ ap (checker_fault checker g image) (sym (works.adds.draws ∙ draws_is)));
  }

  -- a seat that drew a number past the last piece still belongs to the table
  pub end_own : (table_shape tally).pieces ≤ n → IsSeatAt tally mid.seat → new.seat ≡ mid.seat → new.ended ≡ true → IsSeatOf tally new
  end_own high at same ended = record {
    own = subst (IsSeatAt tally) (sym same) at;
    parts = ap (λ s. s.me.0.parts) same ∙ (parts_is ∙ own.parts);
    late = ap (λ s. late (table_shape tally).pieces s.me.0.draws) same ∙ (ap (late (table_shape tally).pieces) draws_is
        ∙ (late_is ∙ (past_here (table_shape tally).pieces n high ∙ sym (ap one_if ended))));
    last = λ end. record { front = old.seat.me.0.draws; n = n; is = ap (λ s. s.me.0.draws) same ∙ draws_is; past = high };
  }

  pub end_knows : IsPast checker layout image n → new.seat ≡ mid.seat → new.entries ≡ mid.entries → new.fault ≡ old.fault → IsOf checker layout image new
  end_knows none same entries fault = record {
    marks = λ fine weight.
        let a = ap (λ s. total weight s.me.0.marks) same in
        let m = ap (total weight) marks_is in
        let k = knows.marks well weight in
        let p = total_push (layout_weight checker layout image weight) old.seat.me.0.draws n in
        let l = none.marks weight in
        let d = ap (λ s. total (layout_weight checker layout image weight) s.me.0.draws) same in
        let e = ap (total (layout_weight checker layout image weight)) draws_is in
        omega (arith, a, m, k, p, l, d, e);
    entries = λ fine weight.
        let a = ap (λ xs. total weight xs.items) (entries ∙ kept) in
        let k = knows.entries well weight in
        let p = total_push (layout_kept checker layout image weight) old.seat.me.0.draws n in
        let l = none.entries weight in
        let d = ap (λ s. total (layout_kept checker layout image weight) s.me.0.draws) same in
        let e = ap (total (layout_kept checker layout image weight)) draws_is in
        omega (arith, a, k, p, l, d, e);
    fault = λ fine. fault ∙ (knows.fault well ∙ (sym (none.fault old.seat.me.0.draws)
        ∙ sym (ap (λ s. layout_fault checker layout image s.me.0.draws) same ∙ ap (layout_fault checker layout image) draws_is)));
  }

  -- a seat that ran out of memory in a piece still belongs to the table
  pub fail_own : n < (table_shape tally).pieces → Stays tally mid new → mid.ended ≡ old.ended → IsSeatOf tally new
  fail_own low stays ended = record {
    own = stays.own;
    parts = stays.parts ∙ (parts_is ∙ own.parts);
    late = ap (late (table_shape tally).pieces) (stays.draws ∙ draws_is)
        ∙ (late_is ∙ (past_short (table_shape tally).pieces n low ∙ sym (ap one_if (stays.ended ∙ (ended ∙ early)))));
    last = λ end. clash new.ended end (stays.ended ∙ (ended ∙ early));
  }

-- `IsOf` states nothing about a seat that ran out of memory
pub spoiled_knows : (checker : Checker) (layout : Layout) (image : List ℕ) (s : CheckSeat) → s.spoiled ≡ true → IsOf checker layout image s
spoiled_knows checker layout image s spoiled = record { marks = λ fine. absurd (clash fine); fault = λ fine. absurd (clash fine); entries = λ fine. absurd (clash fine) }
  where
    clash : s.spoiled ≡ false → ⊥
    clash fine = let e : ◌≡◌ {A = ℕ} 1 0 = ap one_if (sym spoiled ∙ fine) in omega (arith, e)

-- a seat that hasn't ended or run out of memory isn't stopped
pub goes_on : (s : CheckSeat) → s.ended ≡ false → s.spoiled ≡ false → is_stopped s ≡ false
goes_on s early well = ap (λ ended. ended || s.spoiled) early ∙ well

-- a seat that has done nothing yet belongs to its table
pub fresh_own : (tally : Tally) (s : CheckSeat) → IsFresh tally s → IsSeatOf tally s
fresh_own tally s fresh = record {
  own = fresh.own;
  parts = ap (λ v. v.parts) fresh.nothing;
  late = ap (λ v. late (table_shape tally).pieces v.draws) fresh.nothing ∙ (total_nil (past (table_shape tally).pieces) ∙ sym (ap one_if fresh.ended));
  last = λ end. clash s.ended end fresh.ended;
}

nothing_kept : (checker : Checker) (layout : Layout) (image : List ℕ) → layout_fault checker layout image [] ≡ None
nothing_kept Blocks (Ok g) image = ap (λ k. if k == 0 then None else (free_walk g image).fault) (total_nil (λ p. one_if (p == 0)))
nothing_kept Entries (Ok g) image = refl
nothing_kept Names (Ok g) image = refl
nothing_kept checker (Err fault) image = refl

pub fresh_knows : (tally : Tally) (checker : Checker) (layout : Layout) (image : List ℕ) (s : CheckSeat) → IsFresh tally s → IsOf checker layout image s
fresh_knows tally checker layout image s fresh = record {
  marks = λ fine weight. ap (λ v. total weight v.marks) fresh.nothing
      ∙ (total_nil weight ∙ sym (ap (λ v. total (layout_weight checker layout image weight) v.draws) fresh.nothing ∙ total_nil (layout_weight checker layout image weight)));
  entries = λ fine weight. ap (total weight) fresh.entries
      ∙ (total_nil weight ∙ sym (ap (λ v. total (layout_kept checker layout image weight) v.draws) fresh.nothing ∙ total_nil (layout_kept checker layout image weight)));
  fault = λ fine. fresh.fault ∙ sym (ap (λ v. layout_fault checker layout image v.draws) fresh.nothing ∙ nothing_kept checker layout image);
}
