-- Joining seats one after another.
use Rattle.std.proofs.Common.{◌≡◌, ℕ, ◌+◌, ◌*◌, ◌≤◌, ◌∙◌, sym, ap, Bool, true, false, ◌||◌, ◌==◌, if◌then◌else◌, List, [], ◌∷◌, ◌++◌, All, length, length-append, cond, Option, None, Some, Ok, Err, refl, inl, inr, arith}
use Rattle.std.proofs.lemmas.Bool.{cases_eq, eq-eqb, ne_eqb}
use Rattle.std.proofs.lemmas.List.Elements.{All-pop, All-head}
use Rattle.std.proofs.lemmas.List.Sums.{sum_by_push, sum_by-cons}
use Rattle.std.proofs.lemmas.List.Folds.{list_any-append}
use Rattle.std.specs.List.{count_by, list_any}
use Rattle.std.specs.Option.{option_or, option_to_list}
use Rattle.count_table.specs.declared.words.Tally.{Tally}
use Rattle.count_table.specs.Sums.{total, late, past}
use Rattle.count_table.specs.Tallies.{IsSeatAt, table_shape}
use Rattle.count_table.proofs.Totals.{total_append}
use Rattle.vol_reports.specs.Icheck.{one_if}
use Rattle.vol_free.specs.FreeWalk.{free_walk}
use Rattle.vol_check.specs.declared.checker.Checker.{Checker}
use Rattle.vol_check.specs.declared.checker.Checker.TheVariants.{Blocks, Entries, Names}
use Rattle.vol_check.specs.declared.seats.CheckSeat.{CheckSeat}
use Rattle.vol_check.specs.Shapes.{Layout}
use Rattle.vol_check.specs.Seats.{IsSeatOf, IsOf, is_stopped, found_no_memory, layout_weight, layout_kept, layout_fault}
use Rattle.vol_check.specs.Gather.{Joins, Gathers}

-- `all` is the join of all seats except `rest`, which are not joined yet
pub record IsGathering (tally : Tally) (seats rest : List CheckSeat) (all : CheckSeat) : Type 0 where
  pub own : IsSeatAt tally all.seat
  pub parts : all.seat.me.0.parts + length rest ≡ length seats
  pub spoiled : (list_any found_no_memory rest || all.spoiled) ≡ list_any found_no_memory seats
  pub stopped : 1 ≤ one_if all.spoiled + late (table_shape tally).pieces all.seat.me.0.draws + count_by is_stopped rest
  pub others : All (IsSeatOf tally) rest
  pub knows : (checker : Checker) (layout : Layout) (image : List ℕ) → All (IsOf checker layout image) seats → IsOf checker layout image all × All (IsOf checker layout image) rest

-- if the disjunction of two flags is false, both are false
neither : (x y : Bool) → (x || y) ≡ false → (x ≡ false) × (y ≡ false)
neither false y none = (refl, none)
neither true y none = absurd (let e : ◌≡◌ {A = ℕ} 1 0 = ap one_if none in omega (arith, e))

-- a value kept by at least one of two seats is kept by their join
either_kept : {A : Type 0} (value : Option A) (a b c : ℕ) → c ≡ a + b
    → option_or (if a == 0 then None else value) (if b == 0 then None else value) ≡ (if c == 0 then None else value)
either_kept value a b c sum = elim (cases_eq a 0) [
  | inl none ↦
      let same : c ≡ b = omega arith in
      ap (λ t. option_or (if t then None else value) (if b == 0 then None else value)) (eq-eqb a 0 none) ∙ ap (λ n. if n == 0 then None else value) (sym same)
  | inr some ↦
      ap (λ t. option_or (if t then None else value) (if b == 0 then None else value)) (ne_eqb a 0 some)
      ∙ (absorbed value (b == 0) ∙ sym (ap (λ t. if t then None else value) (ne_eqb c 0 (λ e. some (omega arith)))))
]
  where
    absorbed : {A : Type 0} (value : Option A) (t : Bool) → option_or value (if t then None else value) ≡ value
    absorbed None true = refl
    absorbed None false = refl
    absorbed (Some x) t = refl

-- the join of two seats keeps the fault that either of them keeps
fault_joined : (checker : Checker) (layout : Layout) (image xs ys : List ℕ)
    → option_or (layout_fault checker layout image xs) (layout_fault checker layout image ys) ≡ layout_fault checker layout image (xs ++ ys)
fault_joined Blocks (Ok g) image xs ys =
    either_kept (free_walk g image).fault (total (λ p. one_if (p == 0)) xs) (total (λ p. one_if (p == 0)) ys) (total (λ p. one_if (p == 0)) (xs ++ ys))
    (total_append (λ p. one_if (p == 0)) xs ys)
fault_joined Entries (Ok g) image xs ys = refl
fault_joined Names (Ok g) image xs ys = refl
fault_joined checker (Err fault) image xs ys = refl

module _ (tally : Tally) (old other new : CheckSeat) (joins : Joins tally old other new) where
  -- if two seats fit an image, so does their join
  pub joined_knows : (checker : Checker) (layout : Layout) (image : List ℕ) → IsOf checker layout image old → IsOf checker layout image other → IsOf checker layout image new
  joined_knows checker layout image one two = record {
    marks = λ fine weight.
        let none = neither old.spoiled other.spoiled (sym joins.spoiled ∙ fine) in
        let a = one.marks none.0 weight in
        let b = two.marks none.1 weight in
        let m = ap (λ v. total weight v.marks) joins.joined ∙ total_append weight old.seat.me.0.marks other.seat.me.0.marks in
        let d = ap (λ v. total (layout_weight checker layout image weight) v.draws) joins.joined
        ∙ total_append (layout_weight checker layout image weight) old.seat.me.0.draws other.seat.me.0.draws in
        omega (arith, a, b, m, d);
    entries = λ fine weight.
        let none = neither old.spoiled other.spoiled (sym joins.spoiled ∙ fine) in
        let a = one.entries none.0 weight in
        let b = two.entries none.1 weight in
        let m = ap (total weight) joins.entries ∙ total_append weight old.entries.items other.entries.items in
        let d = ap (λ v. total (layout_kept checker layout image weight) v.draws) joins.joined
        ∙ total_append (layout_kept checker layout image weight) old.seat.me.0.draws other.seat.me.0.draws in
        omega (arith, a, b, m, d);
    fault = λ fine.
        let none = neither old.spoiled other.spoiled (sym joins.spoiled ∙ fine) in
        joins.fault ∙ (ap (λ f. option_or f other.fault) (one.fault none.0) ∙ (ap (option_or (layout_fault checker layout image old.seat.me.0.draws)) (two.fault none.1)
        ∙ (fault_joined checker layout image old.seat.me.0.draws other.seat.me.0.draws ∙ sym (ap (λ v. layout_fault checker layout image v.draws) joins.joined))));
  }

-- at most twice as many of the flags `all` and `ended || other` are set as of `all || other` and `ended`
flags_joined : (all other ended : Bool) → one_if all + one_if (ended || other) ≤ 2 * (one_if (all || other) + one_if ended)
flags_joined true true true = omega arith
flags_joined true true false = omega arith
flags_joined true false true = omega arith
flags_joined true false false = omega arith
flags_joined false true true = omega arith
flags_joined false true false = omega arith
flags_joined false false true = omega arith
flags_joined false false false = omega arith

or_none : (x : Bool) → (x || false) ≡ x
or_none true = refl
or_none false = refl

turned : (x y z : Bool) → (x || (y || z)) ≡ ((x || z) || y)
turned true y z = refl
turned false true true = refl
turned false true false = refl
turned false false true = refl
turned false false false = refl

module _ (tally : Tally) (seats : List CheckSeat) where
  -- the last seat is the first join
  pub gathers_first : (rest : List CheckSeat) (last : CheckSeat) → seats ≡ rest ++ option_to_list (Some last) → All (IsSeatOf tally) seats
      → 1 ≤ count_by is_stopped seats → IsGathering tally seats rest last
  gathers_first rest last is own stopped =
      let parts = All-pop (IsSeatOf tally) seats rest (Some last) is own in
      let len = ap length is ∙ length-append rest (last ∷ []) in
      let count = ap (count_by is_stopped) is ∙ sum_by_push (λ s. cond (is_stopped s) 1 0) rest last in
      let flags = flags_joined false last.spoiled last.ended in
      let late = parts.1.late in
      let one = parts.1.parts in
      record {
        own = parts.1.own;
        parts = omega (arith, len, one);
        spoiled = sym (ap (list_any found_no_memory) is ∙ (list_any-append found_no_memory rest (last ∷ [])
            ∙ ap (λ t. list_any found_no_memory rest || t) (or_none last.spoiled)));
        stopped = omega (arith, count, flags, late, stopped);
        others = parts.0;
        knows = λ checker layout image all. let p = All-pop (IsOf checker layout image) seats rest (Some last) is all in (p.1, p.0);
      }

  -- joining one more seat makes a join of one more seat
  pub gathers_more : (rest fewer : List CheckSeat) (all other new : CheckSeat) → rest ≡ fewer ++ option_to_list (Some other)
      → IsGathering tally seats rest all → Joins tally all other new → IsGathering tally seats fewer new
  gathers_more rest fewer all other new is before joins =
      let parts = All-pop (IsSeatOf tally) rest fewer (Some other) is before.others in
      let len = ap length is ∙ length-append fewer (other ∷ []) in
      let count = ap (count_by is_stopped) is ∙ sum_by_push (λ s. cond (is_stopped s) 1 0) fewer other in
      let flags = flags_joined all.spoiled other.spoiled other.ended in
      let late_is = ap (λ v. late (table_shape tally).pieces v.draws) joins.joined
      ∙ total_append (past (table_shape tally).pieces) all.seat.me.0.draws other.seat.me.0.draws in
      let spoiled = ap one_if joins.spoiled in
      record {
        own = joins.own;
        parts = omega (arith, len, parts.1.parts, before.parts, ap (λ v. v.parts) joins.joined);
        spoiled = ap (λ t. list_any found_no_memory fewer || t) joins.spoiled
            ∙ (turned (list_any found_no_memory fewer) all.spoiled other.spoiled
            ∙ (ap (λ t. t || all.spoiled) (sym (ap (list_any found_no_memory) is ∙ (list_any-append found_no_memory fewer (other ∷ [])
            ∙ ap (λ t. list_any found_no_memory fewer || t) (or_none other.spoiled)))) ∙ before.spoiled));
        stopped = omega (arith, count, flags, late_is, spoiled, parts.1.late, before.stopped);
        others = parts.0;
        knows = λ checker layout image each.
            let known = before.knows checker layout image each in
            let p = All-pop (IsOf checker layout image) rest fewer (Some other) is known.1 in
            (joined_knows tally all other new joins checker layout image known.0 p.1, p.0);
      }

  -- a join of all seats satisfies `Gathers`
  pub gathers_all : (all : CheckSeat) → IsGathering tally seats [] all → Gathers tally seats all
  gathers_all all g = record {
    own = g.own;
    parts = omega (arith, g.parts);
    spoiled = g.spoiled;
    stopped = λ fine. let z = ap one_if fine in omega (arith, g.stopped, z);
    knows = λ checker layout image each. (g.knows checker layout image each).0;
  }

-- if all seats of a non-empty list are stopped, at least one is
pub some_stopped : (seats : List CheckSeat) → 1 ≤ length seats → All (λ s. is_stopped s ≡ true) seats → 1 ≤ count_by is_stopped seats
some_stopped [] some all = some
some_stopped (s ∷ seats) some all =
    let c = sum_by-cons (λ s. cond (is_stopped s) 1 0) s seats in
    let e = ap one_if (All-head (λ s. is_stopped s ≡ true) s seats all) in omega arith
