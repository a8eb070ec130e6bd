-- Marks that a seat makes one after another.
use Rattle.std.proofs.Common.{◌≡◌, ℕ, ◌+◌, ◌*◌, replicate, [], ◌∷◌, ◌++◌, refl, ap, ◌∙◌, arith}
use Rattle.atomic_table.specs.declared.shared.Seat.{Seat}
use Rattle.count_table.specs.declared.rule.Mark.{Mark}
use Rattle.count_table.specs.declared.rule.SeatView.{SeatView}
use Rattle.count_table.specs.declared.words.Tally.{Tally}
use Rattle.count_table.specs.Sums.{total}
use Rattle.count_table.specs.Views.{view, view_times, mark}
use Rattle.count_table.specs.Tallies.{IsSeatAt}
use Rattle.count_table.proofs.Totals.{total_push, total_append, total_replicate}
use Rattle.vol_check.specs.Pieces.{Adds}

module _ (tally : Tally) where
  -- a seat that made one mark added the weight of this mark
  pub added : (old new : Seat (Unit {0}) SeatView) (w a : ℕ) (amount : (Mark → ℕ) → ℕ) → IsSeatAt tally new
      → new.me.0 ≡ view old.me.0.parts old.me.0.draws (old.me.0.marks ++ mark w a ∷ [])
      → ((weight : Mark → ℕ) → weight (mark w a) ≡ amount weight) → Adds tally old new amount
  added old new w a amount own is same = record {
    own = own;
    parts = ap (λ v. v.parts) is;
    draws = ap (λ v. v.draws) is;
    marks = λ weight. ap (λ v. total weight v.marks) is ∙ (total_push weight old.me.0.marks (mark w a) ∙ ap (λ n. total weight old.me.0.marks + n) (same weight));
  }

  -- a seat that made a mark `n` times in one step added its weight `n` times
  pub added_times : (old new : Seat (Unit {0}) SeatView) (w a n t : ℕ) (amount : (Mark → ℕ) → ℕ) → IsSeatAt tally new
      → new.me.0 ≡ view_times old.me.0.parts old.me.0.draws (old.me.0.marks ++ replicate n (mark w a)) t
      → ((weight : Mark → ℕ) → n * weight (mark w a) ≡ amount weight) → Adds tally old new amount
  added_times old new w a n t amount own is same = record {
    own = own;
    parts = ap (λ v. v.parts) is;
    draws = ap (λ v. v.draws) is;
    marks = λ weight. ap (λ v. total weight v.marks) is ∙ (total_append weight old.me.0.marks (replicate n (mark w a))
        ∙ ap (λ x. total weight old.me.0.marks + x) (total_replicate weight n (mark w a) ∙ same weight));
  }

  -- a seat that made no mark added nothing
  pub adds_none : (old : Seat (Unit {0}) SeatView) (amount : (Mark → ℕ) → ℕ) → IsSeatAt tally old → ((weight : Mark → ℕ) → amount weight ≡ 0)
      → Adds tally old old amount
  adds_none old amount own none = record { own = own; parts = refl; draws = refl; marks = λ weight. let z = none weight in omega arith }

  -- marks made one after another add the sum of their weights
  pub adds_then : (a b c : Seat (Unit {0}) SeatView) (f g h : (Mark → ℕ) → ℕ) → Adds tally a b f → Adds tally b c g
      → ((weight : Mark → ℕ) → h weight ≡ f weight + g weight) → Adds tally a c h
  adds_then a b c f g h first second same = record {
    own = second.own;
    parts = second.parts ∙ first.parts;
    draws = second.draws ∙ first.draws;
    marks = λ weight. let s = same weight in let x = first.marks weight in let y = second.marks weight in omega arith;
  }

  -- the amount of added marks may be replaced by an equal one
  pub adds_as : (a b : Seat (Unit {0}) SeatView) (f h : (Mark → ℕ) → ℕ) → Adds tally a b f → ((weight : Mark → ℕ) → h weight ≡ f weight) → Adds tally a b h
  adds_as a b f h first same = record {
    own = first.own;
    parts = first.parts;
    draws = first.draws;
    marks = λ weight. let s = same weight in let x = first.marks weight in omega arith;
  }
