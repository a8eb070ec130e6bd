use Rattle.std.proofs.Common.{All, ap, arith, ◌∙◌, sym, subst}
use Rattle.std.specs.Prelude.{Some}
use Rattle.std.specs.List.{sum_by}
use Rattle.std.proofs.lemmas.List.Elements.{All-pop, All-nil}
use Rattle.std.proofs.lemmas.List.Sums.{sum_by_push}
use Rattle.std.proofs.lemmas.List.Sorted.{All-permutation, sum_by-IsPermutation}
use Rattle.vol_check.specs.Levels.{IsNamed, by_times}
use Rattle.vol_check.proofs.levels.each_once.Goals as goal

pub loop-n-init : goal.loop-n-init
loop-n-init c =
    let sorted = c.sort_unstable_by_key.new.self.items in
    let shuffled = c.sort_unstable_by_key.ensures.permutation in
    record {
      named = λ g all. (All-permutation (IsNamed g) c.args.named.items sorted shuffled all, subst (All (IsNamed g)) (sym c.new-once.ensures.items) (All-nil (IsNamed g)));
      same = λ f.
          let p = sum_by-IsPermutation (by_times f) c.args.named.items sorted shuffled in
          let none = ap (sum_by (by_times f)) c.new-once.ensures.items in
          omega arith;
    }

pub loop-n-preserved : goal.loop-n-preserved
loop-n-preserved c =
    let inv = c.loop-n.invariant in
    record {
      named = λ g all.
          let both = inv.named g all in
          let parts = All-pop (IsNamed g) c.loop-n.named.items c.pop.new.self.items (Some c.in-Some.n) c.in-Some.ensures.items both.0 in
          (parts.0, c.in_ok-push_once.ensures.named g both.1 parts.1);
      same = λ f.
          let s = inv.same f in
          let p = c.in_ok-push_once.ensures.same f in
          let left = ap (sum_by (by_times f)) c.in-Some.ensures.items ∙ sum_by_push (by_times f) c.pop.new.self.items c.in-Some.n in
          omega arith;
    }
