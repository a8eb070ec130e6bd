use Rattle.std.proofs.Common.{◌≡◌, ◌∙◌, ◌++◌, sym, ap, List, map, arith}
use Rattle.std.proofs.lemmas.List.{append-nil}
use Rattle.vol_compare.specs.Merge.{Pairing, merged, pairing_of, rest_of}
use Rattle.vol_compare.specs.declared.merge.Pair.{Pair}
use Rattle.vol_compare.proofs.MergeSteps.{merged_end, roots_first}
use Rattle.vol_compare.proofs.merge.pairs.Goals as goal

pub loop-i-init : goal.loop-i-init
loop-i-init c =
    let first : (tail : List Pair) → c.push.new.self.items ≡ c.new-pairs.result.items ++ tail → c.push.new.self.items ≡ tail =
    λ tail is. is ∙ ap (λ (front : List Pair). front ++ tail) c.new-pairs.ensures.items in
    record {
      old_within = omega arith;
      new_within = omega arith;
      all = λ times.
          ap (λ (ps : List Pair). map (pairing_of times c.args.old.now c.args.new.now) ps ++ merged (rest_of times c.args.old.now 0) (rest_of times c.args.new.now 0))
          (first _ c.in_ok-push.ensures.items)
          ∙ roots_first times c.args.old.now c.args.new.now c.requires;
    }

pub returns : goal.returns
returns c = λ times.
    let found = map (pairing_of times c.args.old.now c.args.new.now) c.loop-i.pairs.items in
    sym (append-nil found)
    ∙ (ap (λ (rest : List Pairing). found ++ rest)
    (sym (merged_end times c.args.old.now c.args.new.now c.loop-i.i c.loop-i.j (omega arith) (omega arith))) ∙ c.loop-i.invariant.all times)
