use Rattle.std.proofs.Common.{◌≡◌, ◌<◌, ◌+◌, ◌*◌, ◌∙◌, sym, subst, false, length, length-set, get_or, arith, inl, inr}
use Rattle.std.proofs.lemmas.Bool.{cases_eq}
use Rattle.std.proofs.lemmas.List.{get_or-set_other}
use Rattle.std.proofs.lemmas.Grind.{get_or-set_at}
use Rattle.vol_repair.proofs.Comparison.{block_unmarked}
use Rattle.vol_repair.proofs.compared.changed_blocks.Goals as goal

pub loop-k-preserved : goal.loop-k-preserved
loop-k-preserved c =
    let marks = c.loop-k.marks.items in
    let k = c.loop-k.k in
    let old = c.args.old.now in
    let new = c.args.new.now in
    let room : k < length marks = omega (arith, c.loop-k.invariant.len, c.loop-k-test.true, c.loop-k.auto.k-end) in
    record {
      len = length-set marks k c.ne.result ∙ c.loop-k.invariant.len;
      same = λ j r inside h sure. elim (cases_eq j k) [
        | inl here ↦ subst (λ x. get_or new (512 * x + r) 0 ≡ get_or old (512 * x + r) 0) (sym here)
            (block_unmarked old new k r c.block.result.now c.block-in-loop-k.result.now c.ne.result c.ne.ensures c.block.ensures.bytes c.block-in-loop-k.ensures.bytes
            (sym (get_or-set_at marks k j c.ne.result false here room) ∙ sure) h)
        | inr other ↦ c.loop-k.invariant.same j r inside h (sym (get_or-set_other marks k j c.ne.result false other) ∙ sure)
      ];
    }
