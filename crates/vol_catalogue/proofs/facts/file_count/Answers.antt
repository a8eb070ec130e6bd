use Rattle.std.proofs.Common.{◌+◌, ◌≡◌, ◌≤◌, true, false, ap, arith, refl, ◌∙◌}
use mir.Val.{bool_byte}
use Rattle.std.specs.List.{count_by, range_with_len}
use Rattle.vol_file.specs.Rules.{kind_at}
use Rattle.vol_layout.specs.declared.mode.Kind.TheVariants as kinds
use Rattle.vol_reports.specs.Icheck.{is_kind, kind_count}
use Rattle.vol_reports.proofs.Ranges.{counted_more}
use Rattle.vol_catalogue.proofs.facts.file_count.Goals as goal

pub returns-clause-count : goal.returns-clause-count
unfolding kind_count
returns-clause-count c =
    let g = c.args.geometry.now in
    let end : c.loop-before.before ≡ g.last_inode = omega arith in
    c.loop-before.invariant.counted ∙ ap (λ n. count_by (λ i. is_kind kinds.Regular (kind_at g c.args.image.now i)) (range_with_len 1 n)) end

pub loop-before-preserved : goal.loop-before-preserved
loop-before-preserved c =
    let g = c.args.geometry.now in
    let x = c.from-count.result in
    let one : x ≤ 1 = elim c.is_file.result as (λ v. x ≡ bool_byte v → x ≤ 1) [ true ↦ λ e. omega (arith, e) | false ↦ λ e. omega (arith, e) ] c.from-count.ensures in
    record {
      counted = counted_more (λ i. is_kind kinds.Regular (kind_at g c.args.image.now i)) 1 c.loop-before.before (c.loop-before.before + 1)
          (c.loop-before.before + 1) c.loop-before.count c.from-count.result c.is_file.result refl (omega arith)
          c.loop-before.invariant.counted c.from-count.ensures c.is_file.ensures;
      few = let few = c.loop-before.invariant.few in omega (arith, one);
    }
