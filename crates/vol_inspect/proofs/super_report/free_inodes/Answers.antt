use Rattle.std.proofs.Common.{◌+◌, ◌-◌, ◌≡◌, ◌≤◌, true, false, ap, arith, refl, ◌∙◌}
use mir.Val.{bool_byte}
use Rattle.std.specs.List.{count_by, range_with_len}
use Rattle.vol_layout.specs.declared.mode.Kind.TheVariants as kinds
use Rattle.vol_file.specs.Rules.{kind_at}
use Rattle.vol_judge.specs.Directories.{root_of}
use Rattle.vol_reports.specs.Icheck.{is_kind}
use Rattle.vol_reports.proofs.Ranges.{counted_more}
use Rattle.vol_inspect.specs.Inspect.{free_inode_count}
use Rattle.vol_inspect.proofs.super_report.free_inodes.Goals as goal

pub returns : goal.returns
unfolding free_inode_count
returns c =
    let g = c.args.geometry.now in
    let root : c.constants-root.result.root ≡ root_of g = rw c.constants-root.ensures in
    let end : c.loop-past.past ≡ g.last_inode + 1 - root_of g = omega (arith, root, c.requires.root) in
    c.loop-past.invariant.counted ∙ ap (λ n. count_by (λ i. is_kind kinds.Free (kind_at g c.args.image.now i)) (range_with_len (root_of g) n)) end

pub loop-past-preserved : goal.loop-past-preserved
loop-past-preserved c =
    let g = c.args.geometry.now in
    let root : c.constants-root.result.root ≡ root_of g = rw c.constants-root.ensures in
    let x = c.from-count.result in
    let one : x ≤ 1 = elim c.is_free.result as (λ v. x ≡ bool_byte v → x ≤ 1) [ true ↦ λ e. omega (arith, e) | false ↦ λ e. omega (arith, e) ] c.from-count.ensures in
    record {
      counted = counted_more (λ i. is_kind kinds.Free (kind_at g c.args.image.now i)) (root_of g) c.loop-past.past (c.loop-past.past + 1)
          (c.constants-root.result.root + c.loop-past.past) c.loop-past.count c.from-count.result c.is_free.result refl (omega (arith, root))
          c.loop-past.invariant.counted c.from-count.ensures c.is_free.ensures;
      few = let few = c.loop-past.invariant.few in omega (arith, one);
    }
