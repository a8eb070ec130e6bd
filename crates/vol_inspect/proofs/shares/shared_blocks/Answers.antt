use Rattle.std.proofs.Common.{◌≡◌, ◌-◌, ◌∙◌, ap, sym, arith, true, false}
use Rattle.std.proofs.lemmas.List.{append-nil}
use Rattle.std.specs.List.{filter, range_with_len}
use Rattle.vol_inspect.specs.SharedBlocks.{is_counted_twice, is_shared, shared_blocks}
use Rattle.vol_inspect.proofs.Shared.{counted_is, kept_next}
use Rattle.vol_inspect.proofs.shares.shared_blocks.Goals.{then-is_counted_twice+in_ok-push, else-is_counted_twice}
use Rattle.vol_inspect.proofs.shares.shared_blocks.Goals as goal

pub loop-b-preserved : goal.loop-b-preserved
loop-b-preserved c =
    let g = c.args.geometry.now in
    let image = c.args.image.now in
    let b = c.loop-b.b in
    let kept = c.loop-b.shared.items in
    let is : is_shared g image b ≡ c.is_counted_twice.result =
    sym (c.is_counted_twice.ensures
    ∙ ((λ i. is_counted_twice (c.deref.ensures.value i) (c.deref-in-loop-b.ensures.value i) b)
    ∙ counted_is g image c.in_ok-directories.directories.items c.in_ok-files.files.items b c.requires (omega arith) (omega arith)
    c.in_ok-directories.ensures.each c.in_ok-files.ensures.each)) in
    elim c.if-is_counted_twice.branch [
      | then-is_counted_twice+in_ok-push w ↦
          kept_next (is_shared g image) g.zone_start b kept _ true (omega arith) (is ∙ w.if-is_counted_twice.true) c.loop-b.invariant
          (ap (λ v. v.items) w.shared-is ∙ w.in_ok-push.ensures.items)
      | else-is_counted_twice w ↦
          kept_next (is_shared g image) g.zone_start b kept _ false (omega arith) (is ∙ w.if-is_counted_twice.false) c.loop-b.invariant
          (ap (λ v. v.items) w.shared-is ∙ sym (append-nil kept))
    ]

pub returns : goal.returns
unfolding shared_blocks
returns c =
    let g = c.args.geometry.now in
    let end : c.loop-b.b ≡ g.zone_end = omega arith in
    c.loop-b.invariant ∙ ap (λ n. filter (is_shared g c.args.image.now) (range_with_len g.zone_start (n - g.zone_start))) end
