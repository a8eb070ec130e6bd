use Rattle.std.proofs.Common.{◌≡◌, ◌+◌, ◌≤◌, ◌∷◌, [], ◌++◌, ◌∙◌, ap, sym, append-nil, append_assoc, arith}
use Rattle.std.specs.Prelude.{false, slice_index_or}
use Rattle.std.specs.List.{flat_map, list_any, range_with_len}
use Rattle.std.proofs.lemmas.List.Concat.{flat_map-append}
use Rattle.vol_layout.proofs.WayOrder.{range_more}
use Rattle.vol_rescue.specs.Repaired.{entry_after, is_member_of}
use Rattle.vol_rescue.proofs.repaired.with_others.Goals as goal

pub loop-before-preserved : goal.loop-before-preserved
loop-before-preserved c =
    let founds = c.args.founds.items in
    let f = entry_after c.args.geometry.now c.args.lost.now c.args.start founds in
    let before = c.loop-before.before in
    let low : before + 1 ≤ c.args.geometry.now.last_inode = omega (arith, c.loop-before-test.true) in
    let met : c.is_marked-is_met.result ≡ list_any (is_member_of (before + 1)) founds =
    c.is_marked-is_met.ensures ∙ (ap (λ marks. slice_index_or marks (before + 1) false) c.deref-in-loop-before.ensures.value
    ∙ (c.in_ok-met.ensures.marks (before + 1) low ∙ ap (list_any (is_member_of (before + 1))) c.deref.ensures.value)) in
    let zero_more : 0 + before ≡ before = omega arith in
    c.in_ok-push_other.ensures founds met
    ∙ (ap (λ xs. xs ++ f before) c.loop-before.invariant
    ∙ (append_assoc founds (flat_map f (range_with_len 0 before)) (f before)
    ∙ ap (λ xs. founds ++ xs)
    (sym (ap (flat_map f) (range_more 0 before 1 ∙ ap (λ k. range_with_len 0 before ++ k ∷ []) zero_more)
    ∙ (flat_map-append f (range_with_len 0 before) (before ∷ []) ∙ ap (λ xs. flat_map f (range_with_len 0 before) ++ xs) (append-nil (f before)))))))
