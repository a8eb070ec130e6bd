use Rattle.std.proofs.Common.{◌≡◌, ◌+◌, ◌∷◌, [], ◌++◌, ◌∙◌, ap, sym, append-nil, arith}
use Rattle.std.specs.List.{flat_map, range_with_len}
use Rattle.std.proofs.lemmas.List.Concat.{flat_map-append}
use Rattle.vol_layout.proofs.WayOrder.{range_more}
use Rattle.vol_rescue.specs.Lines.{lost_inodes_line}
use Rattle.vol_rescue.proofs.lines.inode_lines.Goals as goal

pub loop-b-preserved : goal.loop-b-preserved
loop-b-preserved c =
    let f = lost_inodes_line c.args.geometry.now c.args.lost.now in
    let b = c.loop-b.b in
    let zero_more : 0 + b ≡ b = omega arith in
    c.in_ok-push_block.ensures
    ∙ (ap (λ xs. xs ++ f b) c.loop-b.invariant
    ∙ sym (ap (flat_map f) (range_more 0 b 1 ∙ ap (λ k. range_with_len 0 b ++ k ∷ []) zero_more)
    ∙ (flat_map-append f (range_with_len 0 b) (b ∷ []) ∙ ap (λ xs. flat_map f (range_with_len 0 b) ++ xs) (append-nil (f b)))))
