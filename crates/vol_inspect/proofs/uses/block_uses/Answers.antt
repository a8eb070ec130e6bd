use Rattle.std.proofs.Common.{◌≡◌, ◌++◌, ◌∷◌, [], ap, sym, arith, ◌∙◌, map}
use Rattle.std.specs.List.{range_with_len}
use Rattle.std.proofs.lemmas.List.FromFn.{map-range_with_len_more}
use Rattle.vol_inspect.specs.Uses.{use_in, use_of}
use Rattle.vol_inspect.proofs.UseLaws.{use_is}
use Rattle.vol_inspect.proofs.uses.block_uses.Goals as goal

pub loop-b-preserved : goal.loop-b-preserved
loop-b-preserved c =
    let g = c.args.geometry.now in
    let image = c.args.image.now in
    let b = c.loop-b.b in
    let low = c.loop-b-test.true in
    let is : c.use_at.result ≡ use_of g image b =
    c.use_at.ensures
    ∙ ((λ i. use_in g (c.deref.ensures.value i) (c.deref-in-loop-b.ensures.value i) (c.deref-in-loop-b-2.ensures.value i) b)
    ∙ use_is g image c.in_ok-directories.directories.items c.in_ok-files.files.items c.in_ok-listed.listed.items b c.requires low
    c.in_ok-directories.ensures.each c.in_ok-files.ensures.each c.in_ok-listed.ensures.each) in
    c.in_ok-push.ensures.items
    ∙ (ap (λ xs. xs ++ c.use_at.result ∷ []) c.loop-b.invariant
    ∙ (ap (λ x. map (use_of g image) (range_with_len 0 b) ++ x ∷ []) is ∙ sym (map-range_with_len_more (use_of g image) 0 b b (omega arith))))
