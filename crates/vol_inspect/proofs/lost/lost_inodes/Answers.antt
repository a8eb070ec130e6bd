use Rattle.std.proofs.Common.{◌≡◌, ◌+◌, ◌-◌, ◌++◌, ◌∷◌, [], ◌∙◌, List, Bool, ap, refl, cond, arith}
use Rattle.std.specs.List.{filter, range_with_len}
use Rattle.vol_inspect.specs.Lost.{is_lost}
use Rattle.vol_inspect.proofs.LostNames.{lost_in_list}
use Rattle.vol_inspect.proofs.Shared.{kept_next}
use Rattle.vol_inspect.proofs.lost.lost_inodes.Goals as goal

pub loop-i-preserved : goal.loop-i-preserved
loop-i-preserved c =
    let g = c.args.geometry.now in
    let image = c.args.image.now in
    let kept = c.loop-i.lost.items in
    let named = c.in_ok-named.named.items in
    kept_next (is_lost g image named) 0 c.loop-i.i kept c.push_lost.new.lost.items (is_lost g image named c.loop-i.i) (omega arith) refl c.loop-i.invariant
    (c.in_ok-push_lost.ensures ∙ ap (λ (ns : List Bool). kept ++ cond (is_lost g image ns c.loop-i.i) (c.loop-i.i ∷ []) []) c.deref.ensures.value)

pub returns-clause-lost : goal.returns-clause-lost
returns-clause-lost c =
    let g = c.args.geometry.now in
    let named = c.in_ok-named.named.items in
    let end : c.loop-i.i - 0 ≡ g.last_inode + 1 = omega arith in
    (named, c.in_ok-named.ensures, c.loop-i.invariant ∙ ap (λ n. filter (is_lost g c.args.image.now named) (range_with_len 0 n)) end)

pub returns-clause-numbers : goal.returns-clause-numbers
returns-clause-numbers c =
    let g = c.args.geometry.now in
    let named = c.in_ok-named.named.items in
    let end : c.loop-i.i - 0 ≡ g.last_inode + 1 = omega arith in
    lost_in_list g c.args.image.now named c.loop-i.lost.items (c.loop-i.invariant ∙ ap (λ n. filter (is_lost g c.args.image.now named) (range_with_len 0 n)) end)
