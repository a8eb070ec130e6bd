use Rattle.std.proofs.Common.{◌++◌, ◌∷◌, [], ap, sym, arith, ◌∙◌, map}
use Rattle.std.specs.List.{range_with_len}
use Rattle.std.proofs.lemmas.List.FromFn.{map-range_with_len_more}
use Rattle.vol_fields.specs.Roles.{role_of}
use Rattle.vol_fields.proofs.role_table.block_roles.Goals as goal

pub loop-b-preserved : goal.loop-b-preserved
loop-b-preserved c =
    let g = c.args.geometry.now in
    let image = c.args.image.now in
    let b = c.loop-b.b in
    c.in_ok-push.ensures.items
    ∙ (ap (λ xs. xs ++ c.role_in.result ∷ []) c.loop-b.invariant
    ∙ (ap (λ x. map (role_of g image) (range_with_len 0 b) ++ x ∷ []) c.role_in.ensures
    ∙ sym (map-range_with_len_more (role_of g image) 0 b b (omega arith))))
