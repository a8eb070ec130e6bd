use Rattle.std.proofs.Common.{◌≡◌, ◌∙◌, ap, sym, subst, length, slice_index_or, None, true, arith}
use Rattle.std.proofs.lemmas.List.FromFn.{get_or-map-range_with_len, length-map-range_with_len}
use Rattle.vol_layout.specs.Geometry.{in_zone}
use Rattle.vol_inspect.specs.Uses.{use_of}
use Rattle.vol_inspect.specs.declared.uses.Use.TheVariants as uses
use Rattle.vol_inspect.proofs.UseLaws.{zone_within}
use Rattle.vol_fields.specs.Roles.{IsNodes, role_by}
use Rattle.vol_fields.proofs.RoleLaws.{data_is, first_nodes}
use Rattle.vol_fields.proofs.role_table.role_in.Goals as goal

pub bounds-uses-b : goal.bounds-uses-b
bounds-uses-b c =
    let g = c.args.geometry.now in
    let within = c.requires.within in
    let len : length c.args.uses.now ≡ g.zone_end = ap length c.requires.uses ∙ length-map-range_with_len (use_of g c.args.image.now) 0 g.zone_end in
    omega (arith, len, within)

pub role_by-requires-clause-nodes : goal.role_by-requires-clause-nodes
role_by-requires-clause-nodes c =
    let g = c.args.geometry.now in
    let zone : in_zone g c.args.b ≡ true = zone_within g c.args.b c.if-b-geometry.false c.requires.within in
    subst (IsNodes g) (sym (c.requires.table c.args.b zone))
    (first_nodes g c.args.image.now c.args.b g.last_inode 1 (omega arith) (omega arith))

pub returns : goal.returns
returns c =
    let g = c.args.geometry.now in
    let image = c.args.image.now in
    let b = c.args.b in
    let zone : in_zone g b ≡ true = zone_within g b c.if-b-geometry.false c.requires.within in
    c.role_by.ensures
    ∙ (ap (λ u. role_by g image u (slice_index_or c.args.table.now b None))
    (ap (λ us. slice_index_or us b uses.Boot) c.requires.uses
    ∙ get_or-map-range_with_len (use_of g image) 0 g.zone_end b b uses.Boot c.requires.within (omega arith))
    ∙ (ap (λ h. role_by g image (use_of g image b) h) (c.requires.table b zone) ∙ sym (data_is g image b c.if-b-geometry.false)))
