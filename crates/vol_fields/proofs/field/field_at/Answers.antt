use Rattle.std.proofs.Common.{◌≡◌, ◌+◌, ◌<◌, ◌≤◌, ◌∙◌, length, ap, sym, subst, arith, ◌^◌}
use Rattle.vol_fields.specs.Fields.{part_at, outer_in, inner_in, field_at}
use Rattle.vol_fields.specs.Runs.{total}
use Rattle.vol_fields.specs.Tables.{part_runs, inner_runs, role_at}
use Rattle.vol_fields.specs.declared.runs.Spot.{Spot}
use Rattle.vol_fields.proofs.FieldLaws.{part_bounds, part_fills, outer_bounds, inner_fills, field_bounds, field_ends}
use Rattle.vol_fields.proofs.field.field_at.Goals as goal

pub outer_in-outer-requires-clause-before : goal.outer_in-outer-requires-clause-before
outer_in-outer-requires-clause-before c =
    subst (λ (p : Spot). p.start ≤ c.args.n) (sym c.part_at-part.ensures.exact)
    (part_bounds c.args.geometry.now c.args.image.now c.args.n c.requires.fits c.requires.within).1

pub outer_in-outer-requires-clause-room : goal.outer_in-outer-requires-clause-room
outer_in-outer-requires-clause-room c =
    let g = c.args.geometry.now in
    let image = c.args.image.now in
    let bounds = part_bounds g image c.args.n c.requires.fits c.requires.within in
    let fills = part_fills g image c.args.n c.requires.fits c.requires.within c.role_at-role.result in
    let small = c.fits_in_memory.ensures in
    subst (λ (p : Spot). p.start + total (part_runs g.edition c.role_at-role.result p.name p.bytes) < 2 ^ 64) (sym c.part_at-part.ensures.exact)
    (omega (arith, bounds.3, fills, small))

pub inner_in-spot-requires-clause-before : goal.inner_in-spot-requires-clause-before
inner_in-spot-requires-clause-before c =
    let g = c.args.geometry.now in
    let image = c.args.image.now in
    let role = c.role_at-role.result in
    let is : c.outer_in-outer.result ≡ outer_in g.edition role (part_at g (length image) c.args.n) c.args.n =
    c.outer_in-outer.ensures ∙ ap (λ p. outer_in g.edition role p c.args.n) c.part_at-part.ensures.exact in
    subst (λ (o : Spot). o.start ≤ c.args.n) (sym is) (outer_bounds g image role c.args.n c.requires.fits c.requires.within).1

pub inner_in-spot-requires-clause-room : goal.inner_in-spot-requires-clause-room
inner_in-spot-requires-clause-room c =
    let g = c.args.geometry.now in
    let image = c.args.image.now in
    let role = c.role_at-role.result in
    let bounds = part_bounds g image c.args.n c.requires.fits c.requires.within in
    let inside = outer_bounds g image role c.args.n c.requires.fits c.requires.within in
    let fills = inner_fills g image role c.args.n c.requires.fits c.requires.within in
    let small = c.fits_in_memory.ensures in
    let is : c.outer_in-outer.result ≡ outer_in g.edition role (part_at g (length image) c.args.n) c.args.n =
    c.outer_in-outer.ensures ∙ ap (λ p. outer_in g.edition role p c.args.n) c.part_at-part.ensures.exact in
    subst (λ (o : Spot). o.start + total (inner_runs o.name o.index o.bytes) < 2 ^ 64) (sym is) (omega (arith, inside.3, bounds.3, fills, small))

-- the field found is that of the definition
is_field : (c : goal.After-inner_in-spot) → c.inner_in-spot.result ≡ (field_at c.args.geometry.now c.args.roles.now (length c.args.image.now) c.args.n).spot
unfolding field_at
is_field c =
    let g = c.args.geometry.now in
    let image = c.args.image.now in
    let table = c.args.roles.now in
    let n = c.args.n in
    let outer : c.outer_in-outer.result ≡ outer_in g.edition (role_at table (part_at g (length image) n).index) (part_at g (length image) n) n =
    c.outer_in-outer.ensures
    ∙ (ap (λ r. outer_in g.edition r c.part_at-part.result n) c.role_at-role.ensures
    ∙ ap (λ (p : Spot). outer_in g.edition (role_at table p.index) p n) c.part_at-part.ensures.exact) in
    c.inner_in-spot.ensures ∙ ap (λ o. inner_in o n) outer

pub returns-clause-end : goal.returns-clause-end
returns-clause-end c =
    subst (λ (s : Spot). s.start + s.bytes ≤ length c.args.image.now) (sym (is_field c))
    (field_ends c.args.geometry.now c.args.image.now c.args.roles.now c.args.n c.requires.fits c.requires.within)

pub returns-clause-has : goal.returns-clause-has
returns-clause-has c =
    subst (λ (s : Spot). c.args.n < s.start + s.bytes) (sym (is_field c))
    (field_bounds c.args.geometry.now c.args.image.now c.args.roles.now c.args.n c.requires.fits c.requires.within).2
