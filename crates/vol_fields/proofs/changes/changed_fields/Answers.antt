use Rattle.std.proofs.Common.{◌+◌, ◌<◌, ◌≤◌, length, subst, arith}
use Rattle.std.proofs.lemmas.List.Elements.{All-weaker, All-contains_itself}
use Rattle.vol_fields.specs.declared.field.Field.{Field}
use Rattle.vol_fields.proofs.FieldLaws.{field_bounds, field_ends}
use Rattle.vol_fields.proofs.changes.changed_fields.Goals as goal

pub returns-clause-shared : goal.returns-clause-shared
returns-clause-shared c =
    let g = c.args.geometry.now in
    let t = c.args.roles.now in
    let image = c.args.image.now in
    All-weaker _ (λ (f : Field). (f.spot.start + f.spot.bytes ≤ length image) × (f.spot.start < length c.args.other.now))
    (λ f has. let was = c.loop-n.invariant.lists.only f has in
    let within = was.1 in
    subst (λ (f : Field). (f.spot.start + f.spot.bytes ≤ length image) × (f.spot.start < length c.args.other.now)) was.3
    (let edges = field_bounds g image t was.0 c.requires (omega (arith, within)) in
    (field_ends g image t was.0 c.requires (omega (arith, within)), omega (arith, edges.1, within))))
    c.loop-n.found.items (All-contains_itself c.loop-n.found.items)
