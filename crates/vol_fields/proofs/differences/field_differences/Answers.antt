use Rattle.std.proofs.Common.{List, length, subst, sym}
use Rattle.vol_fields.specs.Changes.{AreShared}
use Rattle.vol_fields.specs.declared.field.Field.{Field}
use Rattle.vol_fields.proofs.differences.field_differences.Goals as goal

pub returns-clause-shared : goal.returns-clause-shared
returns-clause-shared c =
    let len = length c.args.new.now.image.now in
    let other = length c.args.old.now in
    c.field_groups.ensures.shared len other
    (subst (λ (fields : List Field). AreShared len other fields) (sym c.deref-3.ensures.value) c.in_ok-fields.ensures.shared)
