use Rattle.std.proofs.Common.{subst}
use Rattle.vol_fields.proofs.SpotLaws.{Within}
use Rattle.vol_fields.proofs.FieldLaws.{field_bounds, field_same}
use Rattle.vol_fields.proofs.laws.fields_part_the_image.Goals as goal

pub returns : goal.returns
returns c g image t n q fits first second =
    let edges = field_bounds g image t q fits second in
    ((λ same. subst (λ f. Within f.spot q) same (edges.1, edges.2)), (λ has. field_same g image t n q fits first has))
