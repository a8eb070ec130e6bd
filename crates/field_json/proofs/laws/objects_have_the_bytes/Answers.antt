use Rattle.std.proofs.Common.{◌∙◌, ap}
use Rattle.hex.specs.Hex.{encode_lower}
use Rattle.vol_fields.proofs.RowLaws.{rows_bytes}
use Rattle.field_json.proofs.DigitLaws.{rows_digits}
use Rattle.field_json.proofs.laws.objects_have_the_bytes.Goals as goal

pub returns : goal.returns
returns c g image table from to rows fits within are =
    rows_digits g table image rows ∙ ap encode_lower (rows_bytes g table image to fits within rows from are).1
