use Rattle.std.proofs.Common.{◌≡◌, ◌+◌, ◌*◌, ◌/◌, ◌%◌, true, length, get_or, ap, sym, ◌∙◌}
use Rattle.vol_layout.specs.Geometry.{in_zone}
use Rattle.vol_layout.specs.BlockPointers.{form_at, stored}
use Rattle.vol_layout.proofs.BodyLaws.{get_or-slice_range}
use Rattle.vol_file.proofs.Bytes.{rewrites_stored}
use Rattle.vol_file.proofs.pieces.put_piece.Goals as goal

pub returns : goal.returns
returns c = λ content blocks sound bytes.
    let geometry = c.args.geometry.now in
    let image = c.args.image.now in
    let k = c.number_at-block.result in
    let len = length c.args.piece.now in
    let is : stored geometry image c.args.i (form_at geometry image c.args.i) (c.args.at / 512) ≡ k =
    ap (λ f. stored geometry image c.args.i f (c.args.at / 512)) (sym c.requires.form) ∙ sym c.number_at-block.ensures in
    let zone : in_zone geometry k ≡ true = ap (in_zone geometry) c.number_at-block.ensures ∙ c.requires.zone in
    rewrites_stored geometry image c.put_bytes.new.self blocks c.args.i c.args.at len k content sound c.requires.file is zone c.requires.room
    c.put_bytes.ensures.others
    (λ n h. sym (get_or-slice_range c.put_bytes.new.self (512 * k + c.args.at % 512) len n h)
    ∙ (ap (λ xs. get_or xs n 0) c.put_bytes.ensures.put ∙ bytes n h))
