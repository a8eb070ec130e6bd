use Rattle.std.proofs.Common.{◌≡◌, ◌+◌, ◌*◌, ◌/◌, ◌%◌, true, ap, sym, ◌∙◌, arith}
use Rattle.vol_layout.specs.Geometry.{in_zone}
use Rattle.vol_layout.specs.BlockPointers.{form_at, stored}
use Rattle.vol_layout.proofs.BodyLaws.{zone_room}
use Rattle.vol_file.specs.Steps.{zeros_at}
use Rattle.vol_file.proofs.Bytes.{rewrites_stored, rewrites_none, hole_zero, stored_zone}
use Rattle.vol_file.proofs.pieces.clear_piece.Goals as goal

pub clear-requires-clause-room : goal.clear-requires-clause-room
clear-requires-clause-room c =
    let geometry = c.args.geometry.now in
    let image = c.args.image.now in
    let is : stored geometry image c.args.i (form_at geometry image c.args.i) (c.args.at / 512) ≡ c.number_at-block.result =
    ap (λ f. stored geometry image c.args.i f (c.args.at / 512)) (sym c.requires.form) ∙ sym c.number_at-block.ensures in
    let zone : in_zone geometry c.number_at-block.result ≡ true = ap (in_zone geometry) (sym is)
    ∙ stored_zone geometry image c.requires.sound.blocks c.args.i (c.args.at / 512) c.requires.sound.sound c.requires.file (λ z. c.if-block-ne0.true (sym is ∙ z)) in
    omega (arith, zone_room geometry image c.number_at-block.result c.requires.sound.sound.fits zone, c.requires.room)

pub returns-then-block-ne0 : goal.returns-then-block-ne0
returns-then-block-ne0 c = λ blocks sound.
    let geometry = c.args.geometry.now in
    let image = c.args.image.now in
    let k = c.number_at-block.result in
    let is : stored geometry image c.args.i (form_at geometry image c.args.i) (c.args.at / 512) ≡ k =
    ap (λ f. stored geometry image c.args.i f (c.args.at / 512)) (sym c.requires.form) ∙ sym c.number_at-block.ensures in
    let zone : in_zone geometry k ≡ true = ap (in_zone geometry) (sym is)
    ∙ stored_zone geometry image blocks c.args.i (c.args.at / 512) sound c.requires.file (λ z. c.if-block-ne0.true (sym is ∙ z)) in
    rewrites_stored geometry image c.clear.new.self blocks c.args.i c.args.at c.args.count k zeros_at sound c.requires.file is zone c.requires.room
    c.clear.ensures.others (λ n h. c.clear.ensures.zero (512 * k + c.args.at % 512 + n) (omega arith) (omega arith))

pub returns-else-block-ne0 : goal.returns-else-block-ne0
returns-else-block-ne0 c = λ blocks sound.
    let geometry = c.args.geometry.now in
    let image = c.args.image.now in
    let hole : stored geometry image c.args.i (form_at geometry image c.args.i) (c.args.at / 512) ≡ 0 =
    ap (λ f. stored geometry image c.args.i f (c.args.at / 512)) (sym c.requires.form) ∙ (sym c.number_at-block.ensures ∙ c.if-block-ne0.false) in
    rewrites_none geometry image blocks c.args.i c.args.at (c.args.at + c.args.count) zeros_at sound
    (λ n low high. hole_zero geometry image c.args.i c.args.at n sound.fits hole (omega (arith, low, high, c.requires.room)))
