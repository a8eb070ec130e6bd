use Rattle.std.proofs.Common.{◌≡◌, ◌+◌, ◌/◌, ◌≤◌, length, max, ap, sym, ◌∙◌, arith}
use Rattle.vol_layout.specs.Edition.{constants}
use Rattle.vol_layout.specs.Geometry.{in_zone}
use Rattle.vol_layout.specs.BlockMaps.{form_of}
use Rattle.vol_layout.specs.BlockPointers.{form_at, stored}
use Rattle.vol_layout.specs.declared.block_map.BlockMap.TheVariants.{Small}
use Rattle.vol_layout.proofs.InodeLaws.{form_same}
use Rattle.vol_file.specs.Rules.{size_of}
use Rattle.vol_file.specs.Steps.{zeros_at}
use Rattle.vol_file.proofs.Bytes.{stored_same}
use Rattle.vol_file.proofs.StoredNames.{file_same}
use Rattle.vol_file.proofs.PutSizes.{resized, puts}
use Rattle.vol_file.proofs.write_bytes.put_in_blocks.Goals as goal

pub put_text-requires-clause-zone : goal.put_text-requires-clause-zone
put_text-requires-clause-zone c = λ n h.
    let geometry = c.args.geometry.now in
    let image = c.args.image.now in
    let form : c.of-form.result ≡ form_at geometry image c.args.i = c.of-form.ensures ∙ ap (form_of geometry.edition) c.mode.ensures in
    let cleared = c.clear_between.ensures c.requires.sound.blocks c.requires.sound.sound in
    ap (in_zone geometry)
    (stored_same geometry image c.clear_between.new.image c.requires.sound.blocks c.args.i c.min.result c.args.offset ((c.args.offset + n) / 512) c.of-form.result
    zeros_at c.requires.file form cleared)
    ∙ (ap (λ f. in_zone geometry (stored geometry image c.args.i f ((c.args.offset + n) / 512))) form ∙ c.requires.zone n h)

pub returns : goal.returns
returns c = λ blocks sound.
    let geometry = c.args.geometry.now in
    let image = c.args.image.now in
    let i = c.args.i in
    let offset = c.args.offset in
    let text = c.args.text.now in
    let cleared = c.clear_between.ensures blocks sound in
    let put = c.put_text.ensures blocks cleared.sound in
    let mode = put.mode ∙ cleared.mode in
    let file_put = file_same geometry image c.put_text.new.image i mode c.requires.file in
    let size : size_of geometry c.put_size.new.image i ≡ max (size_of geometry image i) (offset + length text) =
    c.put_size.ensures.put ∙ omega (arith, c.max.ensures, c.size-before.ensures) in
    let bound = sound.sizes.greatest i c.requires.file in
    let great : max (size_of geometry image i) (offset + length text) ≤ (constants geometry.edition).greatest = omega (arith, bound, c.requires.greatest) in
    let low : form_at geometry c.put_text.new.image i ≡ Small → max (size_of geometry image i) (offset + length text) ≤ 4096 =
    λ small. let was : form_at geometry image i ≡ Small = sym (form_same geometry image c.put_text.new.image i mode) ∙ small in
    omega (arith, sound.sizes.small i c.requires.file was, c.requires.small was) in
    puts geometry image c.clear_between.new.image c.put_text.new.image c.put_size.new.image blocks i offset c.min.result text sound c.requires.file
    (omega (arith, c.min.ensures, c.size-before.ensures)) cleared put
    (resized geometry c.put_text.new.image c.put_size.new.image blocks i (max (size_of geometry image i) (offset + length text)) put.sound file_put
    c.put_size.ensures.others size great low)
