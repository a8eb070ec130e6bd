use Rattle.std.proofs.Common.{◌≡◌, ℕ, ◌+◌, ◌-◌, ◌/◌, ◌<◌, ◌≤◌, List, length, get_or, take, drop, ap, subst, ◌∙◌, arith, length-take, length-drop}
use Rattle.std.proofs.lemmas.List.{get_or-take, get_or-drop}
use Rattle.vol_layout.specs.Geometry.{in_zone}
use Rattle.vol_file.specs.Steps.{Rewrites, text_at}
use Rattle.vol_file.proofs.Bytes.{rewrites_then, stored_same}
use Rattle.vol_file.proofs.pieces.put_text.Goals as goal

pub put_piece-requires-clause-zone : goal.put_piece-requires-clause-zone
put_piece-requires-clause-zone c =
    let before = c.loop-done.invariant.written c.requires.sound.blocks c.requires.sound.sound in
    ap (in_zone c.args.geometry.now)
    (stored_same c.args.geometry.now c.args.image.now c.loop-done.image c.requires.sound.blocks c.args.i c.args.offset (c.args.offset + c.loop-done.done)
    ((c.args.offset + c.loop-done.done) / 512) c.args.form (text_at c.args.offset c.args.text.now) c.requires.file c.requires.form before)
    ∙ c.requires.zone c.loop-done.done c.loop-done-test.true

-- byte `n` of a part of the text is byte `d + n` of the text
part_byte : (text : List ℕ) (m d n : ℕ) → n < m → get_or (take m (drop d text)) n 0 ≡ get_or text (d + n) 0
part_byte text m d n h = get_or-take m (drop d text) n 0 h ∙ get_or-drop d text n 0

pub loop-done-preserved : goal.loop-done-preserved
loop-done-preserved c =
    let d = c.loop-done.done in
    let count = d + c.min-count.result - d in
    let text = c.args.text.now in
    let offset = c.args.offset in
    let room : d + c.min-count.result ≤ length text = omega (arith, c.min-count.ensures, c.loop-done-test.true) in
    let len : length (take count (drop d text)) ≡ c.min-count.result = simp (length-take, length-drop) (omega arith) in
    record {
      within = room;
      written = λ blocks sound.
          let before = c.loop-done.invariant.written blocks sound in
          let end : offset + d + length (take count (drop d text)) ≡ offset + (d + c.min-count.result) = omega (arith, len) in
          subst (λ n. Rewrites c.args.geometry.now c.args.image.now c.put_piece.new.image c.args.i offset n (text_at offset text) blocks) end
          (rewrites_then c.args.geometry.now c.args.image.now c.loop-done.image c.put_piece.new.image blocks c.args.i offset (offset + d)
          (offset + d + length (take count (drop d text))) (text_at offset text) sound c.requires.file.first (omega arith) (omega arith) before
          (c.put_piece.ensures (text_at offset text) blocks before.sound
          (λ n h. let low : n < count = omega (arith, len, h) in
          let place : d + n ≡ offset + d + n - offset = omega arith in
          part_byte text count d n low ∙ ap (λ x. get_or text x 0) place)));
    }

pub returns : goal.returns
returns c = λ blocks sound.
    let end : c.args.offset + c.loop-done.done ≡ c.args.offset + length c.args.text.now =
    omega (arith, c.loop-done.invariant.within, c.loop-done-test.false) in
    subst (λ n. Rewrites c.args.geometry.now c.args.image.now c.loop-done.image c.args.i c.args.offset n (text_at c.args.offset c.args.text.now) blocks) end
    (c.loop-done.invariant.written blocks sound)
