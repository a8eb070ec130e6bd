use Rattle.std.proofs.Common.{◌≡◌, ◌+◌, ◌-◌, ◌/◌, ◌%◌, ◌<◌, ◌≤◌, take, drop, length, length-take, length-drop, arith, ap, subst, ◌∙◌}
use Rattle.vol_layout.specs.BlockPointers.{form_at, stored}
use Rattle.vol_layout.specs.Body.{zone_byte, body_byte}
use Rattle.vol_file.specs.Runs.{LooksUp}
use Rattle.vol_file.proofs.ReadingLaws.{zone_byte-body, written_on}
use Rattle.vol_file.proofs.read_bytes.read_whole.Goals as goal

pub loop-done-preserved : goal.loop-done-preserved
loop-done-preserved c =
    let geometry = c.args.geometry.now in
    let image = c.args.image.now in
    let i = c.args.i in
    let at = c.args.offset + c.loop-done.done in
    let count = c.loop-done.done + c.min-count.result - c.loop-done.done in
    let room : c.loop-done.done + c.min-count.result ≤ length c.loop-done.buffer = omega arith in
    let len : length (take count (drop c.loop-done.done c.loop-done.buffer)) ≡ c.min-count.result =
    simp (length-take, length-drop) (omega arith) in
    let inode = c.loop-done.invariant.own.inode in
    let block : c.number_at-block.result ≡ stored geometry image i (form_at geometry image i) (at / 512) =
    subst (λ j. c.number_at-block.result ≡ stored geometry image j (form_at geometry image j) (at / 512)) inode c.number_at-block.ensures.number in
    record {
      own = subst (λ j. LooksUp geometry image j c.number_at-block.new.self) inode c.number_at-block.ensures.own;
      read = written_on (λ n. body_byte geometry image i (c.args.offset + n)) c.loop-done.buffer
          c.read_piece.new.piece c.loop-done.done c.min-count.result _ (omega arith) (c.read_piece.auto.piece ∙ len) room c.loop-done.invariant.read
          (λ n h. let low : n < length (take count (drop c.loop-done.done c.loop-done.buffer)) = omega arith in
          let place : at + n ≡ c.args.offset + (c.loop-done.done + n) = omega arith in
          let inside : at % 512 + n < 512 = omega arith in
          c.read_piece.ensures n low ∙ (ap (λ k. zone_byte geometry image k (at % 512 + n)) block
          ∙ (zone_byte-body geometry image i at n inside ∙ ap (body_byte geometry image i) place)));
    }
