use Rattle.std.proofs.Common.{◌≡◌, ◌+◌, ◌≤◌, ◌∙◌, take, drop, length, length-take, arith}
use Rattle.std.proofs.lemmas.List.{take_at}
use Rattle.vol_layout.specs.Body.{body_size}
use Rattle.vol_file.proofs.ReadingLaws.{body_part}
use Rattle.vol_file.proofs.read_bytes.read.Goals as goal

pub returns-clause-bytes : goal.returns-clause-bytes
returns-clause-bytes c =
    let count = c.min-count.result in
    let len : length (take count c.args.buffer.now) ≡ count = simp length-take (omega arith) in
    let read : length c.read_whole.new.buffer ≡ count = c.read_whole.auto.buffer ∙ len in
    let room : c.args.offset + count ≤ body_size c.args.geometry.now c.args.image.now c.args.i = omega arith in
    take_at c.read_whole.new.buffer (drop count c.args.buffer.now) count read
    ∙ body_part c.args.geometry.now c.args.image.now c.args.i c.args.offset count c.read_whole.new.buffer read room
    (λ n h. c.read_whole.ensures n (omega arith))
