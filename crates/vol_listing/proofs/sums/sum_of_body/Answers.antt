use Rattle.std.proofs.Common.{◌≡◌, ◌+◌, ◌-◌, ap, arith, drop, length, take, ◌∙◌}
use Rattle.std.proofs.lemmas.List.{take_all}
use Rattle.std.proofs.Math.Seq.{take-add}
use Rattle.vol_layout.specs.Body.{body, body_size}
use Rattle.vol_layout.proofs.BodyLaws.{length-body}
use Rattle.vol_listing.proofs.sums.sum_of_body.Goals as goal

pub returns-then-count-eq0 : goal.returns-then-count-eq0
returns-then-count-eq0 c =
    let bytes = body c.args.geometry.now c.args.image.now c.args.i in
    let len : length bytes ≡ body_size c.args.geometry.now c.args.image.now c.args.i = length-body c.args.geometry.now c.args.image.now c.args.i in
    let all : take c.pieces.hashed bytes ≡ bytes = take_all c.pieces.hashed bytes (omega arith) in
    c.finalize.ensures bytes (rw all at c.pieces.invariant.1)

pub pieces-preserved : goal.pieces-preserved
pieces-preserved c =
    let bytes = body c.args.geometry.now c.args.image.now c.args.i in
    let n = c.pieces.hashed in
    let count = c.read-count.result in
    let same : n + count - n ≡ count = omega arith in
    let piece : take count c.read-count.new.buffer ≡ take count (drop n bytes) = c.read-count.ensures.bytes ∙ ap (λ k. take k (drop n bytes)) same in
    let step = c.update.ensures (take n bytes) c.pieces.invariant.1 in
    (omega arith, rw (take-add n count bytes) (rw piece at step))
