use Rattle.std.proofs.Common.{◌≡◌, ◌∙◌, ◌-◌, ◌++◌, length, replicate, ap, arith}
use Rattle.std.specs.Vec.{vec_len}
use Rattle.std.proofs.lemmas.List.{take_all}
use Rattle.vol_losses.proofs.given_sizes.padded.Goals as goal

pub returns : goal.returns
returns c =
    let bytes = c.args.bytes.items in
    let size : c.len.result ≡ length bytes = omega (arith, c.len.ensures, c.args.bytes.ok.0) in
    let zeros : 1024 - vec_len c.args.bytes ≡ 1024 - length bytes = omega (arith, c.args.bytes.ok.0) in
    c.in_ok-resize.ensures.items
    ∙ (ap (λ front. front ++ replicate (1024 - vec_len c.args.bytes) 0) (take_all 1024 bytes (omega (arith, size, c.if-len-ge-HEAD.false)))
    ∙ ap (λ n. bytes ++ replicate n 0) zeros)
