use Rattle.std.proofs.Common.{arith, ◌≡◌, ◌∙◌, sym, ap, ◌-◌, ◌≤◌, length, min}
use Rattle.vol_layout.specs.Body.{body, body_size}
use Rattle.vol_layout.specs.Edition.{constants}
use Rattle.vol_layout.proofs.BodyLaws.{length-body}
use Rattle.vol_file.specs.Rules.{size_of}
use Rattle.vol_volume.proofs.AnsweredQueries.{bytes_read}
use Rattle.vol_volume.proofs.answer.read.Goals as goal

pub returns : goal.returns
returns c =
    let geometry = c.args.geometry.now in
    let image = c.args.image.now in
    let small : size_of geometry image c.args.i ≤ (constants geometry.edition).greatest =
    c.requires.stands.files.sound.sizes.greatest c.args.i c.requires.file in
    let items_len : c.in_ok-bytes.bytes.len ≡ length c.in_ok-bytes.bytes.items = sym c.deref_mut.ensures.len ∙ ap length c.deref_mut.ensures.value in
    let new_len : length c.read.new.buffer ≡ length c.in_ok-bytes.bytes.items = c.read.auto.buffer ∙ ap length c.deref_mut.ensures.value in
    let read_is : c.read.result ≡ min (length c.in_ok-bytes.bytes.items) (body_size geometry image c.args.i - c.args.offset) =
    c.read.ensures.count ∙ ap (λ n. min n (body_size geometry image c.args.i - c.args.offset)) (ap length c.deref_mut.ensures.value) in
    bytes_read (body geometry image c.args.i) c.in_ok-bytes.bytes.items c.read.new.buffer c.args.offset c.args.len
    (body_size geometry image c.args.i) c.in_ok-bytes.bytes.len c.read.result (length-body geometry image c.args.i)
    (omega (arith, small, c.size.ensures, c.saturating_sub.ensures, c.min-count.ensures, c.in_ok-bytes.ensures.len)) items_len new_len read_is
    c.read.ensures.bytes
