use Rattle.std.proofs.Common.{arith, ◌≡◌, ◌∙◌, ◌+◌, ◌-◌, ◌++◌, ℕ, List, [], sym, ap, append-nil, drop, length, min, take}
use Rattle.std.proofs.lemmas.List.{drop_all, take_all}
use Rattle.std.specs.List.{slice_range}
use Rattle.vol_layout.specs.Body.{body, body_size}
use Rattle.vol_layout.specs.Edition.{constants}
use Rattle.vol_layout.proofs.BodyLaws.{length-body}
use Rattle.command_copies.proofs.nodes.body_of.Goals as goal

-- a buffer as long as a body, filled from it, has its bytes
filled : (body items new : List ℕ) (size count read : ℕ) → length body ≡ size → length items ≡ size → count ≡ length items → length new ≡ length items
    → read ≡ min (length items) (size - 0) → take read new ≡ slice_range body 0 (0 + read) → take count (new ++ drop (length new) items) ≡ body
filled body items new size count read body_len items_len count_is new_len read_is holds =
    let rest : drop (length new) items ≡ [] = drop_all (length new) items (omega arith) in
    let all : read ≡ length new = omega arith in
    ap (λ xs. take count (new ++ xs)) rest
    ∙ (ap (take count) (append-nil new)
    ∙ (take_all count new (omega arith)
    ∙ (sym (take_all read new (omega arith))
    ∙ (holds
    ∙ take_all (0 + read - 0) body (omega arith)))))

pub returns : goal.returns
returns c =
    let bytes = body c.args.geometry.now c.args.image.now c.args.i in
    let size = body_size c.args.geometry.now c.args.image.now c.args.i in
    let items = c.in_ok-bytes.bytes.items in
    let greatest : c.constants.result.greatest ≡ (constants c.args.geometry.now.edition).greatest = ap (λ k. k.greatest) c.constants.ensures in
    let len : length bytes ≡ size = length-body c.args.geometry.now c.args.image.now c.args.i in
    let items_len : c.in_ok-bytes.bytes.len ≡ length items = sym c.deref_mut.ensures.len ∙ ap length c.deref_mut.ensures.value in
    let new_len : length c.read.new.buffer ≡ length items = c.read.auto.buffer ∙ ap length c.deref_mut.ensures.value in
    let read_is : c.read.result ≡ min (length items) (size - 0) =
    c.read.ensures.count ∙ ap (λ n. min n (size - 0)) (ap length c.deref_mut.ensures.value) in
    filled bytes items c.read.new.buffer size c.in_ok-bytes.bytes.len c.read.result len
    (omega (arith, greatest, c.size.ensures, c.min-length.ensures, c.in_ok-bytes.ensures.len, items_len)) items_len new_len read_is c.read.ensures.bytes
