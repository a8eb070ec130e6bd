use Rattle.std.proofs.Common.{rules, ◌∙◌, ap, get_or, arith}
use Rattle.vol_resize.proofs.Laws.{resized_by}
use Rattle.vol_resize.proofs.resized_volume.resize.Goals as goal

pub returns-clause-resized : goal.returns-clause-resized
returns-clause-resized c =
    let read = c.into_bytes-bytes.ensures ∙ c.from_bytes-image.ensures in
    rw c.into_bytes-2.ensures
    (resized_by c.args.edition c.args.blocks c.args.bytes.items c.from_bytes-image.result c.in-Ok.used.geometry c.in-Ok.used.used.items c.deref.result.now
    c.resize.new.self.items c.put_block_count.new.image c.rebuild.new.image c.from_bytes-image.ensures c.in-Ok.ensures.used c.deref.ensures.value
    (search rules)
    (λ k d low inside. c.resize.ensures.by_index.0 k d (omega (arith, low)) (search rules) ∙ ap (λ xs. get_or xs k d) read)
    (rw c.from_bytes-image-2.ensures at c.put_block_count.ensures.others) c.put_block_count.ensures.put
    c.rebuild.ensures.others c.rebuild.ensures.free c.rebuild.ensures.fits)
