use Rattle.std.proofs.Common.{◌∙◌, ap, sym, is_ok}
use Rattle.vol_judge.proofs.RuleNumbers.{read_sizes}
use Rattle.vol_layout.specs.Geometry.{block_count, geometry_read}
use Rattle.vol_layout.specs.declared.geometry.Geometry.{Geometry}
use Rattle.vol_repair.proofs.longer.lengthened.Goals as goal

pub with_least-requires-clause-sized : goal.with_least-requires-clause-sized
with_least-requires-clause-sized c =
    ap (λ bytes. is_ok (geometry_read c.args.edition bytes)) c.into_bytes.ensures ∙ sym (ap is_ok c.in-Ok.ensures.exact)

pub with_least-requires-clause-own : goal.with_least-requires-clause-own
with_least-requires-clause-own c =
    let read = read_sizes c.args.edition c.from_bytes-image.result c.in-Ok.geometry (sym c.in-Ok.ensures.exact) in
    ap (λ (geometry : Geometry). geometry.zone_end) read ∙ sym (ap (block_count c.args.edition) c.into_bytes.ensures)
