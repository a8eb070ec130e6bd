use Rattle.std.proofs.Common.{◌≡◌, ◌∙◌, ◌-◌, ◌*◌, ◌<◌, List, ℕ, ap, sym, subst, arith, false}
use Rattle.vol_layout.specs.Geometry.{block_count}
use Rattle.vol_layout.specs.declared.edition.Constants.{Constants}
use Rattle.host_files.specs.ReadParts.{IsReadOn, IsSkipped, IsVolumeRead}
use Rattle.host_files.proofs.Fronts.{loses_both, more_than_one, on_err, read_ended, read_endless, read_far}
use Rattle.host_files.proofs.volume_front.read_volume.Goals as goal

pub returns-in_err-bytes-clause-front : goal.returns-in_err-bytes-clause-front
returns-in_err-bytes-clause-front g c =
    let first = c.in_ok-head.ensures.ok in
    on_err c.from_residual-in_err-bytes.result _ (loses_both _ _ _ (first.more, first.front) c.in_err-bytes.ensures.front)

pub returns-then-blocks-greatest-clause-ok : goal.returns-then-blocks-greatest-clause-ok
returns-then-blocks-greatest-clause-ok g c =
    let first = c.in_ok-head.ensures.ok in
    let is : c.from_bytes-head.result ≡ c.in_ok-head.head.items = c.from_bytes-head.ensures in
    let count : c.block_count-blocks.result ≡ block_count c.args.edition c.in_ok-head.head.items =
    c.block_count-blocks.ensures.value ∙ ap (block_count c.args.edition) is in
    let on = subst (λ (head : List ℕ). IsReadOn (g.S.Source.remaining c.read_on.new.source) (g.S.Source.remaining c.read_on-then-blocks-greatest.new.source) head c.in_ok-bytes.bytes.items (512 * c.block_count-blocks.result)) (c.into_bytes.ensures ∙ is) c.in_ok-bytes.ensures.ok in
    subst (IsVolumeRead c.args.edition _ _) (sym c.from_bytes-then-blocks-greatest.ensures)
    (read_far c.args.edition _ _ _ _ c.in_ok-head.head.items c.in_ok-bytes.bytes.items c.block_count-blocks.result c.new.ensures.items first (omega arith) count on)

pub returns-in-Ok-true-clause-ok : goal.returns-in-Ok-true-clause-ok
returns-in-Ok-true-clause-ok g c =
    let first = c.in_ok-head.ensures.ok in
    let is : c.from_bytes-head.result ≡ c.in_ok-head.head.items = c.from_bytes-head.ensures in
    let count : c.block_count-blocks.result ≡ block_count c.args.edition c.in_ok-head.head.items =
    c.block_count-blocks.ensures.value ∙ ap (block_count c.args.edition) is in
    let some = subst (λ (limits : Constants). 1 < limits.block_limit) (sym c.constants-greatest.ensures) (more_than_one c.args.edition) in
    let ended = subst (IsSkipped (512 * (c.constants-greatest.result.block_limit - 1)) (g.S.Source.remaining c.read_on.new.source) (g.S.Source.remaining c.skip.new.source))
    c.in-Ok-true.field-0-test c.in-Ok-true.ensures.ok in
    subst (IsVolumeRead c.args.edition _ _) (sym is)
    (read_ended c.args.edition _ _ _ _ c.in_ok-head.head.items c.block_count-blocks.result c.constants-greatest.result.block_limit c.new.ensures.items first (omega arith) count
    (ap (λ (limits : Constants). limits.block_limit) c.constants-greatest.ensures) (omega arith) some ended)

pub returns-in-Ok-false-clause-front : goal.returns-in-Ok-false-clause-front
returns-in-Ok-false-clause-front g c =
    let first = c.in_ok-head.ensures.ok in
    let lost = c.in-Ok-false.ensures.ok in loses_both _ _ _ (first.more, first.front) (lost.0, lost.1)

pub returns-in-Err-clause-front : goal.returns-in-Err-clause-front
returns-in-Err-clause-front g c =
    let first = c.in_ok-head.ensures.ok in loses_both _ _ _ (first.more, first.front) c.in-Err.ensures.front

pub returns-in-Ok-false-clause-endless : goal.returns-in-Ok-false-clause-endless
returns-in-Ok-false-clause-endless g c _ =
    let first = c.in_ok-head.ensures.ok in
    let count : c.block_count-blocks.result ≡ block_count c.args.edition c.in_ok-head.head.items =
    c.block_count-blocks.ensures.value ∙ ap (block_count c.args.edition) c.from_bytes-head.ensures in
    let over = subst (λ (limits : Constants). limits.block_limit < c.block_count-blocks.result) c.constants-greatest.ensures c.if-blocks-greatest.false in
    let on = subst (λ (limits : Constants). IsSkipped (512 * (limits.block_limit - 1)) (g.S.Source.remaining c.read_on.new.source) (g.S.Source.remaining c.skip.new.source) false)
    c.constants-greatest.ensures
    (subst (IsSkipped (512 * (c.constants-greatest.result.block_limit - 1)) (g.S.Source.remaining c.read_on.new.source) (g.S.Source.remaining c.skip.new.source))
    c.in-Ok-false.field-0-test c.in-Ok-false.ensures.ok) in
    read_endless c.args.edition _ _ _ _ c.in_ok-head.head.items c.block_count-blocks.result c.new.ensures.items first (omega arith) count over on
