use Rattle.std.proofs.Common.{◌+◌, sym, subst, arith}
use Rattle.vol_fields.specs.Rows.{AreRows}
use Rattle.vol_fields.proofs.RowLaws.{rows_more, rows_within}
use Rattle.vol_fields.proofs.rows.rows_of.Goals as goal

pub loop-n-preserved : goal.loop-n-preserved
loop-n-preserved c =
    let g = c.args.geometry.now in
    let t = c.args.roles.now in
    let image = c.args.image.now in
    let row = c.row_at-row.result in
    let end = c.row_at-row.ensures.end in
    record {
      within = omega (arith, end);
      added = subst (AreRows g t image c.args.to c.args.from (c.loop-n.n + row.bytes)) (sym c.in_ok-push.ensures.items)
          (rows_more g t image c.args.to c.args.from c.loop-n.n c.loop-n.rows.items row c.loop-n.invariant.added c.loop-n-test.true
          c.row_at-row.ensures.exact);
    }

pub returns-clause-rows : goal.returns-clause-rows
returns-clause-rows c =
    let test = c.loop-n-test.false in
    let within = c.loop-n.invariant.within in
    subst (λ k. AreRows c.args.geometry.now c.args.roles.now c.args.image.now c.args.to c.args.from k c.loop-n.rows.items) (omega (arith, test, within))
    c.loop-n.invariant.added

pub returns-clause-within : goal.returns-clause-within
returns-clause-within c =
    let test = c.loop-n-test.false in
    let within = c.loop-n.invariant.within in
    rows_within c.args.geometry.now c.args.roles.now c.args.image.now c.args.to c.requires.fits c.requires.within c.loop-n.rows.items c.args.from
    (subst (λ k. AreRows c.args.geometry.now c.args.roles.now c.args.image.now c.args.to c.args.from k c.loop-n.rows.items) (omega (arith, test, within))
    c.loop-n.invariant.added)
