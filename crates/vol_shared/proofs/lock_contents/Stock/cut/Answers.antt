use Rattle.std.proofs.Common.{ap, sym, subst, IfSome, arith}
use Rattle.vol_volume.specs.Volume.{Mounted, after_cut}
use Rattle.vol_shared.specs.Published.{IsPublished}
use Rattle.vol_shared.specs.Stored.{stored_of, next_number}
use Rattle.vol_shared.proofs.Prefixes.{published_after_cut, some_map}
use Rattle.vol_shared.proofs.lock_contents.Stock.cut.Goals as goal

pub invariant_of-result : goal.invariant_of-result
invariant_of-result c =
    let cut = c.cut_journal.ensures in
    let next = ap (λ (m : Mounted). next_number (stored_of m)) cut in
    let old = c.self.inside.volume in (
      omega (arith, next, c.self.invariant.0),
      subst (λ (m : Mounted). IfSome c.self.inside.publisher (λ p. IsPublished p.log (stored_of m))) (sym cut)
          (some_map (λ p. IsPublished p.log (stored_of old)) (λ p. IsPublished p.log (stored_of (after_cut old))) c.self.inside.publisher
          (λ p is. published_after_cut old p.log c.check.ensures is) c.self.invariant.1),
    )
