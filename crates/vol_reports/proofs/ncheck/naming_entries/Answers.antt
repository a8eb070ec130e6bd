use Rattle.std.proofs.Common.{◌≡◌, ◌+◌, ◌++◌, ◌∷◌, [], length, take, drop, ap, sym, ◌∙◌, subst, arith}
use Rattle.std.proofs.lemmas.List.{take_more, take_all}
use Rattle.count_table.specs.Tallies.{items_of}
use Rattle.vol_judge.proofs.Once.{marks_written}
use Rattle.vol_reports.specs.Climb.{HasNaming}
use Rattle.vol_reports.proofs.NamingEntries.{naming_more}
use Rattle.vol_reports.proofs.ncheck.naming_entries.Goals as goal

pub loop-entry-preserved : goal.loop-entry-preserved
loop-entry-preserved c =
    let words = items_of c.args.words.now in
    let entries = c.args.entries.now in
    let at = c.loop-entry.entry-index in
    let new = c.put_naming.new.naming in
    let len = c.deref_mut.ensures.len in
    let written : take c.loop-entry.naming.len (new ++ drop (length new) c.loop-entry.naming.items) ≡ new =
    marks_written c.loop-entry.naming.len new c.loop-entry.naming.items (omega (arith, c.put_naming.auto.naming, len)) in
    let wide : length new ≡ c.args.geometry.now.last_inode + 1 = omega (arith, c.put_naming.auto.naming, len, c.loop-entry.invariant.room) in
    record {
      room = ap length written ∙ wide;
      named = λ i low.
          let was : HasNaming words (take at entries) c.deref_mut.result.now i =
          subst (λ xs. HasNaming words (take at entries) xs i) (sym c.deref_mut.ensures.value) (c.loop-entry.invariant.named i low) in
          let is = naming_more c.entry-item.result was (c.put_naming.ensures i (omega (arith, low, wide, c.put_naming.auto.naming))) in
          subst (λ xs. HasNaming words xs (take c.loop-entry.naming.len (new ++ drop (length new) c.loop-entry.naming.items)) i) (sym (take_more entries at c.entry-item.result c.loop-entry-test.true ∙ ap (λ x. take at entries ++ x ∷ []) (sym c.entry-item.is)))
          (subst (λ xs. HasNaming words (take at entries ++ c.entry-item.result ∷ []) xs i) (sym written) is);
    }

pub returns-clause-naming : goal.returns-clause-naming
returns-clause-naming c = λ i low.
    subst (λ xs. HasNaming (items_of c.args.words.now) xs c.loop-entry.naming.items i) (take_all c.loop-entry.entry-index c.args.entries.now (omega arith))
    (c.loop-entry.invariant.named i low)
