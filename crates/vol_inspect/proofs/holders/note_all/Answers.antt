use Rattle.std.proofs.Common.{◌≡◌, ◌+◌, ◌∙◌, ap, subst, refl, arith, length}
use Rattle.std.proofs.lemmas.List.{length-replicate}
use Rattle.vol_inspect.specs.Holders.{AreHolders}
use Rattle.vol_inspect.proofs.HolderLaws.{holders_none, holders_more, noted_none}
use Rattle.vol_inspect.proofs.holders.note_all.Goals as goal

pub loop-before-init : goal.loop-before-init
loop-before-init c =
    let g = c.args.geometry.now in
    record {
      len = ap length c.requires.table ∙ length-replicate g.zone_end _;
      found = holders_none g c.args.image.now c.args.table.now c.requires.table;
      noted = noted_none g c.args.image.now c.args.table.now c.args.seen.now c.requires.seen;
    }

pub loop-before-preserved : goal.loop-before-preserved
loop-before-preserved c =
    let g = c.args.geometry.now in
    let n = c.loop-before.before in
    record {
      len = c.note_node.ensures.notes.len ∙ c.loop-before.invariant.len;
      found = holders_more g c.args.image.now n (n + 1) (n + 1) c.loop-before.table c.note_node.new.table (omega arith) refl c.loop-before.invariant.found
          c.note_node.ensures.notes;
      noted = c.note_node.ensures.noted;
    }

pub returns-clause-each : goal.returns-clause-each
returns-clause-each c =
    let end : c.loop-before.before ≡ c.args.geometry.now.last_inode = omega arith in
    subst (λ n. AreHolders c.args.geometry.now c.args.image.now n c.loop-before.table) end c.loop-before.invariant.found
