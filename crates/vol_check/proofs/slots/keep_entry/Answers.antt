use Rattle.std.proofs.Common.{◌≡◌, ◌∙◌, sym, ap, if◌then◌else◌, nat_le, true, false, Some, [], ◌∷◌, refl, arith}
use Rattle.count_table.specs.Views.{mark}
use Rattle.count_table.specs.Sums.{total}
use Rattle.count_table.proofs.Totals.{total_nil, total_cons, total_push}
use Rattle.vol_dir.specs.Names.{is_dots}
use Rattle.vol_judge.specs.Steps.{rank}
use Rattle.vol_reports.specs.Words.{name_word}
use Rattle.vol_reports.specs.Placed.{placed}
use Rattle.vol_reports.specs.Ncheck.{entered}
use Rattle.vol_check.specs.Slots.{name_weight}
use Rattle.vol_check.proofs.AddedMarks.{adds_as}
use Rattle.vol_check.proofs.Noted.{notes_none}
use Rattle.vol_check.proofs.slots.keep_entry.Goals as goal

pub returns-then-is_dots-clause-ok : goal.returns-then-is_dots-clause-ok
returns-then-is_dots-clause-ok c =
    let e = c.args.entry in
    let g = c.args.geometry.now in
    let dots : is_dots e.name ≡ true = ap is_dots (sym c.name.ensures) ∙ (sym c.is_dots.ensures ∙ c.if-is_dots.true) in
    notes_none c.args.tally.now c.args.seat.now
    (λ weight. name_weight g weight e.directory e.slot (Some (e.name, e.inode))) (λ weight. total weight (entered e.directory e.slot (Some (e.name, e.inode))))
    c.requires.own
    (λ weight. ap (λ t. if t then 0 else if nat_le e.inode g.last_inode then weight (mark (name_word e.inode) (rank e.directory e.slot)) else 0) dots)
    (λ weight. ap (λ t. total weight (if t then [] else placed e.directory e.slot e.inode e.name ∷ [])) dots ∙ total_nil weight)

pub returns-clause-ok : goal.returns-clause-ok
returns-clause-ok c =
    let e = c.args.entry in
    let g = c.args.geometry.now in
    let old = c.args.seat.now in
    let other : is_dots e.name ≡ false = ap is_dots (sym c.name.ensures) ∙ (sym c.is_dots.ensures ∙ c.if-is_dots.false) in
    record {
      adds = adds_as c.args.tally.now old.seat c.give_rank.new.seat
          (λ weight. if nat_le e.inode g.last_inode then weight (mark (name_word e.inode) (rank e.directory e.slot)) else 0)
          (λ weight. name_weight g weight e.directory e.slot (Some (e.name, e.inode))) c.give_rank.ensures
          (λ weight. ap (λ t. if t then 0 else if nat_le e.inode g.last_inode then weight (mark (name_word e.inode) (rank e.directory e.slot)) else 0) other);
      entries = λ weight.
          let pushed = ap (total weight) c.in_ok-push.ensures.items ∙ total_push weight old.entries.items e in
          let one = ap (λ t. total weight (if t then [] else placed e.directory e.slot e.inode e.name ∷ [])) other ∙ (total_cons weight e []) in
          let none = total_nil weight in
          omega (arith, pushed, one, none);
      fault = refl;
      ended = refl;
      spoiled = refl;
    }
