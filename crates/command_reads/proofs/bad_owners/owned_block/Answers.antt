use Rattle.std.proofs.Common.{◌≡◌, ◌==◌, ◌∙◌, if◌then◌else◌, true, ℕ, Bool, List, [], length, ap, subst, sym}
use Rattle.std.specs.Prelude.{◌||◌}
use Rattle.std.specs.Global.{Vec}
use Rattle.vol_rescue.specs.Lines.{TellsNamed}
use Rattle.command_reads.specs.BadOwners.{is_unknown, known_in}
use Rattle.command_reads.specs.Export.{told_status}
use Rattle.command_reads.proofs.bad_owners.owned_block.Goals as goal

pub returns-clause-shown : goal.returns-clause-shown
returns-clause-shown c =
    let found = c.args.owners.now in
    let unread = c.is_lost-unread.ensures in
    let line = sym c.ending_with-ending.ensures.line in record {
      shown = ap (λ (bytes : Vec ℕ). bytes.items) c.into_bytes.ensures.value ∙ (c.in_ok-text.ensures ∙ ap (λ (b : Bool). known_in c.args.block b found c.args.form) unread);
      short = c.is_unsure.result;
      unsure = c.is_unsure.ensures ∙ ap (λ (b : Bool). b || is_unknown found) unread;
      told = (
        c.in_ok-told.told.is_short,
        subst (λ (lines : List ℕ). TellsNamed c.args.geometry.now c.args.image.now c.args.lost.now [] lines c.in_ok-told.told.is_short) line c.in_ok-told.ensures,
      );
      graded = subst (λ (lines : List ℕ). c.ending_with-ending.result.status ≡ (if length lines == 0 then 0 else told_status true c.is_unsure.result)) line
          c.ending_with-ending.ensures.status;
    }
