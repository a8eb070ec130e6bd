use Rattle.std.proofs.Common.{◌∙◌, ap, codes, refl, Some}
use Rattle.unixvol_c.specs.Looks.{Compares}
use Rattle.unixvol_c.proofs.KeptStreams.{kept_shown}
use Rattle.unixvol_c.proofs.looks.kept_comparison.Goals as goal

pub returns : goal.returns
returns c =
    kept_shown (Compares c.args.edition c.args.before.now c.args.after.now c.args.by) _ _ _ _ _ _ _ _ c.show_comparison-ending.result.status
    c.keep.result (c.new-output.ensures.bytes ∙ ap Some c.new.ensures.items) c.new-output.ensures.fresh
    (c.new-errors.ensures.bytes ∙ ap Some c.new-2.ensures.items) c.keep.ensures.working c.keep.ensures.both c.keep.ensures.status c.tell.ensures
    (record {
      before = record { name = record { ref_ptr = (0, 0); now = codes "old" }; bytes = c.in_ok-from_slice.field-0 };
      after = record { name = record { ref_ptr = (0, 0); now = codes "new" }; bytes = c.in_ok-from_slice-2.field-0 };
      first = (refl, c.in_ok-from_slice.ensures.items);
      second = (refl, c.in_ok-from_slice-2.ensures.items);
      shown = c.show_comparison-ending.ensures;
    })
