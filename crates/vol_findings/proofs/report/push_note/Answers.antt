use Rattle.std.proofs.Common.{List, ℕ, ◌≡◌, ◌++◌, true, false, ap, sym, ◌∙◌}
use Rattle.std.specs.Result.{is_ok}
use Rattle.std.specs.String.{string_bytes}
use Rattle.vol_layout.specs.Geometry.{geometry_read}
use Rattle.vol_findings.proofs.Noted.{err_not_ok, note_given}
use Rattle.vol_findings.proofs.report.push_note.Goals as goal

pub returns-in_ok-write : goal.returns-in_ok-write
returns-in_ok-write c =
    let image = c.args.image.now in
    let other = c.other_edition-other.result in
    let no : is_ok (geometry_read c.args.edition image) ≡ false =
    rw (sym c.read.ensures.exact) (err_not_ok c.read.result (sym c.if-is_err.ensures.value)) in
    let yes : is_ok (geometry_read other image) ≡ true = rw (sym c.read-then-is_err.ensures.exact) (sym c.if-is_ok.ensures.value) in
    let note = note_given c.args.edition other image c.edition_number-number.result c.other_edition-other.ensures c.edition_number-number.ensures no yes in
    c.in_ok-write.ensures.bytes ∙ ap (λ (text : List ℕ). string_bytes c.args.text.now ++ text) (sym note)
