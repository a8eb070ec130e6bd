-- The note about the other edition.
use Rattle.std.proofs.Common.{◌≡◌, ℕ, true, false, List, ◌++◌, codes, decimal, Result, Ok, Err, refl}
use Rattle.std.specs.Result.{is_ok, is_err}
use Rattle.vol_layout.specs.Geometry.{geometry_read}
use Rattle.vol_layout.specs.declared.edition.Edition.{Edition}
use Rattle.vol_findings.specs.Reports.{other_edition, edition_number, note_text}

-- a result that is an error isn't Ok
pub err_not_ok : {T E : Type 0} (r : Result T E) → is_err r ≡ true → is_ok r ≡ false
err_not_ok (Ok x) is = absurd (cc)
err_not_ok (Err e) is = refl

-- the text of the note, if rules 1 and 2 hold only for the other edition
pub note_given : (edition other : Edition) (image : List ℕ) (number : ℕ) → other ≡ other_edition edition → number ≡ edition_number other
    → is_ok (geometry_read edition image) ≡ false → is_ok (geometry_read other image) ≡ true
    → note_text edition image ≡ codes "note: rules 1 and 2 hold for edition " ++ (decimal number ++ codes "\n")
note_given edition other image number o n wrong right =
    let right' = rw o at right in
    rw (wrong, right', n, o) refl
