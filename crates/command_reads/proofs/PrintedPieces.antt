-- Printing a text piece by piece.
use Rattle.std.specs.Prelude.{Option, Result, Ok, Err}
use Rattle.std.specs.Io.KnownBytes.{Appends}
use Rattle.std.proofs.KnownBytes.{Appends-trans}
use Rattle.std.proofs.Common.{◌≡◌, ℕ, ◌∙◌, subst, Bool, List, ◌++◌}
use Rattle.vol_archive.specs.Write.{Writes}
use Rattle.vol_archive.specs.declared.write.WriteFault.{WriteFault}
use Rattle.vol_archive.proofs.Outputs.{cut_rest}

-- the bytes written may be replaced by equal ones
pub writes_same : {A : Type 0} (a b : Option (List ℕ)) (f g : Bool) (xs ys : List ℕ) (result : Result A WriteFault) → xs ≡ ys
    → Writes a b f g xs result → Writes a b f g ys result
writes_same a b f g xs ys result e w = subst (λ bytes. Writes a b f g bytes result) e w

-- the bytes that a call writes follow the bytes written before
pub writes_then : {A : Type 0} (a b c : Option (List ℕ)) (f g h : Bool) (xs ys : List ℕ) (result : Result A WriteFault)
    → Appends a b xs × (g ≡ f) → Writes b c g h ys result → Writes a c f h (xs ++ ys) result
writes_then a b c f g h xs ys (Ok x) first w = (Appends-trans a b c xs ys first.0 w.0, w.1 ∙ first.1)
writes_then a b c f g h xs ys (Err fault) first w = cut_rest a b c h xs ys fault first.0 w
