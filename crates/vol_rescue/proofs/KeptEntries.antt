-- Lemmas on the entries that are kept.
use Rattle.std.proofs.Common.{◌≡◌, ℕ, ◌∙◌, ◌++◌, ◌==◌, Bool, false, List, [], ◌∷◌, length, map, refl, ap, sym}
use Rattle.std.proofs.lemmas.Bool.{true≢false}
use Rattle.std.proofs.lemmas.List.{map-append}
use Rattle.vol_layout.specs.declared.geometry.Geometry.{Geometry}
use Rattle.vol_archive.specs.declared.met_entries.MetEntry.{MetEntry}
use Rattle.vol_rescue.specs.Damage.{kept_entries, marked}

-- one more entry is kept
pub kept_more : (f : MetEntry → MetEntry) (yielded : List MetEntry) (found kept : MetEntry) (old new : List MetEntry) → kept ≡ f found → new ≡ old ++ kept ∷ []
    → old ≡ map f yielded → new ≡ map f (yielded ++ found ∷ [])
kept_more f yielded found kept old new is pushed was =
    pushed ∙ (ap (λ xs. xs ++ kept ∷ []) was ∙ (ap (λ k. map f yielded ++ k ∷ []) is ∙ sym (map-append f yielded (found ∷ []))))

-- with marks each entry is kept or left out
pub kept_marked : (g : Geometry) (image : List ℕ) (lost : List Bool) (damaged : Bool) (founds : List MetEntry) → (length lost == 0) ≡ false
    → map (marked g image lost damaged) founds ≡ kept_entries g image lost damaged founds
kept_marked g image [] damaged founds some = absurd (true≢false some)
kept_marked g image (mark ∷ lost) damaged founds some = refl
