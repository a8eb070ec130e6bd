-- Laws of `IsInside`: blocks below which all addresses are in the data zone.
use Rattle.std.proofs.Common.{◌≡◌, ◌≢◌, ℕ, zero, suc, ◌-◌, ◌<◌, ◌≤◌, ◌∙◌, sym, ap, subst, List, length, get_or, set, true, refl, arith, inl, inr, get_or-set_same, get_or-set_other}
use Rattle.std.proofs.lemmas.Bool.{cases_eq}
use Rattle.vol_layout.specs.Edition.{constants}
use Rattle.vol_layout.specs.Geometry.{in_zone, Fits}
use Rattle.vol_layout.specs.BlockPointers.{pointer_in}
use Rattle.vol_layout.specs.declared.geometry.Geometry.{Geometry}
use Rattle.vol_layout.proofs.NameLaws.{entry_out, zero_out}
use Rattle.vol_judge.specs.Marks.{IsInside, KnowsInside}

-- all addresses at and below 0 are 0, so none is outside the data zone
pub inside_zero : (geometry : Geometry) (image : List ℕ) (d : ℕ) → Fits geometry image → IsInside geometry image d 0
unfolding IsInside
inside_zero geometry image zero fits = λ some. absurd (some refl)
inside_zero geometry image (suc d) fits = (
  λ some. absurd (some refl),
  λ j h. subst (IsInside geometry image d) (sym (entry_out geometry image 0 j (zero_out geometry image fits))) (inside_zero geometry image d fits),
)

-- if all addresses at and below b are in the data zone, b is 0 or a data block
pub inside_here : (geometry : Geometry) (image : List ℕ) (d b : ℕ) → IsInside geometry image d b → b ≢ 0 → in_zone geometry b ≡ true
unfolding IsInside
inside_here geometry image zero b inside some = inside some
inside_here geometry image (suc d) b inside some = inside.0 some

-- if all addresses in some levels below b are in the data zone, so are those in fewer levels
pub inside_less : (geometry : Geometry) (image : List ℕ) (d e b : ℕ) → d ≤ e → IsInside geometry image e b → IsInside geometry image d b
unfolding IsInside
inside_less geometry image zero e b less inside = inside_here geometry image e b inside
inside_less geometry image (suc d) zero b less inside = absurd (omega arith)
inside_less geometry image (suc d) (suc e) b less inside =
    (inside.0, λ j h. inside_less geometry image d e (pointer_in geometry image b j) (omega arith) (inside.1 j h))

-- if all addresses below b are in the data zone, so are those at and below each of its entries
pub inside_entry : (geometry : Geometry) (image : List ℕ) (d b j : ℕ) → 1 ≤ d → j < (constants geometry.edition).pointers
    → IsInside geometry image d b → IsInside geometry image (d - 1) (pointer_in geometry image b j)
unfolding IsInside
inside_entry geometry image zero b j one h inside = absurd (omega arith)
inside_entry geometry image (suc d) b j one h inside =
    let less : d ≡ suc d - 1 = omega arith in
    subst (λ x. IsInside geometry image x (pointer_in geometry image b j)) less (inside.1 j h)

-- marks that are all 0 require nothing
pub knows_nothing : (geometry : Geometry) (image known : List ℕ) → ((b : ℕ) → get_or known b 0 ≡ 0) → KnowsInside geometry image known
unfolding IsInside
knows_nothing geometry image known none b zone = subst (λ x. IsInside geometry image x b) (sym (none b)) (λ some. zone)

-- a mark d may be set for block b if all addresses in d levels below it are in the data zone
pub knows_more : (geometry : Geometry) (image known : List ℕ) (b d : ℕ) → b < length known → IsInside geometry image d b
    → KnowsInside geometry image known → KnowsInside geometry image (set known b d)
knows_more geometry image known b d within inside knows k zone =
    elim (cases_eq k b) [
      | inl e ↦
          let level : get_or (set known b d) k 0 ≡ d = ap (λ x. get_or (set known b d) x 0) e ∙ get_or-set_same known b d 0 within in
          subst (λ x. IsInside geometry image x k) (sym level) (subst (IsInside geometry image d) (sym e) inside)
      | inr other ↦
          let level : get_or (set known b d) k 0 ≡ get_or known k 0 = get_or-set_other known b k d 0 other in
          subst (λ x. IsInside geometry image x k) (sym level) (knows k zone)
    ]
