-- The blocks that files use, and their marks.
use Rattle.std.proofs.Common.{◌≡◌, ℕ, ◌-◌, ◌<◌, ◌≤◌, ◌∙◌, ap, sym, subst, true, false, Bool, List, length, get_or, inl, inr, arith}
use Rattle.std.proofs.lemmas.Bool.{cases_Bool, cases_lt}
use Rattle.std.proofs.lemmas.List.{get_or_past}
use Rattle.vol_layout.specs.Geometry.{geometry_of, in_zone}
use Rattle.vol_layout.specs.declared.edition.Edition.{Edition}
use Rattle.vol_layout.specs.declared.geometry.Geometry.{Geometry}
use Rattle.vol_layout.proofs.NameLaws.{holds_named}
use Rattle.vol_file.specs.Rules.{IsZoned, IsApart}
use Rattle.vol_judge.specs.Marks.{AreNamed}
use Rattle.vol_judge.specs.Sound.{IsSound, Rule}
use Rattle.vol_resize.specs.Resized.{IsLeastFor, IsLeastSize}

-- a sound image keeps rule 5
pub sound_zoned : (edition : Edition) (image : List ℕ) (geometry : Geometry) → geometry ≡ geometry_of edition image → IsSound edition image
    → IsZoned geometry image
unfolding Rule
sound_zoned edition image geometry same sound = subst (λ g. IsZoned g image) (sym same) (sound 5)

-- a sound image keeps rule 7 for the blocks of files
pub sound_apart : (edition : Edition) (image : List ℕ) (geometry : Geometry) → geometry ≡ geometry_of edition image → IsSound edition image
    → IsApart geometry image
unfolding Rule
sound_apart edition image geometry same sound = subst (λ g. IsApart g image) (sym same) (sound 7).0

-- a marked block is a data block
pub marked_zone : (geometry : Geometry) (image : List ℕ) (used : List Bool) (b : ℕ) → IsZoned geometry image → AreNamed geometry image used
    → get_or used b false ≡ true → in_zone geometry b ≡ true
marked_zone geometry image used b zoned named set =
    let by = (named b).0 set in
    let is = holds_named geometry image by.0 by.1 b by.2.holds in
    ap (in_zone geometry) (sym is.0) ∙ zoned by.0 by.1 by.2.place (λ none. is.1 (sym is.0 ∙ none))

-- the fewest blocks for the marks are the fewest blocks for the files
pub least_size : (geometry : Geometry) (image : List ℕ) (used : List Bool) (least : ℕ) → IsZoned geometry image → AreNamed geometry image used
    → IsLeastFor geometry used least → IsLeastSize geometry image least
least_size geometry image used least zoned named is = record {
  zone = is.zone;
  inside = λ i p b names.
      let set = (named b).1 (i, p, names) in is.inside b set (marked_zone geometry image used b zoned named set);
  last = elim is.last [ inl first ↦ inl first | inr set ↦ inr ((named (least - 1)).0 set) ];
}

-- marks that are cut or lengthened, but not before the last marked block, mark the same blocks
same_marks : (geometry : Geometry) (image : List ℕ) (used more : List Bool) (blocks least b : ℕ) → IsZoned geometry image → AreNamed geometry image used
    → IsLeastFor geometry used least → least ≤ blocks → length more ≡ blocks
    → ((k : ℕ) (d : Bool) → k < blocks → k < length used → get_or more k d ≡ get_or used k d)
    → ((k : ℕ) (d : Bool) → length used ≤ k → k < blocks → get_or more k d ≡ false)
    → get_or more b false ≡ get_or used b false
same_marks geometry image used more blocks least b zoned named is few count below above =
    elim (cases_lt b blocks) [
      | inl low ↦ elim (cases_lt b (length used)) [
        | inl inside ↦ below b false low inside
        | inr past ↦ above b false past low ∙ sym (get_or_past used b false past)
      ]
      | inr high ↦ get_or_past more b false (omega (arith, count, high)) ∙ elim (cases_Bool (get_or used b false)) [
        | inl set ↦
            let less = is.inside b set (marked_zone geometry image used b zoned named set) in absurd (omega (arith, less, few, high))
        | inr clear ↦ sym clear
      ]
    ]

-- such marks are those of the blocks that files use
pub named_more : (geometry : Geometry) (image : List ℕ) (used more : List Bool) (blocks least : ℕ) → IsZoned geometry image → AreNamed geometry image used
    → IsLeastFor geometry used least → least ≤ blocks → length more ≡ blocks
    → ((k : ℕ) (d : Bool) → k < blocks → k < length used → get_or more k d ≡ get_or used k d)
    → ((k : ℕ) (d : Bool) → length used ≤ k → k < blocks → get_or more k d ≡ false)
    → AreNamed geometry image more
named_more geometry image used more blocks least zoned named is few count below above = λ b.
    let same = same_marks geometry image used more blocks least b zoned named is few count below above in
    ((λ set. (named b).0 (sym same ∙ set)), (λ by. same ∙ (named b).1 by))
