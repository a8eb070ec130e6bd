use Rattle.std.proofs.Common.{◌≡◌, ◌∙◌, ℕ, List, sym, ap, subst}
use Rattle.vol_layout.specs.Geometry.{geometry_read}
use Rattle.vol_layout.specs.declared.geometry.Geometry.{Geometry}
use Rattle.vol_fields.proofs.DiffLaws.{equal_is_silent, silent_is_equal}
use Rattle.command_reads.specs.Diff.{IsMappedText}
use Rattle.command_reads.specs.Dump.{all_roles}
use Rattle.command_reads.proofs.DiffItems.{one_geometry}
use Rattle.command_reads.proofs.laws.equal_images_have_no_differences.Goals as goal

pub returns : goal.returns
returns c edition old new all text made =
    let g = made.0 in
    let h = made.2.0 in (
      (λ same.
          let alike : g ≡ h = one_geometry g h (geometry_read edition new) (ap (geometry_read edition) (sym same) ∙ made.1) made.2.1 in
          equal_is_silent h h (all_roles h new) new all text
          (subst (λ (k : Geometry). IsMappedText k new h new all text) alike (subst (λ (image : List ℕ). IsMappedText g image h new all text) same made.2.2))),
      silent_is_equal g h (all_roles g old) (all_roles h new) old new all text made.2.2,
    )
