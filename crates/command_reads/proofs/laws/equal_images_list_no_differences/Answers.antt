use Rattle.std.proofs.Common.{◌≡◌, ◌∙◌, ℕ, List, sym, ap, subst}
use Rattle.vol_layout.specs.Geometry.{geometry_read}
use Rattle.vol_layout.specs.declared.geometry.Geometry.{Geometry}
use Rattle.field_json.specs.Changes.{AreDifferences}
use Rattle.field_json.proofs.DifferenceLaws.{equal_have_none, itemless_are_equal}
use Rattle.command_reads.specs.Dump.{all_roles}
use Rattle.command_reads.proofs.DiffItems.{one_geometry}
use Rattle.command_reads.proofs.laws.equal_images_list_no_differences.Goals as goal

pub returns : goal.returns
returns c edition old new all datas made =
    let g = made.0 in
    let h = made.2.0 in (
      (λ same.
          let alike : g ≡ h = one_geometry g h (geometry_read edition new) (ap (geometry_read edition) (sym same) ∙ made.1) made.2.1 in
          equal_have_none h h (all_roles h new) new all datas
          (subst (λ (k : Geometry). AreDifferences k (all_roles k new) new h (all_roles h new) new all datas) alike
          (subst (λ (image : List ℕ). AreDifferences g (all_roles g image) image h (all_roles h new) new all datas) same made.2.2))),
      itemless_are_equal g h (all_roles g old) (all_roles h new) old new all datas made.2.2,
    )
