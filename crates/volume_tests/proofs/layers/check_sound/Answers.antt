use Rattle.std.proofs.Common.{◌≡◌, ◌∙◌, ap, sym, subst}
use Rattle.vol_layout.specs.Geometry.{geometry_of}
use Rattle.vol_layout.specs.declared.geometry.Geometry.{Geometry}
use Rattle.vol_layout.proofs.GeometryLaws.{geometry_is}
use Rattle.vol_judge.specs.Sound.{IsSound}
use Rattle.volume_tests.proofs.layers.check_sound.Goals as goal

pub check_layers-requires : goal.check_layers-requires
check_layers-requires g c =
    let image = c.args.image.now in
    let geometry = c.in-Ok.geometry in
    let is : geometry_of c.args.edition image ≡ geometry = geometry_is c.args.edition image geometry (sym c.in-Ok.ensures.exact) in
    let edition : c.args.edition ≡ geometry.edition = ap (λ (other : Geometry). other.edition) is in
    record {
      fits = c.in-Ok.ensures.fits;
      sizes = sym is ∙ ap (λ e. geometry_of e image) edition;
      sound = subst (λ e. IsSound e image) edition c.requires;
    }
