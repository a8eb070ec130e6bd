use Rattle.std.proofs.Common.{◌≡◌, ◌∙◌, [], ap, inl}
use Rattle.std.proofs.lemmas.Result.{err_from_is_err_and}
use Rattle.vol_layout.specs.Geometry.{geometry_of}
use Rattle.vol_volume.specs.Volume.{Mounted}
use Rattle.command_copies.proofs.Listings.{root_is}
use Rattle.command_copies.proofs.lists.list_volume.Goals as goal

pub returns-in_err-volume : goal.returns-in_err-volume
returns-in_err-volume c =
    let p = err_from_is_err_and c.from_residual.result c.from_residual.ensures.1 in
    rw (p.1, p.2) (inl (c.in_err-volume.ensures.fault []))

pub read_list-requires-clause-root : goal.read_list-requires-clause-root
read_list-requires-clause-root c =
    let is = c.in_ok-volume.ensures.mounted in
    root_is c.args.edition c.args.image.items _ _ _ (c.geometry.ensures.sizes ∙ ap (λ (v : Mounted). geometry_of v.edition v.image) is)
    c.image.ensures (ap (λ (v : Mounted). v.image) is) c.geometry.ensures.fits c.in_ok-volume.ensures.sound
