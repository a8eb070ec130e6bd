use Rattle.std.proofs.Common.{refl}
use Rattle.unixvol.proofs.save.save_made_part.Goals as goal

pub returns-in-Ok-save_volume-clause-saved : goal.returns-in-Ok-save_volume-clause-saved
returns-in-Ok-save_volume-clause-saved g c = (
  c.in-Ok.bytes.items,
  c.in-Ok.ensures,
  (
    c.in_ok-expect_room.ensures.room,
    (record { at = c.args.place.at; bytes = c.deref.result }, refl, c.deref.ensures.value, c.in-Ok-save_volume.ensures.saved),
    _,
    c.in-Ok-save_volume.ensures.unchanged,
  ),
)
