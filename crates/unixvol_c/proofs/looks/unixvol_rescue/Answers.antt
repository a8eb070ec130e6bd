use Rattle.std.proofs.Common.{of_z, subst, sym, to_z, w32}
use Rattle.std.proofs.Math.Facts.{to_z-of_z}
use Rattle.unixvol_c.specs.Calls.{edition_of}
use Rattle.unixvol_c.specs.Kept.{IsPlaced}
use Rattle.unixvol_c.specs.Looks.{RescuesAs}
use Rattle.unixvol_c.proofs.KeptStreams.{handed_out}
use Rattle.unixvol_c.proofs.looks.unixvol_rescue.Goals as goal

pub returns-in-Ok-kept_rescue-clause-shown : goal.returns-in-Ok-kept_rescue-clause-shown
returns-in-Ok-kept_rescue-clause-shown c known asked enough =
    handed_out (RescuesAs c.in-Some.edition c.args.bytes.now c.args.view.now c.in-Ok.path.now c.args.map.now)
    (RescuesAs (edition_of c.args.edition) c.args.bytes.now c.args.view.now c.args.path.now c.args.map.now) c.in-Ok-kept_rescue.kept c.args.into.now
    c.hand_out.new.into c.hand_out.new.seen (to_z w32 (of_z w32 c.hand_out.result))
    (λ streams status shown.
    subst (λ path. RescuesAs (edition_of c.args.edition) c.args.bytes.now c.args.view.now path c.args.map.now streams status) c.in-Ok.ensures.cases.0
    (subst (λ edition. RescuesAs edition c.args.bytes.now c.args.view.now c.in-Ok.path.now c.args.map.now streams status) c.in-Some.ensures.some.0 shown))
    c.in-Ok-kept_rescue.ensures c.hand_out.ensures.counted
    (subst (IsPlaced c.in-Ok-kept_rescue.kept.bytes.items c.args.into.now c.hand_out.new.into) (sym (to_z-of_z {w = w32} (record { sfits = c.hand_out.type_inv }))) c.hand_out.ensures.placed)
