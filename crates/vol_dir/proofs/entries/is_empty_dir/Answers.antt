use Rattle.std.proofs.Common.{◌≡◌, ◌∙◌, sym, ap, not, refl, Bool, true, false}
use Rattle.vol_dir.proofs.Searches.{others_are}
use Rattle.vol_dir.proofs.entries.is_empty_dir.Goals as goal

-- the negation of a negation is the value itself
not_not : (b : Bool) → b ≡ not (not b)
not_not true = refl
not_not false = refl

pub returns : goal.returns
returns c =
    not_not c.is_none.result
    ∙ sym (ap not (others_are c.args.geometry.now c.args.image.now c.args.dir c.first_slot.result c.first_slot.ensures ∙ c.is_none.ensures))
