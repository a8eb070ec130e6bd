use Rattle.std.proofs.Common.{[], inl, inr, refl, rules}
use Rattle.unixvol.proofs.identify_below.open_folder.Goals as goal

pub returns-in-Ok-stack_found : goal.returns-in-Ok-stack_found
returns-in-Ok-stack_found g c =
    let more = c.in-Ok-stack_found.ensures.ok in
    (more.0, inl (c.in-Ok.listing, c.in-Ok.ensures, more.1, c.tell_left_out.ensures), more.2)

pub returns-in-Err : goal.returns-in-Err
returns-in-Err g c = ([], inr (inr c.tell_file.ensures, refl), search rules)
