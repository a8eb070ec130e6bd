use Rattle.std.proofs.Common.{◌≡◌, ◌∙◌, ℕ, List, Option, ap, sym}
use Rattle.std.specs.Option.{option_map_or}
use Rattle.vol_archive.specs.declared.met_entries.MetEntry.{MetEntry}
use Rattle.vol_dir.specs.Walk.{components}
use Rattle.vol_listing.specs.Places.{joined}
use Rattle.command_reads.specs.Ways.{last_seen, last_unsure}
use Rattle.command_reads.proofs.ways.unsure_on.Goals as goal

-- the path has ended
pub returns : goal.returns
unfolding last_unsure
returns c =
    let g = c.args.geometry.now in
    let image = c.args.image.now in
    let lost = c.args.lost.now in
    ap (last_unsure g image lost c.names.seen c.names.place.items c.names.i) (sym c.in_default.ensures.parts) ∙ c.names.invariant.whole

-- the next name leads to nothing
pub returns-in_default-number_in : goal.returns-in_default-number_in
unfolding last_unsure
returns-in_default-number_in c =
    let g = c.args.geometry.now in
    let image = c.args.image.now in
    let lost = c.args.lost.now in
    let seen = c.names.seen in
    let name = c.in-Some.name.now in
    let go : ℕ → Option MetEntry = λ next. last_unsure g image lost (last_seen g image lost seen (joined c.names.place.items name) next)
    (joined c.names.place.items name) next (components c.in-Some.after.now) in
    ap (λ (next : Option ℕ). option_map_or go next seen) c.in_default-number_in.ensures
    ∙ (ap (last_unsure g image lost seen c.names.place.items c.names.i) (sym c.in-Some.ensures.parts) ∙ c.names.invariant.whole)

-- the next name leads on
pub names-preserved : goal.names-preserved
unfolding last_unsure
names-preserved c =
    let g = c.args.geometry.now in
    let image = c.args.image.now in
    let lost = c.args.lost.now in
    let seen = c.names.seen in
    let name = c.in-Some.name.now in
    let names = components c.in-Some.after.now in
    let next = c.in-Some-number_in.next in
    let place : c.in_ok-place-2.place.items ≡ joined c.names.place.items name =
    c.in_ok-place-2.ensures ∙ ap (λ (place : List ℕ). joined place name) c.deref-in-Some.ensures.value in
    let last : c.in_ok-seen-2.seen ≡ last_seen g image lost seen c.in_ok-place-2.place.items next =
    c.in_ok-seen-2.ensures ∙ ap (λ (place : List ℕ). last_seen g image lost seen place next) c.deref-in-Some-2.ensures.value in
    let go : ℕ → Option MetEntry = λ next. last_unsure g image lost (last_seen g image lost seen (joined c.names.place.items name) next)
    (joined c.names.place.items name) next names in
    record {
      whole = ap (λ (s : Option MetEntry). last_unsure g image lost s c.in_ok-place-2.place.items next names) last
          ∙ (ap (λ (p : List ℕ). last_unsure g image lost (last_seen g image lost seen p next) p next names) place
          ∙ (ap (λ (n : Option ℕ). option_map_or go n seen) c.in-Some-number_in.ensures
          ∙ (ap (last_unsure g image lost seen c.names.place.items c.names.i) (sym c.in-Some.ensures.parts) ∙ c.names.invariant.whole)));
    }
