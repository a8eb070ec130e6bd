use Rattle.std.proofs.Common.{◌∙◌, ap, subst, ℕ, ◌+◌, ◌-◌, Option, List}
use Rattle.std.specs.Option.{option_or}
use Rattle.vol_layout.specs.declared.slot.Slot.{Slot}
use Rattle.vol_dir.specs.Entries.{entry_at, slot_count}
use Rattle.vol_dir.specs.Scan.{GoesOn}
use Rattle.vol_mounted.specs.Records.{first_value, name_for}
use Rattle.vol_mounted.proofs.FirstValues.{value_next, value_last, names_there}
use Rattle.vol_mounted.proofs.settle.search_in.Goals as goal

pub returns-in_default-next : goal.returns-in_default-next
returns-in_default-next c =
    let entry = entry_at c.args.geometry.now c.args.image.now c.args.dir in
    let count : ℕ = slot_count c.args.geometry.now c.args.image.now c.args.dir in
    let none = subst (λ (o : Option (ℕ × Slot)). GoesOn entry c.slots.from count o) c.in_default-next.is c.in-Ok.ensures.next in
    names_there c.args.geometry.now c.args.image.now c.args.i c.args.dir _ c.in-Ok.ensures.fault
    ∙ (c.slots.invariant
    ∙ value_last (λ s. name_for c.args.i (entry s)) c.slots.from count (λ t low high. ap (name_for c.args.i) (none t low high)))

pub returns-then-names : goal.returns-then-names
returns-then-names c =
    let entry = entry_at c.args.geometry.now c.args.image.now c.args.dir in
    let count : ℕ = slot_count c.args.geometry.now c.args.image.now c.args.dir in
    let found : ℕ = c.in-Some.found in
    let value : ℕ → Option (List ℕ) = λ s. name_for c.args.i (entry s) in
    let next = subst (λ (o : Option (ℕ × Slot)). GoesOn entry c.slots.from count o) c.in-Some.is c.in-Ok.ensures.next in
    names_there c.args.geometry.now c.args.image.now c.args.i c.args.dir _ c.in-Ok.ensures.fault
    ∙ (c.slots.invariant
    ∙ (value_next value c.slots.from count found next.reached next.within (λ t low high. ap (name_for c.args.i) (next.none t low high))
    ∙ ap (λ first. option_or first (first_value value (found + 1) (count - (found + 1)))) (ap (name_for c.args.i) next.holds ∙ c.if-names.ensures)))

pub slots-preserved : goal.slots-preserved
slots-preserved c =
    let entry = entry_at c.args.geometry.now c.args.image.now c.args.dir in
    let count : ℕ = slot_count c.args.geometry.now c.args.image.now c.args.dir in
    let found : ℕ = c.in-Some.found in
    let value : ℕ → Option (List ℕ) = λ s. name_for c.args.i (entry s) in
    let next = subst (λ (o : Option (ℕ × Slot)). GoesOn entry c.slots.from count o) c.in-Some.is c.in-Ok.ensures.next in
    c.slots.invariant
    ∙ (value_next value c.slots.from count found next.reached next.within (λ t low high. ap (name_for c.args.i) (next.none t low high))
    ∙ ap (λ first. option_or first (first_value value (found + 1) (count - (found + 1)))) (ap (name_for c.args.i) next.holds ∙ c.if-names.ensures))
