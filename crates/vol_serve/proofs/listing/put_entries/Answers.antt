use Rattle.std.proofs.Common.{◌∙◌, ap, subst, ℕ, ◌++◌, ◌-◌, ◌+◌, min, arith, Option, vec_len}
use Rattle.std.proofs.lemmas.List.{append-nil}
use Rattle.vol_layout.specs.declared.slot.Slot.{Slot}
use Rattle.vol_dir.specs.Entries.{entry_at, slot_count}
use Rattle.vol_dir.specs.Scan.{GoesOn}
use Rattle.vol_dir.specs.Tree.{tree}
use Rattle.vol_serve.specs.Attributes.{entry_kind_in}
use Rattle.vol_serve.specs.Listings.{entries_from}
use Rattle.vol_serve.proofs.ListedEntries.{from_next, from_last, from_first, few_slots, listing_done}
use Rattle.vol_serve.proofs.listing.put_entries.Goals as goal

pub entries-init : goal.entries-init
entries-init c = record {
  rest = from_first (entry_at c.args.geometry.now c.args.image.now c.args.dir) (entry_kind_in (tree c.args.geometry.now c.args.image.now)) c.args.from 4294967295 (slot_count c.args.geometry.now c.args.image.now c.args.dir) c.args.size c.min-slot.result (vec_len c.clear.new.self) c.clear.new.self.items
      (c.min-slot.ensures ∙ ap (min c.args.from) c.from.ensures) (few_slots c.args.geometry.now c.args.image.now c.args.dir) c.clear.ensures.items c.clear.ensures.len;
  within = omega (arith, c.clear.ensures.len);
  capacity = omega (arith, c.clear.ensures.capacity);
}

pub returns-then-not-put_entry-clause-entries : goal.returns-then-not-put_entry-clause-entries
returns-then-not-put_entry-clause-entries c =
    let entry = entry_at c.args.geometry.now c.args.image.now c.args.dir in
    let kind = entry_kind_in (tree c.args.geometry.now c.args.image.now) in
    let count : ℕ = slot_count c.args.geometry.now c.args.image.now c.args.dir in
    let next = subst (λ (o : Option (ℕ × Slot)). GoesOn entry c.entries.slot count o) c.in-Some.is c.in_ok-found.ensures.next in
    listing_done c.args.geometry.now c.args.image.now c.args.dir c.args.from c.args.size _ c.put_entry.new.out.items c.in_ok-found.ensures.fault
    (c.entries.invariant.rest
    ∙ (ap (λ xs. c.entries.out.items ++ xs) (from_next entry kind c.entries.slot count (c.args.size - vec_len c.entries.out) c.in-Some.found c.in-Some.entry next)
    ∙ c.if-not-put_entry.ensures.put (λ left. entries_from entry kind (c.in-Some.found + 1) left (count - (c.in-Some.found + 1)))))

pub entries-preserved : goal.entries-preserved
entries-preserved c =
    let entry = entry_at c.args.geometry.now c.args.image.now c.args.dir in
    let kind = entry_kind_in (tree c.args.geometry.now c.args.image.now) in
    let count : ℕ = slot_count c.args.geometry.now c.args.image.now c.args.dir in
    let next = subst (λ (o : Option (ℕ × Slot)). GoesOn entry c.entries.slot count o) c.in-Some.is c.in_ok-found.ensures.next in
    record {
      rest = c.entries.invariant.rest
          ∙ (ap (λ xs. c.entries.out.items ++ xs) (from_next entry kind c.entries.slot count (c.args.size - vec_len c.entries.out) c.in-Some.found c.in-Some.entry next)
          ∙ c.if-not-put_entry.ensures.put (λ left. entries_from entry kind (c.in-Some.found + 1) left (count - (c.in-Some.found + 1))));
      within = c.put_entry.ensures.within;
      capacity = omega (arith, c.entries.invariant.capacity, c.put_entry.ensures.capacity);
    }

pub returns-clause-entries : goal.returns-clause-entries
returns-clause-entries c =
    let entry = entry_at c.args.geometry.now c.args.image.now c.args.dir in
    let kind = entry_kind_in (tree c.args.geometry.now c.args.image.now) in
    let count : ℕ = slot_count c.args.geometry.now c.args.image.now c.args.dir in
    listing_done c.args.geometry.now c.args.image.now c.args.dir c.args.from c.args.size _ c.entries.out.items c.in_ok-found.ensures.fault
    (c.entries.invariant.rest
    ∙ (ap (λ xs. c.entries.out.items ++ xs) (from_last entry kind c.entries.slot count (c.args.size - vec_len c.entries.out)
    (subst (λ (o : Option (ℕ × Slot)). GoesOn entry c.entries.slot count o) c.in_default.is c.in_ok-found.ensures.next))
    ∙ append-nil c.entries.out.items))
