-- A graph of directories with each i-number one higher keeps the rules.
use Rattle.std.proofs.Common.{◌≡◌, ◌≢◌, ◌∙◌, sym, ap, refl, ℕ, zero, suc, ◌+◌, ◌-◌, ◌/◌, ◌<◌, ◌≤◌, max, cond, List, [], Option, None, Some, subst, inl, inr, arith}
use Rattle.std.specs.List.{sum_by, range_with_len}
use Rattle.std.specs.Option.{option_map}
use Rattle.std.proofs.lemmas.Bool.{cases_lt, cases_eq, ne_eqb, eq-eqb}
use Rattle.std.proofs.lemmas.List.Sums.{sum_by-cons}
use Rattle.vol_file.proofs.PlaceLists.{sum_none}
use Rattle.vol_change.proofs.PlaceCounts.{sum_split}
use Rattle.vol_dir.specs.Names.{dot, dot_dot}
use Rattle.vol_judge.specs.Graph.{Graph, IsGraphWithin, Leads, IsBelow, at_root, below, counted, counted_in, IsGraphSound}
use Rattle.vol_judge.proofs.GraphCounts.{sum_same, one_for, counted_to, slots_none}
use Rattle.vol_judge.proofs.GraphParts.{not_free, entry_parts}
use Rattle.vol_layout.specs.declared.mode.Kind.TheVariants as kinds

-- an entry with the next i-number
abbrev pub raised_entry : Option (List ℕ × ℕ) → Option (List ℕ × ℕ)
raised_entry slot = option_map (λ (entry : List ℕ × ℕ). (entry.0, entry.1 + 1)) slot

-- the graph `new` is `old` with each i-number one higher
pub record RaisesGraph (old new : Graph) : Type 0 where
  pub kind : (k : ℕ) → new.kind k ≡ old.kind (k - 1)
  pub links : (k : ℕ) → old.kind (k - 1) ≢ kinds.Free → new.links k ≡ old.links (k - 1)
  pub size : (k : ℕ) → old.kind (k - 1) ≡ kinds.Directory → new.size k ≡ old.size (k - 1)
  pub entry : (k s : ℕ) → new.entry k s ≡ raised_entry (old.entry (k - 1) s)

-- a raised entry for `i` was made from an entry for `i` - 1
from_raised : (slot : Option (List ℕ × ℕ)) (name : List ℕ) (i : ℕ) → raised_entry slot ≡ Some (name, i)
    → (j : ℕ) × (slot ≡ Some (name, j)) × (i ≡ j + 1)
from_raised None name i e = absurd (cc)
from_raised (Some entry) name i e =
    let parts = entry_parts entry.0 name (entry.1 + 1) i e in
    (entry.1, ap (λ n. Some (n, entry.1)) parts.0, sym parts.1)

-- an entry of the new graph was made from one of the old graph
entry_back : (old new : Graph) (k s i : ℕ) (name : List ℕ) → RaisesGraph old new → new.entry k s ≡ Some (name, i)
    → (old.entry (k - 1) s ≡ Some (name, i - 1)) × (1 ≤ i)
entry_back old new k s i name raises e =
    let from = from_raised (old.entry (k - 1) s) name i (sym (raises.entry k s) ∙ e) in
    let less : from.0 ≡ i - 1 = omega (arith, from.2) in
    (from.1 ∙ ap (λ j. Some (name, j)) less, omega (arith, from.2))

-- an entry of the old graph makes one of the new graph
entry_on : (old new : Graph) (d s j k i : ℕ) (name : List ℕ) → RaisesGraph old new → k - 1 ≡ d → j + 1 ≡ i → old.entry d s ≡ Some (name, j)
    → new.entry k s ≡ Some (name, i)
entry_on old new d s j k i name raises at is e =
    raises.entry k s ∙ (ap (λ x. raised_entry (old.entry x s)) at ∙ (ap raised_entry e ∙ ap (λ x. Some (name, x)) is))

-- an entry that leads from one directory to another in the old graph does so in the new one
leads_on : (old new : Graph) (d s j k i : ℕ) → RaisesGraph old new → k - 1 ≡ d → j + 1 ≡ i → Leads old d s j → Leads new k s i
leads_on old new d s j k i raises at is leads = (leads.0, entry_on old new d s j k i leads.0 raises at is leads.1, leads.2)

-- an entry that leads from one directory to another in the new graph does so in the old one
leads_back : (old new : Graph) (k s i : ℕ) → RaisesGraph old new → Leads new k s i → Leads old (k - 1) s (i - 1)
leads_back old new k s i raises leads = (leads.0, (entry_back old new k s i leads.0 raises leads.1).0, leads.2)

-- a node below the root in the old graph is below the root in the new one
below_on : (old new : Graph) (root i : ℕ) → RaisesGraph old new → IsBelow old root i → IsBelow new (root + 1) (i + 1)
below_on old new root _ raises at_root = at_root
below_on old new root _ raises (below d s i above leads) =
    below (d + 1) s (i + 1) (below_on old new root d raises above) (leads_on old new d s i (d + 1) (i + 1) raises (omega arith) refl leads)

-- a raised entry counts for `i` if the old one counts for `i` - 1
one_raised : (slot : Option (List ℕ × ℕ)) (i : ℕ) → 1 ≤ i → one_for i (raised_entry slot) ≡ one_for (i - 1) slot
one_raised None i some = refl
one_raised (Some entry) i some =
    elim (cases_eq entry.1 (i - 1)) [
      | inl is ↦
          let same : entry.1 + 1 ≡ i = omega (arith, is) in
          ap (λ b. cond b 1 0) (eq-eqb (entry.1 + 1) i same) ∙ sym (ap (λ b. cond b 1 0) (eq-eqb entry.1 (i - 1) is))
      | inr other ↦
          ap (λ b. cond b 1 0) (ne_eqb (entry.1 + 1) i (λ e. other (omega (arith, e)))) ∙ sym (ap (λ b. cond b 1 0) (ne_eqb entry.1 (i - 1) other))
    ]

-- directory `k` of the new graph has as many entries for `i` as directory `k` - 1 of the old one has for `i` - 1
counted_raised : (old new : Graph) (last top i k : ℕ) → IsGraphWithin old last → IsGraphWithin new top → RaisesGraph old new → 1 ≤ i
    → counted_in new i k ≡ counted_in old (i - 1) (k - 1)
counted_raised old new last top i k before after raises some =
    let n = max (new.size k / 16) (old.size (k - 1) / 16) in
    counted_to new top i k n after (omega arith)
    ∙ (sum_same (λ s. one_for i (new.entry k s)) (λ s. one_for (i - 1) (old.entry (k - 1) s)) 0 n
    (λ s low high. ap (one_for i) (raises.entry k s) ∙ one_raised (old.entry (k - 1) s) i some)
    ∙ sym (counted_to old last (i - 1) (k - 1) n before (omega arith)))

-- a sum over a range shifted by one, of weights shifted by one, is the sum over the range
sum_later : (f : ℕ → ℕ) (a n : ℕ) → sum_by (λ k. f (k - 1)) (range_with_len (a + 1) n) ≡ sum_by f (range_with_len a n)
sum_later f a zero = refl
sum_later f a (suc n) =
    let rest = sum_later f (a + 1) n in
    let left = sum_by-cons (λ k. f (k - 1)) (a + 1) (range_with_len (a + 1 + 1) n) in
    let right = sum_by-cons f a (range_with_len (a + 1) n) in
    let here : f (a + 1 - 1) ≡ f a = ap f (omega arith) in
    omega (arith, rest, left, right, here)

-- a sum continued with zeros is unchanged
sum_past : (f : ℕ → ℕ) (m n : ℕ) → m ≤ n → ((d : ℕ) → m < d → f d ≡ 0) → sum_by f (range_with_len 1 n) ≡ sum_by f (range_with_len 1 m)
sum_past f m n more none =
    let count : m + (n - m) ≡ n = omega arith in
    let split = sum_split f 1 m (n - m) in
    let rest : sum_by f (range_with_len (1 + m) (n - m)) ≡ 0 = sum_none f (1 + m) (n - m) (λ d low high. none d (omega (arith, low))) in
    ap (λ k. sum_by f (range_with_len 1 k)) (sym count) ∙ omega (arith, split, rest)

-- sums with different ends are equal if only zeros come after both
sum_ends : (f : ℕ → ℕ) (m n : ℕ) → ((d : ℕ) → m < d → f d ≡ 0) → ((d : ℕ) → n < d → f d ≡ 0)
    → sum_by f (range_with_len 1 n) ≡ sum_by f (range_with_len 1 m)
sum_ends f m n left right =
    elim (cases_lt m n) [
      | inl less ↦ sum_past f m n (omega arith) left
      | inr more ↦ sym (sum_past f n m more right)
    ]

-- a slot whose raised entry is `None` has no entry
none_raised : (slot : Option (List ℕ × ℕ)) → raised_entry slot ≡ None → slot ≡ None
none_raised None e = refl
none_raised (Some entry) e = absurd (cc)

-- a directory without entries has no entry for `i`
none_counts : (graph : Graph) (i d : ℕ) → ((s : ℕ) → graph.entry d s ≡ None) → counted_in graph i d ≡ 0
none_counts graph i d none =
    slots_none graph i d (λ t name e. let n : graph.entry d t ≡ None = none t in let both : None ≡ Some (name, i) = sym n ∙ e in absurd (cc))

-- a free i-number has no entries
free_none : (graph : Graph) (last d s : ℕ) → IsGraphWithin graph last → graph.kind d ≡ kinds.Free → graph.entry d s ≡ None
free_none graph last d s within free = within.directories d s (λ e. let both : kinds.Directory ≡ kinds.Free = sym e ∙ free in absurd (cc))

-- i-numbers past the last have no entries
past_none : (graph : Graph) (last d s : ℕ) → IsGraphWithin graph last → last < d → graph.entry d s ≡ None
past_none graph last d s within past =
    within.directories d s (λ e. let in_range = within.numbers d (not_free (graph.kind d) e) in absurd (omega (arith, in_range.1, past)))

-- each i-number of the new graph has as many entries as the one before it in the old graph
all_raised : (old new : Graph) (last top i : ℕ) → IsGraphWithin old last → IsGraphWithin new top → RaisesGraph old new → old.kind 0 ≡ kinds.Free → 1 ≤ i
    → 1 ≤ top → counted new top i ≡ counted old last (i - 1)
unfolding counted
all_raised old new last top i before after raises none some room =
    let f : ℕ → ℕ = λ d. counted_in old (i - 1) d in
    let each : sum_by (counted_in new i) (range_with_len 1 top) ≡ sum_by (λ k. f (k - 1)) (range_with_len (0 + 1) top) =
    sum_same (counted_in new i) (λ k. f (k - 1)) 1 top (λ k low high. counted_raised old new last top i k before after raises some) in
    let later = sum_later f 0 top in
    let count : 1 + (top - 1) ≡ top = omega arith in
    let split : sum_by f (range_with_len 0 (1 + (top - 1))) ≡ sum_by f (range_with_len 0 1) + sum_by f (range_with_len (0 + 1) (top - 1)) =
    sum_split f 0 1 (top - 1) in
    let zero_counts : f 0 ≡ 0 = none_counts old (i - 1) 0 (λ s. free_none old last 0 s before none) in
    let first : sum_by f (range_with_len 0 1) ≡ 0 = let one = sum_by-cons f 0 [] in omega (arith, one, zero_counts) in
    let ends : sum_by f (range_with_len 1 (top - 1)) ≡ sum_by f (range_with_len 1 last) =
    sum_ends f last (top - 1)
    (λ d past. none_counts old (i - 1) d (λ s. past_none old last d s before past))
    (λ d past. none_counts old (i - 1) d (λ s.
    none_raised (old.entry d s)
    (ap (λ x. raised_entry (old.entry x s)) (let e : d ≡ d + 1 - 1 = omega arith in e)
    ∙ (sym (raises.entry (d + 1) s) ∙ past_none new top (d + 1) s after (omega (arith, past)))))) in
    each ∙ (later ∙ (ap (λ n. sum_by f (range_with_len 0 n)) (sym count) ∙ (omega (arith, split, first) ∙ ends)))

-- a sound graph with each i-number one higher is sound, with the root one higher
pub raised_sound : (old new : Graph) (root last top : ℕ) → IsGraphWithin old last → IsGraphWithin new top → RaisesGraph old new → 1 ≤ top
    → IsGraphSound old root last → old.kind 0 ≡ kinds.Free → IsGraphSound new (root + 1) top
raised_sound old new root last top before after raises room sound none =
    let is : (k : ℕ) → new.kind k ≡ kinds.Directory → old.kind (k - 1) ≡ kinds.Directory = λ k e. sym (raises.kind k) ∙ e in
    let used : (k : ℕ) → new.kind k ≢ kinds.Free → old.kind (k - 1) ≢ kinds.Free = λ k some e. some (raises.kind k ∙ e) in
    let some_number : (k : ℕ) → new.kind k ≢ kinds.Free → 1 ≤ k = λ k some. (after.numbers k some).0 in
    record {
      whole = λ k e. let size = raises.size k (is k e) in let whole = sound.whole (k - 1) (is k e) in omega (arith, size, whole);
      named = λ k s i name e. sound.named (k - 1) s (i - 1) name (entry_back old new k s i name raises e).0;
      allocated = λ k s i name e.
          let back = entry_back old new k s i name raises e in
          let some = sound.allocated (k - 1) s (i - 1) name back.0 in
          (omega (arith, some.0, back.1), (λ free. some.1 (sym (raises.kind i) ∙ free)));
      once = λ k s t i j name e f.
          sound.once (k - 1) s t (i - 1) (j - 1) name (entry_back old new k s i name raises e).0 (entry_back old new k t j name raises f).0;
      itself = λ k e.
          let self = sound.itself (k - 1) (is k e) in
          let first = some_number k (not_free (new.kind k) e) in
          (self.0, entry_on old new (k - 1) self.0 (k - 1) k k dot raises refl (omega (arith, first)) self.1);
      of_root = (sound.of_root.0, entry_on old new root sound.of_root.0 root (root + 1) (root + 1) dot_dot raises (omega arith) refl sound.of_root.1);
      parent = λ k e other.
          let first = some_number k (not_free (new.kind k) e) in
          let above = sound.parent (k - 1) (is k e) (λ same. other (omega (arith, same, first))) in (
            above.0,
            above.1 + 1,
            above.2,
            entry_on old new (k - 1) above.0 above.1 k (above.1 + 1) dot_dot raises refl refl above.3,
            leads_on old new above.1 above.2 (k - 1) (above.1 + 1) k raises (omega arith) (omega (arith, first)) above.4,
          );
      reached = λ k e.
          let first = some_number k (not_free (new.kind k) e) in
          let at : k - 1 + 1 ≡ k = omega (arith, first) in
          let P : ℕ → Type 0 = λ x. IsBelow new (root + 1) x in
          subst P at (below_on old new root (k - 1) raises (sound.reached (k - 1) (is k e)));
      one = λ k e s f t of_k first second.
          let both = sound.one (k - 1) (e - 1) s (f - 1) t (is k of_k) (leads_back old new e s k raises first) (leads_back old new f t k raises second) in
          let at_e = some_number e (λ free. let n = free_none new top e s after free in let clash : None ≡ Some (first.0, k) = sym n ∙ first.1 in absurd (cc)) in
          let at_f = some_number f (λ free. let n = free_none new top f t after free in let clash : None ≡ Some (second.0, k) = sym n ∙ second.1 in absurd (cc)) in
          (omega (arith, both.0, at_e, at_f), both.1);
      root_none = λ e s leads.
          let back = leads_back old new e s (root + 1) raises leads in
          let at : root + 1 - 1 ≡ root = omega arith in
          sound.root_none (e - 1) s (back.0, back.1 ∙ ap (λ x. Some (back.0, x)) at, back.2);
      counts = λ k some.
          raises.links k (used k some) ∙ (sound.counts (k - 1) (used k some)
          ∙ sym (all_raised old new last top k before after raises none (some_number k some) room));
      linked = λ k from some.
          let links = raises.links k (used k some) in
          let old_links = sound.linked (k - 1) (omega (arith, from)) (used k some) in omega (arith, links, old_links);
    }
