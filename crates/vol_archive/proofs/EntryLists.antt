-- The entries below a directory: their names, and where they lead.
use Rattle.std.proofs.Common.{◌≡◌, ℕ, ◌+◌, ◌-◌, ◌*◌, ◌≤◌, ◌==◌, ◌&&◌, Bool, true, false, cond, eqb, nat_lt, List, [], ◌∷◌, ◌++◌, map, drop, length, None, Some, refl, ap, sym, ◌∙◌, arith}
use Rattle.std.specs.Prelude.{Option, T, slice_range}
use Rattle.std.specs.Cmp.Lexicographic.{slice_cmp}
use Rattle.std.specs.FinMap.Entries.{by_order, put, is_sorted, below_all}
use Rattle.std.specs.List.{range_with_len, position_or_len}
use Rattle.std.specs.Ordering.{nat_cmp, is_eq, is_lt, ordering_reverse}
use Rattle.std.specs.declared.cmp.Ordering.{Ordering}
use Rattle.std.specs.declared.cmp.Ordering.TheVariants.{Less, Equal, Greater}
use Rattle.std.specs.Cmp.{tied_itself}
use Rattle.std.proofs.lemmas.Cmp.{nat_list_cmp_total}
use Rattle.std.proofs.lemmas.List.{length-take}
use Rattle.vol_layout.specs.Slot.{name_of, slot_at}
use Rattle.vol_layout.specs.Body.{body}
use Rattle.vol_layout.specs.declared.geometry.Geometry.{Geometry}
use Rattle.vol_layout.specs.declared.slot.Slot.{Slot}
use Rattle.vol_dir.specs.Entries.{entry_in, entry_at, slot_count, slots}
use Rattle.vol_dir.specs.Names.{Names, get, names_of, is_dots}
use Rattle.vol_dir.specs.Walk.{components, is_plain}
use Rattle.vol_dir.proofs.NameMaps.{sorted}
use Rattle.vol_dir.proofs.Components.{components-nil, one_component}
use Rattle.vol_dir.proofs.PathJoins.{components-join}
use Rattle.vol_archive.specs.Walk.{path_below, entry_below, pending_below, entries_below}
use Rattle.vol_archive.specs.declared.pending.Pending.{Pending}
use Rattle.vol_archive.proofs.Each.{Each, each_append, each_both}

-- a name has at most 14 bytes
abbrev pub IsShort : List ℕ → Type 0
IsShort name = length name ≤ 14

-- the name in a slot, if there is one, has at most 14 bytes
abbrev IsShortIn : Option (List ℕ × ℕ) → Type 0
IsShortIn None = T true
IsShortIn (Some entry) = IsShort entry.0

-- the name read from at most 14 bytes has at most 14 bytes
short_name : (bytes : List ℕ) → length bytes ≤ 14 → IsShort (name_of bytes)
short_name bytes h = omega (arith, length-take (position_or_len (λ c. c == 0) bytes) bytes)

-- the name in a slot of a directory has at most 14 bytes
short_at : (geometry : Geometry) (image : List ℕ) (d s : ℕ) → IsShortIn (entry_at geometry image d s)
unfolding entry_at
short_at geometry image d s =
    elim (nat_lt s (slot_count geometry image d)) as (λ b. IsShortIn (cond b (entry_in (slot_at (body geometry image d) (16 * s))) None)) [
      | true ↦ short_in (slot_at (body geometry image d) (16 * s)) (ranged (body geometry image d) (16 * s))
      | false ↦ tt
    ]
  where
    short_in : (slot : Slot) → length slot.name ≤ 14 → IsShortIn (entry_in slot)
    short_in slot h = elim (eqb slot.inode 0) as (λ b. IsShortIn (cond b None (Some (name_of slot.name, slot.inode)))) [
      | true ↦ tt
      | false ↦ short_name slot.name h
    ]

    ranged : (bytes : List ℕ) (at : ℕ) → length (slice_range bytes (at + 2) (at + 16)) ≤ 14
    ranged bytes at = omega (arith, length-take ((at + 16) - (at + 2)) (drop (at + 2) bytes))

-- putting a short name into a map of short names gives a map of short names
short_put : (name : List ℕ) (i : ℕ) (names : Names) → IsShort name → Each (λ (e : List ℕ × ℕ). IsShort e.0) names
    → Each (λ (e : List ℕ × ℕ). IsShort e.0) (put (slice_cmp nat_cmp) name i names)
short_put name i [] h hs = (h, tt)
short_put name i (e ∷ es) h hs =
    elim (slice_cmp nat_cmp name e.0) as (λ o. Each (λ (e : List ℕ × ℕ). IsShort e.0) (by_order o ((name, i) ∷ e ∷ es) ((e.0, i) ∷ es) (e ∷ put (slice_cmp nat_cmp) name i es))) [
      | Less ↦ (h, hs)
      | Equal ↦ hs
      | Greater ↦ (hs.0, short_put name i es h hs.1)
    ]

-- the map of slots with short names has short names
short_names : (f : ℕ → Option (List ℕ × ℕ)) → ((s : ℕ) → IsShortIn (f s)) → (xs : List ℕ) → Each (λ (e : List ℕ × ℕ). IsShort e.0) (names_of (map f xs))
short_names f h [] = tt
short_names f h (x ∷ xs) =
    elim (f x) as (λ o. IsShortIn o → Each (λ (e : List ℕ × ℕ). IsShort e.0) (names_of (o ∷ map f xs))) [
      | None ↦ λ s. short_names f h xs
      | Some entry ↦ λ s. short_put entry.0 entry.1 (names_of (map f xs)) s (short_names f h xs)
    ] (h x)

-- the names of a directory have at most 14 bytes
pub directory_short : (geometry : Geometry) (image : List ℕ) (d : ℕ) → Each (λ (e : List ℕ × ℕ). IsShort e.0) (names_of (slots geometry image d))
unfolding slots
directory_short geometry image d = short_names (entry_at geometry image d) (short_at geometry image d) (range_with_len 0 (slot_count geometry image d))

-- each entry of a sorted map is found by its name
found_each : (es : Names) → T (is_sorted (slice_cmp nat_cmp) es) → Each (λ (e : List ℕ × ℕ). get es e.0 ≡ Some e.1) es
found_each [] h = tt
found_each (e ∷ es) h =
    let parts = both_of (below_all (slice_cmp nat_cmp) e.0 es) (is_sorted (slice_cmp nat_cmp) es) h in (
      ap (λ o. cond (is_eq o) (Some e.1) (get es e.0)) (tied_itself nat_list_cmp_total e.0),
      later es parts.0 (found_each es parts.1),
    )
  where
    both_of : (a b : Bool) → T (a && b) → T a × T b
    both_of true b h = (tt, h)
    both_of false b h = absurd h

    past : (x y : List ℕ) → T (is_lt (slice_cmp nat_cmp x y)) → slice_cmp nat_cmp y x ≡ Greater
    past x y less = nat_list_cmp_total.antisymm y x ∙ turned (slice_cmp nat_cmp x y) less
      where
        turned : (o : Ordering) → T (is_lt o) → ordering_reverse o ≡ Greater
        turned Less t = refl
        turned Equal t = absurd t
        turned Greater t = absurd t

    later : (fs : Names) → T (below_all (slice_cmp nat_cmp) e.0 fs) → Each (λ (f : List ℕ × ℕ). get es f.0 ≡ Some f.1) fs
        → Each (λ (f : List ℕ × ℕ). get (e ∷ es) f.0 ≡ Some f.1) fs
    later [] below found = tt
    later (f ∷ fs) below found =
        let parts = both_of (is_lt (slice_cmp nat_cmp e.0 f.0)) (below_all (slice_cmp nat_cmp) e.0 fs) below in
        (ap (λ o. cond (is_eq o) (Some e.1) (get es f.0)) (past e.0 f.0 parts.0) ∙ found.0, later fs parts.1 found.1)

-- each entry of a directory is found by its name
pub directory_found : (geometry : Geometry) (image : List ℕ) (d : ℕ)
    → Each (λ (e : List ℕ × ℕ). get (names_of (slots geometry image d)) e.0 ≡ Some e.1) (names_of (slots geometry image d))
directory_found geometry image d = found_each (names_of (slots geometry image d)) (sorted (slots geometry image d))

-- the components of a name below a path are the path's components followed by the name
pub component_below : (path name : List ℕ) → is_plain name ≡ true → IsShort name → components (path_below path name) ≡ components path ++ name ∷ []
component_below [] name plain short = one_component name plain short ∙ ap (λ cs. cs ++ name ∷ []) (sym components-nil)
component_below (c ∷ path) name plain short = components-join (c ∷ path) name ∙ ap (λ cs. components (c ∷ path) ++ cs) (one_component name plain short)

-- the name of an entry below a path, and its i-number in a map
pub record IsNamed (names : Names) (path : List ℕ) (entry : Pending) : Type 0 where
  pub name : List ℕ
  pub parts : components entry.path ≡ components path ++ name ∷ []
  pub found : get names name ≡ Some entry.inode

-- if all entries of a map other than `.` and `..` have a property, so do the pending entries made from them
pub each_proper : (path : List ℕ) (P : List ℕ × ℕ → Type 0) (Q : Pending → Type 0)
    → ((e : List ℕ × ℕ) → P e → is_dots e.0 ≡ false → Q (record { path = path_below path e.0; inode = e.1; is_plain = is_plain e.0 }))
    → (es : Names) → Each P es → Each Q (pending_below path es)
unfolding pending_below
each_proper path P Q f [] h = tt
each_proper path P Q f (e ∷ es) h =
    each_append Q (entry_below path e) (pending_below path es)
    (elim (is_dots e.0) as (λ b. is_dots e.0 ≡ b → Each Q (cond b [] (record { path = path_below path e.0; inode = e.1; is_plain = is_plain e.0 } ∷ []))) [
      | true ↦ λ dots. tt
      | false ↦ λ proper. (f e h.0 proper, tt)
    ] refl) (each_proper path P Q f es h.1)

-- if all entries of a map have a property, so do the pending entries made from them
pub each_below : (path : List ℕ) (P : List ℕ × ℕ → Type 0) (Q : Pending → Type 0)
    → ((e : List ℕ × ℕ) → P e → Q (record { path = path_below path e.0; inode = e.1; is_plain = is_plain e.0 }))
    → (es : Names) → Each P es → Each Q (pending_below path es)
each_below path P Q f es h = each_proper path P Q (λ e p proper. f e p) es h

-- the entries below the path of a directory have names of the directory
pub entries_named : (geometry : Geometry) (image : List ℕ) (path : List ℕ) (d : ℕ)
    → Each (λ (entry : Pending). entry.is_plain ≡ true → IsNamed (names_of (slots geometry image d)) path entry) (entries_below geometry image path d)
entries_named geometry image path d =
    each_below path (λ (e : List ℕ × ℕ). IsShort e.0 × (get (names_of (slots geometry image d)) e.0 ≡ Some e.1))
    (λ (entry : Pending). entry.is_plain ≡ true → IsNamed (names_of (slots geometry image d)) path entry)
    (λ e h plain. record { name = e.0; parts = component_below path e.0 plain h.0; found = h.1 })
    (names_of (slots geometry image d)) (each_both (λ (e : List ℕ × ℕ). IsShort e.0) (λ (e : List ℕ × ℕ). get (names_of (slots geometry image d)) e.0 ≡ Some e.1)
    (names_of (slots geometry image d)) (directory_short geometry image d) (directory_found geometry image d))
