-- The order in which members are visited.
use Rattle.std.proofs.Common.{◌≡◌, ℕ, ◌&&◌, Bool, true, false, cond, List, [], ◌∷◌, ◌++◌, get_or, refl, ap, sym, subst, ◌∙◌}
use Rattle.std.specs.Prelude.{T}
use Rattle.std.specs.Cmp.{tied_itself}
use Rattle.std.specs.Cmp.Lexicographic.{slice_cmp}
use Rattle.std.specs.FinMap.Entries.{is_sorted, below_all}
use Rattle.std.specs.Ordering.{nat_cmp, is_lt}
use Rattle.std.specs.declared.cmp.Ordering.{Ordering}
use Rattle.std.specs.declared.cmp.Ordering.TheVariants.{Less, Equal, Greater}
use Rattle.vol_layout.specs.declared.geometry.Geometry.{Geometry}
use Rattle.vol_dir.specs.Entries.{slots}
use Rattle.vol_dir.specs.Names.{Names, names_of, is_dots}
use Rattle.vol_dir.specs.Walk.{components, is_plain}
use Rattle.vol_dir.proofs.NameMaps.{sorted}
use Rattle.vol_archive.specs.Laws.{is_kept, members_of, MembersAscend, MembersDiffer}
use Rattle.vol_archive.specs.Walk.{Walks, path_below, pending_below, met, below, entries_below, role_of, first_met, IsWalk}
use Rattle.vol_archive.specs.declared.met_entries.MetEntry.{MetEntry}
use Rattle.vol_archive.specs.declared.met_entries.Role.{Role}
use Rattle.vol_archive.specs.declared.met_entries.Role.TheVariants as roles
use Rattle.vol_archive.specs.declared.pending.Pending.{Pending}
use Rattle.vol_archive.proofs.Each.{Each, Pairs, each_map, each_append, pairs_append, all_pairs_kept, each_both}
use Rattle.vol_archive.proofs.EntryLists.{IsShort, IsNamed, component_below, directory_short, entries_named, each_below}
use Rattle.vol_archive.proofs.NameOrder.{order, order_total, Clears, before_inside, before_below, clear_before, clear_below, clear_beside}
use Rattle.vol_archive.proofs.TreeMembers.{member_plain, rest_of, walk_is}

-- an entry, with everything below it, comes before another entry, if both have plain names
abbrev pub Precedes : Pending → Pending → Type 0
Precedes entry other = entry.is_plain ≡ true → other.is_plain ≡ true → Clears (components entry.path) (components other.path)

-- if a conjunction is true, both parts are
both_of : (a b : Bool) → T (a && b) → T a × T b
both_of true b h = (tt, h)
both_of false b h = absurd h

less_is : (o : Ordering) → T (is_lt o) → o ≡ Less
less_is Less t = refl
less_is Equal t = absurd t
less_is Greater t = absurd t

-- a name is less than each name in the rest of a sorted map
below_each : (name : List ℕ) (es : Names) → T (below_all (slice_cmp nat_cmp) name es) → Each (λ (e : List ℕ × ℕ). slice_cmp nat_cmp name e.0 ≡ Less) es
below_each name [] h = tt
below_each name (e ∷ es) h =
    let parts = both_of (is_lt (slice_cmp nat_cmp name e.0)) (below_all (slice_cmp nat_cmp) name es) h in
    (less_is (slice_cmp nat_cmp name e.0) parts.0, below_each name es parts.1)

-- the entries made from a sorted map of short names are in order
beside : (path : List ℕ) (es : Names) → T (is_sorted (slice_cmp nat_cmp) es) → Each (λ (e : List ℕ × ℕ). IsShort e.0) es → Pairs Precedes (pending_below path es)
unfolding pending_below
beside path [] h short = tt
beside path (e ∷ es) h short =
    let parts = both_of (below_all (slice_cmp nat_cmp) e.0 es) (is_sorted (slice_cmp nat_cmp) es) h in
    let first : Pending = record { path = path_below path e.0; inode = e.1; is_plain = is_plain e.0 } in
    let later : Each (Precedes first) (pending_below path es) =
    each_below path (λ (f : List ℕ × ℕ). IsShort f.0 × (slice_cmp nat_cmp e.0 f.0 ≡ Less)) (Precedes first)
    (λ f k plain other. clears e.0 f.0 (plain, short.0) (other, k.0) k.1) es
    (each_both (λ (f : List ℕ × ℕ). IsShort f.0) (λ (f : List ℕ × ℕ). slice_cmp nat_cmp e.0 f.0 ≡ Less) es short.1 (below_each e.0 es parts.0)) in
    elim (is_dots e.0) as (λ b. Pairs Precedes (cond b [] (first ∷ []) ++ pending_below path es)) [
      | true ↦ beside path es parts.1 short.1
      | false ↦ (later, beside path es parts.1 short.1)
    ]
  where
    clears : (name other : List ℕ) → (is_plain name ≡ true) × IsShort name → (is_plain other ≡ true) × IsShort other
        → slice_cmp nat_cmp name other ≡ Less → Clears (components (path_below path name)) (components (path_below path other))
    clears name other n o less more =
        ap (λ xs. order (xs ++ more) (components (path_below path other))) (component_below path name n.0 n.1)
        ∙ (ap (λ xs. order ((components path ++ name ∷ []) ++ more) xs) (component_below path other o.0 o.1)
        ∙ clear_beside (components path) name other less more)

-- the entries of a directory are in order
pub entries_beside : (g : Geometry) (image : List ℕ) (path : List ℕ) (d : ℕ) → Pairs Precedes (entries_below g image path d)
entries_beside g image path d = beside path (names_of (slots g image d)) (sorted (slots g image d)) (directory_short g image d)

-- some names come before the path of an entry, if it has a plain name
abbrev pub IsAfter : List (List ℕ) → Pending → Type 0
IsAfter names entry = entry.is_plain ≡ true → order names (components entry.path) ≡ Less

-- if each entry of a visited directory has a property, so has each entry below a visited entry with any role
pub each_inside : (P : Pending → Type 0) (g : Geometry) (image : List ℕ) (found : MetEntry) (role : Role)
    → (role ≡ roles.Directory → Each P (entries_below g image found.path found.inode)) → Each P (below g image found role)
each_inside P g image found roles.Directory h = h refl
each_inside P g image found roles.File h = tt
each_inside P g image found roles.Special h = tt
each_inside P g image found (roles.Link k) h = tt
each_inside P g image found (roles.Left reason) h = tt

-- the entries of a directory come after all names that come before each name in it
inside_after : (g : Geometry) (image : List ℕ) (names : List (List ℕ)) (path : List ℕ) (d : ℕ)
    → ((name : List ℕ) → order names (components path ++ name ∷ []) ≡ Less) → Each (IsAfter names) (entries_below g image path d)
inside_after g image names path d h =
    each_map (λ (entry : Pending). entry.is_plain ≡ true → IsNamed (names_of (slots g image d)) path entry) (IsAfter names)
    (λ entry named plain. ap (order names) (named plain).parts ∙ h (named plain).name) (entries_below g image path d) (entries_named g image path d)

-- names that come before all pending entries also come before those that are pending after the next step
pub step_after : (g : Geometry) (image : List ℕ) (start : ℕ) (founds : List MetEntry) (entry : Pending) (rest : List Pending) (names : List (List ℕ))
    → Each (IsAfter names) (entry ∷ rest)
    → Each (IsAfter names) (below g image (met g image start founds entry) (met g image start founds entry).role ++ rest)
step_after g image start founds entry rest names h =
    let found = met g image start founds entry in
    each_append (IsAfter names) (below g image found found.role) rest
    (each_inside (IsAfter names) g image found found.role (λ is. inside_after g image names entry.path entry.inode
    (λ name. before_below names (components entry.path) name (h.0 (member_plain g image start (first_met entry.inode founds) entry (ap is_kept is)))))) h.1

-- names that come before all pending entries come before all members visited later
rest_after : {g : Geometry} {image : List ℕ} {start : ℕ} {founds : List MetEntry} {pending : List Pending} {all : List MetEntry}
    → (walks : Walks g image start founds pending all) (names : List (List ℕ)) → Each (IsAfter names) pending
    → Each (λ (found : MetEntry). is_kept found.role ≡ true → order names (components found.path) ≡ Less) (rest_of walks)
unfolding rest_of
rest_after (Walks.ends founds) names h = tt
rest_after {g = g} {image = image} {start = start} (Walks.meets founds entry rest all walks) names h =
    let first = first_met entry.inode founds in
    let here : is_kept (role_of g image start first entry) ≡ true → order names (components entry.path) ≡ Less =
    λ kept. h.0 (member_plain g image start first entry kept) in (
      here,
      rest_after walks names (step_after g image start founds entry rest names h),
    )

-- the entries below a visited entry are in order
pairs_inside : (g : Geometry) (image : List ℕ) (found : MetEntry) (role : Role) → Pairs Precedes (below g image found role)
pairs_inside g image found roles.Directory = entries_beside g image found.path found.inode
pairs_inside g image found roles.File = tt
pairs_inside g image found roles.Special = tt
pairs_inside g image found (roles.Link k) = tt
pairs_inside g image found (roles.Left reason) = tt

-- the entries below a directory come before the entries after it
inside_before : (g : Geometry) (image : List ℕ) (entry : Pending) (rest : List Pending) → entry.is_plain ≡ true → Each (Precedes entry) rest
    → Each (λ (inner : Pending). Each (Precedes inner) rest) (entries_below g image entry.path entry.inode)
inside_before g image entry rest plain h =
    each_map (λ (inner : Pending). inner.is_plain ≡ true → IsNamed (names_of (slots g image entry.inode)) entry.path inner)
    (λ (inner : Pending). Each (Precedes inner) rest)
    (λ inner named. each_map (Precedes entry) (Precedes inner)
    (λ other clears inner_plain other_plain more.
    ap (λ xs. order (xs ++ more) (components other.path)) (named inner_plain).parts
    ∙ clear_below (components entry.path) (components other.path) (named inner_plain).name (clears plain other_plain) more) rest h)
    (entries_below g image entry.path entry.inode) (entries_named g image entry.path entry.inode)

-- a member comes before everything that is pending after it is visited
pub met_before : (g : Geometry) (image : List ℕ) (start : ℕ) (founds : List MetEntry) (entry : Pending) (rest : List Pending) → Each (Precedes entry) rest
    → is_kept (met g image start founds entry).role ≡ true
    → Each (IsAfter (components entry.path)) (below g image (met g image start founds entry) (met g image start founds entry).role ++ rest)
met_before g image start founds entry rest h kept =
    let found = met g image start founds entry in
    let names = components entry.path in
    let plain : entry.is_plain ≡ true = member_plain g image start (first_met entry.inode founds) entry kept in
    each_append (IsAfter names) (below g image found found.role) rest
    (each_inside (IsAfter names) g image found found.role (λ is. inside_after g image names entry.path entry.inode (λ name. before_inside names name [])))
    (each_map (Precedes entry) (IsAfter names) (λ other clears other_plain. clear_before names (components other.path) (clears plain other_plain)) rest h)

-- if the pending entries are in order, so are those that are pending after the next step
pub step_beside : (g : Geometry) (image : List ℕ) (start : ℕ) (founds : List MetEntry) (entry : Pending) (rest : List Pending) → Pairs Precedes (entry ∷ rest)
    → Pairs Precedes (below g image (met g image start founds entry) (met g image start founds entry).role ++ rest)
step_beside g image start founds entry rest h =
    let found = met g image start founds entry in
    let across : Each (λ (inner : Pending). Each (Precedes inner) rest) (below g image found found.role) =
    each_inside (λ (inner : Pending). Each (Precedes inner) rest) g image found found.role
    (λ is. inside_before g image entry rest (member_plain g image start (first_met entry.inode founds) entry (ap is_kept is)) h.0) in
    pairs_append Precedes (below g image found found.role) rest (pairs_inside g image found found.role) h.1 across

-- one member's path comes before another's
abbrev pub AreInOrder : MetEntry → MetEntry → Type 0
AreInOrder found other = is_kept found.role ≡ true → is_kept other.role ≡ true → order (components found.path) (components other.path) ≡ Less

-- if the pending entries are in order, so are the members visited later
rest_ordered : {g : Geometry} {image : List ℕ} {start : ℕ} {founds : List MetEntry} {pending : List Pending} {all : List MetEntry}
    → (walks : Walks g image start founds pending all) → Pairs Precedes pending → Pairs AreInOrder (rest_of walks)
unfolding rest_of
rest_ordered (Walks.ends founds) h = tt
rest_ordered {g = g} {image = image} {start = start} (Walks.meets founds entry rest all walks) h =
    let found = met g image start founds entry in (
      before found (rest_of walks) (λ kept. rest_after walks (components entry.path) (met_before g image start founds entry rest h.0 kept)),
      rest_ordered walks (step_beside g image start founds entry rest h),
    )
  where
    before : (found : MetEntry) (others : List MetEntry)
        → (is_kept found.role ≡ true → Each (λ (other : MetEntry). is_kept other.role ≡ true → order (components found.path) (components other.path) ≡ Less) others)
        → Each (AreInOrder found) others
    before found [] h = tt
    before found (other ∷ others) h = (λ kept other_kept. (h kept).0 other_kept, before found others (λ kept. (h kept).1))

-- the members of a walk are in ascending order
pub walk_ordered : (g : Geometry) (image : List ℕ) (start : ℕ) (founds : List MetEntry) → IsWalk g image start founds → Pairs AreInOrder founds
walk_ordered g image start founds walks = subst (Pairs AreInOrder) (walk_is walks) (rest_ordered walks (entries_beside g image [] start))

pub members_ascend : MembersAscend
members_ascend g image start founds walks =
    all_pairs_kept (λ (found : MetEntry). is_kept found.role) (λ (found other : MetEntry). order (components found.path) (components other.path) ≡ Less) founds
    (walk_ordered g image start founds walks)

-- no two members have the same path
pub members_differ : MembersDiffer
members_differ g image start founds walks i j d lt within same =
    let less = members_ascend g image start founds walks i j d lt within in
    never (sym (tied_itself order_total (components (get_or (members_of founds) i d).path)) ∙ (ap (λ path. order (components (get_or (members_of founds) i d).path) (components path)) same ∙ less))
  where
    never : Equal ≡ Less → ⊥
    never e = cc
