-- If rules 3 and 9 hold, each visited entry has a name and an i-node.
use Rattle.std.proofs.Common.{◌≡◌, ◌≢◌, ℕ, ◌≤◌, ◌==◌, Bool, true, false, cond, not, List, [], ◌∷◌, map, None, Some, refl, ap, sym, subst, ◌∙◌, arith}
use Rattle.std.specs.Prelude.{Option}
use Rattle.std.specs.Cmp.Lexicographic.{slice_cmp}
use Rattle.std.specs.FinMap.Entries.{by_order, put}
use Rattle.std.specs.List.{range_with_len, list_any}
use Rattle.std.specs.Ordering.{nat_cmp}
use Rattle.std.specs.declared.cmp.Ordering.TheVariants.{Less, Equal, Greater}
use Rattle.std.proofs.lemmas.Bool.Decides.{nat_tests}
use Rattle.vol_layout.specs.declared.geometry.Geometry.{Geometry}
use Rattle.vol_layout.specs.declared.mode.Kind.{Kind}
use Rattle.vol_layout.specs.declared.mode.Kind.TheVariants as kinds
use Rattle.vol_file.specs.Rules.{kind_at, HasKinds}
use Rattle.vol_file.proofs.StoredNames.{root_first}
use Rattle.vol_dir.specs.Entries.{entry_at, slot_count, slots, IsDirectory, HasEntries, IsInUse}
use Rattle.vol_dir.specs.Names.{Names, get, names_of}
use Rattle.vol_dir.specs.Tree.{is_number}
use Rattle.vol_dir.proofs.WalkLaws.{found_in_use}
use Rattle.vol_dir.specs.Walk.{is_plain}
use Rattle.vol_archive.specs.Laws.{EntriesHaveNodes}
use Rattle.vol_archive.specs.Walk.{Walks, met, below, entries_below, role_of, node_role, file_role, role_after, has_room, first_met}
use Rattle.vol_archive.specs.declared.met_entries.MetEntry.{MetEntry}
use Rattle.vol_archive.specs.declared.met_entries.Role.{Role}
use Rattle.vol_archive.specs.declared.met_entries.Role.TheVariants as roles
use Rattle.vol_archive.specs.declared.met_entries.Reason.TheVariants as reasons
use Rattle.vol_archive.specs.declared.pending.Pending.{Pending}
use Rattle.vol_archive.proofs.Each.{Each, each_append, each_both, each_all}
use Rattle.vol_archive.proofs.EntryLists.{directory_found, each_below}
use Rattle.vol_archive.proofs.MemberOrder.{each_inside}
use Rattle.vol_archive.proofs.TreeMembers.{rest_of, walk_is, met_directory}

-- if `name` and all names of a map have a property, so do all names after `name` is put into the map
each_put : (P : List ℕ → Type 0) (name : List ℕ) (i : ℕ) (names : Names) → P name → Each (λ (e : List ℕ × ℕ). P e.0) names
    → Each (λ (e : List ℕ × ℕ). P e.0) (put (slice_cmp nat_cmp) name i names)
each_put P name i [] h hs = (h, tt)
each_put P name i (e ∷ es) h hs =
    elim (slice_cmp nat_cmp name e.0) as (λ o. Each (λ (e : List ℕ × ℕ). P e.0) (by_order o ((name, i) ∷ e ∷ es) ((e.0, i) ∷ es) (e ∷ put (slice_cmp nat_cmp) name i es))) [
      | Less ↦ (h, hs)
      | Equal ↦ hs
      | Greater ↦ (hs.0, each_put P name i es h hs.1)
    ]

-- if the name in each slot has a property, all names of the map have it
pub each_name : (P : List ℕ → Type 0) (f : ℕ → Option (List ℕ × ℕ)) → ((s i : ℕ) (name : List ℕ) → f s ≡ Some (name, i) → P name) → (xs : List ℕ)
    → Each (λ (e : List ℕ × ℕ). P e.0) (names_of (map f xs))
each_name P f h [] = tt
each_name P f h (x ∷ xs) =
    elim (f x) as (λ o. f x ≡ o → Each (λ (e : List ℕ × ℕ). P e.0) (names_of (o ∷ map f xs))) [
      | None ↦ λ s. each_name P f h xs
      | Some entry ↦ λ s. each_put P entry.0 entry.1 (names_of (map f xs)) (h x entry.1 entry.0 s) (each_name P f h xs)
    ] refl

-- the names of a directory are plain
pub names_plain : (g : Geometry) (image : List ℕ) (d : ℕ) → HasEntries g image → IsDirectory g image d
    → Each (λ (e : List ℕ × ℕ). is_plain e.0 ≡ true) (names_of (slots g image d))
unfolding slots
names_plain g image d entries directory =
    each_name (λ name. is_plain name ≡ true) (entry_at g image d)
    (λ s i name e. let parts = entries.named d s i name (record { directory = directory; entry = e }) in plain name parts.0 parts.1)
    (range_with_len 0 (slot_count g image d))
  where
    plain : (name : List ℕ) → name ≢ [] → list_any (λ c. c == 47) name ≡ false → is_plain name ≡ true
    plain [] some none = absurd (some refl)
    plain (c ∷ name) some none = ap not none

-- an entry has a plain name, and an i-number in use
abbrev IsForNode : Geometry → List ℕ → Pending → Type 0
IsForNode g image entry = (entry.is_plain ≡ true) × IsInUse g image entry.inode

-- each entry of a directory has a plain name and an i-number in use
entries_have : (g : Geometry) (image : List ℕ) (path : List ℕ) (d : ℕ) → HasEntries g image → IsDirectory g image d
    → Each (IsForNode g image) (entries_below g image path d)
entries_have g image path d entries directory =
    each_below path (λ (e : List ℕ × ℕ). (is_plain e.0 ≡ true) × (get (names_of (slots g image d)) e.0 ≡ Some e.1)) (IsForNode g image)
    (λ e h. (h.0, found_in_use g image d e.0 e.1 entries directory h.1)) (names_of (slots g image d))
    (each_both (λ (e : List ℕ × ℕ). is_plain e.0 ≡ true) (λ (e : List ℕ × ℕ). get (names_of (slots g image d)) e.0 ≡ Some e.1)
    (names_of (slots g image d)) (names_plain g image d entries directory) (directory_found g image d))

-- an entry isn't left out because of its name or of its i-node
abbrev IsFit : Role → Type 0
IsFit role = (role ≢ roles.Left reasons.BadName) × (role ≢ roles.Left reasons.NoNode) × (role ≢ roles.Left reasons.OddNode)

-- the role of an entry with a plain name and an i-number in use satisfies `IsFit`
fits_role : (g : Geometry) (image : List ℕ) (start : ℕ) (first : Option ℕ) (entry : Pending) → HasKinds g image → IsForNode g image entry
    → IsFit (role_of g image start first entry)
fits_role g image start first entry known node =
    let low : 1 ≤ entry.inode = let root = root_first g.edition in let least = node.1.first in omega arith in
    let number : is_number g entry.inode ≡ true = let last = node.1.last in grind (arith, nat_tests) in
    subst IsFit (sym (ap (λ b. cond b (cond (is_number g entry.inode) (node_role start first entry (kind_at g image entry.inode)) (roles.Left reasons.NoNode)) (roles.Left reasons.BadName)) node.0
    ∙ ap (λ b. cond b (node_role start first entry (kind_at g image entry.inode)) (roles.Left reasons.NoNode)) number))
    (kinded (kind_at g image entry.inode) node.1.allocated (known.known entry.inode low node.1.last))
  where
    after : (role : Role) → IsFit role → (first : Option ℕ) → IsFit (role_after role first)
    after role h None = h
    after role h (Some k) = (λ e. cc, λ e. cc, λ e. cc)

    filed : (role : Role) → IsFit role → IsFit (file_role role first entry.path)
    filed role h = elim (has_room entry.path) as (λ b. IsFit (cond b (role_after role first) (roles.Left reasons.LongPath))) [
      | true ↦ after role h first
      | false ↦ (λ e. cc, λ e. cc, λ e. cc)
    ]

    either : (a b : Bool) → IsFit (cond a (roles.Left reasons.Again) (cond b roles.Directory (roles.Left reasons.LongPath)))
    either true b = (λ e. cc, λ e. cc, λ e. cc)
    either false true = (λ e. cc, λ e. cc, λ e. cc)
    either false false = (λ e. cc, λ e. cc, λ e. cc)

    kinded : (kind : Kind) → kind ≢ kinds.Free → kind ≢ kinds.Odd → IsFit (node_role start first entry kind)
    kinded kinds.Free free odd = absurd (free refl)
    kinded kinds.Odd free odd = absurd (odd refl)
    kinded kinds.Regular free odd = filed roles.File (λ e. cc, λ e. cc, λ e. cc)
    kinded kinds.Special free odd = filed roles.Special (λ e. cc, λ e. cc, λ e. cc)
    kinded kinds.Directory free odd = either _ _

-- if all pending entries have a plain name and an i-number in use, the roles of all entries visited later satisfy `IsFit`
rest_fits : {g : Geometry} {image : List ℕ} {start : ℕ} {founds : List MetEntry} {pending : List Pending} {all : List MetEntry}
    → HasKinds g image → HasEntries g image → (walks : Walks g image start founds pending all) → Each (IsForNode g image) pending
    → Each (λ (found : MetEntry). IsFit found.role) (rest_of walks)
unfolding rest_of
rest_fits known entries (Walks.ends founds) h = tt
rest_fits {g = g} {image = image} {start = start} known entries (Walks.meets founds entry rest all walks) h =
    let first = first_met entry.inode founds in
    let found = met g image start founds entry in (
      fits_role g image start first entry known h.0,
      rest_fits known entries walks (each_append (IsForNode g image) (below g image found found.role) rest
          (each_inside (IsForNode g image) g image found found.role
          (λ is. entries_have g image entry.path entry.inode entries (met_directory g image start first entry is))) h.1),
    )

-- no visited entry is left out because of its name or of its i-node
pub entries_have_nodes : EntriesHaveNodes
entries_have_nodes g image start founds known entries directory walks =
    each_all (λ (found : MetEntry). IsFit found.role) founds
    (subst (Each (λ (found : MetEntry). IsFit found.role)) (walk_is walks)
    (rest_fits known entries walks (entries_have g image [] start entries directory)))
