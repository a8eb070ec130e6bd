-- All names of the directories that a walk enters are visited.
use Rattle.std.proofs.Common.{◌≡◌, ℕ, inl, inr, true, false, cond, List, [], ◌∷◌, ◌++◌, Some, refl, ap, sym, subst, ◌∙◌}
use Rattle.std.specs.Cmp.Lexicographic.{slice_cmp}
use Rattle.std.specs.Ordering.{nat_cmp, eq_by_cmp}
use Rattle.std.specs.Option.{is_some}
use Rattle.std.proofs.lemmas.Bool.{true≢false}
use Rattle.std.proofs.lemmas.Map.Text.{is_eq-slice_cmp}
use Rattle.vol_layout.specs.declared.geometry.Geometry.{Geometry}
use Rattle.vol_file.proofs.PlaceLists.{same_bytes}
use Rattle.vol_dir.specs.Entries.{slots}
use Rattle.vol_dir.specs.Names.{Names, get, names_of, is_dots}
use Rattle.vol_dir.specs.Walk.{is_plain}
use Rattle.vol_archive.specs.Laws.{HasMet, HasMetAllOf, DirectoriesAreWhole}
use Rattle.vol_archive.specs.Walk.{Walks, path_below, entry_below, pending_below, met, below, entries_below}
use Rattle.vol_archive.specs.declared.met_entries.MetEntry.{MetEntry}
use Rattle.vol_archive.specs.declared.met_entries.Role.TheVariants as roles
use Rattle.vol_archive.specs.declared.pending.Pending.{Pending}
use Rattle.vol_archive.proofs.Each.{Each, Has, each_map, each_all, each_front, each_back, has_map, has_behind, has_any, has_each}
use Rattle.vol_archive.proofs.TreeMembers.{rest_of, walk_is}

-- an entry is visited
abbrev IsMetAmong : List MetEntry → Pending → Type 0
IsMetAmong founds entry = Has (λ (found : MetEntry). (found.path ≡ entry.path) × (found.inode ≡ entry.inode)) founds

-- an entry that was visited is still visited if more entries come before
meets_more : (first : MetEntry) (founds : List MetEntry) (entries : List Pending) → Each (IsMetAmong founds) entries → Each (IsMetAmong (first ∷ founds)) entries
meets_more first founds entries h = each_map (IsMetAmong founds) (IsMetAmong (first ∷ founds)) (λ entry m. inr m) entries h

-- all pending entries are visited
pending_met : {g : Geometry} {image : List ℕ} {start : ℕ} {founds : List MetEntry} {pending : List Pending} {all : List MetEntry}
    → (walks : Walks g image start founds pending all) → Each (IsMetAmong (rest_of walks)) pending
unfolding rest_of
pending_met (Walks.ends founds) = tt
pending_met {g = g} {image = image} {start = start} (Walks.meets founds entry rest all walks) =
    let found = met g image start founds entry in (
      inl (refl, refl),
      meets_more found (rest_of walks) rest
          (each_back (IsMetAmong (rest_of walks)) (below g image found found.role) rest (pending_met walks)),
    )

-- all entries of a directory are visited
abbrev IsWholeIn : Geometry → List ℕ → List MetEntry → MetEntry → Type 0
IsWholeIn g image founds found = found.role ≡ roles.Directory → Each (IsMetAmong founds) (entries_below g image found.path found.inode)

-- all entries of each visited directory are visited
whole_met : {g : Geometry} {image : List ℕ} {start : ℕ} {founds : List MetEntry} {pending : List Pending} {all : List MetEntry}
    → (walks : Walks g image start founds pending all) → Each (IsWholeIn g image (rest_of walks)) (rest_of walks)
unfolding rest_of
whole_met (Walks.ends founds) = tt
whole_met {g = g} {image = image} {start = start} (Walks.meets founds entry rest all walks) =
    let found = met g image start founds entry in (
      λ is. meets_more found (rest_of walks) (entries_below g image found.path found.inode)
          (subst (λ role. Each (IsMetAmong (rest_of walks)) (below g image found role)) is
          (each_front (IsMetAmong (rest_of walks)) (below g image found found.role) rest (pending_met walks))),
      each_map (IsWholeIn g image (rest_of walks)) (IsWholeIn g image (found ∷ rest_of walks))
          (λ other whole is. meets_more found (rest_of walks) (entries_below g image other.path other.inode) (whole is)) (rest_of walks) (whole_met walks),
    )

-- an entry has this path and this i-number
abbrev IsAt : List ℕ → ℕ → Pending → Type 0
IsAt path i entry = (entry.path ≡ path) × (entry.inode ≡ i)

-- a name of a map, other than `.` and `..`, has an entry
has_entry : (path : List ℕ) (es : Names) (name : List ℕ) (i : ℕ) → get es name ≡ Some i → is_dots name ≡ false
    → Has (IsAt (path_below path name) i) (pending_below path es)
unfolding pending_below
has_entry path [] name i found dots = absurd (true≢false (sym (ap is_some found)))
has_entry path (e ∷ es) name i found dots =
    elim (eq_by_cmp (slice_cmp nat_cmp) name e.0) as (λ b. eq_by_cmp (slice_cmp nat_cmp) name e.0 ≡ b → cond b (Some e.1) (get es name) ≡ Some i
    → Has (IsAt (path_below path name) i) (entry_below path e ++ pending_below path es)) [
      | true ↦ λ same here.
          let is : name ≡ e.0 = same_bytes name e.0 (sym (is_eq-slice_cmp name e.0) ∙ same) in
          let number : e.1 ≡ i = cc in
          subst (λ b. Has (IsAt (path_below path name) i) (cond b [] (record { path = path_below path e.0; inode = e.1; is_plain = is_plain e.0 } ∷ []) ++ pending_below path es))
          (sym dots ∙ ap is_dots is) (inl (ap (path_below path) (sym is), number))
      | false ↦ λ other later. has_behind (IsAt (path_below path name) i) (entry_below path e) (pending_below path es) (has_entry path es name i later dots)
    ] refl found

-- if all entries of a directory are visited, all its names are
names_met : (g : Geometry) (image : List ℕ) (founds : List MetEntry) (path : List ℕ) (d : ℕ) → Each (IsMetAmong founds) (entries_below g image path d)
    → HasMetAllOf g image founds path d
names_met g image founds path d h name i found dots =
    has_each (IsAt (path_below path name) i) (IsMetAmong founds) (HasMet founds (path_below path name) i)
    (λ entry at meets. has_any (λ (f : MetEntry). (f.path ≡ path_below path name) × (f.inode ≡ i)) founds
    (has_map (λ (f : MetEntry). (f.path ≡ entry.path) × (f.inode ≡ entry.inode)) (λ (f : MetEntry). (f.path ≡ path_below path name) × (f.inode ≡ i))
    (λ f same. (same.0 ∙ at.0, same.1 ∙ at.1)) founds meets))
    (entries_below g image path d) (has_entry path (names_of (slots g image d)) name i found dots) h

-- all names of each directory that the walk enters are visited
pub directories_whole : DirectoriesAreWhole
directories_whole g image start founds walks = (
  names_met g image founds [] start (subst (λ all. Each (IsMetAmong all) (entries_below g image [] start)) (walk_is walks) (pending_met walks)),
  each_all (λ (found : MetEntry). found.role ≡ roles.Directory → HasMetAllOf g image founds found.path found.inode) founds
      (each_map (IsWholeIn g image founds) (λ (found : MetEntry). found.role ≡ roles.Directory → HasMetAllOf g image founds found.path found.inode)
      (λ found whole is. names_met g image founds found.path found.inode (whole is)) founds
      (subst (λ all. Each (IsWholeIn g image all) all) (walk_is walks) (whole_met walks))),
)
