-- The nodes to which the paths of members lead.
use Rattle.std.proofs.Common.{◌≡◌, ℕ, Bool, true, false, cond, List, [], ◌∷◌, ◌++◌, None, Some, Ok, refl, ap, sym, subst, ◌∙◌, arith}
use Rattle.std.specs.Prelude.{Option}
use Rattle.std.specs.Option.{ok_or}
use Rattle.std.proofs.lemmas.Bool.{true≢false}
use Rattle.std.proofs.lemmas.Bool.Decides.{nat_tests}
use Rattle.std.proofs.lemmas.List.{append_assoc, append-nil}
use Rattle.vol_layout.specs.declared.geometry.Geometry.{Geometry}
use Rattle.vol_layout.specs.declared.mode.Kind.{Kind}
use Rattle.vol_layout.specs.declared.mode.Kind.TheVariants as kinds
use Rattle.vol_file.specs.Rules.{kind_at}
use Rattle.vol_dir.specs.Entries.{slots, IsDirectory}
use Rattle.vol_dir.specs.Names.{get, names_of}
use Rattle.vol_dir.specs.Tree.{tree, is_number}
use Rattle.pdp_words.specs.Steps.{and_then}
use Rattle.vol_dir.specs.Walk.{components, walk_from}
use Rattle.vol_dir.proofs.Components.{components-nil}
use Rattle.vol_dir.proofs.PathJoins.{walk_from-append}
use Rattle.vol_dir.proofs.WalkLaws.{search-directory}
use Rattle.vol_dir.specs.declared.refusal.Refusal.TheVariants as refusals
use Rattle.vol_dir.specs.Access.{user}
use Rattle.vol_archive.specs.Laws.{is_kept, MembersAreOfTree}
use Rattle.vol_archive.specs.Walk.{Walks, IsWalk, met, below, entries_below, role_of, node_role, file_role, role_after, has_room, first_met}
use Rattle.vol_archive.specs.declared.met_entries.MetEntry.{MetEntry}
use Rattle.vol_archive.specs.declared.met_entries.Role.{Role}
use Rattle.vol_archive.specs.declared.met_entries.Role.TheVariants as roles
use Rattle.vol_archive.specs.declared.met_entries.Reason.TheVariants as reasons
use Rattle.vol_archive.specs.declared.pending.Pending.{Pending}
use Rattle.vol_archive.proofs.Each.{Each, each_map, each_append, all_kept}
use Rattle.vol_archive.proofs.EntryLists.{IsNamed, entries_named}

-- a member has a plain name
pub member_plain : (g : Geometry) (image : List ℕ) (start : ℕ) (first : Option ℕ) (entry : Pending)
    → is_kept (role_of g image start first entry) ≡ true → entry.is_plain ≡ true
member_plain g image start first entry kept =
    elim entry.is_plain as (λ b. is_kept (cond b (cond (is_number g entry.inode) (node_role start first entry (kind_at g image entry.inode)) (roles.Left reasons.NoNode)) (roles.Left reasons.BadName)) ≡ true → b ≡ true) [
      | true ↦ λ e. refl
      | false ↦ λ e. absurd (true≢false (sym e))
    ] kept

-- the entries that the rest of a walk visits
unfoldable pub rest_of : {g : Geometry} {image : List ℕ} {start : ℕ} {founds : List MetEntry} {pending : List Pending} {all : List MetEntry}
    → Walks g image start founds pending all → List MetEntry
rest_of (Walks.ends founds) = []
rest_of {g = g} {image = image} {start = start} (Walks.meets founds entry rest all walks) = met g image start founds entry ∷ rest_of walks

-- the entries that the rest of a walk visits come after those visited before
pub rest_is : {g : Geometry} {image : List ℕ} {start : ℕ} {founds : List MetEntry} {pending : List Pending} {all : List MetEntry}
    → (walks : Walks g image start founds pending all) → all ≡ founds ++ rest_of walks
unfolding rest_of
rest_is (Walks.ends founds) = sym (append-nil founds)
rest_is {g = g} {image = image} {start = start} (Walks.meets founds entry rest all walks) =
    rest_is walks ∙ append_assoc founds (met g image start founds entry ∷ []) (rest_of walks)

-- an entry with the role of a directory is a directory
pub met_directory : (g : Geometry) (image : List ℕ) (start : ℕ) (first : Option ℕ) (entry : Pending)
    → role_of g image start first entry ≡ roles.Directory → IsDirectory g image entry.inode
met_directory g image start first entry is =
    let plain : entry.is_plain ≡ true = member_plain g image start first entry (ap is_kept is) in
    numbered (is_number g entry.inode) refl (sym (ap (λ b. cond b (cond (is_number g entry.inode) (node_role start first entry (kind_at g image entry.inode)) (roles.Left reasons.NoNode)) (roles.Left reasons.BadName)) plain) ∙ is)
  where
    none : {A : Type 0} → (role : Role) → is_kept role ≡ false → role ≡ roles.Directory → A
    none role e is = absurd (true≢false (sym (ap is_kept is) ∙ e))

    file_other : (role : Role) → (role ≡ roles.Directory → ⊥) → (first : Option ℕ) → file_role role first entry.path ≡ roles.Directory → ⊥
    file_other role other first e =
        elim (has_room entry.path) as (λ b. cond b (role_after role first) (roles.Left reasons.LongPath) ≡ roles.Directory → ⊥) [
          | true ↦ after first
          | false ↦ λ e. true≢false (sym (ap is_kept e))
        ] e
      where
        after : (first : Option ℕ) → role_after role first ≡ roles.Directory → ⊥
        after None e = other e
        after (Some k) e = cc

    kinded : (kind : Kind) → node_role start first entry kind ≡ roles.Directory → kind ≡ kinds.Directory
    kinded kinds.Directory e = refl
    kinded kinds.Free e = cc
    kinded kinds.Odd e = cc
    kinded kinds.Regular e = absurd (file_other roles.File (λ e. cc) first e)
    kinded kinds.Special e = absurd (file_other roles.Special (λ e. cc) first e)

    numbered : (b : Bool) → is_number g entry.inode ≡ b → cond (is_number g entry.inode) (node_role start first entry (kind_at g image entry.inode)) (roles.Left reasons.NoNode) ≡ roles.Directory
        → IsDirectory g image entry.inode
    numbered true number is = record {
      first = grind (arith, nat_tests);
      last = grind (arith, nat_tests);
      kind = kinded (kind_at g image entry.inode) (sym (ap (λ b. cond b (node_role start first entry (kind_at g image entry.inode)) (roles.Left reasons.NoNode)) number) ∙ is);
    }
    numbered false number is =
        cc' (sym (ap (λ b. cond b (node_role start first entry (kind_at g image entry.inode)) (roles.Left reasons.NoNode)) number) ∙ is)
      where
        cc' : roles.Left reasons.NoNode ≡ roles.Directory → IsDirectory g image entry.inode
        cc' e = cc

-- names lead from a directory to an i-number, as user 0 walks them
abbrev pub WalksTo : Geometry → List ℕ → ℕ → List (List ℕ) → ℕ → Type 0
WalksTo g image start names i = walk_from (tree g image) user start names ≡ Ok i

-- a name of a directory leads on to its i-number
pub leads_on : (g : Geometry) (image : List ℕ) (start d i : ℕ) (names : List (List ℕ)) (name : List ℕ) → IsDirectory g image d
    → WalksTo g image start names d → get (names_of (slots g image d)) name ≡ Some i → WalksTo g image start (names ++ name ∷ []) i
leads_on g image start d i names name directory leads found =
    walk_from-append (tree g image) user start names (name ∷ [])
    ∙ (ap (λ r. and_then r (λ j. walk_from (tree g image) user j (name ∷ []))) leads
    ∙ (ap (λ s. and_then (and_then s (λ ns. ok_or (get ns name) refusals.NoEntry)) (λ next. walk_from (tree g image) user next [])) (search-directory g image user d true directory refl)
    ∙ ap (λ o. and_then (ok_or o refusals.NoEntry) (λ next. walk_from (tree g image) user next [])) found))

-- the path of a pending entry with a plain name leads to its i-number
abbrev pub PendingWalksTo : Geometry → List ℕ → ℕ → Pending → Type 0
PendingWalksTo g image start entry = entry.is_plain ≡ true → WalksTo g image start (components entry.path) entry.inode

-- if a path leads to a directory, the paths of its entries lead to the entries' i-numbers
pub entries_lead : (g : Geometry) (image : List ℕ) (start d : ℕ) (path : List ℕ) → IsDirectory g image d
    → WalksTo g image start (components path) d → Each (PendingWalksTo g image start) (entries_below g image path d)
entries_lead g image start d path directory leads =
    each_map (λ (entry : Pending). entry.is_plain ≡ true → IsNamed (names_of (slots g image d)) path entry) (PendingWalksTo g image start)
    (λ entry named plain. ap (λ names. walk_from (tree g image) user start names) (named plain).parts
    ∙ leads_on g image start d entry.inode (components path) (named plain).name directory leads (named plain).found)
    (entries_below g image path d) (entries_named g image path d)

-- the path of each entry below a visited entry leads to the entry's i-number
below_lead : (g : Geometry) (image : List ℕ) (start : ℕ) (found : MetEntry) (role : Role)
    → (role ≡ roles.Directory → IsDirectory g image found.inode × WalksTo g image start (components found.path) found.inode)
    → Each (PendingWalksTo g image start) (below g image found role)
below_lead g image start found roles.Directory h = let d = h refl in entries_lead g image start found.inode found.path d.0 d.1
below_lead g image start found roles.File h = tt
below_lead g image start found roles.Special h = tt
below_lead g image start found (roles.Link k) h = tt
below_lead g image start found (roles.Left reason) h = tt

-- if the path of each pending entry leads to its i-number, so does the path of each member visited later
rest_leads : {g : Geometry} {image : List ℕ} {start : ℕ} {founds : List MetEntry} {pending : List Pending} {all : List MetEntry}
    → (walks : Walks g image start founds pending all) → Each (PendingWalksTo g image start) pending
    → Each (λ (found : MetEntry). is_kept found.role ≡ true → WalksTo g image start (components found.path) found.inode) (rest_of walks)
unfolding rest_of
rest_leads (Walks.ends founds) h = tt
rest_leads {g = g} {image = image} {start = start} (Walks.meets founds entry rest all walks) h =
    let first = first_met entry.inode founds in
    let here : is_kept (role_of g image start first entry) ≡ true → WalksTo g image start (components entry.path) entry.inode =
    λ kept. h.0 (member_plain g image start first entry kept) in
    let found = met g image start founds entry in (
      here,
      rest_leads walks (each_append (PendingWalksTo g image start) (below g image found found.role) rest
          (below_lead g image start found found.role (λ is. (met_directory g image start first entry is, here (ap is_kept is)))) h.1),
    )

-- the rest of a walk from its beginning is the whole walk
pub walk_is : {g : Geometry} {image : List ℕ} {start : ℕ} {all : List MetEntry} → (walks : IsWalk g image start all) → rest_of walks ≡ all
walk_is walks = sym (rest_is walks)

-- the path of each member leads to its i-number
pub members_lead : MembersAreOfTree
members_lead g image start founds directory walks =
    all_kept (λ (found : MetEntry). is_kept found.role) (λ (found : MetEntry). walk_from (tree g image) user start (components found.path) ≡ Ok found.inode) founds
    (subst (Each (λ (found : MetEntry). is_kept found.role ≡ true → WalksTo g image start (components found.path) found.inode)) (walk_is walks)
    (rest_leads walks (entries_lead g image start start [] directory (ap (λ names. walk_from (tree g image) user start names) components-nil))))
