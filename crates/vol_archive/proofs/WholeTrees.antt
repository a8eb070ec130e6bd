-- The members are exactly the tree below the directory where a walk begins.
use Rattle.std.proofs.Common.{◌≡◌, ◌≢◌, ℕ, Bool, true, false, cond, List, [], ◌∷◌, ◌++◌, None, Some, Ok, Err, refl, ap, sym, subst, ◌∙◌, arith}
use Rattle.std.specs.Prelude.{Option}
use Rattle.std.specs.Cmp.Lexicographic.{slice_cmp}
use Rattle.std.specs.Option.{ok_or}
use Rattle.std.specs.Ordering.{nat_cmp, eq_by_cmp}
use Rattle.std.proofs.lemmas.Bool.Decides.{nat_tests}
use Rattle.std.proofs.lemmas.List.{append_assoc}
use Rattle.std.proofs.lemmas.Map.Text.{is_eq-slice_cmp}
use Rattle.vol_layout.specs.declared.geometry.Geometry.{Geometry}
use Rattle.vol_layout.specs.declared.mode.Kind.{Kind}
use Rattle.vol_layout.specs.declared.mode.Kind.TheVariants as kinds
use Rattle.vol_file.specs.Rules.{kind_at}
use Rattle.vol_file.proofs.PlaceLists.{same_bytes}
use Rattle.vol_dir.specs.Entries.{slots, IsDirectory, HasEntries}
use Rattle.vol_dir.specs.Names.{Names, get, names_of, is_dots}
use Rattle.vol_dir.specs.Tree.{tree, is_number}
use Rattle.pdp_words.specs.Steps.{and_then}
use Rattle.vol_dir.specs.Walk.{search, components, walk_from, is_plain}
use Rattle.vol_dir.proofs.WalkLaws.{search-outside, search-directory, search-other}
use Rattle.vol_dir.specs.declared.refusal.Refusal.TheVariants as refusals
use Rattle.vol_dir.specs.Access.{user}
use Rattle.vol_archive.specs.Laws.{is_kept, members_of, HasMetAllOf, MembersAreTheTree}
use Rattle.vol_archive.specs.Walk.{Walks, path_below, first_met}
use Rattle.vol_archive.specs.declared.met_entries.MetEntry.{MetEntry}
use Rattle.vol_archive.specs.declared.met_entries.Role.{Role}
use Rattle.vol_archive.specs.declared.met_entries.Role.TheVariants as roles
use Rattle.vol_archive.specs.declared.met_entries.Reason.{Reason}
use Rattle.vol_archive.specs.declared.met_entries.Reason.TheVariants as reasons
use Rattle.vol_archive.specs.declared.pending.Pending.{Pending}
use Rattle.vol_archive.proofs.Each.{Each, Has, each_map, each_both, each_of_all, has_map, has_any, any_has, has_both, has_each, has_kept}
use Rattle.vol_archive.proofs.EntryLists.{IsShort, directory_short, component_below}
use Rattle.vol_archive.proofs.MetOnce.{met_once}
use Rattle.vol_archive.proofs.NamedEntries.{names_plain, entries_have_nodes}
use Rattle.vol_dir.proofs.Components.{components-nil}
use Rattle.vol_archive.proofs.Roles.{directory_kept}
use Rattle.vol_archive.proofs.TreeMembers.{WalksTo, rest_of, walk_is, members_lead}
use Rattle.vol_archive.proofs.WholeDirectories.{directories_whole}

-- a property of all names of a map is one of each name found in it
each_got : (P : List ℕ → Type 0) (es : Names) (name : List ℕ) (i : ℕ) → get es name ≡ Some i → Each (λ (e : List ℕ × ℕ). P e.0) es → P name
each_got P [] name i found h = cc
each_got P (e ∷ es) name i found h =
    elim (eq_by_cmp (slice_cmp nat_cmp) name e.0) as (λ b. eq_by_cmp (slice_cmp nat_cmp) name e.0 ≡ b → cond b (Some e.1) (get es name) ≡ Some i → P name) [
      | true ↦ λ same here.
          let is : name ≡ e.0 = same_bytes name e.0 (sym (is_eq-slice_cmp name e.0) ∙ same) in
          subst P (sym is) h.0
      | false ↦ λ other later. each_got P es name i later h.1
    ] refl found

-- a member that is a directory has the role of a directory
abbrev IsMetAsItIs : Geometry → List ℕ → MetEntry → Type 0
IsMetAsItIs g image found = is_kept found.role ≡ true → IsDirectory g image found.inode → found.role ≡ roles.Directory

-- each visited member that is a directory has the role of a directory
rest_as_is : {g : Geometry} {image : List ℕ} {start : ℕ} {founds : List MetEntry} {pending : List Pending} {all : List MetEntry}
    → (walks : Walks g image start founds pending all) → Each (IsMetAsItIs g image) (rest_of walks)
unfolding rest_of
rest_as_is (Walks.ends founds) = tt
rest_as_is {g = g} {image = image} {start = start} (Walks.meets founds entry rest all walks) = (
  λ kept directory. directory_kept g image start (first_met entry.inode founds) entry kept directory,
  rest_as_is walks,
)

-- an entry that no reason leaves out is a member
left_for_none : (role : Role) → ((reason : Reason) → role ≢ roles.Left reason) → is_kept role ≡ true
left_for_none roles.File h = refl
left_for_none roles.Directory h = refl
left_for_none roles.Special h = refl
left_for_none (roles.Link k) h = refl
left_for_none (roles.Left reason) h = absurd (h reason refl)

-- a walk of several names begins with a step to the first name
first_step : (g : Geometry) (image : List ℕ) (d i : ℕ) (name : List ℕ) (names : List (List ℕ)) → IsDirectory g image d
    → WalksTo g image d (name ∷ names) i → (j : ℕ) × (get (names_of (slots g image d)) name ≡ Some j) × WalksTo g image j names i
first_step g image d i name names directory leads =
    step (get (names_of (slots g image d)) name) refl
    (sym (ap (λ s. and_then (and_then s (λ ns. ok_or (get ns name) refusals.NoEntry)) (λ next. walk_from (tree g image) user next names))
    (search-directory g image user d true directory refl)) ∙ leads)
  where
    step : (found : Option ℕ) → get (names_of (slots g image d)) name ≡ found
        → and_then (ok_or found refusals.NoEntry) (λ next. walk_from (tree g image) user next names) ≡ Ok i
        → (j : ℕ) × (get (names_of (slots g image d)) name ≡ Some j) × WalksTo g image j names i
    step None is e = cc
    step (Some j) is e = (j, is, e)

-- a walk of at least one name begins at a directory
walked_directory : (g : Geometry) (image : List ℕ) (d i : ℕ) (name : List ℕ) (names : List (List ℕ)) → WalksTo g image d (name ∷ names) i → IsDirectory g image d
walked_directory g image d i name names leads = numbered (is_number g d) refl
  where
    nowhere : {A : Type 0} → search (tree g image) user d ≡ Err refusals.NotDirectory → A
    nowhere none =
        absurd (never (sym (ap (λ s. and_then (and_then s (λ ns. ok_or (get ns name) refusals.NoEntry)) (λ next. walk_from (tree g image) user next names)) none) ∙ leads))
      where
        never : Err refusals.NotDirectory ≡ Ok i → ⊥
        never e = cc

    kinded : (kind : Kind) → kind_at g image d ≡ kind → is_number g d ≡ true → kind_at g image d ≡ kinds.Directory
    kinded kinds.Directory is number = is
    kinded kinds.Free is number = nowhere (search-other g image user d (grind (arith, nat_tests)) (grind (arith, nat_tests)) (λ e. cc))
    kinded kinds.Regular is number = nowhere (search-other g image user d (grind (arith, nat_tests)) (grind (arith, nat_tests)) (λ e. cc))
    kinded kinds.Special is number = nowhere (search-other g image user d (grind (arith, nat_tests)) (grind (arith, nat_tests)) (λ e. cc))
    kinded kinds.Odd is number = nowhere (search-other g image user d (grind (arith, nat_tests)) (grind (arith, nat_tests)) (λ e. cc))

    numbered : (b : Bool) → is_number g d ≡ b → IsDirectory g image d
    numbered true number = record { first = grind (arith, nat_tests); last = grind (arith, nat_tests); kind = kinded (kind_at g image d) refl number }
    numbered false number = nowhere (search-outside g image user d number)

-- the facts about each visited entry: it is a member, and all its names are visited if it is a directory
abbrev IsKnown : Geometry → List ℕ → List MetEntry → MetEntry → Type 0
IsKnown g image founds found =
    (is_kept found.role ≡ true) × IsMetAsItIs g image found × (found.role ≡ roles.Directory → HasMetAllOf g image founds found.path found.inode)

-- a member is at the path of these names and for this i-number
abbrev IsMemberFor : List (List ℕ) → ℕ → MetEntry → Type 0
IsMemberFor names i found = (is_kept found.role ≡ true) × (components found.path ≡ names) × (found.inode ≡ i)

-- if all names of a directory are visited, and names lead from it to `i`, the first name is a member and the others lead on from there
first_met_of : (g : Geometry) (image : List ℕ) (founds : List MetEntry) → HasEntries g image → Each (IsKnown g image founds) founds
    → (names : List (List ℕ)) (name path : List ℕ) (d i : ℕ) → IsDirectory g image d → HasMetAllOf g image founds path d → is_dots name ≡ false
    → WalksTo g image d (name ∷ names) i
    → Has (λ (f : MetEntry). (components f.path ≡ components path ++ name ∷ []) × WalksTo g image f.inode names i × IsKnown g image founds f) founds
first_met_of g image founds entries known names name path d i directory whole proper leads =
    let step = first_step g image d i name names directory leads in
    let plain : is_plain name ≡ true =
    each_got (λ n. is_plain n ≡ true) (names_of (slots g image d)) name step.0 step.1 (names_plain g image d entries directory) in
    let short : IsShort name = each_got IsShort (names_of (slots g image d)) name step.0 step.1 (directory_short g image d) in
    has_map (λ (f : MetEntry). ((f.path ≡ path_below path name) × (f.inode ≡ step.0)) × IsKnown g image founds f)
    (λ (f : MetEntry). (components f.path ≡ components path ++ name ∷ []) × WalksTo g image f.inode names i × IsKnown g image founds f)
    (λ f h. (ap components h.0.0 ∙ component_below path name plain short, subst (λ k. WalksTo g image k names i) (sym h.0.1) step.2, h.1)) founds
    (has_both (λ (f : MetEntry). (f.path ≡ path_below path name) × (f.inode ≡ step.0)) (IsKnown g image founds) founds
    (any_has (λ (f : MetEntry). (f.path ≡ path_below path name) × (f.inode ≡ step.0)) founds (whole name step.0 step.1 proper)) known)

-- names that lead from a directory, all of whose names are visited, are the names of a member's path
leads_to_member : (g : Geometry) (image : List ℕ) (founds : List MetEntry) → HasEntries g image → Each (IsKnown g image founds) founds
    → (names : List (List ℕ)) (name path : List ℕ) (d i : ℕ) → IsDirectory g image d → HasMetAllOf g image founds path d
    → Each (λ n. is_dots n ≡ false) (name ∷ names) → WalksTo g image d (name ∷ names) i
    → Has (IsMemberFor (components path ++ name ∷ names) i) founds
leads_to_member g image founds entries known [] name path d i directory whole proper leads =
    has_map (λ (f : MetEntry). (components f.path ≡ components path ++ name ∷ []) × WalksTo g image f.inode [] i × IsKnown g image founds f)
    (IsMemberFor (components path ++ name ∷ []) i) (λ f h. (h.2.0, h.0, arrived f.inode h.1)) founds
    (first_met_of g image founds entries known [] name path d i directory whole proper.0 leads)
  where
    arrived : (j : ℕ) → WalksTo g image j [] i → j ≡ i
    arrived j e = cc
leads_to_member g image founds entries known (next ∷ more) name path d i directory whole proper leads =
    has_each (λ (f : MetEntry). (components f.path ≡ components path ++ name ∷ []) × WalksTo g image f.inode (next ∷ more) i × IsKnown g image founds f)
    (IsKnown g image founds) (Has (IsMemberFor (components path ++ name ∷ next ∷ more) i) founds)
    (λ f h _.
    let inner : IsDirectory g image f.inode = walked_directory g image f.inode i next more h.1 in
    has_map (IsMemberFor (components f.path ++ next ∷ more) i) (IsMemberFor (components path ++ name ∷ next ∷ more) i)
    (λ m k. (k.0, k.1 ∙ (ap (λ cs. cs ++ next ∷ more) h.0 ∙ append_assoc (components path) (name ∷ []) (next ∷ more)), k.2)) founds
    (leads_to_member g image founds entries known more next f.path f.inode i inner (h.2.2 (h.2.1 h.2.0 inner)) proper.1 h.1))
    founds (first_met_of g image founds entries known (next ∷ more) name path d i directory whole proper.0 leads) known

-- the members are exactly the tree
pub members_are_tree : MembersAreTheTree
members_are_tree g image start founds kinds_known entries tree_is directory walks room names i proper = (
  λ leads. has_any (λ (f : MetEntry). (components f.path ≡ names) × (f.inode ≡ i)) (members_of founds)
      (has_kept (λ (f : MetEntry). is_kept f.role) (λ (f : MetEntry). (components f.path ≡ names) × (f.inode ≡ i)) founds (forth names proper.some (each_of_all (λ n. is_dots n ≡ false) names proper.proper) leads)),
  λ met. has_each (λ (f : MetEntry). (components f.path ≡ names) × (f.inode ≡ i)) (λ (f : MetEntry). walk_from (tree g image) user start (components f.path) ≡ Ok f.inode)
      (walk_from (tree g image) user start names ≡ Ok i)
      (λ f is leads. ap (λ ns. walk_from (tree g image) user start ns) (sym is.0) ∙ (leads ∙ ap Ok is.1))
      (members_of founds) (any_has (λ (f : MetEntry). (components f.path ≡ names) × (f.inode ≡ i)) (members_of founds) met)
      (each_of_all (λ (f : MetEntry). walk_from (tree g image) user start (components f.path) ≡ Ok f.inode) (members_of founds) (members_lead g image start founds directory walks)),
)
  where
    IsFit : MetEntry → Type 0
    IsFit f = (f.role ≢ roles.Left reasons.BadName) × (f.role ≢ roles.Left reasons.NoNode) × (f.role ≢ roles.Left reasons.OddNode)

    IsNew : MetEntry → Type 0
    IsNew f = f.role ≢ roles.Left reasons.Again

    IsRoomy : MetEntry → Type 0
    IsRoomy f = f.role ≢ roles.Left reasons.LongPath

    whole : (HasMetAllOf g image founds [] start) × Each (λ (f : MetEntry). f.role ≡ roles.Directory → HasMetAllOf g image founds f.path f.inode) founds
    whole =
        let laws = directories_whole g image start founds walks in
        (laws.0, each_of_all (λ (f : MetEntry). f.role ≡ roles.Directory → HasMetAllOf g image founds f.path f.inode) founds laws.1)

    reasoned : (f : MetEntry) → IsFit f → IsNew f → IsRoomy f → (reason : Reason) → f.role ≢ roles.Left reason
    reasoned f fit new roomy reasons.BadName = fit.0
    reasoned f fit new roomy reasons.NoNode = fit.1
    reasoned f fit new roomy reasons.Again = new
    reasoned f fit new roomy reasons.OddNode = fit.2
    reasoned f fit new roomy reasons.LongPath = roomy

    kept : Each (λ (f : MetEntry). is_kept f.role ≡ true) founds
    kept =
        each_map (λ (f : MetEntry). (IsFit f × IsNew f) × IsRoomy f) (λ (f : MetEntry). is_kept f.role ≡ true)
        (λ f h. left_for_none f.role (reasoned f h.0.0 h.0.1 h.1)) founds
        (each_both (λ (f : MetEntry). IsFit f × IsNew f) IsRoomy founds
        (each_both IsFit IsNew founds (each_of_all IsFit founds (entries_have_nodes g image start founds kinds_known entries directory walks))
        (each_of_all IsNew founds (met_once g image start founds tree_is directory walks)))
        (each_of_all IsRoomy founds room))

    known : Each (IsKnown g image founds) founds
    known =
        each_map (λ (f : MetEntry). ((is_kept f.role ≡ true) × IsMetAsItIs g image f) × (f.role ≡ roles.Directory → HasMetAllOf g image founds f.path f.inode)) (IsKnown g image founds)
        (λ f h. (h.0.0, h.0.1, h.1)) founds
        (each_both (λ (f : MetEntry). (is_kept f.role ≡ true) × IsMetAsItIs g image f) (λ (f : MetEntry). f.role ≡ roles.Directory → HasMetAllOf g image founds f.path f.inode) founds
        (each_both (λ (f : MetEntry). is_kept f.role ≡ true) (IsMetAsItIs g image) founds kept (subst (Each (IsMetAsItIs g image)) (walk_is walks) (rest_as_is walks))) whole.1)

    forth : (names : List (List ℕ)) → names ≢ [] → Each (λ n. is_dots n ≡ false) names → WalksTo g image start names i
        → Has (λ (f : MetEntry). (is_kept f.role ≡ true) × ((components f.path ≡ names) × (f.inode ≡ i))) founds
    forth [] some proper leads = absurd (some refl)
    forth (name ∷ more) some proper leads =
        has_map (IsMemberFor (components [] ++ name ∷ more) i) (λ (f : MetEntry). (is_kept f.role ≡ true) × ((components f.path ≡ name ∷ more) × (f.inode ≡ i)))
        (λ f h. (h.0, (h.1 ∙ ap (λ cs. cs ++ name ∷ more) components-nil, h.2))) founds
        (leads_to_member g image founds entries known more name [] start i directory whole.0 proper leads)
