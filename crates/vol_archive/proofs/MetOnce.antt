-- In a tree each directory is visited once.
use Rattle.std.proofs.Common.{◌≡◌, ◌≢◌, ℕ, suc, ◌+◌, ◌==◌, ◌&&◌, ◌⊎◌, inl, inr, Bool, true, false, cond, not, nat_lt, List, [], ◌∷◌, ◌++◌, length, None, Some, refl, ap, sym, subst, ◌∙◌, arith}
use Rattle.std.specs.Prelude.{Option}
use Rattle.std.specs.List.{position, position_or_len}
use Rattle.std.specs.Option.{is_some}
use Rattle.std.specs.Cmp.{tied_itself}
use Rattle.std.specs.declared.cmp.Ordering.TheVariants.{Less, Equal}
use Rattle.std.proofs.lemmas.Bool.{true≢false}
use Rattle.std.proofs.lemmas.Bool.Decides.{nat_tests}
use Rattle.std.proofs.lemmas.List.Quantifiers.{position-Some}
use Rattle.vol_layout.specs.declared.geometry.Geometry.{Geometry}
use Rattle.vol_dir.specs.Entries.{slots, IsDirectory, HasEntry}
use Rattle.vol_dir.specs.Names.{get, names_of}
use Rattle.vol_dir.specs.Walk.{components}
use Rattle.vol_judge.specs.Directories.{IsTree}
use Rattle.vol_archive.specs.Laws.{is_kept, DirectoriesAreMetOnce}
use Rattle.vol_archive.specs.Walk.{Walks, path_below, is_first, first_met, met, below, entries_below}
use Rattle.vol_archive.specs.declared.met_entries.MetEntry.{MetEntry}
use Rattle.vol_archive.specs.declared.met_entries.Role.{Role}
use Rattle.vol_archive.specs.declared.met_entries.Role.TheVariants as roles
use Rattle.vol_archive.specs.declared.met_entries.Reason.TheVariants as reasons
use Rattle.vol_archive.specs.declared.pending.Pending.{Pending}
use Rattle.vol_archive.proofs.Each.{Each, Pairs, Has, each_map, each_append, each_both, each_all, has_map, has_behind, has_front, has_either, has_at, has_each}
use Rattle.vol_archive.proofs.EntryLists.{directory_found, each_proper}
use Rattle.vol_archive.proofs.MemberOrder.{Precedes, IsAfter, entries_beside, each_inside, step_after, met_before, step_beside}
use Rattle.vol_archive.proofs.NameOrder.{order, order_total}
use Rattle.vol_archive.proofs.Rings.{IsNameOf, IsUnder, entry_of, one_name, no_ring}
use Rattle.vol_archive.proofs.Roles.{directory_new, again_why}
use Rattle.vol_archive.proofs.TreeMembers.{rest_of, walk_is, met_directory}

-- an entry is for i-number `i`, and links can refer to it
abbrev pub IsFirstFor : ℕ → MetEntry → Type 0
IsFirstFor i found = (found.inode ≡ i) × (is_first found.role ≡ true)

-- if a conjunction is true, both parts are
pub both_of : (a b : Bool) → (a && b) ≡ true → (a ≡ true) × (b ≡ true)
both_of true b e = (refl, e)
both_of false b e = absurd (true≢false (sym e))

-- if the first member for an i-number has a position, a member for it exists
pub first_there : (i : ℕ) (founds : List MetEntry) → is_some (first_met i founds) ≡ true → Has (IsFirstFor i) founds
unfolding first_met
first_there i founds e = placed (position test founds) refl e
  where
    test : MetEntry → Bool
    test found = (found.inode == i) && is_first found.role

    none : MetEntry
    none = record { path = []; inode = 0; role = roles.File }

    placed : (place : Option ℕ) → position test founds ≡ place → is_some place ≡ true → Has (IsFirstFor i) founds
    placed None is e = absurd (true≢false (sym e))
    placed (Some k) is e =
        let at = position-Some test founds k none is in
        has_map (λ (f : MetEntry). test f ≡ true) (IsFirstFor i)
        (λ f passes. let parts = both_of (f.inode == i) (is_first f.role) passes in (grind (arith, nat_tests), parts.1)) founds
        (has_at (λ (f : MetEntry). test f ≡ true) founds k none at.0 at.1)

-- if there is a member for an i-number, the first one has a position
there_first : (i : ℕ) (founds : List MetEntry) → Has (IsFirstFor i) founds → is_some (first_met i founds) ≡ true
unfolding first_met
there_first i founds h = is_within _ _ ∙ within founds h
  where
    test : MetEntry → Bool
    test found = (found.inode == i) && is_first found.role

    is_within : (b : Bool) (k : ℕ) → is_some (cond b (Some k) None) ≡ b
    is_within true k = refl
    is_within false k = refl

    itself : (n : ℕ) → (n == n) ≡ true
    itself n = grind (arith, nat_tests)

    at_once : (n : ℕ) → nat_lt 0 (suc n) ≡ true
    at_once n = grind (arith, nat_tests)

    one_later : (k n : ℕ) → nat_lt k n ≡ true → nat_lt (1 + k) (suc n) ≡ true
    one_later k n e = grind (arith, nat_tests)

    within : (fs : List MetEntry) → Has (IsFirstFor i) fs → nat_lt (position_or_len test fs) (length fs) ≡ true
    within [] h = absurd h
    within (f ∷ fs) (inl is) =
        let passes : test f ≡ true = ap (λ n. (n == i) && is_first f.role) is.0 ∙ (ap (λ b. b && is_first f.role) (itself i) ∙ is.1) in
        ap (λ b. nat_lt (cond (not b) (1 + position_or_len test fs) 0) (suc (length fs))) passes ∙ at_once (length fs)
    within (f ∷ fs) (inr h) =
        elim (test f) as (λ b. nat_lt (cond (not b) (1 + position_or_len test fs) 0) (suc (length fs)) ≡ true) [
          | true ↦ at_once (length fs)
          | false ↦ one_later (position_or_len test fs) (length fs) (within fs h)
        ]

-- a directory was visited at a path
abbrev IsMetAt : List MetEntry → ℕ → List ℕ → Type 0
IsMetAt founds d path = Has (λ (found : MetEntry). (found.inode ≡ d) × (found.path ≡ path) × (found.role ≡ roles.Directory)) founds

-- an i-number has a name in the directory where the walk began, or in a visited directory below it; `path` is the path of this name
record Comes (g : Geometry) (image : List ℕ) (start : ℕ) (founds : List MetEntry) (path : List ℕ) (i : ℕ) : Type 0 where
  parent : ℕ
  above : List ℕ
  name : List ℕ
  path_is : path ≡ path_below above name
  named : IsNameOf g image parent name i
  under : IsUnder g image start parent
  from : ((parent ≡ start) × (above ≡ [])) ⊎ IsMetAt founds parent above

-- an i-number that satisfies `Comes` still does after one more entry is visited
comes_more : (g : Geometry) (image : List ℕ) (start : ℕ) (founds : List MetEntry) (found : MetEntry) (path : List ℕ) (i : ℕ)
    → Comes g image start founds path i → Comes g image start (founds ++ found ∷ []) path i
comes_more g image start founds found path i c = record {
  parent = c.parent;
  above = c.above;
  name = c.name;
  path_is = c.path_is;
  named = c.named;
  under = c.under;
  from = elim c.from [
    | inl begun ↦ inl begun
    | inr met ↦ inr (has_front (λ (f : MetEntry). (f.inode ≡ c.parent) × (f.path ≡ c.above) × (f.role ≡ roles.Directory)) founds (found ∷ []) met)
  ];
}

-- the entries of the directory where the walk began, or of a visited directory below it, satisfy `Comes`
entries_come : (g : Geometry) (image : List ℕ) (start : ℕ) (founds : List MetEntry) (path : List ℕ) (d : ℕ) → IsDirectory g image d → IsUnder g image start d
    → ((d ≡ start) × (path ≡ [])) ⊎ IsMetAt founds d path
    → Each (λ (entry : Pending). Comes g image start founds entry.path entry.inode) (entries_below g image path d)
entries_come g image start founds path d directory under from =
    each_proper path (λ (e : List ℕ × ℕ). get (names_of (slots g image d)) e.0 ≡ Some e.1) (λ (entry : Pending). Comes g image start founds entry.path entry.inode)
    (λ e found proper. record {
      parent = d;
      above = path;
      name = e.0;
      path_is = refl;
      named = record { directory = directory; found = found; proper = proper };
      under = under;
      from = from;
    }) (names_of (slots g image d)) (directory_found g image d)

-- the facts before each step of a walk in a tree
record Goes (g : Geometry) (image : List ℕ) (start : ℕ) (founds : List MetEntry) (pending : List Pending) : Type 0 where
  ahead : Each (λ (entry : Pending). Comes g image start founds entry.path entry.inode) pending
  behind : Each (λ (found : MetEntry). Comes g image start founds found.path found.inode) founds
  once : (d : ℕ) (path other : List ℕ) → IsMetAt founds d path → IsMetAt founds d other → path ≡ other
  apart : (path : List ℕ) → IsMetAt founds start path → ⊥
  ordered : Each (λ (found : MetEntry). is_kept found.role ≡ true → Each (IsAfter (components found.path)) pending) founds
  beside : Pairs Precedes pending

-- an entry that is visited as a directory was not visited before
met_new : (g : Geometry) (image : List ℕ) (start : ℕ) (founds : List MetEntry) (entry : Pending) (path : List ℕ)
    → (met g image start founds entry).role ≡ roles.Directory → IsMetAt founds entry.inode path → ⊥
met_new g image start founds entry path is met_at =
    let new = directory_new g image start (first_met entry.inode founds) entry is in
    true≢false (sym (there_first entry.inode founds
    (has_map (λ (f : MetEntry). (f.inode ≡ entry.inode) × (f.path ≡ path) × (f.role ≡ roles.Directory)) (IsFirstFor entry.inode)
    (λ f h. (h.0, ap is_first h.2)) founds met_at)) ∙ new.1)

-- the facts also hold before the next step
goes_on : (g : Geometry) (image : List ℕ) (start : ℕ) (founds : List MetEntry) (entry : Pending) (rest : List Pending)
    → Goes g image start founds (entry ∷ rest)
    → Goes g image start (founds ++ met g image start founds entry ∷ []) (below g image (met g image start founds entry) (met g image start founds entry).role ++ rest)
goes_on g image start founds entry rest h =
    let found = met g image start founds entry in
    let more = founds ++ found ∷ [] in
    let c = h.ahead.0 in
    let slot = entry_of g image c.parent c.name entry.inode c.named in
    let inside : Each (λ (e : Pending). Comes g image start more e.path e.inode) (below g image found found.role) =
    each_inside (λ (e : Pending). Comes g image start more e.path e.inode) g image found found.role
    (λ is. entries_come g image start more entry.path entry.inode (met_directory g image start (first_met entry.inode founds) entry is)
    (IsUnder.onwards c.parent slot.0 entry.inode c.under (c.name, slot.1, c.named.proper))
    (inr (has_behind (λ (f : MetEntry). (f.inode ≡ entry.inode) × (f.path ≡ entry.path) × (f.role ≡ roles.Directory)) founds (found ∷ []) (inl (refl, refl, is))))) in
    record {
      ahead = each_append (λ (e : Pending). Comes g image start more e.path e.inode) (below g image found found.role) rest inside
          (each_map (λ (e : Pending). Comes g image start founds e.path e.inode) (λ (e : Pending). Comes g image start more e.path e.inode)
          (λ e k. comes_more g image start founds found e.path e.inode k) rest h.ahead.1);
      behind = each_append (λ (f : MetEntry). Comes g image start more f.path f.inode) founds (found ∷ [])
          (each_map (λ (f : MetEntry). Comes g image start founds f.path f.inode) (λ (f : MetEntry). Comes g image start more f.path f.inode)
          (λ f k. comes_more g image start founds found f.path f.inode k) founds h.behind)
          (comes_more g image start founds found entry.path entry.inode c, tt);
      once = λ d path other one two. both d path other (split d path one) (split d other two);
      apart = λ path at_start. elim (split start path at_start) [
        | inl old ↦ h.apart path old
        | inr new ↦ (directory_new g image start (first_met entry.inode founds) entry new.2).0 new.0
      ];
      ordered = each_append (λ (f : MetEntry). is_kept f.role ≡ true → Each (IsAfter (components f.path)) (below g image found found.role ++ rest)) founds (found ∷ [])
          (each_map (λ (f : MetEntry). is_kept f.role ≡ true → Each (IsAfter (components f.path)) (entry ∷ rest))
          (λ (f : MetEntry). is_kept f.role ≡ true → Each (IsAfter (components f.path)) (below g image found found.role ++ rest))
          (λ f after kept. step_after g image start founds entry rest (components f.path) (after kept)) founds h.ordered)
          (met_before g image start founds entry rest h.beside.0, tt);
      beside = step_beside g image start founds entry rest h.beside;
    }
  where
    IsNew : ℕ → List ℕ → Type 0
    IsNew d path = (entry.inode ≡ d) × (entry.path ≡ path) × ((met g image start founds entry).role ≡ roles.Directory)

    split : (d : ℕ) (path : List ℕ) → IsMetAt (founds ++ met g image start founds entry ∷ []) d path → IsMetAt founds d path ⊎ IsNew d path
    split d path at =
        elim (has_either (λ (f : MetEntry). (f.inode ≡ d) × (f.path ≡ path) × (f.role ≡ roles.Directory)) founds (met g image start founds entry ∷ []) at) [
          | inl old ↦ inl old
          | inr (inl new) ↦ inr new
          | inr (inr none) ↦ absurd none
        ]

    old_new : {A : Type 0} → (d : ℕ) (path other : List ℕ) → IsMetAt founds d path → IsNew d other → A
    old_new d path other old new = absurd (met_new g image start founds entry path new.2 (subst (λ k. IsMetAt founds k path) (sym new.0) old))

    both : (d : ℕ) (path other : List ℕ) → IsMetAt founds d path ⊎ IsNew d path → IsMetAt founds d other ⊎ IsNew d other → path ≡ other
    both d path other (inl one) (inl two) = h.once d path other one two
    both d path other (inl one) (inr two) = old_new d path other one two
    both d path other (inr one) (inl two) = old_new d other path two one
    both d path other (inr one) (inr two) = sym one.1 ∙ two.1

-- in a tree, a directory has only one path, whether it was visited or the walk began there
one_path : (g : Geometry) (image : List ℕ) (start : ℕ) (founds : List MetEntry) (pending : List Pending) (path other : List ℕ) (i : ℕ)
    → IsTree g image → IsDirectory g image i → Goes g image start founds pending
    → Comes g image start founds path i → Comes g image start founds other i → path ≡ other
one_path g image start founds pending path other i tree directory h c k =
    let same = one_name g image i c.parent k.parent c.name k.name tree directory c.named k.named in
    let aboves = above c.parent k.parent c.above k.above same.0 c.from k.from in
    c.path_is ∙ (ap (λ a. path_below a c.name) aboves ∙ (ap (λ n. path_below k.above n) same.1 ∙ sym k.path_is))
  where
    above : (d e : ℕ) (a b : List ℕ) → d ≡ e → ((d ≡ start) × (a ≡ [])) ⊎ IsMetAt founds d a → ((e ≡ start) × (b ≡ [])) ⊎ IsMetAt founds e b → a ≡ b
    above d e a b same (inl one) (inl two) = one.1 ∙ sym two.1
    above d e a b same (inl one) (inr two) = absurd (h.apart b (subst (λ n. IsMetAt founds n b) (sym same ∙ one.0) two))
    above d e a b same (inr one) (inl two) = absurd (h.apart a (subst (λ n. IsMetAt founds n a) (same ∙ two.0) one))
    above d e a b same (inr one) (inr two) = h.once e a b (subst (λ n. IsMetAt founds n a) same one) two

-- the next entry isn't left out because it was visited before
next_once : (g : Geometry) (image : List ℕ) (start : ℕ) (founds : List MetEntry) (entry : Pending) (rest : List Pending) → IsTree g image → IsDirectory g image start
    → Goes g image start founds (entry ∷ rest) → (met g image start founds entry).role ≡ roles.Left reasons.Again → ⊥
next_once g image start founds entry rest tree directory h is =
    let why = again_why g image start (first_met entry.inode founds) entry is in
    elim why.2 [
      | inl same ↦ ring same
      | inr some ↦ has_each (IsFirstFor entry.inode) Known ⊥ (λ f first known. twice why.0 why.1 f first known) founds (first_there entry.inode founds some)
          (each_both (λ (f : MetEntry). Comes g image start founds f.path f.inode)
          (λ (f : MetEntry). is_kept f.role ≡ true → Each (IsAfter (components f.path)) (entry ∷ rest)) founds h.behind h.ordered)
    ]
  where
    Known : MetEntry → Type 0
    Known f = Comes g image start founds f.path f.inode × (is_kept f.role ≡ true → Each (IsAfter (components f.path)) (entry ∷ rest))

    ring : entry.inode ≡ start → ⊥
    ring same =
        let c = h.ahead.0 in
        let slot = entry_of g image c.parent c.name entry.inode c.named in
        no_ring g image start tree (tree.reached start directory) directory c.parent slot.0 c.under
        (c.name, subst (λ i. HasEntry g image c.parent slot.0 c.name i) same slot.1, c.named.proper)

    first_kept : (role : Role) → is_first role ≡ true → is_kept role ≡ true
    first_kept roles.File e = refl
    first_kept roles.Directory e = refl
    first_kept roles.Special e = refl
    first_kept (roles.Link k) e = refl
    first_kept (roles.Left reason) e = e

    never : Equal ≡ Less → ⊥
    never e = cc

    twice : entry.is_plain ≡ true → IsDirectory g image entry.inode → (f : MetEntry) → IsFirstFor entry.inode f → Known f → ⊥
    twice plain dir f first known =
        let there : Comes g image start founds f.path entry.inode = subst (λ i. Comes g image start founds f.path i) first.0 known.0 in
        let same = one_path g image start founds (entry ∷ rest) f.path entry.path entry.inode tree dir h there h.ahead.0 in
        let less = (known.1 (first_kept f.role first.1)).0 plain in
        never (sym (tied_itself order_total (components entry.path)) ∙ (ap (λ path. order (components path) (components entry.path)) (sym same) ∙ less))

-- no later entry is left out because it was visited before
rest_once : {g : Geometry} {image : List ℕ} {start : ℕ} {founds : List MetEntry} {pending : List Pending} {all : List MetEntry} → IsTree g image → IsDirectory g image start
    → (walks : Walks g image start founds pending all) → Goes g image start founds pending
    → Each (λ (found : MetEntry). found.role ≢ roles.Left reasons.Again) (rest_of walks)
unfolding rest_of
rest_once tree directory (Walks.ends founds) h = tt
rest_once {g = g} {image = image} {start = start} tree directory (Walks.meets founds entry rest all walks) h = (
  next_once g image start founds entry rest tree directory h,
  rest_once tree directory walks (goes_on g image start founds entry rest h),
)

-- in a tree each directory is visited once
pub met_once : DirectoriesAreMetOnce
met_once g image start founds tree directory walks =
    each_all (λ (found : MetEntry). found.role ≢ roles.Left reasons.Again) founds
    (subst (Each (λ (found : MetEntry). found.role ≢ roles.Left reasons.Again)) (walk_is walks)
    (rest_once tree directory walks (record {
      ahead = entries_come g image start [] [] start directory IsUnder.itself (inl (refl, refl));
      behind = tt;
      once = λ d path other one two. absurd one;
      apart = λ path met_at. absurd met_at;
      ordered = tt;
      beside = entries_beside g image [] start;
    })))
