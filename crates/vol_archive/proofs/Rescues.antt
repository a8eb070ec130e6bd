-- The rescue of what a walk misses.
use Rattle.std.proofs.Common.{◌≡◌, ◌≢◌, ℕ, ◌+◌, ◌<◌, ◌≤◌, ◌==◌, ◌&&◌, ◌||◌, not, ◌⊎◌, inl, inr, Bool, true, false, cond, List, [], ◌∷◌, ◌++◌, length, None, Some, refl, ap, sym, ◌∙◌, subst, arith, eq-eqb}
use Rattle.std.specs.Prelude.{Option}
use Rattle.std.proofs.lemmas.Bool.{cases_lt, true≢false}
use Rattle.std.proofs.lemmas.List.{append_assoc, append-nil, map-append}
use Rattle.std.proofs.lemmas.List.Elements.{All-push}
use Rattle.vol_layout.specs.declared.geometry.Geometry.{Geometry}
use Rattle.vol_layout.specs.declared.mode.Kind.{Kind}
use Rattle.vol_layout.specs.declared.mode.Kind.TheVariants as kinds
use Rattle.vol_file.specs.Rules.{kind_at}
use Rattle.vol_dir.specs.Tree.{is_number}
use Rattle.vol_dir.specs.Walk.{is_nil}
use Rattle.vol_dir.proofs.ListedNames.{or_else}
use Rattle.vol_judge.specs.Directories.{root_of}
use Rattle.vol_archive.specs.Export.{is_directory}
use Rattle.vol_archive.specs.Rescue.{is_missed, with_first, IsRescue, IsRescued, IsRescuedUpTo, IsWalkFrom, IsWalkWith, Rescues}
use Rattle.vol_archive.specs.Walk.{Walks, below, first_met, has_path, has_room, is_first, lost_directory, lost_entry, lost_found, met, node_role, role_after, role_of, with_lost_directory}
use Rattle.vol_archive.specs.declared.met_entries.MetEntry.{MetEntry}
use Rattle.vol_archive.specs.declared.met_entries.Role.{Role}
use Rattle.vol_archive.specs.declared.met_entries.Role.TheVariants as roles
use Rattle.vol_archive.specs.declared.met_entries.Reason.TheVariants as reasons
use Rattle.vol_archive.specs.declared.pending.Pending.{Pending}
use Rattle.vol_archive.proofs.FirstMarks.{met_more}
use Rattle.vol_archive.proofs.TreeMembers.{rest_of, rest_is}

-- two walks, one after the other, are one walk
walks_append : {g : Geometry} {image : List ℕ} {start : ℕ} {founds mid : List MetEntry} {pending : List Pending}
    → Walks g image start founds pending mid → (more : List Pending) (all : List MetEntry) → Walks g image start mid more all
    → Walks g image start founds (pending ++ more) all
walks_append (Walks.ends founds) more all next = next
walks_append {g = g} {image = image} {start = start} (Walks.meets founds entry rest mid walks) more all next =
    let found = met g image start founds entry in
    Walks.meets founds entry (rest ++ more) all
    (subst (λ ps. Walks g image start (founds ++ found ∷ []) ps all) (append_assoc (below g image found found.role) rest more)
    (walks_append walks more all next))

-- a walk with nothing pending visits nothing
walks_none : {g : Geometry} {image : List ℕ} {start : ℕ} {founds all : List MetEntry} → Walks g image start founds [] all → all ≡ founds
walks_none (Walks.ends founds) = refl

-- the first member for an i-number stays the first
first_kept : (k j : ℕ) (founds more : List MetEntry) → first_met k founds ≡ Some j → first_met k (founds ++ more) ≡ Some j
first_kept k j founds [] e = ap (first_met k) (append-nil founds) ∙ e
first_kept k j founds (m ∷ more) e =
    ap (first_met k) (sym (append_assoc founds (m ∷ []) more))
    ∙ first_kept k j (founds ++ m ∷ []) more
    (met_more founds m k ∙ ap (λ o. or_else o (cond ((m.inode == k) && is_first m.role) (Some (length founds)) None)) e)

-- true if i-node `k` would become the first member, given the position of the first member for it, if there is one
abbrev pub would_be_first : Geometry → List ℕ → ℕ → ℕ → Option ℕ → Bool
would_be_first g image start k first = is_first (role_of g image start first (lost_entry k))

-- an i-node that is a member is not missed
missed_some : (g : Geometry) (image : List ℕ) (start k j : ℕ) → would_be_first g image start k (Some j) ≡ false
unfolding lost_entry
missed_some g image start k j =
    elim (is_number g k) as (λ b. is_first (cond b (node_role start (Some j) (lost_entry k) (kind_at g image k)) (roles.Left reasons.NoNode)) ≡ false) [
      | true ↦ kinded (kind_at g image k)
      | false ↦ refl
    ]
  where
    filed : (role : Role) (room : Bool) → is_first (cond room (role_after role (Some j)) (roles.Left reasons.LongPath)) ≡ false
    filed role true = refl
    filed role false = refl

    again : (same room : Bool) → is_first (cond (same || true) (roles.Left reasons.Again) (cond room roles.Directory (roles.Left reasons.LongPath))) ≡ false
    again true room = refl
    again false room = refl

    kinded : (kind : Kind) → is_first (node_role start (Some j) (lost_entry k) kind) ≡ false
    kinded kinds.Free = refl
    kinded kinds.Odd = refl
    kinded kinds.Regular = filed roles.File (has_room (lost_entry k).path)
    kinded kinds.Special = filed roles.Special (has_room (lost_entry k).path)
    kinded kinds.Directory = again (k == start) (has_room ((lost_entry k).path ++ 47 ∷ []))

-- an i-node is missed if it would become the first member
pub missed_is : (g : Geometry) (image : List ℕ) (start k : ℕ) (founds : List MetEntry)
    → is_missed g image start founds k ≡ would_be_first g image start k (first_met k founds)
unfolding lost_entry
missed_is g image start k founds = refl

-- an i-node that is missed has an i-number of the volume
missed_number : (g : Geometry) (image : List ℕ) (start k : ℕ) (founds : List MetEntry) → is_missed g image start founds k ≡ true → is_number g k ≡ true
unfolding lost_entry
missed_number g image start k founds e =
    elim (is_number g k) as (λ b. is_first (cond b (node_role start (first_met k founds) (lost_entry k) (kind_at g image k)) (roles.Left reasons.NoNode)) ≡ true → b ≡ true) [
      | true ↦ λ missed. refl
      | false ↦ λ missed. absurd (true≢false (sym missed))
    ] e

-- an i-node that isn't missed is not missed after more entries were visited
missed_kept : (g : Geometry) (image : List ℕ) (start k : ℕ) (founds more : List MetEntry) → is_missed g image start founds k ≡ false
    → is_missed g image start (founds ++ more) k ≡ false
missed_kept g image start k founds more h =
    missed_is g image start k (founds ++ more) ∙ kept (first_met k founds) refl
  where
    any : (o : Option ℕ) → would_be_first g image start k None ≡ false → would_be_first g image start k o ≡ false
    any None e = e
    any (Some j) e = missed_some g image start k j

    kept : (o : Option ℕ) → first_met k founds ≡ o → would_be_first g image start k (first_met k (founds ++ more)) ≡ false
    kept (Some j) e = ap (would_be_first g image start k) (first_kept k j founds more e) ∙ missed_some g image start k j
    kept None e = any (first_met k (founds ++ more)) (sym (ap (would_be_first g image start k) e) ∙ (sym (missed_is g image start k founds) ∙ h))

-- an i-node that isn't missed is not missed after a walk went on
walk_kept : {g : Geometry} {image : List ℕ} {start : ℕ} {founds all : List MetEntry} {pending : List Pending} (k : ℕ)
    → Walks g image start founds pending all → is_missed g image start founds k ≡ false → is_missed g image start all k ≡ false
walk_kept {g = g} {image = image} {start = start} {founds = founds} k walks h =
    ap (λ fs. is_missed g image start fs k) (rest_is walks) ∙ missed_kept g image start k founds (rest_of walks) h

-- an i-node is not missed after it was visited by its number
met_kept : (g : Geometry) (image : List ℕ) (start i : ℕ) (founds : List MetEntry)
    → is_missed g image start (founds ++ met g image start founds (lost_entry i) ∷ []) i ≡ false
unfolding lost_entry
met_kept g image start i founds = tested (is_first m.role) refl
  where
    m : MetEntry
    m = met g image start founds (lost_entry i)

    some : (o : Option ℕ) (n : ℕ) → would_be_first g image start i (or_else o (Some n)) ≡ false
    some None n = missed_some g image start i n
    some (Some j) n = missed_some g image start i j

    tested : (b : Bool) → is_first m.role ≡ b → is_missed g image start (founds ++ m ∷ []) i ≡ false
    tested false e = missed_kept g image start i founds (m ∷ []) e
    tested true e =
        let test : ((m.inode == i) && is_first m.role) ≡ true = ap (λ b. b && is_first m.role) (eq-eqb i i refl) ∙ e in
        missed_is g image start i (founds ++ m ∷ [])
        ∙ (ap (would_be_first g image start i) (met_more founds m i ∙ ap (λ b. or_else (first_met i founds) (cond b (Some (length founds)) None)) test)
        ∙ some (first_met i founds) (length founds))

-- an i-node is not missed after a walk that began at its number
taken : {g : Geometry} {image : List ℕ} {start : ℕ} {founds all : List MetEntry} (i : ℕ)
    → Walks g image start founds (lost_entry i ∷ []) all → is_missed g image start all i ≡ false
taken {g = g} {image = image} {start = start} i (Walks.meets founds entry rest all walks) =
    walk_kept i walks (met_kept g image start i founds)

-- an i-node that isn't missed is not missed after the directory of lost i-nodes was visited
first_missed : (g : Geometry) (image : List ℕ) (start i k : ℕ) (founds : List MetEntry) (first : Bool) → is_missed g image start founds k ≡ false
    → is_missed g image start (with_first first start i founds) k ≡ false
first_missed g image start i k founds false h = h
first_missed g image start i k founds true h =
    elim (not (has_path lost_found founds)) as (λ b. is_missed g image start (cond b (founds ++ lost_directory start ∷ []) founds) k ≡ false) [
      | true ↦ missed_kept g image start k founds (lost_directory start ∷ []) h
      | false ↦ h
    ]

-- a walk with lost i-nodes goes on with one more
walk_more : (g : Geometry) (image : List ℕ) (start i : ℕ) (lost : List ℕ) (founds all : List MetEntry) (directory : Bool)
    → IsWalkFrom directory g image start lost founds
    → Walks g image start (with_first (is_nil lost && directory) start i founds) (lost_entry i ∷ []) all
    → IsWalkFrom directory g image start (lost ++ i ∷ []) all
walk_more g image start i [] founds all false walk next = walks_append walk (lost_entry i ∷ []) all next
walk_more g image start i (x ∷ lost) founds all false walk next =
    subst (λ ps. Walks g image start [] ps all) (sym (map-append lost_entry (x ∷ lost) (i ∷ []))) (walks_append walk (lost_entry i ∷ []) all next)
walk_more g image start i [] founds all true walk next =
    (walk.0, walk.1, subst (λ fs. Walks g image start (with_lost_directory start (i ∷ []) fs) (lost_entry i ∷ []) all) (walks_none walk.2) next)
walk_more g image start i (x ∷ lost) founds all true walk next = (
  walk.0,
  walk.1,
  subst (λ ps. Walks g image start (with_lost_directory start (x ∷ lost) walk.0) ps all) (sym (map-append lost_entry (x ∷ lost) (i ∷ [])))
      (walks_append walk.2 (lost_entry i ∷ []) all next),
)

-- the walk of a rescue
pub rescued_walk : {g : Geometry} {image orphans unreached : List ℕ} {founds : List MetEntry} → Rescues g image orphans unreached founds
    → IsWalkWith g image (root_of g) (orphans ++ unreached) founds
rescued_walk {g = g} {image = image} {orphans = orphans} (Rescues.begins founds walk) =
    subst (λ lost. IsWalkWith g image (root_of g) lost founds) (sym (append-nil orphans)) walk
rescued_walk (Rescues.takes unreached founds all i before least walk) = walk

-- a number below `i + 1` is below `i`, or it is `i`
last_or_before : (k i : ℕ) → k < i + 1 → (k < i) ⊎ (k ≡ i)
last_or_before k i below = elim (cases_lt k i) [ inl before ↦ inl before | inr past ↦ inr (omega arith) ]

-- a rescue begins with the walk from the root
pub rescue_begins : (g : Geometry) (image orphans unreached : List ℕ) (founds : List MetEntry) (root : ℕ) → root ≡ root_of g → unreached ≡ []
    → IsWalkWith g image root orphans founds → IsRescuedUpTo g image orphans unreached founds root
rescue_begins g image orphans unreached founds root is none walk =
    subst (λ us. IsRescuedUpTo g image orphans us founds root) (sym none) (record {
      rescues = Rescues.begins founds (subst (λ d. IsWalkWith g image d orphans founds) is walk);
      numbers = λ k d within. absurd (omega arith);
      whole = λ k from below. absurd (omega (arith, is, from, below));
    })

-- a rescue goes on past an i-node that isn't missed
pub rescue_passes : (g : Geometry) (image orphans unreached : List ℕ) (founds : List MetEntry) (i : ℕ)
    → IsRescuedUpTo g image orphans unreached founds i → is_missed g image (root_of g) founds i ≡ false
    → IsRescuedUpTo g image orphans unreached founds (i + 1)
rescue_passes g image orphans unreached founds i up h = record {
  rescues = up.rescues;
  numbers = up.numbers;
  whole = λ k from below. elim (last_or_before k i below) [
    | inl before ↦ up.whole k from before
    | inr same ↦ subst (λ n. is_missed g image (root_of g) founds n ≡ false) (sym same) h
  ];
}

-- a rescue takes an i-node that is missed
pub rescue_takes : (g : Geometry) (image orphans unreached : List ℕ) (founds mid all : List MetEntry) (i : ℕ)
    → IsRescuedUpTo g image orphans unreached founds i → root_of g ≤ i → is_missed g image (root_of g) founds i ≡ true
    → mid ≡ with_first ((is_nil orphans && is_nil unreached) && is_directory g image (root_of g)) (root_of g) i founds
    → Walks g image (root_of g) mid (lost_entry i ∷ []) all
    → IsRescuedUpTo g image orphans (unreached ++ i ∷ []) all (i + 1)
rescue_takes g image orphans unreached founds mid all i up from missed is walk = record {
  rescues = Rescues.takes unreached founds all i up.rescues (record { from = from; missed = missed; before = up.whole })
      (subst (λ lost. IsWalkWith g image (root_of g) lost all) (append_assoc orphans unreached (i ∷ []))
      (walk_more g image (root_of g) i (orphans ++ unreached) founds all (is_directory g image (root_of g)) (rescued_walk up.rescues)
      (subst (λ b. Walks g image (root_of g) (with_first (b && is_directory g image (root_of g)) (root_of g) i founds) (lost_entry i ∷ []) all)
      (sym (nil_append orphans unreached)) (subst (λ fs. Walks g image (root_of g) fs (lost_entry i ∷ []) all) is walk))));
  numbers = All-push (λ j. is_number g j ≡ true) unreached i up.numbers (missed_number g image (root_of g) i founds missed);
  whole = λ k k_from below. elim (last_or_before k i below) [
    | inl before ↦ walk_kept k walk (subst (λ fs. is_missed g image (root_of g) fs k ≡ false) (sym is)
        (first_missed g image (root_of g) i k founds ((is_nil orphans && is_nil unreached) && is_directory g image (root_of g)) (up.whole k k_from before)))
    | inr same ↦ subst (λ n. is_missed g image (root_of g) all n ≡ false) (sym same) (taken i walk)
  ];
}
  where
    nil_append : (xs ys : List ℕ) → is_nil (xs ++ ys) ≡ (is_nil xs && is_nil ys)
    nil_append [] ys = refl
    nil_append (x ∷ xs) ys = refl

-- a rescue of the root is one from the root
pub rescue_at_root : (g : Geometry) (image orphans unreached : List ℕ) (founds : List MetEntry) (start : ℕ) → IsRescued g image orphans unreached founds
    → start ≡ root_of g → IsRescue g image start orphans unreached founds
rescue_at_root g image orphans unreached founds start rescued is = record {
  missed = (founds, rescued);
  walk = subst (λ d. IsWalkWith g image d (orphans ++ unreached) founds) (sym is) (rescued_walk rescued.rescues);
  whole = λ same. rescued;
}

-- a rescue of another directory is a walk with what a rescue from the root takes
pub rescue_elsewhere : (g : Geometry) (image orphans unreached : List ℕ) (all founds : List MetEntry) (start : ℕ) → IsRescued g image orphans unreached all
    → start ≢ root_of g → IsWalkWith g image start (orphans ++ unreached) founds → IsRescue g image start orphans unreached founds
rescue_elsewhere g image orphans unreached all founds start rescued other walk = record {
  missed = (all, rescued);
  walk = walk;
  whole = λ same. absurd (other same);
}
