-- The directory that holds the entry for each directory.
use Rattle.std.proofs.Common.{◌≡◌, ◌≢◌, ℕ, ◌+◌, ◌<◌, ◌≤◌, ◌∙◌, ◌⊎◌, inl, inr, true, false, List, Option, None, Some, IfNone, IfSome, length, get_or, refl, sym, ap, subst, arith, get_or-set_other, get_or-set_same}
use Rattle.std.specs.Option.{is_some}
use Rattle.std.proofs.Math.ListN.{set, length-set}
use Rattle.std.proofs.lemmas.Bool.{cases_eq}
use Rattle.vol_layout.specs.Slot.{name_of}
use Rattle.vol_layout.specs.declared.geometry.Geometry.{Geometry}
use Rattle.vol_layout.specs.declared.slot.Slot.{Slot}
use Rattle.vol_dir.specs.Entries.{IsDirectory}
use Rattle.vol_dir.specs.Names.{is_dots}
use Rattle.vol_judge.specs.Directories.{root_of, Enters}
use Rattle.vol_judge.specs.Finds.{Finds}
use Rattle.vol_judge.specs.InodeMarks.{IsOnce}
use Rattle.vol_judge.specs.Steps.{rank, IsNextSlot, IsPastEntries}
use Rattle.vol_judge.specs.DirectoryTree.{HasOnceBefore, NotesParentsBefore, NotesParents, KnowsParents, IsEnteredAgain, IsFirstTree}
use Rattle.vol_judge.specs.declared.finding.Finding.{Finding}
use Rattle.vol_judge.specs.declared.finding.Finding.TheVariants as findings
use Rattle.vol_judge.proofs.Parents.{some_number}
use Rattle.vol_judge.proofs.PassedEntries.{split}

-- if `is_some o` is false, o is None
pub none_of : (o : Option ℕ) → is_some o ≡ false → o ≡ None
none_of None none = refl
none_of (Some e) none = absurd (cc)

-- before the first entry, no parent is noted
pub parents_first : (geometry : Geometry) (image : List ℕ) (ups : List (Option ℕ)) (place : ℕ) (parents : List (Option ℕ)) → length parents ≡ geometry.last_inode + 1
    → ((i : ℕ) → get_or parents i None ≡ None) → place ≤ rank 1 0 → NotesParentsBefore geometry image ups place parents
parents_first geometry image ups place parents room none low = record {
  room = room;
  some = λ e t i is apart enters before. absurd (omega (arith, before, low, enters.1.directory.first));
  named = λ e t i is apart enters before up. absurd (omega (arith, before, low, enters.1.directory.first));
  only = λ i e some. absurd (let both = sym (none i) ∙ some in cc);
}

-- before the first position there is no entry, so none is for the root or second for a directory
pub once_first : (geometry : Geometry) (image : List ℕ) (place : ℕ) → place ≤ rank 1 0 → HasOnceBefore geometry image place
once_first geometry image place low = record {
  one = λ i e s f t is enters enters' before before'. absurd (omega (arith, before, low, enters.1.directory.first));
  root_none = λ e s enters before. absurd (omega (arith, before, low, enters.1.directory.first));
}

-- the next entry changes no note if it is `.` or `..`, if it is for the root or for no directory, or if a parent is noted and the child's `..` isn't
-- for this entry's directory
pub parents_kept : {geometry : Geometry} {image : List ℕ} {place d s : ℕ} {slot : Slot} {ups parents : List (Option ℕ)}
    → NotesParentsBefore geometry image ups place parents → IsNextSlot geometry image place d s slot
    → (is_dots (name_of slot.name) ≡ false → IsDirectory geometry image slot.inode → slot.inode ≢ root_of geometry
    → ((f : ℕ) × (get_or parents slot.inode None ≡ Some f)) × (get_or ups slot.inode None ≡ Some d → ⊥))
    → NotesParentsBefore geometry image ups (rank d (s + 1)) parents
parents_kept {geometry = geometry} {image = image} {place = place} {d = d} {s = s} {slot = slot} {ups = ups} {parents = parents} known next kept = record {
  room = known.room;
  some = λ e t i is apart enters before.
      elim (split e t i enters.0 next enters.1 before) [
        | inl early ↦ known.some e t i is apart enters early
        | inr here ↦
            let is' = rw here.3 at is in
            let had = (kept (ap is_dots (sym here.2) ∙ enters.2) is' (λ root. apart (here.3 ∙ root))).0 in
            (had.0, ap (λ x. get_or parents x None) here.3 ∙ had.1)
      ];
  named = λ e t i is apart enters before up.
      elim (split e t i enters.0 next enters.1 before) [
        | inl early ↦ known.named e t i is apart enters early up
        | inr here ↦
            let is' = rw here.3 at is in
            let up' = rw (here.3, here.0) at up in
            absurd ((kept (ap is_dots (sym here.2) ∙ enters.2) is' (λ root. apart (here.3 ∙ root))).1 up')
      ];
  only = λ i e some. let had = known.only i e some in (had.0, had.1, omega (arith, had.2, next.reached));
}

-- the directory of the next entry is noted if no parent is noted, or if the child's `..` is for it
pub parents_noted : {geometry : Geometry} {image : List ℕ} {place d s : ℕ} {slot : Slot} {ups parents : List (Option ℕ)}
    → NotesParentsBefore geometry image ups place parents → IsNextSlot geometry image place d s slot → slot.inode < length parents
    → is_dots (name_of slot.name) ≡ false → (get_or parents slot.inode None ≡ None) ⊎ (get_or ups slot.inode None ≡ Some d)
    → NotesParentsBefore geometry image ups (rank d (s + 1)) (set parents slot.inode (Some d))
parents_noted {geometry = geometry} {image = image} {place = place} {d = d} {s = s} {slot = slot} {ups = ups} {parents = parents} known next room other which =
    let new : Option ℕ = Some d in
    let here : Enters geometry image d s slot.inode = (name_of slot.name, next.entry, other) in
    let written : get_or (set parents slot.inode new) slot.inode None ≡ new = rw get_or-set_same refl in
    record {
      room = simp length-set known.room;
      some = λ e t i is apart enters before.
          elim (cases_eq i slot.inode) [
            | inl same ↦ (d, rw same written)
            | inr away ↦ elim (split e t i enters.0 next enters.1 before) [
              | inl early ↦ let had = known.some e t i is apart enters early in (had.0, rw get_or-set_other had.1)
              | inr there ↦ absurd (away there.3)
            ]
          ];
      named = λ e t i is apart enters before up.
          elim (cases_eq i slot.inode) [
            | inl same ↦
                let up' = rw same at up in
                let number : e ≡ d = elim which [
                  | inl none ↦ elim (split e t i enters.0 next enters.1 before) [
                    | inl early ↦
                        let had = known.named e t i is apart enters early up in
                        let had' = rw same at had in
                        absurd (let both = sym none ∙ had' in cc)
                    | inr there ↦ there.0
                  ]
                  | inr named ↦ let both : Some e ≡ Some d = sym up' ∙ named in cc
                ] in
                rw (same, number) written
            | inr away ↦ elim (split e t i enters.0 next enters.1 before) [
              | inl early ↦ rw get_or-set_other (known.named e t i is apart enters early up)
              | inr there ↦ absurd (away there.3)
            ]
          ];
      only = λ i e some.
          elim (cases_eq i slot.inode) [
            | inl same ↦
                let some' = rw same at some in
                let directory : e ≡ d = let both : Some e ≡ Some d = sym some' ∙ written in cc in
                rw (same, directory) (s, here, omega arith)
            | inr apart ↦
                let some' = rw get_or-set_other at some in
                let had = known.only i e some' in
                (had.0, had.1, omega (arith, had.2, next.reached))
          ];
    }

-- if the next entry is `.` or `..`, or is for neither the root nor a directory, there is still at most one entry for each directory
pub once_passed : {geometry : Geometry} {image : List ℕ} {place d s : ℕ} {slot : Slot}
    → HasOnceBefore geometry image place → IsNextSlot geometry image place d s slot
    → (is_dots (name_of slot.name) ≡ false → (slot.inode ≢ root_of geometry) × (IsDirectory geometry image slot.inode → ⊥))
    → HasOnceBefore geometry image (rank d (s + 1))
once_passed {geometry = geometry} {image = image} {place = place} {d = d} {s = s} {slot = slot} once next other =
    let early : (e t i : ℕ) → (i ≡ root_of geometry) ⊎ IsDirectory geometry image i → Enters geometry image e t i → rank e t < rank d (s + 1) → rank e t < place =
    λ e t i which enters before.
    elim (split e t i enters.0 next enters.1 before) [
      | inl low ↦ low
      | inr here ↦
          let neither = other (ap is_dots (sym here.2) ∙ enters.2) in
          elim which [
            | inl root ↦ absurd (neither.0 (sym here.3 ∙ root))
            | inr is ↦ let is' = rw here.3 at is in absurd (neither.1 is')
          ]
    ] in
    record {
      one = λ i e u f t is enters enters' before before'.
          once.one i e u f t is enters enters' (early e u i (inr is) enters before) (early f t i (inr is) enters' before');
      root_none = λ e t enters before. once.root_none e t enters (early e t (root_of geometry) (inl refl) enters before);
    }

-- if the next entry is for a directory without a noted parent, there is still at most one entry for each directory
pub once_noted : {geometry : Geometry} {image : List ℕ} {place d s : ℕ} {slot : Slot} {ups parents : List (Option ℕ)}
    → NotesParentsBefore geometry image ups place parents → HasOnceBefore geometry image place → IsNextSlot geometry image place d s slot
    → slot.inode ≢ root_of geometry → get_or parents slot.inode None ≡ None → HasOnceBefore geometry image (rank d (s + 1))
once_noted {geometry = geometry} {image = image} {place = place} {d = d} {s = s} {slot = slot} {parents = parents} known once next below none =
    let seen : (e t i : ℕ) → IsDirectory geometry image i → Enters geometry image e t i → rank e t < place → i ≡ slot.inode → ⊥ =
    λ e t i is enters before same.
    let old = known.some e t i is (λ root. below (sym same ∙ root)) enters before in
    let old' : get_or parents slot.inode None ≡ Some old.0 = sym (ap (λ x. get_or parents x None) same) ∙ old.1 in
    let both = sym none ∙ old' in
    cc in
    record {
      one = λ i e u f t is enters enters' before before'.
          elim (split e u i enters.0 next enters.1 before) [
            | inl early ↦ elim (split f t i enters'.0 next enters'.1 before') [
              | inl early' ↦ once.one i e u f t is enters enters' early early'
              | inr there' ↦ absurd (seen e u i is enters early there'.3)
            ]
            | inr there ↦ elim (split f t i enters'.0 next enters'.1 before') [
              | inl early' ↦ absurd (seen f t i is enters' early' there.3)
              | inr there' ↦ (there.0 ∙ sym there'.0, there.1 ∙ sym there'.1)
            ]
          ];
      root_none = λ e t enters before.
          elim (split e t (root_of geometry) enters.0 next enters.1 before) [
            | inl early ↦ once.root_none e t enters early
            | inr there ↦ below (sym there.3)
          ];
    }

-- if there is at most one entry for each directory before the start of a search, there is at most one before the next entry
once_here : {geometry : Geometry} {image : List ℕ} {place d s : ℕ} {slot : Slot} → HasOnceBefore geometry image place
    → IsNextSlot geometry image place d s slot → HasOnceBefore geometry image (rank d s)
once_here once next = record {
  one = λ i e u f t is enters enters' before before'.
      once.one i e u f t is enters enters' (next.before e u i enters.0 enters.1 before) (next.before f t i enters'.0 enters'.1 before');
  root_none = λ e t enters before. once.root_none e t enters (next.before e t _ enters.0 enters.1 before);
}

-- an entry for the root is the first violation
pub again_root : {geometry : Geometry} {image : List ℕ} {place d s : ℕ} {slot : Slot}
    → HasOnceBefore geometry image place → IsNextSlot geometry image place d s slot
    → is_dots (name_of slot.name) ≡ false → slot.inode ≡ root_of geometry → IsEnteredAgain geometry image (findings.RootEntered d s)
again_root {geometry = geometry} {image = image} {d = d} {s = s} {slot = slot} once next other root =
    let here : Enters geometry image d s slot.inode = (name_of slot.name, next.entry, other) in
    let here' = rw root at here in
    (once_here once next, here')

-- an entry for a directory with a noted parent is the first violation
pub again_second : {geometry : Geometry} {image : List ℕ} {place d s : ℕ} {slot : Slot} {ups parents : List (Option ℕ)}
    → NotesParentsBefore geometry image ups place parents → HasOnceBefore geometry image place → IsNextSlot geometry image place d s slot
    → is_dots (name_of slot.name) ≡ false → IsDirectory geometry image slot.inode → is_some (get_or parents slot.inode None) ≡ true
    → IsEnteredAgain geometry image (findings.EnteredTwice d s)
again_second {geometry = geometry} {image = image} {d = d} {s = s} {slot = slot} {parents = parents} known once next other is some =
    let parent = some_number (get_or parents slot.inode None) some in
    let had = known.only slot.inode parent.0 parent.1 in (
      once_here once next,
      record {
        inode = slot.inode;
        directory = is;
        enters = (name_of slot.name, next.entry, other);
        entered = record { directory = parent.0; slot = had.0; enters = had.1; before = omega (arith, had.2, next.reached) };
      },
    )

-- if no entry is left, the parents of all directories are noted
pub parents_all : {geometry : Geometry} {image : List ℕ} {place : ℕ} {ups parents : List (Option ℕ)} → NotesParentsBefore geometry image ups place parents
    → IsPastEntries geometry image place → NotesParents geometry image ups parents
parents_all known none = record {
  room = known.room;
  some = λ e t i is apart enters. known.some e t i is apart enters (none e t i enters.0 enters.1);
  named = λ e t i is apart enters up. known.named e t i is apart enters (none e t i enters.0 enters.1) up;
  only = λ i e some. let had = known.only i e some in (had.0, had.1);
}

-- if no entry is left, there is at most one entry for each directory, and none for the root
pub once_all : {geometry : Geometry} {image : List ℕ} {place : ℕ} → HasOnceBefore geometry image place → IsPastEntries geometry image place
    → IsOnce geometry image
once_all once none = record {
  one = λ i e s f t is enters enters'.
      once.one i e s f t is enters enters' (none e s i enters.0 enters.1) (none f t i enters'.0 enters'.1);
  root_none = λ e s enters. once.root_none e s enters (none e s _ enters.0 enters.1);
}

-- if there is at most one entry for each directory, the noted parent is the directory that holds it
pub parents_known : {geometry : Geometry} {image : List ℕ} {ups parents : List (Option ℕ)} → NotesParents geometry image ups parents → IsOnce geometry image
    → KnowsParents geometry image parents
parents_known {geometry = geometry} notes once = record {
  room = notes.room;
  all = λ e t i is enters.
      let had = notes.some e t i is (λ root. let enters' = rw root at enters in once.root_none e t enters') enters in
      let by = notes.only i had.0 had.1 in
      let one = once.one i e t had.0 by.0 is enters by.1 in
      had.1 ∙ ap Some (sym one.0);
  only = notes.only;
}

-- an entry for the root, or a second entry for a directory, breaks rule 11
pub again_broken : (geometry : Geometry) (image : List ℕ) (finding : Finding) → IsEnteredAgain geometry image finding → IsOnce geometry image → ⊥
again_broken geometry image (findings.RootEntered d s) again rule = rule.root_none d s again.1
again_broken geometry image (findings.EnteredTwice d s) again rule =
    let second = again.1 in
    let had = second.entered in
    let same = rule.one second.inode had.directory had.slot d s second.directory had.enters second.enters in
    omega (arith, had.before, same.0, same.1)
again_broken geometry image _ again rule = absurd again

-- the first violation up to the next entry is the one found before it, or else the violation by the next entry
pub again_next : {geometry : Geometry} {image : List ℕ} {ups parents : List (Option ℕ)} {place d s : ℕ} {slot : Slot} (first second result : Option Finding)
    → IfNone first (result ≡ second) → IfSome first (λ f. result ≡ first) → NotesParentsBefore geometry image ups place parents
    → IsNextSlot geometry image place d s slot → IfNone first (HasOnceBefore geometry image place) → IfSome first (IsEnteredAgain geometry image)
    → IfNone second ((from : ℕ) → NotesParentsBefore geometry image ups from parents → HasOnceBefore geometry image from
    → IsNextSlot geometry image from d s slot → HasOnceBefore geometry image (rank d (s + 1)))
    → IfSome second (λ finding. (from : ℕ) → NotesParentsBefore geometry image ups from parents → HasOnceBefore geometry image from
    → IsNextSlot geometry image from d s slot → IsEnteredAgain geometry image finding)
    → IfNone result (HasOnceBefore geometry image (rank d (s + 1))) × IfSome result (IsEnteredAgain geometry image)
again_next {geometry = geometry} {image = image} {d = d} {s = s} (Some f) second result none some known next once again fresh found =
    subst (λ o. IfNone o (HasOnceBefore geometry image (rank d (s + 1))) × IfSome o (IsEnteredAgain geometry image)) (sym some) (tt, again)
again_next {geometry = geometry} {image = image} {place = place} {d = d} {s = s} None None result none some known next once again fresh found =
    subst (λ o. IfNone o (HasOnceBefore geometry image (rank d (s + 1))) × IfSome o (IsEnteredAgain geometry image)) (sym none)
    (fresh place known once next, tt)
again_next {geometry = geometry} {image = image} {place = place} {d = d} {s = s} None (Some f) result none some known next once again fresh found =
    subst (λ o. IfNone o (HasOnceBefore geometry image (rank d (s + 1))) × IfSome o (IsEnteredAgain geometry image)) (sym none)
    (tt, found place known once next)

-- if no entry is left, the noted violation is the first of all, or None if there is none
pub again_all : {geometry : Geometry} {image : List ℕ} {place : ℕ} (again : Option Finding) → IfNone again (HasOnceBefore geometry image place)
    → IfSome again (IsEnteredAgain geometry image) → IsPastEntries geometry image place
    → Finds (IsOnce geometry image) (IsEnteredAgain geometry image) again
again_all None once found none = once_all once none
again_all {geometry = geometry} {image = image} (Some f) once found none = (found, again_broken geometry image f found)

-- the first entry that is for the root or isn't the first entry for a directory is the first violation of rule 11
pub again_first : (geometry : Geometry) (image : List ℕ) (finding : Finding) → IsEnteredAgain geometry image finding → IsFirstTree geometry image finding
again_first geometry image (findings.RootEntered d s) again = again
again_first geometry image (findings.EnteredTwice d s) again = again
again_first geometry image _ again = absurd again
