-- The role of a visited directory.
use Rattle.std.proofs.Common.{◌≡◌, ◌≢◌, ℕ, ◌==◌, ◌||◌, ◌⊎◌, inl, inr, Bool, true, false, cond, eq-eqb, List, ◌∷◌, [], ◌++◌, None, Some, refl, ap, sym, ◌∙◌, arith}
use Rattle.std.specs.Prelude.{Option}
use Rattle.std.specs.Option.{is_some}
use Rattle.std.proofs.lemmas.Bool.{true≢false}
use Rattle.std.proofs.lemmas.Bool.Decides.{nat_tests}
use Rattle.vol_layout.specs.declared.geometry.Geometry.{Geometry}
use Rattle.vol_layout.specs.declared.mode.Kind.{Kind}
use Rattle.vol_layout.specs.declared.mode.Kind.TheVariants as kinds
use Rattle.vol_file.specs.Rules.{kind_at}
use Rattle.vol_dir.specs.Entries.{IsDirectory}
use Rattle.vol_dir.specs.Tree.{is_number}
use Rattle.vol_archive.specs.Laws.{is_kept}
use Rattle.vol_archive.specs.Walk.{role_of, node_role, file_role, role_after, has_room}
use Rattle.vol_archive.specs.declared.met_entries.Role.{Role}
use Rattle.vol_archive.specs.declared.met_entries.Role.TheVariants as roles
use Rattle.vol_archive.specs.declared.met_entries.Reason.TheVariants as reasons
use Rattle.vol_archive.specs.declared.pending.Pending.{Pending}
use Rattle.vol_archive.proofs.TreeMembers.{member_plain, met_directory}

-- the role of a directory: left out if it was visited before, or if its path is too long, else a member
abbrev as_directory : Bool → Bool → Role
as_directory again room = cond again (roles.Left reasons.Again) (cond room roles.Directory (roles.Left reasons.LongPath))

-- the role of an entry with a plain name for an i-number of the volume is the role for the kind of the i-node
role_numbered : (g : Geometry) (image : List ℕ) (start : ℕ) (first : Option ℕ) (entry : Pending)
    → entry.is_plain ≡ true → is_number g entry.inode ≡ true
    → role_of g image start first entry ≡ node_role start first entry (kind_at g image entry.inode)
role_numbered g image start first entry plain number =
    ap (λ b. cond b (cond (is_number g entry.inode) (node_role start first entry (kind_at g image entry.inode)) (roles.Left reasons.NoNode)) (roles.Left reasons.BadName)) plain
    ∙ ap (λ b. cond b (node_role start first entry (kind_at g image entry.inode)) (roles.Left reasons.NoNode)) number

-- a directory with a plain name has the role of a directory, unless it was visited before or its path is too long
directory_role : (g : Geometry) (image : List ℕ) (start : ℕ) (first : Option ℕ) (entry : Pending)
    → entry.is_plain ≡ true → IsDirectory g image entry.inode
    → role_of g image start first entry ≡ as_directory ((entry.inode == start) || is_some first) (has_room (entry.path ++ 47 ∷ []))
directory_role g image start first entry plain directory =
    let low = directory.first in
    let high = directory.last in
    let number : is_number g entry.inode ≡ true = grind (arith, nat_tests) in
    role_numbered g image start first entry plain number ∙ ap (node_role start first entry) directory.kind

-- an entry with the role of a directory isn't the one where the walk began, and is visited for the first time
pub directory_new : (g : Geometry) (image : List ℕ) (start : ℕ) (first : Option ℕ) (entry : Pending)
    → role_of g image start first entry ≡ roles.Directory → (entry.inode ≢ start) × (is_some first ≡ false)
directory_new g image start first entry is =
    let plain : entry.is_plain ≡ true = member_plain g image start first entry (ap is_kept is) in
    let role = directory_role g image start first entry plain (met_directory g image start first entry is) in
    new (entry.inode == start) (is_some first) refl (sym role ∙ is)
  where
    fresh : (room : Bool) → as_directory true room ≡ roles.Directory → ⊥
    fresh room e = true≢false (sym (ap is_kept e))

    new : (a b : Bool) → (entry.inode == start) ≡ a → as_directory (a || b) (has_room (entry.path ++ 47 ∷ [])) ≡ roles.Directory
        → (entry.inode ≢ start) × (b ≡ false)
    new true b test e = absurd (fresh (has_room (entry.path ++ 47 ∷ [])) e)
    new false true test e = absurd (fresh (has_room (entry.path ++ 47 ∷ [])) e)
    new false false test e = (λ same. true≢false (sym (eq-eqb entry.inode start same) ∙ test), refl)

-- a member that is a directory has the role of a directory
pub directory_kept : (g : Geometry) (image : List ℕ) (start : ℕ) (first : Option ℕ) (entry : Pending)
    → is_kept (role_of g image start first entry) ≡ true → IsDirectory g image entry.inode
    → role_of g image start first entry ≡ roles.Directory
directory_kept g image start first entry kept directory =
    let role = directory_role g image start first entry (member_plain g image start first entry kept) directory in
    role ∙ only _ _ (sym (ap is_kept role) ∙ kept)
  where
    only : (again room : Bool) → is_kept (as_directory again room) ≡ true → as_directory again room ≡ roles.Directory
    only true room e = absurd (true≢false (sym e))
    only false true e = refl
    only false false e = absurd (true≢false (sym e))

-- an entry that is left out because it was visited before has a plain name, is a directory, and is the one where the walk began or was visited before
pub again_why : (g : Geometry) (image : List ℕ) (start : ℕ) (first : Option ℕ) (entry : Pending)
    → role_of g image start first entry ≡ roles.Left reasons.Again
    → (entry.is_plain ≡ true) × IsDirectory g image entry.inode × ((entry.inode ≡ start) ⊎ (is_some first ≡ true))
again_why g image start first entry is =
    let plain = named entry.is_plain is in
    let known = numbered (is_number g entry.inode) (sym (ap (λ b. cond b (cond (is_number g entry.inode) (node_role start first entry (kind_at g image entry.inode)) (roles.Left reasons.NoNode)) (roles.Left reasons.BadName)) plain) ∙ is) in
    let kind = kinded (kind_at g image entry.inode) (sym (role_numbered g image start first entry plain known) ∙ is) in
    let directory : IsDirectory g image entry.inode = record { first = grind (arith, nat_tests); last = grind (arith, nat_tests); kind = kind } in
    (plain, directory, before (entry.inode == start) (is_some first) refl (sym (directory_role g image start first entry plain directory) ∙ is))
  where
    named : (b : Bool) → cond b (cond (is_number g entry.inode) (node_role start first entry (kind_at g image entry.inode)) (roles.Left reasons.NoNode)) (roles.Left reasons.BadName) ≡ roles.Left reasons.Again
        → b ≡ true
    named true e = refl
    named false e = cc

    numbered : (b : Bool) → cond b (node_role start first entry (kind_at g image entry.inode)) (roles.Left reasons.NoNode) ≡ roles.Left reasons.Again → b ≡ true
    numbered true e = refl
    numbered false e = cc

    after : (role : Role) → (role ≡ roles.Left reasons.Again → ⊥) → (first : Option ℕ) → role_after role first ≡ roles.Left reasons.Again → ⊥
    after role other None e = other e
    after role other (Some k) e = cc

    file_other : (role : Role) → (role ≡ roles.Left reasons.Again → ⊥) → file_role role first entry.path ≡ roles.Left reasons.Again → ⊥
    file_other role other e =
        elim (has_room entry.path) as (λ b. cond b (role_after role first) (roles.Left reasons.LongPath) ≡ roles.Left reasons.Again → ⊥) [
          | true ↦ after role other first
          | false ↦ λ e. cc
        ] e

    kinded : (kind : Kind) → node_role start first entry kind ≡ roles.Left reasons.Again → kind ≡ kinds.Directory
    kinded kinds.Directory e = refl
    kinded kinds.Free e = cc
    kinded kinds.Odd e = cc
    kinded kinds.Regular e = absurd (file_other roles.File (λ e. cc) e)
    kinded kinds.Special e = absurd (file_other roles.Special (λ e. cc) e)

    before : (a b : Bool) → (entry.inode == start) ≡ a → as_directory (a || b) (has_room (entry.path ++ 47 ∷ [])) ≡ roles.Left reasons.Again
        → (entry.inode ≡ start) ⊎ (b ≡ true)
    before true b test e = inl (grind (arith, nat_tests))
    before false true test e = inr refl
    before false false test e = absurd (roomy (has_room (entry.path ++ 47 ∷ [])) e)
      where
        roomy : (room : Bool) → as_directory false room ≡ roles.Left reasons.Again → ⊥
        roomy true e = cc
        roomy false e = cc
