-- A rescue from the root takes out each node.
use Rattle.std.proofs.Common.{◌≡◌, ◌≢◌, ℕ, ◌+◌, ◌<◌, ◌≤◌, ◌&&◌, ◌||◌, ◌⊎◌, inl, inr, Bool, true, false, cond, List, [], ◌∷◌, ◌++◌, length, length-append, None, Some, refl, ap, sym, ◌∙◌, arith}
use Rattle.std.specs.Prelude.{Option, Any, codes, decimal, is_some}
use Rattle.std.specs.Option.{option_map}
use Rattle.std.proofs.lemmas.Bool.{ne_eqb, true≢false}
use Rattle.std.proofs.lemmas.Bool.Decides.{nat_tests}
use Rattle.std.proofs.lemmas.Fmt.{length-decimal-le}
use Rattle.vol_layout.specs.Inode.{inode_of}
use Rattle.vol_layout.specs.declared.geometry.Geometry.{Geometry}
use Rattle.vol_layout.specs.declared.mode.Kind.{Kind}
use Rattle.vol_layout.specs.declared.mode.Kind.TheVariants as kinds
use Rattle.vol_file.specs.Rules.{kind_at}
use Rattle.vol_dir.specs.Tree.{Node, content_of, is_number, node_of, node_with, tree}
use Rattle.vol_judge.specs.Directories.{root_of}
use Rattle.vol_archive.specs.Export.{is_directory, is_directory_kind}
use Rattle.vol_archive.specs.Laws.{NodesAreRescued}
use Rattle.vol_archive.specs.Walk.{first_met, has_room, is_first, lost_entry, node_role}
use Rattle.vol_archive.specs.declared.met_entries.MetEntry.{MetEntry}
use Rattle.vol_archive.specs.declared.met_entries.Role.TheVariants as roles
use Rattle.vol_archive.specs.declared.met_entries.Reason.TheVariants as reasons
use Rattle.vol_archive.proofs.Each.{has_any}
use Rattle.vol_archive.proofs.MetOnce.{IsFirstFor, first_there}
use Rattle.vol_archive.proofs.Rescues.{missed_is, would_be_first}

-- an i-node that is a node of the tree has an i-number of the volume and a known kind
known : (g : Geometry) (image : List ℕ) (i : ℕ) (node : Node) → (tree g image).nodes i ≡ Some node
    → (is_number g i ≡ true) × (kind_at g image i ≢ kinds.Free) × (kind_at g image i ≢ kinds.Odd)
unfolding tree node_of
known g image i node e = given (is_number g i) (kind_at g image i) e
  where
    given : (b : Bool) (kind : Kind) → cond b (option_map (node_with (inode_of g.edition image i)) (content_of g image i kind)) None ≡ Some node
        → (b ≡ true) × (kind ≢ kinds.Free) × (kind ≢ kinds.Odd)
    given false kind e = absurd (true≢false (sym (ap is_some e)))
    given true kinds.Free e = absurd (true≢false (sym (ap is_some e)))
    given true kinds.Odd e = absurd (true≢false (sym (ap is_some e)))
    given true kinds.Regular e = (refl, λ k. cc, λ k. cc)
    given true kinds.Special e = (refl, λ k. cc, λ k. cc)
    given true kinds.Directory e = (refl, λ k. cc, λ k. cc)

-- the path of a lost i-node is short
lost_length : (i : ℕ) → i < 65536 → length (lost_entry i).path ≤ 17
unfolding lost_entry
lost_length i small =
    let digits : length (decimal i) ≤ 5 = length-decimal-le 5 i (omega arith) (omega arith) (omega arith) in
    let name : length (codes "lost+found/#") ≡ 12 = refl in
    let both : length (codes "lost+found/#" ++ decimal i) ≡ length (codes "lost+found/#") + length (decimal i) = length-append (codes "lost+found/#") (decimal i) in
    omega (arith, digits, name, both)

-- a short path has room
roomy : (path : List ℕ) → length path ≤ 18 → has_room path ≡ true
roomy path short = grind (arith, nat_tests)

-- a node that isn't a member is missed, unless it is the directory where the walk began
would_be : (g : Geometry) (image : List ℕ) (start i : ℕ) → i < 65536 → is_number g i ≡ true → kind_at g image i ≢ kinds.Free
    → kind_at g image i ≢ kinds.Odd → (i ≢ start) ⊎ (is_directory g image i ≡ false) → would_be_first g image start i None ≡ true
unfolding lost_entry
would_be g image start i small number free odd other =
    ap (λ b. is_first (cond b (node_role start None (lost_entry i) (kind_at g image i)) (roles.Left reasons.NoNode))) number
    ∙ kinded (kind_at g image i) refl
  where
    short : length (lost_entry i).path ≤ 18
    short = omega (arith, lost_length i small)

    slashed : length ((lost_entry i).path ++ 47 ∷ []) ≤ 18
    slashed = omega (arith, lost_length i small, length-append (lost_entry i).path (47 ∷ []))

    directory : kind_at g image i ≡ kinds.Directory → (i ≢ start) ⊎ (is_directory g image i ≡ false)
        → is_first (node_role start None (lost_entry i) kinds.Directory) ≡ true
    directory e (inl apart) =
        ap (λ b. is_first (cond (b || false) (roles.Left reasons.Again)
        (cond (has_room ((lost_entry i).path ++ 47 ∷ [])) roles.Directory (roles.Left reasons.LongPath)))) (ne_eqb i start apart)
        ∙ ap (λ b. is_first (cond b roles.Directory (roles.Left reasons.LongPath))) (roomy ((lost_entry i).path ++ 47 ∷ []) slashed)
    directory e (inr none) =
        absurd (true≢false (sym (ap (λ b. b && is_directory_kind (kind_at g image i)) number ∙ ap is_directory_kind e) ∙ none))

    kinded : (kind : Kind) → kind_at g image i ≡ kind → is_first (node_role start None (lost_entry i) kind) ≡ true
    kinded kinds.Free e = absurd (free e)
    kinded kinds.Odd e = absurd (odd e)
    kinded kinds.Regular e = ap (λ b. is_first (cond b roles.File (roles.Left reasons.LongPath))) (roomy (lost_entry i).path short)
    kinded kinds.Special e = ap (λ b. is_first (cond b roles.Special (roles.Left reasons.LongPath))) (roomy (lost_entry i).path short)
    kinded kinds.Directory e = directory e other

-- after a rescue from the root each node is a member, except the root's directory
pub nodes_rescued : NodesAreRescued
nodes_rescued g image orphans unreached founds small rescue i node is from other =
    let facts = known g image i node is in
    let last : i < g.last_inode + 1 = grind (arith, nat_tests, facts.0) in
    let below : i < 65536 = omega (arith, last, small) in
    met (first_met i founds) refl (sym (missed_is g image (root_of g) i founds) ∙ (rescue.whole refl).whole i from last)
    (would_be g image (root_of g) i below facts.0 facts.1 facts.2 other)
  where
    met : (o : Option ℕ) → first_met i founds ≡ o → would_be_first g image (root_of g) i (first_met i founds) ≡ false
        → would_be_first g image (root_of g) i None ≡ true → Any (λ (found : MetEntry). (found.inode ≡ i) × (is_first found.role ≡ true)) founds
    met None e missed would = absurd (true≢false (sym would ∙ (sym (ap (would_be_first g image (root_of g) i) e) ∙ missed)))
    met (Some k) e missed would = has_any (IsFirstFor i) founds (first_there i founds (ap is_some e))
