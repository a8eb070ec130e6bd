-- The members that are kept are right, whatever the lost blocks held.
use Rattle.std.proofs.Common.{◌≡◌, ℕ, ◌≤◌, ◌&&◌, ◌∙◌, ◌++◌, Bool, true, false, cond, if◌then◌else◌, nat_le, List, [], ◌∷◌, length, None, Some, refl, ap, sym}
use Rattle.std.specs.Prelude.{All, slice_get}
use Rattle.std.specs.List.{flat_map}
use Rattle.std.specs.Option.{option_map_or}
use Rattle.std.proofs.lemmas.Bool.{leb-true, true≢false}
use Rattle.std.proofs.lemmas.List.Concat.{flat_map-cons}
use Rattle.std.proofs.lemmas.List.Elements.{All-map}
use Rattle.ustar.specs.Octal.{zeros}
use Rattle.ustar.specs.declared.header.MemberKind.TheVariants as members
use Rattle.vol_dir.specs.Tree.{is_number}
use Rattle.vol_layout.specs.Body.{body}
use Rattle.vol_layout.specs.Geometry.{Fits}
use Rattle.vol_layout.specs.Inode.{device_of, inode_of}
use Rattle.vol_layout.proofs.InodeLaws.{inode_of_kept}
use Rattle.vol_layout.specs.declared.geometry.Geometry.{Geometry}
use Rattle.vol_layout.specs.declared.i_node.Inode.{Inode}
use Rattle.vol_losses.specs.Losses.{is_lost, is_whole, node_block, AgreesOutside}
use Rattle.vol_losses.proofs.Agreement.{body_agrees, node_agrees}
use Rattle.vol_losses.proofs.CutLaws.{completed_agrees}
use Rattle.vol_losses.proofs.LostPaths.{no_marks}
use Rattle.vol_losses.proofs.SureFlags.{whole_is, whole_unless}
use Rattle.vol_archive.specs.Laws.{is_kept}
use Rattle.vol_archive.specs.Members.{archive_bytes, content_at, headed, header_of, link_bytes, member_bytes, role_bytes, special_kind}
use Rattle.vol_archive.specs.declared.met_entries.MetEntry.{MetEntry}
use Rattle.vol_archive.specs.declared.met_entries.Role.{Role}
use Rattle.vol_archive.specs.declared.met_entries.Role.TheVariants as roles
use Rattle.vol_archive.specs.declared.met_entries.Reason.TheVariants as reasons
use Rattle.vol_archive.proofs.Each.{Each, each_all, each_of_all}
use Rattle.vol_rescue.specs.Damage.{content_damage, damage_of, is_left_out, kept_entry, kept_entries, marked, number_damage}
use Rattle.vol_rescue.specs.Laws.{ArchivesAreRight, CutArchivesAreRight, MembersAreRight}
use Rattle.vol_rescue.specs.declared.damage.Damage.TheVariants as damages

and_parts : (a b : Bool) → (a && b) ≡ true → (a ≡ true) × (b ≡ true)
and_parts true b e = (refl, e)
and_parts false b e = absurd (true≢false (sym e))

-- the bytes of a member depend on its i-node, and for a regular file on the body
role_same : (g : Geometry) (old new : List ℕ) (ks : List MetEntry) (k : MetEntry) (role : Role)
    → (is_kept role ≡ true → inode_of g.edition new k.inode ≡ inode_of g.edition old k.inode)
    → (role ≡ roles.File → body g new k.inode ≡ body g old k.inode)
    → role_bytes g new ks k (inode_of g.edition new k.inode) role ≡ role_bytes g old ks k (inode_of g.edition old k.inode) role
role_same g old new ks k roles.File node bytes =
    λ t. headed (header_of (node refl t) members.File (length (bytes refl t)) 0) k.path [] ++ content_at k.path (bytes refl t)
role_same g old new ks k roles.Directory node bytes = ap (λ (n : Inode). headed (header_of n members.Directory 0 0) (k.path ++ 47 ∷ []) []) (node refl)
role_same g old new ks k roles.Special node bytes = ap (λ (n : Inode). headed (header_of n (special_kind n) 0 (device_of n)) k.path []) (node refl)
role_same g old new ks k (roles.Link j) node bytes =
    ap (λ (n : Inode). option_map_or (λ (first : MetEntry). link_bytes n k.path first.path) (slice_get ks j) []) (node refl)
role_same g old new ks k (roles.Left reason) node bytes = refl

-- what is known of an entry that is kept: its i-node isn't lost, and a regular file is whole
pub record IsRight (g : Geometry) (image : List ℕ) (lost : List Bool) (k : MetEntry) : Type 0 where
  pub node : is_number g k.inode ≡ true → is_kept k.role ≡ true → is_lost lost (node_block g.edition k.inode) ≡ false
  pub whole : is_number g k.inode ≡ true → k.role ≡ roles.File → is_whole g image lost k.inode ≡ true

-- the two parts of a test for an i-number
number_ends : (g : Geometry) (i : ℕ) → is_number g i ≡ true → (1 ≤ i) × (i ≤ g.last_inode)
number_ends g i number =
    let parts = and_parts (nat_le 1 i) (nat_le i g.last_inode) number in
    (leb-true 1 i parts.0, leb-true i g.last_inode parts.1)

-- an entry of which that is known has the same bytes in every image that agrees
member_same : (g : Geometry) (lost : List Bool) (old new : List ℕ) (ks : List MetEntry) (k : MetEntry) → Fits g old → AgreesOutside g lost old new
    → IsRight g old lost k → member_bytes g new ks k ≡ member_bytes g old ks k
unfolding member_bytes
member_same g lost old new ks k fits agrees right =
    elim (is_number g k.inode) as (λ n. is_number g k.inode ≡ n
    → cond n (role_bytes g new ks k (inode_of g.edition new k.inode) k.role) [] ≡ cond n (role_bytes g old ks k (inode_of g.edition old k.inode) k.role) []) [
      | true ↦ λ number.
          let ends = number_ends g k.inode number in
          role_same g old new ks k k.role
          (λ kept. inode_of_kept g old new k.inode (node_agrees g lost old new k.inode fits ends.0 ends.1 agrees (right.node number kept)))
          (λ file. body_agrees g lost old new k.inode fits ends.0 ends.1 agrees (whole_is g old lost k.inode (right.whole number file)))
      | false ↦ λ number. refl
    ] refl

-- the role of an entry whose i-node is lost or not, and that is whole or not
abbrev role_by : Bool → Bool → Role → Role
role_by l w role =
    if is_left_out false (if l then Some damages.Inode else if w then None else content_damage role) then roles.Left reasons.NoNode else role

-- true for a regular file
abbrev is_file : Role → Bool
is_file roles.File = true
is_file roles.Directory = false
is_file roles.Special = false
is_file (roles.Link k) = false
is_file (roles.Left reason) = false

-- an entry that is kept has an i-node that isn't lost
kept_node : (l w : Bool) (role : Role) → is_kept (role_by l w role) ≡ true → l ≡ false
kept_node true w role is = absurd (true≢false (sym is))
kept_node false w role is = refl

-- a regular file that is kept is whole
kept_whole : (w : Bool) (role : Role) → is_file (role_by false w role) ≡ true → w ≡ true
kept_whole true role is = refl
kept_whole false roles.File is = absurd (true≢false (sym is))
kept_whole false roles.Directory is = absurd (true≢false (sym is))
kept_whole false roles.Special is = absurd (true≢false (sym is))
kept_whole false (roles.Link k) is = absurd (true≢false (sym is))
kept_whole false (roles.Left reason) is = absurd (true≢false (sym is))

kept_file : (l w : Bool) (role : Role) → is_file (role_by l w role) ≡ true → w ≡ true
kept_file true w role is = absurd (true≢false (sym is))
kept_file false w role is = kept_whole w role is

-- the same is known of each entry that is kept without the damaged ones
entry_right : (g : Geometry) (image : List ℕ) (lost : List Bool) (found : MetEntry)
    → IsRight g image lost (kept_entry false (damage_of g image lost found) found)
entry_right g image lost found =
    let role : is_number g found.inode ≡ true → (kept_entry false (damage_of g image lost found) found).role
    ≡ role_by (is_lost lost (node_block g.edition found.inode)) (is_whole g image lost found.inode) found.role =
    λ number. ap (λ n. if is_left_out false (cond n (number_damage g image lost found) None) then roles.Left reasons.NoNode else found.role) number in
    record {
      node = λ number kept. kept_node (is_lost lost (node_block g.edition found.inode)) (is_whole g image lost found.inode) found.role
          (sym (ap is_kept (role number)) ∙ kept);
      whole = λ number file. kept_file (is_lost lost (node_block g.edition found.inode)) (is_whole g image lost found.inode) found.role
          (sym (ap is_file (role number)) ∙ ap is_file file);
    }

-- it is known of every entry if there are no marks
unmarked_right : (g : Geometry) (image : List ℕ) (found : MetEntry) → IsRight g image [] found
unmarked_right g image found = record {
  node = λ number kept. no_marks [] refl (node_block g.edition found.inode);
  whole = λ number file. whole_unless g image [] found.inode (no_marks [] refl);
}

each_of_any : {X : Type 0} (P : X → Type 0) → ((x : X) → P x) → (xs : List X) → Each P xs
each_of_any P f [] = tt
each_of_any P f (x ∷ xs) = (f x, each_of_any P f xs)

-- it is known of each entry that is kept without the damaged ones
all_right : (g : Geometry) (image : List ℕ) (lost : List Bool) (founds : List MetEntry) → All (IsRight g image lost) (kept_entries g image lost false founds)
all_right g image [] founds = each_all (IsRight g image []) founds (each_of_any (IsRight g image []) (unmarked_right g image) founds)
all_right g image (mark ∷ lost) founds =
    All-map (IsRight g image (mark ∷ lost)) (marked g image (mark ∷ lost) false) founds
    (each_all (λ (found : MetEntry). IsRight g image (mark ∷ lost) (marked g image (mark ∷ lost) false found)) founds
    (each_of_any (λ (found : MetEntry). IsRight g image (mark ∷ lost) (marked g image (mark ∷ lost) false found)) (entry_right g image (mark ∷ lost)) founds))

pub members_right : MembersAreRight
members_right g lost old new founds fits agrees =
    λ at d within. member_same g lost old new (kept_entries g old lost false founds) _ fits agrees (all_right g old lost founds at d within)

-- lists of the same parts are the same
flat_same : {X : Type 0} (f h : X → List ℕ) (xs : List X) → Each (λ x. f x ≡ h x) xs → flat_map f xs ≡ flat_map h xs
flat_same f h [] each = refl
flat_same f h (x ∷ xs) each = flat_map-cons f x xs ∙ ((λ t. each.0 t ++ flat_same f h xs each.1 t) ∙ sym (flat_map-cons h x xs))

pub archives_right : ArchivesAreRight
unfolding archive_bytes
archives_right g lost old new founds fits agrees =
    let ks = kept_entries g old lost false founds in
    ap (λ bytes. bytes ++ zeros 1024) (flat_same (member_bytes g new ks) (member_bytes g old ks) ks
    (each_of_all (λ (k : MetEntry). member_bytes g new ks k ≡ member_bytes g old ks k) ks (members_right g lost old new founds fits agrees)))

pub cut_archives_right : CutArchivesAreRight
cut_archives_right g bytes rest image lost founds fits end completed =
    archives_right g lost image (bytes ++ rest) founds fits (completed_agrees g lost bytes rest image fits end completed)
