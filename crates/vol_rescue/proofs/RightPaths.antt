-- The paths of members lead to their i-numbers, whatever the lost blocks held.
use Rattle.std.proofs.Common.{◌≡◌, ℕ, ◌∙◌, ◌++◌, append_assoc, Bool, true, false, cond, if◌then◌else◌, List, [], ◌∷◌, None, Some, Ok, Err, refl, ap, sym, subst, arith}
use Rattle.std.specs.Prelude.{All, Result}
use Rattle.std.proofs.lemmas.Bool.Decides.{nat_tests}
use Rattle.pdp_words.specs.Steps.{and_then}
use Rattle.vol_archive.specs.Laws.{is_kept}
use Rattle.vol_archive.specs.Walk.{Walks, below, entries_below, first_met, lost_entry, met}
use Rattle.vol_archive.specs.declared.met_entries.MetEntry.{MetEntry}
use Rattle.vol_archive.specs.declared.met_entries.Role.{Role}
use Rattle.vol_archive.specs.declared.met_entries.Role.TheVariants as roles
use Rattle.vol_archive.proofs.Each.{Each, all_kept, each_append, each_back, each_both, each_front, each_map, each_of_all}
use Rattle.vol_archive.proofs.EntryLists.{IsNamed, entries_named}
use Rattle.vol_archive.proofs.TreeMembers.{PendingWalksTo, WalksTo, entries_lead, member_plain, met_directory, rest_is, rest_of, walk_is}
use Rattle.vol_dir.specs.Access.{user}
use Rattle.vol_dir.specs.Entries.{IsDirectory, slots}
use Rattle.vol_dir.specs.Names.{names_of}
use Rattle.vol_dir.specs.Tree.{is_number, tree}
use Rattle.vol_dir.specs.Walk.{components, walk_from}
use Rattle.vol_dir.specs.declared.refusal.Refusal.{Refusal}
use Rattle.vol_dir.proofs.Components.{components-nil}
use Rattle.vol_layout.specs.declared.geometry.Geometry.{Geometry}
use Rattle.vol_losses.specs.Losses.{IsWhole, is_lost, is_whole, node_block}
use Rattle.vol_losses.specs.Names.{AreWholeOn}
use Rattle.vol_losses.proofs.SureFlags.{whole_is}
use Rattle.vol_losses.proofs.SureNames.{walk_same}
use Rattle.vol_rescue.specs.Damage.{content_damage, damage_of, number_damage}
use Rattle.vol_rescue.specs.Lines.{top_entry}
use Rattle.vol_rescue.specs.Paths.{AreSoundAbove, IsSoundAbove, PathsLeadRight}
use Rattle.vol_rescue.specs.declared.damage.Damage.TheVariants as damages

-- the type of a function's values
abbrev values_of : {A : Type 0} → (ℕ → A) → Type 0
values_of {A = A} f = A

-- the type of a pending entry
abbrev Pending : Type 0
Pending = values_of lost_entry

-- a directory without damage is whole, by the tests for its i-node and its bytes
none_whole : (l w : Bool) (role : Role) → role ≡ roles.Directory → (if l then Some damages.Inode else if w then None else content_damage role) ≡ None → w ≡ true
none_whole true w role is none = absurd (cc)
none_whole false true role is none = refl
none_whole false false role is none = let some : Some damages.Names ≡ None = sym (ap content_damage is) ∙ none in absurd (cc)

-- a directory without damage is whole
sound_whole : (g : Geometry) (image : List ℕ) (lost : List Bool) (found : MetEntry) → found.role ≡ roles.Directory → IsDirectory g image found.inode
    → damage_of g image lost found ≡ None → IsWhole g image lost found.inode
sound_whole g image lost found is directory none =
    let first = directory.first in
    let last = directory.last in
    let number : is_number g found.inode ≡ true = grind (arith, nat_tests) in
    whole_is g image lost found.inode
    (none_whole (is_lost lost (node_block g.edition found.inode)) (is_whole g image lost found.inode) found.role is
    (sym (ap (λ n. cond n (number_damage g image lost found) None) number) ∙ none))

-- if the nodes on the way to a directory are whole, and so is the directory, those on the way to an entry of it are
whole_on : (g : Geometry) (image : List ℕ) (lost : List Bool) (start d : ℕ) (names : List (List ℕ)) (name : List ℕ)
    → AreWholeOn g image lost user start names → WalksTo g image start names d → IsWhole g image lost d
    → AreWholeOn g image lost user start (names ++ name ∷ [])
whole_on g image lost start d [] name on leads whole =
    let same : start ≡ d = ap (got d) leads in (subst (IsWhole g image lost) (sym same) whole, λ next e. tt)
  where
    got : ℕ → Result ℕ Refusal → ℕ
    got other (Ok found) = found
    got other (Err refusal) = other
whole_on g image lost start d (first ∷ names) name on leads whole = (
  on.0,
  λ next e. whole_on g image lost next d names name (on.1 next e)
      (sym (ap (λ r. and_then r (λ next. walk_from (tree g image) user next names)) e) ∙ leads) whole,
)

-- the nodes on the way to a pending entry with a plain name are whole, if no directory above its path has damage
abbrev pub PendingIsWhole : Geometry → List ℕ → List Bool → ℕ → List MetEntry → Pending → Type 0
PendingIsWhole g image lost start all entry =
    entry.is_plain ≡ true → AreSoundAbove g image lost start all entry.path → AreWholeOn g image lost user start (components entry.path)

-- if no directory above a path has damage, none above a directory on it has
sound_up : (g : Geometry) (image : List ℕ) (lost : List Bool) (start : ℕ) (all : List MetEntry) (path lower : List ℕ) (name : List ℕ)
    → components lower ≡ components path ++ name ∷ [] → AreSoundAbove g image lost start all lower → AreSoundAbove g image lost start all path
sound_up g image lost start all path lower name parts sound = record {
  top = sound.top;
  above = λ at d within directory one rest is. sound.above at d within directory one (rest ++ name ∷ [])
      (sym (append_assoc _ (one ∷ rest) (name ∷ [])) ∙ (ap (λ names. names ++ name ∷ []) is ∙ sym parts));
}

-- the entries of a directory, if the nodes on the way to it are whole, and it is itself
entries_whole : (g : Geometry) (image : List ℕ) (lost : List Bool) (start d : ℕ) (all : List MetEntry) (path : List ℕ)
    → WalksTo g image start (components path) d
    → (AreSoundAbove g image lost start all path → AreWholeOn g image lost user start (components path))
    → ((lower name : List ℕ) → components lower ≡ components path ++ name ∷ [] → AreSoundAbove g image lost start all lower → IsWhole g image lost d)
    → Each (PendingIsWhole g image lost start all) (entries_below g image path d)
entries_whole g image lost start d all path leads on whole =
    each_map (λ (entry : Pending). entry.is_plain ≡ true → IsNamed (names_of (slots g image d)) path entry) (PendingIsWhole g image lost start all)
    (λ entry named plain sound.
    let name = (named plain).name in
    let parts = (named plain).parts in
    subst (AreWholeOn g image lost user start) (sym parts)
    (whole_on g image lost start d (components path) name (on (sound_up g image lost start all path entry.path name parts sound)) leads
    (whole entry.path name parts sound)))
    (entries_below g image path d) (entries_named g image path d)

-- the path of a pending entry with a plain name leads to its i-number, and the nodes on the way are whole if no directory above it has damage
abbrev PendingIsRight : Geometry → List ℕ → List Bool → ℕ → List MetEntry → Pending → Type 0
PendingIsRight g image lost start all entry = PendingWalksTo g image start entry × PendingIsWhole g image lost start all entry

-- the entries below a visited entry
below_right : (g : Geometry) (image : List ℕ) (lost : List Bool) (start : ℕ) (all : List MetEntry) (found : MetEntry) (role : Role) → found.role ≡ role
    → (role ≡ roles.Directory → IsDirectory g image found.inode)
    → (is_kept role ≡ true → WalksTo g image start (components found.path) found.inode
    × (AreSoundAbove g image lost start all found.path → AreWholeOn g image lost user start (components found.path)))
    → ((lower name : List ℕ) → components lower ≡ components found.path ++ name ∷ [] → AreSoundAbove g image lost start all lower
    → IsSoundAbove g image lost lower found)
    → Each (PendingIsRight g image lost start all) (below g image found role)
below_right g image lost start all found roles.Directory is directory right sound =
    let d = directory refl in
    each_both (PendingWalksTo g image start) (PendingIsWhole g image lost start all) (entries_below g image found.path found.inode)
    (entries_lead g image start found.inode found.path d (right refl).0)
    (entries_whole g image lost start found.inode all found.path (right refl).0 (right refl).1
    (λ lower name parts above. sound_whole g image lost found is d (sound lower name parts above is name [] (sym parts))))
below_right g image lost start all found roles.File is directory right sound = tt
below_right g image lost start all found roles.Special is directory right sound = tt
below_right g image lost start all found (roles.Link k) is directory right sound = tt
below_right g image lost start all found (roles.Left reason) is directory right sound = tt

-- a visited entry is one of all
one_of : {X : Type 0} (P : X → Type 0) (front : List X) (x : X) (back all : List X) → all ≡ (front ++ x ∷ []) ++ back → All P all → P x
one_of P front x back all is each =
    (each_back P front (x ∷ []) (each_front P (front ++ x ∷ []) back (subst (Each P) is (each_of_all P all each)))).0

-- what is known of each member that is visited later: its path leads to it, and the nodes on the way are whole if no directory above it has damage
abbrev IsMemberRight : Geometry → List ℕ → List Bool → ℕ → List MetEntry → MetEntry → Type 0
IsMemberRight g image lost start all found = is_kept found.role ≡ true → WalksTo g image start (components found.path) found.inode
    × (AreSoundAbove g image lost start all found.path → AreWholeOn g image lost user start (components found.path))

rest_right : {g : Geometry} {image : List ℕ} {start : ℕ} {founds : List MetEntry} {pending : List Pending} {all : List MetEntry} (lost : List Bool)
    → (walks : Walks g image start founds pending all) → Each (PendingIsRight g image lost start all) pending
    → Each (IsMemberRight g image lost start all) (rest_of walks)
unfolding rest_of
rest_right lost (Walks.ends founds) right = tt
rest_right {g = g} {image = image} {start = start} lost (Walks.meets founds entry rest all walks) right =
    let first = first_met entry.inode founds in
    let found = met g image start founds entry in
    let here : IsMemberRight g image lost start all found = λ kept.
    let plain = member_plain g image start first entry kept in (right.0.0 plain, right.0.1 plain) in (
      here,
      rest_right lost walks
          (each_append (PendingIsRight g image lost start all) (below g image found found.role) rest
          (below_right g image lost start all found found.role refl (met_directory g image start first entry) here
          (λ lower name parts above. one_of (IsSoundAbove g image lost lower) founds found (rest_of walks) all (rest_is walks) above.above)) right.1),
    )

-- the path of each member leads to its i-number in every image that agrees
pub paths_right : PathsLeadRight
paths_right g lost old new start founds fits agrees directory walks =
    let root : WalksTo g old start (components []) start = ap (λ names. walk_from (tree g old) user start names) components-nil in
    let pending = each_both (PendingWalksTo g old start) (PendingIsWhole g old lost start founds) (entries_below g old [] start)
    (entries_lead g old start start [] directory root)
    (entries_whole g old lost start start founds [] root (λ sound. subst (AreWholeOn g old lost user start) (sym components-nil) tt)
    (λ lower name parts sound. sound_whole g old lost (top_entry start) refl directory sound.top)) in
    all_kept (λ (found : MetEntry). is_kept found.role)
    (λ (found : MetEntry). AreSoundAbove g old lost start founds found.path → walk_from (tree g new) user start (components found.path) ≡ Ok found.inode) founds
    (each_map (IsMemberRight g old lost start founds)
    (λ (found : MetEntry). is_kept found.role ≡ true → AreSoundAbove g old lost start founds found.path → walk_from (tree g new) user start (components found.path) ≡ Ok found.inode)
    (λ found right kept sound.
    let is = right kept in walk_same g lost old new user start (components found.path) fits agrees (is.1 sound) ∙ is.0) founds
    (subst (Each (IsMemberRight g old lost start founds)) (walk_is walks) (rest_right lost walks pending)))
