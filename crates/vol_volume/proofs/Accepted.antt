-- The checks of an accepted call all passed.
use Rattle.std.proofs.Common.{◌≡◌, ℕ, ◌+◌, ◌<◌, ◌≤◌, ◌∙◌, ap, refl, sym, Bool, true, false, not, nat_lt, nat_le, if◌then◌else◌, List, [], ◌∷◌, Option, None, Some, Ok, arith}
use Rattle.std.specs.List.{list_any}
use Rattle.std.specs.Option.{is_some}
use Rattle.std.proofs.lemmas.Bool.{or_parts}
use Rattle.std.proofs.lemmas.Bool.Decides.{nat_tests}
use Rattle.vol_layout.specs.Edition.{constants}
use Rattle.vol_dir.specs.Names.{get, is_dots}
use Rattle.vol_dir.specs.Tree.{Tree, State}
use Rattle.vol_dir.specs.Walk.{has_zero, walk, walk_parent, is_directory}
use Rattle.vol_change.specs.Nodes.{node_at, names_at, number_of_name}
use Rattle.vol_change.specs.Ready.{TakesName, entry_need, free_in}
use Rattle.vol_layout.specs.Ids.{is_bad_id}
use Rattle.vol_volume.specs.Verdict.{first_of, has_name, has_others, is_device, has_free_number, then_others, of_node, of_parent, create_tests, file_tests, creation, verdict, mkdir_tests, link_tests, unlink_tests, rmdir_tests, write_tests, chown_tests, write_need, link_refusal}
use Rattle.vol_change.specs.declared.new_nodes.NewFile.{NewFile}
use Rattle.vol_change.specs.declared.new_nodes.NewFile.TheVariants.{Regular, Special}
use Rattle.vol_dir.specs.declared.cred.Cred.{Cred}
use Rattle.vol_dir.specs.declared.refusal.Refusal.{Refusal}
use Rattle.vol_dir.specs.declared.refusal.Refusal.TheVariants as refusals

-- if a list of checks gives no refusal, its first test is false and the others give no refusal
passed : (test : Bool) (refusal : Refusal) (others : Option Refusal) → (if test then Some refusal else others) ≡ None
    → (test ≡ false) × (others ≡ None)
passed true refusal others none = absurd (cc)
passed false refusal others none = (refl, none)

-- if the negation of a test is false, the test is true
not_not : (test : Bool) → not test ≡ false → test ≡ true
not_not true e = refl
not_not false e = sym e

-- if no i-number was found for a name, the result is None
none_there : (found : Option ℕ) → is_some found ≡ false → found ≡ None
none_there None e = refl
none_there (Some i) e = absurd (cc)

-- the first checks passed: of the caller's user and group numbers, and for zero bytes in the paths
pub record PassesFirst (tree : Tree) (cred : Cred) (paths : List (List ℕ)) (rest : Option Refusal) : Type 0 where
  pub user : cred.uid ≤ (constants tree.geometry.edition).id_limit
  pub group : cred.gid ≤ (constants tree.geometry.edition).id_limit
  pub plain : list_any has_zero paths ≡ false
  pub others : rest ≡ None

below : (a b : ℕ) → nat_lt a b ≡ false → b ≤ a
below a b e = grind (arith, nat_tests)

first_passed : (tree : Tree) (cred : Cred) (paths : List (List ℕ)) (others : Option Refusal) → then_others tree cred paths others ≡ None
    → PassesFirst tree cred paths others
first_passed tree cred paths others none =
    let limit = (constants tree.geometry.edition).id_limit in
    let bad = passed (is_bad_id tree.geometry.edition cred.uid cred.gid) refusals.BadId (if list_any has_zero paths then Some refusals.Invalid else others) none in
    let zeros = passed (list_any has_zero paths) refusals.Invalid others bad.1 in
    let ids = or_parts (nat_lt limit cred.uid) (nat_lt limit cred.gid) bad.0 in
    record { user = below limit cred.uid ids.0; group = below limit cred.gid ids.1; plain = zeros.0; others = zeros.1 }

-- the checks of the parent and the last name passed
parent_asked : (tree : Tree) (cred : Cred) (path : List ℕ) (bare : Refusal) (tests : ℕ → List ℕ → List (Bool × Refusal)) (d : ℕ) (name : List ℕ)
    → walk_parent tree cred path ≡ Some (Ok (d, name)) → of_parent (walk_parent tree cred path) bare tests ≡ None → first_of (tests d name) ≡ None
parent_asked tree cred path bare tests d name walked none = ap (λ w. of_parent w bare tests) (sym walked) ∙ none

-- the checks of the node passed
node_asked : (tree : Tree) (cred : Cred) (path : List ℕ) (others : ℕ → Option Refusal) (i : ℕ)
    → walk tree cred path ≡ Ok i → of_node (walk tree cred path) others ≡ None → others i ≡ None
node_asked tree cred path others i walked none = ap (λ w. of_node w others) (sym walked) ∙ none

-- a new entry may be added: the caller's numbers are valid, directory d takes the name, and there are enough free blocks
pub record MayEnter (state : State) (cred : Cred) (d : ℕ) (name : List ℕ) (needed : ℕ) : Type 0 where
  pub user : cred.uid ≤ (constants state.tree.geometry.edition).id_limit
  pub group : cred.gid ≤ (constants state.tree.geometry.edition).id_limit
  pub takes : TakesName state d name
  pub room : needed ≤ free_in state

-- the tests of an accepted Create passed
tests_passed : (state : State) (cred : Cred) (d : ℕ) (name : List ℕ) → first_of (create_tests state cred d name) ≡ None
    → TakesName state d name × (entry_need state d ≤ free_in state × (has_free_number state.tree ≡ true))
tests_passed state cred d name none =
    let fresh = passed _ _ _ none in
    let granted = passed _ _ _ fresh.1 in
    let great = passed _ _ _ granted.1 in
    let number = passed _ _ _ great.1 in
    let room = passed _ _ _ number.1 in (
      record { fresh = none_there (get (names_at state.tree d) name) fresh.0; greatest = below _ _ great.0 },
      (below _ _ room.0, not_not (has_free_number state.tree) number.0),
    )

-- the tests of an accepted creation are those of Create, and one of the user
file_tested : (file : NewFile) (state : State) (cred : Cred) (d : ℕ) (name : List ℕ) → first_of (file_tests file state cred d name) ≡ None
    → first_of (create_tests state cred d name) ≡ None
file_tested Regular state cred d name none = none
file_tested (Special device) state cred d name none = (passed _ _ _ none).1

-- an accepted creation may add its entry, and there is a free i-number
pub create_passed : (file : NewFile) (state : State) (cred : Cred) (path : List ℕ) (d : ℕ) (name : List ℕ)
    → then_others state.tree cred (path ∷ []) (of_parent (walk_parent state.tree cred path) refusals.Exists (file_tests file state cred)) ≡ None → walk_parent state.tree cred path ≡ Some (Ok (d, name))
    → MayEnter state cred d name (entry_need state d) × (has_free_number state.tree ≡ true)
create_passed file state cred path d name none walked =
    let first = first_passed state.tree cred (path ∷ []) (of_parent (walk_parent state.tree cred path) refusals.Exists (file_tests file state cred)) none in
    let asked = parent_asked state.tree cred path refusals.Exists (file_tests file state cred) d name walked first.others in
    let all = tests_passed state cred d name (file_tested file state cred d name asked) in
    (record { user = first.user; group = first.group; takes = all.0; room = all.1.0 }, all.1.1)

-- the verdict on a creation
pub creation_verdict : (file : NewFile) (state : State) (cred : Cred) (now : ℕ) (path : List ℕ) (perm : ℕ)
    → verdict state (creation file cred now path perm)
    ≡ then_others state.tree cred (path ∷ []) (of_parent (walk_parent state.tree cred path) refusals.Exists (file_tests file state cred))
unfolding verdict
creation_verdict Regular state cred now path perm = refl
creation_verdict (Special device) state cred now path perm = refl

above : (a b : ℕ) → nat_le a b ≡ false → b < a
above a b e = grind (arith, nat_tests)

-- an accepted Mkdir may add its entry, there is a free i-number, and the parent's link count is below the limit
pub mkdir_passed : (state : State) (cred : Cred) (path : List ℕ) (d : ℕ) (name : List ℕ)
    → then_others state.tree cred (path ∷ []) (of_parent (walk_parent state.tree cred path) refusals.Exists (mkdir_tests state cred)) ≡ None → walk_parent state.tree cred path ≡ Some (Ok (d, name))
    → MayEnter state cred d name (entry_need state d + 1) × (has_free_number state.tree ≡ true)
    × ((node_at state.tree d).links < (constants state.tree.geometry.edition).link_limit)
mkdir_passed state cred path d name none walked =
    let first = first_passed state.tree cred (path ∷ []) (of_parent (walk_parent state.tree cred path) refusals.Exists (mkdir_tests state cred)) none in
    let asked = parent_asked state.tree cred path refusals.Exists (mkdir_tests state cred) d name walked first.others in
    let fresh = passed _ _ _ asked in
    let granted = passed _ _ _ fresh.1 in
    let full = passed _ _ _ granted.1 in
    let great = passed _ _ _ full.1 in
    let number = passed _ _ _ great.1 in
    let room = passed _ _ _ number.1 in (
      record {
        user = first.user;
        group = first.group;
        takes = record { fresh = none_there (get (names_at state.tree d) name) fresh.0; greatest = below _ _ great.0 };
        room = below _ _ room.0;
      },
      not_not (has_free_number state.tree) number.0,
      above _ _ full.0,
    )

-- the source of an accepted Link isn't a directory, and the checks of the target's parent and last name pass
link_asked : (state : State) (cred : Cred) (source target : List ℕ) (i : ℕ)
    → then_others state.tree cred (source ∷ target ∷ []) (of_node (walk state.tree cred source) (link_refusal state cred target)) ≡ None
    → walk state.tree cred source ≡ Ok i
    → (is_directory (node_at state.tree i) ≡ false) × (of_parent (walk_parent state.tree cred target) refusals.Exists (link_tests state cred i) ≡ None)
link_asked state cred source target i none walked =
    let others = link_refusal state cred target in
    let first = first_passed state.tree cred (source ∷ target ∷ []) (of_node (walk state.tree cred source) others) none in
    passed (is_directory (node_at state.tree i)) refusals.IsDirectory (of_parent (walk_parent state.tree cred target) refusals.Exists (link_tests state cred i))
    (node_asked state.tree cred source others i walked first.others)

pub record MayLink (state : State) (i d : ℕ) (name : List ℕ) : Type 0 where
  pub other : is_directory (node_at state.tree i) ≡ false
  pub takes : TakesName state d name
  pub links : (node_at state.tree i).links < (constants state.tree.geometry.edition).link_limit
  pub room : entry_need state d ≤ free_in state

pub link_passed : (state : State) (cred : Cred) (source target : List ℕ) (i d : ℕ) (name : List ℕ)
    → then_others state.tree cred (source ∷ target ∷ []) (of_node (walk state.tree cred source) (link_refusal state cred target)) ≡ None
    → walk state.tree cred source ≡ Ok i
    → walk_parent state.tree cred target ≡ Some (Ok (d, name)) → MayLink state i d name
link_passed state cred source target i d name none walked led =
    let rest = link_asked state cred source target i none walked in
    let asked = parent_asked state.tree cred target refusals.Exists (link_tests state cred i) d name led rest.1 in
    let fresh = passed _ _ _ asked in
    let granted = passed _ _ _ fresh.1 in
    let full = passed _ _ _ granted.1 in
    let great = passed _ _ _ full.1 in
    let room = passed _ _ _ great.1 in
    record {
      other = rest.0;
      takes = record { fresh = none_there (get (names_at state.tree d) name) fresh.0; greatest = below _ _ great.0 };
      links = above _ _ full.0;
      room = below _ _ room.0;
    }

-- the name of an accepted Unlink exists, and isn't for a directory
pub unlink_passed : (state : State) (cred : Cred) (path : List ℕ) (d : ℕ) (name : List ℕ)
    → then_others state.tree cred (path ∷ []) (of_parent (walk_parent state.tree cred path) refusals.IsDirectory (unlink_tests state cred)) ≡ None
    → walk_parent state.tree cred path ≡ Some (Ok (d, name))
    → (has_name state.tree d name ≡ true) × (is_directory (node_at state.tree (number_of_name state.tree d name)) ≡ false)
unlink_passed state cred path d name none walked =
    let first = first_passed state.tree cred (path ∷ []) (of_parent (walk_parent state.tree cred path) refusals.IsDirectory (unlink_tests state cred)) none in
    let asked = parent_asked state.tree cred path refusals.IsDirectory (unlink_tests state cred) d name walked first.others in
    let there = passed _ _ _ asked in
    let granted = passed _ _ _ there.1 in
    let other = passed _ _ _ granted.1 in
    (not_not (has_name state.tree d name) there.0, other.0)

pub record MayRemove (state : State) (d : ℕ) (name : List ℕ) : Type 0 where
  pub plain : is_dots name ≡ false
  pub there : has_name state.tree d name ≡ true
  pub gone : is_directory (node_at state.tree (number_of_name state.tree d name)) ≡ true
  pub only : has_others state.tree (number_of_name state.tree d name) ≡ false

pub rmdir_passed : (state : State) (cred : Cred) (path : List ℕ) (d : ℕ) (name : List ℕ)
    → then_others state.tree cred (path ∷ []) (of_parent (walk_parent state.tree cred path) refusals.Invalid (rmdir_tests state cred)) ≡ None
    → walk_parent state.tree cred path ≡ Some (Ok (d, name)) → MayRemove state d name
rmdir_passed state cred path d name none walked =
    let first = first_passed state.tree cred (path ∷ []) (of_parent (walk_parent state.tree cred path) refusals.Invalid (rmdir_tests state cred)) none in
    let asked = parent_asked state.tree cred path refusals.Invalid (rmdir_tests state cred) d name walked first.others in
    let dots = passed _ _ _ asked in
    let there = passed _ _ _ dots.1 in
    let granted = passed _ _ _ there.1 in
    let gone = passed _ _ _ granted.1 in
    let only = passed _ _ _ gone.1 in
    record {
      plain = dots.0;
      there = not_not (has_name state.tree d name) there.0;
      gone = not_not (is_directory (node_at state.tree (number_of_name state.tree d name))) gone.0;
      only = only.0;
    }

pub record MayWrite (state : State) (offset len i : ℕ) : Type 0 where
  pub other : is_directory (node_at state.tree i) ≡ false
  pub regular : is_device (node_at state.tree i).content ≡ false
  pub greatest : offset + len ≤ (constants state.tree.geometry.edition).greatest
  pub room : write_need state i offset len ≤ free_in state

pub write_passed : (state : State) (cred : Cred) (path : List ℕ) (offset len i : ℕ)
    → then_others state.tree cred (path ∷ []) (of_node (walk state.tree cred path) (λ j. first_of (write_tests state cred offset len j))) ≡ None
    → walk state.tree cred path ≡ Ok i → MayWrite state offset len i
write_passed state cred path offset len i none walked =
    let others = λ (i : ℕ). first_of (write_tests state cred offset len i) in
    let first = first_passed state.tree cred (path ∷ []) (of_node (walk state.tree cred path) others) none in
    let asked = node_asked state.tree cred path others i walked first.others in
    let other = passed _ _ _ asked in
    let regular = passed _ _ _ other.1 in
    let granted = passed _ _ _ regular.1 in
    let great = passed _ _ _ granted.1 in
    let room = passed _ _ _ great.1 in
    record { other = other.0; regular = regular.0; greatest = below _ _ great.0; room = below _ _ room.0 }

-- the new user and group numbers of an accepted Chown are within the edition's limit
pub chown_passed : (state : State) (cred : Cred) (path : List ℕ) (uid gid : ℕ)
    → (if is_bad_id state.tree.geometry.edition uid gid then Some refusals.BadId
    else then_others state.tree cred (path ∷ []) (of_node (walk state.tree cred path) (λ i. first_of (chown_tests cred)))) ≡ None
    → (uid ≤ (constants state.tree.geometry.edition).id_limit) × (gid ≤ (constants state.tree.geometry.edition).id_limit)
chown_passed state cred path uid gid none =
    let limit = (constants state.tree.geometry.edition).id_limit in
    let bad = passed (is_bad_id state.tree.geometry.edition uid gid) refusals.BadId _ none in
    let ids = or_parts (nat_lt limit uid) (nat_lt limit gid) bad.0 in
    (below limit uid ids.0, below limit gid ids.1)
