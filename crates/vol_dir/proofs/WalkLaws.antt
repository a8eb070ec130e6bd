-- Lemmas on walks.
use Rattle.std.proofs.Common.{◌≡◌, ◌≢◌, ℕ, ◌≤◌, Bool, true, false, cond, List, [], ◌∷◌, map, Option, None, Some, Result, Ok, Err, refl, ap, sym, subst, ◌∙◌, arith}
use Rattle.std.specs.Prelude.{IfOk, if◌then◌else◌}
use Rattle.std.specs.Option.{ok_or, option_map, option_map_or}
use Rattle.std.proofs.lemmas.Bool.Decides.{nat_tests}
use Rattle.std.specs.FinMap.Entries.{find-put}
use Rattle.std.specs.Cmp.Lexicographic.{slice_cmp}
use Rattle.std.specs.Ordering.{nat_cmp, eq_by_cmp}
use Rattle.std.proofs.lemmas.Cmp.{nat_list_cmp_total}
use Rattle.vol_layout.specs.Edition.{constants}
use Rattle.vol_layout.specs.Inode.{inode_of}
use Rattle.vol_file.specs.Rules.{kind_at, Rules3To7}
use Rattle.vol_dir.specs.Entries.{entry_at, slots, IsDirectory, HasEntries, IsInUse}
use Rattle.vol_dir.specs.Names.{Names, get, names_of}
use Rattle.vol_dir.specs.Tree.{is_number, node_of, node_with, content_of, tree, Node}
use Rattle.vol_dir.specs.Access.{may_execute, grants_at}
use Rattle.vol_dir.specs.Walk.{search, search_node, components, walk_from, walk}
use Rattle.vol_layout.specs.declared.geometry.Geometry.{Geometry}
use Rattle.vol_layout.specs.declared.mode.Kind.{Kind}
use Rattle.vol_layout.specs.declared.mode.Kind.TheVariants as kinds
use Rattle.vol_dir.specs.declared.cred.Cred.{Cred}
use Rattle.vol_dir.specs.declared.refusal.Refusal.{Refusal}
use Rattle.vol_dir.specs.declared.refusal.Refusal.TheVariants as refusals

-- if the map has a name, one of the slots has an entry with its i-number
named_from : (f : ℕ → Option (List ℕ × ℕ)) (xs : List ℕ) (name : List ℕ) (j : ℕ)
    → get (names_of (map f xs)) name ≡ Some j → (s : ℕ) × (other : List ℕ) × (f s ≡ Some (other, j))
named_from f [] name j e = cc
named_from f (x ∷ xs) name j e =
    elim (f x) as (λ o. f x ≡ o → get (names_of (o ∷ map f xs)) name ≡ Some j → (s : ℕ) × (other : List ℕ) × (f s ≡ Some (other, j))) [
      | None ↦ λ q h. named_from f xs name j h
      | Some entry ↦ λ q h. elim (eq_by_cmp (slice_cmp nat_cmp) name entry.0) as (λ b. cond b (Some entry.1) (get (names_of (map f xs)) name) ≡ Some j → (s : ℕ) × (other : List ℕ) × (f s ≡ Some (other, j))) [
        | true ↦ λ k. (x, entry.0, cc)
        | false ↦ λ k. named_from f xs name j k
      ] (sym (find-put (slice_cmp nat_cmp) nat_list_cmp_total name entry.0 entry.1 (names_of (map f xs))) ∙ h)
    ] refl e

-- the i-number of a name in a directory is in use if rule 9 holds
pub found_in_use : (geometry : Geometry) (image : List ℕ) (d : ℕ) (name : List ℕ) (j : ℕ) → HasEntries geometry image
    → IsDirectory geometry image d → get (names_of (slots geometry image d)) name ≡ Some j → IsInUse geometry image j
unfolding slots
found_in_use geometry image d name j h directory e =
    let p = named_from (entry_at geometry image d) _ name j e in
    let r = h.allocated d p.0 j p.1 (record { directory = directory; entry = p.2 }) in
    record { first = r.0; last = r.1; allocated = r.2 }

-- the i-number that a step of a walk returns is in use if rule 9 holds
pub IfOk-found : (geometry : Geometry) (image : List ℕ) (d : ℕ) (name : List ℕ) (found : Option ℕ) (r : Result ℕ Refusal)
    → HasEntries geometry image → IsDirectory geometry image d → found ≡ get (names_of (slots geometry image d)) name
    → r ≡ ok_or found refusals.NoEntry → IfOk r (λ j. IsInUse geometry image j)
IfOk-found geometry image d name None r h directory e is = subst (λ r. IfOk r (λ j. IsInUse geometry image j)) (sym is) tt
IfOk-found geometry image d name (Some j) r h directory e is =
    subst (λ r. IfOk r (λ j. IsInUse geometry image j)) (sym is) (found_in_use geometry image d name j h directory (sym e))

-- the root is in use
pub IsInUse-root : (geometry : Geometry) (image : List ℕ) → Rules3To7 geometry image
    → IsInUse geometry image (constants geometry.edition).root
IsInUse-root geometry image h = record {
  first = omega arith;
  last = let fits = h.sound.fits.root in omega arith;
  allocated = λ e. let directory = h.sound.kinds.root in let free : kinds.Directory ≡ kinds.Free = sym directory ∙ e in cc;
}

-- a walk along a path begins at the root
pub walk-begins : (geometry : Geometry) (image : List ℕ) (cred : Cred) (path : List ℕ)
    → walk_from (tree geometry image) cred (constants geometry.edition).root (components path) ≡ walk (tree geometry image) cred path
unfolding tree walk
walk-begins geometry image cred path = refl

-- the node with an i-number of the volume is the node that its i-node represents
pub node_inside : (geometry : Geometry) (image : List ℕ) (i : ℕ) → 1 ≤ i → i ≤ geometry.last_inode → (tree geometry image).nodes i ≡ node_of geometry image i
unfolding tree
node_inside geometry image i low high =
    let number : is_number geometry i ≡ true = grind (arith, nat_tests) in
    ap (λ b. cond b (node_of geometry image i) None) number

-- the result of searching a node; NotDirectory if there is no node
abbrev searched : Cred → Option Node → Result Names Refusal
searched cred node = option_map_or (search_node cred) node (Err refusals.NotDirectory)

-- searching a number that is not an i-number of the volume returns NotDirectory
pub search-outside : (geometry : Geometry) (image : List ℕ) (cred : Cred) (i : ℕ) → is_number geometry i ≡ false
    → search (tree geometry image) cred i ≡ Err refusals.NotDirectory
unfolding tree
search-outside geometry image cred i number = ap (λ b. searched cred (cond b (node_of geometry image i) None)) number

-- the node that i-node `i` represents, if its kind is known
node-of-kind : (geometry : Geometry) (image : List ℕ) (i : ℕ) (kind : Kind) → kind_at geometry image i ≡ kind
    → node_of geometry image i ≡ option_map (node_with (inode_of geometry.edition image i)) (content_of geometry image i kind)
unfolding node_of
node-of-kind geometry image i kind e = ap (λ k. option_map (node_with (inode_of geometry.edition image i)) (content_of geometry image i k)) e

-- searching a directory returns its map if it grants execute, else Access
pub search-directory : (geometry : Geometry) (image : List ℕ) (cred : Cred) (i : ℕ) (b : Bool) → IsDirectory geometry image i
    → grants_at geometry image i may_execute cred ≡ b
    → search (tree geometry image) cred i ≡ (if b then Ok (names_of (slots geometry image i)) else Err refusals.Access)
search-directory geometry image cred i b h e =
    ap (searched cred) (node_inside geometry image i h.first h.last ∙ node-of-kind geometry image i kinds.Directory h.kind)
    ∙ ap (λ granted. if◌then◌else◌ {A = Result Names Refusal} granted (Ok (names_of (slots geometry image i))) (Err refusals.Access)) e

searched_other : (geometry : Geometry) (image : List ℕ) (cred : Cred) (i : ℕ) (kind : Kind) → kind ≢ kinds.Directory
    → searched cred (option_map (node_with (inode_of geometry.edition image i)) (content_of geometry image i kind)) ≡ Err refusals.NotDirectory
searched_other geometry image cred i kinds.Free h = refl
searched_other geometry image cred i kinds.Regular h = refl
searched_other geometry image cred i kinds.Directory h = absurd (h refl)
searched_other geometry image cred i kinds.Special h = refl
searched_other geometry image cred i kinds.Odd h = refl

-- searching an i-node that isn't a directory returns NotDirectory
pub search-other : (geometry : Geometry) (image : List ℕ) (cred : Cred) (i : ℕ) → 1 ≤ i → i ≤ geometry.last_inode
    → kind_at geometry image i ≢ kinds.Directory → search (tree geometry image) cred i ≡ Err refusals.NotDirectory
search-other geometry image cred i low high h =
    ap (searched cred) (node_inside geometry image i low high ∙ node-of-kind geometry image i (kind_at geometry image i) refl)
    ∙ searched_other geometry image cred i (kind_at geometry image i) h
