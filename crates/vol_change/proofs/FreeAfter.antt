-- The number of free blocks after each call.
use Rattle.std.proofs.Common.{◌≡◌, ◌≢◌, ◌∙◌, sym, ap, refl, ℕ, ◌+◌, ◌-◌, ◌≤◌, ◌==◌, Bool, true, false, if◌then◌else◌, List, [], ◌∷◌, length, Option, None, Some, arith, inl, inr}
use Rattle.std.specs.Option.{option_map, unwrap_or}
use Rattle.std.specs.Prelude.{nat_le}
use Rattle.std.proofs.lemmas.Bool.{cases_eq}
use Rattle.std.proofs.lemmas.Bool.Decides.{nat_tests}
use Rattle.vol_layout.specs.Inode.{kind_of}
use Rattle.vol_layout.specs.declared.geometry.Geometry.{Geometry}
use Rattle.vol_layout.specs.declared.mode.Kind.TheVariants as kinds
use Rattle.vol_layout.proofs.KindLaws.{kind_zero}
use Rattle.vol_free.specs.Numbers.{IsFreeNumber}
use Rattle.vol_file.specs.Rules.{kind_at}
use Rattle.vol_file.specs.Shape.{touched}
use Rattle.vol_file.proofs.MissingLaws.{need_nothing}
use Rattle.vol_dir.specs.Entries.{IsDirectory}
use Rattle.vol_dir.specs.Names.{get, remove}
use Rattle.vol_dir.specs.Tree.{Node, Shape, State, no_shape, form_in, place_count, free_count, shapes, tree, state}
use Rattle.vol_dir.specs.declared.cred.Cred.{Cred}
use Rattle.vol_change.specs.declared.new_nodes.NewFile.{NewFile}
use Rattle.vol_change.specs.Edits.{set_at, at_time, modified, change_names, remove_entry, remove_node, drop_link, release, after_write, after_truncate}
use Rattle.vol_change.specs.Nodes.{no_node, node_at, names_at, number_of_name}
use Rattle.vol_change.specs.Shapes.{need_in, stored_shape, entry_blocks, shape_with_entry, shape_without_entry, cut_shape, cut_count, new_directory_shape}
use Rattle.vol_change.proofs.CutCounts.{cut_leaves}
use Rattle.vol_change.proofs.PlaceCounts.{stored_count, entry_count, gone_count, none_count, new_directory_count, set_other, set_count, set_counts, free_less, free_more, free_same, free_gone, sum_within}
use Rattle.vol_change.specs.Effects.{after_create, after_mkdir, after_link, after_unlink, after_rmdir}
use Rattle.vol_change.specs.Ready.{Rules1To12, entry_need, free_in}
use Rattle.vol_change.proofs.ReadyLaws.{ready_whole}
use Rattle.vol_change.proofs.SideStates.{free_shape}

-- adding an entry to a directory takes the blocks that the entry needs from the free ones
pub entry_takes : (geometry : Geometry) (shapes : ℕ → Shape) (d : ℕ) (name : List ℕ) → 1 ≤ d → d ≤ geometry.last_inode
    → free_count geometry (set_at shapes d (shape_with_entry geometry.edition (shapes d) name))
    ≡ free_count geometry shapes - need_in geometry.edition (shapes d) (entry_blocks (shapes d))
entry_takes geometry shapes d name first last =
    free_less geometry shapes d (shape_with_entry geometry.edition (shapes d) name) (need_in geometry.edition (shapes d) (entry_blocks (shapes d))) first last
    (entry_count geometry.edition (shapes d) name)

-- an i-number for a new node has a free i-node
free_kind : (geometry : Geometry) (image : List ℕ) (i : ℕ) → IsFreeNumber geometry image i → kind_at geometry image i ≡ kinds.Free
free_kind geometry image i free = ap (kind_of geometry.edition) free.mode ∙ kind_zero geometry.edition

-- an i-number for a new node isn't a directory
free_other : (geometry : Geometry) (image : List ℕ) (i d : ℕ) → IsFreeNumber geometry image i → IsDirectory geometry image d → d ≢ i
free_other geometry image i d free is =
    λ e. let same : kinds.Directory ≡ kinds.Free = sym is.kind ∙ (ap (kind_at geometry image) e ∙ free_kind geometry image i free) in cc

-- freeing a node frees its blocks, even after an entry was removed
lost_blocks : (geometry : Geometry) (image : List ℕ) (d i : ℕ) (name : List ℕ) → Rules1To12 geometry image
    → free_count geometry (set_at (set_at (shapes geometry image) d (shape_without_entry (shapes geometry image d) name)) i no_shape)
    ≡ free_count geometry (shapes geometry image) + place_count geometry.edition (shapes geometry image i)
lost_blocks geometry image d i name ready =
    let e = geometry.edition in
    let old : ℕ → Shape = shapes geometry image in
    let mid : ℕ → Shape = set_at old d (shape_without_entry (old d) name) in
    free_same geometry (set_at mid i no_shape) (set_at old i no_shape)
    (set_counts e mid old i no_shape (set_count e old d (shape_without_entry (old d) name) (gone_count e (old d) name)))
    ∙ free_gone geometry image i (ready_whole geometry image ready)

-- creating a file takes the blocks that its entry needs
pub free_after_create : (geometry : Geometry) (image : List ℕ) (owner : Cred) (now perm : ℕ) (file : NewFile) (made d : ℕ) (name : List ℕ)
    → IsFreeNumber geometry image made → IsDirectory geometry image d
    → free_in (at_time now (after_create (state geometry image) owner now perm file made d name)) ≡ free_in (state geometry image) - entry_need (state geometry image) d
unfolding tree
free_after_create geometry image owner now perm file made d name free is =
    let e = geometry.edition in
    let old : ℕ → Shape = shapes geometry image in
    let mid : ℕ → Shape = set_at old made no_shape in
    let none : old made ≡ no_shape = free_shape geometry image made free in
    let same : free_count geometry mid ≡ free_count geometry old = free_same geometry mid old (set_count e old made no_shape (ap (place_count e) (sym none))) in
    let there : mid d ≡ old d = set_other old made no_shape d (free_other geometry image made d free is) in
    let need : need_in e (mid d) (entry_blocks (mid d)) ≡ need_in e (old d) (entry_blocks (old d)) = ap (λ x. need_in e x (entry_blocks x)) there in
    let taken : free_count geometry mid - need_in e (mid d) (entry_blocks (mid d)) ≡ free_count geometry old - need_in e (old d) (entry_blocks (old d)) =
    omega (arith, same, need) in
    entry_takes geometry mid d name is.first is.last ∙ taken

-- creating a directory takes the blocks that its entry needs, and one of its own
pub free_after_mkdir : (geometry : Geometry) (image : List ℕ) (owner : Cred) (now perm made d : ℕ) (name : List ℕ)
    → IsFreeNumber geometry image made → IsDirectory geometry image d
    → free_in (at_time now (after_mkdir (state geometry image) owner now perm made d name))
    ≡ free_in (state geometry image) - (entry_need (state geometry image) d + 1)
unfolding tree
free_after_mkdir geometry image owner now perm made d name free is =
    let e = geometry.edition in
    let old : ℕ → Shape = shapes geometry image in
    let mid : ℕ → Shape = set_at old made (new_directory_shape e) in
    let none : place_count e (old made) ≡ 0 = ap (place_count e) (free_shape geometry image made free) ∙ none_count e in
    let one : place_count e (new_directory_shape e) ≡ 1 = new_directory_count e in
    let less : free_count geometry mid ≡ free_count geometry old - 1 =
    free_less geometry old made (new_directory_shape e) 1 (omega (arith, free.above)) free.within (omega (arith, none, one)) in
    let there : mid d ≡ old d = set_other old made (new_directory_shape e) d (free_other geometry image made d free is) in
    let need : need_in e (mid d) (entry_blocks (mid d)) ≡ need_in e (old d) (entry_blocks (old d)) = ap (λ x. need_in e x (entry_blocks x)) there in
    let taken : free_count geometry mid - need_in e (mid d) (entry_blocks (mid d)) ≡ free_count geometry old - (need_in e (old d) (entry_blocks (old d)) + 1) =
    omega (arith, less, need) in
    entry_takes geometry mid d name is.first is.last ∙ taken

-- adding a name takes the blocks that its entry needs
pub free_after_link : (geometry : Geometry) (image : List ℕ) (now i d : ℕ) (name : List ℕ) → IsDirectory geometry image d
    → free_in (at_time now (after_link (state geometry image) now i d name)) ≡ free_in (state geometry image) - entry_need (state geometry image) d
unfolding tree
free_after_link geometry image now i d name is = entry_takes geometry (shapes geometry image) d name is.first is.last

-- the state's i-number of a name is the one in the map
pub entry_is : (state : State) (d i : ℕ) (name : List ℕ) → get (names_at state.tree d) name ≡ Some i → number_of_name state.tree d name ≡ i
entry_is state d i name named = ap (λ o. unwrap_or o 0) named

-- removing an entry from a node doesn't change its link count
links_mapped : (now : ℕ) (name : List ℕ) (o : Option Node)
    → (unwrap_or (option_map (λ node. record (modified now node) { content = change_names (λ names. remove names name) node.content }) o) no_node).links
    ≡ (unwrap_or o no_node).links
links_mapped now name None = refl
links_mapped now name (Some node) = refl

-- removing an entry changes no link count
pub links_kept : (state : State) (now d i : ℕ) (name : List ℕ) → (node_at (remove_entry now d name state).tree i).links ≡ (node_at state.tree i).links
links_kept state now d i name =
    let change : Option Node → Option Node = option_map (λ node. record (modified now node) { content = change_names (λ names. remove names name) node.content }) in
    elim (cases_eq i d) [
      | inl e ↦
          let same : (i == d) ≡ true = grind (arith, nat_tests) in
          ap (λ t. (unwrap_or (if t then change (state.tree.nodes d) else state.tree.nodes i) no_node).links) same
          ∙ (links_mapped now name (state.tree.nodes d) ∙ ap (λ x. (unwrap_or (state.tree.nodes x) no_node).links) (sym e))
      | inr other ↦
          let differ : (i == d) ≡ false = grind (arith, nat_tests) in
          ap (λ t. (unwrap_or (if t then change (state.tree.nodes d) else state.tree.nodes i) no_node).links) differ
    ]

-- removing an entry doesn't change the number of blocks of a file
pub count_left : (geometry : Geometry) (old mid : List ℕ) (now i d : ℕ) (name : List ℕ) → state geometry mid ≡ remove_entry now d name (state geometry old)
    → place_count geometry.edition (shapes geometry mid i) ≡ place_count geometry.edition (shapes geometry old i)
unfolding tree
count_left geometry old mid now i d name makes =
    let was : ℕ → Shape = shapes geometry old in
    ap (λ (s : State). place_count geometry.edition (s.shapes i)) makes
    ∙ set_count geometry.edition was d (shape_without_entry (was d) name) (gone_count geometry.edition (was d) name) i

-- after an entry is removed, releasing its node removes the node or drops a link, depending on the link count
released : (state : State) (now i d : ℕ) (name : List ℕ) (last : Bool) → nat_le (node_at state.tree i).links 1 ≡ last
    → free_in (at_time now (release now i (remove_entry now d name state)))
    ≡ free_in (if last then remove_node i (remove_entry now d name state) else drop_link now i (remove_entry now d name state))
released state now i d name last is =
    let mid = remove_entry now d name state in
    ap (λ t. free_in (at_time now (if t then remove_node i mid else drop_link now i mid))) (ap (λ n. nat_le n 1) (links_kept state now d i name) ∙ is)

-- removing a name frees no blocks if the node has another name
pub free_after_unlink : (geometry : Geometry) (image : List ℕ) (now i d : ℕ) (name : List ℕ)
    → get (names_at (state geometry image).tree d) name ≡ Some i → 2 ≤ (node_at (state geometry image).tree i).links
    → free_in (at_time now (after_unlink (state geometry image) now d name)) ≡ free_in (state geometry image)
unfolding tree
free_after_unlink geometry image now i d name named many =
    let e = geometry.edition in
    let old : ℕ → Shape = shapes geometry image in
    let more : nat_le (node_at (state geometry image).tree i).links 1 ≡ false = grind (arith, nat_tests) in
    ap (λ x. free_in (at_time now (release now x (remove_entry now d name (state geometry image))))) (entry_is (state geometry image) d i name named)
    ∙ (released (state geometry image) now i d name false more
    ∙ free_same geometry (set_at old d (shape_without_entry (old d) name)) old
    (set_count e old d (shape_without_entry (old d) name) (gone_count e (old d) name)))

-- removing the last name of a node frees the node's blocks
pub free_after_last_unlink : (geometry : Geometry) (image : List ℕ) (now i d : ℕ) (name : List ℕ) → Rules1To12 geometry image
    → get (names_at (state geometry image).tree d) name ≡ Some i → (node_at (state geometry image).tree i).links ≤ 1
    → free_in (at_time now (after_unlink (state geometry image) now d name))
    ≡ free_in (state geometry image) + place_count geometry.edition ((state geometry image).shapes i)
unfolding tree
free_after_last_unlink geometry image now i d name ready named few =
    let last : nat_le (node_at (state geometry image).tree i).links 1 ≡ true = grind (arith, nat_tests) in
    ap (λ x. free_in (at_time now (release now x (remove_entry now d name (state geometry image))))) (entry_is (state geometry image) d i name named)
    ∙ (released (state geometry image) now i d name true last
    ∙ lost_blocks geometry image d i name ready)

-- removing a directory frees its blocks
pub free_after_rmdir : (geometry : Geometry) (image : List ℕ) (now i d : ℕ) (name : List ℕ) → Rules1To12 geometry image
    → get (names_at (state geometry image).tree d) name ≡ Some i
    → free_in (at_time now (after_rmdir (state geometry image) now d name))
    ≡ free_in (state geometry image) + place_count geometry.edition ((state geometry image).shapes i)
unfolding tree
free_after_rmdir geometry image now i d name ready named =
    ap (λ x. free_in (remove_node x (drop_link now d (remove_entry now d name (state geometry image))))) (entry_is (state geometry image) d i name named)
    ∙ lost_blocks geometry image d i name ready

-- a write takes the blocks that it needs
pub free_after_write : (geometry : Geometry) (image : List ℕ) (now offset i : ℕ) (bytes : List ℕ) → 1 ≤ i → i ≤ geometry.last_inode
    → free_in (at_time now (after_write (state geometry image) now offset bytes i))
    ≡ free_in (state geometry image) - need_in geometry.edition ((state geometry image).shapes i) (touched offset (length bytes))
unfolding tree
free_after_write geometry image now offset i [] first last =
    let old : ℕ → Shape = shapes geometry image in
    let none : need_in geometry.edition (old i) [] ≡ 0 = need_nothing (form_in geometry.edition (old i).large) (old i).names in
    let same : free_count geometry old ≡ free_count geometry old - need_in geometry.edition (old i) [] = omega (arith, none) in same
free_after_write geometry image now offset i (byte ∷ bytes) first last =
    let old : ℕ → Shape = shapes geometry image in
    let blocks = touched offset (length (byte ∷ bytes)) in
    free_less geometry old i (stored_shape geometry.edition (old i) blocks) (need_in geometry.edition (old i) blocks) first last
    (stored_count geometry.edition (old i) blocks)

-- a truncation frees the blocks that the remaining bytes don't need
pub free_after_truncate : (geometry : Geometry) (image : List ℕ) (now size i : ℕ) → Rules1To12 geometry image → 1 ≤ i → i ≤ geometry.last_inode
    → free_in (at_time now (after_truncate (state geometry image) now size i))
    ≡ free_in (state geometry image) + cut_count geometry.edition ((state geometry image).shapes i) size
unfolding tree
free_after_truncate geometry image now size i ready first last =
    let old : ℕ → Shape = shapes geometry image in
    free_more geometry old i (cut_shape geometry.edition (old i) size) (cut_count geometry.edition (old i) size) first last
    (sum_within geometry image (ready_whole geometry image ready)) (cut_leaves geometry.edition (old i) size)
