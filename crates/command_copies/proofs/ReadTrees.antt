-- The trees at some paths, read one after another.
use Rattle.std.proofs.Common.{◌≡◌, ◌∙◌, ◌<◌, ◌+◌, ◌++◌, ◌∷◌, ℕ, List, [], Result, true, false, append_assoc, length, map, take, drop, get_or, inl, inr, sym, ap, subst}
use Rattle.std.specs.Borrow.{Bor}
use Rattle.std.proofs.lemmas.List.{drop_more, map-append, take_more, take-append-drop}
use Rattle.vol_layout.specs.declared.geometry.Geometry.{Geometry}
use Rattle.std.specs.List.{flat_map}
use Rattle.vol_archive.specs.Export.{is_directory}
use Rattle.vol_archive.specs.Walk.{IsWalk}
use Rattle.vol_archive.specs.declared.met_entries.MetEntry.{MetEntry}
use Rattle.vol_listing.specs.Listings.{shown_path}
use Rattle.command_faults.specs.declared.fault.Fault.{Fault}
use Rattle.command_copies.specs.Nodes.{CopiedNode, copied_as, node_at}
use Rattle.command_copies.specs.Trees.{AreBelowIf, AreTreesRead, IsPathFault, IsTreeAt, IsTreeRead, IsUnread, entry_line, entry_nodes, line_of, more, name_of, nodes_of, none}
use Rattle.command_copies.specs.declared.nodes.NodeRead.{NodeRead}
use Rattle.command_copies.specs.declared.nodes.Uncopied.{Uncopied}

-- the text of a path
abbrev text : Bor (List ℕ) → List ℕ
text path = path.now

-- if nothing is read yet, the trees at no paths are
pub none_read : (g : Geometry) (image : List ℕ) (nodes : List NodeRead) (lines : List ℕ) → nodes ≡ [] → lines ≡ []
    → AreTreesRead g image [] (map copied_as nodes) lines
none_read g image nodes lines no_nodes no_lines =
    subst (λ (xs : List NodeRead). AreTreesRead g image [] (map copied_as xs) lines) (sym no_nodes)
    (subst (λ (l : List ℕ). AreTreesRead g image [] [] l) (sym no_lines) none)

-- with the tree at the next path appended, the trees at one path more are read
pub one_more : (g : Geometry) (image : List ℕ) (paths : List (Bor (List ℕ))) (k : ℕ) (d : Bor (List ℕ)) (old new last : List CopiedNode) (was lines told : List ℕ)
    → k < length paths → AreTreesRead g image (map text (take k paths)) old was → IsTreeRead g image (get_or paths k d).now last told
    → new ≡ old ++ last → lines ≡ was ++ told → AreTreesRead g image (map text (take (k + 1) paths)) new lines
one_more g image paths k d old new last was lines told within read tree nodes_are lines_are =
    let paths_are : map text (take (k + 1) paths) ≡ map text (take k paths) ++ (get_or paths k d).now ∷ [] =
    ap (map text) (take_more paths k d within) ∙ map-append text (take k paths) (get_or paths k d ∷ []) in
    subst (λ (given : List (List ℕ)). AreTreesRead g image given new lines) (sym paths_are)
    (subst (λ (nodes : List CopiedNode). AreTreesRead g image (map text (take k paths) ++ (get_or paths k d).now ∷ []) nodes lines) (sym nodes_are)
    (subst (λ (l : List ℕ). AreTreesRead g image (map text (take k paths) ++ (get_or paths k d).now ∷ []) (old ++ last) l) (sym lines_are)
    (more (map text (take k paths)) old was (get_or paths k d).now last told read tree)))

-- if the trees at the first paths are read and the next path isn't, its fault is that of all paths
pub first_unread : (g : Geometry) (image : List ℕ) (paths : List (Bor (List ℕ))) (k : ℕ) (d : Bor (List ℕ)) (nodes : List CopiedNode) (lines : List ℕ) (fault : Fault)
    → k < length paths → AreTreesRead g image (map text (take k paths)) nodes lines → IsPathFault g image (get_or paths k d).now fault
    → IsUnread g image (map text paths) fault
first_unread g image paths k d nodes lines fault within read (inl is) = inl is
first_unread g image paths k d nodes lines fault within read (inr refused) =
    let parts : paths ≡ take k paths ++ get_or paths k d ∷ drop (k + 1) paths =
    sym (take-append-drop k paths) ∙ ap (λ (rest : List (Bor (List ℕ))). take k paths ++ rest) (drop_more paths k d within) in
    inr (record {
      front = map text (take k paths);
      path = (get_or paths k d).now;
      rest = map text (drop (k + 1) paths);
      are = ap (map text) parts ∙ map-append text (take k paths) (get_or paths k d ∷ drop (k + 1) paths);
      nodes = nodes;
      lines = lines;
      read = read;
      refused = refused;
    })

-- if an i-node is a directory, a walk from it meets all that is below it
pub below_directory : (g : Geometry) (image : List ℕ) (start : ℕ) (founds : List MetEntry) → is_directory g image start ≡ true → IsWalk g image start founds
    → AreBelowIf (is_directory g image start) g image start founds
below_directory g image start founds is walk = subst (λ t. AreBelowIf t g image start founds) (sym is) walk

-- if an i-node is no directory, nothing is below it
pub below_nothing : (g : Geometry) (image : List ℕ) (start : ℕ) (founds : List MetEntry) → is_directory g image start ≡ false → founds ≡ []
    → AreBelowIf (is_directory g image start) g image start founds
below_nothing g image start founds is empty = subst (λ t. AreBelowIf t g image start founds) (sym is) empty

-- with the i-node to which a path leads and then everything below it appended, the tree at the path is
pub tree_at : (g : Geometry) (image path : List ℕ) (start : ℕ) (founds : List MetEntry) (name shown : List ℕ) (top : Result CopiedNode Uncopied)
    (old mid new : List CopiedNode) (was between lines : List ℕ) → AreBelowIf (is_directory g image start) g image start founds → name ≡ name_of path
    → shown ≡ shown_path path → top ≡ node_at g image name start → mid ≡ old ++ nodes_of top → new ≡ mid ++ flat_map (entry_nodes g image name) founds
    → between ≡ was ++ line_of shown top → lines ≡ between ++ flat_map (entry_line g image name shown) founds
    → (last : List CopiedNode) × (told : List ℕ) × IsTreeAt g image path start last told × (new ≡ old ++ last) × (lines ≡ was ++ told)
tree_at g image path start founds name shown top old mid new was between lines below named is read mid_is new_is between_is lines_are =
    let nodes : List MetEntry → List CopiedNode = flat_map (entry_nodes g image name) in
    let words : List MetEntry → List ℕ = flat_map (entry_line g image name shown) in (
      nodes_of top ++ nodes founds,
      line_of shown top ++ words founds,
      record {
        founds = founds;
        below = below;
        copied = ap (λ (t : Result CopiedNode Uncopied). nodes_of t ++ nodes founds) read
            ∙ ap (λ (n : List ℕ). nodes_of (node_at g image n start) ++ flat_map (entry_nodes g image n) founds) named;
        told = ap (λ (t : Result CopiedNode Uncopied). line_of shown t ++ words founds) read
            ∙ ap (λ (n : List ℕ). line_of shown (node_at g image n start) ++ flat_map (entry_line g image n shown) founds) named
            ∙ ap (λ (s : List ℕ). line_of s (node_at g image (name_of path) start) ++ flat_map (entry_line g image (name_of path) s) founds) is;
      },
      new_is ∙ (ap (λ (xs : List CopiedNode). xs ++ nodes founds) mid_is ∙ append_assoc old (nodes_of top) (nodes founds)),
      lines_are ∙ (ap (λ (xs : List ℕ). xs ++ words founds) between_is ∙ append_assoc was (line_of shown top) (words founds)),
    )
