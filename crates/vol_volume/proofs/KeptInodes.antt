-- The unused bytes of i-nodes after each call.
use Rattle.std.proofs.Common.{◌≡◌, ◌≢◌, ◌∙◌, sym, ap, refl, ℕ, ◌+◌, ◌-◌, ◌<◌, ◌≤◌, if◌then◌else◌, Bool, true, false, nat_le, List, [], ◌∷◌, length, slice_index, max, take, Option, None, Some, inl, inr, eq-eqb, arith}
use Rattle.std.specs.Option.{option_map, is_none}
use Rattle.std.proofs.lemmas.Bool.{cases_eq, true≢false}
use Rattle.std.proofs.lemmas.Bool.Decides.{nat_tests}
use Rattle.vol_layout.specs.Inode.{inode_place}
use Rattle.vol_layout.specs.declared.edition.Edition.TheVariants.{V7}
use Rattle.vol_file.specs.Changes.{spliced}
use Rattle.vol_layout.specs.declared.geometry.Geometry.{Geometry}
use Rattle.vol_dir.specs.Names.{get, insert, remove}
use Rattle.vol_dir.specs.Tree.{Body, Node, State, no_shape, state}
use Rattle.vol_change.specs.declared.new_nodes.NewFile.{NewFile}
use Rattle.vol_dir.specs.declared.cred.Cred.{Cred}
use Rattle.vol_change.specs.Edits.{put_node, put_shape, change_node, remove_node, at_time, stamped, modified, new_content, new_node, change_names, add_entry, remove_entry, add_link, drop_link, release, body_of, new_directory, after_write, after_truncate, with_permission_bits, with_owner, with_times}
use Rattle.vol_change.specs.Nodes.{node_at, names_at, size_with_entry}
use Rattle.vol_change.specs.Shapes.{new_directory_shape}
use Rattle.vol_change.specs.Unused.{IsCleared, KeepsUnused}
use Rattle.vol_change.specs.Effects.{after_create, after_mkdir, after_link, after_unlink, after_rmdir, after_chmod, after_chown, after_utime}
use Rattle.vol_change.proofs.FreeAfter.{entry_is, links_kept}
use Rattle.vol_change.proofs.NodeEdits.{set_here}
use Rattle.vol_change.proofs.SideStates.{set_beside}
use Rattle.vol_volume.specs.Inodes.{is_free, KeepsInodes}

-- true if no node of a state has this i-number
abbrev free_at : State → ℕ → Bool
free_at state j = is_none (state.tree.nodes j)

-- changing an optional node doesn't change whether it exists
mapped_free : (change : Node → Node) (node : Option Node) → is_none (option_map change node) ≡ is_none node
mapped_free change None = refl
mapped_free change (Some node) = refl

-- changing a node doesn't change which i-numbers are free
changed_free : (state : State) (i : ℕ) (change : Node → Node) (j : ℕ) → free_at (change_node i change state) j ≡ free_at state j
changed_free state i change j = elim (cases_eq j i) [
  | inl e ↦
      ap (λ t. is_none (if t then option_map change (state.tree.nodes i) else state.tree.nodes j)) (eq-eqb j i e)
      ∙ (mapped_free change (state.tree.nodes i) ∙ ap (λ k. is_none (state.tree.nodes k)) (sym e))
  | inr other ↦ ap is_none (set_beside state.tree.nodes i (option_map change (state.tree.nodes i)) j other)
]

-- adding an entry doesn't change which i-numbers are free
added_free : (state : State) (now d : ℕ) (name : List ℕ) (i j : ℕ) → free_at (add_entry now d name i state) j ≡ free_at state j
added_free state now d name i j =
    changed_free state d (λ node. record (modified now node) {
      content = change_names (λ names. insert names name i) node.content;
      size = size_with_entry state d;
    }) j

-- removing an entry doesn't change which i-numbers are free
removed_free : (state : State) (now d : ℕ) (name : List ℕ) (j : ℕ) → free_at (remove_entry now d name state) j ≡ free_at state j
removed_free state now d name j =
    changed_free state d (λ node. record (modified now node) { content = change_names (λ names. remove names name) node.content }) j

-- adding a link doesn't change which i-numbers are free
link_free : (state : State) (now i j : ℕ) → free_at (add_link now i state) j ≡ free_at state j
link_free state now i j = changed_free state i (λ node. record (stamped now node) { links = node.links + 1 }) j

unlink_free : (state : State) (now i j : ℕ) → free_at (drop_link now i state) j ≡ free_at state j
unlink_free state now i j = changed_free state i (λ node. record (stamped now node) { links = node.links - 1 }) j

-- a write doesn't change which i-numbers are free
write_free : (state : State) (now offset : ℕ) (bytes : List ℕ) (i j : ℕ) → free_at (after_write state now offset bytes i) j ≡ free_at state j
write_free state now offset [] i j = refl
write_free state now offset (byte ∷ bytes) i j =
    changed_free state i (λ node. record (modified now node) {
      content = Body (spliced (body_of node.content) offset (byte ∷ bytes));
      size = max node.size (offset + length (byte ∷ bytes));
    }) j

-- a truncation doesn't change which i-numbers are free
truncate_free : (state : State) (now size i j : ℕ) → free_at (after_truncate state now size i) j ≡ free_at state j
truncate_free state now size i j =
    changed_free state i (λ node. record (modified now node) { content = Body (take size (body_of node.content)); size = size }) j

module _ (geometry : Geometry) (old new : List ℕ) where
  -- an i-number is free in the image exactly if it is free in the state that the image reads as
  free_as : (made : State) → state geometry new ≡ made → (j : ℕ) → is_free geometry new j ≡ free_at made j
  free_as made makes j = ap (λ s. free_at s j) makes

  -- if the same i-numbers are free and no unused byte changes, `KeepsInodes` holds
  inodes_same : ((j : ℕ) → is_free geometry new j ≡ is_free geometry old j)
      → ((j : ℕ) → 1 ≤ j → j ≤ geometry.last_inode → KeepsUnused geometry old new j) → KeepsInodes geometry old new
  inodes_same same kept = record {
    cleared = λ j was is. absurd (true≢false (sym is ∙ same j ∙ was));
    made = λ j was is. absurd (true≢false (sym was ∙ sym (same j) ∙ is));
    unused = λ j first last stays. kept j first last;
  }

  -- if only i-number i is newly in use, with byte 51 set to 0, `KeepsInodes` holds
  inodes_made : (i : ℕ) → is_free geometry old i ≡ true → is_free geometry new i ≡ false
      → ((j : ℕ) → j ≢ i → is_free geometry new j ≡ is_free geometry old j)
      → (geometry.edition ≡ V7 → slice_index new (inode_place V7 i + 51) ≡ 0)
      → ((j : ℕ) → 1 ≤ j → j ≤ geometry.last_inode → j ≢ i → KeepsUnused geometry old new j) → KeepsInodes geometry old new
  inodes_made i free taken same zero kept = record {
    cleared = λ j was is. elim (cases_eq j i) [
      | inl e ↦ absurd (true≢false (sym free ∙ ap (is_free geometry old) (sym e) ∙ was))
      | inr other ↦ absurd (true≢false (sym is ∙ same j other ∙ was))
    ];
    made = λ j was is. elim (cases_eq j i) [
      | inl e ↦ rw e zero
      | inr other ↦ absurd (true≢false (sym was ∙ sym (same j other) ∙ is))
    ];
    unused = λ j first last stays. elim (cases_eq j i) [
      | inl e ↦ absurd (true≢false (sym free ∙ ap (is_free geometry old) (sym e) ∙ sym stays ∙ ap (is_free geometry new) e ∙ taken))
      | inr other ↦ kept j first last other
    ];
  }

  -- if only i-number i is newly free, with its i-node cleared, `KeepsInodes` holds
  inodes_lost : (i : ℕ) → is_free geometry old i ≡ false → is_free geometry new i ≡ true
      → ((j : ℕ) → j ≢ i → is_free geometry new j ≡ is_free geometry old j) → IsCleared geometry new i
      → ((j : ℕ) → 1 ≤ j → j ≤ geometry.last_inode → j ≢ i → KeepsUnused geometry old new j) → KeepsInodes geometry old new
  inodes_lost i taken free same zero kept = record {
    cleared = λ j was is. elim (cases_eq j i) [
      | inl e ↦ rw e zero
      | inr other ↦ absurd (true≢false (sym is ∙ same j other ∙ was))
    ];
    made = λ j was is. elim (cases_eq j i) [
      | inl e ↦ absurd (true≢false (sym free ∙ ap (is_free geometry new) (sym e) ∙ is))
      | inr other ↦ absurd (true≢false (sym was ∙ sym (same j other) ∙ is))
    ];
    unused = λ j first last stays. elim (cases_eq j i) [
      | inl e ↦ absurd (true≢false (sym free ∙ ap (is_free geometry new) (sym e) ∙ stays ∙ ap (is_free geometry old) e ∙ taken))
      | inr other ↦ kept j first last other
    ];
  }

  -- `KeepsInodes` holds after Chmod
  pub chmod_inodes : (now perm i : ℕ) → state geometry new ≡ at_time now (after_chmod (state geometry old) now perm i)
      → ((j : ℕ) → 1 ≤ j → j ≤ geometry.last_inode → KeepsUnused geometry old new j) → KeepsInodes geometry old new
  chmod_inodes now perm i makes kept =
      inodes_same (λ j. free_as _ makes j ∙ changed_free (state geometry old) i (with_permission_bits now perm) j) kept

  -- `KeepsInodes` holds after Chown
  pub chown_inodes : (now uid gid i : ℕ) → state geometry new ≡ at_time now (after_chown (state geometry old) now uid gid i)
      → ((j : ℕ) → 1 ≤ j → j ≤ geometry.last_inode → KeepsUnused geometry old new j) → KeepsInodes geometry old new
  chown_inodes now uid gid i makes kept =
      inodes_same (λ j. free_as _ makes j ∙ changed_free (state geometry old) i (with_owner now uid gid) j) kept

  -- `KeepsInodes` holds after Times
  pub times_inodes : (now atime mtime i : ℕ) → state geometry new ≡ at_time now (after_utime (state geometry old) now atime mtime i)
      → ((j : ℕ) → 1 ≤ j → j ≤ geometry.last_inode → KeepsUnused geometry old new j) → KeepsInodes geometry old new
  times_inodes now atime mtime i makes kept =
      inodes_same (λ j. free_as _ makes j ∙ changed_free (state geometry old) i (with_times now atime mtime) j) kept

  -- `KeepsInodes` holds after Write
  pub write_inodes : (now offset : ℕ) (bytes : List ℕ) (i : ℕ)
      → state geometry new ≡ at_time now (after_write (state geometry old) now offset bytes i)
      → ((j : ℕ) → 1 ≤ j → j ≤ geometry.last_inode → KeepsUnused geometry old new j) → KeepsInodes geometry old new
  write_inodes now offset bytes i makes kept =
      inodes_same (λ j. free_as _ makes j ∙ write_free (state geometry old) now offset bytes i j) kept

  -- `KeepsInodes` holds after Truncate
  pub truncate_inodes : (now size i : ℕ) → state geometry new ≡ at_time now (after_truncate (state geometry old) now size i)
      → ((j : ℕ) → 1 ≤ j → j ≤ geometry.last_inode → KeepsUnused geometry old new j) → KeepsInodes geometry old new
  truncate_inodes now size i makes kept = inodes_same (λ j. free_as _ makes j ∙ truncate_free (state geometry old) now size i j) kept

  -- `KeepsInodes` holds after Link
  pub link_inodes : (now i d : ℕ) (name : List ℕ) → state geometry new ≡ at_time now (after_link (state geometry old) now i d name)
      → ((j : ℕ) → 1 ≤ j → j ≤ geometry.last_inode → KeepsUnused geometry old new j) → KeepsInodes geometry old new
  link_inodes now i d name makes kept =
      let was = state geometry old in
      inodes_same (λ j. free_as _ makes j ∙ (added_free (add_link now i was) now d name i j ∙ link_free was now i j)) kept

  -- `KeepsInodes` holds after a creation
  pub create_inodes : (cred : Cred) (now perm : ℕ) (file : NewFile) (i d : ℕ) (name : List ℕ)
      → state geometry new ≡ at_time now (after_create (state geometry old) cred now perm file i d name) → is_free geometry old i ≡ true
      → (geometry.edition ≡ V7 → slice_index new (inode_place V7 i + 51) ≡ 0)
      → ((j : ℕ) → 1 ≤ j → j ≤ geometry.last_inode → j ≢ i → KeepsUnused geometry old new j) → KeepsInodes geometry old new
  create_inodes cred now perm file i d name makes free zero kept =
      let was = state geometry old in
      let node : Option Node = Some (new_node was.tree.geometry.edition cred now perm (new_content was.tree.geometry.edition file) 1 0) in
      let put = put_shape i no_shape (put_node i node was) in
      inodes_made i free
      (free_as _ makes i ∙ (added_free put now d name i i ∙ ap is_none (set_here was.tree.nodes i node)))
      (λ j other. free_as _ makes j ∙ (added_free put now d name i j ∙ ap is_none (set_beside was.tree.nodes i node j other)))
      zero kept

  -- `KeepsInodes` holds after Mkdir
  pub mkdir_inodes : (cred : Cred) (now perm i d : ℕ) (name : List ℕ)
      → state geometry new ≡ at_time now (after_mkdir (state geometry old) cred now perm i d name) → is_free geometry old i ≡ true
      → (geometry.edition ≡ V7 → slice_index new (inode_place V7 i + 51) ≡ 0)
      → ((j : ℕ) → 1 ≤ j → j ≤ geometry.last_inode → j ≢ i → KeepsUnused geometry old new j) → KeepsInodes geometry old new
  mkdir_inodes cred now perm i d name makes free zero kept =
      let was = state geometry old in
      let node : Option Node = Some (new_node was.tree.geometry.edition cred now perm (new_directory i d) 2 32) in
      let put = put_shape i (new_directory_shape was.tree.geometry.edition) (put_node i node was) in
      let last = add_entry now d name i put in
      inodes_made i free
      (free_as _ makes i ∙ (link_free last now d i ∙ (added_free put now d name i i ∙ ap is_none (set_here was.tree.nodes i node))))
      (λ j other. free_as _ makes j
      ∙ (link_free last now d j ∙ (added_free put now d name i j ∙ ap is_none (set_beside was.tree.nodes i node j other))))
      zero kept

  -- `KeepsInodes` holds after Rmdir
  pub rmdir_inodes : (now i d : ℕ) (name : List ℕ) → state geometry new ≡ at_time now (after_rmdir (state geometry old) now d name)
      → get (names_at (state geometry old).tree d) name ≡ Some i → is_free geometry old i ≡ false → IsCleared geometry new i
      → ((j : ℕ) → 1 ≤ j → j ≤ geometry.last_inode → j ≢ i → KeepsUnused geometry old new j) → KeepsInodes geometry old new
  rmdir_inodes now i d name makes named taken zero kept =
      let was = state geometry old in
      let mid = remove_entry now d name was in
      let low = drop_link now d mid in
      let makes_of : state geometry new ≡ at_time now (remove_node i low) =
      makes ∙ ap (λ k. at_time now (remove_node k low)) (entry_is was d i name named) in
      inodes_lost i taken
      (free_as _ makes_of i ∙ ap is_none (set_here low.tree.nodes i None))
      (λ j other. free_as _ makes_of j
      ∙ (ap is_none (set_beside low.tree.nodes i None j other) ∙ (unlink_free mid now d j ∙ removed_free was now d name j)))
      zero kept

  -- `KeepsInodes` holds after Unlink
  pub unlink_inodes : (now i d links : ℕ) (name : List ℕ) → state geometry new ≡ at_time now (after_unlink (state geometry old) now d name)
      → get (names_at (state geometry old).tree d) name ≡ Some i → is_free geometry old i ≡ false → 1 ≤ i → i ≤ geometry.last_inode
      → (node_at (state geometry old).tree i).links ≡ links → (links ≤ 1 → IsCleared geometry new i)
      → (1 < links → KeepsUnused geometry old new i)
      → ((j : ℕ) → 1 ≤ j → j ≤ geometry.last_inode → j ≢ i → KeepsUnused geometry old new j) → KeepsInodes geometry old new
  unlink_inodes now i d links name makes named taken first last counted zero stays kept =
      let was = state geometry old in
      let mid = remove_entry now d name was in
      let makes_of : (b : Bool) → nat_le links 1 ≡ b → state geometry new ≡ at_time now (if b then remove_node i mid else drop_link now i mid) =
      λ b is. makes ∙ (ap (λ k. at_time now (release now k mid)) (entry_is was d i name named)
      ∙ ap (λ t. at_time now (if t then remove_node i mid else drop_link now i mid))
      (ap (λ n. nat_le n 1) (links_kept was now d i name ∙ counted) ∙ is)) in
      elim (nat_le links 1) as (λ b. nat_le links 1 ≡ b → KeepsInodes geometry old new) [
        | true ↦ λ is.
            let few : links ≤ 1 = grind (arith, nat_tests, is) in
            inodes_lost i taken
            (free_as _ (makes_of true is) i ∙ ap is_none (set_here mid.tree.nodes i None))
            (λ j other. free_as _ (makes_of true is) j
            ∙ (ap is_none (set_beside mid.tree.nodes i None j other) ∙ removed_free was now d name j))
            (zero few) kept
        | false ↦ λ is.
            let many : 1 < links = grind (arith, nat_tests, is) in
            inodes_same (λ j. free_as _ (makes_of false is) j ∙ (unlink_free mid now i j ∙ removed_free was now d name j))
            (λ j low high. elim (cases_eq j i) [
              | inl e ↦ rw e (stays many)
              | inr other ↦ kept j low high other
            ])
      ] refl
