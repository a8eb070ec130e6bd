-- The directories of a new volume: only the root, with the entries `.` and `..`.
use Rattle.std.specs.Prelude.{nat_lt, ◌==◌}
use Rattle.std.proofs.Common.{◌≡◌, ◌≢◌, ℕ, zero, suc, ◌+◌, ◌*◌, ◌/◌, ◌%◌, ◌<◌, ◌≤◌, List, [], ◌∷◌, refl, sym, ap, subst, ◌∙◌, arith, ◌⊎◌, inl, inr, get_or, true, false, length, map, Option, Some, None}
use Rattle.std.specs.Option.{is_some}
use Rattle.std.specs.List.{range_with_len, sum_by, count_by, list_any}
use Rattle.std.proofs.lemmas.Bool.{cases_eq, false≢true}
use Rattle.std.proofs.lemmas.Bool.Decides.{nat_tests}
use Rattle.std.proofs.lemmas.List.Sums.{sum_by-cons}
use Rattle.vol_layout.specs.Edition.{constants}
use Rattle.vol_layout.specs.Geometry.{Fits, in_zone}
use Rattle.vol_layout.specs.Inode.{inode_of, kind_of}
use Rattle.vol_layout.specs.BlockPointers.{form_at, stored}
use Rattle.vol_layout.specs.BlockMaps.{form_of, last_place}
use Rattle.vol_layout.specs.Body.{body, body_size, body_byte, zone_byte}
use Rattle.vol_layout.specs.Slot.{slot_at, padded_name, name_of}
use Rattle.vol_layout.specs.declared.edition.Edition.{Edition}
use Rattle.vol_layout.specs.declared.edition.Edition.TheVariants.{V6, V7}
use Rattle.vol_layout.specs.declared.geometry.Geometry.{Geometry}
use Rattle.vol_layout.specs.declared.mode.Kind.TheVariants as kinds
use Rattle.vol_layout.specs.declared.slot.Slot.{Slot}
use Rattle.vol_layout.proofs.BodyLaws.{length-body, get_or-body, body_byte_at, zone_byte_in, zone_room}
use Rattle.vol_layout.proofs.NameLaws.{stored_is}
use Rattle.vol_layout.proofs.SlotLaws.{slot_copied}
use Rattle.vol_file.specs.Rules.{size_of, kind_at}
use Rattle.vol_dir.specs.Entries.{entry_in, entry_at, slot_count, slots, IsDirectory, HasEntry, HasEntries}
use Rattle.vol_dir.specs.Names.{dot, dot_dot, is_dots}
use Rattle.vol_judge.specs.Directories.{Enters, IsReached, is_for, count_in, entry_count, HasDots, IsTree, HasLinks}
use Rattle.vol_judge.specs.Directories.IsReached.{at_root}
use Rattle.vol_mkfs.specs.Mkfs.{root_mode, IsNewVolume}
use Rattle.vol_file.proofs.StoredNames.{root_first}
use Rattle.vol_file.proofs.PlaceLists.{sum_none}
use Rattle.vol_layout.proofs.EditionLaws.{dots_fit}
use Rattle.vol_mkfs.proofs.NewFiles

-- the root's first logical block is at its first address
root_last : (edition : Edition) → last_place (form_of edition (root_mode edition)) 0 ≡ Some (0 ∷ [])
unfolding kind_of last_place
root_last V6 = refl
root_last V7 = refl

-- a slot with the root's i-number has an entry for the root
entry_root : (edition : Edition) (slot : Slot) (name : List ℕ) → slot ≡ record { inode = (constants edition).root; name = name }
    → entry_in slot ≡ Some (name_of name, (constants edition).root)
entry_root V6 slot name e = ap entry_in e
entry_root V7 slot name e = ap entry_in e

-- a sum whose terms are all 0 except one is that term
sum_one : (f : ℕ → ℕ) (a n at : ℕ) → a ≤ at → at < a + n → ((k : ℕ) → a ≤ k → k < a + n → k ≢ at → f k ≡ 0) → sum_by f (range_with_len a n) ≡ f at
sum_one f a zero at from to none = absurd (omega arith)
sum_one f a (suc n) at from to none =
    let both : sum_by f (range_with_len a (suc n)) ≡ f a + sum_by f (range_with_len (a + 1) n) = sum_by-cons f a (range_with_len (a + 1) n) in
    elim (cases_eq a at) [
      | inl e ↦
          let rest : sum_by f (range_with_len (a + 1) n) ≡ 0 =
          sum_none f (a + 1) n (λ k low high. none k (omega arith) (omega arith) (λ same. let f : k ≡ at = same in omega arith)) in
          let here : f a ≡ f at = ap f e in
          omega (arith, rest, here, both)
      | inr other ↦
          let first : f a ≡ 0 = none a (omega arith) (omega arith) other in
          let rest : sum_by f (range_with_len (a + 1) n) ≡ f at =
          sum_one f (a + 1) n at (omega (arith, other)) (omega arith) (λ k low high differ. none k (omega arith) (omega arith) differ) in
          omega (arith, first, rest, both)
    ]

module _ (geometry : Geometry) (uid gid now : ℕ) (image : List ℕ) (new : IsNewVolume geometry uid gid now image) (fits : Fits geometry image)
    (start : 3 ≤ geometry.zone_start) where
  -- the root's i-number
  abbrev root : ℕ
  root = (constants geometry.edition).root

  kind_root : kind_at geometry image root ≡ kinds.Directory
  kind_root = NewFiles.kind_root geometry uid gid now image new fits start

  -- only the root is a directory
  only_directory : (d : ℕ) → IsDirectory geometry image d → d ≡ root
  only_directory d directory =
      NewFiles.only_root geometry uid gid now image new fits start d directory.first directory.last (λ none.
      let clash : kinds.Directory ≡ kinds.Free = sym directory.kind ∙ none in cc)

  root_directory : IsDirectory geometry image root
  root_directory =
      let above : root < geometry.last_inode = fits.root in
      record { first = root_first geometry.edition; last = omega arith; kind = kind_root }

  -- the root's body has 32 bytes
  size_root : body_size geometry image root ≡ 32
  size_root =
      let size : size_of geometry image root ≡ 32 = NewFiles.size_root geometry uid gid now image new fits start in
      let most : 32 ≤ (constants geometry.edition).greatest = dots_fit geometry.edition in omega arith

  count_root : slot_count geometry image root ≡ 2
  count_root = ap (λ n. n / 16) size_root

  -- the root's first logical block is the first data block
  stored_root : stored geometry image root (form_at geometry image root) 0 ≡ geometry.zone_start
  stored_root =
      stored_is geometry image root (form_at geometry image root) 0 (0 ∷ [])
      (ap (λ form. last_place form 0) (NewFiles.form_root geometry uid gid now image new fits start) ∙ root_last geometry.edition)
      ∙ NewFiles.named_root geometry uid gid now image new fits start

  -- slot s of the root is slot s of the first data block
  slot_root : (s : ℕ) → s < 2 → slot_at (body geometry image root) (16 * s) ≡ slot_at image (512 * geometry.zone_start + 16 * s)
  slot_root s low =
      let zone : in_zone geometry geometry.zone_start ≡ true = NewFiles.zone_first geometry uid gid now image new fits start in
      let room : 512 * geometry.zone_start + 512 ≤ length image = zone_room geometry image geometry.zone_start fits zone in
      let whole : length (body geometry image root) ≡ 32 = length-body geometry image root ∙ size_root in
      slot_copied image (body geometry image root) (512 * geometry.zone_start + 16 * s) (16 * s)
      (record {
        bytes = λ k below.
            let size : body_size geometry image root ≡ 32 = size_root in
            let place : 16 * s + k ≡ 512 * 0 + (16 * s + k) = omega arith in
            let there : 512 * geometry.zone_start + (16 * s + k) ≡ 512 * geometry.zone_start + 16 * s + k = omega arith in
            get_or-body geometry image root (16 * s + k) (omega arith)
            ∙ (ap (body_byte geometry image root) place
            ∙ (body_byte_at geometry image root 0 (16 * s + k) (omega arith)
            ∙ (ap (λ m. zone_byte geometry image m (16 * s + k)) stored_root
            ∙ (zone_byte_in geometry image geometry.zone_start (16 * s + k) zone ∙ ap (λ at. get_or image at 0) there))));
      })
      (omega arith) (omega arith)

  -- entry s of the root is the entry in its slot s
  entry_root_at : (s : ℕ) → s < 2 → entry_at geometry image root s ≡ entry_in (slot_at (body geometry image root) (16 * s))
  unfolding entry_at
  entry_root_at s low =
      let count : slot_count geometry image root ≡ 2 = count_root in
      let inside : nat_lt s (slot_count geometry image root) ≡ true = grind (arith, nat_tests) in rw inside

  entry_past : (s : ℕ) → 2 ≤ s → entry_at geometry image root s ≡ None
  unfolding entry_at
  entry_past s high =
      let count : slot_count geometry image root ≡ 2 = count_root in
      let outside : nat_lt s (slot_count geometry image root) ≡ false = grind (arith, nat_tests) in rw outside

  -- the root's slot 0 holds `.` and slot 1 `..`, both for the root
  entry_dot : entry_at geometry image root 0 ≡ Some (dot, root)
  entry_dot =
      let there : 512 * geometry.zone_start + 16 * 0 ≡ 512 * geometry.zone_start = omega arith in
      entry_root_at 0 (omega arith)
      ∙ entry_root geometry.edition (slot_at (body geometry image root) (16 * 0)) (padded_name dot)
      (slot_root 0 (omega arith) ∙ (ap (slot_at image) there ∙ new.dot))

  entry_dot_dot : entry_at geometry image root 1 ≡ Some (dot_dot, root)
  entry_dot_dot =
      let there : 512 * geometry.zone_start + 16 * 1 ≡ 512 * geometry.zone_start + 16 = omega arith in
      entry_root_at 1 (omega arith)
      ∙ entry_root geometry.edition (slot_at (body geometry image root) (16 * 1)) (padded_name dot_dot)
      (slot_root 1 (omega arith) ∙ (ap (slot_at image) there ∙ new.dot_dot))

  -- the root's two entries are the only ones
  only_entry : (d s i : ℕ) (name : List ℕ) → HasEntry geometry image d s name i
      → (d ≡ root) × (i ≡ root) × (((s ≡ 0) × (name ≡ dot)) ⊎ ((s ≡ 1) × (name ≡ dot_dot)))
  only_entry d s i name entry =
      let is : d ≡ root = only_directory d entry.directory in
      let there : entry_at geometry image root s ≡ Some (name, i) = subst (λ e. entry_at geometry image e s ≡ Some (name, i)) is entry.entry in
      elim (cases_eq s 0) [
        | inl e ↦
            let same : Some (dot, root) ≡ Some (name, i) = sym entry_dot ∙ (ap (entry_at geometry image root) (sym e) ∙ there) in
            (is, sym (ap second same), inl (e, sym (ap first same)))
        | inr some ↦ elim (cases_eq s 1) [
          | inl e ↦
              let same : Some (dot_dot, root) ≡ Some (name, i) = sym entry_dot_dot ∙ (ap (entry_at geometry image root) (sym e) ∙ there) in
              (is, sym (ap second same), inr (e, sym (ap first same)))
          | inr more ↦
              absurd (none_some (name, i) (sym (entry_past s (omega (arith, some, more))) ∙ there))
        ]
      ] where
        none_some : (entry : List ℕ × ℕ) → None ≡ Some entry → ⊥
        none_some entry e = let clash : false ≡ true = ap is_some e in false≢true clash

        first : Option (List ℕ × ℕ) → List ℕ
        first None = []
        first (Some entry) = entry.0

        second : Option (List ℕ × ℕ) → ℕ
        second None = 0
        second (Some entry) = entry.1

  -- the name of each entry is `.` or `..`
  all_dots : (d s i : ℕ) (name : List ℕ) → HasEntry geometry image d s name i → is_dots name ≡ true
  all_dots d s i name entry =
      elim (only_entry d s i name entry).2 [ inl is ↦ ap is_dots is.1 | inr is ↦ ap is_dots is.1 ]

  none_enters : (d s i : ℕ) → Enters geometry image d s i → ⊥
  none_enters d s i enters = let clash : false ≡ true = sym enters.2 ∙ all_dots d s i enters.0 enters.1 in false≢true clash

  -- a new volume keeps rule 9
  pub new_entries : HasEntries geometry image
  new_entries = record {
    whole = λ d directory.
        let size : size_of geometry image d ≡ 32 =
        ap (size_of geometry image) (only_directory d directory) ∙ NewFiles.size_root geometry uid gid now image new fits start in
        ap (λ n. n % 16) size;
    named = λ d s i name entry. elim (only_entry d s i name entry).2 [
      | inl is ↦ ((λ none. let clash : dot ≡ [] = sym is.1 ∙ none in cc), ap (list_any (λ c. c == 47)) is.1)
      | inr is ↦ ((λ none. let clash : dot_dot ≡ [] = sym is.1 ∙ none in cc), ap (list_any (λ c. c == 47)) is.1)
    ];
    allocated = λ d s i name entry.
        let is : i ≡ root = (only_entry d s i name entry).1 in
        let above : root < geometry.last_inode = fits.root in
        (omega arith, omega arith, (λ none. let clash : kinds.Directory ≡ kinds.Free = sym kind_root ∙ (ap (kind_at geometry image) (sym is) ∙ none) in cc));
    once = λ d s t i j name one two. elim (only_entry d s i name one).2 [
      | inl is ↦ elim (only_entry d t j name two).2 [
        | inl also ↦ is.0 ∙ sym also.0
        | inr other ↦ let clash : dot ≡ dot_dot = sym is.1 ∙ other.1 in cc
      ]
      | inr is ↦ elim (only_entry d t j name two).2 [
        | inl other ↦ let clash : dot_dot ≡ dot = sym is.1 ∙ other.1 in cc
        | inr also ↦ is.0 ∙ sym also.0
      ]
    ];
  }

  -- a new volume keeps rule 10
  pub new_dots : HasDots geometry image
  new_dots = record {
    itself = λ d directory.
        let is : d ≡ root = only_directory d directory in
        (0, record { directory = directory; entry = subst (λ e. entry_at geometry image e 0 ≡ Some (dot, e)) (sym is) entry_dot });
    root = λ is. (1, record { directory = root_directory; entry = entry_dot_dot });
    parent = λ d directory other. absurd (other (only_directory d directory));
  }

  -- a new volume keeps rule 11
  pub new_tree : IsTree geometry image
  new_tree = record {
    reached = λ d directory. subst (IsReached geometry image) (sym (only_directory d directory)) at_root;
    one = λ d e s f t directory enters again. absurd (none_enters e s d enters);
    root_none = λ e s enters. none_enters e s root enters;
  }

  -- the root has two entries for itself
  count_two : count_by (is_for root) (slots geometry image root) ≡ 2
  unfolding slots
  count_two =
      let all : slots geometry image root ≡ Some (dot, root) ∷ Some (dot_dot, root) ∷ [] =
      ap (λ n. map (entry_at geometry image root) (range_with_len 0 n)) count_root ∙ rw (entry_dot, entry_dot_dot) in
      let same : (root == root) ≡ true = grind (arith, nat_tests) in
      ap (count_by (is_for root)) all ∙ rw same

  -- a new volume keeps rule 12
  pub new_links : HasLinks geometry image
  unfolding entry_count
  new_links = record {
    counts = λ i first last some.
        let is : i ≡ root = NewFiles.only_root geometry uid gid now image new fits start i first last some in
        let above : root < geometry.last_inode = fits.root in
        let low : 1 ≤ root = root_first geometry.edition in
        let links : (inode_of geometry.edition image i).links ≡ 2 = ap (λ j. (inode_of geometry.edition image j).links) is ∙ ap (λ node. node.links) new.root in
        let sum : entry_count geometry image root ≡ count_in geometry image root root (kind_at geometry image root) =
        sum_one (λ d. count_in geometry image root d (kind_at geometry image d)) 1 geometry.last_inode root low (omega arith)
        (λ k from to other. ap (count_in geometry image root k)
        (NewFiles.kind_other geometry uid gid now image new fits start k from (omega arith) other)) in
        links ∙ sym (ap (entry_count geometry image) is ∙ (sum ∙ (ap (count_in geometry image root root) kind_root ∙ count_two)));
    linked = λ i from last some.
        let low : 1 ≤ root = root_first geometry.edition in
        let is : i ≡ root = NewFiles.only_root geometry uid gid now image new fits start i (omega arith) last some in
        let links : (inode_of geometry.edition image i).links ≡ 2 = ap (λ j. (inode_of geometry.edition image j).links) is ∙ ap (λ node. node.links) new.root in omega arith;
  }
