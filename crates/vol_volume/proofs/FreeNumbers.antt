-- The i-numbers that are free for a new node.
use Rattle.std.proofs.Common.{◌≡◌, ◌≢◌, ℕ, ◌+◌, ◌<◌, ◌≤◌, ◌==◌, ◌&&◌, ◌∙◌, ap, refl, sym, Bool, true, false, nat_lt, nat_le, List, zero, suc, arith}
use Rattle.std.specs.Prelude.{IsTrue, ◌↔◌, IfSome, Option, None, Some}
use Rattle.std.specs.Option.{option_map, is_none}
use Rattle.std.specs.List.{list_any, range_with_len}
use Rattle.std.proofs.lemmas.Bool.{or_from, and_parts, true≢false}
use Rattle.std.proofs.lemmas.Bool.Decides.{nat_tests}
use Rattle.vol_layout.specs.Edition.{constants}
use Rattle.vol_layout.specs.Inode.{inode_of, kind_of}
use Rattle.vol_layout.specs.BlockPointers.{mode_of}
use Rattle.vol_layout.specs.declared.geometry.Geometry.{Geometry}
use Rattle.vol_layout.specs.declared.mode.Kind.{Kind}
use Rattle.vol_layout.specs.declared.mode.Kind.TheVariants as kinds
use Rattle.vol_layout.proofs.KindLaws.{kind_zero}
use Rattle.vol_free.specs.Numbers.{IsFreeNumber}
use Rattle.vol_file.specs.Rules.{kind_at, Rules3To7}
use Rattle.vol_file.proofs.MissingLaws.{any_at}
use Rattle.vol_dir.specs.Tree.{node_with, content_of, tree}
use Rattle.vol_dir.proofs.WalkLaws.{node_inside}
use Rattle.vol_volume.specs.Verdict.{is_free_number, has_free_number}
use Rattle.vol_change.proofs.FreeKinds.{free_zero}
use Rattle.vol_volume.proofs.NodeReadings.{node_of_kind}

regular_used : kinds.Regular ≢ kinds.Free
regular_used e = cc

directory_used : kinds.Directory ≢ kinds.Free
directory_used e = cc

special_used : kinds.Special ≢ kinds.Free
special_used e = cc

-- if no number of a range passes a test, `list_any` is false
none_passes : (test : ℕ → Bool) (a n : ℕ) → ((i : ℕ) → a ≤ i → i < a + n → test i ≡ false) → list_any test (range_with_len a n) ≡ false
none_passes test a zero fails = refl
none_passes test a (suc n) fails =
    or_from (test a) (list_any test (range_with_len (a + 1) n)) (fails a (omega arith) (omega arith))
    (none_passes test (a + 1) n (λ i from to. fails i (omega arith) (omega arith)))

module _ (geometry : Geometry) (image : List ℕ) (files : Rules3To7 geometry image) where
  used_mode : (i : ℕ) (kind : Kind) → kind_at geometry image i ≡ kind → kind ≢ kinds.Free → (mode_of geometry image i == 0) ≡ false
  used_mode i kind is used =
      let some : mode_of geometry image i ≢ 0 = λ e. used (sym is ∙ (ap (kind_of geometry.edition) e ∙ kind_zero geometry.edition)) in grind (arith, nat_tests)

  none_by : (i : ℕ) (kind : Kind) → kind_at geometry image i ≡ kind → kind ≢ kinds.Odd
      → is_none (option_map (node_with (inode_of geometry.edition image i)) (content_of geometry image i kind)) ≡ (mode_of geometry image i == 0)
  none_by i kinds.Free is known =
      let zero_mode : mode_of geometry image i ≡ 0 = free_zero geometry.edition (mode_of geometry image i) is in sym (grind (arith, nat_tests))
  none_by i kinds.Regular is known = sym (used_mode i kinds.Regular is regular_used)
  none_by i kinds.Directory is known = sym (used_mode i kinds.Directory is directory_used)
  none_by i kinds.Special is known = sym (used_mode i kinds.Special is special_used)
  none_by i kinds.Odd is known = absurd (known refl)

  -- an i-number of the volume has no node exactly if its mode is 0
  none_is : (i : ℕ) → 1 ≤ i → i ≤ geometry.last_inode → is_none ((tree geometry image).nodes i) ≡ (mode_of geometry image i == 0)
  none_is i first last =
      ap is_none (node_inside geometry image i first last ∙ node_of_kind geometry image i (kind_at geometry image i) refl)
      ∙ none_by i (kind_at geometry image i) refl (files.sound.kinds.known i first last)

  -- an i-number for a new node has no node
  pub number_none : (i : ℕ) → IsFreeNumber geometry image i → is_none ((tree geometry image).nodes i) ≡ true
  number_none i free =
      let zero_mode : (mode_of geometry image i == 0) ≡ true = grind (arith, nat_tests, free.mode) in
      none_is i (omega (arith, free.above)) free.within ∙ zero_mode

  -- an i-number of the volume may be given to a new node exactly if it is above the root's and its mode is 0
  number_is : (i : ℕ) → 1 ≤ i → i ≤ geometry.last_inode
      → is_free_number (tree geometry image) i ≡ (nat_lt (constants geometry.edition).root i && (nat_le i geometry.last_inode && (mode_of geometry image i == 0)))
  unfolding tree
  number_is i first last =
      ap (λ b. nat_lt (constants geometry.edition).root i && (nat_le i geometry.last_inode && b)) (none_is i first last)

  -- an i-number for a new node passes the test `is_free_number`
  pub number_free : (i : ℕ) → IsFreeNumber geometry image i → is_free_number (tree geometry image) i ≡ true
  number_free i free =
      let above : nat_lt (constants geometry.edition).root i ≡ true = grind (arith, nat_tests, free.above) in
      let within : nat_le i geometry.last_inode ≡ true = grind (arith, nat_tests, free.within) in
      let zero_mode : (mode_of geometry image i == 0) ≡ true = grind (arith, nat_tests, free.mode) in
      number_is i (omega (arith, free.above)) free.within
      ∙ (ap (λ b. b && (nat_le i geometry.last_inode && (mode_of geometry image i == 0))) above
      ∙ (ap (λ b. b && (mode_of geometry image i == 0)) within ∙ zero_mode))

  number_used : (i : ℕ) → 1 ≤ i → i ≤ geometry.last_inode → (IsFreeNumber geometry image i → ⊥) → is_free_number (tree geometry image) i ≡ false
  number_used i first last used =
      number_is i first last
      ∙ elim (nat_lt (constants geometry.edition).root i) as (λ b. nat_lt (constants geometry.edition).root i ≡ b
      → (b && (nat_le i geometry.last_inode && (mode_of geometry image i == 0))) ≡ false) [
        | false ↦ λ low. refl
        | true ↦ λ high.
            elim (mode_of geometry image i == 0) as (λ b. (mode_of geometry image i == 0) ≡ b → (nat_le i geometry.last_inode && b) ≡ false) [
              | false ↦ λ some. elim (nat_le i geometry.last_inode) as (λ b. (b && false) ≡ false) [ true ↦ refl | false ↦ refl ]
              | true ↦ λ none. absurd (used (record { above = grind (arith, nat_tests); within = last; mode = grind (arith, nat_tests) }))
            ] refl
      ] refl

  -- the state has an i-number for a new node if and only if the image has one
  pub any_free : (found : Bool) → IsTrue found ↔ ((i : ℕ) × IsFreeNumber geometry image i) → found ≡ has_free_number (tree geometry image)
  unfolding tree
  any_free true is =
      let free = is.0 refl in
      sym (any_at (is_free_number (tree geometry image)) 1 geometry.last_inode free.0 (omega (arith, free.1.above)) (omega (arith, free.1.within))
      (number_free free.0 free.1))
  any_free false is =
      sym (none_passes (is_free_number (tree geometry image)) 1 geometry.last_inode (λ i from to.
      number_used i from (omega arith) (λ free. let found : false ≡ true = is.1 (i, free) in cc)))

  -- if the state has an i-number for a new node, so does the image
  pub some_free : has_free_number (tree geometry image) ≡ true → ((i : ℕ) → IsFreeNumber geometry image i → ⊥) → ⊥
  unfolding tree
  some_free some none =
      let all : has_free_number (tree geometry image) ≡ false =
      none_passes (is_free_number (tree geometry image)) 1 geometry.last_inode (λ i from to. number_used i from (omega arith) (none i))
      in true≢false (sym some ∙ all)

  -- an i-number that passes the test `is_free_number` may be given to a new node
  pub free_of : (i : ℕ) → is_free_number (tree geometry image) i ≡ true → IsFreeNumber geometry image i
  unfolding tree
  free_of i passes =
      let parts = and_parts (nat_lt (constants geometry.edition).root i) _ passes in
      let rest = and_parts (nat_le i geometry.last_inode) _ parts.1 in
      let low : (constants geometry.edition).root < i = grind (arith, nat_tests, parts.0) in
      let high : i ≤ geometry.last_inode = grind (arith, nat_tests, rest.0) in
      let zero_mode : (mode_of geometry image i == 0) ≡ true = sym (none_is i (omega arith) high) ∙ rest.1 in
      record { above = low; within = high; mode = grind (arith, nat_tests) }

  -- a recorded i-number that passes the test may be given to a new node
  pub recorded_free : (recorded : Option ℕ) → IfSome recorded (λ i. is_free_number (tree geometry image) i ≡ true)
      → IfSome recorded (λ i. IsFreeNumber geometry image i)
  recorded_free None passes = passes
  recorded_free (Some i) passes = free_of i passes

  -- if some i-number may be given to a new node, the state has one
  pub number_has : (i : ℕ) → IsFreeNumber geometry image i → has_free_number (tree geometry image) ≡ true
  number_has i free = sym (any_free true ((λ e. (i, free)), (λ found. refl)))

  -- if no i-number may be given to a new node, the state has none
  pub none_has : ((i : ℕ) → IsFreeNumber geometry image i → ⊥) → has_free_number (tree geometry image) ≡ false
  none_has none = sym (any_free false ((λ e. absurd cc), (λ found. absurd (none found.0 found.1))))
