-- Laws of `again`: the first block that is already marked when blocks are marked one by one.
use Rattle.std.proofs.Common.{◌≡◌, ◌≢◌, ℕ, zero, suc, ◌+◌, ◌-◌, ◌<◌, ◌≤◌, ◌∙◌, sym, ap, subst, cond, inl, inr, List, [], ◌∷◌, ◌++◌, length, get_or, set, Option, None, Some, refl, arith, eq-eqb}
use Rattle.std.proofs.lemmas.Bool.{cases_eq, ne_eqb}
use Rattle.std.proofs.lemmas.Option.{none-some, same_Some}
use Rattle.std.specs.List.{flat_map, range_with_len}
use Rattle.vol_layout.specs.Edition.{constants}
use Rattle.vol_layout.specs.BlockPointers.{pointer_in}
use Rattle.vol_layout.specs.declared.geometry.Geometry.{Geometry}
use Rattle.vol_free.specs.Stack.{IsIn}
use Rattle.vol_free.proofs.Stacks.{zone_below}
use Rattle.vol_file.specs.Rules.{IsZoned, IsApart}
use Rattle.vol_file.specs.Changes.{blocks_of}
use Rattle.vol_judge.specs.Marks.{blocks_from, marked}
use Rattle.vol_judge.proofs.AllBlocks.{all_blocks, all_zoned, all_refused, files_from, files_fail}
use Rattle.vol_judge.proofs.BlocksFrom.{from_leaf, from_entries, entries_from}
use Rattle.vol_judge.proofs.FileBlocks.{address_blocks, addresses_from}
use Rattle.vol_judge.proofs.MarkLists.{flat_more, marked_none, marked_first, marked_again, marked_then, marked_marks}
use Rattle.vol_judge.proofs.NamedOnce.{in_append, in_left, in_flat, flat_in}
use Rattle.vol_judge.specs.SharedBlocks.{again, IsTwiceNamed}

-- if the first block isn't marked, `again` marks it and continues with the rest
pub again_past : (marks : List ℕ) (b : ℕ) (blocks : List ℕ) → get_or marks b 0 ≡ 0 → again marks (b ∷ blocks) ≡ again (set marks b 1) blocks
unfolding again
again_past marks b blocks fresh = ap (λ t. cond t (again (set marks b 1) blocks) (Some b)) (eq-eqb (get_or marks b 0) 0 fresh)

-- if the first block is marked, `again` returns it
pub again_here : (marks : List ℕ) (b : ℕ) (blocks : List ℕ) → get_or marks b 0 ≢ 0 → again marks (b ∷ blocks) ≡ Some b
unfolding again
again_here marks b blocks before = ap (λ t. cond t (again (set marks b 1) blocks) (Some b)) (ne_eqb (get_or marks b 0) 0 before)

-- once all blocks of a list are marked, `again` continues in the next list
pub again_then : (blocks more marks mid : List ℕ) (end : Option ℕ) → marked marks blocks ≡ Some mid → again mid more ≡ end → again marks (blocks ++ more) ≡ end
again_then [] more marks mid end done next = ap (λ m. again m more) (same_Some marks mid (sym (marked_none marks) ∙ done)) ∙ next
again_then (b ∷ blocks) more marks mid end done next = elim (cases_eq (get_or marks b 0) 0) [
  | inl fresh ↦
      again_past marks b (blocks ++ more) fresh
      ∙ again_then blocks more (set marks b 1) mid end (sym (marked_first marks b blocks fresh) ∙ done) next
  | inr before ↦ absurd (none-some mid (sym (marked_again marks b blocks before) ∙ done))
]

-- the block that `again` finds in the first list is the one that it finds in both lists together
pub again_left : (blocks more marks : List ℕ) (x : ℕ) → again marks blocks ≡ Some x → again marks (blocks ++ more) ≡ Some x
unfolding again
again_left [] more marks x found = absurd (none-some x found)
again_left (b ∷ blocks) more marks x found = elim (cases_eq (get_or marks b 0) 0) [
  | inl fresh ↦
      again_past marks b (blocks ++ more) fresh
      ∙ again_left blocks more (set marks b 1) x (sym (again_past marks b blocks fresh) ∙ found)
  | inr before ↦ again_here marks b (blocks ++ more) before ∙ (sym (again_here marks b blocks before) ∙ found)
]

-- the block that `again` finds in the lists of a range is the one that it finds in a longer range
again_longer : (f : ℕ → List ℕ) (a n d : ℕ) (marks : List ℕ) (x : ℕ) → again marks (flat_map f (range_with_len a n)) ≡ Some x
    → again marks (flat_map f (range_with_len a (n + d))) ≡ Some x
again_longer f a n zero marks x found = let size : n + 0 ≡ n = omega arith in ap (λ m. again marks (flat_map f (range_with_len a m))) size ∙ found
again_longer f a n (suc d) marks x found =
    ap (again marks) (flat_more f a (n + d) (n + suc d) (a + (n + d)) (omega arith) refl)
    ∙ again_left (flat_map f (range_with_len a (n + d))) (f (a + (n + d))) marks x (again_longer f a n d marks x found)

-- if the lists before list j can be marked, the block that `again` finds in list j is the one that it finds in the whole range
again_stops : (f : ℕ → List ℕ) (a n j count : ℕ) (marks mid : List ℕ) (x : ℕ) → a + n ≡ j → n < count
    → marked marks (flat_map f (range_with_len a n)) ≡ Some mid → again mid (f j) ≡ Some x → again marks (flat_map f (range_with_len a count)) ≡ Some x
again_stops f a n j count marks mid x at less done found =
    let size : n + 1 + (count - (n + 1)) ≡ count = omega arith in
    ap (λ m. again marks (flat_map f (range_with_len a m))) (sym size)
    ∙ again_longer f a (n + 1) (count - (n + 1)) marks x
    (ap (again marks) (flat_more f a n (n + 1) j refl at) ∙ again_then (flat_map f (range_with_len a n)) (f j) marks mid (Some x) done found)

-- if `again` finds a block, the blocks can't all be marked
pub again_marked : (blocks marks : List ℕ) (x : ℕ) → again marks blocks ≡ Some x → marked marks blocks ≡ None
unfolding again
again_marked [] marks x found = absurd (none-some x found)
again_marked (b ∷ blocks) marks x found = elim (cases_eq (get_or marks b 0) 0) [
  | inl fresh ↦ marked_first marks b blocks fresh ∙ again_marked blocks (set marks b 1) x (sym (again_past marks b blocks fresh) ∙ found)
  | inr before ↦ marked_again marks b blocks before
]

-- the lists before and after the block x that `again` finds; the blocks before x can be marked, and then x is already marked
pub record Split (blocks marks : List ℕ) (x : ℕ) : Type 0 where
  pub before : List ℕ
  pub after : List ℕ
  pub mid : List ℕ
  pub is : blocks ≡ before ++ x ∷ after
  pub done : marked marks before ≡ Some mid
  pub set : get_or mid x 0 ≢ 0

pub split : (blocks marks : List ℕ) (x : ℕ) → again marks blocks ≡ Some x → Split blocks marks x
unfolding again
split [] marks x found = absurd (none-some x found)
split (b ∷ blocks) marks x found = elim (cases_eq (get_or marks b 0) 0) [
  | inl fresh ↦
      let rest = split blocks (set marks b 1) x (sym (again_past marks b blocks fresh) ∙ found) in
      record {
        before = b ∷ rest.before;
        after = rest.after;
        mid = rest.mid;
        is = ap (λ xs. b ∷ xs) rest.is;
        done = marked_first marks b rest.before fresh ∙ rest.done;
        set = rest.set;
      }
  | inr was ↦
      let both : Some b ≡ Some x = sym (again_here marks b blocks was) ∙ found in
      let same : b ≡ x = cc in
      record {
        before = [];
        after = blocks;
        mid = marks;
        is = ap (λ y. y ∷ blocks) same;
        done = marked_none marks;
        set = subst (λ y. get_or marks y 0 ≢ 0) same was;
      }
]

module _ (g : Geometry) (image : List ℕ) where
  -- if b is already marked, it is the block that `again` finds at and below b
  pub from_here : (d b : ℕ) (marks : List ℕ) → b ≢ 0 → get_or marks b 0 ≢ 0 → again marks (blocks_from g image d b) ≡ Some b
  from_here zero b marks some was = ap (again marks) (from_leaf g image b some) ∙ again_here marks b [] was
  from_here (suc d) b marks some was =
      ap (again marks) (from_entries g image (suc d) b some (omega arith))
      ∙ again_here marks b (entries_from g image (suc d - 1) b (constants g.edition).pointers) was

  -- if b isn't marked, the block that `again` finds at and below its entries is the one that it finds at and below b
  pub from_below : (d b : ℕ) (marks : List ℕ) (x : ℕ) → b ≢ 0 → 1 ≤ d → get_or marks b 0 ≡ 0
      → again (set marks b 1) (entries_from g image (d - 1) b (constants g.edition).pointers) ≡ Some x → again marks (blocks_from g image d b) ≡ Some x
  from_below d b marks x some one fresh below =
      ap (again marks) (from_entries g image d b some one)
      ∙ (again_past marks b (entries_from g image (d - 1) b (constants g.edition).pointers) fresh ∙ below)

  -- if the blocks at and below the entries before j can be marked, the block that `again` finds at and below entry j is the one that it finds for all
  -- entries
  pub entries_again : (d b j n : ℕ) (marks mid : List ℕ) (x : ℕ) → j < n → marked marks (entries_from g image d b j) ≡ Some mid
      → again mid (blocks_from g image d (pointer_in g image b j)) ≡ Some x → again marks (entries_from g image d b n) ≡ Some x
  unfolding entries_from
  entries_again d b j n marks mid x less done found =
      again_stops (λ j. blocks_from g image d (pointer_in g image b j)) 0 j j n marks mid x (omega arith) less done found

  -- if the blocks at and below the addresses before k can be marked, the block that `again` finds at and below address k is the one that it finds for
  -- all addresses
  pub addresses_again : (i k n : ℕ) (marks mid : List ℕ) (x : ℕ) → k < n → marked marks (addresses_from g image i k) ≡ Some mid
      → again mid (address_blocks g image i k) ≡ Some x → again marks (addresses_from g image i n) ≡ Some x
  unfolding addresses_from
  addresses_again i k n marks mid x less done found = again_stops (address_blocks g image i) 0 k k n marks mid x (omega arith) less done found

  -- if a block of file i is already marked after the files before i, rule 7 fails
  pub file_breaks : (i x : ℕ) (marks mid : List ℕ) → 1 ≤ i → i ≤ g.last_inode → IsZoned g image → length marks ≡ g.zone_end
      → ((b : ℕ) → get_or marks b 0 ≡ 0) → marked marks (files_from g image (i - 1)) ≡ Some mid → again mid (blocks_of g image i) ≡ Some x
      → IsApart g image → ⊥
  file_breaks i x marks mid first last zoned len clear done found =
      all_refused g image marks zoned len clear
      (files_fail g image i (i - 1) marks mid (omega arith) (omega arith) done (again_marked (blocks_of g image i) mid x found))

  -- the blocks of the files before i and the first blocks of file i are among all blocks
  among_all : (i b : ℕ) (before after : List ℕ) → 1 ≤ i → i ≤ g.last_inode → blocks_of g image i ≡ before ++ after
      → IsIn b (files_from g image (i - 1) ++ before) → IsIn b (all_blocks g image)
  unfolding files_from
  among_all i b before after first last is among = elim (in_append b (files_from g image (i - 1)) before among) [
    | inl early ↦
        let file = in_flat (blocks_of g image) b 1 (i - 1) early in
        flat_in (blocks_of g image) b 1 g.last_inode file.0 file.1 (omega (arith, file.2)) file.3
    | inr own ↦ flat_in (blocks_of g image) b 1 g.last_inode i first (omega arith) (subst (IsIn b) (sym is) (in_left b before after own))
  ]

  -- if x is the first block of file i that is already marked after the files before i, it is the first block used twice
  pub file_twice : (i x : ℕ) (marks mid : List ℕ) → 1 ≤ i → i ≤ g.last_inode → IsZoned g image → length marks ≡ g.zone_end
      → ((b : ℕ) → get_or marks b 0 ≡ 0) → marked marks (files_from g image (i - 1)) ≡ Some mid → again mid (blocks_of g image i) ≡ Some x
      → IsTwiceNamed g image i x
  unfolding files_from
  file_twice i x marks mid first last zoned len clear done found =
      let parts = split (blocks_of g image i) mid x found in
      let all = marked_marks (files_from g image (i - 1) ++ parts.before) marks parts.mid
      (λ b among.
      let zone = all_zoned g image b zoned (among_all i b parts.before (x ∷ parts.after) first last parts.is among) in
      omega (arith, zone_below g b zone, len))
      (marked_then (files_from g image (i - 1)) parts.before marks mid (Some parts.mid) done parts.done) in
      record {
        first = first;
        last = last;
        before = parts.before;
        after = parts.after;
        blocks = parts.is;
        once = all.once;
        again = elim (all.only x parts.set) [
          | inl was ↦ absurd (was (clear x))
          | inr among ↦ among
        ];
      }
