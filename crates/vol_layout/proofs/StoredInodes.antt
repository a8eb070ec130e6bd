-- The i-node at a byte has given values if each field has its value.
use Rattle.std.proofs.Common.{◌≡◌, ℕ, ◌+◌, ◌<◌, ◌≤◌, List, length, slice_index, Option, None, Some, IsSome, refl, sym, arith, rules}
use Rattle.std.specs.Option.{unwrap_or}
use Rattle.std.proofs.lemmas.List.FromFn.{fill_by_all}
use Rattle.pdp_words.specs.Words.{word, long}
use Rattle.vol_layout.specs.Inode.{inode_at, addresses_at, address_at, size_at, IsStorable}
use Rattle.vol_layout.specs.Inode.IsStorable.{in_v6, in_v7}
use Rattle.vol_layout.specs.declared.i_node.Inode.{Inode}
use Rattle.vol_layout.specs.Edition.{constants}
use Rattle.vol_layout.specs.declared.edition.Edition.{Edition}
use Rattle.vol_layout.specs.declared.edition.Edition.TheVariants.{V6, V7}

-- `addresses_at` of the sixth edition is a list of 13 values if the first eight are the addresses and the others are 0
pub addresses_are_v6 : (image : List ℕ) (at : ℕ) (xs : List ℕ) → length xs ≡ 13
    → ((k : ℕ) → k < 8 → address_at V6 image at k ≡ slice_index xs k) → ((k : ℕ) → 8 ≤ k → slice_index xs k ≡ 0)
    → addresses_at V6 image at ≡ xs
unfolding addresses_at
addresses_are_v6 image at xs len low high = sym (fill_by_all (address_at V6 image at) xs 13 0 len (λ k h. grind (arith, low k, high k)))

-- `addresses_at` of the seventh edition is a list of 13 values if they are the addresses
pub addresses_are_v7 : (image : List ℕ) (at : ℕ) (xs : List ℕ) → length xs ≡ 13
    → ((k : ℕ) → k < 13 → address_at V7 image at k ≡ slice_index xs k) → addresses_at V7 image at ≡ xs
unfolding addresses_at
addresses_are_v7 image at xs len all = sym (fill_by_all (address_at V7 image at) xs 13 0 len (λ k h. sym (all k h)))

-- the sixth edition i-node at byte `at` has the given values if each field has its value
pub inode_is_v6 : (image : List ℕ) (at : ℕ) {mode links uid gid size accessed modified : ℕ} {addresses : List ℕ} {changed : Option ℕ}
    → word image at ≡ mode → slice_index image (at + 2) ≡ links → slice_index image (at + 3) ≡ uid
    → slice_index image (at + 4) ≡ gid → size_at V6 image at ≡ size → addresses_at V6 image at ≡ addresses
    → long image (at + 24) ≡ accessed → long image (at + 28) ≡ modified → None ≡ changed
    → inode_at V6 image at ≡ record {
      mode = record { bits = mode };
      links = links;
      uid = uid;
      gid = gid;
      size = size;
      addresses = addresses;
      accessed = accessed;
      modified = modified;
      changed = changed;
    }
unfolding inode_at
inode_is_v6 image at a b c d e f g h i = rw (← a, ← b, ← c, ← d, ← e, ← f, ← g, ← h, ← i)

-- the seventh edition i-node at byte `at` has the given values if each field has its value
pub inode_is_v7 : (image : List ℕ) (at : ℕ) {mode links uid gid size accessed modified : ℕ} {addresses : List ℕ} {changed : Option ℕ}
    → word image at ≡ mode → word image (at + 2) ≡ links → word image (at + 4) ≡ uid
    → word image (at + 6) ≡ gid → size_at V7 image at ≡ size → addresses_at V7 image at ≡ addresses
    → long image (at + 52) ≡ accessed → long image (at + 56) ≡ modified → Some (long image (at + 60)) ≡ changed
    → inode_at V7 image at ≡ record {
      mode = record { bits = mode };
      links = links;
      uid = uid;
      gid = gid;
      size = size;
      addresses = addresses;
      accessed = accessed;
      modified = modified;
      changed = changed;
    }
unfolding inode_at
inode_is_v7 image at a b c d e f g h i = rw (← a, ← b, ← c, ← d, ← e, ← f, ← g, ← h, ← i)

-- an i-node that the sixth edition can store has zeros after its first eight addresses
pub no_more_v6 : {node : Inode} → IsStorable V6 node → (k : ℕ) → 8 ≤ k → slice_index node.addresses k ≡ 0
no_more_v6 (in_v6 _ _ _ _ _ more _) = more

-- an i-node that the sixth edition can store has no time of the last change
pub unchanged_v6 : {node : Inode} → IsStorable V6 node → None ≡ node.changed
unchanged_v6 (in_v6 _ _ _ _ _ _ none) = sym none

-- an option that is not None is Some of its unwrapped value
some_unwrapped : (changed : Option ℕ) → IsSome changed → Some (unwrap_or changed 0) ≡ changed
some_unwrapped None some = absurd (search rules)
some_unwrapped (Some time) some = refl

-- an i-node that the seventh edition can store has a time of the last change
pub changed_v7 : {node : Inode} → IsStorable V7 node → Some (unwrap_or node.changed 0) ≡ node.changed
changed_v7 (in_v7 _ some) = some_unwrapped _ some

-- the sixth edition can store an i-node whose values fit its fields
pub storable_v6 : (edition : Edition) → edition ≡ V6 → (node : Inode) → node.links < 256 → node.uid < 256
    → node.gid < 256 → node.size < 16777216 → ((k : ℕ) → slice_index node.addresses k < (constants edition).number_limit)
    → (edition ≡ V6 → (k : ℕ) → 8 ≤ k → slice_index node.addresses k ≡ 0) → node.changed ≡ None → IsStorable edition node
storable_v6 V6 v6 node links uid gid size low high none = in_v6 links uid gid size (λ k h. low k) (high refl) none
storable_v6 V7 v6 node links uid gid size low high none = absurd (cc)

-- the seventh edition can store an i-node with addresses within its limit and a time of the last change
pub storable_v7 : (edition : Edition) → edition ≡ V7 → (node : Inode)
    → ((k : ℕ) → slice_index node.addresses k < (constants edition).number_limit) → IsSome node.changed → IsStorable edition node
storable_v7 V6 v7 node all some = absurd (cc)
storable_v7 V7 v7 node all some = in_v7 all some
