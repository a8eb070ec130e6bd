-- An i-node with its link count, times, owner or permission bits changed can still be stored.
use Rattle.std.proofs.Common.{◌≡◌, ◌∙◌, sym, ap, subst, ℕ, ◌+◌, ◌/◌, ◌<◌, ◌≤◌, List, slice_index, Option, None, Some, IsSome, arith}
use Rattle.std.specs.Option.{option_map}
use Rattle.vol_layout.specs.Edition.{constants}
use Rattle.vol_layout.specs.Inode.{inode_of, kind_of, IsStorable}
use Rattle.vol_layout.specs.Inode.IsStorable.{in_v6, in_v7}
use Rattle.vol_layout.specs.declared.edition.Edition.{Edition}
use Rattle.vol_layout.specs.declared.edition.Edition.TheVariants.{V6, V7}
use Rattle.vol_layout.specs.declared.geometry.Geometry.{Geometry}
use Rattle.vol_layout.specs.declared.i_node.Inode.{Inode}
use Rattle.vol_layout.specs.Inode.{inode_place}
use Rattle.vol_layout.specs.BlockPointers.{mode_of}
use Rattle.vol_layout.proofs.InodeLaws.{inode_mode}
use Rattle.pdp_words.specs.Words.{SameOutside}
use Rattle.vol_change.proofs.ListWrites.{PutsInode}

-- a replaced time is still there
stamped_some : (changed : Option ℕ) (now : ℕ) → IsSome changed → IsSome (option_map (λ _. now) changed)
stamped_some None now some = some
stamped_some (Some time) now some = some

-- a storable i-node stays storable with another owner, if the owner's numbers are within the edition's limit
pub storable_owned : (edition : Edition) (was node : Inode) (now : ℕ) → IsStorable edition was → node.links ≤ (constants edition).link_limit
    → node.uid ≤ (constants edition).id_limit → node.gid ≤ (constants edition).id_limit → node.size ≡ was.size → node.addresses ≡ was.addresses
    → node.changed ≡ option_map (λ _. now) was.changed → IsStorable edition node
storable_owned V6 was node now (in_v6 links uid gid size low high none) limit u g s a c =
    in_v6 (omega (arith, limit)) (omega (arith, u)) (omega (arith, g)) (omega (arith, size, s))
    (λ k h. subst (λ xs. slice_index xs k < 65536) (sym a) (low k h))
    (λ k h. subst (λ xs. slice_index xs k ≡ 0) (sym a) (high k h))
    (c ∙ ap (option_map (λ _. now)) none)
storable_owned V7 was node now (in_v7 all some) limit u g s a c =
    in_v7 (λ k. subst (λ xs. slice_index xs k < 16777216) (sym a) (all k)) (subst IsSome (sym c) (stamped_some was.changed now some))

-- a storable i-node stays storable with another link count, other times and another mode
pub storable_changed : (edition : Edition) (was node : Inode) (now : ℕ) → IsStorable edition was → node.links ≤ (constants edition).link_limit
    → node.uid ≡ was.uid → node.gid ≡ was.gid → node.size ≡ was.size → node.addresses ≡ was.addresses
    → node.changed ≡ option_map (λ _. now) was.changed → IsStorable edition node
storable_changed V6 was node now (in_v6 links uid gid size low high none) limit u g s a c =
    in_v6 (omega (arith, limit)) (omega (arith, uid, u)) (omega (arith, gid, g)) (omega (arith, size, s))
    (λ k h. subst (λ xs. slice_index xs k < 65536) (sym a) (low k h))
    (λ k h. subst (λ xs. slice_index xs k ≡ 0) (sym a) (high k h))
    (c ∙ ap (option_map (λ _. now)) none)
storable_changed V7 was node now (in_v7 all some) limit u g s a c =
    in_v7 (λ k. subst (λ xs. slice_index xs k < 16777216) (sym a) (all k)) (subst IsSome (sym c) (stamped_some was.changed now some))

-- writing an i-node back with its size, its addresses and a mode in which only permission bits changed is a `PutsInode`
pub puts_permitted : (geometry : Geometry) (old new : List ℕ) (i : ℕ) (was node : Inode) → 1 ≤ i → i ≤ geometry.last_inode
    → was ≡ inode_of geometry.edition old i → inode_of geometry.edition new i ≡ node
    → SameOutside old new (inode_place geometry.edition i) (inode_place geometry.edition i + (constants geometry.edition).inode_bytes)
    → kind_of geometry.edition node.mode.bits ≡ kind_of geometry.edition was.mode.bits → node.mode.bits / 4096 ≡ was.mode.bits / 4096
    → node.size ≡ was.size → node.addresses ≡ was.addresses → PutsInode geometry old new i node
puts_permitted geometry old new i was node first last read put same k t s a =
    let mode : was.mode.bits ≡ mode_of geometry old i =
    ap (λ n. n.mode.bits) read ∙ inode_mode geometry.edition old (inode_place geometry.edition i) in
    record {
      first = first;
      last = last;
      same = same;
      is = put;
      kind = k ∙ ap (kind_of geometry.edition) mode;
      type = t ∙ ap (λ m. m / 4096) mode;
      size = s ∙ ap (λ n. n.size) read;
      addresses = a ∙ ap (λ n. n.addresses) read;
    }

-- writing an i-node back with its size, its addresses and its mode is a `PutsInode`
pub puts_changed : (geometry : Geometry) (old new : List ℕ) (i : ℕ) (was node : Inode) → 1 ≤ i → i ≤ geometry.last_inode
    → was ≡ inode_of geometry.edition old i → inode_of geometry.edition new i ≡ node
    → SameOutside old new (inode_place geometry.edition i) (inode_place geometry.edition i + (constants geometry.edition).inode_bytes)
    → node.mode ≡ was.mode → node.size ≡ was.size → node.addresses ≡ was.addresses → PutsInode geometry old new i node
puts_changed geometry old new i was node first last read put same m s a =
    puts_permitted geometry old new i was node first last read put same
    (ap (λ mode. kind_of geometry.edition mode.bits) m) (ap (λ mode. mode.bits / 4096) m) s a
