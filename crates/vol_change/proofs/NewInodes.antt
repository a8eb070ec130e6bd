-- The i-nodes of new nodes read as the new nodes.
use Rattle.std.proofs.Common.{◌≡◌, ◌≢◌, ◌∙◌, sym, ap, refl, ℕ, ◌+◌, ◌%◌, ◌<◌, ◌≤◌, true, false, List, slice_index, arith}
use Rattle.std.proofs.lemmas.Bool.{false≢true}
use Rattle.pdp_words.specs.Words.{SameOutside}
use Rattle.pdp_words.proofs.Outside.{join}
use Rattle.vol_layout.specs.Edition.{constants}
use Rattle.vol_layout.specs.Inode.{first_change, inode_of, inode_place, kind_of, is_large, new_inode, special_inode}
use Rattle.vol_layout.specs.BlockMaps.{has_places}
use Rattle.vol_layout.proofs.NewInodes.{zeros_at}
use Rattle.vol_layout.specs.declared.edition.Edition.{Edition}
use Rattle.vol_layout.specs.declared.edition.Edition.TheVariants.{V6, V7}
use Rattle.vol_layout.specs.declared.geometry.Geometry.{Geometry}
use Rattle.vol_layout.specs.declared.i_node.Inode.{Inode}
use Rattle.vol_layout.specs.declared.mode.DeviceId.{DeviceId}
use Rattle.vol_layout.specs.declared.mode.Kind.{Kind}
use Rattle.vol_layout.specs.declared.mode.Kind.TheVariants as kinds
use Rattle.vol_layout.specs.declared.mode.Mode.{Mode}
use Rattle.vol_layout.proofs.EditionLaws.{few_links}
use Rattle.vol_free.specs.Numbers.{IsFreeNumber}
use Rattle.vol_dir.specs.Tree.{Content, node_with}
use Rattle.vol_dir.specs.declared.cred.Cred.{Cred}
use Rattle.vol_change.specs.Edits.{new_kind, new_node}
use Rattle.vol_change.specs.Inodes.{MakesInode}
use Rattle.vol_change.specs.declared.new_nodes.NewFile.{NewFile}
use Rattle.vol_change.specs.declared.new_nodes.NewFile.TheVariants.{Regular, Special}

-- the fields of the new i-node read as `new_node`
pub reads_new : (edition : Edition) (bits : Mode) (count : ℕ) (owner : Cred) (now permissions : ℕ) (content : Content)
    → bits.bits % 4096 ≡ permissions % 4096
    → node_with (new_inode edition bits count owner.uid owner.gid now) content ≡ new_node edition owner now permissions content count 0
reads_new edition bits count owner now permissions content same =
    λ k. record {
      content = content;
      permissions = same k;
      links = count;
      uid = owner.uid;
      gid = owner.gid;
      size = 0;
      accessed = now;
      modified = now;
      changed = first_change edition now;
    }

-- a new file is in use
pub used_kind : (file : NewFile) → new_kind file ≢ kinds.Free
used_kind Regular same = cc
used_kind (Special device) same = cc

-- a new file is no directory
pub other_kind : (file : NewFile) → new_kind file ≢ kinds.Directory
other_kind Regular same = cc
other_kind (Special device) same = cc

-- a kind with a block map isn't odd
odd_none : (kind : Kind) → has_places kind ≡ true → kind ≢ kinds.Odd
odd_none kind file odd = false≢true (sym (ap has_places odd) ∙ file)

-- an empty i-node written after all bytes of the free i-node were cleared is `MakesInode`
module _ (geometry : Geometry) (old mid new : List ℕ) (i : ℕ) (free : IsFreeNumber geometry old i)
    (cleared : SameOutside old mid (inode_place geometry.edition i) (inode_place geometry.edition i + (constants geometry.edition).inode_bytes))
    (put : SameOutside mid new (inode_place geometry.edition i) (inode_place geometry.edition i + (constants geometry.edition).inode_bytes)) where
  makes_cleared : (node : Inode) → inode_of geometry.edition new i ≡ node
      → kind_of geometry.edition node.mode.bits ≢ kinds.Odd → is_large geometry.edition node.mode.bits ≡ false → node.size ≡ 0 → node.links ≤ 2
      → (has_places (kind_of geometry.edition node.mode.bits) ≡ true → (k : ℕ) → slice_index node.addresses k ≡ 0)
      → MakesInode geometry old new i node
  makes_cleared node is known small size few empty = record {
    above = free.above;
    last = free.within;
    same = join cleared put (omega arith) (omega arith) (omega arith) (omega arith);
    is = is;
    was = free.mode;
    known = known;
    small = small;
    size = size;
    links = let limit = few_links geometry.edition in omega (arith, few, limit);
    empty = empty;
  }

  -- a new file or directory is made
  pub makes_new : (bits : Mode) (count uid gid now : ℕ) → count ≤ 2
      → has_places (kind_of geometry.edition bits.bits) ≡ true → is_large geometry.edition bits.bits ≡ false
      → inode_of geometry.edition new i ≡ new_inode geometry.edition bits count uid gid now
      → MakesInode geometry old new i (new_inode geometry.edition bits count uid gid now)
  makes_new bits count uid gid now few file small is =
      makes_cleared (new_inode geometry.edition bits count uid gid now) is (odd_none (kind_of geometry.edition bits.bits) file) small refl few (λ has. zeros_at 13)

  -- a new special file is made
  pub makes_special : (bits : Mode) (device : DeviceId) (uid gid now : ℕ)
      → kind_of geometry.edition bits.bits ≡ kinds.Special → is_large geometry.edition bits.bits ≡ false
      → inode_of geometry.edition new i ≡ special_inode geometry.edition bits device uid gid now
      → MakesInode geometry old new i (special_inode geometry.edition bits device uid gid now)
  makes_special bits device uid gid now kind small is =
      makes_cleared (special_inode geometry.edition bits device uid gid now) is (λ odd. let clash : kinds.Special ≡ kinds.Odd = sym kind ∙ odd in cc)
      small refl (omega arith) (λ has. absurd (false≢true (sym (ap has_places kind) ∙ has)))

-- the unused byte is 0
pub unused_zero : (edition : Edition) (mid new : List ℕ) (i : ℕ) → edition ≡ V7
    → ((k : ℕ) → inode_place edition i ≤ k → k < inode_place edition i + (constants edition).inode_bytes → slice_index mid k ≡ 0)
    → slice_index new (inode_place V7 i + 51) ≡ slice_index mid (inode_place V7 i + 51) → slice_index new (inode_place V7 i + 51) ≡ 0
unused_zero V6 mid new i v7 zero same = absurd (cc)
unused_zero V7 mid new i v7 zero same = same ∙ zero (inode_place V7 i + 51) (omega arith) (omega arith)
