use Rattle.std.proofs.Common.{ℕ, ◌+◌, ◌-◌, ◌*◌, ◌<◌, ◌≤◌, ◌∙◌, List, [], ◌∷◌, take, drop, length, refl, ap, arith}
use Rattle.std.proofs.Math.Nat.{mul-le-mul_right}
use Rattle.vol_layout.specs.Edition.{constants}
use Rattle.vol_layout.specs.Geometry.{Fits}
use Rattle.vol_layout.specs.Inode.{inode_place}
use Rattle.vol_layout.specs.declared.edition.Edition.{Edition}
use Rattle.vol_layout.specs.declared.edition.Edition.TheVariants.{V6, V7}
use Rattle.vol_layout.specs.declared.geometry.Geometry.{Geometry}
use Rattle.vol_fields.specs.Laws.{Begins, FollowsNode, FollowsParts, FollowsSuper}
use Rattle.vol_fields.specs.Runs.{array, one, spot_at}
use Rattle.vol_fields.specs.Tables.{node_runs, parts, super_runs}
use Rattle.vol_fields.specs.declared.names.Name.TheVariants as names
use Rattle.vol_fields.specs.declared.runs.Run.{Run}
use Rattle.vol_fields.proofs.RunLaws.{array_is}
use Rattle.vol_fields.proofs.laws.fields_follow_the_layout.Goals as goal

super_follows : (edition : Edition) → FollowsSuper edition
unfolding spot_at
super_follows V6 = record {
  list_size = refl;
  block_count = refl;
  free_count = refl;
  free = λ k low. array_is (take 3 (super_runs V6)) (array names.Free 0 100 2) (drop 4 (super_runs V6)) 512 518 k k (518 + 2 * k) refl refl (omega arith) (omega arith)
      (omega (arith, low));
  cache_count = refl;
  cached = λ k low. array_is (take 5 (super_runs V6)) (array names.Cached 0 100 2) (drop 6 (super_runs V6)) 512 720 k k (720 + 2 * k) refl refl (omega arith) (omega arith)
      (omega (arith, low));
  free_lock = refl;
  inode_lock = refl;
  modified = refl;
  read_only = refl;
  time = refl;
}
super_follows V7 = record {
  list_size = refl;
  block_count = refl;
  free_count = refl;
  free = λ k low. array_is (take 3 (super_runs V7)) (array names.Free 0 50 4) (drop 4 (super_runs V7)) 512 520 k k (520 + 4 * k) refl refl (omega arith) (omega arith)
      (omega (arith, low));
  cache_count = refl;
  cached = λ k low. array_is (take 5 (super_runs V7)) (array names.Cached 0 100 2) (drop 6 (super_runs V7)) 512 722 k k (722 + 2 * k) refl refl (omega arith) (omega arith)
      (omega (arith, low));
  free_lock = refl;
  inode_lock = refl;
  modified = refl;
  read_only = refl;
  time = refl;
}

node_follows : (edition : Edition) (at : ℕ) → FollowsNode edition at
node_follows V6 at = (
  array_is [] (one names.Mode 0 2) (drop 1 (node_runs V6)) at at 0 0 at (omega arith) (omega arith) refl (omega arith) (omega arith),
  array_is (take 1 (node_runs V6)) (one names.Links 0 1) (drop 2 (node_runs V6)) at (at + 2) 0 0 (at + 2) (omega arith) (omega arith) refl (omega arith) (omega arith),
  array_is (take 2 (node_runs V6)) (one names.Uid 0 1) (drop 3 (node_runs V6)) at (at + 3) 0 0 (at + 3) (omega arith) (omega arith) refl (omega arith) (omega arith),
  array_is (take 3 (node_runs V6)) (one names.Gid 0 1) (drop 4 (node_runs V6)) at (at + 4) 0 0 (at + 4) (omega arith) (omega arith) refl (omega arith) (omega arith),
  array_is (take 4 (node_runs V6)) (one names.Size 0 3) (drop 5 (node_runs V6)) at (at + 5) 0 0 (at + 5) (omega arith) (omega arith) refl (omega arith) (omega arith),
  (λ k low. array_is (take 5 (node_runs V6)) (array names.Address 0 8 2) (drop 6 (node_runs V6)) at (at + 8) k k (at + 8 + 2 * k) (omega arith) refl (omega arith) (omega arith)
      (omega (arith, low))),
  array_is (take 6 (node_runs V6)) (one names.Accessed 0 4) (drop 7 (node_runs V6)) at (at + 24) 0 0 (at + 24) (omega arith) (omega arith) refl (omega arith) (omega arith),
  array_is (take 7 (node_runs V6)) (one names.Written 0 4) [] at (at + 28) 0 0 (at + 28) (omega arith) (omega arith) refl (omega arith) (omega arith),
)
node_follows V7 at = (
  array_is [] (one names.Mode 0 2) (drop 1 (node_runs V7)) at at 0 0 at (omega arith) (omega arith) refl (omega arith) (omega arith),
  array_is (take 1 (node_runs V7)) (one names.Links 0 2) (drop 2 (node_runs V7)) at (at + 2) 0 0 (at + 2) (omega arith) (omega arith) refl (omega arith) (omega arith),
  array_is (take 2 (node_runs V7)) (one names.Uid 0 2) (drop 3 (node_runs V7)) at (at + 4) 0 0 (at + 4) (omega arith) (omega arith) refl (omega arith) (omega arith),
  array_is (take 3 (node_runs V7)) (one names.Gid 0 2) (drop 4 (node_runs V7)) at (at + 6) 0 0 (at + 6) (omega arith) (omega arith) refl (omega arith) (omega arith),
  array_is (take 4 (node_runs V7)) (one names.Size 0 4) (drop 5 (node_runs V7)) at (at + 8) 0 0 (at + 8) (omega arith) (omega arith) refl (omega arith) (omega arith),
  (λ k low. array_is (take 5 (node_runs V7)) (array names.Address 0 13 3) (drop 6 (node_runs V7)) at (at + 12) k k (at + 12 + 3 * k) (omega arith) refl (omega arith) (omega arith)
      (omega (arith, low))),
  array_is (take 7 (node_runs V7)) (one names.Accessed 0 4) (drop 8 (node_runs V7)) at (at + 52) 0 0 (at + 52) (omega arith) (omega arith) refl (omega arith) (omega arith),
  array_is (take 8 (node_runs V7)) (one names.Written 0 4) (drop 9 (node_runs V7)) at (at + 56) 0 0 (at + 56) (omega arith) (omega arith) refl (omega arith) (omega arith),
  array_is (take 9 (node_runs V7)) (one names.Changed 0 4) [] at (at + 60) 0 0 (at + 60) (omega arith) (omega arith) refl (omega arith) (omega arith),
)

-- i-node j + 1 comes after the boot block, the super-block and j i-nodes of w bytes
inode_found : (last w j : ℕ) (more : List Run) → 0 < w → j < last
    → Begins (one names.Boot 0 512 ∷ one names.Super 1 512 ∷ array names.Node 1 last w ∷ more) 0 (1024 + w * j) names.Node (1 + j) w
inode_found last w j more some low =
    let room : (j + 1) * w ≤ last * w = mul-le-mul_right w (omega (arith, low)) in
    array_is (one names.Boot 0 512 ∷ one names.Super 1 512 ∷ []) (array names.Node 1 last w) more 0 1024 j (1 + j) (1024 + w * j) refl refl refl some
    (omega (arith, room, some))

-- an i-node has bytes
inode_some : (edition : Edition) → 0 < (constants edition).inode_bytes
inode_some V6 = omega arith
inode_some V7 = omega arith

parts_follow : (g : Geometry) (image : List ℕ) → Fits g image → FollowsParts g image
parts_follow g image fits = record {
  inode = λ i first last.
      inode_found g.last_inode (constants g.edition).inode_bytes (i - 1) (drop 3 (parts g (length image))) (inode_some g.edition) (omega (arith, first, last))
      ∙ ap (λ k. record { name = names.Node; index = k; start = inode_place g.edition i; bytes = (constants g.edition).inode_bytes }) (omega (arith, first));
  block = λ b low high.
      let i_list = fits.i_list in
      array_is (take 3 (parts g (length image))) (array names.Data g.zone_start (g.zone_end - g.zone_start) 512) (drop 4 (parts g (length image)))
      0 (512 * g.zone_start) (b - g.zone_start) b (512 * b) (omega (arith, i_list)) (omega (arith, low)) (omega (arith, low)) (omega arith)
      (omega (arith, low, high));
}

pub returns : goal.returns
returns c = record { parts = parts_follow; super_block = super_follows; inode = node_follows }
