-- Images with the same bytes before their data zones.
use Rattle.std.proofs.Common.{◌≡◌, ℕ, ◌+◌, ◌-◌, ◌*◌, ◌<◌, ◌≤◌, ◌∙◌, sym, ap, subst, ◌&&◌, nat_le, nat_lt, if◌then◌else◌, List, length, slice_index, Result, Ok, Err, refl, inl, inr, arith}
use Rattle.std.proofs.lemmas.Bool.{cases_lt}
use Rattle.std.proofs.lemmas.List.{get_or_past}
use Rattle.vol_layout.specs.Body.{body_size}
use Rattle.vol_layout.specs.Edition.{constants}
use Rattle.vol_layout.specs.Geometry.{list_size, block_count, geometry_read, Fits}
use Rattle.vol_layout.specs.Inode.{inode_of, kind_of}
use Rattle.vol_layout.specs.declared.edition.Edition.{Edition}
use Rattle.vol_layout.specs.declared.edition.Edition.TheVariants.{V6, V7}
use Rattle.vol_layout.specs.declared.geometry.Geometry.{Geometry}
use Rattle.vol_layout.specs.declared.geometry.GeometryFault.{GeometryFault}
use Rattle.vol_layout.specs.declared.geometry.GeometryFault.TheVariants.{Short, Bounds}
use Rattle.vol_layout.proofs.InodeLaws.{KeepsInode, inode_kept, mode_kept, body_size_kept, inode_of_kept}
use Rattle.vol_file.specs.Rules.{kind_at}
use Rattle.vol_file.specs.Changes.{whole_blocks as blocks_in}
use Rattle.vol_judge.specs.Directories.{root_of}
use Rattle.vol_reports.specs.Dcheck.{is_allocated}
use Rattle.vol_reports.specs.Counted.{HasLinkCounts}
use Rattle.vol_reports.specs.declared.inode_link_counts.LinkCount.{LinkCount}
use Rattle.vol_check.specs.Parts.{parts_of, part_count, HasStarts}
use Rattle.vol_check.specs.Layouts.{head_end, HasSameHead}
use Rattle.vol_check.proofs.Sums.{below_same}

-- the geometry depends only on the image's length and its first 518 bytes
geometry_same : (edition : Edition) (old new : List ℕ) → length new ≡ length old → ((k : ℕ) → k < 518 → slice_index new k ≡ slice_index old k)
    → geometry_read edition new ≡ geometry_read edition old
unfolding geometry_read
geometry_same V6 old new len same =
    let F : ℕ → ℕ → ℕ → Result Geometry GeometryFault = λ n list count.
    if nat_le 1024 n && nat_le (512 * count) n
    then (if nat_le 1 list && (nat_le list (constants V6).list_block_limit && nat_lt (list + 2) count)
    then Ok (record { edition = V6; zone_start = list + 2; zone_end = count; last_inode = (constants V6).inodes_per_block * (list + 2 - 2) }) else Err Bounds)
    else Err Short in
    let list : list_size new ≡ list_size old = omega (arith, same 512 (omega arith), same 513 (omega arith)) in
    let count : block_count V6 new ≡ block_count V6 old = omega (arith, same 514 (omega arith), same 515 (omega arith)) in
    ap (λ n. F n (list_size new) (block_count V6 new)) len ∙ (ap (λ l. F (length old) l (block_count V6 new)) list ∙ ap (F (length old) (list_size old)) count)
geometry_same V7 old new len same =
    let F : ℕ → ℕ → ℕ → Result Geometry GeometryFault = λ n list count.
    if nat_le 1024 n && nat_le (512 * count) n
    then (if nat_le 3 list && (nat_le list ((constants V7).list_block_limit + 2) && (nat_lt list count && nat_le count (constants V7).block_limit))
    then Ok (record { edition = V7; zone_start = list; zone_end = count; last_inode = (constants V7).inodes_per_block * (list - 2) }) else Err Bounds)
    else Err Short in
    let list : list_size new ≡ list_size old = omega (arith, same 512 (omega arith), same 513 (omega arith)) in
    let count : block_count V7 new ≡ block_count V7 old =
    omega (arith, same 514 (omega arith), same 515 (omega arith), same 516 (omega arith), same 517 (omega arith)) in
    ap (λ n. F n (list_size new) (block_count V7 new)) len ∙ (ap (λ l. F (length old) l (block_count V7 new)) list ∙ ap (F (length old) (list_size old)) count)

-- bytes past the end of an image read as 0
past_end : (image : List ℕ) (k : ℕ) → length image ≤ k → slice_index image k ≡ 0
past_end image k le = get_or_past image k 0 le

module _ (edition : Edition) (old new : List ℕ) (same : HasSameHead edition old new) where
  same_far : (k : ℕ) → length old ≤ k → slice_index new k ≡ slice_index old k
  same_far k le = let l = same.len in past_end new k (omega arith) ∙ sym (past_end old k le)

  same_none : (fault : GeometryFault) → geometry_read edition old ≡ Err fault → (k : ℕ) → slice_index new k ≡ slice_index old k
  same_none fault read k = elim (cases_lt k (length old)) [
    | inl within ↦ same.head k (subst (λ (x : Result Geometry GeometryFault). k < head_end x (length old)) (sym read) within)
    | inr past ↦ same_far k past
  ]

  module _ (g : Geometry) (read : geometry_read edition old ≡ Ok g) (fits : Fits g old) where
    same_before : (k : ℕ) → k < 512 * g.zone_start → slice_index new k ≡ slice_index old k
    same_before k lt = same.head k (subst (λ (x : Result Geometry GeometryFault). k < head_end x (length old)) (sym read) lt)

    same_some : geometry_read edition new ≡ geometry_read edition old
    same_some = geometry_same edition old new same.len (λ k lt. same_before k (let i = fits.i_list in omega arith))

    keeps : (i : ℕ) → 1 ≤ i → i ≤ g.last_inode → KeepsInode g old new i
    keeps i first last =
        inode_kept g old new (512 * g.zone_start) (length old) i fits (record {
          len = same.len;
          below = same_before;
          above = same_far;
        }) (omega arith) first last

    kinds_same : (i : ℕ) → 1 ≤ i → i ≤ g.last_inode → kind_at g new i ≡ kind_at g old i
    kinds_same i first last = ap (kind_of g.edition) (mode_kept g old new i (keeps i first last))

    parts_same : (i : ℕ) → 1 ≤ i → i ≤ g.last_inode → part_count g new i ≡ part_count g old i
    unfolding part_count
    parts_same i first last =
        ap (λ k. parts_of k (blocks_in (body_size g new i))) (kinds_same i first last)
        ∙ ap (λ n. parts_of (kind_at g old i) (blocks_in n)) (body_size_kept g old new i (keeps i first last))

    -- both images have the same starts of pieces
    pub starts_same : (starts : List ℕ) → HasStarts g old starts → HasStarts g new starts
    starts_same starts has = record {
      wide = has.wide;
      at = λ n le. has.at n le ∙ below_same (λ k. part_count g old (k + 1)) (λ k. part_count g new (k + 1)) n
          (λ k lt. sym (parts_same (k + 1) (omega arith) (omega arith)));
    }

    -- both images have the same link counts
    pub links_same : (links : List LinkCount) → HasLinkCounts g old links → HasLinkCounts g new links
    links_same links has = record {
      wide = has.wide;
      counts = λ k d lt.
          let kind = kinds_same (k + 1) (omega arith) (omega arith) in
          let inode = inode_of_kept g old new (k + 1) (keeps (k + 1) (omega arith) (omega arith)) in
          has.counts k d lt ∙ (ap (λ x. if is_allocated x then (inode_of g.edition old (k + 1)).links else 0) (sym kind)
          ∙ ap (λ x. if is_allocated (kind_at g new (k + 1)) then x.links else 0) (sym inode));
      wanted = λ k d lt.
          let kind = kinds_same (k + 1) (omega arith) (omega arith) in
          has.wanted k d lt ∙ ap (λ x. is_allocated x && nat_le (root_of g) (k + 1)) (sym kind);
    }

  -- the same geometry is read from both images
  pub read_same : ((g : Geometry) → geometry_read edition old ≡ Ok g → Fits g old) → geometry_read edition new ≡ geometry_read edition old
  read_same fits = go (geometry_read edition old) refl
    where
      go : (layout : Result Geometry GeometryFault) → geometry_read edition old ≡ layout → geometry_read edition new ≡ geometry_read edition old
      go (Ok g) read = same_some g read (fits g read)
      go (Err fault) read = geometry_same edition old new same.len (λ k lt. same_none fault read k)
