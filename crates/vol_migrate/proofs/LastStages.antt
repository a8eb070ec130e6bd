-- The volume when all files are copied: its directories make the same graph with each i-number one higher.
use Rattle.std.proofs.Common.{◌≡◌, ◌≢◌, ◌∙◌, sym, ap, subst, refl, ℕ, zero, suc, ◌+◌, ◌-◌, ◌*◌, ◌<◌, ◌≤◌, false, if◌then◌else◌, List, ◌∷◌, map, get_or, Option, None, ◌⊎◌, inl, inr, arith}
use Rattle.std.specs.List.{range_with_len}
use Rattle.std.specs.Option.{option_map}
use Rattle.std.proofs.lemmas.Bool.{cases_Bool, cases_lt, and_parts, leb-true}
use Rattle.std.proofs.lemmas.List.{ext_get_or}
use Rattle.vol_layout.specs.Body.{body, body_size}
use Rattle.vol_layout.specs.Edition.{constants}
use Rattle.vol_layout.specs.BlockPointers.{IsFile}
use Rattle.vol_layout.specs.Inode.{inode_of, kind_of}
use Rattle.vol_layout.specs.declared.geometry.Geometry.{Geometry}
use Rattle.vol_layout.specs.declared.i_node.Inode.{Inode}
use Rattle.vol_layout.specs.declared.mode.Kind.{Kind}
use Rattle.vol_layout.specs.declared.mode.Kind.TheVariants as kinds
use Rattle.vol_layout.specs.Slot.{slot_at}
use Rattle.vol_layout.proofs.BodyLaws.{length-body}
use Rattle.vol_layout.proofs.KindLaws.{kind_zero}
use Rattle.vol_file.specs.Changes.{whole_blocks}
use Rattle.vol_file.specs.Rules.{kind_at, size_of}
use Rattle.vol_dir.specs.Entries.{entry_at, entry_in, slot_count, slots}
use Rattle.vol_dir.specs.Tree.{tree, shapes, node_of, node_with, content_of, shape_of, no_shape, is_number}
use Rattle.vol_dir.proofs.ReadSlots.{entry_at_in, entry_at_past}
use Rattle.vol_dir.proofs.WalkLaws.{node_inside}
use Rattle.vol_judge.specs.Graph.{graph_of, kind_in, entry_by}
use Rattle.vol_judge.proofs.ImageGraphs.{kind_inside}
use Rattle.vol_change.proofs.ReadyLaws.{ready_slots}
use Rattle.vol_change.proofs.States.{shape_here}
use Rattle.vol_migrate.specs.Stages.{IsUsed, IsVacant, MayMigrate, IsCarried, IsStage, carried_byte}
use Rattle.vol_migrate.proofs.RaisedGraphs.{RaisesGraph, raised_entry}
use Rattle.vol_migrate.proofs.RaisedSlots.{slot_raised, entry_raised}
use Rattle.vol_migrate.proofs.StageSteps.{carried_kind, carried_size, progress_before}
use Rattle.vol_migrate.proofs.StageLaws.{old_rules, file_is_used, used_file}
use Rattle.vol_migrate.proofs.FirstStages.{free_or, vacant_or, zero_mode}

-- all files are copied
abbrev pub IsLast : Geometry → Geometry → List ℕ → ℕ → List ℕ → Type 0
IsLast from to old now image = IsStage from to old now image (from.last_inode + 1) 0

-- each file is copied with all its blocks
pub all_carried : (from to : Geometry) (old image : List ℕ) (now i : ℕ) → IsLast from to old now image → IsUsed from old i
    → IsCarried from to old now image i (whole_blocks (size_of from old i))
all_carried from to old image now i stage used =
    let last = used.last in
    subst (IsCarried from to old now image i) (progress_before from old (from.last_inode + 1) 0 i (omega (arith, last))) (stage.carried i used)

-- both bodies of a file have the file's size
sizes_same : (from to : Geometry) (old image : List ℕ) (now i : ℕ) → MayMigrate old from to → IsLast from to old now image → IsFile from old i
    → (body_size from old i ≡ size_of from old i) × (body_size to image (i + 1) ≡ size_of from old i)
sizes_same from to old image now i may stage file =
    let greatest = (old_rules old from to may).sound.sizes.greatest i file in
    let size = carried_size from to old image now i (whole_blocks (size_of from old i))
    (all_carried from to old image now i stage (file_is_used old from i file)) in
    let six : (constants from.edition).greatest ≡ 16777215 = ap (λ e. (constants e).greatest) may.sixth in
    let seven : (constants to.edition).greatest ≡ 1082201088 = ap (λ e. (constants e).greatest) may.seventh in
    (omega (arith, greatest), omega (arith, greatest, size, six, seven))

-- each byte of a file's body is copied
pub body_carried : (from to : Geometry) (old image : List ℕ) (now i x : ℕ) → MayMigrate old from to → IsLast from to old now image → IsFile from old i
    → x < size_of from old i → get_or (body to image (i + 1)) x 0 ≡ carried_byte (kind_at from old i) (body from old i) x
body_carried from to old image now i x may stage file low =
    ((all_carried from to old image now i stage (file_is_used old from i file)).file file.kind).done x low (omega (arith, low))

-- the body of a regular file is unchanged
pub regular_body : (from to : Geometry) (old image : List ℕ) (now i : ℕ) → MayMigrate old from to → IsLast from to old now image → IsUsed from old i
    → kind_at from old i ≡ kinds.Regular → body to image (i + 1) ≡ body from old i
regular_body from to old image now i may stage used regular =
    let file = used_file old from i kinds.Regular used regular refl in
    let sizes = sizes_same from to old image now i may stage file in
    let left = length-body to image (i + 1) in
    let right = length-body from old i in
    ext_get_or 0 (body to image (i + 1)) (body from old i) (omega (arith, left, right, sizes.0, sizes.1))
    (λ x h.
    body_carried from to old image now i x may stage file (omega (arith, h, left, sizes.1))
    ∙ ap (λ k. carried_byte k (body from old i) x) regular)

-- the entry in each slot of a directory is raised
entry_carried : (from to : Geometry) (old image : List ℕ) (now i s : ℕ) → MayMigrate old from to → IsLast from to old now image → IsUsed from old i
    → kind_at from old i ≡ kinds.Directory → entry_at to image (i + 1) s ≡ raised_entry (entry_at from old i s)
entry_carried from to old image now i s may stage used directory =
    let file = used_file old from i kinds.Directory used directory refl in
    let sizes = sizes_same from to old image now i may stage file in
    let whole = ready_slots from old i may.ready (record { first = used.first; last = used.last; kind = directory }) in
    let left = length-body to image (i + 1) in
    let right = length-body from old i in
    elim (cases_lt s (slot_count from old i)) [
      | inl low ↦
          let slot = slot_raised (body from old i) (body to image (i + 1)) s (omega (arith, low, right, sizes.0)) (omega (arith, low, left, sizes.0, sizes.1))
          (λ x from_here to_here.
          body_carried from to old image now i x may stage file (omega (arith, to_here, low, sizes.0))
          ∙ ap (λ k. carried_byte k (body from old i) x) directory) in
          entry_at_in to image (i + 1) s (omega (arith, low, sizes.0, sizes.1))
          ∙ (ap entry_in slot
          ∙ (entry_raised (slot_at (body from old i) (16 * s)) ∙ sym (ap raised_entry (entry_at_in from old i s low))))
      | inr past ↦
          entry_at_past to image (i + 1) s (omega (arith, past, sizes.0, sizes.1)) ∙ sym (ap raised_entry (entry_at_past from old i s past))
    ]

-- if each entry is raised, so is the list of entries
map_each : (f g : ℕ → Option (List ℕ × ℕ)) (a n : ℕ) → ((s : ℕ) → f s ≡ raised_entry (g s))
    → map f (range_with_len a n) ≡ map raised_entry (map g (range_with_len a n))
map_each f g a zero same = refl
map_each f g a (suc n) same = λ t. same a t ∷ map_each f g (a + 1) n same t

pub slots_carried : (from to : Geometry) (old image : List ℕ) (now i : ℕ) → MayMigrate old from to → IsLast from to old now image → IsUsed from old i
    → kind_at from old i ≡ kinds.Directory → slots to image (i + 1) ≡ map raised_entry (slots from old i)
unfolding slots
slots_carried from to old image now i may stage used directory =
    let sizes = sizes_same from to old image now i may stage (used_file old from i kinds.Directory used directory refl) in
    let count : slot_count to image (i + 1) ≡ slot_count from old i = omega (arith, sizes.0, sizes.1) in
    ap (λ n. map (entry_at to image (i + 1)) (range_with_len 0 n)) count
    ∙ map_each (entry_at to image (i + 1)) (entry_at from old i) 0 (slot_count from old i)
    (λ s. entry_carried from to old image now i s may stage used directory)

-- an i-node is used or not
pub used_or : (from : Geometry) (old : List ℕ) (k : ℕ) → (IsUsed from old (k - 1) → ⊥) ⊎ ((k ≡ k - 1 + 1) × IsUsed from old (k - 1))
used_or from old k =
    elim (vacant_or from old k) [
      | inl vacant ↦ inl (λ used. let first = used.first in vacant (k - 1) (omega (arith, first)) used)
      | inr used ↦
          let at : used.0 ≡ k - 1 = omega (arith, used.1) in
          inr ((let e : k ≡ k - 1 + 1 = omega (arith, used.1) in e), subst (IsUsed from old) at used.2)
    ]

-- a number is one of the volume's i-numbers or not
outside_or : (geometry : Geometry) (k : ℕ) → (is_number geometry k ≡ false) ⊎ ((1 ≤ k) × (k ≤ geometry.last_inode))
outside_or geometry k =
    elim (cases_Bool (is_number geometry k)) [
      | inl is ↦ let parts = and_parts _ _ is in inr (leb-true 1 k parts.0, leb-true k geometry.last_inode parts.1)
      | inr out ↦ inl out
    ]

-- an i-number has the kind of a free i-node if it is outside the volume or its i-node is free
free_kind : (geometry : Geometry) (image : List ℕ) (k : ℕ) → (1 ≤ k → k ≤ geometry.last_inode → kind_at geometry image k ≡ kinds.Free)
    → kind_in geometry image k ≡ kinds.Free
free_kind geometry image k free =
    elim (outside_or geometry k) [
      | inl out ↦ ap (λ t. if t then kind_at geometry image k else kinds.Free) out
      | inr is ↦ kind_inside geometry image k is.0 is.1 ∙ free is.0 is.1
    ]

pub free_node : (geometry : Geometry) (image : List ℕ) (k : ℕ) → (1 ≤ k → k ≤ geometry.last_inode → kind_at geometry image k ≡ kinds.Free)
    → (tree geometry image).nodes k ≡ None
unfolding tree node_of
free_node geometry image k free =
    elim (outside_or geometry k) [
      | inl out ↦ ap (λ t. if t then node_of geometry image k else None) out
      | inr is ↦
          node_inside geometry image k is.0 is.1
          ∙ ap (λ kind. option_map (node_with (inode_of geometry.edition image k)) (content_of geometry image k kind)) (free is.0 is.1)
    ]

pub free_shape : (geometry : Geometry) (image : List ℕ) (k : ℕ) → (1 ≤ k → k ≤ geometry.last_inode → kind_at geometry image k ≡ kinds.Free)
    → shapes geometry image k ≡ no_shape
unfolding shapes
free_shape geometry image k free =
    elim (outside_or geometry k) [
      | inl out ↦ ap (λ t. if t then shape_of geometry image k (kind_at geometry image k) else no_shape) out
      | inr is ↦ shape_here geometry image k is.0 is.1 ∙ ap (shape_of geometry image k) (free is.0 is.1)
    ]

-- an i-node that isn't used is free
pub old_free : (from : Geometry) (old : List ℕ) (i : ℕ) → (IsUsed from old i → ⊥) → 1 ≤ i → i ≤ from.last_inode → kind_at from old i ≡ kinds.Free
old_free from old i unused first last =
    elim (free_or (kind_at from old i)) [
      | inl free ↦ free
      | inr some ↦ absurd (unused (record { first = first; last = last; some = some }))
    ]

-- if an i-node of the old volume isn't used, the next i-number of the new one is vacant
pub unused_vacant : (from : Geometry) (old : List ℕ) (k : ℕ) → (IsUsed from old (k - 1) → ⊥) → IsVacant from old k
unused_vacant from old k unused = λ i e used. unused (subst (IsUsed from old) (let at : i ≡ k - 1 = omega (arith, e) in at) used)

-- a vacant i-node of the new volume is free
pub new_free : (from to : Geometry) (old image : List ℕ) (now k : ℕ) → IsLast from to old now image → (IsUsed from old (k - 1) → ⊥)
    → 1 ≤ k → k ≤ to.last_inode → kind_at to image k ≡ kinds.Free
new_free from to old image now k stage unused first last =
    ap (kind_of to.edition)
    (zero_mode to image k (λ r low. stage.zeros k r first last (inl (unused_vacant from old k unused)) low))
    ∙ kind_zero to.edition

-- the entries of an i-node of this kind are the old ones, raised
entries_by : (from to : Geometry) (old image : List ℕ) (now i s : ℕ) (kind : Kind) → MayMigrate old from to → IsLast from to old now image → IsUsed from old i
    → kind_at from old i ≡ kind → entry_by kind to image (i + 1) s ≡ raised_entry (entry_by kind from old i s)
entries_by from to old image now i s kinds.Directory may stage used is = entry_carried from to old image now i s may stage used is
entries_by from to old image now i s kinds.Free may stage used is = refl
entries_by from to old image now i s kinds.Regular may stage used is = refl
entries_by from to old image now i s kinds.Special may stage used is = refl
entries_by from to old image now i s kinds.Odd may stage used is = refl

-- each i-number of the new graph has the kind of the one before it in the old graph
graph_kind : (from to : Geometry) (old image : List ℕ) (now k : ℕ) → MayMigrate old from to → IsLast from to old now image
    → kind_in to image k ≡ kind_in from old (k - 1)
graph_kind from to old image now k may stage =
    elim (used_or from old k) [
      | inl unused ↦
          free_kind to image k (new_free from to old image now k stage unused) ∙ sym (free_kind from old (k - 1) (old_free from old (k - 1) unused))
      | inr used ↦
          let number = may.numbers (k - 1) used.1 in
          ap (kind_in to image) used.0
          ∙ (kind_inside to image (k - 1 + 1) (omega arith) number
          ∙ (carried_kind from to old image now (k - 1) (whole_blocks (size_of from old (k - 1))) may.sixth may.seventh
          (old_rules old from to may).sound.kinds used.1 (all_carried from to old image now (k - 1) stage used.1)
          ∙ sym (kind_inside from old (k - 1) used.1.first used.1.last)))
    ]

-- an i-number whose kind isn't `Free` is used
graph_used : (from : Geometry) (old : List ℕ) (k : ℕ) → kind_in from old (k - 1) ≢ kinds.Free → (k ≡ k - 1 + 1) × IsUsed from old (k - 1)
graph_used from old k some =
    elim (used_or from old k) [
      | inl unused ↦ absurd (some (free_kind from old (k - 1) (old_free from old (k - 1) unused)))
      | inr used ↦ used
    ]

-- the graph of the new volume has each i-number one higher
pub graph_raised : (from to : Geometry) (old image : List ℕ) (now : ℕ) → MayMigrate old from to → IsLast from to old now image
    → RaisesGraph (graph_of from old) (graph_of to image)
graph_raised from to old image now may stage = record {
  kind = λ k. graph_kind from to old image now k may stage;
  links = λ k some.
      let used = graph_used from old k some in
      ap (λ x. (inode_of to.edition image x).links) used.0
      ∙ ap (λ (node : Inode). node.links) (all_carried from to old image now (k - 1) stage used.1).inode;
  size = λ k directory.
      let used = graph_used from old k (λ free. let both : kinds.Directory ≡ kinds.Free = sym directory ∙ free in absurd (cc)) in
      ap (size_of to image) used.0
      ∙ carried_size from to old image now (k - 1) (whole_blocks (size_of from old (k - 1))) (all_carried from to old image now (k - 1) stage used.1);
  entry = λ k s.
      elim (used_or from old k) [
        | inl unused ↦
            ap (λ kind. entry_by kind to image k s) (free_kind to image k (new_free from to old image now k stage unused))
            ∙ sym (ap (λ kind. raised_entry (entry_by kind from old (k - 1) s)) (free_kind from old (k - 1) (old_free from old (k - 1) unused)))
        | inr used ↦
            ap (λ kind. entry_by kind to image k s)
            (graph_kind from to old image now k may stage ∙ kind_inside from old (k - 1) used.1.first used.1.last)
            ∙ (ap (λ x. entry_by (kind_at from old (k - 1)) to image x s) used.0
            ∙ (entries_by from to old image now (k - 1) s (kind_at from old (k - 1)) may stage used.1 refl
            ∙ sym (ap (λ kind. raised_entry (entry_by kind from old (k - 1) s)) (kind_inside from old (k - 1) used.1.first used.1.last))))
      ];
}
