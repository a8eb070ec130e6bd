-- Writing the i-nodes of a volume to an i-list of zeros.
use Rattle.std.proofs.Common.{◌≡◌, ◌∙◌, sym, ap, subst, ℕ, ◌+◌, ◌*◌, ◌<◌, ◌≤◌, List, get_or, slice_index, inl, inr, arith}
use Rattle.std.proofs.lemmas.Bool.{cases_eq}
use Rattle.pdp_words.specs.Words.{SameOutside}
use Rattle.vol_layout.specs.Edition.{constants}
use Rattle.vol_layout.specs.Geometry.{Fits}
use Rattle.vol_layout.specs.Inode.{inode_of, inode_place}
use Rattle.vol_layout.specs.declared.geometry.Geometry.{Geometry}
use Rattle.vol_layout.specs.declared.mode.Kind.TheVariants as kinds
use Rattle.vol_layout.proofs.InodeLaws.{KeepsInode, inode_apart, inode_of_kept, place_from, place_room}
use Rattle.vol_file.specs.Rules.{kind_at}
use Rattle.vol_migrate.specs.Stages.{IsUsed, HasInodesBelow, first_inode}

-- an i-list of zeros has the i-nodes below 1
pub inodes_none : (from to : Geometry) (old image : List ℕ) (now : ℕ) → Fits to image
    → ((k : ℕ) → 1024 ≤ k → k < 512 * to.zone_start → get_or image k 0 ≡ 0) → HasInodesBelow from to old now image 1
inodes_none from to old image now fits zeros = record {
  done = λ j low used. let first = used.first in absurd (omega (arith, low, first));
  rest = λ k r first last free low.
      let from_list = place_from to.edition k in
      let room = place_room to image k fits first last in
      zeros (inode_place to.edition k + r) (omega (arith, from_list)) (omega (arith, room, low));
}

-- passing a free i-node adds no i-node
pub inodes_pass : (from to : Geometry) (old image : List ℕ) (now i : ℕ) → kind_at from old i ≡ kinds.Free → HasInodesBelow from to old now image i
    → HasInodesBelow from to old now image (i + 1)
inodes_pass from to old image now i free has = record {
  done = λ j low used.
      elim (cases_eq j i) [
        | inl is ↦ absurd (used.some (ap (kind_at from old) is ∙ free))
        | inr other ↦ has.done j (omega (arith, low, other)) used
      ];
  rest = λ k r first last which low.
      elim which [
        | inl later ↦ has.rest k r first last (inl (omega (arith, later))) low
        | inr idle ↦ has.rest k r first last (inr idle) low
      ];
}

-- the unused byte of an i-node is unchanged, with variables equal to its position
pub byte_kept : (to : Geometry) (image new : List ℕ) (k j r : ℕ) → k ≡ j → r ≡ 51
    → slice_index new (inode_place to.edition j + 51) ≡ slice_index image (inode_place to.edition j + 51)
    → slice_index new (inode_place to.edition k + r) ≡ slice_index image (inode_place to.edition k + r)
byte_kept to image new k j r is byte stays =
    let P : ℕ → ℕ → Type 0 = λ i s. slice_index new (inode_place to.edition i + s) ≡ slice_index image (inode_place to.edition i + s) in
    subst (λ i. P i r) (sym is) (subst (P j) (sym byte) stays)

-- writing i-node `i` adds it
pub inodes_more : (from to : Geometry) (old image new : List ℕ) (now i : ℕ) → IsUsed from old i
    → SameOutside image new (inode_place to.edition (i + 1)) (inode_place to.edition (i + 1) + (constants to.edition).inode_bytes)
    → inode_of to.edition new (i + 1) ≡ first_inode (kind_at from old i) (inode_of from.edition old i) now
    → slice_index new (inode_place to.edition (i + 1) + 51) ≡ slice_index image (inode_place to.edition (i + 1) + 51)
    → HasInodesBelow from to old now image i → HasInodesBelow from to old now new (i + 1)
inodes_more from to old image new now i used same put stays has = record {
  done = λ j low other.
      elim (cases_eq j i) [
        | inl is ↦
            let P : ℕ → Type 0 = λ k. inode_of to.edition new (k + 1) ≡ first_inode (kind_at from old k) (inode_of from.edition old k) now in
            subst P (sym is) put
        | inr apart ↦
            let kept : KeepsInode to image new (j + 1) = inode_apart to image new (i + 1) (j + 1) (omega arith) (omega arith) (λ e. apart (omega (arith, e))) same in
            inode_of_kept to image new (j + 1) kept ∙ has.done j (omega (arith, low, apart)) other
      ];
  rest = λ k r first last which low.
      let was : slice_index image (inode_place to.edition k + r) ≡ 0 = elim which [
        | inl later ↦ has.rest k r first last (inl (omega (arith, later))) low
        | inr idle ↦ has.rest k r first last (inr idle) low
      ] in
      elim (cases_eq k (i + 1)) [
        | inl is ↦
            elim which [
              | inl later ↦ absurd (omega (arith, later, is))
              | inr idle ↦ elim idle [ inl vacant ↦ absurd (vacant i is used) | inr byte ↦ byte_kept to image new k (i + 1) r is byte stays ∙ was ]
            ]
        | inr apart ↦ (inode_apart to image new (i + 1) k (omega arith) first apart same).bytes r low ∙ was
      ];
}

-- a write of one i-node changes only bytes of the i-list
pub list_write : (to : Geometry) (first image new : List ℕ) (k : ℕ) → Fits to image → 1 ≤ k → k ≤ to.last_inode
    → SameOutside first image 1024 (512 * to.zone_start)
    → SameOutside image new (inode_place to.edition k) (inode_place to.edition k + (constants to.edition).inode_bytes)
    → SameOutside first new 1024 (512 * to.zone_start)
list_write to first image new k fits low high before same =
    let begins = place_from to.edition k in
    let room = place_room to image k fits low high in
    record {
      len = same.len ∙ before.len;
      below = λ x h. same.below x (omega (arith, h, begins)) ∙ before.below x h;
      above = λ x h. same.above x (omega (arith, h, room)) ∙ before.above x h;
    }

-- two writes within the same bytes change only these bytes
pub same_then : {first image new : List ℕ} {from to : ℕ} → SameOutside first image from to → SameOutside image new from to → SameOutside first new from to
same_then before after = record {
  len = after.len ∙ before.len;
  below = λ k h. after.below k h ∙ before.below k h;
  above = λ k h. after.above k h ∙ before.above k h;
}
