-- The volume before any block is copied.
use Rattle.std.proofs.Common.{◌≡◌, ◌≢◌, ◌∙◌, sym, ap, subst, refl, ℕ, zero, suc, ◌+◌, ◌-◌, ◌*◌, ◌/◌, ◌<◌, ◌≤◌, not, Bool, true, false, List, [], ◌∷◌, None, Some, length, get_or, slice_index, replicate, ◌⊎◌, inl, inr, arith}
use Rattle.std.proofs.lemmas.Bool.{cases_eq, cases_lt, eq-eqb, true≢false}
use Rattle.std.proofs.lemmas.Grind.{common_steps}
use Rattle.std.proofs.lemmas.List.{get_or-replicate}
use Rattle.pdp_words.specs.Words.{SameOutside}
use Rattle.vol_layout.specs.Edition.{constants}
use Rattle.vol_layout.specs.Geometry.{Fits}
use Rattle.vol_layout.specs.Inode.{inode_of, inode_place, raised_inode, kind_of}
use Rattle.vol_layout.specs.BlockPointers.{IsFile, IsPlaceOf, form_at, mode_of, named, pointer_in, stored}
use Rattle.vol_layout.specs.BlockMaps.{IsPlace, first_count, has_places, last_place}
use Rattle.vol_layout.specs.declared.geometry.Geometry.{Geometry}
use Rattle.vol_layout.specs.declared.i_node.Inode.{Inode}
use Rattle.vol_layout.specs.declared.mode.Kind.{Kind}
use Rattle.vol_layout.specs.declared.mode.Kind.TheVariants as kinds
use Rattle.vol_layout.specs.declared.block_map.BlockMap.{BlockMap}
use Rattle.vol_layout.specs.declared.block_map.BlockMap.TheVariants.{Small, Deep}
use Rattle.vol_layout.proofs.FrameLaws.{addresses_of}
use Rattle.vol_layout.proofs.InodeLaws.{KeepsInode, inode_address, inode_of_kept, place_from, place_room}
use Rattle.vol_layout.proofs.KindLaws.{kind_zero}
use Rattle.vol_layout.proofs.NameLaws.{entry_out, stored_is, stored_none, zero_out}
use Rattle.vol_layout.proofs.NewInodes.{zeros_at}
use Rattle.vol_layout.proofs.PlaceLaws.{last_leaf}
use Rattle.vol_free.specs.Stack.{IsFree}
use Rattle.vol_free.specs.Rebuild.{KeepsUsed, unused, unused_from}
use Rattle.vol_free.proofs.RebuildSteps.{unused_end, unused_given, unused_in}
use Rattle.vol_file.specs.Rules.{HasKinds, HasSizes, kind_at, size_of}
use Rattle.vol_dir.specs.Tree.{shapes}
use Rattle.vol_layout.proofs.EditionLaws.{super_order, mode_room}
use Rattle.vol_change.proofs.WholeLaws.{zone_behind}
use Rattle.vol_migrate.specs.Stages.{IsUsed, IsVacant, MayMigrate, HasInodes, HasSuper, IsCarried, IsStage, first_addresses, progress}
use Rattle.vol_migrate.proofs.CarriedBlocks.{none_below}
use Rattle.vol_migrate.proofs.StageSteps.{carried_kind, carried_size, form_seventh, progress_self, progress_after, super_stays}
use Rattle.vol_migrate.proofs.StageLaws.{old_rules, file_is_used, used_file, hole_byte}

-- a kind is `Free` or another kind
pub free_or : (kind : Kind) → (kind ≡ kinds.Free) ⊎ (kind ≢ kinds.Free)
free_or kinds.Free = inl refl
free_or kinds.Regular = inr (λ e. cc)
free_or kinds.Directory = inr (λ e. cc)
free_or kinds.Special = inr (λ e. cc)
free_or kinds.Odd = inr (λ e. cc)

-- each i-number of the new volume gets an i-node of the old one, or is vacant
pub vacant_or : (from : Geometry) (old : List ℕ) (k : ℕ) → IsVacant from old k ⊎ ((i : ℕ) × (k ≡ i + 1) × IsUsed from old i)
vacant_or from old k =
    elim (cases_lt k 2) [
      | inl low ↦ inl (λ i e used. let first = used.first in omega (arith, low, e, first))
      | inr high ↦
          elim (cases_lt from.last_inode (k - 1)) [
            | inl past ↦ inl (λ i e used. let last = used.last in omega (arith, past, e, last))
            | inr within ↦
                elim (free_or (kind_at from old (k - 1))) [
                  | inl free ↦ inl (λ i e used. used.some (ap (kind_at from old) (let same : i ≡ k - 1 = omega (arith, e) in same) ∙ free))
                  | inr some ↦ inr (k - 1, (let same : k ≡ k - 1 + 1 = omega (arith, high) in same), record { first = omega (arith, high); last = within; some = some })
                ]
          ]
    ]

-- an i-node of zeros has mode 0
pub zero_mode : (to : Geometry) (image : List ℕ) (k : ℕ)
    → ((r : ℕ) → r < (constants to.edition).inode_bytes → slice_index image (inode_place to.edition k + r) ≡ 0) → mode_of to image k ≡ 0
zero_mode to image k zeros =
    let room = mode_room to.edition in
    let low = zeros 0 (omega (arith, room)) in
    let high = zeros 1 (omega (arith, room)) in
    let at : get_or image (inode_place to.edition k) 0 ≡ get_or image (inode_place to.edition k + 0) 0 =
    ap (λ x. get_or image x 0) (let e : inode_place to.edition k ≡ inode_place to.edition k + 0 = omega arith in e) in
    omega (arith, low, high, at)

-- a vacant i-node of the new volume has mode 0
mode_zero : (from to : Geometry) (old image : List ℕ) (now k : ℕ) → HasInodes from to old now image → 1 ≤ k → k ≤ to.last_inode
    → IsVacant from old k → mode_of to image k ≡ 0
mode_zero from to old image now k has first last vacant =
    zero_mode to image k (λ r low. has.rest k r first last (inr (inl vacant)) low)

-- a block-map position is 0 if all addresses are 0
named_zero : (geometry : Geometry) (image : List ℕ) (k : ℕ) (form : BlockMap) (p : List ℕ) → Fits geometry image
    → (inode_of geometry.edition image k).addresses ≡ replicate 13 0 → first_count form ≤ 13 → IsPlace form p → named geometry image k p ≡ 0
named_zero geometry image k form [] fits zeros few place = refl
named_zero geometry image k form (a ∷ []) fits zeros few place =
    sym (inode_address geometry.edition image (inode_place geometry.edition k) a (omega (arith, place, few)))
    ∙ (ap (λ xs. get_or xs a 0) zeros ∙ zeros_at 13 a)
named_zero geometry image k form (j ∷ (a ∷ p)) fits zeros few place =
    ap (λ m. pointer_in geometry image m j) (named_zero geometry image k form (a ∷ p) fits zeros few place.2)
    ∙ entry_out geometry image 0 j (zero_out geometry image fits)

-- the first addresses of a file are zeros
first_zeros : (kind : Kind) (node : Inode) → has_places kind ≡ true → first_addresses kind node ≡ replicate 13 0
first_zeros kinds.Regular node file = refl
first_zeros kinds.Directory node file = refl
first_zeros kinds.Free node file = refl
first_zeros kinds.Odd node file = refl
first_zeros kinds.Special node file = absurd (true≢false (sym file))

-- the addresses of each new file are 0
zeros_put : (from to : Geometry) (old image : List ℕ) (now i : ℕ) → HasInodes from to old now image → IsFile from old i
    → (inode_of to.edition image (i + 1)).addresses ≡ replicate 13 0
zeros_put from to old image now i has file =
    let last = file.last in
    ap (λ (node : Inode). node.addresses) (has.done i (omega (arith, last)) (file_is_used old from i file))
    ∙ first_zeros (kind_at from old i) (inode_of from.edition old i) file.kind

-- no number is stored for a logical block of a new file
stored_zero : (from to : Geometry) (old image : List ℕ) (now i b : ℕ) → HasInodes from to old now image → Fits to image → IsFile from old i
    → stored to image (i + 1) (form_at to image (i + 1)) b ≡ 0
stored_zero from to old image now i b has fits file =
    elim (last_place (form_at to image (i + 1)) b) as (λ o. last_place (form_at to image (i + 1)) b ≡ o
    → stored to image (i + 1) (form_at to image (i + 1)) b ≡ 0) [
      | None ↦ λ e. stored_none to image (i + 1) (form_at to image (i + 1)) b e
      | Some p ↦ λ e.
          stored_is to image (i + 1) (form_at to image (i + 1)) b p e
          ∙ named_zero to image (i + 1) (form_at to image (i + 1)) p fits (zeros_put from to old image now i has file)
          (addresses_of to.edition (mode_of to image (i + 1))) (last_leaf (form_at to image (i + 1)) b p e).place
    ] refl

-- each new i-node is copied, with no blocks yet
first_carried : (from to : Geometry) (old image : List ℕ) (now i : ℕ) → HasInodes from to old now image → Fits to image → IsUsed from old i
    → IsCarried from to old now image i 0
first_carried from to old image now i has fits used =
    let last = used.last in
    let put = has.done i (omega (arith, last)) used in
    let P : Inode → Type 0 = λ node. node ≡ record (raised_inode (inode_of from.edition old i) now) { addresses = node.addresses } in
    record {
      inode = subst P (sym put) refl;
      device = λ special.
          ap (λ (node : Inode). node.addresses) put ∙ ap (λ kind. first_addresses kind (inode_of from.edition old i)) special;
      file = λ is.
          let file = used_file old from i (kind_at from old i) used refl is in
          record {
            done = λ x low below. absurd (omega (arith, below));
            rest = λ x low above. hole_byte to image (i + 1) x fits (stored_zero from to old image now i (x / 512) has fits file);
            names = λ p place.
                ap not (eq-eqb (named to image (i + 1) p) 0
                (named_zero to image (i + 1) Deep p fits (zeros_put from to old image now i has file) (omega arith) place));
          };
    }

-- each i-node of the new volume is free, or has the kind of an i-node of the old one
kind_cases : (from to : Geometry) (old image : List ℕ) (now k : ℕ) → MayMigrate old from to → HasInodes from to old now image → Fits to image
    → 1 ≤ k → k ≤ to.last_inode
    → (kind_at to image k ≡ kinds.Free) ⊎ ((i : ℕ) × (k ≡ i + 1) × IsUsed from old i × (kind_at to image k ≡ kind_at from old i))
kind_cases from to old image now k may has fits first last =
    elim (vacant_or from old k) [
      | inl vacant ↦
          inl (ap (kind_of to.edition) (mode_zero from to old image now k has first last vacant) ∙ kind_zero to.edition)
      | inr carried ↦
          inr (
            carried.0,
            carried.1,
            carried.2,
            ap (kind_at to image) carried.1
                ∙ carried_kind from to old image now carried.0 0 may.sixth may.seventh (old_rules old from to may).sound.kinds carried.2
                (first_carried from to old image now carried.0 has fits carried.2),
          )
    ]

-- each block-map position of a file of the new volume is 0
names_none : (from to : Geometry) (old image : List ℕ) (now k : ℕ) (p : List ℕ) → MayMigrate old from to → HasInodes from to old now image → Fits to image
    → IsPlaceOf to image k p → named to image k p ≡ 0
names_none from to old image now k p may has fits place =
    elim (kind_cases from to old image now k may has fits place.file.first place.file.last) [
      | inl free ↦ let none : has_places (kind_at to image k) ≡ false = ap has_places free in absurd (true≢false (sym place.file.kind ∙ none))
      | inr carried ↦
          let file = used_file old from carried.0 (kind_at to image k) carried.2 (sym carried.3) place.file.kind in
          let zeros : (inode_of to.edition image k).addresses ≡ replicate 13 0 =
          ap (λ x. (inode_of to.edition image x).addresses) carried.1 ∙ zeros_put from to old image now carried.0 has file in
          named_zero to image k (form_at to image k) p fits zeros (addresses_of to.edition (mode_of to image k)) place.place
    ]

-- rule 3 holds for the new volume
first_kinds : (from to : Geometry) (old image : List ℕ) (now : ℕ) → MayMigrate old from to → HasInodes from to old now image → Fits to image → HasKinds to image
first_kinds from to old image now may has fits =
    let rules = old_rules old from to may in
    let old_root : (constants from.edition).root ≡ 1 = ap (λ e. (constants e).root) may.sixth in
    let new_root : (constants to.edition).root ≡ 2 = ap (λ e. (constants e).root) may.seventh in
    let directory : kind_at from old 1 ≡ kinds.Directory = ap (kind_at from old) (sym old_root) ∙ rules.sound.kinds.root in
    let inside = may.ready.fits.root in
    let used : IsUsed from old 1 =
    record { first = omega arith; last = omega (arith, inside, old_root); some = λ free. let both : kinds.Directory ≡ kinds.Free = sym directory ∙ free in absurd (cc) } in
    let new_fits = fits.root in
    record {
      known = λ k first last.
          elim (kind_cases from to old image now k may has fits first last) [
            | inl free ↦ λ odd. let both : kinds.Free ≡ kinds.Odd = sym free ∙ odd in absurd (cc)
            | inr carried ↦ λ odd. rules.sound.kinds.known carried.0 carried.2.first carried.2.last (sym carried.3 ∙ odd)
          ];
      root =
          ap (kind_at to image) new_root
          ∙ (carried_kind from to old image now 1 0 may.sixth may.seventh rules.sound.kinds used (first_carried from to old image now 1 has fits used)
          ∙ directory);
      bad_blocks = λ seventh.
          inl (ap (kind_of to.edition)
          (mode_zero from to old image now 1 has (omega arith) (omega (arith, new_fits, new_root))
          (λ i e one. let first = one.first in omega (arith, e, first)))
          ∙ kind_zero to.edition);
    }

-- rule 4 holds for the new volume
first_sizes : (from to : Geometry) (old image : List ℕ) (now : ℕ) → MayMigrate old from to → HasInodes from to old now image → Fits to image → HasSizes to image
first_sizes from to old image now may has fits =
    let rules = old_rules old from to may in
    let six : (constants from.edition).greatest ≡ 16777215 = ap (λ e. (constants e).greatest) may.sixth in
    let seven : (constants to.edition).greatest ≡ 1082201088 = ap (λ e. (constants e).greatest) may.seventh in
    let six_links : (constants from.edition).link_limit ≡ 127 = ap (λ e. (constants e).link_limit) may.sixth in
    let seven_links : (constants to.edition).link_limit ≡ 32767 = ap (λ e. (constants e).link_limit) may.seventh in
    record {
      greatest = λ k file.
          elim (kind_cases from to old image now k may has fits file.first file.last) [
            | inl free ↦ let none : has_places (kind_at to image k) ≡ false = ap has_places free in absurd (true≢false (sym file.kind ∙ none))
            | inr carried ↦
                let greatest = rules.sound.sizes.greatest carried.0 (used_file old from carried.0 (kind_at to image k) carried.2 (sym carried.3) file.kind) in
                let size = ap (size_of to image) carried.1
                ∙ carried_size from to old image now carried.0 0 (first_carried from to old image now carried.0 has fits carried.2) in
                omega (arith, greatest, size, six, seven)
          ];
      small = λ k file small. let both : Deep ≡ Small = sym (form_seventh to image k may.seventh file) ∙ small in absurd (cc);
      links = λ k first last some.
          elim (kind_cases from to old image now k may has fits first last) [
            | inl free ↦ absurd (some free)
            | inr carried ↦
                let bound = rules.sound.sizes.links carried.0 carried.2.first carried.2.last carried.2.some in
                let top = carried.2.last in
                let same : (inode_of to.edition image k).links ≡ (inode_of from.edition old carried.0).links =
                ap (λ x. (inode_of to.edition image x).links) carried.1
                ∙ ap (λ (node : Inode). node.links) (has.done carried.0 (omega (arith, top)) carried.2) in
                omega (arith, bound, same, six_links, seven_links)
          ];
    }

-- if no block has a mark, all blocks at or after `b` are unused
length_unused : (geometry : Geometry) (used : List Bool) (n b : ℕ) → b + n ≡ geometry.zone_end → ((k : ℕ) → get_or used k false ≡ false)
    → length (unused_from geometry used b) ≡ n
length_unused geometry used zero b end none = ap length (unused_end geometry used b (omega (arith, end)))
length_unused geometry used (suc n) b end none =
    ap length (unused_given geometry used b (b + 1) refl (omega (arith, end)) (none b))
    ∙ ap suc (length_unused geometry used n (b + 1) (omega (arith, end)) none)

-- an element of a list of false is false
no_mark : (n k : ℕ) → get_or (replicate n false) k false ≡ false
no_mark n k = elim (cases_lt k n) [ inl low ↦ get_or-replicate n k false false low | inr past ↦ grind (arith, common_steps) ]

-- i-nodes are unchanged if only the free list is built
inodes_stay : (from to : Geometry) (old image new : List ℕ) (now : ℕ) (used : List Bool) → Fits to image → KeepsUsed to used image new
    → ((i : ℕ) → IsUsed from old i → i + 1 ≤ to.last_inode) → HasInodes from to old now image → HasInodes from to old now new
inodes_stay from to old image new now used fits keeps numbers has =
    let order = super_order to.edition in
    let kept : (k : ℕ) → 1 ≤ k → k ≤ to.last_inode → KeepsInode to image new k = λ k first last.
    let begins = place_from to.edition k in
    let room = place_room to image k fits first last in
    record { bytes = λ r h. keeps.between (inode_place to.edition k + r) (omega (arith, order, begins)) (omega (arith, room, h)) } in
    record {
      done = λ j low one. inode_of_kept to image new (j + 1) (kept (j + 1) (omega arith) (numbers j one)) ∙ has.done j low one;
      rest = λ k r first last which low. (kept k first last).bytes r low ∙ has.rest k r first last which low;
    }

-- with all i-nodes and the free list, the volume is at its first stage
pub first_stage : (from to : Geometry) (old made put image : List ℕ) (now : ℕ) → MayMigrate old from to → Fits to put → Fits to image
    → HasSuper to now made → SameOutside made put 1024 (512 * to.zone_start) → HasInodes from to old now put
    → KeepsUsed to (replicate to.zone_end false) put image → IsFree to image (unused to (replicate to.zone_end false))
    → IsStage from to old now image 1 0
first_stage from to old made put image now may before fits super listed inodes keeps free =
    let order = super_order to.edition in
    let behind = zone_behind to put before in
    let zone = fits.zone in
    let has : HasInodes from to old now image =
    inodes_stay from to old put image now (replicate to.zone_end false) before keeps may.numbers inodes in
    let super_put : HasSuper to now put =
    super_stays to now made put super listed.len (λ k h. listed.below k (omega (arith, h, order))) (λ k a b. listed.below k b) in
    let none = none_below (shapes from old 1) in
    let long = length_unused to (replicate to.zone_end false) (to.zone_end - to.zone_start) to.zone_start (omega (arith, zone)) (no_mark to.zone_end) in
    record {
      blocks = unused to (replicate to.zone_end false);
      sound = record {
        fits = fits;
        kinds = first_kinds from to old image now may has fits;
        sizes = first_sizes from to old image now may has fits;
        zoned = λ k p place some. absurd (some (names_none from to old image now k p may has fits place));
        free = free;
        apart = λ k j p q place other some e. absurd (some (names_none from to old image now k p may has fits place));
        outside = λ k p place i.
            let inside = unused_in to (replicate to.zone_end false) to.zone_start (named to image k p) (omega (arith, zone)) i in
            let zero = names_none from to old image now k p may has fits place in
            omega (arith, inside.0, zero, behind);
      };
      room = omega (arith, long, none);
      super_block = super_stays to now put image super_put keeps.len keeps.below
          (λ k a b. keeps.between k a (omega (arith, b, behind)));
      carried = λ j used.
          let first = used.first in
          let none_yet : progress from old 1 0 j ≡ 0 =
          elim (cases_eq j 1) [
            | inl is ↦ ap (progress from old 1 0) is ∙ progress_self from old 1 0
            | inr other ↦ progress_after from old 1 0 j (omega (arith, first, other))
          ] in
          subst (IsCarried from to old now image j) (sym none_yet) (first_carried from to old image now j has fits used);
      zeros = λ k r first last idle low. has.rest k r first last (inr idle) low;
    }
