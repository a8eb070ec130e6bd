-- Copying one more logical block.
use Rattle.std.proofs.Common.{◌≡◌, ◌≢◌, ◌∙◌, sym, ap, subst, refl, ℕ, zero, suc, ◌+◌, ◌-◌, ◌*◌, ◌/◌, ◌%◌, ◌<◌, ◌≤◌, eqb, ltb, true, false, cond, if◌then◌else◌, not, List, length, get_or, inl, inr, arith}
use Rattle.std.specs.Prelude.{◌||◌}
use Rattle.std.specs.List.{range_with_len}
use Rattle.std.proofs.lemmas.Bool.{cases_lt, eq-eqb, ne_eqb, lt-ltb, le-ltb, true≢false}
use Rattle.pdp_words.specs.Words.{long}
use Rattle.vol_layout.specs.Body.{body}
use Rattle.vol_layout.specs.Edition.{constants}
use Rattle.vol_layout.specs.Geometry.{Fits, geometry_of}
use Rattle.vol_layout.specs.Inode.{inode_of, inode_place, raised_inode, raised_mode, kind_of, with_large}
use Rattle.vol_layout.specs.BlockPointers.{IsFile, form_at, mode_of}
use Rattle.vol_layout.specs.BlockMaps.{IsPlace, file_form, form_of, has_places}
use Rattle.vol_layout.specs.Super.{free_head, time_place}
use Rattle.vol_layout.specs.declared.edition.Edition.TheVariants.{V6, V7}
use Rattle.vol_layout.specs.declared.geometry.Geometry.{Geometry}
use Rattle.vol_layout.specs.declared.i_node.Inode.{Inode}
use Rattle.vol_layout.specs.declared.mode.Kind.TheVariants as kinds
use Rattle.vol_layout.specs.declared.block_map.BlockMap.TheVariants.{Deep}
use Rattle.vol_layout.proofs.BodyLaws.{length-body}
use Rattle.vol_layout.proofs.CopyLaws.{long_copied}
use Rattle.vol_layout.proofs.InodeLaws.{KeepsInode, inode_mode, inode_size, inode_of_kept}
use Rattle.vol_layout.proofs.KindLaws.{form_file, kind_low, kind_zero}
use Rattle.vol_layout.proofs.RaisedModes.{raised_kind}
use Rattle.vol_file.specs.Changes.{Writes, ChangesFileAlone, whole_blocks, spliced}
use Rattle.vol_file.specs.Rules.{HasKinds, kind_at, size_of}
use Rattle.vol_file.specs.Shape.{is_named, is_on_ways, grows_large, touched, filled}
use Rattle.vol_file.proofs.Alone.{elsewhere_inode}
use Rattle.vol_dir.specs.Tree.{shapes}
use Rattle.vol_dir.proofs.PutSlots.{spliced_before, spliced_inside, spliced_after}
use Rattle.vol_change.proofs.FileInodes.{KeepsFields, fields_kept}
use Rattle.vol_layout.proofs.EditionLaws.{super_order}
use Rattle.vol_mkfs.proofs.NewSizes.{sizes_kept}
use Rattle.vol_migrate.specs.Raised.{names_block}
use Rattle.vol_migrate.specs.Stages.{IsUsed, IsCarried, HasSuper, progress, carried_byte}
use Rattle.vol_migrate.proofs.CarriedBlocks.{on_run}

-- a copied i-node has the raised mode of the old one
pub carried_mode : (from to : Geometry) (old image : List ℕ) (now i n : ℕ) → IsCarried from to old now image i n
    → mode_of to image (i + 1) ≡ raised_mode (mode_of from old i)
carried_mode from to old image now i n carried =
    sym (inode_mode to.edition image (inode_place to.edition (i + 1)))
    ∙ (ap (λ (node : Inode). node.mode.bits) carried.inode ∙ ap raised_mode (inode_mode from.edition old (inode_place from.edition i)))

pub carried_size : (from to : Geometry) (old image : List ℕ) (now i n : ℕ) → IsCarried from to old now image i n
    → size_of to image (i + 1) ≡ size_of from old i
carried_size from to old image now i n carried =
    sym (inode_size to.edition image (inode_place to.edition (i + 1)))
    ∙ (ap (λ (node : Inode). node.size) carried.inode ∙ inode_size from.edition old (inode_place from.edition i))

-- a used i-node of the sixth edition is marked as allocated
pub used_allocated : (from : Geometry) (old : List ℕ) (i : ℕ) → from.edition ≡ V6 → HasKinds from old → IsUsed from old i → 32768 ≤ mode_of from old i
used_allocated from old i sixth known used =
    elim (cases_lt (mode_of from old i) 32768) [
      | inl low ↦
          let some : mode_of from old i ≢ 0 = λ zero. used.some (ap (kind_of from.edition) zero ∙ kind_zero from.edition) in
          let odd : kind_at from old i ≡ kinds.Odd = ap (λ e. kind_of e (mode_of from old i)) sixth ∙ kind_low (mode_of from old i) some low in
          absurd (known.known i used.first used.last odd)
      | inr high ↦ high
    ]

-- a copied i-node has the kind of the old one
pub carried_kind : (from to : Geometry) (old image : List ℕ) (now i n : ℕ) → from.edition ≡ V6 → to.edition ≡ V7 → HasKinds from old → IsUsed from old i
    → IsCarried from to old now image i n → kind_at to image (i + 1) ≡ kind_at from old i
carried_kind from to old image now i n sixth seventh known used carried =
    ap (λ e. kind_of e (mode_of to image (i + 1))) seventh
    ∙ (ap (kind_of V7) (carried_mode from to old image now i n carried)
    ∙ (raised_kind (mode_of from old i) (used_allocated from old i sixth known used)
    ∙ sym (ap (λ e. kind_of e (mode_of from old i)) sixth)))

-- a file of the seventh edition has a block map with three levels of indirect blocks
pub form_seventh : (to : Geometry) (image : List ℕ) (k : ℕ) → to.edition ≡ V7 → IsFile to image k → form_at to image k ≡ Deep
form_seventh to image k seventh file =
    form_file to.edition (mode_of to image k) file.kind ∙ ap (λ e. file_form e (mode_of to image k)) seventh

-- writing bytes that end in the last of some consecutive logical blocks touches these
pub touched_run : (b k len : ℕ) → 1 ≤ k → 512 * k < len + 512 → len ≤ 512 * k → touched (512 * b) len ≡ range_with_len b k
touched_run b k zero first begun few = absurd (omega (arith, first, begun))
touched_run b k (suc n) first begun few =
    let first : 512 * b / 512 ≡ b = omega arith in
    let last : (512 * b + n) / 512 - 512 * b / 512 + 1 ≡ k = omega (arith, begun, few) in
    ap (λ x. range_with_len x ((512 * b + n) / 512 - 512 * b / 512 + 1)) first ∙ ap (range_with_len b) last

-- the number of copied blocks of another i-node doesn't depend on `n`
pub progress_other : (from : Geometry) (old : List ℕ) (i m n j : ℕ) → j ≢ i → progress from old i m j ≡ progress from old i n j
progress_other from old i m n j other =
    ap (λ t. cond (ltb j i) (whole_blocks (size_of from old j)) (cond t m 0)) (ne_eqb j i other)
    ∙ sym (ap (λ t. cond (ltb j i) (whole_blocks (size_of from old j)) (cond t n 0)) (ne_eqb j i other))

-- the number of copied blocks of i-node `i` itself is `n`
pub progress_self : (from : Geometry) (old : List ℕ) (i n : ℕ) → progress from old i n i ≡ n
progress_self from old i n =
    ap (λ t. cond t (whole_blocks (size_of from old i)) (cond (eqb i i) n 0)) (le-ltb i i (omega arith)) ∙ ap (λ t. cond t n 0) (eq-eqb i i refl)

-- all blocks of an earlier i-node are copied
pub progress_before : (from : Geometry) (old : List ℕ) (i n j : ℕ) → j < i → progress from old i n j ≡ whole_blocks (size_of from old j)
progress_before from old i n j low =
    ap (λ t. cond t (whole_blocks (size_of from old j)) (cond (eqb j i) n 0)) (lt-ltb j i low)

-- no block of a later i-node is copied
pub progress_after : (from : Geometry) (old : List ℕ) (i n j : ℕ) → i < j → progress from old i n j ≡ 0
progress_after from old i n j high =
    ap (λ t. cond t (whole_blocks (size_of from old j)) (cond (eqb j i) n 0)) (le-ltb j i (omega (arith, high)))
    ∙ ap (λ t. cond t n 0) (ne_eqb j i (λ e. omega (arith, e, high)))

-- the bytes outside the free list and the data zone are unchanged
pub super_stays : (to : Geometry) (now : ℕ) (old new : List ℕ) → HasSuper to now old → length new ≡ length old
    → ((k : ℕ) → k < free_head to.edition → get_or new k 0 ≡ get_or old k 0)
    → ((k : ℕ) → free_head to.edition + 202 ≤ k → k < 1024 → get_or new k 0 ≡ get_or old k 0) → HasSuper to now new
super_stays to now old new has len below behind =
    let order = super_order to.edition in
    let same = sizes_kept to.edition old new below in
    let time : long new (time_place to.edition) ≡ long old (time_place to.edition) =
    long_copied old new (time_place to.edition) (time_place to.edition) 4 0 (time_place to.edition) (time_place to.edition)
    (record { bytes = λ k h. behind (time_place to.edition + k) (omega (arith, order)) (omega (arith, order, h)) })
    (omega arith) (omega arith) (omega arith) in
    let sizes : geometry_of to.edition new ≡ geometry_of to.edition old =
    λ t. record {
      edition = to.edition;
      zone_start = same.0 t;
      zone_end = same.1 t;
      last_inode = (constants to.edition).inodes_per_block * (same.0 t - 2);
    } in
    record {
      len = len ∙ has.len;
      sizes = sizes ∙ has.sizes;
      time = time ∙ has.time;
      rest = λ k low count list stamp.
          elim (cases_lt k (free_head to.edition)) [
            | inl before ↦ below k before ∙ has.rest k low count list stamp
            | inr from ↦
                elim (cases_lt k (free_head to.edition + 202)) [
                  | inl inside ↦ absurd (list from inside)
                  | inr past ↦ behind k past low ∙ has.rest k low count list stamp
                ]
          ];
    }

-- another copied i-node is unchanged by a write that changes only one file
pub other_stays : (from to : Geometry) (old image new : List ℕ) (now k j n : ℕ) → Fits to image → ChangesFileAlone to image new k → 1 ≤ k → j + 1 ≢ k
    → j + 1 ≤ to.last_inode → to.edition ≡ V7 → kind_at to image (j + 1) ≡ kind_at from old j → IsCarried from to old now image j n
    → IsCarried from to old now new j n
other_stays from to old image new now k j n fits alone first other last seventh kind carried =
    let kept : KeepsInode to image new (j + 1) = elsewhere_inode to image new k (j + 1) fits alone.elsewhere first (omega arith) last other in
    let same : inode_of to.edition new (j + 1) ≡ inode_of to.edition image (j + 1) = inode_of_kept to image new (j + 1) kept in
    let P : Inode → Type 0 = λ node. node ≡ record (raised_inode (inode_of from.edition old j) now) { addresses = node.addresses } in
    record {
      inode = subst P (sym same) carried.inode;
      device = λ special. ap (λ (node : Inode). node.addresses) same ∙ carried.device special;
      file = λ is.
          let has = carried.file is in
          let file : IsFile to image (j + 1) = record { first = omega arith; last = last; kind = ap has_places kind ∙ is } in
          let form = form_seventh to image (j + 1) seventh file in
          let bodies : body to new (j + 1) ≡ body to image (j + 1) = alone.bodies (j + 1) other file in
          record {
            done = λ x low below. ap (λ xs. get_or xs x 0) bodies ∙ has.done x low below;
            rest = λ x low above. ap (λ xs. get_or xs x 0) bodies ∙ has.rest x low above;
            names = λ p place.
                ap (λ m. not (eqb m 0))
                (alone.places (j + 1) p other (record { file = file; place = subst (λ f. IsPlace f p) (sym form) place }))
                ∙ has.names p place;
          };
    }

-- the number of copied blocks of an i-node that isn't a file is of no account
pub bare_carried : (from to : Geometry) (old image : List ℕ) (now i m n : ℕ) → has_places (kind_at from old i) ≡ false
    → IsCarried from to old now image i m → IsCarried from to old now image i n
bare_carried from to old image now i m n bare carried =
    record { inode = carried.inode; device = carried.device; file = λ is. absurd (true≢false (sym is ∙ bare)) }

-- a write of `k` blocks from `b` on copies these blocks of the file
pub self_carried : (from to : Geometry) (old image new text free : List ℕ) (now i b k : ℕ) → from.edition ≡ V6 → to.edition ≡ V7
    → has_places (kind_at from old i) ≡ true → IsFile to image (i + 1) → size_of from old i ≤ 16777215
    → ((c : ℕ) → b ≤ c → c < b + k → names_block (shapes from old i) c ≡ true)
    → Writes to image new (i + 1) (512 * b) text free
    → 1 ≤ k → 512 * k < length text + 512 → length text ≤ 512 * k → 512 * b + length text ≤ size_of from old i
    → ((x : ℕ) → x < size_of from old i → x / 512 < b + k → x < 512 * b + length text)
    → ((r : ℕ) → r < length text → get_or text r 0 ≡ carried_byte (kind_at from old i) (body from old i) (512 * b + r))
    → IsCarried from to old now image i b → IsCarried from to old now new i (b + k)
self_carried from to old image new text free now i b k sixth seventh is file limit some writes first begun few within whole bytes carried =
    let h = i + 1 in
    let has = carried.file is in
    let form : form_at to image h ≡ Deep = form_seventh to image h seventh file in
    let touches : touched (512 * b) (length text) ≡ range_with_len b k = touched_run b k (length text) first begun few in
    let mode : mode_of to new h ≡ mode_of to image h =
    writes.mode ∙ ap (λ f. if grows_large f (touched (512 * b) (length text)) then with_large (mode_of to image h) true else mode_of to image h) form in
    let before_size : size_of to image h ≡ size_of from old i = carried_size from to old image now i b carried in
    let size : size_of to new h ≡ size_of to image h = writes.size ∙ omega (arith, before_size, within) in
    let fields : KeepsFields (inode_of to.edition image h) (inode_of to.edition new h) =
    fields_kept to.edition image new (inode_place to.edition h) writes.alone.elsewhere.inode (ap (λ m. m % 4096) mode) in
    let o = inode_of to.edition image h in
    let n = inode_of to.edition new h in
    let r = raised_inode (inode_of from.edition old i) now in
    let bits : n.mode.bits ≡ r.mode.bits =
    inode_mode to.edition new (inode_place to.edition h) ∙ (mode ∙ (sym (inode_mode to.edition image (inode_place to.edition h))
    ∙ ap (λ (node : Inode). node.mode.bits) carried.inode)) in
    let sizes : n.size ≡ r.size =
    inode_size to.edition new (inode_place to.edition h) ∙ (size ∙ (sym (inode_size to.edition image (inode_place to.edition h))
    ∙ ap (λ (node : Inode). node.size) carried.inode)) in
    let links : n.links ≡ r.links = fields.links ∙ ap (λ (node : Inode). node.links) carried.inode in
    let uid : n.uid ≡ r.uid = fields.uid ∙ ap (λ (node : Inode). node.uid) carried.inode in
    let gid : n.gid ≡ r.gid = fields.gid ∙ ap (λ (node : Inode). node.gid) carried.inode in
    let accessed : n.accessed ≡ r.accessed = fields.accessed ∙ ap (λ (node : Inode). node.accessed) carried.inode in
    let modified : n.modified ≡ r.modified = fields.modified ∙ ap (λ (node : Inode). node.modified) carried.inode in
    let changed : n.changed ≡ r.changed = fields.changed ∙ ap (λ (node : Inode). node.changed) carried.inode in
    let greatest : (constants to.edition).greatest ≡ 1082201088 = ap (λ e. (constants e).greatest) seventh in
    let long : length (body to image h) ≡ size_of from old i = length-body to image h ∙ omega (arith, before_size, limit, greatest) in
    let starts : 512 * b ≤ length (body to image h) = omega (arith, long, within) in
    record {
      inode = λ t. record {
        mode = record { bits = bits t };
        links = links t;
        uid = uid t;
        gid = gid t;
        size = sizes t;
        addresses = n.addresses;
        accessed = accessed t;
        modified = modified t;
        changed = changed t;
      };
      device = λ special. let none : has_places (kind_at from old i) ≡ false = ap has_places special in absurd (true≢false (sym is ∙ none));
      file = λ same. record {
        done = λ x low below.
            ap (λ xs. get_or xs x 0) writes.body
            ∙ elim (cases_lt (x / 512) b) [
              | inl earlier ↦
                  spliced_before (body to image h) (512 * b) text x starts (omega (arith, earlier)) ∙ has.done x low earlier
              | inr later ↦
                  let in_text = whole x low below in
                  let r = x - 512 * b in
                  let at : 512 * b + r ≡ x = omega (arith, later) in
                  ap (λ y. get_or (spliced (body to image h) (512 * b) text) y 0) (sym at)
                  ∙ (spliced_inside (body to image h) (512 * b) text r starts (omega (arith, in_text, later))
                  ∙ (bytes r (omega (arith, in_text, later)) ∙ ap (carried_byte (kind_at from old i) (body from old i)) at))
            ];
        rest = λ x low above.
            ap (λ xs. get_or xs x 0) writes.body
            ∙ (spliced_after (body to image h) (512 * b) text x starts (omega (arith, above, few)) ∙ has.rest x low (omega (arith, above)));
        names = λ p place.
            let new_form : form_at to new h ≡ Deep = ap (form_of to.edition) mode ∙ form in
            writes.names p (subst (λ f. IsPlace f p) (sym new_form) place)
            ∙ (ap (λ f. filled f (is_named to image h) (touched (512 * b) (length text)) p) form
            ∙ (ap (λ blocks. filled Deep (is_named to image h) blocks p) touches
            ∙ (ap (λ t. t || is_on_ways Deep (range_with_len b k) p) (has.names p place) ∙ sym (on_run (shapes from old i) b k p some))));
      };
    }
