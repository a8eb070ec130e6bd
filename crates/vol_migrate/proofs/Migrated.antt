-- The new volume is the old one, migrated.
use Rattle.std.proofs.Common.{◌≡◌, ◌∙◌, sym, ap, subst, refl, ℕ, ◌+◌, ◌-◌, ◌*◌, ◌≤◌, Bool, true, false, ltb, if◌then◌else◌, List, length, get_or, replicate, Ok, None, Some, arith}
use Rattle.std.proofs.lemmas.List.{length-replicate}
use Rattle.std.proofs.lemmas.Bool.{ltb-false}
use Rattle.pdp_words.specs.Words.{SameOutside, long}
use Rattle.vol_layout.specs.Geometry.{Fits, geometry_of, geometry_read, is_whole, is_bounded}
use Rattle.vol_layout.specs.Super.{free_head, time_place}
use Rattle.vol_layout.specs.declared.edition.Edition.TheVariants.{V6, V7}
use Rattle.vol_layout.specs.declared.geometry.Geometry.{Geometry}
use Rattle.vol_free.specs.Rebuild.{KeepsUsed, unused}
use Rattle.vol_free.specs.Stack.{IsFree}
use Rattle.vol_layout.proofs.NewInodes.{zeros_at}
use Rattle.vol_file.specs.Rules.{HasSizes}
use Rattle.vol_file.proofs.Alone.{fits_len}
use Rattle.vol_dir.specs.Tree.{State, state, tree}
use Rattle.vol_judge.specs.Marks.{AreNamed}
use Rattle.vol_judge.specs.Sound.{IsSound, KeepsRules, Rule}
use Rattle.vol_change.specs.Ready.{Rules1To12}
use Rattle.vol_change.proofs.ReadyLaws.{ready_whole}
use Rattle.vol_layout.proofs.EditionLaws.{super_order}
use Rattle.vol_change.proofs.WholeLaws.{zone_behind}
use Rattle.vol_check.proofs.Remade.{salvaged}
use Rattle.vol_mkfs.specs.Mkfs.{is_size, sizes_bytes, volume_of, IsMakeable, IsNoneOf}
use Rattle.vol_migrate.specs.Migrate.{HasZeros, HasRaisedSlots, IsMigrated, IsRelisted}
use Rattle.vol_migrate.specs.Raised.{raised}
use Rattle.vol_migrate.specs.Refuse.{has_refused, has_above, places_needed, refusal}
use Rattle.vol_migrate.specs.Stages.{HasInodes, HasSuper, IsStage, MayMigrate}
use Rattle.vol_migrate.specs.declared.devices.Devices.{Devices}
use Rattle.vol_migrate.specs.declared.fault.MigrateFault.TheVariants as faults
use Rattle.vol_mkfs.proofs.NewSizes.{fits_makeable}
use Rattle.vol_migrate.proofs.FirstStages.{first_stage}
use Rattle.vol_migrate.proofs.LastReadings.{state_raised}
use Rattle.vol_migrate.proofs.LastZeros.{last_zeros, last_slots}
use Rattle.vol_migrate.proofs.LastStages.{IsLast}
use Rattle.vol_migrate.proofs.Refused.{number_all}

-- the geometry of a sound image can be read
pub sound_read : (image : List ℕ) → IsSound V6 image → geometry_read V6 image ≡ Ok (geometry_of V6 image)
unfolding geometry_read Rule
sound_read image rules =
    let whole : is_whole V6 image ≡ true = rules 1 in
    let bounded : is_bounded V6 image ≡ true = rules 2 in
    rw (whole, bounded) refl

-- clearing the free list's head and then rebuilding the list keeps the bytes that rebuilding keeps
pub keeps_cleared : (geometry : Geometry) (used : List Bool) (old mid new : List ℕ) → Fits geometry old
    → SameOutside old mid (free_head geometry.edition) (free_head geometry.edition + 202) → KeepsUsed geometry used mid new → KeepsUsed geometry used old new
keeps_cleared geometry used old mid new fits same keeps =
    let order = super_order geometry.edition in
    let behind = zone_behind geometry old fits in
    let zone = fits.zone in
    record {
      len = keeps.len ∙ same.len;
      below = λ k h. keeps.below k h ∙ same.below k h;
      between = λ k a b. keeps.between k a b ∙ same.above k a;
      marked = λ b k set start low high. keeps.marked b k set start low high ∙ same.above k (omega (arith, order, behind, start, low));
      above = λ k h. keeps.above k h ∙ same.above k (omega (arith, order, behind, zone, h));
    }

-- the free list is rebuilt
pub relisted : (geometry : Geometry) (old mid new : List ℕ) (used : List Bool) → geometry.edition ≡ V7 → geometry_of V7 old ≡ geometry
    → Fits geometry old → Fits geometry new → KeepsRules false V7 old → AreNamed geometry old used
    → SameOutside old mid (free_head geometry.edition) (free_head geometry.edition + 202) → KeepsUsed geometry used mid new
    → IsFree geometry new (unused geometry used) → IsRelisted geometry old new
relisted geometry old mid new used seventh sizes fits after rules marked same keeps free =
    let all = keeps_cleared geometry used old mid new fits same keeps in
    let P : Geometry → Type 0 = λ g. Fits g old in
    record {
      salvaged = salvaged V7 old new used rules (subst (λ g. Fits g old) (sym sizes) fits) (subst (λ g. Fits g new) (sym sizes) after)
          (subst (λ g. AreNamed g old used) (sym sizes) marked) (subst (λ g. KeepsUsed g used old new) (sym sizes) all)
          (subst (λ g. IsFree g new (unused g used)) (sym sizes) free);
      used = used;
      free = free;
    }

-- a sound volume that passes all checks may be migrated
pub may_migrate : (old : List ℕ) (from : Geometry) (blocks list_blocks : ℕ) → IsSound V6 old → from ≡ geometry_of V6 old → Fits from old
    → IsMakeable (volume_of V7 blocks list_blocks) → has_above (tree from old) (8 * list_blocks) ≡ false
    → places_needed (state from old) ≤ blocks - (list_blocks + 2) → MayMigrate old from (volume_of V7 blocks list_blocks)
may_migrate old from blocks list_blocks sound is fits makeable above space =
    let sixth : from.edition ≡ V6 = ap (λ (g : Geometry). g.edition) is in
    let ready : Rules1To12 from old = record {
      fits = fits;
      sizes = is ∙ ap (λ e. geometry_of e old) (sym sixth);
      sound = subst (λ e. IsSound e old) (sym sixth) sound;
    } in
    let known = (ready_whole from old ready).sound.kinds.known in
    record {
      sixth = sixth;
      seventh = refl;
      ready = ready;
      makeable = makeable;
      numbers = λ i used. number_all from old (8 * list_blocks) i above used (known i used.first used.last);
      space = space;
    }

-- the volume with all files copied and its free list rebuilt satisfies `IsMigrated`
pub migrated : (old made new : List ℕ) (from to : Geometry) (now blocks list_blocks : ℕ) → MayMigrate old from to → IsLast from to old now made
    → IsRelisted to made new → to ≡ volume_of V7 blocks list_blocks → IsMigrated old blocks list_blocks now new
migrated old made new from to now blocks list_blocks may stage listed is =
    let salvage = listed.salvaged in
    let own : geometry_of V7 made ≡ to = ap (λ e. geometry_of e made) (sym may.seventh) ∙ stage.super_block.sizes in
    let source : from ≡ geometry_of V6 old = may.ready.sizes ∙ ap (λ e. geometry_of e old) may.sixth in
    let keeps = subst (λ g. KeepsUsed g salvage.used made new) own salvage.stays in
    let end : to.zone_end ≡ blocks = ap (λ (g : Geometry). g.zone_end) is in
    let len : length new ≡ 512 * blocks = salvage.around.len ∙ (stage.super_block.len ∙ ap (λ n. 512 * n) end) in
    record {
      len = len;
      sound = salvage.sound;
      reads =
          salvage.reads
          ∙ (ap (λ g. state g made) own
          ∙ (state_raised from to old made now blocks list_blocks may stage is
          ∙ ap (λ g. raised (state g old) blocks list_blocks now) source));
      used = listed.used;
      free = subst (λ g. IsFree g new (unused g listed.used)) is listed.free;
      zeros = subst (λ g. HasZeros g new) is (last_zeros from to old made new now salvage.used may stage keeps);
      slots = subst (λ g. HasRaisedSlots g (volume_of V7 blocks list_blocks) old new) source
          (subst (λ g. HasRaisedSlots from g old new) is (last_slots from to old made new now salvage.used may stage keeps
          (subst (λ g. AreNamed g made salvage.used) own salvage.named)));
    }

-- rule 4 holds for a sound image
pub sound_sizes : (image : List ℕ) (geometry : Geometry) → geometry ≡ geometry_of V6 image → IsSound V6 image → HasSizes geometry image
unfolding Rule
sound_sizes image geometry is rules = subst (λ g. HasSizes g image) (sym is) (rules 4)

-- the facts if all checks of a migration pass
pub record IsAllowed (state : State) (blocks list_blocks : ℕ) : Type 0 where
  pub size : is_size V7 blocks list_blocks ≡ true
  pub above : has_above state.tree (8 * list_blocks) ≡ false
  pub space : places_needed state ≤ blocks - (list_blocks + 2)

-- `IsAllowed` holds if there is no refusal
pub allowed : (state : State) (blocks list_blocks : ℕ) (devices : Devices) → refusal V6 state blocks list_blocks devices ≡ None
    → IsAllowed state blocks list_blocks
allowed state blocks list_blocks devices none =
    go (is_size V7 blocks list_blocks) (has_refused devices state.tree) (has_above state.tree (8 * list_blocks))
    (ltb (blocks - (list_blocks + 2)) (places_needed state)) refl refl refl none where
      go : (size device above full : Bool) → is_size V7 blocks list_blocks ≡ size
          → has_above state.tree (8 * list_blocks) ≡ above → ltb (blocks - (list_blocks + 2)) (places_needed state) ≡ full
          → (if size then
          (if device then Some faults.HasDevice else if above then Some faults.NoInode else if full then Some faults.NoSpace else None)
          else Some faults.Bounds) ≡ None
          → IsAllowed state blocks list_blocks
      go true false false false s a f e = record { size = s; above = a; space = ltb-false _ _ f }
      go true false false true s a f e = absurd (cc)
      go true false true full s a f e = absurd (cc)
      go true true above full s a f e = absurd (cc)
      go false device above full s a f e = absurd (cc)

-- the volume made of zeros, with super-block, i-nodes and free list, is at its first stage
pub made_first : (old zeros made put image : List ℕ) (from to : Geometry) (now : ℕ) → MayMigrate old from to → zeros ≡ replicate (512 * to.zone_end) 0
    → geometry_of to.edition made ≡ to → long made (time_place to.edition) ≡ now
    → ((k : ℕ) → IsNoneOf 512 (sizes_bytes to.edition) k → IsNoneOf (time_place to.edition) 4 k → get_or made k 0 ≡ get_or zeros k 0)
    → SameOutside zeros made 512 1024 → SameOutside made put 1024 (512 * to.zone_start) → HasInodes from to old now put
    → KeepsUsed to (replicate to.zone_end false) put image → IsFree to image (unused to (replicate to.zone_end false)) → Fits to image
    → IsStage from to old now image 1 0
made_first old zeros made put image from to now may is sizes time rest first listed inodes keeps free fits =
    let super : HasSuper to now made = record {
      len = first.len ∙ (ap length is ∙ length-replicate (512 * to.zone_end) 0);
      sizes = sizes;
      time = time;
      rest = λ k low count list stamp. rest k count stamp ∙ (ap (λ xs. get_or xs k 0) is ∙ zeros_at (512 * to.zone_end) k);
    } in
    first_stage from to old made put image now may
    (fits_len to made put listed.len (fits_makeable to made may.makeable super.len)) fits super listed inodes keeps free

-- writing the super-block to a volume of zeros leaves the bytes after it zero
pub made_zeros : (zeros made : List ℕ) (n k : ℕ) → zeros ≡ replicate n 0 → SameOutside zeros made 512 1024 → 1024 ≤ k → get_or made k 0 ≡ 0
made_zeros zeros made n k is first from = first.above k from ∙ (ap (λ xs. get_or xs k 0) is ∙ zeros_at n k)
