-- A sound volume with another number of blocks is sound, and has the same files.
use Rattle.std.proofs.Common.{◌≡◌, ℕ, ◌+◌, ◌*◌, ◌<◌, ◌≤◌, ◌∙◌, ap, sym, subst, refl, true, false, Bool, List, length, get_or, slice_index, inl, inr, arith}
use Rattle.std.proofs.lemmas.Bool.{cases_eq, cases_lt, false≢true, le-leb, lt-ltb, and_from}
use Rattle.std.proofs.lemmas.List.{get_or_past}
use Rattle.pdp_words.specs.Words.{SameOutside, long}
use Rattle.vol_layout.specs.Edition.{constants}
use Rattle.vol_layout.specs.Geometry.{Fits, geometry_of, in_zone, block_count}
use Rattle.vol_layout.specs.Inode.{inode_place}
use Rattle.vol_layout.specs.BlockPointers.{IsPlaceOf, named}
use Rattle.vol_layout.specs.Super.{free_head, time_place}
use Rattle.vol_layout.specs.declared.edition.Edition.{Edition}
use Rattle.vol_layout.specs.declared.edition.Edition.TheVariants.{V6, V7}
use Rattle.vol_layout.specs.declared.geometry.Geometry.{Geometry}
use Rattle.vol_layout.proofs.CopyLaws.{long_copied}
use Rattle.vol_layout.proofs.EditionLaws.{super_order}
use Rattle.vol_layout.proofs.InodeLaws.{KeepsInode, inode_of_kept, place_from, place_room}
use Rattle.vol_layout.proofs.NameLaws.{holds_named, named_holds, zero_out, zone_some}
use Rattle.vol_free.specs.Rebuild.{KeepsUsed, unused}
use Rattle.vol_free.specs.Stack.{IsFree}
use Rattle.vol_free.proofs.Stacks.{zone_from, zone_below}
use Rattle.vol_file.specs.Rules.{IsZoned}
use Rattle.vol_file.proofs.StoredNames.{kinds_kept}
use Rattle.vol_dir.specs.Tree.{state}
use Rattle.vol_judge.specs.Directories.{root_of}
use Rattle.vol_judge.specs.Graph.{graph_of, IsGraphSound}
use Rattle.vol_judge.specs.Marks.{AreNamed}
use Rattle.vol_judge.specs.Sound.{KeepsRules, Rule, IsSound}
use Rattle.vol_judge.proofs.GraphParts.{same_sound}
use Rattle.vol_judge.proofs.ImageGraphs.{graph_within, graph_from_rules, rules_from_graph}
use Rattle.vol_change.proofs.Contents.{kind_same}
use Rattle.vol_change.proofs.WholeLaws.{geometry_kept, names_stay, sizes_stay, zone_behind}
use Rattle.vol_check.specs.SalvagedImages.{IsSalvaged}
use Rattle.vol_check.proofs.Remade.{salvaged}
use Rattle.vol_resize.specs.Resized.{CanHave, IsResized, state_in, with_blocks}
use Rattle.vol_resize.proofs.Bodies.{HasBoth, named_in}
use Rattle.vol_resize.proofs.Files.{KeepsFiles, content_by, graph_by, state_by}
use Rattle.vol_resize.proofs.Marks.{marked_zone}
use Rattle.vol_resize.proofs.Rules.{apart_in, bounded_in, fits_in, geometry_in, graph_in, kinds_in, place_of, rules_by, sizes_in, whole_in, zoned_in}
use Rattle.vol_resize.proofs.States.{reads_in}

-- an image that was cut or lengthened to `blocks` blocks, with that number in its super-block: all other bytes that are left are the same
pub record IsRecounted (edition : Edition) (blocks : ℕ) (old new : List ℕ) : Type 0 where
  pub len : length new ≡ 512 * blocks
  pub count : block_count edition new ≡ blocks
  pub front : (k : ℕ) → k < 514 → slice_index new k ≡ slice_index old k
  pub rest : (k : ℕ) → free_head edition ≤ k → k < 512 * blocks → k < length old → slice_index new k ≡ slice_index old k

-- the free list follows the number of blocks
head_after : (edition : Edition) → 514 + (constants edition).number_bytes ≡ free_head edition
head_after V6 = refl
head_after V7 = refl

-- a number in the super-block, and another length: all other bytes that are left are the same
pub recounted : (edition : Edition) (blocks : ℕ) (old wide new : List ℕ) → 2 ≤ blocks → 1024 ≤ length old → length wide ≡ 512 * blocks
    → ((k : ℕ) (d : ℕ) → k < 512 * blocks → k < length old → get_or wide k d ≡ get_or old k d)
    → SameOutside wide new 514 (514 + (constants edition).number_bytes) → block_count edition new ≡ blocks → IsRecounted edition blocks old new
recounted edition blocks old wide new two whole len same outside count =
    let head = head_after edition in
    record {
      len = outside.len ∙ len;
      count = count;
      front = λ k h. outside.below k h ∙ same k 0 (omega arith) (omega arith);
      rest = λ k from low inside. outside.above k (omega (arith, head, from)) ∙ same k 0 low inside;
    }

-- the facts about an image, old, and the same one with another number of blocks, new
pub record Stage (edition : Edition) (blocks : ℕ) (old new : List ℕ) (used : List Bool) : Type 0 where
  pub can : CanHave edition blocks old (geometry_of edition old) used
  pub counted : IsRecounted edition blocks old new

-- each block of a file is inside the new volume
inside_new : (edition : Edition) (blocks : ℕ) (old : List ℕ) (used : List Bool) (i : ℕ) (p : List ℕ) → CanHave edition blocks old (geometry_of edition old) used
    → IsPlaceOf (geometry_of edition old) old i p → in_zone (geometry_of edition old) (named (geometry_of edition old) old i p) ≡ true
    → named (geometry_of edition old) old i p < blocks
inside_new edition blocks old used i p can place zone =
    let geometry = geometry_of edition old in
    let set = (can.named (named geometry old i p)).1
    (i, p, record { place = place; holds = named_holds geometry old i p (named geometry old i p) can.fits refl (zone_some geometry old (named geometry old i p) can.fits zone) }) in
    elim (cases_lt (named geometry old i p) blocks) [
      | inl low ↦ low
      | inr high ↦ absurd (false≢true (sym (get_or_past used (named geometry old i p) false (omega (arith, can.count, high))) ∙ set))
    ]

-- each i-node has the same bytes
stage_inode : (edition : Edition) (blocks : ℕ) (old new : List ℕ) (used : List Bool) (j : ℕ) → Stage edition blocks old new used → 1 ≤ j
    → j ≤ (geometry_of edition old).last_inode → KeepsInode (geometry_of edition old) old new j
stage_inode edition blocks old new used j stage first last =
    let geometry = geometry_of edition old in
    let order = super_order edition in
    let from = place_from edition j in
    let room = place_room geometry old j stage.can.fits first last in
    let zone = stage.can.zone in
    let fits = stage.can.fits in
    record { bytes = λ k h. stage.counted.rest (inode_place edition j + k) (omega (arith, order, from)) (omega (arith, room, zone)) (omega (arith, room, fits.zone, fits.blocks)) }

-- each i-node and its content are the same
stage_files : (edition : Edition) (blocks : ℕ) (old new : List ℕ) (used : List Bool) → Stage edition blocks old new used → IsZoned (geometry_of edition old) old
    → KeepsFiles (geometry_of edition old) old new
stage_files edition blocks old new used stage zoned =
    let geometry = geometry_of edition old in
    let fits = stage.can.fits in
    let behind = zone_behind geometry old fits in
    let order = super_order edition in
    record {
      inode = λ j first last. inode_of_kept geometry old new j (stage_inode edition blocks old new used j stage first last);
      content = λ j first last.
          content_by geometry old new j fits (stage_inode edition blocks old new used j stage first last)
          (λ p place zone.
          let low = inside_new edition blocks old used j p stage.can place zone in
          let start = zone_from geometry (named geometry old j p) zone in
          let end = zone_below geometry (named geometry old j p) zone in
          record { bytes = λ k h. stage.counted.rest (512 * named geometry old j p + k) (omega (arith, order, behind, start)) (omega (arith, low)) (omega (arith, end, fits.blocks)) })
          zoned;
    }

-- the new geometry fits the new image
stage_fits : (edition : Edition) (blocks : ℕ) (old new : List ℕ) (used : List Bool) → Stage edition blocks old new used
    → Fits (with_blocks blocks (geometry_of edition old)) new
stage_fits edition blocks old new used stage =
    fits_in edition blocks (geometry_of edition old) old new refl stage.can.fits stage.counted.len stage.can.zone stage.can.limit

-- a block before the end of the new volume is a data block of it if it is one of the old volume
zone_new : (geometry : Geometry) (blocks k : ℕ) → in_zone geometry k ≡ true → k < blocks → in_zone (with_blocks blocks geometry) k ≡ true
zone_new geometry blocks k zone low = and_from _ _ (le-leb geometry.zone_start k (zone_from geometry k zone)) (lt-ltb k blocks low)

-- the block numbers in block maps are in both data zones, or are 0
stage_both : (edition : Edition) (blocks : ℕ) (old new : List ℕ) (used : List Bool) → Stage edition blocks old new used → IsZoned (geometry_of edition old) old
    → HasBoth blocks (geometry_of edition old) new
stage_both edition blocks old new used stage zoned =
    let geometry = geometry_of edition old in
    let files = stage_files edition blocks old new used stage zoned in
    let names = names_stay geometry old new files.content in
    let zero : in_zone (with_blocks blocks geometry) 0 ≡ in_zone geometry 0 =
    zero_out (with_blocks blocks geometry) new (stage_fits edition blocks old new used stage) ∙ sym (zero_out geometry old stage.can.fits) in
    record {
      named = λ i p place. elim (cases_eq (named geometry new i p) 0) [
        | inl none ↦ ap (in_zone (with_blocks blocks geometry)) none ∙ (zero ∙ sym (ap (in_zone geometry) none))
        | inr some ↦
            let before = names.from i p place some in
            let zone : in_zone geometry (named geometry old i p) ≡ true = zoned i p before.0 (λ none. some (before.1 ∙ none)) in
            ap (in_zone (with_blocks blocks geometry)) before.1
            ∙ (zone_new geometry blocks (named geometry old i p) zone (inside_new edition blocks old used i p stage.can before.0 zone)
            ∙ sym (ap (in_zone geometry) before.1 ∙ zone))
      ];
      zero = zero;
    }

-- the marks are those of the blocks that files of the new volume use
stage_named : (edition : Edition) (blocks : ℕ) (old new : List ℕ) (used : List Bool) → Stage edition blocks old new used → IsZoned (geometry_of edition old) old
    → AreNamed (with_blocks blocks (geometry_of edition old)) new used
stage_named edition blocks old new used stage zoned = λ b.
    let geometry = geometry_of edition old in
    let files = stage_files edition blocks old new used stage zoned in
    let both = stage_both edition blocks old new used stage zoned in
    let after = stage_fits edition blocks old new used stage in
    let names = names_stay geometry old new files.content in (
      (λ set.
          let by = (stage.can.named b).0 set in
          let is = holds_named geometry old by.0 by.1 b by.2.holds in
          let now = names.to by.0 by.1 by.2.place (λ none. is.1 (sym is.0 ∙ none)) in
          let moved = named_in blocks geometry new by.0 by.1 both now.0 in (
            by.0,
            by.1,
            record {
              place = record { file = record { first = now.0.file.first; last = now.0.file.last; kind = now.0.file.kind }; place = now.0.place };
              holds = named_holds (with_blocks blocks geometry) new by.0 by.1 b after (moved ∙ (sym now.1 ∙ is.0)) is.1;
            },
          )),
      (λ by.
          let is = holds_named (with_blocks blocks geometry) new by.0 by.1 b by.2.holds in
          let place = place_of blocks geometry new by.0 by.1 by.2.place in
          let moved = named_in blocks geometry new by.0 by.1 both place in
          let before = names.from by.0 by.1 place (λ none. is.1 (sym is.0 ∙ (moved ∙ none))) in
          (stage.can.named b).1 (
            by.0,
            by.1,
            record {
              place = before.0;
              holds = named_holds geometry old by.0 by.1 b stage.can.fits (sym before.1 ∙ (sym moved ∙ is.0)) is.1;
            },
          )),
    )

-- the graph of directories of the new volume is sound
stage_graph : (edition : Edition) (blocks : ℕ) (old new : List ℕ) (used : List Bool) → Stage edition blocks old new used
    → IsGraphSound (graph_of (with_blocks blocks (geometry_of edition old)) new) (root_of (geometry_of edition old)) (geometry_of edition old).last_inode
unfolding Rule
stage_graph edition blocks old new used stage =
    let geometry = geometry_of edition old in
    let sound : IsSound edition old = stage.can.sound in
    let files = stage_files edition blocks old new used stage (sound 5) in
    let before = graph_from_rules geometry old stage.can.fits (sound 3) (sound 4) (sound 9) (sound 10) (sound 11) (sound 12) in
    let kept = same_sound (graph_of geometry old) (graph_of geometry new) (root_of geometry) geometry.last_inode (graph_within geometry old)
    (graph_within geometry new) before (graph_by geometry old new files) in
    same_sound (graph_of geometry new) (graph_of (with_blocks blocks geometry) new) (root_of geometry) geometry.last_inode (graph_within geometry new)
    (graph_within (with_blocks blocks geometry) new) kept (graph_in blocks geometry new (stage_both edition blocks old new used stage (sound 5)))

-- the new image keeps the rules that aren't about the free list
stage_rules : (edition : Edition) (blocks : ℕ) (old new : List ℕ) (used : List Bool) → Stage edition blocks old new used → KeepsRules false edition new
unfolding Rule
stage_rules edition blocks old new used stage =
    let geometry = geometry_of edition old in
    let sound : IsSound edition old = stage.can.sound in
    let files = stage_files edition blocks old new used stage (sound 5) in
    let both = stage_both edition blocks old new used stage (sound 5) in
    let names = names_stay geometry old new files.content in
    let zone = stage.can.zone in
    let kinds = kinds_kept geometry old new stage.can.fits (λ j first last. kind_same geometry old new j (files.content j first last)) (sound 3) in
    let sizes = sizes_stay geometry old new files.content (λ j first last some. rw (files.inode j first last) ((sound 4).links j first last some)) (sound 4) in
    let zoned : IsZoned geometry new = λ j p place some.
    let before = names.from j p place some in
    ap (in_zone geometry) before.1 ∙ (sound 5) j p before.0 (λ none. some (before.1 ∙ none)) in
    let sizes_now = sizes_in blocks geometry new sizes in
    rules_by edition (with_blocks blocks geometry) new (geometry_in edition blocks old new stage.counted.front stage.counted.count)
    (whole_in edition blocks new stage.counted.count stage.counted.len (omega (arith, zone, zone_behind geometry old stage.can.fits)))
    (bounded_in edition blocks old new stage.counted.front stage.counted.count (sound 2) zone stage.can.limit)
    (kinds_in blocks geometry new kinds) sizes_now (zoned_in blocks geometry new both zoned)
    (apart_in blocks geometry new both (λ j k p q place other some e.
    let before = names.from j p place some in
    let too = names.from k q other (λ none. some (e ∙ none)) in
    (sound 7).0 j k p q before.0 too.0 (λ none. some (before.1 ∙ none)) (sym before.1 ∙ (e ∙ too.1))))
    (rules_from_graph (with_blocks blocks geometry) new sizes_now (stage_graph edition blocks old new used stage))

-- the new image reads as the old one, with another number of blocks
stage_reads : (edition : Edition) (blocks : ℕ) (old new : List ℕ) (used : List Bool) → Stage edition blocks old new used → IsZoned (geometry_of edition old) old
    → state (with_blocks blocks (geometry_of edition old)) new ≡ state_in blocks (state (geometry_of edition old) old)
stage_reads edition blocks old new used stage zoned =
    let geometry = geometry_of edition old in
    let files = stage_files edition blocks old new used stage zoned in
    let order = super_order edition in
    let behind = zone_behind geometry old stage.can.fits in
    let zone = stage.can.zone in
    let fits = stage.can.fits in
    let time : long new (time_place edition) ≡ long old (time_place edition) =
    long_copied old new (time_place edition) (time_place edition) 4 0 (time_place edition) (time_place edition)
    (record { bytes = λ k h. stage.counted.rest (time_place edition + k) (omega (arith, order)) (omega (arith, order, behind, zone)) (omega (arith, order, behind, fits.zone, fits.blocks)) })
    (omega arith) (omega arith) (omega arith) in
    reads_in blocks geometry new (stage_both edition blocks old new used stage zoned) ∙ ap (state_in blocks) (state_by geometry old new files time)

-- the volume is resized once its free list is rebuilt
pub resized : (edition : Edition) (blocks : ℕ) (old mid new : List ℕ) (used : List Bool) → CanHave edition blocks old (geometry_of edition old) used
    → IsRecounted edition blocks old mid → KeepsUsed (with_blocks blocks (geometry_of edition old)) used mid new
    → IsFree (with_blocks blocks (geometry_of edition old)) new (unused (with_blocks blocks (geometry_of edition old)) used)
    → Fits (with_blocks blocks (geometry_of edition old)) new → IsResized edition blocks old new
unfolding Rule
resized edition blocks old mid new used can counted keeps free after =
    let geometry = geometry_of edition old in
    let stage : Stage edition blocks old mid used = record { can = can; counted = counted } in
    let sound : IsSound edition old = can.sound in
    let order = super_order edition in
    let head = head_after edition in
    let behind = zone_behind geometry old can.fits in
    let zone = can.zone in
    let fits = can.fits in
    let sizes : geometry_of edition mid ≡ with_blocks blocks geometry = geometry_in edition blocks old mid counted.front counted.count in
    let made : IsSalvaged edition mid new =
    salvaged edition mid new used (stage_rules edition blocks old mid used stage)
    (subst (λ g. Fits g mid) (sym sizes) (stage_fits edition blocks old mid used stage)) (subst (λ g. Fits g new) (sym sizes) after)
    (subst (λ g. AreNamed g mid used) (sym sizes) (stage_named edition blocks old mid used stage (sound 5)))
    (subst (λ g. KeepsUsed g used mid new) (sym sizes) keeps) (subst (λ g. IsFree g new (unused g used)) (sym sizes) free) in
    let same : geometry_of edition new ≡ with_blocks blocks geometry = geometry_kept (geometry_of edition mid) mid new made.around ∙ sizes in
    record {
      was = can.sound;
      sound = made.sound;
      len = keeps.len ∙ counted.len;
      sizes = same;
      reads = made.reads ∙ (ap (λ g. state g mid) sizes ∙ stage_reads edition blocks old mid used stage (sound 5));
      front = λ k h. keeps.below k (omega (arith, head, h)) ∙ counted.front k h;
      list = λ k from low.
          keeps.between k from low
          ∙ counted.rest k (omega (arith, from)) (omega (arith, low, zone)) (omega (arith, low, fits.zone, fits.blocks));
      used = used;
      named = can.named;
      stays = λ b k set from low.
          let inside = marked_zone geometry old used b (sound 5) can.named set in
          let start = zone_from geometry b inside in
          let end = zone_below geometry b inside in
          let short : b < blocks = elim (cases_lt b blocks) [
            | inl less ↦ less
            | inr high ↦ absurd (false≢true (sym (get_or_past used b false (omega (arith, can.count, high))) ∙ set))
          ] in
          keeps.marked b k set start from low
          ∙ counted.rest k (omega (arith, order, behind, start, from)) (omega (arith, short, low)) (omega (arith, end, low, fits.blocks));
      free = subst (λ g. IsFree g new (unused g used)) (sym same) free;
    }

-- the same, from the steps of the code: the image that was read, its bytes cut or lengthened, the number written, and the free list rebuilt
pub resized_by : (edition : Edition) (blocks : ℕ) (old image : List ℕ) (geometry : Geometry) (used marks : List Bool) (wide mid new : List ℕ) → image ≡ old
    → CanHave edition blocks image geometry used → marks ≡ used → length wide ≡ 512 * blocks
    → ((k : ℕ) (d : ℕ) → k < 512 * blocks → k < length old → get_or wide k d ≡ get_or old k d)
    → SameOutside wide mid 514 (514 + (constants edition).number_bytes) → block_count edition mid ≡ blocks
    → KeepsUsed (with_blocks blocks geometry) marks mid new → IsFree (with_blocks blocks geometry) new (unused (with_blocks blocks geometry) marks)
    → Fits (with_blocks blocks geometry) new → IsResized edition blocks old new
resized_by edition blocks old image geometry used marks wide mid new read can marked len same outside count keeps free after =
    let is : geometry ≡ geometry_of edition old = can.same ∙ ap (geometry_of edition) read in
    let there : CanHave edition blocks old (geometry_of edition old) used =
    subst (λ g. CanHave edition blocks old g used) is (subst (λ i. CanHave edition blocks i geometry used) read can) in
    let behind = zone_behind (geometry_of edition old) old there.fits in
    let zone = there.zone in
    let fits = there.fits in
    resized edition blocks old mid new used there
    (recounted edition blocks old wide mid (omega (arith, behind, zone)) (omega (arith, behind, fits.zone, fits.blocks)) len same outside count)
    (subst (λ g. KeepsUsed (with_blocks blocks g) used mid new) is (subst (λ m. KeepsUsed (with_blocks blocks geometry) m mid new) marked keeps))
    (subst (λ g. IsFree (with_blocks blocks g) new (unused (with_blocks blocks g) used)) is
    (subst (λ m. IsFree (with_blocks blocks geometry) new (unused (with_blocks blocks geometry) m)) marked free))
    (subst (λ g. Fits (with_blocks blocks g) new) is after)
