-- Changes that keep rules 3 to 8 and the bytes that no call changes.
use Rattle.std.proofs.Common.{◌≡◌, ◌≢◌, ℕ, ◌*◌, ◌<◌, ◌≤◌, ◌∙◌, sym, ap, subst, refl, List, length, slice_index, inl, inr, Ok, arith}
use Rattle.std.proofs.lemmas.Bool.{false≢true}
use Rattle.pdp_words.specs.Words.{SameOutside}
use Rattle.vol_layout.specs.Edition.{constants}
use Rattle.vol_layout.specs.Geometry.{geometry_of, geometry_read, in_zone, Fits}
use Rattle.vol_layout.specs.Inode.{inode_of}
use Rattle.vol_layout.specs.BlockPointers.{IsFile, IsPlaceOf, named}
use Rattle.vol_layout.specs.BlockMaps.{has_places, IsPlace}
use Rattle.vol_layout.specs.Super.{free_head}
use Rattle.vol_layout.specs.declared.edition.Edition.{Edition}
use Rattle.vol_layout.specs.declared.edition.Edition.TheVariants.{V6, V7}
use Rattle.vol_layout.specs.declared.geometry.Geometry.{Geometry}
use Rattle.vol_layout.specs.declared.mode.Kind.TheVariants as kinds
use Rattle.vol_layout.proofs.NameLaws.{zero_out, named_holds, holds_named}
use Rattle.vol_layout.proofs.EditionLaws.{super_order}
use Rattle.vol_free.specs.Stack.{IsIn, IsFree}
use Rattle.vol_free.proofs.Frames.{free_zone}
use Rattle.vol_file.specs.Rules.{kind_at, HasKinds, HasSizes}
use Rattle.vol_file.proofs.Alone.{fits_len}
use Rattle.vol_file.proofs.StoredNames.{kinds_kept}
use Rattle.vol_change.specs.Alone.{KeepsContent}
use Rattle.vol_judge.specs.Sound.{IsSound}
use Rattle.vol_judge.proofs.Parts.{sound_whole, sound_bounded, sound_stack, sound_with, sound_covered}
use Rattle.vol_change.specs.Whole.{Rules3To8, StaysAround, Keeps}
use Rattle.vol_change.proofs.Contents.{KeepsReading, reading, form_reads}

-- if neither of two changes changes the bytes that no call changes, both together don't
pub around_then : (geometry : Geometry) (old mid new : List ℕ) → StaysAround geometry old mid → StaysAround geometry mid new → StaysAround geometry old new
around_then geometry old mid new a b = record {
  len = b.len ∙ a.len;
  before = λ k h. b.before k h ∙ a.before k h;
  flags = λ k from to. b.flags k from to ∙ a.flags k from to;
  rest = λ k from to. b.rest k from to ∙ a.rest k from to;
  behind = λ k h. b.behind k h ∙ a.behind k h;
}

-- if each of two changes keeps the invariants, both together do
pub keeps_then : (geometry : Geometry) (old mid new : List ℕ) → Keeps geometry old mid → Keeps geometry mid new → Keeps geometry old new
keeps_then geometry old mid new a b = record { rules = b.rules; around = around_then geometry old mid new a.around b.around }

-- if no byte before the free list changes, the geometry read from the super-block doesn't
sizes_kept : (edition : Edition) (old new : List ℕ) → ((k : ℕ) → k < free_head edition → slice_index new k ≡ slice_index old k)
    → geometry_of edition new ≡ geometry_of edition old
sizes_kept V6 old new same =
    let a : slice_index new 512 ≡ slice_index old 512 = same 512 (omega arith) in
    let b : slice_index new 513 ≡ slice_index old 513 = same 513 (omega arith) in
    let c : slice_index new 514 ≡ slice_index old 514 = same 514 (omega arith) in
    let d : slice_index new 515 ≡ slice_index old 515 = same 515 (omega arith) in
    cc
sizes_kept V7 old new same =
    let a : slice_index new 512 ≡ slice_index old 512 = same 512 (omega arith) in
    let b : slice_index new 513 ≡ slice_index old 513 = same 513 (omega arith) in
    let c : slice_index new 514 ≡ slice_index old 514 = same 514 (omega arith) in
    let d : slice_index new 515 ≡ slice_index old 515 = same 515 (omega arith) in
    let e : slice_index new 516 ≡ slice_index old 516 = same 516 (omega arith) in
    let f : slice_index new 517 ≡ slice_index old 517 = same 517 (omega arith) in
    cc

-- if the bytes that no call changes are unchanged, so is the geometry read from the super-block
pub geometry_kept : (geometry : Geometry) (old new : List ℕ) → StaysAround geometry old new
    → geometry_of geometry.edition new ≡ geometry_of geometry.edition old
geometry_kept geometry old new around = sizes_kept geometry.edition old new around.before

-- the data zone begins after blocks 0 and 1
pub zone_behind : (geometry : Geometry) (image : List ℕ) → Fits geometry image → 1024 ≤ 512 * geometry.zone_start
zone_behind geometry image fits = omega (arith, fits.i_list)

-- a write in the i-list doesn't change the bytes that no call changes
pub around_list : (geometry : Geometry) (old new : List ℕ) (from to : ℕ) → Fits geometry old → SameOutside old new from to → 1024 ≤ from
    → to ≤ 512 * geometry.zone_start → StaysAround geometry old new
around_list geometry old new from to fits same low high =
    let order = super_order geometry.edition in
    record {
      len = same.len;
      before = λ k h. same.below k (omega (arith, order));
      flags = λ k a b. same.below k (omega (arith, order));
      rest = λ k a b. same.below k (omega arith);
      behind = λ k h. same.above k (omega (arith, fits.zone));
    }

-- both images have the same addresses other than 0, at the same positions
pub record SameNames (geometry : Geometry) (old new : List ℕ) : Type 0 where
  pub from : (j : ℕ) (p : List ℕ) → IsPlaceOf geometry new j p → named geometry new j p ≢ 0
      → IsPlaceOf geometry old j p × (named geometry new j p ≡ named geometry old j p)
  pub to : (j : ℕ) (p : List ℕ) → IsPlaceOf geometry old j p → named geometry old j p ≢ 0
      → IsPlaceOf geometry new j p × (named geometry old j p ≡ named geometry new j p)

-- a free block is not 0
free_some : (geometry : Geometry) (image blocks : List ℕ) (k : ℕ) → Fits geometry image → IsFree geometry image blocks → IsIn k blocks → k ≢ 0
free_some geometry image blocks k fits free is zero =
    false≢true (sym (zero_out geometry image fits) ∙ (sym (ap (in_zone geometry) zero) ∙ free_zone free k is))

-- if both images have the same addresses and free blocks, and rules 3 and 4 hold, rules 3 to 8 still hold
pub whole_names : (geometry : Geometry) (old new : List ℕ) → length new ≡ length old → SameNames geometry old new
    → ((blocks : List ℕ) → IsFree geometry old blocks → IsFree geometry new blocks) → HasKinds geometry new → HasSizes geometry new
    → Rules3To8 geometry old → Rules3To8 geometry new
whole_names geometry old new len same free kind size rules =
    let fits = fits_len geometry old new len rules.sound.fits in
    let kept = free rules.blocks rules.sound.free in
    record {
      blocks = rules.blocks;
      sound = record {
        fits = fits;
        kinds = kind;
        sizes = size;
        zoned = λ j p place some.
            let before = same.from j p place some in
            ap (in_zone geometry) before.1 ∙ rules.sound.zoned j p before.0 (λ zero. some (before.1 ∙ zero));
        free = kept;
        apart = λ j k p q place other some e.
            let before = same.from j p place some in
            let too = same.from k q other (λ zero. some (e ∙ zero)) in
            rules.sound.apart j k p q before.0 too.0 (λ zero. some (before.1 ∙ zero)) (sym before.1 ∙ (e ∙ too.1));
        outside = λ j p place is.
            let before = same.from j p place (free_some geometry new rules.blocks (named geometry new j p) fits kept is) in
            rules.sound.outside j p before.0 (subst (λ k. IsIn k rules.blocks) before.1 is);
      };
      covered = λ k zone. elim (rules.covered k zone) [
        | inl is ↦ inl is
        | inr found ↦
            let is = holds_named geometry old found.0 found.1 k found.2.holds in
            let now = same.to found.0 found.1 found.2.place (λ zero. is.1 (sym is.0 ∙ zero)) in
            inr (
              found.0,
              found.1,
              record {
                place = now.0;
                holds = named_holds geometry new found.0 found.1 k fits (sym now.1 ∙ is.0) is.1;
              },
            )
      ];
    }

-- a file whose kind doesn't change is still a file
file_to : (geometry : Geometry) (old new : List ℕ) (j : ℕ) → (1 ≤ j → j ≤ geometry.last_inode → kind_at geometry new j ≡ kind_at geometry old j)
    → IsFile geometry old j → IsFile geometry new j
file_to geometry old new j same file = record {
  first = file.first;
  last = file.last;
  kind = ap has_places (same file.first file.last) ∙ file.kind;
}

-- a position of an i-node that reads as before was a position before
pub place_before : (geometry : Geometry) (old new : List ℕ) (j : ℕ) (p : List ℕ) → KeepsReading geometry old new j → IsPlaceOf geometry new j p
    → IsPlaceOf geometry old j p
place_before geometry old new j p kept place = record {
  file = file_to geometry new old j (λ first last. sym kept.kind) place.file;
  place = subst (λ form. IsPlace form p) (form_reads geometry old new j kept) place.place;
}

-- if all i-nodes read as before, both images have the same addresses
pub names_reading : (geometry : Geometry) (old new : List ℕ)
    → ((j : ℕ) → 1 ≤ j → j ≤ geometry.last_inode → KeepsReading geometry old new j) → SameNames geometry old new
names_reading geometry old new kept = record {
  from = λ j p place some.
      let here = kept j place.file.first place.file.last in
      let before = place_before geometry old new j p here place in
      (before, here.names p before);
  to = λ j p place some.
      let here = kept j place.file.first place.file.last in (
        record {
          file = file_to geometry old new j (λ first last. here.kind) place.file;
          place = subst (λ form. IsPlace form p) (sym (form_reads geometry old new j here)) place.place;
        },
        sym (here.names p place),
      );
}

-- if all i-nodes read as before and the link counts are within the limit, rule 4 holds
pub sizes_reading : (geometry : Geometry) (old new : List ℕ)
    → ((j : ℕ) → 1 ≤ j → j ≤ geometry.last_inode → KeepsReading geometry old new j)
    → ((j : ℕ) → 1 ≤ j → j ≤ geometry.last_inode → kind_at geometry old j ≢ kinds.Free
    → (inode_of geometry.edition new j).links ≤ (constants geometry.edition).link_limit)
    → HasSizes geometry old → HasSizes geometry new
sizes_reading geometry old new kept links has = record {
  greatest = λ j file.
      let here = kept j file.first file.last in
      subst (λ n. n ≤ (constants geometry.edition).greatest) (sym here.size)
      (has.greatest j (file_to geometry new old j (λ first last. sym here.kind) file));
  small = λ j file small.
      let here = kept j file.first file.last in
      subst (λ n. n ≤ 4096) (sym here.size)
      (has.small j (file_to geometry new old j (λ first last. sym here.kind) file)
      (sym (form_reads geometry old new j here) ∙ small));
  links = λ j first last used. links j first last (λ free. used ((kept j first last).kind ∙ free));
}

-- if all i-nodes read as before, the link counts are within the limit and the free blocks are the same, rules 3 to 8 still hold
pub whole_reading : (geometry : Geometry) (old new : List ℕ) → length new ≡ length old
    → ((j : ℕ) → 1 ≤ j → j ≤ geometry.last_inode → KeepsReading geometry old new j)
    → ((j : ℕ) → 1 ≤ j → j ≤ geometry.last_inode → kind_at geometry old j ≢ kinds.Free
    → (inode_of geometry.edition new j).links ≤ (constants geometry.edition).link_limit)
    → ((blocks : List ℕ) → IsFree geometry old blocks → IsFree geometry new blocks) → Rules3To8 geometry old → Rules3To8 geometry new
whole_reading geometry old new len kept links free rules =
    whole_names geometry old new len (names_reading geometry old new kept) free
    (kinds_kept geometry old new rules.sound.fits (λ j first last. (kept j first last).kind) rules.sound.kinds)
    (sizes_reading geometry old new kept links rules.sound.sizes) rules

-- if no content changes, all i-nodes read as before
readings : (geometry : Geometry) (old new : List ℕ)
    → ((j : ℕ) → 1 ≤ j → j ≤ geometry.last_inode → KeepsContent geometry old new j)
    → (j : ℕ) → 1 ≤ j → j ≤ geometry.last_inode → KeepsReading geometry old new j
readings geometry old new kept j first last = reading geometry old new j (kept j first last)

-- if no content changes, both images have the same addresses
pub names_stay : (geometry : Geometry) (old new : List ℕ)
    → ((j : ℕ) → 1 ≤ j → j ≤ geometry.last_inode → KeepsContent geometry old new j) → SameNames geometry old new
names_stay geometry old new kept = names_reading geometry old new (readings geometry old new kept)

-- if no content changes and the link counts are within the limit, rule 4 holds
pub sizes_stay : (geometry : Geometry) (old new : List ℕ)
    → ((j : ℕ) → 1 ≤ j → j ≤ geometry.last_inode → KeepsContent geometry old new j)
    → ((j : ℕ) → 1 ≤ j → j ≤ geometry.last_inode → kind_at geometry old j ≢ kinds.Free
    → (inode_of geometry.edition new j).links ≤ (constants geometry.edition).link_limit)
    → HasSizes geometry old → HasSizes geometry new
sizes_stay geometry old new kept = sizes_reading geometry old new (readings geometry old new kept)

-- if no content changes, the link counts are within the limit and the free blocks are the same, rules 3 to 8 still hold
pub whole_kept : (geometry : Geometry) (old new : List ℕ) → length new ≡ length old
    → ((j : ℕ) → 1 ≤ j → j ≤ geometry.last_inode → KeepsContent geometry old new j)
    → ((j : ℕ) → 1 ≤ j → j ≤ geometry.last_inode → kind_at geometry old j ≢ kinds.Free
    → (inode_of geometry.edition new j).links ≤ (constants geometry.edition).link_limit)
    → ((blocks : List ℕ) → IsFree geometry old blocks → IsFree geometry new blocks) → Rules3To8 geometry old → Rules3To8 geometry new
whole_kept geometry old new len kept = whole_reading geometry old new len (readings geometry old new kept)

-- a sound image whose geometry fits keeps rules 3 to 8
pub whole_of : (edition : Edition) (image : List ℕ) → Fits (geometry_of edition image) image → IsSound edition image
    → Rules3To8 (geometry_of edition image) image
whole_of edition image fits sound =
    let stack = sound_stack edition image sound in
    record {
      blocks = stack.blocks;
      sound = sound_with edition image stack.blocks fits sound stack.free;
      covered = sound_covered edition image stack.blocks sound stack.free;
    }

-- a sound image keeps rules 3 to 8 with the geometry that was read from it
pub whole_read : (edition : Edition) (image : List ℕ) (geometry : Geometry) → IsSound edition image → Ok geometry ≡ geometry_read edition image
    → Fits geometry image → Rules3To8 geometry image
unfolding geometry_read
whole_read edition image geometry sound read fits =
    let is : geometry_read edition image ≡ Ok (geometry_of edition image) = rw (sound_whole edition image sound, sound_bounded edition image sound) refl in
    let same : geometry ≡ geometry_of edition image = cc in
    subst (λ g. Rules3To8 g image) (sym same) (whole_of edition image (subst (λ g. Fits g image) same fits) sound)
