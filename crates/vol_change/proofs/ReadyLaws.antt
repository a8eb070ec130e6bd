-- Facts about a sound image with its own geometry, and changes that keep it sound.
use Rattle.std.proofs.Common.{◌≡◌, ◌∙◌, sym, ap, subst, ℕ, ◌+◌, ◌*◌, ◌%◌, ◌&&◌, nat_le, nat_lt, true, List, length, Option, arith}
use Rattle.vol_layout.specs.Geometry.{Fits, geometry_of, is_whole, is_bounded, block_count, list_size}
use Rattle.vol_layout.specs.declared.edition.Edition.{Edition}
use Rattle.vol_layout.specs.declared.edition.Edition.TheVariants.{V6, V7}
use Rattle.vol_layout.specs.declared.geometry.Geometry.{Geometry}
use Rattle.vol_file.specs.Rules.{size_of}
use Rattle.vol_file.proofs.Alone.{fits_len}
use Rattle.vol_dir.specs.EntryEdits.{HasNamesOnce}
use Rattle.vol_dir.specs.Entries.{IsDirectory, HasEntries}
use Rattle.vol_judge.specs.Directories.{root_of, HasDots, IsTree, HasLinks}
use Rattle.vol_judge.specs.Graph.{Graph, graph_of, IsGraphSound}
use Rattle.vol_judge.specs.GraphEdits.{IsSameGraph, ChangesSlot}
use Rattle.vol_judge.specs.Sound.{IsSound}
use Rattle.vol_judge.proofs.GraphParts.{same_sound}
use Rattle.vol_judge.proofs.ImageGraphs.{graph_within, graph_from_rules, rules_from_graph, directory_to, directory_from}
use Rattle.vol_judge.proofs.Parts.{sound_whole, sound_bounded, sound_entries, sound_dots, sound_tree, sound_links, sound_of}
use Rattle.vol_change.specs.Beside.{StaysBeside}
use Rattle.vol_change.specs.Whole.{Rules3To8, Keeps, HasDirectory}
use Rattle.vol_change.proofs.EntryStates.{names_once}
use Rattle.vol_change.proofs.WholeLaws.{whole_of, geometry_kept}
use Rattle.vol_change.specs.Ready.{Rules1To12}

-- in a sound image the geometry fits, and rules 3 to 8 hold
pub ready_whole : (geometry : Geometry) (image : List ℕ) → Rules1To12 geometry image → Rules3To8 geometry image
ready_whole geometry image ready =
    subst (λ g. Rules3To8 g image) (sym ready.sizes)
    (whole_of geometry.edition image (subst (λ g. Fits g image) ready.sizes ready.fits) ready.sound)

-- a sound image keeps rule 9
pub ready_entries : (geometry : Geometry) (image : List ℕ) → Rules1To12 geometry image → HasEntries geometry image
ready_entries geometry image ready = subst (λ g. HasEntries g image) (sym ready.sizes) (sound_entries geometry.edition image ready.sound)

-- a directory of a sound image has a whole number of slots
pub ready_slots : (geometry : Geometry) (image : List ℕ) (d : ℕ) → Rules1To12 geometry image → IsDirectory geometry image d → size_of geometry image d % 16 ≡ 0
ready_slots geometry image d ready is = (ready_entries geometry image ready).whole d is

-- a directory of a sound image has no name twice
pub ready_once : (geometry : Geometry) (image : List ℕ) (d : ℕ) → Rules1To12 geometry image → IsDirectory geometry image d → HasNamesOnce geometry image d
ready_once geometry image d ready is = names_once geometry image d (ready_entries geometry image ready) is

-- an entry may be added to or removed from a directory of a sound image
pub ready_directory : (geometry : Geometry) (image : List ℕ) (d : ℕ) → Rules1To12 geometry image → IsDirectory geometry image d
    → HasDirectory geometry image d
ready_directory geometry image d ready is = record {
  rules = ready_whole geometry image ready;
  is = is;
  slots = ready_slots geometry image d ready is;
  once = ready_once geometry image d ready is;
}

-- the graph of a sound image is sound
pub ready_graph : (geometry : Geometry) (image : List ℕ) → Rules1To12 geometry image
    → IsGraphSound (graph_of geometry image) (root_of geometry) geometry.last_inode
ready_graph geometry image ready =
    let dots = subst (λ g. HasDots g image) (sym ready.sizes) (sound_dots geometry.edition image ready.sound) in
    let tree = subst (λ g. IsTree g image) (sym ready.sizes) (sound_tree geometry.edition image ready.sound) in
    let links = subst (λ g. HasLinks g image) (sym ready.sizes) (sound_links geometry.edition image ready.sound) in
    let files = ready_whole geometry image ready in
    graph_from_rules geometry image ready.fits files.sound.kinds files.sound.sizes (ready_entries geometry image ready) dots tree links

-- if the sizes don't change, they stay within their bounds
pub bounded_kept : (edition : Edition) (old new : List ℕ) → geometry_of edition new ≡ geometry_of edition old → is_bounded edition old ≡ true
    → is_bounded edition new ≡ true
bounded_kept V6 old new same bounded =
    let start : list_size new + 2 ≡ list_size old + 2 = ap (λ (g : Geometry). g.zone_start) same in
    let size : list_size new ≡ list_size old = omega (arith, start) in
    let count : block_count V6 new ≡ block_count V6 old = ap (λ (g : Geometry). g.zone_end) same in
    ap (λ n. nat_le 1 n && (nat_le n 4095 && nat_lt (n + 2) (block_count V6 new))) size
    ∙ (ap (λ m. nat_le 1 (list_size old) && (nat_le (list_size old) 4095 && nat_lt (list_size old + 2) m)) count ∙ bounded)
bounded_kept V7 old new same bounded =
    let size : list_size new ≡ list_size old = ap (λ (g : Geometry). g.zone_start) same in
    let count : block_count V7 new ≡ block_count V7 old = ap (λ (g : Geometry). g.zone_end) same in
    ap (λ n. nat_le 3 n && (nat_le n 8193 && (nat_lt n (block_count V7 new) && nat_le (block_count V7 new) 16777216))) size
    ∙ (ap (λ m. nat_le 3 (list_size old) && (nat_le (list_size old) 8193 && (nat_lt (list_size old) m && nat_le m 16777216))) count ∙ bounded)

-- if the length and the sizes don't change, the image is still whole
pub whole_kept : (edition : Edition) (old new : List ℕ) → geometry_of edition new ≡ geometry_of edition old → length new ≡ length old
    → is_whole edition old ≡ true → is_whole edition new ≡ true
whole_kept edition old new same len rules =
    let count : block_count edition new ≡ block_count edition old = ap (λ (g : Geometry). g.zone_end) same in
    ap (λ n. nat_le 1024 n && nat_le (512 * block_count edition new) n) len
    ∙ (ap (λ m. nat_le 1024 (length old) && nat_le (512 * m) (length old)) count ∙ rules)

-- an image is sound if rules 1 and 2 hold, the geometry is its own, and rules 3 to 12 hold
pub sound_by : (edition : Edition) (geometry : Geometry) (new : List ℕ) → geometry_of edition new ≡ geometry → is_whole edition new ≡ true
    → is_bounded edition new ≡ true → Rules3To8 geometry new
    → HasEntries geometry new × HasDots geometry new × IsTree geometry new × HasLinks geometry new → IsSound edition new
sound_by edition geometry new same rules bounded files graph =
    let own : Rules3To8 (geometry_of edition new) new = subst (λ g. Rules3To8 g new) (sym same) files in
    sound_of edition new own.blocks rules bounded own.sound own.covered
    (subst (λ g. HasEntries g new) (sym same) graph.0) (subst (λ g. HasDots g new) (sym same) graph.1)
    (subst (λ g. IsTree g new) (sym same) graph.2) (subst (λ g. HasLinks g new) (sym same) graph.3)

-- a change that keeps rules 3 to 8 and the bytes that no call changes leaves a sound image if the new graph is sound
pub ready_from : (geometry : Geometry) (old new : List ℕ) → Rules1To12 geometry old → Keeps geometry old new
    → IsGraphSound (graph_of geometry new) (root_of geometry) geometry.last_inode → Rules1To12 geometry new
ready_from geometry old new ready keeps graph =
    let same = geometry_kept geometry old new keeps.around in
    record {
      fits = fits_len geometry old new keeps.around.len ready.fits;
      sizes = ready.sizes ∙ sym same;
      sound = sound_by geometry.edition geometry new (same ∙ sym ready.sizes)
          (whole_kept geometry.edition old new same keeps.around.len (sound_whole geometry.edition old ready.sound))
          (bounded_kept geometry.edition old new same (sound_bounded geometry.edition old ready.sound)) keeps.rules
          (rules_from_graph geometry new keeps.rules.sound.sizes graph);
    }

-- a change that keeps rules 3 to 8 and the bytes that no call changes leaves a sound image if the graph doesn't change
pub ready_same : (geometry : Geometry) (old new : List ℕ) → Rules1To12 geometry old → Keeps geometry old new
    → IsSameGraph (graph_of geometry old) (graph_of geometry new) → Rules1To12 geometry new
ready_same geometry old new ready keeps same =
    ready_from geometry old new ready keeps
    (same_sound (graph_of geometry old) (graph_of geometry new) (root_of geometry) geometry.last_inode (graph_within geometry old)
    (graph_within geometry new) (ready_graph geometry old ready) same)

-- a directory whose kind in the graph doesn't change is still a directory
pub directory_kept : (geometry : Geometry) (old new : List ℕ) (d : ℕ) → (graph_of geometry new).kind d ≡ (graph_of geometry old).kind d
    → IsDirectory geometry old d → IsDirectory geometry new d
directory_kept geometry old new d same is = directory_from geometry new d (same ∙ directory_to geometry old d is)

-- a change of slot s followed by a change that keeps the graph is a change of slot s
pub slot_same : (old mid new : Graph) (d s : ℕ) (was is : Option (List ℕ × ℕ)) → ChangesSlot old mid d s was is → IsSameGraph mid new
    → mid.kind d ≡ old.kind d → ChangesSlot old new d s was is
slot_same old mid new d s was is slot same kind =
    let size : new.size d ≡ mid.size d = same.size d (kind ∙ slot.directory) in
    record {
      directory = slot.directory;
      was = slot.was;
      is = same.entry d s ∙ slot.is;
      beside = λ t other. same.entry d t ∙ slot.beside t other;
      whole = ap (λ n. n % 16) size ∙ slot.whole;
    }

-- a change of d's entries followed by a change that keeps the graph is a change of d's entries
pub beside_same : (old mid new : Graph) (d : ℕ) → StaysBeside old mid d → IsSameGraph mid new → StaysBeside old new d
beside_same old mid new d beside same = record {
  kind = λ x. same.kind x ∙ beside.kind x;
  links = λ x used. same.links x (λ free. used (sym (beside.kind x) ∙ free)) ∙ beside.links x used;
  size = λ x other is. same.size x (beside.kind x ∙ is) ∙ beside.size x other is;
  entry = λ x s other. same.entry x s ∙ beside.entry x s other;
}
