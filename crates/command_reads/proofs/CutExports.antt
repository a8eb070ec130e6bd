-- What an export of an image that was cut off writes is what the whole image holds.
use Rattle.std.proofs.Common.{◌≡◌, ℕ, ◌+◌, ◌*◌, ◌/◌, ◌<◌, ◌≤◌, ◌&&◌, ◌∙◌, Bool, true, false, nat_le, nat_lt, cond, List, length, take, get_or, Result, Ok, Err, refl, ap, sym, subst, arith}
use Rattle.std.specs.Prelude.{slice_index}
use Rattle.std.proofs.lemmas.Bool.{leb-true, true≢false}
use Rattle.std.proofs.lemmas.List.{get_or_append_left, get_or-take, length-take-le}
use Rattle.vol_layout.specs.Geometry.{block_count, geometry_of, geometry_read}
use Rattle.vol_layout.specs.declared.edition.Edition.{Edition}
use Rattle.vol_layout.specs.declared.edition.Edition.TheVariants.{V6, V7}
use Rattle.vol_layout.specs.declared.geometry.Geometry.{Geometry}
use Rattle.vol_layout.specs.declared.geometry.GeometryFault.{GeometryFault}
use Rattle.vol_layout.proofs.GeometryLaws.{geometry_is}
use Rattle.vol_dir.specs.declared.refusal.Refusal.{Refusal}
use Rattle.vol_losses.specs.CutImages.{IsCompleted, IsCompletedIf, IsFilled, has_size}
use Rattle.vol_archive.specs.Export.{lost_directory_at, lost_start_read}
use Rattle.vol_dir.specs.Directories.{directory_at, found_in, found_read}
use Rattle.vol_dir.specs.declared.directories.FoundDirectory.{FoundDirectory}
use Rattle.vol_dir.specs.declared.directories.DirectoryFault.{DirectoryFault}
use Rattle.vol_rescue.proofs.RightMembers.{cut_archives_right}
use Rattle.command_reads.specs.Export.{begun}
use Rattle.command_reads.specs.Laws.{CutExportsAreRight}
use Rattle.command_reads.proofs.Exported.{unnoted}

-- the geometry with which an export starts, or another one if it doesn't start
abbrev geometry_in : Result FoundDirectory DirectoryFault → Geometry → Geometry
geometry_in (Ok start) g = start.geometry
geometry_in (Err fault) g = g

start_kept : (g : Geometry) (found : Result ℕ Refusal) (start : FoundDirectory) → found_in g found ≡ Ok start → g ≡ start.geometry
start_kept g (Ok i) start e = ap (λ (r : Result FoundDirectory DirectoryFault). geometry_in r g) e
start_kept g (Err refusal) start e = absurd (cc)

-- an export starts with the geometry that was read
read_start : (image path : List ℕ) (found : Result Geometry GeometryFault) (start : FoundDirectory) → found_read image path found ≡ Ok start → found ≡ Ok start.geometry
read_start image path (Ok g) start e = ap Ok (start_kept g (directory_at g image path) start e)
read_start image path (Err fault) start e = absurd (cc)

read_lost_start : (image path : List ℕ) (found : Result Geometry GeometryFault) (start : FoundDirectory) → lost_start_read image path found ≡ Ok start
    → found ≡ Ok start.geometry
read_lost_start image path (Ok g) start e = ap Ok (start_kept g (lost_directory_at g image path) start e)
read_lost_start image path (Err fault) start e = absurd (cc)

read_begun : (lost : Bool) (edition : Edition) (image path : List ℕ) (start : FoundDirectory) → begun lost edition image path ≡ Ok start
    → geometry_read edition image ≡ Ok start.geometry
read_begun true edition image path start e = read_lost_start image path (geometry_read edition image) start e
read_begun false edition image path start e = read_start image path (geometry_read edition image) start e

-- the number of blocks that a super-block states depends on the first 1,024 bytes
size_kept : (edition : Edition) (image bytes : List ℕ) → ((k : ℕ) → k < 1024 → slice_index image k ≡ slice_index bytes k)
    → block_count edition image ≡ block_count edition bytes
size_kept V6 image bytes same =
    let a : slice_index image 514 ≡ slice_index bytes 514 = same 514 (omega arith) in
    let b : slice_index image 515 ≡ slice_index bytes 515 = same 515 (omega arith) in
    λ t. a t + 256 * b t
size_kept V7 image bytes same =
    let a : slice_index image 514 ≡ slice_index bytes 514 = same 514 (omega arith) in
    let b : slice_index image 515 ≡ slice_index bytes 515 = same 515 (omega arith) in
    let c : slice_index image 516 ≡ slice_index bytes 516 = same 516 (omega arith) in
    let d : slice_index image 517 ≡ slice_index bytes 517 = same 517 (omega arith) in
    λ t. 65536 * (a t + 256 * b t) + (c t + 256 * d t)

-- a byte of the super-block stays where an image is filled
byte_kept : (bytes front : List ℕ) (blocks : ℕ) (image : List ℕ) (lost : List Bool) (k : ℕ) → k < length front → slice_index front k ≡ slice_index bytes k
    → IsFilled front blocks image lost → slice_index image k ≡ slice_index bytes k
byte_kept bytes front blocks image lost k inside same filled =
    ap (λ xs. get_or xs k 0) filled.zeros ∙ (get_or_append_left front _ 0 k inside ∙ same)

first_true : (a b : Bool) → (a && b) ≡ true → a ≡ true
first_true true b e = refl
first_true false b e = absurd (true≢false (sym e))

-- an image that was completed has the size that the bytes state
completed_size : (edition : Edition) (bytes image : List ℕ) (lost : List Bool) → IsCompleted edition bytes image lost
    → block_count edition image ≡ block_count edition bytes
completed_size edition bytes image lost completed =
    let blocks = block_count edition bytes in
    let whole = 512 * (length bytes / 512) in
    elim (has_size edition bytes) as (λ b. has_size edition bytes ≡ b → IsCompletedIf b edition bytes image lost → block_count edition image ≡ blocks) [
      | false ↦ λ has same. ap (block_count edition) same.0
      | true ↦ λ has filled.
          let some : 1024 ≤ length bytes = leb-true 1024 (length bytes) (first_true (nat_le 1024 (length bytes)) _ has) in
          size_kept edition image bytes (λ k low.
          elim (nat_lt (length bytes / 512) blocks) as (λ b. IsFilled (cond b (take whole bytes) bytes) blocks image lost → slice_index image k ≡ slice_index bytes k) [
            | true ↦ λ is.
                let below : k < whole = omega arith in
                let size : length (take whole bytes) ≡ whole = length-take-le whole bytes (omega arith) in
                byte_kept bytes (take whole bytes) blocks image lost k (omega (arith, size)) (get_or-take whole bytes k 0 below) is
            | false ↦ λ is. let inside : k < length bytes = omega arith in byte_kept bytes bytes blocks image lost k inside refl is
          ] filled)
    ] refl completed

pub exports_right : CutExportsAreRight
exports_right edition bytes rest image path lost options start founds notes completed fits begins damaged noted =
    let is : geometry_of edition image ≡ start.geometry = geometry_is edition image start.geometry (read_begun options.lost edition image path start begins) in
    let own : edition ≡ start.geometry.edition = ap (λ (g : Geometry). g.edition) is in
    let end : start.geometry.zone_end ≡ block_count start.geometry.edition bytes =
    sym (ap (λ (g : Geometry). g.zone_end) is) ∙ (completed_size edition bytes image lost completed ∙ ap (λ (e : Edition). block_count e bytes) own) in
    unnoted start image lost options founds notes damaged noted
    ∙ sym (cut_archives_right start.geometry bytes rest image lost founds fits end (subst (λ (e : Edition). IsCompleted e bytes image lost) own completed))
