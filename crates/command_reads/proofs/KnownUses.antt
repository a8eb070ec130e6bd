-- What `map` shows of an image of which blocks may be lost is one of the things that it may come to.
use Rattle.std.proofs.Common.{◌≡◌, ◌==◌, ◌≤◌, ◌<◌, ◌^◌, ◌∙◌, ℕ, Bool, true, false, true≢false, List, [], ◌∷◌, length, map, Option, Some, Result, Ok, Err, IfErr, ap, arith, inl}
use Rattle.std.specs.Prelude.{OnOk}
use Rattle.std.specs.List.{range_with_len}
use Rattle.std.proofs.lemmas.Bool.{eqb-true}
use Rattle.std.proofs.lemmas.List.{length-map}
use Rattle.std.proofs.lemmas.List.FromFn.{length-map-range_with_len}
use Rattle.vol_archive.specs.Write.{Writes}
use Rattle.vol_archive.specs.declared.write.WriteFault.{WriteFault}
use Rattle.vol_free.proofs.Stacks.{limit_below}
use Rattle.vol_inspect.specs.declared.uses.Use.{Use}
use Rattle.vol_layout.specs.Geometry.{Fits}
use Rattle.vol_layout.specs.declared.edition.Edition.{Edition}
use Rattle.vol_layout.specs.declared.geometry.Geometry.{Geometry}
use Rattle.vol_listing.specs.declared.options.Screen.{Screen}
use Rattle.command_faults.specs.Faults.{fault_status, line_after}
use Rattle.command_faults.specs.Streams.{Streams}
use Rattle.command_faults.specs.declared.answer.Ending.{Ending}
use Rattle.command_faults.specs.declared.fault.Fault.{Fault}
use Rattle.command_reads.specs.BadUses.{known_map_sights, known_use, known_uses, known_uses_sights, map_sights, uses_sights}
use Rattle.command_reads.specs.Export.{unwritten}
use Rattle.command_reads.specs.Print.{IsSight, PrintsInPieces, ShowsInPieces}
use Rattle.command_reads.specs.declared.print.Shown.{Shown}
use Rattle.command_reads.proofs.Printed.{cut_off}
use Rattle.command_terms.specs.declared.looks.Picture.{Picture}

-- if a block is lost, what is known of each block is shown
pub map_with_marks : (edition : Edition) (image : List ℕ) (lost : List Bool) (screen : Screen) (form : Picture) (result : Result Shown Fault)
    → (length lost == 0) ≡ false → IsSight (known_map_sights edition image lost screen form) result → IsSight (map_sights edition image lost screen form) result
map_with_marks edition image [] screen form result some shows = absurd (true≢false some)
map_with_marks edition image (mark ∷ lost) screen form result some shows = shows

-- if none is, the use of each is
pub map_without_marks : (edition : Edition) (image : List ℕ) (lost : List Bool) (screen : Screen) (form : Picture) (result : Result Shown Fault)
    → (length lost == 0) ≡ true → IsSight (map_sights edition image [] screen form) result → IsSight (map_sights edition image lost screen form) result
map_without_marks edition image [] screen form result none shows = shows
map_without_marks edition image (mark ∷ lost) screen form result none shows =
    let empty = eqb-true (length (mark ∷ lost)) 0 none in absurd (omega (arith, empty))

-- so it is as JSON
pub uses_with_marks : (edition : Edition) (image : List ℕ) (lost : List Bool) (streams : Streams) (status : ℕ) → (length lost == 0) ≡ false
    → ShowsInPieces (known_uses_sights edition image lost) streams status → ShowsInPieces (uses_sights edition image lost) streams status
uses_with_marks edition image [] streams status some shows = absurd (true≢false some)
uses_with_marks edition image (mark ∷ lost) streams status some shows = shows

pub uses_without_marks : (edition : Edition) (image : List ℕ) (lost : List Bool) (streams : Streams) (status : ℕ) → (length lost == 0) ≡ true
    → ShowsInPieces (uses_sights edition image []) streams status → ShowsInPieces (uses_sights edition image lost) streams status
uses_without_marks edition image [] streams status none shows = shows
uses_without_marks edition image (mark ∷ lost) streams status none shows =
    let empty = eqb-true (length (mark ∷ lost)) 0 none in absurd (omega (arith, empty))

-- something is known of each block
pub known_count : (geometry : Geometry) (image : List ℕ) (lost : List Bool) → length (known_uses geometry image lost) ≡ geometry.zone_end
known_count geometry image lost = length-map-range_with_len (known_use geometry image lost) 0 geometry.zone_end

-- and there are fewer than 2^32 of them, and at least one
pub known_room : (geometry : Geometry) (image : List ℕ) (lost : List Bool) (blocks : List (Option Use)) → Fits geometry image
    → blocks ≡ map (λ u. Some u) (known_uses geometry image lost) → (1 ≤ length blocks) × (length blocks < 2 ^ 32)
known_room geometry image lost blocks fits is =
    let size : length blocks ≡ geometry.zone_end =
    ap (λ (bs : List (Option Use)). length bs) is ∙ (length-map (known_uses geometry image lost) (λ (u : Use). Some u) ∙ known_count geometry image lost) in (
      omega (arith, size, fits.zone),
      omega (arith, size, limit_below fits),
    )

-- a text that was written piece by piece, whole or not, is printed so, with the ending of the whole text
pub in_pieces_telling : (streams : Streams) (text : List ℕ) (status : ℕ) (told : Option Fault) (ending : Ending) (written : Result (Unit {0}) WriteFault)
    → Writes streams.old streams.new streams.had_failed streams.failed text written → OnOk written ((status ≡ ending.status) × (told ≡ ending.fault))
    → IfErr written (λ fault. (status ≡ fault_status (unwritten fault)) × (told ≡ Some (unwritten fault))) → streams.lines ≡ line_after told
    → PrintsInPieces ending.status (line_after ending.fault) streams text status
in_pieces_telling streams text status told ending (Ok done) written whole why said = inl (inl (record {
  status = whole.0;
  whole = written.0;
  working = written.1;
  said = said ∙ ap line_after whole.1;
}))
in_pieces_telling streams text status told ending (Err fault) cut whole why said =
    cut_off ending.status (line_after ending.fault) streams text status told fault cut why said
