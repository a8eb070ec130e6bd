-- The effects of changing a regular file's bytes, stated for the state.
use Rattle.std.proofs.Common.{◌≡◌, ◌≢◌, ◌∙◌, sym, ap, ℕ, ◌≤◌, ◌++◌, drop, List, length}
use Rattle.vol_layout.specs.BlockPointers.{IsFile}
use Rattle.vol_layout.specs.BlockMaps.{has_places}
use Rattle.vol_layout.specs.declared.geometry.Geometry.{Geometry}
use Rattle.vol_layout.specs.declared.mode.Kind.TheVariants as kinds
use Rattle.vol_file.specs.Changes.{Writes, ChangesFileAlone, Truncates, blocks_past}
use Rattle.vol_file.specs.Rules.{kind_at, Rules3To7With}
use Rattle.vol_file.specs.Shape.{touched}
use Rattle.vol_dir.specs.Tree.{shapes, state}
use Rattle.vol_judge.specs.Graph.{graph_of}
use Rattle.vol_judge.specs.GraphEdits.{IsSameGraph}
use Rattle.vol_change.specs.Changed.{Changed, IsOther}
use Rattle.vol_change.specs.Contents.{write_body, cut_body}
use Rattle.vol_change.specs.Shapes.{need_in}
use Rattle.vol_change.specs.Unused.{KeepsUnused}
use Rattle.vol_change.specs.Whole.{Rules3To8}
use Rattle.vol_change.proofs.FileGraphs.{regular_graph}
use Rattle.vol_change.proofs.FileRooms.{need_is}
use Rattle.vol_change.proofs.FreeLists.{written_free, truncated_free}
use Rattle.vol_change.proofs.OneNode.{only_file}
use Rattle.vol_change.proofs.UnusedBytes.{file_unused}
use Rattle.vol_change.proofs.WrittenStates.{IsKind, written_state, writes_keeps, written_kind, truncated_state, truncates_keeps, truncated_kind}

-- the other effects of changing a regular file's bytes: the graph and the unused bytes of i-nodes don't change
pub record Beside (geometry : Geometry) (old new : List ℕ) (i : ℕ) : Type 0 where
  pub kind : kind_at geometry new i ≢ kinds.Free
  pub graph : IsSameGraph (graph_of geometry old) (graph_of geometry new)
  pub unused : (j : ℕ) → 1 ≤ j → j ≤ geometry.last_inode → KeepsUnused geometry old new j

beside : (geometry : Geometry) (old new : List ℕ) (i : ℕ) → Rules3To8 geometry old → IsKind geometry old i kinds.Regular
    → ChangesFileAlone geometry old new i → kind_at geometry new i ≡ kind_at geometry old i → Beside geometry old new i
beside geometry old new i rules is alone kind = record {
  kind = λ free. let clash : kinds.Regular ≡ kinds.Free = sym is.kind ∙ (sym kind ∙ free) in cc;
  graph = regular_graph geometry old new i rules.sound.fits alone is.first is.kind kind;
  unused = λ j first last.
      file_unused geometry old new i j rules.sound.fits alone
      (λ free. let clash : kinds.Regular ≡ kinds.Free = sym is.kind ∙ free in cc) is.first first last;
}

-- a write changes the state as `write_body` does, and takes the blocks that it needs from the front of the free list
pub body_written : (geometry : Geometry) (old new : List ℕ) (i offset : ℕ) (text : List ℕ) (rules : Rules3To8 geometry old)
    → IsKind geometry old i kinds.Regular → ((blocks : List ℕ) → Rules3To7With geometry old blocks → Writes geometry old new i offset text blocks)
    → Changed geometry old new (IsOther i) (write_body i offset text (state geometry old))
    (drop (need_in geometry.edition (shapes geometry old i) (touched offset (length text))))
body_written geometry old new i offset text rules is each =
    let writes = each rules.blocks rules.sound in
    let file : IsFile geometry old i = record { first = is.first; last = is.last; kind = ap has_places is.kind } in
    record {
      keeps = writes_keeps geometry old new i offset text rules writes;
      makes = written_state geometry old new rules.blocks i offset text is rules.sound.fits writes;
      free = written_free geometry old new i offset _ text rules writes (sym (need_is geometry old i (touched offset (length text)) file));
      content = λ j first last other. ((only_file geometry old new i rules.sound.fits writes.alone is.first).others j first last other).content;
    }

pub written_beside : (geometry : Geometry) (old new : List ℕ) (i offset : ℕ) (text : List ℕ) (rules : Rules3To8 geometry old)
    → IsKind geometry old i kinds.Regular → ((blocks : List ℕ) → Rules3To7With geometry old blocks → Writes geometry old new i offset text blocks) → Beside geometry old new i
written_beside geometry old new i offset text rules is each =
    let writes = each rules.blocks rules.sound in
    let file : IsFile geometry old i = record { first = is.first; last = is.last; kind = ap has_places is.kind } in
    beside geometry old new i rules is writes.alone (written_kind geometry old new rules.blocks i offset text file writes)

-- a truncation changes the state as `cut_body` does, and puts the blocks that the file loses on the free list
pub body_cut : (geometry : Geometry) (old new : List ℕ) (i size : ℕ) (rules : Rules3To8 geometry old) → IsKind geometry old i kinds.Regular
    → ((blocks : List ℕ) → Rules3To7With geometry old blocks → Truncates geometry old new i size blocks)
    → Changed geometry old new (IsOther i) (cut_body i size (state geometry old)) (λ blocks. blocks_past geometry old i size ++ blocks)
body_cut geometry old new i size rules is each = let cuts = each rules.blocks rules.sound in record {
  keeps = truncates_keeps geometry old new i size rules cuts;
  makes = truncated_state geometry old new rules.blocks i size is rules.sound.fits cuts;
  free = truncated_free geometry old new i size rules cuts;
  content = λ j first last other. ((only_file geometry old new i rules.sound.fits cuts.alone is.first).others j first last other).content;
}

pub cut_beside : (geometry : Geometry) (old new : List ℕ) (i size : ℕ) (rules : Rules3To8 geometry old) → IsKind geometry old i kinds.Regular
    → ((blocks : List ℕ) → Rules3To7With geometry old blocks → Truncates geometry old new i size blocks) → Beside geometry old new i
cut_beside geometry old new i size rules is each =
    let cuts = each rules.blocks rules.sound in
    beside geometry old new i rules is cuts.alone (truncated_kind geometry old new rules.blocks i size is cuts)
