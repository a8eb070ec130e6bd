-- What `find`, `sums`, `get` and `cat` print of an image of which some blocks couldn't be read is what the volume holds.
use Rattle.std.proofs.Common.{◌≡◌, ◌≤◌, ◌==◌, ◌||◌, ◌∙◌, ℕ, Bool, true, false, if◌then◌else◌, nat_lt, List, [], Option, Result, Ok, Err, ap, arith, refl, subst}
use Rattle.std.specs.Option.{unwrap_or}
use Rattle.std.proofs.lemmas.Bool.{eqb-false, ltb-false}
use Rattle.vol_archive.specs.Export.{is_directory}
use Rattle.vol_change.specs.Nodes.{no_node}
use Rattle.vol_dir.specs.Tree.{Node}
use Rattle.vol_dir.specs.Walk.{map_of}
use Rattle.vol_dir.specs.declared.refusal.Refusal.TheVariants as refusals
use Rattle.vol_layout.specs.BlockPointers.{mode_of}
use Rattle.vol_layout.specs.Geometry.{geometry_read}
use Rattle.vol_layout.specs.Inode.{kind_of}
use Rattle.vol_layout.specs.declared.geometry.Geometry.{Geometry}
use Rattle.vol_layout.specs.declared.geometry.GeometryFault.{GeometryFault}
use Rattle.vol_layout.specs.declared.mode.Kind.{Kind}
use Rattle.vol_layout.specs.declared.mode.Kind.TheVariants as kinds
use Rattle.vol_listing.proofs.KnownLaws.{rows_right, sums_right}
use Rattle.vol_losses.proofs.Agreement.{body_agrees}
use Rattle.vol_losses.proofs.BadLaws.{rescue_agrees}
use Rattle.vol_losses.proofs.SureFlags.{whole_is}
use Rattle.vol_losses.proofs.SureNames.{nodes_same}
use Rattle.vol_rescue.proofs.KnownFindings.{findings_right}
use Rattle.vol_rescue.proofs.RightPaths.{paths_right}
use Rattle.command_reads.specs.BadLaws.{BadBodiesAreRight, BadFilesAreRight, BadFindingsAreRight, BadRowsAreRight, BadSumsAreRight, FoundPathsLeadRight}
use Rattle.command_reads.specs.Cat.{file_by, file_in, file_of, printable}
use Rattle.command_reads.specs.Unsound.{readable_by}
use Rattle.command_reads.specs.declared.node.NodeFault.{NodeFault}
use Rattle.command_reads.specs.declared.node.NodeFault.TheVariants as reasons

pub found_paths_right : FoundPathsLeadRight
found_paths_right edition ranges at sizes bytes volume image lost start founds rescued has fits directory walk =
    paths_right start.geometry lost image volume start.inode founds fits
    (rescue_agrees start.geometry edition ranges at sizes bytes volume image lost fits rescued has) directory walk

pub bad_sums_right : BadSumsAreRight
bad_sums_right edition ranges at sizes bytes volume image lost geometry i sum rescued has fits is =
    sums_right geometry lost image volume i sum fits (rescue_agrees geometry edition ranges at sizes bytes volume image lost fits rescued has) is

-- what can be printed has the geometry of its image
pub bad_rows_right : BadRowsAreRight
bad_rows_right edition ranges at sizes bytes volume image lost geometry i rescued has fits =
    let agrees = rescue_agrees geometry edition ranges at sizes bytes volume image lost fits rescued has in (
      rows_right geometry lost image volume i fits agrees,
      λ whole. ap (λ (node : Option Node). unwrap_or (map_of (unwrap_or node no_node).content) [])
          (nodes_same geometry lost image volume i fits agrees (whole_is geometry image lost i whole)),
    )

printed : (g found : Geometry) (kind : Kind) → printable g kind ≡ Ok found → g ≡ found
printed g found kinds.Regular is = cc
printed g found kinds.Directory is = cc
printed g found kinds.Free is = absurd (cc)
printed g found kinds.Special is = absurd (cc)
printed g found kinds.Odd is = absurd (cc)

-- it is an i-node of the volume
in_list : (g found : Geometry) (image : List ℕ) (i : ℕ) → file_in g image i ≡ Ok found → (1 ≤ i) × (i ≤ g.last_inode) × (g ≡ found)
in_list g found image i is = go (i == 0) (nat_lt g.last_inode i) refl refl is
  where
    go : (zero past : Bool) → (i == 0) ≡ zero → nat_lt g.last_inode i ≡ past
        → (if zero || past then Err (reasons.Refused refusals.NoEntry) else printable g (kind_of g.edition (mode_of g image i))) ≡ Ok found
        → (1 ≤ i) × (i ≤ g.last_inode) × (g ≡ found)
    go true past none over is = absurd (cc)
    go false true none over is = absurd (cc)
    go false false none over is =
        let some : i ≡ 0 → ⊥ = eqb-false i 0 none in (
          omega (arith, some),
          ltb-false g.last_inode i over,
          printed g found (kind_of g.edition (mode_of g image i)) is,
        )

-- a node whose bytes can be printed is an i-node of the volume
file_within : (read : Result Geometry GeometryFault) (found : Geometry) (image : List ℕ) (i : ℕ) → file_by read image i ≡ Ok found
    → (1 ≤ i) × (i ≤ found.last_inode)
file_within (Err fault) found image i is = absurd (cc)
file_within (Ok g) found image i is =
    let within = in_list g found image i is in
    (within.0, subst (λ (h : Geometry). i ≤ h.last_inode) within.2 within.1)

-- a file that can be read is an i-node of the volume
pub readable_in : (read : Result Geometry GeometryFault) (found : Geometry) (image : List ℕ) (i : ℕ) → readable_by image i (file_by read image i) ≡ Ok found
    → (1 ≤ i) × (i ≤ found.last_inode)
readable_in (Err fault) found image i is = absurd (cc)
readable_in (Ok g) found image i is = by (file_in g image i) refl is
  where
    opened : (other : Geometry) (directory : Bool) → (if directory then Err (reasons.Refused refusals.IsDirectory) else Ok other) ≡ Ok found → other ≡ found
    opened other true is = absurd (cc)
    opened other false is = cc

    by : (file : Result Geometry NodeFault) → file_in g image i ≡ file → readable_by image i file ≡ Ok found → (1 ≤ i) × (i ≤ found.last_inode)
    by (Err why) file is = absurd (cc)
    by (Ok other) file is =
        let within = in_list g other image i file in
        let same : g ≡ found = within.2 ∙ opened other (is_directory other image i) is in
        (within.0, subst (λ (h : Geometry). i ≤ h.last_inode) same within.1)

pub bad_files_right : BadFilesAreRight
unfolding file_of
bad_files_right edition ranges at sizes bytes volume image path lost geometry i rescued has fits file whole =
    let within = readable_in (geometry_read edition image) geometry image i file.opened in
    body_agrees geometry lost image volume i fits within.0 within.1
    (rescue_agrees geometry edition ranges at sizes bytes volume image lost fits rescued has) (whole_is geometry image lost i whole)

pub bad_findings_right : BadFindingsAreRight
bad_findings_right edition ranges at sizes bytes volume image lost geometry found finding rescued has read fits tells =
    findings_right edition geometry lost image volume found finding read fits
    (rescue_agrees geometry edition ranges at sizes bytes volume image lost fits rescued has) tells

pub bad_bodies_right : BadBodiesAreRight
unfolding file_of
bad_bodies_right edition ranges at sizes bytes volume image lost geometry i rescued has fits opened whole =
    let within = file_within (geometry_read edition image) geometry image i opened in
    body_agrees geometry lost image volume i fits within.0 within.1
    (rescue_agrees geometry edition ranges at sizes bytes volume image lost fits rescued has) (whole_is geometry image lost i whole)
