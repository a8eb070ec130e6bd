-- The end of a command that shows part of an image.
use Rattle.std.proofs.Common.{◌≡◌, ℕ, ◌≤◌, ◌==◌, ◌||◌, Bool, true, false, if◌then◌else◌, List, [], ◌∷◌, length, Option, Result, Ok, Err, inl, inr, refl, sym, ap, subst, ◌∙◌, arith}
use Rattle.std.proofs.lemmas.Bool.{ne_eqb, true≢false}
use Rattle.vol_dir.specs.declared.directories.FoundDirectory.{FoundDirectory}
use Rattle.vol_dir.specs.declared.directories.DirectoryFault.{DirectoryFault}
use Rattle.vol_dir.specs.declared.directories.DirectoryFault.TheVariants as starts
use Rattle.command_faults.proofs.Concluded.{fault_few}
use Rattle.command_faults.specs.Faults.{no_memory}
use Rattle.command_faults.specs.Streams.{Streams}
use Rattle.command_faults.specs.declared.fault.Fault.{Fault}
use Rattle.command_faults.specs.declared.fault.Fault.TheVariants as faults
use Rattle.std.specs.Result.{is_ok}
use Rattle.vol_layout.specs.Geometry.{geometry_read}
use Rattle.vol_layout.specs.declared.edition.Edition.{Edition}
use Rattle.command_reads.specs.Check.{checked, verdict_status}
use Rattle.command_reads.specs.Export.{begun, Exports, ExportsBelow, ExportsFrom, ExportsTo, told_status, unstarted_status, whole, broken, short, unbegun}
use Rattle.command_reads.specs.Losses.{IsReadAs, is_graded}
use Rattle.command_terms.specs.declared.looks.ExportOptions.{ExportOptions}
use Rattle.command_reads.specs.Inode.{found}
use Rattle.command_reads.specs.Node.{number_of}
use Rattle.command_reads.specs.declared.node.NodeFault.{NodeFault}
use Rattle.command_reads.specs.Look.{Looks, seen}
use Rattle.command_terms.specs.declared.looks.OutputForm.{OutputForm}
use Rattle.command_terms.specs.declared.looks.OutputForm.TheVariants as forms
use Rattle.command_reads.specs.Print.{IsBrokenOff, IsTold, PrintsTelling, Shows, ShowsIn, ShowsInPieces, Sights}
use Rattle.command_terms.specs.declared.looks.Look.{Look}
use Rattle.command_terms.specs.declared.looks.Look.TheVariants as looks
use Rattle.vol_listing.specs.declared.options.Screen.{Screen}
use Rattle.vol_listing.specs.declared.options.Screen.TheVariants as screens
use Rattle.unixvol.specs.Runs.{IsEndWithin, IsUnread, RunsLook, highest_status, host_files}
use Rattle.host_files.specs.declared.image_file.Stamp.{Stamp}

-- a run with a status from 1 to `most` ends as `IsEndWithin` requires
pub ends_badly : (most : ℕ) (streams : Streams) (status : ℕ) → 1 ≤ status → status ≤ most → IsEndWithin most streams status
ends_badly most streams status least within = record { within = within; whole = λ e. absurd (omega (arith, least, e)) }

pub ends_told : (most : ℕ) (streams : Streams) (fault : Fault) (status : ℕ) → 4 ≤ most → IsTold streams fault status → IsEndWithin most streams status
ends_told most streams fault status few told =
    let one : 1 ≤ status = subst (λ n. 1 ≤ n) (sym told.status) (fault_few fault).0 in
    let four : status ≤ 4 = subst (λ n. n ≤ 4) (sym told.status) (fault_few fault).1 in
    ends_badly most streams status one (omega (arith, four, few))

ends_broken : (most : ℕ) (streams : Streams) (bytes : List ℕ) (status : ℕ) → 4 ≤ most → IsBrokenOff streams bytes status → IsEndWithin most streams status
ends_broken most streams bytes status few is = ends_badly most streams status (omega (arith, is.status)) (omega (arith, is.status, few))

-- the texts that may be shown have a status of at most `most`, and no lines about them if it is 0
abbrev pub AreFew : ℕ → Sights → Type 0
AreFew most sights =
    (text : List ℕ) (wanted : ℕ) (lines : List ℕ) → sights.shows text wanted lines → (wanted ≤ most) × (wanted ≡ 0 → lines ≡ [])

pub ends_telling : (most wanted : ℕ) (lines : List ℕ) (streams : Streams) (text : List ℕ) (status : ℕ) → 4 ≤ most → wanted ≤ most → (wanted ≡ 0 → lines ≡ [])
    → PrintsTelling wanted lines streams text status → IsEndWithin most streams status
ends_telling most wanted lines streams text status few within quiet (inl printed) = record {
  within = subst (λ n. n ≤ most) (sym printed.status) within;
  whole = λ e. (printed.working, printed.said ∙ quiet (sym printed.status ∙ e));
}
ends_telling most wanted lines streams text status few within quiet (inr is) = ends_broken most streams text status few is

pub ends_shows : (most : ℕ) (sights : Sights) (streams : Streams) (status : ℕ) → 4 ≤ most → AreFew most sights → Shows sights streams status
    → IsEndWithin most streams status
ends_shows most sights streams status four few (inl (text, wanted, lines, is, prints)) =
    let may = few text wanted lines is in
    ends_telling most wanted lines streams text status four may.0 may.1 prints
ends_shows most sights streams status four few (inr (fault, is, told)) = ends_told most streams fault status four told

-- a text that is printed piece by piece
pub ends_pieces : (most : ℕ) (sights : Sights) (streams : Streams) (status : ℕ) → 4 ≤ most → AreFew most sights → ShowsInPieces sights streams status
    → IsEndWithin most streams status
ends_pieces most sights streams status four few (inl (text, wanted, lines, is, inl prints)) =
    let may = few text wanted lines is in
    ends_telling most wanted lines streams text status four may.0 may.1 prints
ends_pieces most sights streams status four few (inl (text, wanted, lines, is, inr cut)) =
    ends_badly most streams status (omega (arith, cut.status)) (omega (arith, cut.status, four))
ends_pieces most sights streams status four few (inr (fault, is, told)) = ends_told most streams fault status four told

pub ends_in : (most : ℕ) (form : OutputForm) (sights : Sights) (streams : Streams) (status : ℕ) → 4 ≤ most → AreFew most sights → ShowsIn form sights streams status
    → IsEndWithin most streams status
ends_in most forms.Text sights streams status four few shows = ends_shows most sights streams status four few shows
ends_in most forms.Json sights streams status four few shows = ends_pieces most sights streams status four few shows

plain_few : (most : ℕ) (is_text : List ℕ → Type 0) (text : List ℕ) (wanted : ℕ) (lines : List ℕ) → (is_text text × (wanted ≡ 0)) × (lines ≡ [])
    → (wanted ≤ most) × (wanted ≡ 0 → lines ≡ [])
plain_few most is_text text wanted lines is = (omega (arith, is.0.1), λ e. is.1)

pub lines_few : (most wanted status : ℕ) (lines : List ℕ) → 1 ≤ wanted → wanted ≤ most → status ≡ (if length lines == 0 then 0 else wanted)
    → (status ≤ most) × (status ≡ 0 → lines ≡ [])
lines_few most wanted status [] least within is = (omega (arith, is), λ e. refl)
lines_few most wanted status (line ∷ lines) least within is =
    let some : (length (line ∷ lines) == 0) ≡ false = ne_eqb _ _ (λ none. absurd (omega (arith, none))) in
    let one : status ≡ wanted = is ∙ ap (λ (b : Bool). if b then 0 else wanted) some in
    (omega (arith, one, within), λ e. absurd (omega (arith, one, least, e)))

telling_few : (most told : ℕ) (is_text : List ℕ → List ℕ → Type 0) → 1 ≤ told → told ≤ most → (text : List ℕ) (wanted : ℕ) (lines : List ℕ)
    → is_text text lines × (wanted ≡ (if length lines == 0 then 0 else told)) → (wanted ≤ most) × (wanted ≡ 0 → lines ≡ [])
telling_few most told is_text least within text wanted lines is = lines_few most told wanted lines least within is.1

-- the highest status, graded or not, is at least 4
most_few : (graded : Bool) → 4 ≤ (if graded then 6 else 4)
most_few true = omega arith
most_few false = omega arith

or_true : (b : Bool) → (b || true) ≡ true
or_true true = refl
or_true false = refl

-- the highest status of an export, graded or not, of an image that may be cut off or not
abbrev most_of : Bool → Bool → ℕ
most_of graded cut = if graded || cut then 6 else 4

most_four : (graded cut : Bool) → 4 ≤ most_of graded cut
most_four true cut = omega arith
most_four false true = omega arith
most_four false false = omega arith

-- the status of an export with remarks is at least 1
pub told_few : (graded short : Bool) → (1 ≤ told_status graded short) × (told_status graded short ≤ 6)
told_few true true = (omega arith, omega arith)
told_few true false = (omega arith, omega arith)
told_few false true = (omega arith, omega arith)
told_few false false = (omega arith, omega arith)

-- it is at most 6 if it is graded or the image may be cut off, else 4
told_within : (graded cut : Bool) (lost : List Bool) (left : Bool) → (cut ≡ false → lost ≡ [])
    → (1 ≤ told_status (is_graded graded lost) left) × (told_status (is_graded graded lost) left ≤ most_of graded cut)
told_within true cut lost left none = told_few (is_graded true lost) left
told_within false true lost left none = told_few (is_graded false lost) left
told_within false false lost left none =
    subst (λ (marks : List Bool). (1 ≤ told_status (is_graded false marks) left) × (told_status (is_graded false marks) left ≤ 4)) (sym (none refl))
    (omega arith, omega arith)

-- an export that was written whole, and whose status is 0 if it has no remarks and `told` otherwise, satisfies `IsEndWithin`
ends_lines : (most told : ℕ) (streams : Streams) (status : ℕ) (lines : List ℕ) → 1 ≤ told → told ≤ most → streams.failed ≡ streams.had_failed → streams.lines ≡ lines
    → status ≡ (if length lines == 0 then 0 else told) → IsEndWithin most streams status
ends_lines most told streams status lines least within working said is =
    let few = lines_few most told status lines least within is in
    record { within = few.0; whole = λ e. (working, said ∙ few.1 e) }

-- the statuses of an export that isn't printed whole are at most `most`
pub record IsMost (graded : Bool) (lost : List Bool) (most : ℕ) : Type 0 where
  pub four : 4 ≤ most
  pub told : (short : Bool) → told_status (is_graded graded lost) short ≤ most
  pub unstarted : (fault : DirectoryFault) → unstarted_status graded fault ≤ most

ends_below : (most : ℕ) (edition : Edition) (image : List ℕ) (lost : List Bool) (start : FoundDirectory) (options : ExportOptions) (streams : Streams) (status : ℕ)
    → IsMost options.graded lost most → ExportsBelow edition image lost start options streams status → IsEndWithin most streams status
ends_below most edition image lost start options streams status is_most (whole founds walk is) =
    ends_lines most (told_status (is_graded options.graded lost) is.short) streams status is.lines (told_few (is_graded options.graded lost) is.short).0
    (is_most.told is.short) is.working is.said is.status
ends_below most edition image lost start options streams status is_most (broken founds notes walk noted is) = ends_broken most streams _ status is_most.four is
ends_below most edition image lost start options streams status is_most (short founds notes walk noted is) =
    let few = is_most.four in
    ends_badly most streams status (omega (arith, is.status)) (omega (arith, is.status, few))
ends_below most edition image lost start options streams status is_most (unbegun told) = ends_told most streams no_memory status is_most.four told

ends_to : (most : ℕ) (edition : Edition) (image : List ℕ) (lost : List Bool) (start : FoundDirectory) (options : ExportOptions) (streams : Streams) (status : ℕ) (screen : Screen)
    → IsMost options.graded lost most → ExportsTo edition image lost start options streams status screen → IsEndWithin most streams status
ends_to most edition image lost start options streams status screens.Stream is_most exports = ends_below most edition image lost start options streams status is_most exports
ends_to most edition image lost start options streams status (screens.Terminal columns colours) is_most told = ends_told most streams _ status is_most.four told

-- the status of an export that can't start is at least 1, and at most 6 if it is graded, else 4
unstarted_few : (graded cut : Bool) (fault : DirectoryFault) → (1 ≤ unstarted_status graded fault) × (unstarted_status graded fault ≤ most_of graded cut)
unstarted_few true cut (starts.Unsound fault) = (omega arith, omega arith)
unstarted_few false true (starts.Unsound fault) = (omega arith, omega arith)
unstarted_few false false (starts.Unsound fault) = (omega arith, omega arith)
unstarted_few graded cut (starts.Refused refusal) =
    let few = fault_few (faults.Refused refusal) in
    let most = most_four graded cut in
    (few.0, omega (arith, few.1, most))

-- the highest status of an export, of an image that may be cut off or not
most_is : (graded cut : Bool) (lost : List Bool) → (cut ≡ false → lost ≡ []) → IsMost graded lost (most_of graded cut)
most_is graded cut lost none = record {
  four = most_four graded cut;
  told = λ short. (told_within graded cut lost short none).1;
  unstarted = λ fault. (unstarted_few graded cut fault).1;
}

-- the highest status of an export of an image of which some blocks couldn't be read
pub most_six : (graded : Bool) (lost : List Bool) → IsMost graded lost 6
most_six graded lost = record {
  four = omega arith;
  told = λ short. (told_few (is_graded graded lost) short).1;
  unstarted = λ fault. subst (λ n. unstarted_status graded fault ≤ n) (ap (λ b. if b then 6 else 4) (or_true graded)) (unstarted_few graded true fault).1;
}

pub ends_from : (most : ℕ) (edition : Edition) (image : List ℕ) (lost : List Bool) (path : List ℕ) (options : ExportOptions) (screen : Screen) (streams : Streams) (status : ℕ)
    (found : Result FoundDirectory DirectoryFault) → IsMost options.graded lost most → ExportsFrom edition image lost path options screen streams status found
    → IsEndWithin most streams status
ends_from most edition image lost path options screen streams status (Ok start) is_most exports =
    ends_to most edition image lost start options streams status screen is_most exports
ends_from most edition image lost path options screen streams status (Err fault) is_most (inr (inl (lines, said, tells, line, told))) =
    ends_badly most streams status (subst (λ n. 1 ≤ n) (sym told.status) (told_few (is_graded options.graded lost) true).0)
    (subst (λ n. n ≤ most) (sym told.status) (is_most.told true))
ends_from most edition image lost path options screen streams status (Err fault) is_most (inr (inr told)) = ends_told most streams no_memory status is_most.four told
ends_from most edition image lost path options screen streams status (Err fault) is_most (inl (none, told)) =
    ends_badly most streams status (subst (λ n. 1 ≤ n) (sym told.status) (unstarted_few options.graded true fault).0)
    (subst (λ n. n ≤ most) (sym told.status) (is_most.unstarted fault))

-- no block is lost of an image that may not be cut off
none_lost : (cut : Bool) (edition : Edition) (bytes image : List ℕ) (lost : List Bool) → IsReadAs cut edition bytes image lost → cut ≡ false → lost ≡ []
none_lost true edition bytes image lost read e = absurd (true≢false e)
none_lost false edition bytes image lost read e = read.1

-- an image that isn't completed is reported with status 6 at most
incomplete_few : (graded cut : Bool) → cut ≡ true → 6 ≤ most_of graded cut
incomplete_few true cut is = omega arith
incomplete_few false true is = omega arith
incomplete_few false false is = absurd (true≢false (sym is))

ends_exports : (edition : Edition) (bytes path : List ℕ) (options : ExportOptions) (screen : Screen) (streams : Streams) (status : ℕ)
    → Exports edition bytes path options screen streams status → IsEndWithin (most_of options.graded options.losses.cut) streams status
ends_exports edition bytes path options screen streams status (inl (image, lost, read, exports)) =
    ends_from (most_of options.graded options.losses.cut) edition image lost path options screen streams status (begun options.lost edition image path)
    (most_is options.graded options.losses.cut lost (none_lost options.losses.cut edition bytes image lost read)) exports
ends_exports edition bytes path options screen streams status (inr (cut, inl (there, blocks, fault, is, line, told))) =
    let most = incomplete_few options.graded options.losses.cut cut in
    ends_badly (most_of options.graded options.losses.cut) streams status (omega (arith, told.status)) (omega (arith, told.status, most))
ends_exports edition bytes path options screen streams status (inr (cut, inr told)) =
    ends_told (most_of options.graded options.losses.cut) streams no_memory status (most_four options.graded options.losses.cut) told

verdict_few : (graded measured sound : Bool) → verdict_status graded measured sound ≤ (if graded then 6 else 4)
verdict_few true measured true = omega arith
verdict_few false measured true = omega arith
verdict_few true true false = omega arith
verdict_few true false false = omega arith
verdict_few false measured false = omega arith

checked_few : (edition : Edition) (image : List ℕ) (graded : Bool) (form : OutputForm) → AreFew (if graded then 6 else 4) (checked edition image graded form)
checked_few edition image graded form = λ text wanted lines is. (
  subst (λ n. n ≤ (if graded then 6 else 4)) (sym is.0.2) (verdict_few graded (is_ok (geometry_read edition image)) is.0.0),
  λ e. is.1,
)

found_few : (edition : Edition) (image : List ℕ) (form : OutputForm) (number : Result ℕ NodeFault) → AreFew 4 (found edition image form number)
found_few edition image form (Ok number) = plain_few 4 _
found_few edition image form (Err fault) = plain_few 4 _

-- what a look may come to has a status of at most its highest one
seen_few : (edition : Edition) (image : List ℕ) (screen : Screen) (look : Look) → AreFew (highest_status look) (seen edition image screen look)
seen_few edition image screen (looks.Export path options) = plain_few _ _
seen_few edition image screen (looks.Sums path form lost) = telling_few 4 1 _ (omega arith) (omega arith)
seen_few edition image screen (looks.Inode node form) = found_few edition image form (number_of edition image node)
seen_few edition image screen (looks.Super form) = plain_few 4 _
seen_few edition image screen (looks.Free form) = plain_few 4 _
seen_few edition image screen (looks.Block block form) = plain_few 4 _
seen_few edition image screen (looks.Dump target form) = plain_few 4 _
seen_few edition image screen (looks.Df form) = plain_few 4 _
seen_few edition image screen (looks.Find path name lost form) = telling_few 5 5 _ (omega arith) (omega arith)
seen_few edition image screen (looks.Map picture file) = plain_few 4 _
seen_few edition image screen looks.Uses = plain_few 4 _
seen_few edition image screen (looks.Check graded form) = checked_few edition image graded form
seen_few edition image screen (looks.List path listing) = plain_few 4 _
seen_few edition image screen (looks.Slots path form) = plain_few 4 _
seen_few edition image screen (looks.ListUnsound path listing) = telling_few 4 1 _ (omega arith) (omega arith)
seen_few edition image screen (looks.ReadUnsound path) = telling_few 4 1 _ (omega arith) (omega arith)

-- the highest status of a command is at least 4
highest_few : (look : Look) → 4 ≤ highest_status look
highest_few (looks.Export path options) = most_four options.graded options.losses.cut
highest_few (looks.Sums path form lost) = omega arith
highest_few (looks.Inode node form) = omega arith
highest_few (looks.Super form) = omega arith
highest_few (looks.Free form) = omega arith
highest_few (looks.Block block form) = omega arith
highest_few (looks.Dump target form) = omega arith
highest_few (looks.Df form) = omega arith
highest_few (looks.Find path name lost form) = omega arith
highest_few (looks.Map picture file) = omega arith
highest_few looks.Uses = omega arith
highest_few (looks.Check graded form) = most_few graded
highest_few (looks.List path listing) = omega arith
highest_few (looks.Slots path form) = omega arith
highest_few (looks.ListUnsound path listing) = omega arith
highest_few (looks.ReadUnsound path) = omega arith

ends_seen : (edition : Edition) (image : List ℕ) (screen : Screen) (streams : Streams) (status : ℕ) (look : Look) → Shows (seen edition image screen look) streams status
    → IsEndWithin (highest_status look) streams status
ends_seen edition image screen streams status look shows =
    ends_shows (highest_status look) (seen edition image screen look) streams status (highest_few look) (seen_few edition image screen look) shows

ends_looks : (edition : Edition) (image : List ℕ) (screen : Screen) (streams : Streams) (status : ℕ) (look : Look)
    → Looks edition image screen streams status look → IsEndWithin (highest_status look) streams status
ends_looks edition image screen streams status (looks.Export path options) shows = ends_exports edition image path.now options screen streams status shows
ends_looks edition image screen streams status (looks.Inode node form) shows = ends_in 4 form (seen edition image screen (looks.Inode node form)) streams status (omega arith) (seen_few edition image screen (looks.Inode node form)) shows
ends_looks edition image screen streams status looks.Uses shows = ends_pieces 4 (seen edition image screen looks.Uses) streams status (omega arith) (seen_few edition image screen looks.Uses) shows
ends_looks edition image screen streams status (looks.Slots path form) shows = ends_pieces 4 (seen edition image screen (looks.Slots path form)) streams status (omega arith) (seen_few edition image screen (looks.Slots path form)) shows
ends_looks edition image screen streams status (looks.Sums path form lost) shows = ends_seen edition image screen streams status (looks.Sums path form lost) shows
ends_looks edition image screen streams status (looks.Super form) shows = ends_seen edition image screen streams status (looks.Super form) shows
ends_looks edition image screen streams status (looks.Free form) shows = ends_seen edition image screen streams status (looks.Free form) shows
ends_looks edition image screen streams status (looks.Block block form) shows = ends_seen edition image screen streams status (looks.Block block form) shows
ends_looks edition image screen streams status (looks.Dump target form) shows = ends_seen edition image screen streams status (looks.Dump target form) shows
ends_looks edition image screen streams status (looks.Df form) shows = ends_seen edition image screen streams status (looks.Df form) shows
ends_looks edition image screen streams status (looks.Find path name lost form) shows = ends_seen edition image screen streams status (looks.Find path name lost form) shows
ends_looks edition image screen streams status (looks.Map picture file) shows = ends_seen edition image screen streams status (looks.Map picture file) shows
ends_looks edition image screen streams status (looks.Check graded form) shows = ends_seen edition image screen streams status (looks.Check graded form) shows
ends_looks edition image screen streams status (looks.List path listing) shows = ends_seen edition image screen streams status (looks.List path listing) shows
ends_looks edition image screen streams status (looks.ListUnsound path listing) shows = ends_seen edition image screen streams status (looks.ListUnsound path listing) shows
ends_looks edition image screen streams status (looks.ReadUnsound path) shows = ends_seen edition image screen streams status (looks.ReadUnsound path) shows

pub ends_unread : {F : Type 0} (remaining : F → Option (List ℕ)) (most : ℕ) (streams : Streams) (status : ℕ) → 4 ≤ most → IsUnread remaining status
    → IsEndWithin most streams status
ends_unread remaining most streams status few (inl is) = ends_badly most streams status (omega (arith, is)) (omega (arith, is, few))
ends_unread remaining most streams status few (inr memory) = ends_badly most streams status (omega (arith, memory.0)) (omega (arith, memory.0, few))

-- a command that shows part of an image ends with a status of at most 4, or 6 if it is graded, and with 0 only if everything was printed and no fault
-- was reported
pub ends_looked : {F : Type 0} (at : ℕ) (remaining contents : F → Option (List ℕ)) (had : F → Stamp → Type 0) (stood : Stamp → Type 0) (streams : Streams)
    (screen : Screen) (edition : Edition) (look : Look) (status : ℕ) → RunsLook streams (host_files at remaining contents had stood) screen edition look status
    → IsEndWithin (highest_status look) streams status
ends_looked at remaining contents had stood streams screen edition look status (inl nothing) =
    ends_unread remaining (highest_status look) streams status (highest_few look) nothing.0
ends_looked at remaining contents had stood streams screen edition look status (inr (image, given, looks)) = ends_looks edition image screen streams status look looks
