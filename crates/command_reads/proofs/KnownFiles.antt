-- What `get` and `cat` show of an image with lost blocks is one of the things that it may come to.
use Rattle.std.proofs.Common.{arith, ◌≡◌, ◌||◌, ◌==◌, ℕ, Bool, true, false, true≢false, if◌then◌else◌, List, [], ◌∷◌, length, Option, Some, Result, Ok, Err, IfErr, IfOk, inl, inr, refl, subst, sym}
use Rattle.std.proofs.lemmas.Bool.{eqb-true}
use Rattle.vol_layout.specs.Body.{body}
use Rattle.vol_layout.specs.declared.edition.Edition.{Edition}
use Rattle.vol_layout.specs.declared.geometry.Geometry.{Geometry}
use Rattle.vol_losses.specs.Losses.{is_whole}
use Rattle.vol_rescue.specs.Lines.{TellsNamed}
use Rattle.command_faults.specs.Faults.{line_after}
use Rattle.command_faults.specs.Streams.{Streams}
use Rattle.command_faults.specs.declared.fault.Fault.{Fault}
use Rattle.command_terms.specs.declared.looks.NodeName.{NodeName}
use Rattle.command_reads.specs.BadFiles.{IsFileUnreached, IsFileUnreachedFault, IsOpened, cat_sights, file_sights, get_sights, place_of, told_of}
use Rattle.command_reads.specs.Cat.{file_of}
use Rattle.command_reads.specs.Export.{told_status}
use Rattle.command_reads.specs.Node.{number_at, number_of}
use Rattle.command_reads.specs.Print.{IsSight, Shows}
use Rattle.command_reads.specs.Unsound.{IsFileAt, IsUnfound, readable}
use Rattle.command_reads.specs.declared.node.NodeFault.{NodeFault}
use Rattle.command_reads.specs.declared.print.Shown.{Shown}
use Rattle.command_reads.specs.declared.unsound.FoundFile.{FoundFile}

-- a node that isn't opened
pub file_unreached : (edition : Edition) (image : List ℕ) (lost : List Bool) (place : Option (List ℕ)) (number : Result ℕ NodeFault)
    (opened : ℕ → Result Geometry NodeFault) (damaged : Bool) (result : Result Shown Fault)
    → IfOk result (λ shown. IsFileUnreached edition image lost place number opened shown.text.items shown.ending.status (line_after shown.ending.fault))
    → IfErr result (IsFileUnreachedFault edition image lost place number opened) → IsSight (file_sights edition image lost place number opened damaged) result
file_unreached edition image lost place number opened damaged (Ok shown) way fault = inr way
file_unreached edition image lost place number opened damaged (Err why) way fault = fault

-- a regular file that `get` found, or not
pub file_opened : (edition : Edition) (image path : List ℕ) (found : Result FoundFile NodeFault)
    → IfOk found (λ file. IsFileAt edition image path file.geometry file.inode) → IfErr found (IsUnfound edition image path (readable edition image))
    → IsOpened (number_at edition image path) (readable edition image) found
file_opened edition image path (Ok file) is why = (is.found, is.opened)
file_opened edition image path (Err fault) is why = why

-- bytes that aren't shown, and those that are
pub hidden : (shown : Bool) (bytes : List ℕ) → shown ≡ false → [] ≡ (if shown then bytes else [])
hidden true bytes is = absurd (true≢false is)
hidden false bytes is = refl

pub visible : (shown : Bool) (bytes : List ℕ) → shown ≡ true → bytes ≡ (if shown then bytes else [])
visible true bytes is = refl
visible false bytes is = absurd (true≢false (sym is))

-- a file that was found, with the lines about it and the status
pub known_file : (edition : Edition) (image : List ℕ) (lost : List Bool) (place : Option (List ℕ)) (number : Result ℕ NodeFault)
    (opened : ℕ → Result Geometry NodeFault) (damaged shown : Bool) (found : Result FoundFile NodeFault) (file : FoundFile) (text lines : List ℕ) (short : Bool)
    (status : ℕ) → IsOpened number opened found → found ≡ Ok file → shown ≡ (damaged || is_whole file.geometry image lost file.inode)
    → text ≡ (if shown then body file.geometry image file.inode else [])
    → TellsNamed file.geometry image lost (told_of file.geometry image lost place file.inode) lines short
    → status ≡ (if length lines == 0 then 0 else told_status true short) → (file_sights edition image lost place number opened damaged).shows text status lines
known_file edition image lost place number opened damaged shown found file text lines short status is same flag bytes told ends =
    let both = subst (IsOpened number opened) same is in inl (
      record {
        geometry = file.geometry;
        inode = file.inode;
        found = both.0;
        opens = both.1;
        bytes = subst (λ b. text ≡ (if b then body file.geometry image file.inode else [])) flag bytes;
        short = short;
        told = told;
      },
      ends,
    )

-- if a block is lost, these are the things
pub with_losses : (edition : Edition) (image : List ℕ) (lost : List Bool) (path : List ℕ) (damaged : Bool) (streams : Streams) (status : ℕ) → (length lost == 0) ≡ false
    → Shows (file_sights edition image lost (Some path) (number_at edition image path) (readable edition image) damaged) streams status
    → Shows (get_sights edition image lost path damaged) streams status
with_losses edition image [] path damaged streams status some shows = absurd (true≢false some)
with_losses edition image (mark ∷ lost) path damaged streams status some shows = shows

pub cat_with_losses : (edition : Edition) (image : List ℕ) (lost : List Bool) (node : NodeName) (damaged : Bool) (streams : Streams) (status : ℕ)
    → (length lost == 0) ≡ false
    → Shows (file_sights edition image lost (place_of node) (number_of edition image node) (file_of edition image) damaged) streams status
    → Shows (cat_sights edition image lost node damaged) streams status
cat_with_losses edition image [] node damaged streams status some shows = absurd (true≢false some)
cat_with_losses edition image (mark ∷ lost) node damaged streams status some shows = shows

-- if none is, so are the bytes of a node
pub cat_whole : (edition : Edition) (image : List ℕ) (lost : List Bool) (node : NodeName) (damaged : Bool) (streams : Streams) (status : ℕ)
    → (length lost == 0) ≡ true → Shows (cat_sights edition image [] node damaged) streams status → Shows (cat_sights edition image lost node damaged) streams status
cat_whole edition image [] node damaged streams status none shows = shows
cat_whole edition image (mark ∷ lost) node damaged streams status none shows =
    let empty = eqb-true (length (mark ∷ lost)) 0 none in absurd (omega (arith, empty))
