-- What `block` shows of an image of which blocks may be lost is one of the things that it may come to.
use Rattle.std.proofs.Common.{◌≡◌, ◌==◌, ◌∙◌, ℕ, Bool, true, false, true≢false, List, [], ◌∷◌, length, Result, Ok, Err, IfErr, IfOk, ap, arith, refl, subst, sym}
use Rattle.std.specs.Prelude.{IsOk}
use Rattle.std.specs.Global.{Vec}
use Rattle.std.proofs.lemmas.Bool.{eqb-true}
use Rattle.vol_inspect.specs.Owners.{InspectsBlock, owners_of}
use Rattle.vol_inspect.specs.declared.fault.InspectFault.TheVariants as inspects
use Rattle.vol_inspect.specs.declared.owners.Owner.{Owner}
use Rattle.vol_layout.specs.Geometry.{geometry_read}
use Rattle.vol_layout.specs.declared.edition.Edition.{Edition}
use Rattle.vol_layout.specs.declared.geometry.Geometry.{Geometry}
use Rattle.vol_layout.specs.declared.geometry.GeometryFault.{GeometryFault}
use Rattle.command_faults.specs.Faults.{line_after, no_memory}
use Rattle.command_faults.specs.declared.fault.Fault.{Fault}
use Rattle.command_reads.specs.BadOwners.{TellsOwners, block_sights, known_block_sights}
use Rattle.command_reads.specs.Print.{IsSight}
use Rattle.command_reads.specs.declared.print.Shown.{Shown}
use Rattle.command_terms.specs.declared.looks.OutputForm.{OutputForm}

-- if a block is lost, what is known of the block is shown
pub with_marks : (edition : Edition) (image : List ℕ) (lost : List Bool) (b : ℕ) (form : OutputForm) (result : Result Shown Fault) → (length lost == 0) ≡ false
    → IsSight (known_block_sights edition image lost b form) result → IsSight (block_sights edition image lost b form) result
with_marks edition image [] b form result some shows = absurd (true≢false some)
with_marks edition image (mark ∷ lost) b form result some shows = shows

-- if none is, its owners are
pub without_marks : (edition : Edition) (image : List ℕ) (lost : List Bool) (b : ℕ) (form : OutputForm) (result : Result Shown Fault) → (length lost == 0) ≡ true
    → IsSight (block_sights edition image [] b form) result → IsSight (block_sights edition image lost b form) result
without_marks edition image [] b form result none shows = shows
without_marks edition image (mark ∷ lost) b form result none shows =
    let empty = eqb-true (length (mark ∷ lost)) 0 none in absurd (omega (arith, empty))

-- an image has one geometry
same_geometry : (read : Result Geometry GeometryFault) (one other : Geometry) → read ≡ Ok one → read ≡ Ok other → one ≡ other
same_geometry read one other is also = cc

-- what is known of a block whose owners were found, or out of memory
pub owned : (edition : Edition) (image : List ℕ) (lost : List Bool) (b : ℕ) (form : OutputForm) (geometry : Geometry) (found : Vec Owner) (items : List Owner)
    (result : Result Shown Fault) → geometry_read edition image ≡ Ok geometry → InspectsBlock edition image b (Ok found) → items ≡ found.items
    → IfOk result (λ shown. TellsOwners geometry image lost b form items shown.text.items shown.ending.status (line_after shown.ending.fault))
    → IfErr result (λ fault. fault ≡ no_memory) → IsSight (known_block_sights edition image lost b form) result
owned edition image lost b form geometry found items (Ok shown) read known same told fault =
    let one : known.0 ≡ geometry = same_geometry (geometry_read edition image) known.0 geometry known.1 read in (
      geometry,
      read,
      subst (λ (owners : List Owner). TellsOwners geometry image lost b form owners shown.text.items shown.ending.status (line_after shown.ending.fault))
          (same ∙ (known.2 ∙ ap (λ (g : Geometry). owners_of g image b) one)) told,
    )
owned edition image lost b form geometry found items (Err why) read known same told fault =
    (inspects.NoMemory, subst (λ (r : Result Geometry GeometryFault). IsOk r) (sym read) refl, fault)
