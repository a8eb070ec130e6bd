-- Sorting the members of an archive, one after another; without options all members are chosen.
use Rattle.std.proofs.Common.{◌≡◌, ℕ, Bool, false, List, [], ◌∷◌, ◌++◌, Option, Ok, Err, sym, ap, refl, subst, ◌∙◌}
use Rattle.std.specs.Prelude.{Result, reverse}
use Rattle.std.proofs.lemmas.List.{append_assoc, append-nil, reverse-append}
use Rattle.vol_dir.specs.Tree.{Tree}
use Rattle.vol_dir.specs.declared.cred.Cred.{Cred}
use Rattle.vol_layout.specs.declared.edition.Edition.{Edition}
use Rattle.vol_volume.specs.Volume.{reads_as}
use Rattle.vol_volume.specs.declared.calls.Call.{Call}
use Rattle.vol_import.specs.Make.{Imports, IsReason, calls_to_make, planned}
use Rattle.vol_import.specs.Members.{members}
use Rattle.vol_import.specs.Options.{Sorted, calls_with, chosen, chosen_members, left_out, owned_by, parts_of, plain, sort_onto, sorted_with}
use Rattle.vol_import.specs.declared.archive_members.Member.{Member}
use Rattle.vol_import.specs.declared.faults.ArchiveFault.{ArchiveFault}
use Rattle.vol_import.specs.declared.import_options.ImportOptions.{ImportOptions}
use Rattle.vol_import.specs.declared.make.ImportFault.{ImportFault}

-- after one more member, the result is still that of sorting all members
pub on_member : (options : ImportOptions) (front next : Sorted) (left rest : List Member) (member : Member) (all : Sorted)
    → sort_onto options front (reverse left) ≡ all → left ≡ rest ++ member ∷ [] → next ≡ sorted_with options front member
    → sort_onto options next (reverse rest) ≡ all
unfolding sort_onto
on_member options front next left rest member all on is done =
    ap (λ (other : Sorted). sort_onto options other (reverse rest)) done
    ∙ sym (ap (sort_onto options front) (ap reverse is ∙ reverse-append rest (member ∷ []))) ∙ on

-- if no member is left, the members so far are sorted
pub on_end : (options : ImportOptions) (front : Sorted) (left : List Member) (all : Sorted)
    → sort_onto options front (reverse left) ≡ all → left ≡ [] → front ≡ all
unfolding sort_onto
on_end options front left all on none = sym (ap (λ (left : List Member). sort_onto options front (reverse left)) none) ∙ on

-- without options all members are sorted into the members to make
plainly : (known left : List (List ℕ)) (front all : List Member) → sort_onto plain (known, left, front) all ≡ (known, left, front ++ all)
unfolding sort_onto
plainly known left front [] = ap (λ (front : List Member). (known, left, front)) (sym (append-nil front))
plainly known left front (member ∷ rest) =
    plainly known left (front ++ member ∷ []) rest
    ∙ ap (λ (front : List Member). (known, left, front)) (append_assoc front (member ∷ []) rest)

-- without options all members of an archive are chosen
pub all_chosen : (read : Result (List Member) ArchiveFault) → chosen_members plain read ≡ read
all_chosen (Ok all) = ap (λ (front : Sorted). Ok (parts_of front).0) (plainly [] [] [] all)
all_chosen (Err fault) = refl

-- without options the calls are those that make all members
pub plain_calls : (tree : Tree) (archive base : List ℕ) (now : ℕ) → calls_with plain tree archive base now ≡ calls_to_make tree archive base now
unfolding calls_with calls_to_make
plain_calls tree archive base now = ap (planned tree archive base now) (all_chosen (members archive))

-- the result of an import without options is that of making all members
pub plain_made : (edition : Edition) (image archive base bytes : List ℕ) (now : ℕ)
    → Imports edition image (calls_with plain (reads_as edition image).tree archive base now) bytes
    → Imports edition image (calls_to_make (reads_as edition image).tree archive base now) bytes
plain_made edition image archive base bytes now =
    subst (λ (wanted : Result (List Call) ImportFault). Imports edition image wanted bytes) (plain_calls (reads_as edition image).tree archive base now)

-- a reason not to import without options is a reason not to make all members
pub plain_reason : (edition : Edition) (image archive base : List ℕ) (now : ℕ) (fault : ImportFault)
    → IsReason edition image (calls_with plain (reads_as edition image).tree archive base now) fault
    → IsReason edition image (calls_to_make (reads_as edition image).tree archive base now) fault
plain_reason edition image archive base now fault =
    subst (λ (wanted : Result (List Call) ImportFault). IsReason edition image wanted fault) (plain_calls (reads_as edition image).tree archive base now)

-- no path is left out if special files aren't
unskipped : (owner : Option Cred) (known left : List (List ℕ)) (front all : List Member)
    → (sort_onto (record { skip_special = false; owner = owner }) (known, left, front) all).1 ≡ left
unfolding sort_onto
unskipped owner known left front [] = refl
unskipped owner known left front (member ∷ rest) = unskipped owner known left (front ++ owned_by owner member ∷ []) rest

-- no path of an archive is left out if special files aren't
pub none_left : (options : ImportOptions) (read : Result (List Member) ArchiveFault) → options.skip_special ≡ false → left_out options read ≡ []
none_left options (Ok all) is =
    subst (λ (skip : Bool). (chosen (record { skip_special = skip; owner = options.owner }) all).1 ≡ []) (sym is) (unskipped options.owner [] [] [] all)
none_left options (Err fault) is = refl
