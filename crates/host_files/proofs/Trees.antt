-- Trees of the host: one more visit.
use Rattle.std.proofs.Common.{◌≡◌, ◌∷◌, ◌++◌, ◌+◌, ℕ, suc, List, [], arith, subst}
use Rattle.std.specs.Prelude.{string_bytes}
use Rattle.host_files.specs.Folders.{AreListed, HasIn}
use Rattle.host_files.specs.declared.folders.FolderListing.{FolderListing}
use Rattle.host_files.specs.declared.folders.Found.{Found}

-- after one more visit, of what was on the top of the stack
pub listed_more : (listed : List ℕ → FolderListing → Type 0) (start left left' under : List Found) (found : Found) (more members members' : List Found) (count : ℕ)
    → AreListed listed count start left members → left ≡ under ++ found ∷ [] → HasIn listed found.kind (string_bytes found.path) more
    → left' ≡ under ++ more → members' ≡ members ++ found ∷ [] → AreListed listed (count + 1) start left' members'
listed_more listed start left left' under found more members members' count are top has after all =
    let next : suc count ≡ count + 1 = omega arith in
    let grown : AreListed listed (suc count) start left' members' =
    (under, found, members, more, subst (λ (stack : List Found). AreListed listed count start stack members) top are, has, after, all)
    in
    subst (λ (n : ℕ). AreListed listed n start left' members') next grown
