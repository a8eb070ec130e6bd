-- Planning the calls that make members, one member after another.
use Rattle.std.proofs.Common.{◌≡◌, ℕ, List, [], ◌∷◌, ◌++◌, Ok, Err, sym, ap, ◌∙◌}
use Rattle.std.specs.Prelude.{Result, reverse}
use Rattle.std.proofs.lemmas.List.{reverse-append}
use Rattle.vol_dir.specs.Tree.{Tree}
use Rattle.vol_volume.specs.declared.calls.Call.{Call}
use Rattle.vol_import.specs.Plan.{Drafted, check, onto, and_next, plan_onto}
use Rattle.vol_import.specs.declared.import_plan.PlanFault.{PlanFault}
use Rattle.vol_import.specs.declared.archive_members.Member.{Member}

-- a draft with a member added according to its check
abbrev pub with_checked : Tree → List ℕ → ℕ → Drafted → Member → Result Drafted PlanFault
with_checked tree base now front member = onto tree base now front member (check tree.geometry.edition member)

-- planning the members left, which are reversed, begins with the last of them
taken : (tree : Tree) (base : List ℕ) (now : ℕ) (front : Drafted) (left rest : List Member) (member : Member) → left ≡ rest ++ member ∷ []
    → plan_onto tree base now front (reverse left)
    ≡ and_next (with_checked tree base now front member) (λ front. plan_onto tree base now front (reverse rest))
unfolding plan_onto
taken tree base now front left rest member is =
    ap (plan_onto tree base now front) (ap reverse is ∙ reverse-append rest (member ∷ []))

-- after one more member, the plan is still that of all members
pub on_member : (tree : Tree) (base : List ℕ) (now : ℕ) (front next : Drafted) (left rest : List Member) (member : Member) (all : Result (List Call) PlanFault)
    → plan_onto tree base now front (reverse left) ≡ all → left ≡ rest ++ member ∷ [] → with_checked tree base now front member ≡ Ok next
    → plan_onto tree base now next (reverse rest) ≡ all
on_member tree base now front next left rest member all on is done =
    sym (rw done at (taken tree base now front left rest member is)) ∙ on

-- the fault of a member that can't be made is the fault of the plan
pub on_fault : (tree : Tree) (base : List ℕ) (now : ℕ) (front : Drafted) (left rest : List Member) (member : Member) (all : Result (List Call) PlanFault)
    (fault : PlanFault) → plan_onto tree base now front (reverse left) ≡ all → left ≡ rest ++ member ∷ []
    → with_checked tree base now front member ≡ Err fault → all ≡ Err fault
on_fault tree base now front left rest member all fault on is done =
    sym on ∙ (rw done at (taken tree base now front left rest member is))

-- if no member is left, the calls so far are the plan
pub on_end : (tree : Tree) (base : List ℕ) (now : ℕ) (front : Drafted) (left : List Member) (all : Result (List Call) PlanFault)
    → plan_onto tree base now front (reverse left) ≡ all → left ≡ [] → all ≡ Ok front.1
unfolding plan_onto
on_end tree base now front left all on none = sym on ∙ ap (λ (left : List Member). plan_onto tree base now front (reverse left)) none
