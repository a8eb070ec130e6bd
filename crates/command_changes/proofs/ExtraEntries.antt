-- The paths of members in a set, and the entries that `sync` removes.
use Rattle.std.proofs.Common.{◌≡◌, ◌∙◌, ◌<◌, ◌+◌, ◌∷◌, ◌||◌, ℕ, List, [], Bool, true, false, Option, Ok, Err, IfOk, cond, refl, sym, ap, ap₂, subst, get_or, length, take}
use Rattle.std.specs.Borrow.{Bor}
use Rattle.std.specs.BTreeSet.{BTreeSet, Updates}
use Rattle.std.specs.Cmp.Lexicographic.{slice_cmp}
use Rattle.std.specs.List.{flat_map}
use Rattle.std.specs.declared.alloc.AllocError.{AllocError}
use Rattle.std.specs.Ordering.{nat_cmp}
use Rattle.std.specs.Prelude.{Result, reverse, string_bytes}
use Rattle.std.specs.Str.{bytes_eq}
use Rattle.std.proofs.lemmas.List.{take_more}
use Rattle.std.proofs.lemmas.List.Folds.{list_any-append}
use Rattle.std.proofs.lemmas.Map.Text.{is_eq-slice_cmp}
use Rattle.vol_layout.specs.Geometry.{geometry_of}
use Rattle.vol_layout.specs.declared.edition.Edition.{Edition}
use Rattle.vol_layout.specs.declared.geometry.Geometry.{Geometry}
use Rattle.vol_archive.specs.declared.met_entries.MetEntry.{MetEntry}
use Rattle.command_changes.specs.Extras.{AreBelow, HoldsPaths, Removes, entry_calls, entry_line, has_member, pruned}
use Rattle.command_changes.specs.declared.extras.Extra.{Extra}
use Rattle.command_changes.specs.declared.sync.SyncPlan.{SyncPlan}
use Rattle.command_changes.specs.declared.sync.Syncing.{Syncing}
use Rattle.command_changes.specs.declared.sync.TreeMember.{TreeMember}

-- a path is in the set after an insertion if it was inserted, or was in the set before
put_or_there : (is_it was : Bool) → cond is_it true was ≡ (was || (is_it || false))
put_or_there true true = refl
put_or_there true false = refl
put_or_there false true = refl
put_or_there false false = refl

-- if a set has the paths of the first `i` members, then with the path of the next it has those of the first `i + 1`
pub holds_more : (known new : BTreeSet (Bor (List ℕ))) (members : List TreeMember) (i : ℕ) (d : TreeMember) (key : Bor (List ℕ)) → i < length members
    → HoldsPaths known (take i members) → key.now ≡ string_bytes (get_or members i d).path
    → Updates (λ (one other : Bor (List ℕ)). slice_cmp nat_cmp one.now other.now) known new key true → HoldsPaths new (take (i + 1) members)
holds_more known new members i d key within holds is updates path =
    let one : bytes_eq key.now path.now ≡ bytes_eq (string_bytes (get_or members i d).path) path.now = ap (λ (text : List ℕ). bytes_eq text path.now) is in
    updates.0 path
    ∙ ap₂ (λ (a b : Bool). cond a true b) (is_eq-slice_cmp key.now path.now ∙ one) (holds path)
    ∙ put_or_there (bytes_eq (string_bytes (get_or members i d).path) path.now) (has_member (take i members) path.now)
    ∙ sym (list_any-append (λ (member : TreeMember). bytes_eq (string_bytes member.path) path.now) (take i members) (get_or members i d ∷ []))
    ∙ ap (λ (all : List TreeMember). has_member all path.now) (sym (take_more members i d within))

-- the calls and the lines for all entries below the directory of a volume, in reversed order, are those for what is removed
pub removes : (edition : Edition) (image : List ℕ) (syncing : Syncing) (extra : Extra) (members : List TreeMember) (g : Geometry) (here path : List ℕ)
    (start : Option ℕ) (founds turned : List MetEntry) (result : Result SyncPlan AllocError)
    → g ≡ geometry_of edition image → here ≡ image → path ≡ syncing.directory.now → start ≡ pruned extra g here path → AreBelow start g here founds
    → turned ≡ reverse founds → IfOk result (λ plan. plan.calls.items ≡ flat_map (entry_calls syncing members) turned)
    → IfOk result (λ plan. plan.lines.items ≡ flat_map (entry_line syncing members) turned) → IfOk result (Removes edition image syncing extra members)
removes edition image syncing extra members g here path start founds turned (Ok plan) sizes same is starts are turns calls lines =
    let at = subst (λ (s : Option ℕ). AreBelow s g here founds) starts are in
    let along = subst (λ (p : List ℕ). AreBelow (pruned extra g here p) g here founds) is at in
    let there = subst (λ (i : List ℕ). AreBelow (pruned extra g i syncing.directory.now) g i founds) same along in
    let met = subst (λ (h : Geometry). AreBelow (pruned extra h image syncing.directory.now) h image founds) sizes there in
    (founds, met, calls ∙ ap (flat_map (entry_calls syncing members)) turns, lines ∙ ap (flat_map (entry_line syncing members)) turns)
removes edition image syncing extra members g here path start founds turned (Err full) sizes same is starts are turns calls lines = tt
