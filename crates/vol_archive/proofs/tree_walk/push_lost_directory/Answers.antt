use Rattle.std.proofs.Common.{ℕ, List, [], ◌∷◌, ◌++◌, ◌∙◌, ap, sym, subst, refl, arith}
use Rattle.std.specs.Prelude.{Option}
use Rattle.std.specs.Global.{Vec}
use Rattle.vol_archive.specs.Marks.{AreFirsts}
use Rattle.vol_archive.specs.Walk.{lost_directory}
use Rattle.vol_archive.specs.declared.met_entries.MetEntry.{MetEntry}
use Rattle.vol_archive.specs.declared.met_entries.Role.TheVariants.{Directory}
use Rattle.vol_archive.proofs.tree_walk.push_lost_directory.Goals as goal
use Rattle.vol_archive.proofs.tree_walk.push_lost_directory.Goals.{then-not-is_empty+then-not-has_path+in_ok-from_slice+in_ok-push, else-not-is_empty}

-- the visited entries followed by a directory with this path
abbrev named : List MetEntry → ℕ → List ℕ → List MetEntry
named founds start path = founds ++ record { path = path; inode = start; role = Directory } ∷ []

pub returns-clause-firsts : goal.returns-clause-firsts
returns-clause-firsts c = λ g firsts.
    elim c.if-not-is_empty.branch [
      | then-not-is_empty+then-not-has_path+in_ok-from_slice+in_ok-push w ↦
          let marked = w.mark_first.ensures g c.args.walked.founds.items (lost_directory c.args.start) firsts (omega arith) refl refl in
          subst (λ (fs : List MetEntry). AreFirsts g c.if-not-is_empty.firsts.items fs) (sym (ap (λ (v : Vec MetEntry). v.items) w.founds-is ∙ (w.in_ok-push.ensures.items ∙ ap (named c.args.walked.founds.items c.args.start) (w.from_vec.ensures ∙ w.in_ok-from_slice.ensures.items))))
          (subst (λ (ms : List (Option ℕ)). AreFirsts g ms _) (sym (ap (λ (v : Vec (Option ℕ)). v.items) w.firsts-is)) marked)
      | else-not-is_empty w ↦
          subst (λ (fs : List MetEntry). AreFirsts g c.if-not-is_empty.firsts.items fs) (sym (ap (λ (v : Vec MetEntry). v.items) w.founds-is))
          (subst (λ (ms : List (Option ℕ)). AreFirsts g ms c.args.walked.founds.items) (sym (ap (λ (v : Vec (Option ℕ)). v.items) w.firsts-is)) firsts)
    ]
