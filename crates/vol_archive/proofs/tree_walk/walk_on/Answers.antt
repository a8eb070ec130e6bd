use Rattle.std.proofs.Common.{rules, arith, length, ℕ, List, ◌∙◌, ap, sym, ◌++◌, ◌≡◌, ◌∷◌, [], refl, subst}
use Rattle.std.specs.Prelude.{Option, reverse}
use Rattle.vol_archive.specs.Marks.{AreFirsts}
use Rattle.std.specs.Global.{Vec}
use Rattle.vol_archive.specs.Walk.{met, below, entries_below}
use Rattle.vol_archive.specs.declared.pending.Pending.{Pending}
use Rattle.vol_archive.specs.declared.met_entries.Role.{Role}
use Rattle.vol_archive.specs.declared.met_entries.MetEntry.{MetEntry}
use Rattle.vol_archive.proofs.WalkSteps.{walk_on, walk_ends, below_none}
use Rattle.vol_archive.proofs.tree_walk.walk_on.Goals as goal
use Rattle.vol_archive.proofs.tree_walk.walk_on.Goals.{in-Directory+in_ok-push_below, in_default-role}

pub entries-preserved : goal.entries-preserved
entries-preserved c =
    let found : MetEntry = record { path = c.in-Some.entry.path; inode = c.in-Some.entry.inode; role = c.role_of-role.result } in
    let g = c.args.geometry.now in
    let image = c.args.image.now in
    let is : found ≡ met g image c.args.start c.entries.founds.items c.in-Some.entry =
    ap (λ (role : Role). record { path = c.in-Some.entry.path; inode = c.in-Some.entry.inode; role = role })
    (c.role_of-role.ensures.role c.entries.founds.items
    (subst (λ (firsts : List (Option ℕ)). AreFirsts g firsts c.entries.founds.items) (sym c.deref.ensures.value) c.entries.invariant.firsts)) in
    let more : c.push.new.self.items ≡ c.entries.founds.items ++ found ∷ [] = c.in_ok-push.ensures.items in
    let popped : c.entries.pending.items ≡ c.pop.new.self.items ++ c.in-Some.entry ∷ [] = c.in-Some.ensures.items in
    let place : c.len.result ≡ length c.entries.founds.items = omega arith in
    record {
      firsts = subst (AreFirsts g c.mark_first.new.firsts.items) (sym more) (c.mark_first.ensures g c.entries.founds.items found c.entries.invariant.firsts place refl refl);
      goes = λ all walks. c.entries.invariant.goes all
          (walk_on g image c.args.start c.entries.founds.items c.push.new.self.items c.entries.pending.items c.pop.new.self.items c.match-role.pending.items
          c.in-Some.entry found all popped is more (elim c.match-role.branch [
            | in-Directory+in_ok-push_below w ↦
                ap (λ (ps : Vec Pending). reverse ps.items) w.pending-is
                ∙ (w.in_ok-push_below.ensures
                ∙ (ap (λ path. entries_below g image path c.in-Some.entry.inode ++ reverse c.pop.new.self.items) w.as_slice-path.ensures
                ∙ sym (ap (λ role. below g image found role ++ reverse c.pop.new.self.items) w.in-Directory.is)))
            | in_default-role w ↦ ap (λ (ps : Vec Pending). reverse ps.items) w.pending-is ∙ sym (ap (λ ps. ps ++ reverse c.pop.new.self.items) (below_none g image found c.role_of-role.result w.in_default-role.not-Directory))
          ]) walks);
    }

pub returns-clause-walk : goal.returns-clause-walk
returns-clause-walk c =
    let none : c.entries.pending.items ≡ [] = search rules in
    c.entries.invariant.goes c.entries.founds.items
    (walk_ends c.args.geometry.now c.args.image.now c.args.start c.entries.founds.items c.entries.pending.items none)
