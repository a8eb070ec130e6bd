use Rattle.std.proofs.Common.{◌≡◌, sym, ap, ◌∙◌, ◌++◌, [], None}
use Rattle.std.proofs.lemmas.List.{append-nil}
use Rattle.vol_inspect.specs.Extents.{gathered, holdings, extents_of}
use Rattle.vol_inspect.proofs.Gatherings.{notes_end}
use Rattle.vol_inspect.proofs.extents.extents.Goals.{in-Some+in_ok-push, in_default}
use Rattle.vol_inspect.proofs.extents.extents.Goals as goal

pub returns : goal.returns
unfolding extents_of
returns c =
    let found = c.note_inode.new.gathering in
    let listed = holdings c.args.geometry.now c.args.image.now c.args.i in
    let all : found.done.items ++ gathered found.last [] ≡ gathered None listed =
    notes_end (record { done = c.new.result; last = None }) found listed c.in_ok-note_inode.ensures
    ∙ ap (λ xs. xs ++ gathered None listed) c.new.ensures.items in
    elim c.match-last.branch [
      | in-Some+in_ok-push w ↦
          ap (λ v. v.items) w.done-is
          ∙ (w.in_ok-push.ensures.items ∙ (ap (λ o. found.done.items ++ gathered o []) (sym w.in-Some.is) ∙ all))
      | in_default w ↦
          ap (λ v. v.items) w.done-is
          ∙ (sym (append-nil found.done.items) ∙ (ap (λ o. found.done.items ++ gathered o []) (sym w.in_default.is) ∙ all))
    ]
