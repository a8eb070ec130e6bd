use Rattle.std.proofs.Common.{◌≡◌, ◌∙◌, ◌+◌, ◌++◌, ◌∷◌, ℕ, [], ap, sym, subst, length, length-append}
use Rattle.vol_rescue.specs.Notes.{AreNotes, IsNote}
use Rattle.vol_rescue.proofs.notes.all_notes.Goals as goal

pub loop-before-init : goal.loop-before-init
loop-before-init c =
    let empty : c.from_vec.result ≡ [] = c.from_vec.ensures ∙ c.new.ensures.items in
    let one : c.push.new.self.items ≡ [] ∷ [] =
    c.in_ok-push.ensures.items ∙ (ap (λ notes. notes ++ c.from_vec.result ∷ []) c.new-notes.ensures.items ∙ ap (λ note. note ∷ []) empty) in
    record {
      notes = subst (AreNotes c.args.geometry.now c.args.image.now c.args.lost.now) (sym one) AreNotes.zeroth;
      count = ap length one;
    }

pub loop-before-preserved : goal.loop-before-preserved
loop-before-preserved c =
    let notes = c.loop-before.notes.items in
    let count = c.loop-before.invariant.count in
    let note = c.in_ok-note_on.field-0 in
    let more = c.in_ok-push-2.ensures.items in
    record {
      notes = subst (AreNotes c.args.geometry.now c.args.image.now c.args.lost.now) (sym more)
          (AreNotes.more notes note c.loop-before.invariant.notes
          (subst (λ (i : ℕ). IsNote c.args.geometry.now c.args.image.now c.args.lost.now i note) (sym count) c.in_ok-note_on.ensures));
      count = ap length more ∙ (length-append notes (note ∷ []) ∙ ap (λ (n : ℕ). n + 1) count);
    }
