use Rattle.std.proofs.Common.{◌∙◌, sym, arith, inl, inr, refl, subst}
use Rattle.std.proofs.lemmas.Bool.{cases_lt, cases_eq}
use Rattle.vol_repair.specs.Told.{Grows, TellsSlot}
use Rattle.vol_repair.proofs.Telling.{grows_none, grows_push, grows_more, tells_grown, tells_entry, tells_none}
use Rattle.vol_repair.proofs.told_lines.push_entries.Goals as goal
use Rattle.vol_repair.proofs.told_lines.push_entries.Goals.{then-not-is_same+else-len-most+in_ok-push, else-not-is_same}

pub loop-pair-preserved : goal.loop-pair-preserved
loop-pair-preserved c =
    let geometry = c.args.geometry.now in
    let old = c.args.old.now in
    let new = c.args.new.now in
    let d = c.args.d in
    let pair = c.in-Some.pair in
    let next = c.in-Some.ensures.next in
    let before = c.loop-pair.lines.items in
    let after = c.if-not-is_same.lines.items in
    let grows : Grows geometry old new d before after = elim c.if-not-is_same.branch [
      | then-not-is_same+else-len-most+in_ok-push w ↦ rw w.lines-is
          (grows_push geometry old new d before _ _ w.in_ok-push.ensures.items refl (next.was, next.is))
      | else-not-is_same w ↦ rw w.lines-is (grows_none geometry old new d before)
    ] in
    let here : TellsSlot geometry old new d pair.number after = elim c.if-not-is_same.branch [
      | then-not-is_same+else-len-most+in_ok-push w ↦ rw w.lines-is
          (tells_entry geometry old new d pair.number before _ pair.old pair.new w.in_ok-push.ensures.items)
      | else-not-is_same w ↦ inl (next.is ∙ (c.is_same.ensures w.if-not-is_same.false ∙ sym next.was))
    ] in
    record {
      low = omega (arith, next.low);
      grows = grows_more geometry old new d c.args.lines.now.items before after c.loop-pair.invariant.grows grows;
      told = λ s low. elim (cases_lt s c.loop-pair.from) [
        | inl below ↦ tells_grown geometry old new d s before after grows (c.loop-pair.invariant.told s below)
        | inr from ↦ elim (cases_eq s pair.number) [
          | inl same ↦ subst (λ t. TellsSlot geometry old new d t after) (sym same) here
          | inr other ↦ tells_none geometry old new d s after (next.before s from (omega (arith, low, other)))
        ]
      ];
      old_marks = c.in-Some.ensures.old_marks;
      new_marks = c.in-Some.ensures.new_marks;
    }

pub returns-clause-told : goal.returns-clause-told
returns-clause-told c = λ told s.
    let lines = c.loop-pair.lines.items in
    elim (cases_lt s c.loop-pair.from) [
      | inl below ↦ c.loop-pair.invariant.told s below
      | inr from ↦ tells_none c.args.geometry.now c.args.old.now c.args.new.now c.args.d s lines (c.in_default.ensures.next s from)
    ]
