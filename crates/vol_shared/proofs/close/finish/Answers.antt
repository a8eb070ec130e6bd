use Rattle.std.proofs.Common.{◌≡◌, ◌∙◌, sym, ap, subst, Some, refl}
use Rattle.std.specs.Option.{IsSome}
use Rattle.std.specs.Slots.{slots_items}
use Rattle.vol_shared.proofs.Seats.{taken_at_end}
use Rattle.vol_shared.specs.Close.{IsSettled}
use Rattle.vol_shared.specs.Stored.{Stored}
use Rattle.vol_shared.proofs.close.finish.Goals as goal
use Rattle.vol_shared.proofs.close.finish.Goals.{After-free}

-- the slot contains the last volume, which satisfies `IsSettled`
at_end : (c : After-free) → (last : Stored) × (c.take-slot.result ≡ Some last) × IsSettled c.args.board.shared.key.stock c.args.place.me.0 last
    × (last.book ≡ c.args.board.shared.key.stock.book)
at_end c =
    let closed = c.close_with-closed.result in
    taken_at_end c.args.board.shared.key c.args.place.id c.args.place.me.0 (slots_items closed.words) (slots_items closed.slots) c.take-slot.result
    c.requires.parts c.requires.free c.close_with-closed.ensures.values.2 c.take-slot.ensures.value

pub unwrap-requires : goal.unwrap-requires
unwrap-requires c = subst IsSome (sym (at_end c).1) refl

pub returns : goal.returns
returns c =
    let e = at_end (goal.at.returns c).After-free in
    let same = stored (sym e.1 ∙ c.unwrap.ensures) in
    record {
      settled = subst (IsSettled c.args.board.shared.key.stock c.args.place.me.0) same e.2;
      book = ap (λ (s : Stored). s.book) (sym same) ∙ e.3;
    }
  where
    stored : {a b : Stored} → Some a ≡ Some b → a ≡ b
    stored e = cc
