use Rattle.std.proofs.Common.{◌≡◌, ℕ, ◌+◌, ◌-◌, [], ◌∷◌, ◌++◌, length, ◌∙◌, refl, sym, ap, subst, All, length-append, arith}
use Rattle.std.proofs.lemmas.List.Elements.{All-append, All-cons, All-nil}
use Rattle.vol_views.specs.Views.{book_in}
use Rattle.vol_shared.specs.Plays.{fresh, kept_part, given_part}
use Rattle.vol_shared.specs.Sessions.{Known, new_session}
use Rattle.vol_shared.proofs.Seats.{splits}
use Rattle.vol_shared.proofs.board.deal.Goals as goal

pub split_seat-part-requires : goal.split_seat-part-requires
split_seat-part-requires c =
    let lock = c.args.lock.now in
    let kept = c.loop-i.invariant in
    let one = c.requires.lock.words in
    let inside = c.loop-i-test.true in
    (kept.own, omega arith, splits lock.key c.loop-i.place.id c.loop-i.place.me.0 (c.args.sessions + 1 - c.loop-i._i) (omega arith) (ap (λ m. m.0) kept.place))

pub seat_one-requires-clause-place : goal.seat_one-requires-clause-place
seat_one-requires-clause-place c =
    (c.args.lock.now.key.stock, ap (λ m. m.0) c.split_seat-part.ensures.4 ∙ ap (λ m. given_part m.0) c.loop-i.invariant.place, c.requires.lock.counted, c.requires.book)

pub seat_one-requires-2-clause-place : goal.seat_one-requires-2-clause-place
seat_one-requires-2-clause-place c =
    let past = c.loop-i-test.false in
    let some = c.requires.some_sessions in
    let within = c.loop-i.auto._i-end some in
    let last : c.args.sessions + 1 - c.loop-i._i ≡ 1 = omega arith in (
      c.args.lock.now.key.stock,
      ap (λ m. m.0) c.loop-i.invariant.place ∙ ap (λ (n : ℕ). fresh n c.args.lock.now.key.stock) last,
      c.requires.lock.counted,
      c.requires.book,
    )

pub loop-i-preserved : goal.loop-i-preserved
loop-i-preserved c =
    let kept = c.loop-i.invariant in
    let reported = c.split_seat-part.ensures in
    let session = new_session (record { table = c.args.lock.now.table_id; book = c.args.lock.now.key.stock.book }) c.args.records in
    let inside = c.loop-i-test.true in
    let fewer : (c.args.sessions + 1 - c.loop-i._i) - 1 ≡ c.args.sessions + 1 - (c.loop-i._i + 1) = omega arith in
    let items : c.seat_one.new.all.items ≡ c.loop-i.all.items ++ session ∷ [] =
    c.seat_one.ensures.items
    ∙ (ap (λ id. c.loop-i.all.items ++ new_session (record { table = id; book = book_in c.args.reported.now }) c.args.records ∷ []) (reported.3 ∙ kept.own)
    ∙ ap (λ b. c.loop-i.all.items ++ new_session (record { table = c.args.lock.now.table_id; book = b }) c.args.records ∷ []) c.requires.book) in
    record {
      own = reported.0 ∙ kept.own;
      place = reported.2 ∙ (ap (λ m. (kept_part m.0, m.1)) kept.place ∙ ap (λ (n : ℕ). (fresh n c.args.lock.now.key.stock, [])) fewer);
      count = let e = ap length items in let a = length-append c.loop-i.all.items (session ∷ []) in let k = kept.count in omega arith;
      room = c.seat_one.ensures.capacity ∙ kept.room;
      fresh = subst (All (λ (s : Known). s ≡ session)) (sym items)
          (All-append (λ (s : Known). s ≡ session) c.loop-i.all.items (session ∷ []) kept.fresh
          (All-cons (λ (s : Known). s ≡ session) session [] refl (All-nil (λ (s : Known). s ≡ session))));
    }
