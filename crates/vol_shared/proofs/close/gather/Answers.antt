use Rattle.std.proofs.Common.{◌≡◌, ℕ, ◌+◌, List, [], ◌∷◌, ◌++◌, length, ◌∙◌, sym, ap, subst, All, append-nil, length-append, arith}
use Rattle.std.specs.List.{flat_map}
use Rattle.vol_shared.specs.Sessions.{Known}
use Rattle.vol_shared.proofs.Lists.{all_last, all_prefix}
use Rattle.vol_shared.proofs.Seats.{joins, last_joins}
use Rattle.vol_shared.proofs.close.gather.Goals as goal

pub join_seat-requires : goal.join_seat-requires
join_seat-requires c =
    let lock = c.args.lock.now in
    let kept = c.loop-session.invariant in
    let other = c.seat_of-other in
    let one = c.requires.words in
    let mine = all_last (λ (s : Known). s.of.table ≡ lock.table_id) c.pop.new.self.items c.in-Some.session
    (subst (All (λ (s : Known). s.of.table ≡ lock.table_id)) c.in-Some.ensures.items kept.others) in (
      kept.own,
      other.ensures.own ∙ mine,
      other.ensures.free,
      omega arith,
      joins lock.key c.loop-session.place.id c.loop-session.place.me.0 other.result.0.id other.result.0.me.0 kept.some_sessions kept.idle other.ensures.gathered.free,
    )

pub loop-session-preserved : goal.loop-session-preserved
loop-session-preserved c =
    let kept = c.loop-session.invariant in
    let made-one = c.join_seat.ensures.2 in
    let other = c.seat_of-other.ensures in
    let got = other.gathered in
    let xs = c.pop.new.self.items in
    let s = c.in-Some.session in
    let items = c.in-Some.ensures.items in
    let v = c.loop-session.place.me.0 in
    let other-v = c.seat_of-other.result.0.me.0 in
    let parts : c.join_seat.new.seat.me.0.parts ≡ v.parts + other-v.parts = ap (λ m. m.0.parts) made-one in
    let counted : length c.join_seat.new.seat.me.0.places ≡ length other-v.places + length v.places =
    ap (λ m. length m.0.places) made-one ∙ length-append other-v.places v.places in
    let fits = c.seat_of-other.type_inv in
    let places = ap (λ m. m.0.places) made-one ∙ ap (λ (l : List ℕ). l ++ c.loop-session.place.me.0.places) (got.places ∙ append-nil s.places) in
    let cuts = ap (λ m. m.0.cuts) made-one ∙ ap (λ (l : List ℕ). l ++ c.loop-session.place.me.0.cuts) (got.cuts ∙ append-nil s.cuts) in
    let receipts = ap (λ m. m.0.receipts) made-one ∙ ap (λ l. l ++ c.loop-session.place.me.0.receipts) (got.receipts ∙ append-nil s.receipts) in
    let w = got.parts in
    let p = kept.parts in
    let m = kept.some_sessions in
    let n = kept.small in
    let t = kept.count in
    let k = other.count in
    let from = c.from-total-in-Some.ensures in
    let many : length c.loop-session.sessions.items ≡ length xs + 1 = ap length items ∙ length-append xs (s ∷ []) in
    record {
      own = c.join_seat.ensures.0 ∙ kept.own;
      free = ap (λ m. m.1) made-one ∙ kept.free;
      idle = ap (λ m. m.0.holds) made-one;
      some_sessions = omega arith;
      parts = omega arith;
      places = ap (λ l. flat_map (λ (x : Known). x.places) xs ++ l) places
          ∙ last_joins (λ (x : Known). x.places) xs s c.loop-session.place.me.0.places (flat_map (λ (x : Known). x.places) c.args.sessions.items)
          (ap (λ l. flat_map (λ (x : Known). x.places) l ++ c.loop-session.place.me.0.places) (sym items) ∙ kept.places);
      cuts = ap (λ l. flat_map (λ (x : Known). x.cuts) xs ++ l) cuts
          ∙ last_joins (λ (x : Known). x.cuts) xs s c.loop-session.place.me.0.cuts (flat_map (λ (x : Known). x.cuts) c.args.sessions.items)
          (ap (λ l. flat_map (λ (x : Known). x.cuts) l ++ c.loop-session.place.me.0.cuts) (sym items) ∙ kept.cuts);
      receipts = ap (λ l. flat_map (λ (x : Known). x.receipts) xs ++ l) receipts
          ∙ last_joins (λ (x : Known). x.receipts) xs s c.loop-session.place.me.0.receipts (flat_map (λ (x : Known). x.receipts) c.args.sessions.items)
          (ap (λ l. flat_map (λ (x : Known). x.receipts) l ++ c.loop-session.place.me.0.receipts) (sym items) ∙ kept.receipts);
      count = omega arith;
      small = omega arith;
      others = all_prefix (λ (x : Known). x.of.table ≡ c.args.lock.now.table_id) xs (s ∷ [])
          (subst (All (λ (x : Known). x.of.table ≡ c.args.lock.now.table_id)) items kept.others);
    }
