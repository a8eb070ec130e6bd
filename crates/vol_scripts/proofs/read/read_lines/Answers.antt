use Rattle.std.proofs.Common.{◌≡◌, ◌==◌, ◌+◌, ◌∙◌, [], true≢false, arith, length, Ok, sym, ap}
use Rattle.std.specs.List.{slice_split}
use Rattle.vol_scripts.specs.Scripts.{asked_from, asked_in}
use Rattle.vol_scripts.proofs.ReadingLemmas.{after, after_nothing, ends, goes_on, pushed}
use Rattle.vol_scripts.proofs.read.read_lines.Goals as goal

pub lines-init : goal.lines-init
lines-init g c =
    let written = g.A.FromLine.written in
    let same : c.args.first ≡ 0 + c.args.first = omega arith in
    rw (c.new-asked.ensures.items, c.of-lines.ensures)
    (after_nothing written c.args.command (asked_in written c.args.command c.args.first c.args.text.now)
    ∙ ap (λ n. after [] (asked_from written c.args.command n (slice_split (λ b. b == 10) c.args.text.now))) same)

pub lines-preserved : goal.lines-preserved
lines-preserved g c =
    let written = g.A.FromLine.written in
    let front = c.lines.asked.items in
    let lines = c.take_next.new.self in
    c.lines.invariant ∙ ap (λ ls. after front (asked_from written c.args.command (length front + c.args.first) ls)) c.in-Some.ensures
    ∙ goes_on written c.args.command front (length front + c.args.first) c.in-Some.line.now lines c.in-Ok.item (λ none. absurd (true≢false (sym (c.is_empty.ensures.1 none) ∙ c.if-is_empty.false)))
    c.in-Ok.ensures
    ∙ pushed written c.args.command c.args.first front c.push_item.new.items.items c.in-Ok.item lines c.in_ok-push_item-in-Ok.ensures.pushed

pub returns : goal.returns
returns g c =
    let written = g.A.FromLine.written in
    let front = c.lines.asked.items in
    c.lines.invariant ∙ ap (λ ls. after front (asked_from written c.args.command (length front + c.args.first) ls)) c.in_default.ensures.0
    ∙ ends written c.args.command front (length front + c.args.first) ∙ ap Ok (sym c.from_vec-2.ensures)
