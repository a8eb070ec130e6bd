use Rattle.std.proofs.Common.{◌+◌, ◌∙◌, sym, refl, subst}
use Rattle.vol_repair.specs.Lines.{is_about, IsTold}
use Rattle.vol_repair.specs.Told.{Grows}
use Rattle.vol_repair.proofs.Telling.{step_kept, step_changed, grows_push, grows_more, told_grown, told_last, links_grown}
use Rattle.vol_repair.proofs.told_lines.push_next.Goals as goal

pub returns-then-is_kept-clause-told : goal.returns-then-is_kept-clause-told
returns-then-is_kept-clause-told c = λ told.
    step_kept c.args.geometry.now c.args.old.now c.args.new.now c.args.before (c.args.before + 1) c.args.lines.now.items c.push_links.new.lines.items refl
    c.requires.start c.in_ok-push_links.ensures.grows c.in_ok-push_links.ensures.told c.in_ok-push_links.ensures.quiet (c.is_kept.ensures c.if-is_kept.true)

pub returns-clause-told : goal.returns-clause-told
returns-clause-told c = λ told.
    let geometry = c.args.geometry.now in
    let old = c.args.old.now in
    let new = c.args.new.now in
    let i = c.args.before + 1 in
    let start = c.args.lines.now.items in
    let linked = c.push_links.new.lines.items in
    let noted = c.push.new.self.items in
    let done = c.push_entries.new.lines.items in
    let pushed : Grows geometry old new i linked noted =
    grows_push geometry old new i linked noted c.node_line.result c.in_ok-push.ensures.items c.node_line.ensures.subject c.node_line.ensures.right in
    let rest : Grows geometry old new i linked done = grows_more geometry old new i linked noted done pushed c.in_ok-told.ensures.grows in
    step_changed geometry old new c.args.before i start done refl c.requires.start
    (grows_more geometry old new i start linked done c.in_ok-push_links.ensures.grows rest)
    (links_grown geometry old new i linked done rest c.in_ok-push_links.ensures.told)
    (told_grown geometry old new i noted done (is_about i) c.in_ok-told.ensures.grows
    (subst (IsTold (is_about i)) (sym c.in_ok-push.ensures.items) (told_last (is_about i) linked c.node_line.result c.node_line.ensures.about)))
    (c.in_ok-told.ensures.told told)
    (c.requires.unfit i (sym c.is_marked.ensures ∙ c.if-not-is_marked.false))
