use Rattle.std.proofs.Common.{◌≡◌, ◌++◌, ◌∷◌, [], ◌∙◌, sym, rules}
use Rattle.vol_volume.proofs.AcceptedCalls.{counted, fields_kept}
use Rattle.vol_volume.proofs.volume.accept.Goals as goal

pub make-requires-clause-count : goal.make-requires-clause-count
make-requires-clause-count c = c.requires.kept.2 ∙ sym (counted c.args.parts.now.geometry c.args.parts.now.current)

pub returns-clause-kept : goal.returns-clause-kept
returns-clause-kept c =
    let old = c.args.parts.now in
    let performed = c.in-Ok.performed in
    let appended : c.push.new.self.items ≡ c.args.parts.now.records.items ++ record { call = c.args.call; done = c.in-Ok.performed.done } ∷ [] = search rules in
    fields_kept old.geometry old.current c.make.new.image old.base.items old.records.items c.push.new.self.items old.first c.args.call performed.done performed.free
    c.requires.kept.0 (sym c.in-Ok.ensures.refusal) c.in-Ok.ensures.performed appended c.requires.kept.1
