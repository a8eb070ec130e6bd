use Rattle.std.proofs.Common.{length}
use Rattle.std.proofs.lemmas.List.Elements.{All-append, All-same}
use Rattle.vol_fields.specs.Differences.{IsShared}
use Rattle.vol_fields.proofs.differences.list_differences.Goals as goal

pub returns-clause-shared : goal.returns-clause-shared
returns-clause-shared c =
    let len = length c.args.new.now.image.now in
    let other = length c.args.old.now.image.now in
    All-same (IsShared len other) _ _ c.in_ok-append-2.ensures.items
    (All-append (IsShared len other) _ _
    (All-same (IsShared len other) _ _ c.in_ok-append.ensures.items
    (All-append (IsShared len other) _ _ (c.in_ok-found.ensures.shared len other) (c.in_ok-blocks.ensures.shared len other))) c.in_ok-fields.ensures.shared)
