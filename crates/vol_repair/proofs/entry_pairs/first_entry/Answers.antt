use Rattle.vol_judge.proofs.Decisions.{holds, fails}
use Rattle.vol_repair.proofs.Pairing.{first_found, none_found}
use Rattle.vol_repair.proofs.entry_pairs.first_entry.Goals as goal

pub returns-then-not-is_directory-clause-next : goal.returns-then-not-is_directory-clause-next
returns-then-not-is_directory-clause-next c = λ t low.
    none_found c.args.geometry.now c.args.image.now c.args.d
    (λ kind. fails c.is_directory.result c.is_directory.ensures c.if-not-is_directory.true
    (record { first = c.requires.first; last = c.requires.last; kind = kind })) t

pub returns-clause-next : goal.returns-clause-next
returns-clause-next c =
    first_found c.args.geometry.now c.args.image.now c.args.d c.args.from c.next_entry_marked.result
    (holds c.is_directory.result c.is_directory.ensures c.if-not-is_directory.false).kind c.next_entry_marked.ensures.next
