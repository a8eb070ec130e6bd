use Rattle.std.proofs.Common.{◌≡◌, ◌+◌, length, arith, ap, Some, ◌∙◌}
use Rattle.pdp_words.specs.Words.{SameOutside}
use Rattle.pdp_words.proofs.Below.{word_below, long_below}
use Rattle.pdp_words.proofs.Outside.{join}
use Rattle.vol_layout.specs.declared.edition.Edition.TheVariants.{V7}
use Rattle.vol_layout.proofs.AddressLaws.{address_below}
use Rattle.vol_layout.proofs.StoredInodes.{inode_is_v7, addresses_are_v7, changed_v7}
use Rattle.vol_layout.proofs.i_list.put_v7.Goals as goal

pub returns-clause-put : goal.returns-clause-put
returns-clause-put c =
    let at = c.args.at in
    let head = c.put_head_v7.ensures in
    let addresses = c.put_addresses.ensures in
    let times = c.put_times.ensures in
    let changed = c.put_long.ensures in
    let len : length c.args.node.now.addresses ≡ 13 = omega arith in
    let late : SameOutside c.put_addresses.new.image c.put_long.new.self (at + 52) (at + 64) =
    join times.others changed.others (omega arith) (omega arith) (omega arith) (omega arith) in
    let tail : SameOutside c.put_head_v7.new.image c.put_long.new.self (at + 12) (at + 64) =
    join addresses.others late (omega arith) (omega arith) (omega arith) (omega arith) in
    let place : at + 52 + 4 ≡ at + 56 = omega arith in
    let last : at + 52 + 8 ≡ at + 60 = omega arith in
    inode_is_v7 c.put_long.new.self at (word_below tail at (omega arith) ∙ head.mode)
    (word_below tail (at + 2) (omega arith) ∙ head.links) (word_below tail (at + 4) (omega arith) ∙ head.uid)
    (word_below tail (at + 6) (omega arith) ∙ head.gid) (long_below tail (at + 8) (omega arith) ∙ head.size)
    (addresses_are_v7 c.put_long.new.self at c.args.node.now.addresses len
    (λ k h. address_below V7 late at k (omega arith) ∙ addresses.put k h))
    (long_below changed.others (at + 52) (omega arith) ∙ times.accessed)
    (long_below changed.others (at + 56) (omega arith) ∙ (rw place at times.modified))
    (ap Some (rw last at changed.put ∙ c.unwrap_or.ensures) ∙ changed_v7 c.requires.storable)
