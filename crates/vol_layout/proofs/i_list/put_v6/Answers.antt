use Rattle.std.proofs.Common.{◌≡◌, ◌+◌, length, arith, ◌∙◌}
use Rattle.pdp_words.specs.Words.{SameOutside}
use Rattle.pdp_words.proofs.Below.{word_below, byte_below}
use Rattle.pdp_words.proofs.Outside.{join}
use Rattle.vol_layout.specs.declared.edition.Edition.TheVariants.{V6}
use Rattle.vol_layout.proofs.AddressLaws.{address_below}
use Rattle.vol_layout.proofs.StoredInodes.{inode_is_v6, addresses_are_v6, no_more_v6, unchanged_v6}
use Rattle.vol_layout.proofs.i_list.put_v6.Goals as goal

pub returns-clause-put : goal.returns-clause-put
returns-clause-put c =
    let at = c.args.at in
    let head = c.put_head_v6.ensures in
    let addresses = c.put_addresses.ensures in
    let times = c.put_times.ensures in
    let len : length c.args.node.now.addresses ≡ 13 = omega arith in
    let tail : SameOutside c.put_head_v6.new.image c.put_times.new.image (at + 8) (at + 32) =
    join addresses.others times.others (omega arith) (omega arith) (omega arith) (omega arith) in
    let place : at + 24 + 4 ≡ at + 28 = omega arith in
    inode_is_v6 c.put_times.new.image at (word_below tail at (omega arith) ∙ head.mode)
    (byte_below tail (at + 2) (omega arith) ∙ head.links) (byte_below tail (at + 3) (omega arith) ∙ head.uid)
    (byte_below tail (at + 4) (omega arith) ∙ head.gid)
    (omega (arith, byte_below tail (at + 5) (omega arith), word_below tail (at + 6) (omega arith), head.size))
    (addresses_are_v6 c.put_times.new.image at c.args.node.now.addresses len
    (λ k h. address_below V6 times.others at k (omega arith) ∙ addresses.put k h)
    (no_more_v6 c.requires.storable)) times.accessed (rw place at times.modified) (unchanged_v6 c.requires.storable)
