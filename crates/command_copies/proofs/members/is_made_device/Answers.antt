use Rattle.std.proofs.Common.{◌≡◌, ◌∙◌, ◌==◌, ◌&&◌, ◌≤◌, Bool, true, ap, drop, length, nat_lt, rules, slice_index, sym}
use Rattle.std.specs.List.{list_all}
use Rattle.std.proofs.lemmas.List.{take_all}
use Rattle.command_copies.specs.Members.{is_device_type}
use Rattle.command_copies.proofs.members.is_made_device.Goals as goal

-- all addresses but the first are those from the second to the last
pub returns-then-is_number : goal.returns-then-is_number
returns-then-is_number c =
    let others = drop 1 c.args.node.now.addresses in
    let all = list_all (λ address. address == 0) others in
    let type : is_device_type c.args.edition c.args.node.now.mode.bits ≡ true = search rules in
    let number : nat_lt (slice_index c.args.node.now.addresses 0) 65536 ≡ true = search rules in
    let short : length others ≤ 12 = search rules in
    let rest : c.are_zero.result ≡ all = c.are_zero.ensures ∙ ap (list_all (λ address. address == 0)) (take_all 12 others short) in
    rest ∙ sym (ap (λ (b : Bool). b && (nat_lt (slice_index c.args.node.now.addresses 0) 65536 && all)) type ∙ ap (λ (b : Bool). b && all) number)
