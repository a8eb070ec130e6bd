use Rattle.std.proofs.Common.{◌≡◌, ◌*◌, ◌++◌, ◌∙◌, length, take, drop, sym, subst, arith}
use Rattle.std.proofs.lemmas.List.{take-append-le, take_all}
use Rattle.vol_mkfs.specs.Blank.{IsMade, blank_in}
use Rattle.vol_mkfs.proofs.BlankVolumes.{blank_is}
use Rattle.vol_mkfs.proofs.BlankWrites.{gathered_volume}
use Rattle.vol_mkfs.proofs.blank.BlankVolume.to_bytes.Goals as goal

pub returns : goal.returns
returns c =
    let geometry = c.self.inside.geometry in
    let first = c.self.inside.first in
    let buffer = c.gather.new.buffer in
    let room = c.in_ok-bytes.bytes.len in
    let len : length buffer ≡ 512 * geometry.zone_end =
    omega (arith, c.gather.auto.buffer, c.deref_mut.ensures.len, c.in_ok-bytes.ensures.len) in
    let all : length buffer ≡ room = omega (arith, c.gather.auto.buffer, c.deref_mut.ensures.len) in
    let whole : take room (buffer ++ drop (length buffer) c.in_ok-bytes.bytes.items) ≡ buffer =
    take-append-le room buffer (drop (length buffer) c.in_ok-bytes.bytes.items) (omega arith) ∙ take_all room buffer (omega arith) in
    rw (← c.self.view_is)
    (subst (IsMade (blank_in geometry first)) (sym (whole ∙ gathered_volume geometry first buffer len c.gather.ensures))
    (blank_is geometry first c.self.invariant))
