use Rattle.std.proofs.Common.{◌∙◌, ap, sym, length, inl, inr}
use Rattle.vol_layout.specs.BlockMaps.{has_places}
use Rattle.vol_file.proofs.Truncated.{past_all, names_none}
use Rattle.vol_change.proofs.FreeCounts.{count_number, count_none_bare}
use Rattle.vol_change.proofs.FreedNodes.{truncated_list, truncated_whole, truncated_only}
use Rattle.vol_change.proofs.OneNode.{alone_inode}
use Rattle.vol_change.proofs.UnusedBytes.{kept_unused}
use Rattle.vol_change.proofs.free.free_blocks.Goals as goal

pub returns-in-Regular-clause-rules : goal.returns-in-Regular-clause-rules
returns-in-Regular-clause-rules c =
    truncated_whole c.args.geometry.now c.args.image.now c.truncate.new.image c.args.i c.requires.rules c.truncate.ensures.truncated

pub returns-in-Regular-clause-only : goal.returns-in-Regular-clause-only
returns-in-Regular-clause-only c =
    truncated_only c.args.geometry.now c.args.image.now c.truncate.new.image c.args.i c.requires.rules c.requires.first c.truncate.ensures.truncated

pub returns-in-Regular-clause-others : goal.returns-in-Regular-clause-others
returns-in-Regular-clause-others c = λ j first last other.
    kept_unused c.args.geometry.now c.args.image.now c.truncate.new.image j
    (alone_inode c.args.geometry.now c.args.image.now c.truncate.new.image c.args.i j c.requires.rules.sound.fits
    (c.truncate.ensures.truncated c.requires.rules.blocks c.requires.rules.sound).alone c.requires.first first last other)

pub returns-in-Regular-clause-free : goal.returns-in-Regular-clause-free
returns-in-Regular-clause-free c =
    truncated_list c.args.geometry.now c.args.image.now c.truncate.new.image c.args.i c.requires.rules
    (elim c.in-Regular.is [
      | inl e ↦ ap has_places (sym c.kind.ensures ∙ e)
      | inr e ↦ ap has_places (sym c.kind.ensures ∙ e)
    ]) c.truncate.ensures.truncated

pub returns-in-Regular-clause-count : goal.returns-in-Regular-clause-count
returns-in-Regular-clause-count c =
    c.truncate.ensures.count ∙ ap length (past_all c.args.geometry.now c.args.image.now c.args.i) ∙ sym (count_number c.args.geometry.now c.args.image.now c.args.i c.requires.first c.requires.last)

pub returns-in-Regular-clause-none : goal.returns-in-Regular-clause-none
returns-in-Regular-clause-none c = λ p place.
    names_none c.args.geometry.now c.args.image.now c.truncate.new.image c.args.i p c.requires.rules.blocks
    (c.truncate.ensures.truncated c.requires.rules.blocks c.requires.rules.sound) place

pub returns-in-Free-clause-count : goal.returns-in-Free-clause-count
returns-in-Free-clause-count c =
    sym (count_none_bare c.args.geometry.now c.args.image.now c.args.i c.requires.first c.requires.last
    (elim c.in-Free.is [
      | inl e ↦ ap has_places (sym c.kind.ensures ∙ e)
      | inr (inl e) ↦ ap has_places (sym c.kind.ensures ∙ e)
      | inr (inr e) ↦ ap has_places (sym c.kind.ensures ∙ e)
    ]))
