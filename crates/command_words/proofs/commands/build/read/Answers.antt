-- If the words name neither a list to build nor one to write, the words of `build` mean nothing.
use Rattle.std.proofs.Common.{◌∙◌, inl, inr, sym}
use Rattle.command_words.proofs.Builds.{no_list, no_volume, not_alone}
use Rattle.command_words.proofs.Faults.{hands_on}
use Rattle.command_words.proofs.commands.build.read.Goals as goal

pub returns-in_err-volume-clause-refused : goal.returns-in_err-volume-clause-refused
returns-in_err-volume-clause-refused g c =
    hands_on _ _ _ _ c.from_residual.ensures.1 c.in_err-volume.ensures.refused
    (no_volume c.args._clock (g.G.Given.words c.args.given.now) (sym c.flag_in.ensures ∙ c.if-flag_in.true))

pub returns-in_err-list_in-clause-refused : goal.returns-in_err-list_in-clause-refused
returns-in_err-list_in-clause-refused g c =
    hands_on _ _ _ _ c.from_residual-in_err-list_in.ensures.1 c.in_err-list_in.ensures.refused
    (no_list c.args._clock (g.G.Given.words c.args.given.now) (sym c.flag_in.ensures ∙ c.if-flag_in.true))

pub returns-in_err-no_more-clause-refused : goal.returns-in_err-no_more-clause-refused
returns-in_err-no_more-clause-refused g c =
    hands_on _ _ _ _ c.from_residual-in_err-no_more.ensures.1 c.in_err-no_more.ensures.refused
    (λ more. not_alone c.args._clock (g.G.Given.words c.args.given.now) (sym c.flag_in.ensures ∙ c.if-flag_in.false) (inl more))

pub returns-in_err-left_out-clause-refused : goal.returns-in_err-left_out-clause-refused
returns-in_err-left_out-clause-refused g c =
    hands_on _ _ _ _ c.from_residual-in_err-left_out.ensures.1 c.in_err-left_out.ensures.refused
    (λ at. not_alone c.args._clock (g.G.Given.words c.args.given.now) (sym c.flag_in.ensures ∙ c.if-flag_in.false) (inr at))
