use Rattle.std.proofs.Common.{◌∙◌, ap}
use Rattle.clap.specs.Words.{new_app}
use Rattle.command_line.proofs.Shapes.{shows_usage, starts}
use Rattle.command_line.proofs.builder.named.Goals as goal

pub returns-in-Some : goal.returns-in-Some
returns-in-Some c =
    shows_usage _ _ _ c.override_usage.ensures
    ∙ starts _ _ _ _ _ _ (c.new.ensures.app ∙ ap new_app c.name-name.ensures) c.about.ensures c.after_help-command.ensures

pub returns-in-None : goal.returns-in-None
returns-in-None c = starts _ _ _ _ _ _ (c.new.ensures.app ∙ ap new_app c.name-name.ensures) c.about.ensures c.after_help-command.ensures
