use Rattle.std.proofs.Common.{◌∙◌, ◌==◌, ap, sym}
use Rattle.line_words.specs.Pieces.{pieces_left}
use Rattle.line_words.proofs.PieceLemmas.{piece_at, piece_alone}
use Rattle.line_words.proofs.pieces.Pieces.take_next.Goals as goal

pub returns : goal.returns
returns c =
    sym c.self.view_is ∙ ap (pieces_left c.self.inside.separator) c.in_ok-rest.was
    ∙ piece_at (λ b. b == c.self.inside.separator) c.in_ok-rest.rest.now c.in-Some.end (sym c.first_of.ensures ∙ c.in-Some.is)

pub returns-in_default : goal.returns-in_default
returns-in_default c =
    sym c.self.view_is ∙ ap (pieces_left c.self.inside.separator) c.in_ok-rest.was
    ∙ piece_alone (λ b. b == c.self.inside.separator) c.in_ok-rest.rest.now (sym c.first_of.ensures ∙ c.in_default.is)
