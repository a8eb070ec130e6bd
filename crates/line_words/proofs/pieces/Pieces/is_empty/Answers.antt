use Rattle.std.proofs.Common.{◌∙◌, sym, ◌≡◌, is_none, arith}
use Rattle.line_words.proofs.PieceLemmas.{no_piece, some_piece}
use Rattle.line_words.proofs.pieces.Pieces.is_empty.Goals as goal

pub returns : goal.returns
returns c =
    let same : c.is_none.result ≡ is_none c.self.inside.rest = grind arith in (
      λ is. sym c.self.view_is ∙ no_piece c.self.inside.separator c.self.inside.rest (sym same ∙ is),
      λ is. same ∙ some_piece c.self.inside.separator c.self.inside.rest (c.self.view_is ∙ is),
    )
