use Rattle.std.proofs.Common.{◌++◌, ◌∙◌, ap}
use Rattle.pack_lists.proofs.Lemmas.{line_put}
use Rattle.pack_lists.proofs.texts.push_line.Goals as goal

pub returns : goal.returns
returns c =
    line_put c.args.text.now.items c.args.name.now _ _ _ c.args.words.now
    (c.in_ok-extend_from_slice.ensures.items ∙ ap (λ xs. c.args.text.now.items ++ xs) c.as_bytes.ensures.value) c.in_ok-push_words.ensures c.in_ok-push.ensures.items
