use Rattle.std.proofs.Common.{◌∙◌, ap, arith}
use Rattle.std.specs.Path.{path_file_name}
use Rattle.command_words.proofs.FileWords.{names_more, names_stay, texts}
use Rattle.command_words.proofs.several.last_names.Goals.{in-Some+in_ok-push, in_default}
use Rattle.command_words.proofs.several.last_names.Goals as goal

pub loop-path-preserved : goal.loop-path-preserved
loop-path-preserved c = elim c.match-file_name.branch [
  | in-Some+in_ok-push w ↦
      rw w.names-is
      (ap texts w.in_ok-push.ensures.items
      ∙ names_more c.loop-path.names.items w.in-Some.name c.args.paths.now c.loop-path.path-index _ (omega arith) c.loop-path.invariant
      (w.in-Some.ensures ∙ ap path_file_name c.new.ensures))
  | in_default w ↦
      rw w.names-is
      (names_stay c.loop-path.names.items c.args.paths.now c.loop-path.path-index _ (omega arith) c.loop-path.invariant
      (w.in_default.ensures ∙ ap path_file_name c.new.ensures))
]
