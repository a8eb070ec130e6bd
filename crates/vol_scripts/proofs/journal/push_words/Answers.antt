use Rattle.std.proofs.Common.{◌≡◌, ◌∙◌, ◌++◌, List, ℕ, ap}
use Rattle.vol_volume.specs.Perform.{caller_of, path_of}
use Rattle.vol_volume.specs.declared.calls.Caller.{Caller}
use Rattle.vol_scripts.specs.Grammar.{command_word}
use Rattle.vol_scripts.specs.Journal.{command_of, words_after, words_before}
use Rattle.vol_scripts.specs.declared.commands.Command.{Command}
use Rattle.vol_scripts.proofs.TextLemmas.{call_pieces}
use Rattle.vol_scripts.proofs.journal.push_words.Goals as goal

pub returns : goal.returns
returns c =
    let call = c.args.call.now in
    let now = (caller_of call).moment in
    let cred = (caller_of call).cred in
    let word : c.name.result.now ≡ command_word (command_of call) = c.name.ensures ∙ ap (λ (k : Command). command_word k) c.command_of.ensures in
    let before : c.as_bytes.result.now ≡ words_before now cred (command_word (command_of call)) =
    c.as_bytes.ensures.value ∙ c.in_ok-before.ensures ∙ ap (λ (k : Caller). words_before k.moment k.cred c.name.result.now) c.caller-caller.ensures
    ∙ ap (words_before now cred) word
    in
    call_pieces c.args.text.now.items c.extend_from_slice.new.self.items c.extend_from_slice-2.new.self.items c.extend_from_slice-3.new.self.items
    (words_before now cred (command_word (command_of call))) (path_of call) (words_after call)
    (c.in_ok-extend_from_slice.ensures.items ∙ ap (λ (bytes : List ℕ). c.args.text.now.items ++ bytes) before)
    (c.in_ok-extend_from_slice-2.ensures.items ∙ ap (λ (bytes : List ℕ). c.extend_from_slice.new.self.items ++ bytes) c.path.ensures)
    (c.in_ok-extend_from_slice-3.ensures.items ∙ ap (λ (bytes : List ℕ). c.extend_from_slice-2.new.self.items ++ bytes) (c.deref.ensures.value ∙ c.in_ok-after.ensures))
