use Rattle.std.proofs.Common.{◌≡◌, ◌+◌, ◌++◌, ap, ◌∙◌, arith, get_or, length, refl}
use Rattle.std.specs.List.{flat_map, range_with_len}
use Rattle.std.specs.String.{string_bytes}
use Rattle.vol_reports.proofs.Ranges.{appended_more}
use Rattle.vol_inspect.specs.Texts.{array_item, array_text}
use Rattle.vol_inspect.proofs.texts.push_words.Goals as goal

pub loop-k-preserved : goal.loop-k-preserved
loop-k-preserved c =
    appended_more (λ k. array_item c.args.name.now (get_or c.args.numbers.now k 0) k) (string_bytes c.args.text.now)
    (string_bytes c.loop-k.text) (string_bytes c.push_item.new.text) 0 c.loop-k.k (c.loop-k.k + 1) c.loop-k.k refl (omega arith) c.loop-k.invariant
    (c.in_ok-push_item.ensures ∙ ap (λ n. string_bytes c.loop-k.text ++ array_item c.args.name.now n c.loop-k.k) c.from-number.ensures)

pub returns : goal.returns
unfolding array_text
returns c =
    let end : c.loop-k.k ≡ length c.args.numbers.now = omega arith in
    c.loop-k.invariant
    ∙ ap (λ n. string_bytes c.args.text.now ++ flat_map (λ k. array_item c.args.name.now (get_or c.args.numbers.now k 0) k) (range_with_len 0 n)) end
