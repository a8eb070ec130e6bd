use Rattle.std.proofs.Common.{◌≡◌, ◌++◌, ◌-◌, ◌≤◌, codes, decimal, sym, ap, ◌∙◌, arith, append_assoc}
use Rattle.std.specs.Prelude.{slice_index}
use Rattle.std.specs.String.{string_bytes}
use Rattle.std.proofs.lemmas.List.{append-nil}
use Rattle.vol_layout.specs.BlockMaps.{place_to}
use Rattle.vol_inspect.specs.OwnerTexts.{pointers_text}
use Rattle.vol_inspect.proofs.Pointers.{cut_all, cut_way, pointers_more, pointers_none}
use Rattle.vol_inspect.proofs.owner_texts.push_pointers.Goals as goal

pub returns-then-level-way : goal.returns-then-level-way
unfolding pointers_text
returns-then-level-way c =
    let way = c.args.way.now in
    let text = string_bytes c.args.text.now in
    sym (ap (λ p. text ++ pointers_text p) (cut_all way.address way.entries way.depth c.args.level c.if-level-way.true) ∙ append-nil text)

pub loop-k-init : goal.loop-k-init
loop-k-init c =
    let way = c.args.way.now in
    c.in_ok-write.ensures.bytes ∙ ap (λ t. string_bytes c.args.text.now ++ t) (sym (pointers_none way.address way.entries))

pub loop-k-preserved : goal.loop-k-preserved
loop-k-preserved c =
    let way = c.args.way.now in
    let text = string_bytes c.args.text.now in
    let k = c.loop-k.k in
    let entry = codes "[" ++ (decimal (slice_index way.entries k) ++ codes "]") in
    c.in_ok-write-2.ensures.bytes
    ∙ (ap (λ t. t ++ entry) c.loop-k.invariant
    ∙ (append_assoc text (pointers_text (place_to way.address way.entries k)) entry
    ∙ ap (λ t. text ++ t) (sym (pointers_more way.address way.entries k))))

pub returns : goal.returns
returns c =
    let way = c.args.way.now in
    let text = string_bytes c.args.text.now in
    let few : c.args.level ≤ way.depth = omega (arith, c.if-level-way.false) in
    let end : c.loop-k.k ≡ way.depth - c.args.level = omega (arith, c.loop-k-test.false, c.loop-k.auto.k-end) in
    c.loop-k.invariant
    ∙ (ap (λ n. text ++ pointers_text (place_to way.address way.entries n)) end
    ∙ ap (λ p. text ++ pointers_text p) (sym (cut_way way.address way.entries way.depth c.args.level few)))
