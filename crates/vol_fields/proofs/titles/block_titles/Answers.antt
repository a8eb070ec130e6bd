use Rattle.std.proofs.Common.{◌≡◌, ◌++◌, ◌∷◌, [], ℕ, List, ap, sym, arith, ◌∙◌, length, map}
use Rattle.std.specs.List.{range_with_len}
use Rattle.std.specs.String.{string_bytes}
use Rattle.std.proofs.lemmas.List.{map-append}
use Rattle.std.proofs.lemmas.List.FromFn.{map-range_with_len_more}
use Rattle.vol_fields.specs.Tables.{role_at}
use Rattle.vol_fields.specs.Titles.{title_of, titles_of}
use Rattle.vol_fields.proofs.titles.block_titles.Goals as goal

pub loop-b-preserved : goal.loop-b-preserved
loop-b-preserved c =
    let b = c.loop-b.b in
    let table = c.args.roles.now in
    let titles : ℕ → List ℕ = λ b. title_of b (role_at table b) in
    let this : string_bytes c.in_ok-title.title ≡ titles b = c.in_ok-title.ensures ∙ ap (title_of b) c.role_at.ensures in
    ap (map string_bytes) c.in_ok-push.ensures.items
    ∙ (map-append string_bytes c.loop-b.titles.items (c.in_ok-title.title ∷ [])
    ∙ (ap (λ xs. xs ++ string_bytes c.in_ok-title.title ∷ []) c.loop-b.invariant
    ∙ (ap (λ x. map titles (range_with_len 0 b) ++ x ∷ []) this
    ∙ sym (map-range_with_len_more titles 0 b b (omega arith)))))

pub returns : goal.returns
unfolding titles_of
returns c =
    let table = c.args.roles.now in
    let end : c.loop-b.b ≡ length table = omega arith in
    c.loop-b.invariant ∙ ap (λ n. map (λ b. title_of b (role_at table b)) (range_with_len 0 n)) end
