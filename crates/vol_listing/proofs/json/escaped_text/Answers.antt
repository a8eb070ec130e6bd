use Rattle.std.proofs.Common.{◌++◌, ap, sym, subst, ◌∙◌, arith}
use Rattle.std.proofs.lemmas.Bool.{false≢true}
use Rattle.std.specs.Str.{IsUtf8}
use Rattle.escaped_text.specs.Escape.{escaped}
use Rattle.vol_listing.proofs.ListingValues.{escaped_utf8}
use Rattle.vol_listing.proofs.json.escaped_text.Goals as goal

pub unreachable-requires : goal.unreachable-requires
unreachable-requires c =
    false≢true (c.in-Err.ensures.succeeds
    (subst IsUtf8 (sym (c.in_ok-push_escaped.ensures ∙ ap (λ text. text ++ escaped c.args.bytes.now) c.new-text.ensures.items))
    (escaped_utf8 c.args.bytes.now (λ i. omega (arith, c.type_inv.bytes i)))))
