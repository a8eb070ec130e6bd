use Rattle.std.proofs.Common.{◌≡◌, Bool, true, false, true≢false, List, ℕ, refl, sym, ap, subst}
use Rattle.std.specs.Str.{IsUtf8, is_utf8}
use Rattle.std.proofs.lemmas.Str.{IsUtf8-from_is_utf8, IsUtf8-string_bytes, is_utf8-from_IsUtf8}
use Rattle.command_copies.proofs.nodes.text_of.Goals as goal

-- bytes that aren't UTF-8 fail the test
untext : (bytes : List ℕ) (is : Bool) → is_utf8 bytes ≡ is → (IsUtf8 bytes → ⊥) → false ≡ is
untext bytes true is none = absurd (none (IsUtf8-from_is_utf8 bytes is))
untext bytes false is none = refl

pub returns-in-Ok-clause-utf8 : goal.returns-in-Ok-clause-utf8
returns-in-Ok-clause-utf8 c =
    sym (is_utf8-from_IsUtf8 c.args.bytes.items (subst IsUtf8 (ap (λ v. v.items) c.in-Ok.ensures.ok) (IsUtf8-string_bytes c.in-Ok.text)))

pub returns-clause-utf8 : goal.returns-clause-utf8
returns-clause-utf8 c = untext c.args.bytes.items (is_utf8 c.args.bytes.items) refl (λ is. true≢false (sym (c.in-Err.ensures.succeeds is)))
