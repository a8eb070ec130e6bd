use Rattle.std.proofs.Common.{◌≡◌, ◌==◌, ℕ, List, ap}
use Rattle.std.specs.Prelude.{◌&&◌}
use Rattle.std.specs.Bool.{Decides}
use Rattle.std.specs.Cmp.Lexicographic.{pointwise}
use Rattle.std.proofs.lemmas.Bool.Decides.{Decides-like, Decides-and, Decides-eqb}
use Rattle.std.proofs.lemmas.Slice.Eq.{slice_eq-Decides, bytes_eq-Decides}
use Rattle.vol_receipts.proofs.agree.is_same_listing.Goals as goal

-- comparing a name and its number decides whether two entries are equal
named_decides : (p q : List ℕ × ℕ) → Decides (pointwise ◌==◌ p.0 q.0 && (p.1 == q.1)) (p ≡ q)
named_decides p q =
    Decides-like _ (λ both. (λ j. (both.0 j, both.1 j))) (λ same. (ap (λ x. x.0) same, ap (λ x. x.1) same))
    (Decides-and _ _ (bytes_eq-Decides p.0 q.0) (Decides-eqb p.1 q.1))

pub returns : goal.returns
returns c = slice_eq-Decides named_decides c.args.one.now c.args.other.now c.eq.result c.eq.ensures
