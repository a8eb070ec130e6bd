-- The lines of pairs, one after the other.
use Rattle.std.proofs.Common.{◌≡◌, ◌∙◌, sym, ap, ℕ, ◌+◌, ◌<◌, List, ◌∷◌, ◌++◌, length, map, take, drop, get_or}
use Rattle.std.specs.List.{flat_map}
use Rattle.std.proofs.lemmas.Grind.{flat_map-append}
use Rattle.std.proofs.lemmas.List.{drop_more, map-append, take-append-drop}

-- the text of the first entries, of one more and of those after it is that of all
pub lines_around : {X Y : Type 0} (f : Y → List ℕ) (F : X → Y) (xs : List X) (k : ℕ) (x : X) → k < length xs → x ≡ get_or xs k x
    → flat_map f (map F xs) ≡ flat_map f (map F (take k xs)) ++ (f (F x) ++ flat_map f (map F (drop (k + 1) xs)))
lines_around f F xs k x low at =
    ap (λ ys. flat_map f (map F ys)) (sym (take-append-drop k xs) ∙ ap (λ ys. take k xs ++ ys) (drop_more xs k x low ∙ ap (λ y. y ∷ drop (k + 1) xs) (sym at)))
    ∙ (ap (flat_map f) (map-append F (take k xs) (x ∷ drop (k + 1) xs)) ∙ flat_map-append f (map F (take k xs)) (F x ∷ map F (drop (k + 1) xs)))
