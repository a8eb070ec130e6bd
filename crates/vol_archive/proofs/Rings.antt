-- In a tree no directory is below itself, and each has only one name.
use Rattle.std.proofs.Common.{◌≡◌, ℕ, true, false, cond, List, [], ◌∷◌, map, None, Some, refl, ap, sym, subst, ◌∙◌}
use Rattle.std.specs.Prelude.{Option}
use Rattle.std.specs.Cmp.Lexicographic.{slice_cmp}
use Rattle.std.specs.Option.{option_map_or}
use Rattle.std.specs.FinMap.Entries.{find-put}
use Rattle.std.specs.Ordering.{nat_cmp, eq_by_cmp}
use Rattle.std.proofs.lemmas.Cmp.{nat_list_cmp_total}
use Rattle.std.proofs.lemmas.Map.Text.{is_eq-slice_cmp}
use Rattle.vol_file.proofs.PlaceLists.{same_bytes}
use Rattle.vol_layout.specs.declared.geometry.Geometry.{Geometry}
use Rattle.vol_dir.specs.Entries.{entry_at, slots, IsDirectory, HasEntry}
use Rattle.vol_dir.specs.Names.{get, names_of, is_dots}
use Rattle.vol_judge.specs.Directories.{Enters, IsReached, at_root, below as one_below, IsTree}

-- a name of directory `d`, other than `.` and `..`, is for i-number `i`
pub record IsNameOf (g : Geometry) (image : List ℕ) (d : ℕ) (name : List ℕ) (i : ℕ) : Type 0 where
  pub directory : IsDirectory g image d
  pub found : get (names_of (slots g image d)) name ≡ Some i
  pub proper : is_dots name ≡ false

-- if a map made from slots has a name, a slot has it
slot_of : (f : ℕ → Option (List ℕ × ℕ)) (xs : List ℕ) (name : List ℕ) (j : ℕ)
    → get (names_of (map f xs)) name ≡ Some j → (s : ℕ) × (f s ≡ Some (name, j))
slot_of f [] name j e = cc
slot_of f (x ∷ xs) name j e =
    elim (f x) as (λ o. f x ≡ o → get (names_of (o ∷ map f xs)) name ≡ Some j → (s : ℕ) × (f s ≡ Some (name, j))) [
      | None ↦ λ q h. slot_of f xs name j h
      | Some entry ↦ λ q h. elim (eq_by_cmp (slice_cmp nat_cmp) name entry.0) as (λ b. eq_by_cmp (slice_cmp nat_cmp) name entry.0 ≡ b → cond b (Some entry.1) (get (names_of (map f xs)) name) ≡ Some j → (s : ℕ) × (f s ≡ Some (name, j))) [
        | true ↦ λ same k.
            let is : name ≡ entry.0 = same_bytes name entry.0 (sym (is_eq-slice_cmp name entry.0) ∙ same) in
            (x, cc)
        | false ↦ λ other k. slot_of f xs name j k
      ] refl (sym (find-put (slice_cmp nat_cmp) nat_list_cmp_total name entry.0 entry.1 (names_of (map f xs))) ∙ h)
    ] refl e

-- a name of a directory is in one of its slots
pub entry_of : (g : Geometry) (image : List ℕ) (d : ℕ) (name : List ℕ) (i : ℕ) → IsNameOf g image d name i → (s : ℕ) × HasEntry g image d s name i
unfolding slots
entry_of g image d name i named =
    let p = slot_of (entry_at g image d) _ name i named.found in
    (p.0, record { directory = named.directory; entry = p.1 })

-- in a tree a directory has only one name, in one directory
pub one_name : (g : Geometry) (image : List ℕ) (i d e : ℕ) (name other : List ℕ) → IsTree g image → IsDirectory g image i
    → IsNameOf g image d name i → IsNameOf g image e other i → (d ≡ e) × (name ≡ other)
one_name g image i d e name other tree directory named again =
    let here = entry_of g image d name i named in
    let there = entry_of g image e other i again in
    let same = tree.one i d here.0 e there.0 directory (name, here.1, named.proper) (other, there.1, again.proper) in (
      same.0,
      ap (λ slot. option_map_or (λ (entry : List ℕ × ℕ). entry.0) slot [])
          (sym here.1.entry ∙ (ap (λ k. entry_at g image k here.0) same.0 ∙ (ap (entry_at g image e) same.1 ∙ there.1.entry))),
    )

-- entries other than `.` and `..` lead from directory `start` to i-number `i`, or `i` is `start`
pub data IsUnder (g : Geometry) (image : List ℕ) (start : ℕ) : ℕ → Type 0 where
  itself : IsUnder g image start start
  onwards : (d s i : ℕ) → IsUnder g image start d → Enters g image d s i → IsUnder g image start i

-- entries that lead from `start` to `d` and from `d` to `i` lead from `start` to `i`
under_on : (g : Geometry) (image : List ℕ) (start d i : ℕ) → IsUnder g image start d → IsUnder g image d i → IsUnder g image start i
under_on g image start d i u itself = u
under_on g image start d i u (onwards e s j v enters) = onwards e s i (under_on g image start d e u v) enters

-- if entries lead from directory `i` to `e`, and `e` leads back to `i`, then `e` is below itself
turned : (g : Geometry) (image : List ℕ) (i e t : ℕ) → IsUnder g image i e → Enters g image e t i → (d s : ℕ) × IsUnder g image e d × Enters g image d s e
turned g image i e t itself above = (i, t, itself, above)
turned g image i e t (onwards d s j under enters) above = (d, s, under_on g image e i d (onwards e t i itself above) under, enters)

-- no directory of a tree is below itself
pub no_ring : (g : Geometry) (image : List ℕ) (i : ℕ) → IsTree g image → IsReached g image i → IsDirectory g image i
    → (d s : ℕ) → IsUnder g image i d → Enters g image d s i → ⊥
no_ring g image i tree at_root directory d s under enters = tree.root_none d s enters
no_ring g image i tree (one_below e t j reached above) directory d s under enters =
    let same = tree.one i d s e t directory enters above in
    let next = turned g image i e t (subst (λ k. IsUnder g image i k) same.0 under) above in
    no_ring g image e tree reached above.1.directory next.0 next.1 next.2 next.3
