-- Lemmas on lines that are appended for one i-number after another.
use Rattle.std.proofs.Common.{◌≡◌, ◌≢◌, ◌⊎◌, ℕ, suc, ◌+◌, ◌*◌, ◌∙◌, sym, ap, subst, Bool, true, false, ◌||◌, List, [], ◌∷◌, ◌++◌, length, refl, arith, inl, inr, append_assoc, None}
use Rattle.std.proofs.lemmas.Bool.{cases_lt, cases_eq}
use Rattle.std.proofs.lemmas.List.Folds.{list_any-append}
use Rattle.std.proofs.lemmas.List.Elements.{All-append, All-cons, All-nil}
use Rattle.std.proofs.lemmas.List.{append-nil}
use Rattle.std.specs.List.{All, list_any}
use Rattle.vol_layout.specs.Inode.{inode_place, kind_of}
use Rattle.vol_layout.specs.Body.{body_size, body}
use Rattle.vol_layout.specs.Slot.{slot_at}
use Rattle.vol_layout.specs.declared.geometry.Geometry.{Geometry}
use Rattle.vol_layout.specs.declared.i_node.Inode.{Inode}
use Rattle.vol_layout.specs.declared.slot.Slot.{Slot}
use Rattle.vol_layout.specs.declared.mode.Kind.{Kind}
use Rattle.vol_layout.specs.declared.mode.Kind.TheVariants as kinds
use Rattle.vol_layout.proofs.InodeLaws.{inode_mode}
use Rattle.vol_layout.proofs.BodyLaws.{length-body}
use Rattle.vol_file.specs.Rules.{kind_at}
use Rattle.vol_dir.specs.Entries.{entry_at, entry_in, slot_count}
use Rattle.vol_dir.proofs.ReadSlots.{entry_at_in, entry_at_past}
use Rattle.vol_repair.specs.Kept.{KeepsFile, FitsFile}
use Rattle.vol_repair.specs.Lines.{subject, is_about, is_for_links, is_for_slot, IsTold, dir_entry, entry_of_kind, IsTrueLine}
use Rattle.vol_repair.specs.Repaired.{TellsUpTo}
use Rattle.vol_repair.specs.Told.{IsLineOf, Grows, TellsLinks, TellsSlot}
use Rattle.vol_repair.specs.declared.repair_line.RepairLine.{RepairLine}
use Rattle.vol_repair.specs.declared.repair_line.RepairLine.TheVariants as lines

-- what lines tell is still told if more follow
pub told_more : (test : RepairLine → Bool) (xs more : List RepairLine) → IsTold test xs → IsTold test (xs ++ more)
told_more test xs more told = list_any-append test xs more ∙ ap (λ t. t || list_any test more) told

-- a test that the last of two passes
or_last : (b : Bool) → (b || (true || false)) ≡ true
or_last true = refl
or_last false = refl

-- the last line tells what it says
pub told_last : (test : RepairLine → Bool) (xs : List RepairLine) (line : RepairLine) → test line ≡ true → IsTold test (xs ++ (line ∷ []))
told_last test xs line said =
    list_any-append test xs (line ∷ []) ∙ (ap (λ t. list_any test xs || (t || false)) said ∙ or_last (list_any test xs))

-- a line is about no other i-number than its own
about_other : (i : ℕ) (line : RepairLine) → subject line ≢ i → is_about i line ≡ false
about_other i (lines.Cleared j) other = grind arith
about_other i (lines.Made j) other = grind arith
about_other i (lines.Size j old new) other = grind arith
about_other i (lines.Changed j) other = grind arith
about_other i (lines.Links j old new) other = refl
about_other i (lines.Entry d s old new) other = grind arith
about_other i lines.FreeList other = refl

-- lines of an i-number aren't about another one
abouts_other : (geometry : Geometry) (old new : List ℕ) (i j : ℕ) (more : List RepairLine) → All (IsLineOf geometry old new i) more → i ≢ j
    → list_any (is_about j) more ≡ false
abouts_other geometry old new i j [] each other = refl
abouts_other geometry old new i j (line ∷ more) each other =
    let here : IsLineOf geometry old new i line = each 0 line (omega arith) in
    ap (λ t. t || list_any (is_about j) more) (about_other j line (λ same. other (sym here.0 ∙ same)))
    ∙ abouts_other geometry old new i j more (λ k d h. each (suc k) d (omega (arith, h))) other

-- a test that the first of two passes
pub or_false : (b : Bool) → (b || false) ≡ b
or_false true = refl
or_false false = refl

-- lines of an i-number say nothing more about another one
pub about_same : (geometry : Geometry) (old new : List ℕ) (i j : ℕ) (xs ys : List RepairLine) → Grows geometry old new i xs ys → i ≢ j
    → list_any (is_about j) ys ≡ list_any (is_about j) xs
about_same geometry old new i j xs ys grows other =
    ap (list_any (is_about j)) grows.items
    ∙ (list_any-append (is_about j) xs grows.more
    ∙ (ap (λ t. list_any (is_about j) xs || t) (abouts_other geometry old new i j grows.more grows.each other) ∙ or_false (list_any (is_about j) xs)))

-- lines are true one by one
rights : (geometry : Geometry) (old new : List ℕ) (i : ℕ) (more : List RepairLine) → All (IsLineOf geometry old new i) more
    → All (IsTrueLine geometry old new) more
rights geometry old new i more each = λ k d h. (each k d h).1

-- no line was appended
pub grows_none : (geometry : Geometry) (old new : List ℕ) (i : ℕ) (xs : List RepairLine) → Grows geometry old new i xs xs
grows_none geometry old new i xs = record { more = []; items = sym (append-nil xs); each = All-nil (IsLineOf geometry old new i) }

-- a line was appended
pub grows_push : (geometry : Geometry) (old new : List ℕ) (i : ℕ) (xs ys : List RepairLine) (line : RepairLine) → ys ≡ xs ++ (line ∷ [])
    → subject line ≡ i → IsTrueLine geometry old new line → Grows geometry old new i xs ys
grows_push geometry old new i xs ys line items about right = record {
  more = line ∷ [];
  items = items;
  each = All-cons (IsLineOf geometry old new i) line [] (about, right) (All-nil (IsLineOf geometry old new i));
}

-- more lines were appended
pub grows_more : (geometry : Geometry) (old new : List ℕ) (i : ℕ) (xs ys zs : List RepairLine) → Grows geometry old new i xs ys
    → Grows geometry old new i ys zs → Grows geometry old new i xs zs
grows_more geometry old new i xs ys zs first second = record {
  more = first.more ++ second.more;
  items = second.items ∙ (ap (λ ls. ls ++ second.more) first.items ∙ append_assoc xs first.more second.more);
  each = All-append (IsLineOf geometry old new i) first.more second.more first.each second.each;
}

-- what lines tell is still told after more of one i-number
pub told_grown : (geometry : Geometry) (old new : List ℕ) (i : ℕ) (xs ys : List RepairLine) (test : RepairLine → Bool) → Grows geometry old new i xs ys
    → IsTold test xs → IsTold test ys
told_grown geometry old new i xs ys test grows told = subst (IsTold test) (sym grows.items) (told_more test xs grows.more told)

-- the kind of an i-node that is kept is the same
pub kept_kind : (geometry : Geometry) (old new : List ℕ) (i : ℕ) → KeepsFile geometry old new i → kind_at geometry new i ≡ kind_at geometry old i
kept_kind geometry old new i kept =
    let edition = geometry.edition in
    let at = inode_place edition i in
    ap (kind_of edition) (sym (inode_mode edition new at) ∙ (ap (λ (node : Inode). node.mode.bits) kept.node ∙ inode_mode edition old at))

-- an i-node with the same body has the same entries
entry_kept : (geometry : Geometry) (old new : List ℕ) (d s : ℕ) → body geometry new d ≡ body geometry old d
    → entry_at geometry new d s ≡ entry_at geometry old d s
entry_kept geometry old new d s same =
    let size : body_size geometry new d ≡ body_size geometry old d =
    sym (length-body geometry new d) ∙ (ap length same ∙ length-body geometry old d) in
    elim (cases_lt s (slot_count geometry old d)) [
      | inl inside ↦
          entry_at_in geometry new d s (omega (arith, inside, size))
          ∙ (ap (λ bytes. entry_in (slot_at bytes (16 * s))) same ∙ sym (entry_at_in geometry old d s inside))
      | inr past ↦ entry_at_past geometry new d s (omega (arith, past, size)) ∙ sym (entry_at_past geometry old d s past)
    ]

-- an i-node with the same entries has the same ones as a directory
of_kind : (geometry : Geometry) (old new : List ℕ) (d s : ℕ) (kind : Kind) → entry_at geometry new d s ≡ entry_at geometry old d s
    → entry_of_kind geometry new d s kind ≡ entry_of_kind geometry old d s kind
of_kind geometry old new d s kinds.Directory same = same
of_kind geometry old new d s kinds.Free same = refl
of_kind geometry old new d s kinds.Regular same = refl
of_kind geometry old new d s kinds.Special same = refl
of_kind geometry old new d s kinds.Odd same = refl

-- a directory that is kept has the same entries
pub kept_entry : (geometry : Geometry) (old new : List ℕ) (d s : ℕ) → KeepsFile geometry old new d
    → dir_entry geometry new d s ≡ dir_entry geometry old d s
kept_entry geometry old new d s kept =
    ap (entry_of_kind geometry new d s) (kept_kind geometry old new d kept)
    ∙ of_kind geometry old new d s (kind_at geometry old d) (entry_kept geometry old new d s kept.body)

-- the lines of one i-number, after those of all before it
step : (geometry : Geometry) (old new : List ℕ) (n m : ℕ) (xs ys : List RepairLine) → m ≡ n + 1 → TellsUpTo geometry old new n xs
    → Grows geometry old new m xs ys → TellsLinks geometry old new m ys
    → KeepsFile geometry old new m ⊎ IsTold (is_about m) ys → ((s : ℕ) → TellsSlot geometry old new m s ys)
    → (FitsFile geometry old m → KeepsFile geometry old new m × (list_any (is_about m) ys ≡ false)) → TellsUpTo geometry old new m ys
step geometry old new n m xs ys next before grows links files entries fitting = record {
  files = λ i first last. elim (cases_eq i m) [
    | inl same ↦ subst (λ k. KeepsFile geometry old new k ⊎ IsTold (is_about k) ys) (sym same) files
    | inr other ↦ elim (before.files i first (omega (arith, next, last, other))) [
      | inl kept ↦ inl kept
      | inr told ↦ inr (told_grown geometry old new m xs ys (is_about i) grows told)
    ]
  ];
  links = λ i first last. elim (cases_eq i m) [
    | inl same ↦ subst (λ k. TellsLinks geometry old new k ys) (sym same) links
    | inr other ↦ elim (before.links i first (omega (arith, next, last, other))) [
      | inl kept ↦ inl kept
      | inr told ↦ inr (told_grown geometry old new m xs ys (is_for_links i) grows told)
    ]
  ];
  entries = λ d s first last. elim (cases_eq d m) [
    | inl same ↦ subst (λ k. TellsSlot geometry old new k s ys) (sym same) (entries s)
    | inr other ↦ elim (before.entries d s first (omega (arith, next, last, other))) [
      | inl kept ↦ inl kept
      | inr told ↦ inr (told_grown geometry old new m xs ys (is_for_slot d s) grows told)
    ]
  ];
  fitting = λ i last fits. elim (cases_eq i m) [
    | inl same ↦ subst (λ k. KeepsFile geometry old new k × (list_any (is_about k) ys ≡ false)) (sym same)
        (fitting (subst (FitsFile geometry old) same fits))
    | inr other ↦
        let found = before.fitting i (omega (arith, next, last, other)) fits in
        (found.0, about_same geometry old new m i xs ys grows (λ same. other (sym same)) ∙ found.1)
  ];
  right = subst (All (IsTrueLine geometry old new)) (sym grows.items)
      (All-append (IsTrueLine geometry old new) xs grows.more before.right (rights geometry old new m grows.more grows.each));
  fresh = λ i past. about_same geometry old new m i xs ys grows (omega (arith, past)) ∙ before.fresh i (omega (arith, next, past));
}

-- the lines of an i-number whose file is kept
pub step_kept : (geometry : Geometry) (old new : List ℕ) (n m : ℕ) (xs ys : List RepairLine) → m ≡ n + 1 → TellsUpTo geometry old new n xs
    → Grows geometry old new m xs ys → TellsLinks geometry old new m ys → list_any (is_about m) ys ≡ list_any (is_about m) xs
    → KeepsFile geometry old new m → TellsUpTo geometry old new m ys
step_kept geometry old new n m xs ys next before grows links quiet kept =
    step geometry old new n m xs ys next before grows links (inl kept) (λ s. inl (kept_entry geometry old new m s kept))
    (λ fits. (kept, quiet ∙ before.fresh m (omega (arith, next))))

-- the lines of an i-number whose file isn't kept
pub step_changed : (geometry : Geometry) (old new : List ℕ) (n m : ℕ) (xs ys : List RepairLine) → m ≡ n + 1 → TellsUpTo geometry old new n xs
    → Grows geometry old new m xs ys → TellsLinks geometry old new m ys → IsTold (is_about m) ys → ((s : ℕ) → TellsSlot geometry old new m s ys)
    → (FitsFile geometry old m → ⊥) → TellsUpTo geometry old new m ys
step_changed geometry old new n m xs ys next before grows links told entries unfit =
    step geometry old new n m xs ys next before grows links (inr told) entries (λ fits. absurd (unfit fits))

-- a slot's entry is still told after more lines
pub tells_grown : (geometry : Geometry) (old new : List ℕ) (d s : ℕ) (xs ys : List RepairLine) → Grows geometry old new d xs ys
    → TellsSlot geometry old new d s xs → TellsSlot geometry old new d s ys
tells_grown geometry old new d s xs ys grows (inl same) = inl same
tells_grown geometry old new d s xs ys grows (inr told) = inr (told_grown geometry old new d xs ys (is_for_slot d s) grows told)

-- a slot's entry is told by its line
pub tells_entry : (geometry : Geometry) (old new : List ℕ) (d s : ℕ) (xs ys : List RepairLine) (was is : Slot) → ys ≡ xs ++ (lines.Entry d s was is ∷ [])
    → TellsSlot geometry old new d s ys
tells_entry geometry old new d s xs ys was is items =
    inr (subst (IsTold (is_for_slot d s)) (sym items) (told_last (is_for_slot d s) xs (lines.Entry d s was is) (grind arith)))

-- a slot without an entry in both images is the same
pub tells_none : (geometry : Geometry) (old new : List ℕ) (d s : ℕ) (xs : List RepairLine)
    → (dir_entry geometry old d s ≡ None) × (dir_entry geometry new d s ≡ None) → TellsSlot geometry old new d s xs
tells_none geometry old new d s xs none = inl (none.1 ∙ sym none.0)

-- a link count is still told after more lines
pub links_grown : (geometry : Geometry) (old new : List ℕ) (i : ℕ) (xs ys : List RepairLine) → Grows geometry old new i xs ys
    → TellsLinks geometry old new i xs → TellsLinks geometry old new i ys
links_grown geometry old new i xs ys grows (inl same) = inl same
links_grown geometry old new i xs ys grows (inr told) = inr (told_grown geometry old new i xs ys (is_for_links i) grows told)
