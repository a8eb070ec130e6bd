use Rattle.std.proofs.Common.{◌≡◌, ℕ, ◌+◌, ◌-◌, ◌<◌, ◌≤◌, ◌∙◌, ◌++◌, ◌∷◌, [], List, length, get_or, ap, sym, subst, arith, inl, inr}
use Rattle.std.specs.List.{Contains}
use Rattle.std.proofs.lemmas.Bool.{cases_lt}
use Rattle.std.proofs.lemmas.List.{get_or_append_left, get_or_push, length_push}
use Rattle.std.proofs.lemmas.List.Elements.{Contains-get_or, Contains-append_left, Contains-push, Contains-push_cases}
use Rattle.vol_layout.specs.Geometry.{Fits}
use Rattle.vol_layout.specs.declared.geometry.Geometry.{Geometry}
use Rattle.vol_fields.specs.Fields.{field_at}
use Rattle.vol_fields.specs.Changes.{Differs, ListsUpTo}
use Rattle.vol_fields.specs.declared.field.Field.{Field}
use Rattle.vol_fields.specs.declared.role.Role.{Role}
use Rattle.vol_fields.proofs.FieldLaws.{field_bounds, field_same}
use Rattle.vol_fields.proofs.changes.note_byte.Goals as goal

-- a byte without a change of its own, or with a field listed already, adds nothing
passes : (g : Geometry) (t : List Role) (old new : List ℕ) (n covered : ℕ) (found : List Field) → ListsUpTo g t old new n covered found
    → (Differs old new n → Contains found (field_at g t (length old) n)) → ListsUpTo g t old new (n + 1) covered found
passes g t old new n covered found up here = record {
  lists = record {
    all = λ m low differs. elim (cases_lt m n) [
      | inl less ↦ up.lists.all m less differs
      | inr more ↦ let same : n ≡ m = omega (arith, low, more) in
          subst (λ x. Contains found (field_at g t (length old) x)) same (here (subst (λ x. Differs old new x) (sym same) differs))
    ];
    only = λ f has. let was = up.lists.only f has in (was.0, omega (arith, was.1), was.2, was.3);
    ascending = up.lists.ascending;
  };
  covers = λ m low high. up.covers m (omega (arith, low)) high;
  ends = up.ends;
  edge = up.edge;
}

-- a field that has a byte after another field's end begins after that end
next_starts : (g : Geometry) (t : List Role) (image : List ℕ) (n m : ℕ) → Fits g image → n < length image
    → let f = field_at g t (length image) n in f.spot.start + f.spot.bytes ≤ m → m < length image
    → f.spot.start + f.spot.bytes ≤ (field_at g t (length image) m).spot.start
next_starts g t image n m fits within after inside =
    let f = field_at g t (length image) n in
    let h = field_at g t (length image) m in
    let own = field_bounds g image t n fits within in
    let other = field_bounds g image t m fits inside in
    let q = f.spot.start + f.spot.bytes - 1 in
    elim (cases_lt h.spot.start (f.spot.start + f.spot.bytes)) [
      | inl before ↦
          let one : field_at g t (length image) q ≡ f = field_same g image t n q fits within (omega (arith, own.1, own.2), omega (arith, own.1, own.2)) in
          let two : field_at g t (length image) q ≡ h = field_same g image t m q fits inside (omega (arith, before), omega (arith, after, other.2, own.1, own.2)) in
          let same : h.spot.start + h.spot.bytes ≡ f.spot.start + f.spot.bytes =
          ap (λ (x : Field). x.spot.start + x.spot.bytes) (sym two ∙ one) in
          absurd (omega (arith, same, other.2, after))
      | inr later ↦ later
    ]

-- a list stays ascending with a field that begins after all of it
rises : (found : List Field) (f : Field) (covered k : ℕ) (d : Field)
    → ((j : ℕ) (e : Field) → j + 1 < length found → (get_or found j e).spot.start + (get_or found j e).spot.bytes ≤ (get_or found (j + 1) e).spot.start)
    → ((h : Field) → Contains found h → h.spot.start + h.spot.bytes ≤ covered) → covered ≤ f.spot.start → k + 1 < length (found ++ f ∷ [])
    → let all = found ++ f ∷ [] in (get_or all k d).spot.start + (get_or all k d).spot.bytes ≤ (get_or all (k + 1) d).spot.start
rises found f covered k d up ends edge low =
    let long : length (found ++ f ∷ []) ≡ length found + 1 = length_push found f in
    let before : k < length found = omega (arith, long, low) in
    let here : get_or (found ++ f ∷ []) k d ≡ get_or found k d = get_or_append_left found (f ∷ []) d k before in
    let bound = ends (get_or found k d) (Contains-get_or found k d before) in
    subst (λ (x : Field). x.spot.start + x.spot.bytes ≤ (get_or (found ++ f ∷ []) (k + 1) d).spot.start) (sym here)
    (elim (cases_lt (k + 1) (length found)) [
      | inl inside ↦ subst (λ (x : Field). (get_or found k d).spot.start + (get_or found k d).spot.bytes ≤ x.spot.start)
          (sym (get_or_append_left found (f ∷ []) d (k + 1) inside)) (up k d inside)
      | inr last ↦ let end : length found ≡ k + 1 = omega (arith, long, low, last) in
          subst (λ (x : Field). (get_or found k d).spot.start + (get_or found k d).spot.bytes ≤ x.spot.start)
          (sym (get_or_push found f d (k + 1) end)) (omega (arith, bound, edge))
    ])

-- a byte that differs adds its field
adds : (g : Geometry) (t : List Role) (old new : List ℕ) (n covered : ℕ) (found : List Field) → Fits g old → n < length old → Differs old new n → covered ≤ n
    → ListsUpTo g t old new n covered found
    → let f = field_at g t (length old) n in ListsUpTo g t old new (n + 1) (f.spot.start + f.spot.bytes) (found ++ f ∷ [])
adds g t old new n covered found fits within differs past up =
    let f = field_at g t (length old) n in
    let edges = field_bounds g old t n fits within in
    record {
      lists = record {
        all = λ m low other. elim (cases_lt m n) [
          | inl less ↦ Contains-append_left found (f ∷ []) (field_at g t (length old) m) (up.lists.all m less other)
          | inr more ↦ let same : n ≡ m = omega (arith, low, more) in
              subst (λ x. Contains (found ++ f ∷ []) (field_at g t (length old) x)) same (Contains-push found f)
        ];
        only = λ h has. elim (Contains-push_cases found f h has) [
          | inl before ↦ let was = up.lists.only h before in (was.0, omega (arith, was.1), was.2, was.3)
          | inr is ↦ (n, omega arith, differs, is)
        ];
        ascending = λ k d low. rises found f covered k d up.lists.ascending up.ends (up.edge n past within) low;
      };
      covers = λ m low high. subst (λ x. Contains (found ++ f ∷ []) x)
          (sym (field_same g old t n m fits within (omega (arith, edges.1, low), high))) (Contains-push found f);
      ends = λ h has. elim (Contains-push_cases found f h has) [
        | inl before ↦ let was = up.ends h before in omega (arith, was, past, edges.2)
        | inr is ↦ subst (λ (x : Field). x.spot.start + x.spot.bytes ≤ f.spot.start + f.spot.bytes) is (omega arith)
      ];
      edge = λ m low inside. next_starts g t old n m fits within low inside;
    }

pub returns-then-n-covered : goal.returns-then-n-covered
returns-then-n-covered c =
    passes c.args.geometry.now c.args.roles.now c.args.image.now c.args.other.now c.args.n c.args.covered _ c.requires.before
    (λ differs. c.requires.before.covers c.args.n (omega arith) c.if-n-covered.true)

pub returns-then-byte : goal.returns-then-byte
returns-then-byte c =
    let same : get_or c.args.image.now c.args.n 0 ≡ get_or c.args.other.now c.args.n 0 = sym c.byte.ensures ∙ (c.if-byte.true ∙ c.byte-2.ensures) in
    passes c.args.geometry.now c.args.roles.now c.args.image.now c.args.other.now c.args.n c.args.covered _ c.requires.before (λ differs. absurd (differs same))

pub overflow_add-result : goal.overflow_add-result
overflow_add-result c =
    let end = c.field_at-field.ensures.end in
    let small = c.fits_in_memory.ensures in
    omega (arith, end, small)

pub returns : goal.returns
returns c =
    let g = c.args.geometry.now in
    let t = c.args.roles.now in
    let old = c.args.image.now in
    let n = c.args.n in
    let found = c.args.found.now.items in
    let f = field_at g t (length old) n in
    let differs : Differs old c.args.other.now n =
    λ same. c.if-byte.false (c.byte.ensures ∙ (same ∙ sym c.byte-2.ensures)) in
    let is : c.field_at-field.result ≡ f = c.field_at-field.ensures.exact in
    let items : c.push.new.self.items ≡ found ++ c.field_at-field.result ∷ [] = c.in_ok-push.ensures.items in
    subst (λ xs. ListsUpTo g t old c.args.other.now (n + 1) (c.field_at-field.result.spot.start + c.field_at-field.result.spot.bytes) xs) (sym items)
    (subst (λ (x : Field). ListsUpTo g t old c.args.other.now (n + 1) (x.spot.start + x.spot.bytes) (found ++ x ∷ [])) (sym is)
    (adds g t old c.args.other.now n c.args.covered found c.requires.fits c.requires.within differs c.if-n-covered.false c.requires.before))
