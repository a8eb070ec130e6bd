-- The entries `.` and `..` of directories.
use Rattle.std.proofs.Common.{◌≡◌, ℕ, ◌+◌, ◌<◌, inl, inr, true, List, Option, None, Some, length, get_or, refl, sym, arith, get_or-set_other, get_or-set_same}
use Rattle.std.specs.Option.{is_some}
use Rattle.std.proofs.Math.ListN.{set, length-set}
use Rattle.std.proofs.lemmas.Bool.{cases_eq}
use Rattle.vol_layout.specs.declared.geometry.Geometry.{Geometry}
use Rattle.vol_file.proofs.PlaceLists.{same_bytes}
use Rattle.vol_dir.specs.Entries.{IsDirectory, HasEntry}
use Rattle.vol_dir.specs.Names.{dot, dot_dot}
use Rattle.vol_dir.specs.Search.{holds}
use Rattle.vol_judge.specs.Dots.{NamesItself, KnowsDots}
use Rattle.vol_judge.specs.InodeMarks.{IsNamed, NameThemselvesBelow}
use Rattle.vol_judge.proofs.EachDirectory.{directories_more}

-- a slot that holds a name has an entry with this name
pub held_some : (name : List ℕ) (slot : Option (List ℕ × ℕ)) → holds name slot ≡ true → (i : ℕ) × (slot ≡ Some (name, i))
held_some name None held = absurd (cc)
held_some name (Some entry) held = let same = sym (same_bytes name entry.0 held) in (entry.1, (λ k. Some (same k, entry.1)))

-- if d has an entry for itself, the invariant holds up to d with its `..` noted
pub themselves_named : {geometry : Geometry} {image : List ℕ} {d : ℕ} {ups : List (Option ℕ)} {own number : Option ℕ}
    → NameThemselvesBelow geometry image d ups → IsNamed geometry image d dot own → own ≡ Some d → IsNamed geometry image d dot_dot number
    → d < length ups → NameThemselvesBelow geometry image (d + 1) (set ups d number)
themselves_named {geometry = geometry} {image = image} {d = d} {ups = ups} {number = number} below own itself here room = record {
  itself = λ e low is.
      elim (cases_eq e d) [
        | inl same ↦ rw same (own.only d itself)
        | inr apart ↦ below.itself e (omega arith) is
      ];
  named = record {
    room = simp length-set below.named.room;
    named = λ e low is.
        elim (cases_eq e d) [
          | inl same ↦ rw same (rw get_or-set_same here)
          | inr apart ↦ rw get_or-set_other (below.named.named e (omega arith) is)
        ];
  };
}

-- if d isn't a directory, the invariant holds up to d with nothing noted
pub themselves_other : {geometry : Geometry} {image : List ℕ} {d : ℕ} {ups : List (Option ℕ)} → NameThemselvesBelow geometry image d ups
    → (IsDirectory geometry image d → ⊥) → NameThemselvesBelow geometry image (d + 1) ups
themselves_other {geometry = geometry} {image = image} {d = d} {ups = ups} below other = record {
  itself = directories_more (λ e. (s : ℕ) × HasEntry geometry image e s dot e) d below.itself (λ is. absurd (other is));
  named = record {
    room = below.named.room;
    named = directories_more (λ e. IsNamed geometry image e dot_dot (get_or ups e None)) d below.named.named (λ is. absurd (other is));
  };
}

-- if d has no entry for itself, it is the first such directory
pub dots_until : {geometry : Geometry} {image : List ℕ} {d : ℕ} {ups : List (Option ℕ)} → NameThemselvesBelow geometry image d ups
    → IsDirectory geometry image d → (NamesItself geometry image d → ⊥) → KnowsDots geometry image ups (Some d)
dots_until {geometry = geometry} {image = image} {d = d} below is wrong = record {
  room = below.named.room;
  without = λ e same. let number : d ≡ e = cc in rw (sym number) (is, wrong);
  itself = λ e is' before. below.itself e (before d refl) is';
  named = λ e is' before. below.named.named e (before d refl) is';
}

-- after the last i-number, all directories have an entry for themselves
pub dots_all : {geometry : Geometry} {image : List ℕ} {d : ℕ} {ups : List (Option ℕ)} → NameThemselvesBelow geometry image d ups
    → geometry.last_inode < d → KnowsDots geometry image ups None
dots_all below last = record {
  room = below.named.room;
  without = λ e same. absurd (cc);
  itself = λ e is before. below.itself e (omega (arith, is.last)) is;
  named = λ e is before. below.named.named e (omega (arith, is.last)) is;
}

-- if `is_some o` is true, o is `Some j` for some number j
pub some_number : (o : Option ℕ) → is_some o ≡ true → (j : ℕ) × (o ≡ Some j)
some_number None some = absurd (cc)
some_number (Some j) some = (j, refl)
