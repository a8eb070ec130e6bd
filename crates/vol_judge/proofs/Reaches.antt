-- Reaching the directories from the root, by a walk up from each directory.
use Rattle.std.proofs.Common.{◌≡◌, ◌≢◌, ℕ, ◌+◌, ◌<◌, ◌≤◌, ◌==◌, inl, inr, false, if◌then◌else◌, List, Option, length, get_or, refl, sym, ◌∙◌, arith, get_or-set_other, get_or-set_same}
use Rattle.std.proofs.Math.ListN.{set, length-set}
use Rattle.std.proofs.lemmas.Bool.{cases_eq}
use Rattle.std.proofs.lemmas.Bool.Decides.{nat_tests}
use Rattle.std.proofs.lemmas.List.Sums.{sum_by-set}
use Rattle.vol_layout.specs.declared.geometry.Geometry.{Geometry}
use Rattle.vol_file.proofs.StoredNames.{root_first}
use Rattle.vol_dir.specs.Entries.{IsDirectory}
use Rattle.vol_judge.specs.Directories.{root_of, IsReached, at_root}
use Rattle.vol_judge.specs.Reach.{AreWalked, WalksUp, unwalked}

-- at first only the root is marked
pub walked_first : (geometry : Geometry) (image walks : List ℕ) → length walks ≡ geometry.last_inode + 1 → ((i : ℕ) → get_or walks i 0 ≡ 0)
    → root_of geometry < length walks → AreWalked geometry image 1 (set walks (root_of geometry) (root_of geometry))
walked_first geometry image walks len none room = record {
  room = simp length-set len;
  root = rw get_or-set_same refl;
  early = λ i apart some. absurd (some (rw get_or-set_other (none i)));
  reached = λ i some.
      elim (cases_eq i (root_of geometry)) [
        | inl same ↦ rw same at_root
        | inr apart ↦ absurd (some (rw get_or-set_other (none i)))
      ];
}

-- if no walk begins at d, the walks up from the directories before d + 1 are done
pub walked_later : {geometry : Geometry} {image walks : List ℕ} {d : ℕ} → AreWalked geometry image d walks → AreWalked geometry image (d + 1) walks
walked_later is = record { room = is.room; root = is.root; early = λ i apart some. omega (arith, is.early i apart some); reached = is.reached }

-- a walk up begins at directory d itself
pub walk_first : {geometry : Geometry} {image walks : List ℕ} {d : ℕ} (ups : List (Option ℕ)) → AreWalked geometry image d walks → IsDirectory geometry image d
    → d ≢ root_of geometry → WalksUp geometry image ups d d walks
walk_first {geometry = geometry} {image = image} {walks = walks} {d = d} ups is directory other =
    let none : (i : ℕ) → get_or walks i 0 ≡ d → ⊥ = λ i same.
    elim (cases_eq i (root_of geometry)) [
      | inl root ↦
          let same' = rw root at same in
          other (sym same' ∙ is.root)
      | inr apart ↦ omega (arith, same, directory.first, is.early i apart (λ zero. omega (arith, zero, same, directory.first)))
    ] in
    record {
      room = is.room;
      root = is.root;
      early = λ i apart some. omega (arith, is.early i apart some);
      reached = λ i some apart. is.reached i some;
      directory = directory;
      onto = λ i same reached. absurd (none i same);
      way = λ i same. absurd (none i same);
      next = λ i e same named. absurd (none i same);
      begun = inl refl;
    }

-- a directory that no walk has marked isn't the root
pub not_root : {geometry : Geometry} {image walks : List ℕ} {ups : List (Option ℕ)} {d place : ℕ} → WalksUp geometry image ups d place walks
    → get_or walks place 0 ≡ 0 → place ≢ root_of geometry
not_root {geometry = geometry} is zero same = let zero' = rw same at zero in omega (arith, zero', is.root, root_first geometry.edition)

-- a walk that meets a mark of an earlier walk reaches the root
pub walk_done : {geometry : Geometry} {image walks : List ℕ} {ups : List (Option ℕ)} {d place : ℕ} → WalksUp geometry image ups d place walks
    → get_or walks place 0 ≢ 0 → get_or walks place 0 ≢ d → AreWalked geometry image (d + 1) walks × IsReached geometry image d
walk_done {geometry = geometry} {image = image} {walks = walks} {d = d} {place = place} is some other =
    let top : IsReached geometry image place = is.reached place some other in (
      record {
        room = is.room;
        root = is.root;
        early = is.early;
        reached = λ i marked.
            elim (cases_eq (get_or walks i 0) d) [
              | inl same ↦ is.onto i same top
              | inr apart ↦ is.reached i marked apart
            ];
      },
      elim is.begun [
        | inl same ↦ rw (sym same) top
        | inr walked ↦ is.onto d walked top
      ],
    )

-- each step marks one more i-number
pub walk_fewer : (walks : List ℕ) (n d : ℕ) → n < length walks → get_or walks n 0 ≡ 0 → 1 ≤ d → unwalked (set walks n d) + 1 ≤ unwalked walks
walk_fewer walks n d room zero first =
    let sums = sum_by-set (λ walk. if walk == 0 then 1 else 0) walks n d 0 room in
    let sums' = rw zero at sums in
    let some : (d == 0) ≡ false = grind (arith, nat_tests) in
    let sums'' = rw some at sums' in
    omega (arith, sums'')
