-- The i-node of a file after the file is changed.
use Rattle.std.proofs.Common.{◌≡◌, ◌∙◌, sym, ap, refl, ℕ, zero, suc, ◌&&◌, not, ◌+◌, ◌*◌, ◌/◌, ◌%◌, ◌<◌, ◌≤◌, ◌==◌, Bool, if◌then◌else◌, nat_lt, List, get_or, true, false, true≢false, arith, inl, inr}
use Rattle.std.specs.Prelude.{◌||◌, Some}
use Rattle.std.proofs.lemmas.Bool.{cases_Bool}
use Rattle.std.proofs.lemmas.Bool.Decides.{nat_tests}
use Rattle.pdp_words.specs.Words.{word}
use Rattle.vol_layout.specs.Inode.{inode_at, kind_of, kind_of_type_v6, is_large, with_large}
use Rattle.vol_layout.specs.BlockMaps.{form_of, has_places}
use Rattle.vol_layout.specs.declared.edition.Edition.{Edition}
use Rattle.vol_layout.specs.declared.edition.Edition.TheVariants.{V6, V7}
use Rattle.vol_layout.specs.declared.i_node.Inode.{Inode}
use Rattle.vol_layout.specs.declared.mode.Kind.TheVariants as kinds
use Rattle.vol_layout.specs.declared.block_map.BlockMap.TheVariants.{Small, Large}
use Rattle.vol_layout.proofs.CopyLaws.{IsCopy, word_copied, long_copied}
use Rattle.vol_layout.proofs.KindLaws.{file_allocated, form_file}
use Rattle.vol_file.specs.Changes.{is_kept_byte, truncated_mode}
use Rattle.vol_file.specs.Shape.{grows_large, fit_form}
use Rattle.vol_dir.specs.Tree.{Content, node_with}

-- the mode bits that don't change: the kind and the permissions; the large flag is `large`
pub record KeepsMode (edition : Edition) (old new : ℕ) (large : Bool) : Type 0 where
  pub kind : kind_of edition new ≡ kind_of edition old
  pub permissions : new % 4096 ≡ old % 4096
  pub flag : is_large edition new ≡ large

-- the kind of an allocated i-node of the sixth edition depends on its type bits
kind_high : (mode : ℕ) → 32768 ≤ mode → kind_of V6 mode ≡ kind_of_type_v6 (mode / 8192 % 4)
unfolding kind_of
kind_high mode h =
    let some : (mode == 0) ≡ false = grind (arith, nat_tests) in
    let high : nat_lt mode 32768 ≡ false = grind (arith, nat_tests) in
    ap (λ t. if t then kinds.Free else if nat_lt mode 32768 then kinds.Odd else kind_of_type_v6 (mode / 8192 % 4)) some
    ∙ ap (λ t. if t then kinds.Odd else kind_of_type_v6 (mode / 8192 % 4)) high

-- the bit of the large flag
abbrev flag_bit : Bool → ℕ
flag_bit large = if large then 4096 else 0

-- setting the large flag sets it
flag_is : (mode : ℕ) (large : Bool) → is_large V6 (with_large mode large) ≡ large
flag_is mode true =
    let odd : (mode % 4096 + mode / 8192 * 8192 + 4096) / 4096 % 2 ≡ 1 = omega arith in ap (λ n. n == 1) odd
flag_is mode false =
    let even : (mode % 4096 + mode / 8192 * 8192 + 0) / 4096 % 2 ≡ 0 = omega arith in ap (λ n. n == 1) even

-- setting the large flag changes neither the kind nor the permissions
with_flag : (mode : ℕ) (large : Bool) → 32768 ≤ mode → KeepsMode V6 mode (with_large mode large) large
with_flag mode large h =
    let most : flag_bit large ≤ 4096 = (elim large as (λ b. flag_bit b ≤ 4096) [ true ↦ omega arith | false ↦ omega arith ]) in
    let rules : flag_bit large % 4096 ≡ 0 = (elim large as (λ b. flag_bit b % 4096 ≡ 0) [ true ↦ omega arith | false ↦ omega arith ]) in
    let high : 32768 ≤ with_large mode large = omega (arith, h, most) in
    let type : with_large mode large / 8192 % 4 ≡ mode / 8192 % 4 = omega (arith, most, rules) in
    record {
      kind = kind_high (with_large mode large) high ∙ (ap kind_of_type_v6 type ∙ sym (kind_high mode h));
      permissions = omega (arith, most, rules);
      flag = flag_is mode large;
    }

-- making a small file large changes neither its kind nor its permissions
grown : (edition : Edition) (mode : ℕ) (blocks : List ℕ) → has_places (kind_of edition mode) ≡ true → grows_large (form_of edition mode) blocks ≡ true
    → KeepsMode edition mode (with_large mode true) true
grown V6 mode blocks file grows = with_flag mode true (file_allocated mode file)
grown V7 mode blocks file grows = absurd (true≢false (sym (sym (ap (λ f. grows_large f blocks) (form_file V7 mode file)) ∙ grows)))

-- storing blocks changes neither the kind nor the permissions in a file's mode
pub touched_mode : (edition : Edition) (mode : ℕ) (blocks : List ℕ) → has_places (kind_of edition mode) ≡ true
    → KeepsMode edition mode (if grows_large (form_of edition mode) blocks then with_large mode true else mode)
    (is_large edition mode || grows_large (form_of edition mode) blocks)
touched_mode edition mode blocks file = elim (cases_Bool (grows_large (form_of edition mode) blocks)) [
  | inl grows ↦
      let is = grown edition mode blocks file grows in
      let or : (is_large edition mode || true) ≡ true = (elim (is_large edition mode) as (λ t. (t || true) ≡ true) [ true ↦ refl | false ↦ refl ]) in
      rw grows (record { kind = is.kind; permissions = is.permissions; flag = is.flag ∙ sym or })
  | inr stays ↦
      let or : (is_large edition mode || false) ≡ is_large edition mode =
      (elim (is_large edition mode) as (λ t. (t || false) ≡ t) [ true ↦ refl | false ↦ refl ]) in
      rw stays (record { kind = refl; permissions = refl; flag = sym or })
]

-- no value passes a test together with one that always fails
pub none_passes : (t : Bool) → (t && false) ≡ false
none_passes true = refl
none_passes false = refl

-- a test together with one that always passes is the test
pub all_passes : (t : Bool) → (t && true) ≡ t
all_passes true = refl
all_passes false = refl

-- a truncation changes neither the kind nor the permissions in a file's mode
pub cut_mode : (edition : Edition) (size mode : ℕ) → has_places (kind_of edition mode) ≡ true
    → KeepsMode edition mode (truncated_mode edition size mode) (is_large edition mode && not (size == 0))
cut_mode V6 zero mode file =
    let small = with_flag mode false (file_allocated mode file) in
    record { kind = small.kind; permissions = small.permissions; flag = small.flag ∙ sym (none_passes (is_large V6 mode)) }
cut_mode V6 (suc n) mode file =
    let some : (suc n == 0) ≡ false = grind (arith, nat_tests) in
    rw some (record { kind = refl; permissions = refl; flag = sym (all_passes (is_large V6 mode)) })
cut_mode V7 size mode file = record { kind = refl; permissions = refl; flag = refl }

-- the block map of a file depends only on its large flag
pub form_flag : (edition : Edition) (old new : ℕ) (large : Bool) → has_places (kind_of edition old) ≡ true → KeepsMode edition old new large
    → has_places (kind_of edition new) ≡ true
form_flag edition old new large file keeps = ap has_places keeps.kind ∙ file

-- updating the large flag gives the block map `fit_form`
touched_flag : (large : Bool) (blocks : List ℕ)
    → (if large || grows_large (if large then Large else Small) blocks then Large else Small) ≡ fit_form (if large then Large else Small) blocks
touched_flag true blocks = refl
touched_flag false blocks = refl

-- after blocks are stored, the block map of a file is `fit_form`
pub touched_form : (edition : Edition) (old new : ℕ) (blocks : List ℕ) → has_places (kind_of edition old) ≡ true
    → KeepsMode edition old new (is_large edition old || grows_large (form_of edition old) blocks)
    → form_of edition new ≡ fit_form (form_of edition old) blocks
touched_form V6 old new blocks file keeps =
    let after = form_flag V6 old new (is_large V6 old || grows_large (form_of V6 old) blocks) file keeps in
    let before = form_file V6 old file in
    form_file V6 new after
    ∙ (ap (λ t. if t then Large else Small) keeps.flag
    ∙ (ap (λ f. if is_large V6 old || grows_large f blocks then Large else Small) before
    ∙ (touched_flag (is_large V6 old) blocks ∙ sym (ap (λ f. fit_form f blocks) before))))
touched_form V7 old new blocks file keeps =
    let after = form_flag V7 old new (is_large V7 old || grows_large (form_of V7 old) blocks) file keeps in
    let before = form_file V7 old file in
    form_file V7 new after ∙ sym (ap (λ f. fit_form f blocks) before)

-- the fields of an i-node that don't change with the file: all except the size, the addresses and the large flag
pub record KeepsFields (old new : Inode) : Type 0 where
  pub permissions : new.mode.bits % 4096 ≡ old.mode.bits % 4096
  pub links : new.links ≡ old.links
  pub uid : new.uid ≡ old.uid
  pub gid : new.gid ≡ old.gid
  pub accessed : new.accessed ≡ old.accessed
  pub modified : new.modified ≡ old.modified
  pub changed : new.changed ≡ old.changed

-- the bytes of an i-node that don't change with the file
abbrev KeepsBytes : Edition → List ℕ → List ℕ → ℕ → Type 0
KeepsBytes edition old new at = (r : ℕ) → is_kept_byte edition r ≡ true → get_or new (at + r) 0 ≡ get_or old (at + r) 0

-- a sequence of these bytes doesn't change
kept_run : (edition : Edition) (old new : List ℕ) (at from size : ℕ) → KeepsBytes edition old new at
    → ((r : ℕ) → from ≤ r → r < from + size → is_kept_byte edition r ≡ true) → IsCopy old new (at + from) (at + from) size
kept_run edition old new at from size keeps run = record {
  bytes = λ r h.
      let e : at + from + r ≡ at + (from + r) = omega arith in
      ap (λ x. get_or new x 0) e ∙ (keeps (from + r) (run (from + r) (omega arith) (omega arith)) ∙ ap (λ x. get_or old x 0) (sym e));
}

-- the fields of an i-node of the sixth edition don't change
fields_v6 : (old new : List ℕ) (at : ℕ) → KeepsBytes V6 old new at → word new at % 4096 ≡ word old at % 4096
    → KeepsFields (inode_at V6 old at) (inode_at V6 new at)
unfolding inode_at
fields_v6 old new at keeps mode =
    let times = kept_run V6 old new at 24 8 keeps (λ r low high. grind (arith, nat_tests)) in
    record {
      permissions = mode;
      links = keeps 2 refl;
      uid = keeps 3 refl;
      gid = keeps 4 refl;
      accessed = long_copied old new (at + 24) (at + 24) 8 0 (at + 24) (at + 24) times (omega arith) (omega arith) (omega arith);
      modified = long_copied old new (at + 24) (at + 24) 8 4 (at + 28) (at + 28) times (omega arith) (omega arith) (omega arith);
      changed = refl;
    }

-- the fields of an i-node of the seventh edition don't change
fields_v7 : (old new : List ℕ) (at : ℕ) → KeepsBytes V7 old new at → word new at % 4096 ≡ word old at % 4096
    → KeepsFields (inode_at V7 old at) (inode_at V7 new at)
unfolding inode_at
fields_v7 old new at keeps mode =
    let head = kept_run V7 old new at 2 6 keeps (λ r low high. grind (arith, nat_tests)) in
    let times = kept_run V7 old new at 52 12 keeps (λ r low high. grind (arith, nat_tests)) in
    record {
      permissions = mode;
      links = word_copied old new (at + 2) (at + 2) 6 0 (at + 2) (at + 2) head (omega arith) (omega arith) (omega arith);
      uid = word_copied old new (at + 2) (at + 2) 6 2 (at + 4) (at + 4) head (omega arith) (omega arith) (omega arith);
      gid = word_copied old new (at + 2) (at + 2) 6 4 (at + 6) (at + 6) head (omega arith) (omega arith) (omega arith);
      accessed = long_copied old new (at + 52) (at + 52) 12 0 (at + 52) (at + 52) times (omega arith) (omega arith) (omega arith);
      modified = long_copied old new (at + 52) (at + 52) 12 4 (at + 56) (at + 56) times (omega arith) (omega arith) (omega arith);
      changed = ap Some (long_copied old new (at + 52) (at + 52) 12 8 (at + 60) (at + 60) times (omega arith) (omega arith) (omega arith));
    }

-- the fields of an i-node don't change
pub fields_kept : (edition : Edition) (old new : List ℕ) (at : ℕ) → KeepsBytes edition old new at → word new at % 4096 ≡ word old at % 4096
    → KeepsFields (inode_at edition old at) (inode_at edition new at)
fields_kept V6 old new at keeps mode = fields_v6 old new at keeps mode
fields_kept V7 old new at keeps mode = fields_v7 old new at keeps mode

-- if the other fields of an i-node don't change, its node changes only in content and size
pub node_changed : (old new : Inode) (before after : Content) (size : ℕ) → KeepsFields old new → new.size ≡ size
    → node_with new after ≡ record (node_with old before) { content = after; size = size }
node_changed old new before after size fields is = λ k. record {
  content = after;
  permissions = fields.permissions k;
  links = fields.links k;
  uid = fields.uid k;
  gid = fields.gid k;
  size = is k;
  accessed = fields.accessed k;
  modified = fields.modified k;
  changed = fields.changed k;
}
