-- The result of a run of `mkfs`, from the volume that was made and whether it was saved.
use Rattle.std.proofs.Common.{◌≡◌, ◌≢◌, ◌↔◌, ◌⊎◌, ◌∙◌, ℕ, zero, suc, ◌≤◌, true≢false, true, false, List, Option, None, Some, IsSome, IfSome, inl, inr, ap, sym, subst, arith}
use Rattle.std.specs.Io.KnownBytes.{Keeps}
use Rattle.vol_mkfs.specs.Blank.{Blank, blank_of, IsMade}
use Rattle.vol_mkfs.specs.Mkfs.{is_size}
use Rattle.vol_layout.specs.Ids.{is_bad_id}
use Rattle.command_faults.specs.Streams.{Streams}
use Rattle.command_changes.specs.Mkfs.{mkfs_line_at}
use Rattle.command_changes.specs.declared.mkfs.MadeVolume.{MadeVolume}
use Rattle.vol_mkfs.specs.declared.blank.NewVolume.{NewVolume}
use Rattle.unixvol.specs.Runs.{IsStatusOfFileOrMemory, MadeSaved, RunsMkfs}

-- if the volume that was made is the requested one and it was saved, the requested one was saved
taken_whole : (made : Option Blank) (wanted : Blank) (taken : List ℕ → Type 0) → IfSome made (λ blank. blank ≡ wanted)
    → IfSome made (λ blank. (bytes : List ℕ) × IsMade blank bytes × taken bytes) → IsSome made
    → (bytes : List ℕ) × IsMade wanted bytes × taken bytes
taken_whole None wanted taken is took some = absurd (true≢false (sym some))
taken_whole (Some blank) wanted taken is took some = (took.0, subst (λ b. IsMade b took.0) is took.1, took.2)

-- the status of `mkfs` is at most 4 and isn't 2, if it is 0, 1 or 4
own_within : (status : ℕ) → (status ≢ 0 → status ≢ 1 → status ≡ 4) → (status ≤ 4) × (status ≢ 2)
own_within zero other = (omega arith, λ e. omega arith)
own_within (suc zero) other = (omega arith, λ e. omega arith)
own_within (suc (suc n)) other =
    let four : suc (suc n) ≡ 4 = other (λ e. omega arith) (λ e. omega arith) in (omega arith, λ e. omega arith)

-- the status if a file can't be read or written, or memory ran out, is 3 or 4
file_within : (status : ℕ) → IsStatusOfFileOrMemory status → (3 ≤ status) × (status ≤ 4)
file_within status file = elim file [ inl e ↦ (omega arith, omega arith) | inr e ↦ (omega arith, omega arith) ]

-- the result of `mkfs` satisfies `RunsMkfs`, whether the volume was saved or not
pub runs_by : (streams : Streams) (taken : List ℕ → Type 0) (volume : NewVolume) (made : MadeVolume) (status : ℕ)
    → IfSome made.volume (λ blank. blank ≡ blank_of volume)
    → (made.status ≡ 0 ↔ IsSome made.volume)
    → (made.status ≡ 1 ↔ ((is_size volume.edition volume.blocks volume.list_blocks ≡ false) ⊎ (is_bad_id volume.edition volume.uid volume.gid ≡ true)))
    → (made.status ≢ 0 → made.status ≢ 1 → made.status ≡ 4) → Keeps streams.old streams.new → streams.failed ≡ streams.had_failed
    → streams.lines ≡ mkfs_line_at (is_size volume.edition volume.blocks volume.list_blocks) made.status → MadeSaved taken made status
    → RunsMkfs streams taken volume status
runs_by streams taken volume made status is done refused memory unprinted unused line saved = elim saved [
  | inl own ↦ record {
    unprinted = unprinted;
    unused = unused;
    refused = (λ e. refused.0 (sym own.0 ∙ e), λ wrong. own.0 ∙ refused.1 wrong);
    within = subst (λ n. (n ≤ 4) × (n ≢ 2)) (sym own.0) (own_within made.status memory);
    made = λ e. taken_whole made.volume _ taken is own.1 (done.0 (sym own.0 ∙ e));
    quiet = λ e. line ∙ ap (mkfs_line_at (is_size volume.edition volume.blocks volume.list_blocks)) (sym own.0 ∙ e);
    told = λ e. line ∙ ap (mkfs_line_at (is_size volume.edition volume.blocks volume.list_blocks)) (sym own.0 ∙ e);
    unsaved = λ e.
        let four : made.status ≡ 4 = memory (λ z. omega (arith, own.0, e)) (λ o. omega (arith, own.0, e)) in absurd (omega (arith, own.0, e));
    wanting = λ e. inr (line ∙ ap (mkfs_line_at (is_size volume.edition volume.blocks volume.list_blocks)) (sym own.0 ∙ e));
  }
  | inr file ↦
      let whole : made.status ≡ 0 = done.1 file.0 in
      let range = file_within status file.1 in
      record {
        unprinted = unprinted;
        unused = unused;
        refused = (λ e. absurd (omega (arith, range.0)), λ wrong. let one : made.status ≡ 1 = refused.1 wrong in absurd (omega arith));
        within = (range.1, λ e. omega (arith, range.0));
        made = λ e. absurd (omega (arith, range.0));
        quiet = λ e. absurd (omega (arith, range.0));
        told = λ e. absurd (omega (arith, range.0));
        unsaved = λ e. line ∙ ap (mkfs_line_at (is_size volume.edition volume.blocks volume.list_blocks)) whole;
        wanting = λ e. inl (line ∙ ap (mkfs_line_at (is_size volume.edition volume.blocks volume.list_blocks)) whole);
      }
]
