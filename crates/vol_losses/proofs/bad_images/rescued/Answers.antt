use Rattle.std.proofs.Common.{◌≡◌, ◌⊎◌, ℕ, [], ◌*◌, ◌/◌, ◌+◌, ◌<◌, ◌≤◌, ◌∙◌, ◌||◌, not, true, nat_le, length, get_or, ap, arith, subst, sym}
use Rattle.std.specs.List.{list_any}
use Rattle.vol_losses.specs.BadImages.{IsCleared, is_block_known}
use Rattle.vol_losses.specs.CutImages.{IsCompleted, IsIncomplete}
use Rattle.vol_losses.specs.Losses.{is_lost}
use Rattle.vol_losses.proofs.BadLaws.{incomplete_stated, sized_more}
use Rattle.vol_losses.proofs.BadMarks.{completed_more, lost_or_read, read_or_zero}
use Rattle.vol_losses.proofs.bad_images.rescued.Goals as goal

pub returns-in-Err-clause-fault : goal.returns-in-Err-clause-fault
returns-in-Err-clause-fault c =
    let ranges = c.args.ranges.now in
    let at = c.args.at in
    let bytes = c.args.bytes.items in
    let unread = c.in-Ok.unread.items in
    let size : c.len-blocks.result ≡ length bytes = omega (arith, c.len-blocks.ensures, c.args.bytes.ok.0) in
    let read : (k : ℕ) → k < length bytes / 512 → is_lost unread k ≡ not (is_block_known c.args.sizes ranges at k) =
    λ k inside. c.in-Ok.ensures.marks k (subst (λ n. k < n / 512) (sym size) inside) in
    let zeros : IsCleared c.args.sizes ranges at bytes c.cleared.result = record {
      count = c.cleared.ensures.count;
      block = λ k r inside low.
          c.cleared.ensures.bytes k r inside low
          ∙ read_or_zero (is_lost c.deref.result.now k) (is_block_known c.args.sizes ranges at k) (get_or bytes (512 * k + r) 0)
          (ap (λ marks. is_lost marks k) c.deref.ensures.value ∙ read k inside);
    } in
    incomplete_stated c.args.edition ranges at c.args.sizes bytes c.cleared.result c.in_ok-stated.stated c.in-Err.fault zeros c.in_ok-stated.ensures.done
    (subst (λ xs. IsIncomplete c.args.edition xs c.in-Err.fault) c.into_bytes.ensures c.in-Err.ensures.fault)

pub marks_of-requires : goal.marks_of-requires
marks_of-requires c =
    let bytes = c.args.bytes.items in
    let image = c.in-Ok-completed.cut.image in
    let stated = c.in_ok-stated.stated in
    let size : c.len-blocks.result ≡ length bytes = omega (arith, c.len-blocks.ensures, c.args.bytes.ok.0) in
    let few : length c.in-Ok.unread.items ≡ length bytes / 512 = c.in-Ok.ensures.count ∙ ap (λ n. n / 512) size in
    let count : length c.cleared.result ≡ 512 * (length bytes / 512) = c.cleared.ensures.count in
    let more : length c.cleared.result ≤ length stated = sized_more c.args.sizes c.args.edition c.cleared.result stated c.in_ok-stated.ensures.done in
    let all : length stated / 512 ≤ length image / 512 =
    completed_more c.args.edition stated image c.in-Ok-completed.cut.lost.items
    (subst (λ xs. IsCompleted c.args.edition xs image c.in-Ok-completed.cut.lost.items) c.into_bytes.ensures c.in-Ok-completed.ensures.done) in
    let end : c.len.result ≡ length image = c.len.ensures in
    omega (arith, few, count, more, all, end)

pub returns-in-Ok-marks_of-clause-done : goal.returns-in-Ok-marks_of-clause-done
returns-in-Ok-marks_of-clause-done c =
    let ranges = c.args.ranges.now in
    let at = c.args.at in
    let bytes = c.args.bytes.items in
    let unread = c.in-Ok.unread.items in
    let image = c.in-Ok-completed.cut.image in
    let lost = c.in-Ok-marks_of.lost.items in
    let size : c.len-blocks.result ≡ length bytes = omega (arith, c.len-blocks.ensures, c.args.bytes.ok.0) in
    let few : length unread ≡ length bytes / 512 = c.in-Ok.ensures.count ∙ ap (λ n. n / 512) size in
    let read : (k : ℕ) → k < length bytes / 512 → is_lost unread k ≡ not (is_block_known c.args.sizes ranges at k) =
    λ k inside. c.in-Ok.ensures.marks k (subst (λ n. k < n / 512) (sym size) inside) in
    record {
      cleared = c.cleared.result;
      zeros = record {
        count = c.cleared.ensures.count;
        block = λ k r inside low.
            c.cleared.ensures.bytes k r inside low
            ∙ read_or_zero (is_lost c.deref.result.now k) (is_block_known c.args.sizes ranges at k) (get_or bytes (512 * k + r) 0)
            (ap (λ marks. is_lost marks k) c.deref.ensures.value ∙ read k inside);
      };
      stated = c.in_ok-stated.stated;
      sized = c.in_ok-stated.ensures.done;
      missing = c.in-Ok-completed.cut.lost.items;
      completed = subst (λ xs. IsCompleted c.args.edition xs image c.in-Ok-completed.cut.lost.items) c.into_bytes.ensures c.in-Ok-completed.ensures.done;
      marks = λ k inside.
          c.in-Ok-marks_of.ensures.marks k (subst (λ n. k < n / 512) (sym c.len.ensures) inside)
          ∙ (ap (λ n. nat_le n k || is_lost unread k) few
          ∙ lost_or_read (length bytes / 512) k (is_lost unread k) (is_block_known c.args.sizes ranges at k) (read k));
      count = subst (λ n. (lost ≡ []) ⊎ ((length lost ≡ n / 512) × (list_any (λ mark. mark) lost ≡ true))) c.len.ensures c.in-Ok-marks_of.ensures.count;
    }
