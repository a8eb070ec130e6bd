use Rattle.std.proofs.Common.{◌≡◌, ◌≢◌, ◌∙◌, ◌+◌, ◌*◌, ◌/◌, ◌%◌, ◌<◌, ap, arith, None, false, refl}
use Rattle.vol_layout.specs.BlockPointers.{form_at, stored}
use Rattle.vol_layout.proofs.NameLaws.{zero_out}
use Rattle.vol_dir.specs.Entries.{entry_at, slot_count}
use Rattle.vol_dir.specs.Search.{is_sought}
use Rattle.vol_dir.specs.declared.entries.Sought.{Sought}
use Rattle.vol_dir.specs.declared.entries.Sought.TheVariants.{Named, Empty, NamedOrEmpty, Any, Other}
use Rattle.vol_dir.proofs.ReadSlots.{entry_in_hole}
use Rattle.vol_dir.proofs.entries.after_hole.Goals as goal

-- a search that isn't for an empty slot skips empty slots
empty_passed : (sought : Sought) → sought ≢ Empty → ((name : _) → sought ≢ NamedOrEmpty name) → is_sought sought None ≡ false
empty_passed (Named name) other neither = refl
empty_passed Empty other neither = absurd (other refl)
empty_passed (NamedOrEmpty name) other neither = absurd (neither name refl)
empty_passed Any other neither = refl
empty_passed Other other neither = refl

pub returns-in_default-clause-passed : goal.returns-in_default-clause-passed
returns-in_default-clause-passed c = λ t low high within.
    let geometry = c.args.geometry.now in
    let image = c.args.image.now in
    let place : t ≡ 32 * (t / 32) + t % 32 = omega arith in
    let count : 32 * (t / 32) + t % 32 < slot_count geometry image c.args.dir = omega arith in
    let empty : stored geometry image c.args.dir (form_at geometry image c.args.dir) (t / 32) ≡ 0 =
    c.next_block.ensures.hole (t / 32) (omega (arith, low)) (omega (arith, high)) in
    ap (λ n. is_sought c.args.sought (entry_at geometry image c.args.dir n)) place
    ∙ (ap (is_sought c.args.sought)
    (entry_in_hole geometry image c.args.dir (t / 32) (t % 32) 0 (omega arith) count empty (zero_out geometry image c.requires.fits))
    ∙ empty_passed c.args.sought c.in_default.not-Empty c.in_default.not-NamedOrEmpty)
