use Rattle.std.proofs.Common.{◌≡◌, ℕ, ◌+◌, ◌-◌, ◌/◌, ◌≤◌, ◌∙◌, ap, sym, refl, arith, rules, List, Bool, if◌then◌else◌}
use Rattle.vol_layout.specs.BlockPointers.{form_at}
use Rattle.vol_layout.specs.BlockMaps.{form_of}
use Rattle.vol_layout.specs.declared.block_map.BlockMap.{BlockMap}
use Rattle.vol_file.specs.Shape.{is_named, touched}
use Rattle.vol_file.specs.Need.{need_of}
use Rattle.vol_file.specs.MissingBlocks.{missing_from, grows_at, grown_form, grown_names}
use Rattle.vol_file.proofs.MissingLaws.{need_some, need_nothing}
use Rattle.vol_file.proofs.blocks_needed.need.Goals as goal

pub returns-then-len-eq0 : goal.returns-then-len-eq0
returns-then-len-eq0 c =
    let form = form_at c.args.geometry.now c.args.image.now c.args.i in
    let names = is_named c.args.geometry.now c.args.image.now c.args.i in
    sym (ap (λ n. need_of form names (touched c.args.offset n)) c.if-len-eq0.true ∙ need_nothing form names)

-- the sum of the missing blocks and the block for the old addresses is the number of blocks needed
summed : (form at : BlockMap) (names : List ℕ → Bool) (grows : Bool) (offset len last missing one : ℕ) → form ≡ at → 1 ≤ len
    → last ≡ (offset + (len - 1)) / 512 → grows ≡ grows_at form last → one ≡ (if grows then 1 else 0)
    → missing ≡ missing_from (grown_form form grows) (grown_names names grows) (offset / 512) (last + 1 - offset / 512)
    → missing + one ≡ need_of at names (touched offset len)
summed form at names grows offset len last missing one same some end large byte count =
    ap (λ n. n + one) count
    ∙ (ap (λ n. missing_from (grown_form form grows) (grown_names names grows) (offset / 512) (last + 1 - offset / 512) + n) byte
    ∙ (ap (λ t. missing_from (grown_form form t) (grown_names names t) (offset / 512) (last + 1 - offset / 512) + (if t then 1 else 0)) large
    ∙ (sym (need_some form names offset len last some end) ∙ ap (λ f. need_of f names (touched offset len)) same)))

pub returns : goal.returns
returns c =
    let geometry = c.args.geometry.now in
    let image = c.args.image.now in
    let same : c.of-form.result ≡ form_at geometry image c.args.i = c.of-form.ensures ∙ ap (form_of geometry.edition) c.mode.ensures in
    let one : c.from.result ≡ (if c.grows_large-grows.result then 1 else 0) = search rules in
    summed c.of-form.result (form_at geometry image c.args.i) (is_named geometry image c.args.i) c.grows_large-grows.result c.args.offset c.args.len
    ((c.args.offset + (c.args.len - 1)) / 512) c.missing_in_range-missing.result c.from.result same (omega arith) refl
    c.grows_large-grows.ensures one c.missing_in_range-missing.ensures.exact
