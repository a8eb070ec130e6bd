use Rattle.std.proofs.Common.{◌≡◌, ◌-◌, ◌∙◌, ◌||◌, sym, ap, subst, arith, true, set}
use Rattle.vol_layout.specs.Edition.{constants}
use Rattle.vol_layout.specs.Geometry.{in_zone}
use Rattle.vol_layout.specs.BlockPointers.{pointer_in}
use Rattle.vol_layout.proofs.BodyLaws.{zone_bounds}
use Rattle.vol_layout.proofs.NameLaws.{entry_in}
use Rattle.vol_judge.specs.Marks.{blocks_from}
use Rattle.vol_judge.proofs.BlocksFrom.{entries_from}
use Rattle.vol_repair.specs.Claims.{Claims}
use Rattle.vol_repair.proofs.Claiming.{claims_zero, claims_clash, claims_leaf, claims_from, claims_start, claims_entry}
use Rattle.vol_repair.proofs.claims.+claim.Goals as goal
use Rattle.vol_repair.proofs.claims.+claim.Goals.{then-clash, else-clash}

pub returns-then-b-eq0 : goal.returns-then-b-eq0
returns-then-b-eq0 t c = claims_zero c.args.geometry.now c.args.image.now c.args.level c.args.b c.args.used.now c.if-b-eq0.true

pub returns-then-is_taken : goal.returns-then-is_taken
returns-then-is_taken t c =
    claims_clash c.args.geometry.now c.args.image.now c.args.level c.args.b c.args.used.now c.if-b-eq0.false
    (c.is_taken.ensures.taken c.if-is_taken.true)

pub returns-then-level-eq0 : goal.returns-then-level-eq0
returns-then-level-eq0 t c =
    let bounds = zone_bounds c.args.geometry.now c.args.b (c.is_taken.ensures.inside c.if-is_taken.false) in
    claims_leaf c.args.geometry.now c.args.image.now c.args.level c.args.b c.args.used.now c.if-b-eq0.false
    (omega (arith, bounds.1, c.requires.len)) c.if-level-eq0.true

pub loop-j-init : goal.loop-j-init
loop-j-init t c = record {
  entries = claims_start c.args.geometry.now c.args.image.now (c.args.level - 1) c.args.b c.next_pointer-j.result (set c.args.used.now c.args.b true)
      c.next_pointer-j.ensures.zeros;
  within = c.next_pointer-j.ensures.within;
}

pub loop-j-preserved : goal.loop-j-preserved
loop-j-preserved t c =
    let g = c.args.geometry.now in
    let image = c.args.image.now in
    let d = c.args.level - 1 in
    let b = c.args.b in
    let j = c.loop-j.j in
    let start = set c.args.used.now b true in
    let new = c.claim.new.used in
    let next = c.next_pointer-j-in-loop-j in
    let zone : in_zone g b ≡ true = c.is_taken.ensures.inside c.if-is_taken.false in
    let is : c.number-entry.result ≡ pointer_in g image b j = c.number-entry.ensures ∙ sym (entry_in g image b j zone) in
    let last : Claims g (blocks_from g image d (pointer_in g image b j)) c.loop-j.used new c.in_ok-below.below =
    subst (λ e. Claims g (blocks_from g image d e) c.loop-j.used new c.in_ok-below.below) is c.in_ok-below.ensures in
    let or : c.if-clash.clash ≡ (c.loop-j.clash || c.in_ok-below.below) = elim c.if-clash.branch [
      | then-clash w ↦ w.clash-is ∙ (w.if-clash.true ∙ sym (ap (λ t. t || c.in_ok-below.below) w.if-clash.true))
      | else-clash w ↦ w.clash-is ∙ sym (ap (λ t. t || c.in_ok-below.below) w.if-clash.false)
    ] in
    record {
      entries = subst (Claims g (entries_from g image d b next.result) start new) (sym or)
          (claims_entry g image d b j next.result start c.loop-j.used new c.loop-j.clash c.in_ok-below.below next.ensures.order next.ensures.zeros
          c.loop-j.invariant.entries last);
      within = next.ensures.within;
    }

pub returns : goal.returns
returns t c =
    let g = c.args.geometry.now in
    let image = c.args.image.now in
    let b = c.args.b in
    let bounds = zone_bounds g b (c.is_taken.ensures.inside c.if-is_taken.false) in
    let all : c.constants-pointers.result.pointers ≡ (constants g.edition).pointers = ap (λ k. k.pointers) c.constants-pointers.ensures in
    let end : c.loop-j.j ≡ (constants g.edition).pointers = omega (arith, all, c.loop-j-test.false, c.loop-j.invariant.within) in
    claims_from g image c.args.level b c.args.used.now c.loop-j.used c.loop-j.clash c.if-b-eq0.false (omega (arith, bounds.1, c.requires.len))
    (omega (arith, c.if-level-eq0.false))
    (subst (λ n. Claims g (entries_from g image (c.args.level - 1) b n) (set c.args.used.now b true) c.loop-j.used c.loop-j.clash) end c.loop-j.invariant.entries)
