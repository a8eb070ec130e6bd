use Rattle.std.proofs.Common.{◌≡◌, ◌-◌, ◌*◌, ◌≤◌, if◌then◌else◌, refl, sym, ap, ◌∙◌, arith, true, inl, inr, ◌∷◌, Some, None}
use Rattle.std.proofs.lemmas.Bool.{cases_eq, eq-eqb, ne_eqb}
use Rattle.pdp_words.specs.Words.{word}
use Rattle.vol_layout.specs.Edition.{constants}
use Rattle.vol_layout.specs.Geometry.{in_zone}
use Rattle.vol_layout.proofs.BodyLaws.{zone_room}
use Rattle.vol_free.specs.FreeWalk.{walk_rest}
use Rattle.vol_free.specs.Walk.{next_count}
use Rattle.vol_free.specs.declared.free_walk.FreeFault.TheVariants.{TooMany, OutOfZone, Repeat}
use Rattle.vol_free.proofs.Stacks.{limit_below}
use Rattle.vol_free.proofs.WalkLaws.{failed, walk_none, walk_many, walk_end, walk_out, walk_again, walk_chain, walk_on}
use Rattle.vol_free.proofs.FreeWalks.{met_most, walk_is, walks_on}
use Rattle.vol_free.proofs.free_walk.FreeWalk.next.Goals.{else-self-eq1-via-then-self-eq1+else-b-eq0, else-self-eq1-via-else-self-eq1}
use Rattle.vol_free.proofs.free_walk.FreeWalk.next.Goals as goal

pub returns-then-self-eq0 : goal.returns-then-self-eq0
returns-then-self-eq0 c = (
  refl,
  refl,
  λ met w. walk_is w None (λ fuel. walk_none c.args.geometry.now c.args.image.now fuel c.args.self.now.head c.args.self.now.count met c.if-self-eq0.true),
)

pub returns-then-self-constants : goal.returns-then-self-constants
returns-then-self-constants c =
    let slots : c.constants.result.free_slots ≡ (constants c.args.geometry.now.edition).free_slots = ap (λ k. k.free_slots) c.constants.ensures in (
      refl,
      refl,
      λ met w. walk_is w (Some (TooMany, c.from.result)) (λ fuel.
          walk_many c.args.geometry.now c.args.image.now fuel c.args.self.now.head c.args.self.now.count met c.if-self-eq0.false (omega (arith, slots, c.if-self-constants.true))
          ∙ ap (failed met TooMany) (sym c.from.ensures)),
    )

pub returns-then-b-eq0 : goal.returns-then-b-eq0
returns-then-b-eq0 c =
    let slots : c.constants.result.free_slots ≡ (constants c.args.geometry.now.edition).free_slots = ap (λ k. k.free_slots) c.constants.ensures in (
      refl,
      refl,
      λ met w. walk_is w None (λ fuel. walk_end c.args.geometry.now c.args.image.now fuel c.args.self.now.head c.args.self.now.count met
          c.number-b.result (sym c.number-b.ensures) c.if-self-eq0.false (omega (arith, slots, c.if-self-constants.false)) c.if-self-eq1.true c.if-b-eq0.true),
    )

pub returns-then-not-in_zone : goal.returns-then-not-in_zone
returns-then-not-in_zone c =
    let slots : c.constants.result.free_slots ≡ (constants c.args.geometry.now.edition).free_slots = ap (λ k. k.free_slots) c.constants.ensures in
    let more : c.args.self.now.count ≡ 1 → c.number-b.result ≡ 0 → ⊥ =
    elim c.else-self-eq1.branch [ else-self-eq1-via-then-self-eq1+else-b-eq0 w ↦ λ one none. w.if-b-eq0.false none | else-self-eq1-via-else-self-eq1 w ↦ λ one none. w.if-self-eq1.false one ] in (
      refl,
      refl,
      λ met w. walk_is w (Some (OutOfZone, c.number-b.result)) (λ fuel. walk_out c.args.geometry.now c.args.image.now fuel c.args.self.now.head c.args.self.now.count met
          c.number-b.result (sym c.number-b.ensures) c.if-self-eq0.false (omega (arith, slots, c.if-self-constants.false)) more
          (sym c.in_zone.ensures ∙ c.if-not-in_zone.true)),
    )

pub returns-then-marks-b : goal.returns-then-marks-b
returns-then-marks-b c =
    let slots : c.constants.result.free_slots ≡ (constants c.args.geometry.now.edition).free_slots = ap (λ k. k.free_slots) c.constants.ensures in
    let more : c.args.self.now.count ≡ 1 → c.number-b.result ≡ 0 → ⊥ =
    elim c.else-self-eq1.branch [ else-self-eq1-via-then-self-eq1+else-b-eq0 w ↦ λ one none. w.if-b-eq0.false none | else-self-eq1-via-else-self-eq1 w ↦ λ one none. w.if-self-eq1.false one ] in
    let zone : in_zone c.args.geometry.now c.number-b.result ≡ true = sym c.in_zone.ensures ∙ c.if-not-in_zone.false in (
      refl,
      refl,
      λ met w. walk_is w (Some (Repeat, c.number-b.result)) (λ fuel. walk_again c.args.geometry.now c.args.image.now fuel c.args.self.now.head c.args.self.now.count met
          c.number-b.result (sym c.number-b.ensures) c.if-self-eq0.false (omega (arith, slots, c.if-self-constants.false)) zone more
          (sym (w.marked c.number-b.result) ∙ c.if-marks-b.true)),
    )

pub pass-requires-clause-few : goal.pass-requires-clause-few
pass-requires-clause-few c = let most = met_most c.requires.walking.1 in omega (arith, most, limit_below c.requires.fits)

pub returns : goal.returns
returns c =
    let g = c.args.geometry.now in
    let image = c.args.image.now in
    let head = c.args.self.now.head in
    let count = c.args.self.now.count in
    let b = c.number-b.result in
    let next = c.pass.new.self in
    let slots : c.constants.result.free_slots ≡ (constants g.edition).free_slots = ap (λ k. k.free_slots) c.constants.ensures in
    let few : count ≤ (constants g.edition).free_slots = omega (arith, slots, c.if-self-constants.false) in
    let more : count ≡ 1 → b ≡ 0 → ⊥ =
    elim c.else-self-eq1.branch [ else-self-eq1-via-then-self-eq1+else-b-eq0 w ↦ λ one none. w.if-b-eq0.false none | else-self-eq1-via-else-self-eq1 w ↦ λ one none. w.if-self-eq1.false one ] in
    let zone : in_zone g b ≡ true = sym c.in_zone.ensures ∙ c.if-not-in_zone.false in
    let space = zone_room g image b c.requires.fits zone in
    let left : next.count ≡ next_count image count b = elim (cases_eq count 1) [
      | inl one ↦ (c.pass.ensures.chain one).1 ∙ sym (ap (λ t. if t then word image (512 * b) else count - 1) (eq-eqb count 1 one))
      | inr two ↦ (c.pass.ensures.array two).1 ∙ sym (ap (λ t. if t then word image (512 * b) else count - 1) (ne_eqb count 1 two))
    ] in
    λ met w.
    let fresh = sym (w.marked b) ∙ c.if-marks-b.false in
    walks_on w next b zone c.if-marks-b.false c.pass.ensures.met left
    (elim (cases_eq count 1) [
      | inl one ↦ let e = (c.pass.ensures.chain one).0 in omega arith
      | inr two ↦ let e = (c.pass.ensures.array two).0 in let r = w.room in omega arith
    ])
    (λ fuel. elim (cases_eq count 1) [
      | inl one ↦ walk_chain g image fuel head count met b (sym c.number-b.ensures) c.if-self-eq0.false few zone more fresh one
          ∙ (λ i. walk_rest g image fuel (sym (c.pass.ensures.chain one).0 i) (sym (c.pass.ensures.chain one).1 i) (b ∷ met))
      | inr two ↦ walk_on g image fuel head count met b (sym c.number-b.ensures) c.if-self-eq0.false few zone more fresh two
          ∙ (λ i. walk_rest g image fuel (sym (c.pass.ensures.array two).0 i) (sym (c.pass.ensures.array two).1 i) (b ∷ met))
    ])
