use Rattle.std.proofs.Common.{◌≡◌, ◌+◌, ◌-◌, ◌≤◌, ◌∙◌, ap, sym, arith, slice_index}
use Rattle.vol_layout.specs.Edition.{constants}
use Rattle.vol_layout.specs.declared.edition.Constants.{Constants}
use Rattle.vol_layout.specs.BlockPointers.{pointer_in, stored}
use Rattle.vol_file.specs.Holes.{direct_count}
use Rattle.vol_file.specs.Runs.{number_from}
use Rattle.vol_file.specs.declared.runs.PointerRun.TheVariants.{Inode}
use Rattle.vol_file.proofs.Indexes.{way_address, way_entry}
use Rattle.vol_file.proofs.Subtrees.{stored_direct, hole_past, few_entries, few_pointers, low_block}
use Rattle.vol_file.proofs.RunLaws.{deep_way, stored_behind, few_direct}
use Rattle.vol_file.proofs.runs.run_from.Goals as goal

pub returns-then-b-direct-clause-run : goal.returns-then-b-direct-clause-run
returns-then-b-direct-clause-run c =
    let few = few_direct c.args.form in
    record {
      room = λ x low high. omega (arith, few, c.direct_count-direct.ensures);
      numbers = λ x low high.
          let at : x ≡ c.args.b + (x - c.args.b) = omega arith in
          stored_direct c.args.geometry.now c.args.image.now c.args.i c.args.form x (omega (arith, c.direct_count-direct.ensures))
          ∙ ap (number_from c.args.geometry.now c.args.image.now c.args.i Inode) at;
    }

pub returns-in_default-clause-run : goal.returns-in_default-clause-run
returns-in_default-clause-run c = record {
  room = λ x low high. tt;
  numbers = λ x low high. hole_past c.args.geometry.now c.args.image.now c.args.i c.args.form c.args.b (x + 1) (sym c.in_default.ensures.end) x low (omega arith);
}

pub overflow_sub-above : goal.overflow_sub-above
overflow_sub-above c =
    let behind : direct_count c.args.form ≤ c.args.b = omega (arith, c.direct_count-direct.ensures, c.if-b-direct.false) in
    deep_way c.args.form c.args.b c.in-Some.way behind c.in-Some.ensures.end

pub overflow_sub-result-3 : goal.overflow_sub-result-3
overflow_sub-result-3 c =
    let behind : direct_count c.args.form ≤ c.args.b = omega (arith, c.direct_count-direct.ensures, c.if-b-direct.false) in
    let deep = deep_way c.args.form c.args.b c.in-Some.way behind c.in-Some.ensures.end in
    let few = few_entries c.args.geometry.now c.args.image.now c.args.i c.args.form c.args.b c.in-Some.way c.requires.form c.in-Some.ensures.end
    (c.in-Some.way.depth - 1) (omega arith) in
    let same : (constants c.args.geometry.now.edition).pointers ≡ c.constants.result.pointers = ap (λ (of : Constants). of.pointers) (sym c.constants.ensures) in
    omega (arith, few, same)

pub overflow_add-result : goal.overflow_add-result
overflow_add-result c =
    let same : (constants c.args.geometry.now.edition).pointers ≡ c.constants.result.pointers = ap (λ (of : Constants). of.pointers) (sym c.constants.ensures) in
    omega (arith, low_block c.args.form c.args.b _ (sym c.in-Some.ensures.end), few_pointers c.args.geometry.now.edition, same)

pub follow-requires-clause-address : goal.follow-requires-clause-address
follow-requires-clause-address c = way_address c.args.form c.args.b c.in-Some.way c.in-Some.ensures.end

pub follow-requires-clause-entries : goal.follow-requires-clause-entries
follow-requires-clause-entries c = λ d h.
    way_entry c.args.geometry.now c.args.image.now c.args.i c.args.form c.args.b c.in-Some.way d c.requires.form c.in-Some.ensures.end (omega arith)

pub returns-clause-run : goal.returns-clause-run
returns-clause-run c =
    let geometry = c.args.geometry.now in
    let image = c.args.image.now in
    let way = c.in-Some.way in
    let behind : direct_count c.args.form ≤ c.args.b = omega (arith, c.direct_count-direct.ensures, c.if-b-direct.false) in
    let deep = deep_way c.args.form c.args.b way behind c.in-Some.ensures.end in
    let few = few_entries geometry image c.args.i c.args.form c.args.b way c.requires.form c.in-Some.ensures.end (way.depth - 1) (omega arith) in
    let same : (constants geometry.edition).pointers ≡ c.constants.result.pointers = ap (λ (of : Constants). of.pointers) (sym c.constants.ensures) in
    record {
      room = λ x low high. omega (arith, few, same);
      numbers = λ x low high.
          let at : x ≡ c.args.b + (x - c.args.b) = omega arith in
          ap (stored geometry image c.args.i c.args.form) at
          ∙ (stored_behind geometry image c.args.i c.args.form c.args.b (way.depth - 1) (x - c.args.b) way c.requires.form behind c.in-Some.ensures.end (omega arith)
          (omega (arith, few, same)) ∙ ap (λ m. pointer_in geometry image m (slice_index way.entries (way.depth - 1) + (x - c.args.b))) (sym c.follow.ensures));
    }
