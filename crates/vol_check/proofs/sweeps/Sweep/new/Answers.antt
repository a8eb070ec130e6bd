use Rattle.std.proofs.Common.{◌≡◌, ◌+◌, ◌∙◌, slice_index, sym, ap, subst, slice_index_or, Ok, arith}
use Rattle.std.proofs.lemmas.Result.{IfOk-at_ok}
use Rattle.vol_layout.specs.Geometry.{Fits, geometry_read}
use Rattle.vol_layout.specs.declared.geometry.Geometry.{Geometry}
use Rattle.count_table.specs.declared.rule.TableShape.{TableShape}
use Rattle.count_table.proofs.Totals.{below_none}
use Rattle.vol_check.specs.Parts.{part_count}
use Rattle.vol_check.specs.Shapes.{HasWordsOf, Layout}
use Rattle.vol_check.specs.Layouts.{pieces_in}
use Rattle.vol_check.proofs.Layouts.{laid_out, counted_in}
use Rattle.vol_check.proofs.SameHeads.{read_same, starts_same, links_same}
use Rattle.vol_check.proofs.Draws.{fresh_own, fresh_knows}
use Rattle.vol_check.proofs.sweeps.Sweep.new.Goals as goal

pub invariant_of-result : goal.invariant_of-result
invariant_of-result c =
    let key = c.in_ok-tally.ensures.shape in
    let image = c.args.image.now in
    record {
      shaped = record {
        count = ap (λ (s : TableShape). s.pieces) key ∙ c.shape_for.ensures.pieces;
        ready = λ g is. record {
          bounds = laid_out g image (IfOk-at_ok (λ g. Fits g image) is c.read-layout.ensures.fits);
          words = subst (HasWordsOf c.args.checker g) (sym key) (c.shape_for.ensures.words g is);
          parts = λ other.
              let starts = c.in_ok-starts.ensures g is other in
              let value = c.deref.ensures.value in record {
                wide = starts.wide;
                first = starts.at 0 (omega arith) ∙ below_none (λ k. part_count g image (k + 1));
                last = sym (c.piece_count-pieces.ensures.parts g is other ∙ ap (λ xs. slice_index xs g.last_inode) value);
              };
          counts = λ e. (c.in_ok-links.ensures g is e).wide;
        };
        none = c.piece_count-pieces.ensures.none;
      };
    }

pub returns-clause-own : goal.returns-clause-own
returns-clause-own c = λ k d lt. fresh_own c.in_ok-tally.tally (slice_index_or c.in_ok-dealt.dealt.items k d) (c.in_ok-dealt.ensures.fresh k d lt)

pub returns-clause-knows : goal.returns-clause-knows
returns-clause-knows c = λ bytes k d lt.
    fresh_knows c.in_ok-tally.tally c.args.checker c.read-layout.result bytes (slice_index_or c.in_ok-dealt.dealt.items k d) (c.in_ok-dealt.ensures.fresh k d lt)

pub returns-clause-others : goal.returns-clause-others
returns-clause-others c = λ other same.
    let image = c.args.image.now in
    let exact = c.read-layout.ensures.exact in
    let fits : (g : Geometry) → geometry_read c.args.edition image ≡ Ok g → Fits g image =
    λ g is. IfOk-at_ok (λ g. Fits g image) (exact ∙ is) c.read-layout.ensures.fits in
    record {
      read = read_same c.args.edition image other same fits ∙ sym exact;
      starts = λ g is checker.
          let read = sym exact ∙ is in
          starts_same c.args.edition image other same g read (fits g read) c.in_ok-starts.starts.items (c.in_ok-starts.ensures g is checker);
      links = λ g is checker.
          let read = sym exact ∙ is in
          links_same c.args.edition image other same g read (fits g read) c.in_ok-links.links.items (c.in_ok-links.ensures g is checker);
    }

pub returns-clause-pieces : goal.returns-clause-pieces
returns-clause-pieces c =
    let image = c.args.image.now in
    ap (λ (s : TableShape). s.pieces) c.in_ok-tally.ensures.shape
    ∙ (c.shape_for.ensures.pieces
    ∙ (counted_in c.args.checker c.read-layout.result image c.piece_count-pieces.result c.piece_count-pieces.ensures.blocks
    (λ g is other. c.piece_count-pieces.ensures.parts g is other
    ∙ (ap (λ xs. slice_index xs g.last_inode) c.deref.ensures.value ∙ (c.in_ok-starts.ensures g is other).at g.last_inode (omega arith)))
    c.piece_count-pieces.ensures.none
    ∙ ap (λ (x : Layout). pieces_in c.args.checker x image) c.read-layout.ensures.exact))
