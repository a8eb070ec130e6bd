use Rattle.std.proofs.Common.{◌≡◌, ℕ, ◌+◌, ◌<◌, ◌≤◌, ◌∙◌, sym, ap, subst, arith, get_or, inl, inr}
use Rattle.std.proofs.lemmas.Bool.{cases_lt}
use Rattle.vol_layout.specs.Edition.{constants}
use Rattle.vol_layout.specs.Inode.{IsStorable, inode_place}
use Rattle.vol_layout.specs.declared.edition.Edition.TheVariants as editions
use Rattle.vol_layout.specs.Super.{free_head, time_place}
use Rattle.vol_layout.proofs.CopyLaws.{IsCopy}
use Rattle.vol_layout.proofs.InodeLaws.{place_from}
use Rattle.vol_free.proofs.Stacks.{head_end}
use Rattle.vol_layout.proofs.EditionLaws.{super_order}
use Rattle.vol_mkfs.proofs.NewSizes.{start_limit, sizes_kept, time_kept}
use Rattle.vol_mkfs.proofs.NewVolumes.{root_storable}
use Rattle.vol_mkfs.proofs.blank.first.fill.Goals as goal

pub put_root-requires-clause-storable : goal.put_root-requires-clause-storable
put_root-requires-clause-storable c =
    let geometry = c.args.geometry.now in
    subst (IsStorable geometry.edition) (sym c.root_inode.ensures)
    (root_storable geometry.edition geometry.zone_start c.args.uid c.args.gid c.args.now (start_limit geometry c.requires.makeable) c.requires.id)

pub returns : goal.returns
returns c =
    let edition = c.args.geometry.now.edition in
    let root = (constants edition).root in
    let listed = c.put_free_list.new.image in
    let sized = c.put_super.new.image in
    let all = c.put_root.new.image in
    let head : free_head edition + 202 ≤ 720 = head_end edition in
    let within = super_order edition in
    let place : 1024 ≤ inode_place edition root = place_from edition root in
    let super : (k : ℕ) → k < 1024 → get_or all k 0 ≡ get_or sized k 0 = λ k h. c.put_root.ensures.before k (omega arith) in
    let sizes = sizes_kept edition sized all (λ k h. super k (omega arith)) in
    let time : IsCopy sized all (time_place edition) (time_place edition) 4 = record { bytes = λ r h. super (time_place edition + r) (omega arith) } in
    let free : (k : ℕ) → free_head edition ≤ k → k < free_head edition + 202 → get_or all k 0 ≡ get_or listed k 0 =
    λ k from to. super k (omega arith) ∙ c.put_super.ensures.kept k from to in
    let zero : (k : ℕ) → 1024 ≤ k → get_or sized k 0 ≡ 0 =
    λ k from. c.put_super.ensures.others.above k from ∙ (c.put_free_list.ensures.others.above k (omega arith) ∙ c.requires.zeros k) in
    record {
      len = c.put_root.ensures.len ∙ (c.put_super.ensures.others.len ∙ (c.put_free_list.ensures.others.len ∙ c.requires.len));
      start = sizes.0 ∙ c.put_super.ensures.list_size;
      end = sizes.1 ∙ c.put_super.ensures.block_count;
      time = time_kept edition sized all time ∙ c.put_super.ensures.time;
      root = c.put_root.ensures.root ∙ c.root_inode.ensures;
      dot = c.put_root.ensures.dot;
      dot_dot = c.put_root.ensures.dot_dot;
      before = λ k from to. c.put_root.ensures.before k to ∙ zero k from;
      behind = λ k from to. c.put_root.ensures.behind k from to ∙ zero k (omega arith);
      unused = λ seventh. c.put_root.ensures.unused seventh ∙ zero (inode_place editions.V7 (constants editions.V7).root + 51) (omega arith);
      rest = λ k blank. elim (cases_lt k 1024) [
        | inl early ↦
            let listed_at : get_or listed k 0 ≡ get_or c.args.image.now k 0 = elim (cases_lt k (free_head edition)) [
              | inl below ↦ c.put_free_list.ensures.others.below k below
              | inr from ↦ elim (cases_lt k (free_head edition + 202)) [
                | inl within ↦ absurd (blank.free from within)
                | inr above ↦ c.put_free_list.ensures.others.above k above
              ]
            ] in
            super k early ∙ (c.put_super.ensures.rest k blank.sizes blank.time ∙ (listed_at ∙ c.requires.zeros k))
        | inr late ↦ elim (cases_lt k (inode_place edition root)) [
          | inl below ↦ c.put_root.ensures.before k below ∙ zero k late
          | inr from ↦ elim (cases_lt k (inode_place edition root + (constants edition).inode_bytes)) [
            | inl within ↦ absurd (blank.root from within)
            | inr past ↦ elim (cases_lt k 1536) [
              | inl low ↦ c.put_root.ensures.behind k past low ∙ zero k late
              | inr high ↦ elim (cases_lt k 1568) [
                | inl named ↦ absurd (blank.names high (omega arith))
                | inr after ↦ c.put_root.ensures.after k after ∙ zero k late
              ]
            ]
          ]
        ]
      ];
      none = λ one.
          let low : get_or all (free_head edition) 0 ≡ 0 =
          free (free_head edition) (omega arith) (omega arith)
          ∙ (ap (λ xs. get_or xs (free_head edition) 0) (c.put_free_list.ensures.none one) ∙ c.requires.zeros (free_head edition)) in
          let high : get_or all (free_head edition + 1) 0 ≡ 0 =
          free (free_head edition + 1) (omega arith) (omega arith)
          ∙ (ap (λ xs. get_or xs (free_head edition + 1) 0) (c.put_free_list.ensures.none one) ∙ c.requires.zeros (free_head edition + 1)) in
          omega arith;
      head = λ more. record {
        bytes = λ r h. free (free_head edition + r) (omega arith) (omega arith) ∙ (c.put_free_list.ensures.head more).bytes r h;
      };
    }
