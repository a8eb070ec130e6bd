use Rattle.std.proofs.Common.{rules, ◌≡◌, ℕ, ◌+◌, ◌∙◌, List, get_or, arith, subst, ap}
use Rattle.pdp_words.specs.Words.{SameOutside}
use Rattle.vol_layout.specs.Edition.{constants}
use Rattle.vol_layout.specs.Inode.{inode_place, inode_of}
use Rattle.vol_layout.specs.declared.edition.Edition.{Edition}
use Rattle.vol_layout.specs.declared.edition.Edition.TheVariants.{V7}
use Rattle.vol_layout.proofs.CopyLaws.{copy_below}
use Rattle.vol_layout.proofs.InodeLaws.{inode_copied}
use Rattle.vol_layout.proofs.SlotLaws.{slot_copied, slot_stored}
use Rattle.vol_mkfs.proofs.BlankVolumes.{root_end}
use Rattle.vol_mkfs.proofs.blank.first.put_root.Goals as goal

pub returns-clause-root : goal.returns-clause-root
returns-clause-root c =
    let root = (constants c.args.edition).root in
    let at = inode_place c.args.edition root in
    let size = (constants c.args.edition).inode_bytes in
    let end = root_end c.args.edition in
    let is : c.constants-root.result.root ≡ root = ap (λ k. k.root) c.constants-root.ensures in
    let same : c.volume_of.result.edition ≡ c.args.edition = ap (λ g. g.edition) c.volume_of.ensures.value in
    let node = c.put_inode.new.image in
    let put : inode_of c.args.edition node root ≡ c.args.node.now =
    subst (λ (e : Edition). inode_of e node root ≡ c.args.node.now) same
    (subst (λ (i : ℕ). inode_of c.volume_of.result.edition node i ≡ c.args.node.now) is c.put_inode.ensures.put) in
    inode_copied c.args.edition c.put_bytes.new.self c.put_bytes-2.new.self at at
    (copy_below c.put_bytes.new.self c.put_bytes-2.new.self _ _ at size c.put_bytes-2.ensures.others (omega arith))
    ∙ (inode_copied c.args.edition node c.put_bytes.new.self at at (copy_below node c.put_bytes.new.self _ _ at size c.put_bytes.ensures.others (omega arith)) ∙ put)

pub returns-clause-dot : goal.returns-clause-dot
returns-clause-dot c =
    slot_copied c.put_bytes.new.self c.put_bytes-2.new.self 1536 1536
    (copy_below c.put_bytes.new.self c.put_bytes-2.new.self _ _ 1536 16 c.put_bytes-2.ensures.others (omega arith)) (omega arith) (omega arith)
    ∙ (slot_stored c.put_bytes.new.self c.to_bytes.result 1536 (omega arith) (omega arith) c.put_bytes.ensures.put
    ∙ (c.to_bytes.ensures.slot ∙ search rules))

pub returns-clause-dot_dot : goal.returns-clause-dot_dot
returns-clause-dot_dot c =
    slot_stored c.put_bytes-2.new.self c.to_bytes-2.result 1552 (omega arith) (omega arith) c.put_bytes-2.ensures.put
    ∙ (c.to_bytes-2.ensures.slot ∙ search rules)

pub returns-clause-before : goal.returns-clause-before
returns-clause-before c k h =
    let root = (constants c.args.edition).root in
    let end = root_end c.args.edition in
    let is : c.constants-root.result.root ≡ root = ap (λ k. k.root) c.constants-root.ensures in
    let same : c.volume_of.result.edition ≡ c.args.edition = ap (λ g. g.edition) c.volume_of.ensures.value in
    let old = c.args.image.now in
    let node = c.put_inode.new.image in
    let others : SameOutside old node (inode_place c.args.edition root) (inode_place c.args.edition root + (constants c.args.edition).inode_bytes) =
    subst (λ (e : Edition). SameOutside old node (inode_place e root) (inode_place e root + (constants e).inode_bytes)) same
    (subst (λ (i : ℕ). SameOutside old node (inode_place c.volume_of.result.edition i)
    (inode_place c.volume_of.result.edition i + (constants c.volume_of.result.edition).inode_bytes)) is c.put_inode.ensures.others) in
    c.put_bytes-2.ensures.others.below k (omega arith) ∙ (c.put_bytes.ensures.others.below k (omega arith) ∙ others.below k h)

-- writing the root's i-node changes no other bytes
node_others : (of edition : Edition) (i : ℕ) (old new : List ℕ) → of ≡ edition → i ≡ (constants edition).root
    → SameOutside old new (inode_place of i) (inode_place of i + (constants of).inode_bytes)
    → SameOutside old new (inode_place edition (constants edition).root) (inode_place edition (constants edition).root + (constants edition).inode_bytes)
node_others of edition i old new same is others =
    subst (λ (e : Edition). SameOutside old new (inode_place e (constants edition).root) (inode_place e (constants edition).root + (constants e).inode_bytes)) same
    (subst (λ (n : ℕ). SameOutside old new (inode_place of n) (inode_place of n + (constants of).inode_bytes)) is others)

pub returns-clause-after : goal.returns-clause-after
returns-clause-after c k h =
    let is : c.constants-root.result.root ≡ (constants c.args.edition).root = ap (λ k. k.root) c.constants-root.ensures in
    let same : c.volume_of.result.edition ≡ c.args.edition = ap (λ g. g.edition) c.volume_of.ensures.value in
    let node = node_others c.volume_of.result.edition c.args.edition c.constants-root.result.root c.args.image.now c.put_inode.new.image same is c.put_inode.ensures.others in
    let end = root_end c.args.edition in
    c.put_bytes-2.ensures.others.above k (omega arith) ∙ (c.put_bytes.ensures.others.above k (omega arith) ∙ node.above k (omega arith))

pub returns-clause-unused : goal.returns-clause-unused
returns-clause-unused c seventh =
    let is : c.constants-root.result.root ≡ (constants V7).root = ap (λ k. k.root) c.constants-root.ensures ∙ ap (λ e. (constants e).root) seventh in
    let same : c.volume_of.result.edition ≡ V7 = ap (λ g. g.edition) c.volume_of.ensures.value ∙ seventh in
    c.put_bytes-2.ensures.others.below 1139 (omega arith) ∙ (c.put_bytes.ensures.others.below 1139 (omega arith)
    ∙ subst (λ (n : ℕ). get_or c.put_inode.new.image (inode_place V7 n + 51) 0 ≡ get_or c.args.image.now (inode_place V7 n + 51) 0) is (c.put_inode.ensures.unused same))
