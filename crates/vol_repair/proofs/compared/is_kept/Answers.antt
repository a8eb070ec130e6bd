use Rattle.std.proofs.Common.{◌≡◌, ◌<◌, ◌∙◌, sym, ap, min, arith}
use Rattle.std.proofs.lemmas.Bool.{eqb-true}
use Rattle.std.specs.Int.{div_ceil}
use Rattle.vol_layout.specs.Edition.{constants}
use Rattle.vol_layout.specs.Inode.{inode_of, inode_place}
use Rattle.vol_layout.specs.declared.edition.Constants.{Constants}
use Rattle.vol_layout.specs.declared.i_node.Inode.{Inode}
use Rattle.vol_layout.specs.Body.{body_size}
use Rattle.vol_layout.proofs.InodeLaws.{inode_size}
use Rattle.vol_repair.proofs.Comparison.{kept_file}
use Rattle.vol_repair.proofs.compared.is_kept.Goals as goal

pub returns : goal.returns
returns c = λ found.
    let geometry = c.args.geometry.now in
    let old = c.args.old.now in
    let new = c.args.new.now in
    let i = c.args.i in
    let edition = geometry.edition in
    let same : record c.inode.result { links = c.inode-node.result.links } ≡ c.inode-node.result = c.is_same_node.ensures c.if-not-is_same_node.false in
    let size : c.min-bytes.result ≡ body_size geometry old i =
    c.min-bytes.ensures ∙ (ap (λ (node : Inode). min node.size c.constants.result.greatest) c.inode-node.ensures.value
    ∙ (ap (λ (known : Constants). min (inode_of edition old i).size known.greatest) c.constants.ensures
    ∙ ap (λ n. min n (constants edition).greatest) (inode_size edition old (inode_place edition i)))) in
    let end : c.next_block.result ≡ c.div_ceil-end.result = eqb-true _ _ found in
    let count : c.div_ceil-end.result ≡ div_ceil (body_size geometry old i) 512 = c.div_ceil-end.ensures ∙ ap (λ n. div_ceil n 512) size in
    kept_file geometry c.args.changed.now old new i c.requires.old c.requires.agrees
    (ap (λ (node : Inode). record node { links = (inode_of edition old i).links }) (sym c.inode.ensures.value)
    ∙ (ap (λ (node : Inode). record c.inode.result { links = node.links }) (sym c.inode-node.ensures.value) ∙ (same ∙ c.inode-node.ensures.value)))
    (λ b low.
    let inside : b < c.next_block.result = omega (arith, low, end, count) in
    c.next_block.ensures.before b (omega arith) inside)
