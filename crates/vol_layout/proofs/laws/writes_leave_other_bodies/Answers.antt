use Rattle.vol_layout.proofs.InodeLaws.{inode_of_kept}
use Rattle.vol_layout.proofs.FrameLaws.{block_keeps_inode, body_apart}
use Rattle.vol_layout.proofs.laws.writes_leave_other_bodies.Goals as goal

pub returns : goal.returns
returns c geometry old new i k fits file zone same apart = (
  inode_of_kept geometry old new i (block_keeps_inode geometry old new k i fits same zone file.first file.last),
  body_apart geometry old new i k fits (block_keeps_inode geometry old new k i fits same zone file.first file.last) same
      (λ q place. apart q (record { file = file; place = place })),
)
