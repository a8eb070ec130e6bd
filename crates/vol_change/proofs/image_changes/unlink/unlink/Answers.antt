use Rattle.std.proofs.Common.{◌≡◌, ◌≢◌, ℕ, ◌<◌, ◌≤◌, arith, ◌∙◌, ap, subst, ◌++◌, sym, nat_le, if◌then◌else◌, true, false}
use Rattle.std.proofs.lemmas.Bool.Decides.{nat_tests}
use Rattle.vol_layout.specs.Inode.{inode_of}
use Rattle.vol_dir.specs.Tree.{place_count, shapes, state}
use Rattle.vol_file.specs.Rules.{kind_at}
use Rattle.vol_change.proofs.OneNode.{content_then, bytes_stay}
use Rattle.vol_change.proofs.FreeAfter.{count_left}
use Rattle.vol_change.proofs.FreeLists.{freed_kept}
use Rattle.vol_change.specs.Edits.{drop_link}
use Rattle.vol_change.specs.Changed.{Changed, FreeBecomes, IsAny, as_before, blocks_freed}
use Rattle.vol_change.specs.Alone.{KeepsContent}
use Rattle.vol_change.specs.Unused.{IsCleared, KeepsUnused}
use Rattle.vol_change.proofs.UnusedBytes.{unused_then}
use Rattle.vol_change.specs.Effects.{after_unlink}
use Rattle.vol_change.proofs.CallSteps.{HasMade, changed}
use Rattle.vol_change.proofs.EntryNodes.{name_there, named_used, used_first, file_above}
use Rattle.vol_change.proofs.LeftNodes.{LeavesEntry, left_same, left_used, made_unnamed, made_unlinked}
use Rattle.vol_change.proofs.ReadyLaws.{directory_kept, ready_directory}
use Rattle.vol_change.proofs.UnusedNodes.{time_unused, time_cleared}
use Rattle.vol_change.proofs.image_changes.unlink.unlink.Goals as goal
use Rattle.vol_change.proofs.image_changes.unlink.unlink.Goals.{After-put_time, then-inode-le1, else-inode-le1}

pub leave-requires-clause-directory : goal.leave-requires-clause-directory
leave-requires-clause-directory c = ready_directory _ _ _ c.requires.ready c.requires.directory

pub leave-requires-clause-there : goal.leave-requires-clause-there
leave-requires-clause-there c = name_there c.args.geometry.now c.args.image.now c.args.name.now c.args.dir c.args.i c.requires.directory c.requires.named

pub inode-requires-clause-first : goal.inode-requires-clause-first
inode-requires-clause-first c = used_first _ _ _ (named_used c.args.geometry.now c.args.image.now c.args.name.now c.args.dir c.args.i c.requires.ready c.requires.directory c.requires.named)

pub inode-requires-clause-last : goal.inode-requires-clause-last
inode-requires-clause-last c = (named_used c.args.geometry.now c.args.image.now c.args.name.now c.args.dir c.args.i c.requires.ready c.requires.directory c.requires.named).last

pub free_node-given-requires-clause-above : goal.free_node-given-requires-clause-above
free_node-given-requires-clause-above c =
    file_above _ _ _ c.requires.ready (named_used c.args.geometry.now c.args.image.now c.args.name.now c.args.dir c.args.i c.requires.ready c.requires.directory c.requires.named) c.requires.other

pub free_node-given-requires-clause-last : goal.free_node-given-requires-clause-last
free_node-given-requires-clause-last c = (named_used c.args.geometry.now c.args.image.now c.args.name.now c.args.dir c.args.i c.requires.ready c.requires.directory c.requires.named).last

pub drop_link-requires-clause-node : goal.drop_link-requires-clause-node
drop_link-requires-clause-node c =
    let used = named_used c.args.geometry.now c.args.image.now c.args.name.now c.args.dir c.args.i c.requires.ready c.requires.directory c.requires.named in
    record {
      rules = c.leave.ensures.changed.keeps.rules;
      first = used_first _ _ _ used;
      last = used.last;
      used = left_used c.args.geometry.now c.args.image.now c.leave.new.image c.args.dir c.args.i c.args.name.now c.args.moment
          (record {
            ready = c.requires.ready;
            directory = c.requires.directory;
            named = c.requires.named;
            keeps = c.leave.ensures.changed.keeps;
            makes = c.leave.ensures.changed.makes;
            slot = c.leave.ensures.slot;
            beside = c.leave.ensures.beside;
          });
    }

pub put_time-requires : goal.put_time-requires
put_time-requires c = record {
  rules = elim c.if-inode-le1.branch [
    | then-inode-le1 w ↦ rw w.image-is w.free_node-given.ensures.changed.keeps.rules
    | else-inode-le1 w ↦ rw w.image-is w.drop_link.ensures.changed.keeps.rules
  ];
}

-- the entry is removed from the directory
leaves : (c : After-put_time)
    → LeavesEntry c.args.geometry.now c.args.image.now c.leave.new.image c.args.dir c.args.i c.args.name.now c.args.moment
leaves c = record {
  ready = c.requires.ready;
  directory = c.requires.directory;
  named = c.requires.named;
  keeps = c.leave.ensures.changed.keeps;
  makes = c.leave.ensures.changed.makes;
  slot = c.leave.ensures.slot;
  beside = c.leave.ensures.beside;
}

-- before the volume's time is set, the state is `after_unlink`
unlinked : (c : After-put_time)
    → HasMade c.args.geometry.now c.args.image.now c.if-inode-le1.image
    (after_unlink (state c.args.geometry.now c.args.image.now) c.args.moment c.args.dir c.args.name.now)
unlinked c = elim c.if-inode-le1.branch [
  | then-inode-le1 w ↦
      let value = c.inode.ensures.value in
      let last : (inode_of c.args.geometry.now.edition c.leave.new.image c.args.i).links ≤ 1 =
      rw (← value) (grind (arith, nat_tests)) in
      rw w.image-is
      (made_unlinked c.args.geometry.now c.args.image.now c.leave.new.image w.free_node-given.new.image c.args.dir c.args.i c.args.name.now c.args.moment
      (leaves c) c.requires.other last w.free_node-given.ensures.changed.keeps w.free_node-given.ensures.changed.makes w.free_node-given.ensures.graph)
  | else-inode-le1 w ↦
      let value = c.inode.ensures.value in
      let most : 1 < (inode_of c.args.geometry.now.edition c.leave.new.image c.args.i).links =
      rw (← value) (grind (arith, nat_tests)) in
      rw w.image-is
      (made_unnamed c.args.geometry.now c.args.image.now c.leave.new.image w.drop_link.new.image c.args.dir c.args.i c.args.name.now c.args.moment
      (leaves c) c.requires.other most w.drop_link.ensures.changed.keeps w.drop_link.ensures.changed.makes w.drop_link.ensures.graph)
]

-- the named node isn't the directory
apart : (c : After-put_time) → c.args.i ≢ c.args.dir
apart c same = c.requires.other (ap (kind_at c.args.geometry.now c.args.image.now) same ∙ c.requires.directory.kind)

-- if the node loses its last link, its blocks are put on the free list
freed : (c : After-put_time) → (inode_of c.args.geometry.now.edition c.args.image.now c.args.i).links ≤ 1 → 1 ≤ c.args.i
    → c.args.i ≤ c.args.geometry.now.last_inode
    → FreeBecomes c.args.geometry.now c.leave.new.image c.if-inode-le1.image (λ blocks. blocks_freed c.args.geometry.now c.args.image.now c.args.i ++ blocks)
freed c last low high = elim c.if-inode-le1.branch [
  | then-inode-le1 w ↦
      let kept = c.leave.ensures.changed.content c.args.i low high (apart c) in
      rw w.image-is
      (subst (λ xs. FreeBecomes c.args.geometry.now c.leave.new.image w.free_node-given.new.image (λ blocks. xs ++ blocks))
      (freed_kept c.args.geometry.now c.args.image.now c.leave.new.image c.args.i kept low high) w.free_node-given.ensures.changed.free)
  | else-inode-le1 w ↦
      let value = c.inode.ensures.value in
      let most : 1 < (inode_of c.args.geometry.now.edition c.leave.new.image c.args.i).links =
      rw (← value) (grind (arith, nat_tests)) in
      let same = left_same c.args.geometry.now c.args.image.now c.leave.new.image c.args.dir c.args.i c.args.name.now c.args.moment (leaves c) in
      absurd (omega (arith, most, last, same))
]

-- the test for the last link passes
last_test : (n : ℕ) → n ≤ 1 → nat_le n 1 ≡ true
last_test n few = grind (arith, nat_tests)

more_test : (n : ℕ) → 1 < n → nat_le n 1 ≡ false
more_test n many = grind (arith, nat_tests)

-- the result is the number of blocks freed
counted : (c : After-put_time) → c.if-inode-le1.given
    ≡ (if nat_le (inode_of c.args.geometry.now.edition c.args.image.now c.args.i).links 1
    then place_count c.args.geometry.now.edition (shapes c.args.geometry.now c.args.image.now c.args.i) else 0)
counted c =
    let blocks = place_count c.args.geometry.now.edition (shapes c.args.geometry.now c.args.image.now c.args.i) in
    let value = c.inode.ensures.value in
    let same = left_same c.args.geometry.now c.args.image.now c.leave.new.image c.args.dir c.args.i c.args.name.now c.args.moment (leaves c) in
    elim c.if-inode-le1.branch [
      | then-inode-le1 w ↦
          let last : (inode_of c.args.geometry.now.edition c.leave.new.image c.args.i).links ≤ 1 =
          rw (← value) (grind (arith, nat_tests)) in
          let few : nat_le (inode_of c.args.geometry.now.edition c.args.image.now c.args.i).links 1 ≡ true = last_test _ (omega (arith, last, same)) in
          w.given-is ∙ (w.free_node-given.ensures.count
          ∙ (count_left c.args.geometry.now c.args.image.now c.leave.new.image c.args.moment c.args.i c.args.dir c.args.name.now
          c.leave.ensures.changed.makes
          ∙ sym (ap (λ b. if b then blocks else 0) few)))
      | else-inode-le1 w ↦
          let most : 1 < (inode_of c.args.geometry.now.edition c.leave.new.image c.args.i).links =
          rw (← value) (grind (arith, nat_tests)) in
          let many : nat_le (inode_of c.args.geometry.now.edition c.args.image.now c.args.i).links 1 ≡ false = more_test _ (omega (arith, most, same)) in
          w.given-is ∙ sym (ap (λ b. if b then blocks else 0) many)
    ]

-- if the node has another link, only its link count and its time change
stays : (c : After-put_time) → 1 < (inode_of c.args.geometry.now.edition c.args.image.now c.args.i).links
    → Changed c.args.geometry.now c.leave.new.image c.if-inode-le1.image IsAny (drop_link c.args.moment c.args.i (state c.args.geometry.now c.leave.new.image)) as_before
stays c more = elim c.if-inode-le1.branch [
  | then-inode-le1 w ↦
      let value = c.inode.ensures.value in
      let last : (inode_of c.args.geometry.now.edition c.leave.new.image c.args.i).links ≤ 1 =
      rw (← value) (grind (arith, nat_tests)) in
      let same = left_same c.args.geometry.now c.args.image.now c.leave.new.image c.args.dir c.args.i c.args.name.now c.args.moment (leaves c) in
      absurd (omega (arith, more, last, same))
  | else-inode-le1 w ↦ rw w.image-is w.drop_link.ensures.changed
]

-- the content of other nodes doesn't change
files : (c : After-put_time) (j : ℕ) → 1 ≤ j → j ≤ c.args.geometry.now.last_inode → j ≢ c.args.i
    → KeepsContent c.args.geometry.now c.leave.new.image c.if-inode-le1.image j
files c j low high other = elim c.if-inode-le1.branch [
  | then-inode-le1 w ↦ rw w.image-is (w.free_node-given.ensures.changed.content j low high other)
  | else-inode-le1 w ↦ rw w.image-is (w.drop_link.ensures.changed.content j low high tt)
]

-- if the node loses its last link, its i-node is cleared
cleared : (c : After-put_time) → (inode_of c.args.geometry.now.edition c.args.image.now c.args.i).links ≤ 1
    → IsCleared c.args.geometry.now c.if-inode-le1.image c.args.i
cleared c last = elim c.if-inode-le1.branch [
  | then-inode-le1 w ↦ rw w.image-is w.free_node-given.ensures.cleared
  | else-inode-le1 w ↦
      let value = c.inode.ensures.value in
      let most : 1 < (inode_of c.args.geometry.now.edition c.leave.new.image c.args.i).links =
      rw (← value) (grind (arith, nat_tests)) in
      let same = left_same c.args.geometry.now c.args.image.now c.leave.new.image c.args.dir c.args.i c.args.name.now c.args.moment (leaves c) in
      absurd (omega (arith, most, last, same))
]

-- if the node has another link, its unused bytes don't change
unused : (c : After-put_time) → 1 < (inode_of c.args.geometry.now.edition c.args.image.now c.args.i).links → 1 ≤ c.args.i
    → c.args.i ≤ c.args.geometry.now.last_inode → KeepsUnused c.args.geometry.now c.leave.new.image c.if-inode-le1.image c.args.i
unused c more low high = elim c.if-inode-le1.branch [
  | then-inode-le1 w ↦
      let value = c.inode.ensures.value in
      let last : (inode_of c.args.geometry.now.edition c.leave.new.image c.args.i).links ≤ 1 =
      rw (← value) (grind (arith, nat_tests)) in
      let same = left_same c.args.geometry.now c.args.image.now c.leave.new.image c.args.dir c.args.i c.args.name.now c.args.moment (leaves c) in
      absurd (omega (arith, more, last, same))
  | else-inode-le1 w ↦ rw w.image-is (w.drop_link.ensures.unused c.args.i low high)
]

-- the unused bytes of other i-nodes don't change
others : (c : After-put_time) (j : ℕ) → 1 ≤ j → j ≤ c.args.geometry.now.last_inode → j ≢ c.args.i
    → KeepsUnused c.args.geometry.now c.leave.new.image c.if-inode-le1.image j
others c j low high other = elim c.if-inode-le1.branch [
  | then-inode-le1 w ↦ rw w.image-is (w.free_node-given.ensures.others j low high other)
  | else-inode-le1 w ↦ rw w.image-is (w.drop_link.ensures.unused j low high)
]

pub returns : goal.returns
returns c = record {
  changes = changed _ _ _ _ _ c.args.moment c.requires.ready (unlinked c)
      c.put_time.ensures.changed c.put_time.ensures.graph;
  freed = λ last blocks free.
      let used = named_used c.args.geometry.now c.args.image.now c.args.name.now c.args.dir c.args.i c.requires.ready c.requires.directory c.requires.named in
      c.put_time.ensures.changed.free _ (freed c last (used_first _ _ _ used) used.last _ (c.leave.ensures.changed.free blocks free));
  count = counted c;
  list = λ more blocks free. c.put_time.ensures.changed.free _ ((stays c more).free _ (c.leave.ensures.changed.free blocks free));
  kept = λ more.
      let used = named_used c.args.geometry.now c.args.image.now c.args.name.now c.args.dir c.args.i c.requires.ready c.requires.directory c.requires.named in
      content_then c.args.geometry.now c.args.image.now c.leave.new.image c.put_time.new.image c.args.i
      (c.leave.ensures.changed.content c.args.i (used_first _ _ _ used) used.last (apart c))
      (content_then c.args.geometry.now c.leave.new.image c.if-inode-le1.image c.put_time.new.image c.args.i
      ((stays c more).content c.args.i (used_first _ _ _ used) used.last tt) (c.put_time.ensures.changed.content c.args.i (used_first _ _ _ used) used.last tt));
  bytes =
      let was = c.requires.directory in
      let is = directory_kept c.args.geometry.now c.args.image.now c.leave.new.image c.args.dir (c.leave.ensures.beside.kind c.args.dir) was in
      bytes_stay c.args.geometry.now c.leave.new.image c.put_time.new.image c.args.dir
      (content_then c.args.geometry.now c.leave.new.image c.if-inode-le1.image c.put_time.new.image c.args.dir
      (files c c.args.dir was.first was.last (λ same. apart c (sym same))) (c.put_time.ensures.changed.content c.args.dir was.first was.last tt)) is
      ∙ c.leave.ensures.bytes;
  files = λ j low high there here.
      content_then c.args.geometry.now c.args.image.now c.leave.new.image c.put_time.new.image j (c.leave.ensures.changed.content j low high there)
      (content_then c.args.geometry.now c.leave.new.image c.if-inode-le1.image c.put_time.new.image j (files c j low high here)
      (c.put_time.ensures.changed.content j low high tt));
  cleared = λ last.
      time_cleared c.args.geometry.now c.if-inode-le1.image c.put_time.new.image c.args.i c.put_time.ensures.others (cleared c last);
  unused = λ more.
      let used = named_used c.args.geometry.now c.args.image.now c.args.name.now c.args.dir c.args.i c.requires.ready c.requires.directory c.requires.named in
      unused_then c.args.geometry.now c.args.image.now c.leave.new.image c.put_time.new.image c.args.i
      (c.leave.ensures.unused c.args.i (used_first _ _ _ used) used.last)
      (unused_then c.args.geometry.now c.leave.new.image c.if-inode-le1.image c.put_time.new.image c.args.i
      (unused c more (used_first _ _ _ used) used.last)
      (time_unused c.args.geometry.now c.if-inode-le1.image c.put_time.new.image c.args.i c.put_time.ensures.others));
  others = λ j low high other.
      unused_then c.args.geometry.now c.args.image.now c.leave.new.image c.put_time.new.image j (c.leave.ensures.unused j low high)
      (unused_then c.args.geometry.now c.leave.new.image c.if-inode-le1.image c.put_time.new.image j (others c j low high other)
      (time_unused c.args.geometry.now c.if-inode-le1.image c.put_time.new.image j c.put_time.ensures.others));
}
