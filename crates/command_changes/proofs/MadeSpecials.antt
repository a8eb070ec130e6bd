-- The special file that `mknod` makes at its path.
use Rattle.std.proofs.Common.{◌≡◌, ◌∙◌, ap, subst, sym, refl, ℕ, ◌%◌, false, List, [], ◌∷◌, map, Option, None, Some, Ok, Err}
use Rattle.std.specs.Prelude.{Result}
use Rattle.std.specs.List.{list_any}
use Rattle.vol_layout.specs.declared.edition.Edition.{Edition}
use Rattle.vol_layout.specs.declared.mode.DeviceId.{DeviceId}
use Rattle.vol_dir.specs.Access.{user}
use Rattle.vol_dir.specs.Tree.{Node, State}
use Rattle.vol_dir.specs.Walk.{has_zero, walk}
use Rattle.vol_dir.specs.declared.refusal.Refusal.{Refusal}
use Rattle.vol_dir.specs.declared.cred.Cred.{Cred}
use Rattle.vol_change.specs.Edits.{at_time, new_content, with_owner}
use Rattle.vol_change.specs.Effects.{after_chown}
use Rattle.vol_change.specs.declared.new_nodes.NewFile.TheVariants.{Special}
use Rattle.vol_volume.specs.Answer.{stat_of}
use Rattle.vol_volume.specs.Journal.{MayAnswer, IsLegal, after}
use Rattle.vol_volume.specs.Step.{changed_by, on_node, step}
use Rattle.vol_volume.specs.Verdict.{verdict}
use Rattle.vol_volume.specs.Volume.{reads_as}
use Rattle.vol_volume.specs.declared.calls.Call.{Call}
use Rattle.vol_volume.specs.declared.calls.Call.TheVariants as calls
use Rattle.vol_volume.specs.declared.calls.Done.{Done}
use Rattle.vol_volume.specs.declared.calls.Record.{Record}
use Rattle.vol_volume.proofs.TreeWalks.{passes_first}
use Rattle.vol_batch.proofs.MadeNames.{LeadsTo}
use Rattle.vol_batch.proofs.MadePaths.{mknod_gains, stat_answered}
use Rattle.command_faults.specs.ChangeFaults.{Makes}
use Rattle.command_terms.specs.Permissions.{changed_permissions}
use Rattle.command_terms.specs.declared.permissions.PermissionChange.{PermissionChange}
use Rattle.command_changes.specs.Mknod.{HasSpecial, mknod_call, mknod_calls}
use Rattle.command_changes.specs.Owners.{IsOwned, owner_calls}
use Rattle.command_changes.proofs.OwnedNodes.{chown_leads}

-- a path leads to the node of a special file
record Leads (state : State) (path : List ℕ) (device : DeviceId) (perm : ℕ) (node : Node) : Type 0 where
  pub leads : LeadsTo state.tree path node
  pub content : node.content ≡ new_content state.tree.geometry.edition (Special device)
  pub permissions : node.permissions ≡ perm % 4096
  pub plain : list_any has_zero (path ∷ []) ≡ false

-- a Stat of such a path reports it
has_special : (state : State) (path : List ℕ) (device : DeviceId) (permissions : ℕ) (node : Node) (owner : Option Cred)
    → (there : Leads state path device permissions node) → IsOwned owner (stat_of there.leads.number node)
    → HasSpecial state.tree path device permissions owner
has_special state path device permissions node owner there owned = record {
  stat = stat_of there.leads.number node;
  found = stat_answered state.tree path node there.plain there.leads;
  node = node;
  stands = there.leads.stands;
  content = there.content;
  permissions = there.permissions;
  owned = owned;
}

module _ (now : ℕ) (device : DeviceId) (change : PermissionChange) (path : List ℕ) where
  -- in trees of one edition the content of a new special file is the same
  same_content : (one other : Edition) → one ≡ other → new_content one (Special device) ≡ new_content other (Special device)
  same_content one other same = ap (λ (e : Edition). new_content e (Special device)) same

  -- a Chown keeps the edition
  chown_edition : (state : State) (uid gid : ℕ) (done : Done)
      → (step state (calls.Chown user now path uid gid) done).tree.geometry.edition ≡ state.tree.geometry.edition
  unfolding changed_by
  chown_edition state uid gid done = by (walk state.tree user path)
    where
      by : (walked : Result ℕ Refusal) → (at_time now (on_node state walked (after_chown state now uid gid))).tree.geometry.edition ≡ state.tree.geometry.edition
      by (Ok i) = refl
      by (Err refusal) = refl

  -- after an accepted Mknod the path leads to the special file
  made_special : (state : State) (done : Done) → verdict state (mknod_call now device change path) ≡ None
      → MayAnswer state (mknod_call now device change path) done
      → (node : Node) × Leads (step state (mknod_call now device change path) done) path device (changed_permissions change 0o644) node
  unfolding verdict
  made_special state done accepted answered =
      let made = mknod_gains state now (changed_permissions change 0o644) device path done accepted answered in
      (_, record { leads = made.leads; content = same_content _ _ (sym made.grows.edition); permissions = refl; plain = (passes_first state.tree path _ accepted).no_zero })

  -- accepted calls that make a special file and give it its owner leave it there, with this owner
  owned_special : (state : State) (owner : Option Cred) (journal : List Record)
      → map (λ (entry : Record). entry.call) journal ≡ mknod_calls now device change owner path → IsLegal state journal
      → HasSpecial (after state journal).tree path device (changed_permissions change 0o644) owner
  owned_special state owner [] asked legal = absurd (cc)
  owned_special state owner (first ∷ rest) asked legal =
      let one : first.call ≡ mknod_call now device change path = cc in
      let more : map (λ (entry : Record). entry.call) rest ≡ owner_calls owner now path = cc in
      subst (λ (c : Call). verdict state c ≡ None → MayAnswer state c first.done
      → HasSpecial (after (step state c first.done) rest).tree path device (changed_permissions change 0o644) owner) (sym one)
      (λ accepted answered.
      let made = made_special state first.done accepted answered in
      given (step state (mknod_call now device change path) first.done) owner made.0 made.1 rest more) legal.0.accepted legal.0.answered
    where
      given : (mid : State) (owner : Option Cred) (node : Node) → Leads mid path device (changed_permissions change 0o644) node → (rest : List Record)
          → map (λ (entry : Record). entry.call) rest ≡ owner_calls owner now path
          → HasSpecial (after mid rest).tree path device (changed_permissions change 0o644) owner
      given mid None node there [] asked = has_special mid path device _ node None there tt
      given mid None node there (second ∷ rest) asked = absurd (cc)
      given mid (Some owner) node there [] asked = absurd (cc)
      given mid (Some owner) node there (second ∷ []) asked =
          let two : second.call ≡ calls.Chown user now path owner.uid owner.gid = cc in
          subst (λ (c : Call). HasSpecial (step mid c second.done).tree path device (changed_permissions change 0o644) (Some owner)) (sym two)
          (has_special (step mid (calls.Chown user now path owner.uid owner.gid) second.done) path device (changed_permissions change 0o644)
          (with_owner now owner.uid owner.gid node) (Some owner) (record {
            leads = chown_leads mid now path owner.uid owner.gid second.done node there.leads;
            content = there.content ∙ same_content _ _ (sym (chown_edition mid owner.uid owner.gid second.done));
            permissions = there.permissions;
            plain = there.plain;
          }) (refl, refl))
      given mid (Some owner) node there (second ∷ (third ∷ rest)) asked = absurd (cc)

  -- what `mknod` saves has the special file
  pub special_leaves : (edition : Edition) (image bytes : List ℕ) (owner : Option Cred) → Makes edition image (mknod_calls now device change owner path) bytes
      → HasSpecial (reads_as edition bytes).tree path device (changed_permissions change 0o644) owner
  special_leaves edition image bytes owner makes =
      subst (λ (s : State). HasSpecial s.tree path device (changed_permissions change 0o644) owner) (sym makes.reads)
      (owned_special (reads_as edition image) owner makes.journal makes.asked makes.legal)
