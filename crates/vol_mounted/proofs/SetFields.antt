-- The calls of SETATTR that set the permissions, the owner and the times, and the fields of a node after all of them.
use Rattle.std.proofs.Common.{◌≡◌, ◌∙◌, sym, ap, refl, ℕ, arith, Bool, true, false, List, Option, None, Some, Ok, Err}
use Rattle.std.specs.Prelude.{◌%◌, ◌==◌, ◌&&◌, ◌||◌, is_none, is_some, unwrap_or, if◌then◌else◌}
use Rattle.std.specs.Option.{option_map, option_map_or}
use Rattle.std.proofs.lemmas.Bool.{and_parts, eqb-true}
use Rattle.std.proofs.Math.Bool.{or-true}
use Rattle.fuse_words.specs.declared.attribute_changes.NewTime.{NewTime}
use Rattle.pdp_words.specs.Steps.{and_then}
use Rattle.vol_layout.specs.Ids.{is_bad_id}
use Rattle.vol_dir.specs.Access.{user}
use Rattle.vol_dir.specs.Tree.{Node}
use Rattle.vol_dir.specs.declared.cred.Cred.{Cred}
use Rattle.vol_dir.specs.declared.refusal.Refusal.TheVariants as refusals
use Rattle.vol_change.specs.Edits.{with_owner, with_permission_bits, with_times}
use Rattle.vol_volume.specs.declared.calls.Call.{Call}
use Rattle.vol_volume.specs.declared.calls.Call.TheVariants as calls
use Rattle.vol_volume.specs.declared.queries.Stat.{Stat}
use Rattle.vol_mounted.specs.Laws.{content_with}
use Rattle.vol_mounted.specs.Plans.{Sight, given_call, mode_call, owner_call, set_time, times_call}
use Rattle.vol_mounted.specs.declared.owner.Owner.{Owner}
use Rattle.vol_mounted.specs.declared.refusal.MountedRefusal.TheVariants as mounted
use Rattle.vol_mounted.proofs.NodeCalls.{with_if}
use Rattle.vol_mounted.proofs.SizedFiles.{sized}

-- a user and a group as they are shown
abbrev pub shown_uid : Option Owner → ℕ → ℕ
shown_uid owner uid = option_map_or (λ (o : Owner). o.uid) owner uid

abbrev pub shown_gid : Option Owner → ℕ → ℕ
shown_gid owner gid = option_map_or (λ (o : Owner). o.gid) owner gid

-- the user and the group that a call sets, if there is one, and what is shown then
pub record Owns (owner : Option Owner) (now : ℕ) (path : List ℕ) (stat : Stat) (uid gid : Option ℕ) (call : Option Call) : Type 0 where
  pub cred : Option Cred
  pub is : call ≡ option_map (λ (c : Cred). calls.Chown user now path c.uid c.gid) cred
  pub uid_shown : shown_uid owner (option_map_or (λ (c : Cred). c.uid) cred stat.uid) ≡ unwrap_or uid (shown_uid owner stat.uid)
  pub gid_shown : shown_gid owner (option_map_or (λ (c : Cred). c.gid) cred stat.gid) ≡ unwrap_or gid (shown_gid owner stat.gid)
  pub none : is_none cred ≡ (is_some owner || (is_none uid && is_none gid))
  pub hidden : (user : Owner) → owner ≡ Some user → cred ≡ None

given : (sight : Sight) (stat : Stat) (path : List ℕ) (uid gid : Option ℕ) (call : Option Call) → (is_none uid && is_none gid) ≡ false → (owner : Option Owner)
    → given_call sight stat path uid gid owner ≡ Ok call → Owns owner sight.now path stat uid gid call
given sight stat path uid gid call some None is = by (is_bad_id sight.geometry.edition (unwrap_or uid stat.uid) (unwrap_or gid stat.gid)) is
  where
    by : (bad : Bool)
        → and_then (if bad then Err (mounted.Call refusals.BadId) else Ok (record { uid = unwrap_or uid stat.uid; gid = unwrap_or gid stat.gid }))
        (λ (cred : Cred). Ok (Some (calls.Chown user sight.now path cred.uid cred.gid))) ≡ Ok call → Owns None sight.now path stat uid gid call
    by true is = absurd (cc)
    by false is =
        let same : Some (calls.Chown user sight.now path (unwrap_or uid stat.uid) (unwrap_or gid stat.gid)) ≡ call = cc in
        record {
          cred = Some (record { uid = unwrap_or uid stat.uid; gid = unwrap_or gid stat.gid });
          is = sym same;
          uid_shown = refl;
          gid_shown = refl;
          none = sym some;
          hidden = λ user one. absurd (cc);
        }
given sight stat path uid gid call some (Some owner) is = by ((unwrap_or uid owner.uid == owner.uid) && (unwrap_or gid owner.gid == owner.gid)) refl is
  where
    by : (same : Bool) → ((unwrap_or uid owner.uid == owner.uid) && (unwrap_or gid owner.gid == owner.gid)) ≡ same
        → (if same then Ok None else Err mounted.NotPermitted) ≡ Ok call → Owns (Some owner) sight.now path stat uid gid call
    by false same is = absurd (cc)
    by true same is =
        let parts = and_parts (unwrap_or uid owner.uid == owner.uid) (unwrap_or gid owner.gid == owner.gid) same in
        let none : None ≡ call = cc in
        record {
          cred = None;
          is = sym none;
          uid_shown = sym (eqb-true (unwrap_or uid owner.uid) owner.uid parts.0);
          gid_shown = sym (eqb-true (unwrap_or gid owner.gid) owner.gid parts.1);
          none = refl;
          hidden = λ user one. refl;
        }

pub owns : (sight : Sight) (stat : Stat) (path : List ℕ) (uid gid : Option ℕ) (call : Option Call) → owner_call sight stat path uid gid ≡ Ok call
    → Owns sight.owner sight.now path stat uid gid call
owns sight stat path None None call is =
    let none : None ≡ call = cc in
    record {
      cred = None;
      is = sym none;
      uid_shown = refl;
      gid_shown = refl;
      none = sym (or-true (is_some sight.owner));
      hidden = λ user one. refl;
    }
owns sight stat path None (Some gid) call is = given sight stat path None (Some gid) call refl sight.owner is
owns sight stat path (Some uid) gid call is = given sight stat path (Some uid) gid call refl sight.owner is

-- the times that a call sets, if there is one
abbrev pub times_of : ℕ → Stat → Option NewTime → Option NewTime → Option (ℕ × ℕ)
times_of now stat None None = None
times_of now stat None (Some modified) = Some (set_time now stat.accessed None, set_time now stat.modified (Some modified))
times_of now stat (Some accessed) modified = Some (set_time now stat.accessed (Some accessed), set_time now stat.modified modified)

pub times_are : (now : ℕ) (stat : Stat) (path : List ℕ) (accessed modified : Option NewTime)
    → times_call now stat path accessed modified ≡ option_map (λ (t : ℕ × ℕ). calls.Times user now path t.0 t.1) (times_of now stat accessed modified)
times_are now stat path None None = refl
times_are now stat path None (Some modified) = refl
times_are now stat path (Some accessed) modified = refl

pub times_none : (now : ℕ) (stat : Stat) (accessed modified : Option NewTime)
    → is_none (times_of now stat accessed modified) ≡ (is_none accessed && is_none modified)
times_none now stat None None = refl
times_none now stat None (Some modified) = refl
times_none now stat (Some accessed) modified = refl

pub accessed_set : (now : ℕ) (stat : Stat) (accessed modified : Option NewTime)
    → option_map_or (λ (t : ℕ × ℕ). t.0) (times_of now stat accessed modified) stat.accessed ≡ set_time now stat.accessed accessed
accessed_set now stat None None = refl
accessed_set now stat None (Some modified) = refl
accessed_set now stat (Some accessed) modified = refl

pub modified_set : (now : ℕ) (size : Option ℕ) (stat : Stat) (accessed modified : Option NewTime)
    → option_map_or (λ (t : ℕ × ℕ). t.1) (times_of now stat accessed modified) (option_map_or (λ (n : ℕ). now) size stat.modified)
    ≡ set_time now (if is_some size && is_none accessed then now else stat.modified) modified
modified_set now None stat None None = refl
modified_set now (Some size) stat None None = refl
modified_set now size stat None (Some modified) = refl
modified_set now None stat (Some accessed) None = refl
modified_set now (Some size) stat (Some accessed) None = refl
modified_set now size stat (Some accessed) (Some modified) = refl

-- the permission bits that a call sets, if there is one
abbrev pub bits_of : Option ℕ → Option ℕ
bits_of mode = option_map (λ (bits : ℕ). bits % 4096) mode

pub mode_is : (now : ℕ) (path : List ℕ) (mode : Option ℕ) → mode_call now path mode ≡ option_map (λ (perm : ℕ). calls.Chmod user now path perm) (bits_of mode)
mode_is now path None = refl
mode_is now path (Some mode) = refl

bits_none : (mode : Option ℕ) → is_none (bits_of mode) ≡ is_none mode
bits_none None = refl
bits_none (Some mode) = refl

-- a node after all changes
abbrev pub with_bits : ℕ → Option ℕ → Option ℕ → Node → Node
with_bits now size mode node = with_if (with_permission_bits now) (bits_of mode) (sized now size node)

abbrev pub with_cred : ℕ → Option ℕ → Option ℕ → Option Cred → Node → Node
with_cred now size mode cred node = with_if (λ (c : Cred). with_owner now c.uid c.gid) cred (with_bits now size mode node)

abbrev pub with_all : ℕ → Option ℕ → Option ℕ → Option Cred → Option (ℕ × ℕ) → Node → Node
with_all now size mode cred times node = with_if (λ (t : ℕ × ℕ). with_times now t.0 t.1) times (with_cred now size mode cred node)

-- a field that a change keeps
kept : {X Y : Type 0} (field : Node → Y) (change : X → Node → Node) → ((x : X) (node : Node) → field (change x node) ≡ field node) → (given : Option X) (node : Node)
    → field (with_if change given node) ≡ field node
kept field change same None node = refl
kept field change same (Some x) node = same x node

sized_kept : {Y : Type 0} (field : Node → Y) (now : ℕ) (size : Option ℕ) (node : Node) → ((n : ℕ) → field (sized now (Some n) node) ≡ field node)
    → field (sized now size node) ≡ field node
sized_kept field now None node same = refl
sized_kept field now (Some n) node same = same n

-- the time of the last change of a node, which a change sets
abbrev pub stamp : ℕ → Bool → Option ℕ → Option ℕ
stamp now none changed = if none then changed else option_map (λ _. now) changed

touched : {X : Type 0} (now : ℕ) (change : X → Node → Node) → ((x : X) (node : Node) → (change x node).changed ≡ option_map (λ _. now) node.changed)
    → (given : Option X) (node : Node) → (with_if change given node).changed ≡ stamp now (is_none given) node.changed
touched now change sets None node = refl
touched now change sets (Some x) node = sets x node

sized_touched : (now : ℕ) (size : Option ℕ) (node : Node) → (sized now size node).changed ≡ stamp now (is_none size) node.changed
sized_touched now None node = refl
sized_touched now (Some n) node = refl

twice : (now : ℕ) (a b : Bool) (changed : Option ℕ) → stamp now b (stamp now a changed) ≡ stamp now (a && b) changed
twice now true b changed = refl
twice now false true changed = refl
twice now false false None = refl
twice now false false (Some time) = refl

module _ (now : ℕ) (size mode : Option ℕ) (cred : Option Cred) (times : Option (ℕ × ℕ)) (node : Node) where
  -- a field that all changes but that of the size keep
  after_size : {Y : Type 0} (field : Node → Y) → ((a b : ℕ) (n : Node) → field (with_times now a b n) ≡ field n)
      → ((a b : ℕ) (n : Node) → field (with_owner now a b n) ≡ field n) → ((a : ℕ) (n : Node) → field (with_permission_bits now a n) ≡ field n)
      → field (with_all now size mode cred times node) ≡ field (sized now size node)
  after_size field timed owned changed =
      kept field (λ (t : ℕ × ℕ). with_times now t.0 t.1) (λ t. timed t.0 t.1) times (with_cred now size mode cred node)
      ∙ (kept field (λ (c : Cred). with_owner now c.uid c.gid) (λ c. owned c.uid c.gid) cred (with_bits now size mode node)
      ∙ kept field (with_permission_bits now) changed (bits_of mode) (sized now size node))

  pub content_is : (with_all now size mode cred times node).content ≡ content_with size node.content
  content_is = after_size (λ n. n.content) (λ a b n. refl) (λ a b n. refl) (λ a n. refl) ∙ by size
    where
      by : (size : Option ℕ) → (sized now size node).content ≡ content_with size node.content
      by None = refl
      by (Some n) = refl

  pub links_are : (with_all now size mode cred times node).links ≡ node.links
  links_are = after_size (λ n. n.links) (λ a b n. refl) (λ a b n. refl) (λ a n. refl) ∙ sized_kept (λ n. n.links) now size node (λ n. refl)

  pub size_is : (with_all now size mode cred times node).size ≡ unwrap_or size node.size
  size_is = after_size (λ n. n.size) (λ a b n. refl) (λ a b n. refl) (λ a n. refl) ∙ by size
    where
      by : (size : Option ℕ) → (sized now size node).size ≡ unwrap_or size node.size
      by None = refl
      by (Some n) = refl

  pub permissions_are : (with_all now size mode cred times node).permissions ≡ option_map_or (λ mode. mode % 4096) mode node.permissions
  permissions_are =
      kept (λ n. n.permissions) (λ (t : ℕ × ℕ). with_times now t.0 t.1) (λ t n. refl) times (with_cred now size mode cred node)
      ∙ (kept (λ n. n.permissions) (λ (c : Cred). with_owner now c.uid c.gid) (λ c n. refl) cred (with_bits now size mode node)
      ∙ (by mode (sized now size node)
      ∙ ap (λ p. option_map_or (λ mode. mode % 4096) mode p) (sized_kept (λ n. n.permissions) now size node (λ n. refl))))
    where
      by : (mode : Option ℕ) (n : Node) → (with_if (with_permission_bits now) (bits_of mode) n).permissions ≡ option_map_or (λ mode. mode % 4096) mode n.permissions
      by None n = refl
      by (Some mode) n = let same : mode % 4096 % 4096 ≡ mode % 4096 = omega arith in same

  pub uid_is : (with_all now size mode cred times node).uid ≡ option_map_or (λ (c : Cred). c.uid) cred node.uid
  uid_is =
      kept (λ n. n.uid) (λ (t : ℕ × ℕ). with_times now t.0 t.1) (λ t n. refl) times (with_cred now size mode cred node)
      ∙ (by cred (with_bits now size mode node)
      ∙ ap (λ uid. option_map_or (λ (c : Cred). c.uid) cred uid)
      (kept (λ n. n.uid) (with_permission_bits now) (λ p n. refl) (bits_of mode) (sized now size node)
      ∙ sized_kept (λ n. n.uid) now size node (λ n. refl)))
    where
      by : (cred : Option Cred) (n : Node) → (with_if (λ (c : Cred). with_owner now c.uid c.gid) cred n).uid ≡ option_map_or (λ (c : Cred). c.uid) cred n.uid
      by None n = refl
      by (Some c) n = refl

  pub gid_is : (with_all now size mode cred times node).gid ≡ option_map_or (λ (c : Cred). c.gid) cred node.gid
  gid_is =
      kept (λ n. n.gid) (λ (t : ℕ × ℕ). with_times now t.0 t.1) (λ t n. refl) times (with_cred now size mode cred node)
      ∙ (by cred (with_bits now size mode node)
      ∙ ap (λ gid. option_map_or (λ (c : Cred). c.gid) cred gid)
      (kept (λ n. n.gid) (with_permission_bits now) (λ p n. refl) (bits_of mode) (sized now size node)
      ∙ sized_kept (λ n. n.gid) now size node (λ n. refl)))
    where
      by : (cred : Option Cred) (n : Node) → (with_if (λ (c : Cred). with_owner now c.uid c.gid) cred n).gid ≡ option_map_or (λ (c : Cred). c.gid) cred n.gid
      by None n = refl
      by (Some c) n = refl

  pub accessed_is : (with_all now size mode cred times node).accessed ≡ option_map_or (λ (t : ℕ × ℕ). t.0) times node.accessed
  accessed_is =
      by times (with_cred now size mode cred node)
      ∙ ap (λ time. option_map_or (λ (t : ℕ × ℕ). t.0) times time)
      (kept (λ n. n.accessed) (λ (c : Cred). with_owner now c.uid c.gid) (λ c n. refl) cred (with_bits now size mode node)
      ∙ (kept (λ n. n.accessed) (with_permission_bits now) (λ p n. refl) (bits_of mode) (sized now size node)
      ∙ sized_kept (λ n. n.accessed) now size node (λ n. refl)))
    where
      by : (times : Option (ℕ × ℕ)) (n : Node) → (with_if (λ (t : ℕ × ℕ). with_times now t.0 t.1) times n).accessed ≡ option_map_or (λ (t : ℕ × ℕ). t.0) times n.accessed
      by None n = refl
      by (Some t) n = refl

  pub modified_is : (with_all now size mode cred times node).modified
      ≡ option_map_or (λ (t : ℕ × ℕ). t.1) times (option_map_or (λ (n : ℕ). now) size node.modified)
  modified_is =
      by times (with_cred now size mode cred node)
      ∙ ap (λ time. option_map_or (λ (t : ℕ × ℕ). t.1) times time)
      (kept (λ n. n.modified) (λ (c : Cred). with_owner now c.uid c.gid) (λ c n. refl) cred (with_bits now size mode node)
      ∙ (kept (λ n. n.modified) (with_permission_bits now) (λ p n. refl) (bits_of mode) (sized now size node)
      ∙ cut size))
    where
      cut : (size : Option ℕ) → (sized now size node).modified ≡ option_map_or (λ (n : ℕ). now) size node.modified
      cut None = refl
      cut (Some n) = refl

      by : (times : Option (ℕ × ℕ)) (n : Node) → (with_if (λ (t : ℕ × ℕ). with_times now t.0 t.1) times n).modified ≡ option_map_or (λ (t : ℕ × ℕ). t.1) times n.modified
      by None n = refl
      by (Some t) n = refl

  pub changed_is : (with_all now size mode cred times node).changed
      ≡ stamp now (((is_none size && is_none mode) && is_none cred) && is_none times) node.changed
  changed_is =
      touched now (λ (t : ℕ × ℕ). with_times now t.0 t.1) (λ t n. refl) times (with_cred now size mode cred node)
      ∙ (ap (stamp now (is_none times))
      (touched now (λ (c : Cred). with_owner now c.uid c.gid) (λ c n. refl) cred (with_bits now size mode node)
      ∙ (ap (stamp now (is_none cred))
      (touched now (with_permission_bits now) (λ p n. refl) (bits_of mode) (sized now size node)
      ∙ (ap (stamp now (is_none (bits_of mode))) (sized_touched now size node)
      ∙ (twice now (is_none size) (is_none (bits_of mode)) node.changed
      ∙ ap (λ b. stamp now (is_none size && b) node.changed) (bits_none mode))))
      ∙ twice now (is_none size && is_none mode) (is_none cred) node.changed))
      ∙ twice now ((is_none size && is_none mode) && is_none cred) (is_none times) node.changed)
