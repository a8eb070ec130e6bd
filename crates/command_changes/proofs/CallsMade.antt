-- If a volume accepts calls one after another, these calls make the resulting bytes, as the commands' definitions require.
use Rattle.std.proofs.Common.{◌≡◌, ℕ, List, [], ◌∷◌, inl, inr, refl, sym, ap, subst, ◌∙◌}
use Rattle.vol_dir.specs.Tree.{State}
use Rattle.vol_layout.specs.Geometry.{geometry_of}
use Rattle.vol_judge.specs.Sound.{IsSound}
use Rattle.vol_change.specs.Whole.{StaysAround}
use Rattle.vol_change.proofs.WholeLaws.{around_then, geometry_kept}
use Rattle.vol_volume.specs.Journal.{IsLegal, after}
use Rattle.vol_volume.specs.Step.{step}
use Rattle.vol_volume.specs.Volume.{Mounted, Accepts, reads_as}
use Rattle.vol_volume.proofs.Journals.{reads_made}
use Rattle.vol_batch.specs.Batch.{AreMade, AreStopped}
use Rattle.command_faults.specs.ChangeFaults.{AreLeft, Makes, AreRefused, IsReason}
use Rattle.vol_layout.specs.declared.edition.Edition.{Edition}
use Rattle.vol_layout.specs.declared.geometry.Geometry.{Geometry}
use Rattle.vol_volume.specs.declared.calls.Call.{Call}
use Rattle.vol_volume.specs.declared.calls.Done.{Done}
use Rattle.vol_dir.specs.declared.refusal.Refusal.{Refusal}
use Rattle.vol_dir.specs.declared.refusal.Refusal.TheVariants as refusals
use Rattle.command_faults.specs.declared.fault.Fault.TheVariants as faults

-- an image without changes has the same bytes as itself, except for those that calls change
stays : (geometry : Geometry) (image : List ℕ) → StaysAround geometry image image
stays geometry image =
    record { len = refl; before = λ k h. refl; flags = λ k from to. refl; rest = λ k from to. refl; behind = λ k from. refl }

-- without calls, a sound image results in itself
none_made : (edition : Edition) (image : List ℕ) → IsSound edition image → Makes edition image [] image
none_made edition image sound = record {
  mounted = sound;
  journal = [];
  asked = refl;
  legal = tt;
  reads = refl;
  sound = sound;
  around = stays (geometry_of edition image) image;
  left = refl;
}

-- if a volume accepts a call and more calls make the bytes `new` from the result, then all these calls make `new`
one_made : (old mid : Mounted) (new : List ℕ) (call : Call) (calls : List Call) (done : Done) → IsSound old.edition old.image
    → Accepts old mid call done → Makes old.edition mid.image calls new → Makes old.edition old.image (call ∷ calls) new
one_made old mid new call calls done sound accepts rest =
    let reads : reads_as old.edition mid.image ≡ step (reads_as old.edition old.image) call done =
    reads_made old.edition old.image mid.image call done accepts.performed in
    let kept : geometry_of old.edition mid.image ≡ geometry_of old.edition old.image =
    geometry_kept (geometry_of old.edition old.image) old.image mid.image accepts.performed.changes.around in
    record {
      mounted = sound;
      journal = record { call = call; done = done } ∷ rest.journal;
      asked = ap (λ calls. call ∷ calls) rest.asked;
      legal = (
        record { accepted = accepts.accepted; answered = accepts.performed.answered },
        subst (λ (state : State). IsLegal state rest.journal) reads rest.legal,
      );
      reads = rest.reads ∙ ap (λ state. after state rest.journal) reads;
      sound = rest.sound;
      around = around_then (geometry_of old.edition old.image) old.image mid.image new accepts.performed.changes.around
          (subst (λ (geometry : Geometry). StaysAround geometry mid.image new) kept rest.around);
      left = (mid.image, accepts.performed, subst (λ (geometry : Geometry). AreLeft geometry mid.image rest.journal new) kept rest.left);
    }

-- if a sound volume accepts calls one after another, these calls make the resulting bytes
pub all_made : (old new : Mounted) (calls : List Call) → IsSound old.edition old.image → AreMade old calls new
    → Makes old.edition old.image calls new.image
unfolding AreMade
all_made old new [] sound made =
    subst (λ (volume : Mounted). Makes old.edition old.image [] volume.image) (sym made) (none_made old.edition old.image sound)
all_made old new (call ∷ calls) sound made =
    let mid : Mounted = made.0 in
    let accepts : Accepts old mid call made.1 = made.2 in
    let same : mid.edition ≡ old.edition = accepts.edition in
    let whole : IsSound mid.edition mid.image = subst (λ (edition : Edition). IsSound edition mid.image) (sym same) accepts.performed.changes.ready.sound in
    one_made old mid new.image call calls made.1 sound accepts
    (subst (λ (edition : Edition). Makes edition mid.image calls new.image) same (all_made mid new calls whole made.3))

-- a refusal of calls is a reason not to make them
pub refused_reason : (edition : Edition) (image : List ℕ) (calls : List Call) (refusal : Refusal) → IsSound edition image
    → AreRefused (reads_as edition image) calls refusal → IsReason edition image calls (faults.Refused refusal)
refused_reason edition image calls refusals.NotOwner sound refused = (sound, refused)
refused_reason edition image calls refusals.NoEntry sound refused = (sound, refused)
refused_reason edition image calls refusals.NoMemory sound refused = tt
refused_reason edition image calls refusals.Access sound refused = (sound, refused)
refused_reason edition image calls refusals.Exists sound refused = (sound, refused)
refused_reason edition image calls refusals.NotDirectory sound refused = (sound, refused)
refused_reason edition image calls refusals.IsDirectory sound refused = (sound, refused)
refused_reason edition image calls refusals.Invalid sound refused = (sound, refused)
refused_reason edition image calls refusals.TooBig sound refused = (sound, refused)
refused_reason edition image calls refusals.NoSpace sound refused = (sound, refused)
refused_reason edition image calls refusals.TooManyLinks sound refused = (sound, refused)
refused_reason edition image calls refusals.NotEmpty sound refused = (sound, refused)
refused_reason edition image calls refusals.NotRegular sound refused = (sound, refused)
refused_reason edition image calls refusals.NoInode sound refused = (sound, refused)
refused_reason edition image calls refusals.BadId sound refused = (sound, refused)

-- after an accepted call the state is the result of this call's step
state_after : (old mid : Mounted) (call : Call) (done : Done) → Accepts old mid call done
    → reads_as mid.edition mid.image ≡ step (reads_as old.edition old.image) call done
state_after old mid call done accepts =
    ap (λ edition. reads_as edition mid.image) accepts.edition ∙ reads_made old.edition old.image mid.image call done accepts.performed

-- if a volume accepts the calls before one that it refuses, these calls are refused with this refusal
pub are_refused : (old new : Mounted) (calls : List Call) (refusal : Refusal) (call : Call) → AreStopped old calls new refusal call
    → AreRefused (reads_as old.edition old.image) calls refusal
unfolding AreStopped
are_refused old new [] refusal call stopped = absurd stopped
are_refused old new (first ∷ calls) refusal call stopped =
    elim stopped [
      | inl is ↦ inl is.1
      | inr more ↦
          inr (
            more.1,
            record { accepted = more.2.accepted; answered = more.2.performed.answered },
            subst (λ (state : State). AreRefused state calls refusal) (state_after old more.0 first more.1 more.2)
                (are_refused more.0 new calls refusal call more.3),
          )
    ]

-- if a call is refused after others were accepted, its refusal is a reason not to make these calls
pub stopped_reason : (old new : Mounted) (calls : List Call) (refusal : Refusal) (call : Call) → IsSound old.edition old.image
    → AreStopped old calls new refusal call → IsReason old.edition old.image calls (faults.Refused refusal)
stopped_reason old new calls refusal call sound stopped =
    refused_reason old.edition old.image calls refusal sound (are_refused old new calls refusal call stopped)
