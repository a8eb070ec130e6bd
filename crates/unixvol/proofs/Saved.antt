-- The images that a mounted server saved, as elements of a list that only contracts refer to.
use Rattle.std.proofs.Common.{◌≡◌, ◌≢◌, ℕ, List, [], map, All, Option, Some, Result, Err, get_or, ap, subst}
use Rattle.std.proofs.lemmas.List.Elements.{All-map}
use Rattle.vol_volume.specs.Volume.{Mounted}
use Rattle.vol_mounted.specs.Servers.{volume_in}
use Rattle.vol_mounted.specs.Services.{IsStored, Serves, Stores}
use Rattle.vol_mounted.specs.declared.server.MountedServer.{MountedServer}
use Rattle.vol_mounted.specs.declared.service.MountedFault.{MountedFault}
use Rattle.vol_mounted.specs.declared.service.MountedFault.TheVariants.{Unsaved}

-- if a server starts with an empty list of saved images, its turns save these images in order, each of them was written to a file, and the last one
-- is the volume's
pub saved_by : {T : Type 0} (taken : List ℕ → Type 0) (value : T → List ℕ) → ((member : T) → ∥ taken (value member) ∥₁) → (before after : List T)
    → before ≡ [] → (old new : MountedServer) (volume : Mounted) → volume_in old ≡ volume
    → (had_taken were_taken had_sent were_sent : Option (List (List ℕ))) (ended : Result (Unit {0}) MountedFault)
    → Serves old new had_taken were_taken had_sent were_sent (Some (map value before)) (Some (map value after)) ended
    → ((file : List ℕ) → Stores file (Some (map value before)) old → ended ≢ Err Unsaved → IsStored file (Some (map value after)) (volume_in new).image)
    → (images : List (List ℕ)) × Serves old new had_taken were_taken had_sent were_sent (Some []) (Some images) ended
    × All (λ image. ∥ taken image ∥₁) images × (ended ≢ Err Unsaved → IsStored volume.image (Some images) (volume_in new).image)
saved_by taken value each before after none old new volume is had_taken were_taken had_sent were_sent ended serves stored =
    let had : Some (map value before) ≡ Some [] = ap (λ members. Some (map value members)) none in (
      map value after,
      subst (λ first. Serves old new had_taken were_taken had_sent were_sent first (Some (map value after)) ended) had serves,
      All-map (λ image. ∥ taken image ∥₁) value after (λ k d within. each (get_or after k d)),
      λ other. stored volume.image ([], had, λ unchanged. ap (λ (mounted : Mounted). mounted.image) is) other,
    )
