-- Refusals of requests, and results that depend on others.
use Rattle.std.specs.Prelude.{◌≡◌, ◌≢◌, ℕ, List, Result, Ok, Err}
use Rattle.vol_dir.specs.declared.refusal.Refusal.TheVariants as refusals
use Rattle.vol_serve.specs.declared.nodes.fault.NodeFault.{NodeFault}
use Rattle.vol_serve.specs.declared.errno.RequestRefusal.TheVariants as requests
use Rattle.vol_mounted.specs.declared.refusal.MountedRefusal.{MountedRefusal}
use Rattle.vol_mounted.specs.declared.refusal.MountedRefusal.TheVariants.{Request, Call}

-- the refusal for a fault in finding a node (this project)
abbrev pub no_node : NodeFault → MountedRefusal
no_node fault = Request (requests.Node fault)

-- the refusal if memory ran out (errno.h: ENOMEM)
abbrev pub no_memory : MountedRefusal
no_memory = Call refusals.NoMemory

-- the refusal if there is no room (errno.h: ENOSPC)
abbrev pub no_space : MountedRefusal
no_space = Call refusals.NoSpace

-- a result whose fault is turned into a refusal (this project)
abbrev pub of_nodes : {X : Type 0} → Result X NodeFault → Result X MountedRefusal
of_nodes (Ok x) = Ok x
of_nodes (Err fault) = Err (no_node fault)

-- a result is the expected one, or memory ran out (this project)
abbrev pub Gives : {X : Type 0} → Result X MountedRefusal → Result X MountedRefusal → Type 0
Gives wanted (Ok x) = wanted ≡ Ok x
Gives wanted (Err refusal) = refusal ≢ no_memory → wanted ≡ Err refusal

-- a reply is the expected one; or the refusal is the expected one, or memory ran out (this project)
abbrev pub Puts : {X : Type 0} → Result (List ℕ) MountedRefusal → Result X MountedRefusal → List ℕ → Type 0
Puts wanted (Ok done) reply = wanted ≡ Ok reply
Puts wanted (Err refusal) reply = refusal ≢ no_memory → wanted ≡ Err refusal
