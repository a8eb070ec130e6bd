-- The replies that a run sends to the requests that it takes.
use Rattle.std.specs.Prelude.{◌≡◌, ◌≢◌, ℕ, ◌-◌, ◌^◌, List, [], ◌∷◌, ◌++◌, length, Option, None, Result, Ok, Err}
use Rattle.std.specs.List.{filter_map}
use Rattle.vol_serve.specs.Messages.{Grows}
use Rattle.vol_serve.specs.declared.request_loop.ServeFault.{ServeFault}
use Rattle.vol_serve.specs.declared.request_loop.ServeFault.TheVariants.{NoMemory, Send, Requests}

-- the requests of a run with this result, and the replies sent: one for each request that has a reply, in order; if sending failed, the reply to the
-- last request is missing; serving also ends after 2^64 - 1 requests (this project)
abbrev pub AreServed : {X : Type 0} → (List ℕ → Option (List ℕ)) → List (List ℕ) → List (List ℕ) → Result X ServeFault → Type 0
AreServed reply requests sent (Ok done) = sent ≡ filter_map reply requests
AreServed reply requests sent (Err NoMemory) = (requests ≡ []) × (sent ≡ [])
AreServed reply requests sent (Err Send) =
    (before : List (List ℕ)) × (last : List ℕ) × (requests ≡ before ++ last ∷ []) × (reply last ≢ None) × (sent ≡ filter_map reply before)
AreServed reply requests sent (Err Requests) = (sent ≡ filter_map reply requests) × (length requests ≡ 2 ^ 64 - 1)

-- the messages taken and sent were extended by requests and their replies (this project)
abbrev pub Serves : {X : Type 0} → (List ℕ → Option (List ℕ)) → Option (List (List ℕ)) → Option (List (List ℕ)) → Option (List (List ℕ))
    → Option (List (List ℕ)) → Result X ServeFault → Type 0
Serves reply taken taken' sent sent' result =
    (requests : List (List ℕ)) × (replies : List (List ℕ)) × Grows taken taken' requests × Grows sent sent' replies × AreServed reply requests replies result
