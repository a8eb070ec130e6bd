use Rattle.std.proofs.Common.{◌∙◌, sym, ap, []}
use Rattle.fuse_words.specs.declared.request.RequestFault.TheVariants as faults
use Rattle.vol_serve.proofs.MessageLaws.{grows_by_none}
use Rattle.vol_mounted.proofs.TurnLaws.{unheard, misjudged, misshapen}
use Rattle.vol_mounted.proofs.server.MountedServer.answer.Goals as goal

pub returns-in-Err-NoHeader : goal.returns-in-Err-NoHeader
returns-in-Err-NoHeader g c = ([], grows_by_none _, unheard _ _ _ _ c.in-Err-NoHeader.ensures c.in-Err-NoHeader.field-0-is)

pub returns-in-Err-Length : goal.returns-in-Err-Length
returns-in-Err-Length g c =
    ([], grows_by_none _, misjudged _ _ _ _ _ _ c.in-Err-Length.ensures (c.in-Err-Length.field-0-is ∙ ap (λ header. faults.Length header) (sym c.in-Err-Length.header-is)) c.refuse_malformed.ensures)

pub returns-in-Err-Body : goal.returns-in-Err-Body
returns-in-Err-Body g c =
    ([], grows_by_none _, misshapen _ _ _ _ _ _ c.in-Err-Body.ensures (c.in-Err-Body.field-0-is ∙ ap (λ header. faults.Body header) (sym c.in-Err-Body.header-is)) c.refuse_malformed-in-Err-Body.ensures)
