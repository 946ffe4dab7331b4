use Rattle.std.proofs.Common.{ap}
use Rattle.octet_devices.specs.Device.{OutputState}
use Rattle.store_site.proofs.HeldSets.{cause_of_result, room_cause, set_of_result}
use Rattle.store_site.proofs.reading.gather.Goals as goal

pub returns-in-Ok-clause-set : goal.returns-in-Ok-clause-set
returns-in-Ok-clause-set g c t =
    set_of_result (g.F.Folder.files c.args.folder.now) c.args.range _ _ _ _ c.into_records.result
    (ap (λ (s : OutputState). s.taken) c.new-output.ensures) c.new.ensures.none c.into_inner.ensures
    (c.in-Ok.ensures.outcome t) c.into_records.ensures.ok c.into_records.ensures.archive

pub returns-in-Ok-clause-cause : goal.returns-in-Ok-clause-cause
returns-in-Ok-clause-cause g c =
    cause_of_result _ _ (g.F.Folder.files c.args.folder.now) c.args.range _ _ _ _ c.into_records.result
    (ap (λ (s : OutputState). s.taken) c.new-output.ensures) c.new.ensures.none c.into_inner.ensures
    c.in-Ok.ensures.outcome c.into_records.ensures.err

pub returns-in-Err-Write-clause-cause : goal.returns-in-Err-Write-clause-cause
returns-in-Err-Write-clause-cause g c =
    room_cause _ _ (g.F.Folder.files c.args.folder.now) c.args.range c.fault.result c.fault.ensures
