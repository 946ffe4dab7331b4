use Rattle.std.proofs.Common.{rules}
use Rattle.std.proofs.lemmas.Result.{IfErr-weaker}
use Rattle.archive_streams.proofs.Stops.{is_not_write, stopped_write}
use Rattle.archive_streams.proofs.Turns.{if_ok_then, left_before, left_first, left_kept, left_told, right_before}
use Rattle.archive_streams.proofs.Turns.{right_first, right_kept, right_told}
use Rattle.archive_streams.proofs.merge.Merge.run.Goals as goal

pub returns-in_default-clause-joined : goal.returns-in_default-clause-joined
returns-in_default-clause-joined g c =
    if_ok_then c.finish.result _ _ c.finish.ensures.ok
    (λ n j dl dr start s. j.joined dl _ dr _ start c.in_default.ensures.done (c.in_default.ensures.joins dl dr start s))

pub returns-in_default-clause-stopped : goal.returns-in_default-clause-stopped
returns-in_default-clause-stopped g c =
    IfErr-weaker c.finish.result _ _ (λ fault h dl dr start s.
    h.stopped dl _ dr _ start c.in_default.ensures.room (c.in_default.ensures.joins dl dr start s)) c.finish.ensures.err

pub returns-in-Write-clause-stopped : goal.returns-in-Write-clause-stopped
returns-in-Write-clause-stopped g c = λ dl dr start s.
    stopped_write c.in-Err.fault c.in-Write.sent _ dl _ dr _ start _ c.in-Write.is
    (c.in-Err.ensures.halted dl dr start s)

pub returns-in_default-clause-told : goal.returns-in_default-clause-told
returns-in_default-clause-told g c = record {
  left = left_kept c.finish.result _ _ c.finish.ensures.told.only c.in_default.ensures.told.left;
  right = right_kept c.finish.result _ _ c.finish.ensures.told.only c.in_default.ensures.told.right;
  writer = search rules;
  read_left = search rules;
  read_right = search rules;
}

pub returns-in-Write-clause-told : goal.returns-in-Write-clause-told
returns-in-Write-clause-told g c = record {
  left = left_before c.in-Err.fault c.in-Write.sent _ _ c.in-Err.ensures.told.left;
  right = right_before c.in-Err.fault c.in-Write.sent _ _ c.in-Err.ensures.told.right;
  writer = search rules;
  read_left = search rules;
  read_right = search rules;
}

pub returns-in-Ok : goal.returns-in-Ok
returns-in-Ok g c = record {
  joined = tt;
  stopped = λ dl dr start s. c.in-Ok.ensures.ok.halted c.in-Err.fault dl _ dr _ start
      (is_not_write c.in-Err.fault c.in_default-fault.not-Write) (c.in-Err.ensures.halted dl dr start s);
  told = record {
    left = left_told c.in-Err.fault _ _ (is_not_write c.in-Err.fault c.in_default-fault.not-Write)
        c.in-Err.ensures.told.left;
    right = right_told c.in-Err.fault _ _ (is_not_write c.in-Err.fault c.in_default-fault.not-Write)
        c.in-Err.ensures.told.right;
    writer = search rules;
    read_left = search rules;
    read_right = search rules;
  };
  not_memory = search rules;
}

pub returns-in-Err-finish : goal.returns-in-Err-finish
returns-in-Err-finish g c = record {
  joined = tt;
  stopped = λ dl dr start s. c.in-Err-finish.ensures.err.halted c.in-Err.fault dl _ dr _ start
      (is_not_write c.in-Err.fault c.in_default-fault.not-Write) (c.in-Err.ensures.halted dl dr start s);
  told = record {
    left = left_first c.in-Err-finish.write c.in-Err.fault _ _ c.in-Err-finish.ensures.told.only
        c.in-Err.ensures.told.left;
    right = right_first c.in-Err-finish.write c.in-Err.fault _ _ c.in-Err-finish.ensures.told.only
        c.in-Err.ensures.told.right;
    writer = search rules;
    read_left = search rules;
    read_right = search rules;
  };
  not_memory = search rules;
}
