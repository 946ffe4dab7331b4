use Rattle.std.proofs.Common.{◌+◌, ◌<◌, ◌^◌, arith}
use Rattle.std.proofs.lemmas.Bool.{false≢true}
use Rattle.archive_text.specs.Positions.{position_of}
use Rattle.archive_text.specs.declared.limits.TheConstants.{ENTRY_MAX}
use Rattle.archive_vec.proofs.ReadingSteps.{not_ascending}
use Rattle.archive_vec.proofs.entry_list.EntryList.push_read.Goals as goal
use Rattle.archive_text.proofs.FaultLaws.{fault_behind, position_within}

pub returns-in-Err-clause-err : goal.returns-in-Err-clause-err
returns-in-Err-clause-err c =
    let fits : c.args.offset + position_of c.in-Err.fault < 2 ^ 64 =
    omega (arith, c.requires.fits, position_within ENTRY_MAX c.args.text.now c.in-Err.fault c.in-Err.ensures) in
    rw (c.later.ensures.fits fits) (fault_behind ENTRY_MAX _ _ _ _ c.requires.offset c.in-Err.ensures)

pub returns-then-not-is_below-clause-err : goal.returns-then-not-is_below-clause-err
returns-then-not-is_below-clause-err c =
    not_ascending ENTRY_MAX _ _ _ _ _ c.requires.offset c.in-Ok.ensures
    (λ all. false≢true (c.if-not-is_below.ensures.1 all))
