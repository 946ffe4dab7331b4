use Rattle.std.proofs.Common.{[], refl, inl, inr}
use Rattle.std.specs.Prelude.{codes}
use Rattle.collect_engine.proofs.Collected.{noted, took}
use Rattle.collect_engine.proofs.Serves.{appends_none}
use Rattle.collect_engine.proofs.collecting.write_archive.Goals as goal

pub returns-in-Ok : goal.returns-in-Ok
returns-in-Ok g c = (
  [],
  inl (refl, (c.in-Ok.ensures.no_failure, c.in-Ok.ensures.octets), refl),
  inl (refl, appends_none (g.N.Output.state c.args.notes.now).taken),
)

pub returns-in-Err : goal.returns-in-Err
returns-in-Err g c =
    let note = c.write_all-noted in
    let fault = c.in-Err in (
      codes "write fault\n",
      inr (refl, (fault.ensures.cause, fault.field-0.sent, fault.ensures.some_left, fault.ensures.octets), refl),
      noted _ _ _ _ _ (took note.result _ _ _ note.ensures),
    )
