use Rattle.std.proofs.Common.{List, ℕ, ap, map, rules, subst, sym}
use Rattle.std.proofs.KnownBytes.{Appends-nil}
use Rattle.archive_sets.proofs.Stops.{failed_outcome}
use Rattle.store_reading.specs.Causes.{IsCause, reading_causes}
use Rattle.store_reading.specs.Faults.{IsJoinFault}
use Rattle.store_reading.specs.Folders.{AreNamesOf}
use Rattle.store_reading.specs.Sets.{AreOfDay, IsArchiveText}
use Rattle.store_reading.specs.Sources.{source_state}
use Rattle.store_reading.proofs.Causing.{at_err, day_cause, join_cause}
use Rattle.store_reading.proofs.Joined.{day_halted, day_joined, nothing_halted}
use Rattle.store_reading.proofs.Written.{nothing_of_day}
use Rattle.store_reading.proofs.reading.read_day.Goals as goal

pub returns-then-is_outside-clause-outcome : goal.returns-then-is_outside-clause-outcome
returns-then-is_outside-clause-outcome g c t listed xs archive is of =
    nothing_of_day (g.F.Folder.files c.args.folder.now) c.args.kept.now.range c.args.day.now xs
    (g.W.Output.state c.args.writer.now).taken of (c.is_outside.ensures.none (search rules))

pub returns-in_err-inputs-clause-outcome : goal.returns-in_err-inputs-clause-outcome
returns-in_err-inputs-clause-outcome g c t listed xs archive is of =
    failed_outcome c.from_residual.result c.in_err-inputs.field-0.0 _ _ c.from_residual.ensures.1
    (nothing_halted (g.F.Folder.files c.args.folder.now) c.args.kept.now.range c.args.day.now xs
    (g.W.Output.state c.args.writer.now).taken (g.W.Output.state c.args.writer.now).taken
    (Appends-nil (g.W.Output.state c.args.writer.now).taken))

pub returns-in-Ok-clause-outcome : goal.returns-in-Ok-clause-outcome
returns-in-Ok-clause-outcome g c t listed xs archive is of =
    day_joined (g.F.Folder.files c.args.folder.now) c.args.kept.now.range c.args.day.now xs _ _ _ _ _
    (subst (AreOfDay (g.F.Folder.files c.args.folder.now) c.args.day.now xs)
    (sym (ap (map (source_state g.F.File.Input.state)) c.as_mut_slice.ensures.value))
    (c.in_ok-inputs.ensures.inputs t listed xs archive is)) c.in-Ok.ensures.outcome

pub returns-clause-outcome : goal.returns-clause-outcome
returns-clause-outcome g c t listed xs archive is of =
    day_halted (g.F.Folder.files c.args.folder.now) c.args.kept.now.range c.args.day.now xs _ _ _ _ _
    (subst (AreOfDay (g.F.Folder.files c.args.folder.now) c.args.day.now xs)
    (sym (ap (map (source_state g.F.File.Input.state)) c.as_mut_slice.ensures.value))
    (c.in_ok-inputs.ensures.inputs t listed xs archive is)) c.in-Err.ensures.outcome

pub returns-in_err-inputs-clause-cause : goal.returns-in_err-inputs-clause-cause
returns-in_err-inputs-clause-cause g c =
    let files = g.F.Folder.files c.args.folder.now in
    let told = g.F.Folder.tells c.day_inputs.new.folder in
    let failed = g.F.Folder.has_failed c.day_inputs.new.folder in
    let range = c.args.kept.now.range in
    at_err c.from_residual.result c.in_err-inputs.field-0.0
    (IsCause (reading_causes (told × AreNamesOf files c.args.names.now × IsArchiveText c.args.text.now) failed files
    range)) c.from_residual.ensures.1
    (day_cause (told × AreNamesOf files c.args.names.now × IsArchiveText c.args.text.now) failed files range
    c.args.day.now c.day_inputs.new.names (c.is_outside.ensures.inside c.if-is_outside.false)
    (λ t. c.day_inputs.ensures.names t.0 t.1) told (λ t. t.0) c.in_err-inputs.field-0.0 c.in_err-inputs.ensures.cause)

pub returns-clause-cause : goal.returns-clause-cause
returns-clause-cause g c =
    let files = g.F.Folder.files c.args.folder.now in
    let told = g.F.Folder.tells c.day_inputs.new.folder in
    let failed = g.F.Folder.has_failed c.day_inputs.new.folder in
    let day = c.args.day.now in
    join_cause (told × AreNamesOf files c.args.names.now × IsArchiveText c.args.text.now) failed files
    c.args.kept.now.range day c.as_slice.result.now (c.is_outside.ensures.inside c.if-is_outside.false)
    (λ t. subst (λ (l : List (List ℕ)). AreNamesOf files l) (sym c.as_slice.ensures.names)
    (c.day_inputs.ensures.names t.0 t.1)) c.in-Err.fault c.join_fault.result _ _ _
    (λ t.
    let a = subst (AreOfDay files day t.2.0) (sym (ap (map (source_state g.F.File.Input.state)) c.as_mut_slice.ensures.value))
    (c.in_ok-inputs.ensures.inputs t.0 t.1 t.2.0 t.2.1 t.2.2) in
    (a.entries, a.inputs)) c.in-Err.ensures.outcome.cause
    (subst (λ (p : List ℕ). IsJoinFault p c.as_slice.result.now c.in-Err.fault c.join_fault.result) c.of.ensures.same
    c.join_fault.ensures)
