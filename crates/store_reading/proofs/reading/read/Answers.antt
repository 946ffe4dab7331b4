use Rattle.std.proofs.Common.{sym, subst, ◌∙◌}
use Rattle.std.specs.Prelude.{MatchResult}
use Rattle.disk.specs.States.{Files}
use Rattle.archive_sets.proofs.Stops.{failed_outcome}
use Rattle.store_reading.specs.Causes.{IsCause, reading_causes}
use Rattle.store_reading.specs.Folders.{AreNamesOf}
use Rattle.store_reading.specs.Journals.{IsOfMemory}
use Rattle.store_reading.specs.Sets.{WritesPart, WritesSet}
use Rattle.store_reading.proofs.Causing.{at_err, memory_cause, reading_result}
use Rattle.store_reading.proofs.DaysRead.{nothing_part}
use Rattle.store_reading.specs.Whole.{DaysAreWhole}
use Rattle.store_reading.proofs.Whole.{on_ok_more}
use Rattle.store_reading.proofs.reading.read.Goals as goal

pub returns-in_err-text-clause-outcome : goal.returns-in_err-text-clause-outcome
returns-in_err-text-clause-outcome g c t =
    failed_outcome c.from_residual.result c.in_err-text.field-0.0 _ _ c.from_residual.ensures.1
    (nothing_part (g.F.Folder.files c.args.folder.now) c.args.range (g.W.Output.state c.args.writer.now).taken)

pub returns-in_err-names-clause-outcome : goal.returns-in_err-names-clause-outcome
returns-in_err-names-clause-outcome g c t =
    failed_outcome c.from_residual-in_err-names.result c.in_err-names.field-0.0 _ _
    c.from_residual-in_err-names.ensures.1
    (nothing_part (g.F.Folder.files c.args.folder.now) c.args.range (g.W.Output.state c.args.writer.now).taken)

pub returns-clause-outcome : goal.returns-clause-outcome
returns-clause-outcome g c t =
    let listing = c.read_days.ensures.told t in
    let before = c.in_ok-names.ensures.told listing in
    let range = c.args.range in
    let old = (g.W.Output.state c.args.writer.now).taken in
    let new = (g.W.Output.state c.read_days.new.writer).taken in
    let same = c.in_ok-names.ensures.same listing ∙ c.in_ok-text.ensures.same before in
    subst (λ (f : Files). MatchResult c.read_days.result (λ _. WritesSet f range old new)
    (λ _. WritesPart f range old new)) same
    (c.read_days.ensures.outcome t
    (subst (λ (f : Files). AreNamesOf f c.in_ok-names.names) (sym (c.in_ok-names.ensures.same listing))
    (c.in_ok-names.ensures.names listing))
    (subst (IsOfMemory (g.F.Folder.files c.list_in_order.new.folder) range) (sym c.deref.ensures.value)
    (subst (λ (f : Files). IsOfMemory f range c.in_ok-text.text.items) (sym same) (c.in_ok-text.ensures.read before))))

pub returns-clause-whole : goal.returns-clause-whole
returns-clause-whole g c = on_ok_more c.read_days.result (λ whole t.
    let listing = c.read_days.ensures.told t in
    let before = c.in_ok-names.ensures.told listing in
    let same = c.in_ok-names.ensures.same listing ∙ c.in_ok-text.ensures.same before in
    record {
      journals = c.in_ok-text.ensures.journals before;
      mixed = c.in_ok-text.ensures.mixed before;
      segments = subst (λ (f : Files). DaysAreWhole f c.args.range) same (whole t
          (subst (λ (f : Files). AreNamesOf f c.in_ok-names.names) (sym (c.in_ok-names.ensures.same listing))
          (c.in_ok-names.ensures.names listing)));
    }) c.read_days.ensures.whole

pub returns-clause-cause : goal.returns-clause-cause
returns-clause-cause g c =
    let files = g.F.Folder.files c.args.folder.now in
    let mid = g.F.Folder.files c.list_in_order.new.folder in
    let told = g.F.Folder.tells c.read_days.new.folder in
    let failed = g.F.Folder.has_failed c.read_days.new.folder in
    let range = c.args.range in
    let names = c.in_ok-names.names in
    let text = c.deref.result.now in
    reading_result told (told × AreNamesOf mid names × IsOfMemory mid range text) failed mid files c.args.range
    c.read_days.result
    (λ t.
    let listing = c.read_days.ensures.told t in
    let before = c.in_ok-names.ensures.told listing in
    let same = c.in_ok-names.ensures.same listing ∙ c.in_ok-text.ensures.same before in (
      t,
      subst (λ (f : Files). AreNamesOf f names) (sym (c.in_ok-names.ensures.same listing))
          (c.in_ok-names.ensures.names listing),
      subst (IsOfMemory mid range) (sym c.deref.ensures.value)
          (subst (λ (f : Files). IsOfMemory f range c.in_ok-text.text.items) (sym same) (c.in_ok-text.ensures.read before)),
    ))
    (λ t.
    let listing = c.read_days.ensures.told t in
    let before = c.in_ok-names.ensures.told listing in
    c.in_ok-names.ensures.same listing ∙ c.in_ok-text.ensures.same before) c.read_days.ensures.cause

pub returns-in_err-text-clause-cause : goal.returns-in_err-text-clause-cause
returns-in_err-text-clause-cause g c =
    let files = g.F.Folder.files c.args.folder.now in
    let told = g.F.Folder.tells c.read_memory.new.folder in
    let failed = g.F.Folder.has_failed c.read_memory.new.folder in
    at_err c.from_residual.result c.in_err-text.field-0.0 (IsCause (reading_causes told failed files c.args.range))
    c.from_residual.ensures.1
    (memory_cause told failed files c.args.range c.in_err-text.field-0.0 c.in_err-text.ensures.cause)
