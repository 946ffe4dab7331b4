use Rattle.std.proofs.Common.{List, ℕ, Option, refl, sym, subst, ◌∙◌}
use Rattle.disk.specs.States.{Files}
use Rattle.archive_sets.proofs.Stops.{failed_outcome}
use Rattle.store_reading.specs.Causes.{IsCause, reading_causes}
use Rattle.store_reading.specs.Folders.{AreNamesOf}
use Rattle.store_reading.specs.Journals.{IsOfMemory}
use Rattle.store_reading.specs.Names.{IsNextDay}
use Rattle.store_reading.specs.Sets.{IsArchiveText, WritesDay, WritesPartOfDay}
use Rattle.store_reading.proofs.Causing.{at_err, reading_still, writer_on}
use Rattle.store_reading.proofs.DaysRead.{begun, copied_is, part_archive, read_all, read_cut, read_more, read_part}
use Rattle.store_reading.specs.Whole.{SegmentsAreWhole}
use Rattle.store_reading.proofs.Whole.{days_more_whole, days_whole}
use Rattle.store_reading.proofs.reading.read_days.Goals as goal

pub days-init : goal.days-init
days-init g c = record {
  told = λ t. t;
  same = λ t. refl;
  names = λ t listed. listed;
  read = λ t listed j. begun (g.F.Folder.files c.args.folder.now) c.args.kept.now.range c.args.text.now
      (g.W.Output.state c.args.writer.now).taken j;
  writer = refl;
  whole = λ t listed day not. absurd (not tt);
}

pub returns-in_default-clause-outcome : goal.returns-in_default-clause-outcome
returns-in_default-clause-outcome g c t listed j =
    let i = c.days.invariant in
    let names = c.days.names in
    let rest = c.days.rest.now in
    let next = subst (λ (l : Option (List ℕ)). IsNextDay l names rest c.next_day.result)
    (copied_is c.as_ref.result ∙ c.as_ref.ensures.value)
    c.next_day.ensures in
    read_all (g.F.Folder.files c.args.folder.now) c.args.kept.now.range c.days.last names rest
    (g.W.Output.state c.args.writer.now).taken (g.W.Output.state c.days.writer).taken (i.read t listed j)
    (i.names t listed)
    c.next_day.result next c.in_default.is

pub days-preserved : goal.days-preserved
days-preserved g c =
    let i = c.days.invariant in
    let names = c.days.names in
    let rest = c.days.rest.now in
    let files = g.F.Folder.files c.args.folder.now in
    let range = c.args.kept.now.range in
    let mid = (g.W.Output.state c.days.writer).taken in
    let new = (g.W.Output.state c.read_day.new.writer).taken in
    let next = subst (λ (l : Option (List ℕ)). IsNextDay l names rest c.next_day.result)
    (copied_is c.as_ref.result ∙ c.as_ref.ensures.value)
    c.next_day.ensures in
    record {
      told = λ t. i.told (c.read_day.ensures.told t);
      same = λ t. c.read_day.ensures.same t ∙ i.same (c.read_day.ensures.told t);
      names = λ t listed. let before = c.read_day.ensures.told t in
          subst (λ (f : Files). AreNamesOf f c.read_day.new.names) (i.same before)
          (c.read_day.ensures.names t (subst (λ (f : Files). AreNamesOf f names) (sym (i.same before))
          (i.names before listed)));
      read = λ t listed j. let before = c.read_day.ensures.told t in
          read_more files range c.days.last names rest (g.W.Output.state c.args.writer.now).taken mid
          (i.read before listed j)
          (i.names before listed) c.next_day.result next c.in-Some.day c.in-Some.is c.day_len.result
          c.day_len.ensures.parts
          c.split_at.result.0.now c.split_at.result.1.now new c.split_at.ensures.front c.split_at.ensures.back
          (λ xs up is of. subst (λ (f : Files). WritesDay f range c.in-Some.day xs mid new) (i.same before)
          (c.in_ok-read_day.ensures.outcome t (subst (λ (f : Files). AreNamesOf f names) (sym (i.same before))
          (i.names before listed)) xs up is of));
      writer = c.in_ok-read_day.ensures.writer ∙ i.writer;
      whole = λ t listed. let before = c.read_day.ensures.told t in
          days_more_whole files range c.days.last names rest c.next_day.result next (i.names before listed)
          (i.whole before listed) c.in-Some.day c.in-Some.is
          (λ meets. subst (λ (f : Files). SegmentsAreWhole f c.in-Some.day) (i.same before)
          (c.in_ok-read_day.ensures.whole t (subst (λ (f : Files). AreNamesOf f names) (sym (i.same before))
          (i.names before listed)) meets));
    }

pub returns-in_err-read_day-clause-outcome : goal.returns-in_err-read_day-clause-outcome
returns-in_err-read_day-clause-outcome g c t listed j =
    let i = c.days.invariant in
    let names = c.days.names in
    let rest = c.days.rest.now in
    let files = g.F.Folder.files c.args.folder.now in
    let range = c.args.kept.now.range in
    let mid = (g.W.Output.state c.days.writer).taken in
    let new = (g.W.Output.state c.read_day.new.writer).taken in
    let before = c.read_day.ensures.told t in
    let next = subst (λ (l : Option (List ℕ)). IsNextDay l names rest c.next_day.result)
    (copied_is c.as_ref.result ∙ c.as_ref.ensures.value)
    c.next_day.ensures in
    failed_outcome c.from_residual.result c.in_err-read_day.field-0.0 _ _ c.from_residual.ensures.1
    (read_part files range c.days.last names rest (g.W.Output.state c.args.writer.now).taken mid
    (i.read before listed j)
    (i.names before listed) c.next_day.result next c.in-Some.day c.in-Some.is c.day_len.result c.day_len.ensures.parts
    c.split_at.result.0.now new c.split_at.ensures.front
    (λ xs up is of. subst (λ (f : Files). WritesPartOfDay f range c.in-Some.day xs mid new) (i.same before)
    (c.in_err-read_day.ensures.outcome t (subst (λ (f : Files). AreNamesOf f names) (sym (i.same before))
    (i.names before listed)) xs up is of)))

pub returns-clause-outcome : goal.returns-clause-outcome
returns-clause-outcome g c t listed j =
    read_cut (g.F.Folder.files c.args.folder.now) c.args.kept.now.range c.days.last c.days.rest.now
    (g.W.Output.state c.args.writer.now).taken (g.W.Output.state c.days.writer).taken (c.days.invariant.read t listed j)

pub returns-in_default-clause-whole : goal.returns-in_default-clause-whole
returns-in_default-clause-whole g c t listed =
    let i = c.days.invariant in
    let names = c.days.names in
    let rest = c.days.rest.now in
    let next = subst (λ (l : Option (List ℕ)). IsNextDay l names rest c.next_day.result)
    (copied_is c.as_ref.result ∙ c.as_ref.ensures.value)
    c.next_day.ensures in
    days_whole (g.F.Folder.files c.args.folder.now) c.args.kept.now.range c.days.last names rest c.next_day.result next
    (i.names t listed) (i.whole t listed) c.in_default.is

pub returns-in_err-read_day-clause-cause : goal.returns-in_err-read_day-clause-cause
returns-in_err-read_day-clause-cause g c =
    let i = c.days.invariant in
    let files = g.F.Folder.files c.args.folder.now in
    let mid = g.F.Folder.files c.days.folder in
    let told = g.F.Folder.tells c.read_day.new.folder in
    let failed = g.F.Folder.has_failed c.read_day.new.folder in
    let range = c.args.kept.now.range in
    let of_day = c.split_at.result.0.now in
    at_err c.from_residual.result c.in_err-read_day.field-0.0
    (IsCause (reading_causes
    (told × AreNamesOf files c.args.names.now × IsOfMemory files range c.args.text.now) failed files range))
    c.from_residual.ensures.1
    (reading_still (told × AreNamesOf files c.args.names.now × IsOfMemory files range c.args.text.now)
    (told × AreNamesOf mid c.days.names × IsArchiveText of_day) failed mid files range
    (λ t.
    let before = c.read_day.ensures.told t.0 in (
      t.0,
      subst (λ (f : Files). AreNamesOf f c.days.names) (sym (i.same before)) (i.names before t.1),
      part_archive files range c.days.last c.days.rest.now (g.W.Output.state c.args.writer.now).taken
          (g.W.Output.state c.days.writer).taken (i.read before t.1 t.2) c.in-Some.day c.day_len.result of_day
          c.day_len.ensures.parts c.split_at.ensures.front,
    ))
    (λ t. i.same (c.read_day.ensures.told t.0)) c.in_err-read_day.field-0.0 c.in_err-read_day.ensures.cause)

pub returns-in_err-read_day-clause-writer : goal.returns-in_err-read_day-clause-writer
returns-in_err-read_day-clause-writer g c =
    writer_on c.from_residual.result c.in_err-read_day.field-0.0 (g.W.Output.state c.args.writer.now).failures
    (g.W.Output.state c.days.writer).failures (g.W.Output.state c.read_day.new.writer).failures
    c.from_residual.ensures.1 c.days.invariant.writer c.in_err-read_day.ensures.writer
