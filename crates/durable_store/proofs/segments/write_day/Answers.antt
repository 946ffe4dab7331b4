use Rattle.std.proofs.Common.{◌∷◌, arith}
use Rattle.archive_text.specs.EntryViews.{entry_of}
use Rattle.archive_text.specs.Text.{text_of}
use Rattle.archive_pages.specs.Paged.{entries_from}
use Rattle.journal.specs.Journals.{IsSound}
use Rattle.record_store.proofs.Remaining.{beside_less}
use Rattle.durable_store.specs.Segments.{octets_of}
use Rattle.durable_store.proofs.Daily.{aside_gains, kept_gains, kept_grow, kept_held, kept_sound, name_apart}
use Rattle.durable_store.proofs.Failing.{day_is_name, kept_cause}
use Rattle.durable_store.proofs.Growth.{aside_grow}
use Rattle.durable_store.proofs.Readable.{at_err}
use Rattle.durable_store.proofs.segments.write_day.Goals as goal

pub returns-in_err-draft-clause-gains : goal.returns-in_err-draft-clause-gains
returns-in_err-draft-clause-gains g c tells sound archive =
    aside_gains (g.D.Disk.state c.args.disk.now) (g.D.Disk.state c.draft_day.new.disk) (octets_of c.args.name)
    (entry_of c.args.first.now ∷ entries_from c.args.set.now c.args.behind) (c.draft_day.ensures.aside tells)
    (name_apart c.args.name)

pub returns-in_err-draft-clause-segments : goal.returns-in_err-draft-clause-segments
returns-in_err-draft-clause-segments g c tells sound =
    beside_less 0 1 (g.D.Disk.state c.args.disk.now) (g.D.Disk.state c.draft_day.new.disk) (omega arith)
    (aside_grow (g.D.Disk.state c.args.disk.now) (g.D.Disk.state c.draft_day.new.disk) (octets_of c.args.name)
    (c.draft_day.ensures.aside tells) (name_apart c.args.name))

pub returns-in_err-keep-clause-gains : goal.returns-in_err-keep-clause-gains
returns-in_err-keep-clause-gains g c =
    kept_gains (g.D.Disk.state c.args.disk.now) (g.D.Disk.state c.draft_day.new.disk)
    (g.D.Disk.state c.keep.new.disk) (g.D.Disk.tells c.keep.new.disk) (g.D.Disk.tells c.draft_day.new.disk)
    (octets_of c.args.name) c.in_ok-draft.draft c.args.day.now c.in_ok-draft.ensures.drafted.run
    (entry_of c.args.first.now ∷ entries_from c.args.set.now c.args.behind) c.keep.ensures.told
    (name_apart c.args.name) c.in_ok-draft.ensures.drafted.drafts
    c.keep.ensures.any_moment c.keep.ensures.others c.keep.ensures.still_held

pub returns-in_err-keep-clause-segments : goal.returns-in_err-keep-clause-segments
returns-in_err-keep-clause-segments g c =
    kept_grow (g.D.Disk.state c.args.disk.now) (g.D.Disk.state c.draft_day.new.disk)
    (g.D.Disk.state c.keep.new.disk) (g.D.Disk.tells c.keep.new.disk) (g.D.Disk.tells c.draft_day.new.disk)
    (octets_of c.args.name) c.in_ok-draft.draft c.args.day.now c.in_ok-draft.ensures.drafted.run
    (entry_of c.args.first.now ∷ entries_from c.args.set.now c.args.behind) c.keep.ensures.told
    (name_apart c.args.name) c.in_ok-draft.ensures.drafted.drafts
    c.keep.ensures.segments

pub returns-in_err-keep-clause-cause : goal.returns-in_err-keep-clause-cause
returns-in_err-keep-clause-cause g c =
    let fault = c.in_err-keep.field-0.0 in
    let drafted = c.in_ok-draft.ensures.drafted in
    at_err c.from_residual-in_err-keep.result fault _ c.from_residual-in_err-keep.ensures.1
    (kept_cause (g.D.Disk.tells c.keep.new.disk) (g.D.Disk.has_failed c.keep.new.disk)
    (IsSound (g.D.Disk.state c.args.disk.now)) (g.D.Disk.state c.draft_day.new.disk) (g.D.Disk.state c.keep.new.disk)
    c.in_ok-draft.draft c.args.day.now fault (day_is_name c.args.first.now.instant c.args.day.now c.requires)
    (λ tell sound. (text_of drafted.run, drafted.drafts.drafts (c.keep.ensures.told tell) sound))
    c.in_err-keep.ensures.cause)

pub returns-clause-gains : goal.returns-clause-gains
returns-clause-gains g c =
    kept_gains (g.D.Disk.state c.args.disk.now) (g.D.Disk.state c.draft_day.new.disk)
    (g.D.Disk.state c.keep.new.disk) (g.D.Disk.tells c.keep.new.disk) (g.D.Disk.tells c.draft_day.new.disk)
    (octets_of c.args.name) c.in_ok-draft.draft c.args.day.now c.in_ok-draft.ensures.drafted.run
    (entry_of c.args.first.now ∷ entries_from c.args.set.now c.args.behind) c.keep.ensures.told
    (name_apart c.args.name) c.in_ok-draft.ensures.drafted.drafts
    c.keep.ensures.any_moment c.keep.ensures.others c.keep.ensures.still_held

pub returns-clause-segments : goal.returns-clause-segments
returns-clause-segments g c =
    kept_grow (g.D.Disk.state c.args.disk.now) (g.D.Disk.state c.draft_day.new.disk)
    (g.D.Disk.state c.keep.new.disk) (g.D.Disk.tells c.keep.new.disk) (g.D.Disk.tells c.draft_day.new.disk)
    (octets_of c.args.name) c.in_ok-draft.draft c.args.day.now c.in_ok-draft.ensures.drafted.run
    (entry_of c.args.first.now ∷ entries_from c.args.set.now c.args.behind) c.keep.ensures.told
    (name_apart c.args.name) c.in_ok-draft.ensures.drafted.drafts
    c.keep.ensures.segments

pub returns-clause-wrote : goal.returns-clause-wrote
returns-clause-wrote g c = record {
  run = c.in_ok-draft.ensures.drafted.run;
  is = c.in_ok-draft.ensures.drafted.is;
  held = kept_held (g.D.Disk.state c.args.disk.now) (g.D.Disk.state c.draft_day.new.disk)
      (g.D.Disk.state c.keep.new.disk) (g.D.Disk.tells c.keep.new.disk) (g.D.Disk.tells c.draft_day.new.disk)
      (octets_of c.args.name) c.in_ok-draft.draft c.args.day.now c.in_ok-draft.ensures.drafted.run
      (entry_of c.args.first.now ∷ entries_from c.args.set.now c.args.behind) c.keep.ensures.told
      (name_apart c.args.name) c.in_ok-draft.ensures.drafted.drafts
      c.in_ok-keep.ensures.held;
  sound = kept_sound (g.D.Disk.state c.args.disk.now) (g.D.Disk.state c.draft_day.new.disk)
      (g.D.Disk.state c.keep.new.disk) (g.D.Disk.tells c.keep.new.disk) (g.D.Disk.tells c.draft_day.new.disk)
      (octets_of c.args.name) c.in_ok-draft.draft c.args.day.now c.in_ok-draft.ensures.drafted.run
      (entry_of c.args.first.now ∷ entries_from c.args.set.now c.args.behind) c.keep.ensures.told
      (name_apart c.args.name) c.in_ok-draft.ensures.drafted.drafts
      c.in_ok-keep.ensures.sound;
}
