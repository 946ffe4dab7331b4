use Rattle.std.proofs.Common.{arith}
use Rattle.std.specs.Prelude.{codes}
use Rattle.archive_text.specs.Text.{text_of}
use Rattle.archive_pages.specs.Paged.{entries_in}
use Rattle.journal.specs.Journals.{IsSound}
use Rattle.record_store.proofs.Remaining.{beside_less}
use Rattle.durable_store.specs.Segments.{octets_of}
use Rattle.durable_store.proofs.Daily.{aside_gains, both_ok, err_weaker, kept_gains, kept_grow, kept_held, kept_sound, name_apart}
use Rattle.durable_store.proofs.Failing.{kept_cause, mixed_is_name}
use Rattle.durable_store.proofs.Growth.{aside_grow}
use Rattle.durable_store.proofs.mixed.write_mixed.Goals as goal

pub returns-in_err-draft_mixed-clause-gains : goal.returns-in_err-draft_mixed-clause-gains
returns-in_err-draft_mixed-clause-gains g c tells sound =
    aside_gains (g.D.Disk.state c.args.disk.now) (g.D.Disk.state c.draft_mixed.new.disk) (octets_of c.args.name)
    (entries_in c.args.set.now) (c.draft_mixed.ensures.aside tells) (name_apart c.args.name)

pub returns-in_err-draft_mixed-clause-segments : goal.returns-in_err-draft_mixed-clause-segments
returns-in_err-draft_mixed-clause-segments g c tells sound =
    beside_less 0 1 (g.D.Disk.state c.args.disk.now) (g.D.Disk.state c.draft_mixed.new.disk) (omega arith)
    (aside_grow (g.D.Disk.state c.args.disk.now) (g.D.Disk.state c.draft_mixed.new.disk) (octets_of c.args.name)
    (c.draft_mixed.ensures.aside tells) (name_apart c.args.name))

pub returns-clause-gains : goal.returns-clause-gains
returns-clause-gains g c tells sound =
    kept_gains (g.D.Disk.state c.args.disk.now) (g.D.Disk.state c.draft_mixed.new.disk)
    (g.D.Disk.state c.keep.new.disk) (g.D.Disk.tells c.keep.new.disk) (g.D.Disk.tells c.draft_mixed.new.disk)
    (octets_of c.args.name) c.in_ok-draft_mixed.field-0 (codes "mixed") c.in_ok-draft_mixed.ensures.drafted.mixed
    (entries_in c.args.set.now) c.keep.ensures.told (name_apart c.args.name) c.in_ok-draft_mixed.ensures.drafted.drafts
    c.keep.ensures.any_moment c.keep.ensures.others c.keep.ensures.still_held tells sound
    c.args.set.now.paged.archive

pub returns-clause-segments : goal.returns-clause-segments
returns-clause-segments g c =
    kept_grow (g.D.Disk.state c.args.disk.now) (g.D.Disk.state c.draft_mixed.new.disk)
    (g.D.Disk.state c.keep.new.disk) (g.D.Disk.tells c.keep.new.disk) (g.D.Disk.tells c.draft_mixed.new.disk)
    (octets_of c.args.name) c.in_ok-draft_mixed.field-0 (codes "mixed") c.in_ok-draft_mixed.ensures.drafted.mixed
    (entries_in c.args.set.now) c.keep.ensures.told (name_apart c.args.name) c.in_ok-draft_mixed.ensures.drafted.drafts
    c.keep.ensures.segments

pub returns-clause-cause : goal.returns-clause-cause
returns-clause-cause g c =
    let drafted = c.in_ok-draft_mixed.ensures.drafted in
    err_weaker _ _
    (λ fault cause. kept_cause (g.D.Disk.tells c.keep.new.disk) (g.D.Disk.has_failed c.keep.new.disk)
    (IsSound (g.D.Disk.state c.args.disk.now)) (g.D.Disk.state c.draft_mixed.new.disk) (g.D.Disk.state c.keep.new.disk)
    c.in_ok-draft_mixed.field-0 (codes "mixed") fault mixed_is_name
    (λ tell sound. (text_of drafted.mixed, drafted.drafts.drafts (c.keep.ensures.told tell) sound)) cause)
    c.keep.result c.keep.ensures.cause

pub returns-clause-wrote : goal.returns-clause-wrote
returns-clause-wrote g c =
    let drafted = c.in_ok-draft_mixed.ensures.drafted in
    both_ok c.keep.result _ _ _
    (λ held sound. record {
      runs = drafted.runs;
      are = drafted.are;
      mixed = drafted.mixed;
      mixes = drafted.mixes;
      held = λ tell is. kept_held (g.D.Disk.state c.args.disk.now) (g.D.Disk.state c.draft_mixed.new.disk)
          (g.D.Disk.state c.keep.new.disk) (g.D.Disk.tells c.keep.new.disk) (g.D.Disk.tells c.draft_mixed.new.disk)
          (octets_of c.args.name) c.in_ok-draft_mixed.field-0 (codes "mixed") c.in_ok-draft_mixed.ensures.drafted.mixed
          (entries_in c.args.set.now) c.keep.ensures.told (name_apart c.args.name) c.in_ok-draft_mixed.ensures.drafted.drafts
          held tell is c.args.set.now.paged.archive;
      sound = λ tell is. kept_sound (g.D.Disk.state c.args.disk.now) (g.D.Disk.state c.draft_mixed.new.disk)
          (g.D.Disk.state c.keep.new.disk) (g.D.Disk.tells c.keep.new.disk) (g.D.Disk.tells c.draft_mixed.new.disk)
          (octets_of c.args.name) c.in_ok-draft_mixed.field-0 (codes "mixed") c.in_ok-draft_mixed.ensures.drafted.mixed
          (entries_in c.args.set.now) c.keep.ensures.told (name_apart c.args.name) c.in_ok-draft_mixed.ensures.drafted.drafts
          sound tell is c.args.set.now.paged.archive;
    })
    c.keep.ensures.held c.keep.ensures.sound
