use Rattle.std.proofs.Common.{[], ap, subst, sym}
use Rattle.syslog_legacy.specs.declared.frame_reading.FrameReading.{FrameReading}
use Rattle.syslog_collect.specs.Standing.{Stands}
use Rattle.archive_text.specs.Text.{text_of}
use Rattle.archive_text.specs.declared.limits.TheConstants.{ENTRY_MAX}
use Rattle.syslog_collect.proofs.Headline.{same_entries}
use Rattle.syslog_collect.proofs.law.same_archives.Goals as goal

pub returns-clause-entries : goal.returns-clause-entries
returns-clause-entries g c events others readings one two settled settled_too same =
    same_entries c.args.one.now.reading ENTRY_MAX _ _ _ _ events others (g.S.Store.archive c.args.one.now.store)
    (g.T.Store.archive c.args.two.now.store) one
    (subst (λ (k : FrameReading). Stands k c.args.two.now.connections (g.T.Store.entries c.args.two.now.store) []
    others) (sym readings) two) settled settled_too same

pub returns-clause-texts : goal.returns-clause-texts
returns-clause-texts g c events others readings one two settled settled_too same =
    ap text_of (same_entries c.args.one.now.reading ENTRY_MAX _ _ _ _ events others
    (g.S.Store.archive c.args.one.now.store) (g.T.Store.archive c.args.two.now.store) one
    (subst (λ (k : FrameReading). Stands k c.args.two.now.connections (g.T.Store.entries c.args.two.now.store) []
    others) (sym readings) two) settled settled_too same)
