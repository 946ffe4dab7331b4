use Rattle.std.proofs.Common.{[], subst, sym}
use Rattle.syslog_legacy.specs.declared.frame_reading.FrameReading.{FrameReading}
use Rattle.syslog_collect.specs.Standing.{Stands}
use Rattle.archive_text.specs.declared.limits.TheConstants.{ENTRY_MAX}
use Rattle.syslog_collect.proofs.Headline.{union_entries}
use Rattle.syslog_collect.proofs.law.merged_archives.Goals as goal

pub returns : goal.returns
returns g c events others both merged readings all_readings one two three settled settled_too settled_three
    received archive
    union =
    union_entries c.args.one.now.reading ENTRY_MAX _ _ _ _ _ _ merged events others both
    (g.U.Store.archive c.args.all.now.store) archive one
    (subst (λ (k : FrameReading). Stands k c.args.two.now.connections
    (g.T.Store.entries c.args.two.now.store) [] others)
    (sym readings) two)
    (subst (λ (k : FrameReading). Stands k c.args.all.now.connections
    (g.U.Store.entries c.args.all.now.store) [] both)
    (sym all_readings) three) settled settled_too settled_three received union
