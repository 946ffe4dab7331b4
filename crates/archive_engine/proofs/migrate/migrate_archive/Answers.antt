use Rattle.std.proofs.Common.{◌≡◌, ℕ, ◌<◌, List, IfSome, length, subst, sym, arith}
use Rattle.octet_devices.specs.Transfers.{WroteAll, WrotePart}
use Rattle.octet_devices.specs.declared.loops.ReadAllFault.TheVariants as read
use Rattle.archive_engine.proofs.MigrateLemmas.{ran_out, ran_part, ran_refused, ran_unread, ran_whole}
use Rattle.archive_engine.proofs.WrittenLemmas.{kept_whole}
use Rattle.archive_engine.proofs.migrate.migrate_archive.Goals as goal

pub returns-in-Err-Device : goal.returns-in-Err-Device
returns-in-Err-Device g c =
    ran_unread read.Device _ _ _ _ _ _ (rw c.in-Err-Device.field-0-is at c.in-Err-Device.ensures.outcome)
    c.read_all.ensures.few c.report.ensures.reports

pub returns-in-Err-Endless : goal.returns-in-Err-Endless
returns-in-Err-Endless g c =
    ran_unread read.Endless _ _ _ _ _ _ (rw c.in-Err-Endless.field-0-is at c.in-Err-Endless.ensures.outcome)
    c.read_all.ensures.few c.report-in-Err-Endless.ensures.reports

pub returns-in-Err-Memory : goal.returns-in-Err-Memory
returns-in-Err-Memory g c =
    ran_unread read.Memory _ _ _ _ _ _ (rw c.in-Err-Memory.field-0-is at c.in-Err-Memory.ensures.outcome)
    c.read_all.ensures.few c.report-in-Err-Memory.ensures.reports

pub returns-in-Err-Bad : goal.returns-in-Err-Bad
returns-in-Err-Bad g c =
    let few : length c.in-Ok.text.items < 18446744073709551615 = omega arith in
    let whole = subst (λ (t : List ℕ). IfSome (g.R.Input.state c.args.old.now).left (λ input. t ≡ input))
    (sym c.as_slice.ensures.value) (kept_whole _ _ _ c.in-Ok.ensures.outcome.first few) in
    ran_refused _ c.in-Err-Bad.fault _ _ _ _ _ _ whole c.read_all.ensures.few
    c.in-Ok.ensures.outcome.no_failure (rw c.in-Err-Bad.field-0-is at c.in-Err-Bad.ensures.err) c.report_archive_fault.ensures

pub returns-in-Err-Memory-migrate : goal.returns-in-Err-Memory-migrate
returns-in-Err-Memory-migrate g c =
    ran_out _ _ _ _ _ _ c.read_all.ensures.few c.in-Ok.ensures.outcome.no_failure c.report-in-Err-Memory-migrate.ensures.reports

pub returns-in-Ok-write_all : goal.returns-in-Ok-write_all
returns-in-Ok-write_all g c =
    let few : length c.in-Ok.text.items < 18446744073709551615 = omega arith in
    let whole = subst (λ (t : List ℕ). IfSome (g.R.Input.state c.args.old.now).left (λ input. t ≡ input))
    (sym c.as_slice.ensures.value) (kept_whole _ _ _ c.in-Ok.ensures.outcome.first few) in
    let written = subst (WroteAll (g.W.Output.state c.args.output.now) (g.W.Output.state c.write_all.new.writer))
    c.as_slice-2.ensures.value c.in-Ok-write_all.ensures in
    ran_whole _ c.in-Ok-migrate.archive.items _ _ _ _ _ whole c.read_all.ensures.few
    c.in-Ok.ensures.outcome.no_failure c.in-Ok-migrate.ensures.ok written

pub returns : goal.returns
returns g c =
    let few : length c.in-Ok.text.items < 18446744073709551615 = omega arith in
    let whole = subst (λ (t : List ℕ). IfSome (g.R.Input.state c.args.old.now).left (λ input. t ≡ input))
    (sym c.as_slice.ensures.value) (kept_whole _ _ _ c.in-Ok.ensures.outcome.first few) in
    let sent = c.in-Err.field-0.sent in
    let written = subst (λ (t : List ℕ). WrotePart (g.W.Output.state c.args.output.now)
    (g.W.Output.state c.write_all.new.writer) t sent) c.as_slice-2.ensures.value c.in-Err.ensures in
    ran_part _ c.in-Ok-migrate.archive.items sent _ _ _ _ _ _ _ whole c.read_all.ensures.few
    c.in-Ok.ensures.outcome.no_failure c.in-Ok-migrate.ensures.ok written c.report-in-Err.ensures.reports
