use Rattle.std.proofs.Common.{take}
use Rattle.octet_language.specs.Language.{Each}
use Rattle.syslog_fields.proofs.Appends.{puts_failed}
use Rattle.archive_counts.proofs.Texts.{adds_more}
use Rattle.store_statistics.specs.Lines.{FileLine}
use Rattle.store_statistics.proofs.lines.put_files.Goals as goal

pub files-preserved : goal.files-preserved
files-preserved c =
    adds_more FileLine c.args.files.now c.files.file-index c.file-item.result c.args.out.now.items c.files.out.items
    c.put_file.new.out.items c.files-test.true c.file-item.is c.files.invariant c.in_ok-put_file.ensures

pub returns-in_err-put_file : goal.returns-in_err-put_file
returns-in_err-put_file c =
    puts_failed (Each FileLine (take c.files.file-index c.args.files.now)) (Each FileLine c.args.files.now)
    c.args.out.now.items c.files.out.items c.put_file.new.out.items c.from_residual.result c.from_residual.ensures.0
    c.files.invariant c.in_err-put_file.ensures
