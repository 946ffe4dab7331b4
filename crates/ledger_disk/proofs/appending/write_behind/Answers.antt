use Rattle.std.proofs.Common.{List, ℕ}
use Rattle.ledger_disk.specs.Ledgers.{HoldsLines}
use Rattle.ledger_disk.proofs.Lines.{append_lines, cut_lines, sync_lines}
use Rattle.ledger_disk.proofs.appending.write_behind.Goals as goal
use Rattle.ledger_disk.proofs.appending.write_behind.Goals.{then-is_torn+in_ok-cut, else-is_torn}

pub returns-in_err-cut-clause-kept : goal.returns-in_err-cut-clause-kept
returns-in_err-cut-clause-kept g c tells lines fits h =
    cut_lines (g.D.Disk.state c.args.disk.now) (g.D.Disk.state c.cut.new.self) c.args.ledger.now lines c.args.whole
    c.cut.result fits (c.cut.ensures.done tells) h

pub returns-in_err-append-clause-kept : goal.returns-in_err-append-clause-kept
returns-in_err-append-clause-kept g c tells lines fits h =
    let told = c.append.ensures.told tells in
    let cut : HoldsLines (g.D.Disk.state c.if-is_torn.disk) c.args.ledger.now lines = elim c.if-is_torn.branch [
      | then-is_torn+in_ok-cut w ↦
          let told_cut = rw w.disk-is at told in
          rw w.disk-is (cut_lines (g.D.Disk.state c.args.disk.now) (g.D.Disk.state w.cut.new.self) c.args.ledger.now lines
          c.args.whole w.cut.result fits (w.cut.ensures.done told_cut) h)
      | else-is_torn w ↦ rw w.disk-is h
    ] in
    append_lines (g.D.Disk.state c.if-is_torn.disk) (g.D.Disk.state c.append.new.self) c.args.ledger.now lines
    c.args.line.now c.append.result (c.append.ensures.done tells) cut

pub returns-clause-kept : goal.returns-clause-kept
returns-clause-kept g c tells lines fits h =
    let told_append = c.sync.ensures.told tells in
    let told = c.append.ensures.told told_append in
    let cut : HoldsLines (g.D.Disk.state c.if-is_torn.disk) c.args.ledger.now lines = elim c.if-is_torn.branch [
      | then-is_torn+in_ok-cut w ↦
          let told_cut = rw w.disk-is at told in
          rw w.disk-is (cut_lines (g.D.Disk.state c.args.disk.now) (g.D.Disk.state w.cut.new.self) c.args.ledger.now lines
          c.args.whole w.cut.result fits (w.cut.ensures.done told_cut) h)
      | else-is_torn w ↦ rw w.disk-is h
    ] in
    let appended = append_lines (g.D.Disk.state c.if-is_torn.disk) (g.D.Disk.state c.append.new.self) c.args.ledger.now
    lines c.args.line.now c.append.result (c.append.ensures.done told_append) cut in
    sync_lines (g.D.Disk.state c.append.new.self) (g.D.Disk.state c.sync.new.self) c.args.ledger.now lines
    c.sync.result (c.sync.ensures.done tells) appended
