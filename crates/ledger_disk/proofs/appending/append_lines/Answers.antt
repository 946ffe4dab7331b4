use Rattle.std.proofs.Common.{◌≡◌, ◌++◌, List, ℕ, rules, subst, take}
use Rattle.disk.specs.Files.{settled}
use Rattle.journal.specs.Journals.{Shows}
use Rattle.ledger_disk.specs.Ledgers.{IsBehind, ledger_text}
use Rattle.ledger_disk.proofs.Lines.{lines_within, one_end}
use Rattle.ledger_disk.proofs.appending.append_lines.Goals as goal

pub returns-clause-named : goal.returns-clause-named
returns-clause-named g c tells sound named =
    c.write_behind.ensures.named tells (c.in_ok-end.ensures.named (c.write_behind.ensures.told tells) sound named)

pub returns-clause-kept : goal.returns-clause-kept
returns-clause-kept g c tells sound n end h =
    let told = c.write_behind.ensures.told tells in
    let text = ledger_text (g.D.Disk.state c.args.disk.now) c.args.ledger.now in
    let fits = lines_within text n c.in_ok-end.end.whole end (c.in_ok-end.ensures.end told sound).lines in
    c.write_behind.ensures.kept tells (take n text) fits (c.end_of.ensures.kept told sound (take n text) h)

pub returns-in_err-write_behind-clause-kept : goal.returns-in_err-write_behind-clause-kept
returns-in_err-write_behind-clause-kept g c tells sound n end h =
    let told = c.write_behind.ensures.told tells in
    let text = ledger_text (g.D.Disk.state c.args.disk.now) c.args.ledger.now in
    let fits = lines_within text n c.in_ok-end.end.whole end (c.in_ok-end.ensures.end told sound).lines in
    c.write_behind.ensures.kept tells (take n text) fits (c.end_of.ensures.kept told sound (take n text) h)

pub returns-clause-written : goal.returns-clause-written
returns-clause-written g c tells sound n end =
    let told = c.write_behind.ensures.told tells in
    let text = ledger_text (g.D.Disk.state c.args.disk.now) c.args.ledger.now in
    let found = c.in_ok-end.ensures.end told sound in
    let head = c.in_ok-end.end.head in
    let lines = c.in-Some.lines.items in
    let same : c.in_ok-end.end.whole ≡ n = one_end text c.in_ok-end.end.whole n found.lines end in
    let put : c.deref.result.now ≡ lines = search rules in
    record {
      before = head;
      end = c.in-Some.field-0-1;
      text = lines;
      behind = subst (λ (k : ℕ). IsBehind (take k text) head) same found.behind;
      next = rw c.in-Some.is at c.in_ok-lines.ensures;
      shows = subst (λ (k : ℕ). Shows (g.D.Disk.state c.write_behind.new.disk) c.args.ledger.now
          (settled (take k text ++ lines))) same
          (subst (λ (l : List ℕ). Shows (g.D.Disk.state c.write_behind.new.disk) c.args.ledger.now
          (settled (take c.in_ok-end.end.whole text ++ l))) put
          (c.in_ok-write_behind.ensures.written tells (c.in_ok-end.ensures.sound told sound) text
          (c.in_ok-end.ensures.shown told sound) found.torn));
    }
