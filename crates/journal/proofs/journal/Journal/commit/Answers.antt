use Rattle.std.proofs.Common.{arith, ℕ, ◌+◌, List, length, refl, ◌∙◌, ap, subst}
use Rattle.disk.specs.Files.{settled, appended, appended_in_part, overwritten}
use Rattle.disk.specs.Calls.{ChangesFile, FailsAt}
use Rattle.journal.specs.Batches.{closed_batch, batches_text}
use Rattle.journal.proofs.Commit.{At, at_rest, staged, after_change, after_sync, append_fails, first_sync_fails}
use Rattle.journal.proofs.Commit.{opening_fails, last_sync_fails, committed_leaves, stands as stands_then}
use Rattle.journal.proofs.journal.Journal.commit.Goals as goal

pub returns-in_err-append-clause-any_moment : goal.returns-in_err-append-clause-any_moment
returns-in_err-append-clause-any_moment g c tells bodies s =
    let body = c.args.body.now in
    let name = c.args.self.now.name in
    let before = g.D.Disk.state c.args.disk.now in
    let after = g.D.Disk.state c.append.new.self in
    let octets = c.deref.ensures.value ∙ c.in_ok-octets.ensures in
    append_fails name bodies body s.gate s.closed s.sized (omega (arith, c.if-body-gt-BODY_MAX.false)) before after c.in_err-append.field-0.0
    (record { entry = s.entry; sound = s.sound })
    (subst (λ (o : List ℕ). FailsAt before after name c.in_err-append.field-0.0
    ((n : ℕ) × ChangesFile before after name (appended_in_part n o))) octets (c.in_err-append.ensures.done tells))

pub returns-in_err-sync-clause-any_moment : goal.returns-in_err-sync-clause-any_moment
returns-in_err-sync-clause-any_moment g c tells bodies s =
    let body = c.args.body.now in
    let name = c.args.self.now.name in
    let before = g.D.Disk.state c.args.disk.now in
    let one = g.D.Disk.state c.append.new.self in
    let two = g.D.Disk.state c.sync.new.self in
    let octets = c.deref.ensures.value ∙ c.in_ok-octets.ensures in
    let rest = settled (at_rest name bodies body s.gate s.closed s.sized (omega (arith, c.if-body-gt-BODY_MAX.false))) in
    let start : At before name rest = record { entry = s.entry; sound = s.sound } in
    let tells_one = c.sync.ensures.told tells in
    let written = after_change before one name rest (appended (closed_batch body)) start
    (subst (λ (o : List ℕ). ChangesFile before one name (appended o)) octets
    (c.in_ok-append.ensures.done tells_one)) in
    first_sync_fails name bodies body s.gate s.closed s.sized (omega (arith, c.if-body-gt-BODY_MAX.false)) one two c.in_err-sync.field-0.0 written
    (c.in_err-sync.ensures.done tells)

pub returns-in_err-overwrite-clause-any_moment : goal.returns-in_err-overwrite-clause-any_moment
returns-in_err-overwrite-clause-any_moment g c tells bodies s =
    let body = c.args.body.now in
    let name = c.args.self.now.name in
    let before = g.D.Disk.state c.args.disk.now in
    let one = g.D.Disk.state c.append.new.self in
    let two = g.D.Disk.state c.sync.new.self in
    let three = g.D.Disk.state c.overwrite.new.self in
    let octets = c.deref.ensures.value ∙ c.in_ok-octets.ensures in
    let rest = settled (at_rest name bodies body s.gate s.closed s.sized (omega (arith, c.if-body-gt-BODY_MAX.false))) in
    let start : At before name rest = record { entry = s.entry; sound = s.sound } in
    let tells_two = c.overwrite.ensures.told tells in
    let tells_one = c.sync.ensures.told tells_two in
    let written = after_change before one name rest (appended (closed_batch body)) start
    (subst (λ (o : List ℕ). ChangesFile before one name (appended o)) octets
    (c.in_ok-append.ensures.done tells_one)) in
    let synced = after_sync one two name (appended (closed_batch body) rest) written
    (c.in_ok-sync.ensures.done tells_two) in
    opening_fails name bodies body s.gate s.closed s.sized (omega (arith, c.if-body-gt-BODY_MAX.false)) two three c.in_err-overwrite.field-0.0 synced
    (subst (λ (at : ℕ). FailsAt two three name c.in_err-overwrite.field-0.0
    ((octet : ℕ) × ChangesFile two three name (overwritten at octet))) s.end
    (c.in_err-overwrite.ensures.done tells))

pub returns-in_err-sync-2-clause-any_moment : goal.returns-in_err-sync-2-clause-any_moment
returns-in_err-sync-2-clause-any_moment g c tells bodies s =
    let body = c.args.body.now in
    let name = c.args.self.now.name in
    let before = g.D.Disk.state c.args.disk.now in
    let one = g.D.Disk.state c.append.new.self in
    let two = g.D.Disk.state c.sync.new.self in
    let three = g.D.Disk.state c.overwrite.new.self in
    let four = g.D.Disk.state c.sync-2.new.self in
    let octets = c.deref.ensures.value ∙ c.in_ok-octets.ensures in
    let rest = settled (at_rest name bodies body s.gate s.closed s.sized (omega (arith, c.if-body-gt-BODY_MAX.false))) in
    let start : At before name rest = record { entry = s.entry; sound = s.sound } in
    let tells_three = c.sync-2.ensures.told tells in
    let tells_two = c.overwrite.ensures.told tells_three in
    let tells_one = c.sync.ensures.told tells_two in
    let written = after_change before one name rest (appended (closed_batch body)) start
    (subst (λ (o : List ℕ). ChangesFile before one name (appended o)) octets
    (c.in_ok-append.ensures.done tells_one)) in
    let synced = after_sync one two name (appended (closed_batch body) rest) written
    (c.in_ok-sync.ensures.done tells_two) in
    let whole = settled (staged name bodies body s.gate s.closed s.sized (omega (arith, c.if-body-gt-BODY_MAX.false))) in
    let opened = after_change two three name whole (overwritten (length (batches_text bodies)) 1) synced
    (subst (λ (at : ℕ). ChangesFile two three name (overwritten at 1)) s.end
    (c.in_ok-overwrite.ensures.done tells_three)) in
    last_sync_fails name bodies body s.gate s.closed s.sized (omega (arith, c.if-body-gt-BODY_MAX.false)) three four c.in_err-sync-2.field-0.0 1 opened
    (c.in_err-sync-2.ensures.done tells)

pub returns-clause-committed : goal.returns-clause-committed
returns-clause-committed g c tells bodies s =
    let body = c.args.body.now in
    let name = c.args.self.now.name in
    let before = g.D.Disk.state c.args.disk.now in
    let one = g.D.Disk.state c.append.new.self in
    let two = g.D.Disk.state c.sync.new.self in
    let three = g.D.Disk.state c.overwrite.new.self in
    let four = g.D.Disk.state c.sync-2.new.self in
    let octets = c.deref.ensures.value ∙ c.in_ok-octets.ensures in
    let rest = settled (at_rest name bodies body s.gate s.closed s.sized (omega (arith, c.if-body-gt-BODY_MAX.false))) in
    let start : At before name rest = record { entry = s.entry; sound = s.sound } in
    let tells_three = c.sync-2.ensures.told tells in
    let tells_two = c.overwrite.ensures.told tells_three in
    let tells_one = c.sync.ensures.told tells_two in
    let written = after_change before one name rest (appended (closed_batch body)) start
    (subst (λ (o : List ℕ). ChangesFile before one name (appended o)) octets
    (c.in_ok-append.ensures.done tells_one)) in
    let synced = after_sync one two name (appended (closed_batch body) rest) written
    (c.in_ok-sync.ensures.done tells_two) in
    let whole = settled (staged name bodies body s.gate s.closed s.sized (omega (arith, c.if-body-gt-BODY_MAX.false))) in
    let opened = after_change two three name whole (overwritten (length (batches_text bodies)) 1) synced
    (subst (λ (at : ℕ). ChangesFile two three name (overwritten at 1)) s.end
    (c.in_ok-overwrite.ensures.done tells_three)) in
    let synced_again = after_sync three four name (overwritten (length (batches_text bodies)) 1 whole) opened
    (c.in_ok-sync-2.ensures.done tells) in
    stands_then name bodies body s.gate s.closed s.sized (omega (arith, c.if-body-gt-BODY_MAX.false)) four _ synced_again refl
    (ap (λ (n : ℕ). n + (5 + length body)) s.end)

pub returns-clause-any_moment : goal.returns-clause-any_moment
returns-clause-any_moment g c tells bodies s =
    let body = c.args.body.now in
    let name = c.args.self.now.name in
    let before = g.D.Disk.state c.args.disk.now in
    let one = g.D.Disk.state c.append.new.self in
    let two = g.D.Disk.state c.sync.new.self in
    let three = g.D.Disk.state c.overwrite.new.self in
    let four = g.D.Disk.state c.sync-2.new.self in
    let octets = c.deref.ensures.value ∙ c.in_ok-octets.ensures in
    let rest = settled (at_rest name bodies body s.gate s.closed s.sized (omega (arith, c.if-body-gt-BODY_MAX.false))) in
    let start : At before name rest = record { entry = s.entry; sound = s.sound } in
    let tells_three = c.sync-2.ensures.told tells in
    let tells_two = c.overwrite.ensures.told tells_three in
    let tells_one = c.sync.ensures.told tells_two in
    let written = after_change before one name rest (appended (closed_batch body)) start
    (subst (λ (o : List ℕ). ChangesFile before one name (appended o)) octets
    (c.in_ok-append.ensures.done tells_one)) in
    let synced = after_sync one two name (appended (closed_batch body) rest) written
    (c.in_ok-sync.ensures.done tells_two) in
    let whole = settled (staged name bodies body s.gate s.closed s.sized (omega (arith, c.if-body-gt-BODY_MAX.false))) in
    let opened = after_change two three name whole (overwritten (length (batches_text bodies)) 1) synced
    (subst (λ (at : ℕ). ChangesFile two three name (overwritten at 1)) s.end
    (c.in_ok-overwrite.ensures.done tells_three)) in
    let synced_again = after_sync three four name (overwritten (length (batches_text bodies)) 1 whole) opened
    (c.in_ok-sync-2.ensures.done tells) in
    committed_leaves name bodies body s.gate s.closed s.sized (omega (arith, c.if-body-gt-BODY_MAX.false)) four synced_again
