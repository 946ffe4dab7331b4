use Rattle.std.proofs.Common.{arith, ◌≡◌, List, ℕ, [], ◌∷◌, ◌++◌, false, rules, refl, ap, subst, ◌∙◌, take}
use Rattle.std.proofs.lemmas.List.{take_at}
use Rattle.journal.specs.Journals.{LeavesBatches, Stands as JournalStands, WithOrWithout}
use Rattle.record_store.specs.Seals.{seal_of}
use Rattle.record_store.proofs.Standing.{broken_stands, commit_any, commit_err, commit_ok, idle_stands, no_octets}
use Rattle.record_store.proofs.store.RecordStore.commit.Goals as goal

pub returns-in-Err-clause-any_moment : goal.returns-in-Err-clause-any_moment
returns-in-Err-clause-any_moment g c tells sets stands = stands.keeps

pub returns-in-Err-clause-err : goal.returns-in-Err-clause-err
returns-in-Err-clause-err g c tells sets stands =
    broken_stands c.args.self.now _ (g.D.Disk.state c.args.disk.now) sets stands c.in-Err.ensures.err refl

pub returns-in-Err-commit-clause-any_moment : goal.returns-in-Err-commit-clause-any_moment
returns-in-Err-commit-clause-any_moment g c tells sets stands =
    let store = c.args.self.now in
    let old = g.D.Disk.state c.args.disk.now in
    let new = g.D.Disk.state c.commit.new.disk in
    let whole : store.broken ≡ false = search rules in
    let ready = stands.ready whole in
    commit_any old new store store sets stands ready (c.commit.ensures.others tells)
    (subst (λ (b : List ℕ). LeavesBatches new store.journal.name (WithOrWithout ready.bodies b))
    (c.deref.ensures.value ∙ c.in-Ok.ensures.ok) (c.commit.ensures.any_moment tells ready.bodies ready.stands))

pub returns-in-Err-commit-clause-err : goal.returns-in-Err-commit-clause-err
returns-in-Err-commit-clause-err g c tells sets stands =
    let store = c.args.self.now in
    let old = g.D.Disk.state c.args.disk.now in
    let new = g.D.Disk.state c.commit.new.disk in
    let whole : store.broken ≡ false = search rules in
    let ready = stands.ready whole in
    let text = store.batch.items in
    let same : c.truncate.new.self.items ≡ text =
    c.truncate.ensures.items ∙ ap (λ (l : List ℕ). take c.len-len.result l) c.in-Ok.ensures.ok
    ∙ take_at text (seal_of text) c.len-len.result (omega (arith, c.len-len.ensures)) in
    commit_err old new store _ sets stands ready (c.commit.ensures.others tells)
    (subst (λ (b : List ℕ). LeavesBatches new store.journal.name (WithOrWithout ready.bodies b))
    (c.deref.ensures.value ∙ c.in-Ok.ensures.ok) (c.commit.ensures.any_moment tells ready.bodies ready.stands)) same refl

pub returns-in-Ok-commit-clause-any_moment : goal.returns-in-Ok-commit-clause-any_moment
returns-in-Ok-commit-clause-any_moment g c tells sets stands =
    let store = c.args.self.now in
    let old = g.D.Disk.state c.args.disk.now in
    let new = g.D.Disk.state c.commit.new.disk in
    let whole : store.broken ≡ false = search rules in
    let ready = stands.ready whole in
    commit_any old new store store sets stands ready (c.commit.ensures.others tells)
    (subst (λ (b : List ℕ). LeavesBatches new store.journal.name (WithOrWithout ready.bodies b))
    (c.deref.ensures.value ∙ c.in-Ok.ensures.ok) (c.commit.ensures.any_moment tells ready.bodies ready.stands))

pub returns-in-Ok-commit-clause-committed : goal.returns-in-Ok-commit-clause-committed
returns-in-Ok-commit-clause-committed g c tells sets stands =
    let store = c.args.self.now in
    let old = g.D.Disk.state c.args.disk.now in
    let new = g.D.Disk.state c.commit.new.disk in
    let whole : store.broken ≡ false = search rules in
    let none : c.clear.new.self.items ≡ [] = search rules in
    let ready = stands.ready whole in
    let bodies = ready.bodies in
    let body = c.deref.ensures.value ∙ c.in-Ok.ensures.ok in
    commit_ok old new store _ sets stands ready (c.commit.ensures.others tells)
    (subst (λ (b : List ℕ). LeavesBatches new store.journal.name (WithOrWithout bodies b)) body
    (c.commit.ensures.any_moment tells bodies ready.stands)) none refl c.commit.ensures.name
    (subst (λ (b : List ℕ). JournalStands c.commit.new.self new (bodies ++ b ∷ [])) body
    (c.in-Ok-commit.ensures.committed tells bodies ready.stands))

pub returns-then-len-eq0-clause-committed : goal.returns-then-len-eq0-clause-committed
returns-then-len-eq0-clause-committed g c tells sets stands =
    idle_stands c.args.self.now (g.D.Disk.state c.args.disk.now) sets stands
    (no_octets c.args.self.now.batch.items (omega (arith, c.len.ensures)))
