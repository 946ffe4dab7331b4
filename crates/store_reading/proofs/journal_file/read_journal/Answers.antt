use Rattle.std.proofs.Common.{◌≡◌, List, ℕ, rules, subst, sym, ◌∙◌}
use Rattle.std.specs.Prelude.{IfNone, IfSome, IsSomeAnd, false}
use Rattle.std.proofs.lemmas.Bool.{false≢true}
use Rattle.disk.specs.States.{Files}
use Rattle.store_reading.specs.Damages.{HidesNothing, IsHiddenAt}
use Rattle.store_reading.proofs.Tails.{again_plain, hidden_read, octets_read}
use Rattle.store_reading.proofs.journal_file.read_journal.Goals as goal

pub returns-in_default-clause-read : goal.returns-in_default-clause-read
returns-in_default-clause-read g c t =
    octets_read c.in_ok-octets.octets (g.F.Folder.files c.args.folder.now c.args.name.now)
    (c.in_ok-octets.ensures.given t)
    (subst HidesNothing c.deref.ensures.value c.in_default.ensures.none)

pub returns-then-is_again-clause-read : goal.returns-then-is_again-clause-read
returns-then-is_again-clause-read g c t =
    hidden_read (g.F.Folder.files c.args.folder.now c.args.name.now) c.in_ok-octets.octets.items c.in-Some.at
    (c.in_ok-octets.ensures.given (c.read_file-2.ensures.told t))
    (subst (λ (l : List ℕ). IsHiddenAt l c.in-Some.at) c.deref.ensures.value c.in-Some.ensures.some)

pub returns-clause-read : goal.returns-clause-read
returns-clause-read g c t =
    let before = c.read_file-2.ensures.told t in
    let name = c.args.name.now in
    let file = g.F.Folder.files c.args.folder.now name in
    let again = c.in_ok-again.again in
    let off : c.is_again.result ≡ false = search rules in
    let found = c.hidden_at-2 in
    let given = subst (λ (f : Files). IsSomeAnd (f name) (λ (l : List ℕ). again.items ≡ l))
    (c.read_file.ensures.same before) (c.in_ok-again.ensures.given t) in
    octets_read again file given
    (again_plain file c.in_ok-octets.octets.items again.items c.in-Some.at found.result
    (c.in_ok-octets.ensures.given before) given
    (subst (λ (l : List ℕ). IsHiddenAt l c.in-Some.at) c.deref.ensures.value c.in-Some.ensures.some)
    (subst (λ (l : List ℕ). IfSome found.result (IsHiddenAt l)) c.deref-2.ensures.value found.ensures.some)
    (subst (λ (l : List ℕ). IfNone found.result (HidesNothing l)) c.deref-2.ensures.value found.ensures.none)
    (λ is. false≢true (sym off ∙ c.is_again.ensures.1 is)))
