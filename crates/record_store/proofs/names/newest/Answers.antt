use Rattle.std.proofs.Common.{◌≡◌, List, ℕ, [], ◌∷◌, ◌++◌, take, sym, ap, subst, ◌∙◌}
use Rattle.std.specs.Prelude.{IfNone, IfSome}
use Rattle.std.proofs.lemmas.List.{take_all, take_more}
use Rattle.record_store.specs.Names.{IsJournal, IsNewest, journal_name}
use Rattle.record_store.proofs.Newest.{newest_more, newest_none}
use Rattle.record_store.proofs.names.newest.Goals as goal

pub loop-name-init : goal.loop-name-init
loop-name-init c = newest_none

pub loop-name-preserved : goal.loop-name-preserved
loop-name-preserved c =
    let names = c.args.names.now in
    let first = take c.loop-name.name-index names in
    let name = c.name-item.result in
    let number = c.journal_number.result in
    let more = take_more names c.loop-name.name-index name c.loop-name-test.true
    ∙ ap (λ (n : List ℕ). first ++ n ∷ []) (sym c.name-item.is) in
    subst (λ (l : List (List ℕ)). IsNewest l c.greater-newest.result) (sym more)
    (newest_more first name c.loop-name.newest number c.greater-newest.result c.loop-name.invariant
    (subst (λ (o : List ℕ). IfSome number (λ k. o ≡ journal_name k)) c.as_octets.ensures.value
    c.journal_number.ensures.some)
    (subst (λ (o : List ℕ). IfNone number (¬ (IsJournal o))) c.as_octets.ensures.value c.journal_number.ensures.none)
    c.greater-newest.ensures)

pub returns : goal.returns
returns c =
    subst (λ (l : List (List ℕ)). IsNewest l c.loop-name.newest)
    (take_all c.loop-name.name-index c.args.names.now c.loop-name-test.false) c.loop-name.invariant
