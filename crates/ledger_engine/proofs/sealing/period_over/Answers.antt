use Rattle.std.proofs.Common.{◌≡◌, List, ℕ, Some, subst, sym, ◌∙◌}
use Rattle.std.proofs.lemmas.Bool.{false≢true}
use Rattle.archive_text.proofs.Names.{one_name}
use Rattle.archive_text.specs.declared.period.Period.TheVariants.{Day}
use Rattle.record_store.specs.Names.{IsSegment}
use Rattle.store_reading.specs.Days.{IsDayBelow}
use Rattle.ledger_engine.proofs.sealing.period_over.Goals as goal
use Rattle.ledger_engine.proofs.sealing.period_over.Goals.{then-is-via-then-is, then-is-via-else-is+then-not-is_before}

pub returns-then-is-clause-none : goal.returns-then-is-clause-none
returns-then-is-clause-none c day text segment over =
    let found : List ℕ = c.in_ok-day.day in
    let only : c.segment_day.result ≡ Some day =
    c.segment_day.ensures.only day text (subst (IsSegment day) (sym c.as_octets.ensures.value) segment) in
    let was : c.segment_day.result ≡ Some found = c.in_ok-day.was {u = tt} in
    let same : found ≡ day = cc in
    elim c.then-is.branch [
      | then-is-via-then-is w ↦ over.dated (sym same ∙ c.is.ensures.0 w.if-is.true ∙ c.undated.ensures)
      | then-is-via-else-is+then-not-is_before w ↦
          let next : over.next ≡ w.of.result =
          one_name Day (Some c.args.before) over.next w.of.result over.of w.of.ensures in
          let earlier : IsDayBelow found w.of.result =
          subst (λ (d : List ℕ). IsDayBelow d w.of.result) (sym same)
          (subst (λ (n : List ℕ). IsDayBelow day n) next over.earlier) in
          absurd (false≢true (sym w.if-not-is_before.true ∙ w.is_before.ensures.1 earlier))
    ]
