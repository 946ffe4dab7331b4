use Rattle.std.proofs.Common.{List, ℕ, subst, sym}
use Rattle.std.specs.Prelude.{Some}
use Rattle.std.proofs.lemmas.Result.{err_from_is_err_and}
use Rattle.syslog_fields.specs.Forms.{ReadsElement}
use Rattle.syslog_reading.specs.Views.{element_span}
use Rattle.syslog_reading.proofs.DataTexts.{goes_first, bad_first, goes_more, goes_bad}
use Rattle.syslog_reading.proofs.ReadData.{all_read, first_read, next_read}
use Rattle.syslog_reading.proofs.structured_data.behind_elements.Goals as goal

pub returns-in_err-found : goal.returns-in_err-found
returns-in_err-found c =
    let p = err_from_is_err_and c.from_residual.result c.from_residual.ensures.1 in
    rw (p.1, p.2) (record { reads = bad_first _ _ c.in_err-found.ensures.reads; forms = tt })

pub loop-first-init : goal.loop-first-init
loop-first-init c = record {
  goes = goes_first c.args.octets.now c.in_ok-found.rest.now (element_span c.in_ok-found.found)
      c.in_ok-found.ensures.reads;
  read =
      first_read c.in_ok-found.is_form c.of_one-ids.result c.id-greatest.result.now c.args.octets.now
      c.in_ok-found.rest.now c.of_one-ids.ensures
      (subst (λ (id : List ℕ). ReadsElement c.in_ok-found.is_form id c.args.octets.now c.in_ok-found.rest.now)
      (sym c.id-greatest.ensures) c.in_ok-found.ensures.form);
}

pub returns-in_err-found-2 : goal.returns-in_err-found-2
returns-in_err-found-2 c =
    let p = err_from_is_err_and c.from_residual-in_err-found-2.result c.from_residual-in_err-found-2.ensures.1 in
    rw (p.1, p.2) (record {
      reads = goes_bad c.args.octets.now c.loop-first.rest.now c.in-Some._after.now
          c.in-Some.first _ c.in-Some.ensures c.if-first-ne91.false c.in_err-found-2.ensures.reads
          c.loop-first.invariant.goes;
      forms = tt;
    })

pub loop-first-preserved : goal.loop-first-preserved
loop-first-preserved c = record {
  goes = goes_more c.args.octets.now c.loop-first.rest.now c.in_ok-found-2.behind.now c.in-Some._after.now
      c.in-Some.first (element_span c.in_ok-found-2.found) c.in-Some.ensures c.if-first-ne91.false
      c.in_ok-found-2.ensures.reads c.loop-first.invariant.goes;
  read =
      rw (c.both-is_form.ensures, c.both-ascends.ensures, c.both-differ.ensures)
      (next_read c.loop-first.is_form c.in_ok-found-2.found_is_form c.loop-first.ascends c.is_above-above.result
      c.loop-first.differ c.is_new.result c.loop-first.ids c.push.new.self
      c.id-id.result.now c.args.octets.now c.loop-first.rest.now c.in_ok-found-2.behind.now
      (Some c.loop-first.greatest.now)
      c.is_above-above.ensures.above c.is_above-above.ensures.most (rw (sym c.both-ascends.ensures) c.is_new.ensures)
      c.push.ensures
      (subst (λ (id : List ℕ). ReadsElement c.in_ok-found-2.found_is_form id c.loop-first.rest.now
      c.in_ok-found-2.behind.now) (sym c.id-id.ensures) c.in_ok-found-2.ensures.form)
      c.loop-first.invariant.read);
}

pub returns-then-first-ne91-clause-forms : goal.returns-then-first-ne91-clause-forms
returns-then-first-ne91-clause-forms c = all_read c.loop-first.is_form c.loop-first.ascends
    c.loop-first.differ c.loop-first.ids (Some c.loop-first.greatest.now) c.args.octets.now c.loop-first.rest.now c.loop-first.invariant.read

pub returns-clause-forms : goal.returns-clause-forms
returns-clause-forms c = all_read c.loop-first.is_form c.loop-first.ascends c.loop-first.differ c.loop-first.ids
    (Some c.loop-first.greatest.now) c.args.octets.now c.loop-first.rest.now c.loop-first.invariant.read
