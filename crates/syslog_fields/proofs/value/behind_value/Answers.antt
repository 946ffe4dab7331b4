use Rattle.std.proofs.Common.{◌≡◌, ◌≢◌, ℕ, ◌<◌, ◌∷◌, ◌∙◌, [], length, sym, ap, subst, arith, Bool, true}
use Rattle.std.proofs.lemmas.Result.{err_from_is_err_and}
use Rattle.octet_language.specs.Language.{IfFirst}
use Rattle.syslog_fields.specs.Values.{Piece}
use Rattle.octet_language.specs.Language.{AnyOf, Each}
use Rattle.syslog_fields.specs.Canonical.{escaped}
use Rattle.syslog_fields.specs.Forms.{ReadsForm, pieces_form}
use Rattle.syslog_fields.proofs.Loops.{carries_all, carries_more, carried_fails, carried_ends, takes_some}
use Rattle.syslog_fields.proofs.ReadForms.{more_read, none_read, piece_read, plain_read}
use Rattle.syslog_fields.proofs.Values.{IsPrefixFree-piece, carries_plain, no_piece, piece_some, plain_takes}
use Rattle.syslog_fields.proofs.value.behind_value.Goals as goal

pub returns-then-first-eq34-clause-reads : goal.returns-then-first-eq34-clause-reads
returns-then-first-eq34-clause-reads c = carried_ends Piece 34 c.args.octets.now c.loop-first.rest.now
    c.in-Some.after.now c.in-Some.first c.loop-first.invariant.carries c.in-Some.ensures c.if-first-eq34.true

pub returns-in_err-behind : goal.returns-in_err-behind
returns-in_err-behind c =
    let p = err_from_is_err_and c.from_residual.result c.from_residual.ensures.1 in
    let e : c.loop-first.rest.now ≡ c.in-Some.first ∷ c.in-Some.after.now = c.in-Some.ensures in
    rw (p.1, p.2) (record {
      reads = carried_fails Piece 34 c.args.octets.now c.loop-first.rest.now _
          (subst (IfFirst (λ x. x ≢ 34)) (sym e) c.if-first-eq34.false) c.loop-first.invariant.carries
          c.in_err-behind.ensures;
      form = tt;
    })

pub loop-first-smaller : goal.loop-first-smaller
loop-first-smaller c =
    let some : length c.in_ok-behind.behind.now < length c.loop-first.rest.now =
    takes_some (AnyOf Piece) c.loop-first.rest.now c.in_ok-behind.behind.now piece_some c.in_ok-behind.ensures in
    omega (
      arith,
      some,
      plain_takes c.in_ok-behind.behind.now c.behind_plain-rest-in-Some.result.now c.behind_plain-rest-in-Some.ensures,
    )

pub loop-first-preserved : goal.loop-first-preserved
loop-first-preserved c =
    let e : c.loop-first.rest.now ≡ c.in-Some.first ∷ c.in-Some.after.now = c.in-Some.ensures in
    record {
      carries =
          carries_plain c.args.octets.now c.in_ok-behind.behind.now c.behind_plain-rest-in-Some.result.now
          c.behind_plain-rest-in-Some.ensures
          (carries_more Piece 34 c.args.octets.now c.loop-first.rest.now c.in_ok-behind.behind.now IsPrefixFree-piece
          (subst (IfFirst (λ x. x ≢ 34)) (sym e) c.if-first-eq34.false) c.in_ok-behind.ensures
          c.loop-first.invariant.carries);
      form =
          plain_read _ c.args.octets.now c.in_ok-behind.behind.now c.behind_plain-rest-in-Some.result.now
          c.behind_plain-rest-in-Some.ensures
          (subst (λ (a : Bool). ReadsForm (Each Piece) pieces_form a c.args.octets.now c.in_ok-behind.behind.now)
          (sym c.both-is_form.ensures)
          (more_read Piece escaped c.loop-first.is_form c.begins_form.result c.args.octets.now c.loop-first.rest.now
          c.in_ok-behind.behind.now c.loop-first.invariant.form
          (piece_read c.loop-first.rest.now c.in_ok-behind.behind.now c.begins_form.result c.begins_form.ensures.form
          c.begins_form.ensures.lone c.in_ok-behind.ensures)));
    }

pub returns : goal.returns
returns c =
    let e : c.loop-first.rest.now ≡ [] = c.in_default.ensures in
    record {
      reads = carried_fails Piece 34 c.args.octets.now c.loop-first.rest.now _
          (subst (IfFirst (λ x. x ≢ 34)) (sym e) tt) c.loop-first.invariant.carries
          (no_piece c.loop-first.rest.now (subst (IfFirst _) (sym e) tt));
      form = tt;
    }

pub loop-first-init : goal.loop-first-init
loop-first-init c = record {
  carries = carries_plain c.args.octets.now c.args.octets.now c.behind_plain-rest.result.now c.behind_plain-rest.ensures
      (carries_all Piece _ c.args.octets.now);
  form = plain_read true c.args.octets.now c.args.octets.now c.behind_plain-rest.result.now c.behind_plain-rest.ensures
      (none_read Piece escaped c.args.octets.now);
}

pub returns-then-first-eq34-clause-form : goal.returns-then-first-eq34-clause-form
returns-then-first-eq34-clause-form c =
    let e : c.loop-first.rest.now ≡ 34 ∷ c.in-Some.after.now =
    c.in-Some.ensures ∙ ap (λ (n : ℕ). n ∷ c.in-Some.after.now) c.if-first-eq34.true in
    subst (ReadsForm (Each Piece) pieces_form c.loop-first.is_form c.args.octets.now) e c.loop-first.invariant.form
