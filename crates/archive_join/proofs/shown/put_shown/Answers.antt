use Rattle.std.proofs.Common.{rules, ◌≡◌, ◌∙◌, ◌+◌, length, true, refl, sym, arith}
use Rattle.std.proofs.lemmas.Result.{err_from_is_err_and}
use Rattle.archive_join.proofs.Lines.{fails_at, last_put, octet_put, plain_more, plain_none, run_fails, run_put}
use Rattle.archive_join.proofs.shown.put_shown.Goals.{then-not-is_plain+in_ok-put+in_ok-put_escape, else-not-is_plain}
use Rattle.archive_join.proofs.shown.put_shown.Goals as goal

pub returns-in_err-put : goal.returns-in_err-put
returns-in_err-put g c =
    let p = err_from_is_err_and c.from_residual.result c.from_residual.ensures.1 in
    let i = c.octets.invariant in
    rw (p.1, p.2) (run_fails _ _ _ _ _ c.args.octets.now _ c.octets.from c.octets.at _ i.few i.plain refl i.put
    c.in_err-put.ensures.puts)

pub returns-in_err-put_escape : goal.returns-in_err-put_escape
returns-in_err-put_escape g c =
    let p = err_from_is_err_and c.from_residual-in_err-put_escape.result c.from_residual-in_err-put_escape.ensures.1 in
    let i = c.octets.invariant in
    rw (p.1, p.2) (fails_at _ _ _ _ _ c.args.octets.now c.octets.at _ _ c.octets-test.true refl
    (run_put _ _ _ _ _ _ c.args.octets.now _ c.octets.from c.octets.at i.few i.plain refl i.put
    c.in_ok-put.ensures.puts) c.in_err-put_escape.ensures)

pub octets-preserved : goal.octets-preserved
octets-preserved g c =
    let octets = c.args.octets.now in
    let at = c.octets.at in
    let from = c.octets.from in
    let i = c.octets.invariant in
    elim c.if-not-is_plain.branch [
      | then-not-is_plain+in_ok-put+in_ok-put_escape w ↦ record {
        few = omega (arith, w.from-is);
        put = rw (w.from-is, w.held-is, w.writer-is) (octet_put _ _ _ _ _ _ octets at _ c.octets-test.true refl
            (run_put _ _ _ _ _ _ octets _ from at i.few i.plain refl i.put w.in_ok-put.ensures.puts)
            w.in_ok-put_escape.ensures);
        plain = plain_none octets c.if-not-is_plain.from (at + 1) (sym w.from-is);
      }
      | else-not-is_plain w ↦
          let on : c.is_plain.result ≡ true = search (rules, w.if-not-is_plain.false) in
          record {
            few = omega (arith, w.from-is, i.few);
            put = rw (w.from-is, w.held-is, w.writer-is) i.put;
            plain = rw w.from-is (plain_more octets from at i.few c.octets-test.true (sym c.is_plain.ensures ∙ on) i.plain);
          }
    ]

pub returns : goal.returns
returns g c =
    let i = c.octets.invariant in
    let end : c.octets.at ≡ length c.args.octets.now = omega (arith, c.octets-test.false, c.octets.auto.at-end) in
    last_put c.put-2.result _ _ _ _ _ _ c.args.octets.now _ c.octets.from c.octets.at i.few end i.plain refl i.put
    c.put-2.ensures.puts
