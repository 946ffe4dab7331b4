use Rattle.std.proofs.Common.{◌+◌, ◌<◌, ◌^◌, arith}
use Rattle.record_store.specs.Renewals.{AreRenewalNames}
use Rattle.record_store.proofs.renewing.renew_journal.Goals as goal

pub returns-in-Ok-clause-renewed : goal.returns-in-Ok-clause-renewed
returns-in-Ok-clause-renewed g c tells sound octets newest =
    let fits : c.args.number + 1 < 2 ^ 64 = omega arith in
    c.in-Ok.ensures.renewed tells sound c.args.number octets (record {
      fits = fits;
      name_is = c.in_ok-name.ensures;
      draft_is = c.in_ok-draft.ensures;
      next_is = c.in_ok-next.ensures;
    }) newest

pub returns-in-Ok-clause-any_moment : goal.returns-in-Ok-clause-any_moment
returns-in-Ok-clause-any_moment g c tells sound octets newest committed received keeps =
    let fits : c.args.number + 1 < 2 ^ 64 = omega arith in
    c.move_on.ensures.any_moment tells sound c.args.number octets (record {
      fits = fits;
      name_is = c.in_ok-name.ensures;
      draft_is = c.in_ok-draft.ensures;
      next_is = c.in_ok-next.ensures;
    }) newest committed received keeps

pub returns-clause-any_moment : goal.returns-clause-any_moment
returns-clause-any_moment g c tells sound octets newest committed received keeps =
    let fits : c.args.number + 1 < 2 ^ 64 = omega arith in
    c.move_on.ensures.any_moment tells sound c.args.number octets (record {
      fits = fits;
      name_is = c.in_ok-name.ensures;
      draft_is = c.in_ok-draft.ensures;
      next_is = c.in_ok-next.ensures;
    }) newest committed received keeps
