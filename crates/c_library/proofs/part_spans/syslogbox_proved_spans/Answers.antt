use Rattle.std.proofs.Common.{arith, inl, inr, refl, rules}
use Rattle.c_library.proofs.part_spans.syslogbox_proved_spans.Goals as goal

pub returns-then-octets-gt-ENTRY_MAX : goal.returns-then-octets-gt-ENTRY_MAX
returns-then-octets-gt-ENTRY_MAX c = inr (record {
  cause = inl (omega (arith, c.if-octets-gt-ENTRY_MAX.true), c.too_long.ensures);
  answer_is = refl;
  room = refl;
})

pub returns-in-Ok : goal.returns-in-Ok
returns-in-Ok c =
    let shown = c.put_record.ensures.shown in
    inl (record {
      record_parts = shown.0;
      spells = shown.1;
      spans = shown.2;
      shows = shown.3;
      answer_is = search rules;
      room = shown.4;
      fault = refl;
    })

pub returns-in-Err : goal.returns-in-Err
returns-in-Err c = inr (record {
  cause = inr (omega (arith, c.if-octets-gt-ENTRY_MAX.false), (c.in-Err.cause, c.in-Err.ensures.whole, c.of_record.ensures));
  answer_is = refl;
  room = refl;
})
