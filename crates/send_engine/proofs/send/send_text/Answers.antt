use Rattle.send_engine.specs.Options.{texts_of}
use Rattle.send_engine.proofs.SendLemmas.{ran_out, ran_refused, ran_sent, sent_by}
use Rattle.send_engine.proofs.send.send_text.Goals as goal

pub returns : goal.returns
returns g c =
    let (v, named, made) = c.in-Ok.ensures.ok in
    let e = c.send-sent.ensures in
    ran_sent (texts_of c.args.options.now) v _ _ c.send-sent.result _ _ _ _ _
    (record { named = named; made = made; message = c.in-Ok-message.ensures })
    (sent_by _ _ c.send-sent.result _ _ e.sent e.ok e.let_through e.err e.same) c.conclude.ensures

pub returns-in-Err-Refused : goal.returns-in-Err-Refused
returns-in-Err-Refused g c =
    ran_refused (texts_of c.args.options.now) _ _ _ _ _ _ ((rw c.in-Err-Refused.field-0-is at c.in-Err-Refused.ensures.err) tt) c.as_bytes.ensures.value
    c.takes.ensures c.report.ensures.reports

pub returns-in_default : goal.returns-in_default
returns-in_default g c = ran_out (texts_of c.args.options.now) _ _ _ _ c.report-in_default.ensures.reports
