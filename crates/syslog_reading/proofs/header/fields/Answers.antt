use Rattle.std.proofs.lemmas.Result.{err_from_is_err_and}
use Rattle.syslog_reading.specs.Fields.{header_parts}
use Rattle.syslog_reading.proofs.Headers.{bad_priority, bad_version, bad_time, bad_hostname, bad_app_name, bad_proc_id}
use Rattle.syslog_reading.proofs.Headers.{bad_msg_id, header_read, time_stands, before_read, words_read}
use Rattle.std.proofs.Common.{refl}
use Rattle.syslog_reading.proofs.header.fields.Goals as goal

pub returns-in_err-priority-clause-reads : goal.returns-in_err-priority-clause-reads
returns-in_err-priority-clause-reads c =
    let p = err_from_is_err_and c.from_residual.result c.from_residual.ensures.1 in
    rw (p.1, p.2) (bad_priority _ _ c.in_err-priority.ensures)

pub returns-in_err-rest-clause-reads : goal.returns-in_err-rest-clause-reads
returns-in_err-rest-clause-reads c =
    let p = err_from_is_err_and c.from_residual-in_err-rest.result c.from_residual-in_err-rest.ensures.1 in
    rw (p.1, p.2) (bad_version _ c.in_ok-priority.rest.now c.in_ok-priority.priority _ c.in_ok-priority.ensures
    c.in_err-rest.ensures)

pub returns-in_err-time-clause-reads : goal.returns-in_err-time-clause-reads
returns-in_err-time-clause-reads c =
    let p = err_from_is_err_and c.from_residual-in_err-time.result c.from_residual-in_err-time.ensures.1 in
    rw (p.1, p.2) (bad_time _ c.in_ok-priority.rest.now c.in_ok-rest.rest.now c.in_ok-priority.priority _
    c.in_ok-priority.ensures c.in_ok-rest.ensures c.in_err-time.ensures)

pub returns-in_err-hostname-clause-reads : goal.returns-in_err-hostname-clause-reads
returns-in_err-hostname-clause-reads c =
    let p = err_from_is_err_and c.from_residual-in_err-hostname.result c.from_residual-in_err-hostname.ensures.1 in
    rw (p.1, p.2) (bad_hostname _ c.in_ok-priority.rest.now c.in_ok-rest.rest.now c.in_ok-time.rest.now
    c.in_ok-priority.priority _ _ c.in_ok-priority.ensures c.in_ok-rest.ensures c.in_ok-time.ensures
    c.in_err-hostname.ensures)

pub returns-in_err-app_name-clause-reads : goal.returns-in_err-app_name-clause-reads
returns-in_err-app_name-clause-reads c =
    let p = err_from_is_err_and c.from_residual-in_err-app_name.result c.from_residual-in_err-app_name.ensures.1 in
    rw (p.1, p.2) (bad_app_name _ c.in_ok-priority.rest.now c.in_ok-rest.rest.now c.in_ok-time.rest.now
    c.in_ok-hostname.rest.now c.in_ok-priority.priority _ _ _ c.in_ok-priority.ensures c.in_ok-rest.ensures
    c.in_ok-time.ensures c.in_ok-hostname.ensures c.in_err-app_name.ensures)

pub returns-in_err-proc_id-clause-reads : goal.returns-in_err-proc_id-clause-reads
returns-in_err-proc_id-clause-reads c =
    let p = err_from_is_err_and c.from_residual-in_err-proc_id.result c.from_residual-in_err-proc_id.ensures.1 in
    rw (p.1, p.2) (bad_proc_id _ c.in_ok-priority.rest.now c.in_ok-rest.rest.now c.in_ok-time.rest.now
    c.in_ok-hostname.rest.now c.in_ok-app_name.rest.now c.in_ok-priority.priority _ _ _ _ c.in_ok-priority.ensures
    c.in_ok-rest.ensures c.in_ok-time.ensures c.in_ok-hostname.ensures c.in_ok-app_name.ensures
    c.in_err-proc_id.ensures)

pub returns-in_err-msg_id-clause-reads : goal.returns-in_err-msg_id-clause-reads
returns-in_err-msg_id-clause-reads c =
    let p = err_from_is_err_and c.from_residual-in_err-msg_id.result c.from_residual-in_err-msg_id.ensures.1 in
    rw (p.1, p.2) (bad_msg_id _ c.in_ok-priority.rest.now c.in_ok-rest.rest.now c.in_ok-time.rest.now
    c.in_ok-hostname.rest.now c.in_ok-app_name.rest.now c.in_ok-proc_id.rest.now c.in_ok-priority.priority _ _ _ _ _
    c.in_ok-priority.ensures c.in_ok-rest.ensures c.in_ok-time.ensures c.in_ok-hostname.ensures
    c.in_ok-app_name.ensures c.in_ok-proc_id.ensures c.in_err-msg_id.ensures)

pub returns-clause-reads : goal.returns-clause-reads
returns-clause-reads c =
    header_read c.args.octets.now c.in_ok-priority.rest.now c.in_ok-rest.rest.now c.in_ok-time.rest.now
    c.in_ok-hostname.rest.now c.in_ok-app_name.rest.now c.in_ok-proc_id.rest.now c.in_ok-msg_id.rest.now
    (header_parts record {
      priority = c.in_ok-priority.priority;
      time = c.in_ok-time.time;
      hostname =
          c.in_ok-hostname.hostname;
      app_name = c.in_ok-app_name.app_name;
      proc_id = c.in_ok-proc_id.proc_id;
      msg_id =
          c.in_ok-msg_id.msg_id;
      time_remaining = 0;
      behind_time = c.in_ok-time.rest;
    })
    c.in_ok-priority.ensures c.in_ok-rest.ensures c.in_ok-time.ensures c.in_ok-hostname.ensures c.in_ok-app_name.ensures
    c.in_ok-proc_id.ensures c.in_ok-msg_id.ensures

pub returns-clause-time : goal.returns-clause-time
returns-clause-time c = (
  c.in_ok-rest.rest.now,
  time_stands c.args.octets.now c.in_ok-priority.rest.now c.in_ok-rest.rest.now c.in_ok-priority.priority
      c.in_ok-priority.ensures c.in_ok-rest.ensures,
  refl,
)

pub returns-clause-words : goal.returns-clause-words
returns-clause-words c =
    words_read c.in_ok-time.rest.now c.in_ok-hostname.rest.now c.in_ok-app_name.rest.now c.in_ok-proc_id.rest.now
    c.in_ok-msg_id.rest.now
    (header_parts record {
      priority = c.in_ok-priority.priority;
      time = c.in_ok-time.time;
      hostname =
          c.in_ok-hostname.hostname;
      app_name = c.in_ok-app_name.app_name;
      proc_id = c.in_ok-proc_id.proc_id;
      msg_id =
          c.in_ok-msg_id.msg_id;
      time_remaining = 0;
      behind_time = c.in_ok-time.rest;
    })
    c.in_ok-hostname.ensures c.in_ok-app_name.ensures c.in_ok-proc_id.ensures c.in_ok-msg_id.ensures

pub returns-clause-behind : goal.returns-clause-behind
returns-clause-behind c =
    before_read c.args.octets.now c.in_ok-priority.rest.now c.in_ok-rest.rest.now c.in_ok-time.rest.now
    (header_parts record {
      priority = c.in_ok-priority.priority;
      time = c.in_ok-time.time;
      hostname =
          c.in_ok-hostname.hostname;
      app_name = c.in_ok-app_name.app_name;
      proc_id = c.in_ok-proc_id.proc_id;
      msg_id =
          c.in_ok-msg_id.msg_id;
      time_remaining = 0;
      behind_time = c.in_ok-time.rest;
    })
    c.in_ok-priority.ensures c.in_ok-rest.ensures c.in_ok-time.ensures
