use Rattle.syslog_grammar.proofs.canonical_view.put_view_header.Goals as goal

pub returns : goal.returns
returns c = rw (
  c.priority.ensures,
  c.instant.ensures,
  c.hostname.ensures,
  c.app_name.ensures,
  c.proc_id.ensures,
  c.msg_id.ensures,
) at c.put_header.ensures
