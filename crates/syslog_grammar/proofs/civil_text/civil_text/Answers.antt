use Rattle.std.proofs.Common.{refl}
use Rattle.syslog_fields.specs.Canonical.{civil_text}
use Rattle.syslog_grammar.proofs.civil_text.civil_text.Goals as goal

pub returns : goal.returns
unfolding civil_text
returns c = rw (
  c.four.ensures,
  c.two.ensures,
  c.two-2.ensures,
  c.two-3.ensures,
  c.two-4.ensures,
  c.two-5.ensures,
  c.six.ensures,
) refl
