-- Masks are sets of severities (setlogmask(3)).
use Rattle.std.specs.Prelude.{ℕ, IsBitSet}
use Rattle.syslog_value.specs.declared.severity.Severity.{Severity}
use Rattle.syslog_value.specs.Severities.{severity_code}

-- the severity is in the mask: the bit of its code is set
abbrev pub Holds : ℕ → Severity → Type 0
Holds mask severity = IsBitSet mask (severity_code severity)
