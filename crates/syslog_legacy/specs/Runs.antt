-- Classes of octets.
use Rattle.std.specs.Prelude.{ℕ}
use Rattle.octet_language.specs.Digits.{IsDigit}
use Rattle.syslog_value.specs.Parts.{IsPrintable}
use Rattle.syslog_legacy.specs.Tags.{IsProcOctet, IsTagOctet}
use Rattle.syslog_legacy.specs.declared.runs.OctetClass.{OctetClass}
use Rattle.syslog_legacy.specs.declared.runs.OctetClass.TheVariants.{Digit, Host, Proc, Tag}

-- an octet of a class
abbrev pub IsOf : OctetClass → ℕ → Type 0
IsOf Host x = IsPrintable x
IsOf Tag x = IsTagOctet x
IsOf Proc x = IsProcOctet x
IsOf Digit x = IsDigit x
