-- How a legacy packet splits into PRI, time, host, tag and message (RFC 3164, section 4).
use Rattle.std.specs.Prelude.{◌≡◌, ℕ, ℤ, List, ◌⊎◌, Option, Some, None}
use Rattle.octet_language.specs.Reading.{Follows}
use Rattle.syslog_fields.specs.Grammar.{Priority}
use Rattle.syslog_legacy.specs.declared.clock.Dialect.{Dialect}
use Rattle.syslog_legacy.specs.declared.clock.Dialect.TheVariants.{Bsd, Wide}
use Rattle.syslog_legacy.specs.declared.clock.LegacyClock.{LegacyClock}
use Rattle.syslog_legacy.specs.Timestamps.{TimestampText}
use Rattle.syslog_legacy.specs.Hosts.{Host}
use Rattle.syslog_legacy.specs.Parts.{Lacks, Part}
use Rattle.syslog_legacy.specs.Tags.{BehindSpace, TagParts, Tag}
use Rattle.syslog_legacy.specs.WideTags.{WideHost, WideTag}
use Rattle.syslog_legacy.specs.WideTimes.{WideTime}

-- what precedes the message
pub record FrontParts : Type 0 where
  pub priority : ℕ
  pub time : Option ℤ
  pub hostname : Option (List ℕ)
  pub app_name : Option (List ℕ)
  pub proc_id : Option (List ℕ)

abbrev pub front_of : ℕ → Option ℤ → Option (List ℕ) → TagParts → FrontParts
front_of priority time hostname tag = record {
  priority = priority;
  time = time;
  hostname = hostname;
  app_name = tag.app_name;
  proc_id = tag.proc_id;
}

abbrev pub no_tag : TagParts
no_tag = record { app_name = None; proc_id = None }

-- of octets, what precedes the message, and the message
abbrev pub Split : Type 1
Split = List ℕ → FrontParts → List ℕ → Type 0

-- this precedes the message, and all of the octets are the message
abbrev pub AllMessage : FrontParts → Split
AllMessage front b f message = (f ≡ front) × (message ≡ b)

-- the part comes first, and what follows it splits further; where it does not come, all is the message
abbrev pub First : {V : Type 0} → Part V → (V → Split) → FrontParts → Split
First {V} P behind front b f message =
    (Lacks P b × AllMessage front b f message)
    ⊎ ((v : V) × (rest : List ℕ) × P v b rest × behind v rest f message)

-- behind the host: a tag and the message, or the message
abbrev pub BehindHost : Part TagParts → ℕ → ℤ → Option (List ℕ) → Split
BehindHost G priority time host =
    First G (λ tag. AllMessage (front_of priority (Some time) host tag)) (front_of priority (Some time) host no_tag)

-- behind the timestamp: a host, or the message
abbrev pub BehindTime : Part (Option (List ℕ)) → Part TagParts → ℕ → ℤ → Split
BehindTime H G priority time = First H (BehindHost G priority time) (front_of priority (Some time) None no_tag)

-- behind PRI: a timestamp, or the message; no time and no host is inserted
abbrev pub BehindPriority : Part ℤ → Part (Option (List ℕ)) → Part TagParts → ℕ → Split
BehindPriority T H G priority = First T (BehindTime H G priority) (front_of priority None None no_tag)

-- by the parts of PRI, time, host and tag: a packet without a valid PRI has the priority 13 (4.3.3), and all of it is
-- the message
abbrev pub SplitsBy : Part ℕ → Part ℤ → Part (Option (List ℕ)) → Part TagParts → Split
SplitsBy P T H G = First P (BehindPriority T H G) (front_of 13 None None no_tag)

-- PRI; in the wide dialect also one space behind it, if one comes
abbrev pub PriorityPart : Dialect → Part ℕ
PriorityPart Bsd priority b rest = Follows (Priority priority) b rest
PriorityPart Wide priority b rest = (behind : List ℕ) × Follows (Priority priority) b behind × BehindSpace behind rest

abbrev pub TimePart : Dialect → LegacyClock → Part ℤ
TimePart Bsd clock time b rest = Follows (TimestampText clock time) b rest
TimePart Wide clock time b rest = WideTime clock time b rest

abbrev pub HostPart : Dialect → Part (Option (List ℕ))
HostPart Bsd host b rest = Host host b rest
HostPart Wide host b rest = WideHost host b rest

abbrev pub TagPart : Dialect → Part TagParts
TagPart Bsd tag b rest = Tag tag b rest
TagPart Wide tag b rest = WideTag tag b rest

-- by the parts of the clock's dialect
abbrev pub Splits : LegacyClock → Split
Splits clock =
    SplitsBy (PriorityPart clock.dialect) (TimePart clock.dialect clock) (HostPart clock.dialect)
    (TagPart clock.dialect)
