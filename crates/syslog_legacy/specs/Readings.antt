-- What a legacy packet is: a record, or a message that starts with the BOM and is no UTF-8.
use Rattle.std.specs.Prelude.{◌≡◌, ℕ, ◌+◌, ℤ, List, [], ◌++◌, None, length}
use Rattle.octet_language.specs.Language.{Language, IsFaultOffset}
use Rattle.syslog_value.specs.Parts.{MessageParts, Parts, bom}
use Rattle.syslog_fields.specs.Grammar.{Message}
use Rattle.syslog_fields.specs.Utf8.{IsText}
use Rattle.syslog_legacy.specs.declared.clock.LegacyClock.{LegacyClock}
use Rattle.syslog_legacy.specs.Splits.{FrontParts, Splits}

-- a record, or the offset where a message stops to be UTF-8
pub data Answer : Type 0 where
  ReadAs : Parts ℤ → Answer
  NotUtf8At : ℕ → Answer

-- MSGID and structured data are nil
abbrev pub legacy_parts : FrontParts → MessageParts → Parts ℤ
legacy_parts f message = record {
  priority = f.priority;
  time = f.time;
  hostname = f.hostname;
  app_name = f.app_name;
  proc_id = f.proc_id;
  msg_id = None;
  elements = [];
  message = message;
}

-- the message is the BOM and what is no text: a text goes on up to this offset of the packet
pub record StopsIn (clock : LegacyClock) (b : List ℕ) (offset : ℕ) : Type 0 where
  pub front : FrontParts
  pub before : List ℕ
  pub text : List ℕ
  pub within : ℕ
  pub parts : b ≡ before ++ text
  pub splits : Splits clock b front (bom ++ text)
  pub faulty : ¬ (IsText text)
  pub stops : IsFaultOffset IsText text within
  pub offset_is : offset ≡ length before + within

-- the packet splits, its message is one, and this is the record
pub record IsRead (clock : LegacyClock) (b : List ℕ) (r : Parts ℤ) : Type 0 where
  pub front : FrontParts
  pub octets : List ℕ
  pub message : MessageParts
  pub splits : Splits clock b front octets
  pub means : Message message octets
  pub is : r ≡ legacy_parts front message

-- what the octets of a packet are
abbrev pub Legacy : LegacyClock → Answer → Language
Legacy clock (ReadAs r) b = IsRead clock b r
Legacy clock (NotUtf8At offset) b = StopsIn clock b offset
