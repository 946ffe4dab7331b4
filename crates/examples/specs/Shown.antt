-- What the examples show.
use Rattle.std.specs.Prelude.{◌≡◌, ℕ, ℤ, List, [], Option, take, length, ◌≤◌}
use Rattle.syslog_value.specs.Parts.{Parts}
use Rattle.syslog_fields.specs.Grammar.{SyslogMsg}
use Rattle.syslog_fields.specs.Time.{CivilTime}
use Rattle.syslog_frame.specs.Frames.{Frame}
use Rattle.syslog_frame.specs.declared.framing.Framing.{Framing}
use Rattle.syslog_frame.specs.declared.limits.TheConstants.{FRAME_MAX}
use Rattle.archive_text.specs.Entries.{Entry}
use Rattle.archive_text.specs.Text.{IsArchive, text_of}
use Rattle.archive_text.specs.declared.limits.TheConstants.{ENTRY_MAX}
use Rattle.archive_streams.specs.Joining.{IsUnion}
use Rattle.archive_sets.specs.Selections.{IsSelection}
use Rattle.archive_digest.specs.Digests.{IsDivided, Part, digest_text}
use Rattle.archive_text.specs.declared.period.Period.{Period}

-- the octets spell a record of which this is the application
abbrev pub NamesApp : List ℕ → Option (List ℕ) → Type 0
NamesApp b name = (p : Parts CivilTime) × SyslogMsg p b × (p.app_name ≡ name)

-- a frame of a record's length is the front of a piece
abbrev pub IsFirstFrame : Framing → List ℕ → List ℕ → Type 0
IsFirstFrame framing piece frame =
    (used : ℕ) × Frame framing frame (take used piece) × (length frame ≤ FRAME_MAX)

-- the text of an archive of these entries
pub record IsText (es : List Entry) (text : List ℕ) : Type 0 where
  pub archive : IsArchive ENTRY_MAX es
  pub text_is : text ≡ text_of es

-- the text of the union of two archives
abbrev pub IsUnionText : List ℕ → List ℕ → List ℕ → Type 0
IsUnionText left right text =
    (xs : List Entry) × (ys : List Entry) × (zs : List Entry) × IsText xs left × IsText ys right × IsUnion xs ys zs
    × (text ≡ text_of zs)

-- the text of those records of an archive that meet a condition
abbrev pub IsSelectedText : (Entry → Type 0) → List ℕ → List ℕ → Type 0
IsSelectedText meets archive text =
    (xs : List Entry) × (ys : List Entry) × IsText xs archive × IsSelection meets xs ys × (text ≡ text_of ys)

-- the digest of an archive by a period
abbrev pub IsDigestText : Period → List ℕ → List ℕ → Type 0
IsDigestText period archive text =
    (xs : List Entry) × (parts : List Part) × IsText xs archive × IsDivided period xs parts
    × (text ≡ digest_text xs parts)
