-- What comes of an input that is archived.
use Rattle.std.specs.Prelude.{◌≡◌, ℕ, ℤ, ◌<◌, ◌≤◌, ◌⊎◌, ◌↔◌, List, [], ◌∷◌, length}
use Rattle.syslog_value.specs.Parts.{Parts}
use Rattle.syslog_frame.specs.Frames.{Frames}
use Rattle.syslog_frame.specs.declared.limits.TheConstants.{FRAME_MAX}
use Rattle.syslog_reading.specs.declared.fault.Fault.{Fault}
use Rattle.syslog_legacy.specs.FrameReadings.{HasFault, IsLegacy, IsNotUtf8At, IsReadAs}
use Rattle.syslog_legacy.specs.declared.frame_reading.FrameReading.{FrameReading}
use Rattle.archive_text.specs.Entries.{Entry, Has}
use Rattle.archive_text.specs.Text.{IsArchive, text_of}
use Rattle.archive_text.specs.declared.limits.TheConstants.{ENTRY_MAX}
use Rattle.syslog_collect.specs.Frames.{IsSpelled}
use Rattle.frame_engine.specs.Converted.{noted_line}
use Rattle.driver.specs.Effects.{Done, nothing}
use Rattle.driver.specs.Sessions.{Meaning}
use Rattle.frame_engine.specs.Handling.{Handling}
use Rattle.frame_engine.specs.Sessions.{input_meaning}
use Rattle.frame_engine.specs.declared.input_framing.InputFraming.{InputFraming}
use Rattle.frame_engine.specs.declared.input_framing.InputFraming.TheVariants.{Datagram, Stream}
use Rattle.frame_engine.specs.declared.line.Line.TheVariants.{LegacyNotUtf8, Refused, TooLong}

-- what is noted of a frame: that it is too long; nothing, where it is read as a record; why it is none; or
-- where the message of a legacy packet is no UTF-8
abbrev pub archive_handling : FrameReading → Handling
archive_handling way n f d =
    ((FRAME_MAX < length f) × (d ≡ noted_line (TooLong n)))
    ⊎ (((length f ≤ FRAME_MAX) × ((r : Parts ℤ) × IsReadAs way r f) × (d ≡ nothing))
    ⊎ (((length f ≤ FRAME_MAX) × ¬ (IsLegacy way f)
    × ((fault : Fault) × HasFault way f fault × (d ≡ noted_line (Refused n fault))))
    ⊎ ((length f ≤ FRAME_MAX)
    × ((offset : ℕ) × IsNotUtf8At way offset f × (d ≡ noted_line (LegacyNotUtf8 n offset))))))

-- the frames of an input: the one that it is, or those of a stream
abbrev pub AreFramesIn : InputFraming → List ℕ → List (List ℕ) → Type 0
AreFramesIn Datagram input frames = frames ≡ input ∷ []
AreFramesIn (Stream kind) input frames = (rest : List ℕ) × Frames kind input frames rest

-- the received set of an input: the entries of the records as which its frames are read
abbrev pub IsReceivedIn : FrameReading → InputFraming → List ℕ → Entry → Type 0
IsReceivedIn way framing input x =
    (frames : List (List ℕ)) × AreFramesIn framing input frames × IsSpelled way frames x

-- the archive of the received set: of these records and no other
pub record IsArchiveOf (way : FrameReading) (framing : InputFraming) (input : List ℕ) (es : List Entry) : Type 0 where
  pub archive : IsArchive ENTRY_MAX es
  pub members : (x : Entry) → Has es x ↔ IsReceivedIn way framing input x

-- the text of the archive goes out, and a line on each frame, count or end that is refused is noted
pub record ArchiveDone (way : FrameReading) (framing : InputFraming) (input : List ℕ) (d : Done) : Type 0 where
  pub entries : List Entry
  pub lines : Done
  pub archived : IsArchiveOf way framing input entries
  pub noted : (input_meaning (archive_handling way) noted_line framing).whole input lines
  pub whole : d ≡ record { refused = lines.refused; output = text_of entries; diagnostics = lines.diagnostics }

-- `archive`: of the first octets of an input the lines on their frames, and of the whole input its archive too
abbrev pub archive_meaning : FrameReading → InputFraming → Meaning
archive_meaning way framing = record {
  so_far = (input_meaning (archive_handling way) noted_line framing).so_far;
  part = (input_meaning (archive_handling way) noted_line framing).part;
  whole = λ input d. ArchiveDone way framing input d;
}
