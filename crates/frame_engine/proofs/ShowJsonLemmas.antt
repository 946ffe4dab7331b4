-- The line of a record that was read, from its parts.
use Rattle.std.proofs.Common.{◌≡◌, ℕ, ℤ, ◌≤◌, List, Bool, true, false, refl, ap, length}
use Rattle.std.specs.Prelude.{◌↔◌, IsTrue, if◌then◌else◌, Result, Ok, Err, OnOk}
use Rattle.syslog_frame.specs.declared.limits.TheConstants.{FRAME_MAX}
use Rattle.syslog_value.specs.Parts.{AnyOctets, MessageParts, Parts, Utf8Text}
use Rattle.syslog_fields.specs.Appending.{Adds as AddsText}
use Rattle.syslog_reading.specs.ViewParts.{HasBom, octets_of}
use Rattle.syslog_reading.specs.WellFormed.{WellFormed}
use Rattle.syslog_legacy.specs.FrameReadings.{IsReadAs, octets_read}
use Rattle.syslog_legacy.specs.declared.frame_reading.FrameReading.{FrameReading}
use Rattle.record_json.specs.Objects.{JsonLine}
use Rattle.record_json.specs.Texts.{AddsLine}
use Rattle.driver.specs.Effects.{Adds, Done}
use Rattle.frame_engine.specs.Converted.{goes_out}
use Rattle.frame_engine.specs.Readings.{IsRecordOf}
use Rattle.frame_engine.specs.ShowingJson.{ShowsJson}
use Rattle.frame_engine.proofs.HandlingLemmas.{adds_output}

pub record_shown : {X E : Type 0} (way : FrameReading) (f : List ℕ) (old new : Done) (r : Result X E)
    → length f ≤ FRAME_MAX → ((q : Parts ℤ) → WellFormed q (octets_read way f) → IsReadAs way q f)
    → OnOk r (AddsLine (octets_read way f) old.output new.output) → new.refused ≡ old.refused
    → new.diagnostics ≡ old.diagnostics → OnOk r (Adds (ShowsJson way f) old new)
record_shown way f old new (Ok x) few reads (q, formed, (text, line, e)) a b =
    (goes_out text, (q, (few, reads q formed), text, line, refl), adds_output old new text a e b)
record_shown way f old new (Err x) few reads h a b = tt

pub legacy_shown : {X E : Type 0} (way : FrameReading) (f : List ℕ) (old new : Done) (r : Result X E) (q : Parts ℤ)
    → IsRecordOf way q f → OnOk r (AddsText (JsonLine q) old.output new.output) → new.refused ≡ old.refused
    → new.diagnostics ≡ old.diagnostics → OnOk r (Adds (ShowsJson way f) old new)
legacy_shown way f old new (Ok x) q is (text, line, e) a b =
    (goes_out text, (q, is, text, line, refl), adds_output old new text a e b)
legacy_shown way f old new (Err x) q is h a b = tt

-- the message by its octets and whether they had a BOM
pub same_message : (m : MessageParts) (octets : List ℕ) (has_mark : Bool) → octets ≡ octets_of m
    → (IsTrue has_mark ↔ HasBom m) → (if has_mark then Utf8Text octets else AnyOctets octets) ≡ m
same_message (AnyOctets x) octets true e h = absurd (h.0 refl)
same_message (AnyOctets x) octets false e h = ap AnyOctets e
same_message (Utf8Text x) octets true e h = ap Utf8Text e
same_message (Utf8Text x) octets false e h = let w : false ≡ true = h.1 tt in absurd cc
