-- An input that is archived: its lines put nothing out, so its archive is all of its output.
use Rattle.std.proofs.Common.{◌≡◌, ℕ, ◌+◌, inl, inr, List, [], ◌∷◌, ◌++◌, false}
use Rattle.std.proofs.Common.{refl, sym, ap, ap₂, ◌∙◌}
use Rattle.std.specs.Prelude.{◌↔◌, ◌||◌}
use Rattle.std.proofs.Math.Bool.{or-false}
use Rattle.std.proofs.lemmas.List.{append-nil}
use Rattle.syslog_frame.specs.declared.framing.Framing.{Framing}
use Rattle.syslog_legacy.specs.declared.frame_reading.FrameReading.{FrameReading}
use Rattle.archive_text.specs.Entries.{Entry, Has}
use Rattle.archive_text.specs.Text.{IsArchive, text_of}
use Rattle.archive_text.specs.declared.limits.TheConstants.{ENTRY_MAX}
use Rattle.driver.specs.Effects.{Done, nothing, then_done}
use Rattle.driver.specs.Sessions.{with_rest}
use Rattle.frame_engine.specs.Converted.{noted_line}
use Rattle.frame_engine.specs.Handling.{HandledFrom}
use Rattle.frame_engine.specs.Streams.{ReportsEnd, StreamDone}
use Rattle.frame_engine.specs.declared.input_framing.InputFraming.TheVariants as input
use Rattle.frame_engine.proofs.HandlingLemmas.{same_done}
use Rattle.archive_engine.specs.Archived.{ArchiveDone, IsReceivedIn, archive_handling}

-- what is noted of frames has no output
pub lines_only : (way : FrameReading) (n : ℕ) (fs : List (List ℕ)) (d : Done)
    → HandledFrom (archive_handling way) n fs d
    → d.output ≡ []
lines_only way n [] d h = ap (λ (x : Done). x.output) h
lines_only way n (f ∷ fs) d (a, b, one, more, e) =
    ap (λ (x : Done). x.output) e
    ∙ ap₂ (λ (x y : List ℕ). x ++ y) (line_only way n f a one) (lines_only way (n + 1) fs b more)
  where
    line_only : (way : FrameReading) (n : ℕ) (f : List ℕ) (a : Done) → archive_handling way n f a → a.output ≡ []
    line_only way n f a (inl (long, e)) = ap (λ (x : Done). x.output) e
    line_only way n f a (inr (inl (few, r, e))) = ap (λ (x : Done). x.output) e
    line_only way n f a (inr (inr (inl (few, quiet, (fault, bad, e))))) = ap (λ (x : Done). x.output) e
    line_only way n f a (inr (inr (inr (few, (offset, bad, e))))) = ap (λ (x : Done). x.output) e

end_only : (kind : Framing) (stream : List ℕ) (frames : List (List ℕ)) (rest : List ℕ) (d : Done)
    → ReportsEnd noted_line kind stream frames rest d → d.output ≡ []
end_only kind stream frames rest d (inl (none, e)) = ap (λ (x : Done). x.output) e
end_only kind stream frames rest d (inr (inl (start, some, begins, place, e))) = ap (λ (x : Done). x.output) e
end_only kind stream frames rest d (inr (inr (at, bad, e))) = ap (λ (x : Done). x.output) e

-- nothing and a rest is the rest
only_rest : (d : Done) (rest : List ℕ) → d.output ≡ []
    → with_rest d rest ≡ record { refused = d.refused; output = rest; diagnostics = d.diagnostics }
only_rest d rest none = same_done (d.refused || false) d.refused (d.output ++ rest) rest (d.diagnostics ++ []) d.diagnostics
    (or-false d.refused) (ap (λ (x : List ℕ). x ++ rest) none) (append-nil d.diagnostics)

-- what comes of a stream whose archive is written behind its lines
pub stream_whole : (way : FrameReading) (kind : Framing) (stream : List ℕ) (kept : List Entry) (lines : Done)
    → IsArchive ENTRY_MAX kept → ((x : Entry) → Has kept x ↔ IsReceivedIn way (input.Stream kind) stream x)
    → StreamDone (archive_handling way) noted_line kind stream lines
    → ArchiveDone way (input.Stream kind) stream (with_rest lines (text_of kept))
stream_whole way kind stream kept lines archive members noted =
    let none : lines.output ≡ [] =
    ap (λ (x : Done). x.output) noted.whole
    ∙ ap₂ (λ (x y : List ℕ). x ++ y) (lines_only way 1 noted.frames noted.of_frames noted.handled)
    (end_only kind stream noted.frames noted.rest noted.of_end noted.reported) in
    record {
      entries = kept;
      lines = lines;
      archived = record { archive = archive; members = members };
      noted = noted;
      whole = only_rest lines (text_of kept) none;
    }

-- what comes of a datagram whose archive is written behind its line
pub datagram_whole : (way : FrameReading) (octets : List ℕ) (kept : List Entry) (lines : Done) → IsArchive ENTRY_MAX kept
    → ((x : Entry) → Has kept x ↔ IsReceivedIn way input.Datagram octets x)
    → archive_handling way 1 octets lines
    → ArchiveDone way input.Datagram octets (with_rest lines (text_of kept))
datagram_whole way octets kept lines archive members noted =
    let none : lines.output ≡ [] = ap (λ (x : List ℕ). x) (sym (append-nil lines.output))
    ∙ lines_only way 1 (octets ∷ []) (then_done lines nothing) (lines, nothing, noted, refl, refl) in
    record {
      entries = kept;
      lines = lines;
      archived = record { archive = archive; members = members };
      noted = noted;
      whole = only_rest lines (text_of kept) none;
    }
