-- The records of a received set.
use Rattle.std.proofs.Common.{ℕ, ◌≤◌, List, [], ◌∷◌, length, inl, inr, refl, sym, subst}
use Rattle.std.specs.Prelude.{◌↔◌, ℤ}
use Rattle.syslog_value.specs.Parts.{Parts}
use Rattle.syslog_frame.specs.declared.limits.TheConstants.{FRAME_MAX}
use Rattle.archive_text.specs.Entries.{Entry, IsEntryOf}
use Rattle.archive_text.proofs.Texts.{one_record}
use Rattle.syslog_legacy.specs.FrameReadings.{IsReadAs}
use Rattle.syslog_legacy.specs.declared.frame_reading.FrameReading.{FrameReading}
use Rattle.syslog_collect.specs.Frames.{IsAmong, IsEntryOfFrame, IsFrameOf, IsReceived, IsSpelled}
use Rattle.syslog_collect.specs.History.{AcceptedEvent}

spelled_among : (way : FrameReading) (fs : List (List ℕ)) (x : Entry) → IsSpelled way fs x
    → (f : List ℕ) × IsAmong fs f × IsEntryOfFrame way f x
spelled_among way [] x h = absurd h
spelled_among way (f ∷ fs) x (inl h) = (f, inl refl, h)
spelled_among way (f ∷ fs) x (inr h) = let later = spelled_among way fs x h in (later.0, inr later.1, later.2)

among_spelled : (way : FrameReading) (fs : List (List ℕ)) (f : List ℕ) (x : Entry) → IsAmong fs f
    → IsEntryOfFrame way f x
    → IsSpelled way fs x
among_spelled way [] f x h e = absurd h
among_spelled way (g ∷ gs) f x (inl same) e = inl (subst (λ (z : List ℕ). IsEntryOfFrame way z x) (sym same) e)
among_spelled way (g ∷ gs) f x (inr h) e = inr (among_spelled way gs f x h e)

-- a frame of the events within the limit is read as the record
abbrev pub IsSpelledBy : FrameReading → List AcceptedEvent → Parts ℤ → Type 0
IsSpelledBy way es r = (f : List ℕ) × IsFrameOf es f × (length f ≤ FRAME_MAX) × IsReadAs way r f

pub received_entry : (way : FrameReading) (es : List AcceptedEvent) (x : Entry) → IsReceived way es x
    → (r : Parts ℤ) × IsEntryOf r x × IsSpelledBy way es r
received_entry way es x (frames, are, spelled) =
    let (f, among, (le, (r, wf, entry))) = spelled_among way frames x spelled in
    (r, entry, (f, (frames, are, among), le, wf))

pub received_record : (way : FrameReading) (es : List AcceptedEvent) (r : Parts ℤ) (x : Entry) → IsEntryOf r x
    → IsReceived way es x ↔ IsSpelledBy way es r
received_record way es r x entry = (
  λ h. let (q, of, by) = received_entry way es x h in
      subst (IsSpelledBy way es) (one_record q r x x of entry refl) by,
  λ (f, (frames, are, among), le, wf). (frames, are, among_spelled way frames f x among (le, (r, wf, entry))),
)
