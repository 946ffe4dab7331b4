-- The frames of openings and datagrams, and the entries of the records that they spell.
use Rattle.std.specs.Prelude.{◌≡◌, ℕ, ℤ, ◌≤◌, ◌⊎◌, ◌↔◌, List, [], ◌∷◌, ◌++◌, length}
use Rattle.syslog_value.specs.Parts.{Parts}
use Rattle.syslog_legacy.specs.FrameReadings.{IsReadAs}
use Rattle.syslog_legacy.specs.declared.frame_reading.FrameReading.{FrameReading}
use Rattle.syslog_frame.specs.Frames.{Frames}
use Rattle.syslog_frame.specs.declared.limits.TheConstants.{FRAME_MAX}
use Rattle.archive_text.specs.Entries.{Entry, Has, IsEntryOf}
use Rattle.syslog_collect.specs.History.{History, Stream, AcceptedEvent, history_of}

-- these are the frames of an opening
abbrev pub IsFramesOf : Stream → List (List ℕ) → Type 0
IsFramesOf s frames = (rest : List ℕ) × Frames s.framing s.octets frames rest

-- these are the frames of each of the openings
abbrev pub AreFramesOf : List Stream → List (List (List ℕ)) → Type 0
AreFramesOf [] [] = Unit {0}
AreFramesOf [] (f ∷ fs) = ⊥
AreFramesOf (s ∷ ss) [] = ⊥
AreFramesOf (s ∷ ss) (f ∷ fs) = IsFramesOf s f × AreFramesOf ss fs

-- one list after the other
abbrev pub all_of : List (List (List ℕ)) → List (List ℕ)
all_of [] = []
all_of (f ∷ fs) = f ++ all_of fs

-- these are the frames of all openings, open and ended, and all datagrams
pub record HasFrames (h : History) (frames : List (List ℕ)) : Type 0 where
  pub open_frames : List (List (List ℕ))
  pub ended_frames : List (List (List ℕ))
  pub open_are : AreFramesOf h.streams open_frames
  pub ended_are : AreFramesOf h.ended ended_frames
  pub all : frames ≡ all_of open_frames ++ (all_of ended_frames ++ h.datagrams)

-- the frame is one of these
abbrev pub IsAmong : List (List ℕ) → List ℕ → Type 0
IsAmong [] f = ⊥
IsAmong (g ∷ gs) f = (g ≡ f) ⊎ IsAmong gs f

-- the frame is one of the events'
abbrev pub IsFrameOf : List AcceptedEvent → List ℕ → Type 0
IsFrameOf es f = (frames : List (List ℕ)) × HasFrames (history_of es) frames × IsAmong frames f

-- the entry is that of the record as which a frame of at most `FRAME_MAX` octets is read
abbrev pub IsEntryOfFrame : FrameReading → List ℕ → Entry → Type 0
IsEntryOfFrame way f x = (length f ≤ FRAME_MAX) × ((r : Parts ℤ) × IsReadAs way r f × IsEntryOf r x)

-- the entry is that of one of the frames
abbrev pub IsSpelled : FrameReading → List (List ℕ) → Entry → Type 0
IsSpelled way [] x = ⊥
IsSpelled way (f ∷ fs) x = IsEntryOfFrame way f x ⊎ IsSpelled way fs x

-- the received set: the entries of the records as which the frames of the events are read
abbrev pub IsReceived : FrameReading → List AcceptedEvent → Entry → Type 0
IsReceived way es x = (frames : List (List ℕ)) × HasFrames (history_of es) frames × IsSpelled way frames x

-- the entries are those before and those of the frames, and no other
abbrev pub Gains : FrameReading → List Entry → List Entry → List (List ℕ) → Type 0
Gains way old new frames = (x : Entry) → Has new x ↔ (Has old x ⊎ IsSpelled way frames x)
