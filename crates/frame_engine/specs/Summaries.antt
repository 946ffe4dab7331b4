-- How many packets of an input were read as legacy ones, so that a misreading is seen.
use Rattle.std.specs.Prelude.{◌≡◌, ℕ, ℤ, ◌+◌, ◌^◌, ◌<◌, ◌≤◌, List, [], ◌∷◌, ◌++◌, ◌⊎◌, None, length, Bool, true, false, codes, decimal}
use Rattle.syslog_frame.specs.declared.limits.TheConstants.{FRAME_MAX}
use Rattle.syslog_value.specs.Parts.{Parts}
use Rattle.syslog_legacy.specs.FrameReadings.{IsLegacy, IsReadAs}
use Rattle.syslog_legacy.specs.declared.frame_reading.FrameReading.{FrameReading}
use Rattle.driver.specs.Effects.{Done}
use Rattle.frame_engine.specs.Handling.{AtEnd, nothing_at_end}
use Rattle.frame_engine.specs.declared.tally.Tally.{Tally}

-- a frame is read as a legacy packet, which has this record
abbrev pub IsPacketOf : FrameReading → Parts ℤ → List ℕ → Type 0
IsPacketOf way r f = (length f ≤ FRAME_MAX) × IsLegacy way f × IsReadAs way r f

-- a frame is read as a legacy packet; as one whose record has no time, or no host
abbrev pub IsPacket : FrameReading → List ℕ → Type 0
IsPacket way f = (r : Parts ℤ) × IsPacketOf way r f

abbrev pub LacksTime : FrameReading → List ℕ → Type 0
LacksTime way f = (r : Parts ℤ) × IsPacketOf way r f × (r.time ≡ None)

abbrev pub LacksHost : FrameReading → List ℕ → Type 0
LacksHost way f = (r : Parts ℤ) × IsPacketOf way r f × (r.hostname ≡ None)

-- so many of the frames are such
abbrev pub HowMany : (List ℕ → Type 0) → List (List ℕ) → ℕ → Type 0
HowMany P [] n = n ≡ 0
HowMany P (f ∷ fs) n = (P f × (m : ℕ) × HowMany P fs m × (n ≡ m + 1)) ⊎ (¬ (P f) × HowMany P fs n)

-- such frames are counted on from a number, which has 64 bits
abbrev pub CountsOn : (List ℕ → Type 0) → List (List ℕ) → ℕ → ℕ → Type 0
CountsOn P frames first now = (n : ℕ) × HowMany P frames n × (first + n < 2 ^ 64 → now ≡ first + n)

-- one more is counted, if it is such
abbrev pub CountsOne : Type 0 → ℕ → ℕ → Type 0
CountsOne P old new = (P → old + 1 < 2 ^ 64 → new ≡ old + 1) × (¬ P → new ≡ old)

abbrev pub no_packets : Tally
no_packets = record { packets = 0; no_time = 0; no_host = 0 }

-- the frames are counted on from a tally
pub record AreTallied (way : FrameReading) (frames : List (List ℕ)) (first now : Tally) : Type 0 where
  pub packets : CountsOn (IsPacket way) frames first.packets now.packets
  pub no_time : CountsOn (LacksTime way) frames first.no_time now.no_time
  pub no_host : CountsOn (LacksHost way) frames first.no_host now.no_host

-- the line of a tally
abbrev pub summary_text : Tally → List ℕ
summary_text t =
    codes "legacy " ++ decimal t.packets ++ codes " no-time " ++ decimal t.no_time ++ codes " no-host "
    ++ decimal t.no_host ++ codes "\n"

-- a line is noted, and nothing is refused by it
abbrev pub noted_text : List ℕ → Done
noted_text text = record { refused = false; output = []; diagnostics = text }

-- at the end of the frames the line of their tally is noted, which goes on from another
abbrev pub summary_at_end : FrameReading → Tally → AtEnd
summary_at_end way first frames d = (t : Tally) × AreTallied way frames first t × (d ≡ noted_text (summary_text t))

-- what `check` does at the end of the frames: with `--summary` it notes how many packets were legacy ones
abbrev pub check_end : FrameReading → Bool → AtEnd
check_end way true = summary_at_end way no_packets
check_end way false = nothing_at_end
