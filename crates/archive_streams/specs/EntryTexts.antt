-- The text of an entry.
use Rattle.std.specs.Prelude.{◌≡◌, ◌≢◌, ℕ, ◌≤◌, List, [], ◌++◌, length, drop}
use Rattle.syslog_frame.specs.Frames.{CanCarry, framed}
use Rattle.syslog_frame.specs.declared.framing.Framing.TheVariants.{Counted}
use Rattle.archive_text.specs.Entries.{Entry, IsBelow, IsEntry}
use Rattle.archive_text.specs.Text.{entry_text}
use Rattle.archive_text.specs.declared.limits.TheConstants.{ENTRY_MAX}
use Rattle.archive_streams.specs.declared.entry.EntryText.{EntryText}

-- the entry that a text holds
abbrev pub entry_in : EntryText → Entry
entry_in t = record { instant = t.instant; octets = drop t.start t.text.items }

-- the text is that of an entry
pub record HoldsEntry (t : EntryText) : Type 0 where
  pub within : t.start ≤ length t.text.items
  pub entry : IsEntry (entry_in t)
  pub fits : length (drop t.start t.text.items) ≤ ENTRY_MAX
  pub carries : CanCarry Counted (drop t.start t.text.items)
  pub text_is : t.text.items ≡ entry_text (entry_in t)

-- the text is its octets from `start` on, behind their length and a space
pub record IsCounted (start : ℕ) (text : List ℕ) : Type 0 where
  pub within : start ≤ length text
  pub fits : length (drop start text) ≤ ENTRY_MAX
  pub carries : CanCarry Counted (drop start text)
  pub text_is : text ≡ framed Counted (drop start text)

-- an entry is above the last one, if there is one
abbrev pub IsAbove : EntryText → Entry → Type 0
IsAbove last e = last.text.items ≢ [] → IsBelow (entry_in last) e

-- so many octets follow a text
pub record HasCounted (count : ℕ) (before after : List ℕ) : Type 0 where
  pub octets : List ℕ
  pub size : length octets ≡ count
  pub parts : after ≡ before ++ octets

-- so many octets at most follow a text
pub record HasUpTo (count : ℕ) (before after : List ℕ) : Type 0 where
  pub octets : List ℕ
  pub few : length octets ≤ count
  pub parts : after ≡ before ++ octets
