-- Where in its stream a connection is, and how many frames begin in what it gives.
use Rattle.std.specs.Prelude.{◌≡◌, ◌⊎◌, ℕ, zero, suc, ◌+◌, ◌-◌, ◌*◌, ◌^◌, ◌≤◌, ◌==◌, ◌&&◌, Bool, true, false, List}
use Rattle.std.specs.Prelude.{if◌then◌else◌, min, nat_lt, slice_index, slice_index_or}
use Rattle.std.specs.Char.{is_ascii_digit}
use Rattle.syslog_frame.specs.declared.framing.Framing.{Framing}
use Rattle.syslog_frame.specs.declared.framing.Framing.TheVariants.{Counted, Lf}
use Rattle.socket_source.specs.declared.place.Begun.{Begun}
use Rattle.socket_source.specs.declared.place.Place.{Place}
use Rattle.socket_source.specs.declared.place.Place.TheVariants.{Between, Line, Count, Record, Lost}
use Rattle.socket_source.specs.declared.refusal.Reading.{Reading}
use Rattle.socket_source.specs.declared.refusal.Reading.TheVariants as reading

-- the next octet is the first of a frame
abbrev pub is_between : Place → Bool
is_between Between = true
is_between Line = false
is_between (Count count) = false
is_between (Record left) = false
is_between Lost = false

-- a line ends with a line feed (RFC 6587, 3.4.2)
abbrev pub behind_line : ℕ → Place
behind_line octet = if octet == 10 then Between else Line

-- a count is digits, and a space ends it (3.4.1)
abbrev pub behind_count : ℕ → ℕ → Place
behind_count count octet =
    if is_ascii_digit octet then Count (min (min (count * 10) (2 ^ 64 - 1) + (octet - 48)) (2 ^ 64 - 1))
    else (if (octet == 32) && nat_lt 0 count then Record count else Lost)

-- a record has as many octets as its count says
abbrev pub behind_record : ℕ → Place
behind_record left = if nat_lt 1 left then Record (left - 1) else Between

-- the place behind one more octet
abbrev pub place_behind : Framing → Place → ℕ → Place
place_behind Lf Between octet = behind_line octet
place_behind Counted Between octet = behind_count 0 octet
place_behind framing Line octet = behind_line octet
place_behind framing (Count count) octet = behind_count count octet
place_behind framing (Record left) octet = behind_record left
place_behind framing Lost octet = Lost

-- the place behind the first so many octets
abbrev pub place_at : Framing → Place → List ℕ → ℕ → Place
place_at framing start octets zero = start
place_at framing start octets (suc n) = place_behind framing (place_at framing start octets n) (slice_index octets n)

-- how many frames begin in the first so many octets
abbrev pub begun : Framing → Place → List ℕ → ℕ → ℕ
begun framing start octets zero = 0
begun framing start octets (suc n) =
    begun framing start octets n + (if is_between (place_at framing start octets n) then 1 else 0)

-- of the first octets, those before the first frame for which there is no room
pub record IsBegun (framing : Framing) (start : Place) (octets : List ℕ) (len room : ℕ) (front : Begun) : Type 0 where
  pub within : front.len ≤ len
  pub frames : front.frames ≡ begun framing start octets front.len
  pub place : front.place ≡ place_at framing start octets front.len
  pub few : front.frames ≤ room
  pub full : (front.len ≡ len) ⊎ ((front.frames ≡ room) × (is_between front.place ≡ true))

-- where a connection is, by its number
abbrev pub place_in : List Place → ℕ → Place
place_in places n = slice_index_or places n Between

-- no more frames begin in what a read gives than there is room for
abbrev pub ReadsFew : Framing → Place → ℕ → List ℕ → Reading → Type 0
ReadsFew framing start room octets (reading.Piece len) = begun framing start octets len ≤ room
ReadsFew framing start room octets (reading.Ended end) = Unit {0}
ReadsFew framing start room octets reading.Dry = Unit {0}
ReadsFew framing start room octets reading.Again = Unit {0}
