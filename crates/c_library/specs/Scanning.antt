-- Frames of a stream that comes in pieces; those that are too long are passed over.
use Rattle.std.specs.Prelude.{◌≡◌, ℕ, ℤ, pos, negsuc, ◌+◌, ◌<◌, ◌≤◌, List, [], ◌∷◌, ◌++◌, ◌⊎◌, length, take, decimal}
use Rattle.octet_language.specs.Language.{Begins, IsFaultOffset, NoPrefix}
use Rattle.syslog_frame.specs.Frames.{Frame, IsLine, Whole}
use Rattle.syslog_frame.specs.declared.framing.Framing.{Framing}
use Rattle.syslog_frame.specs.declared.framing.Framing.TheVariants.{Counted, Lf}
use Rattle.syslog_frame.specs.declared.limits.TheConstants.{COUNT_MAX}
use Rattle.c_library.specs.Frames.{IsComplete, framing_number}
use Rattle.c_library.specs.declared.scan.Scanned.{Scanned}
use Rattle.c_library.specs.declared.scan.Scanned.TheVariants as scanned
use Rattle.c_library.specs.declared.scan.SyslogboxFound.{SyslogboxFound}
use Rattle.c_library.specs.declared.scan.SyslogboxScanner.{SyslogboxScanner}

-- these octets are a count that is too large, its space, and a part of the frame, of which so many octets are to come
pub record PassesCounted (longest left : ℕ) (p : List ℕ) : Type 0 where
  pub count : ℕ
  pub octets : List ℕ
  pub small : count ≤ COUNT_MAX
  pub long : longest < count
  pub left_is : length octets + left ≡ count
  pub more : 0 < left
  pub text : p ≡ decimal count ++ 32 ∷ octets

-- the octets of the frame under way that the scanner has passed over: none, or those of a frame that is too long
abbrev pub IsAt : Framing → ℕ → SyslogboxScanner → List ℕ → Type 0
IsAt kind longest s p =
    ((s.inside ≡ 0) × (p ≡ []))
    ⊎ (((s.inside ≡ 1) × (kind ≡ Counted) × PassesCounted longest s.left p)
    ⊎ ((s.inside ≡ 2) × (kind ≡ Lf) × IsLine p × (longest < length p)))

-- the piece begins a frame that may be short enough, and is needed again; or all of it belongs to one that is too long
abbrev pub IsWaiting : Framing → ℕ → List ℕ → List ℕ → ℕ → SyslogboxScanner → Type 0
IsWaiting kind longest p piece used s =
    ((used ≡ 0) × (p ≡ []) × (s.inside ≡ 0) × NoPrefix (Whole kind) piece × Begins (Whole kind) piece)
    ⊎ ((used ≡ length piece) × IsAt kind longest s (p ++ piece))

-- what comes first in a piece, behind octets of the frame that were passed over
abbrev pub IsFound : Framing → ℕ → List ℕ → List ℕ → Scanned → Type 0
IsFound kind longest p piece (scanned.Frame start end used) =
    (p ≡ []) × IsComplete kind piece start end used × (end ≤ start + longest)
IsFound kind longest p piece (scanned.TooLong used) =
    (used ≤ length piece) × (f : List ℕ) × Frame kind f (p ++ take used piece) × (longest < length f)
IsFound kind longest p piece (scanned.Waits used s) = IsWaiting kind longest p piece used s
IsFound kind longest p piece (scanned.Broken at) =
    (p ≡ []) × NoPrefix (Whole kind) piece × ¬ (Begins (Whole kind) piece) × IsFaultOffset (Whole kind) piece at

-- the caller's scanner, and what was found
pub record ScanMemory : Type 0 where
  pub scanner : SyslogboxScanner
  pub found : SyslogboxFound

-- a scanner that passes over nothing
abbrev pub fresh : SyslogboxScanner
fresh = record { inside = 0; left = 0 }

abbrev pub found_at : ℕ → ℕ → ℕ → SyslogboxFound
found_at used start end = record { used = used; start = start; end = end }

-- what is answered, and what is left in the caller's memory
abbrev pub IsTold : Scanned → ScanMemory → ℤ → Type 0
IsTold (scanned.Frame start end used) new answer =
    (answer ≡ pos 1) × (new ≡ record { scanner = fresh; found = found_at used start end })
IsTold (scanned.TooLong used) new answer =
    (answer ≡ pos 2) × (new ≡ record { scanner = fresh; found = found_at used 0 0 })
IsTold (scanned.Waits used s) new answer =
    (answer ≡ pos 0) × (new ≡ record { scanner = s; found = found_at used 0 0 })
IsTold (scanned.Broken at) new answer =
    (answer ≡ negsuc 0) × (new ≡ record { scanner = fresh; found = found_at 0 at at })

-- the framing is one, and this is what comes first, whatever octets the scanner may have passed over; or it is none, the
-- answer is -2, and nothing changes
abbrev pub Scans : ℤ → ℕ → List ℕ → ScanMemory → ScanMemory → ℤ → Type 0
Scans number longest piece old new answer =
    ((kind : Framing) × (number ≡ framing_number kind) × (found : Scanned) × IsTold found new answer
    × ((p : List ℕ) → IsAt kind longest old.scanner p → IsFound kind longest p piece found))
    ⊎ (((kind : Framing) → ¬ (number ≡ framing_number kind)) × (answer ≡ negsuc 1) × (new ≡ old))
