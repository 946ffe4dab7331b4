-- The lines of a ledger: N SP TIME SP WHAT SP NAME SP COUNT SP OCTETS [SP ..] SP CHAIN.
use Rattle.std.specs.Prelude.{ℕ, List, ⊤, codes, decimal}
use Rattle.hex.specs.Hex.{encode_lower}
use Rattle.sha2.specs.Sha256.{sha256}
use Rattle.ledger.specs.Words.{IsHash, IsNumber, IsWord, word_and}
use Rattle.ledger.specs.declared.body.TheConstants.{NAME_MAX, TIME_MAX}
use Rattle.ledger.specs.declared.entry.Event.{Event}
use Rattle.ledger.specs.declared.entry.Event.TheVariants.{Added, Joined, Gone, Sealed}
use Rattle.ledger.specs.declared.entry.LedgerEntry.{LedgerEntry}
use Rattle.ledger.specs.declared.entry.Removal.{Removal}
use Rattle.ledger.specs.declared.entry.Removal.TheVariants.{Joined as JoinedInto, Expired}

-- what a line says of a segment
pub record Said : Type 0 where
  pub event : Event
  pub name : List ℕ
  pub count : ℕ
  pub octets : ℕ

-- what an entry says
abbrev pub said_of : LedgerEntry → Said
said_of e = record { event = e.event; name = e.name.now; count = e.count; octets = e.octets }

-- "expired", or "joined" SP M
abbrev pub removal_text : Removal → List ℕ
removal_text Expired = codes "expired"
removal_text (JoinedInto line) = word_and (codes "joined") (decimal line)

-- WHAT
abbrev pub what_word : Event → List ℕ
what_word Added = codes "add"
what_word Joined = codes "join"
what_word (Gone removal) = codes "gone"
what_word (Sealed root) = codes "seal"

-- OCTETS, and what stands behind it
abbrev pub octets_text : Event → ℕ → List ℕ
octets_text Added octets = decimal octets
octets_text Joined octets = decimal octets
octets_text (Gone removal) octets = word_and (decimal octets) (removal_text removal)
octets_text (Sealed root) octets = word_and (decimal octets) root

-- WHAT SP NAME SP COUNT SP OCTETS [SP ..]
abbrev pub said_text : Said → List ℕ
said_text s = word_and (what_word s.event) (word_and s.name (word_and (decimal s.count) (octets_text s.event s.octets)))

-- a line up to the space before its chain
abbrev pub body_text : ℕ → List ℕ → Said → List ℕ
body_text number time s = word_and (decimal number) (word_and time (said_text s))

-- the SHA-256 of the chain before, a space and the line up to the space before its chain, in hexadecimal
abbrev pub chain_behind : List ℕ → List ℕ → List ℕ
chain_behind before body = encode_lower (sha256 (word_and before body))

-- a line, without its line feed, behind a line that ends with a chain
abbrev pub line_text : List ℕ → ℕ → List ℕ → Said → List ℕ
line_text before number time s =
    let body = body_text number time s in word_and body (chain_behind before body)

-- numbers of 64 bits, and a root of 64 digits
abbrev pub IsRemoval : Removal → Type 0
IsRemoval Expired = ⊤
IsRemoval (JoinedInto line) = IsNumber line

abbrev pub IsRoot : Event → Type 0
IsRoot (Sealed root) = IsHash root
IsRoot event = ⊤

abbrev pub IsEvent : Event → Type 0
IsEvent (Gone removal) = IsRemoval removal
IsEvent event = IsRoot event

-- its numbers have 64 bits
abbrev pub HasLineNumber : Event → Type 0
HasLineNumber (Gone removal) = IsRemoval removal
HasLineNumber event = ⊤

pub record HasNumbers (s : Said) : Type 0 where
  pub event : HasLineNumber s.event
  pub count : IsNumber s.count
  pub octets : IsNumber s.octets

-- the time and the name are words, and the root is one
pub record IsWorded (time : List ℕ) (s : Said) : Type 0 where
  pub root : IsRoot s.event
  pub time_word : IsWord TIME_MAX time
  pub name_word : IsWord NAME_MAX s.name

-- what a line can say
pub record IsSaid (s : Said) : Type 0 where
  pub event : IsEvent s.event
  pub name : IsWord NAME_MAX s.name
  pub count : IsNumber s.count
  pub octets : IsNumber s.octets

pub record IsLine (number : ℕ) (time : List ℕ) (s : Said) : Type 0 where
  pub number_fits : IsNumber number
  pub time_word : IsWord TIME_MAX time
  pub said : IsSaid s
