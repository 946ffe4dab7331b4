-- The text of an archive.
use Rattle.std.specs.Prelude.{◌≡◌, ℕ, ◌≤◌, List, ◌++◌, length}
use Rattle.std.specs.List.{AllByRecursion, flat_map}
use Rattle.syslog_frame.specs.Frames.{CanCarry, framed}
use Rattle.syslog_frame.specs.declared.framing.Framing.TheVariants.{Counted}
use Rattle.archive_text.specs.Entries.{Entry, IsAscending, IsEntry}

-- the length, a space and the octets of an entry (RFC 6587, 3.4.1)
abbrev pub entry_text : Entry → List ℕ
entry_text e = framed Counted e.octets

-- one entry behind the other
abbrev pub text_of : List Entry → List ℕ
text_of es = flat_map entry_text es

-- strictly ascending entries of records, each of at most so many octets
pub record IsArchive (most : ℕ) (es : List Entry) : Type 0 where
  pub ascending : IsAscending es
  pub entries : AllByRecursion IsEntry es
  pub fits : AllByRecursion (λ e. length e.octets ≤ most) es

-- the text begins with this entry, and so it goes on
pub record BeginsWithEntry (most : ℕ) (text : List ℕ) (e : Entry) (rest : List ℕ) : Type 0 where
  pub entry : IsEntry e
  pub fits : length e.octets ≤ most
  pub carries : CanCarry Counted e.octets
  pub parts : text ≡ entry_text e ++ rest
