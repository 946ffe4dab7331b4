-- What a call that counts the records of an archive did.
use Rattle.std.specs.Prelude.{◌≡◌, ℕ, ◌<◌, List, Option, length, map, take}
use Rattle.std.specs.Io.KnownBytes.{Appends}
use Rattle.octet_language.specs.Language.{Each, Language}
use Rattle.octet_devices.specs.Device.{InputState}
use Rattle.archive_text.specs.Entries.{Entry}
use Rattle.archive_streams.specs.Entries.{IsWhole}
use Rattle.archive_sets.specs.Selected.{IsReadAt}
use Rattle.archive_sets.specs.declared.fault.SelectFault.{SelectFault}
use Rattle.archive_sets.specs.declared.fault.SelectFault.TheVariants.{Write}
use Rattle.archive_counts.specs.Lines.{AreLinesOf, Line, first_of}
use Rattle.archive_counts.specs.Orders.{order_of}
use Rattle.archive_counts.specs.Texts.{LineText, RowText}
use Rattle.archive_counts.specs.Json.{LineJson, RowJson}
use Rattle.archive_counts.specs.Bars.{BarsText, shown_line, shown_row}
use Rattle.archive_counts.specs.declared.key.CountKey.{CountKey}
use Rattle.archive_counts.specs.declared.options.CountForm.{CountForm}
use Rattle.archive_counts.specs.declared.options.CountForm.TheVariants.{Lines, Json, Bars}
use Rattle.archive_counts.specs.declared.options.CountOptions.{CountOptions}
use Rattle.archive_counts.specs.declared.rows.Row.{Row}

-- lines in the form that is asked for
abbrev pub FormText : CountForm → List CountKey → List Line → Language
FormText Lines keys ls = Each LineText ls
FormText Json keys ls = Each (LineJson keys) ls
FormText (Bars columns) keys ls = BarsText columns (map shown_line ls)

-- the text that the options ask for
abbrev pub TextFor : CountOptions → List Line → Language
TextFor options ls = FormText options.form options.keys.items (first_of options.top ls)

-- the same of rows
abbrev pub FormOfRows : CountForm → List CountKey → List Row → Language
FormOfRows Lines keys rows = Each RowText rows
FormOfRows Json keys rows = Each (RowJson keys) rows
FormOfRows (Bars columns) keys rows = BarsText columns (map shown_row rows)

abbrev pub RowsText : CountOptions → List Row → Language
RowsText options rows = FormOfRows options.form options.keys.items rows

-- the text is that of the lines of these entries
pub record HasLines (options : CountOptions) (xs : List Entry) (text : List ℕ) : Type 0 where
  pub lines : List Line
  pub are : AreLinesOf options.keys.items (order_of options) xs lines
  pub form : TextFor options lines text

-- an archive was read to its end, and the text is that of its lines
pub record IsCountOf (options : CountOptions) (d e : InputState) (text : List ℕ) : Type 0 where
  pub xs : List Entry
  pub whole : IsWhole d e xs
  pub lines : HasLines options xs text

-- the lines were written
pub record Counted (options : CountOptions) (d e : InputState) (taken_old taken_new : Option (List ℕ)) : Type 0 where
  pub text : List ℕ
  pub count : IsCountOf options d e text
  pub written : Appends taken_old taken_new text

-- the writer took so many octets of them, and not all
pub record IsCutAt (options : CountOptions) (sent : ℕ) (d e : InputState) (taken_old taken_new : Option (List ℕ))
    : Type 0 where
  pub text : List ℕ
  pub count : IsCountOf options d e text
  pub some_left : sent < length text
  pub written : Appends taken_old taken_new (take sent text)

-- nothing was written of what was read
pub record IsUnwritten (fault : SelectFault) (d e : InputState) (taken_old taken_new : Option (List ℕ)) : Type 0 where
  pub xs : List Entry
  pub read : IsReadAt fault d e xs
  pub same : taken_new ≡ taken_old

-- a fault stopped it
abbrev pub Stopped : CountOptions → SelectFault → InputState → InputState → Option (List ℕ) → Option (List ℕ) → Type 0
Stopped options (Write sent) d e old new = IsCutAt options sent d e old new
Stopped options fault d e old new = IsUnwritten fault d e old new
