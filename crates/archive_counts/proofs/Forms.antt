-- The text of lines in each form.
use Rattle.std.proofs.Common.{◌≡◌, ℕ, List, [], ◌++◌, ap, subst, sym, ◌∙◌}
use Rattle.syslog_fields.specs.Appending.{Adds}
use Rattle.archive_text.specs.Entries.{Entry}
use Rattle.archive_counts.specs.Bars.{BarsText, Shown}
use Rattle.archive_counts.specs.Counted.{FormOfRows, FormText, HasLines, RowsText}
use Rattle.archive_counts.specs.Lines.{Line, first_of}
use Rattle.archive_counts.specs.Orders.{order_of}
use Rattle.archive_counts.specs.Rows.{AreRanked, AreRowsOf}
use Rattle.archive_counts.specs.Tables.{IsTableOf}
use Rattle.archive_counts.specs.Texts.{AreRowsFor}
use Rattle.archive_counts.specs.declared.key.CountKey.{CountKey}
use Rattle.archive_counts.specs.declared.options.CountForm.{CountForm}
use Rattle.archive_counts.specs.declared.options.CountForm.TheVariants as form
use Rattle.archive_counts.specs.declared.options.CountOptions.{CountOptions}
use Rattle.archive_counts.specs.declared.rows.Row.{Row}
use Rattle.archive_counts.specs.declared.table.Table.{Table}
use Rattle.archive_counts.proofs.Lines.{first_for, lines_from, rows_text}
use Rattle.archive_counts.proofs.Objects.{rows_json}
use Rattle.archive_counts.proofs.Scales.{shown_rows}

form_text : (f : CountForm) (keys : List CountKey) (rows : List Row) (ls : List Line) (text : List ℕ)
    → AreRowsFor keys rows ls → FormOfRows f keys rows text → FormText f keys ls text
form_text form.Lines keys rows ls text h t = rows_text keys rows ls text h t
form_text form.Json keys rows ls text h t = rows_json keys rows ls text h t
form_text (form.Bars columns) keys rows ls text h t =
    subst (λ (xs : List Shown). BarsText columns xs text) (shown_rows keys rows ls h) t

-- the rows of a table in their order, and the text of the first ones
pub has_lines : (options : CountOptions) (t : Table) (xs : List Entry) (rows : List Row) (old text : List ℕ)
    → IsTableOf options.keys.items t xs → AreRowsOf t rows → AreRanked (order_of options) rows → old ≡ []
    → Adds (RowsText options (first_of options.top rows)) old text → HasLines options xs text
has_lines options t xs rows old text h of up none (added, form, e) =
    let keys = options.keys.items in
    let l = lines_from keys (order_of options) t xs rows h of up in
    let is : text ≡ added = e ∙ ap (λ (o : List ℕ). o ++ added) none in
    record {
      lines = l.lines;
      are = l.are;
      form = form_text options.form keys (first_of options.top rows) (first_of options.top l.lines) text
          (first_for keys options.top rows l.lines l.rows_for)
          (subst (RowsText options (first_of options.top rows)) (sym is) form);
    }
