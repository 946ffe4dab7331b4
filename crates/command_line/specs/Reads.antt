-- How `read` writes the records of a store, and when records are colored, by the values of options.
use Rattle.std.specs.Prelude.{List, Option, Some, None, codes, if◌then◌else◌, option_and_then, option_map}
use Rattle.std.specs.Str.{bytes_eq}
use Rattle.clap.specs.Walk.{Row, Text, first_of}
use Rattle.option_values.specs.Numbers.{number_in}
use Rattle.option_values.specs.Values.{is_given_in, optional}
use Rattle.command_line.specs.declared.request.ColorWhen.{ColorWhen}
use Rattle.command_line.specs.declared.request.ColorWhen.TheVariants as color
use Rattle.command_line.specs.declared.request.ReadForm.{ReadForm}
use Rattle.command_line.specs.declared.request.ReadForm.TheVariants as form
use Rattle.command_line.specs.declared.request.ReadWords.{ReadWords}

-- when records are colored, by this name
abbrev pub color_of : Text → Option ColorWhen
color_of name =
    if bytes_eq name (codes "auto") then Some color.Auto
    else (if bytes_eq name (codes "always") then Some color.Always
    else (if bytes_eq name (codes "never") then Some color.Never else None))

-- the value of `--color`
abbrev pub color_in : List Row → Option ColorWhen
color_in rows = option_and_then color_of (first_of (codes "color") rows)

-- what is written, by this name
abbrev pub form_of : Text → Option ReadForm
form_of name =
    if bytes_eq name (codes "archive") then Some form.Archive
    else (if bytes_eq name (codes "lines") then Some form.Lines
    else (if bytes_eq name (codes "json") then Some form.Json
    else (if bytes_eq name (codes "show") then Some form.Show else None)))

-- the value of `--as`
abbrev pub form_in : List Row → Option ReadForm
form_in rows = option_and_then form_of (first_of (codes "as") rows)

-- all values but those of conditions
abbrev pub read_words_in : List Row → Option ReadWords
read_words_in rows =
    option_and_then (λ last. option_and_then (λ form. option_map (λ color. record {
      last = last;
      form = form;
      color = color;
      partial = is_given_in (codes "partial") rows;
    }) (color_in rows)) (form_in rows)) (optional (number_in 1 1_000_000) (first_of (codes "last") rows))
