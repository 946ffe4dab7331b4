-- What is counted, by the values of the options of `count`.
use Rattle.std.specs.Prelude.{◌==◌, Bool, true, false, List, [], Option, Some, None, codes, map, if◌then◌else◌}
use Rattle.std.specs.List.{slice_split}
use Rattle.std.specs.Str.{bytes_eq}
use Rattle.clap.specs.Walk.{Row, Text, first_of}
use Rattle.option_values.specs.Values.{all_given}
use Rattle.archive_counts.specs.declared.options.CountForm.{CountForm}
use Rattle.archive_counts.specs.declared.options.CountForm.TheVariants as form
use Rattle.archive_counts.specs.declared.key.CountKey.{CountKey}
use Rattle.archive_counts.specs.declared.key.CountKey.TheVariants as key

-- the key with this name
abbrev pub key_of : Text → Option CountKey
key_of name =
    if bytes_eq name (codes "host") then Some key.Host
    else (if bytes_eq name (codes "app") then Some key.App
    else (if bytes_eq name (codes "proc") then Some key.Proc
    else (if bytes_eq name (codes "msgid") then Some key.Msgid
    else (if bytes_eq name (codes "facility") then Some key.Facility
    else (if bytes_eq name (codes "severity") then Some key.Severity
    else (if bytes_eq name (codes "day") then Some key.Day
    else (if bytes_eq name (codes "hour") then Some key.Hour
    else (if bytes_eq name (codes "minute") then Some key.Minute else None))))))))

-- the keys that a text names, with commas between them
abbrev pub keys_of : Text → Option (List CountKey)
keys_of text = all_given (map key_of (slice_split (λ b. b == 44) text))

-- the same of a text that may be given: none where it is not
abbrev pub keys_where : Option Text → Option (List CountKey)
keys_where None = Some []
keys_where (Some text) = keys_of text

-- the value of `--by`
abbrev pub keys_in : List Row → Option (List CountKey)
keys_in rows = keys_where (first_of (codes "by") rows)

-- how counts are written: both flags are refused
abbrev pub form_by : Bool → Bool → Option CountForm
form_by true true = None
form_by true false = Some form.Json
form_by false true = Some (form.Bars 80)
form_by false false = Some form.Lines
