-- What `reconcile` and `answer` do, by the values of their options.
use Rattle.std.specs.Prelude.{ℕ, Bool, true, false, List, Option, codes, option_and_then, option_map}
use Rattle.clap.specs.Walk.{Row, first_of}
use Rattle.archive_sets.specs.declared.range.InRange.{InRange}
use Rattle.option_values.specs.Numbers.{number_in}
use Rattle.option_values.specs.Times.{asked_time}
use Rattle.option_values.specs.Values.{is_given_in, optional}
use Rattle.command_line.specs.declared.request.AnswerWords.{AnswerWords}
use Rattle.command_line.specs.declared.request.ReconcileWay.{ReconcileWay}
use Rattle.command_line.specs.declared.request.ReconcileWay.TheVariants.{Both, Pull, Push}
use Rattle.command_line.specs.declared.request.ReconcileWords.{ReconcileWords}

-- this store gets what it lacks
abbrev pub pulls : ReconcileWay → Bool
pulls Both = true
pulls Pull = true
pulls Push = false

-- the other store gets what it lacks
abbrev pub pushes : ReconcileWay → Bool
pushes Both = true
pushes Pull = false
pushes Push = true

-- the way by `--pull` and `--push`: both of them say no more than neither
abbrev pub way_by : Bool → Bool → ReconcileWay
way_by true false = Pull
way_by false true = Push
way_by true true = Both
way_by false false = Both

-- the values of the options of a range
abbrev pub range_in : List Row → Option InRange
range_in rows =
    option_and_then (λ from. option_map (λ to. record {
      from = from;
      to = to;
      undated = is_given_in (codes "undated") rows;
    }) (optional asked_time (first_of (codes "to") rows))) (optional asked_time (first_of (codes "from") rows))

-- how many MiB are taken
abbrev pub room_in : List Row → Option ℕ
room_in rows = option_and_then (number_in 1 1_048_576) (first_of (codes "room") rows)

-- how many seconds are waited
abbrev pub timeout_in : List Row → Option ℕ
timeout_in rows = option_and_then (number_in 1 86_400) (first_of (codes "timeout") rows)

-- all values of `reconcile`
abbrev pub reconcile_in : List Row → Option ReconcileWords
reconcile_in rows =
    option_and_then (λ range. option_and_then (λ room. option_map (λ timeout. record {
      range = range;
      way = way_by (is_given_in (codes "pull") rows) (is_given_in (codes "push") rows);
      dry_run = is_given_in (codes "dry-run") rows;
      room_mib = room;
      timeout_seconds = timeout;
    }) (timeout_in rows)) (room_in rows)) (range_in rows)

-- all values of `answer`
abbrev pub answer_in : List Row → Option AnswerWords
answer_in rows =
    option_and_then (λ room. option_map (λ timeout. record {
      read_only = is_given_in (codes "read-only") rows;
      room_mib = room;
      timeout_seconds = timeout;
    }) (timeout_in rows)) (room_in rows)
