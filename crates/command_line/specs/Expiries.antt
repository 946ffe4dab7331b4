-- What `expire` removes, by the values of its options.
use Rattle.std.specs.Prelude.{ℕ, ℤ, List, Option, Some, None, codes, option_and_then, option_map}
use Rattle.clap.specs.Walk.{Row, first_of}
use Rattle.option_values.specs.Numbers.{number_in}
use Rattle.option_values.specs.Times.{asked_time}
use Rattle.option_values.specs.Values.{is_given_in, optional}
use Rattle.command_line.specs.declared.request.ExpireBound.{ExpireBound}
use Rattle.command_line.specs.declared.request.ExpireBound.TheVariants.{Before, Keep, Room}
use Rattle.command_line.specs.declared.request.ExpireWords.{ExpireWords}

-- how old the records are: exactly one of three options says so
abbrev pub bound_by : Option ℤ → Option ℕ → Option ℕ → Option ExpireBound
bound_by None None None = None
bound_by (Some time) None None = Some (Before time)
bound_by None (Some days) None = Some (Keep days)
bound_by None None (Some mib) = Some (Room mib)
bound_by (Some time) (Some days) room = None
bound_by (Some time) None (Some mib) = None
bound_by None (Some days) (Some mib) = None

-- the value of `--room`
abbrev pub expire_room_in : List Row → Option (Option ℕ)
expire_room_in rows = optional (number_in 1 16_777_216) (first_of (codes "room") rows)

-- the values of `--before`, `--keep` and `--room`
abbrev pub bound_in : List Row → Option ExpireBound
bound_in rows =
    option_and_then (λ before. option_and_then (λ days. option_and_then (λ room. bound_by before days room)
    (expire_room_in rows)) (optional (number_in 1 36_500) (first_of (codes "keep") rows)))
    (optional asked_time (first_of (codes "before") rows))

-- all values
abbrev pub expire_in : List Row → Option ExpireWords
expire_in rows =
    option_map (λ bound. record {
      bound = bound;
      undated = is_given_in (codes "undated") rows;
      dry_run = is_given_in (codes "dry-run") rows;
    }) (bound_in rows)
