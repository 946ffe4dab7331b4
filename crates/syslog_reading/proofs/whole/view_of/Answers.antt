use Rattle.std.proofs.Common.{◌+◌, ◌-◌, length}
use Rattle.syslog_reading.specs.Fields.{header_parts}
use Rattle.syslog_reading.specs.declared.fault.Fault.TheVariants.{InstantRange, RepeatedId}
use Rattle.syslog_reading.proofs.Excluded.{no_record}
use Rattle.syslog_reading.proofs.Viewing.{header_priority, out_of_range, repeated_id, valid_micros, view_of}
use Rattle.syslog_reading.proofs.RecordsOf.{some_record}
use Rattle.syslog_reading.proofs.whole.view_of.Goals as goal

pub returns-in-Err : goal.returns-in-Err
returns-in-Err c =
    let b = c.args.octets.now in
    let s = c.args.spelling in
    let h = out_of_range b s c.requires c.in-Err.ensures in
    record { some = tt; whole = h; none = no_record b (InstantRange (length b - s.fields.time_remaining)) h; time = tt }

pub returns-in-Some : goal.returns-in-Some
returns-in-Some c =
    let b = c.args.octets.now in
    let s = c.args.spelling in
    let h = repeated_id b s c.in-Ok.micros c.in-Some.offset c.requires c.in-Ok.ensures.0 c.in-Ok.ensures.1
    c.in-Some.ensures in
    record {
      some = tt;
      whole = h;
      none = no_record b
          (RepeatedId (length b - s.structured_data_remaining + c.in-Some.offset)) h;
      time = tt;
    }

pub invariant_of-result : goal.invariant_of-result
invariant_of-result c = record {
  priority_valid = header_priority (header_parts c.args.spelling.fields) c.requires.fields.0
      c.requires.fields.2;
  micros_valid = valid_micros c.in-Ok.micros c.in-Ok.ensures.1;
  forms = ∣ c.requires.forms ∣₁;
  shown = ∣ (
    c.args.octets.now,
    view_of c.args.octets.now c.args.spelling c.in-Ok.micros
        c.requires c.in-Ok.ensures.0 c.in-Ok.ensures.1 c.in_default.ensures,
  ) ∣₁;
}

pub repeated_id-requires-clause-differ : goal.repeated_id-requires-clause-differ
repeated_id-requires-clause-differ c = c.requires.differ

pub returns-clause-whole : goal.returns-clause-whole
returns-clause-whole c = view_of c.args.octets.now c.args.spelling c.in-Ok.micros c.requires
    c.in-Ok.ensures.0 c.in-Ok.ensures.1 c.in_default.ensures

pub returns-clause-some : goal.returns-clause-some
returns-clause-some c = some_record _ _ (returns-clause-whole c)
