-- Which device failed depends on the fault alone.
use Rattle.std.proofs.Common.{ℕ, Some, Err, List}
use Rattle.std.specs.Prelude.{Result}
use Rattle.octet_devices.specs.Device.{InputState, OutputState}
use Rattle.archive_join.specs.Failures.{TellsFailures as JoinTells}
use Rattle.archive_join.specs.declared.fault.JoinFault.{JoinFault}
use Rattle.archive_join.specs.declared.fault.JoinFault.TheVariants as join
use Rattle.archive_sets.specs.Failures.{TellsFailures}
use Rattle.archive_sets.specs.declared.fault.SelectFault.{SelectFault}
use Rattle.archive_sets.specs.declared.fault.SelectFault.TheVariants.{Archive, Read, Endless, Write, Memory}
use Rattle.set_engine.specs.Selecting.{result_of}
use Rattle.set_engine.specs.Combining.{result_of as joined_of}

pub same_told : {X : Type 0} (fault : SelectFault) (d e : InputState) (a b : OutputState)
    → TellsFailures {X = X} (Err fault) d e a b → TellsFailures (result_of (Some fault)) d e a b
same_told (Archive f) d e a b t = record { reader = t.reader; writer = t.writer }
same_told Read d e a b t = record { reader = t.reader; writer = t.writer }
same_told Endless d e a b t = record { reader = t.reader; writer = t.writer }
same_told (Write sent) d e a b t = record { reader = t.reader; writer = t.writer }
same_told Memory d e a b t = record { reader = t.reader; writer = t.writer }

pub same_join_told : {X : Type 0} (fault : JoinFault) (ds es : List InputState) (a b : OutputState)
    → JoinTells {X = X} (Err fault) ds es a b → JoinTells (joined_of (Some fault)) ds es a b
same_join_told (join.Archive input f) ds es a b t = record { readers = t.readers; writer = t.writer }
same_join_told (join.Read input) ds es a b t = record { readers = t.readers; writer = t.writer }
same_join_told (join.Endless input) ds es a b t = record { readers = t.readers; writer = t.writer }
same_join_told (join.Write sent) ds es a b t = record { readers = t.readers; writer = t.writer }
same_join_told join.Memory ds es a b t = record { readers = t.readers; writer = t.writer }
