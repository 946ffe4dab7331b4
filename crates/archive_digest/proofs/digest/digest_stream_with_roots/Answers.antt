use Rattle.std.proofs.Common.{[], refl}
use Rattle.archive_digest.proofs.digest.digest_stream_with_roots.Goals as goal

pub returns-in_default-clause-outcome : goal.returns-in_default-clause-outcome
returns-in_default-clause-outcome g c =
    record { xs = []; parts = []; read = tt; divided = record { each = tt; all = refl }; written = tt }
