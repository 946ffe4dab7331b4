use Rattle.archive_laws.proofs.Collected.{union_text}
use Rattle.archive_laws.proofs.Merged.{one_union, union_of_entries, union_of_sets}
use Rattle.archive_laws.proofs.merging.merging_is_union.Goals as goal

pub returns-clause-some : goal.returns-clause-some
returns-clause-some c = union_text

pub returns-clause-one : goal.returns-clause-one
returns-clause-one c = one_union

pub returns-clause-sets : goal.returns-clause-sets
returns-clause-sets c = union_of_sets

pub returns-clause-entries : goal.returns-clause-entries
returns-clause-entries c = union_of_entries
