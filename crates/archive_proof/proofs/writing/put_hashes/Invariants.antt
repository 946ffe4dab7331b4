use Rattle.std.proofs.Common.{◌≡◌, ◌++◌, take}
use Rattle.std.specs.List.{flat_map}
use Rattle.archive_proof.specs.Texts.{hash_line}
use Rattle.archive_proof.proofs.writing.put_hashes.Given as goal

abbrev pub invariant-loop-hash : goal.invariant-loop-hash
invariant-loop-hash l = l.text.items ≡ l.fn.text.items ++ flat_map hash_line (take l.hash-index l.hashes)
