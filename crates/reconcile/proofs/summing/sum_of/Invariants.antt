use Rattle.std.proofs.Common.{◌≡◌, length, take}
use Rattle.sha2.specs.Hashers.{Holds256}
use Rattle.archive_text.specs.Text.{text_of}
use Rattle.reconcile.proofs.summing.sum_of.Given as goal

abbrev pub invariant-summing : goal.invariant-summing
invariant-summing l = record {
  hashed : Holds256 l.hasher (text_of (take l.entry-index l.entries));
  octets : l.octets ≡ length (text_of (take l.entry-index l.entries));
}
