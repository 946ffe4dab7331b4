use Rattle.std.proofs.Common.{◌≡◌, drop}
use Rattle.crc32c.specs.Castagnoli.{after_octets}
use Rattle.crc32c.proofs.after_octets.Given as goal

-- the octets that are left lead where all of them do
abbrev pub invariant-loop-octet : goal.invariant-loop-octet
invariant-loop-octet l = after_octets l.after (drop l.octet-index l.octets) ≡ after_octets l.fn.register l.octets
