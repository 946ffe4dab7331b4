-- The hash of a head, as words write it.
use Rattle.std.specs.Prelude.{ℕ, List, Option}
use Rattle.std.specs.Result.{result_ok}
use Rattle.clap.specs.Walk.{Text}
use Rattle.hex.specs.Hex.{decode_sized}

-- the 32 octets that 64 hexadecimal digits write
abbrev pub hash_in : Text → Option (List ℕ)
hash_in text = result_ok (decode_sized text 32)
