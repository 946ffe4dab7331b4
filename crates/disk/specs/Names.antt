-- Names of files.
use Rattle.std.specs.Prelude.{◌≢◌, ℕ, ◌<◌, ◌≤◌, All, List, length, codes}

-- an octet that a name may have: neither NUL nor the slash
abbrev pub IsNameOctet : ℕ → Type 0
IsNameOctet octet = (octet ≢ 47) × (octet ≢ 0)

pub record IsFileName (octets : List ℕ) : Type 0 where
  pub some : 0 < length octets
  pub short : length octets ≤ 255
  pub no_dot : octets ≢ codes "."
  pub no_dots : octets ≢ codes ".."
  pub each : All IsNameOctet octets
