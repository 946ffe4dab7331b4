-- The length before a counted record (RFC 6587, 3.4.1).
use Rattle.std.specs.Prelude.{◌≡◌, ℕ, ◌<◌, ◌≤◌, List, [], ◌∷◌, ◌++◌, length, take, decimal}
use Rattle.octet_language.specs.Language.{Language, AnyOf, Begins, IsFaultOffset, NoPrefix}
use Rattle.syslog_frame.specs.declared.count.MsgLen.{MsgLen as Answer}
use Rattle.syslog_frame.specs.declared.count.MsgLen.TheVariants.{Whole, Part, Bad}
use Rattle.syslog_frame.specs.declared.limits.TheConstants.{COUNT_MAX}

-- a length and the space after it
abbrev pub MsgLen : ℕ → Language
MsgLen count b = (0 < count) × (count ≤ COUNT_MAX) × (b ≡ decimal count ++ 32 ∷ [])

-- the length that comes first; or the octets begin one; or the offset where every length stops
abbrev pub IsMsgLen : List ℕ → Answer → Type 0
IsMsgLen octets (Whole count used) = (used ≤ length octets) × MsgLen count (take used octets)
IsMsgLen octets Part = NoPrefix (AnyOf MsgLen) octets × Begins (AnyOf MsgLen) octets
IsMsgLen octets (Bad at) =
    NoPrefix (AnyOf MsgLen) octets × ¬ (Begins (AnyOf MsgLen) octets) × IsFaultOffset (AnyOf MsgLen) octets at
