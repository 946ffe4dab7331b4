-- The instant of a word that is a timestamp.
use Rattle.std.proofs.Common.{inl, inr}
use Rattle.std.specs.Prelude.{ℤ, pos, neg_ℤ, ◌&&◌, ◌++◌, [], Option, Some, None, codes, if◌then◌else◌}
use Rattle.std.specs.Option.{option_or}
use Rattle.std.specs.Int.Signed.{le_z}
use Rattle.clap.specs.Walk.{Text}
use Rattle.octet_language.specs.Language.{AnyOf}
use Rattle.syslog_fields.specs.Time.{TimeText, instant}
use Rattle.option_values.specs.TimeDecision.{Decided, decided}

-- the instant, where it is in the years from 0 to 9999
abbrev pub in_range : ℤ → Option ℤ
in_range i =
    if le_z (neg_ℤ (pos 62_167_219_200_000_000)) i && le_z i (pos 253_402_300_799_999_999) then Some i else None

abbrev pub instant_where : (text : Text) → Decided (AnyOf TimeText text) → Option ℤ
instant_where text (inl (t, spelled)) = in_range (instant t)
instant_where text (inr not_spelled) = None

-- the instant of the timestamp (RFC 5424, 6.2.3, but for NILVALUE) that the text is, where it is one and in range
unfoldable pub time_in : Text → Option ℤ
time_in text = instant_where text (decided text)

-- the same for a text that leaves out the last octets of a timestamp: the zone, which is UTC then, and before it the
-- seconds or the time of day
abbrev pub asked_time : Text → Option ℤ
asked_time text =
    option_or (option_or (option_or (time_in (text ++ [])) (time_in (text ++ codes "Z"))) (time_in (text ++ codes ":00Z")))
    (time_in (text ++ codes "T00:00:00Z"))
