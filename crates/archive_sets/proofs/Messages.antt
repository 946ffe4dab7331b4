-- A record's message stands in its octets.
use Rattle.std.proofs.Common.{◌≡◌, ◌∙◌, ℕ, List, [], ◌++◌, ap, append_assoc, inl, inr, sym}
use Rattle.std.specs.Prelude.{ℤ}
use Rattle.syslog_value.specs.Parts.{AnyOctets, MessageParts, Parts, Utf8Text}
use Rattle.syslog_fields.specs.Grammar.{Message, MessagePart}
use Rattle.syslog_reading.specs.ViewParts.{octets_of}
use Rattle.syslog_reading.specs.WellFormed.{WellFormed}
use Rattle.octet_patterns.specs.Occurrences.{HasWithin}

-- the octets end with these
abbrev EndsWith : List ℕ → List ℕ → Type 0
EndsWith end b = (front : List ℕ) × (b ≡ front ++ end)

further : (end b front whole : List ℕ) → whole ≡ front ++ b → EndsWith end b → EndsWith end whole
further end b front whole e (more, f) =
    (front ++ more, e ∙ ap (λ (t : List ℕ). front ++ t) f ∙ sym (append_assoc front more end))

message_ends : (m : MessageParts) (b : List ℕ) → Message m b → EndsWith (octets_of m) b
message_ends (AnyOctets octets) b h = ([], h.2)
message_ends (Utf8Text text) b (valid, (x, y, e, mark, same)) = further text y x b e ([], same)

part_ends : (m : MessageParts) (b : List ℕ) → MessagePart m b → EndsWith (octets_of m) b
part_ends m b (inl (is, none)) = ([], none ∙ sym (ap octets_of is))
part_ends m b (inr (x, y, e, space, h)) = further (octets_of m) y x b e (message_ends m y h)

record_ends : (r : Parts ℤ) (b : List ℕ) → WellFormed r b → EndsWith (octets_of r.message) b
record_ends r b (p, (x, y, e, header, (d, t, f, elements, part)), range, distinct, means) =
    let whole = further (octets_of p.message) y x b e (further (octets_of p.message) t d y f (part_ends p.message t part)) in
    (whole.0, whole.1 ∙ ap (λ (m : MessageParts). whole.0 ++ octets_of m) (sym means.message))

-- what the message has, the octets have
pub within_octets : (octets : List ℕ) (r : Parts ℤ) (b : List ℕ) → WellFormed r b
    → HasWithin octets (octets_of r.message) → HasWithin octets b
within_octets octets r b w (before, behind, e) =
    let end = record_ends r b w in
    let front = end.0 in (
      front ++ before,
      behind,
      end.1 ∙ ap (λ (t : List ℕ). front ++ t) e ∙ sym (append_assoc front (before ++ octets) behind)
          ∙ ap (λ (t : List ℕ). t ++ behind) (sym (append_assoc front before octets)),
    )
