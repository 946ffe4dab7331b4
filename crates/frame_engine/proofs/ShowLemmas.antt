-- The lines of a record, from its parts.
use Rattle.std.proofs.Common.{◌≡◌, ℕ, ℤ, List, Bool, true, false, Option, refl, ap}
use Rattle.std.specs.Prelude.{◌↔◌, IsTrue, if◌then◌else◌}
use Rattle.std.specs.List.{flat_map}
use Rattle.octet_language.specs.Language.{Only, ◌⋅◌}
use Rattle.syslog_value.specs.Parts.{AnyOctets, ElementParts, MessageParts, Parts, Utf8Text}
use Rattle.syslog_value.specs.Messages.{HasMark, message_octets}
use Rattle.frame_engine.specs.Showing.{PriorityLine, RecordLines, TimeLine, element_lines, message_line, number_line}
use Rattle.frame_engine.specs.Showing.{word_lines}

pub same_message : (m : MessageParts) (octets : List ℕ) (has_mark : Bool) → octets ≡ message_octets m
    → (IsTrue has_mark ↔ HasMark m) → (if has_mark then Utf8Text octets else AnyOctets octets) ≡ m
same_message (AnyOctets x) octets true e h = absurd (h.0 refl)
same_message (AnyOctets x) octets false e h = ap AnyOctets e
same_message (Utf8Text x) octets true e h = ap Utf8Text e
same_message (Utf8Text x) octets false e h = let w : false ≡ true = h.1 tt in absurd cc

pub same_lines : (n p : ℕ) (r : Parts ℤ) (t : Option ℤ) (es : List ElementParts) (m : MessageParts) → p ≡ r.priority
    → t ≡ r.time → es ≡ r.elements → m ≡ r.message → (b : List ℕ)
    → (Only (number_line n) ⋅ PriorityLine p ⋅ TimeLine t ⋅ Only (word_lines r) ⋅ Only (flat_map element_lines es) ⋅
    Only (message_line m)) b → RecordLines n r b
unfolding RecordLines
same_lines n p r t es m e f g h b w = rw (e, f, g, h) at w
