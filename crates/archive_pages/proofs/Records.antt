-- The entry of a record that is added.
use Rattle.std.proofs.Common.{ℕ, ◌<◌, List, length, subst}
use Rattle.std.specs.Prelude.{ℤ, ◌↔◌, IsTrue, Bool}
use Rattle.syslog_value.specs.Parts.{Parts}
use Rattle.syslog_fields.specs.Canonical.{Canonical}
use Rattle.syslog_grammar.proofs.CanonicalParses.{canonical_once}
use Rattle.archive_text.specs.Entries.{Entry, Has, IsEntryOf}
use Rattle.archive_text.specs.declared.limits.TheConstants.{ENTRY_MAX}
use Rattle.archive_text.proofs.Texts.{one_entry_of}

-- whether it is held
pub held_alike : (r : Parts ℤ) (es : List Entry) (a : Entry) (held : Bool) → IsEntryOf r a → IsTrue held ↔ Has es a
    → (e : Entry) → IsEntryOf r e → IsTrue held ↔ Has es e
held_alike r es a held h same e k = subst (λ (x : Entry). IsTrue held ↔ Has es x) (one_entry_of r a e h k) same

pub too_long : (r : Parts ℤ) (octets : List ℕ) → Canonical r octets → ENTRY_MAX < length octets → (e : Entry)
    → IsEntryOf r e → ENTRY_MAX < length e.octets
too_long r octets canonical long e h = subst (λ (b : List ℕ). ENTRY_MAX < length b)
    (canonical_once r octets e.octets canonical h.canonical) long
