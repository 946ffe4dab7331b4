-- Folders that hold the same set.
use Rattle.std.proofs.Common.{◌≡◌, ℕ, List, [], Some, sym, ap, ◌∙◌}
use Rattle.std.specs.Prelude.{◌↔◌}
use Rattle.disk.specs.States.{Files}
use Rattle.archive_text.specs.Entries.{Entry}
use Rattle.archive_text.specs.Text.{text_of}
use Rattle.archive_text.proofs.Ascending.{same_members}
use Rattle.archive_sets.specs.declared.range.InRange.{InRange}
use Rattle.record_store.specs.Holdings.{Held}
use Rattle.store_reading.specs.Sets.{IsSetOf, WritesSet}

pub same_set : (files other : Files) (range : InRange) (es fs : List Entry)
    → ((e : Entry) → Held files e ↔ Held other e)
    → IsSetOf files range es → IsSetOf other range fs → es ≡ fs
same_set files other range es fs same h k = same_members es fs h.ascending k.ascending
    (λ e has. let m = (h.members e).0 has in (k.members e).1 ((same e).0 m.0, m.1))
    (λ e has. let m = (k.members e).0 has in (h.members e).1 ((same e).1 m.0, m.1))

pub same_octets : (files other : Files) (range : InRange) (one two : List ℕ)
    → ((e : Entry) → Held files e ↔ Held other e)
    → WritesSet files range (Some []) (Some one) → WritesSet other range (Some []) (Some two) → one ≡ two
same_octets files other range one two same h k =
    h.written ∙ ap text_of (same_set files other range h.entries k.entries same h.set k.set) ∙ sym k.written
