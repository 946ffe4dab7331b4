-- What is added to ascending entries.
use Rattle.std.proofs.Common.{◌≡◌, ℕ, suc, zero, ◌<◌, ◌∙◌, List, [], ◌∷◌, length, take, drop, Some, Result, Ok, Err}
use Rattle.std.proofs.Common.{IfOk, is_ok, sym, subst, inl, inr, take-append-drop}
use Rattle.std.specs.Prelude.{◌↔◌, IsTrue, Bool}
use Rattle.std.specs.List.{insert, slice_get}
use Rattle.std.proofs.lemmas.Bool.{false≢true}
use Rattle.syslog_value.specs.Parts.{IsRecord, Parts}
use Rattle.std.specs.Prelude.{ℤ}
use Rattle.syslog_fields.specs.Canonical.{Canonical}
use Rattle.archive_text.specs.Entries.{Entry, Has, IsEntryOf}
use Rattle.archive_text.specs.Stores.{AddsEntry, AddsRecord}
use Rattle.archive_text.specs.declared.store.Added.{Added}
use Rattle.archive_text.specs.declared.store.Added.TheVariants.{New, Held}
use Rattle.archive_text.proofs.Ascending.{not_between}
use Rattle.archive_text.proofs.Texts.{one_entry_of}
use Rattle.archive_vec.specs.Positions.{IsFound, IsGap}

-- the entry at an index is one of them
pub has_at : (es : List Entry) (e : Entry) (i : ℕ) → slice_get es i ≡ Some e → Has es e
has_at [] e i at = absurd (cc)
has_at (y ∷ es) e zero at = inl (cc)
has_at (y ∷ es) e (suc i) at = inr (has_at es e i at)

-- an entry with a gap to go to is none of them
pub gap_lacks : (es : List Entry) (e : Entry) (i : ℕ) → IsGap es e i → ¬ (Has es e)
gap_lacks es e i gap = subst (λ (l : List Entry). ¬ (Has l e)) (take-append-drop i es)
    (not_between (take i es) (drop i es) e gap.below gap.above)

pub adds_held : (es new : List Entry) (e : Entry) (i : ℕ) → slice_get es i ≡ Some e → new ≡ es → AddsEntry e es new Held
adds_held es new e i at same = (has_at es e i at, same)

pub adds_new : (es new : List Entry) (e : Entry) (i : ℕ) → IsGap es e i → new ≡ insert es i e → AddsEntry e es new New
adds_new es new e i gap is = (gap_lacks es e i gap, (take i es, drop i es, sym (take-append-drop i es), is))

-- the canonical octets of a record are its entry
pub entry_with : (r : Parts ℤ) (e : Entry) → IsRecord r → e.instant ≡ r.time → Canonical r e.octets → IsEntryOf r e
entry_with r e valid instant canonical = record { valid = valid; instant = instant; canonical = canonical }

pub adds_record : {E : Type 0} (result : Result Added E) (r : Parts ℤ) (e : Entry) (old new : List Entry)
    → IsEntryOf r e
    → IfOk result (λ added. AddsEntry e old new added) → IfOk result (λ added. AddsRecord r old new added)
adds_record (Ok added) r e old new entry adds = (e, entry, adds)
adds_record (Err fault) r e old new entry adds = tt

-- the one entry of a record has this length
pub long_for_each : (most : ℕ) (r : Parts ℤ) (e f : Entry) → IsEntryOf r e → most < length e.octets → IsEntryOf r f
    → most < length f.octets
long_for_each most r e f h long k = subst (λ (x : Entry). most < length x.octets) (one_entry_of r e f h k) long

-- whether the one entry of a record is there
pub found_for_each : (es : List Entry) (r : Parts ℤ) (e f : Entry) (found : Result ℕ ℕ) (held : Bool) → IsEntryOf r e
    → IsFound es e found → held ≡ is_ok found → IsEntryOf r f
    → (IsTrue held ↔ Has es f)
found_for_each es r e f (Ok i) held h found is k =
    (λ _. subst (Has es) (one_entry_of r e f h k) (has_at es e i found), λ _. is)
found_for_each es r e f (Err i) held h found is k =
    let none : ¬ (IsTrue held) = λ (t : IsTrue held). false≢true (sym is ∙ t) in
    (λ t. absurd (none t), λ has. absurd (gap_lacks es e i found (subst (Has es) (sym (one_entry_of r e f h k)) has)))
