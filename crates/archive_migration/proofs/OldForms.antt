-- Records whose elements are in any order, and their new forms.
use Rattle.std.proofs.Common.{◌≡◌, ℕ, ◌∙◌, refl, sym, subst, List}
use Rattle.std.specs.Prelude.{ℤ}
use Rattle.std.specs.List.Sorted.{IsPermutation}
use Rattle.syslog_value.specs.Parts.{IsRecord, Parts}
use Rattle.syslog_fields.specs.Canonical.{Canonical}
use Rattle.syslog_grammar.specs.Unsorted.{IsUnsortedRecord}
use Rattle.syslog_reading.specs.ViewParts.{IsViewOf, ViewParts}
use Rattle.syslog_reading.specs.WellFormed.{WellFormed}
use Rattle.syslog_reading.proofs.ById.{distinct_by_id, sorted}
use Rattle.syslog_grammar.proofs.CanonicalParses.{canonical_spelled, record_parts, timed}
use Rattle.syslog_reading.proofs.Laws.{same_parts}
use Rattle.archive_text.specs.Entries.{Entry, IsEntryOf}
use Rattle.archive_text.proofs.Orders.{same_entry}
use Rattle.archive_migration.specs.Migration.{IsNewForm}
use Rattle.archive_migration.specs.OldEntries.{IsOldEntry, IsOldEntryOf}
use Rattle.syslog_value.specs.EqualityLaws.{same_record}

-- ---- the new form is what the octets are

-- the old octets are the new form
pub new_form_well_formed : (r q : Parts ℤ) (b : List ℕ) → IsUnsortedRecord r → Canonical r b → IsNewForm r q
    → WellFormed q b
new_form_well_formed r q b valid h new =
    let s = canonical_spelled r b valid.0 h in (
      timed r s.time,
      s.text,
      s.range,
      valid.1,
      record {
        priority = new.priority;
        time = new.time ∙ s.same;
        hostname = new.hostname;
        app_name = new.app_name;
        proc_id = new.proc_id;
        msg_id = new.msg_id;
        elements = new.elements;
        by_id = new.by_id;
        message = new.message;
      },
    )

-- and what they are is the new form
pub well_formed_new_form : (r q : Parts ℤ) (b : List ℕ) → IsUnsortedRecord r → Canonical r b → WellFormed q b
    → IsNewForm r q
well_formed_new_form r q b valid h (p, text, range, distinct, m) =
    let s = canonical_spelled r b valid.0 h in
    let same = same_parts (timed r s.time) p b s.text text in
    record {
      priority = m.priority ∙ sym same.header.priority;
      time = m.time ∙ sym same.header.time ∙ sym s.same;
      hostname = m.hostname ∙ sym same.header.hostname;
      app_name = m.app_name ∙ sym same.header.app_name;
      proc_id = m.proc_id ∙ sym same.header.proc_id;
      msg_id = m.msg_id ∙ sym same.header.msg_id;
      elements = subst (λ es. IsPermutation es q.elements) (sym same.elements) m.elements;
      by_id = m.by_id;
      message = m.message ∙ sym same.message;
    }

-- each such record has a new form
pub new_form_of : (r : Parts ℤ) → IsUnsortedRecord r → (q : Parts ℤ) × IsNewForm r q
new_form_of r valid =
    let order = sorted r.elements valid.1 in (
      record {
        priority = r.priority;
        time = r.time;
        hostname = r.hostname;
        app_name = r.app_name;
        proc_id = r.proc_id;
        msg_id = r.msg_id;
        elements = order.0;
        message = r.message;
      },
      record {
        priority = refl;
        time = refl;
        hostname = refl;
        app_name = refl;
        proc_id = refl;
        msg_id = refl;
        elements = order.1;
        by_id = order.2;
        message = refl;
      },
    )

-- so old octets are well-formed
pub old_well_formed : (r : Parts ℤ) (b : List ℕ) → IsUnsortedRecord r → Canonical r b → (q : Parts ℤ) × WellFormed q b
old_well_formed r b valid h = let new = new_form_of r valid in (new.0, new_form_well_formed r new.0 b valid h new.1)

-- ---- old entries

-- the octets that a view shows, where they are canonical in some order, are an old entry
pub canonical_old_entry : (e : Entry) (s : ViewParts) → IsViewOf e.octets s → e.instant ≡ s.instant
    → (r : Parts ℤ) × IsUnsortedRecord r × Canonical r e.octets → IsOldEntry e
canonical_old_entry e s (p, text, range, distinct, shown) instant (r, valid, canonical) =
    let t = canonical_spelled r e.octets valid.0 canonical in
    let same = same_parts p (timed r t.time) e.octets text t.text in (
      r,
      record {
        valid = valid;
        instant = instant ∙ shown.instant ∙ same.header.time ∙ sym t.same;
        canonical =
            canonical;
      },
    )

-- old entries with the same octets are one
pub same_old_octets : (e f : Entry) → IsOldEntry e → IsOldEntry f → e.octets ≡ f.octets → e ≡ f
same_old_octets e f (r, h) (q, k) same =
    let s = canonical_spelled r f.octets h.valid.0 (subst (Canonical r) same h.canonical) in
    let t = canonical_spelled q f.octets k.valid.0 k.canonical in
    let parts = same_parts (timed r s.time) (timed q t.time) f.octets s.text t.text in
    same_entry e f (h.instant ∙ s.same ∙ parts.header.time ∙ sym t.same ∙ sym k.instant) same

-- one record has an old entry
pub same_old_record : (r q : Parts ℤ) (e : Entry) → IsOldEntryOf r e → IsOldEntryOf q e → r ≡ q
same_old_record r q e h k =
    let s = canonical_spelled r e.octets h.valid.0 h.canonical in
    let t = canonical_spelled q e.octets k.valid.0 k.canonical in
    let same = same_parts (timed r s.time) (timed q t.time) e.octets s.text t.text in
    same_record r q same.header.priority (s.same ∙ same.header.time ∙ sym t.same) same.header.hostname
    same.header.app_name same.header.proc_id same.header.msg_id
    same.elements same.message

-- an entry is an old entry
pub unsorted_record : (r : Parts ℤ) → IsRecord r → IsUnsortedRecord r
unsorted_record r h = (record_parts r h, distinct_by_id r.elements h.by_id)

pub entry_old_entry : (r : Parts ℤ) (e : Entry) → IsEntryOf r e → IsOldEntryOf r e
entry_old_entry r e h = record { valid = unsorted_record r h.valid; instant = h.instant; canonical = h.canonical }
