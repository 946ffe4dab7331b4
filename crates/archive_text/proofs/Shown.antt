-- The entry of the record that a view shows.
use Rattle.std.proofs.Common.{◌≡◌, ℕ, ◌<◌, List, [], length, sym, ◌∙◌, subst}
use Rattle.std.specs.Prelude.{ℤ, false, Err, Ok, OnOk, Option, Result}
use Rattle.std.specs.Result.{is_err}
use Rattle.std.proofs.lemmas.Bool.{false≢true}
use Rattle.syslog_value.specs.Parts.{Parts}
use Rattle.syslog_fields.specs.Canonical.{Canonical}
use Rattle.syslog_reading.specs.ShownParts.{IsViewOf, ViewParts}
use Rattle.syslog_grammar.specs.ShownRecords.{AddsShown}
use Rattle.syslog_reading.specs.WellFormed.{WellFormed}
use Rattle.syslog_grammar.proofs.CanonicalParses.{canonical_once}
use Rattle.syslog_reading.proofs.Laws.{one_meaning}
use Rattle.archive_text.specs.Entries.{Entry, IsEntryOf}
use Rattle.archive_text.specs.Stores.{AddsEntry, AddsRecord}
use Rattle.archive_text.specs.declared.store.Added.{Added}

ok_value : {T E P : Type 0} (r : Result T E) → OnOk r P → is_err r ≡ false → P
ok_value (Ok x) p e = p
ok_value (Err y) p e = absurd (false≢true (sym e))

-- the octets of a vector that was empty
pub shown_alone : {T E : Type 0} (s : ViewParts) (r : Result T E) (was new octets : List ℕ)
    → OnOk r (AddsShown s was new) → is_err r ≡ false → was ≡ [] → octets ≡ new → AddsShown s [] octets
shown_alone s r was new octets adds ok empty same =
    subst (λ (o : List ℕ). AddsShown s [] o) (sym same)
    (subst (λ (o : List ℕ). AddsShown s o new) empty (ok_value r adds ok))

-- the entry of the record that a view shows
pub shown_entry : (s : ViewParts) (scratch : List ℕ) (i : Option ℤ) (h : AddsShown s [] scratch) → i ≡ s.instant
    → IsEntryOf h.shown (record { instant = i; octets = scratch })
shown_entry s scratch i h is = record {
  valid = h.valid;
  instant = is ∙ h.instant;
  canonical =
      subst (Canonical h.shown) (sym h.added) h.canonical;
}

pub shown_added : (s : ViewParts) (scratch b : List ℕ) (i : Option ℤ) (old new : List Entry) (added : Added)
    → AddsShown s [] scratch → i ≡ s.instant → IsViewOf b s
    → AddsEntry (record { instant = i; octets = scratch }) old new added
    → (r : Parts ℤ) × WellFormed r b × AddsRecord r old new added
shown_added s scratch b i old new added h is seen adds =
    (h.shown, h.spelled b seen, (record { instant = i; octets = scratch }, shown_entry s scratch i h is, adds))

pub shown_long : (most : ℕ) (s : ViewParts) (scratch b : List ℕ) → AddsShown s [] scratch → IsViewOf b s
    → most < length scratch → (r : Parts ℤ) (e : Entry) → WellFormed r b → IsEntryOf r e → most < length e.octets
shown_long most s scratch b h seen long r e also is =
    let same : r ≡ h.shown = one_meaning r h.shown b also (h.spelled b seen) in
    let octets : e.octets ≡ scratch = canonical_once h.shown e.octets h.octets
    (subst (λ (p : Parts ℤ). Canonical p e.octets) same is.canonical) h.canonical ∙ sym h.added in
    subst (λ (o : List ℕ). most < length o) (sym octets) long
