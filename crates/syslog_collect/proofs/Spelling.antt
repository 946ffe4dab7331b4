-- The entry of the record that octets spell.
use Rattle.std.proofs.Common.{◌≡◌, ℕ, ◌<◌, ◌≤◌, List, [], ◌∷◌, ◌++◌, length, refl, sym, ◌∙◌, subst, arith}
use Rattle.std.specs.Prelude.{ℤ, Option, Some, None, pos}
use Rattle.octet_language.specs.Language.{Language, ◌⋅◌, Only}
use Rattle.syslog_value.specs.Parts.{Parts}
use Rattle.syslog_value.specs.declared.civil.Civil.{Civil}
use Rattle.syslog_value.specs.Instants.{IsCivil, instant_of}
use Rattle.syslog_fields.specs.Canonical.{Canonical, HeaderForm, SpacedWord, TimeForm, civil_text, message_form}
use Rattle.syslog_fields.specs.Canonical.{priority_version_form, structured_data_form, word_form}
use Rattle.syslog_reading.specs.ViewParts.{IsViewOf, ViewParts}
use Rattle.syslog_reading.specs.WellFormed.{WellFormed}
use Rattle.syslog_grammar.proofs.Bounded.{canonical_bounded}
use Rattle.syslog_reading.proofs.Laws.{same_parts}
use Rattle.syslog_reading.proofs.RecordsOf.{some_record}
use Rattle.syslog_reading.proofs.Valid.{well_formed_valid}
use Rattle.syslog_value.specs.Instants.{IsOffset}
use Rattle.syslog_legacy.specs.Clocks.{IsYear}
use Rattle.syslog_legacy.specs.Readings.{Legacy, ReadAs}
use Rattle.syslog_legacy.specs.declared.clock.LegacyClock.{LegacyClock}
use Rattle.syslog_legacy.proofs.Bounds.{legacy_bounded}
use Rattle.syslog_legacy.proofs.Valid.{read_valid}
use Rattle.syslog_frame.specs.declared.limits.TheConstants.{FRAME_MAX}
use Rattle.archive_text.specs.Entries.{Entry, IsEntryOf}
use Rattle.archive_text.specs.declared.limits.TheConstants.{ENTRY_MAX}
use Rattle.syslog_collect.specs.Outcomes.{HasEntry, HasFittingEntry}

-- texts one after the other
join : (A B : Language) (x y : List ℕ) → A x → B y → (A ⋅ B) (x ++ y)
join A B x y a b = (x, y, refl, a, b)

spaced : (w : Option (List ℕ)) → SpacedWord w (word_form w ++ 32 ∷ [])
spaced w = (word_form w, 32 ∷ [], refl, refl, refl)

header : (r : Parts ℤ) (time : List ℕ) → TimeForm r.time time
    → (h : List ℕ) × HeaderForm r.priority r.time r.hostname r.app_name r.proc_id r.msg_id h
unfolding HeaderForm
header r time t = (
  _,
  join (Only (priority_version_form r.priority)) _ _ _ refl
      (join (TimeForm r.time ⋅ Only (32 ∷ [])) _ _ _ (join (TimeForm r.time) (Only (32 ∷ [])) _ _ t refl)
      (join (SpacedWord r.hostname) _ _ _ (spaced r.hostname)
      (join (SpacedWord r.app_name) _ _ _ (spaced r.app_name)
      (join (SpacedWord r.proc_id) (SpacedWord r.msg_id) _ _ (spaced r.proc_id) (spaced r.msg_id))))),
)

canonical : (r : Parts ℤ) (time : List ℕ) → TimeForm r.time time → (c : List ℕ) × Canonical r c
canonical r time t =
    let h = header r time t in (
      _,
      join (HeaderForm r.priority r.time r.hostname r.app_name r.proc_id r.msg_id) _ _ _ h.1
          (join (Only (structured_data_form r.elements)) (Only (message_form r.message)) _ _ refl refl),
    )

-- octets that a view shows, whose instant can be written, have an entry
has_entry_at : (b : List ℕ) (s : ViewParts) (time : List ℕ) → TimeForm s.instant time → IsViewOf b s → HasEntry b
has_entry_at b s time t view =
    let w = some_record b s view in
    let r = w.0 in
    let same : s.instant ≡ r.time = view.4.instant ∙ sym (same_parts w.1.0 view.0 b w.1.1 view.1).header.time
    ∙ sym w.1.4.time in
    let c = canonical r time (subst (λ i. TimeForm i time) same t) in (
      r,
      record { instant = r.time; octets = c.0 },
      w.1,
      record { valid = well_formed_valid r b w.1; instant = refl; canonical = c.1 },
    )

pub has_entry_without : (b : List ℕ) (s : ViewParts) → s.instant ≡ None → IsViewOf b s → HasEntry b
has_entry_without b s none view = has_entry_at b s (45 ∷ []) (subst (λ i. TimeForm i (45 ∷ [])) (sym none) refl) view

pub has_entry_with : (b : List ℕ) (s : ViewParts) (i : ℤ) (c : Civil) → s.instant ≡ Some i → IsCivil c
    → instant_of c (pos 0) ≡ i → IsViewOf b s → HasEntry b
has_entry_with b s i c is valid value view =
    has_entry_at b s (civil_text c) (subst (λ j. TimeForm j (civil_text c)) (sym is) (c, valid, value, refl)) view

-- the entry of a record of a frame within the limit is within that of an archive
pub fits_archive : (f : List ℕ) (r : Parts ℤ) (e : Entry) → WellFormed r f → IsEntryOf r e → length f ≤ FRAME_MAX
    → ENTRY_MAX < length e.octets → ⊥
fits_archive f r e wf entry le lt = omega (arith, canonical_bounded r f e.octets FRAME_MAX wf entry.canonical le, lt)

-- the record of a legacy packet within the limit has an entry that fits an archive
legacy_entry : (clock : LegacyClock) (r : Parts ℤ) (b time : List ℕ) → IsYear clock.year → IsOffset clock.offset_minutes
    → TimeForm r.time time → Legacy clock (ReadAs r) b → length b ≤ FRAME_MAX
    → HasFittingEntry r
legacy_entry clock r b time year offset t is le =
    let c = canonical r time t in (
      record { instant = r.time; octets = c.0 },
      record { valid = read_valid clock r b year offset is; instant = refl; canonical = c.1 },
      legacy_bounded clock r b c.0 FRAME_MAX ENTRY_MAX is c.1 le (omega arith),
    )

pub legacy_entry_without : (clock : LegacyClock) (r : Parts ℤ) (b : List ℕ) → IsYear clock.year
    → IsOffset clock.offset_minutes → r.time ≡ None → Legacy clock (ReadAs r) b → length b ≤ FRAME_MAX
    → HasFittingEntry r
legacy_entry_without clock r b year offset none is le =
    legacy_entry clock r b (45 ∷ []) year offset (subst (λ i. TimeForm i (45 ∷ [])) (sym none) refl) is le

pub legacy_entry_with : (clock : LegacyClock) (r : Parts ℤ) (b : List ℕ) (i : ℤ) (c : Civil) → IsYear clock.year
    → IsOffset clock.offset_minutes → r.time ≡ Some i → IsCivil c → instant_of c (pos 0) ≡ i
    → Legacy clock (ReadAs r) b → length b ≤ FRAME_MAX → HasFittingEntry r
legacy_entry_with clock r b i c year offset some valid value is le =
    legacy_entry clock r b (civil_text c) year offset
    (subst (λ j. TimeForm j (civil_text c)) (sym some) (c, valid, value, refl)) is le
