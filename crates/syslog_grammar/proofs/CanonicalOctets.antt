-- The canonical octets of a record that is canonical behind its timestamp.
use Rattle.std.proofs.Common.{◌≡◌, ℕ, ◌+◌, ◌-◌, ◌≤◌, List, [], ◌∷◌, ◌++◌, length, take, drop, refl, sym, ap, subst, ◌∙◌}
use Rattle.std.proofs.Common.{append_assoc, arith, true}
use Rattle.std.specs.Prelude.{ℤ, pos, Option, None, Some, Result, option_map}
use Rattle.std.proofs.lemmas.List.{length-append, take-append-drop}
use Rattle.std.proofs.Math.Seq.{drop-append_seam, take-add}
use Rattle.octet_language.specs.Language.{Only, ◌⋅◌}
use Rattle.octet_language.specs.Reading.{Follows}
use Rattle.syslog_fields.specs.Appending.{Adds, Puts}
use Rattle.syslog_fields.specs.Canonical.{TimeForm, civil_text}
use Rattle.syslog_fields.specs.Dates.{time_of}
use Rattle.syslog_fields.specs.Grammar.{Nilable, Spaced}
use Rattle.syslog_fields.specs.Time.{CivilTime, TimeText, instant}
use Rattle.syslog_fields.specs.declared.timestamp.Timestamp.{Timestamp}
use Rattle.syslog_fields.proofs.Appends.{puts_as, puts_then}
use Rattle.syslog_reading.specs.CanonicalOctets.{IsInUtc, shown_parts, utc_fraction}
use Rattle.syslog_reading.specs.Parsing.{IsParsed}
use Rattle.syslog_reading.specs.Views.{message_parts}
use Rattle.syslog_reading.specs.WellFormed.{AddsCanonical}
use Rattle.syslog_reading.specs.declared.syntax.Parsed.{Parsed}
use Rattle.syslog_reading.proofs.ById.{distinct_by_id}
use Rattle.syslog_reading.proofs.Headers.{time_follows}
use Rattle.syslog_reading.proofs.Viewing.{time_exists, view_of}
use Rattle.syslog_reading.proofs.InnerTimes.{IsInnerTime, parsed_range}
use Rattle.syslog_grammar.specs.Verbatim.{HasOneMessageForm, VerbatimForm}
use Rattle.syslog_grammar.proofs.CanonicalForms.{prefix_read}
use Rattle.syslog_grammar.proofs.DataForms.{kept_by_id, kept_form}
use Rattle.syslog_grammar.proofs.Rewritten.{record_verbatim}
use Rattle.syslog_grammar.proofs.TimeForms.{TimeSpace}
use Rattle.syslog_grammar.proofs.UtcTimes.{SpacedTime, least_time, most_micros, utc_text}

-- ---- the timestamp

-- the digits of a timestamp in UTC and its fraction, behind what comes before it
in_utc : (t : CivilTime) (octets s more : List ℕ) (at : ℕ) → TimeText t s → drop at octets ≡ s ++ more
    → take (at + 19) octets ++ utc_fraction t.civil.micros ≡ take at octets ++ civil_text t.civil
in_utc t octets s more at h e =
    let ending : List ℕ = utc_fraction t.civil.micros in
    let split : take (at + 19) octets ++ ending ≡ (take at octets ++ take 19 (drop at octets)) ++ ending =
    ap (λ (u : List ℕ). u ++ ending) (take-add at 19 octets) in
    let digits : take 19 (drop at octets) ++ ending ≡ civil_text t.civil =
    ap (λ (u : List ℕ). take 19 u ++ ending) e ∙ utc_text t s more h in
    split ∙ append_assoc (take at octets) (take 19 (drop at octets)) ending
    ∙ ap (λ (u : List ℕ). take at octets ++ u) digits

-- a timestamp in UTC in its canonical form, behind what comes before it
pub utc_front : (time : Timestamp) (octets rest out new : List ℕ) (at : ℕ) (i : Option ℤ) {X E : Type 0}
    → (r : Result X E) → SpacedTime time (drop at octets) rest → time.offset_minutes ≡ pos 0
    → i ≡ Some (instant (time_of time))
    → Puts (Only (take (at + 19) octets ++ utc_fraction time.civil.micros)) out new r
    → Puts (Only (take at octets) ⋅ TimeForm i) out new r
utc_front time octets rest out new at i r (x, e, (s, y, f, h, k)) utc is put =
    let more : drop at octets ≡ s ++ (y ++ rest) =
    e ∙ ap (λ (u : List ℕ). u ++ rest) f ∙ append_assoc s y rest in
    let text : take (at + 19) octets ++ utc_fraction time.civil.micros ≡ take at octets ++ civil_text time.civil =
    in_utc (time_of time) octets s (y ++ rest) at h more in
    let named : instant (time_of time) ≡ instant (record { civil = time.civil; offset = pos 0 }) =
    ap (λ (o : ℤ). instant (record { civil = time.civil; offset = o })) utc in
    let form : TimeForm (Some (instant (time_of time))) (civil_text time.civil) =
    (time.civil, (time_exists (time_of time) s h).0, sym named, refl) in
    puts_as (Only (take (at + 19) octets ++ utc_fraction time.civil.micros)) (Only (take at octets) ⋅ TimeForm i) out new r
    (λ t only. (
      take at octets,
      civil_text time.civil,
      only ∙ text,
      refl,
      subst (λ (o : Option ℤ). TimeForm o (civil_text time.civil)) (sym is) form,
    )) put

-- the same of a time that may be none
pub utc_put : (time : Option Timestamp) (micros : ℕ) (octets rest out new : List ℕ) (at : ℕ) {X E : Type 0}
    → (r : Result X E) → IsInUtc time micros
    → Follows (Spaced (Nilable TimeText (option_map time_of time))) (drop at octets) rest
    → Puts (Only (take (at + 19) octets ++ utc_fraction micros)) out new r
    → Puts (Only (take at octets) ⋅ TimeForm (option_map (λ t. instant (time_of t)) time)) out new r
utc_put None micros octets rest out new at r utc h put = absurd utc
utc_put (Some t) micros octets rest out new at r (utc, is) h put =
    utc_front t octets rest out new at (Some (instant (time_of t))) r h utc refl
    (subst (λ (m : ℕ). Puts (Only (take (at + 19) octets ++ utc_fraction m)) out new r) is put)

pub utc_within : (time : Option Timestamp) (micros : ℕ) (octets rest : List ℕ) (at : ℕ) → IsInUtc time micros
    → at ≤ length octets → Follows (Spaced (Nilable TimeText (option_map time_of time))) (drop at octets) rest
    → (at + 19 ≤ length octets) × (micros ≤ 999_999)
utc_within None micros octets rest at utc within h = absurd utc
utc_within (Some t) micros octets rest at (utc, is) within h =
    (least_time t octets rest at within h, omega (arith, is, most_micros t (drop at octets) rest h))

-- ---- the record

abbrev pub stands : List ℕ → Parsed → ℕ
stands b s = length b - s.fields.time_remaining

-- what follows the timestamp, with its space
pub spaced_behind : (b : List ℕ) (s : Parsed) → IsParsed b s
    → drop (length b - length s.fields.behind_time.now - 1) b ≡ 32 ∷ s.fields.behind_time.now
spaced_behind b s k =
    let behind = s.fields.behind_time.now in
    let (x, e, (t, y, f, h, sp)) = time_follows b (drop (stands b s) b) s k refl in
    let whole : b ≡ (take (stands b s) b ++ t) ++ 32 ∷ behind =
    sym (take-append-drop (stands b s) b) ∙ ap (λ (u : List ℕ). take (stands b s) b ++ u)
    (e ∙ ap (λ (u : List ℕ). u ++ behind) (f ∙ ap (λ (u : List ℕ). t ++ u) sp) ∙ append_assoc t (32 ∷ []) behind)
    ∙ sym (append_assoc (take (stands b s) b) t (32 ∷ behind)) in
    let count : length b - length behind - 1 ≡ length (take (stands b s) b ++ t) =
    omega (arith, ap length whole, length-append (take (stands b s) b ++ t) (32 ∷ behind)) in
    ap (λ (n : ℕ). drop n b) count ∙ ap (drop (length (take (stands b s) b ++ t))) whole
    ∙ drop-append_seam (take (stands b s) b ++ t) (32 ∷ behind)

-- the octets, where their timestamp is canonical
pub whole_verbatim : (b from : List ℕ) (s : Parsed) (i : Option ℤ) → IsParsed b s → from ≡ drop (stands b s) b
    → i ≡ option_map (λ t. instant (time_of t)) s.fields.time
    → Follows (TimeSpace (option_map (λ t. instant (time_of t)) s.fields.time)) from s.fields.behind_time.now
    → VerbatimForm (shown_parts s i) b
unfolding VerbatimForm
whole_verbatim b from s i k e is (x, f, (t, y, g, h, sp)) =
    let behind = s.fields.behind_time.now in (
      take (stands b s) b,
      t ++ (y ++ behind),
      sym (take-append-drop (stands b s) b) ∙ ap (λ (u : List ℕ). take (stands b s) b ++ u)
          (sym e ∙ f ∙ ap (λ (u : List ℕ). u ++ behind) g ∙ append_assoc t y behind),
      prefix_read b s k,
      (t, y ++ behind, refl, subst (λ (o : Option ℤ). TimeForm o t) (sym is) h, (y, behind, refl, sp, refl)),
    )

-- what comes before the timestamp, its canonical form, and what follows it
pub parts_verbatim : (b spaced out mid new : List ℕ) (s : Parsed) (i : Option ℤ) {X E : Type 0} → (r : Result X E)
    → IsParsed b s → spaced ≡ drop (length b - length s.fields.behind_time.now - 1) b
    → Adds (Only (take (stands b s) b) ⋅ TimeForm i) out mid → Puts (Only spaced) mid new r
    → Puts (VerbatimForm (shown_parts s i)) out new r
unfolding VerbatimForm
parts_verbatim b spaced out mid new s i r k e front put =
    let behind = s.fields.behind_time.now in
    puts_as ((Only (take (stands b s) b) ⋅ TimeForm i) ⋅ Only spaced) (VerbatimForm (shown_parts s i)) out new r
    (λ t (x, y, f, (p, z, g, pri, time), last). (
      p,
      z ++ y,
      f ∙ ap (λ (u : List ℕ). u ++ y) g ∙ append_assoc p z y,
      pri ∙ prefix_read b s k,
      (z, y, refl, time, (32 ∷ [], behind, last ∙ e ∙ spaced_behind b s k, refl, refl)),
    ))
    (puts_then (Only (take (stands b s) b) ⋅ TimeForm i) (Only spaced) out mid new r front put)

-- the record of the octets is written so
pub verbatim_canonical : (b old new : List ℕ) (s : Parsed) → IsParsed b s → IsInnerTime s.fields.time
    → s.is_form ≡ true → s.ascends ≡ true → HasOneMessageForm (message_parts s.message)
    → Adds (VerbatimForm (shown_parts s (option_map (λ t. instant (time_of t)) s.fields.time))) old new
    → AddsCanonical b old new
verbatim_canonical b old new s k inner form order one adds =
    let i : Option ℤ = option_map (λ t. instant (time_of t)) s.fields.time in
    let text = s.«structured_data».now in
    let by_id = kept_by_id s.is_form s.ascends text ∣ k.forms ∣₁ order in
    record_verbatim (shown_parts s i) old new one (kept_form s.is_form s.ascends text ∣ k.forms ∣₁ form) by_id adds b
    (view_of b s i k refl (parsed_range b s k inner)
    (k.elements.0, k.elements.1, distinct_by_id k.elements.0 (by_id k.elements.0 k.elements.1)))
