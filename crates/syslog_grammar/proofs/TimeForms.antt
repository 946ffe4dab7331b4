-- Whether a timestamp is in its canonical form.
use Rattle.std.proofs.Common.{◌≡◌, ℕ, List, [], ◌∷◌, ◌++◌, refl, sym, ap, subst, ◌∙◌}
use Rattle.std.proofs.Common.{append_assoc}
use Rattle.std.specs.Prelude.{ℤ, Option, Some}
use Rattle.std.proofs.lemmas.List.{append_cancel_right}
use Rattle.octet_language.specs.Language.{Language, Only, ◌⋅◌}
use Rattle.octet_language.specs.Reading.{Follows}
use Rattle.syslog_value.specs.Instants.{IsCivil}
use Rattle.syslog_value.specs.declared.civil.Civil.{Civil}
use Rattle.syslog_fields.specs.Canonical.{civil_text, TimeForm}
use Rattle.syslog_fields.specs.Grammar.{Nilable, Spaced}
use Rattle.syslog_fields.specs.Time.{CivilTime, TimeText, instant}
use Rattle.syslog_fields.proofs.Fractions.{AnyTime, IsPrefixFree-nilable_time}
use Rattle.syslog_reading.proofs.OneMeaning.{time_same}
use Rattle.syslog_reading.proofs.Viewing.{time_exists}
use Rattle.syslog_grammar.proofs.CanonicalParses.{named, at_utc, civil_parsed}

abbrev pub TimeSpace : Option ℤ → Language
TimeSpace i = TimeForm i ⋅ Only (32 ∷ [])

abbrev pub Begins : Language → List ℕ → Type 0
Begins L octets = (rest : List ℕ) × Follows L octets rest

-- a canonical time and the space that follows it are a time and its space
pub any_time : (i : Option ℤ) (x : List ℕ) → TimeSpace i x → AnyTime x
any_time i x (s, y, e, h, k) = let n = named i s h in (n.time, (s, y, e, n.text, k))

-- the civil time in UTC of a text
of_text : (t : CivilTime) (c : Civil) (s : List ℕ) → TimeText t s → IsCivil c → s ≡ civil_text c → t ≡ at_utc c
of_text t c s h exists e = time_same t (at_utc c) s h (subst (TimeText (at_utc c)) (sym e) (civil_parsed c exists))

-- the octets begin with a time in its form exactly where they begin with the text of its civil time and a space
pub formed : (t : CivilTime) (octets rest more : List ℕ) → Follows (Spaced (Nilable TimeText (Some t))) octets rest
    → octets ≡ civil_text t.civil ++ 32 ∷ more → Follows (TimeSpace (Some (instant t))) octets more
formed t octets rest more (x, e, (s, y, f, h, k)) g =
    let exists = (time_exists t s h).0 in
    let other : TimeSpace (Some (instant (at_utc t.civil))) (civil_text t.civil ++ 32 ∷ []) =
    (civil_text t.civil, 32 ∷ [], refl, (t.civil, exists, refl, refl), refl) in
    let whole : octets ≡ (civil_text t.civil ++ 32 ∷ []) ++ more =
    g ∙ sym (append_assoc (civil_text t.civil) (32 ∷ []) more) in
    let same : x ≡ civil_text t.civil ++ 32 ∷ [] =
    IsPrefixFree-nilable_time x rest (civil_text t.civil ++ 32 ∷ []) more (Some t, (s, y, f, h, k))
    (any_time (Some (instant (at_utc t.civil))) (civil_text t.civil ++ 32 ∷ []) other) (sym e ∙ whole) in
    let text : s ≡ civil_text t.civil = append_cancel_right s (civil_text t.civil) (32 ∷ [])
    (ap (λ (u : List ℕ). s ++ u) (sym k) ∙ sym f ∙ same) in
    let utc : t ≡ at_utc t.civil = of_text t t.civil s h exists text in (
      civil_text t.civil ++ 32 ∷ [],
      whole,
      (
        civil_text t.civil,
        32 ∷ [],
        refl,
        (t.civil, exists, ap instant (sym utc), refl),
        refl,
      ),
    )

pub unformed : (t : CivilTime) (octets rest more : List ℕ) → Follows (Spaced (Nilable TimeText (Some t))) octets rest
    → Follows (TimeSpace (Some (instant t))) octets more → octets ≡ civil_text t.civil ++ 32 ∷ more
unformed t octets rest more (x, e, (s, y, f, h, k)) (u, g, (v, w, i, (c, exists, j, l), m)) =
    let same : x ≡ u = IsPrefixFree-nilable_time x rest u more (Some t, (s, y, f, h, k))
    (any_time (Some (instant t)) u (v, w, i, (c, exists, j, l), m)) (sym e ∙ g) in
    let text : s ≡ v = append_cancel_right s v (32 ∷ [])
    (ap (λ (z : List ℕ). s ++ z) (sym k) ∙ sym f ∙ same ∙ i ∙ ap (λ (z : List ℕ). v ++ z) m) in
    let utc : t ≡ at_utc c = of_text t c s h exists (text ∙ l) in
    let civil : civil_text c ≡ civil_text t.civil = ap (λ (z : CivilTime). civil_text z.civil) (sym utc) in
    g ∙ ap (λ (z : List ℕ). z ++ more) (i ∙ ap (λ (z : List ℕ). v ++ z) m) ∙ append_assoc v (32 ∷ []) more
    ∙ ap (λ (z : List ℕ). z ++ 32 ∷ more) (l ∙ civil)
