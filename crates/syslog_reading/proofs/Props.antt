-- Facts on records and canonical texts that hold in one way at most.
use Rattle.std.proofs.Common.{◌≡◌, ℕ, ◌++◌, List, [], ◌∷◌, sym, ap, ◌∙◌, inl, inr, ◌⊎◌, arith}
use Rattle.std.specs.Prelude.{ℤ, pos, Option, Some, None}
use Rattle.std.specs.List.{AllByRecursion-prop}
use Rattle.std.proofs.Props.{props}
use Rattle.std.proofs.lemmas.List.{append_cancel_left}
use Rattle.octet_language.specs.Language.{Language, Only, ◌⋅◌}
use Rattle.syslog_value.specs.Instants.{IsCivil, instant_of}
use Rattle.syslog_value.specs.Order.{OctetsBelow}
use Rattle.syslog_value.specs.Parts.{ElementParts, IsById, IsMessage, IsRecord, MessageParts, AnyOctets, Utf8Text}
use Rattle.syslog_value.specs.Parts.{Parts}
use Rattle.syslog_value.specs.declared.civil.Civil.{Civil}
use Rattle.syslog_value.proofs.CivilTimes.{civil-injective}
use mathlib.Core.HLevel.{×_prop, Unit-prop, Σ_prop_path}
use Rattle.syslog_fields.specs.Canonical.{Canonical, HeaderForm, SpacedWord, TimeForm, civil_text, message_form}
use Rattle.syslog_fields.specs.Canonical.{priority_version_form, structured_data_form, word_form}
use Rattle.syslog_fields.proofs.CanonicalTexts.{time_once, word_once}
use Rattle.octet_language.proofs.Sequence.{once, only_once}

-- pairs whose first part is settled by what holds of it
pub unique_prop : {A : Type 0} {B : A → Type 0} → ((x : A) → IsProp (B x)) → ((x y : A) → B x → B y → x ≡ y)
    → IsProp ((x : A) × B x)
unique_prop each same = λ p q. Σ_prop_path each (same p.0 q.0 p.1 q.1)

-- a sum of facts that exclude one another
pub either_prop : {A B : Type 0} → IsProp A → IsProp B → (A → ¬ B) → IsProp (A ⊎ B)
either_prop a b apart = λ x y. elim x as (λ v. v ≡ y) [
  | inl h ↦ elim y as (λ w. inl h ≡ w) [ inl k ↦ ap inl (a h k) | inr k ↦ absurd (apart h k) ]
  | inr h ↦ elim y as (λ w. inr h ≡ w) [ inl k ↦ absurd (apart k h) | inr k ↦ ap inr (b h k) ]
]

pub texts_set : (a b : List ℕ) → IsProp (a ≡ b)
texts_set = hlevel props

-- ---- the canonical text of a record

then_prop : (A B : Language) (b : List ℕ) → ((s : List ℕ) → IsProp (A s)) → ((s : List ℕ) → IsProp (B s))
    → ((s t : List ℕ) → A s → A t → s ≡ t) → IsProp ((A ⋅ B) b)
then_prop A B b one two same =
    let Behind : List ℕ → Type 0 = λ x. (y : List ℕ) × ((b ≡ x ++ y) × (A x × B y)) in
    let behind : (x : List ℕ) → IsProp (Behind x) =
    λ x. unique_prop {B = λ y. (b ≡ x ++ y) × (A x × B y)} (λ y. ×_prop (texts_set b (x ++ y)) (×_prop (one x) (two y)))
    (λ y z h k. append_cancel_left x y z (sym h.0 ∙ k.0)) in
    let nested : IsProp ((x : List ℕ) × Behind x) =
    unique_prop {B = Behind} behind (λ x u h k. same x u h.1.1.0 k.1.1.0) in
    let flat : (x : List ℕ) × Behind x → (A ⋅ B) b = λ n. (n.0, n.1.0, n.1.1.0, n.1.1.1.0, n.1.1.1.1) in
    λ p q. ap flat (nested (p.0, (p.1, (p.2, (p.3, p.4)))) (q.0, (q.1, (q.2, (q.3, q.4)))))

only_prop : (a s : List ℕ) → IsProp (Only a s)
only_prop a s = texts_set s a

civil_prop : (c : Civil) → IsProp (IsCivil c)
civil_prop = hlevel props

instant_prop : (c : Civil) (i : ℤ) → IsProp (instant_of c (pos 0) ≡ i)
instant_prop = hlevel props

time_prop : (i : Option ℤ) (b : List ℕ) → IsProp (TimeForm i b)
time_prop None b = texts_set b (45 ∷ [])
time_prop (Some i) b =
    let Named : Civil → Type 0 = λ c. IsCivil c × ((instant_of c (pos 0) ≡ i) × (b ≡ civil_text c)) in
    let nested : IsProp ((c : Civil) × Named c) =
    unique_prop {B = Named} (λ c. ×_prop (civil_prop c) (×_prop (instant_prop c i) (texts_set b (civil_text c))))
    (λ c d h k. civil-injective c d h.0 k.0 (h.1.0 ∙ sym k.1.0)) in
    let flat : (c : Civil) × Named c → TimeForm (Some i) b = λ n. (n.0, n.1.0, n.1.1.0, n.1.1.1) in
    λ p q. ap flat (nested (p.0, (p.1, (p.2, p.3))) (q.0, (q.1, (q.2, q.3))))

spaced_prop : (i : Option ℤ) (b : List ℕ) → IsProp ((TimeForm i ⋅ Only (32 ∷ [])) b)
spaced_prop i b = then_prop (TimeForm i) (Only (32 ∷ [])) b (time_prop i) (only_prop (32 ∷ [])) (time_once i)

spaced_once : (i : Option ℤ) (b c : List ℕ) → (TimeForm i ⋅ Only (32 ∷ [])) b → (TimeForm i ⋅ Only (32 ∷ [])) c → b ≡ c
spaced_once i b c = once (TimeForm i) (Only (32 ∷ [])) b c (time_once i) (only_once (32 ∷ []))

word_prop : (w : Option (List ℕ)) (b : List ℕ) → IsProp (SpacedWord w b)
word_prop w b = then_prop (Only (word_form w)) (Only (32 ∷ [])) b (only_prop (word_form w)) (only_prop (32 ∷ []))
    (only_once (word_form w))

pub canonical_prop : (r : Parts ℤ) (b : List ℕ) → IsProp (Canonical r b)
unfolding HeaderForm
canonical_prop r b =
    let w3 : Language = SpacedWord r.hostname in
    let w4 : Language = SpacedWord r.app_name in
    let w5 : Language = SpacedWord r.proc_id in
    let w6 : Language = SpacedWord r.msg_id in
    let time : Language = TimeForm r.time ⋅ Only (32 ∷ []) in
    let prefix : Language = Only (priority_version_form r.priority) in
    let elements : Language = Only (structured_data_form r.elements) in
    let tail : Language = Only (message_form r.message) in
    let p5 : (s : List ℕ) → IsProp ((w5 ⋅ w6) s) =
    λ s. then_prop w5 w6 s (word_prop r.proc_id) (word_prop r.msg_id) (word_once r.proc_id) in
    let p4 : (s : List ℕ) → IsProp ((w4 ⋅ w5 ⋅ w6) s) =
    λ s. then_prop w4 (w5 ⋅ w6) s (word_prop r.app_name) p5 (word_once r.app_name) in
    let p3 : (s : List ℕ) → IsProp ((w3 ⋅ w4 ⋅ w5 ⋅ w6) s) =
    λ s. then_prop w3 (w4 ⋅ w5 ⋅ w6) s (word_prop r.hostname) p4 (word_once r.hostname) in
    let p2 : (s : List ℕ) → IsProp ((time ⋅ w3 ⋅ w4 ⋅ w5 ⋅ w6) s) =
    λ s. then_prop time (w3 ⋅ w4 ⋅ w5 ⋅ w6) s (spaced_prop r.time) p3 (spaced_once r.time) in
    let p1 : (s : List ℕ) → IsProp ((prefix ⋅ time ⋅ w3 ⋅ w4 ⋅ w5 ⋅ w6) s) =
    λ s. then_prop prefix (time ⋅ w3 ⋅ w4 ⋅ w5 ⋅ w6) s (only_prop (priority_version_form r.priority)) p2
    (only_once (priority_version_form r.priority)) in
    let o5 : (s t : List ℕ) → (w5 ⋅ w6) s → (w5 ⋅ w6) t → s ≡ t =
    λ s t. once w5 w6 s t (word_once r.proc_id) (word_once r.msg_id) in
    let o4 : (s t : List ℕ) → (w4 ⋅ w5 ⋅ w6) s → (w4 ⋅ w5 ⋅ w6) t → s ≡ t =
    λ s t. once w4 (w5 ⋅ w6) s t (word_once r.app_name) o5 in
    let o3 : (s t : List ℕ) → (w3 ⋅ w4 ⋅ w5 ⋅ w6) s → (w3 ⋅ w4 ⋅ w5 ⋅ w6) t → s ≡ t =
    λ s t. once w3 (w4 ⋅ w5 ⋅ w6) s t (word_once r.hostname) o4 in
    let o2 : (s t : List ℕ) → (time ⋅ w3 ⋅ w4 ⋅ w5 ⋅ w6) s → (time ⋅ w3 ⋅ w4 ⋅ w5 ⋅ w6) t → s ≡ t =
    λ s t. once time (w3 ⋅ w4 ⋅ w5 ⋅ w6) s t (spaced_once r.time) o3 in
    let o1 : (s t : List ℕ) → (prefix ⋅ time ⋅ w3 ⋅ w4 ⋅ w5 ⋅ w6) s → (prefix ⋅ time ⋅ w3 ⋅ w4 ⋅ w5 ⋅ w6) t → s ≡ t =
    λ s t. once prefix (time ⋅ w3 ⋅ w4 ⋅ w5 ⋅ w6) s t (only_once (priority_version_form r.priority)) o2 in
    then_prop (prefix ⋅ time ⋅ w3 ⋅ w4 ⋅ w5 ⋅ w6) (elements ⋅ tail) b p1
    (λ s. then_prop elements tail s (only_prop (structured_data_form r.elements))
    (only_prop (message_form r.message)) (only_once (structured_data_form r.elements))) o1

-- ---- records

pub octets_below_prop : (a b : List ℕ) → IsProp (OctetsBelow a b)
octets_below_prop xs [] = λ h k. absurd h
octets_below_prop [] (y ∷ ys) = Unit-prop
octets_below_prop (x ∷ xs) (y ∷ ys) = either_prop (hlevel props) (×_prop (hlevel props) (octets_below_prop xs ys))
    (λ h k. omega (arith, h, k.0))

pub by_id_prop : (es : List ElementParts) → IsProp (IsById es)
by_id_prop [] = Unit-prop
by_id_prop (e ∷ es) = ×_prop (AllByRecursion-prop _ (λ f. octets_below_prop e.id f.id) es) (by_id_prop es)

pub message_prop : (m : MessageParts) → IsProp (IsMessage m)
message_prop (AnyOctets octets) = hlevel props
message_prop (Utf8Text text) = hlevel props

pub record_prop : (r : Parts ℤ) → IsProp (IsRecord r)
record_prop = hlevel (props, by_id_prop, message_prop)
