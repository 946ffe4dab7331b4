-- A packet has one answer at most.
use Rattle.std.proofs.Common.{◌≡◌, ℕ, List, ◌++◌, length, take, sym, ap, subst, ◌∙◌, arith}
use Rattle.std.specs.Prelude.{Result, Ok, Err, MatchResult}
use Rattle.std.proofs.lemmas.List.{append_cancel_left, length-append}
use Rattle.std.specs.Prelude.{ℤ}
use Rattle.octet_language.specs.Language.{IsFaultOffset}
use Rattle.octet_language.proofs.FaultOffset.{IsFaultOffset-unique}
use Rattle.syslog_value.specs.Parts.{MessageParts, AnyOctets, Utf8Text, Parts, bom}
use Rattle.syslog_fields.specs.Grammar.{Message}
use Rattle.syslog_fields.specs.Utf8.{IsText}
use Rattle.syslog_reading.proofs.OneMeaning.{message_same}
use Rattle.syslog_legacy.specs.declared.clock.LegacyClock.{LegacyClock}
use Rattle.syslog_legacy.specs.Readings.{Answer, IsRead, Legacy, NotUtf8At, ReadAs, StopsIn, legacy_parts}
use Rattle.syslog_legacy.specs.Splits.{FrontParts}
use Rattle.syslog_legacy.proofs.OneSplit.{split_one}

-- a message is one that reads, or one that stops
marked : (message : MessageParts) (text : List ℕ) → Message message (bom ++ text) → IsText text
marked (AnyOctets octets) text h = absurd (h.1 (ap (λ (k : List ℕ). take 3 k) (sym h.2)))
marked (Utf8Text t) text (is, (x, y, e, h, k)) =
    let same : text ≡ t = append_cancel_left bom text t
    (e ∙ ap (λ (u : List ℕ). u ++ y) h ∙ ap (λ (u : List ℕ). bom ++ u) k) in
    subst IsText (sym same) is

reads_stops : (clock : LegacyClock) (b : List ℕ) (r : Parts ℤ) (offset : ℕ) → IsRead clock b r → StopsIn clock b offset
    → ⊥
reads_stops clock b r offset h k =
    let same = split_one clock b h.front k.front h.octets (bom ++ k.text) h.splits k.splits in
    k.faulty (marked h.message k.text (subst (Message h.message) same.1 h.means))

pub legacy_one : (clock : LegacyClock) (x y : Answer) (b : List ℕ) → Legacy clock x b → Legacy clock y b → x ≡ y
legacy_one clock (ReadAs r) (ReadAs q) b h k =
    let same = split_one clock b h.front k.front h.octets k.octets h.splits k.splits in
    let message = message_same h.message k.message k.octets (subst (Message h.message) same.1 h.means) k.means in
    ap ReadAs (h.is ∙ ap (λ (f : FrontParts). legacy_parts f h.message) same.0 ∙ ap (legacy_parts k.front) message
    ∙ sym k.is)
legacy_one clock (ReadAs r) (NotUtf8At n) b h k = absurd (reads_stops clock b r n h k)
legacy_one clock (NotUtf8At n) (ReadAs r) b h k = absurd (reads_stops clock b r n k h)
legacy_one clock (NotUtf8At n) (NotUtf8At m) b h k =
    let same = split_one clock b h.front k.front (bom ++ h.text) (bom ++ k.text) h.splits k.splits in
    let text = append_cancel_left bom h.text k.text same.1 in
    let within = IsFaultOffset-unique IsText k.text h.within k.within
    (subst (λ (t : List ℕ). IsFaultOffset IsText t h.within) text h.stops) k.stops in
    let len : length h.before ≡ length k.before =
    omega (
      arith,
      ap length h.parts,
      ap length k.parts,
      length-append h.before h.text,
      length-append k.before k.text,
      ap length text,
    ) in
    ap NotUtf8At (omega (arith, h.offset_is, k.offset_is, within, len))

-- an answer of either kind is one
pub some_answer : {X E : Type 0} (r : Result X E) (A : Answer → Type 0) (p : X → Parts ℤ) (q : E → ℕ)
    → MatchResult r (λ x. A (ReadAs (p x))) (λ e. A (NotUtf8At (q e))) → (answer : Answer) × A answer
some_answer (Ok x) A p q h = (ReadAs (p x), h)
some_answer (Err e) A p q h = (NotUtf8At (q e), h)
