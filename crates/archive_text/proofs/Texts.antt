-- The texts of entries, of which one begins a text at most.
use Rattle.std.proofs.Common.{◌≡◌, ℕ, ◌+◌, ◌<◌, ◌≤◌, ◌∙◌, inl, inr, refl, sym, ap, arith, List, [], ◌∷◌, ◌++◌, length}
use Rattle.std.proofs.Common.{append_assoc}
use Rattle.std.specs.Prelude.{ℤ, ◌⊎◌, decimal}
use Rattle.std.proofs.lemmas.Grind.{flat_map-append}
use Rattle.std.proofs.lemmas.List.{append_cancel_left, append-nil, length-append}
use Rattle.syslog_frame.specs.Frames.{CanCarry}
use Rattle.syslog_frame.specs.declared.framing.Framing.TheVariants.{Counted}
use Rattle.syslog_frame.specs.declared.limits.TheConstants.{COUNT_MAX}
use Rattle.syslog_frame.proofs.FrameLaws.{one_frame}
use Rattle.syslog_value.specs.Parts.{Parts}
use Rattle.syslog_grammar.proofs.CanonicalParses.{canonical_injective, canonical_once}
use Rattle.archive_text.specs.Entries.{Entry, IsEntry, IsEntryOf}
use Rattle.archive_text.specs.Text.{BeginsWithEntry, IsArchive, entry_text, text_of}
use Rattle.archive_text.proofs.Ascending.{archive_right}
use Rattle.archive_text.proofs.Orders.{same_entry}
use Rattle.syslog_fields.proofs.CanonicalTexts.{canonical_some}

-- ---- entries and their octets

-- a record has one entry
pub one_entry_of : (r : Parts ℤ) (e f : Entry) → IsEntryOf r e → IsEntryOf r f → e ≡ f
one_entry_of r e f h k = same_entry e f (h.instant ∙ sym k.instant)
    (canonical_once r e.octets f.octets h.canonical k.canonical)

-- entries with the same octets are of one record
pub one_record : (r q : Parts ℤ) (e f : Entry) → IsEntryOf r e → IsEntryOf q f → e.octets ≡ f.octets → r ≡ q
one_record r q e f h k = (canonical_injective r q e.octets f.octets h.valid k.valid h.canonical k.canonical).1

-- and are one
pub same_octets : (e f : Entry) → IsEntry e → IsEntry f → e.octets ≡ f.octets → e ≡ f
same_octets e f (r, h) (q, k) same = same_entry e f
    (h.instant ∙ ap (λ p. p.time) (one_record r q e f h k same) ∙ sym k.instant) same

pub entry_some : (e : Entry) → IsEntry e → 0 < length e.octets
entry_some e (r, h) = canonical_some r e.octets h.canonical

-- a count can number the octets of an entry
pub entry_carries : (most : ℕ) (e : Entry) → most ≤ COUNT_MAX → IsEntry e → length e.octets ≤ most
    → CanCarry Counted e.octets
entry_carries most e low entry fits = (entry_some e entry, omega (arith, low, fits))

-- ---- the text of a list

pub text_some : (e : Entry) → 0 < length (entry_text e)
text_some e = omega (arith, length-append (decimal (length e.octets)) (32 ∷ e.octets))

pub text_append : (a b : List Entry) → text_of (a ++ b) ≡ text_of a ++ text_of b
text_append a b = flat_map-append entry_text a b

pub text_length : (a b : List Entry) → length (text_of (a ++ b)) ≡ length (text_of a) + length (text_of b)
text_length a b = ap length (text_append a b) ∙ length-append (text_of a) (text_of b)

-- one entry more
pub text_push : (es : List Entry) (e : Entry) → text_of (es ++ e ∷ []) ≡ text_of es ++ entry_text e
text_push es e = text_append es (e ∷ []) ∙ ap (λ (t : List ℕ). text_of es ++ t) (append-nil (entry_text e))

-- a text goes on behind one entry more
pub text_goes_on : (es : List Entry) (e : Entry) (text rest behind : List ℕ) → text ≡ text_of es ++ rest
    → rest ≡ entry_text e ++ behind → text ≡ text_of (es ++ e ∷ []) ++ behind
text_goes_on es e text rest behind h k =
    h ∙ ap (λ (t : List ℕ). text_of es ++ t) k ∙ sym (append_assoc (text_of es) (entry_text e) behind)
    ∙ ap (λ (t : List ℕ). t ++ behind) (sym (text_push es e))

-- no text is that of no entry
pub no_text : (es : List Entry) (rest : List ℕ) → [] ≡ text_of es ++ rest → es ≡ []
no_text [] rest h = refl
no_text (e ∷ es) rest h =
    absurd (omega (
      arith,
      ap length h,
      length-append (text_of (e ∷ es)) rest,
      length-append (entry_text e) (text_of es),
      text_some e,
    ))

-- ---- the first entry

-- a text begins with one entry at most
pub one_beginning : (most more : ℕ) (text : List ℕ) (e f : Entry) (s t : List ℕ) → BeginsWithEntry most text e s
    → BeginsWithEntry more text f t → (e ≡ f) × (s ≡ t)
one_beginning most more text e f s t h k =
    let both = sym h.parts ∙ k.parts in
    let same = same_octets e f h.entry k.entry (one_frame Counted e.octets f.octets s t h.carries k.carries both) in
    (same, append_cancel_left (entry_text e) s t (both ∙ ap (λ x. entry_text x ++ t) (sym same)))

-- the text of an archive begins with its first entry
pub first_of_text : (most : ℕ) (text : List ℕ) (e : Entry) (es : List Entry) (rest : List ℕ) → most ≤ COUNT_MAX
    → IsArchive most (e ∷ es)
    → text ≡ text_of (e ∷ es) ++ rest → BeginsWithEntry most text e (text_of es ++ rest)
first_of_text most text e es rest low h is = record {
  entry = h.entries.0;
  fits = h.fits.0;
  carries = entry_carries most e low h.entries.0 h.fits.0;
  parts = is ∙ append_assoc (entry_text e) (text_of es) rest;
}

-- ---- two lists whose texts begin one text

-- the second list goes on behind the first, as the rest of the text does
abbrev pub GoesOn : List Entry → List ℕ → List Entry → List ℕ → Type 0
GoesOn es r fs s = (gs : List Entry) × (fs ≡ es ++ gs) × (r ≡ text_of gs ++ s)

pub goes_on_behind : (e f : Entry) (es fs : List Entry) (r s : List ℕ) → e ≡ f → GoesOn es r fs s
    → GoesOn (e ∷ es) r (f ∷ fs) s
goes_on_behind e f es fs r s same (gs, h, k) = (gs, ap (λ x. x ∷ fs) (sym same) ∙ ap (λ xs. e ∷ xs) h, k)

-- one of them begins the other
pub one_begins : (most more : ℕ) (es fs : List Entry) (r s : List ℕ) → most ≤ COUNT_MAX → more ≤ COUNT_MAX
    → IsArchive most es → IsArchive more fs
    → text_of es ++ r ≡ text_of fs ++ s → GoesOn es r fs s ⊎ GoesOn fs s es r
one_begins most more [] fs r s low small h k same = inl (fs, refl, same)
one_begins most more (e ∷ es) [] r s low small h k same = inr (e ∷ es, refl, sym same)
one_begins most more (e ∷ es) (f ∷ fs) r s low small h k same =
    let both =
    one_beginning most more (text_of (e ∷ es) ++ r) e f (text_of es ++ r) (text_of fs ++ s)
    (first_of_text most (text_of (e ∷ es) ++ r) e es r low h refl)
    (first_of_text more (text_of (e ∷ es) ++ r) f fs s small k same) in
    elim (one_begins most more es fs r s low small (archive_right most (e ∷ []) es h) (archive_right more (f ∷ []) fs k)
    both.1) [
      | inl later ↦ inl (goes_on_behind e f es fs r s both.0 later)
      | inr later ↦ inr (goes_on_behind f e fs es s r (sym both.0) later)
    ]

pub none_behind : (es fs : List Entry) → GoesOn es [] fs [] → es ≡ fs
none_behind es fs (gs, h, k) = sym (h ∙ ap (λ (xs : List Entry). es ++ xs) (no_text gs [] k) ∙ append-nil es)

-- one text is that of one archive
pub same_text : (most more : ℕ) (es fs : List Entry) → most ≤ COUNT_MAX → more ≤ COUNT_MAX → IsArchive most es
    → IsArchive more fs → text_of es ≡ text_of fs → es ≡ fs
same_text most more es fs low small h k same =
    elim (one_begins most more es fs [] [] low small h k (ap (λ (t : List ℕ). t ++ []) same)) [
      | inl later ↦ none_behind es fs later
      | inr later ↦ sym (none_behind fs es later)
    ]
