-- The entries of a batch, and what is behind them.
use Rattle.std.proofs.Common.{◌≡◌, ◌⊎◌, inl, inr, ℕ, ◌^◌, ◌<◌, ◌≤◌, List, [], ◌∷◌, ◌++◌, length, get_or, refl, sym, ap, subst, ◌∙◌}
use Rattle.std.proofs.Common.{append_assoc, append-nil, arith}
use Rattle.std.specs.Prelude.{decimal}
use Rattle.std.specs.List.{AllByRecursion}
use Rattle.std.proofs.lemmas.Fmt.{decimal_nonempty, first_decimal}
use Rattle.archive_text.specs.Entries.{Entry, IsEntry}
use Rattle.archive_text.specs.Text.{BeginsWithEntry, entry_text, text_of}
use Rattle.archive_text.specs.declared.limits.TheConstants.{ENTRY_MAX}
use Rattle.archive_text.proofs.Texts.{entry_carries, entry_some, one_beginning}
use Rattle.record_store.specs.Holdings.{AreEntries, IsBatch, IsReadable}
use Rattle.record_store.specs.Seals.{HasMore, Seals, seal_of}

abbrev pub Fits : Entry → Type 0
Fits e = length e.octets ≤ ENTRY_MAX

-- ---- a seal is no entry

pub seal_ends : (text behind : List ℕ) → Seals text behind → ¬ (HasMore behind)
seal_ends text behind (inl none) more = subst HasMore none more
seal_ends text behind (inr seal) more = subst HasMore seal more refl

above_mark : (octets rest : List ℕ) → 0 < length octets → 48 < get_or octets 0 0 → HasMore (octets ++ rest)
above_mark [] rest some high = absurd (omega (arith, some))
above_mark (octet ∷ octets) rest some high = λ is. omega (arith, high, is)

-- an entry begins with a digit
pub entry_more : (e : Entry) (rest : List ℕ) → IsEntry e → Fits e → HasMore (entry_text e ++ rest)
entry_more e rest entry fits =
    let size = length e.octets in
    let some = entry_some e entry in
    let small : size < 2 ^ 64 = omega (arith, fits) in
    subst HasMore (sym (append_assoc (decimal size) (32 ∷ e.octets) rest))
    (above_mark (decimal size) ((32 ∷ e.octets) ++ rest) (decimal_nonempty size small) (first_decimal size some small))

-- so are entries and what is behind them
pub entries_more : (e : Entry) (es : List Entry) (rest : List ℕ) → IsEntry e → Fits e
    → HasMore (text_of (e ∷ es) ++ rest)
entries_more e es rest entry fits =
    subst HasMore (sym (append_assoc (entry_text e) (text_of es) rest))
    (entry_more e (text_of es ++ rest) entry fits)

pub begins : (e : Entry) (rest : List ℕ) → IsEntry e → Fits e → BeginsWithEntry ENTRY_MAX (entry_text e ++ rest) e rest
begins e rest entry fits =
    record { entry = entry; fits = fits; carries = entry_carries ENTRY_MAX e (omega arith) entry fits; parts = refl }

-- an entry and others begin a text
pub begins_all : (e : Entry) (es : List Entry) (rest text : List ℕ) → IsEntry e → Fits e
    → text ≡ text_of (e ∷ es) ++ rest → BeginsWithEntry ENTRY_MAX text e (text_of es ++ rest)
begins_all e es rest text entry fits is = record {
  entry = entry;
  fits = fits;
  carries = entry_carries ENTRY_MAX e (omega arith) entry fits;
  parts = is ∙ append_assoc (entry_text e) (text_of es) rest;
}

-- ---- what is left of a batch

-- behind the first entries of a batch are others, and what seals them all
pub record RestOf (before : List Entry) (rest : List ℕ) : Type 0 where
  pub more : List Entry
  pub entries : AllByRecursion IsEntry more
  pub fits : AllByRecursion Fits more
  pub behind : List ℕ
  pub parts : rest ≡ text_of more ++ behind
  pub seal : Seals (text_of (before ++ more)) behind

one_further : (before : List Entry) (e : Entry) (rest : List ℕ) → IsEntry e → Fits e
    → RestOf before (entry_text e ++ rest) → RestOf (before ++ e ∷ []) rest
one_further before e rest entry fits h = of h.more h.entries h.fits h.behind h.parts h.seal
  where
    of : (more : List Entry) → AllByRecursion IsEntry more → AllByRecursion Fits more → (behind : List ℕ)
        → entry_text e ++ rest ≡ text_of more ++ behind → Seals (text_of (before ++ more)) behind
        → RestOf (before ++ e ∷ []) rest
    of [] are fit behind parts seal =
        absurd (seal_ends (text_of (before ++ [])) behind seal (subst HasMore parts (entry_more e rest entry fits)))
    of (f ∷ fs) are fit behind parts seal =
        let both = one_beginning ENTRY_MAX ENTRY_MAX (entry_text e ++ rest) e f rest (text_of fs ++ behind)
        (begins e rest entry fits)
        (begins_all f fs behind (entry_text e ++ rest) are.0 fit.0 parts) in
        let same : before ++ f ∷ fs ≡ (before ++ e ∷ []) ++ fs =
        ap (λ (x : Entry). before ++ x ∷ fs) (sym both.0) ∙ sym (append_assoc before (e ∷ []) fs) in
        record {
          more = fs;
          entries = are.1;
          fits = fit.1;
          behind = behind;
          parts = both.1;
          seal = subst (λ (es : List Entry). Seals (text_of es) behind) same seal;
        }

further : (before entries : List Entry) (rest : List ℕ) → AllByRecursion IsEntry entries → AllByRecursion Fits entries
    → RestOf before (text_of entries ++ rest) → RestOf (before ++ entries) rest
further before [] rest are fit h = subst (λ (es : List Entry). RestOf es rest) (sym (append-nil before)) h
further before (e ∷ entries) rest are fit h =
    subst (λ (es : List Entry). RestOf es rest) (append_assoc before (e ∷ []) entries)
    (further (before ++ e ∷ []) entries rest are.1 fit.1
    (one_further before e (text_of entries ++ rest) are.0 fit.0
    (subst (RestOf before) (append_assoc (entry_text e) (text_of entries) rest) h)))

-- the rest of a batch of entries behind its first ones
pub rest_of : (entries : List Entry) (rest body : List ℕ) → body ≡ text_of entries ++ rest
    → AllByRecursion IsEntry entries → AllByRecursion Fits entries → IsReadable body → RestOf entries rest
rest_of entries rest body parts are fit (es, b) =
    further [] entries rest are fit
    (subst (RestOf []) parts
    (record { more = es; entries = b.entries; fits = b.fits; behind = b.behind; parts = b.text; seal = b.seal }))

-- it begins with an entry, or it is the seal
pub begins_some : (before : List Entry) (rest : List ℕ) → HasMore rest → RestOf before rest
    → (e : Entry) × (behind : List ℕ) × BeginsWithEntry ENTRY_MAX rest e behind
begins_some before rest some h = of h.more h.entries h.fits h.parts h.seal
  where
    of : (more : List Entry) → AllByRecursion IsEntry more → AllByRecursion Fits more
        → rest ≡ text_of more ++ h.behind → Seals (text_of (before ++ more)) h.behind
        → (e : Entry) × (behind : List ℕ) × BeginsWithEntry ENTRY_MAX rest e behind
    of [] are fit parts seal = absurd (seal_ends (text_of (before ++ [])) h.behind seal (subst HasMore parts some))
    of (f ∷ fs) are fit parts seal =
        (f, text_of fs ++ h.behind, begins_all f fs h.behind rest are.0 fit.0 parts)

pub rest_seals : (before : List Entry) (rest : List ℕ) → ¬ (HasMore rest) → RestOf before rest
    → Seals (text_of before) rest
rest_seals before rest none h = of h.more h.entries h.fits h.parts h.seal
  where
    of : (more : List Entry) → AllByRecursion IsEntry more → AllByRecursion Fits more
        → rest ≡ text_of more ++ h.behind → Seals (text_of (before ++ more)) h.behind → Seals (text_of before) rest
    of [] are fit parts seal =
        subst (Seals (text_of before)) (sym parts)
        (subst (λ (es : List Entry). Seals (text_of es) h.behind) (append-nil before) seal)
    of (f ∷ fs) are fit parts seal =
        absurd (none (subst HasMore (sym parts) (entries_more f fs h.behind are.0 fit.0)))

-- ---- a batch that waits is sealed

pub sealed_batch : (es : List Entry) (text : List ℕ) → AreEntries es text → IsBatch es (text ++ seal_of text)
sealed_batch es text are = record {
  entries = are.entries;
  fits = are.fits;
  behind = seal_of (text_of es);
  text = ap (λ (t : List ℕ). t ++ seal_of t) are.text_is;
  seal = inr refl;
}

-- as older programs wrote it, it is a batch too
pub plain_batch : (es : List Entry) (text : List ℕ) → AreEntries es text → IsBatch es text
plain_batch es text are = record {
  entries = are.entries;
  fits = are.fits;
  behind = [];
  text = are.text_is ∙ sym (append-nil (text_of es));
  seal = inl refl;
}
