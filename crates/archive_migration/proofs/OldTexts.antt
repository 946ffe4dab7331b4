-- The texts of old entries, of which one begins a text at most.
use Rattle.std.proofs.Common.{◌≡◌, ℕ, ◌≤◌, ◌∙◌, inl, inr, refl, sym, ap, arith, List, [], ◌∷◌, ◌++◌, length}
use Rattle.std.proofs.Common.{append_assoc}
use Rattle.std.specs.Prelude.{◌⊎◌}
use Rattle.std.proofs.lemmas.List.{append_cancel_left}
use Rattle.syslog_frame.specs.Frames.{CanCarry}
use Rattle.syslog_frame.specs.declared.framing.Framing.TheVariants.{Counted}
use Rattle.syslog_frame.specs.declared.limits.TheConstants.{COUNT_MAX}
use Rattle.syslog_frame.proofs.FrameLaws.{one_frame}
use Rattle.archive_text.specs.Entries.{Entry, IsAscending}
use Rattle.archive_text.specs.Text.{entry_text, text_of}
use Rattle.archive_text.proofs.Ascending.{ascending_right}
use Rattle.archive_text.proofs.Members.{all_append, all_right}
use Rattle.archive_text.proofs.Texts.{GoesOn, goes_on_behind, none_behind}
use Rattle.archive_migration.specs.OldEntries.{IsOldArchive, IsOldEntry}
use Rattle.archive_migration.specs.OldTexts.{BeginsWithOldEntry}
use Rattle.archive_migration.proofs.OldForms.{same_old_octets}
use Rattle.syslog_fields.proofs.CanonicalTexts.{canonical_some}

-- ---- old archives

pub old_archive_nil : (most : ℕ) → IsOldArchive most []
old_archive_nil most = record { ascending = tt; entries = tt; fits = tt }

pub old_archive_right : (most : ℕ) (a b : List Entry) → IsOldArchive most (a ++ b) → IsOldArchive most b
old_archive_right most a b h = record {
  ascending = ascending_right a b h.ascending;
  entries = all_right IsOldEntry a b h.entries;
  fits = all_right (λ e. length e.octets ≤ most) a b h.fits;
}

pub old_archive_from : (most : ℕ) (es : List Entry) (e : Entry) → IsOldArchive most es → IsOldEntry e
    → length e.octets ≤ most → IsAscending (es ++ e ∷ [])
    → IsOldArchive most (es ++ e ∷ [])
old_archive_from most es e h entry fits ascending = record {
  ascending = ascending;
  entries = all_append IsOldEntry es (e ∷ []) h.entries (entry, tt);
  fits = all_append (λ x. length x.octets ≤ most) es (e ∷ []) h.fits (fits, tt);
}

-- a count can number the octets of an old entry
old_entry_carries : (most : ℕ) (e : Entry) → most ≤ COUNT_MAX → IsOldEntry e → length e.octets ≤ most
    → CanCarry Counted e.octets
old_entry_carries most e low (r, h) fits = (canonical_some r e.octets h.canonical, omega (arith, low, fits))

-- ---- the first entry

-- a text begins with one entry at most
pub one_old_beginning : (most more : ℕ) (text : List ℕ) (e f : Entry) (s t : List ℕ) → BeginsWithOldEntry most text e s
    → BeginsWithOldEntry more text f t → (e ≡ f) × (s ≡ t)
one_old_beginning most more text e f s t h k =
    let both = sym h.parts ∙ k.parts in
    let same = same_old_octets e f h.entry k.entry (one_frame Counted e.octets f.octets s t h.carries k.carries both) in
    (same, append_cancel_left (entry_text e) s t (both ∙ ap (λ x. entry_text x ++ t) (sym same)))

-- the text of an archive begins with its first entry
pub first_of_old_text : (most : ℕ) (text : List ℕ) (e : Entry) (es : List Entry) (rest : List ℕ) → most ≤ COUNT_MAX
    → IsOldArchive most (e ∷ es)
    → text ≡ text_of (e ∷ es) ++ rest → BeginsWithOldEntry most text e (text_of es ++ rest)
first_of_old_text most text e es rest low h is = record {
  entry = h.entries.0;
  fits = h.fits.0;
  carries = old_entry_carries most e low h.entries.0 h.fits.0;
  parts = is ∙ append_assoc (entry_text e) (text_of es) rest;
}

-- ---- two lists whose texts begin one text

-- one of them begins the other
pub one_old_begins : (most more : ℕ) (es fs : List Entry) (r s : List ℕ) → most ≤ COUNT_MAX → more ≤ COUNT_MAX
    → IsOldArchive most es → IsOldArchive more fs
    → text_of es ++ r ≡ text_of fs ++ s → GoesOn es r fs s ⊎ GoesOn fs s es r
one_old_begins most more [] fs r s low small h k same = inl (fs, refl, same)
one_old_begins most more (e ∷ es) [] r s low small h k same = inr (e ∷ es, refl, sym same)
one_old_begins most more (e ∷ es) (f ∷ fs) r s low small h k same =
    let both =
    one_old_beginning most more (text_of (e ∷ es) ++ r) e f (text_of es ++ r) (text_of fs ++ s)
    (first_of_old_text most (text_of (e ∷ es) ++ r) e es r low h refl)
    (first_of_old_text more (text_of (e ∷ es) ++ r) f fs s small k same) in
    elim (one_old_begins most more es fs r s low small (old_archive_right most (e ∷ []) es h)
    (old_archive_right more (f ∷ []) fs k) both.1) [
      | inl later ↦ inl (goes_on_behind e f es fs r s both.0 later)
      | inr later ↦ inr (goes_on_behind f e fs es s r (sym both.0) later)
    ]

-- one text is that of one archive
pub same_old_text : (most more : ℕ) (es fs : List Entry) → most ≤ COUNT_MAX → more ≤ COUNT_MAX → IsOldArchive most es
    → IsOldArchive more fs → text_of es ≡ text_of fs → es ≡ fs
same_old_text most more es fs low small h k same =
    elim (one_old_begins most more es fs [] [] low small h k (ap (λ (t : List ℕ). t ++ []) same)) [
      | inl later ↦ none_behind es fs later
      | inr later ↦ sym (none_behind fs es later)
    ]
