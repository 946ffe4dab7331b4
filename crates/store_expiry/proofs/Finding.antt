-- What is found of a file.
use Rattle.std.proofs.Common.{◌≡◌, ◌≢◌, inl, inr, ℕ, List, refl, sym, ap, subst, ◌∙◌, arith, length}
use Rattle.std.specs.Prelude.{Option, None, Some, IfSome, IsNone, IsTrue, codes, false}
use Rattle.disk.specs.Calls.{IsUnchanged}
use Rattle.disk.specs.Memory.{shown_now}
use Rattle.disk.specs.States.{Files, State}
use Rattle.archive_text.specs.Entries.{Entry}
use Rattle.archive_text.specs.Text.{text_of}
use Rattle.archive_text.proofs.Members.{of_member}
use Rattle.record_store.specs.Holdings.{HeldAt, IsOfPeriod}
use Rattle.record_store.specs.Names.{IsSegment}
use Rattle.record_store.proofs.Drafted.{segment_no_more}
use Rattle.record_store.proofs.Named.{not_both}
use Rattle.store_reading.specs.Days.{IsDayText, IsOf, IsPeriodText}
use Rattle.store_reading.proofs.DayOrders.{day_text}
use Rattle.store_upkeep.specs.Compaction.{shown}
use Rattle.store_upkeep.proofs.Verdicts.{day_named}
use Rattle.store_expiry.specs.Expired.{IsExpired}
use Rattle.store_expiry.specs.Expiry.{IsClear}
use Rattle.store_expiry.specs.Lines.{WritesAll}
use Rattle.store_expiry.specs.Surveys.{IsFoundAt, IsSurveyedAt, IsWholeOrUnexpired}
use Rattle.store_expiry.specs.declared.expired.Expired.{Expired}
use Rattle.store_expiry.specs.declared.survey.Found.{Found}
use Rattle.store_expiry.specs.declared.survey.Survey.{Survey}
use Rattle.store_expiry.proofs.Shedding.{unchanged_stays}
use Rattle.store_expiry.proofs.Telling.{clear_is_all}

-- what a segment holds is of its period
held_of_period : (period name : List ℕ) (o : Option (List ℕ)) (e : Entry) → IsSegment period name → HeldAt name o e
    → IsOfPeriod period e
held_of_period period name None e segment held = absurd held
held_of_period period name (Some file) e segment (inl journal) = absurd (not_both period name journal.0 segment)
held_of_period period name (Some file) e segment (inr (p, named, has)) =
    subst (λ (q : List ℕ). IsOfPeriod q e) (day_named p period name named segment)
    (of_member (IsOfPeriod p) has.entries e has.days has.has)

text_of_period : (period : List ℕ) (e : Entry) → IsOfPeriod period e → IsPeriodText period
text_of_period period e (inl day) = inl (day_text period e day)
text_of_period period e (inr mixed) = inr mixed

-- the name is that of no segment
pub clear_unnamed : (x : Expired) (files : Files) (name : List ℕ)
    → ((period : List ℕ) → IsPeriodText period → IsSegment period name → ⊥) → IsClear x files name
clear_unnamed x files name none period e segment held expired =
    none period (text_of_period period e (held_of_period period name (files name) e segment held)) segment

-- and it is none that is damaged
pub whole_unnamed : (x : Expired) (files : Files) (name : List ℕ)
    → ((period : List ℕ) → IsPeriodText period → IsSegment period name → ⊥) → IsWholeOrUnexpired x files name
whole_unnamed x files name none period dated segment = absurd (none period dated segment)

pub whole_spared : (x : Expired) (files : Files) (name : List ℕ)
    → ((period : List ℕ) → IsSegment period name → (e : Entry) → IsOfPeriod period e → ¬ (IsExpired x e))
    → IsWholeOrUnexpired x files name
whole_spared x files name spares period dated segment = inr (spares period segment)

-- no record of its period is expired
pub clear_spared : (x : Expired) (files : Files) (name : List ℕ)
    → ((period : List ℕ) → IsSegment period name → (e : Entry) → IsOfPeriod period e → ¬ (IsExpired x e))
    → IsClear x files name
clear_spared x files name spares period e segment held =
    spares period segment e (held_of_period period name (files name) e segment held)

-- it has none
pub clear_surveyed : (x : Expired) (files : Files) (name period : List ℕ) (s : Survey)
    → IsSurveyedAt x files name period s → s.tally.expired ≡ false → IsClear x files name
clear_surveyed x files name period s v off p e segment held =
    v.is.tally.none off e
    (segment_no_more name period (text_of v.entries) v.entries v.is_file.segment v.is_file.archive e
    (subst (λ (o : Option (List ℕ)). HeldAt name o e) v.is_file.file held))

pub some_found : (o : Option Found) (found : Found) (P : Found → Type 0) → o ≡ Some found → IfSome o P → P found
some_found o found P is some = subst (λ (p : Option Found). IfSome p P) is some

pub none_found : (o : Option Found) → o ≡ None → IsNone o
none_found o is = subst IsNone (sym is) refl

pub found_here : (x : Expired) (old new : State) (name : List ℕ) (found : Found) → IsUnchanged old new
    → IsPeriodText found.period → IsSurveyedAt x (shown old) name found.period found.survey
    → IsTrue found.survey.tally.expired → IsFoundAt x (shown new) name found
found_here x old new name found same dated v some = record {
  dated = dated;
  surveyed = record {
    entries = v.entries;
    is_file = record {
      file = ap shown_now (same.entries name) ∙ v.is_file.file;
      segment = v.is_file.segment;
      archive = v.is_file.archive;
      named = v.is_file.named;
    };
    is = v.is;
  };
  some = some;
}

-- nothing has changed, and the file of a name is clear
pub clear_told : (x : Expired) (old new : State) → IsUnchanged old new → (name : List ℕ) (t : Option (List ℕ))
    → IsClear x (shown new) name → WritesAll x old new t t (λ n. n ≡ name)
clear_told x old new same name t clear =
    clear_is_all x old new t (λ n. n ≡ name) (unchanged_stays x old new same)
    (λ n is period e segment held. clear period e (subst (IsSegment period) is segment)
    (subst (λ (m : List ℕ). HeldAt m (shown new m) e) is
    (subst (λ (o : Option (List ℕ)). HeldAt n o e) (sym (ap shown_now (same.entries n))) held)))

not_mixed : (day : List ℕ) → IsDayText day → day ≢ codes "mixed"
not_mixed day (inl undated) is = omega (arith, ap length undated, ap length is)
not_mixed day (inr long) is = omega (arith, long, ap length is)

-- what a day's segment has is of its day
pub of_day : (day name period : List ℕ) (e : Entry) → IsDayText day → IsSegment day name → IsSegment period name
    → IsOfPeriod period e → IsOf day e
of_day day name period e dated segment named of =
    at (subst (λ (p : List ℕ). IsOfPeriod p e) (day_named period day name named segment) of)
  where
    at : IsOfPeriod day e → IsOf day e
    at (inl here) = here
    at (inr mixed) = absurd (not_mixed day dated mixed)
