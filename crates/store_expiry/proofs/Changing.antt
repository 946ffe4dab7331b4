-- What may become of a file.
use Rattle.std.proofs.Common.{◌≡◌, ◌≢◌, ◌⊎◌, inl, inr, ⊎_elim, ℕ, List, ◌∷◌, ◌++◌, refl, sym, ap, subst, ◌∙◌}
use Rattle.std.proofs.Common.{arith, get_or, length, length-append}
use Rattle.std.specs.Prelude.{Option, None, Some, IfSome, codes}
use Rattle.disk.specs.States.{Files}
use Rattle.archive_text.specs.Entries.{Entry}
use Rattle.archive_text.specs.Text.{text_of}
use Rattle.archive_text.specs.declared.limits.TheConstants.{ENTRY_MAX}
use Rattle.archive_text.proofs.Members.{of_all, of_member}
use Rattle.archive_sets.specs.Selections.{IsSelection}
use Rattle.archive_sets.proofs.SelectionLaws.{selection_archive}
use Rattle.record_store.specs.Holdings.{HeldAt, IsOfPeriod}
use Rattle.record_store.specs.Names.{Counts, IsSegment}
use Rattle.record_store.specs.Segments.{IsSegmentOf, segment_name}
use Rattle.record_store.proofs.Drafted.{segment_has, segment_no_more}
use Rattle.store_reading.specs.Whole.{IsWholeSegment}
use Rattle.store_upkeep.proofs.Verdicts.{day_named}
use Rattle.store_expiry.specs.Expired.{IsExpired}
use Rattle.store_expiry.specs.Expiry.{ChangesAt, IsClear, IsRestAt, expire_draft}
use Rattle.store_expiry.specs.Surveys.{HasExpired, IsExpiredAt, IsLeftOver, IsNoneOrWhole, IsSegmentFile}
use Rattle.store_expiry.specs.Surveys.{IsSurveyedAt, IsUnexpired, IsWholeOrUnexpired}
use Rattle.store_expiry.specs.declared.expired.Expired.{Expired}
use Rattle.store_expiry.specs.declared.survey.Survey.{Survey}

-- ---- the draft counts for nothing

pub draft_apart : ¬ (Counts expire_draft)
draft_apart (inl journal) = omega (arith, ap (λ (l : List ℕ). get_or l 0 0) journal.name_is)
draft_apart (inr (period, segment)) =
    omega (
      arith,
      ap length segment.name_is,
      length-append (period ++ 46 ∷ segment.digest) (codes ".archive"),
      length-append period (46 ∷ segment.digest),
      segment.long,
    )

pub segment_apart : (period name : List ℕ) → IsSegment period name → name ≢ expire_draft
segment_apart period name segment is = draft_apart (inr (period, subst (IsSegment period) is segment))

-- ---- files that are clear

-- the same file is as clear
pub clear_as : (x : Expired) (one other : Files) (name : List ℕ) → other name ≡ one name → IsClear x one name
    → IsClear x other name
clear_as x one other name same clear period e segment held =
    clear period e segment (subst (λ (o : Option (List ℕ)). HeldAt name o e) same held)

pub clear_none : (x : Expired) (files : Files) (name : List ℕ) → files name ≡ None → IsClear x files name
clear_none x files name none period e segment held =
    absurd (subst (λ (o : Option (List ℕ)). HeldAt name o e) none held)

pub expired_not_clear : (x : Expired) (files : Files) (name period : List ℕ) (es : List Entry)
    → HasExpired x files name period es → ¬ (IsClear x files name)
expired_not_clear x files name period es h clear =
    clear period h.some.some h.is_file.segment
    (subst (λ (o : Option (List ℕ)). HeldAt name o h.some.some) (sym h.is_file.file)
    (segment_has name period (text_of es) es h.is_file.segment h.is_file.archive h.some.some h.some.has))
    h.some.expired

pub rest_archive : (x : Expired) (period : List ℕ) (es left : List Entry) → IsSegmentOf period (text_of es) es
    → IsSelection (λ y. ¬ (IsExpired x y)) es left → IsSegmentOf period (text_of left) left
rest_archive x period es left is selection = record {
  archive = selection_archive (λ y. ¬ (IsExpired x y)) ENTRY_MAX es left is.archive selection;
  text_is = refl;
  days = of_all (IsOfPeriod period) left
      (λ e has. of_member (IsOfPeriod period) es e is.days ((selection.members e).0 has).0);
}

-- what is left has nothing expired
pub rest_clear : (x : Expired) (old new : Files) (name : List ℕ) → IsRestAt x old new name → IsClear x new name
rest_clear x old new name r period e segment held =
    ((r.over.selection.members e).0
    (segment_no_more name r.period (text_of r.left) r.left r.segment
    (rest_archive x r.period r.over.entries r.left r.over.whole.is_file.archive r.over.selection) e
    (subst (λ (o : Option (List ℕ)). HeldAt name o e) r.file held))).1

pub changed_clear : (x : Expired) (old new : Files) (name : List ℕ) → ChangesAt x old new name
    → (new name ≡ old name) ⊎ IsClear x new name
changed_clear x old new name (inl same) = inl same
changed_clear x old new name (inr (inl (was, none))) = inr (clear_none x new name none)
changed_clear x old new name (inr (inr (free, rest))) = inr (rest_clear x old new name rest)

-- ---- steps behind one another

pub file_as : (one other : Files) (name period : List ℕ) (es : List Entry) → other name ≡ one name
    → IsSegmentFile one name period es → IsSegmentFile other name period es
file_as one other name period es same f = record {
  file = same ∙ f.file;
  segment = f.segment;
  archive = f.archive;
  named = f.named;
}

pub expired_as : (x : Expired) (one other : Files) (name period : List ℕ) (es : List Entry) → other name ≡ one name
    → HasExpired x one name period es → HasExpired x other name period es
expired_as x one other name period es same h =
    record { is_file = file_as one other name period es same h.is_file; some = h.some }

pub free_as : (one other : Files) (name : List ℕ) → other name ≡ one name → IsNoneOrWhole one name
    → IsNoneOrWhole other name
free_as one other name same (inl none) = inl (same ∙ none)
free_as one other name same (inr (period, es, f)) = inr (period, es, file_as one other name period es same f)

-- what has something expired is as it was
pub expired_before : (x : Expired) (a b : Files) (name period : List ℕ) (es : List Entry)
    → HasExpired x b name period es → ChangesAt x a b name → HasExpired x a name period es
expired_before x a b name period es h (inl same) = expired_as x b a name period es (sym same) h
expired_before x a b name period es h (inr (inl (was, none))) = absurd (cc (sym none ∙ h.is_file.file))
expired_before x a b name period es h (inr (inr (free, rest))) =
    absurd (expired_not_clear x b name period es h (rest_clear x a b name rest))

module _ (x : Expired) (a b c : Files)
    (changes : (name : List ℕ) → name ≢ expire_draft → ChangesAt x a b name) where
  rest_before : (name : List ℕ) → IsRestAt x b c name → IsRestAt x a c name
  rest_before name r = record {
    period = r.period;
    left = r.left;
    over = record {
      source = r.over.source;
      entries = r.over.entries;
      whole = expired_before x a b r.over.source r.period r.over.entries r.over.whole
          (changes r.over.source (segment_apart r.period r.over.source r.over.whole.is_file.segment));
      selection = r.over.selection;
    };
    segment = r.segment;
    named = r.named;
    file = r.file;
  }

  rest_on : (name : List ℕ) → c name ≡ b name → IsRestAt x a b name → IsRestAt x a c name
  rest_on name same r = record {
    period = r.period;
    left = r.left;
    over = r.over;
    segment = r.segment;
    named = r.named;
    file = same ∙ r.file;
  }

  pub then_changes : (name : List ℕ) → ChangesAt x a b name → ChangesAt x b c name → ChangesAt x a c name
  then_changes name (inl was) (inl same) = inl (same ∙ was)
  then_changes name (inl was) (inr (inl ((period, es, h), none))) =
      inr (inl ((period, es, expired_as x b a name period es (sym was) h), none))
  then_changes name (inl was) (inr (inr (free, rest))) =
      inr (inr (free_as b a name (sym was) free, rest_before name rest))
  then_changes name (inr (inl (was, none))) (inl same) = inr (inl (was, same ∙ none))
  then_changes name (inr (inl (was, none))) (inr (inl ((period, es, h), gone))) =
      absurd (cc (sym none ∙ h.is_file.file))
  then_changes name (inr (inl ((period, es, h), none))) (inr (inr (free, rest))) =
      inr (inr (inr (period, es, h.is_file), rest_before name rest))
  then_changes name (inr (inr (free, was))) (inl same) = inr (inr (free, rest_on name same was))
  then_changes name (inr (inr (free, was))) (inr (inl ((period, es, h), none))) =
      absurd (expired_not_clear x b name period es h (rest_clear x a b name was))
  then_changes name (inr (inr (free, was))) (inr (inr (_, rest))) = inr (inr (free, rest_before name rest))

-- ---- segments that are whole

file_whole : (files : Files) (name period day : List ℕ) (es : List Entry) → IsSegmentFile files name day es
    → IsSegment period name → IfSome (files name) (IsWholeSegment period name)
file_whole files name period day es f segment =
    let is : day ≡ period = day_named day period name f.segment segment in
    subst (λ (o : Option (List ℕ)). IfSome o (IsWholeSegment period name)) (sym f.file)
    (record {
      entries = es;
      archive = subst (λ (p : List ℕ). IsSegmentOf p (text_of es) es) is f.archive;
      named = subst (λ (p : List ℕ). name ≡ segment_name p (text_of es)) is f.named;
    })

none_whole : (files : Files) (name period : List ℕ) → files name ≡ None
    → IfSome (files name) (IsWholeSegment period name)
none_whole files name period none =
    subst (λ (o : Option (List ℕ)). IfSome o (IsWholeSegment period name)) (sym none) tt

free_whole : (files : Files) (name period : List ℕ) → IsNoneOrWhole files name → IsSegment period name
    → IfSome (files name) (IsWholeSegment period name)
free_whole files name period (inl none) segment = none_whole files name period none
free_whole files name period (inr (day, es, f)) segment = file_whole files name period day es f segment

pub whole_none : (x : Expired) (files : Files) (name : List ℕ) → files name ≡ None → IsWholeOrUnexpired x files name
whole_none x files name none period dated segment = inl (none_whole files name period none)

pub whole_surveyed : (x : Expired) (files : Files) (name period : List ℕ) (s : Survey)
    → IsSurveyedAt x files name period s → IsWholeOrUnexpired x files name
whole_surveyed x files name day s v period dated segment =
    inl (file_whole files name period day v.entries v.is_file segment)

-- what is whole was whole before
pub whole_before : (x : Expired) (a b : Files) (name : List ℕ) → ChangesAt x a b name → IsWholeOrUnexpired x b name
    → IsWholeOrUnexpired x a name
whole_before x a b name (inl same) whole period dated segment =
    subst (λ (o : Option (List ℕ)). IfSome o (IsWholeSegment period name) ⊎ IsUnexpired x period) same
    (whole period dated segment)
whole_before x a b name (inr (inl ((day, es, h), none))) whole period dated segment =
    inl (file_whole a name period day es h.is_file segment)
whole_before x a b name (inr (inr (free, rest))) whole period dated segment =
    inl (free_whole a name period free segment)
