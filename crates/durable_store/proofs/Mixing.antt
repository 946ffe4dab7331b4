-- The days that share a segment.
use Rattle.std.proofs.Common.{◌≡◌, ◌⊎◌, inl, inr, ⊎_elim, ℕ, List, [], ◌∷◌, ◌++◌, length, refl, sym, ap, subst, ◌∙◌}
use Rattle.std.proofs.Common.{append_assoc, ◌≤◌}
use Rattle.std.specs.Prelude.{codes}
use Rattle.std.proofs.lemmas.List.{append-nil}
use Rattle.std.specs.List.{AllByRecursion}
use Rattle.disk.specs.States.{State}
use Rattle.archive_text.specs.Entries.{Entry, Has, IsAscending, IsEntry}
use Rattle.archive_text.specs.Text.{IsArchive, text_of}
use Rattle.archive_text.specs.declared.limits.TheConstants.{ENTRY_MAX}
use Rattle.archive_text.proofs.Ascending.{ascending_removed}
use Rattle.archive_text.proofs.Members.{all_append, all_left, all_right, all_weaker, has_either, has_left, has_right}
use Rattle.archive_text.proofs.Texts.{text_append}
use Rattle.record_store.specs.Holdings.{IsOfPeriod}
use Rattle.journal.specs.Journals.{IsSound}
use Rattle.record_store.specs.Segments.{Drafts}
use Rattle.record_store.specs.Stores.{AreAmong}
use Rattle.record_store.specs.declared.segment.SegmentDraft.{SegmentDraft}
use Rattle.durable_store.specs.Segments.{DraftsMixed, IsWritten, KeepsAside, Mixes, MixesDay, Puts, PutsMixed}
use Rattle.durable_store.specs.Shares.{AreDays, HasShare, IsDay}
use Rattle.durable_store.proofs.Daily.{all_pushed}
use Rattle.durable_store.proofs.Runs.{days_push}

-- ---- an archive without some of its entries

ascending_without : (a b c : List Entry) → IsAscending (a ++ (b ++ c)) → IsAscending (a ++ c)
ascending_without a [] c h = h
ascending_without a (e ∷ b) c h = ascending_without a b c (ascending_removed a (b ++ c) e h)

all_without : (P : Entry → Type 0) (a b c : List Entry) → AllByRecursion P (a ++ (b ++ c))
    → AllByRecursion P (a ++ c)
all_without P a b c h =
    all_append P a c (all_left P a (b ++ c) h) (all_right P b c (all_right P a (b ++ c) h))

archive_without : (most : ℕ) (a b c : List Entry) → IsArchive most (a ++ (b ++ c)) → IsArchive most (a ++ c)
archive_without most a b c h = record {
  ascending = ascending_without a b c h.ascending;
  entries = all_without IsEntry a b c h.entries;
  fits = all_without (λ e. length e.octets ≤ most) a b c h.fits;
}

among_without : (a b c received : List Entry) → AreAmong (a ++ (b ++ c)) received → AreAmong (a ++ c) received
among_without a b c received among e has =
    among e (⊎_elim (λ left. has_left a (b ++ c) e left) (λ right. has_right a (b ++ c) e (has_right b c e right))
    (has_either a c e has))

-- ---- all days, so far

pub record MixedSoFar (tells : Type 0) (total : ℕ) (before : SegmentDraft) (old : State) (none : List ℕ)
    (after : SegmentDraft) (new : State) (held : List ℕ) (all rest : List Entry) : Type 0 where
  pub runs : List (List Entry)
  pub are : AreDays all runs rest
  pub mixed : List Entry
  pub mixes : Mixes total runs mixed
  pub archive : IsArchive ENTRY_MAX all → IsArchive ENTRY_MAX (mixed ++ rest)
  pub among : AreAmong (mixed ++ rest) all
  pub puts : Puts tells before old none after new held (text_of mixed)

pub none_mixed : (tells : Type 0) (total : ℕ) (draft : SegmentDraft) (state : State) (held : List ℕ)
    (all rest : List Entry) → held ≡ [] → rest ≡ all → MixedSoFar tells total draft state [] draft state held all rest
none_mixed tells total draft state held all rest empty same = record {
  runs = [];
  are = sym same;
  mixed = [];
  mixes = tt;
  archive = λ archive. subst (IsArchive ENTRY_MAX) (sym same) archive;
  among = subst (λ (l : List Entry). AreAmong l all) (sym same) (λ e has. has);
  puts = λ tell text written.
      subst (λ (t : List ℕ). IsWritten draft state held t) (sym (append-nil text))
      (subst (λ (h : List ℕ). IsWritten draft state h text) (sym empty) written);
}

module _ (tells told : Type 0) (total : ℕ) (before : SegmentDraft) (old : State) (none : List ℕ) (mid : SegmentDraft)
    (state : State) (held : List ℕ) (after : SegmentDraft) (new : State) (held_then : List ℕ)
    (all rest these next : List Entry) (back : tells → told)
    (so_far : MixedSoFar told total before old none mid state held all rest) (is : rest ≡ these)
    (day : MixesDay tells total mid state held after new held_then these next) where
  mixed_then : List Entry
  mixed_then = so_far.mixed ++ day.mixed

  left : rest ≡ day.run ++ next
  left = is ∙ day.is.parts

  -- what goes on behind the mixed entries
  then : ((P : List Entry → Type 0) → ((a b c : List Entry) → P (a ++ (b ++ c)) → P (a ++ c))
      → P (so_far.mixed ++ rest) → P (mixed_then ++ next))
  unfolding mixed_then
  then P without before = ⊎_elim
      (λ (skipped : HasShare total day.run × (day.mixed ≡ [])).
      subst (λ (l : List Entry). P (l ++ next))
      (sym (ap (λ (l : List Entry). so_far.mixed ++ l) skipped.1 ∙ append-nil so_far.mixed))
      (without so_far.mixed day.run next (subst (λ (l : List Entry). P (so_far.mixed ++ l)) left before)))
      (λ (same : day.mixed ≡ day.run).
      subst P
      (sym (append_assoc so_far.mixed day.run next)
      ∙ ap (λ (l : List Entry). (so_far.mixed ++ l) ++ next) (sym same))
      (subst (λ (l : List Entry). P (so_far.mixed ++ l)) left before))
      day.which

  pub mixed_more : MixedSoFar tells total before old none after new held_then all next
  unfolding mixed_then
  mixed_more = record {
    runs = so_far.runs ++ day.run ∷ [];
    are = days_push all so_far.runs day.run rest next so_far.are
        (subst (λ (l : List Entry). IsDay l day.run next) (sym is) day.is);
    mixed = mixed_then;
    mixes = all_append (λ run. HasShare total run ⊎ AreAmong run mixed_then) so_far.runs (day.run ∷ [])
        (all_weaker (λ run. HasShare total run ⊎ AreAmong run so_far.mixed)
        (λ run. HasShare total run ⊎ AreAmong run mixed_then)
        (λ run either. ⊎_elim (λ has. inl has)
        (λ (among : AreAmong run so_far.mixed). inr (λ e has. has_left so_far.mixed day.mixed e (among e has))) either)
        so_far.runs so_far.mixes) (
          ⊎_elim (λ skipped. inl skipped.0)
              (λ (same : day.mixed ≡ day.run). inr (λ e has.
              has_right so_far.mixed day.mixed e (subst (λ (l : List Entry). Has l e) (sym same) has))) day.which,
          tt,
        );
    archive = λ archive.
        then (IsArchive ENTRY_MAX) (archive_without ENTRY_MAX) (so_far.archive archive);
    among = then (λ (l : List Entry). AreAmong l all) (λ a b c among. among_without a b c all among) so_far.among;
    puts = λ tell text written.
        subst (IsWritten after new held_then)
        (append_assoc text (text_of so_far.mixed) (text_of day.mixed)
        ∙ ap (λ (t : List ℕ). text ++ t) (sym (text_append so_far.mixed day.mixed)))
        (day.puts tell (text ++ text_of so_far.mixed) (so_far.puts (back tell) text written));
  }

-- the rest is pushed
pub mixed_all : (tells told : Type 0) (total : ℕ) (before : SegmentDraft) (old : State) (none : List ℕ)
    (mid : SegmentDraft) (state : State) (held piece : List ℕ) (after : SegmentDraft) (new : State)
    (all rest : List Entry) → (tells → told) → none ≡ [] → piece ≡ held → rest ≡ []
    → MixedSoFar told total before old none mid state held all rest
    → (tells → (text : List ℕ) → Drafts mid state text → Drafts after new (text ++ piece))
    → PutsMixed tells total before old after new all
mixed_all tells told total before old none mid state held piece after new all rest back empty same ends so_far pushed =
    let whole : so_far.mixed ++ rest ≡ so_far.mixed =
    ap (λ (l : List Entry). so_far.mixed ++ l) ends ∙ append-nil so_far.mixed in
    record {
      runs = so_far.runs;
      are = subst (λ (l : List Entry). AreDays all so_far.runs l) ends so_far.are;
      mixed = so_far.mixed;
      mixes = so_far.mixes;
      archive = λ archive. subst (IsArchive ENTRY_MAX) whole (so_far.archive archive);
      among = subst (λ (l : List Entry). AreAmong l all) whole so_far.among;
      drafts = all_pushed tells told before old none mid state held piece after new (text_of so_far.mixed) back empty
          same so_far.puts pushed;
    }

-- any entry may be in the segment
pub any_period : (es : List Entry) → AllByRecursion (IsOfPeriod (codes "mixed")) es
any_period [] = tt
any_period (e ∷ es) = (inr refl, any_period es)

pub mixed_drafted : (zero one two : State) (tells : Type 0) (total : ℕ) (begun draft : SegmentDraft) (name : List ℕ)
    (all : List Entry) → (tells → IsSound zero → Drafts begun one []) → (tells → KeepsAside zero two name)
    → PutsMixed tells total begun one draft two all → begun.name ≡ name → draft.name ≡ begun.name
    → DraftsMixed tells total zero two name draft all
mixed_drafted zero one two tells total begun draft name all begins aside put named kept = record {
  runs = put.runs;
  are = put.are;
  mixed = put.mixed;
  mixes = put.mixes;
  drafts = record {
    named = kept ∙ named;
    aside = aside;
    drafts = λ tell sound. put.drafts tell (begins tell sound);
    archive = put.archive;
    among = put.among;
    days = any_period put.mixed;
  };
}
