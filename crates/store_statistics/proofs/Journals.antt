-- The entries of a journal's batches are counted.
use Rattle.std.proofs.Common.{◌≡◌, ℕ, ◌≤◌, ◌<◌, ◌^◌, List, [], ◌∷◌, ◌++◌, length, refl, sym, ap, subst, ◌∙◌, arith}
use Rattle.std.proofs.Common.{append-nil, append_assoc, length-append}
use Rattle.std.specs.Int.{to_le_bytes, w32}
use Rattle.std.specs.List.{AllByRecursion}
use Rattle.journal.specs.Batches.{HasBatches, IsBody, IsClosed, batches_text, open_batch}
use Rattle.journal.proofs.Batches.{sized_push, text-push}
use Rattle.journal.proofs.Readings.{one_reading}
use Rattle.archive_text.specs.Entries.{Entry, IsEntry}
use Rattle.archive_text.specs.Faults.{IsFaultBefore}
use Rattle.archive_text.specs.Text.{BeginsWithEntry, text_of}
use Rattle.archive_text.specs.declared.fault.ArchiveFault.{ArchiveFault}
use Rattle.archive_text.specs.declared.limits.TheConstants.{ENTRY_MAX}
use Rattle.archive_text.proofs.Members.{all_append}
use Rattle.archive_text.proofs.Texts.{text_goes_on}
use Rattle.archive_sets.proofs.Selecting.{no_more_than_octets}
use Rattle.record_store.specs.Holdings.{IsBatch, IsReadable, IsWholeJournal}
use Rattle.record_store.specs.Seals.{HasMore}
use Rattle.record_store.proofs.Batches.{one_batch}
use Rattle.record_store.proofs.Sealed.{rest_of, rest_seals}
use Rattle.store_reading.proofs.Readable.{fault_unreadable}
use Rattle.store_statistics.specs.Files.{AreOfBatches, AreOfJournal, IsJournalWith}
use Rattle.store_statistics.specs.Tallies.{IsTallyOf}
use Rattle.store_statistics.specs.declared.figures.Figures.{Figures}
use Rattle.store_statistics.specs.declared.tally.Tally.{Tally}
use Rattle.store_statistics.proofs.Counting.{are_figures}

-- ---- a batch

-- the entries before the rest of a batch were counted
pub record BatchCounted (s t : Tally) (body rest : List ℕ) : Type 0 where
  pub entries : List Entry
  pub are : AllByRecursion IsEntry entries
  pub fit : AllByRecursion (λ e. length e.octets ≤ ENTRY_MAX) entries
  pub parts : body ≡ text_of entries ++ rest
  pub tally : (before : List Entry) → IsTallyOf s before → IsTallyOf t (before ++ entries)

pub batch_begun : (s : Tally) (body : List ℕ) → BatchCounted s s body body
batch_begun s body = record {
  entries = [];
  are = tt;
  fit = tt;
  parts = refl;
  tally = λ before h. subst (IsTallyOf s) (sym (append-nil before)) h;
}

pub batch_more : (s t u : Tally) (body rest behind : List ℕ) (e : Entry) → BatchCounted s t body rest
    → BeginsWithEntry ENTRY_MAX rest e behind → ((es : List Entry) → IsTallyOf t es → IsTallyOf u (es ++ e ∷ []))
    → BatchCounted s u body behind
batch_more s t u body rest behind e b begins tallies = record {
  entries = b.entries ++ e ∷ [];
  are = all_append IsEntry b.entries (e ∷ []) b.are (begins.entry, tt);
  fit = all_append (λ x. length x.octets ≤ ENTRY_MAX) b.entries (e ∷ []) b.fit (begins.fits, tt);
  parts = text_goes_on b.entries e body rest behind b.parts begins.parts;
  tally = λ before h. subst (IsTallyOf u) (append_assoc before b.entries (e ∷ []))
      (tallies (before ++ b.entries) (b.tally before h));
}

-- no more entries come
pub batch_counted : (s t : Tally) (body rest : List ℕ) → BatchCounted s t body rest → ¬ (HasMore rest)
    → (before es : List Entry) → IsBatch es body → IsTallyOf s before → IsTallyOf t (before ++ es)
batch_counted s t body rest b over before es batch h =
    let seals = rest_seals b.entries rest over (rest_of b.entries rest body b.parts b.are b.fit (es, batch)) in
    let one : IsBatch b.entries body =
    record { entries = b.are; fits = b.fit; behind = rest; text = b.parts; seal = seals } in
    subst (λ (l : List Entry). IsTallyOf t (before ++ l)) (one_batch b.entries es body one batch) (b.tally before h)

-- a fault comes, which no batch has
pub none_counted : (s t : Tally) (body rest : List ℕ) (fault : ArchiveFault) → BatchCounted s t body rest
    → IsFaultBefore ENTRY_MAX rest fault → HasMore rest → (es : List Entry) → IsBatch es body → ⊥
none_counted s t body rest fault b bad more es batch =
    fault_unreadable b.entries body rest b.are b.fit b.parts fault bad more (es, batch)

-- ---- a journal

-- of entries of batches and of one more, the first are those of the batches, and the others those of the one
record Parts (bodies : List (List ℕ)) (body : List ℕ) (es : List Entry) : Type 0 where
  pub first : List Entry
  pub more : List Entry
  pub is : es ≡ first ++ more
  pub of : AreOfBatches bodies first
  pub batch : IsBatch more body

parts_of : (bodies : List (List ℕ)) (body : List ℕ) (es : List Entry) → AreOfBatches (bodies ++ body ∷ []) es
    → Parts bodies body es
parts_of [] body es (first, more, is, batch, none) = record {
  first = [];
  more = es;
  is = refl;
  of = refl;
  batch = subst (λ (l : List Entry). IsBatch l body)
      (sym (is ∙ ap (λ (l : List Entry). first ++ l) none ∙ append-nil first)) batch;
}
parts_of (b ∷ bodies) body es (first, more, is, batch, others) =
    let p = parts_of bodies body more others in
    record {
      first = first ++ p.first;
      more = p.more;
      is = is ∙ ap (λ (l : List Entry). first ++ l) p.is ∙ sym (append_assoc first p.first p.more);
      of = (first, p.first, refl, batch, p.of);
      batch = p.batch;
    }

-- the entries of the batches before the rest of a journal were counted
pub record JournalCounted (t : Tally) (file rest : List ℕ) : Type 0 where
  pub bodies : List (List ℕ)
  pub sized : AllByRecursion IsBody bodies
  pub parts : file ≡ batches_text bodies ++ rest
  pub tally : (es : List Entry) → AreOfBatches bodies es → IsTallyOf t es

pub journal_begun : (t : Tally) (file : List ℕ) → IsTallyOf t [] → JournalCounted t file file
journal_begun t file none = record {
  bodies = [];
  sized = tt;
  parts = refl;
  tally = λ es is. subst (IsTallyOf t) (sym is) none;
}

pub journal_more : (s t : Tally) (file rest body after : List ℕ) → JournalCounted s file rest
    → IsBody body × (rest ≡ open_batch body ++ after)
    → ((before es : List Entry) → IsBatch es body → IsTallyOf s before → IsTallyOf t (before ++ es))
    → JournalCounted t file after
journal_more s t file rest body after j (sized, is) counts = record {
  bodies = j.bodies ++ body ∷ [];
  sized = sized_push j.bodies body j.sized sized;
  parts = j.parts ∙ ap (λ (t : List ℕ). batches_text j.bodies ++ t) is
      ∙ sym (append_assoc (batches_text j.bodies) (open_batch body) after) ∙ sym (text-push j.bodies body after);
  tally = λ es of. let p = parts_of j.bodies body es of in
      subst (IsTallyOf t) (sym p.is) (counts p.first p.more p.batch (j.tally p.first p.of));
}

pub journal_counted : (t : Tally) (file rest : List ℕ) → JournalCounted t file rest → IsClosed rest
    → (es : List Entry) → AreOfJournal file es → IsTallyOf t es
journal_counted t file rest j closed es of =
    let batches : HasBatches file j.bodies = record { tail = rest; text = j.parts; closed = closed; sized = j.sized } in
    j.tally es (subst (λ (b : List (List ℕ)). AreOfBatches b es) (one_reading file of.bodies j.bodies of.batches batches)
    of.of)

-- ---- a whole journal

record SomeEntries (bodies : List (List ℕ)) : Type 0 where
  pub entries : List Entry
  pub of : AreOfBatches bodies entries
  pub few : length entries ≤ length (batches_text bodies)

some_entries : (bodies : List (List ℕ)) → AllByRecursion IsReadable bodies → SomeEntries bodies
some_entries [] all = record { entries = []; of = refl; few = omega arith }
some_entries (body ∷ bodies) (first, others) =
    let rest = some_entries bodies others in
    let es = first.0 in
    record {
      entries = es ++ rest.entries;
      of = (es, rest.entries, refl, first.1, rest.of);
      few = omega (
        arith,
        length-append es rest.entries,
        length-append (open_batch body) (batches_text bodies),
        rest.few,
        no_more_than_octets es,
        ap length first.1.text,
        length-append (text_of es) first.1.behind,
        at_most body,
      );
    }
  where
    at_most : (b : List ℕ) → length b ≤ length (open_batch b)
    at_most b = omega (arith, length-append (to_le_bytes w32 (length b)) b)

pub whole_journal : (file : List ℕ) (f : Figures) → IsWholeJournal file → f.octets ≡ length file
    → length file < 2 ^ 64 → ((es : List Entry) → AreOfJournal file es → IsTallyOf f.tally es) → IsJournalWith file f
whole_journal file f whole octets short tallies =
    let some = some_entries whole.bodies whole.readable in
    let of : AreOfJournal file some.entries =
    record { bodies = whole.bodies; batches = whole.batches; of = some.of } in
    record {
      whole = whole;
      entries = some.entries;
      of = of;
      figures = are_figures f some.entries (length file) (tallies some.entries of) octets
          (omega (
            arith,
            some.few,
            ap length whole.batches.text,
            length-append (batches_text whole.bodies) whole.batches.tail,
          )) short;
    }
