-- The entries of batches.
use Rattle.std.proofs.Common.{◌≡◌, ◌⊎◌, inl, inr, ℕ, ◌≤◌, List, [], ◌∷◌, ◌++◌, length, refl, sym, ap, subst, ◌∙◌, arith}
use Rattle.std.proofs.lemmas.List.{append-nil}
use Rattle.std.specs.List.{AllByRecursion}
use Rattle.std.specs.Prelude.{Some}
use Rattle.journal.specs.Batches.{HasBatches, IsBody, batches_text}
use Rattle.journal.proofs.Readings.{one_reading}
use Rattle.archive_text.specs.Entries.{Entry, Has, IsEntry}
use Rattle.archive_text.specs.Text.{entry_text, text_of}
use Rattle.archive_text.specs.declared.limits.TheConstants.{ENTRY_MAX}
use Rattle.archive_text.proofs.Members.{all_append}
use Rattle.archive_text.proofs.Texts.{no_text, one_beginning, text_push}
use Rattle.record_store.specs.Holdings.{AreEntries, BatchHas, BatchesHave, HeldAt, IsBatch, JournalHas}
use Rattle.record_store.specs.Names.{IsJournal}
use Rattle.record_store.specs.Seals.{HasMore}
use Rattle.record_store.proofs.Named.{not_both}
use Rattle.record_store.proofs.Readings.{none_short}
use Rattle.record_store.proofs.Sealed.{Fits, begins_all, entries_more, plain_batch, seal_ends}

-- ---- a batch is of one list of entries

none_of : (es : List Entry) → [] ≡ text_of es → [] ≡ es
none_of es is = sym (no_text es [] (is ∙ sym (append-nil (text_of es))))

same_entries : (es fs : List Entry) (x y : List ℕ) → AllByRecursion IsEntry es → AllByRecursion Fits es
    → AllByRecursion IsEntry fs → AllByRecursion Fits fs → ¬ (HasMore x) → ¬ (HasMore y)
    → text_of es ++ x ≡ text_of fs ++ y → es ≡ fs
same_entries [] [] x y es_are es_fit fs_are fs_fit x_ends y_ends same = refl
same_entries [] (f ∷ fs) x y es_are es_fit fs_are fs_fit x_ends y_ends same =
    absurd (x_ends (subst HasMore (sym same) (entries_more f fs y fs_are.0 fs_fit.0)))
same_entries (e ∷ es) [] x y es_are es_fit fs_are fs_fit x_ends y_ends same =
    absurd (y_ends (subst HasMore same (entries_more e es x es_are.0 es_fit.0)))
same_entries (e ∷ es) (f ∷ fs) x y es_are es_fit fs_are fs_fit x_ends y_ends same =
    let both = one_beginning ENTRY_MAX ENTRY_MAX (text_of (e ∷ es) ++ x) e f (text_of es ++ x) (text_of fs ++ y)
    (begins_all e es x (text_of (e ∷ es) ++ x) es_are.0 es_fit.0 refl)
    (begins_all f fs y (text_of (e ∷ es) ++ x) fs_are.0 fs_fit.0 same) in
    let more = same_entries es fs x y es_are.1 es_fit.1 fs_are.1 fs_fit.1 x_ends y_ends both.1 in
    ap (λ (x : Entry). x ∷ es) both.0 ∙ ap (λ (xs : List Entry). f ∷ xs) more

pub one_batch : (es fs : List Entry) (body : List ℕ) → IsBatch es body → IsBatch fs body → es ≡ fs
one_batch es fs body one other =
    same_entries es fs one.behind other.behind one.entries one.fits other.entries other.fits
    (seal_ends (text_of es) one.behind one.seal) (seal_ends (text_of fs) other.behind other.seal)
    (sym one.text ∙ other.text)

pub one_list : (es fs : List Entry) (text : List ℕ) → AreEntries es text → AreEntries fs text → es ≡ fs
one_list es fs text one other = one_batch es fs text (plain_batch es text one) (plain_batch fs text other)

pub batch_has : (es : List Entry) (body : List ℕ) (e : Entry) → IsBatch es body → BatchHas body e → Has es e
batch_has es body e batch has =
    subst (λ (l : List Entry). Has l e) (one_batch has.entries es body has.batch batch) has.has

-- ---- what waits

pub none_wait : AreEntries [] []
none_wait = record { entries = tt; fits = tt; text_is = refl }

-- no octets are no entries
pub none_waits : (es : List Entry) (text : List ℕ) → text ≡ [] → AreEntries es text → [] ≡ es
none_waits es text none are = none_of es (sym none ∙ are.text_is)

-- one entry more
pub waiting_push : (es : List Entry) (e : Entry) (old new : List ℕ) → AreEntries es old → IsEntry e → Fits e
    → new ≡ old ++ entry_text e → AreEntries (es ++ e ∷ []) new
waiting_push es e old new are entry fits is = record {
  entries = all_append IsEntry es (e ∷ []) are.entries (entry, tt);
  fits = all_append Fits es (e ∷ []) are.fits (fits, tt);
  text_is = is ∙ ap (λ (t : List ℕ). t ++ entry_text e) are.text_is ∙ sym (text_push es e);
}

-- ---- one batch more

pub pushed_has : (bodies : List (List ℕ)) (body : List ℕ) (e : Entry) → BatchesHave bodies e
    → BatchesHave (bodies ++ body ∷ []) e
pushed_has [] body e has = absurd has
pushed_has (b ∷ bodies) body e (inl here) = inl here
pushed_has (b ∷ bodies) body e (inr more) = inr (pushed_has bodies body e more)

pub push_has : (bodies : List (List ℕ)) (body : List ℕ) (e : Entry) → BatchHas body e
    → BatchesHave (bodies ++ body ∷ []) e
push_has [] body e has = inl has
push_has (b ∷ bodies) body e has = inr (push_has bodies body e has)

pub pushed_either : (bodies : List (List ℕ)) (body : List ℕ) (e : Entry) → BatchesHave (bodies ++ body ∷ []) e
    → BatchesHave bodies e ⊎ BatchHas body e
pushed_either [] body e (inl here) = inr here
pushed_either [] body e (inr none) = absurd none
pushed_either (b ∷ bodies) body e (inl here) = inl (inl here)
pushed_either (b ∷ bodies) body e (inr more) =
    elim (pushed_either bodies body e more) [ inl before ↦ inl (inr before) | inr last ↦ inr last ]

-- ---- a journal's file

pub journal_has : (file : List ℕ) (bodies : List (List ℕ)) (e : Entry) → HasBatches file bodies → JournalHas file e
    → BatchesHave bodies e
journal_has file bodies e batches has =
    subst (λ (b : List (List ℕ)). BatchesHave b e) (one_reading file has.bodies bodies has.batches batches) has.has

-- what is held under a journal's name, its batches have
pub journal_holds : (name file : List ℕ) (bodies : List (List ℕ)) (e : Entry) → IsJournal name
    → HasBatches file bodies → HeldAt name (Some file) e → BatchesHave bodies e
journal_holds name file bodies e is batches (inl held) = journal_has file bodies e batches held.1
journal_holds name file bodies e is batches (inr (day, segment, held)) = absurd (not_both day name is segment)

pub held_in_journal : (name file : List ℕ) (bodies : List (List ℕ)) (e : Entry) → IsJournal name
    → HasBatches file bodies → BatchesHave bodies e → HeldAt name (Some file) e
held_in_journal name file bodies e is batches has =
    inl (is, record { bodies = bodies; batches = batches; has = has })

-- batches and nothing behind them
pub text_has : (text : List ℕ) (bodies : List (List ℕ)) → text ≡ batches_text bodies → AllByRecursion IsBody bodies
    → HasBatches text bodies
text_has text bodies is sized = record {
  tail = [];
  text = is ∙ sym (append-nil (batches_text bodies));
  closed = none_short [] (omega arith);
  sized = sized;
}

-- no batches have no entries
pub nothing_has : (text : List ℕ) (e : Entry) → text ≡ [] → JournalHas text e → ⊥
nothing_has text e none has = journal_has text [] e (text_has text [] none tt) has
