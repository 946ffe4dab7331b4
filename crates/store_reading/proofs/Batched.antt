-- The entries of batches are added to a set.
use Rattle.std.proofs.Common.{◌≡◌, ◌⊎◌, ℕ, ◌<◌, ◌≤◌, List, [], ◌∷◌, ◌++◌, Option, None, Some, length, take, drop}
use Rattle.std.proofs.Common.{◌≢◌, inl, inr}
use Rattle.std.proofs.Common.{refl, sym, ap, subst, ◌∙◌, append_assoc, arith, length-append}
use Rattle.std.specs.Prelude.{◌↔◌, Bool, Err, IfOk, IfSome, IsErrOf, IsSomeAnd, IsTrue, Ok, Result, Vec, ℤ, codes, false}
use Rattle.std.proofs.lemmas.Bool.{false≢true}
use Rattle.std.specs.Int.{to_le_bytes, w32}
use Rattle.std.specs.List.{AllByRecursion}
use Rattle.std.proofs.lemmas.List.{append-nil, length-take, take_all, take_at, drop_at}
use Rattle.disk.specs.States.{Files}
use Rattle.journal.specs.Batches.{batches_text, BeginsWithBatch, HasBatches, IsBody, IsClosed, open_batch}
use Rattle.journal.proofs.Batches.{sized_push, text-push}
use Rattle.journal.proofs.Readings.{body_is}
use Rattle.octet_language.specs.Language.{AnyOf}
use Rattle.syslog_value.specs.Parts.{Parts}
use Rattle.syslog_reading.specs.WellFormed.{WellFormed}
use Rattle.syslog_reading.proofs.Laws.{one_meaning}
use Rattle.syslog_grammar.proofs.CanonicalParses.{canonical_well_formed}
use Rattle.archive_text.specs.Entries.{Entry, Has, IsEntry, IsEntryOf}
use Rattle.archive_text.specs.Stores.{AddsRecord}
use Rattle.archive_text.specs.Text.{BeginsWithEntry, IsArchive, text_of}
use Rattle.archive_text.specs.declared.limits.TheConstants.{ENTRY_MAX}
use Rattle.archive_text.specs.declared.store.AddFault.{AddFault}
use Rattle.archive_text.specs.declared.store.Added.{Added}
use Rattle.archive_text.proofs.Members.{all_append, has_either, has_left, has_right}
use Rattle.archive_text.proofs.Places.{adds_has}
use Rattle.archive_text.proofs.Texts.{one_entry_of, text_goes_on}
use Rattle.archive_sets.specs.declared.range.InRange.{InRange}
use Rattle.record_store.specs.Holdings.{BatchHas, BatchesHave, IsBatch, IsReadable, IsSealedBatch, JournalHas, SegmentHas}
use Rattle.record_store.specs.Holdings.{SomeIsSealed, StaySealed}
use Rattle.record_store.specs.Names.{IsJournal}
use Rattle.record_store.specs.Seals.{HasMore, Seals}
use Rattle.record_store.proofs.Unsealed.{seal_some, sealed_either, sealed_last, stay_push}
use Rattle.record_store.proofs.Batches.{batch_has, journal_has, push_has, pushed_either, pushed_has}
use Rattle.store_reading.specs.Journals.{Adds, HasAsJournal, HasInMemory, IsOfMemory, MemoryHas}
use Rattle.store_reading.specs.Journals.{NamedMemoryHas}
use Rattle.store_reading.specs.Folders.{AreNamesOf}
use Rattle.store_reading.proofs.Held.{listed_name, no_name, some_before, some_either, some_last}

-- ---- an entry

-- of the record that its octets are
pub entry_added : (e : Entry) (r : Parts ℤ) (old new : List Entry) (added : Added) → IsEntry e → WellFormed r e.octets
    → AddsRecord r old new added → Adds old new (λ x. e ≡ x)
entry_added e r old new added (q, is) formed (f, also, adds) x =
    let same : r ≡ q = one_meaning r q e.octets formed (canonical_well_formed q e.octets is.valid is.canonical) in
    let one : f ≡ e = one_entry_of q f e (subst (λ (p : Parts ℤ). IsEntryOf p f) same also) is in
    let h = adds_has f old new added adds x in (
      λ k. elim (h.0 k) [ inl first ↦ inr (sym one ∙ first) | inr before ↦ inl before ],
      λ k. h.1 (elim k [ inl before ↦ inr before | inr first ↦ inl (one ∙ first) ]),
    )

-- it is a record
pub entry_formed : (e : Entry) → IsEntry e → AnyOf WellFormed e.octets
entry_formed e (r, is) = (r, canonical_well_formed r e.octets is.valid is.canonical)

pub too_long : {T : Type 0} {fault : AddFault} → fault ≡ AddFault.TooLong → IsErrOf {T = T} (Err fault) AddFault.TooLong
too_long is = ap (λ (f : AddFault). Err f) is

-- the entry of a record that the octets of an entry are is that entry
pub entry_fits : (e : Entry) → IsEntry e
    → ((r : Parts ℤ) (f : Entry) → WellFormed r e.octets → IsEntryOf r f → ENTRY_MAX < length f.octets)
    → ¬ (length e.octets ≤ ENTRY_MAX)
entry_fits e (r, is) long fits =
    let above = long r e (canonical_well_formed r e.octets is.valid is.canonical) is in omega arith

-- ---- sets that grow

pub adds_none : (old : List Entry) (P : Entry → Type 0) → ((e : Entry) → P e → ⊥) → Adds old old P
adds_none old P none e = (λ h. inl h, λ h. elim h [ inl k ↦ k | inr k ↦ absurd (none e k) ])

pub adds_then : (a b c : List Entry) (P Q R : Entry → Type 0) → Adds a b P → Adds b c Q
    → ((e : Entry) → R e ↔ (P e ⊎ Q e)) → Adds a c R
adds_then a b c P Q R p q r e = (
  λ h. there ((q e).0 h),
  λ h. (q e).1 (back h),
)
  where
    there : Has b e ⊎ Q e → Has a e ⊎ R e
    there (inl h) = elim ((p e).0 h) [ inl k ↦ inl k | inr k ↦ inr ((r e).1 (inl k)) ]
    there (inr h) = inr ((r e).1 (inr h))

    back : Has a e ⊎ R e → Has b e ⊎ Q e
    back (inl h) = inl ((p e).1 (inl h))
    back (inr h) = elim ((r e).0 h) [ inl k ↦ inl ((p e).1 (inr k)) | inr k ↦ inr k ]

pub adds_same : (a b : List Entry) (P Q : Entry → Type 0) → ((e : Entry) → P e ↔ Q e) → Adds a b P → Adds a b Q
adds_same a b P Q same p e = (
  λ h. elim ((p e).0 h) [ inl k ↦ inl k | inr k ↦ inr ((same e).0 k) ],
  λ h. (p e).1 (elim h [ inl k ↦ inl k | inr k ↦ inr ((same e).1 k) ]),
)

-- ---- a batch

-- the entries before the rest of a batch were added
pub record BatchAdded (old new : List Entry) (body rest : List ℕ) : Type 0 where
  pub entries : List Entry
  pub are : AllByRecursion IsEntry entries
  pub fit : AllByRecursion (λ e. length e.octets ≤ ENTRY_MAX) entries
  pub parts : body ≡ text_of entries ++ rest
  pub adds : Adds old new (Has entries)

pub batch_begun : (old : List Entry) (body : List ℕ) → BatchAdded old old body body
batch_begun old body = record {
  entries = [];
  are = tt;
  fit = tt;
  parts = refl;
  adds = adds_none old (Has []) (λ e h. h);
}

pub has_push : (es : List Entry) (e x : Entry) → Has (es ++ e ∷ []) x ↔ (Has es x ⊎ (e ≡ x))
has_push es e x = (there, back)
  where
    there : Has (es ++ e ∷ []) x → Has es x ⊎ (e ≡ x)
    there h =
        elim (has_either es (e ∷ []) x h) [ inl k ↦ inl k | inr (inl same) ↦ inr same | inr (inr none) ↦ absurd none ]

    back : Has es x ⊎ (e ≡ x) → Has (es ++ e ∷ []) x
    back (inl k) = has_left es (e ∷ []) x k
    back (inr same) = has_right es (e ∷ []) x (inl same)

pub batch_more : (old mid new : List Entry) (body rest behind : List ℕ) (e : Entry) → BatchAdded old mid body rest
    → BeginsWithEntry ENTRY_MAX rest e behind → Adds mid new (λ x. e ≡ x) → BatchAdded old new body behind
batch_more old mid new body rest behind e b begins adds = record {
  entries = b.entries ++ e ∷ [];
  are = all_append IsEntry b.entries (e ∷ []) b.are (begins.entry, tt);
  fit = all_append (λ x. length x.octets ≤ ENTRY_MAX) b.entries (e ∷ []) b.fit (begins.fits, tt);
  parts = text_goes_on b.entries e body rest behind b.parts begins.parts;
  adds = adds_then old mid new (Has b.entries) (λ x. e ≡ x) (Has (b.entries ++ e ∷ [])) b.adds adds
      (has_push b.entries e);
}

module _ (old new : List Entry) (body rest : List ℕ) (b : BatchAdded old new body rest)
    (sealed : Seals (text_of b.entries) rest) where
  batch : IsBatch b.entries body
  batch = record { entries = b.are; fits = b.fit; behind = rest; text = b.parts; seal = sealed }

  pub batch_whole : Adds old new (BatchHas body)
  batch_whole =
      adds_same old new (Has b.entries) (BatchHas body)
      (λ e. (λ h. record { entries = b.entries; batch = batch; has = h }, λ h. batch_has b.entries body e batch h)) b.adds

  pub batch_read : IsReadable body
  batch_read = (b.entries, batch)

  -- it has its seal where something is left
  pub batch_sealed : IsSealedBatch body ↔ (rest ≢ [])
  unfolding batch
  batch_sealed =
      (λ h. seal_some b.entries body batch h, λ some. record { entries = b.entries; batch = batch; some = some })

pub no_more : (found : Bool) (rest : List ℕ) → (IsTrue found ↔ HasMore rest) → found ≡ false → ¬ (HasMore rest)
no_more found rest tells off more = false≢true (sym off ∙ tells.1 more)

-- ---- a journal

-- the batches before the rest of a journal were added
pub record JournalAdded (old new : List Entry) (file rest : List ℕ) : Type 0 where
  pub bodies : List (List ℕ)
  pub sized : AllByRecursion IsBody bodies
  pub parts : file ≡ batches_text bodies ++ rest
  pub adds : Adds old new (BatchesHave bodies)
  pub readable : AllByRecursion IsReadable bodies
  pub stay : StaySealed bodies

pub journal_begun : (old : List Entry) (file : List ℕ) → JournalAdded old old file file
journal_begun old file = record {
  bodies = [];
  sized = tt;
  parts = refl;
  adds = adds_none old (BatchesHave []) (λ e h. h);
  readable = tt;
  stay = tt;
}

all_pushed : (bodies : List (List ℕ)) (body : List ℕ) → AllByRecursion IsReadable bodies → IsReadable body
    → AllByRecursion IsReadable (bodies ++ body ∷ [])
all_pushed [] body all last = (last, tt)
all_pushed (b ∷ bodies) body all last = (all.0, all_pushed bodies body all.1 last)

-- the octets of a batch behind its head
behind_head : (rest behind : List ℕ) (len : ℕ) (b : BeginsWithBatch rest len) → behind ≡ drop 5 rest
    → behind ≡ b.body ++ b.rest
behind_head rest behind len b is = is ∙ ap (drop 5) b.text ∙ body_is b.body b.rest

pub head_fits : (rest : List ℕ) (len : ℕ) → BeginsWithBatch rest len → 5 ≤ length rest
head_fits rest len b = omega (
  arith,
  ap length b.text,
  length-append (open_batch b.body) b.rest,
  length-append (to_le_bytes w32 (length b.body)) b.body,
)

pub body_fits : (rest behind : List ℕ) (len : ℕ) → BeginsWithBatch rest len → behind ≡ drop 5 rest → len ≤ length behind
body_fits rest behind len b is =
    omega (arith, ap length (behind_head rest behind len b is), length-append b.body b.rest, b.len_is)

pub batch_parts : (rest behind body after : List ℕ) (len : ℕ) → BeginsWithBatch rest len → behind ≡ drop 5 rest
    → body ≡ take len behind → after ≡ drop len behind → IsBody body × (rest ≡ open_batch body ++ after)
batch_parts rest behind body after len b behind_is body_is after_is =
    let is = behind_head rest behind len b behind_is in
    let first : body ≡ b.body = body_is ∙ ap (take len) is ∙ take_at b.body b.rest len (sym b.len_is) in
    let last : after ≡ b.rest = after_is ∙ ap (drop len) is ∙ drop_at b.body b.rest len (sym b.len_is) in (
      subst IsBody (sym first) b.sized,
      b.text ∙ ap (λ (t : List ℕ). open_batch t ++ b.rest) (sym first) ∙ ap (λ (t : List ℕ). open_batch body ++ t)
          (sym last),
    )

pub journal_more : (old mid new : List Entry) (file rest body after : List ℕ) (j : JournalAdded old mid file rest)
    → IsBody body × (rest ≡ open_batch body ++ after) → Adds mid new (BatchHas body) → IsReadable body
    → (SomeIsSealed j.bodies → IsSealedBatch body) → JournalAdded old new file after
journal_more old mid new file rest body after j (sized, is) adds readable last = record {
  bodies = j.bodies ++ body ∷ [];
  sized = sized_push j.bodies body j.sized sized;
  parts = j.parts ∙ ap (λ (t : List ℕ). batches_text j.bodies ++ t) is
      ∙ sym (append_assoc (batches_text j.bodies) (open_batch body) after) ∙ sym (text-push j.bodies body after);
  adds = adds_then old mid new (BatchesHave j.bodies) (BatchHas body) (BatchesHave (j.bodies ++ body ∷ [])) j.adds adds
      (λ e. (
        λ h. pushed_either j.bodies body e h,
        λ h. elim h [ inl k ↦ pushed_has j.bodies body e k | inr k ↦ push_has j.bodies body e k ],
      ));
  readable = all_pushed j.bodies body j.readable readable;
  stay = stay_push j.bodies body j.stay last;
}

-- and whether some of them has its seal is known
pub record JournalReadUpTo (old new : List Entry) (file rest : List ℕ) (has_seals : Bool) : Type 0 where
  pub added : JournalAdded old new file rest
  pub seals : IsTrue has_seals ↔ SomeIsSealed added.bodies

pub read_begun : (old : List Entry) (file : List ℕ) → JournalReadUpTo old old file file false
unfolding journal_begun
read_begun old file = record { added = journal_begun old file; seals = (λ on. absurd (cc on), λ none. absurd none) }

pub read_more : (old mid new : List Entry) (file rest body after : List ℕ) (has_seals : Bool)
    → JournalReadUpTo old mid file rest has_seals → IsBody body × (rest ≡ open_batch body ++ after)
    → Adds mid new (BatchHas body) → IsReadable body → (sealed : Bool) → (IsTrue sealed ↔ IsSealedBatch body)
    → (IsTrue has_seals → IsTrue sealed) → JournalReadUpTo old new file after sealed
unfolding journal_more
read_more old mid new file rest body after has_seals r first adds readable sealed tells goes_on =
    let j = r.added in
    record {
      added = journal_more old mid new file rest body after j first adds readable
          (λ some. tells.0 (goes_on (r.seals.1 some)));
      seals = (
        λ on. sealed_last j.bodies body (tells.0 on),
        λ some. elim (sealed_either j.bodies body some) [
          | inl before ↦ goes_on (r.seals.1 before)
          | inr last ↦ tells.1 last
        ],
      );
    }

-- it is shorter then
pub shorter_rest : (rest body after : List ℕ) → IsBody body × (rest ≡ open_batch body ++ after)
    → length after < length rest
shorter_rest rest body after (sized, is) = omega (arith, ap length is, length-append (open_batch body) after)

pub journal_whole : (old new : List Entry) (file rest : List ℕ) → JournalAdded old new file rest → IsClosed rest
    → Adds old new (JournalHas file)
journal_whole old new file rest j closed =
    let batches : HasBatches file j.bodies = record { tail = rest; text = j.parts; closed = closed; sized = j.sized } in
    adds_same old new (BatchesHave j.bodies) (JournalHas file)
    (λ e. (λ h. record { bodies = j.bodies; batches = batches; has = h }, λ h. journal_has file j.bodies e batches h))
    j.adds

-- ---- an input of a journal

pub all_given : (left : Option (List ℕ)) (kept : List ℕ) (limit : ℕ)
    → IfSome left (λ (input : List ℕ). kept ≡ take limit input)
    → length kept < limit → IfSome left (λ (input : List ℕ). kept ≡ input)
all_given None kept limit h short = tt
all_given (Some input) kept limit h short =
    h ∙ take_all limit input (omega (arith, short, ap length h, length-take limit input))

file_added : (file : Option (List ℕ)) (old new : List Entry) → IsSomeAnd file (λ f. Adds old new (JournalHas f))
    → Adds old new (λ e. IsSomeAnd file (λ f. JournalHas f e))
file_added None old new adds = absurd adds
file_added (Some f) old new adds = adds

-- ---- the files of names

pub no_journal : (files : Files) (name : List ℕ) (old : List Entry) → ¬ (IsJournal name)
    → Adds old old (HasAsJournal files name)
no_journal files name old not = adds_none old (HasAsJournal files name) (λ e h. not h.0)

pub names_none : (files : Files) (range : InRange) (old : List Entry) → Adds old old (NamedMemoryHas files range [])
names_none files range old =
    adds_none old (NamedMemoryHas files range []) (λ e h. no_name (λ (n : List ℕ). HasInMemory files range n e) h)

pub names_more : (files : Files) (range : InRange) (names : List (List ℕ)) (name : List ℕ) (old mid new : List Entry)
    → Adds old mid (NamedMemoryHas files range names) → Adds mid new (HasInMemory files range name)
    → Adds old new (NamedMemoryHas files range (names ++ name ∷ []))
names_more files range names name old mid new a b =
    adds_then old mid new (NamedMemoryHas files range names) (HasInMemory files range name)
    (NamedMemoryHas files range (names ++ name ∷ [])) a b
    (λ e. (
      λ h. some_either names name (λ (n : List ℕ). HasInMemory files range n e) h,
      λ h. elim h [
        | inl k ↦ some_before names name (λ (n : List ℕ). HasInMemory files range n e) k
        | inr k ↦ some_last names name (λ (n : List ℕ). HasInMemory files range n e) k
      ],
    ))

of_memory : (files : Files) (range : InRange) (names : List (List ℕ)) (old new : List Entry) (text : List ℕ)
    → AreNamesOf files names
    → old ≡ [] → Adds old new (NamedMemoryHas files range names) → IsArchive ENTRY_MAX new → text ≡ text_of new
    → IsOfMemory files range text
of_memory files range names old new text listed none adds archive is = record {
  entries = new;
  archive = archive;
  text_is = is;
  have = λ e. (λ h. there e ((adds e).0 h), λ h. (adds e).1 (inr (back e h)));
}
  where
    there : (e : Entry) → Has old e ⊎ NamedMemoryHas files range names e → MemoryHas files range e
    there e (inl h) = absurd (subst (λ (l : List Entry). Has l e) none h)
    there e (inr (name, has, in_memory)) = (name, in_memory)

    back : (e : Entry) → MemoryHas files range e → NamedMemoryHas files range names e
    back e (name, inl (journal, some)) =
        (name, listed_name files names name (λ file. JournalHas file e) listed some, inl (journal, some))
    back e (name, inr ((segment, some), inside)) = (
      name,
      listed_name files names name (λ file. SegmentHas (codes "mixed") file e) listed some,
      inr ((segment, some), inside),
    )

pub text_of_memory : {Z E : Type 0} (files : Files) (range : InRange) (names : List (List ℕ)) (old new : List Entry)
    (r : Result (Vec ℕ Z) E)
    → AreNamesOf files names → old ≡ [] → Adds old new (NamedMemoryHas files range names) → IsArchive ENTRY_MAX new
    → IfOk r (λ v. v.items ≡ text_of new) → IfOk r (λ v. IsOfMemory files range v.items)
text_of_memory files range names old new (Err e) listed none adds archive is = tt
text_of_memory files range names old new (Ok v) listed none adds archive is =
    of_memory files range names old new v.items listed none adds archive is

pub named_added : (files : Files) (name : List ℕ) (old new : List Entry) → IsJournal name
    → IsSomeAnd (files name) (λ file. Adds old new (JournalHas file)) → Adds old new (HasAsJournal files name)
named_added files name old new journal adds =
    adds_same old new (λ e. IsSomeAnd (files name) (λ f. JournalHas f e)) (HasAsJournal files name)
    (λ e. (λ h. (journal, h), λ h. h.1)) (file_added (files name) old new adds)
