-- Batches that are read whole, and faults that tell damage.
use Rattle.std.proofs.Common.{◌≡◌, ℕ, ◌-◌, ◌<◌, ◌≤◌, List, [], ◌∷◌, ◌++◌, length, take, sym, ap, subst, ◌∙◌, arith}
use Rattle.std.proofs.Common.{append_assoc, length-append}
use Rattle.std.proofs.lemmas.List.{take_at}
use Rattle.std.specs.Prelude.{ℤ, Err, IfErr, IsErrAnd, IsErrOf, Ok, Result}
use Rattle.std.specs.List.{AllByRecursion}
use Rattle.journal.specs.Batches.{batches_text, HasBatches, IsBody, IsClosed, open_batch}
use Rattle.journal.proofs.Readings.{same_batch}
use Rattle.octet_language.specs.Language.{AnyOf}
use Rattle.syslog_value.specs.Parts.{Parts}
use Rattle.syslog_reading.specs.WellFormed.{WellFormed}
use Rattle.syslog_grammar.proofs.CanonicalParses.{canonical_well_formed}
use Rattle.journal.specs.Journals.{EndsAt}
use Rattle.archive_text.specs.Entries.{Entry, IsEntry, IsEntryOf}
use Rattle.archive_text.specs.Faults.{IsFaultBefore}
use Rattle.archive_text.specs.Text.{text_of}
use Rattle.archive_text.specs.declared.fault.ArchiveFault.{ArchiveFault}
use Rattle.archive_text.specs.declared.store.AddFault.{AddFault}
use Rattle.archive_text.specs.declared.limits.TheConstants.{ENTRY_MAX}
use Rattle.archive_text.proofs.FaultLaws.{fault_later}
use Rattle.archive_text.proofs.Prefixes.{fault_excludes}
use Rattle.record_store.specs.Holdings.{IsReadable, IsSealedBatch, IsWholeJournal, SomeIsSealed}
use Rattle.record_store.specs.Holdings.{StaySealed}
use Rattle.record_store.specs.Seals.{HasMore, HidesBatches, Seals}
use Rattle.record_store.proofs.Sealed.{RestOf, begins_some, rest_of, rest_seals}
use Rattle.record_store.proofs.Unsealed.{sealed_next}
use Rattle.durable_store.specs.Recovery.{BeginsWithSome, Refutes}
use Rattle.durable_store.specs.declared.fault.OpenFault.{OpenFault}
use Rattle.durable_store.specs.declared.fault.OpenFault.TheVariants.{Store, Damaged, Memory}
use Rattle.durable_store.proofs.Recovered.{BatchAdded, JournalAdded, added_batch}

-- what is so of the fault that was handed on is so of the result's
pub at_err : {T E : Type 0} (r : Result T E) (fault : E) (P : E → Type 0) → IsErrAnd r (λ x. x ≡ fault) → P fault
    → IfErr r P
at_err (Ok x) fault P is p = tt
at_err (Err x) fault P is p = subst P (sym is) p

-- what refutes less refutes more
pub refutes_more : (number : ℕ) (A B : Type 0) (fault : OpenFault) → (B → A) → Refutes number A fault
    → Refutes number B fault
refutes_more number A B (Store fault) from bad = bad
refutes_more number A B (Damaged at fault) from bad = (bad.0, λ b. bad.1 (from b))
refutes_more number A B Memory from bad = tt

-- ---- a batch

-- at a fault there is no entry
pub none_begins : (text : List ℕ) (fault : ArchiveFault) → IsFaultBefore ENTRY_MAX text fault → ¬ (BeginsWithSome text)
none_begins text fault bad (e, behind, begins) =
    fault_excludes ENTRY_MAX [] text _ (fault_later ENTRY_MAX [] text fault bad) e behind begins (tt, tt)

-- what is left of a batch of entries behind those that were added
pub left_of : (old new : List Entry) (body rest : List ℕ) (b : BatchAdded old new body rest) → IsReadable body
    → RestOf b.entries rest
left_of old new body rest b h = rest_of b.entries rest body b.parts b.are b.fit h

-- an entry begins it where something is left
pub next_begins : (old new : List Entry) (body rest : List ℕ) → BatchAdded old new body rest → HasMore rest
    → IsReadable body → BeginsWithSome rest
next_begins old new body rest b some h = begins_some b.entries rest some (left_of old new body rest b h)

-- the octets of the entries that were added
pub read_text : (old new : List Entry) (body rest : List ℕ) (b : BatchAdded old new body rest) (text : List ℕ) (read : ℕ)
    → read ≡ length body - length rest → text ≡ take read body → text ≡ text_of b.entries
read_text old new body rest b text read read_is text_is =
    let size : read ≡ length (text_of b.entries) =
    omega (arith, read_is, ap length b.parts, length-append (text_of b.entries) rest) in
    text_is ∙ ap (λ (l : List ℕ). take read l) b.parts ∙ take_at (text_of b.entries) rest read (sym size)

pub batch_read : (old new : List Entry) (body rest : List ℕ) (b : BatchAdded old new body rest)
    → Seals (text_of b.entries) rest → IsReadable body
batch_read old new body rest b seal = (b.entries, added_batch old new body rest b seal)

-- what is left is no seal, and no entry
pub not_sealed : (old new : List Entry) (body rest : List ℕ) (b : BatchAdded old new body rest) (text : List ℕ)
    → text ≡ text_of b.entries → ¬ (HasMore rest) → ¬ (Seals text rest) → ¬ (IsReadable body)
not_sealed old new body rest b text is none bad h =
    bad (subst (λ (t : List ℕ). Seals t rest) (sym is) (rest_seals b.entries rest none (left_of old new body rest b h)))

-- ---- a journal

-- the first batch of a whole journal, and what is behind it
pub whole_parts : (rest body behind : List ℕ) → IsBody body → rest ≡ open_batch body ++ behind → IsWholeJournal rest
    → IsReadable body × IsWholeJournal behind
whole_parts rest body behind sized is w = of w.bodies w.batches w.readable w.stay_sealed w.nothing_hidden
  where
    of : (bodies : List (List ℕ)) (h : HasBatches rest bodies) → AllByRecursion IsReadable bodies
        → StaySealed bodies → ¬ (HidesBatches h.tail) → IsReadable body × IsWholeJournal behind
    of [] h all stay shows = absurd (h.closed body behind sized (sym h.text ∙ is))
    of (b ∷ bodies) h all stay shows =
        let same = same_batch body b behind (batches_text bodies ++ h.tail) sized h.sized.0
        (sym is ∙ h.text ∙ append_assoc (open_batch b) (batches_text bodies) h.tail) in (
          subst IsReadable (sym same.0) all.0,
          record {
            bodies = bodies;
            batches = record { tail = h.tail; text = same.1; closed = h.closed; sized = h.sized.1 };
            readable = all.1;
            stay_sealed = stay.1;
            nothing_hidden = shows;
          },
        )

-- what is behind the first batches of a whole journal
pub whole_behind : (bodies : List (List ℕ)) (rest : List ℕ) → AllByRecursion IsBody bodies
    → IsWholeJournal (batches_text bodies ++ rest) → IsWholeJournal rest
whole_behind [] rest sized w = w
whole_behind (body ∷ bodies) rest sized w =
    whole_behind bodies rest sized.1
    (whole_parts (batches_text (body ∷ bodies) ++ rest) body (batches_text bodies ++ rest) sized.0
    (append_assoc (open_batch body) (batches_text bodies) rest) w).1

-- the next batch of a whole journal is one of entries
pub next_readable : (old new : List Entry) (file rest body behind : List ℕ) → JournalAdded old new file rest
    → IsBody body × (rest ≡ open_batch body ++ behind) → IsWholeJournal file → IsReadable body
next_readable old new file rest body behind j (sized, is) w =
    (whole_parts rest body behind sized is (whole_behind j.bodies rest j.sized (subst IsWholeJournal j.parts w))).0

pub journal_read : (old new : List Entry) (file rest : List ℕ) → JournalAdded old new file rest → IsClosed rest
    → ¬ (HidesBatches rest) → IsWholeJournal file
journal_read old new file rest j closed shows = record {
  bodies = j.bodies;
  batches = record { tail = rest; text = j.parts; closed = closed; sized = j.sized };
  readable = j.readable;
  stay_sealed = j.stay;
  nothing_hidden = shows;
}

-- a batch without its seal is behind one that has it
pub not_sealed_on : (old new : List Entry) (file rest body behind : List ℕ) (j : JournalAdded old new file rest)
    → IsBody body × (rest ≡ open_batch body ++ behind) → SomeIsSealed j.bodies → ¬ (IsSealedBatch body)
    → ¬ (IsWholeJournal file)
not_sealed_on old new file rest body behind j (sized, is) some unsealed w =
    let parts = j.parts ∙ ap (λ (t : List ℕ). batches_text j.bodies ++ t) is
    ∙ sym (append_assoc (batches_text j.bodies) (open_batch body) behind) in
    unsealed (sealed_next file j.bodies w.bodies body behind j.sized sized parts w.batches w.stay_sealed some)

-- where the batches end
pub ends_read : (old new : List Entry) (file rest : List ℕ) (end : ℕ) → JournalAdded old new file rest → IsClosed rest
    → end ≡ length file - length rest → (bodies : List (List ℕ)) × EndsAt file bodies end
ends_read old new file rest end j closed is = (
  j.bodies,
  record {
    tail = rest;
    text = j.parts;
    closed = closed;
    sized = j.sized;
    end_is = omega (arith, is, ap length j.parts, length-append (batches_text j.bodies) rest);
  },
)

-- no batch is at the beginning of a whole journal: it is the tail
tail_shows : (rest : List ℕ) → IsClosed rest → IsWholeJournal rest → ¬ (HidesBatches rest)
tail_shows rest closed w hides = of w.bodies w.batches w.nothing_hidden
  where
    of : (bodies : List (List ℕ)) (h : HasBatches rest bodies) → ¬ (HidesBatches h.tail) → ⊥
    of [] h shows = shows (subst HidesBatches h.text hides)
    of (b ∷ bodies) h shows =
        closed b (batches_text bodies ++ h.tail) h.sized.0
        (h.text ∙ append_assoc (open_batch b) (batches_text bodies) h.tail)

pub not_whole : (old new : List Entry) (file rest : List ℕ) → JournalAdded old new file rest → IsClosed rest
    → HidesBatches rest → ¬ (IsWholeJournal file)
not_whole old new file rest j closed hides w =
    tail_shows rest closed (whole_behind j.bodies rest j.sized (subst IsWholeJournal j.parts w)) hides

-- an entry that is canonical is a record
pub entry_formed : (e : Entry) → IsEntry e → AnyOf WellFormed e.octets
entry_formed e (r, is) = (r, canonical_well_formed r e.octets is.valid is.canonical)

pub too_long : {T : Type 0} {fault : AddFault} → fault ≡ AddFault.TooLong → IsErrOf {T = T} (Err fault) AddFault.TooLong
too_long is = ap (λ (f : AddFault). Err f) is

-- the entry of a record that the octets of an entry are is that entry
pub entry_fits : (e : Entry) → IsEntry e
    → ((r : Parts ℤ) (f : Entry) → WellFormed r e.octets → IsEntryOf r f → ENTRY_MAX < length f.octets)
    → ¬ (length e.octets ≤ ENTRY_MAX)
entry_fits e (r, is) long fits =
    let above = long r e (canonical_well_formed r e.octets is.valid is.canonical) is in omega arith
