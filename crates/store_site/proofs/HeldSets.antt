-- Facts on the records that a folder holds.
use Rattle.std.proofs.Common.{◌≡◌, ℕ, ◌≤◌, List, [], ◌∷◌, ◌++◌, ◌∙◌, ap, arith, inl, inr, length, refl, subst, sym}
use Rattle.std.specs.Prelude.{◌⊎◌, Option, None, Some, Result, Ok, Err, IfErr, IfOk}
use Rattle.std.specs.Io.KnownBytes.{Consumes, IsAtEnd}
use Rattle.std.proofs.lemmas.List.{append-nil}
use Rattle.disk.specs.States.{Files, State}
use Rattle.journal.specs.Journals.{IsSound}
use Rattle.octet_devices.specs.Device.{InputState}
use Rattle.archive_text.specs.Entries.{Entry, Has, IsEntry}
use Rattle.archive_text.specs.Text.{IsArchive, text_of}
use Rattle.archive_text.specs.declared.limits.TheConstants.{ENTRY_MAX}
use Rattle.archive_text.proofs.Members.{of_all, of_member}
use Rattle.archive_text.proofs.Texts.{same_text}
use Rattle.archive_sets.specs.declared.range.InRange.{InRange}
use Rattle.record_store.specs.Holdings.{BatchesHave, Held, HeldAt}
use Rattle.reconcile.specs.Texts.{IsOfNoArchive}
use Rattle.store_addition.specs.Additions.{AddsWhole, TakesIn}
use Rattle.store_addition.specs.declared.addition.Addition.{Addition}
use Rattle.store_reading.specs.Sets.{IsSetOf, WritesSet}
use Rattle.store_site.specs.Gatherings.{IsGatheringFault}
use Rattle.store_site.specs.Readings.{IsSetReadCause}
use Rattle.store_site.specs.declared.fault.SetReadFault.{SetReadFault}
use Rattle.store_site.specs.declared.fault.SetReadFault.TheVariants.{Read, NoArchive, TooMuch, Memory}

-- what is held may be in an archive
abbrev IsFit : Entry → Type 0
IsFit e = IsEntry e × (length e.octets ≤ ENTRY_MAX)

batches_fit : (bodies : List (List ℕ)) (e : Entry) → BatchesHave bodies e → IsFit e
batches_fit [] e h = absurd h
batches_fit (body ∷ bodies) e (inl here) = (
  of_member IsEntry here.entries e here.batch.entries here.has,
  of_member (λ x. length x.octets ≤ ENTRY_MAX) here.entries e here.batch.fits here.has,
)
batches_fit (body ∷ bodies) e (inr later) = batches_fit bodies e later

file_fit : (name : List ℕ) (file : Option (List ℕ)) (e : Entry) → HeldAt name file e → IsFit e
file_fit name None e h = absurd h
file_fit name (Some file) e (inl (journal, has)) = batches_fit has.bodies e has.has
file_fit name (Some file) e (inr (day, segment, has)) = (
  of_member IsEntry has.entries e has.archive.entries has.has,
  of_member (λ x. length x.octets ≤ ENTRY_MAX) has.entries e has.archive.fits has.has,
)

held_fit : (files : Files) (e : Entry) → Held files e → IsFit e
held_fit files e h = file_fit h.name (files h.name) e h.at

-- so the set of a range is an archive
pub set_archive : (files : Files) (range : InRange) (es : List Entry) → IsSetOf files range es → IsArchive ENTRY_MAX es
set_archive files range es h = record {
  ascending = h.ascending;
  entries = of_all IsEntry es (λ x m. (held_fit files x ((h.members x).0 m).0).0);
  fits = of_all (λ x. length x.octets ≤ ENTRY_MAX) es (λ x m. (held_fit files x ((h.members x).0 m).0).1);
}

-- records whose text was written as that of the set are the set
pub written_set : (files : Files) (range : InRange) (text : List ℕ) (es : List Entry) → IsArchive ENTRY_MAX es
    → WritesSet files range (Some []) (Some text) → text_of es ≡ text → IsSetOf files range es
written_set files range text es h w is =
    subst (IsSetOf files range)
    (sym (same_text ENTRY_MAX ENTRY_MAX es w.entries (omega arith) (omega arith) h (set_archive files range w.entries w.set)
    (is ∙ w.written))) w.set

-- and what was written so is the text of an archive
pub written_archive : (files : Files) (range : InRange) (text : List ℕ) → WritesSet files range (Some []) (Some text)
    → ¬ (IsOfNoArchive text)
written_archive files range text w none = none w.entries (set_archive files range w.entries w.set) w.written

-- ---- what a reading answers

abbrev Reading : Type 0
Reading = Result (List Entry) SetReadFault

-- what was written to nothing is the whole text
written_to : (files : Files) (range : InRange) (before after : Option (List ℕ)) (front text : List ℕ)
    → before ≡ Some front → front ≡ [] → Some text ≡ after → WritesSet files range before after
    → WritesSet files range (Some []) (Some text)
written_to files range before after front text b none a w =
    subst (λ o. WritesSet files range (Some []) o) (sym a)
    (subst (λ o. WritesSet files range o after) (b ∙ ap Some none) w)

pub set_of_result : (files : Files) (range : InRange) (before after : Option (List ℕ)) (front text : List ℕ)
    (r : Reading) → before ≡ Some front → front ≡ [] → Some text ≡ after → WritesSet files range before after
    → IfOk r (λ es. text_of es ≡ text) → IfOk r (IsArchive ENTRY_MAX) → IfOk r (IsSetOf files range)
set_of_result files range before after front text (Ok es) b none a w is archive =
    written_set files range text es archive (written_to files range before after front text b none a w) is
set_of_result files range before after front text (Err fault) b none a w is archive = tt

pub cause_of_result : (tells failed : Type 0) (files : Files) (range : InRange) (before after : Option (List ℕ))
    (front text : List ℕ) (r : Reading) → before ≡ Some front → front ≡ [] → Some text ≡ after
    → (tells → WritesSet files range before after) → IfErr r (IsGatheringFault text)
    → IfErr r (IsSetReadCause tells failed files range)
cause_of_result tells failed files range before after front text (Ok es) b none a w h = tt
cause_of_result tells failed files range before after front text (Err (Read fault)) b none a w h = absurd h
cause_of_result tells failed files range before after front text (Err NoArchive) b none a w h =
    λ t. written_archive files range text (written_to files range before after front text b none a (w t)) h
cause_of_result tells failed files range before after front text (Err TooMuch) b none a w h = tt
cause_of_result tells failed files range before after front text (Err Memory) b none a w h = tt

pub room_cause : (tells failed : Type 0) (files : Files) (range : InRange) (fault : SetReadFault)
    → (fault ≡ TooMuch) ⊎ (fault ≡ Memory) → IsSetReadCause tells failed files range fault
room_cause tells failed files range fault h = elim h [
  | inl much ↦ subst (IsSetReadCause tells failed files range) (sym much) tt
  | inr memory ↦ subst (IsSetReadCause tells failed files range) (sym memory) tt
]

-- ---- what is added

consumed_whole : (left : Option (List ℕ)) (text t : List ℕ) → Consumes (Some text) left t → IsAtEnd left → text ≡ t
consumed_whole None text t h e = absurd h
consumed_whole (Some ys) text t h e = h ∙ ap (λ (l : List ℕ). t ++ l) e ∙ append-nil t

-- the text of records was added whole
pub taken_in : (tells : Type 0) (d e : InputState) (old new : State) (added : Addition) (es : List Entry)
    (text : List ℕ) → d.left ≡ Some text → text ≡ text_of es → IsArchive ENTRY_MAX es
    → AddsWhole tells d e old new added → tells → IsSound old → TakesIn old new es es
taken_in tells d e old new added es text left is h whole t sound =
    let fs = whole.entries in
    let read : text ≡ text_of fs =
    consumed_whole e.left text (text_of fs) (subst (λ o. Consumes o e.left (text_of fs)) left whole.whole.consumed)
    whole.whole.none_left in
    let same : fs ≡ es = same_text ENTRY_MAX ENTRY_MAX fs es (omega arith) (omega arith) whole.whole.archive h
    (sym read ∙ is) in
    subst (λ (l : List Entry). TakesIn old new l l) same (whole.takes t sound)
