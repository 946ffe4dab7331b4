-- Migrated sets.
use Rattle.std.proofs.Common.{◌≡◌, ℕ, ◌≤◌, ◌∙◌, refl, sym, ap, subst, inl, inr, arith, List, [], ◌++◌, length}
use Rattle.std.specs.Prelude.{ℤ, ◌↔◌}
use Rattle.std.specs.List.{AllByRecursion}
use Rattle.std.proofs.lemmas.List.Sorted.{IsPermutation-refl}
use Rattle.syslog_frame.specs.declared.limits.TheConstants.{COUNT_MAX}
use Rattle.syslog_value.specs.Parts.{IsElement, IsRecord, Parts}
use Rattle.syslog_fields.specs.Canonical.{Canonical}
use Rattle.syslog_grammar.specs.Unsorted.{IsUnsortedRecord}
use Rattle.syslog_reading.proofs.ById.{all_permuted, one_order}
use Rattle.syslog_grammar.proofs.CanonicalParses.{canonical_once}
use Rattle.archive_text.specs.Entries.{Entry, Has, IsAscending, IsEntry, IsEntryOf}
use Rattle.archive_text.specs.Sets.{ArchiveText, AreEntriesOf, AreSame, IsAmong}
use Rattle.archive_text.specs.Text.{IsArchive, text_of}
use Rattle.archive_text.specs.declared.fault.ArchiveFault.{ArchiveFault}
use Rattle.archive_text.specs.declared.limits.TheConstants.{ENTRY_MAX}
use Rattle.archive_text.proofs.Ascending.{same_members}
use Rattle.archive_text.proofs.Members.{all_weaker, of_all, of_member}
use Rattle.archive_text.proofs.Sets.{all_among, among_either, among_left, among_right, member_of_entry, of_among}
use Rattle.archive_text.proofs.Texts.{one_entry_of}
use Rattle.archive_migration.specs.Migration.{AddsMigrated, IsMigration, IsNewEntryOf, IsNewForm, Migrates}
use Rattle.archive_migration.specs.OldEntries.{IsOldArchive, IsOldEntry, IsOldEntryOf}
use Rattle.archive_migration.specs.OldFaults.{IsOldArchiveFault}
use Rattle.archive_migration.specs.OldTexts.{AreOldEntriesOf, OldText}
use Rattle.archive_migration.proofs.NewOctets.{new_octets}
use Rattle.archive_migration.proofs.OldForms.{entry_old_entry, same_old_record}
use Rattle.archive_migration.proofs.OldPrefixes.{old_archive_has_no_fault}
use Rattle.archive_migration.proofs.OldTexts.{same_old_text}
use Rattle.syslog_value.specs.EqualityLaws.{same_record}

-- ---- new forms

pub one_new_form : (r q p : Parts ℤ) → IsNewForm r q → IsNewForm r p → q ≡ p
one_new_form r q p h k =
    same_record q p (h.priority ∙ sym k.priority) (h.time ∙ sym k.time) (h.hostname ∙ sym k.hostname)
    (h.app_name ∙ sym k.app_name) (h.proc_id ∙ sym k.proc_id) (h.msg_id ∙ sym k.msg_id)
    (one_order r.elements q.elements p.elements h.elements k.elements h.by_id k.by_id) (h.message ∙ sym k.message)

pub new_form_valid : (r q : Parts ℤ) → IsUnsortedRecord r → IsNewForm r q → IsRecord q
new_form_valid r q (valid, distinct) new = record {
  priority = rw new.priority valid.priority;
  time = rw new.time valid.time;
  hostname = rw new.hostname valid.hostname;
  app_name = rw new.app_name valid.app_name;
  proc_id = rw new.proc_id valid.proc_id;
  msg_id = rw new.msg_id valid.msg_id;
  elements = all_permuted IsElement r.elements q.elements new.elements valid.elements;
  by_id = new.by_id;
  message = rw new.message valid.message;
}

pub as_many : (r q : Parts ℤ) (b c : List ℕ) → Canonical r b → IsNewForm r q → Canonical q c → length c ≡ length b
as_many r q b c h new k = let n = new_octets r q b h new in ap length (canonical_once q c n.0 k n.1) ∙ n.2

-- a record by id is its own new form
by_id_itself : (r : Parts ℤ) → IsRecord r → IsNewForm r r
by_id_itself r h = record {
  priority = refl;
  time = refl;
  hostname = refl;
  app_name = refl;
  proc_id = refl;
  msg_id = refl;
  elements = IsPermutation-refl r.elements;
  by_id = h.by_id;
  message = refl;
}

-- ---- migrated sets

-- the members of a migrated set
migrated_iff : (olds news : List (Parts ℤ)) → IsMigration olds news → (q : Parts ℤ)
    → IsAmong news q ↔ ((r : Parts ℤ) × IsAmong olds r × IsNewForm r q)
migrated_iff olds news h q = (
  λ among. of_among (λ p. (r : Parts ℤ) × IsAmong olds r × IsNewForm r p) news q h.only among,
  λ (r, among, new).
      let found = of_among (λ p. (n : Parts ℤ) × IsAmong news n × IsNewForm p n) olds r h.all among in
      subst (IsAmong news) (one_new_form r found.0 q found.2 new) found.1,
)

pub one_migration : (rs news more : List (Parts ℤ)) → IsMigration rs news → IsMigration rs more → AreSame news more
one_migration rs news more h k q = (
  λ among. (migrated_iff rs more k q).1 ((migrated_iff rs news h q).0 among),
  λ among. (migrated_iff rs news h q).1 ((migrated_iff rs more k q).0 among),
)

pub union_migrated : (rs qs news more : List (Parts ℤ)) → IsMigration rs news → IsMigration qs more
    → IsMigration (rs ++ qs) (news ++ more)
union_migrated rs qs news more h k = record {
  all = all_among (λ r. (q : Parts ℤ) × IsAmong (news ++ more) q × IsNewForm r q) (rs ++ qs)
      (λ r among.
      elim (among_either rs qs r among) [
        | inl left ↦
            let found = of_among (λ p. (q : Parts ℤ) × IsAmong news q × IsNewForm p q) rs r h.all left in
            (found.0, among_left news more found.0 found.1, found.2)
        | inr right ↦
            let found = of_among (λ p. (q : Parts ℤ) × IsAmong more q × IsNewForm p q) qs r k.all right in
            (found.0, among_right news more found.0 found.1, found.2)
      ]);
  only = all_among (λ q. (r : Parts ℤ) × IsAmong (rs ++ qs) r × IsNewForm r q) (news ++ more)
      (λ q among.
      elim (among_either news more q among) [
        | inl left ↦
            let found = of_among (λ p. (r : Parts ℤ) × IsAmong rs r × IsNewForm r p) news q h.only left in
            (found.0, among_left rs qs found.0 found.1, found.2)
        | inr right ↦
            let found = of_among (λ p. (r : Parts ℤ) × IsAmong qs r × IsNewForm r p) more q k.only right in
            (found.0, among_right rs qs found.0 found.1, found.2)
      ]);
}

-- ---- the old entries of a set

old_member_of_entry : (rs : List (Parts ℤ)) (es : List Entry) (x : Entry) → AreOldEntriesOf rs es → Has es x
    → (r : Parts ℤ) × IsAmong rs r × IsOldEntryOf r x
old_member_of_entry rs es x m h = of_member (λ e. (r : Parts ℤ) × IsAmong rs r × IsOldEntryOf r e) es x m.only h

-- a record whose old entry is there is a member
old_record_of_entry : (rs : List (Parts ℤ)) (es : List Entry) (r : Parts ℤ) (x : Entry) → AreOldEntriesOf rs es
    → Has es x → IsOldEntryOf r x → IsAmong rs r
old_record_of_entry rs es r x m h k =
    let found = old_member_of_entry rs es x m h in
    subst (IsAmong rs) (same_old_record found.0 r x found.2 k) found.1

-- an archive is an old archive
pub archive_old_archive : (most : ℕ) (es : List Entry) → IsArchive most es → IsOldArchive most es
archive_old_archive most es h = record {
  ascending = h.ascending;
  entries = all_weaker IsEntry IsOldEntry (λ e (r, k). (r, entry_old_entry r e k)) es h.entries;
  fits = h.fits;
}

-- the old entries of an archive's text are its entries
old_entries_are : (most : ℕ) (rs qs : List (Parts ℤ)) (t : List ℕ) → most ≤ COUNT_MAX
    → (h : OldText most rs t) (k : ArchiveText most qs t) → h.entries ≡ k.entries
old_entries_are most rs qs t low h k =
    same_old_text most most h.entries k.entries low low h.archive (archive_old_archive most k.entries k.archive)
    (sym h.text_is ∙ k.text_is)

pub set_by_id : (most : ℕ) (rs qs : List (Parts ℤ)) (t : List ℕ) → most ≤ COUNT_MAX → OldText most rs t
    → ArchiveText most qs t → AreSame rs qs
set_by_id most rs qs t low h k r =
    let same = old_entries_are most rs qs t low h k in
    let olds : AreOldEntriesOf rs k.entries = subst (AreOldEntriesOf rs) same h.members in (
      λ among.
          let found = of_among (λ p. (e : Entry) × Has k.entries e × IsOldEntryOf p e) rs r olds.all among in
          let new = member_of_entry qs k.entries found.0 k.members found.1 in
          subst (IsAmong qs) (same_old_record new.0 r found.0 (entry_old_entry new.0 found.0 new.2) found.2) new.1,
      λ among.
          let found = of_among (λ p. (e : Entry) × Has k.entries e × IsEntryOf p e) qs r k.members.all among in
          old_record_of_entry rs k.entries r found.0 olds found.1 (entry_old_entry r found.0 found.2),
    )

valid_members : (qs : List (Parts ℤ)) (es : List Entry) (r : Parts ℤ) → AreEntriesOf qs es → IsAmong qs r → IsRecord r
valid_members qs es r m among = (of_among (λ p. (e : Entry) × Has es e × IsEntryOf p e) qs r m.all among).2.valid

pub migrated_by_id : (most : ℕ) (rs qs : List (Parts ℤ)) (t : List ℕ) → most ≤ COUNT_MAX → OldText most rs t
    → ArchiveText most qs t → AreSame rs qs × IsMigration rs qs
migrated_by_id most rs qs t low h k =
    let same = set_by_id most rs qs t low h k in
    let itself = λ (r : Parts ℤ) (among : IsAmong qs r). by_id_itself r (valid_members qs k.entries r k.members among)
    in (
      same,
      record {
        all = all_among (λ r. (q : Parts ℤ) × IsAmong qs q × IsNewForm r q) rs (λ r among. let there = (same r).0 among
            in (r, there, itself r there));
        only = all_among (λ q. (r : Parts ℤ) × IsAmong rs r × IsNewForm r q) qs
            (λ q among. (q, (same q).1 among, itself q among));
      },
    )

-- ---- what a text gives

-- the entries of a migrated set are those of the new forms
migrated_entries : (rs qs : List (Parts ℤ)) (olds es : List Entry) → AreOldEntriesOf rs olds → IsMigration rs qs
    → AddsMigrated olds [] es → AreEntriesOf qs es
migrated_entries rs qs olds es m new adds = record {
  all = all_among (λ q. (e : Entry) × Has es e × IsEntryOf q e) qs
      (λ q among.
      let from = of_among (λ p. (r : Parts ℤ) × IsAmong rs r × IsNewForm r p) qs q new.only among in
      let o = of_among (λ p. (e : Entry) × Has olds e × IsOldEntryOf p e) rs from.0 m.all from.1 in
      let c = new_octets from.0 q o.0.octets o.2.canonical from.2 in
      let e : Entry = record { instant = q.time; octets = c.0 } in
      let entry : IsEntryOf q e = record {
        valid = new_form_valid from.0 q o.2.valid from.2;
        instant = refl;
        canonical =
            c.1;
      } in
      (e, (adds e).1 (inl (o.0, o.1, (from.0, q, o.2, from.2, entry))), entry));
  only = of_all (λ e. (q : Parts ℤ) × IsAmong qs q × IsEntryOf q e) es
      (λ e has.
      elim ((adds e).0 has) [
        | inl (o, there, (r, q, old, form, entry)) ↦
            (q, (migrated_iff rs qs new q).1 (r, old_record_of_entry rs olds r o m there old, form), entry)
        | inr none ↦ absurd none
      ]);
}

pub set_given : (rs qs : List (Parts ℤ)) (t : List ℕ) (es : List Entry) → OldText ENTRY_MAX rs t → IsMigration rs qs
    → Migrates t [] es → AreEntriesOf qs es
set_given rs qs t es h new (olds, archive, is, adds) =
    let same = same_old_text ENTRY_MAX ENTRY_MAX h.entries olds (omega arith) (omega arith) h.archive archive
    (sym h.text_is ∙ is) in
    migrated_entries rs qs olds es (subst (AreOldEntriesOf rs) same h.members) new adds

pub no_fault : (most : ℕ) (rs : List (Parts ℤ)) (t : List ℕ) (fault : ArchiveFault) → OldText most rs t
    → ¬ (IsOldArchiveFault most t fault)
no_fault most rs t fault h k = old_archive_has_no_fault most h.entries fault h.archive
    (subst (λ u. IsOldArchiveFault most u fault) h.text_is k)

-- an entry is the new entry of itself alone
new_of_entry : (o e : Entry) → IsEntry o → IsNewEntryOf o e ↔ (o ≡ e)
new_of_entry o e (p, h) = (
  λ (r, q, old, form, entry).
      let same : p ≡ r = same_old_record p r o (entry_old_entry p o h) old in
      let itself : p ≡ q = one_new_form r p q (subst (λ z. IsNewForm z p) same (by_id_itself p h.valid)) form in
      one_entry_of p o e h (subst (λ z. IsEntryOf z e) (sym itself) entry),
  λ same. (p, p, entry_old_entry p o h, by_id_itself p h.valid, subst (IsEntryOf p) same h),
)

pub given_back : (rs : List (Parts ℤ)) (t : List ℕ) (es : List Entry) → IsAscending es → ArchiveText ENTRY_MAX rs t
    → Migrates t [] es → t ≡ text_of es
given_back rs t es ascending h (olds, archive, is, adds) =
    let same : h.entries ≡ olds =
    same_old_text ENTRY_MAX ENTRY_MAX h.entries olds (omega arith) (omega arith)
    (archive_old_archive ENTRY_MAX h.entries h.archive) archive (sym h.text_is ∙ is) in
    let entries : AllByRecursion IsEntry olds = subst (AllByRecursion IsEntry) same h.archive.entries in
    let there : (x : Entry) → Has olds x → Has es x =
    λ x has. (adds x).1 (inl (x, has, (new_of_entry x x (of_member IsEntry olds x entries has)).1 refl)) in
    let back : (x : Entry) → Has es x → Has olds x =
    λ x has.
    elim ((adds x).0 has) [
      | inl (o, held, new) ↦ subst (Has olds) ((new_of_entry o x (of_member IsEntry olds o entries held)).0 new) held
      | inr none ↦ absurd none
    ] in
    is ∙ ap text_of (same_members olds es archive.ascending ascending there back)
