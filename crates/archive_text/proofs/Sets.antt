-- Archives as sets of records.
use Rattle.std.proofs.Common.{◌≡◌, ℕ, ◌≤◌, inl, inr, length, refl, subst, List, [], ◌∷◌, ◌++◌}
use Rattle.std.specs.Prelude.{ℤ, ◌⊎◌, ◌↔◌}
use Rattle.std.specs.List.{AllByRecursion}
use Rattle.syslog_value.specs.Parts.{Parts}
use Rattle.archive_text.specs.Entries.{Entry, Has, IsAscending, IsEntry, IsEntryOf}
use Rattle.archive_text.specs.Sets.{ArchiveText, AreEntriesOf, AreSame, IsAmong, IsUnionOfEntries}
use Rattle.archive_text.specs.Stores.{AddsEntry, AddsRecord}
use Rattle.archive_text.specs.Text.{IsArchive, text_of}
use Rattle.archive_text.specs.declared.store.Added.{Added}
use Rattle.archive_text.proofs.Ascending.{same_members}
use Rattle.archive_text.proofs.Members.{all_weaker, of_all, of_member}
use Rattle.archive_text.proofs.Places.{adds_has}
use Rattle.archive_text.proofs.Texts.{one_entry_of, one_record}

-- ---- records of a list

pub of_among : (P : Parts ℤ → Type 0) (rs : List (Parts ℤ)) (r : Parts ℤ) → AllByRecursion P rs → IsAmong rs r → P r
of_among P [] r h k = absurd k
of_among P (q ∷ rs) r h (inl same) = subst P same h.0
of_among P (q ∷ rs) r h (inr more) = of_among P rs r h.1 more

pub all_among : (P : Parts ℤ → Type 0) (rs : List (Parts ℤ)) → ((r : Parts ℤ) → IsAmong rs r → P r)
    → AllByRecursion P rs
all_among P [] each = tt
all_among P (q ∷ rs) each = (each q (inl refl), all_among P rs (λ r h. each r (inr h)))

pub among_left : (rs qs : List (Parts ℤ)) (r : Parts ℤ) → IsAmong rs r → IsAmong (rs ++ qs) r
among_left [] qs r h = absurd h
among_left (p ∷ rs) qs r (inl same) = inl same
among_left (p ∷ rs) qs r (inr more) = inr (among_left rs qs r more)

pub among_right : (rs qs : List (Parts ℤ)) (r : Parts ℤ) → IsAmong qs r → IsAmong (rs ++ qs) r
among_right [] qs r h = h
among_right (p ∷ rs) qs r h = inr (among_right rs qs r h)

pub among_either : (rs qs : List (Parts ℤ)) (r : Parts ℤ) → IsAmong (rs ++ qs) r → IsAmong rs r ⊎ IsAmong qs r
among_either [] qs r h = inr h
among_either (p ∷ rs) qs r (inl same) = inl (inl same)
among_either (p ∷ rs) qs r (inr more) = elim (among_either rs qs r more)
    [ inl left ↦ inl (inr left) | inr right ↦ inr right ]

-- ---- the entries of a set

-- the entry of a member is there
pub entry_of_member : (rs : List (Parts ℤ)) (es : List Entry) (r : Parts ℤ) (x : Entry) → AreEntriesOf rs es
    → IsAmong rs r → IsEntryOf r x → Has es x
entry_of_member rs es r x m among h =
    let found = of_among (λ q. (e : Entry) × Has es e × IsEntryOf q e) rs r m.all among in
    subst (Has es) (one_entry_of r found.0 x found.2 h) found.1

-- each entry is that of a member
pub member_of_entry : (rs : List (Parts ℤ)) (es : List Entry) (x : Entry) → AreEntriesOf rs es → Has es x
    → (r : Parts ℤ) × IsAmong rs r × IsEntryOf r x
member_of_entry rs es x m h = of_member (λ e. (r : Parts ℤ) × IsAmong rs r × IsEntryOf r e) es x m.only h

-- a record whose entry is there is a member
pub record_of_entry : (rs : List (Parts ℤ)) (es : List Entry) (r : Parts ℤ) (x : Entry) → AreEntriesOf rs es → Has es x
    → IsEntryOf r x → IsAmong rs r
record_of_entry rs es r x m h k =
    let found = member_of_entry rs es x m h in
    subst (IsAmong rs) (one_record found.0 r x x found.2 k refl) found.1

pub has_same : (rs qs : List (Parts ℤ)) (es fs : List Entry) → ((r : Parts ℤ) → IsAmong rs r → IsAmong qs r)
    → AreEntriesOf rs es → AreEntriesOf qs fs
    → (x : Entry) → Has es x → Has fs x
has_same rs qs es fs each m n x h =
    let found = member_of_entry rs es x m h in
    entry_of_member qs fs found.0 x n (each found.0 found.1) found.2

-- one set has one ascending list of entries
pub same_entries : (rs qs : List (Parts ℤ)) (es fs : List Entry) → AreSame rs qs → IsAscending es → IsAscending fs
    → AreEntriesOf rs es → AreEntriesOf qs fs → es ≡ fs
same_entries rs qs es fs same h k m n =
    same_members es fs h k (has_same rs qs es fs (λ r. (same r).0) m n) (has_same qs rs fs es (λ r. (same r).1) n m)

-- the entries are those of the set, however its members are listed
pub entries_same : (rs qs : List (Parts ℤ)) (es : List Entry) → AreSame rs qs → AreEntriesOf rs es → AreEntriesOf qs es
entries_same rs qs es same m = record {
  all = all_among (λ r. (e : Entry) × Has es e × IsEntryOf r e) qs
      (λ r h. of_among (λ q. (e : Entry) × Has es e × IsEntryOf q e) rs r m.all ((same r).1 h));
  only = all_weaker (λ e. (r : Parts ℤ) × IsAmong rs r × IsEntryOf r e)
      (λ e. (r : Parts ℤ) × IsAmong qs r × IsEntryOf r e) (λ e h. (h.0, (same h.0).0 h.1, h.2)) es m.only;
}

-- the same entries are of the same set
pub same_set : (rs qs : List (Parts ℤ)) (es : List Entry) → AreEntriesOf rs es → AreEntriesOf qs es → AreSame rs qs
same_set rs qs es m n r = (
  λ h. let found = of_among (λ q. (e : Entry) × Has es e × IsEntryOf q e) rs r m.all h in
      record_of_entry qs es r found.0 n found.1 found.2,
  λ h. let found = of_among (λ q. (e : Entry) × Has es e × IsEntryOf q e) qs r n.all h in
      record_of_entry rs es r found.0 m found.1 found.2,
)

pub entries_nil : AreEntriesOf [] []
entries_nil = record { all = tt; only = tt }

-- one record more
pub entries_added : (r : Parts ℤ) (rs : List (Parts ℤ)) (e : Entry) (old new : List Entry) (added : Added)
    → IsEntryOf r e → AddsEntry e old new added → AreEntriesOf rs old
    → AreEntriesOf (r ∷ rs) new
entries_added r rs e old new added h adds m =
    let has = adds_has e old new added adds in
    record {
      all = (
        (e, (has e).1 (inl refl), h),
        all_weaker (λ q. (x : Entry) × Has old x × IsEntryOf q x) (λ q. (x : Entry) × Has new x × IsEntryOf q x)
            (λ q k. (k.0, (has k.0).1 (inr k.1), k.2)) rs m.all,
      );
      only = of_all (λ x. (q : Parts ℤ) × IsAmong (r ∷ rs) q × IsEntryOf q x) new
          (λ x k.
          elim ((has x).0 k) [
            | inl same ↦ (r, inl refl, subst (IsEntryOf r) same h)
            | inr more ↦ let found = member_of_entry rs old x m more in (found.0, inr found.1, found.2)
          ]);
    }

pub record_added : (r : Parts ℤ) (rs : List (Parts ℤ)) (old new : List Entry) (added : Added)
    → AddsRecord r old new added → AreEntriesOf rs old → AreEntriesOf (r ∷ rs) new
record_added r rs old new added (e, h, adds) m = entries_added r rs e old new added h adds m

-- ---- unions

-- an entry of the union is one of either
pub has_union : (rs qs : List (Parts ℤ)) (es fs gs : List Entry) → AreEntriesOf rs es → AreEntriesOf qs fs
    → AreEntriesOf (rs ++ qs) gs
    → (x : Entry) → Has gs x ↔ (Has es x ⊎ Has fs x)
has_union rs qs es fs gs m n u x = (
  λ h.
      let found = member_of_entry (rs ++ qs) gs x u h in
      elim (among_either rs qs found.0 found.1) [
        | inl left ↦ inl (entry_of_member rs es found.0 x m left found.2)
        | inr right ↦ inr (entry_of_member qs fs found.0 x n right found.2)
      ],
  λ h.
      elim h [
        | inl left ↦ let found = member_of_entry rs es x m left in
            entry_of_member (rs ++ qs) gs found.0 x u (among_left rs qs found.0 found.1) found.2
        | inr right ↦ let found = member_of_entry qs fs x n right in
            entry_of_member (rs ++ qs) gs found.0 x u (among_right rs qs found.0 found.1) found.2
      ],
)

-- a list with the entries of both is that of the union
pub entries_union : (rs qs : List (Parts ℤ)) (es fs gs : List Entry) → AreEntriesOf rs es → AreEntriesOf qs fs
    → IsUnionOfEntries es fs gs → AreEntriesOf (rs ++ qs) gs
entries_union rs qs es fs gs m n has = record {
  all = all_among (λ r. (e : Entry) × Has gs e × IsEntryOf r e) (rs ++ qs)
      (λ r h.
      elim (among_either rs qs r h) [
        | inl left ↦ let found = of_among (λ q. (e : Entry) × Has es e × IsEntryOf q e) rs r m.all left in
            (found.0, (has found.0).1 (inl found.1), found.2)
        | inr right ↦ let found = of_among (λ q. (e : Entry) × Has fs e × IsEntryOf q e) qs r n.all right in
            (found.0, (has found.0).1 (inr found.1), found.2)
      ]);
  only = of_all (λ e. (r : Parts ℤ) × IsAmong (rs ++ qs) r × IsEntryOf r e) gs
      (λ x h.
      elim ((has x).0 h) [
        | inl left ↦ let found = member_of_entry rs es x m left in (found.0, among_left rs qs found.0 found.1, found.2)
        | inr right ↦ let found = member_of_entry qs fs x n right in
            (found.0, among_right rs qs found.0 found.1, found.2)
      ]);
}

-- of two archives it is one too
pub archive_union : (most : ℕ) (es fs gs : List Entry) → IsArchive most es → IsArchive most fs → IsAscending gs
    → IsUnionOfEntries es fs gs → IsArchive most gs
archive_union most es fs gs a b up has = record {
  ascending = up;
  entries = of_all IsEntry gs (λ x h. elim ((has x).0 h) [
    | inl left ↦ of_member IsEntry es x a.entries left
    | inr right ↦ of_member IsEntry fs x b.entries right
  ]);
  fits = of_all (λ e. length e.octets ≤ most) gs (λ x h. elim ((has x).0 h) [
    | inl left ↦ of_member (λ e. length e.octets ≤ most) es x a.fits left
    | inr right ↦ of_member (λ e. length e.octets ≤ most) fs x b.fits right
  ]);
}

-- ---- archives

-- each archive is that of a set
pub records_of : (es : List Entry) → AllByRecursion IsEntry es → (rs : List (Parts ℤ)) × AreEntriesOf rs es
records_of [] h = ([], entries_nil)
records_of (e ∷ es) h =
    let r = h.0.0 in
    let rest = records_of es h.1 in (
      r ∷ rest.0,
      record {
        all = (
          (e, inl refl, h.0.1),
          all_weaker (λ q. (x : Entry) × Has es x × IsEntryOf q x) (λ q. (x : Entry) × Has (e ∷ es) x × IsEntryOf q x)
              (λ q k. (k.0, inr k.1, k.2)) rest.0 rest.1.all,
        );
        only = (
          (r, inl refl, h.0.1),
          all_weaker (λ x. (q : Parts ℤ) × IsAmong rest.0 q × IsEntryOf q x)
              (λ x. (q : Parts ℤ) × IsAmong (r ∷ rest.0) q × IsEntryOf q x) (λ x k. (k.0, inr k.1, k.2)) es rest.1.only,
        );
      },
    )

pub archive_is_of_a_set : (most : ℕ) (es : List Entry) → IsArchive most es
    → (rs : List (Parts ℤ)) × ArchiveText most rs (text_of es)
archive_is_of_a_set most es h =
    let of = records_of es h.entries in
    (of.0, record { entries = es; archive = h; members = of.1; text_is = refl })
