-- A file has no entries that a draft lacks.
use Rattle.std.proofs.Common.{◌≡◌, ◌≢◌, ℕ, Bool, true, false, List, [], ◌∷◌, ◌++◌, inl, inr, ⊎_elim, refl, sym, ap, subst}
use Rattle.std.proofs.Common.{◌∙◌}
use Rattle.std.proofs.Common.{arith, length}
use Rattle.std.specs.Prelude.{Option, None, Some, IsSomeAnd, IsTrue, not}
use Rattle.std.proofs.lemmas.Bool.{cases_Bool}
use Rattle.disk.specs.Calls.{IsUnchanged}
use Rattle.disk.specs.Memory.{shown_now}
use Rattle.disk.specs.States.{Files, State}
use Rattle.octet_devices.specs.Device.{InputState}
use Rattle.octet_devices.specs.Held.{counted}
use Rattle.archive_text.specs.Entries.{Entry, Has}
use Rattle.archive_text.specs.Text.{text_of}
use Rattle.archive_streams.specs.Entries.{IsWhole}
use Rattle.archive_join.specs.Holders.{AreKept, has_entry}
use Rattle.archive_join.specs.Inputs.{AreWhole}
use Rattle.archive_join.specs.Joined.{Joined}
use Rattle.archive_join.specs.Keeping.{HasFirstAlone}
use Rattle.archive_join.proofs.Holders.{has_decides}
use Rattle.record_store.specs.Holdings.{HeldAt}
use Rattle.record_store.specs.Segments.{ShowsNoMore}
use Rattle.record_store.proofs.Drafted.{segment_no_more}
use Rattle.store_reading.specs.Folders.{Opens}
use Rattle.store_upkeep.specs.Compaction.{shown}
use Rattle.store_expiry.specs.Causes.{HasOthers}
use Rattle.store_expiry.specs.Surveys.{IsArchiveAt, IsNoneOrWhole, IsSegmentFile}
use Rattle.store_expiry.proofs.Changing.{file_as}
use Rattle.store_expiry.proofs.Resting.{whole_of}

-- two inputs were read to their ends
record TwoWhole (d e : InputState) (xss : List (List Entry)) : Type 0 where
  first : List Entry
  second : List Entry
  d_after : InputState
  e_after : InputState
  are : xss ≡ first ∷ second ∷ []
  first_whole : IsWhole d d_after first
  second_whole : IsWhole e e_after second

two_whole : (d e : InputState) (es : List InputState) (xss : List (List Entry)) → AreWhole (d ∷ e ∷ []) es xss
    → TwoWhole d e xss
two_whole d e [] xss w = absurd w
two_whole d e (x ∷ es) [] w = absurd w
two_whole d e (x ∷ []) (xs ∷ xss) w = absurd w.1
two_whole d e (x ∷ y ∷ es) (xs ∷ []) w = absurd w.1
two_whole d e (x ∷ y ∷ []) (xs ∷ ys ∷ []) w = record {
  first = xs;
  second = ys;
  d_after = x;
  e_after = y;
  are = refl;
  first_whole = w.0;
  second_whole = w.1.0;
}
two_whole d e (x ∷ y ∷ []) (xs ∷ ys ∷ zs ∷ xss) w = absurd w.1.1
two_whole d e (x ∷ y ∷ z ∷ es) (xs ∷ ys ∷ []) w = absurd w.1.1
two_whole d e (x ∷ y ∷ z ∷ es) (xs ∷ ys ∷ zs ∷ xss) w = absurd w.1.1

none_counted : (ys : List Entry) (n : ℕ) → n ≡ counted (length ys) → n ≡ 0 → ys ≡ []
none_counted [] n is zero = refl
none_counted (y ∷ ys) n is zero = absurd (omega (arith, is, zero))

-- none is the first's alone
all_second : (first second ys : List Entry) → AreKept HasFirstAlone (first ∷ second ∷ []) ys → ys ≡ [] → (e : Entry)
    → Has first e → Has second e
all_second first second ys kept none e has = ⊎_elim
    (λ yes. (has_decides second e).0 yes)
    (λ no. absurd (subst (λ (l : List Entry). Has l e) none
    ((kept.members e).1 (inl has, ((has_decides first e).1 has, (no, tt))))))
    (cases_Bool (has_entry second e))

left_of : (o left : Option (List ℕ)) (file : List ℕ) → IsSomeAnd o (λ octets. left ≡ Some octets) → o ≡ Some file
    → left ≡ Some file
left_of None left file opened is = absurd opened
left_of (Some x) left file opened is = opened ∙ is

-- one that is the first's alone
first_alone : (first second ys : List Entry) → AreKept HasFirstAlone (first ∷ second ∷ []) ys → ys ≢ []
    → (e : Entry) × Has first e × (¬ (Has second e))
first_alone first second [] kept some = absurd (some refl)
first_alone first second (y ∷ ys) kept some =
    let member = (kept.members y).0 (inl refl) in
    (y, (has_decides first y).0 member.1.0, (λ has. absurd (cc (sym member.1.1.0 ∙ (has_decides second y).1 has))))

not_counted : (ys : List Entry) (n : ℕ) → n ≡ counted (length ys) → n ≢ 0 → ys ≢ []
not_counted ys n is some none = some (is ∙ ap (λ (l : List Entry). counted (length l)) none)

module _ (files : Files) (name draft : List ℕ) (d e : InputState) (ds after : List InputState)
    (text : List Bool → Entry → List ℕ) (old new : Option (List ℕ)) (n : ℕ) (es left : List Entry)
    (opened : Opens files name d) (drafted : Opens files draft e) (are : ds ≡ d ∷ e ∷ [])
    (j : Joined HasFirstAlone text ds after old new n) (file : IsArchiveAt files name es)
    (rest : IsArchiveAt files draft left) where
  ends : TwoWhole d e j.xss
  ends = two_whole d e after j.xss (subst (λ (l : List InputState). AreWhole l after j.xss) are j.whole)

  kept : AreKept HasFirstAlone (ends.first ∷ ends.second ∷ []) j.ys
  kept = subst (λ (xss : List (List Entry)). AreKept HasFirstAlone xss j.ys) ends.are j.kept

  first_is : ends.first ≡ es
  first_is =
      whole_of d ends.d_after es ends.first (left_of (files name) d.left (text_of es) opened file.file) file.archive
      ends.first_whole

  second_is : ends.second ≡ left
  second_is =
      whole_of e ends.e_after left ends.second (left_of (files draft) e.left (text_of left) drafted rest.file)
      rest.archive ends.second_whole

  pub has_none : n ≡ 0 → (y : Entry) → Has es y → Has left y
  has_none zero y has =
      subst (λ (l : List Entry). Has l y) second_is
      (all_second ends.first ends.second j.ys kept (none_counted j.ys n j.count zero) y
      (subst (λ (l : List Entry). Has l y) (sym first_is) has))

  pub has_more : n ≢ 0 → (y : Entry) × Has es y × (¬ (Has left y))
  has_more some =
      let found = first_alone ends.first ends.second j.ys kept (not_counted j.ys n j.count some) in (
        found.0,
        subst (λ (l : List Entry). Has l found.0) first_is found.1,
        (λ has. found.2 (subst (λ (l : List Entry). Has l found.0) (sym second_is) has)),
      )

-- what a read shows of a whole segment
pub shows_no_more : (state : State) (name period : List ℕ) (es left : List Entry)
    → IsSegmentFile (shown state) name period es → ((e : Entry) → Has es e → Has left e) → ShowsNoMore state name left
shows_no_more state name period es left f all e held =
    all e (segment_no_more name period (text_of es) es f.segment f.archive e
    (subst (λ (o : Option (List ℕ)). HeldAt name o e) f.file held))

pub archive_of : (files : Files) (name period : List ℕ) (es : List Entry) → IsSegmentFile files name period es
    → IsArchiveAt files name es
archive_of files name period es f = record { archive = f.archive.archive; file = f.file }

-- nothing has changed
pub archive_still : (old new : State) (name : List ℕ) (es : List Entry) → IsUnchanged old new
    → IsArchiveAt (shown old) name es → IsArchiveAt (shown new) name es
archive_still old new name es same a =
    record { archive = a.archive; file = ap shown_now (same.entries name) ∙ a.file }

pub no_more_there : (state : State) (name : List ℕ) (es : List Entry) → shown state name ≡ None
    → ShowsNoMore state name es
no_more_there state name es none e held = absurd (subst (λ (o : Option (List ℕ)). HeldAt name o e) none held)

module _ (zero one : State) (name period : List ℕ) (es left : List Entry) (same : IsUnchanged zero one)
    (file : IsSegmentFile (shown one) name period es) where
  file_then : IsSegmentFile (shown zero) name period es
  file_then = file_as (shown one) (shown zero) name period es (sym (ap shown_now (same.entries name))) file

  pub free_then : ((e : Entry) → Has es e → Has left e) → ShowsNoMore zero name left × IsNoneOrWhole (shown zero) name
  free_then all = (shows_no_more zero name period es left file_then all, inr (period, es, file_then))

  pub others_then : (e : Entry) × Has es e × (¬ (Has left e)) → HasOthers (shown zero) name period left
  others_then found = record {
    entries = es;
    is_file = file_then;
    other = found.0;
    has = found.1;
    lacks = found.2;
  }

pub not_off : (b : Bool) → not b ≡ false → IsTrue b
not_off true off = refl
not_off false off = absurd (cc off)

pub on_not : (b : Bool) → not b ≡ true → b ≡ false
on_not true on = absurd (cc on)
on_not false on = refl

pub two_items : {F : Type 0} (items one two none : List F) (a b : F) → items ≡ two → two ≡ one ++ b ∷ []
    → one ≡ none ++ a ∷ [] → none ≡ [] → items ≡ a ∷ b ∷ []
two_items {F = F} items one two none a b is last first empty =
    is ∙ last ∙ ap (λ (l : List F). l ++ b ∷ []) (first ∙ ap (λ (l : List F). l ++ a ∷ []) empty)
