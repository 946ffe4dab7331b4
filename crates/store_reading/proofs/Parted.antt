-- The first entries of a day are parted from the others.
use Rattle.std.proofs.Common.{◌≡◌, ◌≢◌, ℕ, ◌-◌, ◌<◌, List, [], ◌∷◌, ◌++◌, length, take, drop}
use Rattle.std.proofs.Common.{refl, sym, ap, subst, ◌∙◌, append_assoc, arith, length-append, append-nil}
use Rattle.std.specs.List.{AllByRecursion}
use Rattle.std.proofs.lemmas.List.{take_at, drop_at}
use Rattle.archive_text.specs.Entries.{Entry}
use Rattle.archive_text.specs.Faults.{IsFaultBefore}
use Rattle.archive_text.specs.Text.{BeginsWithEntry, IsArchive, entry_text, text_of}
use Rattle.archive_text.specs.declared.fault.ArchiveFault.{ArchiveFault}
use Rattle.archive_text.specs.declared.limits.TheConstants.{ENTRY_MAX}
use Rattle.archive_text.specs.Positions.{later}
use Rattle.archive_text.proofs.Ascending.{archive_right}
use Rattle.archive_text.proofs.FaultLaws.{fault_later}
use Rattle.archive_text.proofs.Members.{all_append}
use Rattle.archive_text.proofs.Prefixes.{fault_excludes}
use Rattle.archive_text.proofs.Texts.{first_of_text, one_beginning, text_goes_on, text_some}
use Rattle.store_reading.specs.Days.{IsOf}
use Rattle.store_reading.specs.Names.{IsFirstDay}
use Rattle.store_reading.specs.Parts.{BeginsApart, BeginsElsewhere, BeginsWithDay, PartsAt}
use Rattle.store_reading.proofs.DayOrders.{one_day}

-- a text with a fault at its beginning begins with no entry
pub none_begins : (text : List ℕ) (fault : ArchiveFault) (e : Entry) (behind : List ℕ)
    → IsFaultBefore ENTRY_MAX text fault
    → BeginsWithEntry ENTRY_MAX text e behind → ⊥
none_begins text fault e behind bad begins =
    fault_excludes ENTRY_MAX [] text (later 0 fault) (fault_later ENTRY_MAX [] text fault bad) e behind begins (tt, tt)

pub shorter : (text : List ℕ) (e : Entry) (behind : List ℕ) → BeginsWithEntry ENTRY_MAX text e behind
    → length behind < length text
shorter text e behind begins = omega (arith, ap length begins.parts, length-append (entry_text e) behind, text_some e)

-- the first entry of an archive's text
pub first_begins : (text : List ℕ) (e : Entry) (es : List Entry) → IsArchive ENTRY_MAX (e ∷ es)
    → text ≡ text_of (e ∷ es)
    → BeginsWithEntry ENTRY_MAX text e (text_of es)
first_begins text e es archive is =
    subst (BeginsWithEntry ENTRY_MAX text e) (append-nil (text_of es))
    (first_of_text ENTRY_MAX text e es [] (omega arith) archive (is ∙ sym (append-nil (text_of (e ∷ es)))))

pub first_is : (text day found : List ℕ) (e : Entry) (behind : List ℕ) → BeginsWithEntry ENTRY_MAX text e behind
    → IsOf found e → IsFirstDay text day → found ≡ day
first_is text day found e behind begins lies (f, es, archive, is, of) =
    let same = one_beginning ENTRY_MAX ENTRY_MAX text e f behind (text_of es) begins
    (first_begins text f es archive is) in
    one_day found day f (subst (IsOf found) same.0 lies) of

pub no_first : (text day : List ℕ) (fault : ArchiveFault) → IsFaultBefore ENTRY_MAX text fault → IsFirstDay text day → ⊥
no_first text day fault bad (f, es, archive, is, of) =
    none_begins text fault f (text_of es) bad (first_begins text f es archive is)

-- ---- the loop

-- of an archive's text the entries before the rest are of the day
pub record FrontOf (day text rest : List ℕ) (es : List Entry) : Type 0 where
  pub front : List Entry
  pub back : List Entry
  pub parts : es ≡ front ++ back
  pub text_is : text ≡ text_of front ++ rest
  pub rest_is : rest ≡ text_of back
  pub days : AllByRecursion (IsOf day) front

abbrev pub IsFrontOf : List ℕ → List ℕ → List ℕ → Type 0
IsFrontOf day text rest = (es : List Entry) → IsArchive ENTRY_MAX es → text ≡ text_of es → FrontOf day text rest es

pub no_front : (day text : List ℕ) → IsFrontOf day text text
no_front day text es archive is =
    record { front = []; back = es; parts = refl; text_is = refl; rest_is = is; days = tt }

more_of : (day text rest behind : List ℕ) (es : List Entry) (e : Entry) (back : List Entry)
    (f : FrontOf day text rest es)
    → IsArchive ENTRY_MAX es → back ≡ f.back → BeginsWithEntry ENTRY_MAX rest e behind → IsOf day e
    → FrontOf day text behind es
more_of day text rest behind es e [] f archive is begins of =
    absurd (omega (arith, ap length (f.rest_is ∙ ap text_of (sym is)), shorter rest e behind begins))
more_of day text rest behind es e (b ∷ back) f archive is begins of =
    let parts : es ≡ f.front ++ (b ∷ back) = f.parts ∙ ap (λ (l : List Entry). f.front ++ l) (sym is) in
    let last : IsArchive ENTRY_MAX (b ∷ back) = archive_right ENTRY_MAX f.front (b ∷ back)
    (subst (IsArchive ENTRY_MAX) parts archive) in
    let same = one_beginning ENTRY_MAX ENTRY_MAX rest e b behind (text_of back) begins
    (first_begins rest b back last (f.rest_is ∙ ap text_of (sym is))) in
    record {
      front = f.front ++ e ∷ [];
      back = back;
      parts = parts ∙ ap (λ (x : Entry). f.front ++ (x ∷ back)) (sym same.0) ∙ sym (append_assoc f.front (e ∷ []) back);
      text_is = text_goes_on f.front e text rest behind f.text_is begins.parts;
      rest_is = same.1;
      days = all_append (IsOf day) f.front (e ∷ []) f.days (of, tt);
    }

pub front_more : (day text rest behind : List ℕ) → IsFrontOf day text rest → BeginsWithDay day rest behind
    → IsFrontOf day text behind
front_more day text rest behind front (e, begins, of) es archive is =
    let f = front es archive is in more_of day text rest behind es e f.back f archive refl begins of

elsewhere : (day rest : List ℕ) (back : List Entry) → IsArchive ENTRY_MAX back → rest ≡ text_of back
    → BeginsApart day rest → BeginsElsewhere day back
elsewhere day rest [] archive is apart = tt
elsewhere day rest (b ∷ back) archive is apart = apart b (text_of back) (first_begins rest b back archive is)

pub front_ends : (day text rest : List ℕ) (at : ℕ) → IsFrontOf day text rest → BeginsApart day rest
    → at ≡ length text - length rest → PartsAt day text at
front_ends day text rest at front apart at_is es archive is =
    let f = front es archive is in
    let size : length (text_of f.front) ≡ at =
    omega (arith, at_is, ap length f.text_is, length-append (text_of f.front) rest) in
    record {
      front = f.front;
      back = f.back;
      parts = f.parts;
      first = ap (take at) f.text_is ∙ take_at (text_of f.front) rest at size;
      rest = ap (drop at) f.text_is ∙ drop_at (text_of f.front) rest at size ∙ f.rest_is;
      days = f.days;
      elsewhere = elsewhere day rest f.back (archive_right ENTRY_MAX f.front f.back
          (subst (IsArchive ENTRY_MAX) f.parts archive))
          f.rest_is apart;
    }

-- it begins with an entry of another day
pub apart : (day text found : List ℕ) (e : Entry) (behind : List ℕ) → BeginsWithEntry ENTRY_MAX text e behind
    → IsOf found e
    → found ≢ day → BeginsApart day text
apart day text found e behind begins lies other f rest also =
    let same = one_beginning ENTRY_MAX ENTRY_MAX text e f behind rest begins also in
    (found, subst (IsOf found) same.0 lies, other)
