-- Archives that are read from memory to their end, and texts that are written to memory.
use Rattle.std.proofs.Common.{◌≡◌, ℕ, List, [], ◌∷◌, ◌++◌, Option, Some, None, Bool, true, false, ap, subst, ◌∙◌, inl}
use Rattle.std.specs.Prelude.{◌↔◌}
use Rattle.std.specs.List.{AllByRecursion}
use Rattle.std.proofs.lemmas.List.{append-nil}
use Rattle.std.specs.Io.KnownBytes.{Appends, Consumes, IsAtEnd}
use Rattle.octet_devices.specs.Device.{InputState}
use Rattle.archive_text.specs.Entries.{Entry, Has}
use Rattle.archive_text.specs.Text.{IsArchive, entry_text, text_of}
use Rattle.archive_text.specs.declared.limits.TheConstants.{ENTRY_MAX}
use Rattle.archive_streams.specs.Entries.{IsWhole}
use Rattle.archive_join.specs.Holders.{AreKept, has_entry, kept_text}
use Rattle.archive_join.specs.Inputs.{AreWhole}
use Rattle.archive_join.specs.Joined.{Joined}
use Rattle.archive_join.specs.Keeping.{DoAllHave, HasFirstAlone}
use Rattle.archive_join.proofs.Holders.{has_decides, has_not}
use Rattle.c_library.specs.Sets.{CommonOf, JoinOf, MinusOf}
use Rattle.c_library.specs.Unions.{IsArchiveOf}

-- ---- what was read

consumed_all : (old new : Option (List ℕ)) (text given : List ℕ) → old ≡ Some text → Consumes old new given → IsAtEnd new
    → text ≡ given
consumed_all None new text given known took ended = absurd cc
consumed_all (Some xs) None text given known took ended = absurd took
consumed_all (Some xs) (Some ys) text given known took ended =
    let same : text ≡ xs = cc in
    same ∙ took ∙ ap (λ (u : List ℕ). given ++ u) ended ∙ append-nil given

pub whole_archive : (d e : InputState) (text : List ℕ) (es : List Entry) → d.left ≡ Some text → IsWhole d e es
    → IsArchiveOf es text
whole_archive d e text es known w = record {
  archive = w.archive;
  text_is = consumed_all d.left e.left text (text_of es) known w.consumed w.none_left;
}

pub record TwoWhole (xss : List (List Entry)) (left right : List ℕ) : Type 0 where
  pub left_entries : List Entry
  pub right_entries : List Entry
  pub both : xss ≡ left_entries ∷ right_entries ∷ []
  pub left_is : IsArchiveOf left_entries left
  pub right_is : IsArchiveOf right_entries right

pub two_whole : (c d : InputState) (es : List InputState) (xss : List (List Entry)) (left right : List ℕ)
    → c.left ≡ Some left → d.left ≡ Some right → AreWhole (c ∷ d ∷ []) es xss → TwoWhole xss left right
two_whole c d [] [] left right known also w = absurd w
two_whole c d [] (x ∷ xss) left right known also w = absurd w
two_whole c d (e ∷ []) [] left right known also w = absurd w
two_whole c d (e ∷ []) (x ∷ []) left right known also w = absurd w.1
two_whole c d (e ∷ []) (x ∷ y ∷ xss) left right known also w = absurd w.1
two_whole c d (e ∷ f ∷ es) [] left right known also w = absurd w
two_whole c d (e ∷ f ∷ es) (x ∷ []) left right known also w = absurd w.1
two_whole c d (e ∷ f ∷ []) (x ∷ y ∷ z ∷ xss) left right known also w = absurd w.1.1
two_whole c d (e ∷ f ∷ h ∷ es) (x ∷ y ∷ []) left right known also w = absurd w.1.1
two_whole c d (e ∷ f ∷ h ∷ es) (x ∷ y ∷ z ∷ xss) left right known also w = absurd w.1.1
two_whole c d (e ∷ f ∷ []) (xs ∷ ys ∷ []) left right known also w = record {
  left_entries = xs;
  right_entries = ys;
  both = cc;
  left_is = whole_archive c e left xs known w.0;
  right_is = whole_archive d f right ys also w.1.0;
}

-- ---- what was written

pub written_all : (old new : Option (List ℕ)) (text items : List ℕ) → old ≡ Some [] → new ≡ Some items → Appends old new text
    → items ≡ text
written_all None new text items before behind adds = absurd cc
written_all (Some xs) None text items before behind adds = absurd cc
written_all (Some xs) (Some ys) text items before behind adds =
    let none : xs ≡ [] = cc in
    let all : items ≡ ys = cc in
    all ∙ adds ∙ ap (λ (u : List ℕ). u ++ text) none

-- ---- what is kept of two archives

pub join_of : (keeps : List Bool → Type 0) (text : List Bool → Entry → List ℕ) (c d : InputState) (es : List InputState)
    (old new : Option (List ℕ)) (n : ℕ) (left right items : List ℕ) → c.left ≡ Some left → d.left ≡ Some right
    → old ≡ Some [] → new ≡ Some items
    → ((most : ℕ) (xss : List (List Entry)) (ys : List Entry) → AllByRecursion (IsArchive most) xss → AreKept keeps xss ys
    → IsArchive most ys)
    → Joined keeps text (c ∷ d ∷ []) es old new n → JoinOf keeps text left right items
join_of keeps text c d es old new n left right items known also before behind are j =
    let both = two_whole c d es j.xss left right known also j.whole in
    let kept = subst (λ (xss : List (List Entry)). AreKept keeps xss j.ys) both.both j.kept in
    record {
      left_entries = both.left_entries;
      right_entries = both.right_entries;
      entries = j.ys;
      left_is = both.left_is;
      right_is = both.right_is;
      archive =
          are ENTRY_MAX (both.left_entries ∷ both.right_entries ∷ []) j.ys
          (both.left_is.archive, (both.right_is.archive, tt)) kept;
      kept = kept;
      out_is =
          written_all old new (kept_text text j.xss j.ys) items before behind j.written
          ∙ ap (λ (xss : List (List Entry)). kept_text text xss j.ys) both.both;
    }

-- ---- who has an entry

not_true : (has : Bool) (P : Type 0) → (P → has ≡ true) → has ≡ false → ¬ P
not_true has P on off p = (let yes : has ≡ true = on p in absurd cc)

pub common_members : (xs ys zs : List Entry) → AreKept DoAllHave (xs ∷ ys ∷ []) zs → (e : Entry)
    → Has zs e ↔ (Has xs e × Has ys e)
common_members xs ys zs kept e = (
  λ h.
      (let m = ((kept.members e).0 h).1 in ((has_decides xs e).0 m.0, (has_decides ys e).0 m.1.0)),
  λ both. (kept.members e).1 (inl both.0, ((has_decides xs e).1 both.0, ((has_decides ys e).1 both.1, tt))),
)

pub minus_members : (xs ys zs : List Entry) → AreKept HasFirstAlone (xs ∷ ys ∷ []) zs → (e : Entry)
    → Has zs e ↔ (Has xs e × ¬ (Has ys e))
minus_members xs ys zs kept e = (
  λ h.
      (let m = ((kept.members e).0 h).1 in
      ((has_decides xs e).0 m.0, not_true (has_entry ys e) (Has ys e) (has_decides ys e).1 m.1.0)),
  λ both.
      (kept.members e).1 (inl both.0, ((has_decides xs e).1 both.0, (has_not ys e both.1, tt))),
)

-- ---- in the words of sets

pub common_from : (left right items : List ℕ) → JoinOf DoAllHave (λ have e. entry_text e) left right items
    → CommonOf left right items
common_from left right items j = record {
  left_entries = j.left_entries;
  right_entries = j.right_entries;
  entries = j.entries;
  left_is = j.left_is;
  right_is = j.right_is;
  members = common_members j.left_entries j.right_entries j.entries j.kept;
  text_is = record { archive = j.archive; text_is = j.out_is };
}

pub minus_from : (left right items : List ℕ) → JoinOf HasFirstAlone (λ have e. entry_text e) left right items
    → MinusOf left right items
minus_from left right items j = record {
  left_entries = j.left_entries;
  right_entries = j.right_entries;
  entries = j.entries;
  left_is = j.left_is;
  right_is = j.right_is;
  members = minus_members j.left_entries j.right_entries j.entries j.kept;
  text_is = record { archive = j.archive; text_is = j.out_is };
}
