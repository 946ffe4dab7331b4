-- The members of an object, from a text of words.
use Rattle.std.proofs.Common.{◌≡◌, ℕ, zero, suc, ◌+◌, ◌<◌, ◌≤◌, List, [], ◌∷◌, ◌++◌, Option, None, Some, length, take, drop}
use Rattle.std.proofs.Common.{get_or, refl, sym, ap, subst, ◌∙◌, append-nil, append_assoc, drop-cons, length-append, add-one, arith}
use Rattle.std.specs.Prelude.{◌≢◌, Result, unwrap_or}
use Rattle.std.specs.List.{AllByRecursion}
use Rattle.std.proofs.lemmas.Bool.Decides.{Decides-eqb}
use Rattle.std.proofs.lemmas.List.{drop_at, length-take, take_all, take_at, take_more}
use Rattle.std.proofs.lemmas.List.Elements.{All-from_recursion, All-get_or}
use Rattle.memchr.specs.Find.{IsFirstByte, is_byte}
use Rattle.octet_language.specs.Language.{Only, ◌⋅◌}
use Rattle.syslog_fields.specs.Appending.{Adds, Anything, Puts}
use Rattle.syslog_fields.proofs.Appends.{puts_as, puts_then}
use Rattle.archive_counts.specs.Json.{FrontJson, MembersText, RowJson, member_key, members_text, value_of}
use Rattle.archive_counts.specs.Words.{AreSpaced, IsFree, spaced}
use Rattle.archive_counts.specs.declared.key.CountKey.{CountKey}
use Rattle.archive_counts.specs.declared.rows.Row.{Row}
use Rattle.archive_counts.proofs.Objects.{member_grows}

-- ---- a word ends where the next space is, or with the text

free_at : (word : List ℕ) (k : ℕ) → AllByRecursion IsFree word → get_or word k 0 ≢ 32
free_at [] zero h e = absurd cc
free_at [] (suc k) h e = absurd cc
free_at (x ∷ word) zero h e = omega (arith, h.0, e)
free_at (x ∷ word) (suc k) h e = free_at word k h.1 e

place_of : (front rest : List ℕ) → get_or (front ++ 32 ∷ rest) (length front) 0 ≡ 32
place_of [] rest = refl
place_of (f ∷ front) rest = place_of front rest

within : (front rest : List ℕ) → length front < length (front ++ 32 ∷ rest)
within front rest = omega (arith, length-append front (32 ∷ rest))

first_place : (front rest : List ℕ) (end : ℕ) → AllByRecursion IsFree front → get_or (front ++ 32 ∷ rest) end 0 ≡ 32
    → ((k : ℕ) → k < end → ¬ (get_or (front ++ 32 ∷ rest) k 0 ≡ 32)) → end ≡ length front
first_place [] rest zero all at none = refl
first_place [] rest (suc end) all at none = absurd (none zero (omega arith) refl)
first_place (f ∷ front) rest zero all at none = absurd (omega (arith, all.0, at))
first_place (f ∷ front) rest (suc end) all at none =
    ap (λ (n : ℕ). suc n) (first_place front rest end all.1 at (λ k less is. none (suc k) (omega arith) is))

word_end : (word : List ℕ) (words : List (List ℕ)) (r : Option ℕ) → AllByRecursion IsFree word
    → IsFirstByte (is_byte 32) (word ++ spaced words) r
    → unwrap_or r (length (word ++ spaced words)) ≡ length word
word_end word [] None free first = ap (λ (l : List ℕ). length l) (append-nil word)
word_end word [] (Some k) free (none, at) =
    absurd (free_at word k free
    (subst (λ (l : List ℕ). get_or l k 0 ≡ 32) (append-nil word) ((Decides-eqb (get_or (word ++ []) k 0) 32).0 at)))
word_end word (w ∷ words) None free none =
    absurd (none (length word) (omega arith) (within word (w ++ spaced words))
    ((Decides-eqb (get_or (word ++ spaced (w ∷ words)) (length word) 0) 32).1 (place_of word (w ++ spaced words))))
word_end word (w ∷ words) (Some k) free (none, at) =
    let whole : List ℕ = word ++ spaced (w ∷ words) in
    first_place word (w ++ spaced words) k free ((Decides-eqb (get_or whole k 0) 32).0 at)
    (λ j less same. none.before j (omega arith) less ((Decides-eqb (get_or whole j 0) 32).1 same))

pub split_is : (behind word : List ℕ) (words : List (List ℕ)) (r : Option ℕ) (len : ℕ) (a b : List ℕ)
    → behind ≡ word ++ spaced words → AllByRecursion IsFree word → IsFirstByte (is_byte 32) behind r
    → len ≡ unwrap_or r (length behind) → a ≡ take len behind → b ≡ drop len behind
    → (a ≡ word) × (b ≡ spaced words)
split_is behind word words r len a b is free first size front back =
    let ends : unwrap_or r (length (word ++ spaced words)) ≡ length word =
    word_end word words r free (subst (λ (l : List ℕ). IsFirstByte (is_byte 32) l r) is first) in
    let place : len ≡ length word = size ∙ ap (λ (l : List ℕ). unwrap_or r (length l)) is ∙ ends in (
      front ∙ ap (take len) is ∙ take_at word (spaced words) len (sym place),
      back ∙ ap (drop len) is ∙ drop_at word (spaced words) len (sym place),
    )

-- ---- one member behind the other

-- so many members were appended, and the text of the other words is left
pub record Members (keys : List CountKey) (spelled : List ℕ) (i : ℕ) (rest old out : List ℕ) : Type 0 where
  pub text : List ℕ
  pub is : (words : List (List ℕ)) → AreSpaced keys words spelled → text ≡ members_text (take i keys) (take i words)
  pub left : (words : List (List ℕ)) → AreSpaced keys words spelled → rest ≡ spaced (drop i words)
  pub parts : out ≡ old ++ text

pub members_none : (keys : List CountKey) (spelled old : List ℕ) → Members keys spelled 0 spelled old old
members_none keys spelled old = record {
  text = [];
  is = λ words h. refl;
  left = λ words h. h.is;
  parts = sym (append-nil old);
}

drop_next : (words : List (List ℕ)) (j : ℕ) → j < length words
    → drop j words ≡ get_or words j [] ∷ drop (j + 1) words
drop_next words j few = rw add-one (drop-cons words j [] few)

joined : (o t x y : List ℕ) → o ++ t ++ x ++ y ≡ o ++ (t ++ (x ++ y))
joined o t x y = simp append_assoc

-- a word and the text behind it are the first of those that are left, and the others
next_word : (keys : List CountKey) (spelled : List ℕ) (i : ℕ) (rest word behind old out : List ℕ)
    → i < length keys
    → ((w : List ℕ) (ws : List (List ℕ)) → AllByRecursion IsFree w → rest ≡ 32 ∷ w ++ spaced ws
    → (word ≡ w) × (behind ≡ spaced ws))
    → Members keys spelled i rest old out → (words : List (List ℕ)) → AreSpaced keys words spelled
    → (word ≡ get_or words i []) × (behind ≡ spaced (drop (i + 1) words))
next_word keys spelled i rest word behind old out below split m words h =
    let few : i < length words = omega (arith, below, h.count) in
    split (get_or words i []) (drop (i + 1) words)
    (All-get_or (AllByRecursion IsFree) words i [] few (All-from_recursion (AllByRecursion IsFree) words h.free))
    (m.left words h ∙ ap spaced (drop_next words i few))

pub members_more : (keys : List CountKey) (spelled : List ℕ) (i : ℕ) (d : CountKey)
    (rest word behind old out mid new : List ℕ) → i < length keys
    → ((w : List ℕ) (ws : List (List ℕ)) → AllByRecursion IsFree w → rest ≡ 32 ∷ w ++ spaced ws
    → (word ≡ w) × (behind ≡ spaced ws))
    → Members keys spelled i rest old out → Adds (Only (member_key (get_or keys i d))) out mid
    → Adds (Only (value_of word)) mid new → Members keys spelled (i + 1) behind old new
members_more keys spelled i d rest word behind old out mid new below split m (a, a_is, e) (b, b_is, f) =
    let k : CountKey = get_or keys i d in
    record {
      text = m.text ++ (member_key k ++ value_of word);
      is = λ words h.
          let s = next_word keys spelled i rest word behind old out below split m words h in
          let few : i < length words = omega (arith, below, h.count) in
          let w : List ℕ = get_or words i [] in
          let same_size : length (take i words) ≡ length (take i keys) =
          omega (arith, length-take i words, length-take i keys, below, few) in
          ap (λ (t : List ℕ). t ++ (member_key k ++ value_of word)) (m.is words h)
          ∙ ap (λ (t : List ℕ). members_text (take i keys) (take i words) ++ (member_key k ++ value_of t)) s.0
          ∙ sym (member_grows (take i keys) k (take i words) w same_size)
          ∙ ap (λ (l : List CountKey). members_text l (take i words ++ w ∷ [])) (sym (take_more keys i d below))
          ∙ ap (λ (l : List (List ℕ)). members_text (take (i + 1) keys) l) (sym (take_more words i [] few));
      left = λ words h. (next_word keys spelled i rest word behind old out below split m words h).1;
      parts =
          f
          ∙ ap (λ (t : List ℕ). t ++ b) (e ∙ ap (λ (t : List ℕ). t ++ a) m.parts)
          ∙ ap (λ (t : List ℕ). old ++ m.text ++ a ++ t) b_is
          ∙ ap (λ (t : List ℕ). old ++ m.text ++ t ++ value_of word) a_is
          ∙ joined old m.text (member_key k) (value_of word);
    }

pub members_all : (keys : List CountKey) (spelled : List ℕ) (i : ℕ) (rest old out : List ℕ)
    → length keys ≤ i → Members keys spelled i rest old out → Adds (MembersText keys spelled) old out
members_all keys spelled i rest old out all m = (
  m.text,
  λ words h.
      m.is words h
      ∙ ap (λ (l : List CountKey). members_text l (take i words)) (take_all i keys all)
      ∙ ap (members_text keys) (take_all i words (omega (arith, all, h.count))),
  m.parts,
)

pub members_begun : (keys : List CountKey) (spelled : List ℕ) (i : ℕ) (rest old out : List ℕ)
    → Members keys spelled i rest old out → Adds Anything old out
members_begun keys spelled i rest old out m = (m.text, tt, m.parts)

-- ---- a whole object

object_from : (F M : List ℕ → Type 0) (end s : List ℕ) → (F ⋅ M ⋅ Only end) s
    → (front : List ℕ) × (members : List ℕ) × F front × M members × (s ≡ front ++ members ++ end)
object_from F M end s (f, v, e, h, (m, z, g, k, z_is)) = (
  f,
  m,
  h,
  k,
  e ∙ ap (λ (t : List ℕ). f ++ t) (g ∙ ap (λ (t : List ℕ). m ++ t) z_is) ∙ sym (append_assoc f m end),
)

pub object_puts : {X E : Type 0} (keys : List CountKey) (r : Row) (o m1 m2 n : List ℕ) (x : Result X E)
    → Adds (FrontJson r.tally) o m1 → Adds (MembersText keys r.words.items) m1 m2
    → Puts (Only (125 ∷ 10 ∷ [])) m2 n x → Puts (RowJson keys r) o n x
object_puts keys r o m1 m2 n x h1 h2 h3 =
    let F : List ℕ → Type 0 = FrontJson r.tally in
    let M : List ℕ → Type 0 = MembersText keys r.words.items in
    puts_as (F ⋅ M ⋅ Only (125 ∷ 10 ∷ [])) (RowJson keys r) o n x (object_from F M (125 ∷ 10 ∷ []))
    (puts_then F (M ⋅ Only (125 ∷ 10 ∷ [])) o m1 n x h1 (puts_then M (Only (125 ∷ 10 ∷ [])) m1 m2 n x h2 h3))
