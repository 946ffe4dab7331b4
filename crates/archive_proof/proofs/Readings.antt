-- What is read of the text of a proof.
use Rattle.std.proofs.Common.{◌≡◌, ◌≢◌, ℕ, zero, suc, ◌+◌, ◌-◌, ◌^◌, ◌<◌, ◌≤◌}
use Rattle.std.proofs.Common.{List, [], ◌∷◌, ◌++◌, length, take, drop, get_or, refl, sym, ap, subst, ◌∙◌, arith}
use Rattle.std.proofs.Common.{length-append, append_assoc}
use Rattle.std.specs.Prelude.{Option, Some, None, Result, Ok, Err, MatchOption, MatchResult, codes, decimal}
use Rattle.std.specs.List.{AllByRecursion, flat_map}
use Rattle.std.proofs.lemmas.List.{take_at, drop_at, take_all}
use Rattle.std.proofs.lemmas.Bool.Decides.{Decides-eqb}
use Rattle.memchr.specs.Find.{IsFirstByte, is_byte}
use Rattle.hex.specs.Hex.{encode_lower, lower_digits}
use Rattle.hex.proofs.HexLemmas.{length-encode_with}
use Rattle.octet_language.specs.Digits.{IsDigit}
use Rattle.octet_language.proofs.Decimal.{digits_decimal}
use Rattle.octet_language.proofs.Lists.{AllByRecursion-weaker}
use Rattle.std.proofs.lemmas.List.{append_cancel_left}
use Rattle.archive_tree.specs.declared.audit_path.AuditPath.{AuditPath}
use Rattle.archive_proof.specs.Reading.{AreSame, AreSameSides, IsHash, IsNeighbour, IsSide}
use Rattle.archive_proof.specs.Texts.{hash_line, neighbour_text, path_text, proof_text, side_text}
use Rattle.archive_proof.specs.declared.proof.Neighbour.{Neighbour}
use Rattle.archive_proof.specs.declared.proof.Proof.{Proof}
use Rattle.archive_proof.specs.declared.proof.Proof.TheVariants.{Present, Absent}

-- ---- up to an octet

-- the place of the octet that comes first
place_of : (front rest : List ℕ) (x : ℕ) → get_or (front ++ x ∷ rest) (length front) 0 ≡ x
place_of [] rest x = refl
place_of (f ∷ front) rest x = place_of front rest x

within : (front rest : List ℕ) (x : ℕ) → length front < length (front ++ x ∷ rest)
within front rest x = omega (arith, length-append front (x ∷ rest))

first_place : (front rest : List ℕ) (x end : ℕ) → AllByRecursion (λ y. y ≢ x) front
    → get_or (front ++ x ∷ rest) end 0 ≡ x
    → ((k : ℕ) → k < end → ¬ (get_or (front ++ x ∷ rest) k 0 ≡ x)) → end ≡ length front
first_place [] rest x zero all at none = refl
first_place [] rest x (suc end) all at none = absurd (none zero (omega arith) refl)
first_place (f ∷ front) rest x zero all at none = absurd (all.0 at)
first_place (f ∷ front) rest x (suc end) all at none =
    ap (λ (n : ℕ). suc n) (first_place front rest x end all.1 at (λ k less is. none (suc k) (omega arith) is))

pub cut_is : (text front rest : List ℕ) (x end : ℕ) → text ≡ front ++ x ∷ rest → AllByRecursion (λ y. y ≢ x) front
    → IsFirstByte (is_byte x) text (Some end)
    → (take end text ≡ front) × (take (length text - (end + 1)) (drop (end + 1) text) ≡ rest)
cut_is text front rest x end is all (none, at) =
    let whole : List ℕ = front ++ x ∷ rest in
    let here : get_or whole end 0 ≡ x =
    subst (λ (l : List ℕ). get_or l end 0 ≡ x) is ((Decides-eqb (get_or text end 0) x).0 at) in
    let before : (k : ℕ) → k < end → ¬ (get_or whole k 0 ≡ x) =
    λ k less same. none.before k (omega arith) less
    ((Decides-eqb (get_or text k 0) x).1 (subst (λ (l : List ℕ). get_or l k 0 ≡ x) (sym is) same)) in
    let place : end ≡ length front = first_place front rest x end all here before in
    let behind : drop (end + 1) text ≡ rest =
    ap (λ (l : List ℕ). drop (end + 1) l) (is ∙ sym (append_assoc front (x ∷ []) rest))
    ∙ drop_at (front ++ x ∷ []) rest (end + 1) (omega (arith, length-append front (x ∷ []))) in
    let size : length text ≡ length front + suc (length rest) =
    ap (λ (l : List ℕ). length l) is ∙ length-append front (x ∷ rest) in (
      ap (λ (l : List ℕ). take end l) is ∙ take_at front (x ∷ rest) end (sym place),
      ap (λ (l : List ℕ). take (length text - (end + 1)) l) behind ∙ take_all (length text - (end + 1)) rest (omega
          arith),
    )

pub never_cut : (text front rest : List ℕ) (x : ℕ) → text ≡ front ++ x ∷ rest → IsFirstByte (is_byte x) text None → ⊥
never_cut text front rest x is none =
    none (length front) (omega arith)
    (subst (λ (l : List ℕ). length front < length l) (sym is) (within front rest x))
    ((Decides-eqb (get_or text (length front) 0) x).1
    (subst (λ (l : List ℕ). get_or l (length front) 0 ≡ x) (sym is) (place_of front rest x)))

-- ---- numbers

pub no_end : (n end : ℕ) → n < 2 ^ 64 → end < 48 → AllByRecursion (λ y. y ≢ end) (decimal n)
no_end n end small low =
    AllByRecursion-weaker IsDigit (λ y. y ≢ end) (λ y d e. omega (arith, d.0, e)) (decimal n) (digits_decimal n small)

-- ---- hashes

pub digits_of_hash : (h : List ℕ) → IsHash h → length (encode_lower h) ≡ 64
digits_of_hash h is = omega (arith, length-encode_with lower_digits h, is.size)

pub hash_line_is_long : (text h rest : List ℕ) → IsHash h → text ≡ hash_line h ++ rest → length text ≤ 64 → ⊥
hash_line_is_long text h rest is same short =
    omega (
      arith,
      ap (λ (l : List ℕ). length l) same,
      length-append (hash_line h) rest,
      length-append (encode_lower h) (10 ∷ []),
      digits_of_hash h is,
      short,
    )

pub hash_parts : (text h rest : List ℕ) → IsHash h → text ≡ hash_line h ++ rest
    → (take 64 text ≡ encode_lower h) × (drop 64 text ≡ 10 ∷ rest)
hash_parts text h rest is same =
    let whole : text ≡ encode_lower h ++ 10 ∷ rest = same ∙ append_assoc (encode_lower h) (10 ∷ []) rest in (
      ap (λ (l : List ℕ). take 64 l) whole ∙ take_at (encode_lower h) (10 ∷ rest) 64 (digits_of_hash h is),
      ap (λ (l : List ℕ). drop 64 l) whole ∙ drop_at (encode_lower h) (10 ∷ rest) 64 (digits_of_hash h is),
    )

-- what is behind the first octet
pub tail_is : (l rest : List ℕ) (x : ℕ) → l ≡ x ∷ rest → take (length l - 1) (drop 1 l) ≡ rest
tail_is l rest x e =
    ap (λ (m : List ℕ). take (length m - 1) (drop 1 m)) e
    ∙ ap (λ (m : List ℕ). take (length (x ∷ rest) - 1) m) (drop_at (x ∷ []) rest 1 refl)
    ∙ take_all (length (x ∷ rest) - 1) rest (omega arith)

pub at_ok : {T E : Type 0} (d : Result T E) (x : T) (P : T → Type 0) (Q : E → Type 0) → d ≡ Ok x → MatchResult d P Q
    → P x
at_ok (Ok y) x P Q e h = let k : y ≡ x = cc in subst P k h
at_ok (Err y) x P Q e h = absurd (let k : Err y ≡ Ok x = e in cc)

pub some_then : {A : Type 0} (o : Option A) (P Q : A → Type 0) → ((x : A) → P x → Q x) → MatchOption o ⊥ P
    → MatchOption o ⊥ Q
some_then None P Q f h = h
some_then (Some x) P Q f h = f x h

-- the first of some hashes, and what comes behind it
pub record FirstHash (hs : List (List ℕ)) (text rest : List ℕ) : Type 0 where
  pub first : List ℕ
  pub others : List (List ℕ)
  pub all : hs ≡ first ∷ others
  pub hash : IsHash first
  pub hashes : AllByRecursion IsHash others
  pub begins : text ≡ hash_line first ++ (flat_map hash_line others ++ rest)

pub first_hash : (number : ℕ) (hs : List (List ℕ)) (text rest : List ℕ) → (number ≡ 0 → ⊥) → length hs ≡ number
    → AllByRecursion IsHash hs → text ≡ flat_map hash_line hs ++ rest → FirstHash hs text rest
first_hash number [] text rest some size all is = absurd (some (sym size))
first_hash number (h ∷ hs) text rest some size all is = record {
  first = h;
  others = hs;
  all = refl;
  hash = all.0;
  hashes = all.1;
  begins = is ∙ append_assoc (hash_line h) (flat_map hash_line hs) rest;
}

-- ---- paths

pub path_text_is : (p : AuditPath) (rest : List ℕ)
    → path_text p ++ rest
    ≡ decimal p.index ++ 32 ∷ (decimal (length p.hashes.items) ++ 10 ∷ (flat_map hash_line p.hashes.items ++ rest))
path_text_is p rest =
    append_assoc (decimal p.index ++ 32 ∷ decimal (length p.hashes.items)) (10 ∷ flat_map hash_line p.hashes.items) rest
    ∙ append_assoc (decimal p.index) (32 ∷ decimal (length p.hashes.items))
    (10 ∷ (flat_map hash_line p.hashes.items ++ rest))

made : ℕ → List (List ℕ) → AuditPath
made i hs = record { index = i; hashes = record { items = hs } }

pub same_path : (p q : AuditPath) → p.index ≡ q.index → p.hashes.items ≡ q.hashes.items → p ≡ q
unfolding made
same_path p q e f = ap (λ (i : ℕ). made i p.hashes.items) e ∙ ap (λ (hs : List (List ℕ)). made q.index hs) f

-- ---- neighbours

same_text : (a b : Neighbour) → a.octets.items ≡ b.octets.items → a.path ≡ b.path
    → neighbour_text a ≡ neighbour_text b
same_text a b e f =
    ap (λ (o : List ℕ). decimal (length o) ++ 32 ∷ o ++ 10 ∷ path_text a.path) e
    ∙ ap (λ (p : AuditPath). decimal (length b.octets.items) ++ 32 ∷ b.octets.items ++ 10 ∷ path_text p) f

same_sides_text : (word : List ℕ) (a b : Option Neighbour) → AreSameSides a b → side_text word a ≡ side_text word b
same_sides_text word None None same = refl
same_sides_text word (Some a) (Some b) same = ap (λ (l : List ℕ). word ++ l) (same_text a b same.0 same.1)
same_sides_text word None (Some b) same = absurd same
same_sides_text word (Some a) None same = absurd same

-- the same proofs have the same text
pub same_proof_text : (p q : Proof) → AreSame p q → proof_text p ≡ proof_text q
same_proof_text (Present p) (Present q) same = ap (λ (r : AuditPath). proof_text (Present r)) same
same_proof_text (Present p) (Absent c d) same = absurd same
same_proof_text (Absent a b) (Present q) same = absurd same
same_proof_text (Absent a b) (Absent c d) same =
    ap (λ (l : List ℕ). codes "absent\n" ++ l ++ side_text (codes "behind ") b ++ 10 ∷ [])
    (same_sides_text (codes "before ") a c same.0)
    ∙ ap (λ (l : List ℕ). codes "absent\n" ++ side_text (codes "before ") c ++ l ++ 10 ∷ [])
    (same_sides_text (codes "behind ") b d same.1)

-- a text that does not begin with the word has no neighbour
pub no_word : (word text rest : List ℕ) (o : Option Neighbour) → text ≡ side_text word o ++ rest
    → ((more : List ℕ) → ¬ (text ≡ word ++ more)) → AreSameSides None o × (text ≡ rest)
no_word word text rest None is none = (tt, is)
no_word word text rest (Some n) is none =
    absurd (none (neighbour_text n ++ rest) (is ∙ append_assoc word (neighbour_text n) rest))

-- one that does has one
pub with_word : (word text behind rest : List ℕ) (o : Option Neighbour) → IsSide o → text ≡ word ++ behind
    → text ≡ side_text word o ++ rest → (o ≡ None → (more : List ℕ) → ¬ (rest ≡ word ++ more))
    → (n : Neighbour) × (o ≡ Some n) × IsNeighbour n × (behind ≡ neighbour_text n ++ rest)
with_word word text behind rest None side begins is none = absurd (none refl behind (sym is ∙ begins))
with_word word text behind rest (Some n) side begins is none = (
  n,
  refl,
  side,
  append_cancel_left word behind (neighbour_text n ++ rest)
      (sym begins ∙ is ∙ append_assoc word (neighbour_text n) rest),
)
