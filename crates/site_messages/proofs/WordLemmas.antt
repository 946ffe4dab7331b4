-- Words are read.
use Rattle.std.proofs.Common.{◌≡◌, ◌≢◌, ℕ, zero, suc, ◌+◌, ◌-◌, ◌<◌, ◌≤◌, List, [], ◌∷◌, ◌++◌, length, take, drop, get_or, refl, sym}
use Rattle.std.proofs.Common.{ap, ◌∙◌, append_assoc, arith, drop-cons, length-append, min, inl, inr}
use Rattle.std.specs.Prelude.{Some, None}
use Rattle.std.specs.List.{AllByRecursion}
use Rattle.std.proofs.Math.ListN.{get_or-append}
use Rattle.std.proofs.Math.Seq.{get_or-append_seam, take-length}
use Rattle.std.proofs.lemmas.Bool.{cases_lt}
use Rattle.std.proofs.lemmas.Bool.Decides.{Decides-eqb}
use Rattle.std.proofs.lemmas.List.{get_or-take, length-take-le, take-append-drop, take-append-le}
use Rattle.memchr.specs.Find.{IsFirstByte, is_byte}
use Rattle.octet_language.proofs.Lists.{same_until}
use Rattle.site_messages.specs.Reading.{IsGap, IsWhole}
use Rattle.site_messages.specs.Words.{IsWord, only_text, word_text}
use Rattle.site_messages.specs.declared.gap.Gap.{Gap}
use Rattle.site_messages.specs.declared.gap.Gap.TheVariants.{More, Bad}

-- a word that octets begin with, and the octet behind it
pub word_whole : (end most : ℕ) (b w rest : List ℕ) → IsWord end most w → b ≡ w ++ end ∷ rest
    → IsWhole (IsWord end most) (word_text end) b w rest
word_whole end most b w rest h e = record {
  valid = h;
  parts = e ∙ sym (append_assoc w (end ∷ []) rest);
  only = λ v more behind k same.
      same_until end v w behind (rest ++ more) k.free h.free
      (sym (append_assoc v (end ∷ []) behind) ∙ sym same ∙ ap (λ (l : List ℕ). l ++ more) e
      ∙ append_assoc w (end ∷ rest) more);
}

-- values whose texts are words
pub record AreWords {V : Type 0} (end most : ℕ) (In : V → Type 0) (f : V → List ℕ) : Type 0 where
  pub word : (v : V) → In v → IsWord end most (f v)
  pub one : (u v : V) → In u → In v → f u ≡ f v → u ≡ v

pub value_whole : {V : Type 0} (end most : ℕ) (In : V → Type 0) (f : V → List ℕ) → AreWords end most In f
    → (b w rest : List ℕ) → IsWhole (IsWord end most) (word_text end) b w rest → (v : V) → In v → w ≡ f v
    → IsWhole In (λ u. word_text end (f u)) b v rest
value_whole end most In f a b w rest h v valid is = record {
  valid = valid;
  parts = h.parts ∙ ap (λ (l : List ℕ). (l ++ end ∷ []) ++ rest) is;
  only = λ u more behind k same. a.one u v k valid (h.only (f u) more behind (a.word u k) same ∙ is);
}

pub value_none : {V : Type 0} (end most : ℕ) (In : V → Type 0) (f : V → List ℕ) → AreWords end most In f
    → (b w rest : List ℕ) → IsWhole (IsWord end most) (word_text end) b w rest → ((v : V) → In v → w ≢ f v)
    → IsGap In (λ u. word_text end (f u)) b Bad
value_none end most In f a b w rest h none u more behind k same =
    none u k (sym (h.only (f u) more behind (a.word u k) same))

pub value_gap : {V : Type 0} (end most : ℕ) (In : V → Type 0) (f : V → List ℕ) → AreWords end most In f
    → (b : List ℕ) (gap : Gap) → IsGap (IsWord end most) (word_text end) b gap
    → IsGap In (λ u. word_text end (f u)) b gap
value_gap end most In f a b (More n) h =
    (h.0, λ u more behind k same. h.1 (f u) more behind (a.word u k) same)
value_gap end most In f a b Bad h = λ u more behind k same. h (f u) more behind (a.word u k) same

-- ---- up to an octet

-- an octet that is not among the first ones ends a word behind them
pub not_among : (b front w more rest : List ℕ) (end n : ℕ) → front ≡ take n b → n ≤ length b
    → IsFirstByte (is_byte end) front None → b ++ more ≡ (w ++ end ∷ []) ++ rest → n ≤ length w
not_among b front w more rest end n is low none same =
    elim (cases_lt (length w) n) [
      | inr le ↦ le
      | inl less ↦
          let size : length front ≡ n = ap length is ∙ length-take-le n b low in
          let at : get_or front (length w) 0 ≡ end =
          ap (λ (l : List ℕ). get_or l (length w) 0) is ∙ get_or-take n b (length w) 0 less
          ∙ sym (get_or-append b more 0 (length w) (omega arith))
          ∙ ap (λ (l : List ℕ). get_or l (length w) 0) (same ∙ append_assoc w (end ∷ []) rest)
          ∙ get_or-append_seam w end rest 0 in
          absurd (none (length w) (omega arith) (omega arith) ((Decides-eqb (get_or front (length w) 0) end).1 at))
    ]

-- what is before the first such octet has none
free_before : (l : List ℕ) (end at : ℕ) → at < length l
    → ((k : ℕ) → k < at → get_or l k 0 ≢ end) → AllByRecursion (λ y. y ≢ end) (take at l)
free_before l end zero less none = tt
free_before [] end (suc at) less none = tt
free_before (x ∷ l) end (suc at) less none =
    (none zero (omega arith), free_before l end at (omega arith) (λ k low. none (suc k) (omega arith)))

pub first_word : (b front : List ℕ) (end most n at : ℕ) → front ≡ take n b → n ≤ length b → n ≤ most + 1
    → IsFirstByte (is_byte end) front (Some at)
    → IsWhole (IsWord end most) (word_text end) b (take at b) (drop (at + 1) b)
first_word b front end most n at is low few (none, here) =
    let size : length front ≡ n = ap length is ∙ length-take-le n b low in
    let inside : at < n = omega (arith, none.high) in
    let same : (k : ℕ) → k < n → get_or front k 0 ≡ get_or b k 0 =
    λ k less. ap (λ (l : List ℕ). get_or l k 0) is ∙ get_or-take n b k 0 less in
    let octet : get_or b at 0 ≡ end =
    sym (same at inside) ∙ (Decides-eqb (get_or front at 0) end).0 here in
    let before : (k : ℕ) → k < at → get_or b k 0 ≢ end =
    λ k less e. none.before k (omega arith) less
    ((Decides-eqb (get_or front k 0) end).1 (same k (omega arith) ∙ e)) in
    let next : suc at ≡ at + 1 = omega arith in
    let parts : b ≡ take at b ++ end ∷ drop (at + 1) b =
    sym (take-append-drop at b)
    ∙ ap (λ (l : List ℕ). take at b ++ l) (drop-cons b at 0 (omega arith))
    ∙ ap (λ (x : ℕ). take at b ++ x ∷ drop (suc at) b) octet
    ∙ ap (λ (k : ℕ). take at b ++ end ∷ drop k b) next in
    word_whole end most b (take at b) (drop (at + 1) b)
    (record {
      free = free_before b end at (omega arith) before;
      short = omega (arith, length-take-le at b (omega arith));
    }) parts

-- ---- one text

pub text_whole : (b text front : List ℕ) (count : ℕ) → count ≡ length text → front ≡ take count b → count ≤ length b
    → front ≡ take count text
    → IsWhole (λ (u : Unit {0}). Unit {0}) (only_text text) b tt (drop count b)
text_whole b text front count whole is low same = record {
  valid = tt;
  parts =
      sym (take-append-drop count b)
      ∙ ap (λ (l : List ℕ). l ++ drop count b) (sym is ∙ same ∙ ap (λ (k : ℕ). take k text) whole ∙ take-length text);
  only = λ u more end k e. refl;
}

pub text_more : (b text more end : List ℕ) (count : ℕ) → count ≡ min (length b) (length text) → count < length text
    → b ++ more ≡ text ++ end → length text - count ≤ length more
text_more b text more end count is less same =
    omega (arith, ap length same, length-append b more, length-append text end)

pub text_bad : (b text more end : List ℕ) (count : ℕ) → count ≤ length b → count ≤ length text
    → b ++ more ≡ text ++ end → take count b ≡ take count text
text_bad b text more end count low high same =
    sym (take-append-le count b more low) ∙ ap (take count) same ∙ take-append-le count text end high
