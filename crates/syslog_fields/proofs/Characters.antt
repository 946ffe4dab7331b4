-- Characters of UTF-8: where they end and stop.
use Rattle.std.proofs.Common.{◌≡◌, ℕ, suc, ◌≤◌, List, [], ◌∷◌, ◌++◌, length, refl, sym, ap, subst, ◌∙◌, arith, inl, inr}
use Rattle.std.specs.Prelude.{Result, Ok, Err}
use Rattle.std.proofs.lemmas.List.{append-nil}
use Rattle.std.proofs.lemmas.Bool.{cases_lt}
use Rattle.octet_language.specs.Language.{Each, Refuses, NoPrefix, IsPrefixFree, IfFirst}
use Rattle.octet_language.specs.Reading.{Fails, Follows, Passes}
use Rattle.octet_language.proofs.Lists.{heads, tails, same_prefix}
use Rattle.octet_language.proofs.Chain.{Fails-same}
use Rattle.syslog_fields.specs.Utf8.{Range, from_to, Octet, Row, table, InRow, IsCharacter}
use Rattle.syslog_fields.proofs.Prefix.{Passes-behind}

-- ---- rows

-- an octet and what follows it
pub octet_prefix : (r : Range) (rs : List Range) (x : ℕ) (s : List ℕ) → Each Octet (r ∷ rs) (x ∷ s)
    → (r.low ≤ x) × (x ≤ r.high) × Each Octet rs s
octet_prefix r rs x s (p, q, e, (y, f, low, high), h) =
    let both : x ∷ s ≡ y ∷ q = e ∙ ap (λ (k : List ℕ). k ++ q) f in
    let head : x ≡ y = heads x y s q both in
    (omega (arith, low, head), omega (arith, high, head), subst (Each Octet rs) (sym (tails x y s q both)) h)

pub octet_cons : (r : Range) (rs : List Range) (x : ℕ) (s : List ℕ) → r.low ≤ x → x ≤ r.high → Each Octet rs s
    → Each Octet (r ∷ rs) (x ∷ s)
octet_cons r rs x s low high h = (x ∷ [], s, refl, (x, refl, low, high), h)

pub each_some : (r : Range) (rs : List Range) → ¬ (Each Octet (r ∷ rs) [])
each_some r rs (p, q, e, (y, f, low, high), h) = let k : [] ≡ y ∷ q = e ∙ ap (λ (k : List ℕ). k ++ q) f in absurd cc

no_row : (rs : List Row) → ¬ (InRow rs [])
no_row [] h = h
no_row (r ∷ rs) (inl h) = each_some r.first r.behind h
no_row (r ∷ rs) (inr h) = no_row rs h

-- x is in the first range of none of these rows
abbrev pub Outside : ℕ → List Row → Type 0
Outside x [] = Unit {0}
Outside x (r ∷ rs) = (r.first.low ≤ x → x ≤ r.first.high → ⊥) × Outside x rs

outside : (rs : List Row) (x : ℕ) (s : List ℕ) → Outside x rs → InRow rs (x ∷ s) → ⊥
outside [] x s o h = h
outside (r ∷ rs) x s o (inl h) = let k = octet_prefix r.first r.behind x s h in o.0 k.0 k.1
outside (r ∷ rs) x s o (inr h) = outside rs x s o.1 h

-- the one row in whose first range x is
pub row_from : (before behind : List Row) (r : Row) (x : ℕ) (s : List ℕ) → Outside x before → Outside x behind
    → InRow (before ++ r ∷ behind) (x ∷ s) → Each Octet r.behind s
row_from [] behind r x s o q (inl h) = (octet_prefix r.first r.behind x s h).2
row_from [] behind r x s o q (inr h) = absurd (outside behind x s q h)
row_from (b ∷ before) behind r x s o q (inl h) = let k = octet_prefix b.first b.behind x s h in absurd (o.0 k.0 k.1)
row_from (b ∷ before) behind r x s o q (inr h) = row_from before behind r x s o.1 q h

pub row_to : (before behind : List Row) (r : Row) (x : ℕ) (s : List ℕ) → r.first.low ≤ x → x ≤ r.first.high
    → Each Octet r.behind s → InRow (before ++ r ∷ behind) (x ∷ s)
row_to [] behind r x s low high h = inl (octet_cons r.first r.behind x s low high h)
row_to (b ∷ before) behind r x s low high h = inr (row_to before behind r x s low high h)

pub character_some : ¬ (IsCharacter [])
unfolding IsCharacter
character_some h = no_row table h

-- where the first octet is that of a row, the character goes on as that row
pub in_row : {X E : Type 0} (at : E → ℕ) (before behind : List Row) (r : Row) (x : ℕ) (b rest : List ℕ) (view : X
    → List ℕ) (res : Result X E)
    → before ++ r ∷ behind ≡ table → r.first.low ≤ x → x ≤ r.first.high → Outside x before → Outside x behind
    → b ≡ x ∷ rest
    → Passes at (Each Octet r.behind) view rest res → Passes at IsCharacter view b res
unfolding IsCharacter
in_row at before behind r x b rest view res e low high o q f h =
    Passes-behind at (Each Octet r.behind) (InRow table) x b rest view res
    (λ s m. row_from before behind r x s o q (subst (λ (t : List Row). InRow t (x ∷ s)) (sym e) m))
    (λ s m. subst (λ (t : List Row). InRow t (x ∷ s)) e (row_to before behind r x s low high m))
    character_some f h

-- ---- one prefix

-- how many octets a character has, by its first
pub record Width (x n : ℕ) : Type 0 where
  pub one : x ≤ 0x7f → n ≡ 1
  pub two : 0x80 ≤ x → x ≤ 0xdf → n ≡ 2
  pub three : 0xe0 ≤ x → x ≤ 0xef → n ≡ 3
  pub four : 0xf0 ≤ x → n ≡ 4

each_length : (rs : List Range) (s : List ℕ) → Each Octet rs s → length s ≡ length rs
each_length [] s h = ap length h
each_length (r ∷ rs) [] h = absurd (each_some r rs h)
each_length (r ∷ rs) (x ∷ s) h = ap suc (each_length rs s (octet_prefix r rs x s h).2)

-- the widths of a table
abbrev pub FitsWidths : List Row → Type 0
FitsWidths [] = Unit {0}
FitsWidths (r ∷ rs) = ((x : ℕ) → r.first.low ≤ x → x ≤ r.first.high → Width x (suc (length r.behind))) × FitsWidths rs

pub width : (rs : List Row) (x : ℕ) (s : List ℕ) → FitsWidths rs → InRow rs (x ∷ s) → Width x (length (x ∷ s))
width [] x s f h = absurd h
width (r ∷ rs) x s f (inl h) =
    let k = octet_prefix r.first r.behind x s h in
    subst (λ (n : ℕ). Width x (suc n)) (sym (each_length r.behind s k.2)) (f.0 x k.0 k.1)
width (r ∷ rs) x s f (inr h) = width rs x s f.1 h

pub table_widths : FitsWidths table
table_widths = omega arith

same_widths : (x m n : ℕ) → Width x m → Width x n → m ≡ n
same_widths x m n p q =
    elim (cases_lt x 0x80) [
      | inl a ↦ p.one (omega arith) ∙ sym (q.one (omega arith))
      | inr a ↦ elim (cases_lt x 0xe0) [
        | inl b ↦ p.two a (omega arith) ∙ sym (q.two a (omega arith))
        | inr b ↦ elim (cases_lt x 0xf0) [
          | inl c ↦ p.three b (omega arith) ∙ sym (q.three b (omega arith))
          | inr c ↦ p.four c ∙ sym (q.four c)
        ]
      ]
    ]

pub IsPrefixFree-character : IsPrefixFree IsCharacter
unfolding IsCharacter
IsPrefixFree-character [] s q t a b e = absurd (no_row table a)
IsPrefixFree-character (x ∷ p) s [] t a b e = absurd (no_row table b)
IsPrefixFree-character (x ∷ p) s (y ∷ q) t a b e =
    let wp = width table x p table_widths a in
    let wq = subst (λ (k : ℕ). Width k (length (y ∷ q))) (sym (heads x y (p ++ s) (q ++ t) e))
    (width table y q table_widths b) in
    same_prefix (x ∷ p) (y ∷ q) s t (same_widths x (length (x ∷ p)) (length (y ∷ q)) wp wq) e

-- an octet of a range
pub IsPrefixFree-octet : (r : Range) → IsPrefixFree (Octet r)
IsPrefixFree-octet r p s q t (x, e, l, h) (y, f, m, k) g =
    e ∙ ap (λ (n : ℕ). n ∷ []) (heads x y s t (ap (λ (u : List ℕ). u ++ s) (sym e) ∙ g ∙ ap (λ (u : List ℕ). u ++ t) f))
    ∙ sym f

no_octet_refuses : (r : Range) (b : List ℕ) → IfFirst (λ x. ¬ ((r.low ≤ x) × (x ≤ r.high))) b → Refuses (Octet r) [] b
no_octet_refuses r [] out = tt
no_octet_refuses r (x ∷ b) out = λ (more, (y, e, l, h)). let same : x ≡ y = heads x y more [] e in
    out (omega (arith, l, same), omega (arith, h, same))

no_octet_none : (r : Range) (b : List ℕ) → IfFirst (λ x. ¬ ((r.low ≤ x) × (x ≤ r.high))) b → NoPrefix (Octet r) b
no_octet_none r [] out u v e (y, f, l, h) = let k : [] ≡ y ∷ v = e ∙ ap (λ (s : List ℕ). s ++ v) f in absurd cc
no_octet_none r (x ∷ b) out u v e (y, f, l, h) =
    let same : x ≡ y = heads x y b v (e ∙ ap (λ (s : List ℕ). s ++ v) f) in
    out (omega (arith, l, same), omega (arith, h, same))

-- at the end, or before an octet out of range
pub no_octet : (r : Range) (b : List ℕ) → r.low ≤ r.high → IfFirst (λ x. ¬ ((r.low ≤ x) × (x ≤ r.high))) b
    → Fails (Octet r) b (length b)
no_octet r b some out = record {
  none = no_octet_none r b out;
  stops = record {
    read = [];
    rest = b;
    parts = refl;
    count = refl;
    begins =
        (r.low ∷ [], (r.low, refl, omega arith, some));
    refuses = no_octet_refuses r b out;
  };
}

pub some_octet : (r : Range) (b : List ℕ) (x : ℕ) (rest : List ℕ) → b ≡ x ∷ rest → r.low ≤ x → x ≤ r.high
    → Follows (Octet r) b rest
some_octet r b x rest e l h = (x ∷ [], e, (x, refl, l, h))

-- ranges one after the other
pub Passes-last : {X E : Type 0} (at : E → ℕ) (r : Range) (view : X → List ℕ) (b : List ℕ) (res : Result X E)
    → Passes at (Octet r) view b res → Passes at (Each Octet (r ∷ [])) view b res
Passes-last at r view b (Ok x) (t, e, h) = (t, e, (t, [], sym (append-nil t), h, refl))
Passes-last at r view b (Err s) f =
    Fails-same (Octet r) (Each Octet (r ∷ [])) b (at s)
    (λ t h. (t, [], sym (append-nil t), h, refl))
    (λ t (x, y, e, h, k). subst (Octet r) (sym (e ∙ ap (λ (u : List ℕ). x ++ u) k ∙ append-nil x)) h)
    f

pub no_character : (b : List ℕ) → IfFirst (λ x. Outside x table) b → Fails IsCharacter b (length b)
unfolding IsCharacter
no_character b out = record {
  none = character_none b out;
  stops = record {
    read = [];
    rest = b;
    parts = refl;
    count = refl;
    begins = (97 ∷ [], some_letter);
    refuses =
        character_refuses b out;
  };
}
  where
    some_letter : InRow table (97 ∷ [])
    some_letter = inl (octet_cons (from_to 0x00 0x7f) [] 97 [] (omega arith) (omega arith) refl)

    character_refuses : (b : List ℕ) → IfFirst (λ x. Outside x table) b → Refuses IsCharacter [] b
    character_refuses [] out = tt
    character_refuses (x ∷ b) out = λ (more, m). outside table x more out m

    character_none : (b : List ℕ) → IfFirst (λ x. Outside x table) b → NoPrefix IsCharacter b
    character_none b out [] v e h = no_row table h
    character_none [] out (y ∷ u) v e h = absurd cc
    character_none (x ∷ b) out (y ∷ u) v e h =
        outside table x u out (subst (λ (n : ℕ). InRow table (n ∷ u)) (sym (heads x y b (u ++ v) e)) h)
