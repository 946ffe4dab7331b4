-- A spelling has one meaning, piece by piece.
use Rattle.std.proofs.Common.{◌≡◌, ◌≢◌, ℕ, List, [], ◌∷◌, ◌++◌, length, take, refl, sym, ap, subst, ◌∙◌, arith, inl}
use Rattle.std.proofs.Common.{inr}
use Rattle.std.specs.Prelude.{IsTrue, ◌↔◌, ◌==◌, Bool, false}
use Rattle.std.proofs.lemmas.Bool.{eqb-true}
use Rattle.std.specs.List.{flat_map}
use Rattle.std.proofs.lemmas.List.{append_cancel_left, take_at}
use Rattle.octet_language.specs.Language.{AnyOf, Each}
use Rattle.octet_language.specs.Reading.{Fails, Follows}
use Rattle.octet_language.proofs.Lists.{tails}
use Rattle.syslog_fields.specs.Values.{IsPlain, IsEscape, Piece, Spells}
use Rattle.syslog_fields.proofs.Values.{IsPrefixFree-piece, no_special, piece_some}

one_piece : (m n b : List ℕ) → Piece m b → Piece n b → m ≡ n
one_piece m n b (inl (x, k, e, f)) (inl (y, l, g, h)) = e ∙ tails 92 92 (x ∷ []) (y ∷ []) (sym f ∙ h) ∙ sym g
one_piece m n b (inl (x, k, e, f)) (inr (inl (c, l, g, h))) =
    absurd (no_special x [] k (subst IsPlain (sym (tails 92 92 (x ∷ []) c (sym f ∙ h))) l))
one_piece m n b (inl (x, k, e, f)) (inr (inr (l, h))) =
    absurd (no_special 92 (x ∷ []) (inr (inl refl)) (subst IsPlain (sym h ∙ f) l))
one_piece m n b (inr (inl (c, l, g, h))) (inl (x, k, e, f)) =
    absurd (no_special x [] k (subst IsPlain (sym (tails 92 92 (x ∷ []) c (sym f ∙ h))) l))
one_piece m n b (inr (inl (c, l, g, h))) (inr (inl (d, k, e, f))) = g ∙ sym h ∙ f ∙ sym e
one_piece m n b (inr (inl (c, l, g, h))) (inr (inr (k, f))) =
    absurd (no_special 92 c (inr (inl refl)) (subst IsPlain (sym f ∙ h) k))
one_piece m n b (inr (inr (l, h))) (inl (x, k, e, f)) =
    absurd (no_special 92 (x ∷ []) (inr (inl refl)) (subst IsPlain (sym h ∙ f) l))
one_piece m n b (inr (inr (l, h))) (inr (inl (c, k, e, f))) =
    absurd (no_special 92 c (inr (inl refl)) (subst IsPlain (sym h ∙ f) l))
one_piece m n b (inr (inr (l, h))) (inr (inr (k, f))) = sym h ∙ f

-- what an escape means, and any other piece
pub escape_means : (piece : List ℕ) (m : List ℕ) → IsEscape piece → piece ≡ 92 ∷ m → Piece m piece
escape_means piece m (x, k, e) f = inl (x, k, sym (tails 92 92 (x ∷ []) m (sym e ∙ f)), e)

pub other_means : (piece : List ℕ) → ¬ (IsEscape piece) → AnyOf Piece piece → Piece piece piece
other_means piece none (m, inl (x, k, e, f)) = absurd (none (x, k, f))
other_means piece none (m, inr (inl (c, k, e, f))) = inr (inl (c, k, f, f))
other_means piece none (m, inr (inr (k, e))) = inr (inr (subst IsPlain (sym e) k, refl))

-- what follows the first pieces, and the whole
pub record Matches (raw text spelling meaning : List ℕ) : Type 0 where
  pub to : Spells text raw → Spells meaning spelling
  pub from : Spells meaning spelling → Spells text raw

pub matches_all : (raw text : List ℕ) → Matches raw text raw text
matches_all raw text = record { to = λ h. h; from = λ h. h }

record First (m spelling behind meaning : List ℕ) : Type 0 where
  pub rest : List ℕ
  pub parts : meaning ≡ m ++ rest
  pub others : Spells rest behind

first : (m spelling behind meaning after : List ℕ) (x : ℕ) → spelling ≡ x ∷ after → Follows (Piece m) spelling behind
    → Spells meaning spelling → First m spelling behind meaning
first m spelling behind meaning after x e f ([], g, h) = let i : ◌≡◌ {A = List ℕ} [] (x ∷ after) = sym h ∙ e in
    absurd cc
first m spelling behind meaning after x e (t, f, p) (n ∷ ns, g, (a, b, h, k, l)) =
    let same : a ≡ t = IsPrefixFree-piece a b t behind (n, k) (m, p) (sym h ∙ f) in
    let rests : b ≡ behind = append_cancel_left a b behind (sym h ∙ f ∙ ap (λ (u : List ℕ). u ++ behind) (sym same)) in
    let one : n ≡ m = one_piece n m t (subst (Piece n) same k) p in
    record {
      rest = flat_map (λ u. u) ns;
      parts = g ∙ ap (λ (u : List ℕ). u ++ flat_map (λ u. u) ns) one;
      others = (ns, refl, subst (Each Piece ns) rests l);
    }

no_pieces : (spelling meaning after : List ℕ) (x remaining : ℕ) → spelling ≡ x ∷ after
    → Fails (AnyOf Piece) spelling remaining → ¬ (Spells meaning spelling)
no_pieces spelling meaning after x remaining e f ([], g, h) = let i : ◌≡◌ {A = List ℕ} [] (x ∷ after) = sym h ∙ e in
    absurd cc
no_pieces spelling meaning after x remaining e f (n ∷ ns, g, (a, b, h, k, l)) = f.none a b h (n, k)

pub matches_stuck : (raw text spelling meaning after : List ℕ) (x remaining : ℕ) → spelling ≡ x ∷ after
    → Fails (AnyOf Piece) spelling remaining → Matches raw text spelling meaning → IsTrue false ↔ Spells text raw
matches_stuck raw text spelling meaning after x remaining e f m =
    (λ u. absurd cc, λ h. absurd (no_pieces spelling meaning after x remaining e f (m.to h)))

pub matches_other : (raw text spelling meaning behind after n : List ℕ) (x : ℕ) → spelling ≡ x ∷ after
    → Follows (Piece n) spelling behind → ((t : List ℕ) → meaning ≢ n ++ t) → Matches raw text spelling meaning
    → IsTrue false ↔ Spells text raw
matches_other raw text spelling meaning behind after n x e f none m =
    (λ u. absurd cc, λ h. let k = first n spelling behind meaning after x e f (m.to h) in absurd (none k.rest k.parts))

joined : (n rest spelling behind : List ℕ) (meaning : List ℕ) → Follows (Piece n) spelling behind → meaning ≡ n ++ rest
    → Spells rest behind → Spells meaning spelling
joined n rest spelling behind meaning (t, f, p) e (ns, g, h) =
    (n ∷ ns, e ∙ ap (λ (u : List ℕ). n ++ u) g, (t, behind, f, p, h))

pub matches_more : (raw text spelling meaning behind after n rest : List ℕ) (x : ℕ) → spelling ≡ x ∷ after
    → Follows (Piece n) spelling behind → meaning ≡ n ++ rest → Matches raw text spelling meaning
    → Matches raw text behind rest
matches_more raw text spelling meaning behind after n rest x e f g m = record {
  to = λ h. let k = first n spelling behind meaning after x e f (m.to h) in
      subst (λ (u : List ℕ). Spells u behind) (append_cancel_left n k.rest rest (sym k.parts ∙ g)) k.others;
  from = λ h. m.from (joined n rest spelling behind meaning f g h);
}

empty_means : (meaning : List ℕ) → Spells meaning [] → meaning ≡ []
empty_means meaning ([], g, h) = g
empty_means meaning (n ∷ ns, g, ([], b, h, k, l)) = absurd (piece_some (n, k))
empty_means meaning (n ∷ ns, g, (x ∷ a, b, h, k, l)) = absurd cc

pub matches_end : (raw text spelling meaning : List ℕ) → spelling ≡ [] → Matches raw text spelling meaning
    → (meaning ≡ []) ↔ Spells text raw
matches_end raw text spelling meaning e m = (
  λ h. m.from (subst (λ (u : List ℕ). Spells u spelling) (sym h) ([], refl, e)),
  λ h.
      empty_means meaning (subst (Spells meaning) e (m.to h)),
)

pub empty_test : (r : Bool) (m : List ℕ) (S : Type 0) → r ≡ (length m == 0) → (m ≡ []) ↔ S → IsTrue r ↔ S
empty_test r [] S e s = (λ u. s.0 refl, λ h. e)
empty_test r (x ∷ m) S e s = (
  λ u. let i : length (x ∷ m) ≡ 0 = eqb-true (length (x ∷ m)) 0 (sym e ∙ u) in
      absurd (omega (arith, i)),
  λ h. let i : x ∷ m ≡ [] = s.1 h in absurd cc,
)

pub starts_with : (prefix octets t : List ℕ) → octets ≡ prefix ++ t → take (length prefix) octets ≡ prefix
starts_with prefix octets t e = ap (take (length prefix)) e ∙ take_at prefix t (length prefix) refl
