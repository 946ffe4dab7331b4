-- Two ledgers that agree at a line are equal, or collide.
use Rattle.std.proofs.Common.{◌≡◌, ◌≢◌, ℕ, zero, suc, ◌+◌, ◌-◌, ◌<◌, List, [], ◌∷◌, ◌++◌, length, take, drop, refl, sym}
use Rattle.std.proofs.Common.{ap, ◌∙◌, arith, inl, inr, subst, length-append, Bool, true, false}
use Rattle.std.specs.Prelude.{◌⊎◌, Ok}
use Rattle.std.specs.Bool.{Decides}
use Rattle.std.specs.Int.{to_be_bytes, w32}
use Rattle.std.specs.Str.{bytes_eq}
use Rattle.std.proofs.Math.Seq.{drop-append-add, take-append_seam}
use Rattle.std.proofs.lemmas.Slice.Eq.{bytes_eq-Decides}
use Rattle.hex.specs.Hex.{IsBytes, decode_sized, encode_lower, lower_digits}
use Rattle.hex.proofs.HexLemmas.{decode_sized-encode_lower, length-encode_with}
use Rattle.octet_language.proofs.Lists.{by_length}
use Rattle.sha2.specs.Sha256.{digest_bytes, sha256, final_hash, initial_hash_256}
use Rattle.sha2.proofs.Facts256.{length-sha256}
use Rattle.ledger.specs.Chains.{ChainsFrom, Continues, IsChained, start}
use Rattle.ledger.specs.Laws.{Collide, CollideBehind, IsCollision, chain_of, hashed_text}
use Rattle.ledger.specs.Lines.{Said, body_text, chain_behind}
use Rattle.ledger.specs.Words.{word_and}
use Rattle.ledger.specs.declared.head.ChainHead.{ChainHead}

-- ---- a SHA-256 is octets, and so has one text in hexadecimal

bytes_append : (a b : List ℕ) → IsBytes a → IsBytes b → IsBytes (a ++ b)
bytes_append [] b h k i = k i
bytes_append (x ∷ a) b h k zero = h zero
bytes_append (x ∷ a) b h k (suc i) = bytes_append a b (λ j. h (suc j)) k i

four : (a b c d : ℕ) → a < 256 → b < 256 → c < 256 → d < 256 → IsBytes (a ∷ b ∷ c ∷ d ∷ [])
four a b c d p q r s zero = p
four a b c d p q r s (suc zero) = q
four a b c d p q r s (suc (suc zero)) = r
four a b c d p q r s (suc (suc (suc zero))) = s
four a b c d p q r s (suc (suc (suc (suc i)))) = omega arith

be_bytes : (n : ℕ) → IsBytes (to_be_bytes w32 n)
be_bytes n = four _ _ _ _ (omega arith) (omega arith) (omega arith) (omega arith)

digest_octets : (h : List ℕ) (n : ℕ) → IsBytes (digest_bytes h n)
unfolding digest_bytes
digest_octets h zero = λ i. omega arith
digest_octets h (suc n) = bytes_append (digest_bytes h n) _ (digest_octets h n) (be_bytes _)

pub sha_octets : (m : List ℕ) → IsBytes (sha256 m)
unfolding sha256
sha_octets m = digest_octets (final_hash initial_hash_256 m) 8

pub one_sha : (a b : List ℕ) → encode_lower (sha256 a) ≡ encode_lower (sha256 b) → sha256 a ≡ sha256 b
one_sha a b e =
    let first : decode_sized (encode_lower (sha256 a)) 32 ≡ Ok (sha256 a) =
    decode_sized-encode_lower (sha256 a) 32 (length-sha256 a) (sha_octets a) in
    let second : decode_sized (encode_lower (sha256 b)) 32 ≡ Ok (sha256 b) =
    decode_sized-encode_lower (sha256 b) 32 (length-sha256 b) (sha_octets b) in
    let both : Ok (sha256 a) ≡ Ok (sha256 b) = sym first ∙ ap (λ (l : List ℕ). decode_sized l 32) e ∙ second in
    cc

pub chain_size : (c body : List ℕ) → length (chain_behind c body) ≡ 64
chain_size c body =
    omega (arith, length-encode_with lower_digits (sha256 (word_and c body)), length-sha256 (word_and c body))

decide : (a b : List ℕ) → (a ≡ b) ⊎ (a ≢ b)
decide a b = by_test (bytes_eq a b) (bytes_eq-Decides a b)
  where
    by_test : (r : Bool) → Decides r (a ≡ b) → (a ≡ b) ⊎ (a ≢ b)
    by_test true d = inl (d.0 refl)
    by_test false d = inr (λ e. let k : false ≡ true = d.1 e in cc)

-- ---- a line's body and chain, by their places

body_in : (body chain : List ℕ) → length chain ≡ 64 → take (length (word_and body chain) - 65) (word_and body chain) ≡ body
body_in body chain size =
    let at : length (word_and body chain) - 65 ≡ length body = omega (arith, length-append body (32 ∷ chain)) in
    ap (λ (n : ℕ). take n (word_and body chain)) at ∙ take-append_seam body (32 ∷ chain)

chain_in : (body chain : List ℕ) → length chain ≡ 64 → drop (length (word_and body chain) - 64) (word_and body chain) ≡ chain
chain_in body chain size =
    let at : length (word_and body chain) - 64 ≡ length body + 1 = omega (arith, length-append body (32 ∷ chain)) in
    ap (λ (n : ℕ). drop n (word_and body chain)) at ∙ drop-append-add body (32 ∷ chain) 1

-- ---- the law

-- how one ledger goes on: a line of this body, behind a chain
record Goes (c line : List ℕ) (next : ChainHead) : Type 0 where
  body : List ℕ
  chain : next.chain ≡ chain_behind c body
  text : line ≡ word_and body next.chain

goes : (b : ChainHead) (line : List ℕ) (s : Said) (next : ChainHead) → Continues b line s next → Goes b.chain line next
goes b line s next h = record {
  body = body_text next.number h.time s;
  chain = h.chain;
  text = h.text ∙ ap (word_and (body_text next.number h.time s)) (sym h.chain);
}

chain_is : (c line : List ℕ) (next : ChainHead) → Goes c line next → chain_of line ≡ next.chain
chain_is c line next g =
    ap chain_of g.text ∙ chain_in g.body next.chain (ap length g.chain ∙ chain_size c g.body)

hashed_is : (c line : List ℕ) (next : ChainHead) (g : Goes c line next) → hashed_text c line ≡ word_and c g.body
hashed_is c line next g =
    ap (hashed_text c) g.text
    ∙ ap (word_and c) (body_in g.body next.chain (ap length g.chain ∙ chain_size c g.body))

-- the same chain behind a line each: the same chain before and the same line, or a collision
one_step : (c d x y : List ℕ) (m n : ChainHead) → length c ≡ 64 → length d ≡ 64 → Goes c x m → Goes d y n
    → m.chain ≡ n.chain → ((c ≡ d) × (x ≡ y)) ⊎ IsCollision (hashed_text c x) (hashed_text d y)
one_step c d x y m n few less g h same = which (decide (hashed_text c x) (hashed_text d y))
  where
    a : hashed_text c x ≡ word_and c g.body
    a = hashed_is c x m g

    b : hashed_text d y ≡ word_and d h.body
    b = hashed_is d y n h

    hashes : sha256 (word_and c g.body) ≡ sha256 (word_and d h.body)
    hashes = one_sha (word_and c g.body) (word_and d h.body) (sym g.chain ∙ same ∙ h.chain)

    which : (hashed_text c x ≡ hashed_text d y) ⊎ (hashed_text c x ≢ hashed_text d y)
        → ((c ≡ d) × (x ≡ y)) ⊎ IsCollision (hashed_text c x) (hashed_text d y)
    which (inr apart) = inr (record { apart = apart; same = ap sha256 a ∙ hashes ∙ ap sha256 (sym b) })
    which (inl one) =
        let both = by_length c d (32 ∷ g.body) (32 ∷ h.body) (few ∙ sym less) (sym a ∙ one ∙ b) in
        let rest : 32 ∷ g.body ≡ 32 ∷ h.body = both.1 in
        let bodies : g.body ≡ h.body = cc in
        inl (
          both.0,
          g.text ∙ ap (λ (l : List ℕ). word_and l m.chain) bodies ∙ ap (word_and h.body) same ∙ sym h.text,
        )

abbrev Agree : List ℕ → List (List ℕ) → List ℕ → List (List ℕ) → Type 0
Agree c xs d ys = ((c ≡ d) × (xs ≡ ys)) ⊎ CollideBehind c xs d ys

agree_more : (c d x y : List ℕ) (xs ys : List (List ℕ)) (m n : ChainHead) → length c ≡ 64 → length d ≡ 64
    → Goes c x m → Goes d y n → Agree m.chain xs n.chain ys → Agree c (x ∷ xs) d (y ∷ ys)
agree_more c d x y xs ys m n few less g h (inr later) =
    inr (inr (subst (λ (k : List ℕ). CollideBehind k xs (chain_of y) ys) (sym (chain_is c x m g))
    (subst (λ (k : List ℕ). CollideBehind m.chain xs k ys) (sym (chain_is d y n h)) later)))
agree_more c d x y xs ys m n few less g h (inl (same, rest)) = which (one_step c d x y m n few less g h same)
  where
    which : ((c ≡ d) × (x ≡ y)) ⊎ IsCollision (hashed_text c x) (hashed_text d y) → Agree c (x ∷ xs) d (y ∷ ys)
    which (inl both) = let lines = both.1 in inl (both.0, cc)
    which (inr collision) = inr (inl collision)

agree : (b d g h : ChainHead) (xs ys : List (List ℕ)) (ss ts : List Said) → length xs ≡ length ys
    → length b.chain ≡ 64 → length d.chain ≡ 64 → ChainsFrom b xs ss g → ChainsFrom d ys ts h → g.chain ≡ h.chain
    → Agree b.chain xs d.chain ys
agree b d g h [] [] [] [] long few less p q same = inl (ap (λ (k : ChainHead). k.chain) p ∙ same ∙ ap (λ (k : ChainHead). k.chain) (sym q), refl)
agree b d g h [] (y ∷ ys) ss ts long few less p q same = absurd (omega arith)
agree b d g h (x ∷ xs) [] ss ts long few less p q same = absurd (omega arith)
agree b d g h [] [] [] (t ∷ ts) long few less p q same = absurd q
agree b d g h [] [] (s ∷ ss) ts long few less p q same = absurd p
agree b d g h (x ∷ xs) (y ∷ ys) [] ts long few less p q same = absurd p
agree b d g h (x ∷ xs) (y ∷ ys) (s ∷ ss) [] long few less p q same = absurd q
agree b d g h (x ∷ xs) (y ∷ ys) (s ∷ ss) (t ∷ ts) long few less (m, one, p) (n, two, q) same =
    let first = goes b x s m one in
    let second = goes d y t n two in
    agree_more b.chain d.chain x y xs ys m n few less first second
    (agree m n g h xs ys ss ts (omega arith) (ap length first.chain ∙ chain_size b.chain first.body)
    (ap length second.chain ∙ chain_size d.chain second.body) p q same)

-- each line counts
pub counted : (b end : ChainHead) (xs : List (List ℕ)) (ss : List Said) → ChainsFrom b xs ss end
    → end.number ≡ b.number + length xs
counted b end [] [] p = let e = ap (λ (k : ChainHead). k.number) p in omega (arith, e)
counted b end [] (s ∷ ss) p = absurd p
counted b end (x ∷ xs) [] p = absurd p
counted b end (x ∷ xs) (s ∷ ss) (m, one, p) = omega (arith, one.next, counted m end xs ss p)

pub agreeing_are_equal : (xs ys : List (List ℕ)) (g h : ChainHead) → IsChained xs g → IsChained ys h
    → g.number ≡ h.number → g.chain ≡ h.chain → (xs ≡ ys) ⊎ Collide xs ys
agreeing_are_equal xs ys g h (ss, p) (ts, q) same chains =
    let long : length xs ≡ length ys = omega (arith, counted start g xs ss p, counted start h ys ts q) in
    which (agree start start g h xs ys ss ts long refl refl p q chains)
  where
    which : Agree start.chain xs start.chain ys → (xs ≡ ys) ⊎ Collide xs ys
    which (inl both) = inl both.1
    which (inr later) = inr later
