-- Where a language stops is the end of the longest prefix that a text begins with.
use Rattle.std.proofs.Common.{◌≡◌, ℕ, ◌-◌, ◌≤◌, List, [], ◌∷◌, ◌++◌, length, take, drop, refl, sym, ap, subst, ◌∙◌}
use Rattle.std.proofs.Common.{append_assoc, arith, inl, inr}
use Rattle.std.proofs.lemmas.List.{take_at, length-append, take-append-drop, length-take}
use Rattle.std.proofs.lemmas.List.{append-nil, take-append-le, take-take}
use Rattle.octet_language.specs.Language.{Language, Begins, IsFaultOffset, Refuses, Stops, NoPrefix}
use Rattle.octet_language.proofs.Lists.{parted, one_more}
use Rattle.std.proofs.lemmas.Bool.{cases_lt}

longest : (L : Language) (p rest : List ℕ) (m : ℕ) → Refuses L p rest → m ≤ length (p ++ rest)
    → Begins L (take m (p ++ rest)) → m ≤ length p
longest L p [] m r within b = omega (arith, length-append p [])
longest L p (x ∷ rest) m r within b =
    let whole = take-append-drop m (p ++ x ∷ rest) in
    elim (parted (take m (p ++ x ∷ rest)) (drop m (p ++ x ∷ rest)) p x rest whole) [
      | inl z ↦ absurd (r (
        z.0 ++ b.0,
        subst L
            (ap (λ (s : List ℕ). s ++ b.0) (z.1 ∙ sym (one_more p x z.0)) ∙ append_assoc (p ++ x ∷ []) z.0 b.0) b.1,
      ))
      | inr w ↦ omega (arith, ap length w.1, length-append (take m (p ++ x ∷ rest)) w.0, length-take m (p ++ x ∷ rest))
    ]

pub IsFaultOffset-from_stops : (L : Language) (b : List ℕ) (remaining : ℕ) → Stops L b remaining
    → IsFaultOffset L b (length b - remaining)
IsFaultOffset-from_stops L b remaining s =
    let n : length b - remaining ≡ length s.read =
    omega (arith, ap length s.parts, length-append s.read s.rest, s.count) in
    rw n (record {
      within = omega (arith, n);
      begins = subst (Begins L) (sym (ap (take (length s.read)) s.parts ∙ take_at s.read s.rest (length s.read) refl))
          s.begins;
      longest = λ m within b'. longest L s.read s.rest m s.refuses (subst (λ (t : List ℕ). m ≤ length t) s.parts within)
          (subst (λ (t : List ℕ). Begins L (take m t)) s.parts b');
    })

-- octets have at most one such offset
pub IsFaultOffset-unique : (L : Language) (b : List ℕ) (n m : ℕ) → IsFaultOffset L b n → IsFaultOffset L b m → n ≡ m
IsFaultOffset-unique L b n m h k = omega (arith, h.longest m k.within k.begins, k.longest n h.within h.begins)

-- ---- with more octets behind

-- octets that no text begins with, and of which no prefix is one, have none however they continue
pub NoPrefix-longer : (L : Language) (b more : List ℕ) → NoPrefix L b → ¬ (Begins L b) → NoPrefix L (b ++ more)
NoPrefix-longer L b [] none dead x y e h = none x y (sym (append-nil b) ∙ e) h
NoPrefix-longer L b (m ∷ more) none dead x y e h =
    elim (parted x y b m more (sym e)) [
      | inl z ↦ dead (m ∷ z.0, subst L z.1 h)
      | inr w ↦ none x w.0 w.1 h
    ]

pub none_longer : (L : Language) (b more : List ℕ) → ¬ (Begins L b) → ¬ (Begins L (b ++ more))
none_longer L b more dead (end, h) = dead (more ++ end, subst L (append_assoc b more end) h)

-- and stop where they did
pub IsFaultOffset-longer : (L : Language) (b more : List ℕ) (n : ℕ) → ¬ (Begins L b) → IsFaultOffset L b n
    → IsFaultOffset L (b ++ more) n
IsFaultOffset-longer L b more n dead p = record {
  within = omega (arith, p.within, length-append b more);
  begins = subst (Begins L) (sym (take-append-le n b more p.within)) p.begins;
  longest = λ m within h.
      elim (cases_lt (length b) m) [
        | inl past ↦
            let prefix : take m (b ++ more) ≡ b ++ drop (length b) (take m (b ++ more)) =
            sym (take-append-drop (length b) (take m (b ++ more)))
            ∙ ap (λ (u : List ℕ). u ++ drop (length b) (take m (b ++ more)))
            (take-take (length b) m (b ++ more) (omega (arith, past)) ∙ take_at b more (length b) refl) in
            absurd (none_longer L b (drop (length b) (take m (b ++ more))) dead (subst (Begins L) prefix h))
        | inr le ↦ p.longest m le (subst (Begins L) (take-append-le m b more le) h)
      ];
}
