-- Runs of octets of one class, of one octet to a limit: where they end and stop.
use Rattle.std.proofs.Common.{◌≡◌, ℕ, ◌<◌, ◌≤◌, List, [], ◌∷◌, ◌++◌, length, refl, sym, ap, subst, ◌∙◌, arith, inl, inr}
use Rattle.std.proofs.Common.{◌⊎◌}
use Rattle.std.specs.List.{AllByRecursion}
use Rattle.std.proofs.lemmas.Bool.{cases_lt}
use Rattle.std.proofs.lemmas.List.{length-append}
use Rattle.octet_language.specs.Language.{Language, ◌⋅◌, Refuses, IsPrefixFree, IfFirst}
use Rattle.octet_language.specs.Reading.{Fails}
use Rattle.octet_language.proofs.Lists.{heads, one_more, AllByRecursion-right, parted}
use Rattle.octet_language.proofs.Delimited.{Fails-from_unfinished}
use Rattle.syslog_fields.specs.Spans.{IsRun, StopsInRun}
use Rattle.syslog_fields.proofs.Ahead.{OneAhead, StartsIn, same_run, IsPrefixFree-ahead}

-- what ends a run
abbrev pub Ends : (ℕ → Type 0) → ℕ → Type 0
Ends C x = C x → ⊥

-- the texts of a language are the runs
pub record AreRuns (C : ℕ → Type 0) (n : ℕ) (A : Language) : Type 0 where
  pub to : (b : List ℕ) → A b → IsRun C n b
  pub from : (b : List ℕ) → IsRun C n b → A b

pub OneAhead-runs : (C : ℕ → Type 0) (n : ℕ) (A : Language) → AreRuns C n A → OneAhead A (Ends C)
OneAhead-runs C n A runs p s q t h k u v e = same_run C p q s t (runs.to p h).octets (runs.to q k).octets u v e

-- how a run goes on
goes_on_run : (C : ℕ → Type 0) (n c : ℕ) (A B : Language) (t p : List ℕ) → AreRuns C n A → 0 < n → C c → B t
    → StartsIn (Ends C) B → length p ≤ n → AllByRecursion C p → (y : ℕ) × (m : List ℕ) × (A ⋅ B) (p ++ y ∷ m)
goes_on_run C n c A B t [] runs positive here some starts fits octets = (
  c,
  t,
  (
    c ∷ [],
    t,
    refl,
    runs.from (c ∷ [])
        (record { some = omega arith; fits = omega arith; octets = (here, tt) }),
    some,
  ),
)
goes_on_run C n c A B t (x ∷ p) runs positive here some starts fits octets =
    let k = starts t some in (
      k.0,
      k.1,
      (
        x ∷ p,
        t,
        ap (λ (u : List ℕ). x ∷ p ++ u) (sym k.2),
        runs.from (x ∷ p) (record { some = omega arith; fits = fits; octets = octets }),
        some,
      ),
    )

-- no run goes on with the octet after it
refuses_run : (C : ℕ → Type 0) (n : ℕ) (A B : Language) (read rest : List ℕ) → AreRuns C n A → StartsIn (Ends C) B
    → AllByRecursion C read → IfFirst (λ x. C x → length read ≡ n) rest → IfFirst (λ x. Ends C x → length read ≡ 0) rest
    → Refuses (A ⋅ B) read rest
refuses_run C n A B read [] runs starts octets long short = tt
refuses_run C n A B read (x ∷ rest) runs starts octets long short = λ (more, (w, s, e, h, k)).
    let run = runs.to w h in
    let b = starts s k in
    let whole : w ++ s ≡ read ++ x ∷ more = sym e ∙ one_more read x more in
    elim (parted w s read x more whole) [
      | inl z ↦
          let here : C x = (AllByRecursion-right C read (x ∷ z.0) (subst (AllByRecursion C) z.1 run.octets)).0 in
          omega (arith, long here, ap length z.1, length-append read (x ∷ z.0), run.fits)
      | inr z ↦ ends_early z.0 w s read x more b.0 b.1 octets run.some short z.1 (sym b.2 ∙ z.2) b.3
    ]
  where
    ends_early : (z w s read : List ℕ) (x : ℕ) (more : List ℕ) (y : ℕ) (t : List ℕ) → AllByRecursion C read
        → 0 < length w → (Ends C x → length read ≡ 0) → read ≡ w ++ z → y ∷ t ≡ z ++ x ∷ more → Ends C y → ⊥
    ends_early [] w s read x more y t octets some short e f n =
        omega (arith, short (subst (Ends C) (heads y x t more f) n), ap length e, length-append w [])
    ends_early (h ∷ z) w s read x more y t octets some short e f n =
        n (subst C (sym (heads y h t (z ++ x ∷ more) f))
        (AllByRecursion-right C w (h ∷ z) (subst (AllByRecursion C) e octets)).0)

-- a run that is not whole, whatever ends it
pub Fails-run : (C : ℕ → Type 0) (n c : ℕ) (A B : Language) (b t : List ℕ) (remaining : ℕ) → AreRuns C n A → 0 < n → C c
    → B t → IsPrefixFree B → StartsIn (Ends C) B → StopsInRun C n b remaining → Fails (A ⋅ B) b remaining
Fails-run C n c A B b t remaining runs positive here some one starts f =
    let fits : length f.read ≤ n = elim f.ends [ inl h ↦ omega (arith, ap length h.0) | inr h ↦ omega (arith, h.0) ] in
    let k = goes_on_run C n c A B t f.read runs positive here some starts fits f.octets in
    subst (Fails (A ⋅ B) b) f.count
    (Fails-from_unfinished (A ⋅ B) b f.read f.rest k.1 k.0
    (IsPrefixFree-ahead A B (Ends C) (OneAhead-runs C n A runs) starts one) f.parts k.2
    (refuses_run C n A B f.read f.rest runs starts f.octets (long f.read f.rest f.ends)
    (short f.read f.rest f.ends)))
  where
    long : (read rest : List ℕ) → ((read ≡ []) × IfFirst (Ends C) rest) ⊎ ((length read ≡ n) × IfFirst C rest)
        → IfFirst (λ x. C x → length read ≡ n) rest
    long read [] h = tt
    long read (x ∷ rest) (inl h) = λ k. absurd (h.1 k)
    long read (x ∷ rest) (inr h) = λ k. h.0

    short : (read rest : List ℕ) → ((read ≡ []) × IfFirst (Ends C) rest) ⊎ ((length read ≡ n) × IfFirst C rest)
        → IfFirst (λ x. Ends C x → length read ≡ 0) rest
    short read [] h = tt
    short read (x ∷ rest) (inl h) = λ k. ap length h.0
    short read (x ∷ rest) (inr h) = λ k. absurd (k h.1)

-- an octet of the class after a run that stops at most at the limit: the limit is reached
pub at_limit : (C : ℕ → Type 0) (most n : ℕ) (rest : List ℕ) → n ≤ most → (n < most → IfFirst (Ends C) rest)
    → IfFirst C rest → 0 < length rest → n ≡ most
at_limit C most n [] fits ends goes some = absurd (omega arith)
at_limit C most n (x ∷ rest) fits ends goes some =
    elim (cases_lt n most) [ inl h ↦ absurd (ends h goes) | inr h ↦ omega arith ]
