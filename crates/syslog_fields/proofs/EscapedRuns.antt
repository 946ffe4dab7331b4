-- Values with their escapes, run by run.
use Rattle.std.proofs.Common.{◌≡◌, ℕ, zero, suc, ◌<◌, Bool, true, false, List, [], ◌∷◌, ◌++◌, length, take, drop}
use Rattle.std.proofs.Common.{get_or, refl, sym, ap, ◌∙◌, append_assoc, arith}
use Rattle.std.specs.Prelude.{Some, None, Result, Ok, Err}
use Rattle.std.proofs.lemmas.List.{append-nil}
use Rattle.memchr.specs.Find.{IsFirstByte, is_byte3}
use Rattle.octet_language.specs.Language.{Only}
use Rattle.std.specs.List.{AllByRecursion}
use Rattle.syslog_fields.specs.Appending.{Anything, Adds, Puts}
use Rattle.syslog_fields.specs.Canonical.{escaped, needs_escape}
use Rattle.syslog_fields.proofs.Appends.{adds_some}

pub kept : (x : ℕ) (s : List ℕ) → ¬ (needs_escape x ≡ true) → escaped (x ∷ s) ≡ x ∷ escaped s
kept x s h = go (needs_escape x) refl
  where
    go : (b : Bool) → needs_escape x ≡ b → escaped (x ∷ s) ≡ x ∷ escaped s
    go true e = absurd (h e)
    go false e = rw e refl

escaped_rest : (x : ℕ) (s : List ℕ) → needs_escape x ≡ true → escaped (x ∷ s) ≡ 92 ∷ x ∷ escaped s
escaped_rest x s h = rw h refl

-- up to an octet that needs a backslash
up_to : (k : ℕ) (s : List ℕ) → k < length s → ((i : ℕ) → i < k → ¬ (needs_escape (get_or s i 0) ≡ true))
    → needs_escape (get_or s k 0) ≡ true
    → escaped s ≡ take k s ++ 92 ∷ take 1 (drop k s) ++ escaped (drop 1 (drop k s))
up_to k [] h none here = absurd (omega arith)
up_to zero (x ∷ s) h none here = escaped_rest x s here
up_to (suc k) (x ∷ s) h none here =
    kept x s (none 0 (omega arith)) ∙ ap (λ (t : List ℕ). x ∷ t)
    (up_to k s (omega arith) (λ i less. none (suc i) (omega arith)) here)

all_kept : (s : List ℕ) → ((i : ℕ) → i < length s → ¬ (needs_escape (get_or s i 0) ≡ true)) → escaped s ≡ s
all_kept [] none = refl
all_kept (x ∷ s) none = kept x s (none 0 (omega arith))
    ∙ ap (λ (t : List ℕ). x ∷ t) (all_kept s (λ i less. none (suc i) (omega arith)))

-- what was written of a text, and what is left of it
pub record Escapes (text rest old out : List ℕ) : Type 0 where
  pub done : List ℕ
  pub parts : out ≡ old ++ done
  pub is : escaped text ≡ done ++ escaped rest

pub escapes_all : (text old : List ℕ) → Escapes text text old old
escapes_all text old = record { done = []; parts = sym (append-nil old); is = refl }

pub escapes_begun : (text rest old out : List ℕ) → Escapes text rest old out → Adds Anything old out
escapes_begun text rest old out e = (e.done, tt, e.parts)

pub escapes_more : (text rest old out m1 m2 m3 plain special octet behind : List ℕ) (k : ℕ) → Escapes text rest old out
    → IsFirstByte (is_byte3 34 92 93) rest (Some k)
    → plain ≡ take k rest → special ≡ drop k rest → octet ≡ take 1 special → behind ≡ drop 1 special
    → Adds (Only plain) out m1 → Adds (Only (92 ∷ [])) m1 m2 → Adds (Only octet) m2 m3 → Escapes text behind old m3
escapes_more text rest old out m1 m2 m3 plain special octet behind k e f p s o b (x, xs, xe) (y, ys, ye) (z, zs, ze) =
    let step : escaped rest ≡ plain ++ 92 ∷ octet ++ escaped behind =
    rw (p, o, b, s) (up_to k rest f.0.high (λ i less. f.0.before i (omega arith) less) f.1) in
    record {
      done = e.done ++ plain ++ 92 ∷ [] ++ octet;
      parts = ze ∙ ap (λ (t : List ℕ). t ++ z)
          (ye ∙ ap (λ (t : List ℕ). t ++ y) (xe ∙ ap (λ (t : List ℕ). t ++ x) e.parts))
          ∙ rw (xs, ys, zs) (simp append_assoc);
      is = e.is ∙ ap (λ (t : List ℕ). e.done ++ t) step ∙ simp append_assoc;
    }

pub escapes_end : {X E : Type 0} (text rest old out new : List ℕ) (r : Result X E) → Escapes text rest old out
    → IsFirstByte (is_byte3 34 92 93) rest None → Puts (Only rest) out new r → Puts (Only (escaped text)) old new r
escapes_end text rest old out new (Ok x) e f (t, ts, te) =
    let whole : escaped rest ≡ rest = all_kept rest (λ i less. f i (omega arith) less) in (
      escaped text,
      refl,
      te ∙ ap (λ (s : List ℕ). s ++ t) e.parts ∙ append_assoc old e.done t
          ∙ ap (λ (s : List ℕ). old ++ s) (ap (λ (s : List ℕ). e.done ++ s) (ts ∙ sym whole) ∙ sym e.is),
    )
escapes_end text rest old out new (Err x) e f a =
    adds_some Anything Anything old out new (escapes_begun text rest old out e) a

pub bare : (c : List ℕ) → AllByRecursion (λ x. ¬ (needs_escape x ≡ true)) c → escaped c ≡ c
bare [] h = refl
bare (x ∷ c) h = kept x c h.0 ∙ ap (λ (s : List ℕ). x ∷ s) (bare c h.1)
