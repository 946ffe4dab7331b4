-- What is trimmed of a frame.
use Rattle.std.proofs.Common.{◌≡◌, ◌≤◌, ◌-◌, ◌++◌, ◌∷◌, ℕ, List, [], true, length, refl, arith, sym, subst}
use Rattle.std.proofs.Common.{append_assoc}
use Rattle.std.specs.Prelude.{drop, take}
use Rattle.std.proofs.lemmas.List.{drop_at, length-append, length-take, take_at}
use Rattle.syslog_frame.specs.Trimmed.{dropped, ends_in, trimmed}

-- there are no more octets than of the frame
pub trimmed_within : (f : List ℕ) → length (trimmed f) ≤ length f
trimmed_within f = let e = length-take (length f - dropped f) f in omega (arith, e)

before : (t : List ℕ) (k : ℕ) (e : List ℕ) → length e ≡ k → length (t ++ e) - k ≡ length t
before t k e is = let n = length-append t e in omega (arith, n, is)

last : (t e : List ℕ) (k : ℕ) → length e ≡ k → drop (length (t ++ e) - k) (t ++ e) ≡ e
last t e k is = drop_at t e _ (sym (before t k e is))

first : (t e : List ℕ) (k : ℕ) → length e ≡ k → take (length (t ++ e) - k) (t ++ e) ≡ t
first t e k is = take_at t e _ (sym (before t k e is))

lf_ends : (t : List ℕ) → ends_in (t ++ 10 ∷ []) (10 ∷ []) ≡ true
lf_ends t = rw (last t (10 ∷ []) 1 refl) refl

cr_lf_ends_lf : (t : List ℕ) → ends_in (t ++ 13 ∷ 10 ∷ []) (10 ∷ []) ≡ true
cr_lf_ends_lf t = subst (λ (f : List ℕ). ends_in f (10 ∷ []) ≡ true) (append_assoc t (13 ∷ []) (10 ∷ [])) (lf_ends
    (t ++ 13 ∷ []))

cr_lf_ends : (t : List ℕ) → ends_in (t ++ 13 ∷ 10 ∷ []) (13 ∷ 10 ∷ []) ≡ true
cr_lf_ends t = rw (last t (13 ∷ 10 ∷ []) 2 refl) refl

-- CR LF is dropped whole
pub cr_lf_trimmed : (t : List ℕ) → trimmed (t ++ 13 ∷ 10 ∷ []) ≡ t
cr_lf_trimmed t = rw (cr_lf_ends_lf t, cr_lf_ends t) (first t (13 ∷ 10 ∷ []) 2 refl)
