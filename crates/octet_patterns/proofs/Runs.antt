-- Texts that are like a run.
use Rattle.std.proofs.Common.{◌≡◌, ◌≢◌, ℕ, zero, suc, ◌+◌, ◌<◌, ◌≤◌, List, [], ◌∷◌, ◌++◌, None, Some}
use Rattle.std.proofs.Common.{length, take, drop, get_or, refl, ap, sym, subst, ◌∙◌, inl, inr, arith, eq-eqb, eqb-true}
use Rattle.std.proofs.lemmas.List.{drop_more, length-append, take-append-drop, take_all}
use Rattle.memchr.specs.Find.{IsFirstByte, is_byte}
use Rattle.octet_patterns.specs.Globs.{Fits, IsLike, IsPartedAt, IsRun, Piece}

-- what an octet of a run stands for is one octet
piece_one : (c : ℕ) (a : List ℕ) → c ≢ 42 → Piece c a → (x : ℕ) × (a ≡ x ∷ []) × Fits c x
piece_one c a other (inl star) = absurd (other star)
piece_one c [] other (inr (inl (any, one))) = absurd (omega arith)
piece_one c (x ∷ []) other (inr (inl (any, one))) = (x, refl, inl any)
piece_one c (x ∷ y ∷ a) other (inr (inl (any, one))) = absurd (omega arith)
piece_one c a other (inr (inr same)) = (c, same, inr refl)

fits_piece : (c x : ℕ) → Fits c x → Piece c (x ∷ [])
fits_piece c x (inl any) = inr (inl (any, refl))
fits_piece c x (inr same) = inr (inr (ap (λ y. y ∷ []) (sym same)))

pub run_length : (run text : List ℕ) → IsRun run → IsLike run text → length text ≡ length run
run_length [] text h like = ap length like
run_length (c ∷ run) text h (a, b, e, piece, like) =
    let one = piece_one c a h.0 piece in
    omega (arith, ap length e, length-append a b, ap length one.1, run_length run b h.1 like)

-- octet for octet
pub fits_like : (run text : List ℕ) → length run ≡ length text
    → ((k : ℕ) → k < length run → Fits (get_or run k 0) (get_or text k 0)) → IsLike run text
fits_like [] [] same fits = refl
fits_like [] (x ∷ text) same fits = absurd (omega arith)
fits_like (c ∷ run) [] same fits = absurd (omega arith)
fits_like (c ∷ run) (x ∷ text) same fits = (
  x ∷ [],
  text,
  refl,
  fits_piece c x (fits 0 (omega arith)),
  fits_like run text (omega arith) (λ k l. fits (suc k) (omega arith)),
)

fits_cons : (c : ℕ) (run text b : List ℕ) (x : ℕ) → Fits c x → text ≡ x ∷ b
    → ((k : ℕ) → k < length run → Fits (get_or run k 0) (get_or b k 0))
    → (k : ℕ) → k < length (c ∷ run) → Fits (get_or (c ∷ run) k 0) (get_or text k 0)
fits_cons c run text b x first parts rest zero within =
    subst (λ (t : List ℕ). Fits c (get_or t 0 0)) (sym parts) first
fits_cons c run text b x first parts rest (suc k) within =
    subst (λ (t : List ℕ). Fits (get_or run k 0) (get_or t (suc k) 0)) (sym parts) (rest k (omega arith))

pub like_fits : (run text : List ℕ) → IsRun run → IsLike run text → (k : ℕ) → k < length run
    → Fits (get_or run k 0) (get_or text k 0)
like_fits [] text h like = λ k within. absurd (omega arith)
like_fits (c ∷ run) text h (a, b, e, piece, like) =
    let one = piece_one c a h.0 piece in
    fits_cons c run text b one.0 one.2 (e ∙ ap (λ (u : List ℕ). u ++ b) one.1) (like_fits run b h.1 like)

-- ---- the first "*"

run_prefix : (s : List ℕ) (n : ℕ) → n ≤ length s → ((k : ℕ) → k < n → get_or s k 0 ≢ 42) → IsRun (take n s)
run_prefix s zero within h = tt
run_prefix [] (suc n) within h = tt
run_prefix (y ∷ s) (suc n) within h = (h 0 (omega arith), run_prefix s n (omega arith) (λ k l. h (suc k) (omega arith)))

pub no_star : (p : List ℕ) → IsFirstByte (is_byte 42) p None → IsRun p
no_star p none =
    subst IsRun (take_all (length p) p (omega arith))
    (run_prefix p (length p) (omega arith) (λ k less e. none k (omega arith) less (eq-eqb (get_or p k 0) 42 e)))

pub first_star : (p : List ℕ) (k : ℕ) → IsFirstByte (is_byte 42) p (Some k)
    → IsPartedAt p (Some (take k p, drop (k + 1) p))
first_star p k (first, is) = (
  run_prefix p k (omega (arith, first.high)) (λ j less e. first.before j (omega arith) less (eq-eqb (get_or p j 0) 42 e)),
  sym (take-append-drop k p) ∙ ap (λ (u : List ℕ). take k p ++ u) (drop_more p k 0 first.high)
      ∙ ap (λ (c : ℕ). take k p ++ c ∷ drop (k + 1) p) (eqb-true (get_or p k 0) 42 is),
)
