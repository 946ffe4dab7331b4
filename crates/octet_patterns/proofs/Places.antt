-- The places of a text where it may be like a run.
use Rattle.std.proofs.Common.{◌≡◌, ℕ, ◌+◌, ◌<◌, ◌≤◌, ◌-◌, List, ◌++◌, None, length, take, drop}
use Rattle.std.proofs.Common.{ap, sym, subst, ◌∙◌, arith, append_assoc}
use Rattle.std.proofs.Math.Seq.{drop-append_seam, take-append_seam}
use Rattle.std.proofs.lemmas.List.{drop-drop, length-append, length-drop, take-append-drop, take_all}
use Rattle.octet_patterns.specs.Globs.{IsBehindFirst, IsLike, IsRun, Stands, StandsFirst}
use Rattle.octet_patterns.proofs.Runs.{run_length}

-- so many octets of a text from a place on
abbrev pub place : List ℕ → ℕ → ℕ → List ℕ
place text k n = take n (drop k text)

-- a text that stands is at its place, and that lies within
record IsAtPlace (run text x y z : List ℕ) : Type 0 where
  fits : length x + length run ≤ length text
  here : y ≡ place text (length x) (length run)
  behind : z ≡ drop (length x + length run) text

at_place : (run text x y z : List ℕ) → IsRun run → Stands run text x y z → IsAtPlace run text x y z
at_place run text x y z h s =
    let long = run_length run y h s.like in
    let whole : text ≡ x ++ (y ++ z) = s.parts ∙ append_assoc x y z in
    let rest : drop (length x) text ≡ y ++ z = ap (drop (length x)) whole ∙ drop-append_seam x (y ++ z) in
    record {
      fits = omega (arith, long, ap length s.parts, length-append (x ++ y) z, length-append x y);
      here = sym (take-append_seam y z) ∙ ap (take (length y)) (sym rest)
          ∙ ap (λ (n : ℕ). place text (length x) n) long;
      behind = sym (drop-append_seam y z) ∙ ap (drop (length y)) (sym rest)
          ∙ ap (λ (n : ℕ). drop n (drop (length x) text)) long ∙ drop-drop (length run) (length x) text;
    }

-- at none of the first n places
abbrev pub IsNotBefore : List ℕ → List ℕ → ℕ → Type 0
IsNotBefore run text n = (k : ℕ) → k < n → ¬ (IsLike run (place text k (length run)))

pub found_first : (run text : List ℕ) (n : ℕ) → IsRun run → n + length run ≤ length text
    → IsLike run (place text n (length run)) → IsNotBefore run text n
    → StandsFirst run text (drop (n + length run) text)
found_first run text n h fits like none = record {
  before = take n text;
  here = place text n (length run);
  stands = record {
    parts = sym (take-append-drop n text)
        ∙ ap (λ (t : List ℕ). take n text ++ t) (sym (take-append-drop (length run) (drop n text))
        ∙ ap (λ (t : List ℕ). place text n (length run) ++ t) (drop-drop (length run) n text))
        ∙ sym (append_assoc (take n text) (place text n (length run)) (drop (n + length run) text));
    like = like;
  };
  first = λ x y z s.
      let at = at_place run text x y z h s in
      let later : n ≤ length x = later_place x y z s in
      let more = length x - n in (
        take more (drop (n + length run) text),
        sym (take-append-drop more (drop (n + length run) text))
            ∙ ap (λ (t : List ℕ). take more (drop (n + length run) text) ++ t)
            (drop-drop more (n + length run) text ∙ ap (λ (k : ℕ). drop k text) (omega arith) ∙ sym at.behind),
      );
}
  where
    later_place : (x y z : List ℕ) → Stands run text x y z → n ≤ length x
    later_place x y z s =
        let at = at_place run text x y z h s in
        let here : length x < n → ⊥ = λ less. none (length x) less (subst (IsLike run) at.here s.like) in
        omega (arith, here)

pub found_none : (run text : List ℕ) (n : ℕ) → IsRun run → length text < n + length run → IsNotBefore run text n
    → IsBehindFirst run text None
found_none run text n h short none x y z s =
    let at = at_place run text x y z h s in
    none (length x) (omega (arith, at.fits)) (subst (IsLike run) at.here s.like)

-- ---- what slices of the text are

pub cut_place : (run text : List ℕ) (n : ℕ) → IsLike run (take (n + length run - n) (drop n text))
    → IsLike run (place text n (length run))
cut_place run text n = subst (λ (m : ℕ). IsLike run (take m (drop n text))) (omega arith)

pub cut_rest : (text : List ℕ) (n : ℕ) → take (length text - n) (drop n text) ≡ drop n text
cut_rest text n = ap (λ (m : ℕ). take m (drop n text)) (sym (length-drop n text)) ∙ take_all (length (drop n text)) (drop n text) (omega arith)
