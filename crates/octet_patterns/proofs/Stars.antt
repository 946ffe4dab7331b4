-- Texts that are like a pattern with "*".
use Rattle.std.proofs.Common.{◌≡◌, ℕ, ◌≤◌, ◌-◌, List, [], ◌∷◌, ◌++◌, None, Some, length, take, drop}
use Rattle.std.proofs.Common.{refl, ap, sym, subst, ◌∙◌, inl, arith, append_assoc}
use Rattle.std.specs.Prelude.{◌↔◌}
use Rattle.std.specs.List.{IsSplitAt}
use Rattle.std.proofs.Math.Seq.{drop-append_seam, take-append_seam}
use Rattle.std.proofs.lemmas.List.{length-append, take-append-drop}
use Rattle.octet_patterns.specs.Globs.{IsBehindFirst, IsLike, IsPartedAt, IsRun, Stands, StandsFirst}
use Rattle.octet_patterns.proofs.Places.{cut_rest}
use Rattle.octet_patterns.proofs.Runs.{run_length}

-- a text that is like two patterns, one behind the other
record Parts (p q text : List ℕ) : Type 0 where
  front : List ℕ
  behind : List ℕ
  parts : text ≡ front ++ behind
  like : IsLike p front
  like_behind : IsLike q behind

pub joined : (p q x y : List ℕ) → IsLike p x → IsLike q y → IsLike (p ++ q) (x ++ y)
joined [] q x y h k = subst (λ (t : List ℕ). IsLike q (t ++ y)) (sym h) k
joined (c ∷ p) q x y (a, b, e, piece, like) k =
    (a, b ++ y, ap (λ (t : List ℕ). t ++ y) e ∙ append_assoc a b y, piece, joined p q b y like k)

parted : (p q text : List ℕ) → IsLike (p ++ q) text → Parts p q text
parted [] q text h = record { front = []; behind = text; parts = refl; like = refl; like_behind = h }
parted (c ∷ p) q text (a, b, e, piece, like) =
    let rest = parted p q b like in
    record {
      front = a ++ rest.front;
      behind = rest.behind;
      parts = e ∙ ap (λ (t : List ℕ). a ++ t) rest.parts ∙ sym (append_assoc a rest.front rest.behind);
      like = (a, rest.front, refl, piece, rest.like);
      like_behind = rest.like_behind;
    }

-- "*" stands for more octets too
star_more : (q x y : List ℕ) → IsLike (42 ∷ q) y → IsLike (42 ∷ q) (x ++ y)
star_more q x y (a, b, e, piece, like) =
    (x ++ a, b, ap (λ (t : List ℕ). x ++ t) e ∙ sym (append_assoc x a b), inl refl, like)

-- ---- a run between two "*"

pub star_run : (run q text rest : List ℕ) → StandsFirst run text rest
    → IsLike (42 ∷ (run ++ 42 ∷ q)) text ↔ IsLike (42 ∷ q) rest
star_run run q text rest h = (λ l. goes l, λ l. comes l)
  where
    goes : IsLike (42 ∷ (run ++ 42 ∷ q)) text → IsLike (42 ∷ q) rest
    goes (x, y, e, piece, like) =
        let two = parted run (42 ∷ q) y like in
        let stands : Stands run text x two.front two.behind = record {
          parts = e ∙ ap (λ (t : List ℕ). x ++ t) two.parts ∙ sym (append_assoc x two.front two.behind);
          like = two.like;
        } in
        let more = h.first x two.front two.behind stands in
        subst (IsLike (42 ∷ q)) (sym more.1) (star_more q more.0 two.behind two.like_behind)

    comes : IsLike (42 ∷ q) rest → IsLike (42 ∷ (run ++ 42 ∷ q)) text
    comes l = (
      h.before,
      h.here ++ rest,
      h.stands.parts ∙ append_assoc h.before h.here rest,
      inl refl,
      joined run (42 ∷ q) h.here rest h.stands.like l,
    )

pub star_none : (run q text : List ℕ) → IsBehindFirst run text None → ¬ (IsLike (42 ∷ (run ++ 42 ∷ q)) text)
star_none run q text none (x, y, e, piece, like) =
    let two = parted run (42 ∷ q) y like in
    none x two.front two.behind (record {
      parts = e ∙ ap (λ (t : List ℕ). x ++ t) two.parts ∙ sym (append_assoc x two.front two.behind);
      like = two.like;
    })

-- ---- a run at the end

pub star_end : (run text : List ℕ) → IsRun run → length run ≤ length text
    → IsLike run (drop (length text - length run) text) ↔ IsLike (42 ∷ run) text
star_end run text h fits = (
  λ l. (
    take (length text - length run) text,
    drop (length text - length run) text,
    sym (take-append-drop (length text - length run) text),
    inl refl,
    l,
  ),
  λ l. goes l,
)
  where
    goes : IsLike (42 ∷ run) text → IsLike run (drop (length text - length run) text)
    goes (x, y, e, piece, like) =
        let at : length x ≡ length text - length run =
        omega (arith, ap length e, length-append x y, run_length run y h like) in
        subst (IsLike run) (sym (drop-append_seam x y) ∙ ap (drop (length x)) (sym e)
        ∙ ap (λ (n : ℕ). drop n text) at) like

pub star_short : (run text : List ℕ) → IsRun run → IsLike (42 ∷ run) text → length run ≤ length text
star_short run text h (x, y, e, piece, like) =
    omega (arith, ap length e, length-append x y, run_length run y h like)

-- ---- a run at the front

pub run_star : (run q text : List ℕ) → IsRun run → IsLike run (take (length run) text)
    → IsLike (42 ∷ q) (drop (length run) text) → IsLike (run ++ 42 ∷ q) text
run_star run q text h like rest =
    subst (IsLike (run ++ 42 ∷ q)) (take-append-drop (length run) text)
    (joined run (42 ∷ q) (take (length run) text) (drop (length run) text) like rest)

-- what a text that is like it has
pub record IsFront (run q text : List ℕ) : Type 0 where
  pub fits : length run ≤ length text
  pub like : IsLike run (take (length run) text)
  pub rest : IsLike (42 ∷ q) (drop (length run) text)

pub fronted : (run q text : List ℕ) → IsRun run → IsLike (run ++ 42 ∷ q) text → IsFront run q text
fronted run q text h l =
    let two = parted run (42 ∷ q) text l in
    let long = run_length run two.front h two.like in
    record {
      fits = omega (arith, long, ap length two.parts, length-append two.front two.behind);
      like = subst (IsLike run) (sym (take-append_seam two.front two.behind) ∙ ap (take (length two.front)) (sym two.parts)
          ∙ ap (λ (n : ℕ). take n text) long) two.like;
      rest = subst (IsLike (42 ∷ q)) (sym (drop-append_seam two.front two.behind)
          ∙ ap (drop (length two.front)) (sym two.parts) ∙ ap (λ (n : ℕ). drop n text) long) two.like_behind;
    }

-- ---- the steps of a search

pub star_step : (p run rest text behind : List ℕ) → IsPartedAt p (Some (run, rest))
    → (IsRun run → IsBehindFirst run text (Some behind)) → IsLike (42 ∷ p) text ↔ IsLike (42 ∷ rest) behind
star_step p run rest text behind h found =
    let step = star_run run rest text behind (found h.0) in (
      λ l. step.0 (subst (λ (q : List ℕ). IsLike (42 ∷ q) text) h.1 l),
      λ l. subst (λ (q : List ℕ). IsLike (42 ∷ q) text) (sym h.1) (step.1 l),
    )

pub star_stop : (p run rest text : List ℕ) → IsPartedAt p (Some (run, rest)) → (IsRun run → IsBehindFirst run text None)
    → ¬ (IsLike (42 ∷ p) text)
star_stop p run rest text h none l =
    star_none run rest text (none h.0) (subst (λ (q : List ℕ). IsLike (42 ∷ q) text) h.1 l)

pub star_last : (run text : List ℕ) (n : ℕ) (Q : Type 0) → IsRun run → length run ≤ length text
    → n ≡ length text - length run → Q ↔ IsLike run (take (length text - n) (drop n text)) → Q ↔ IsLike (42 ∷ run) text
star_last run text n Q h fits at test =
    let same : drop (length text - length run) text ≡ take (length text - n) (drop n text) =
    ap (λ (k : ℕ). drop k text) (sym at) ∙ sym (cut_rest text n) in
    let last = star_end run text h fits in (
      λ q. last.0 (subst (IsLike run) (sym same) (test.0 q)),
      λ l. test.1 (subst (IsLike run) same (last.1 l)),
    )

pub whole_like : (p run rest text front behind : List ℕ) → IsPartedAt p (Some (run, rest))
    → IsSplitAt text (length run) front behind → IsLike run front → IsLike (42 ∷ rest) behind → IsLike p text
whole_like p run rest text front behind h split like more =
    subst (λ (q : List ℕ). IsLike q text) (sym h.1)
    (run_star run rest text h.0 (subst (IsLike run) split.1 like)
    (subst (IsLike (42 ∷ rest)) split.2 more))

pub like_whole : (p run rest text : List ℕ) → IsPartedAt p (Some (run, rest)) → IsLike p text → IsFront run rest text
like_whole p run rest text h l = fronted run rest text h.0 (subst (λ (q : List ℕ). IsLike q text) h.1 l)
