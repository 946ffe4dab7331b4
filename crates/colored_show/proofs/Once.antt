-- A text is painted in one way.
use Rattle.std.proofs.Common.{◌≡◌, ◌++◌, ℕ, List, [], ◌∷◌, ap, ap₂, refl, sym, subst, ◌∙◌}
use Rattle.std.specs.List.{AllByRecursion, flat_map}
use Rattle.syslog_frame.specs.Frames.{IsLine}
use Rattle.syslog_value.specs.declared.severity.Severity.{Severity}
use Rattle.colored_show.specs.Painting.{IsPainted, ended_line, painted_line}

-- lines that end at the first line feed of one text are one line
ended : (l m r q : List ℕ) → IsLine l → IsLine m → l ++ 10 ∷ r ≡ m ++ 10 ∷ q → (l ≡ m) × (r ≡ q)
ended [] [] r q h k e =
    let rest : r ≡ q = cc in
    (refl, rest)
ended [] (y ∷ m) r q h (other, k) e =
    let first : y ≡ 10 = cc in
    absurd (other first)
ended (x ∷ l) [] r q (other, h) k e =
    let first : x ≡ 10 = cc in
    absurd (other first)
ended (x ∷ l) (y ∷ m) r q (other, h) (another, k) e =
    let first : x ≡ y = cc in
    let behind : l ++ 10 ∷ r ≡ m ++ 10 ∷ q = cc in
    let (line, rest) = ended l m r q h k behind in
    (ap₂ (λ (z : ℕ) (zs : List ℕ). z ∷ zs) first line, rest)

-- a line has no line feed
apart : (r m q : List ℕ) → IsLine r → r ≡ m ++ 10 ∷ q → ⊥
apart [] [] q h e = cc
apart [] (y ∷ m) q h e = cc
apart (x ∷ r) [] q (other, h) e =
    let first : x ≡ 10 = cc in
    other first
apart (x ∷ r) (y ∷ m) q (other, h) e =
    let behind : r ≡ m ++ 10 ∷ q = cc in
    apart r m q h behind

first_line : (m f q : List ℕ) → ((m ++ 10 ∷ []) ++ f) ++ q ≡ m ++ 10 ∷ (f ++ q)
first_line [] f q = refl
first_line (x ∷ m) f q = ap (λ (zs : List ℕ). x ∷ zs) (first_line m f q)

pieces : (ls ms : List (List ℕ)) (r q : List ℕ) → AllByRecursion IsLine ls → IsLine r → AllByRecursion IsLine ms
    → IsLine q → flat_map ended_line ls ++ r ≡ flat_map ended_line ms ++ q → (ls ≡ ms) × (r ≡ q)
pieces [] [] r q hls hr hms hq e = (refl, e)
pieces [] (m ∷ ms) r q hls hr (hm, hms) hq e =
    absurd (apart r m (flat_map ended_line ms ++ q) hr (e ∙ first_line m (flat_map ended_line ms) q))
pieces (l ∷ ls) [] r q (hl, hls) hr hms hq e =
    absurd (apart q l (flat_map ended_line ls ++ r) hq (sym e ∙ first_line l (flat_map ended_line ls) r))
pieces (l ∷ ls) (m ∷ ms) r q (hl, hls) hr (hm, hms) hq e =
    let (line, later) = ended l m (flat_map ended_line ls ++ r) (flat_map ended_line ms ++ q) hl hm
    (sym (first_line l (flat_map ended_line ls) r) ∙ e ∙ first_line m (flat_map ended_line ms) q) in
    let (lines, rest) = pieces ls ms r q hls hr hms hq later in
    (ap₂ (λ (z : List ℕ) (zs : List (List ℕ)). z ∷ zs) line lines, rest)

pub painted_once : (s : Severity) (text a b : List ℕ) → IsPainted s text a → IsPainted s text b → a ≡ b
painted_once s text a b p q =
    let (lines, rest) = pieces p.lines q.lines p.rest q.rest p.each p.last q.each q.last (sym p.text_is ∙ q.text_is) in
    p.painted_is ∙ ap₂ (λ (ls : List (List ℕ)) (r : List ℕ). flat_map (painted_line s) ls ++ r) lines rest
    ∙ sym q.painted_is

-- the same, of severities and texts that are equal
pub painted_same : (s t : Severity) (x y a b : List ℕ) → s ≡ t → x ≡ y → IsPainted s x a → IsPainted t y b → a ≡ b
painted_same s t x y a b severity text p q =
    let of_s : IsPainted s y b = subst (λ (z : Severity). IsPainted z y b) (sym severity) q in
    let of_x : IsPainted s x b = subst (λ (z : List ℕ). IsPainted s z b) (sym text) of_s in
    painted_once s x a b p of_x
