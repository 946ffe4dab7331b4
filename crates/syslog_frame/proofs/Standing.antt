-- What is known of the octets where a scanner is.
use Rattle.std.proofs.Common.{◌≡◌, ℕ, ◌+◌, ◌-◌, ◌<◌, ◌≤◌, List, [], ◌∷◌, ◌++◌, length, take, drop, get_or, refl, sym}
use Rattle.std.proofs.Common.{ap, subst, ◌∙◌, append_assoc, arith}
use Rattle.std.specs.Fmt.{decimal}
use Rattle.std.proofs.lemmas.List.{length-append, length-replicate, take-append-drop, length-take, take_all}
use Rattle.std.specs.Prelude.{replicate}
use Rattle.octet_language.specs.Language.{Begins, IsFaultOffset, NoPrefix}
use Rattle.syslog_frame.specs.Frames.{IsLine, Whole}
use Rattle.syslog_frame.specs.Count.{IsCount, IsRefused}
use Rattle.syslog_frame.specs.Scan.{Holds}
use Rattle.syslog_frame.specs.State.{IsOpen, IsProgress}
use Rattle.syslog_frame.specs.Takes.{Completes, Breaks, GoesOn}
use Rattle.syslog_frame.specs.declared.limits.TheConstants.{COUNT_MAX}
use Rattle.syslog_frame.specs.declared.framing.Framing.{Framing}
use Rattle.syslog_frame.specs.declared.framing.Framing.TheVariants.{Counted, Lf}
use Rattle.syslog_frame.specs.declared.phase.Phase.{Phase}
use Rattle.syslog_frame.specs.declared.phase.Phase.TheVariants.{Counting, Inside, Ended, BadCount, Failed}
use Rattle.octet_language.proofs.Lists.{one_more, not_free}
use Rattle.syslog_frame.proofs.Cuts.{one_taken}
use Rattle.syslog_frame.proofs.Counts.{HasPrefix, Refusal, NoPrefix-count, NoPrefix-refusal, none_begins}
use Rattle.syslog_frame.proofs.Counts.{offset_of_refusal, count_goes_on}
use Rattle.syslog_frame.proofs.FrameLaws.{IsPrefixFree-whole, same_count}

pub HasPrefix-counted : HasPrefix (Whole Counted)
HasPrefix-counted s (f, (a, e)) = (length f, f, a.0, a.1, e)

-- a line begins a frame, and no prefix of it is one
begins_line : (p : List ℕ) → IsLine p → Begins (Whole Lf) p
begins_line p h = (10 ∷ [], (p, (h, refl)))

pub none_in_line : (p : List ℕ) → IsLine p → NoPrefix (Whole Lf) p
none_in_line p h x y e (f, (a, b)) = not_free 10 p f y h (e ∙ ap (λ (u : List ℕ). u ++ y) b ∙ one_more f 10 y)

-- octets after a count, as many as it says or fewer
counted_frame : (n : ℕ) (f : List ℕ) → 0 < n → n ≤ COUNT_MAX → length f ≡ n → Whole Counted (decimal n ++ 32 ∷ f)
counted_frame n f some small e = (
  f,
  (
    (omega (arith, some, e), omega (arith, small, e)),
    ap (λ (k : ℕ). decimal k ++ 32 ∷ f) (sym e),
  ),
)

begins_counted : (n : ℕ) (f p : List ℕ) → 0 < n → n ≤ COUNT_MAX → length f ≤ n → p ≡ decimal n ++ 32 ∷ f
    → Begins (Whole Counted) p
begins_counted n f p some small le e =
    let more : List ℕ = replicate (n - length f) 0 in
    let whole = counted_frame n (f ++ more) some small
    (omega (arith, le, length-append f more, length-replicate {A = ℕ} (n - length f) 0)) in (
      more,
      subst (Whole Counted) (sym (ap (λ (u : List ℕ). u ++ more) e ∙ append_assoc (decimal n) (32 ∷ f) more))
          whole,
    )

begins_count : (c : ℕ) (q : List ℕ) → c ≤ COUNT_MAX → IsCount c q → Begins (Whole Counted) q
begins_count c q small is =
    let g = count_goes_on c q small is in
    let b = begins_counted g.0 [] (q ++ g.1) g.2 g.3 (omega arith) g.4 in
    (g.1 ++ b.0, subst (Whole Counted) (append_assoc q g.1 b.0) b.1)

pub none_inside : (n : ℕ) (r p : List ℕ) → n ≤ COUNT_MAX → length r < n → p ≡ decimal n ++ 32 ∷ r
    → NoPrefix (Whole Counted) p
none_inside n r p small short e x y d (f, (a, b)) =
    let same = same_count n (length f) r (f ++ y) small a.1
    (sym e ∙ d ∙ ap (λ (u : List ℕ). u ++ y) b ∙ append_assoc (decimal (length f)) (32 ∷ f) y) in
    omega (arith, same.0, ap length same.1, length-append f y, short)

-- ---- by phases

pub whole_ended : (most : ℕ) (kind : Framing) (count size : ℕ) (kept p : List ℕ)
    → Holds most kind Ended count size kept p → Whole kind p
whole_ended most Lf count size kept p (line, free, keeps, e) = (line, (free, e))
whole_ended most Counted count size kept p (f, h, all) =
    subst (Whole Counted) (sym h.text) (counted_frame count f h.some h.small (h.keeps.size_is ∙ all))

pub begins_open : (most : ℕ) (kind : Framing) (phase : Phase) (count size : ℕ) (kept p : List ℕ) → IsOpen phase
    → Holds most kind phase count size kept p → Begins (Whole kind) p
begins_open most Lf Inside count size kept p is h = begins_line p h.0
begins_open most Lf Counting count size kept p is h = absurd h
begins_open most Counted Inside count size kept p is (f, h, less) =
    begins_counted count f p h.some h.small (omega (arith, h.keeps.size_is, less)) h.text
begins_open most Counted Counting count size kept p is h = begins_count count p h.0 h.1
begins_open most kind Ended count size kept p is h = absurd is
begins_open most kind BadCount count size kept p is h = absurd is
begins_open most kind Failed count size kept p is h = absurd is

pub none_open : (most : ℕ) (kind : Framing) (phase : Phase) (count size : ℕ) (kept p : List ℕ) → IsOpen phase
    → Holds most kind phase count size kept p → NoPrefix (Whole kind) p
none_open most Lf Inside count size kept p is h = none_in_line p h.0
none_open most Lf Counting count size kept p is h = absurd h
none_open most Counted Inside count size kept p is (f, h, less) =
    none_inside count f p h.small (omega (arith, h.keeps.size_is, less)) h.text
none_open most Counted Counting count size kept p is h =
    NoPrefix-count (Whole Counted) HasPrefix-counted count p h.0 h.1
none_open most kind Ended count size kept p is h = absurd is
none_open most kind BadCount count size kept p is h = absurd is
none_open most kind Failed count size kept p is h = absurd is

-- ---- what was taken

pub completes : (kind : Framing) (p piece : List ℕ) (n : ℕ) → n ≤ length piece → Whole kind (p ++ take n piece)
    → Completes kind p piece n
completes kind p piece n within whole = record { within = within; whole = whole; least = least }
  where
    least : (m : ℕ) → m < n → ¬ (Whole kind (p ++ take m piece))
    least m less early =
        let same = IsPrefixFree-whole kind (p ++ take m piece) (drop m piece) (p ++ take n piece) (drop n piece) early
        whole
        (append_assoc p (take m piece) (drop m piece)
        ∙ ap (λ (u : List ℕ). p ++ u) (take-append-drop m piece ∙ sym (take-append-drop n piece))
        ∙ sym (append_assoc p (take n piece) (drop n piece))) in
        omega (
          arith,
          ap length same,
          length-append p (take m piece),
          length-append p (take n piece),
          length-take m piece,
          length-take n piece,
          less,
          within,
        )

goes_on : (most : ℕ) (kind : Framing) (phase : Phase) (count size : ℕ) (kept p piece : List ℕ) (n : ℕ) → IsOpen phase
    → n ≡ length piece → Holds most kind phase count size kept (p ++ take n piece) → GoesOn kind p piece n
goes_on most kind phase count size kept p piece n is all h =
    let whole : p ++ take n piece ≡ p ++ piece = ap (λ (u : List ℕ). p ++ u) (take_all n piece (omega (arith, all))) in
    record {
      all = all;
      incomplete = subst (NoPrefix (Whole kind)) whole
          (none_open most kind phase count size kept (p ++ take n piece) is h);
      begins = subst (Begins (Whole kind)) whole (begins_open most kind phase count size kept (p ++ take n piece) is h);
    }

-- octets that hold a bad count at this offset: no frame is before them, none begins with them, and each stops there
pub record IsBadRest (kind : Framing) (rest : List ℕ) (n : ℕ) : Type 0 where
  pub incomplete : NoPrefix (Whole kind) rest
  pub none : ¬ (Begins (Whole kind) rest)
  pub offset : IsFaultOffset (Whole kind) rest n

bad_behind : (c x : ℕ) (q more : List ℕ) → IsRefused c x → c ≤ COUNT_MAX → IsCount c q
    → IsBadRest Counted (q ++ x ∷ more) (length q)
bad_behind c x q more refuses small is =
    let r : Refusal c q x = record { small = small; digits = is; refuses = refuses } in
    record {
      incomplete = NoPrefix-refusal (Whole Counted) HasPrefix-counted c x q more (q ++ x ∷ more) r refl;
      none = none_begins (Whole Counted) HasPrefix-counted c x q more (q ++ x ∷ more) r refl;
      offset = offset_of_refusal (Whole Counted) HasPrefix-counted c x q more (q ++ x ∷ more) r
          (begins_count c q small is) refl;
    }

-- after n octets of a piece, before one that the count refuses, whatever comes after that
bad_further : (c : ℕ) (p piece : List ℕ) (n : ℕ) → n < length piece → IsRefused c (get_or piece n 0) → c ≤ COUNT_MAX
    → IsCount c (p ++ take n piece) → (more : List ℕ)
    → IsBadRest Counted ((p ++ take (n + 1) piece) ++ more) (length p + n)
bad_further c p piece n less refuses small is more =
    let q = p ++ take n piece in
    let at : length q ≡ length p + n = omega (arith, length-append p (take n piece), length-take n piece, less) in
    let parts : q ++ get_or piece n 0 ∷ more ≡ (p ++ take (n + 1) piece) ++ more =
    sym (one_more q (get_or piece n 0) more) ∙ ap (λ (u : List ℕ). u ++ more) (sym (one_taken p piece n less)) in
    subst (λ (u : List ℕ). IsBadRest Counted u (length p + n)) parts
    (subst (IsBadRest Counted (q ++ get_or piece n 0 ∷ more)) at
    (bad_behind c (get_or piece n 0) q more refuses small is))

breaks : (c : ℕ) (p piece : List ℕ) (n : ℕ) → n < length piece → IsRefused c (get_or piece n 0) → c ≤ COUNT_MAX
    → IsCount c (p ++ take n piece) → Breaks Counted p piece n
breaks c p piece n less refuses small is =
    let parts : (p ++ take (n + 1) piece) ++ drop (n + 1) piece ≡ p ++ piece =
    append_assoc p (take (n + 1) piece) (drop (n + 1) piece)
    ∙ ap (λ (u : List ℕ). p ++ u) (take-append-drop (n + 1) piece) in
    let b = subst (λ (u : List ℕ). IsBadRest Counted u (length p + n)) parts
    (bad_further c p piece n less refuses small is (drop (n + 1) piece)) in
    record { within = less; incomplete = b.incomplete; none = b.none; offset = b.offset }

-- how much of a piece a scanner takes after p, by the phase in which it is then
abbrev pub TakesIn : Framing → List ℕ → List ℕ → ℕ → Phase → Type 0
TakesIn kind p piece n Ended = Completes kind p piece n
TakesIn kind p piece n BadCount = Breaks kind p piece n
TakesIn kind p piece n Inside = GoesOn kind p piece n
TakesIn kind p piece n Counting = GoesOn kind p piece n
TakesIn kind p piece n Failed = ⊥

pub takes : (most : ℕ) (kind : Framing) (phase : Phase) (count size : ℕ) (kept p piece : List ℕ) (n : ℕ)
    → n ≤ length piece → IsProgress phase count piece n → Holds most kind phase count size kept (p ++ take n piece)
    → TakesIn kind p piece n phase
takes most kind Ended count size kept p piece n within t h =
    completes kind p piece n within (whole_ended most kind count size kept (p ++ take n piece) h)
takes most kind Inside count size kept p piece n within t h = goes_on most kind Inside count size kept p piece n tt t h
takes most kind Counting count size kept p piece n within t h =
    goes_on most kind Counting count size kept p piece n tt t h
takes most Lf BadCount count size kept p piece n within t h = absurd h
takes most Counted BadCount count size kept p piece n within t h = breaks count p piece n t.0 t.1 h.0 h.1
takes most Lf Failed count size kept p piece n within t h = absurd h
takes most Counted Failed count size kept p piece n within t h = absurd h

-- what follows a piece that reached a bad offset
pub bad_rest_in : (most : ℕ) (kind : Framing) (phase : Phase) (count size : ℕ) (kept p piece : List ℕ) (n : ℕ)
    → phase ≡ BadCount → IsProgress phase count piece n → Holds most kind phase count size kept (p ++ take n piece)
    → (more : List ℕ) → IsBadRest kind ((p ++ take (n + 1) piece) ++ more) (length p + n)
bad_rest_in most Counted BadCount count size kept p piece n e t h more =
    bad_further count p piece n t.0 t.1 h.0 h.1 more
bad_rest_in most Lf BadCount count size kept p piece n e t h more = absurd h
bad_rest_in most kind Ended count size kept p piece n e t h more = absurd cc
bad_rest_in most kind Inside count size kept p piece n e t h more = absurd cc
bad_rest_in most kind Counting count size kept p piece n e t h more = absurd cc
bad_rest_in most kind Failed count size kept p piece n e t h more = absurd t

-- after a count and its space
pub inside_empty : (most count : ℕ) (kept p : List ℕ) → 0 < count → count ≤ COUNT_MAX → length kept ≡ 0
    → p ≡ decimal count ++ 32 ∷ [] → Holds most Counted Inside count 0 kept p
inside_empty most count [] p some small empty e =
    ([], record { some = some; small = small; keeps = record { size_is = refl; kept_is = λ _. refl }; text = e }, some)
inside_empty most count (x ∷ kept) p some small empty e = absurd (omega arith)
