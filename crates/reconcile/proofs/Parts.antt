-- Facts on the ranges of parts.
use Rattle.std.proofs.Common.{List, [], ◌∷◌, ◌++◌, inl, inr, sym, subst}
use Rattle.std.specs.Prelude.{◌⊎◌, Option, None, Some}
use Rattle.archive_text.specs.Entries.{Entry, IsBelow}
use Rattle.archive_text.proofs.Orders.{below_transitive}
use Rattle.archive_text.proofs.Members.{all_append}
use Rattle.reconcile.specs.Ranges.{AreAllProper, AreApart, AreWithin, Chain, Covers, IsInside, IsProper, IsUnder}
use Rattle.reconcile.specs.Requests.{AreCuts, IsCut, joined}
use Rattle.reconcile.specs.declared.range.Range.{Range}
use Rattle.reconcile.specs.declared.part.Part.{Part}
use Rattle.reconcile.proofs.Sets.{under_cases}

-- ---- parts behind others

pub covers_left : (ps qs : List Part) (x : Entry) → Covers ps x → Covers (ps ++ qs) x
covers_left [] qs x h = absurd h
covers_left (p ∷ ps) qs x (inl i) = inl i
covers_left (p ∷ ps) qs x (inr c) = inr (covers_left ps qs x c)

pub covers_right : (ps qs : List Part) (x : Entry) → Covers qs x → Covers (ps ++ qs) x
covers_right [] qs x h = h
covers_right (p ∷ ps) qs x h = inr (covers_right ps qs x h)

pub covers_either : (ps qs : List Part) (x : Entry) → Covers (ps ++ qs) x → Covers ps x ⊎ Covers qs x
covers_either [] qs x h = inr h
covers_either (p ∷ ps) qs x (inl i) = inl (inl i)
covers_either (p ∷ ps) qs x (inr c) = elim (covers_either ps qs x c) [ inl l ↦ inl (inr l) | inr r ↦ inr r ]

pub apart_append : (ps qs : List Part) → AreApart ps → AreApart qs → ((x : Entry) → Covers ps x → ¬ (Covers qs x))
    → AreApart (ps ++ qs)
apart_append [] qs h k d = k
apart_append (p ∷ ps) qs h k d = (
  λ x i c. elim (covers_either ps qs x c) [ inl l ↦ h.0 x i l | inr r ↦ d x (inl i) r ],
  apart_append ps qs h.1 k (λ x c. d x (inr c)),
)

pub apart_left : (ps qs : List Part) → AreApart (ps ++ qs) → AreApart ps
apart_left [] qs h = tt
apart_left (p ∷ ps) qs h = (λ x i c. h.0 x i (covers_left ps qs x c), apart_left ps qs h.1)

pub apart_right : (ps qs : List Part) → AreApart (ps ++ qs) → AreApart qs
apart_right [] qs h = h
apart_right (p ∷ ps) qs h = apart_right ps qs h.1

pub apart_across : (ps qs : List Part) → AreApart (ps ++ qs) → (x : Entry) → Covers ps x → ¬ (Covers qs x)
apart_across [] qs h x c d = absurd c
apart_across (p ∷ ps) qs h x (inl i) d = h.0 x i (covers_right ps qs x d)
apart_across (p ∷ ps) qs h x (inr c) d = apart_across ps qs h.1 x c d

-- ---- chains

pub under_lower : (h : Option Entry) (x y : Entry) → IsUnder h y → IsBelow x y → IsUnder h x
under_lower None x y u b = tt
under_lower (Some h) x y u b = below_transitive x y h b u

-- what is below where a chain begins is below where it ends
pub chain_under : (from to : Option Entry) (ps : List Part) → Chain from to ps → (x : Entry) → IsUnder from x
    → IsUnder to x
chain_under from to [] h x u = subst (λ e. IsUnder e x) (sym h) u
chain_under from to (p ∷ ps) h x u =
    let low : IsBelow x p.range.low = subst (λ e. IsUnder e x) h.0 u in
    chain_under p.range.high to ps h.2 x (under_lower p.range.high x p.range.low h.1 low)

-- and is not covered
pub chain_low : (from to : Option Entry) (ps : List Part) → Chain from to ps → (x : Entry) → IsUnder from x
    → ¬ (Covers ps x)
chain_low from to [] h x u c = c
chain_low from to (p ∷ ps) h x u c =
    let low : IsBelow x p.range.low = subst (λ e. IsUnder e x) h.0 u in
    elim c [
      | inl i ↦ i.0 low
      | inr k ↦ chain_low p.range.high to ps h.2 x (under_lower p.range.high x p.range.low h.1 low) k
    ]

pub chain_high : (from to : Option Entry) (ps : List Part) → Chain from to ps → (x : Entry) → Covers ps x → IsUnder to x
chain_high from to [] h x c = absurd c
chain_high from to (p ∷ ps) h x (inl i) = chain_under p.range.high to ps h.2 x i.1
chain_high from to (p ∷ ps) h x (inr c) = chain_high p.range.high to ps h.2 x c

-- a chain covers all from its first bound on and below its last one
pub chain_covers : (from to : Option Entry) (ps : List Part) → Chain from to ps → (x : Entry) → ¬ (IsUnder from x)
    → IsUnder to x → Covers ps x
chain_covers from to [] h x low u = absurd (low (subst (λ e. IsUnder e x) h u))
chain_covers from to (p ∷ ps) h x low u =
    elim (under_cases p.range.high x) [
      | inl under ↦ inl (subst (λ e. ¬ (IsUnder e x)) h.0 low, under)
      | inr over ↦ inr (chain_covers p.range.high to ps h.2 x over u)
    ]

pub chain_within : (r : Range) (ps : List Part) → Chain (Some r.low) r.high ps → AreWithin r ps
chain_within r ps h x c = (λ low. chain_low (Some r.low) r.high ps h x low c, chain_high (Some r.low) r.high ps h x c)

pub chain_apart : (from to : Option Entry) (ps : List Part) → Chain from to ps → AreApart ps
chain_apart from to [] h = tt
chain_apart from to (p ∷ ps) h = (
  λ x i c. chain_low p.range.high to ps h.2 x i.1 c,
  chain_apart p.range.high to ps h.2,
)

pub chain_proper : (from to : Option Entry) (ps : List Part) → Chain from to ps → AreAllProper ps
chain_proper from to [] h = tt
chain_proper from to (p ∷ ps) h = (h.1, chain_proper p.range.high to ps h.2)

-- ---- finer parts

pub cut_inside : (p : Part) (c : List Part) → IsCut p c → (x : Entry) → Covers c x → IsInside p.range x
cut_inside p c h x k = (
  λ low. chain_low (Some p.range.low) p.range.high c h.chain x low k,
  chain_high (Some p.range.low) p.range.high c h.chain x k,
)

pub cut_covers : (p : Part) (c : List Part) → IsCut p c → (x : Entry) → IsInside p.range x → Covers c x
cut_covers p c h x i = chain_covers (Some p.range.low) p.range.high c h.chain x i.0 i.1

pub cuts_inside : (ps : List Part) (cs : List (List Part)) → AreCuts ps cs → (x : Entry) → Covers (joined cs) x
    → Covers ps x
cuts_inside [] [] h x k = absurd k
cuts_inside [] (c ∷ cs) h x k = absurd h
cuts_inside (p ∷ ps) [] h x k = absurd h
cuts_inside (p ∷ ps) (c ∷ cs) h x k =
    elim (covers_either c (joined cs) x k) [
      | inl here ↦ inl (cut_inside p c h.0 x here)
      | inr more ↦ inr (cuts_inside ps cs h.1 x more)
    ]

pub cuts_cover : (ps : List Part) (cs : List (List Part)) → AreCuts ps cs → (x : Entry) → Covers ps x
    → Covers (joined cs) x
cuts_cover [] [] h x k = absurd k
cuts_cover [] (c ∷ cs) h x k = absurd h
cuts_cover (p ∷ ps) [] h x k = absurd h
cuts_cover (p ∷ ps) (c ∷ cs) h x (inl i) = covers_left c (joined cs) x (cut_covers p c h.0 x i)
cuts_cover (p ∷ ps) (c ∷ cs) h x (inr k) = covers_right c (joined cs) x (cuts_cover ps cs h.1 x k)

pub cuts_apart : (ps : List Part) (cs : List (List Part)) → AreCuts ps cs → AreApart ps → AreApart (joined cs)
cuts_apart [] [] h k = tt
cuts_apart [] (c ∷ cs) h k = absurd h
cuts_apart (p ∷ ps) [] h k = absurd h
cuts_apart (p ∷ ps) (c ∷ cs) h k =
    apart_append c (joined cs) (chain_apart (Some p.range.low) p.range.high c h.0.chain) (cuts_apart ps cs h.1 k.1)
    (λ x here more. k.0 x (cut_inside p c h.0 x here) (cuts_inside ps cs h.1 x more))

pub cuts_proper : (ps : List Part) (cs : List (List Part)) → AreCuts ps cs → AreAllProper (joined cs)
cuts_proper [] [] h = tt
cuts_proper [] (c ∷ cs) h = absurd h
cuts_proper (p ∷ ps) [] h = absurd h
cuts_proper (p ∷ ps) (c ∷ cs) h =
    all_append (λ (q : Part). IsProper q.range) c (joined cs)
    (chain_proper (Some p.range.low) p.range.high c h.0.chain) (cuts_proper ps cs h.1)
