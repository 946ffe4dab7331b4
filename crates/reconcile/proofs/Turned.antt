-- Facts on parts in the reverse order.
use Rattle.std.proofs.Common.{◌≡◌, List, [], ◌∷◌, ◌++◌, inl, inr, refl, sym, ap, subst, arith, reverse}
use Rattle.std.specs.List.{AllByRecursion}
use Rattle.std.proofs.lemmas.List.{reverse-append, reverse-reverse}
use Rattle.archive_text.specs.Entries.{Entry}
use Rattle.archive_text.proofs.Members.{all_append, all_left, all_right}
use Rattle.reconcile.specs.Ranges.{AreApart, AreWithin, Covers, IsProper, IsTold}
use Rattle.reconcile.specs.Reconciling.{Going}
use Rattle.reconcile.specs.Requests.{allowance}
use Rattle.reconcile.specs.declared.range.Range.{Range}
use Rattle.reconcile.specs.declared.part.Part.{Part}
use Rattle.reconcile.proofs.Costs.{costs_cons, costs_last}
use Rattle.reconcile.proofs.Parts.{apart_across, apart_append, apart_left, apart_right, covers_either, covers_left}
use Rattle.reconcile.proofs.Parts.{covers_right}
use Rattle.reconcile.proofs.Turns.{going_alike}

turned : (p : Part) (ps : List Part) → reverse (p ∷ ps) ≡ reverse ps ++ p ∷ []
turned p ps = reverse-append (p ∷ []) ps

pub all_turned : (P : Part → Type 0) (ps : List Part) → AllByRecursion P ps → AllByRecursion P (reverse ps)
all_turned P [] h = tt
all_turned P (p ∷ ps) h =
    subst (AllByRecursion P) (sym (turned p ps))
    (all_append P (reverse ps) (p ∷ []) (all_turned P ps h.1) (h.0, tt))

pub costs_turned : (ps : List Part) → allowance (reverse ps) ≡ allowance ps
costs_turned [] = refl
costs_turned (p ∷ ps) =
    let more = costs_turned ps in
    let last = ap allowance (turned p ps) in
    omega (arith, last, more, costs_last (reverse ps) p, costs_cons p ps)

covers_turned : (ps : List Part) (x : Entry) → Covers ps x → Covers (reverse ps) x
covers_turned [] x c = c
covers_turned (p ∷ ps) x c =
    subst (λ l. Covers l x) (sym (turned p ps)) (elim c [
      | inl i ↦ covers_right (reverse ps) (p ∷ []) x (inl i)
      | inr k ↦ covers_left (reverse ps) (p ∷ []) x (covers_turned ps x k)
    ])

turned_covers : (ps : List Part) (x : Entry) → Covers (reverse ps) x → Covers ps x
turned_covers ps x c = subst (λ l. Covers l x) (reverse-reverse ps) (covers_turned (reverse ps) x c)

apart_turned : (ps : List Part) → AreApart ps → AreApart (reverse ps)
apart_turned [] h = tt
apart_turned (p ∷ ps) h =
    subst AreApart (sym (turned p ps))
    (apart_append (reverse ps) (p ∷ []) (apart_turned ps h.1) ((λ x i c. c), tt)
    (λ x c d. elim d [ inl i ↦ h.0 x i (turned_covers ps x c) | inr none ↦ none ]))

-- ---- pending parts, and those that were taken from their end

covers_each : (ps qs rs qs' rs' : List Part) → ((x : Entry) → Covers qs x → Covers qs' x)
    → ((x : Entry) → Covers rs x → Covers rs' x) → (x : Entry) → Covers (ps ++ (qs ++ rs)) x
    → Covers (ps ++ (qs' ++ rs')) x
covers_each ps qs rs qs' rs' h k x c =
    elim (covers_either ps (qs ++ rs) x c) [
      | inl l ↦ covers_left ps (qs' ++ rs') x l
      | inr m ↦ covers_right ps (qs' ++ rs') x (elim (covers_either qs rs x m) [
        | inl q ↦ covers_left qs' rs' x (h x q)
        | inr r ↦ covers_right qs' rs' x (k x r)
      ])
    ]

there_turned : (ps qs rs : List Part) (x : Entry) → Covers (ps ++ (qs ++ rs)) x
    → Covers (ps ++ (reverse qs ++ reverse rs)) x
there_turned ps qs rs x c =
    covers_each ps qs rs (reverse qs) (reverse rs) (covers_turned qs) (covers_turned rs) x c

back_turned : (ps qs rs : List Part) (x : Entry) → Covers (ps ++ (reverse qs ++ reverse rs)) x
    → Covers (ps ++ (qs ++ rs)) x
back_turned ps qs rs x c =
    covers_each ps (reverse qs) (reverse rs) qs rs (turned_covers qs) (turned_covers rs) x c

pub within_turned : (r : Range) (ps qs rs : List Part) → AreWithin r (ps ++ (qs ++ rs))
    → AreWithin r (ps ++ (reverse qs ++ reverse rs))
within_turned r ps qs rs w x c = w x (back_turned ps qs rs x c)

each_turned : (P : Part → Type 0) (ps qs rs : List Part) → AllByRecursion P (ps ++ (qs ++ rs))
    → AllByRecursion P (ps ++ (reverse qs ++ reverse rs))
each_turned P ps qs rs h =
    let k = all_right P ps (qs ++ rs) h in
    all_append P ps (reverse qs ++ reverse rs) (all_left P ps (qs ++ rs) h)
    (all_append P (reverse qs) (reverse rs) (all_turned P qs (all_left P qs rs k))
    (all_turned P rs (all_right P qs rs k)))

both_apart : (qs rs : List Part) → AreApart (qs ++ rs) → AreApart (reverse qs ++ reverse rs)
both_apart qs rs h =
    apart_append (reverse qs) (reverse rs) (apart_turned qs (apart_left qs rs h))
    (apart_turned rs (apart_right qs rs h))
    (λ x c d. apart_across qs rs h x (turned_covers qs x c) (turned_covers rs x d))

each_apart : (ps qs rs : List Part) → AreApart (ps ++ (qs ++ rs)) → AreApart (ps ++ (reverse qs ++ reverse rs))
each_apart ps qs rs h =
    apart_append ps (reverse qs ++ reverse rs) (apart_left ps (qs ++ rs) h)
    (both_apart qs rs (apart_right ps (qs ++ rs) h))
    (λ x c d. apart_across ps (qs ++ rs) h x c (elim (covers_either (reverse qs) (reverse rs) x d) [
      | inl q ↦ covers_left qs rs x (turned_covers qs x q)
      | inr r ↦ covers_right qs rs x (turned_covers rs x r)
    ]))

pub going_turned : (r : Range) (a b own held : List Entry) (ps qs rs : List Part)
    → Going r a b own held (ps ++ (qs ++ rs))
    → Going r a b own held (ps ++ (reverse qs ++ reverse rs))
going_turned r a b own held ps qs rs g =
    going_alike r a b own held (ps ++ (qs ++ rs)) (ps ++ (reverse qs ++ reverse rs)) g (each_apart ps qs rs g.apart)
    (each_turned (λ (p : Part). IsProper p.range) ps qs rs g.proper) (each_turned (IsTold b) ps qs rs g.told)
    (there_turned ps qs rs) (back_turned ps qs rs)
