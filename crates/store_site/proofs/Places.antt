-- Facts on the first places of instants, and on ranges of time.
use Rattle.std.proofs.Common.{◌≡◌, ◌∙◌, ap, arith, List, [], ◌∷◌, ◌++◌, inl, inr, refl, sym, subst}
use Rattle.std.specs.Prelude.{◌⊎◌, ◌↔◌, ℤ, pos, neg_ℤ, ◌<ℤ◌, ◌≤ℤ◌, Bool, true, false, Option, None, Some, IfSome}
use Rattle.std.specs.List.{AllByRecursion}
use Rattle.std.proofs.lemmas.Int.{ints}
use Rattle.syslog_value.specs.Parts.{IsInstant}
use Rattle.archive_text.specs.Entries.{Entry, InstantBelow, IsBelow, IsEntry}
use Rattle.archive_text.proofs.Members.{all_append}
use Rattle.archive_text.proofs.Orders.{below_total, below_transitive, instant_total}
use Rattle.archive_sets.specs.Conditions.{IsInRange}
use Rattle.reconcile.specs.Ranges.{IsInside, IsProper, IsUnder}
use Rattle.reconcile.specs.declared.range.Range.{Range}
use Rattle.store_site.specs.Ranges.{AreAllProper, IsBetween, IsInSome, StartsAt}

abbrev pub first_at : Option ℤ → Entry
first_at i = record { instant = i; octets = [] }

abbrev pub between : Entry → Option Entry → Range
between low high = record { low = low; high = high }

-- below the first place of an instant is what has an earlier one, or none
below_first : (e : Entry) (i : Option ℤ) → IsBelow e (first_at i) ↔ InstantBelow e.instant i
below_first e i = (λ b. elim b [ inl lower ↦ lower | inr same ↦ absurd same.1 ], λ b. inl b)

below_none : (i : Option ℤ) → ¬ (InstantBelow i None)
below_none None h = h
below_none (Some i) h = h

pub above_first : (e : Entry) → ¬ (IsBelow e (first_at None))
above_first e b = below_none e.instant ((below_first e None).0 b)

-- the instant of an entry is one of the years 0 to 9999
entry_instant : (e : Entry) → IsEntry e → IfSome e.instant IsInstant
entry_instant e h = subst (λ i. IfSome i IsInstant) (sym h.1.instant) h.1.valid.time

-- ---- records without a time

none_below : (i : Option ℤ) → IfSome i IsInstant
    → InstantBelow i (Some (neg_ℤ (pos 62_167_219_200_000_000))) ↔ (i ≡ None)
none_below None h = (λ b. refl, λ e. tt)
none_below (Some j) h = (
  λ b. let less : j <ℤ neg_ℤ (pos 62_167_219_200_000_000) = b in
      let low : neg_ℤ (pos 62_167_219_200_000_000) ≤ℤ j = h.0 in
      absurd (omega (arith, ints, less, low)),
  λ e. cc,
)

pub undated_inside : (high : Option Entry) → high ≡ Some (first_at (Some (neg_ℤ (pos 62_167_219_200_000_000))))
    → (e : Entry) → IsEntry e → IsInside (between (first_at None) high) e ↔ (e.instant ≡ None)
undated_inside high is e h =
    let i = e.instant in
    let under = none_below i (entry_instant e h) in (
      λ m. under.0 ((below_first e _).0 (subst (λ l. IsUnder l e) is m.1)),
      λ m. (above_first e, subst (λ l. IsUnder l e) (sym is) ((below_first e _).1 (under.1 m))),
    )

-- ---- records with a time

not_less : (j f : ℤ) → ¬ (j <ℤ f) → f ≤ℤ j
not_less j f not =
    elim (instant_total (Some j) (Some f)) [
      | inl less ↦ absurd (not less)
      | inr (inl same) ↦ let e : j ≡ f = cc in omega (arith, ints, e)
      | inr (inr more) ↦ let above : f <ℤ j = more in omega (arith, ints, above)
    ]

from_instant : (from start i : Option ℤ) → StartsAt from start → IfSome i IsInstant
    → ¬ (InstantBelow i start) → (to : Option ℤ) → IfSome to (λ (t : ℤ). InstantBelow i (Some t))
    → IsBetween from to i
from_instant None start None s h above to under = absurd (above (rw s tt))
from_instant (Some f) start None s h above to under = absurd (above (rw s tt))
from_instant None start (Some j) s h above None under = (tt, tt)
from_instant None start (Some j) s h above (Some t) under = (tt, under)
from_instant (Some f) start (Some j) s h above None under =
    let not : ¬ (j <ℤ f) = subst (λ (x : Option ℤ). ¬ (InstantBelow (Some j) x)) s above in
    let low : f ≤ℤ j = not_less j f not in
    (low, tt)
from_instant (Some f) start (Some j) s h above (Some t) under =
    let not : ¬ (j <ℤ f) = subst (λ (x : Option ℤ). ¬ (InstantBelow (Some j) x)) s above in
    let low : f ≤ℤ j = not_less j f not in
    (low, under)

not_below_first : (start : Option ℤ) (j : ℤ) → StartsAt None start → IsInstant j → ¬ (InstantBelow (Some j) start)
not_below_first start j s h b =
    let less : j <ℤ neg_ℤ (pos 62_167_219_200_000_000) = subst (λ (x : Option ℤ). InstantBelow (Some j) x) s b in
    let low : neg_ℤ (pos 62_167_219_200_000_000) ≤ℤ j = h.0 in
    omega (arith, ints, less, low)

not_below_from : (f : ℤ) (start : Option ℤ) (j : ℤ) → StartsAt (Some f) start → f ≤ℤ j
    → ¬ (InstantBelow (Some j) start)
not_below_from f start j s low b =
    let less : j <ℤ f = subst (λ (x : Option ℤ). InstantBelow (Some j) x) s b in
    omega (arith, ints, less, low)

instant_from : (from start i : Option ℤ) → StartsAt from start → IfSome i IsInstant → (to : Option ℤ)
    → IsBetween from to i → (¬ (InstantBelow i start)) × IfSome to (λ (t : ℤ). InstantBelow i (Some t))
instant_from from start None s h to m = absurd m
instant_from None start (Some j) s h None m = (not_below_first start j s h, tt)
instant_from None start (Some j) s h (Some t) m = (not_below_first start j s h, m.1)
instant_from (Some f) start (Some j) s h None m = (not_below_from f start j s m.0, tt)
instant_from (Some f) start (Some j) s h (Some t) m = (not_below_from f start j s m.0, m.1)

-- an upper bound is the first place of an instant
abbrev pub EndsAt : Option ℤ → Option Entry → Type 0
EndsAt None high = high ≡ None
EndsAt (Some t) high = high ≡ Some (first_at (Some t))

under_bound : (to : Option ℤ) (high : Option Entry) (e : Entry) → EndsAt to high
    → IsUnder high e ↔ IfSome to (λ (t : ℤ). InstantBelow e.instant (Some t))
under_bound None high e is = (λ u. tt, λ u. subst (λ l. IsUnder l e) (sym is) tt)
under_bound (Some t) high e is = (
  λ u. (below_first e (Some t)).0 (subst (λ l. IsUnder l e) is u),
  λ u. subst (λ l. IsUnder l e) (sym is) ((below_first e (Some t)).1 u),
)

pub dated_inside : (from start to : Option ℤ) (low : Entry) (high : Option Entry) → StartsAt from start
    → low ≡ first_at start → EndsAt to high → (e : Entry) → IsEntry e
    → IsInside (between low high) e ↔ IsBetween from to e.instant
dated_inside from start to low high s l u e h =
    let i = entry_instant e h in
    let under = under_bound to high e u in (
      λ m. from_instant from start e.instant s i
          (λ b. m.0 (subst (λ x. IsBelow e x) (sym l) ((below_first e start).1 b))) to (under.0 m.1),
      λ m. let t = instant_from from start e.instant s i to m in
          (λ b. t.0 ((below_first e start).0 (subst (λ x. IsBelow e x) l b)), under.1 t.1),
    )

-- ---- one range more

pub some_more : (rs : List Range) (r : Range) (e : Entry) → IsInSome (rs ++ r ∷ []) e ↔ (IsInSome rs e ⊎ IsInside r e)
some_more [] r e = (
  λ m. elim m [ inl here ↦ inr here | inr none ↦ absurd none ],
  λ m. elim m [ inl none ↦ absurd none | inr here ↦ inl here ],
)
some_more (q ∷ rs) r e =
    let more = some_more rs r e in (
      λ m. elim m [
        | inl here ↦ inl (inl here)
        | inr later ↦ elim (more.0 later) [ inl old ↦ inl (inr old) | inr new ↦ inr new ]
      ],
      λ m. elim m [
        | inl old ↦ elim old [ inl here ↦ inl here | inr later ↦ inr (more.1 (inl later)) ]
        | inr new ↦ inr (more.1 (inr new))
      ],
    )

pub proper_more : (rs now : List Range) (r : Range) → now ≡ rs ++ r ∷ [] → IsProper r → AreAllProper rs
    → AreAllProper now
proper_more rs now r is proper all =
    subst AreAllProper (sym is) (all_append IsProper rs (r ∷ []) all (proper, tt))

-- no place is in a range that is not proper
pub none_inside : (r : Range) (e : Entry) → ¬ (IsProper r) → ¬ (IsInside r e)
none_inside r e not m = not (proper_of r.high r.low e m.0 m.1)
  where
    proper_of : (high : Option Entry) (low e : Entry) → ¬ (IsBelow e low) → IsUnder high e → IsUnder high low
    proper_of None low e above under = tt
    proper_of (Some h) low e above under = elim (below_total low e) [
      | inl less ↦ below_transitive low e h less under
      | inr (inl same) ↦ subst (λ x. IsBelow x h) (sym same) under
      | inr (inr more) ↦ absurd (above more)
    ]

pub pushed_places : (rs now : List Range) (r : Range) (e : Entry) (B : Type 0) → now ≡ rs ++ r ∷ []
    → (IsInside r e ↔ B) → IsInSome now e ↔ (IsInSome rs e ⊎ B)
pushed_places rs now r e B is h =
    let more = some_more rs r e in (
      λ m. elim (more.0 (subst (λ l. IsInSome l e) is m)) [ inl old ↦ inl old | inr new ↦ inr (h.0 new) ],
      λ m. subst (λ l. IsInSome l e) (sym is) (more.1 (elim m [ inl old ↦ inl old | inr b ↦ inr (h.1 b) ])),
    )

pub skipped_places : (rs : List Range) (r : Range) (e : Entry) (B : Type 0) → ¬ (IsProper r) → (IsInside r e ↔ B)
    → IsInSome rs e ↔ (IsInSome rs e ⊎ B)
skipped_places rs r e B not h =
    (λ m. inl m, λ m. elim m [ inl old ↦ old | inr b ↦ absurd (none_inside r e not (h.1 b)) ])

pub pushed_first : (rs now : List Range) (r : Range) (e : Entry) (u : Bool) → rs ≡ [] → now ≡ rs ++ r ∷ []
    → (IsInside r e ↔ (e.instant ≡ None)) → u ≡ true
    → IsInSome now e ↔ ((u ≡ true) × (e.instant ≡ None))
pushed_first rs now r e u none is h yes_undated =
    let pushed = pushed_places rs now r e (e.instant ≡ None) is h in (
      λ m. (yes_undated, elim (pushed.0 m) [ inl old ↦ absurd (subst (λ l. IsInSome l e) none old) | inr n ↦ n ]),
      λ m. pushed.1 (inr m.1),
    )

-- ---- the whole

bounded : (from to : Option ℤ) (undated : Bool) (i : Option ℤ) → ¬ ((from ≡ None) × (to ≡ None))
    → (((undated ≡ true) × (i ≡ None)) ⊎ IsBetween from to i) ↔ IsInRange from to undated i
bounded from to undated None not = (
  λ m. elim m [ inl n ↦ inr n.0 | inr none ↦ absurd none ],
  λ m. elim m [ inl whole ↦ absurd (not whole) | inr u ↦ inl (u, refl) ],
)
bounded from to undated (Some i) not = (
  λ m. elim m [ inl n ↦ absurd (cc) | inr b ↦ b ],
  λ m. inr m,
)

pub ranges_bounded : (rs first : List Range) (from to : Option ℤ) (undated : Bool) (e : Entry)
    → ¬ ((from ≡ None) × (to ≡ None)) → (IsInSome first e ↔ ((undated ≡ true) × (e.instant ≡ None)))
    → (IsInSome rs e ↔ (IsInSome first e ⊎ IsBetween from to e.instant))
    → IsInSome rs e ↔ IsInRange from to undated e.instant
ranges_bounded rs first from to undated e not h k =
    let b = bounded from to undated e.instant not in (
      λ m. b.0 (elim (k.0 m) [ inl f ↦ inl (h.0 f) | inr d ↦ inr d ]),
      λ m. k.1 (elim (b.1 m) [ inl f ↦ inl (h.1 f) | inr d ↦ inr d ]),
    )

pub range_open : (from to : Option ℤ) (undated : Bool) (i : Option ℤ) → from ≡ None → to ≡ None
    → IsInRange from to undated i
range_open from to undated None f t = inl (f, t)
range_open from to undated (Some i) f t = rw (f, t) (tt, tt)
