-- Facts on one turn of the asker, and on all of them.
use Rattle.std.proofs.Common.{◌≡◌, ◌+◌, ◌*◌, ◌≤◌, lit≤, List, [], ◌∷◌, ◌++◌, Result, Ok, Err, sym, ap}
use Rattle.std.proofs.Common.{◌∙◌, subst, inl, inr, arith, length}
use Rattle.std.specs.Prelude.{◌⊎◌, ◌↔◌, Some}
use Rattle.std.specs.List.{AllByRecursion}
use Rattle.std.proofs.lemmas.List.Sums.{sum_by-cons}
use Rattle.std.proofs.lemmas.Bool.{cases_lt}
use Rattle.archive_text.specs.Entries.{Entry, Has}
use Rattle.archive_text.specs.Text.{IsArchive}
use Rattle.archive_text.specs.declared.limits.TheConstants.{ENTRY_MAX}
use Rattle.archive_text.proofs.Ascending.{same_members}
use Rattle.archive_text.proofs.Members.{all_append, all_left, all_right}
use Rattle.archive_text.proofs.Texts.{same_text}
use Rattle.reconcile.specs.Honest.{Answers, AreParts, ArePartsOf}
use Rattle.reconcile.specs.Ranges.{AreAllProper, AreApart, AreThose, Covers, IsInside, IsProper, IsSumIn}
use Rattle.reconcile.specs.Ranges.{IsSumOf, IsTold}
use Rattle.reconcile.specs.Reconciling.{AreOneAt, AreUnited, Collides, Goes, Going, Settles}
use Rattle.reconcile.specs.Requests.{AreCuts, IsFiner, Refined, allowance, allowed, joined}
use Rattle.reconcile.specs.Unions.{AgreeOn, Between, Settled}
use Rattle.reconcile.specs.declared.range.Range.{Range}
use Rattle.reconcile.specs.declared.sum.Sum.{Sum}
use Rattle.reconcile.specs.declared.part.Part.{Part}
use Rattle.reconcile.specs.declared.stopped.Stopped.{Stopped}
use Rattle.reconcile.proofs.Costs.{finer_costs_most}
use Rattle.reconcile.proofs.Parts.{apart_across, apart_append, apart_left, apart_right, chain_apart, chain_covers}
use Rattle.reconcile.proofs.Parts.{chain_proper, chain_within, covers_either, covers_left, covers_right, cuts_apart}
use Rattle.reconcile.proofs.Parts.{cuts_cover, cuts_inside, cuts_proper}
use Rattle.reconcile.proofs.Sets.{agree_back, covers_cases, iff_same, iff_then, inside_cases, list_cases, those_agree}
use Rattle.reconcile.proofs.Sets.{those_archive, those_fewer, those_same, told_alike}
use Rattle.reconcile.proofs.Settling.{between_then, settled_between}

-- ---- the same parts in another order, or finer ones

pub going_alike : (r : Range) (a b own held : List Entry) (ps qs : List Part) → Going r a b own held ps → AreApart qs
    → AreAllProper qs
    → AllByRecursion (IsTold b) qs → ((x : Entry) → Covers ps x → Covers qs x)
    → ((x : Entry) → Covers qs x → Covers ps x)
    → Going r a b own held qs
going_alike r a b own held ps qs g apart proper told there back = record {
  apart = apart;
  within = λ x c. g.within x (back x c);
  proper = proper;
  told = told;
  between = g.between;
  rest = λ x h. g.rest x (elim h [ inl c ↦ inl (back x c) | inr out ↦ inr out ]);
  done = elim g.done [ inl c ↦ inl c | inr h ↦ inr (λ x i n. h x i (λ c. n (there x c))) ];
}

middle_front : (ps qs : List Part) (p : Part) (x : Entry) → Covers (ps ++ p ∷ qs) x → Covers (p ∷ (ps ++ qs)) x
middle_front ps qs p x c =
    elim (covers_either ps (p ∷ qs) x c) [
      | inl l ↦ inr (covers_left ps qs x l)
      | inr h ↦ elim h [ inl i ↦ inl i | inr r ↦ inr (covers_right ps qs x r) ]
    ]

front_middle : (ps qs : List Part) (p : Part) (x : Entry) → Covers (p ∷ (ps ++ qs)) x → Covers (ps ++ p ∷ qs) x
front_middle ps qs p x (inl i) = covers_right ps (p ∷ qs) x (inl i)
front_middle ps qs p x (inr c) =
    elim (covers_either ps qs x c) [
      | inl l ↦ covers_left ps (p ∷ qs) x l
      | inr r ↦ covers_right ps (p ∷ qs) x (inr r)
    ]

all_front : (P : Part → Type 0) (ps qs : List Part) (p : Part) → AllByRecursion P (ps ++ p ∷ qs)
    → AllByRecursion P (p ∷ (ps ++ qs))
all_front P ps qs p h = let k = all_right P ps (p ∷ qs) h in (k.0, all_append P ps qs (all_left P ps (p ∷ qs) h) k.1)

all_middle : (P : Part → Type 0) (ps qs : List Part) (p : Part) → AllByRecursion P (p ∷ (ps ++ qs))
    → AllByRecursion P (ps ++ p ∷ qs)
all_middle P ps qs p h = all_append P ps (p ∷ qs) (all_left P ps qs h.1) (h.0, all_right P ps qs h.1)

apart_front : (ps qs : List Part) (p : Part) → AreApart (ps ++ p ∷ qs) → AreApart (p ∷ (ps ++ qs))
apart_front ps qs p h =
    let k = apart_right ps (p ∷ qs) h in (
      λ x i c. elim (covers_either ps qs x c) [ inl l ↦ apart_across ps (p ∷ qs) h x l (inl i) | inr r ↦ k.0 x i r ],
      apart_append ps qs (apart_left ps (p ∷ qs) h) k.1 (λ x l r. apart_across ps (p ∷ qs) h x l (inr r)),
    )

apart_middle : (ps qs : List Part) (p : Part) → AreApart (p ∷ (ps ++ qs)) → AreApart (ps ++ p ∷ qs)
apart_middle ps qs p h =
    apart_append ps (p ∷ qs) (apart_left ps qs h.1) ((λ x i c. h.0 x i (covers_right ps qs x c)), apart_right ps qs h.1)
    (λ x l c. elim c [ inl i ↦ h.0 x i (covers_left ps qs x l) | inr r ↦ apart_across ps qs h.1 x l r ])

pub going_front : (r : Range) (a b own held : List Entry) (ps qs : List Part) (p : Part)
    → Going r a b own held (ps ++ p ∷ qs)
    → Going r a b own held (p ∷ (ps ++ qs))
going_front r a b own held ps qs p g =
    going_alike r a b own held (ps ++ p ∷ qs) (p ∷ (ps ++ qs)) g (apart_front ps qs p g.apart)
    (all_front (λ (q : Part). IsProper q.range) ps qs p g.proper) (all_front (IsTold b) ps qs p g.told)
    (middle_front ps qs p) (front_middle ps qs p)

pub going_middle : (r : Range) (a b own held : List Entry) (ps qs : List Part) (p : Part)
    → Going r a b own held (p ∷ (ps ++ qs))
    → Going r a b own held (ps ++ p ∷ qs)
going_middle r a b own held ps qs p g =
    going_alike r a b own held (p ∷ (ps ++ qs)) (ps ++ p ∷ qs) g (apart_middle ps qs p g.apart)
    (all_middle (λ (q : Part). IsProper q.range) ps qs p g.proper) (all_middle (IsTold b) ps qs p g.told)
    (front_middle ps qs p) (middle_front ps qs p)

-- ---- fewer parts

-- where something holds both sets were joined, unless digests collide; elsewhere they are as they were
pub going_less : (r : Range) (a b own held own' held' : List Entry) (ps qs : List Part) (P : Entry → Type 0)
    → Going r a b own held ps
    → AreApart qs → AreAllProper qs → AllByRecursion (IsTold b) qs
    → ((x : Entry) → Covers qs x → Covers ps x) → ((x : Entry) → Covers ps x → P x ⊎ Covers qs x)
    → ((x : Entry) → P x → ¬ (Covers qs x)) → ((x : Entry) → P x → IsInside r x) → ((x : Entry) → P x ⊎ ¬ (P x))
    → Between a b own' held'
    → ((x : Entry) → ¬ (P x) → (Has own' x ↔ Has own x) × (Has held' x ↔ Has held x))
    → Collides a b ⊎ ((x : Entry) → P x → AreOneAt a b own' held' x)
    → Going r a b own' held' qs
going_less r a b own held own' held' ps qs P g apart proper told back there clear inner cases between out here =
    record {
      apart = apart;
      within = λ x c. g.within x (back x c);
      proper = proper;
      told = told;
      between = between;
      rest = λ x h.
          let n : ¬ (P x) = λ p. elim h [ inl c ↦ clear x p c | inr o ↦ o (inner x p) ] in
          let o = out x n in
          let k = g.rest x (elim h [ inl c ↦ inl (back x c) | inr q ↦ inr q ]) in
          (iff_then o.0 k.0, iff_then o.1 k.1);
      done = elim g.done [
        | inl c ↦ inl c
        | inr before ↦ elim here [
          | inl c ↦ inl c
          | inr now ↦ inr (λ x i n. elim (cases x) [
            | inl p ↦ now x p
            | inr away ↦
                let o = out x away in
                let k = before x i (λ c. elim (there x c) [ inl p ↦ away p | inr q ↦ n q ]) in
                (iff_then o.0 k.0, iff_then o.1 k.1)
          ])
        ]
      ];
    }

-- ---- what a part's range has of both sets

pub part_own : (r : Range) (a b own held : List Entry) (p : Part) (ps : List Part) → Going r a b own held (p ∷ ps)
    → AgreeOn (IsInside p.range) own a
part_own r a b own held p ps g x i = (g.rest x (inl (inl i))).0

pub part_held : (r : Range) (a b own held : List Entry) (p : Part) (ps : List Part) → Going r a b own held (p ∷ ps)
    → AgreeOn (IsInside p.range) held b
part_held r a b own held p ps g x i = (g.rest x (inl (inl i))).1

-- two sums that are one stand for one list, or for two that collide
sums_alike : (a b xs ys : List Entry) (r : Range) (s : Sum) → IsArchive ENTRY_MAX a → IsArchive ENTRY_MAX b
    → AreThose (IsInside r) a xs → AreThose (IsInside r) b ys → IsSumOf xs s → IsSumOf ys s → Collides a b ⊎ (xs ≡ ys)
sums_alike a b xs ys r s sa sb h k m n =
    elim (list_cases xs ys) [
      | inl same ↦ inr same
      | inr differ ↦ inl (record {
        range = r;
        first = xs;
        second = ys;
        of_first = h;
        of_second = k;
        differ = λ e. differ (same_text ENTRY_MAX ENTRY_MAX xs ys (lit≤ tt) (lit≤ tt)
            (those_archive ENTRY_MAX (IsInside r) a xs sa h) (those_archive ENTRY_MAX (IsInside r) b ys sb k) e);
        records = sym m.records ∙ n.records;
        octets = sym m.octets ∙ n.octets;
        digest = sym m.digest ∙ n.digest;
      })
    ]

-- the sum that was told is the own one
pub going_equal : (r : Range) (a b own held : List Entry) (p : Part) (ps : List Part) → IsArchive ENTRY_MAX a
    → IsArchive ENTRY_MAX b
    → Going r a b own held (p ∷ ps) → IsSumIn own p.range p.sum → Going r a b own held ps
going_equal r a b own held p ps sa sb g mine =
    let oa = part_own r a b own held p ps g in
    let hb = part_held r a b own held p ps g in
    let am = told_alike p.range p.sum own a mine oa in
    let bt = g.told.0 in
    going_less r a b own held own held (p ∷ ps) ps (IsInside p.range) g g.apart.1 g.proper.1 g.told.1
    (λ x c. inr c) (λ x c. c) g.apart.0 (λ x i. g.within x (inl i)) (inside_cases p.range) g.between
    (λ x n. (iff_same, iff_same))
    (elim (sums_alike a b am.entries bt.entries p.range p.sum sa sb am.those bt.those am.sum bt.sum) [
      | inl c ↦ inl c
      | inr same ↦
          let agree = those_agree (IsInside p.range) a b am.entries bt.entries am.those bt.those same in
          inr (λ x i.
          let o = oa x i in
          let h = hb x i in
          let ab = agree x i in (
            (λ m. inl (o.0 m), λ m. o.1 (elim m [ inl k ↦ k | inr k ↦ ab.1 k ])),
            (λ m. inr (h.0 m), λ m. h.1 (elim m [ inl k ↦ ab.0 k | inr k ↦ k ])),
          ))
    ])

-- ---- parts are settled

pub settled_agree : (r : Range) (a b own held : List Entry) (ps qs : List Part) → Going r a b own held (ps ++ qs)
    → AgreeOn (Covers qs) own a × AgreeOn (Covers qs) held b
settled_agree r a b own held ps qs g = (
  λ x c. (g.rest x (inl (covers_right ps qs x c))).0,
  λ x c. (g.rest x (inl (covers_right ps qs x c))).1,
)

pub going_settled : (r : Range) (a b own held own' held' : List Entry) (ps qs : List Part)
    → Going r a b own held (ps ++ qs)
    → Settled (Covers qs) own held own' held' → Going r a b own' held' ps
going_settled r a b own held own' held' ps qs g s =
    let agree = settled_agree r a b own held ps qs g in
    going_less r a b own held own' held' (ps ++ qs) ps (Covers qs) g (apart_left ps qs g.apart)
    (all_left (λ (q : Part). IsProper q.range) ps qs g.proper) (all_left (IsTold b) ps qs g.told)
    (covers_left ps qs) (λ x c. elim (covers_either ps qs x c) [ inl l ↦ inr l | inr q ↦ inl q ])
    (λ x q l. apart_across ps qs g.apart x l q) (λ x q. g.within x (covers_right ps qs x q)) (covers_cases qs)
    (between_then a b own held own' held' g.between (settled_between (Covers qs) own held own' held' s))
    (λ x n. (
      (λ h. elim ((s.own x).0 h) [ inl k ↦ k | inr t ↦ absurd (n t.0) ], λ h. (s.own x).1 (inl h)),
      (λ h. elim ((s.other x).0 h) [ inl k ↦ k | inr t ↦ absurd (n t.0) ], λ h. (s.other x).1 (inl h)),
    ))
    (inr (λ x q.
    let oa = agree.0 x q in
    let hb = agree.1 x q in (
      (
        λ h. elim ((s.own x).0 h) [ inl k ↦ inl (oa.0 k) | inr t ↦ inr (hb.0 t.1) ],
        λ h. (s.own x).1 (elim h [ inl k ↦ inl (oa.1 k) | inr k ↦ inr (q, hb.1 k) ]),
      ),
      (
        λ h. elim ((s.other x).0 h) [ inl k ↦ inr (hb.0 k) | inr t ↦ inl (oa.0 t.1) ],
        λ h. (s.other x).1 (elim h [ inl k ↦ inr (q, oa.1 k) | inr k ↦ inl (hb.1 k) ]),
      ),
    )))

pub goes_settled : {A : Type 0} (r : Range) (a b own held own' held' : List Entry) (ps qs : List Part)
    (res : Result A Stopped)
    → Going r a b own held (ps ++ qs) → Settles (Covers qs) own held own' held' res → Goes r a b own' held' ps res
goes_settled r a b own held own' held' ps qs (Ok n) g s = going_settled r a b own held own' held' ps qs g s
goes_settled r a b own held own' held' ps qs (Err e) g s = (between_then a b own held own' held' g.between s.0, s.1)

-- ---- finer parts

told_since : (qs : List Part) (xs ys : List Entry) → AllByRecursion (IsTold xs) qs → AgreeOn (Covers qs) xs ys
    → AllByRecursion (IsTold ys) qs
told_since [] xs ys h agree = tt
told_since (q ∷ qs) xs ys h agree = (
  told_alike q.range q.sum xs ys h.0 (λ x i. agree x (inl i)),
  told_since qs xs ys h.1 (λ x c. agree x (inr c)),
)

-- what is told of parts that are pending is so of what the peer holds now
pub told_now : (r : Range) (a b own held : List Entry) (ps qs : List Part) → Going r a b own held (ps ++ qs)
    → AllByRecursion (IsTold held) qs
told_now r a b own held ps qs g =
    told_since qs b held (all_right (IsTold b) ps qs g.told)
    (agree_back (Covers qs) held b (settled_agree r a b own held ps qs g).1)

going_cut : (r : Range) (a b own held : List Entry) (ps qs : List Part) (cs : List (List Part))
    → Going r a b own held (ps ++ qs)
    → AreCuts qs cs → AllByRecursion (IsTold held) (joined cs) → Going r a b own held (ps ++ joined cs)
going_cut r a b own held ps qs cs g cuts told =
    let there = cuts_cover qs cs cuts in
    let back = cuts_inside qs cs cuts in
    let agree = settled_agree r a b own held ps qs g in
    going_alike r a b own held (ps ++ qs) (ps ++ joined cs) g
    (apart_append ps (joined cs) (apart_left ps qs g.apart) (cuts_apart qs cs cuts (apart_right ps qs g.apart))
    (λ x l c. apart_across ps qs g.apart x l (back x c)))
    (all_append (λ (q : Part). IsProper q.range) ps (joined cs)
    (all_left (λ (q : Part). IsProper q.range) ps qs g.proper) (cuts_proper qs cs cuts))
    (all_append (IsTold b) ps (joined cs) (all_left (IsTold b) ps qs g.told)
    (told_since (joined cs) held b told (λ x c. agree.1 x (back x c))))
    (λ x c. elim (covers_either ps qs x c) [
      | inl l ↦ covers_left ps (joined cs) x l
      | inr q ↦ covers_right ps
          (joined cs) x (there x q)
    ])
    (λ x c. elim (covers_either ps (joined cs) x c) [
      | inl l ↦ covers_left ps qs x l
      | inr q ↦ covers_right ps qs x
          (back x q)
    ])

pub goes_refined : {A : Type 0} (r : Range) (a b own held held' : List Entry) (ps qs now : List Part)
    (res : Result A Stopped)
    → Going r a b own held (ps ++ qs) → held' ≡ held
    → Answers (λ _. (f : Refined qs ps now) × AllByRecursion (IsTold held) (joined f.cuts)) res
    → Goes r a b own held' now res
goes_refined r a b own held held' ps qs now (Ok n) g same h =
    subst (λ l. Going r a b own l now) (sym same)
    (subst (Going r a b own held) (sym h.0.pending) (going_cut r a b own held ps qs h.0.cuts g h.0.finer h.1))
goes_refined r a b own held held' ps qs now (Err e) g same h = (subst (λ l. Between a b own l) (sym same) g.between, h)

-- what an honest peer answers are finer parts, and told as they are
pub honest_cuts : (held : List Entry) (ps : List Part) (cs : List (List Part)) → ArePartsOf held ps cs
    → AllByRecursion (IsTold held) ps
    → AllByRecursion (λ (p : Part). 2 ≤ p.sum.records) ps → AreCuts ps cs
honest_cuts held [] [] h told two = tt
honest_cuts held [] (c ∷ cs) h told two = absurd h
honest_cuts held (p ∷ ps) [] h told two = absurd h
honest_cuts held (p ∷ ps) (c ∷ cs) h told two =
    let same : h.0.entries ≡ told.0.entries =
    those_same (IsInside p.range) held held h.0.entries told.0.entries h.0.those told.0.those (λ x i. iff_same) in
    let count : length h.0.entries ≡ p.sum.records = ap length same ∙ sym told.0.sum.records in (
      record {
        chain = h.0.chain;
        finer = subst (λ n. IsFiner n c) count (h.0.several (omega (arith, count, two.0)));
      },
      honest_cuts held ps cs h.1 told.1 two.1,
    )

pub honest_told : (held : List Entry) (ps : List Part) (cs : List (List Part)) → ArePartsOf held ps cs
    → AllByRecursion (IsTold held) (joined cs)
honest_told held [] [] h = tt
honest_told held [] (c ∷ cs) h = absurd h
honest_told held (p ∷ ps) [] h = absurd h
honest_told held (p ∷ ps) (c ∷ cs) h = all_append (IsTold held) c (joined cs) h.0.told (honest_told held ps cs h.1)

-- ---- all turns

one_first : (b : List Entry) (parts : List Part) → AllByRecursion (IsTold b) parts → IsArchive ENTRY_MAX b
    → length parts ≡ 1 → allowance parts + 1 ≤ 3 * length b + 3
one_first b [] told s one = absurd (omega arith)
one_first b (p ∷ []) told s one =
    let cost : allowance (p ∷ []) ≡ allowed p + 0 = sum_by-cons allowed p [] in
    let few = those_fewer (IsInside p.range) b told.0.entries s.ascending told.0.those in
    omega (arith, told.0.sum.records, few, cost)
one_first b (p ∷ q ∷ qs) told s one = absurd (omega arith)

-- what the first parts may cost
pub first_costs : (b : List Entry) (r : Range) (parts : List Part) → IsArchive ENTRY_MAX b → AreParts b r parts
    → allowance parts + 1 ≤ 3 * length b + 3
first_costs b r parts s h =
    let few = those_fewer (IsInside r) b h.entries s.ascending h.those in
    elim (cases_lt 1 (length h.entries)) [
      | inl two ↦ let cost = finer_costs_most (length h.entries) parts (h.several (omega arith)) in
          omega (arith, cost, few)
      | inr less ↦ one_first b parts h.told s (h.one less)
    ]

pub going_first : (r : Range) (a b held : List Entry) (parts : List Part) → held ≡ b → AreParts b r parts
    → Going r a b a held parts
going_first r a b held parts same h =
    let all : Going r a b a b parts = record {
      apart = chain_apart (Some r.low) r.high parts h.chain;
      within = chain_within r parts h.chain;
      proper = chain_proper (Some r.low) r.high parts h.chain;
      told = h.told;
      between = record {
        own_keeps = λ x k. k;
        own_from = λ x k. inl k;
        other_keeps = λ x k. k;
        other_from =
            λ x k. inr k;
      };
      rest = λ x k. (iff_same, iff_same);
      done = inr (λ x i n. absurd (n (chain_covers (Some r.low) r.high parts h.chain x i.0 i.1)));
    } in
    subst (λ l. Going r a b a l parts) (sym same) all

-- nothing is pending
pub united_last : (r : Range) (a b own held : List Entry) → IsArchive ENTRY_MAX own → IsArchive ENTRY_MAX held
    → Going r a b own held []
    → Collides a b ⊎ AreUnited r a b own held
united_last r a b own held so sh g =
    elim g.done [
      | inl c ↦ inl c
      | inr h ↦ inr (record {
        settled = record {
          own = λ x. elim (inside_cases r x) [
            | inl i ↦
                let k = (h x i (λ c. c)).0 in (
                  λ m. elim (k.0 m) [ inl l ↦ inl l | inr t ↦ inr (i, t) ],
                  λ m. k.1
                      (elim m [ inl l ↦ inl l | inr t ↦ inr t.1 ]),
                )
            | inr o ↦
                let k = (g.rest x (inr o)).0 in
                (λ m. inl (k.0 m), λ m. elim m [ inl l ↦ k.1 l | inr t ↦ absurd (o t.0) ])
          ];
          other = λ x. elim (inside_cases r x) [
            | inl i ↦
                let k = (h x i (λ c. c)).1 in (
                  λ m. elim (k.0 m) [ inl l ↦ inr (i, l) | inr t ↦ inl t ],
                  λ m. k.1
                      (elim m [ inl l ↦ inr l | inr t ↦ inl t.1 ]),
                )
            | inr o ↦
                let k = (g.rest x (inr o)).1 in
                (λ m. inl (k.0 m), λ m. elim m [ inl l ↦ k.1 l | inr t ↦ absurd (o t.0) ])
          ];
        };
        whole = λ all. (
          λ x. (h x (all x) (λ c. c)).0,
          same_members held own sh.ascending so.ascending
              (λ x m. (h x (all x) (λ c. c)).0.1 ((h x (all x) (λ c. c)).1.0 m))
              (λ x m. (h x (all x) (λ c. c)).1.1 ((h x (all x) (λ c. c)).0.0 m)),
        );
      })
    ]
