-- Facts on parts that are settled with an honest peer.
use Rattle.std.proofs.Common.{◌≡◌, List, [], Result, Ok, Err, sym, subst, inl, inr}
use Rattle.archive_text.specs.Entries.{Entry, Has}
use Rattle.archive_text.specs.Text.{IsArchive}
use Rattle.archive_text.specs.declared.limits.TheConstants.{ENTRY_MAX}
use Rattle.reconcile.specs.Honest.{Answers}
use Rattle.reconcile.specs.Ranges.{AreThose, Covers}
use Rattle.reconcile.specs.Reconciling.{Settles}
use Rattle.reconcile.specs.Unions.{Between, IsJoined, IsPartly, Joins, Settled}
use Rattle.reconcile.specs.declared.part.Part.{Part}
use Rattle.reconcile.specs.declared.stopped.Stopped.{Stopped}
use Rattle.reconcile.proofs.Sets.{has_cases}

-- the entries of a set where something holds that are not among those that were got
abbrev pub Lacks : (Entry → Type 0) → List Entry → Entry → Type 0
Lacks P got x = P x × ¬ (Has got x)

pub joined_partly : (xs ys zs : List Entry) → IsJoined xs ys zs → IsPartly xs ys zs
joined_partly xs ys zs h = record {
  archive = h.archive;
  keeps = λ x k. (h.members x).1 (inl k);
  from = λ x k. (h.members x).0 k;
}

pub partly_same : (xs ys zs : List Entry) → IsArchive ENTRY_MAX xs → zs ≡ xs → IsPartly xs ys zs
partly_same xs ys zs s e = record {
  archive = subst (IsArchive ENTRY_MAX) (sym e) s;
  keeps = λ x h. subst (λ l. Has l x) (sym e) h;
  from = λ x h. inl (subst (λ l. Has l x) e h);
}

pub joined_none : (xs zs : List Entry) → IsArchive ENTRY_MAX xs → zs ≡ xs → IsJoined xs [] zs
joined_none xs zs s e = record {
  archive = subst (IsArchive ENTRY_MAX) (sym e) s;
  members = λ x. (
    λ h. inl (subst (λ l. Has l x) e h),
    λ h. elim h [ inl k ↦ subst (λ l. Has l x) (sym e) k | inr k ↦ absurd k ],
  );
}

settled : (P : Entry → Type 0) (a b got missing a' b' : List Entry) → AreThose P b got
    → AreThose (Lacks P got) a missing
    → IsJoined a got a' → IsJoined b missing b' → Settled P a b a' b'
settled P a b got missing a' b' g m ja jb = record {
  own = λ x. (
    λ h. elim ((ja.members x).0 h) [ inl k ↦ inl k | inr k ↦ let t = (g.members x).0 k in inr (t.1, t.0) ],
    λ h. (ja.members x).1 (elim h [ inl k ↦ inl k | inr t ↦ inr ((g.members x).1 (t.1, t.0)) ]),
  );
  other = λ x. (
    λ h. elim ((jb.members x).0 h) [ inl k ↦ inl k | inr k ↦ let t = (m.members x).0 k in inr (t.1.0, t.0) ],
    λ h. (jb.members x).1 (elim h [
      | inl k ↦ inl k
      | inr t ↦ elim (has_cases got x) [
        | inl there ↦ inl ((g.members x).0 there).0
        | inr none ↦ inr ((m.members x).1 (t.1, (t.0, none)))
      ]
    ]),
  );
}

-- both sets only had entries added that the other has
pub between_partly : (P : Entry → Type 0) (a b got missing a' b' : List Entry) → AreThose P b got
    → AreThose (Lacks P got) a missing
    → IsPartly a got a' → IsPartly b missing b' → Between a b a' b'
between_partly P a b got missing a' b' g m ja jb = record {
  own_keeps = ja.keeps;
  own_from = λ x k. elim (ja.from x k) [ inl h ↦ inl h | inr h ↦ inr ((g.members x).0 h).0 ];
  other_keeps = jb.keeps;
  other_from = λ x k. elim (jb.from x k) [ inl h ↦ inr h | inr h ↦ inl ((m.members x).0 h).0 ];
}

pub settles : {A : Type 0} (P : Entry → Type 0) (a b got missing a' b' : List Entry) (res : Result A Stopped)
    → AreThose P b got
    → AreThose (Lacks P got) a missing → IsJoined a got a' → Joins b missing b' res → Answers (λ _. Unit {0}) res
    → Settles P a b a' b' res
settles P a b got missing a' b' (Ok n) g m ja jb s = settled P a b got missing a' b' g m ja jb
settles P a b got missing a' b' (Err e) g m ja jb s =
    (between_partly P a b got missing a' b' g m (joined_partly a got a' ja) jb, s)

-- nothing was added yet
pub between_same : (a b b' : List Entry) → b' ≡ b → Between a b a b'
between_same a b b' e = record {
  own_keeps = λ x h. h;
  own_from = λ x h. inl h;
  other_keeps = λ x h. subst (λ l. Has l x) (sym e) h;
  other_from = λ x h. inr (subst (λ l. Has l x) e h);
}

pub between_then : (a b a1 b1 a2 b2 : List Entry) → Between a b a1 b1 → Between a1 b1 a2 b2 → Between a b a2 b2
between_then a b a1 b1 a2 b2 h k = record {
  own_keeps = λ x m. k.own_keeps x (h.own_keeps x m);
  own_from = λ x m. elim (k.own_from x m) [ inl o ↦ h.own_from x o | inr o ↦ h.other_from x o ];
  other_keeps = λ x m. k.other_keeps x (h.other_keeps x m);
  other_from = λ x m. elim (k.other_from x m) [ inl o ↦ h.own_from x o | inr o ↦ h.other_from x o ];
}

pub settled_between : (P : Entry → Type 0) (a b a' b' : List Entry) → Settled P a b a' b' → Between a b a' b'
settled_between P a b a' b' s = record {
  own_keeps = λ x h. (s.own x).1 (inl h);
  own_from = λ x h. elim ((s.own x).0 h) [ inl k ↦ inl k | inr t ↦ inr t.1 ];
  other_keeps = λ x h. (s.other x).1 (inl h);
  other_from = λ x h. elim ((s.other x).0 h) [ inl k ↦ inr k | inr t ↦ inl t.1 ];
}

-- where nothing holds, nothing is to be done
pub settled_none : (P : Entry → Type 0) (a b : List Entry) → ((x : Entry) → ¬ (P x)) → Settled P a b a b
settled_none P a b none = record {
  own = λ x. (λ h. inl h, λ h. elim h [ inl k ↦ k | inr t ↦ absurd (none x t.0) ]);
  other = λ x. (λ h. inl h, λ h. elim h [ inl k ↦ k | inr t ↦ absurd (none x t.0) ]);
}

pub settled_no_parts : (ps : List Part) (a b : List Entry) → ps ≡ [] → Settled (Covers ps) a b a b
settled_no_parts ps a b e = settled_none (Covers ps) a b (λ x c. subst (λ l. Covers l x) e c)
