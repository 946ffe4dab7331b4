-- A tag is what the run of a name and the octets behind it say.
use Rattle.std.proofs.Common.{◌≡◌, ◌≢◌, ℕ, ◌<◌, List, [], ◌∷◌, ◌++◌, ◌⊎◌, length, refl, sym, ap, subst, ◌∙◌, arith, inl}
use Rattle.std.proofs.Common.{inr, append_assoc}
use Rattle.std.specs.Prelude.{Option, None}
use Rattle.octet_language.specs.Language.{AnyOf, IfFirst, NoPrefix}
use Rattle.octet_language.specs.Reading.{Follows}
use Rattle.octet_language.proofs.Lists.{heads, tails}
use Rattle.syslog_fields.specs.Spans.{IsRun}
use Rattle.syslog_legacy.specs.Hosts.{IsNilable, SplitsRun}
use Rattle.syslog_legacy.specs.Parts.{Lacks}
use Rattle.syslog_legacy.specs.Tags.{BehindSpace, Bracketed, IsProcOctet, IsTagOctet, ProcText, Tag, TagParts, TagText}
use Rattle.syslog_legacy.proofs.Longest.{the_run, run_is, nil_one}
use Rattle.syslog_legacy.proofs.Parts.{without_one}

-- ---- the process id

closing : ¬ (IsProcOctet 93)
closing h = h.1 refl

-- a process id and its bracket, and what follows them
pub record Closes (p : Option (List ℕ)) (b rest : List ℕ) : Type 0 where
  pub text : List ℕ
  pub run : IsRun IsProcOctet 128 text
  pub nilable : IsNilable p text
  pub parts : b ≡ text ++ 93 ∷ rest

pub closes : (p : Option (List ℕ)) (b rest : List ℕ) → Follows (Bracketed p) b rest → Closes p b rest
closes p b rest (t, e, (x, y, f, (r, n), g)) =
    record { text = x; run = r; nilable = n; parts = e ∙ rw (f, g) (append_assoc x (93 ∷ []) rest) }

closed : (p : Option (List ℕ)) (b rest : List ℕ) → Closes p b rest → Follows (Bracketed p) b rest
closed p b rest c = (
  c.text ++ 93 ∷ [],
  c.parts
      ∙ sym (append_assoc c.text (93 ∷ []) rest),
  (c.text, 93 ∷ [], refl, (c.run, c.nilable), refl),
)

closes_is : (b run rest : List ℕ) (p : Option (List ℕ)) (left : List ℕ) → SplitsRun IsProcOctet 128 b run rest
    → Closes p b left → IsRun IsProcOctet 128 run × IsNilable p run × (rest ≡ 93 ∷ left)
closes_is b run rest p left s c =
    let same = the_run IsProcOctet 128 b run rest c.text (93 ∷ left) s c.run closing c.parts in
    (subst (IsRun IsProcOctet 128) same.0 c.run, subst (IsNilable p) same.0 c.nilable, sym same.1)

no_bracketed : (b run rest : List ℕ) → SplitsRun IsProcOctet 128 b run rest
    → ((left : List ℕ) → 0 < length run → rest ≡ 93 ∷ left → ⊥) → NoPrefix (AnyOf Bracketed) b
no_bracketed b run rest s none x y e (p, h) = let k = closes_is b run rest p y s (closes p b y (x, e, h)) in
    none y k.0.some k.2

pub no_bracketed_empty : (b run rest : List ℕ) → SplitsRun IsProcOctet 128 b run rest → length run ≡ 0
    → NoPrefix (AnyOf Bracketed) b
no_bracketed_empty b run rest s none = no_bracketed b run rest s (λ left some e. omega (arith, some, none))

pub no_bracketed_open : (b run rest : List ℕ) → SplitsRun IsProcOctet 128 b run rest → IfFirst (λ x. x ≢ 93) rest
    → NoPrefix (AnyOf Bracketed) b
no_bracketed_open b run rest s out = no_bracketed b run rest s
    (λ left some e. (let f : IfFirst (λ x. x ≢ 93) (93 ∷ left) = subst (IfFirst (λ x. x ≢ 93)) e out in f refl))

pub bracketed_read : (b run rest left : List ℕ) (p : Option (List ℕ)) → SplitsRun IsProcOctet 128 b run rest
    → 0 < length run → rest ≡ 93 ∷ left → IsNilable p run → Follows (Bracketed p) b left
bracketed_read b run rest left p s some e n =
    closed p b left (record {
      text = run;
      run = run_is IsProcOctet 128 b run rest s some;
      nilable = n;
      parts =
          s.parts ∙ ap (λ (k : List ℕ). run ++ k) e;
    })

-- octets have one process id at most
pub closes_one : (p q : Option (List ℕ)) (b s t : List ℕ) → Closes p b s → Closes q b t → (p ≡ q) × (s ≡ t)
closes_one p q b s t c d =
    let k = closes_is b c.text (93 ∷ s) q t (record {
      parts = c.parts;
      most = c.run.fits;
      octets = c.run.octets;
      ends =
          λ h. closing;
    }) d in
    (nil_one p q c.text c.nilable k.1, tails 93 93 s t k.2)

-- ---- what follows the name

-- a colon, or a process id in brackets and a colon
abbrev pub Behind : Option (List ℕ) → List ℕ → List ℕ → Type 0
Behind p b rest = ((p ≡ None) × (b ≡ 58 ∷ rest))
    ⊎ ((inside : List ℕ) × (b ≡ 91 ∷ inside) × Follows (Bracketed p) inside (58 ∷ rest))

pub proc_parts : (p : Option (List ℕ)) (b rest : List ℕ) → Follows (ProcText p) b rest → Behind p b rest
proc_parts p b rest (t, e, inl (n, f)) = inl (n, e ∙ ap (λ (k : List ℕ). k ++ rest) f)
proc_parts p b rest (t, e, inr (x, y, f, g, (u, v, h, i, j))) =
    inr (
      u ++ 58 ∷ rest,
      e ∙ rw (f, g, h, j) (ap (λ (k : List ℕ). 91 ∷ k) (append_assoc u (58 ∷ []) rest)),
      (u, refl, i),
    )

pub proc_none : (b rest : List ℕ) → b ≡ 58 ∷ rest → Follows (ProcText None) b rest
proc_none b rest e = (58 ∷ [], e, inl (refl, refl))

pub proc_read : (p : Option (List ℕ)) (b inside behind rest : List ℕ) → b ≡ 91 ∷ inside
    → Follows (Bracketed p) inside behind → behind ≡ 58 ∷ rest → Follows (ProcText p) b rest
proc_read p b inside behind rest e (t, f, h) g = (
  91 ∷ (t ++ 58 ∷ []),
  e ∙ ap (λ (k : List ℕ). 91 ∷ k)
      (f ∙ ap (λ (k : List ℕ). t ++ k) g ∙ sym (append_assoc t (58 ∷ []) rest)),
  inr (91 ∷ [], t ++ 58 ∷ [], refl, refl, (t, 58 ∷ [], refl, h, refl)),
)

no_proc : (b : List ℕ) → ((rest : List ℕ) → b ≡ 58 ∷ rest → ⊥)
    → ((p : Option (List ℕ)) (inside rest : List ℕ) → b ≡ 91 ∷ inside → Follows (Bracketed p) inside (58 ∷ rest) → ⊥)
    → NoPrefix (AnyOf ProcText) b
no_proc b colon bracket x y e (p, h) =
    elim (proc_parts p b y (x, e, h)) [ inl k ↦ colon y k.1 | inr (inside, f, k) ↦ bracket p inside y f k ]

pub no_proc_first : (b : List ℕ) → IfFirst (λ x. x ≢ 91) b → IfFirst (λ x. x ≢ 58) b → NoPrefix (AnyOf ProcText) b
no_proc_first b bracket colon =
    no_proc b (λ rest e. (let f : IfFirst (λ x. x ≢ 58) (58 ∷ rest) = subst (IfFirst (λ x. x ≢ 58)) e colon in f refl))
    (λ p inside rest e h. (let f : IfFirst (λ x. x ≢ 91) (91 ∷ inside) = subst (IfFirst (λ x. x ≢ 91)) e bracket in
    f refl))

pub not_both : (b s t : List ℕ) → b ≡ 91 ∷ s → b ≡ 58 ∷ t → ⊥
not_both b s t e f = omega (arith, heads 91 58 s t (sym e ∙ f))

pub no_proc_inside : (b inside : List ℕ) → b ≡ 91 ∷ inside → NoPrefix (AnyOf Bracketed) inside
    → NoPrefix (AnyOf ProcText) b
no_proc_inside b inside e none =
    no_proc b (λ rest f. not_both b inside rest e f)
    (λ p i rest f (t, g, h). none t (58 ∷ rest) (tails 91 91 inside i (sym e ∙ f) ∙ g) (p, h))

pub no_proc_behind : (p : Option (List ℕ)) (b inside behind : List ℕ) → b ≡ 91 ∷ inside
    → Follows (Bracketed p) inside behind → IfFirst (λ x. x ≢ 58) behind → NoPrefix (AnyOf ProcText) b
no_proc_behind p b inside behind e h out =
    no_proc b (λ rest f. not_both b inside rest e f)
    (λ q i rest f k.
    let same : i ≡ inside = tails 91 91 i inside (sym f ∙ e) in
    let one = closes_one p q inside behind (58 ∷ rest) (closes p inside behind h)
    (closes q inside (58 ∷ rest) (subst (λ (u : List ℕ). Follows (Bracketed q) u (58 ∷ rest)) same k)) in
    let g : IfFirst (λ x. x ≢ 58) (58 ∷ rest) = subst (IfFirst (λ x. x ≢ 58)) one.1 out in
    g refl)

proc_one : (p q : Option (List ℕ)) (b s t : List ℕ) → Behind p b s → Behind q b t → (p ≡ q) × (s ≡ t)
proc_one p q b s t (inl h) (inl k) = (h.0 ∙ sym k.0, tails 58 58 s t (sym h.1 ∙ k.1))
proc_one p q b s t (inl h) (inr (i, e, k)) = absurd (not_both b i s e h.1)
proc_one p q b s t (inr (i, e, h)) (inl k) = absurd (not_both b i t e k.1)
proc_one p q b s t (inr (i, e, h)) (inr (j, f, k)) =
    let same : j ≡ i = tails 91 91 j i (sym f ∙ e) in
    let one = closes_one p q i (58 ∷ s) (58 ∷ t) (closes p i (58 ∷ s) h)
    (closes q i (58 ∷ t) (subst (λ (u : List ℕ). Follows (Bracketed q) u (58 ∷ t)) same k)) in
    (one.0, tails 58 58 s t one.1)

-- ---- the tag

colon : ¬ (IsTagOctet 58)
colon h = omega (arith, h)

pub bracket : ¬ (IsTagOctet 91)
bracket h = omega (arith, h)

pub behind_ends : (p : Option (List ℕ)) (b rest : List ℕ) → Behind p b rest → IfFirst (λ x. ¬ (IsTagOctet x)) b
behind_ends p b rest (inl (n, e)) = subst (IfFirst (λ x. ¬ (IsTagOctet x))) (sym e) colon
behind_ends p b rest (inr (i, e, h)) = subst (IfFirst (λ x. ¬ (IsTagOctet x))) (sym e) bracket

-- a name, and what follows it
pub record Names (t : TagParts) (b rest : List ℕ) : Type 0 where
  pub name : List ℕ
  pub more : List ℕ
  pub run : IsRun IsTagOctet 48 name
  pub nilable : IsNilable t.app_name name
  pub parts : b ≡ name ++ more
  pub behind : Follows (ProcText t.proc_id) more rest

pub names : (t : TagParts) (b rest : List ℕ) → Follows (TagText t) b rest → Names t b rest
names t b rest (x, e, (n, y, f, (r, k), h)) =
    record {
      name = n;
      more = y ++ rest;
      run = r;
      nilable = k;
      parts =
          e ∙ ap (λ (u : List ℕ). u ++ rest) f ∙ append_assoc n y rest;
      behind = (y, refl, h);
    }

names_is : (b run rest : List ℕ) (t : TagParts) (left : List ℕ) → SplitsRun IsTagOctet 48 b run rest → Names t b left
    → IsRun IsTagOctet 48 run × IsNilable t.app_name run × Follows (ProcText t.proc_id) rest left
names_is b run rest t left s n =
    let out = behind_ends t.proc_id n.more left (proc_parts t.proc_id n.more left n.behind) in
    let same = the_run IsTagOctet 48 b run rest n.name n.more s n.run out n.parts in (
      subst (IsRun IsTagOctet 48) same.0 n.run,
      subst (IsNilable t.app_name) same.0 n.nilable,
      subst (λ (k : List ℕ). Follows (ProcText t.proc_id) k left) same.1 n.behind,
    )

pub no_tag_empty : (b run rest : List ℕ) → SplitsRun IsTagOctet 48 b run rest → length run ≡ 0 → Lacks Tag b
no_tag_empty b run rest s none t left (behind, h, k) = let n = names_is b run rest t behind s (names t b behind h) in
    omega (arith, n.0.some)

pub no_tag_behind : (b run rest : List ℕ) → SplitsRun IsTagOctet 48 b run rest → NoPrefix (AnyOf ProcText) rest
    → Lacks Tag b
no_tag_behind b run rest s none t left (behind, h, k) =
    let n = names_is b run rest t behind s (names t b behind h) in none n.2.0 behind n.2.1 (t.proc_id, n.2.2)

pub tag_read : (b run rest behind left : List ℕ) (t : TagParts) → SplitsRun IsTagOctet 48 b run rest → 0 < length run
    → IsNilable t.app_name run → Follows (ProcText t.proc_id) rest behind → BehindSpace behind left → Tag t b left
tag_read b run rest behind left t s some n (x, e, h) k = (
  behind,
  (
    run ++ x,
    s.parts ∙ ap (λ (u : List ℕ). run ++ u) e
        ∙ sym (append_assoc run x behind),
    (run, x, refl, (run_is IsTagOctet 48 b run rest s some, n), h),
  ),
  k,
)

tag_made : Option (List ℕ) → Option (List ℕ) → TagParts
tag_made a p = record { app_name = a; proc_id = p }

-- octets have one tag at most
pub tag_one : (b : List ℕ) (t u : TagParts) (x y : List ℕ) → Tag t b x → Tag u b y → (t ≡ u) × (x ≡ y)
unfolding tag_made
tag_one b t u x y (v, h, k) (w, l, m) =
    let n = names t b v h in
    let out = behind_ends t.proc_id n.more v (proc_parts t.proc_id n.more v n.behind) in
    let o = names_is b n.name n.more u w (record {
      parts = n.parts;
      most = n.run.fits;
      octets = n.run.octets;
      ends =
          λ i. out;
    }) (names u b w l) in
    let app = nil_one t.app_name u.app_name n.name n.nilable o.1 in
    let proc = proc_one t.proc_id u.proc_id n.more v w (proc_parts t.proc_id n.more v n.behind)
    (proc_parts u.proc_id n.more w o.2) in
    let same : tag_made t.app_name t.proc_id ≡ tag_made u.app_name u.proc_id = rw (app, proc.0) refl in
    (same, without_one 32 w x y (subst (λ (i : List ℕ). BehindSpace i x) proc.1 k) m)

pub tag_suffix : (b : List ℕ) (t : TagParts) (rest : List ℕ) → Tag t b rest → (x : List ℕ) × (b ≡ x ++ rest)
tag_suffix b t rest (behind, (x, e, h), inl f) =
    (x ++ 32 ∷ [], e ∙ ap (λ (k : List ℕ). x ++ k) f ∙ sym (append_assoc x (32 ∷ []) rest))
tag_suffix b t rest (behind, (x, e, h), inr (out, f)) = (x, e ∙ ap (λ (k : List ℕ). x ++ k) (sym f))
