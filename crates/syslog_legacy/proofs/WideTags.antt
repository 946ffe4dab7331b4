-- Hosts and tags of the wide dialect.
use Rattle.std.proofs.Common.{◌≡◌, ◌≢◌, ℕ, ◌-◌, ◌<◌, ◌≤◌, List, [], ◌∷◌, ◌++◌, length, refl, sym, ap, subst, ◌∙◌, arith}
use Rattle.std.proofs.Common.{inl, inr, append_assoc, append-nil, ◌⊎◌}
use Rattle.std.specs.Prelude.{Option, Some, None, MatchOption}
use Rattle.std.specs.List.{AllByRecursion}
use Rattle.std.proofs.lemmas.List.{length-append}
use Rattle.octet_language.specs.Language.{AnyOf, IfFirst, NoPrefix}
use Rattle.octet_language.specs.Reading.{Follows}
use Rattle.octet_language.proofs.Lists.{heads, tails}
use Rattle.syslog_value.specs.Parts.{IsPrintable}
use Rattle.syslog_fields.specs.Spans.{IsRun}
use Rattle.syslog_legacy.specs.Hosts.{Host, IsNilable, SplitsRun}
use Rattle.syslog_legacy.specs.Parts.{Lacks}
use Rattle.syslog_legacy.specs.Tags.{Bracketed, IsTagOctet, Tag, TagParts, TagText}
use Rattle.syslog_legacy.specs.WideTags.{BracketedTag, EndsInColon, IsTagWord, WideHost, WideTag}
use Rattle.syslog_legacy.proofs.Hosts.{host_one}
use Rattle.syslog_legacy.proofs.Longest.{the_run, run_is, nil_one}
use Rattle.syslog_legacy.proofs.Parts.{OnePart, not_first}
use Rattle.syslog_legacy.proofs.Tags.{Behind, behind_ends, bracket, closes, closes_one, names, not_both, proc_parts}
use Rattle.syslog_legacy.proofs.Tags.{tag_one}

-- ---- a name and a process id in brackets

pub record Opens (t : TagParts) (b rest : List ℕ) : Type 0 where
  pub name : List ℕ
  pub inside : List ℕ
  pub run : IsRun IsTagOctet 48 name
  pub nilable : IsNilable t.app_name name
  pub parts : b ≡ name ++ 91 ∷ inside
  pub closed : Follows (Bracketed t.proc_id) inside rest

opens : (t : TagParts) (b rest : List ℕ) → Follows (BracketedTag t) b rest → Opens t b rest
opens t b rest (x, e, (n, y, f, (r, k), (u, v, g, h, i))) = record {
  name = n;
  inside = v ++ rest;
  run = r;
  nilable = k;
  parts = e ∙ rw (f, g, h) (append_assoc n (91 ∷ v) rest);
  closed = (v, refl, i);
}

opened : (t : TagParts) (b rest : List ℕ) → Opens t b rest → Follows (BracketedTag t) b rest
opened t b rest o =
    let v = o.closed.0 in (
      o.name ++ 91 ∷ v,
      o.parts ∙ ap (λ (k : List ℕ). o.name ++ 91 ∷ k) o.closed.1 ∙ sym (append_assoc o.name (91 ∷ v) rest),
      (o.name, 91 ∷ v, refl, (o.run, o.nilable), (91 ∷ [], v, refl, refl, o.closed.2)),
    )

-- what the run of a name leaves
record OpensBehind (t : TagParts) (run rest left : List ℕ) : Type 0 where
  pub some : IsRun IsTagOctet 48 run
  pub nilable : IsNilable t.app_name run
  pub inside : List ℕ
  pub parts : rest ≡ 91 ∷ inside
  pub closed : Follows (Bracketed t.proc_id) inside left

opens_is : (b run rest : List ℕ) (t : TagParts) (left : List ℕ) → SplitsRun IsTagOctet 48 b run rest → Opens t b left
    → OpensBehind t run rest left
opens_is b run rest t left s o =
    let same = the_run IsTagOctet 48 b run rest o.name (91 ∷ o.inside) s o.run bracket o.parts in
    record {
      some = subst (IsRun IsTagOctet 48) same.0 o.run;
      nilable = subst (IsNilable t.app_name) same.0 o.nilable;
      inside = o.inside;
      parts = sym same.1;
      closed = o.closed;
    }

no_bracketed_tag : (b run rest : List ℕ) → SplitsRun IsTagOctet 48 b run rest
    → ((t : TagParts) (left : List ℕ) → OpensBehind t run rest left → ⊥) → NoPrefix (AnyOf BracketedTag) b
no_bracketed_tag b run rest s none x y e (t, h) = none t y (opens_is b run rest t y s (opens t b y (x, e, h)))

pub no_name : (b run rest : List ℕ) → SplitsRun IsTagOctet 48 b run rest → length run ≡ 0
    → NoPrefix (AnyOf BracketedTag) b
no_name b run rest s none = no_bracketed_tag b run rest s (λ t left o. omega (arith, o.some.some, none))

pub no_opening : (b run rest : List ℕ) → SplitsRun IsTagOctet 48 b run rest → IfFirst (λ x. x ≢ 91) rest
    → NoPrefix (AnyOf BracketedTag) b
no_opening b run rest s out = no_bracketed_tag b run rest s (λ t left o. not_first 91 rest o.inside out o.parts)

pub no_inside : (b run rest inside : List ℕ) → SplitsRun IsTagOctet 48 b run rest → rest ≡ 91 ∷ inside
    → NoPrefix (AnyOf Bracketed) inside → NoPrefix (AnyOf BracketedTag) b
no_inside b run rest inside s e none =
    no_bracketed_tag b run rest s
    (λ t left o. none o.closed.0 left (tails 91 91 inside o.inside (sym e ∙ o.parts) ∙ o.closed.1)
    (t.proc_id, o.closed.2))

pub bracketed_tag_read : (b run rest inside left : List ℕ) (t : TagParts) → SplitsRun IsTagOctet 48 b run rest
    → 0 < length run → IsNilable t.app_name run → rest ≡ 91 ∷ inside → Follows (Bracketed t.proc_id) inside left
    → Follows (BracketedTag t) b left
bracketed_tag_read b run rest inside left t s some n e h =
    opened t b left (record {
      name = run;
      inside = inside;
      run = run_is IsTagOctet 48 b run rest s some;
      nilable = n;
      parts = s.parts ∙ ap (λ (k : List ℕ). run ++ k) e;
      closed = h;
    })

tag_made : Option (List ℕ) → Option (List ℕ) → TagParts
tag_made a p = record { app_name = a; proc_id = p }

tag_same : (t u : TagParts) → t.app_name ≡ u.app_name → t.proc_id ≡ u.proc_id → t ≡ u
unfolding tag_made
tag_same t u e f = let same : tag_made t.app_name t.proc_id ≡ tag_made u.app_name u.proc_id = rw (e, f) refl in same

pub bracketed_tag_one : OnePart (λ t. Follows (BracketedTag t))
bracketed_tag_one b t u x y h k =
    let o = opens t b x h in
    let split : SplitsRun IsTagOctet 48 b o.name (91 ∷ o.inside) =
    record { parts = o.parts; most = o.run.fits; octets = o.run.octets; ends = λ l. bracket } in
    let p = opens_is b o.name (91 ∷ o.inside) u y split (opens u b y k) in
    let inside : p.inside ≡ o.inside = tails 91 91 p.inside o.inside (sym p.parts) in
    let one = closes_one t.proc_id u.proc_id o.inside x y (closes t.proc_id o.inside x o.closed)
    (closes u.proc_id o.inside y (subst (λ (w : List ℕ). Follows (Bracketed u.proc_id) w y) inside p.closed)) in
    (tag_same t u (nil_one t.app_name u.app_name o.name o.nilable p.nilable) one.0, one.1)

-- ---- a tag, or NAME[PROCID] and a space

tag_not_spaced : (b : List ℕ) (t u : TagParts) (x y : List ℕ) → Tag t b x → Follows (BracketedTag u) b (32 ∷ y) → ⊥
tag_not_spaced b t u x y (v, h, k) l =
    let n = names t b v h in
    let parts = proc_parts t.proc_id n.more v n.behind in
    let out = behind_ends t.proc_id n.more v parts in
    let split : SplitsRun IsTagOctet 48 b n.name n.more =
    record { parts = n.parts; most = n.run.fits; octets = n.run.octets; ends = λ i. out } in
    let p = opens_is b n.name n.more u (32 ∷ y) split (opens u b (32 ∷ y) l) in
    apart n.more v p.inside p.parts p.closed parts
  where
    apart : (more v inside : List ℕ) → more ≡ 91 ∷ inside → Follows (Bracketed u.proc_id) inside (32 ∷ y)
        → Behind t.proc_id more v → ⊥
    apart more v inside e f (inl (none, g)) = not_both more inside v e g
    apart more v inside e f (inr (i, g, c)) =
        let same : i ≡ inside = tails 91 91 i inside (sym g ∙ e) in
        let one = closes_one t.proc_id u.proc_id i (58 ∷ v) (32 ∷ y) (closes t.proc_id i (58 ∷ v) c)
        (closes u.proc_id i (32 ∷ y)
        (subst (λ (w : List ℕ). Follows (Bracketed u.proc_id) w (32 ∷ y)) (sym same) f)) in
        omega (arith, heads 58 32 v y one.1)

pub wide_tag_one : OnePart WideTag
wide_tag_one b t u x y (inl h) (inl k) = tag_one b t u x y h k
wide_tag_one b t u x y (inl h) (inr k) = absurd (tag_not_spaced b t u x y h k)
wide_tag_one b t u x y (inr h) (inl k) = absurd (tag_not_spaced b u t y x k h)
wide_tag_one b t u x y (inr h) (inr k) =
    let one = bracketed_tag_one b t u (32 ∷ x) (32 ∷ y) h k in (one.0, tails 32 32 x y one.1)

pub no_wide_tag : (b : List ℕ) → Lacks Tag b → NoPrefix (AnyOf BracketedTag) b → Lacks WideTag b
no_wide_tag b none other t rest (inl h) = none t rest h
no_wide_tag b none other t rest (inr (x, e, h)) = other x (32 ∷ rest) e (t, h)

pub no_separator : (b after : List ℕ) (t : TagParts) → Lacks Tag b → Follows (BracketedTag t) b after
    → IfFirst (λ x. x ≢ 32) after → Lacks WideTag b
no_separator b after t none h out u rest (inl k) = none u rest k
no_separator b after t none h out u rest (inr k) =
    not_first 32 after rest out (bracketed_tag_one b t u after (32 ∷ rest) h k).1

-- ---- the word of a tag in the host's place

pub whole_word : (word rest : List ℕ) (t : TagParts) → Follows (BracketedTag t) word rest → AnyOf BracketedTag word
    → length rest ≡ 0
whole_word word rest t h (u, k) =
    ap length (bracketed_tag_one word t u rest [] h (word, sym (append-nil word), k)).1

pub word_whole : (word rest : List ℕ) (t : TagParts) → Follows (BracketedTag t) word rest → length rest ≡ 0
    → AnyOf BracketedTag word
word_whole word [] t (x, e, h) none = (t, subst (BracketedTag t) (sym (e ∙ append-nil x)) h)
word_whole word (y ∷ rest) t h none = absurd (omega (arith, none))

-- ---- the last octet of a word

snoc_last : (a b : List ℕ) (x y : ℕ) → a ++ x ∷ [] ≡ b ++ y ∷ [] → x ≡ y
snoc_last [] [] x y e = heads x y [] [] e
snoc_last [] (c ∷ b) x y e =
    absurd (omega (arith, ap length (tails x c [] (b ++ y ∷ []) e), length-append b (y ∷ [])))
snoc_last (c ∷ a) [] x y e =
    absurd (omega (arith, ap length (tails c y (a ++ x ∷ []) [] e), length-append a (x ∷ [])))
snoc_last (c ∷ a) (d ∷ b) x y e = snoc_last a b x y (tails c d (a ++ x ∷ []) (b ++ y ∷ []) e)

three_parts : (n u r : List ℕ) (x : ℕ) → n ++ (u ++ (r ++ x ∷ [])) ≡ (n ++ (u ++ r)) ++ x ∷ []
three_parts n u r x =
    sym (append_assoc n (u ++ r) (x ∷ []) ∙ ap (λ (w : List ℕ). n ++ w) (append_assoc u r (x ∷ [])))

-- a tag ends in its colon
pub tag_last : (word : List ℕ) → AnyOf TagText word → EndsInColon word
tag_last word (t, (n, y, e, h, inl (p, f))) = (n, e ∙ ap (λ (w : List ℕ). n ++ w) f)
tag_last word (t, (n, y, e, h, inr (u, v, f, k, (r, s, g, m, l)))) =
    (n ++ (u ++ r), e ∙ rw (f, g, l) (three_parts n u r 58))

pub tag_whole : (word rest : List ℕ) (t : TagParts) → EndsInColon word → Tag t word rest → length rest ≡ 0
    → AnyOf TagText word
tag_whole word (y ∷ rest) t colon h none = absurd (omega (arith, none))
tag_whole word [] t (a, e) (behind, (x, f, h), inl g) none =
    let spaced : word ≡ x ++ 32 ∷ [] = f ∙ ap (λ (w : List ℕ). x ++ w) g in
    absurd (omega (arith, snoc_last a x 58 32 (sym e ∙ spaced)))
tag_whole word [] t colon (behind, (x, f, h), inr (out, g)) none =
    let whole : word ≡ x = f ∙ ap (λ (w : List ℕ). x ++ w) (sym g) ∙ append-nil x in
    (t, subst (TagText t) (sym whole) h)

pub whole_tag : (word rest : List ℕ) (t : TagParts) → Tag t word rest → AnyOf TagText word → length rest ≡ 0
whole_tag word rest t h (u, k) =
    ap length (tag_one word t u rest [] h ([], (word, sym (append-nil word), k), inr (tt, refl))).1

pub no_tag_word : (word : List ℕ) → Lacks Tag word → ¬ (AnyOf TagText word)
no_tag_word word none (u, k) = none u [] ([], (word, sym (append-nil word), k), inr (tt, refl))

-- a name and a process id in brackets end in a bracket
pub bracket_last : (word : List ℕ) → AnyOf BracketedTag word → (before : List ℕ) × (word ≡ before ++ 93 ∷ [])
bracket_last word (t, (n, y, e, h, (u, v, f, k, (r, s, g, m, l)))) =
    (n ++ (u ++ r), e ∙ rw (f, g, l) (three_parts n u r 93))

same_run : (C : ℕ → Type 0) (n : ℕ) (x s y t : List ℕ) → AllByRecursion C x → AllByRecursion C y → length x ≤ n
    → length y ≤ n → (length x < n → IfFirst (λ z. ¬ (C z)) s) → (length y < n → IfFirst (λ z. ¬ (C z)) t)
    → x ++ s ≡ y ++ t → x ≡ y
same_run C n [] s [] t p q l m out other e = refl
same_run C n [] [] (y ∷ ys) t p q l m out other e = absurd cc
same_run C n [] (z ∷ s) (y ∷ ys) t p q l m out other e =
    absurd (out (omega arith) (subst C (sym (heads z y s (ys ++ t) e)) q.0))
same_run C n (x ∷ xs) s [] [] p q l m out other e = absurd cc
same_run C n (x ∷ xs) s [] (z ∷ t) p q l m out other e =
    absurd (other (omega arith) (subst C (heads x z (xs ++ s) t e) p.0))
same_run C n (x ∷ xs) s (y ∷ ys) t p q l m out other e =
    ap (λ (k : ℕ). k ∷ xs) (heads x y (xs ++ s) (ys ++ t) e)
    ∙ ap (λ (k : List ℕ). y ∷ k)
    (same_run C (n - 1) xs s ys t p.1 q.1 (omega arith) (omega arith) (λ h. out (omega arith))
    (λ h. other (omega arith)) (tails x y (xs ++ s) (ys ++ t) e))

same_word : (b word rest w r : List ℕ) → SplitsRun IsPrintable 255 b word rest → SplitsRun IsPrintable 255 b w r
    → w ≡ word
same_word b word rest w r s k = same_run IsPrintable 255 w r word rest k.octets s.octets k.most s.most k.ends s.ends
    (sym k.parts ∙ s.parts)

pub wide_host_one : OnePart WideHost
wide_host_one b v w s t (x, l, i, h) (y, m, j, k) = apart (same_word b y m x l j i) h k
  where
    apart : x ≡ y → (IsTagWord x × (v ≡ None) × (s ≡ b)) ⊎ (¬ (IsTagWord x) × ¬ (EndsInColon x) × Host v b s)
        → (IsTagWord y × (w ≡ None) × (t ≡ b)) ⊎ (¬ (IsTagWord y) × ¬ (EndsInColon y) × Host w b t)
        → (v ≡ w) × (s ≡ t)
    apart e (inl f) (inl g) = (f.1 ∙ sym g.1, f.2 ∙ sym g.2)
    apart e (inl f) (inr g) = absurd (g.0 (subst IsTagWord e f.0))
    apart e (inr f) (inl g) = absurd (f.0 (subst IsTagWord (sym e) g.0))
    apart e (inr f) (inr g) = host_one b v w s t f.2 g.2

-- a word that is no tag and ends in a colon
pub no_wide_host : (b word rest : List ℕ) → SplitsRun IsPrintable 255 b word rest → ¬ (IsTagWord word)
    → EndsInColon word → Lacks WideHost b
no_wide_host b word rest s none colon v end (w, r, k, inl h) = none
    (subst IsTagWord (same_word b word rest w r s k) h.0)
no_wide_host b word rest s none colon v end (w, r, k, inr h) =
    h.1 (subst EndsInColon (sym (same_word b word rest w r s k)) colon)

-- a host that was read where no such word comes first
pub host_there : {X : Type 0} (b word rest : List ℕ) (r : Option X) (p : X → Option (List ℕ)) (q : X → List ℕ)
    → SplitsRun IsPrintable 255 b word rest → ¬ (IsTagWord word) → ¬ (EndsInColon word)
    → MatchOption r (Lacks Host b) (λ x. Host (p x) b (q x))
    → MatchOption r (Lacks WideHost b) (λ x. WideHost (p x) b (q x))
host_there b word rest (Some x) p q s none free h = (word, rest, s, inr (none, free, h))
host_there b word rest None p q s none free h =
    λ v end (w, l, k, m). elim m [
      | inl g ↦ none (subst IsTagWord (same_word b word rest w l s k) g.0)
      | inr g ↦ h v end g.2
    ]
