-- The run at the front of octets is the one text of its class there.
use Rattle.std.proofs.Common.{◌≡◌, ℕ, ◌-◌, ◌<◌, ◌≤◌, List, [], ◌∷◌, ◌++◌, length, refl, sym, ap, subst, ◌∙◌, arith}
use Rattle.std.specs.Prelude.{Option, Some, None}
use Rattle.std.specs.List.{AllByRecursion}
use Rattle.std.proofs.lemmas.List.{append_cancel_left}
use Rattle.octet_language.specs.Language.{IfFirst}
use Rattle.octet_language.proofs.Lists.{heads, tails}
use Rattle.syslog_fields.specs.Spans.{IsRun}
use Rattle.syslog_legacy.specs.Hosts.{IsNilable, SplitsRun}

-- the octets of a class that come first, n at most, are the longest such prefix
longest : (C : ℕ → Type 0) (n : ℕ) (run rest text more : List ℕ) → AllByRecursion C run
    → (length run < n → IfFirst (λ x. ¬ (C x)) rest)
    → AllByRecursion C text → length text ≤ n → IfFirst (λ x. ¬ (C x)) more → text ++ more ≡ run ++ rest → text ≡ run
longest C n [] rest [] more p ends q fits out e = refl
longest C n (y ∷ run) rest [] [] p ends q fits out e = absurd cc
longest C n (y ∷ run) rest [] (x ∷ more) p ends q fits out e =
    absurd (out (subst C (sym (heads x y more (run ++ rest) e)) p.0))
longest C n [] [] (x ∷ text) more p ends q fits out e = absurd cc
longest C n [] (y ∷ rest) (x ∷ text) more p ends q fits out e =
    absurd (ends (omega arith) (subst C (heads x y (text ++ more) rest e) q.0))
longest C n (y ∷ run) rest (x ∷ text) more p ends q fits out e =
    ap (λ (k : ℕ). k ∷ text) (heads x y (text ++ more) (run ++ rest) e)
    ∙ ap (λ (k : List ℕ). y ∷ k)
    (longest C (n - 1) run rest text more p.1 (λ h. ends (omega arith)) q.1 (omega arith) out
    (tails x y (text ++ more) (run ++ rest) e))

-- a run that no octet of its class follows is the run at the front
pub the_run : (C : ℕ → Type 0) (n : ℕ) (b run rest text more : List ℕ) → SplitsRun C n b run rest → IsRun C n text
    → IfFirst (λ x. ¬ (C x)) more → b ≡ text ++ more
    → (text ≡ run) × (more ≡ rest)
the_run C n b run rest text more s r out e =
    let whole : text ++ more ≡ run ++ rest = sym e ∙ s.parts in
    let same = longest C n run rest text more s.octets s.ends r.octets r.fits out whole in
    (same, append_cancel_left text more rest (whole ∙ ap (λ (k : List ℕ). k ++ rest) (sym same)))

pub run_is : (C : ℕ → Type 0) (n : ℕ) (b run rest : List ℕ) → SplitsRun C n b run rest → 0 < length run → IsRun C n run
run_is C n b run rest s some = record { some = some; fits = s.most; octets = s.octets }

pub nil_one : (v w : Option (List ℕ)) (b : List ℕ) → IsNilable v b → IsNilable w b → v ≡ w
nil_one None None b h k = refl
nil_one None (Some w) b h k = absurd (k.0 h)
nil_one (Some v) None b h k = absurd (h.0 k)
nil_one (Some v) (Some w) b h k = ap Some (sym h.1 ∙ k.1)
