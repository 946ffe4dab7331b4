-- A host is what the run of printable octets and the octet behind it say.
use Rattle.std.proofs.Common.{◌≡◌, ◌≢◌, ℕ, ◌<◌, List, [], ◌∷◌, ◌++◌, length, refl, sym, ap, subst, ◌∙◌, arith, inl, inr}
use Rattle.std.proofs.Common.{append-nil, append_assoc}
use Rattle.std.specs.Prelude.{Option, ◌⊎◌}
use Rattle.octet_language.specs.Language.{IfFirst}
use Rattle.octet_language.proofs.Lists.{tails}
use Rattle.syslog_value.specs.Parts.{IsPrintable}
use Rattle.syslog_fields.specs.Spans.{IsRun}
use Rattle.syslog_legacy.specs.Hosts.{Host, IsNilable, SplitsRun}
use Rattle.syslog_legacy.specs.Parts.{Lacks}
use Rattle.syslog_legacy.proofs.Longest.{the_run, run_is, nil_one}

space : ¬ (IsPrintable 32)
space h = omega (arith, h.0)

-- what a host leaves begins with no printable octet
tail_of : List ℕ → List ℕ → List ℕ → Type 0
tail_of b text rest = (more : List ℕ) × (b ≡ text ++ more) × IfFirst (λ x. ¬ (IsPrintable x)) more
    × ((more ≡ 32 ∷ rest) ⊎ ((more ≡ []) × (rest ≡ [])))

tail : (b text rest : List ℕ) → (b ≡ text ++ 32 ∷ rest) ⊎ ((b ≡ text) × (rest ≡ [])) → tail_of b text rest
unfolding tail_of
tail b text rest (inl e) = (32 ∷ rest, e, space, inl refl)
tail b text rest (inr (e, f)) = ([], e ∙ sym (append-nil text), tt, inr (refl, f))

-- the run is the host, and what follows the run is a space, or nothing
pub host_is : (b run rest : List ℕ) (host : Option (List ℕ)) (left : List ℕ) → SplitsRun IsPrintable 255 b run rest
    → Host host b left
    → IsRun IsPrintable 255 run × IsNilable host run × ((rest ≡ 32 ∷ left) ⊎ ((rest ≡ []) × (left ≡ [])))
unfolding tail_of
host_is b run rest host left s (text, (r, n), e) =
    let t = tail b text left e in
    let same = the_run IsPrintable 255 b run rest text t.0 s r t.2 t.1 in (
      subst (IsRun IsPrintable 255) same.0 r,
      subst (IsNilable host) same.0 n,
      subst (λ (k : List ℕ). (k ≡ 32 ∷ left) ⊎ ((k ≡ []) × (left ≡ []))) same.1 t.3,
    )

pub no_host_empty : (b run rest : List ℕ) → SplitsRun IsPrintable 255 b run rest → length run ≡ 0 → Lacks Host b
no_host_empty b run rest s none v left h = let k = host_is b run rest v left s h in omega (arith, k.0.some)

pub no_host_behind : (b run rest : List ℕ) → SplitsRun IsPrintable 255 b run rest → 0 < length rest
    → IfFirst (λ x. x ≢ 32) rest → Lacks Host b
no_host_behind b run rest s some out v left h =
    let k = host_is b run rest v left s h in
    elim k.2 [
      | inl e ↦ (let f : IfFirst (λ x. x ≢ 32) (32 ∷ left) = subst (IfFirst (λ x. x ≢ 32)) e out in f refl)
      | inr e ↦ omega (arith, some, ap length e.0)
    ]

pub host_space : (b run rest left : List ℕ) (host : Option (List ℕ)) → SplitsRun IsPrintable 255 b run rest
    → 0 < length run → rest ≡ 32 ∷ left → IsNilable host run → Host host b left
host_space b run rest left host s some e n =
    (run, (run_is IsPrintable 255 b run rest s some, n), inl (s.parts ∙ ap (λ (k : List ℕ). run ++ k) e))

pub host_end : (b run rest : List ℕ) (host : Option (List ℕ)) → SplitsRun IsPrintable 255 b run rest → 0 < length run
    → length rest ≡ 0 → IsNilable host run → Host host b rest
host_end b run [] host s some e n = (
  run,
  (run_is IsPrintable 255 b run [] s some, n),
  inr (s.parts ∙ append-nil run, refl),
)
host_end b run (x ∷ rest) host s some e n = absurd (omega (arith, e))

-- octets have one host at most
pub host_one : (b : List ℕ) (v w : Option (List ℕ)) (s t : List ℕ) → Host v b s → Host w b t → (v ≡ w) × (s ≡ t)
unfolding tail_of
host_one b v w s t (text, (r, n), e) k =
    let h = tail b text s e in
    let m = host_is b text h.0 w t (record { parts = h.1; most = r.fits; octets = r.octets; ends = λ x. h.2 }) k in
    (nil_one v w text n m.1, rests h.0 h.3 m.2)
  where
    rests : (more : List ℕ) → (more ≡ 32 ∷ s) ⊎ ((more ≡ []) × (s ≡ [])) → (more ≡ 32 ∷ t) ⊎ ((more ≡ []) × (t ≡ []))
        → s ≡ t
    rests more (inl f) (inl g) = tails 32 32 s t (sym f ∙ g)
    rests more (inl f) (inr g) = absurd (let i : ◌≡◌ {A = List ℕ} (32 ∷ s) [] = sym f ∙ g.0 in cc)
    rests more (inr f) (inl g) = absurd (let i : ◌≡◌ {A = List ℕ} [] (32 ∷ t) = sym f.0 ∙ g in cc)
    rests more (inr f) (inr g) = f.1 ∙ sym g.1

-- what a host leaves is the end of the octets
pub host_suffix : (b : List ℕ) (v : Option (List ℕ)) (rest : List ℕ) → Host v b rest → (x : List ℕ) × (b ≡ x ++ rest)
host_suffix b v rest (text, n, inl e) = (text ++ 32 ∷ [], e ∙ sym (append_assoc text (32 ∷ []) rest))
host_suffix b v rest (text, n, inr (e, f)) = (text, e ∙ sym (append-nil text) ∙ ap (λ (k : List ℕ). text ++ k) (sym f))
