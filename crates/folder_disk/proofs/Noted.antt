-- Which run of the system a note names.
use Rattle.std.proofs.Common.{◌≡◌, ◌≢◌, ◌++◌, ◌∷◌, [], List, ℕ, ap, sym, subst, ◌∙◌, append_assoc}
use denote.Bor.{Bor}
use Rattle.std.specs.Prelude.{IfNone, IfSome, MatchOption, None, Option, Some, codes}
use Rattle.std.proofs.lemmas.List.{append_cancel_left, append_cancel_right}
use Rattle.folder_disk.specs.Boots.{IsOfOtherRun, IsOtherRun, failed_note}

pub named_some : (note word rest ending : List ℕ) (r : Option (Bor (List ℕ))) → note ≡ word ++ rest
    → ending ≡ 10 ∷ [] → MatchOption r ((front : List ℕ) → rest ≢ front ++ ending) (λ x. rest ≡ x.now ++ ending)
    → IfSome r (λ named. note ≡ word ++ named.now ++ 10 ∷ [])
named_some note word rest ending None is end found = tt
named_some note word rest ending (Some named) is end found =
    is ∙ ap (λ (l : List ℕ). word ++ l) (found ∙ ap (λ (l : List ℕ). named.now ++ l) end)
    ∙ sym (append_assoc word named.now (10 ∷ []))

-- another word is at the front
pub named_none : (note word : List ℕ) (r : Option (Bor (List ℕ))) → ((rest : List ℕ) → note ≢ word ++ rest)
    → IfNone r ((named : List ℕ) → note ≢ word ++ named ++ 10 ∷ [])
named_none note word None other = λ named is. other (named ++ 10 ∷ []) (is ∙ append_assoc word named (10 ∷ []))
named_none note word (Some named) other = tt

-- a note names one run
pub other_run : (note named boot : List ℕ) → note ≡ failed_note named
    → (IsOtherRun named boot → IsOfOtherRun note boot) × (IsOfOtherRun note boot → IsOtherRun named boot)
other_run note named boot is = (
  λ other. (named, other, is),
  λ found. subst (λ (n : List ℕ). IsOtherRun n boot)
      (append_cancel_left (codes "failed ") found.0 named
      (append_cancel_right (codes "failed " ++ found.0) (codes "failed " ++ named) (10 ∷ []) (sym found.2 ∙ is)))
      found.1,
)
