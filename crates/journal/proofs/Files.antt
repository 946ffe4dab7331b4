-- What a crash leaves of a journal's file.
use Rattle.std.proofs.Common.{◌≡◌, ⊎_elim, ℕ, suc, ◌+◌, ◌<◌, ◌≤◌, List, [], ◌∷◌, ◌++◌, length, get_or, take, drop, refl}
use Rattle.std.proofs.Common.{sym, ◌∙◌, ap, subst, arith, length-append, take-append-drop}
use Rattle.std.proofs.lemmas.Bool.{cases_eq}
use Rattle.std.proofs.lemmas.List.{length-set, length-take}
use Rattle.std.proofs.lemmas.List.{ext_get_or, length-take-le, get_or-take, get_or_at, get_or-set_other, set_at}
use Rattle.disk.specs.Files.{File, IsNoneOf, MayBecome, settled, overwritten}

-- what is synced and was not written over is there
pub front_stays : (file : File) (front c : List ℕ) → length front ≤ file.synced → file.rewritten ≡ []
    → take (length front) file.shown ≡ front → MayBecome file c → c ≡ front ++ drop (length front) c
front_stays file front c synced none shows may =
    let n = length front in
    let whole : n ≤ length file.shown = omega (arith, ap length shows, length-take n file.shown) in
    let long : n ≤ length c = omega (arith, may.no_shorter, synced, whole) in
    let each : (i : ℕ) → i < length (take n c) → get_or (take n c) i 0 ≡ get_or front i 0 = λ i within.
    let below : i < n = omega (arith, within, length-take-le n c long) in
    let apart : IsNoneOf file.rewritten i = subst (λ (l : List ℕ). IsNoneOf l i) (sym none) tt in
    let under : i < file.synced = omega (arith, below, synced) in
    get_or-take n c i 0 below ∙ may.kept i under apart ∙ sym (get_or-take n file.shown i 0 below) ∙ ap
    (λ (l : List ℕ). get_or l i 0) shows in
    sym (take-append-drop n c) ∙ ap (λ (l : List ℕ). l ++ drop n c)
    (ext_get_or 0 (take n c) front (length-take-le n c long) each)

module _ (front : List ℕ) (gate octet : ℕ) (behind c : List ℕ)
    (may : MayBecome (overwritten (length front) octet (settled (front ++ gate ∷ behind))) c) where
  size : length (front ++ gate ∷ behind) ≡ length front + suc (length behind)
  size = length-append front (gate ∷ behind)

  long : length c ≡ length front + suc (length behind)
  long = omega (arith, size, length-set (front ++ gate ∷ behind) (length front) octet, may.no_shorter, may.no_longer)

  each : (i : ℕ) → i < length c → get_or c i 0 ≡ get_or (front ++ get_or c (length front) 0 ∷ behind) i 0
  each i within = ⊎_elim
      (λ is. ap (λ (n : ℕ). get_or c n 0) is ∙ sym (get_or_at front (get_or c (length front) 0) behind 0 i (sym is)))
      (λ apart.
      may.kept i (omega (arith, within, long, size)) (apart, tt)
      ∙ get_or-set_other (front ++ gate ∷ behind) (length front) i octet 0 apart
      ∙ sym (get_or-set_other (front ++ gate ∷ behind) (length front) i (get_or c (length front) 0) 0 apart)
      ∙ ap (λ (l : List ℕ). get_or l i 0) (set_at front gate behind (get_or c (length front) 0) (length front) refl))
      (cases_eq i (length front))

  -- all but the octet that was written over is there
  pub all_but_one : c ≡ front ++ get_or c (length front) 0 ∷ behind
  all_but_one = ext_get_or 0 c (front ++ get_or c (length front) 0 ∷ behind)
      (long ∙ sym (length-append front (get_or c (length front) 0 ∷ behind))) each
