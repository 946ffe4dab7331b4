-- One file more is summed.
use Rattle.std.proofs.Common.{◌≡◌, ℕ, ◌+◌, ◌-◌, ◌^◌, ◌<◌, List, [], ◌∷◌, ◌++◌, Option, length, min, get_or, take, sym, ap}
use Rattle.std.proofs.Common.{subst, ◌∙◌, arith}
use Rattle.std.specs.Prelude.{ℤ}
use Rattle.std.proofs.lemmas.List.{map-append, take_more}
use Rattle.store_statistics.specs.Sums.{AreSums, firsts, lasts, octets_in, records_in}
use Rattle.store_statistics.specs.Times.{IsEarlier, IsFirstOf, IsLastOf, IsLater}
use Rattle.store_statistics.specs.declared.figures.FileFigures.{FileFigures}
use Rattle.store_statistics.specs.declared.figures.Figures.{Figures}
use Rattle.store_statistics.proofs.Timing.{first_more, last_more}

records_push : (fs : List FileFigures) (f : FileFigures)
    → records_in (fs ++ f ∷ []) ≡ records_in fs + f.figures.tally.records
records_push [] f = omega arith
records_push (x ∷ fs) f = let more = records_push fs f in omega (arith, more)

octets_push : (fs : List FileFigures) (f : FileFigures) → octets_in (fs ++ f ∷ []) ≡ octets_in fs + f.figures.octets
octets_push [] f = omega arith
octets_push (x ∷ fs) f = let more = octets_push fs f in omega (arith, more)

sum_more : (most a b was is all : ℕ) → was ≡ min a most → is ≡ min (was + b) most → all ≡ a + b → is ≡ min all most
sum_more most a b was is all one two both = omega arith

-- what a call that adds a file did
pub record Adds (s t : Figures) (f : Figures) : Type 0 where
  pub records : t.tally.records ≡ min (s.tally.records + f.tally.records) (2 ^ 64 - 1)
  pub octets : t.octets ≡ min (s.octets + f.octets) (2 ^ 64 - 1)
  pub first : IsEarlier s.tally.first f.tally.first t.tally.first
  pub last : IsLater s.tally.last f.tally.last t.tally.last

pub sums_more : (fs : List FileFigures) (f : FileFigures) (s t : Figures) → Adds s t f.figures → AreSums fs s
    → AreSums (fs ++ f ∷ []) t
sums_more fs f s t a h = record {
  records = sum_more (2 ^ 64 - 1) (records_in fs) f.figures.tally.records s.tally.records t.tally.records
      (records_in (fs ++ f ∷ [])) h.records a.records (records_push fs f);
  octets = sum_more (2 ^ 64 - 1) (octets_in fs) f.figures.octets s.octets t.octets (octets_in (fs ++ f ∷ [])) h.octets
      a.octets (octets_push fs f);
  first = subst (λ (ts : List (Option ℤ)). IsFirstOf ts t.tally.first)
      (sym (map-append (λ (x : FileFigures). x.figures.tally.first) fs (f ∷ [])))
      (first_more (firsts fs) f.figures.tally.first s.tally.first t.tally.first a.first h.first);
  last = subst (λ (ts : List (Option ℤ)). IsLastOf ts t.tally.last)
      (sym (map-append (λ (x : FileFigures). x.figures.tally.last) fs (f ∷ [])))
      (last_more (lasts fs) f.figures.tally.last s.tally.last t.tally.last a.last h.last);
}

pub sums_next : (fs : List FileFigures) (i : ℕ) (f : FileFigures) (s t : Figures) → i < length fs → f ≡ get_or fs i f
    → (AreSums (take i fs) s → AreSums (take i fs ++ f ∷ []) t) → AreSums (take i fs) s → AreSums (take (i + 1) fs) t
sums_next fs i f s t within is more h =
    subst (λ (l : List FileFigures). AreSums l t)
    (sym (take_more fs i f within ∙ ap (λ (x : FileFigures). take i fs ++ x ∷ []) (sym is))) (more h)
