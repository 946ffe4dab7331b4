-- One entry more is counted.
use Rattle.std.proofs.Common.{◌≡◌, ℕ, ◌+◌, ◌-◌, ◌^◌, ◌≤◌, ◌<◌, List, [], ◌∷◌, ◌++◌, Option, None, Some, length, min, inl, inr}
use Rattle.std.proofs.Common.{refl, sym, ap, subst, ◌∙◌, arith}
use Rattle.std.specs.Prelude.{ℤ}
use Rattle.std.proofs.lemmas.List.{length-append, map-append}
use Rattle.octet_devices.specs.Held.{counted}
use Rattle.archive_text.specs.Entries.{Entry, Has}
use Rattle.archive_counts.specs.Tallies.{AreUndated, HasInstant, IsEarliest, IsLatest}
use Rattle.store_statistics.specs.Tallies.{AreFigures, IsTallyOf, times_of}
use Rattle.store_statistics.specs.Times.{HasTime, IsEarlier, IsFirstOf, IsLastOf, IsLater}
use Rattle.store_statistics.specs.declared.figures.Figures.{Figures}
use Rattle.store_statistics.specs.declared.tally.Tally.{Tally}
use Rattle.store_statistics.proofs.Timing.{first_more, last_more}

counted_more : (most n records later : ℕ) → records ≡ min n most → later ≡ min (records + 1) most
    → later ≡ min (n + 1) most
counted_more most n records later one two = omega arith

times_push : (es : List Entry) (e : Entry) → times_of (es ++ e ∷ []) ≡ times_of es ++ e.instant ∷ []
times_push es e = map-append (λ (x : Entry). x.instant) es (e ∷ [])

pub tally_more : (s t : Tally) (es : List Entry) (e : Entry) → t.records ≡ min (s.records + 1) (2 ^ 64 - 1)
    → IsEarlier s.first e.instant t.first → IsLater s.last e.instant t.last → IsTallyOf s es
    → IsTallyOf t (es ++ e ∷ [])
tally_more s t es e records first last h = record {
  records = counted_more (2 ^ 64 - 1) (length es) s.records t.records h.records records
      ∙ ap counted (sym (length-append es (e ∷ [])));
  first = subst (λ (ts : List (Option ℤ)). IsFirstOf ts t.first) (sym (times_push es e))
      (first_more (times_of es) e.instant s.first t.first first h.first);
  last = subst (λ (ts : List (Option ℤ)). IsLastOf ts t.last) (sym (times_push es e))
      (last_more (times_of es) e.instant s.last t.last last h.last);
}

-- ---- the times of entries

has_instant : (es : List Entry) (i : ℤ) → HasTime (times_of es) i → HasInstant es i
has_instant [] i h = absurd h
has_instant (e ∷ es) i (inl is) = record { entry = e; among = inl refl; is = is }
has_instant (e ∷ es) i (inr more) =
    let h = has_instant es i more in
    record { entry = h.entry; among = inr h.among; is = h.is }

time_of : (es : List Entry) (x : Entry) (i : ℤ) → Has es x → x.instant ≡ Some i → HasTime (times_of es) i
time_of [] x i has is = absurd has
time_of (e ∷ es) x i (inl same) is = inl (ap (λ (y : Entry). y.instant) same ∙ is)
time_of (e ∷ es) x i (inr more) is = inr (time_of es x i more is)

are_undated : (es : List Entry) → ((i : ℤ) → HasTime (times_of es) i → ⊥) → AreUndated es
are_undated es none e has = at e.instant refl
  where
    at : (o : Option ℤ) → e.instant ≡ o → e.instant ≡ None
    at None is = is
    at (Some i) is = absurd (none i (time_of es e i has is))

is_earliest : (es : List Entry) (t : Option ℤ) → IsFirstOf (times_of es) t → IsEarliest es t
is_earliest es None h = are_undated es h
is_earliest es (Some i) h = (has_instant es i h.0, λ j k. h.1 j (time_of es k.entry j k.among k.is))

is_latest : (es : List Entry) (t : Option ℤ) → IsLastOf (times_of es) t → IsLatest es t
is_latest es None h = are_undated es h
is_latest es (Some i) h = (has_instant es i h.0, λ j k. h.1 j (time_of es k.entry j k.among k.is))

exact_of : (n most large is : ℕ) → is ≡ min n large → n ≤ most → most ≤ large → is ≡ n
exact_of n most large is at few fits = omega arith

-- the figures of a file that is not too long
pub are_figures : (f : Figures) (es : List Entry) (size : ℕ) → IsTallyOf f.tally es → f.octets ≡ size
    → length es ≤ size → size < 2 ^ 64 → AreFigures f es size
are_figures f es size tally octets few short = record {
  records = exact_of (length es) (2 ^ 64 - 1) (2 ^ 64 - 1) f.tally.records tally.records (omega (arith, few, short))
      (omega arith);
  octets_are = octets;
  first = is_earliest es f.tally.first tally.first;
  last = is_latest es f.tally.last tally.last;
}
