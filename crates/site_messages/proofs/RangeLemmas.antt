-- Ranges and parts are read.
use Rattle.std.proofs.Common.{ℕ, List, [], ◌∷◌, ◌++◌, refl}
use Rattle.std.specs.Prelude.{Result, Ok, Err}
use Rattle.site_messages.specs.Reading.{IsWhole, Reads}
use Rattle.site_messages.specs.declared.gap.Gap.{Gap}
use Rattle.reconcile.specs.declared.range.Range.{Range}
use Rattle.reconcile.specs.declared.sum.Sum.{Sum}
use Rattle.reconcile.specs.declared.part.Part.{Part}
use Rattle.site_messages.specs.Words.{IsDigest, IsNumber, digest_text, number_text, only_text}
use Rattle.site_messages.specs.Texts.{IsBounds, IsHigh, IsPart, IsPlace, IsSum, bounds_text, high_text, place_and}
use Rattle.site_messages.specs.Texts.{sum_text, told_text}
use Rattle.site_messages.proofs.Wholes.{Splits, both_same, both_whole, second_gap}

pub bounds_splits : Splits IsBounds bounds_text IsPlace (place_and (32 ∷ [])) IsHigh high_text
    (λ (r : Range). r.low) (λ (r : Range). r.high)
bounds_splits = record {
  text_is = λ u. refl;
  first = λ u h. h.low;
  second = λ u h. h.high;
  both = λ u h k. record { low = h; high = k };
  same = λ u w e k. both_same (λ l h. record { low = l; high = h }) u.low w.low u.high w.high e k;
}

-- a word before a value
pub behind_word : {V : Type 0} (In : V → Type 0) (text : V → List ℕ) (word : List ℕ)
    → Splits In (λ v. word ++ text v) (λ (u : Unit {0}). Unit {0}) (only_text word) In text (λ (v : V). tt {0}) (λ (v : V). v)
behind_word In text word = record {
  text_is = λ u. refl;
  first = λ u h. tt;
  second = λ u h. h;
  both = λ u h k. k;
  same = λ u w e k. k;
}

pub reads_behind : {V X : Type 0} (In : V → Type 0) (text : V → List ℕ) (word : List ℕ) (view : X → V) (rest : X → List ℕ)
    (b behind : List ℕ) (r : Result X Gap) → IsWhole (λ (u : Unit {0}). Unit {0}) (only_text word) b tt behind
    → Reads In text view rest behind r → Reads In (λ v. word ++ text v) view rest b r
reads_behind In text word view rest b behind (Ok x) h k =
    both_whole _ _ _ _ _ _ _ _ (behind_word In text word) (view x) b behind (rest x) h k
reads_behind In text word view rest b behind (Err gap) h k =
    second_gap _ _ _ _ _ _ _ _ (behind_word In text word) b behind tt gap h k

-- a length and a digest
abbrev pub IsRest : ℕ × List ℕ → Type 0
IsRest x = IsNumber x.0 × IsDigest x.1

abbrev pub rest_text : ℕ × List ℕ → List ℕ
rest_text x = number_text x.0 ++ digest_text x.1

pub rest_splits : Splits IsRest rest_text IsNumber number_text IsDigest digest_text (λ (x : ℕ × List ℕ). x.0)
    (λ (x : ℕ × List ℕ). x.1)
rest_splits = record {
  text_is = λ u. refl;
  first = λ u h. h.0;
  second = λ u h. h.1;
  both = λ u h k. (h, k);
  same = λ u w e k. both_same (λ a b. (a, b)) u.0 w.0 u.1 w.1 e k;
}

pub sum_splits : Splits IsSum sum_text IsNumber number_text IsRest rest_text (λ (s : Sum). s.records)
    (λ (s : Sum). (s.octets, s.digest))
sum_splits = record {
  text_is = λ u. refl;
  first = λ u h. h.records;
  second = λ u h. (h.octets, h.digest);
  both = λ u h k. record { records = h; octets = k.0; digest = k.1 };
  same = λ u w e k.
      both_same (λ (n : ℕ) (x : ℕ × List ℕ). record { records = n; octets = x.0; digest = x.1 }) u.records w.records
      (u.octets, u.digest) (w.octets, w.digest) e k;
}

pub told_splits : Splits IsPart told_text IsSum sum_text IsBounds bounds_text (λ (p : Part). p.sum) (λ (p : Part). p.range)
told_splits = record {
  text_is = λ u. refl;
  first = λ u h. h.sum;
  second = λ u h. h.bounds;
  both = λ u h k. record { sum = h; bounds = k };
  same = λ u w e k. both_same (λ s r. record { sum = s; range = r }) u.sum w.sum u.range w.range e k;
}
