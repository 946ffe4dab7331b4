-- A list of entries is cut into days in one way.
use Rattle.std.proofs.Common.{◌≡◌, ℕ, List, [], ◌∷◌, ◌++◌, length, refl, sym, ap, subst, ◌∙◌, arith, length-append}
use Rattle.std.specs.Prelude.{ℤ, None, Option, Some, take}
use Rattle.std.specs.List.{AllByRecursion}
use Rattle.syslog_value.proofs.CivilTimes.{civil-injective}
use Rattle.syslog_fields.specs.Canonical.{TimeForm, civil_text}
use Rattle.archive_text.specs.Periods.{IsIn, IsPeriodOf}
use Rattle.archive_text.specs.declared.period.Period.TheVariants.{Day}
use Rattle.archive_text.specs.Entries.{Entry}
use Rattle.durable_store.specs.Shares.{AreDays, CountsDay, IsDay, Leaves}

-- ---- the day of an instant

time_once : (i : ℤ) (b c : List ℕ) → TimeForm (Some i) b → TimeForm (Some i) c → b ≡ c
time_once i b c (u, uc, ui, ub) (v, vc, vi, vb) =
    ub ∙ ap civil_text (civil-injective u v uc vc (ui ∙ sym vi)) ∙ sym vb

pub day_once : (i : Option ℤ) (a b : List ℕ) → IsPeriodOf Day i a → IsPeriodOf Day i b → a ≡ b
day_once None a b h k = h ∙ sym k
day_once (Some i) a b (s, one, front) (t, other, back) = front ∙ ap (take 10) (time_once i s t one other) ∙ sym back

-- what the first octets of a time are is so of each other form of it
pub day_is_front : (i : ℤ) (time day : List ℕ) → TimeForm (Some i) time → IsPeriodOf Day (Some i) day
    → day ≡ take 10 time
day_is_front i time day form is = day_once (Some i) day (take 10 time) is (time, form, refl)

-- ---- a day

pub none_leaves : (day : List ℕ) (es : List Entry) → es ≡ [] → Leaves day es
none_leaves day es none = subst (Leaves day) (sym none) tt

pub other_leaves : (day : List ℕ) (es rest : List Entry) (e : Entry) → es ≡ e ∷ rest → ¬ (IsIn Day day e)
    → Leaves day es
other_leaves day es rest e is other = subst (Leaves day) (sym is) other

front_once : (day : List ℕ) (a r b s : List Entry) → a ++ r ≡ b ++ s → AllByRecursion (IsIn Day day) a
    → AllByRecursion (IsIn Day day) b → Leaves day r → Leaves day s → (a ≡ b) × (r ≡ s)
front_once day [] r [] s same of also ends stops = (refl, same)
front_once day [] r (y ∷ b) s same of also ends stops = absurd (subst (Leaves day) same ends also.0)
front_once day (x ∷ a) r [] s same of also ends stops = absurd (subst (Leaves day) (sym same) stops of.0)
front_once day (x ∷ a) r (y ∷ b) s same of also ends stops =
    let heads : x ≡ y = cc same in
    let tails : a ++ r ≡ b ++ s = cc same in
    let both = front_once day a r b s tails of.1 also.1 ends stops in
    (ap (λ (e : Entry). e ∷ a) heads ∙ ap (λ (l : List Entry). y ∷ l) both.0, both.1)

pub day_cut_once : (these run rest other left : List Entry) → IsDay these run rest → IsDay these other left
    → (run ≡ other) × (rest ≡ left)
day_cut_once these [] rest other left h k = absurd (omega (arith, h.some))
day_cut_once these (x ∷ a) rest [] left h k = absurd (omega (arith, k.some))
day_cut_once these (x ∷ a) rest (y ∷ b) left h k =
    let both : x ∷ (a ++ rest) ≡ y ∷ (b ++ left) = sym h.parts ∙ k.parts in
    let heads : x ≡ y = cc both in
    let day : h.day ≡ k.day =
    day_once x.instant h.day k.day h.days.0 (subst (λ (e : Entry). IsIn Day k.day e) (sym heads) k.days.0) in
    front_once h.day (x ∷ a) rest (y ∷ b) left both h.days
    (subst (λ (d : List ℕ). AllByRecursion (IsIn Day d) (y ∷ b)) (sym day) k.days) h.ends
    (subst (λ (d : List ℕ). Leaves d left) (sym day) k.ends)

-- a first entry is of the day
pub counted_day : (len : ℕ) (day : List ℕ) (first : Entry) (behind rest : List Entry) → IsIn Day day first
    → (counts : CountsDay len day first behind rest) → IsDay (first ∷ behind) (first ∷ counts.front) rest
counted_day len day first behind rest of counts = record {
  day = day;
  parts = ap (λ (l : List Entry). first ∷ l) counts.parts;
  some = omega arith;
  days = (of, counts.days);
  ends = counts.ends;
}

-- ---- all days

pub days_push : (these : List Entry) (runs : List (List Entry)) (run mid rest : List Entry) → AreDays these runs mid
    → IsDay mid run rest → AreDays these (runs ++ run ∷ []) rest
days_push these [] run mid rest is day = (rest, subst (λ (l : List Entry). IsDay l run rest) (sym is) day, refl)
days_push these (first ∷ runs) run mid rest (behind, one, more) day =
    (behind, one, days_push behind runs run mid rest more day)

none_left : (run behind : List Entry) → IsDay [] run behind → ⊥
none_left run behind day = omega (arith, day.some, ap length day.parts, length-append run behind)

pub days_once : (these : List Entry) (runs others : List (List Entry)) → AreDays these runs []
    → AreDays these others [] → runs ≡ others
days_once these [] [] h k = refl
days_once these [] (other ∷ others) h (behind, one, more) =
    absurd (none_left other behind (subst (λ (l : List Entry). IsDay l other behind) h one))
days_once these (run ∷ runs) [] (behind, one, more) k =
    absurd (none_left run behind (subst (λ (l : List Entry). IsDay l run behind) k one))
days_once these (run ∷ runs) (other ∷ others) (behind, one, more) (left, two, then) =
    let both = day_cut_once these run behind other left one two in
    let rest = days_once behind runs others more
    (subst (λ (l : List Entry). AreDays l others []) (sym both.1) then) in
    ap (λ (r : List Entry). r ∷ runs) both.0 ∙ ap (λ (rs : List (List Entry)). other ∷ rs) rest
