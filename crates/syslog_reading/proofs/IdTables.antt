-- Ids that a table tells apart by their hashes.
use Rattle.std.proofs.Common.{◌≡◌, ◌≢◌, ℕ, zero, suc, ◌+◌, ◌<◌, ◌≤◌, List, [], ◌∷◌, length, drop, set, get_or}
use Rattle.std.proofs.Common.{refl, sym, ap, subst, ◌∙◌, add-one, arith, inl, inr}
use Rattle.std.specs.List.{AllByRecursion}
use Rattle.octet_language.specs.Language.{AnyOf}
use Rattle.syslog_value.specs.Parts.{ElementParts}
use Rattle.syslog_value.specs.Structured.{HasId}
use Rattle.syslog_fields.specs.FirstElements.{SplitsElement}
use Rattle.syslog_fields.specs.Grammar.{StructuredDataText}
use Rattle.syslog_fields.specs.Spans.{ElementSpan}
use Rattle.syslog_reading.specs.IdHashes.{IsMet, HasHash, TakesHash, hash_of, place_of, tag_of}
use Rattle.syslog_reading.specs.Ids.{Known}
use Rattle.syslog_reading.proofs.Repeating.{all_end, keep, next}
use Rattle.std.proofs.Math.Seq.{drop-cons}

-- ---- the slots

-- the item at an index comes first in what is left from there on
pub drop_next : {X : Type 0} (s : List X) (i : ℕ) (d : X) → i < length s → drop i s ≡ get_or s i d ∷ drop (i + 1) s
drop_next s i d less = rw add-one (drop-cons s i d less)

set_length : (s : List ℕ) (j x : ℕ) → length (set s j x) ≡ length s
set_length [] j x = refl
set_length (y ∷ s) zero x = refl
set_length (y ∷ s) (suc j) x = ap suc (set_length s j x)

set_other : (s : List ℕ) (i j x d : ℕ) → i < j → get_or (set s j x) i d ≡ get_or s i d
set_other [] i j x d less = refl
set_other (y ∷ s) i zero x d less = absurd (omega arith)
set_other (y ∷ s) zero (suc j) x d less = refl
set_other (y ∷ s) (suc i) (suc j) x d less = set_other s i j x d (omega arith)

set_here : (s : List ℕ) (i x d : ℕ) → i < length s → get_or (set s i x) i d ≡ x
set_here [] i x d less = absurd (omega arith)
set_here (y ∷ s) zero x d less = refl
set_here (y ∷ s) (suc i) x d less = set_here s i x d (omega arith)

-- a tag that is not at an index is met behind it
pub met_past : (t : ℕ) (s : List ℕ) (i d : ℕ) → i < length s → get_or s i d ≢ t → IsMet t (drop i s)
    → IsMet t (drop (i + 1) s)
met_past t s i d less ne h = elim (subst (IsMet t) (drop_next s i d less) h) [ inl e ↦ absurd (ne e) | inr k ↦ k.1 ]

-- a slot that is not free is passed on the way to a later one
pub free_past : (t : ℕ) (s : List ℕ) (i j d : ℕ) → i < length s → get_or s i d ≢ 0 → i + 1 ≤ j
    → IsMet t (drop (i + 1) (set s j t)) → IsMet t (drop i (set s j t))
free_past t s i j d less ne after h =
    subst (IsMet t) (sym (drop_next (set s j t) i d (subst (λ (n : ℕ). i < n) (sym (set_length s j t)) less)))
    (inr (λ e. ne (sym (set_other s i j t d (omega arith)) ∙ e), h))

not_met : (t : ℕ) (s : List ℕ) (i d : ℕ) → i < length s → get_or s i d ≡ 0 → t ≢ 0 → ¬ (IsMet t (drop i s))
not_met t s i d less free some h = elim (subst (IsMet t) (drop_next s i d less) h) [
  | inl e ↦ some (sym e ∙ free)
  | inr k ↦ k.0 free
]

met_here : (t : ℕ) (s : List ℕ) (i d : ℕ) → i < length s → IsMet t (drop i (set s i t))
met_here t s i d less =
    subst (IsMet t) (sym (drop_next (set s i t) i d (subst (λ (n : ℕ). i < n) (sym (set_length s i t)) less)))
    (inl (set_here s i t d less))

stays_met : (s : List ℕ) (i u t d : ℕ) → u ≢ 0 → get_or s i d ≡ 0 → IsMet u s → IsMet u (set s i t)
stays_met [] i u t d some free h = h
stays_met (x ∷ s) zero u t d some free (inl e) = absurd (some (sym e ∙ free))
stays_met (x ∷ s) zero u t d some free (inr k) = absurd (k.0 free)
stays_met (x ∷ s) (suc i) u t d some free (inl e) = inl e
stays_met (x ∷ s) (suc i) u t d some free (inr k) = inr (k.0, stays_met s i u t d some free k.1)

stays : (p : ℕ) (s : List ℕ) (i u t d : ℕ) → u ≢ 0 → get_or s i d ≡ 0 → IsMet u (drop p s)
    → IsMet u (drop p (set s i t))
stays zero s i u t d some free h = stays_met s i u t d some free h
stays (suc p) [] i u t d some free h = h
stays (suc p) (x ∷ s) zero u t d some free h = h
stays (suc p) (x ∷ s) (suc i) u t d some free h = stays p s i u t d some free h

tag_some : (hash : ℕ) → tag_of hash ≢ 0
unfolding tag_of
tag_some hash e = absurd (omega (arith, e))

-- how far a tag was sought: it is not among the slots that were passed, and none of them is free
pub record Sought (tag start i : ℕ) (slots : List ℕ) : Type 0 where
  pub passed : IsMet tag (drop start slots) → IsMet tag (drop i slots)
  pub full : (j : ℕ) → i ≤ j → IsMet tag (drop i (set slots j tag)) → IsMet tag (drop start (set slots j tag))

pub sought_none : (tag start : ℕ) (slots : List ℕ) → Sought tag start start slots
sought_none tag start slots = record { passed = λ h. h; full = λ j within h. h }

pub sought_more : (tag start i d : ℕ) (slots : List ℕ) → i < length slots → get_or slots i d ≢ 0
    → get_or slots i d ≢ tag → Sought tag start i slots → Sought tag start (i + 1) slots
sought_more tag start i d slots less some ne s = record {
  passed = λ h. met_past tag slots i d less ne (s.passed h);
  full = λ j within h. s.full j (omega (arith, within)) (free_past tag slots i j d less some within h);
}

-- the first free slot takes the tag
pub taken : (room hash tag start i d : ℕ) (slots : List ℕ) → start ≡ place_of room hash → tag ≡ tag_of hash
    → i < length slots → get_or slots i d ≡ 0 → Sought tag start i slots
    → TakesHash room hash slots (set slots i tag)
taken room hash tag start i d slots at is less free s = record {
  new = subst (λ (t : ℕ). ¬ (IsMet t (drop (place_of room hash) slots))) is
      (subst (λ (p : ℕ). ¬ (IsMet tag (drop p slots))) at
      (λ h. not_met tag slots i d less free (λ e. tag_some hash (sym is ∙ e)) (s.passed h)));
  has = subst (λ (t : ℕ). IsMet t (drop (place_of room hash) (set slots i tag))) is
      (subst (λ (p : ℕ). IsMet tag (drop p (set slots i tag))) at
      (s.full i (omega arith) (met_here tag slots i d less)));
  keeps = λ other h. stays (place_of room other) slots i (tag_of other) tag d (tag_some other) free h;
}

-- ---- the ids

-- what was read, with distinct ids, whose hashes the table has
pub record Held (m room : ℕ) (slots text rest : List ℕ) : Type 0 where
  pub known : Known text rest
  pub held : AllByRecursion (λ e. HasHash room (hash_of m e.id) slots) known.before

pub held_none : (m room : ℕ) (slots text : List ℕ) → AnyOf StructuredDataText text → Held m room slots text text
held_none m room slots text ([], h) = record {
  known =
      record { prefix = []; before = []; parts = refl; each = refl; distinct = tt; more = inr (refl, h) };
  held = tt;
}
held_none m room slots text (e ∷ es, h) = record {
  known =
      record { prefix = []; before = []; parts = refl; each = refl; distinct = tt; more = inl (e ∷ es, h) };
  held = tt;
}

none_held : (m room : ℕ) (slots id : List ℕ) (es : List ElementParts)
    → AllByRecursion (λ e. HasHash room (hash_of m e.id) slots) es → ¬ (HasHash room (hash_of m id) slots)
    → ¬ (HasId id es)
none_held m room slots id [] h new k = k
none_held m room slots id (e ∷ es) h new (inl same) =
    new (subst (λ (i : List ℕ). HasHash room (hash_of m i) slots) same h.0)
none_held m room slots id (e ∷ es) h new (inr k) = none_held m room slots id es h.1 new k

still_held : (m room : ℕ) (slots after : List ℕ) (es : List ElementParts)
    → ((other : ℕ) → HasHash room other slots → HasHash room other after)
    → AllByRecursion (λ e. HasHash room (hash_of m e.id) slots) es
    → AllByRecursion (λ e. HasHash room (hash_of m e.id) after) es
still_held m room slots after [] keeps h = tt
still_held m room slots after (e ∷ es) keeps h =
    (keeps (hash_of m e.id) h.0, still_held m room slots after es keeps h.1)

-- an id whose hash the table did not have
pub held_more : (m room : ℕ) (slots after text rest behind t : List ℕ) (x : ℕ) (v : ElementSpan) → rest ≡ x ∷ t
    → x ≡ 91 → SplitsElement rest v behind → TakesHash room (hash_of m v.id) slots after → Held m room slots text rest
    → Held m room after text behind
held_more m room slots after text rest behind t x v e g f k s =
    let n = next text rest behind t x v e g f s.known in
    record {
      known = keep text rest behind v s.known n (none_held m room slots v.id s.known.before s.held k.new);
      held = all_end (λ e. HasHash room (hash_of m e.id) after) s.known.before n.element
          (still_held m room slots after s.known.before k.keeps s.held)
          (subst (λ (id : List ℕ). HasHash room (hash_of m id) after) (sym n.split.same) k.has);
    }
