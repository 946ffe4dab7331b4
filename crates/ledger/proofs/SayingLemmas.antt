-- A line says one thing, so that ledgers with the same lines say the same.
use Rattle.std.proofs.Common.{◌≡◌, ℕ, ◌+◌, List, [], ◌∷◌, ◌++◌, codes, get_or, refl, sym, ap, subst, ◌∙◌, append_assoc, arith, inl, inr}
use Rattle.std.specs.Prelude.{◌⊎◌, decimal}
use Rattle.std.proofs.lemmas.Fmt.{decimal_injective}
use Rattle.ledger.specs.Chains.{ChainsFrom, Continues, IsLedger, start}
use Rattle.ledger.specs.Laws.{Collide, GoesOn, LedgersGoOn}
use Rattle.ledger.specs.Lines.{IsEvent, IsLine, IsRemoval, IsSaid, Said, body_text, chain_behind, octets_text, removal_text, said_text, what_word}
use Rattle.ledger.specs.Words.{IsNumber, word_and}
use Rattle.ledger.specs.declared.body.TheConstants.{NAME_MAX, TIME_MAX}
use Rattle.ledger.specs.declared.entry.Event.{Event}
use Rattle.ledger.specs.declared.entry.Event.TheVariants.{Added, Joined, Gone, Sealed}
use Rattle.ledger.specs.declared.entry.Removal.{Removal}
use Rattle.ledger.specs.declared.entry.Removal.TheVariants.{Joined as JoinedInto, Expired}
use Rattle.ledger.specs.declared.head.ChainHead.{ChainHead}
use Rattle.ledger.proofs.BodyLemmas.{joined_free, what_free}
use Rattle.ledger.proofs.LawLemmas.{chain_size}
use Rattle.ledger.proofs.MeetingLemmas.{meet}
use Rattle.ledger.proofs.WordLemmas.{end_is, number_free, parts_one, word_free}

-- ---- what a line says of a segment

first_octet : (x y : ℕ) (a b : List ℕ) → a ≡ b → get_or a 0 0 ≡ x → get_or b 0 0 ≡ y → x ≡ y
first_octet x y a b e p q = sym p ∙ ap (λ (l : List ℕ). get_or l 0 0) e ∙ q

number_and : (m n : ℕ) (a b : List ℕ) → IsNumber m → IsNumber n → word_and (decimal m) a ≡ word_and (decimal n) b
    → (m ≡ n) × (a ≡ b)
number_and m n a b small less e =
    let both = parts_one (decimal m) (decimal n) a b (number_free m small) (number_free n less) e in
    (decimal_injective m n small less both.0, both.1)

one_removal : (a b : Removal) → IsRemoval a → IsRemoval b → removal_text a ≡ removal_text b → a ≡ b
one_removal Expired Expired h k e = refl
one_removal Expired (JoinedInto n) h k e =
    let apart = first_octet 101 106 (removal_text Expired) (removal_text (JoinedInto n)) e refl refl in
    absurd (omega (arith, apart))
one_removal (JoinedInto m) Expired h k e =
    let apart = first_octet 106 101 (removal_text (JoinedInto m)) (removal_text Expired) e refl refl in
    absurd (omega (arith, apart))
one_removal (JoinedInto m) (JoinedInto n) h k e =
    let both = parts_one (codes "joined") (codes "joined") (decimal m) (decimal n) joined_free joined_free e in
    ap JoinedInto (decimal_injective m n h k both.1)

other_word : {P : Type 0} (x y : ℕ) (a b : Event) → what_word a ≡ what_word b → get_or (what_word a) 0 0 ≡ x
    → get_or (what_word b) 0 0 ≡ y → (x ≡ y → ⊥) → P
other_word x y a b e p q apart = absurd (apart (first_octet x y (what_word a) (what_word b) e p q))

-- one event, and one number of octets
abbrev IsOne : Event → Event → ℕ → ℕ → Type 0
IsOne a b m n = (a ≡ b) × (m ≡ n)

one_event : (a b : Event) (m n : ℕ) → IsEvent a → IsEvent b → IsNumber m → IsNumber n → what_word a ≡ what_word b
    → octets_text a m ≡ octets_text b n → IsOne a b m n
one_event Added Added m n h k small less w e = (refl, decimal_injective m n small less e)
one_event Joined Joined m n h k small less w e = (refl, decimal_injective m n small less e)
one_event (Gone r) (Gone s) m n h k small less w e =
    let both = number_and m n (removal_text r) (removal_text s) small less e in
    (ap Gone (one_removal r s h k both.1), both.0)
one_event (Sealed r) (Sealed s) m n h k small less w e =
    let both = number_and m n r s small less e in (ap Sealed both.1, both.0)
one_event Added Joined m n h k small less w e = other_word 97 106 Added Joined w refl refl (λ x. omega (arith, x))
one_event Added (Gone s) m n h k small less w e = other_word 97 103 Added (Gone s) w refl refl (λ x. omega (arith, x))
one_event Added (Sealed s) m n h k small less w e = other_word 97 115 Added (Sealed s) w refl refl (λ x. omega (arith, x))
one_event Joined Added m n h k small less w e = other_word 106 97 Joined Added w refl refl (λ x. omega (arith, x))
one_event Joined (Gone s) m n h k small less w e = other_word 106 103 Joined (Gone s) w refl refl (λ x. omega (arith, x))
one_event Joined (Sealed s) m n h k small less w e =
    other_word 106 115 Joined (Sealed s) w refl refl (λ x. omega (arith, x))
one_event (Gone r) Added m n h k small less w e = other_word 103 97 (Gone r) Added w refl refl (λ x. omega (arith, x))
one_event (Gone r) Joined m n h k small less w e = other_word 103 106 (Gone r) Joined w refl refl (λ x. omega (arith, x))
one_event (Gone r) (Sealed s) m n h k small less w e =
    other_word 103 115 (Gone r) (Sealed s) w refl refl (λ x. omega (arith, x))
one_event (Sealed r) Added m n h k small less w e = other_word 115 97 (Sealed r) Added w refl refl (λ x. omega (arith, x))
one_event (Sealed r) Joined m n h k small less w e =
    other_word 115 106 (Sealed r) Joined w refl refl (λ x. omega (arith, x))
one_event (Sealed r) (Gone s) m n h k small less w e =
    other_word 115 103 (Sealed r) (Gone s) w refl refl (λ x. omega (arith, x))

one_record : (r s : Said) → r.event ≡ s.event → r.name ≡ s.name → r.count ≡ s.count → r.octets ≡ s.octets → r ≡ s
one_record r s event name count octets =
    ap (λ (e : Event). record { event = e; name = r.name; count = r.count; octets = r.octets }) event
    ∙ ap (λ (n : List ℕ). record { event = s.event; name = n; count = r.count; octets = r.octets }) name
    ∙ ap (λ (c : ℕ). record { event = s.event; name = s.name; count = c; octets = r.octets }) count
    ∙ ap (λ (o : ℕ). record { event = s.event; name = s.name; count = s.count; octets = o }) octets

one_said : (r s : Said) → IsSaid r → IsSaid s → said_text r ≡ said_text s → r ≡ s
one_said r s h k e =
    let what = parts_one (what_word r.event) (what_word s.event) _ _ (what_free r.event) (what_free s.event) e in
    let name = parts_one r.name s.name _ _ (word_free NAME_MAX r.name h.name) (word_free NAME_MAX s.name k.name) what.1 in
    let count = number_and r.count s.count _ _ h.count k.count name.1 in
    let event = one_event r.event s.event r.octets s.octets h.event k.event h.octets k.octets what.0 count.1 in
    one_record r s event.0 name.0 count.0 event.1

one_body : (m n : ℕ) (t u : List ℕ) (r s : Said) → IsLine m t r → IsLine n u s → body_text m t r ≡ body_text n u s → r ≡ s
one_body m n t u r s h k e =
    let number = number_and m n _ _ h.number_fits k.number_fits e in
    let time = parts_one t u _ _ (word_free TIME_MAX t h.time_word) (word_free TIME_MAX u k.time_word) number.1 in
    one_said r s h.said k.said time.1

-- ---- what lines say behind a head

one_head : (g h : ChainHead) → g.number ≡ h.number → g.chain ≡ h.chain → g ≡ h
one_head g h number chain =
    ap (λ (n : ℕ). record { number = n; chain = g.chain }) number
    ∙ ap (λ (c : List ℕ). record { number = h.number; chain = c }) chain

one_step : (b g h : ChainHead) (line : List ℕ) (r s : Said) → Continues b line r g → Continues b line s h
    → (r ≡ s) × (g ≡ h)
one_step b g h line r s p q =
    let one = body_text g.number p.time r in
    let two = body_text h.number q.time s in
    let both = end_is one two (chain_behind b.chain one) (chain_behind b.chain two) (chain_size b.chain one)
    (chain_size b.chain two) (sym p.text ∙ q.text) in (
      one_body g.number h.number p.time q.time r s p.valid q.valid both.0,
      one_head g h (p.next ∙ sym q.next) (p.chain ∙ both.1 ∙ sym q.chain),
    )

one_course : (b g h : ChainHead) (xs : List (List ℕ)) (ss ts : List Said) → ChainsFrom b xs ss g → ChainsFrom b xs ts h
    → (ss ≡ ts) × (g ≡ h)
one_course b g h [] [] [] p q = (refl, sym p ∙ q)
one_course b g h [] (s ∷ ss) ts p q = absurd p
one_course b g h [] [] (t ∷ ts) p q = absurd q
one_course b g h (x ∷ xs) [] ts p q = absurd p
one_course b g h (x ∷ xs) (s ∷ ss) [] p q = absurd q
one_course b g h (x ∷ xs) (s ∷ ss) (t ∷ ts) (m, one, p) (n, two, q) =
    let step = one_step b m n x s t one two in
    let rest = one_course n g h xs ss ts (subst (λ (k : ChainHead). ChainsFrom k xs ss g) step.1 p) q in
    (ap (λ (y : Said). y ∷ ss) step.0 ∙ ap (λ (l : List Said). t ∷ l) rest.0, rest.1)

-- ---- lines behind others

-- what lines say, and where the ledger stands, before those that follow and behind them
record Parts (b h : ChainHead) (xs zs : List (List ℕ)) (ts : List Said) : Type 0 where
  front : List Said
  behind : List Said
  middle : ChainHead
  first : ChainsFrom b xs front middle
  later : ChainsFrom middle zs behind h
  says : ts ≡ front ++ behind

parts : (b h : ChainHead) (xs zs : List (List ℕ)) (ts : List Said) → ChainsFrom b (xs ++ zs) ts h → Parts b h xs zs ts
parts b h [] zs ts p = record { front = []; behind = ts; middle = b; first = refl; later = p; says = refl }
parts b h (x ∷ xs) zs [] p = absurd p
parts b h (x ∷ xs) zs (t ∷ ts) (m, one, p) =
    let rest = parts m h xs zs ts p in
    record {
      front = t ∷ rest.front;
      behind = rest.behind;
      middle = rest.middle;
      first = (m, one, rest.first);
      later = rest.later;
      says = ap (λ (l : List Said). t ∷ l) rest.says;
    }

goes_on : (xs ys zs : List (List ℕ)) (line : List ℕ) (ss ts : List Said) (g h : ChainHead)
    → IsLedger (xs ++ line ∷ []) ss g → Parts start h (ys ++ line ∷ []) zs ts → xs ≡ ys → GoesOn xs ys zs ss ts g h
goes_on xs ys zs line ss ts g h p q same =
    let here = subst (λ (l : List (List ℕ)). IsLedger (l ++ line ∷ []) ss g) same p in
    let one = one_course start g q.middle (ys ++ line ∷ []) ss q.front here q.first in
    record {
      same = same;
      behind = q.behind;
      chained = subst (λ (k : ChainHead). ChainsFrom k zs q.behind h) (sym one.1) q.later;
      says = q.says ∙ ap (λ (l : List Said). l ++ q.behind) (sym one.0);
    }

pub go_on : LedgersGoOn
go_on xs ys zs line ss ts g h p q = which (meet xs ys line g two.middle (ss, p) (two.front, two.first))
  where
    two : Parts start h (ys ++ line ∷ []) zs ts
    two = parts start h (ys ++ line ∷ []) zs ts
        (subst (λ (l : List (List ℕ)). ChainsFrom start l ts h) (sym (append_assoc ys (line ∷ []) zs)) q)

    which : (xs ≡ ys) ⊎ Collide (xs ++ line ∷ []) (ys ++ line ∷ [])
        → GoesOn xs ys zs ss ts g h ⊎ Collide (xs ++ line ∷ []) (ys ++ line ∷ [])
    which (inl same) = inl (goes_on xs ys zs line ss ts g h p two same)
    which (inr collision) = inr collision
