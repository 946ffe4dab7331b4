-- Where the parts of an element and of a parameter lie in a record.
use Rattle.std.proofs.Common.{◌≡◌, ℕ, ◌+◌, ◌-◌, ◌≤◌, List, [], ◌∷◌, ◌++◌, length, sym, ap, ◌∙◌, append_assoc}
use Rattle.std.proofs.Common.{arith}
use Rattle.std.proofs.lemmas.List.{append-nil, length-append}
use Rattle.syslog_reading.specs.ViewParts.{IsViewOf, ViewParts}
use Rattle.c_library.specs.Faults.{IsWithin}
use Rattle.c_library.specs.Parts.{Spells}
use Rattle.c_library.specs.Spans.{LiesAt}
use Rattle.c_library.proofs.Laying.{lies_within}

-- a view shows a record that the octets spell
pub spelled : (b : List ℕ) (s : ViewParts) → IsWithin b → (seen : IsViewOf b s) → Spells b seen.0
spelled b s within seen = record { within = within; text = seen.1; in_range = seen.2; distinct = seen.3 }

pub rest_within : (text rest front : List ℕ) → text ≡ front ++ rest → length rest ≤ length text
rest_within text rest front e = omega (arith, ap length e, length-append front rest)

rest_at : (text rest front : List ℕ) → text ≡ front ++ rest → length text - length rest ≡ length front
rest_at text rest front e = omega (arith, ap length e, length-append front rest)

-- what stands behind `mark` at the front of the rest of a text that lies in the octets
inside : (b spelling text rest front more mark w behind : List ℕ) (at inner : ℕ) → LiesAt b at spelling → spelling ≡ text ++ more
    → text ≡ front ++ rest → rest ≡ mark ++ (w ++ behind) → inner ≡ at + (length text - length rest) + length mark
    → LiesAt b inner w
inside b spelling text rest front more mark w behind at inner lies e f g is =
    lies_within b spelling (front ++ mark) w (behind ++ more) at inner lies
    (e ∙ ap (λ (u : List ℕ). u ++ more) (f ∙ ap (λ (u : List ℕ). front ++ u) g) ∙ simp append_assoc)
    (omega (arith, is, rest_at text rest front f, length-append front mark))

pub id_lies : (b spelling text rest front more id params behind : List ℕ) (at : ℕ) → LiesAt b at spelling
    → spelling ≡ text ++ more → text ≡ front ++ rest → rest ≡ 91 ∷ (id ++ (params ++ 93 ∷ behind))
    → LiesAt b (at + (length text - length rest) + 1) id
id_lies b spelling text rest front more id params behind at lies e f g =
    inside b spelling text rest front more (91 ∷ []) id (params ++ 93 ∷ behind) at _ lies e f g (omega arith)

pub params_lie : (b spelling text rest front more id params behind : List ℕ) (at : ℕ) → LiesAt b at spelling
    → spelling ≡ text ++ more → text ≡ front ++ rest → rest ≡ 91 ∷ (id ++ (params ++ 93 ∷ behind))
    → LiesAt b (at + (length text - length rest) + 1 + length id) params
params_lie b spelling text rest front more id params behind at lies e f g =
    inside b spelling text rest front more (91 ∷ id) params (93 ∷ behind) at _ lies e f g (omega arith)

pub name_lies : (b text rest front name raw behind : List ℕ) (at : ℕ) → LiesAt b at text → text ≡ front ++ rest
    → rest ≡ 32 ∷ (name ++ (61 ∷ 34 ∷ (raw ++ 34 ∷ behind))) → LiesAt b (at + (length text - length rest) + 1) name
name_lies b text rest front name raw behind at lies f g =
    inside b text text rest front [] (32 ∷ []) name (61 ∷ 34 ∷ (raw ++ 34 ∷ behind)) at _ lies (sym (append-nil text)) f
    g (omega arith)

pub raw_lies : (b text rest front name raw behind : List ℕ) (at : ℕ) → LiesAt b at text → text ≡ front ++ rest
    → rest ≡ 32 ∷ (name ++ (61 ∷ 34 ∷ (raw ++ 34 ∷ behind)))
    → LiesAt b (at + (length text - length rest) + 1 + length name + 2) raw
raw_lies b text rest front name raw behind at lies f g =
    inside b text text rest front [] (32 ∷ (name ++ 61 ∷ 34 ∷ [])) raw (34 ∷ behind) at _ lies (sym (append-nil text)) f
    (g ∙ ap (λ (u : List ℕ). 32 ∷ u) (sym (append_assoc name (61 ∷ 34 ∷ []) (raw ++ 34 ∷ behind))))
    (omega (arith, length-append name (61 ∷ 34 ∷ [])))
