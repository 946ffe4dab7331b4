-- Ledgers that have a line in common, and what the last line on a segment leaves of it.
use Rattle.std.proofs.Common.{◌≡◌, ◌≢◌, ℕ, ◌+◌, List, [], ◌∷◌, ◌++◌, Bool, true, false, None, Option, length, refl, sym, ap, ◌∙◌, arith, inl, inr, subst}
use Rattle.std.specs.Prelude.{◌⊎◌}
use Rattle.std.specs.Bool.{Decides}
use Rattle.std.specs.Str.{bytes_eq}
use Rattle.std.proofs.lemmas.List.{append_cancel_right}
use Rattle.std.proofs.lemmas.Slice.Eq.{bytes_eq-Decides}
use Rattle.ledger.specs.Chains.{ChainsFrom, Continues, IsChained, start}
use Rattle.ledger.specs.Laws.{Collide, GoesByItsLines}
use Rattle.ledger.specs.Lines.{Said, body_text, chain_behind}
use Rattle.ledger.specs.Standings.{behind_line, standing}
use Rattle.ledger.specs.declared.head.ChainHead.{ChainHead}
use Rattle.ledger.specs.declared.standing.Listed.{Listed}
use Rattle.ledger.proofs.HeadLemmas.{one_number}
use Rattle.ledger.proofs.LawLemmas.{agreeing_are_equal, chain_size}
use Rattle.ledger.proofs.ReadingLemmas.{standing_more, step}
use Rattle.ledger.proofs.WordLemmas.{end_is}

-- ---- a line in common

-- what the last line of a ledger continues
record Last (line : List ℕ) (end : ChainHead) : Type 0 where
  before : ChainHead
  said : Said
  continues : Continues before line said end

last_of : (b end : ChainHead) (xs : List (List ℕ)) (line : List ℕ) (ss : List Said)
    → ChainsFrom b (xs ++ line ∷ []) ss end → Last line end
last_of b end [] line [] p = absurd p
last_of b end [] line (s ∷ []) (next, one, p) =
    record { before = b; said = s; continues = subst (Continues b line s) p one }
last_of b end [] line (s ∷ t ∷ ss) (next, one, p) = absurd p
last_of b end (x ∷ xs) line [] p = absurd p
last_of b end (x ∷ xs) line (s ∷ ss) (next, one, p) = last_of next end xs line ss p

same_end : (line : List ℕ) (g h : ChainHead) → Last line g → Last line h → (g.number ≡ h.number) × (g.chain ≡ h.chain)
same_end line g h a b =
    let k = a.continues in
    let m = b.continues in
    let one = body_text g.number k.time a.said in
    let two = body_text h.number m.time b.said in
    let both = end_is one two (chain_behind a.before.chain one) (chain_behind b.before.chain two)
    (chain_size a.before.chain one) (chain_size b.before.chain two) (sym k.text ∙ m.text) in (
      one_number one k.time m.time g.number h.number a.said b.said k.valid refl m.valid both.0,
      k.chain ∙ both.1 ∙ sym m.chain,
    )

pub meet : (xs ys : List (List ℕ)) (line : List ℕ) (g h : ChainHead) → IsChained (xs ++ line ∷ []) g
    → IsChained (ys ++ line ∷ []) h → (xs ≡ ys) ⊎ Collide (xs ++ line ∷ []) (ys ++ line ∷ [])
meet xs ys line g h p q =
    let same = same_end line g h (last_of start g xs line p.0 p.1) (last_of start h ys line q.0 q.1) in
    which (agreeing_are_equal (xs ++ line ∷ []) (ys ++ line ∷ []) g h p q same.0 same.1)
  where
    which : (xs ++ line ∷ [] ≡ ys ++ line ∷ []) ⊎ Collide (xs ++ line ∷ []) (ys ++ line ∷ [])
        → (xs ≡ ys) ⊎ Collide (xs ++ line ∷ []) (ys ++ line ∷ [])
    which (inl e) = inl (append_cancel_right xs ys (line ∷ []) e)
    which (inr collision) = inr collision

-- ---- the last line on a segment

step_here : (name : List ℕ) (o : Option Listed) (k : ℕ) (s : Said) → name ≡ s.name → (r : Bool)
    → r ≡ bytes_eq name s.name → Decides r (name ≡ s.name) → step name o k s ≡ behind_line o k s
unfolding step
step_here name o k s same true e d = rw (← e) refl
step_here name o k s same false e d = absurd (let x : false ≡ true = d.1 same in cc)

step_there : (name : List ℕ) (o : Option Listed) (k : ℕ) (s : Said) → name ≢ s.name → (r : Bool)
    → r ≡ bytes_eq name s.name → Decides r (name ≡ s.name) → step name o k s ≡ o
unfolding step
step_there name o k s apart true e d = absurd (apart (d.0 refl))
step_there name o k s apart false e d = rw (← e) refl

pub goes_by_its_lines : (name : List ℕ) → GoesByItsLines name
goes_by_its_lines name = record {
  none = refl;
  here = λ ss s same.
      let count : 1 + length ss ≡ length ss + 1 = omega arith in
      standing_more name None 1 ss s
      ∙ step_here name (standing name ss) (1 + length ss) s same (bytes_eq name s.name) refl
      (bytes_eq-Decides name s.name)
      ∙ ap (λ (k : ℕ). behind_line (standing name ss) k s) count;
  others = λ ss s apart.
      standing_more name None 1 ss s
      ∙ step_there name (standing name ss) (1 + length ss) s apart (bytes_eq name s.name) refl
      (bytes_eq-Decides name s.name);
}
