-- Lines that are put one behind the other.
use Rattle.std.proofs.Common.{◌≡◌, ℕ, ◌+◌, ◌^◌, ◌<◌, List, [], ◌∷◌, ◌++◌, length, map, take, zero, suc, refl, subst, sym, ap, ◌∙◌, arith, append_assoc}
use Rattle.std.specs.List.{AllByRecursion}
use Rattle.std.proofs.Math.ListN.{get_or}
use Rattle.std.proofs.lemmas.List.{length-take, take_more}
use Rattle.ledger.specs.Lines.{IsWorded, Said, said_of}
use Rattle.ledger.specs.Readings.{lines_text}
use Rattle.ledger.specs.Writing.{AreNextLines, AreWorded, PutsNext}
use Rattle.ledger.specs.declared.entry.LedgerEntry.{LedgerEntry}
use Rattle.ledger.specs.declared.head.ChainHead.{ChainHead}
use Rattle.ledger.proofs.LawLemmas.{counted}
use Rattle.ledger.proofs.ReadingLemmas.{as_many, chains_more, lines_more}

map_more : (es : List LedgerEntry) (e : LedgerEntry) → map said_of (es ++ e ∷ []) ≡ map said_of es ++ said_of e ∷ []
map_more [] e = refl
map_more (x ∷ es) e = ap (λ (l : List Said). said_of x ∷ l) (map_more es e)

map_length : (es : List LedgerEntry) → length (map said_of es) ≡ length es
map_length [] = refl
map_length (x ∷ es) = ap suc (map_length es)

-- the lines of so many entries, and that of the one behind them
pub one_more : (b h next : ChainHead) (time : List ℕ) (es : List LedgerEntry) (i : ℕ) (d : LedgerEntry) (old new : List ℕ)
    → i < length es → AreNextLines b (map said_of (take i es)) old h
    → PutsNext h time (said_of (get_or es i d)) old new next → AreNextLines b (map said_of (take (i + 1) es)) new next
one_more b h next time es i d old new within p q =
    let e = get_or es i d in
    let more : map said_of (take (i + 1) es) ≡ map said_of (take i es) ++ said_of e ∷ [] =
    ap (map said_of) (take_more es i d within) ∙ map_more (take i es) e in
    subst (λ (ss : List Said). AreNextLines b ss new next) (sym more) (record {
      lines = p.lines ++ q.line ∷ [];
      chained = chains_more b h next p.lines (map said_of (take i es)) q.line (said_of e) p.chained q.next;
      text_is = q.text ∙ ap (λ (l : List ℕ). l ++ (q.line ++ 10 ∷ [])) p.text_is ∙ sym (lines_more p.lines q.line);
    })

-- so many lines on
pub numbered : (b h : ChainHead) (es : List LedgerEntry) (text : List ℕ) → AreNextLines b (map said_of es) text h
    → h.number ≡ b.number + length es
numbered b h es text p =
    omega (arith, counted b h p.lines (map said_of es) p.chained, as_many b h p.lines (map said_of es) p.chained, map_length es)

worded_at : (time : List ℕ) (es : List LedgerEntry) (i : ℕ) (d : LedgerEntry) → i < length es → AreWorded time es
    → IsWorded time (said_of (get_or es i d))
worded_at time [] i d within h = absurd (omega arith)
worded_at time (x ∷ es) zero d within h = h.0
worded_at time (x ∷ es) (suc i) d within h = worded_at time es i d (omega arith) h.1

-- an entry that cannot be said is one of them
pub not_all : (b h : ChainHead) (time : List ℕ) (es : List LedgerEntry) (i : ℕ) (d : LedgerEntry) (text : List ℕ)
    → i < length es → AreNextLines b (map said_of (take i es)) text h
    → (h.number + 1 < 2 ^ 64 → ¬ (IsWorded time (said_of (get_or es i d))))
    → b.number + length es < 2 ^ 64 → ¬ (AreWorded time es)
not_all b h time es i d text within p none fits worded =
    none (omega (arith, within, fits, numbered b h (take i es) text p, length-take i es)) (worded_at time es i d within worded)
