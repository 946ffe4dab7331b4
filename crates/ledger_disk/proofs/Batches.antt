-- One line is a batch of lines.
use Rattle.std.proofs.Common.{◌≡◌, ℕ, ◌+◌, List, [], ◌∷◌, ◌++◌, refl, subst, sym, ap, ◌∙◌, take}
use Rattle.disk.specs.States.{State}
use Rattle.ledger.specs.Chains.{ChainsFrom, IsNextLine}
use Rattle.ledger.specs.Lines.{IsLine, Said, line_text}
use Rattle.ledger.specs.Readings.{lines_text}
use Rattle.ledger.specs.declared.head.ChainHead.{ChainHead}
use Rattle.ledger_disk.specs.Ledgers.{EndsWith, EndsWithLines, GainsLine, GainsLines, ledger_text}

-- the next lines, where one is written
record NextOne (before : ChainHead) (s : Said) (text : List ℕ) : Type 0 where
  time : List ℕ
  next : IsNextLine before time s text

next_one : (before end : ChainHead) (s : Said) (text : List ℕ) (lines : List (List ℕ))
    → ChainsFrom before lines (s ∷ []) end → text ≡ lines_text lines → NextOne before s text
next_one before end s text [] p is = absurd p
next_one before end s text (line ∷ []) (next, k, p) is = record {
  time = k.time;
  next = record {
    valid = subst (λ (n : ℕ). IsLine n k.time s) k.next k.valid;
    is = is ∙ ap (λ (l : List ℕ). l ++ 10 ∷ []) (k.text ∙ ap (λ (n : ℕ). line_text before.chain n k.time s) k.next);
  };
}
next_one before end s text (line ∷ other ∷ lines) (next, k, p) is = absurd p

ends_with : (state : State) (name lines : List ℕ) (s : Said) → EndsWithLines state name lines (s ∷ [])
    → EndsWith state name lines s
ends_with state name lines s p =
    let one = next_one p.before p.end s p.text p.next.lines p.next.chained p.next.text_is in
    record {
      before = p.before;
      time = one.time;
      line = p.text;
      behind = p.behind;
      next = one.next;
      shows = p.shows;
    }

pub one_line : (old new : State) (name : List ℕ) (s : Said) → GainsLines old new name (s ∷ []) → GainsLine old new name s
one_line old new name s gains n end = ends_with new name (take n (ledger_text old name)) s (gains n end)
