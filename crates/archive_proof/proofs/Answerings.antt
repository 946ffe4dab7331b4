-- Answers that come one by one.
use Rattle.std.proofs.Common.{◌≡◌, ℕ, ◌+◌, List, [], ◌∷◌, ◌++◌, length, refl, sym, ap, subst, ◌∙◌, arith}
use Rattle.std.proofs.Common.{length-append, append_assoc, append-nil}
use Rattle.std.specs.Prelude.{Option, Some, None}
use Rattle.std.specs.List.{flat_map}
use Rattle.std.proofs.lemmas.Grind.{flat_map-append}
use Rattle.std.proofs.lemmas.List.{append_cancel_left}
use Rattle.archive_text.specs.Entries.{Entry}
use Rattle.archive_tree.specs.declared.head.TreeHead.{TreeHead}
use Rattle.archive_proof.specs.Answering.{AllSay, AnswersNext, AreAnswered, AreRead, HasNoProof, IsLeft, Says}
use Rattle.archive_proof.specs.Reading.{IsOnlyProof}
use Rattle.archive_proof.specs.Texts.{proof_text}
use Rattle.archive_proof.specs.declared.proof.Answer.{Answer}
use Rattle.archive_proof.specs.declared.proof.Answer.TheVariants.{NotShown}
use Rattle.archive_proof.specs.declared.proof.Proof.{Proof}

-- one entry more has a proof
says_more : (head : TreeHead) (es : List Entry) (ps : List Proof) (answers : List Answer) (e : Entry) (p : Proof) (a : Answer)
    → length ps ≡ length es → AllSay head es ps answers → Says head e p a
    → AllSay head (es ++ e ∷ []) (ps ++ p ∷ []) (answers ++ a ∷ [])
says_more head [] [] [] e p a same all next = (next, tt)
says_more head [] [] (b ∷ answers) e p a same all next = absurd all
says_more head [] (q ∷ ps) answers e p a same all next = absurd (omega (arith, same))
says_more head (f ∷ es) [] answers e p a same all next = absurd (omega (arith, same))
says_more head (f ∷ es) (q ∷ ps) [] e p a same all next = absurd all
says_more head (f ∷ es) (q ∷ ps) (b ∷ answers) e p a same all next =
    (all.0, says_more head es ps answers e p a (omega (arith, same)) all.1 next)

-- one more has none
unsaid_more : (head : TreeHead) (es : List Entry) (ps : List Proof) (answers : List Answer) (e : Entry)
    → AllSay head es ps answers → AllSay head (es ++ e ∷ []) ps (answers ++ NotShown ∷ [])
unsaid_more head [] [] [] e all = (refl, tt)
unsaid_more head [] [] (b ∷ answers) e all = absurd all
unsaid_more head [] (q ∷ ps) answers e all = absurd all
unsaid_more head (f ∷ es) [] [] e all = absurd all
unsaid_more head (f ∷ es) [] (b ∷ answers) e all = (all.0, unsaid_more head es [] answers e all.1)
unsaid_more head (f ∷ es) (q ∷ ps) [] e all = absurd all
unsaid_more head (f ∷ es) (q ∷ ps) (b ∷ answers) e all = (all.0, unsaid_more head es ps answers e all.1)

-- one proof more is read
reads_more : (text : List ℕ) (ps : List Proof) (p : Proof) (rest behind : List ℕ) → AreRead text ps
    → text ≡ flat_map proof_text ps ++ rest → rest ≡ proof_text p ++ behind → IsOnlyProof rest p behind
    → AreRead text (ps ++ p ∷ [])
reads_more text [] p rest behind read same begins only =
    (behind, same ∙ begins, subst (λ (t : List ℕ). IsOnlyProof t p behind) (sym same) only, tt)
reads_more text (q ∷ ps) p rest behind (between, first, one, others) same begins only =
    let next : between ≡ flat_map proof_text ps ++ rest =
    append_cancel_left (proof_text q) between (flat_map proof_text ps ++ rest)
    (sym first ∙ same ∙ append_assoc (proof_text q) (flat_map proof_text ps) rest) in
    (between, first, one, reads_more between ps p rest behind others next begins only)

more : (es : List Entry) (e : Entry) → length (es ++ e ∷ []) ≡ length es + 1
more es e = omega (arith, length-append es (e ∷ []))

unsaid : (head : TreeHead) (es : List Entry) (ps : List Proof) (answers : List Answer) (e : Entry) (a : Answer)
    → a ≡ NotShown → AllSay head es ps answers → AllSay head (es ++ e ∷ []) ps (answers ++ a ∷ [])
unsaid head es ps answers e a none all =
    subst (λ (b : Answer). AllSay head (es ++ e ∷ []) ps (answers ++ b ∷ [])) (sym none) (unsaid_more head es ps answers e all)

pub none_answered : (head : TreeHead) (text : List ℕ) → AreAnswered head [] text [] (Some text)
none_answered head text = record { ps = []; rest = text; begins = refl; read = tt; says = tt; is_left = (refl, refl) }

-- one entry more is answered
pub next_answered : (head : TreeHead) (es : List Entry) (text : List ℕ) (answers : List Answer) (left : Option (List ℕ))
    (e : Entry) (a : Answer) (behind : Option (List ℕ)) → AreAnswered head es text answers left
    → AnswersNext head e left a behind → AreAnswered head (es ++ e ∷ []) text (answers ++ a ∷ []) behind
next_answered head es text answers None e a behind h next = record {
  ps = h.ps;
  rest = h.rest;
  begins = h.begins;
  read = h.read;
  says = unsaid head es h.ps answers e a next.0 h.says;
  is_left = subst (λ (o : Option (List ℕ)). IsLeft (length (es ++ e ∷ [])) (length h.ps) h.rest o) (sym next.1)
      (omega (arith, h.is_left.0, more es e), h.is_left.1);
}
next_answered head es text answers (Some left) e a None h next = record {
  ps = h.ps;
  rest = h.rest;
  begins = h.begins;
  read = h.read;
  says = unsaid head es h.ps answers e a next.0 h.says;
  is_left = (omega (arith, h.is_left.0, more es e), subst HasNoProof h.is_left.1 next.1);
}
next_answered head es text answers (Some left) e a (Some behind) h (p, begins, only, says) = record {
  ps = h.ps ++ p ∷ [];
  rest = behind;
  begins = h.begins ∙ ap (λ (l : List ℕ). flat_map proof_text h.ps ++ l) (sym h.is_left.1 ∙ begins)
      ∙ sym (append_assoc (flat_map proof_text h.ps) (proof_text p) behind)
      ∙ ap (λ (l : List ℕ). l ++ behind) (sym (flat_map-append proof_text h.ps (p ∷ [])
      ∙ ap (λ (l : List ℕ). flat_map proof_text h.ps ++ l) (append-nil (proof_text p))));
  read = reads_more text h.ps p h.rest behind h.read h.begins (sym h.is_left.1 ∙ begins)
      (subst (λ (t : List ℕ). IsOnlyProof t p behind) h.is_left.1 only);
  says = says_more head es h.ps answers e p a h.is_left.0 h.says says;
  is_left = (omega (arith, h.is_left.0, more es e, length-append h.ps (p ∷ [])), refl);
}
