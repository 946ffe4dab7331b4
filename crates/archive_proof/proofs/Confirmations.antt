-- A text of proofs that is made is confirmed.
use Rattle.std.proofs.Common.{◌≡◌, ℕ, ◌+◌, inl, inr, List, [], ◌∷◌, ◌++◌, length, refl, sym, ap, subst, ◌∙◌}
use Rattle.std.proofs.Common.{arith, append_assoc}
use Rattle.std.proofs.lemmas.List.{append_cancel_left}
use Rattle.std.specs.Prelude.{Option, None, Some}
use Rattle.std.specs.List.{AllByRecursion, flat_map}
use Rattle.archive_text.specs.Entries.{Entry}
use Rattle.archive_tree.specs.declared.audit_path.AuditPath.{AuditPath}
use Rattle.archive_tree.specs.declared.head.TreeHead.{TreeHead}
use Rattle.archive_proof.specs.Answering.{AllSay, AreRead, AreRight, IsLeft, IsRight, Says}
use Rattle.archive_proof.specs.Proving.{AreProofsOf, IsProofOf}
use Rattle.archive_proof.specs.Reading.{AreSame, AreSameSides, IsMade}
use Rattle.archive_proof.specs.Showing.{Leads, Parts, ShowsAbsent, ShowsPresent, StandsBefore, StandsBehind}
use Rattle.archive_proof.specs.Texts.{proof_text}
use Rattle.archive_proof.specs.declared.proof.Answer.{Answer}
use Rattle.archive_proof.specs.declared.proof.Neighbour.{Neighbour}
use Rattle.archive_proof.specs.declared.proof.Proof.{Proof}
use Rattle.archive_proof.specs.declared.proof.Proof.TheVariants.{Present, Absent}

-- ---- the same proofs show the same

same_leads : (head : TreeHead) (a b : Neighbour) → AreSameSides (Some a) (Some b)
    → Leads head b.octets.items b.path → Leads head a.octets.items a.path
same_leads head a b same h =
    subst (λ (p : AuditPath). Leads head a.octets.items p) (sym same.1)
    (subst (λ (o : List ℕ). Leads head o b.path) (sym same.0) h)

same_before : (head : TreeHead) (a b : Neighbour) (x : Entry) → AreSameSides (Some a) (Some b)
    → StandsBefore head b x → StandsBefore head a x
same_before head a b x same h = record {
  own = h.own;
  stands = record {
    entry = h.stands.entry;
    octets = h.stands.octets ∙ sym same.0;
    leads = same_leads head a b same h.stands.leads;
  };
  below = h.below;
}

same_behind : (head : TreeHead) (a b : Neighbour) (x : Entry) → AreSameSides (Some a) (Some b)
    → StandsBehind head b x → StandsBehind head a x
same_behind head a b x same h = record {
  own = h.own;
  stands = record {
    entry = h.stands.entry;
    octets = h.stands.octets ∙ sym same.0;
    leads = same_leads head a b same h.stands.leads;
  };
  below = h.below;
}

same_index : (a b : Neighbour) → AreSameSides (Some a) (Some b) → a.path.index ≡ b.path.index
same_index a b same = ap (λ (p : AuditPath). p.index) same.1

same_parts : (head : TreeHead) (x : Entry) (a b c d : Option Neighbour) → AreSameSides a c → AreSameSides b d
    → Parts head x c d → Parts head x a b
same_parts head x None None None None before behind h = h
same_parts head x None (Some b) None (Some d) before behind h =
    (same_index b d behind ∙ h.0, same_behind head b d x behind h.1)
same_parts head x (Some a) None (Some c) None before behind h =
    (ap (λ (i : ℕ). i + 1) (same_index a c before) ∙ h.0, same_before head a c x before h.1)
same_parts head x (Some a) (Some b) (Some c) (Some d) before behind h = (
  ap (λ (i : ℕ). i + 1) (same_index a c before) ∙ h.0 ∙ sym (same_index b d behind),
  same_before head a c x before h.1,
  same_behind head b d x behind h.2,
)
same_parts head x None b (Some c) d before behind h = absurd before
same_parts head x (Some a) b None d before behind h = absurd before
same_parts head x a None c (Some d) before behind h = absurd behind
same_parts head x a (Some b) c None before behind h = absurd behind

same_present : (head : TreeHead) (x : Entry) (p q : Proof) → AreSame p q → ShowsPresent head x q → ShowsPresent head x p
same_present head x (Present p) (Present q) same h = subst (λ (r : AuditPath). Leads head x.octets r) (sym same) h
same_present head x (Present p) (Absent c d) same h = absurd same
same_present head x (Absent a b) (Present q) same h = absurd same
same_present head x (Absent a b) (Absent c d) same h = h

same_absent : (head : TreeHead) (x : Entry) (p q : Proof) → AreSame p q → ShowsAbsent head x q → ShowsAbsent head x p
same_absent head x (Present p) (Present q) same h = h
same_absent head x (Present p) (Absent c d) same h = absurd same
same_absent head x (Absent a b) (Present q) same h = absurd same
same_absent head x (Absent a b) (Absent c d) same h = same_parts head x a b c d same.0 same.1 h

-- ---- one after the other

right_by : (head : TreeHead) (xs : List Entry) (e : Entry) (p q : Proof) (a : Answer) → AreSame p q
    → IsProofOf head xs e q → Says head e p a → IsRight xs e a
right_by head xs e p q a same (inl (has, shows)) says = inl (has, says.present.1 (same_present head e p q same shows))
right_by head xs e p q a same (inr (none, shows)) says = inr (none, says.absent.1 (same_absent head e p q same shows))

-- none is left of no text
none_left : (n : ℕ) (rest : List ℕ) (left : Option (List ℕ)) → n ≡ 0 → rest ≡ [] → IsLeft n 0 rest left → left ≡ Some []
none_left n rest None none same h = absurd (omega (arith, h.0, none))
none_left n rest (Some l) none same h = ap Some (h.1 ∙ same)

fewer_left : (n k : ℕ) (rest : List ℕ) (left : Option (List ℕ)) → IsLeft (n + 1) (k + 1) rest left → IsLeft n k rest left
fewer_left n k rest None h = (omega (arith, h.0), h.1)
fewer_left n k rest (Some l) h = (omega (arith, h.0), h.1)

never_left : (n : ℕ) (rest text : List ℕ) (p : Proof) (left : Option (List ℕ)) → IsMade p → rest ≡ proof_text p ++ text
    → IsLeft (n + 1) 0 rest left → ⊥
never_left n rest text p None made same h = h.1 p text made.proof same
never_left n rest text p (Some l) made same h = omega (arith, h.0)

pub confirmed : (head : TreeHead) (xs rs : List Entry) (ps qs : List Proof) (answers : List Answer)
    (text rest : List ℕ) (left : Option (List ℕ)) → AreProofsOf head xs rs ps → AllByRecursion IsMade ps
    → text ≡ flat_map proof_text ps → AreRead text qs → text ≡ flat_map proof_text qs ++ rest
    → AllSay head rs qs answers → IsLeft (length rs) (length qs) rest left
    → (left ≡ Some []) × AreRight xs rs answers
confirmed head xs [] [] [] [] text rest left proofs made is read begins says h =
    (none_left 0 rest left refl (sym begins ∙ is) h, tt)
confirmed head xs [] [] [] (a ∷ answers) text rest left proofs made is read begins says h = absurd says
confirmed head xs [] [] (q ∷ qs) answers text rest left proofs made is read begins says h = absurd says
confirmed head xs [] (p ∷ ps) qs answers text rest left proofs made is read begins says h = absurd proofs
confirmed head xs (e ∷ es) [] qs answers text rest left proofs made is read begins says h = absurd proofs
confirmed head xs (e ∷ es) (p ∷ ps) [] answers text rest left proofs made is read begins says h =
    absurd (never_left (length es) rest (flat_map proof_text ps) p left made.0 (sym begins ∙ is)
    (subst (λ (n : ℕ). IsLeft n 0 rest left) (omega arith) h))
confirmed head xs (e ∷ es) (p ∷ ps) (q ∷ qs) [] text rest left proofs made is read begins says h = absurd says
confirmed head xs (e ∷ es) (p ∷ ps) (q ∷ qs) (a ∷ answers) text rest left proofs made is (behind, first, only, others)
    begins says h =
    let one = only p (flat_map proof_text ps) made.0.proof is in
    let next : behind ≡ flat_map proof_text qs ++ rest =
    append_cancel_left (proof_text q) behind (flat_map proof_text qs ++ rest)
    (sym first ∙ begins ∙ append_assoc (proof_text q) (flat_map proof_text qs) rest) in
    let fewer : IsLeft (length es) (length qs) rest left =
    fewer_left (length es) (length qs) rest left
    (subst (λ (n : ℕ). IsLeft n (length qs + 1) rest left) (omega arith)
    (subst (λ (n : ℕ). IsLeft (length (e ∷ es)) n rest left) (omega arith) h)) in
    let then = confirmed head xs es ps qs answers behind rest left proofs.1 made.1 one.1 others next says.1 fewer in
    (then.0, (right_by head xs e q p a one.0 proofs.0 says.0, then.1))
