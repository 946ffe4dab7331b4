-- What is found of a ledger is found of a folder.
use Rattle.std.proofs.Common.{◌≡◌, ℕ, List, Bor, Option, None, Some, inl, inr, refl, subst}
use Rattle.std.specs.Prelude.{Contains, IfSome, IsNone, IsSome, IsSomeAnd}
use Rattle.disk.specs.States.{Files}
use Rattle.ledger.specs.declared.standing.Standing.{Standing}
use Rattle.octet_devices.specs.Device.{InputState}
use Rattle.store_reading.specs.Folders.{AreNamesOf}
use Rattle.ledger_engine.specs.Findings.{FindsNoLedger, IsCompared, IsExamined, IsFoundOf, OpensLedger, IsThereOrMissing}
use Rattle.ledger_engine.specs.Known.{ledger_text}
use Rattle.ledger_engine.specs.declared.findings.LedgerFindings.{LedgerFindings}
use Rattle.ledger.specs.declared.standing.Listed.{Listed}

none_some : (o : Option (List ℕ)) (file : List ℕ) → IsNone o → o ≡ Some file → ⊥
none_some None file none is = absurd (cc is)
none_some (Some x) file none is = absurd (cc none)

pub not_opened : {R : Type 0} (state : R → InputState) (files : Files) (o : Option R) → ((x : R) → o ≡ Some x → ⊥)
    → OpensLedger state files o → IsNone (files ledger_text)
not_opened state files None apart h = h
not_opened state files (Some x) apart h = absurd (apart x refl)

pub none_found : (files : Files) (against : Option (Bor (List ℕ))) (f : LedgerFindings) → IsNone (files ledger_text)
    → FindsNoLedger against f → IsFoundOf files against f
none_found files against f none h = record {
  none = λ there. h;
  ledger = λ text is. absurd (none_some (files ledger_text) text none is);
}

there_on : (files : Files) (names : List (List ℕ)) (f : LedgerFindings) (name : List ℕ) (l : Listed)
    → AreNamesOf files names → IsThereOrMissing (Contains names) f name l
    → IsThereOrMissing (λ n. IsSome (files n)) f name l
there_on files names f name l listed (inl there) = inl ((listed name).0 there)
there_on files names f name l listed (inr (inl aside)) = inr (inl (aside.0, (listed _).0 aside.1))
there_on files names f name l listed (inr (inr missing)) = inr (inr missing)

compared_on : (files : Files) (names : List (List ℕ)) (t : Standing) (f : LedgerFindings) → AreNamesOf files names
    → IsCompared (Contains names) t f → IsCompared (λ n. IsSome (files n)) t f
compared_on files names t f listed h = record {
  whole = h.whole;
  listed = λ name l is. there_on files names f name l listed (h.listed name l is);
  missing = λ name has. ((h.missing name has).0, λ some. (h.missing name has).1 ((listed name).1 some));
  unlisted = λ name. (
    λ has. ((listed name).0 ((h.unlisted name).0 has).0, ((h.unlisted name).0 has).1),
    λ both. (h.unlisted name).1 ((listed name).1 both.0, both.1),
  );
  foreign = λ name. (
    λ has. ((listed name).0 ((h.foreign name).0 has).0, ((h.foreign name).0 has).1),
    λ both. (h.foreign name).1 ((listed name).1 both.0, both.1),
  );
}

examined_on : (files : Files) (names : List (List ℕ)) (against : Option (Bor (List ℕ))) (text : List ℕ)
    (f : LedgerFindings) → AreNamesOf files names → IsExamined (Contains names) against text f
    → IsExamined (λ n. IsSome (files n)) against text f
examined_on files names against text f listed (inl broken) = inl broken
examined_on files names against text f listed (inr r) = inr (record {
  read = r.read;
  torn = r.torn;
  is_read = r.is_read;
  lacks = r.lacks;
  compared = compared_on files names r.read.standing f listed r.compared;
})

pub opened_found : (files : Files) (names : List (List ℕ)) (left : Option (List ℕ)) (against : Option (Bor (List ℕ)))
    (f : LedgerFindings) → AreNamesOf files names → IsSomeAnd (files ledger_text) (λ octets. left ≡ Some octets)
    → IfSome left (λ text. IsExamined (Contains names) against text f) → IsFoundOf files against f
opened_found files names left against f listed opened examined = by_file (files ledger_text) refl opened
  where
    known : (text : List ℕ) → left ≡ Some text → IsExamined (λ n. IsSome (files n)) against text f
    known text is = examined_on files names against text f listed
        (subst (λ (o : Option (List ℕ)). IfSome o (λ x. IsExamined (Contains names) against x f)) is examined)

    by_file : (o : Option (List ℕ)) → files ledger_text ≡ o → IsSomeAnd o (λ octets. left ≡ Some octets)
        → IsFoundOf files against f
    by_file None same has = absurd has
    by_file (Some octets) same has = record {
      none = λ none. absurd (none_some (files ledger_text) octets none same);
      ledger = λ text is. let one : octets ≡ text = cc in
          subst (λ (x : List ℕ). IsExamined (λ n. IsSome (files n)) against x f) one (known octets has);
    }
