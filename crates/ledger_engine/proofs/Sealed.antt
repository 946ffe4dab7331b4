-- What was sealed stands where nothing is found.
use Rattle.std.proofs.Common.{◌≡◌, ◌≢◌, ℕ, List, [], ◌∷◌, ◌++◌, codes, arith, Bor, Option, None, Some, Bool, true, false, refl, sym, ap, subst, ◌∙◌, inl, inr}
use Rattle.std.specs.Prelude.{◌⊎◌, Contains, IsNone, IsSome, IsSomeAnd, IsTrue, Vec}
use Rattle.std.specs.Bool.{Decides}
use Rattle.std.specs.Str.{bytes_eq}
use Rattle.std.proofs.lemmas.List.{append_cancel_right}
use Rattle.std.proofs.lemmas.Slice.Eq.{bytes_eq-Decides}
use Rattle.disk.specs.States.{Files}
use Rattle.hex.specs.Hex.{encode_lower, lower_digits}
use Rattle.hex.proofs.HexLemmas.{length-encode_with}
use Rattle.octet_language.proofs.Lists.{by_length, tails}
use Rattle.sha2.specs.Sha256.{sha256}
use Rattle.sha2.proofs.Facts256.{length-sha256}
use Rattle.record_store.specs.Names.{IsSegment}
use Rattle.record_store.specs.Segments.{segment_name}
use Rattle.record_store.proofs.Naming.{encoded_digits}
use Rattle.store_reading.specs.Days.{IsPeriodText}
use Rattle.store_reading.specs.Whole.{IsWholeSegment}
use Rattle.store_upkeep.specs.Whole.{IsWholeAt}
use Rattle.ledger.specs.Chains.{IsLedger}
use Rattle.ledger.specs.Laws.{Collide, GoesOn, IsSealedAt}
use Rattle.ledger.specs.Lines.{Said}
use Rattle.ledger.specs.Readings.{StandsAmong, lines_text}
use Rattle.ledger.specs.Standings.{IsStandingOf, listed_at, standing}
use Rattle.ledger.specs.declared.head.ChainHead.{ChainHead}
use Rattle.ledger.specs.declared.standing.Listed.{Listed}
use Rattle.ledger.specs.declared.standing.Standing.{Standing}
use Rattle.ledger.proofs.LawLemmas.{one_sha, sha_octets}
use Rattle.ledger.proofs.SayingLemmas.{go_on}
use Rattle.ledger.proofs.SealLemmas.{sealed_stay}
use Rattle.ledger.proofs.WordLemmas.{not_both}
use Rattle.ledger_engine.specs.Findings.{FindsNothing, FindsRead, IsCompared, IsExamined, IsFoundOf, IsThereOrMissing, octets_of}
use Rattle.ledger_engine.specs.Known.{ledger_text}
use Rattle.ledger_engine.specs.Laws.{IsIntact, IsKeptOrTold, IsSealedText, SealsStand}
use Rattle.ledger_engine.specs.declared.findings.LedgerFindings.{LedgerFindings}

-- ---- a name tells of one SHA-256

named : (period text : List ℕ) → IsSegment period (segment_name period text)
named period text = record {
  digest = encode_lower (sha256 text);
  long = omega (arith, length-encode_with lower_digits (sha256 text), length-sha256 text);
  digits = encoded_digits (sha256 text) (sha_octets text);
  name_is = refl;
}

one_digest : (name period a b : List ℕ) → name ≡ segment_name period a → name ≡ segment_name period b
    → sha256 a ≡ sha256 b
one_digest name period a b one two =
    let hex : List ℕ = encode_lower (sha256 a) in
    let other : List ℕ = encode_lower (sha256 b) in
    let fronts = append_cancel_right (period ++ 46 ∷ hex) (period ++ 46 ∷ other) (codes ".archive") (sym one ∙ two) in
    let ends = by_length period period (46 ∷ hex) (46 ∷ other) refl fronts in
    one_sha a b (tails 46 46 hex other ends.1)

decide : (a b : List ℕ) → (a ≡ b) ⊎ (a ≢ b)
decide a b = by_test (bytes_eq a b) (bytes_eq-Decides a b)
  where
    by_test : (r : Bool) → Decides r (a ≡ b) → (a ≡ b) ⊎ (a ≢ b)
    by_test true d = inl (d.0 refl)
    by_test false d = inr (λ e. let k : false ≡ true = d.1 e in cc)

one_text : (name period old new : List ℕ) → IsWholeSegment period name old → IsWholeSegment period name new
    → IsSealedText old new
one_text name period old new a b = elim (decide new old) [
  | inl same ↦ inl same
  | inr apart ↦ inr (record {
    apart = λ e. apart (sym e);
    same = one_digest name period old new a.named b.named;
  })
]

-- ---- the ledger has the line

-- where a line stands among others
record Split (line : List ℕ) (lines : List (List ℕ)) : Type 0 where
  before : List (List ℕ)
  after : List (List ℕ)
  parts : lines ≡ before ++ line ∷ after

split : (line : Bor (List ℕ)) (lines : List (List ℕ)) → StandsAmong (Some line) lines → Split line.now lines
split line [] h = absurd h
split line (x ∷ lines) (inl here) =
    record { before = []; after = lines; parts = ap (λ (l : List ℕ). l ∷ lines) here }
split line (x ∷ lines) (inr later) =
    let rest = split line lines later in
    record {
      before = x ∷ rest.before;
      after = rest.after;
      parts = ap (λ (l : List (List ℕ)). x ∷ l) rest.parts;
    }

-- the ledger of the files has the line, and lists what is compared with them
record Reads (files : Files) (line : List ℕ) (f : LedgerFindings) : Type 0 where
  before : List (List ℕ)
  after : List (List ℕ)
  torn : List ℕ
  said : List Said
  head : ChainHead
  lists : Standing
  text : files ledger_text ≡ Some (lines_text (before ++ line ∷ after) ++ torn)
  ledger : IsLedger (before ++ line ∷ after) said head
  listed : IsStandingOf lists said
  compared : IsCompared (λ name. IsSome (files name)) lists f

not_broken : (f : LedgerFindings) (at : ℕ) → f.broken ≡ Some at → f.broken ≡ None → ⊥
not_broken f at told none = absurd (let k : Some at ≡ None = sym told ∙ none in cc)

has_it : (b lacks : Bool) → lacks ≡ false → ((IsTrue b → ⊥) → IsTrue lacks) → IsTrue b
has_it true lacks keeps h = refl
has_it false lacks keeps h = absurd (not_both lacks keeps (h (λ t. not_both false refl t)))

reads : (files : Files) (line : Bor (List ℕ)) (text : List ℕ) (f : LedgerFindings) → files ledger_text ≡ Some text
    → FindsNothing f → FindsRead (λ name. IsSome (files name)) (Some line) text f → Reads files line.now f
reads files line text f is nothing r =
    let has = has_it r.read.has_line f.lacks_line nothing.keeps (λ never. r.lacks.1 (refl, never)) in
    let at = split line r.is_read.lines (r.is_read.asked.0 has) in
    record {
      before = at.before;
      after = at.after;
      torn = r.torn;
      said = r.is_read.said;
      head = r.read.head;
      lists = r.read.standing;
      text = is ∙ ap (λ (l : List ℕ). Some l) (r.is_read.of_text.parts
          ∙ ap (λ (l : List (List ℕ)). lines_text l ++ r.torn) at.parts);
      ledger = subst (λ (l : List (List ℕ)). IsLedger l r.is_read.said r.read.head) at.parts r.is_read.ledger;
      listed = r.is_read.listed;
      compared = r.compared;
    }

examined : (files : Files) (line : Bor (List ℕ)) (text : List ℕ) (f : LedgerFindings) → files ledger_text ≡ Some text
    → FindsNothing f → IsExamined (λ name. IsSome (files name)) (Some line) text f → Reads files line.now f
examined files line text f is nothing (inl broken) = absurd (not_broken f broken.at broken.told nothing.whole)
examined files line text f is nothing (inr r) = reads files line text f is nothing r

found : (files : Files) (line : Bor (List ℕ)) (f : LedgerFindings) → IsFoundOf files (Some line) f → FindsNothing f
    → Reads files line.now f
found files line f h nothing = by_file (files ledger_text) refl
  where
    by_file : (o : Option (List ℕ)) → files ledger_text ≡ o → Reads files line.now f
    by_file None is =
        let lacks = (h.none (subst IsNone (sym is) refl)).lacks.1 refl in
        absurd (not_both f.lacks_line nothing.keeps lacks)
    by_file (Some text) is = examined files line text f is nothing (h.ledger text is)

-- ---- what was sealed is there

no_element : (name : List ℕ) → Contains [] name → ⊥
no_element name (k, below, same) = omega (arith, below)

none_missing : {A : Type 0} (missing : List (Vec ℕ A)) (name : List ℕ) → missing ≡ [] → Contains (octets_of missing) name → ⊥
none_missing {A = A} missing name none has =
    no_element name (subst (λ (l : List (Vec ℕ A)). Contains (octets_of l) name) none has)

same_file : (files : Files) (period name old : List ℕ) → IsPeriodText period → IsWholeSegment period name old
    → IsWholeAt files name → IsSome (files name) → IsSomeAnd (files name) (IsSealedText old)
same_file files period name old text whole at some = by_file (files name) refl some
  where
    by_file : (o : Option (List ℕ)) → files name ≡ o → IsSome o → IsSomeAnd (files name) (IsSealedText old)
    by_file None is none = absurd (cc none)
    by_file (Some new) is there =
        let segment = subst (IsSegment period) (sym whole.named) (named period old) in
        subst (λ (o : Option (List ℕ)). IsSomeAnd o (IsSealedText old)) (sym is)
        (one_text name period old new whole ((at new is).segment period text segment))

is_there : (files : Files) (f : LedgerFindings) (name : List ℕ) (l : Listed) → FindsNothing f → l.sealed ≡ true
    → IsThereOrMissing (λ n. IsSome (files n)) f name l → IsSome (files name)
is_there files f name l nothing sealed (inl there) = there
is_there files f name l nothing sealed (inr (inl aside)) =
    absurd (let k : true ≡ false = sym sealed ∙ aside.0 in cc)
is_there files f name l nothing sealed (inr (inr missing)) =
    absurd (none_missing f.missing.items name nothing.files.missing missing)

sealed_there : (files : Files) (f : LedgerFindings) (lists : Standing) (name : List ℕ) (o : Option Listed) → FindsNothing f
    → IsCompared (λ n. IsSome (files n)) lists f → listed_at lists name ≡ o → IsSealedAt o → IsSome (files name)
sealed_there files f lists name None nothing compared is sealed = absurd sealed
sealed_there files f lists name (Some l) nothing compared is sealed =
    is_there files f name l nothing sealed (compared.listed name l is)

kept : (files : Files) (f : LedgerFindings) (lists : Standing) (said behind : List Said) → FindsNothing f
    → IsCompared (λ n. IsSome (files n)) lists f → ((name : List ℕ) → IsWholeAt files name)
    → IsStandingOf lists (said ++ behind) → IsKeptOrTold files said behind
kept files f lists said behind nothing compared at listed period name old text sealed whole =
    elim (sealed_stay name said behind sealed) [
      | inl stays ↦ inl (same_file files period name old text whole (at name)
          (sealed_there files f lists name (standing name (said ++ behind)) nothing compared (listed name) stays))
      | inr told ↦ inr told
    ]

-- ---- the law

pub stand : SealsStand
stand files line f h nothing at published said g ledger =
    let r = found files line f h nothing in
    record {
      before = r.before;
      after = r.after;
      torn = r.torn;
      text = r.text;
      stands = stands_on r (go_on published r.before r.after line.now said r.said g r.head ledger r.ledger);
    }
  where
    stands_on : (r : Reads files line.now f)
        → GoesOn published r.before r.after said r.said g r.head ⊎ Collide (published ++ line.now ∷ []) (r.before ++ line.now ∷ [])
        → IsIntact files published r.before r.after said g ⊎ Collide (published ++ line.now ∷ []) (r.before ++ line.now ∷ [])
    stands_on r (inl goes) = inl (record {
      same = goes.same;
      behind = goes.behind;
      end = r.head;
      chained = goes.chained;
      kept = kept files f r.lists said goes.behind nothing r.compared at
          (subst (IsStandingOf r.lists) goes.says r.listed);
    })
    stands_on r (inr collision) = inr collision
