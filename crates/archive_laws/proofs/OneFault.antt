-- A text has one fault at most, where octets have one.
use Rattle.std.proofs.Common.{◌≡◌, ℕ, ◌≤◌, inl, inr, refl, sym, ◌∙◌, ap, subst, arith, List, [], ◌∷◌, ◌++◌, length}
use Rattle.std.proofs.Common.{append_assoc}
use Rattle.std.specs.Prelude.{decimal}
use Rattle.std.proofs.lemmas.List.{length-append}
use Rattle.octet_language.specs.Language.{AnyOf}
use Rattle.octet_language.specs.Reading.{Follows}
use Rattle.octet_language.proofs.Lists.{one_more}
use Rattle.syslog_frame.specs.MsgLen.{MsgLen}
use Rattle.syslog_frame.specs.declared.framing.Framing.TheVariants.{Counted}
use Rattle.syslog_frame.specs.declared.limits.TheConstants.{COUNT_MAX}
use Rattle.syslog_frame.proofs.FrameLaws.{one_frame, same_count}
use Rattle.syslog_reading.specs.Faults.{FaultOf}
use Rattle.syslog_reading.specs.WellFormed.{WellFormed}
use Rattle.syslog_reading.specs.declared.fault.Fault.{Fault}
use Rattle.syslog_grammar.proofs.CanonicalParses.{canonical_well_formed}
use Rattle.archive_text.specs.Entries.{Entry, IsEntry}
use Rattle.archive_text.specs.Faults.{BeginsWithOctets, IsArchiveFault, IsBadFrame, IsFaultBehind, IsTooLong}
use Rattle.archive_text.specs.declared.fault.ArchiveFault.{ArchiveFault}
use Rattle.archive_text.specs.declared.fault.ArchiveFault.TheVariants.{BadFrame, EntryTooLong, BadEntry, NotCanonical}
use Rattle.archive_text.specs.declared.fault.ArchiveFault.TheVariants.{NotAscending}
use Rattle.archive_text.proofs.Prefixes.{one_longest}

-- octets have one fault at most
abbrev pub OctetsHaveOneFault : Type 0
OctetsHaveOneFault = (b : List ℕ) (f g : Fault) → FaultOf b f → FaultOf b g → f ≡ g

-- ---- the length at the start

two_counts : (m n : ℕ) (text s t : List ℕ) → Follows (MsgLen m) text s → Follows (MsgLen n) text t → (m ≡ n) × (s ≡ t)
two_counts m n text s t (p, is, h) (q, also, k) =
    same_count m n s t h.1 k.1
    (sym (one_more (decimal m) 32 s) ∙ ap (λ (u : List ℕ). u ++ s) (sym h.2) ∙ sym is ∙ also
    ∙ ap (λ (u : List ℕ). u ++ t) k.2 ∙ one_more (decimal n) 32 t)

length_before : (most : ℕ) (text b : List ℕ) → (h : BeginsWithOctets most text b)
    → Follows (MsgLen (length b)) text (b ++ h.2.0)
length_before most text b (carries, fits, (rest, is)) = (
  decimal (length b) ++ 32 ∷ [],
  is ∙ append_assoc (decimal (length b)) (32 ∷ b) rest ∙ sym (one_more (decimal (length b)) 32 (b ++ rest)),
  (carries.0, carries.1, refl),
)

-- ---- two causes

frame_whole : (most n count : ℕ) (text behind : List ℕ) → IsBadFrame most text n → Follows (MsgLen count) text behind
    → count ≤ length behind → ⊥
frame_whole most n count text behind (inl (none, offset)) (p, is, h) whole = none p behind is (count, h)
frame_whole most n count text behind (inr (other, after, follows, low, cut, at)) k whole =
    let same = two_counts count other text behind after k follows in omega (arith, same.0, ap length same.1, cut, whole)

frame_counted : (most n : ℕ) (text b : List ℕ) → IsBadFrame most text n → BeginsWithOctets most text b → ⊥
frame_counted most n text b h k =
    frame_whole most n (length b) text (b ++ k.2.0) h (length_before most text b k)
    (omega (arith, length-append b k.2.0))

frame_long : (most n : ℕ) (text : List ℕ) → IsBadFrame most text n → IsTooLong most text → ⊥
frame_long most n text (inl (none, offset)) (count, behind, (p, is, h), long) = none p behind is (count, h)
frame_long most n text (inr (other, after, follows, low, cut, at)) (count, behind, k, long) =
    let same = two_counts count other text behind after k follows in omega (arith, same.0, low, long)

long_counted : (most : ℕ) (text b : List ℕ) → IsTooLong most text → BeginsWithOctets most text b → ⊥
long_counted most text b (count, behind, h, long) k =
    let same = two_counts count (length b) text behind (b ++ k.2.0) h (length_before most text b k) in
    omega (arith, same.0, k.1, long)

one_bad_frame : (most m n : ℕ) (text : List ℕ) → IsBadFrame most text m → IsBadFrame most text n → m ≡ n
one_bad_frame most m n text (inl (none, p)) (inl (also, q)) =
    omega (arith, p.longest n q.within q.begins, q.longest m p.within p.begins)
one_bad_frame most m n text (inl (none, p)) (inr (count, behind, (t, is, h), low, cut, at)) =
    absurd (none t behind is (count, h))
one_bad_frame most m n text (inr (count, behind, (t, is, h), low, cut, at)) (inl (none, p)) =
    absurd (none t behind is (count, h))
one_bad_frame most m n text (inr (count, behind, h, low, cut, at)) (inr (other, after, k, low', cut', at')) =
    at ∙ sym at'

same_counted : (most : ℕ) (text b c : List ℕ) → BeginsWithOctets most text b → BeginsWithOctets most text c → b ≡ c
same_counted most text b c h k = one_frame Counted b c h.2.0 k.2.0 h.0 k.0 (sym h.2.1 ∙ k.2.1)

-- the octets of an entry are well-formed
entry_well_formed : (e : Entry) (b : List ℕ) → IsEntry e → e.octets ≡ b → AnyOf WellFormed b
entry_well_formed e b (r, h) same = (
  r,
  subst (WellFormed r) same
      (canonical_well_formed r e.octets h.valid h.canonical),
)

-- ---- one fault

fault_behind : OctetsHaveOneFault → (most : ℕ) (es : List Entry) (rest : List ℕ) (f g : ArchiveFault)
    → IsFaultBehind most es rest f → IsFaultBehind most es rest g → f ≡ g
fault_behind one most es rest (BadFrame at) (BadFrame at') (n, h, is) (m, k, also) =
    let same : at ≡ at' = omega (arith, is, also, one_bad_frame most n m rest h k) in ap BadFrame same
fault_behind one most es rest (BadFrame at) (EntryTooLong at') (n, h, is) k = absurd (frame_long most n rest h k.1)
fault_behind one most es rest (BadFrame at) (BadEntry at' fault) (n, h, is) (also, (start, (b, k, bad))) =
    absurd (frame_counted most n rest b h k)
fault_behind one most es rest (BadFrame at) (NotCanonical at') (n, h, is) (also, (start, (b, k, bad))) =
    absurd (frame_counted most n rest b h k)
fault_behind one most es rest (BadFrame at) (NotAscending at') (n, h, is) (also, (e, entry, k, none)) =
    absurd (frame_counted most n rest e.octets h k)
fault_behind one most es rest (EntryTooLong at) (BadFrame at') h (n, k, is) = absurd (frame_long most n rest k h.1)
fault_behind one most es rest (EntryTooLong at) (EntryTooLong at') h k = ap EntryTooLong (h.0 ∙ sym k.0)
fault_behind one most es rest (EntryTooLong at) (BadEntry at' fault) h (also, (start, (b, k, bad))) =
    absurd (long_counted most rest b h.1 k)
fault_behind one most es rest (EntryTooLong at) (NotCanonical at') h (also, (start, (b, k, bad))) =
    absurd (long_counted most rest b h.1 k)
fault_behind one most es rest (EntryTooLong at) (NotAscending at') h (also, (e, entry, k, none)) =
    absurd (long_counted most rest e.octets h.1 k)
fault_behind one most es rest (BadEntry at fault) (BadFrame at') (also, (start, (b, k, bad))) (n, h, is) =
    absurd (frame_counted most n rest b h k)
fault_behind one most es rest (BadEntry at fault) (EntryTooLong at') (also, (start, (b, k, bad))) h =
    absurd (long_counted most rest b h.1 k)
fault_behind one most es rest (BadEntry at f) (BadEntry at' g) (is, (start, (b, h, bad)))
    (also, (start', (c, k, worse))) =
    let same : at ≡ at' = is ∙ sym also in
    let fault : f ≡ g = one c f g (subst (λ x. FaultOf x f) (same_counted most rest b c h k) bad.0) worse.0 in
    rw (same, fault) refl
fault_behind one most es rest (BadEntry at f) (NotCanonical at') (is, (start, (b, h, bad)))
    (also, (start', (c, k, worse))) =
    absurd (bad.1 (subst (λ x. AnyOf WellFormed x) (same_counted most rest c b k h) worse.0))
fault_behind one most es rest (BadEntry at f) (NotAscending at') (is, (start, (b, h, bad)))
    (also, (e, entry, k, none)) =
    absurd (bad.1 (entry_well_formed e b entry (same_counted most rest e.octets b k h)))
fault_behind one most es rest (NotCanonical at) (BadFrame at') (also, (start, (b, k, bad))) (n, h, is) =
    absurd (frame_counted most n rest b h k)
fault_behind one most es rest (NotCanonical at) (EntryTooLong at') (also, (start, (b, k, bad))) h =
    absurd (long_counted most rest b h.1 k)
fault_behind one most es rest (NotCanonical at) (BadEntry at' g) (also, (start', (c, k, worse)))
    (is, (start, (b, h, bad))) =
    absurd (bad.1 (subst (λ x. AnyOf WellFormed x) (same_counted most rest c b k h) worse.0))
fault_behind one most es rest (NotCanonical at) (NotCanonical at') h k = ap NotCanonical (h.0 ∙ sym k.0)
fault_behind one most es rest (NotCanonical at) (NotAscending at') (is, (start, (b, h, bad)))
    (also, (e, entry, k, none)) =
    absurd (bad.1 e entry (same_counted most rest e.octets b k h))
fault_behind one most es rest (NotAscending at) (BadFrame at') (also, (e, entry, k, none)) (n, h, is) =
    absurd (frame_counted most n rest e.octets h k)
fault_behind one most es rest (NotAscending at) (EntryTooLong at') (also, (e, entry, k, none)) h =
    absurd (long_counted most rest e.octets h.1 k)
fault_behind one most es rest (NotAscending at) (BadEntry at' g) (also, (e, entry, k, none))
    (is, (start, (b, h, bad))) =
    absurd (bad.1 (entry_well_formed e b entry (same_counted most rest e.octets b k h)))
fault_behind one most es rest (NotAscending at) (NotCanonical at') (also, (e, entry, k, none))
    (is, (start, (b, h, bad))) =
    absurd (bad.1 e entry (same_counted most rest e.octets b k h))
fault_behind one most es rest (NotAscending at) (NotAscending at') h k = ap NotAscending (h.0 ∙ sym k.0)

-- a text has one fault at most
pub one_archive_fault : OctetsHaveOneFault → (most : ℕ) (text : List ℕ) (f g : ArchiveFault) → most ≤ COUNT_MAX
    → IsArchiveFault most text f → IsArchiveFault most text g → f ≡ g
one_archive_fault one most text f g low (es, rest, prefix, some, bad) (fs, left, other, more, worse) =
    let same = one_longest most text es fs rest left low prefix other in
    fault_behind one most fs left f g (subst (λ xs. IsFaultBehind most xs left f) same.0
    (subst (λ s. IsFaultBehind most es s f) same.1 bad)) worse
