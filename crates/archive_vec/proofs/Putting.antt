-- The text of entries is put entry by entry.
use Rattle.std.proofs.Common.{arith, ◌≡◌, ℕ, suc, zero, ◌+◌, ◌*◌, ◌^◌, ◌<◌, ◌≤◌, ◌∙◌, List, [], ◌∷◌, ◌++◌, Some, Result}
use Rattle.std.proofs.Common.{length, take, drop, sym, ap, subst, add-one, refl, length-append, take-append-drop}
use Rattle.std.specs.Prelude.{decimal}
use Rattle.std.specs.List.{AllByRecursion, slice_get}
use Rattle.std.proofs.lemmas.Fmt.{length-decimal-le}
use Rattle.std.proofs.lemmas.List.{take_all}
use Rattle.octet_devices.specs.Device.{OutputState}
use Rattle.octet_devices.specs.Held.{Finishes, HasPut, Held, PutFailed}
use Rattle.octet_devices.specs.Transfers.{WritesAll, WrotePart}
use Rattle.octet_devices.specs.declared.loops.WriteFault.{WriteFault}
use Rattle.octet_devices.proofs.Putting.{has_put_then, put_fails_then, put_fails_within, puts_whole}
use Rattle.syslog_frame.specs.Frames.{framed}
use Rattle.syslog_frame.specs.declared.framing.Framing.TheVariants.{Counted}
use Rattle.archive_text.specs.Entries.{Entry}
use Rattle.archive_text.specs.Text.{IsArchive, entry_text, text_of}
use Rattle.archive_text.specs.declared.limits.TheConstants.{ENTRY_MAX}
use Rattle.archive_text.proofs.Puts.{fresh}
use Rattle.archive_text.proofs.Texts.{text_append, text_push}
use Rattle.archive_vec.specs.declared.span.TheConstants.{ENTRIES_MAX}

-- ---- entries of a list

-- one entry more
pub take_with : (es : List Entry) (e : Entry) (i : ℕ) → slice_get es i ≡ Some e → take (suc i) es ≡ take i es ++ e ∷ []
take_with [] e i at = absurd (cc)
take_with (y ∷ es) e zero at = let same : y ≡ e = cc in ap (λ (x : Entry). x ∷ []) same
take_with (y ∷ es) e (suc i) at = ap (λ (l : List Entry). y ∷ l) (take_with es e i at)

pub drop_with : (es : List Entry) (e : Entry) (i : ℕ) → slice_get es i ≡ Some e → drop i es ≡ e ∷ drop (suc i) es
drop_with [] e i at = absurd (cc)
drop_with (y ∷ es) e zero at = let same : y ≡ e = cc in ap (λ (x : Entry). x ∷ es) same
drop_with (y ∷ es) e (suc i) at = drop_with es e i at

pub text_take : (es : List Entry) (e : Entry) (i : ℕ) → slice_get es i ≡ Some e
    → text_of (take (i + 1) es) ≡ text_of (take i es) ++ framed Counted e.octets
text_take es e i at = ap (λ (n : ℕ). text_of (take n es)) (add-one i) ∙ ap text_of (take_with es e i at)
    ∙ text_push (take i es) e

-- ---- the length of a text

entry_bound : (e : Entry) → length e.octets ≤ ENTRY_MAX → length (entry_text e) ≤ 3 * 2 ^ 18
entry_bound e fits =
    let digits = length-decimal-le 6 (length e.octets) (omega arith) (omega arith) (omega arith) in
    omega (arith, length-append (decimal (length e.octets)) (32 ∷ e.octets), digits)

text_bound : (es : List Entry) → AllByRecursion (λ e. length e.octets ≤ ENTRY_MAX) es
    → length (text_of es) ≤ 3 * 2 ^ 18 * length es
text_bound [] h = omega arith
text_bound (e ∷ es) h = omega (arith, entry_bound e h.0, text_bound es h.1, length-append (entry_text e) (text_of es))

pub text_fits : (es : List Entry) → IsArchive ENTRY_MAX es → length es ≤ ENTRIES_MAX → length (text_of es) < 2 ^ 64
text_fits es archive few = omega (arith, text_bound es archive.fits)

-- ---- the loop

-- one entry more was put
pub puts_more : (a b c : OutputState) (h k l : Held) (es : List Entry) (e : Entry) (i : ℕ) → slice_get es i ≡ Some e
    → HasPut a b h k (text_of (take i es)) → HasPut b c k l (framed Counted e.octets)
    → HasPut a c h l (text_of (take (i + 1) es))
puts_more a b c h k l es e i at p q =
    subst (HasPut a c h l) (sym (text_take es e i at))
    (has_put_then a b c h k l (text_of (take i es)) (framed Counted e.octets) p q)

-- the writer failed at an entry
pub fails_at : (a b c : OutputState) (k : Held) (es : List Entry) (e : Entry) (i sent : ℕ) → IsArchive ENTRY_MAX es
    → length es ≤ ENTRIES_MAX → slice_get es i ≡ Some e → HasPut a b fresh k (text_of (take i es))
    → PutFailed b c k (framed Counted e.octets) sent → WrotePart a c (text_of es) sent
fails_at a b c k es e i sent archive few at p f =
    let whole : text_of (take i es) ++ framed Counted e.octets ++ text_of (drop (i + 1) es) ≡ text_of es =
    ap (λ (l : List ℕ). l ++ text_of (drop (i + 1) es)) (sym (text_take es e i at))
    ∙ sym (text_append (take (i + 1) es) (drop (i + 1) es))
    ∙ ap text_of (take-append-drop (i + 1) es) in
    put_fails_within a c fresh (text_of (take i es) ++ framed Counted e.octets) (text_of (drop (i + 1) es)) (text_of es)
    sent refl whole (text_fits es archive few)
    (put_fails_then a b c fresh k (text_of (take i es)) (framed Counted e.octets) sent p f)

-- all entries were put, and at last they are written
pub writes_all : {A : Type 0} (r : Result A WriteFault) (a b c : OutputState) (k l : Held) (es : List Entry) (i : ℕ)
    → IsArchive ENTRY_MAX es → length es ≤ ENTRIES_MAX → length es ≤ i → HasPut a b fresh k (text_of (take i es))
    → Finishes b c k l r → WritesAll a c (text_of es) r
writes_all r a b c k l es i archive few end p f =
    puts_whole r a b c fresh k l (text_of es) refl (text_fits es archive few)
    (subst (λ (l : List Entry). HasPut a b fresh k (text_of l)) (take_all i es end) p) f
