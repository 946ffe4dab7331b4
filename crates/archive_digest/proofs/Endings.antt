-- The end of a digest.
use Rattle.std.proofs.Common.{◌≡◌, ℕ, List, [], ◌∷◌, ◌++◌, Option, Result, Ok, Err, sym, subst, refl, ◌∙◌}
use Rattle.std.proofs.Common.{inl, inr, arith}
use Rattle.std.specs.Prelude.{◌≢◌, ◌↔◌, codes}
use Rattle.std.specs.Io.KnownBytes.{Appends}
use Rattle.octet_devices.specs.Device.{InputState, OutputState}
use Rattle.octet_devices.specs.Held.{HasFinished, HasPut, Held, FinishFailed, PutFailed, Puts, StopsWithin}
use Rattle.octet_devices.specs.declared.loops.WriteFault.{WriteFault}
use Rattle.octet_devices.proofs.Carrying.{StopsWithin-take}
use Rattle.octet_devices.proofs.Putting.{put_fails_before, puts_then}
use Rattle.archive_text.specs.Entries.{Entry}
use Rattle.archive_streams.proofs.EntrySteps.{begun_whole}
use Rattle.archive_sets.specs.Failures.{ReadFailed, ReadFailures}
use Rattle.archive_sets.specs.declared.fault.SelectFault.{SelectFault}
use Rattle.archive_sets.specs.declared.fault.SelectFault.TheVariants.{Archive, Read, Endless, Write, Memory}
use Rattle.archive_digest.specs.DigestedWith.{DigestedWith, StoppedWith}
use Rattle.archive_digest.specs.Digesting.{ReadWhole}
use Rattle.archive_digest.specs.Digests.{digest_with, line_with, lines_with}
use Rattle.archive_digest.specs.Putting.{ending}
use Rattle.archive_digest.specs.Sums.{IsTallyOf}
use Rattle.archive_digest.specs.declared.digesting.Digesting.{Digesting}
use Rattle.archive_digest.specs.declared.roots.Roots.{Roots}
use Rattle.archive_text.specs.declared.period.Period.{Period}
use Rattle.archive_digest.proofs.Lines.{short_digest}
use Rattle.archive_digest.proofs.Steps.{digest_so_far, divided_so_far, empty_so_far, parts_of, short_read}

-- ---- the last lines

pub ending_none : (roots : Roots) (name : List ℕ) (xs latest : List Entry) → latest ≡ []
    → ending roots name xs latest ≡ line_with roots (codes "total") xs
ending_none roots name xs [] none = refl
ending_none roots name xs (e ∷ es) none = absurd cc

pub ending_some : (roots : Roots) (name : List ℕ) (xs latest : List Entry) → latest ≢ []
    → ending roots name xs latest ≡ line_with roots name latest ++ line_with roots (codes "total") xs
ending_some roots name xs [] some = absurd (some refl)
ending_some roots name xs (e ∷ es) some = refl

pub first_line_fails : (roots : Roots) (a b : OutputState) (h : Held) (name text : List ℕ) (xs latest : List Entry)
    (sent : ℕ)
    → latest ≢ [] → text ≡ line_with roots name latest → PutFailed a b h text sent
    → PutFailed a b h (ending roots name xs latest) sent
first_line_fails roots a b h name text xs latest sent some is f =
    subst (λ (l : List ℕ). PutFailed a b h l sent) (sym (ending_some roots name xs latest some))
    (put_fails_before a b h (line_with roots name latest) (line_with roots (codes "total") xs) sent
    (subst (λ (l : List ℕ). PutFailed a b h l sent) is f))

pub both_lines : {A : Type 0} (roots : Roots) (r : Result A WriteFault) (a m b : OutputState) (h k l : Held)
    (name first last : List ℕ)
    (xs latest : List Entry)
    → latest ≢ [] → first ≡ line_with roots name latest → last ≡ line_with roots (codes "total") xs
    → HasPut a m h k first
    → Puts m b k l last r → Puts a b h l (ending roots name xs latest) r
both_lines roots r a m b h k l name first last xs latest some is total p q =
    subst (λ (t : List ℕ). Puts a b h l t r) (sym (ending_some roots name xs latest some))
    (puts_then r a m b h k l (line_with roots name latest) (line_with roots (codes "total") xs)
    (subst (HasPut a m h k) is p) (subst (λ (t : List ℕ). Puts m b k l t r) total q))

-- ---- all of it

-- it was written
pub finished : (roots : Roots) (period : Period) (s : Digesting) (held kept : Held) (d e : InputState)
    (start : Option (List ℕ))
    (a m b : OutputState) (n : ℕ) → n ≡ s.tally.total.records
    → ((xs latest : List Entry) → ((xs ≡ []) ↔ (latest ≡ [])) → IsTallyOf roots s.tally xs latest
    → HasPut a m s.held held (ending roots s.name xs latest))
    → HasFinished m b held kept → ReadWhole roots period s d e start a.taken
    → DigestedWith roots period d e start b.taken n
finished roots period s held kept d e start a m b n is puts finishes w =
    let u = w.under_way in
    let put = puts w.xs u.latest (empty_so_far period s.name w.xs u.earlier u.latest u.so_far) u.tally in
    record {
      xs = w.xs;
      parts = parts_of u.earlier s.name u.latest;
      whole = w.whole;
      divided = divided_so_far period s.name w.xs u.earlier u.latest u.so_far;
      written = subst (Appends start b.taken) (digest_so_far roots s.name w.xs u.earlier u.latest)
          (finishes.whole start (lines_with roots u.earlier ++ ending roots s.name w.xs u.latest)
          (put.carries start (lines_with roots u.earlier) u.carries));
      count = is ∙ u.tally.all.records;
    }

-- or the writer took a part of it
cut_end : (roots : Roots) (period : Period) (s : Digesting) (d e : InputState) (start now : Option (List ℕ))
    (past : Option (List ℕ))
    (sent : ℕ) → (w : ReadWhole roots period s d e start past)
    → StopsWithin start now (lines_with roots w.under_way.earlier ++ ending roots s.name w.xs w.under_way.latest) sent
    → StoppedWith roots period (Write sent) d e start now
cut_end roots period s d e start now past sent w stops =
    let u = w.under_way in
    let read = begun_whole d e w.xs w.whole in
    let divided = divided_so_far period s.name w.xs u.earlier u.latest u.so_far in
    let text : List ℕ = digest_with roots w.xs (parts_of u.earlier s.name u.latest) in
    let short = short_digest roots period w.xs (parts_of u.earlier s.name u.latest) divided
    (short_read d e w.xs read) in
    let within : StopsWithin start now text sent =
    subst (λ (l : List ℕ). StopsWithin start now l sent) (digest_so_far roots s.name w.xs u.earlier u.latest) stops in
    let taken = StopsWithin-take start now text sent within (omega (arith, short)) in
    record {
      xs = w.xs;
      parts = parts_of u.earlier s.name u.latest;
      read = read;
      divided = divided;
      written = record { text = text; whose = inr (w.whole, refl); some_left = taken.0; written = taken.1 };
    }

pub finish_fails : (roots : Roots) (period : Period) (s : Digesting) (held : Held) (d e : InputState)
    (start : Option (List ℕ))
    (a m b : OutputState) (sent : ℕ)
    → ((xs latest : List Entry) → ((xs ≡ []) ↔ (latest ≡ [])) → IsTallyOf roots s.tally xs latest
    → HasPut a m s.held held (ending roots s.name xs latest))
    → FinishFailed m b held sent → ReadWhole roots period s d e start a.taken
    → StoppedWith roots period (Write sent) d e start b.taken
finish_fails roots period s held d e start a m b sent puts fails w =
    let u = w.under_way in
    let put = puts w.xs u.latest (empty_so_far period s.name w.xs u.earlier u.latest u.so_far) u.tally in
    cut_end roots period s d e start b.taken a.taken sent w
    (fails.stops start (lines_with roots u.earlier ++ ending roots s.name w.xs u.latest)
    (put.carries start (lines_with roots u.earlier) u.carries))

pub ending_fails : (roots : Roots) (period : Period) (s : Digesting) (d e : InputState) (start : Option (List ℕ))
    (a b : OutputState) (sent : ℕ)
    → ((xs latest : List Entry) → ((xs ≡ []) ↔ (latest ≡ [])) → IsTallyOf roots s.tally xs latest
    → PutFailed a b s.held (ending roots s.name xs latest) sent)
    → ReadWhole roots period s d e start a.taken → StoppedWith roots period (Write sent) d e start b.taken
ending_fails roots period s d e start a b sent puts w =
    let u = w.under_way in
    let put = puts w.xs u.latest (empty_so_far period s.name w.xs u.earlier u.latest u.so_far) u.tally in
    cut_end roots period s d e start b.taken a.taken sent w (put.stops start (lines_with roots u.earlier) u.carries)

-- ---- the reader did not fail meanwhile

pub tells_read : {X : Type 0} (r : Result X SelectFault) (old new : ℕ) → ((n : ℕ) → ReadFailures r n n) → new ≡ old
    → ReadFailed r old new
tells_read (Ok x) old new none same = same
tells_read (Err (Archive fault)) old new none same = same
tells_read (Err Read) old new none same = same ∙ none old
tells_read (Err Endless) old new none same = same
tells_read (Err (Write sent)) old new none same = inl same
tells_read (Err Memory) old new none same = same
