-- Steps that are served, one after the other.
use Rattle.std.proofs.Common.{◌≡◌, ◌⊎◌, ℕ, ◌+◌, ◌-◌, ◌^◌, ◌<◌, ◌≤◌, suc, List, [], ◌∷◌, ◌++◌, length, refl, sym, ◌∙◌}
use Rattle.std.proofs.Common.{append_assoc, ap, subst, inl, inr, arith, Bool, true, false}
use Rattle.std.specs.Prelude.{◌||◌, Option, Some, None, Result, Ok, Err, OnOk}
use Rattle.std.specs.Io.KnownBytes.{Appends}
use Rattle.std.proofs.lemmas.List.{append-nil, length-append}
use Rattle.syslog_legacy.specs.declared.frame_reading.FrameReading.{FrameReading}
use Rattle.syslog_collect.specs.History.{AcceptedEvent, History, accept, history_after, history_of, initial}
use Rattle.syslog_collect.specs.declared.outcome.Outcome.{Outcome}
use Rattle.collect_engine.specs.Lines.{NotesAs, NotesFail, counted, has_some, lines_on, memory_after}
use Rattle.collect_engine.specs.Receiving.{IfNotMemory, ReceivesAs, TakesPartOf}
use Rattle.collect_engine.specs.Serving.{AreFirst, Come, EventServed, GoesOn, ServesAll, ServesStep, ServesToEnd}
use Rattle.collect_engine.specs.Serving.{StepServed, StepsServed, StopsAtStep, UnlessMemory}
use Rattle.collect_engine.specs.Serving.{GaveNext, GaveSteps}
use Rattle.collect_engine.specs.Steps.{Comes, Datagram, Ended, FailuresAfter, Failed, Finished, FinishesAfter, GaveStep, Given}
use Rattle.collect_engine.specs.Steps.{Opened, Piece, SourceState, given_of, how_often, says_failed, says_finished}
use Rattle.collect_engine.specs.declared.serving.TheConstants.{SERVE_TURNS}
use Rattle.collect_engine.specs.declared.step.Step.{Step}
use Rattle.collect_engine.specs.declared.step.Step.TheVariants.{Opened as step_Opened, Piece as step_Piece}
use Rattle.collect_engine.specs.declared.step.Step.TheVariants.{Ended as step_Ended, Datagram as step_Datagram}
use Rattle.collect_engine.specs.declared.step.Step.TheVariants.{Finished as step_Finished, Failed as step_Failed}
use Rattle.syslog_frame.specs.declared.limits.TheConstants.{FRAME_MAX}
use Rattle.collect_engine.specs.declared.receiving.Received.{Received}
use Rattle.collect_engine.specs.declared.receiving.Received.TheVariants as received
use Rattle.collect_engine.specs.declared.serve_end.Stopped.{Stopped}
use Rattle.collect_engine.specs.declared.serve_end.Stopped.TheVariants as stopped

pub appends_none : (a : Option (List ℕ)) → Appends a a []
appends_none None = tt
appends_none (Some xs) = sym (append-nil xs)

-- the lines on an event that was received are written
pub event_served : (way : FrameReading) (h : History) (w v : ℕ → ℕ) (n m : ℕ) (e : AcceptedEvent) (r : Received)
    (os : List Outcome) (es : List AcceptedEvent) (told : List ℕ) (result : Result (Unit {0}) Stopped) → GoesOn r
    → ReceivesAs way h w v e r os es → NotesAs result (lines_on n os r) told → OnOk result (m ≡ counted n os)
    → EventServed way h w v n m result e es told
event_served way h w v n m e r os es told (Ok u) goes is noted number = (r, os, goes, is, noted, number)
event_served way h w v n m e r os es told (Err stopped.Notes) goes is (k, less, first) number =
    (counted n os, lines_on n os r, k, (r, os, goes, is, refl, refl), less, first)
event_served way h w v n m e r os es told (Err stopped.Memory) goes is noted number =
    inr (counted n os, lines_on n os r, (r, os, goes, is, refl, refl), noted)
event_served way h w v n m e r os es told (Err stopped.Step) goes is noted number = absurd noted
event_served way h w v n m e r os es told (Err stopped.Endless) goes is noted number = absurd noted
event_served way h w v n m e r os es told (Err stopped.MemoryAndNotes) goes is noted number = absurd noted

-- memory ran out at an event; the lines on what was taken of it were written, or could not be
memory_served : (way : FrameReading) (h : History) (w v : ℕ → ℕ) (n m : ℕ) (e : AcceptedEvent) (os : List Outcome)
    (es : List AcceptedEvent) (told : List ℕ) (result : Result (Unit {0}) Stopped) → TakesPartOf way h w v e os es
    → NotesAs result (lines_on n os received.Memory) told
    → EventServed {U = Unit {0}} way h w v n m (Err (memory_after result)) e es told
memory_served way h w v n m e os es told (Ok u) is noted = inl (os, is, inl noted)
memory_served way h w v n m e os es told (Err stopped.Notes) is (k, less, first) = (os, k, is, less, first)
memory_served way h w v n m e os es told (Err stopped.Memory) is noted = inl (os, is, inr noted)
memory_served way h w v n m e os es told (Err stopped.Step) is noted = absurd noted
memory_served way h w v n m e os es told (Err stopped.Endless) is noted = absurd noted
memory_served way h w v n m e os es told (Err stopped.MemoryAndNotes) is noted = absurd noted

pub out_of_memory_served : (way : FrameReading) (h : History) (w v : ℕ → ℕ) (n m : ℕ) (e : AcceptedEvent)
    (os : List Outcome) (es : List AcceptedEvent) (told : List ℕ) (result : Result (Unit {0}) Stopped) (why : Stopped)
    → why ≡ memory_after result → TakesPartOf way h w v e os es → NotesAs result (lines_on n os received.Memory) told
    → EventServed {U = Unit {0}} way h w v n m (Err why) e es told
out_of_memory_served way h w v n m e os es told result why is part noted =
    subst (λ (k : Stopped). EventServed {U = Unit {0}} way h w v n m (Err k) e es told) (sym is)
    (memory_served way h w v n m e os es told result part noted)

memory_settled : (result : Result (Unit {0}) Stopped) (P : Type 0)
    → UnlessMemory {A = Unit {0}} (Err (memory_after result)) P
memory_settled (Ok u) P = tt
memory_settled (Err stopped.Notes) P = tt
memory_settled (Err stopped.Memory) P = tt
memory_settled (Err stopped.Step) P = tt
memory_settled (Err stopped.Endless) P = tt
memory_settled (Err stopped.MemoryAndNotes) P = tt

pub out_of_memory_settled : (result : Result (Unit {0}) Stopped) (why : Stopped) (P : Type 0)
    → why ≡ memory_after result → UnlessMemory {A = Unit {0}} (Err why) P
out_of_memory_settled result why P is =
    subst (λ (k : Stopped). UnlessMemory {A = Unit {0}} (Err k) P) (sym is) (memory_settled result P)

memory_fails : (result : Result (Unit {0}) Stopped) (was now : ℕ) → NotesFail result was now
    → NotesFail {A = Unit {0}} (Err (memory_after result)) was now
memory_fails (Ok u) was now fails = fails
memory_fails (Err stopped.Notes) was now fails = fails
memory_fails (Err stopped.Memory) was now fails = fails
memory_fails (Err stopped.Step) was now fails = fails
memory_fails (Err stopped.Endless) was now fails = fails
memory_fails (Err stopped.MemoryAndNotes) was now fails = fails

pub out_of_memory_fails : (result : Result (Unit {0}) Stopped) (why : Stopped) (was now : ℕ)
    → why ≡ memory_after result → NotesFail result was now → NotesFail {A = Unit {0}} (Err why) was now
out_of_memory_fails result why was now is fails =
    subst (λ (k : Stopped). NotesFail {A = Unit {0}} (Err k) was now) (sym is) (memory_fails result was now fails)

-- after calls that did not fail
pub fails_later : {A : Type 0} (result : Result A Stopped) (was mid now : ℕ) → mid ≡ was → NotesFail result mid now
    → NotesFail result was now
fails_later result was mid now same fails = subst (λ (k : ℕ). NotesFail result k now) same fails

pub same_flag : (b : Bool) → b ≡ (b || false)
same_flag true = refl
same_flag false = refl

-- whether a line was noted
pub refused_told : (result : Result (Unit {0}) Stopped) (octets told : List ℕ) (a b : Bool) → NotesAs result octets told
    → OnOk result (a ≡ (b || has_some octets)) → OnOk result (a ≡ (b || has_some told))
refused_told (Ok u) octets told a b noted is = is ∙ ap (λ (xs : List ℕ). b || has_some xs) (sym noted)
refused_told (Err _) octets told a b noted is = tt

pub going : (r : Received) → (r ≡ received.Accepted) ⊎ ((start : ℕ) × (r ≡ received.Unterminated start)) → GoesOn r
going r (inl is) = subst GoesOn (sym is) tt
going r (inr (start, is)) = subst GoesOn (sym is) tt

pub still_settled : (r : Received) (P : Type 0) → GoesOn r → IfNotMemory r P → P
still_settled received.Accepted P goes h = h
still_settled (received.Unterminated start) P goes h = h
still_settled received.Refused P goes h = absurd goes
still_settled received.Memory P goes h = absurd goes

pub unless_memory : {A : Type 0} (result : Result A Stopped) (P : Type 0) → P → UnlessMemory result P
unless_memory (Ok a) P h = h
unless_memory (Err stopped.Step) P h = h
unless_memory (Err stopped.Notes) P h = h
unless_memory (Err stopped.Endless) P h = h
unless_memory (Err stopped.Memory) P h = tt
unless_memory (Err stopped.MemoryAndNotes) P h = tt

-- ---- steps, one after the other

next_place : (n : ℕ) → n + 1 ≡ suc n
next_place n = omega arith

no_more : (k : ℕ) → k ≡ k + 0
no_more k = omega arith

zero_plus : (n : ℕ) → 0 + n ≡ n
zero_plus n = omega arith

place : (k a b : ℕ) → b ≡ a + 1 → (k + 1) + a ≡ k + b
place k a b e = omega arith

first_push : (coming : ℕ → Given) (gs : List Given) (g : Given) → AreFirst coming gs → coming (length gs) ≡ g
    → AreFirst coming (gs ++ g ∷ [])
first_push coming [] g are is = (is, tt)
first_push coming (x ∷ gs) g are is =
    (are.0, first_push (λ (k : ℕ). coming (k + 1)) gs g are.1 (ap coming (next_place (length gs)) ∙ is))

-- one step more came
come_push : (a b c : Option (ℕ → Given)) (gs : List Given) (g : Given) → Come a b gs → Comes b c g
    → Come a c (gs ++ g ∷ [])
come_push None b c gs g come comes = tt
come_push (Some old) None c gs g come comes = absurd come
come_push (Some old) (Some mid) None gs g come comes = absurd comes
come_push (Some old) (Some mid) (Some new) gs g (are, later) (is, next) = (
  first_push old gs g are (ap old (sym (zero_plus (length gs))) ∙ sym (later 0) ∙ is),
  λ k. next k ∙ later (k + 1) ∙ ap old (place k (length gs) (length (gs ++ g ∷ [])) (length-append gs (g ∷ []))),
)

come_none : (a : Option (ℕ → Given)) → Come a a []
come_none None = tt
come_none (Some old) = (tt, λ k. ap old (no_more k))

fails_as : (step : Step) (buf : List ℕ) (a b : ℕ) → FailuresAfter step a b → a < 2 ^ 64 - 1
    → b ≡ a + says_failed (given_of step buf)
fails_as (step_Opened framing) buf a b h few = omega (arith, h)
fails_as (step_Piece n) buf a b h few = omega (arith, h)
fails_as step_Ended buf a b h few = omega (arith, h)
fails_as (step_Datagram n) buf a b h few = omega (arith, h)
fails_as step_Finished buf a b h few = omega (arith, h)
fails_as step_Failed buf a b h few = omega (arith, h, few)

finishes_as : (step : Step) (buf : List ℕ) (a b : ℕ) → FinishesAfter step a b → a < 2 ^ 64 - 1
    → b ≡ a + says_finished (given_of step buf)
finishes_as (step_Opened framing) buf a b h few = omega (arith, h)
finishes_as (step_Piece n) buf a b h few = omega (arith, h)
finishes_as step_Ended buf a b h few = omega (arith, h)
finishes_as (step_Datagram n) buf a b h few = omega (arith, h)
finishes_as step_Finished buf a b h few = omega (arith, h, few)
finishes_as step_Failed buf a b h few = omega (arith, h)

-- a step of a source
pub gave_next : (old new : SourceState) (step : Step) (buf : List ℕ) → GaveStep old new step buf
    → GaveNext old new (length buf) (given_of step buf)
gave_next old new step buf g = record {
  counted = λ few. omega (arith, g.counted, few);
  failures = λ few. fails_as step buf old.failures new.failures g.failures few;
  finishes = λ few. finishes_as step buf old.finishes new.finishes g.finishes few;
  comes = g.comes;
}

often_push : (says : Given → ℕ) (gs : List Given) (g : Given)
    → how_often says (gs ++ g ∷ []) ≡ how_often says gs + says g
often_push says [] g = omega arith
often_push says (x ∷ gs) g = omega (arith, often_push says gs g)

often_few : (says : Given → ℕ) → ((g : Given) → says g ≤ 1) → (gs : List Given) → how_often says gs ≤ length gs
often_few says one [] = omega arith
often_few says one (g ∷ gs) = omega (arith, one g, often_few says one gs)

failed_once : (g : Given) → says_failed g ≤ 1
failed_once (Opened framing) = omega arith
failed_once (Piece octets) = omega arith
failed_once Ended = omega arith
failed_once (Datagram octets) = omega arith
failed_once Finished = omega arith
failed_once Failed = omega arith

finished_once : (g : Given) → says_finished g ≤ 1
finished_once (Opened framing) = omega arith
finished_once (Piece octets) = omega arith
finished_once Ended = omega arith
finished_once (Datagram octets) = omega arith
finished_once Finished = omega arith
finished_once Failed = omega arith

-- no step was asked
pub gave_none : (s : SourceState) → GaveSteps s s []
gave_none s = record {
  few = omega arith;
  counted = λ few. omega arith;
  failures = λ few. omega arith;
  finishes = λ few. omega arith;
  come = λ few. come_none s.coming;
}

-- one step more was
pub gave_push : (a b c : SourceState) (room : ℕ) (gs : List Given) (g : Given) → length gs < SERVE_TURNS
    → FRAME_MAX < room → GaveSteps a b gs → GaveNext b c room g → GaveSteps a c (gs ++ g ∷ [])
gave_push a b c room gs g more has_room all next =
    let len = length-append gs (g ∷ []) in
    record {
      few = omega (arith, len, more);
      counted = λ few.
          let so_far = all.counted few in
          omega (arith, so_far, len, next.counted (omega (arith, so_far, few, more)));
      failures = λ few.
          let so_far = all.failures few in
          omega (
            arith,
            so_far,
            often_push says_failed gs g,
            next.failures (omega (arith, so_far, few, more, often_few says_failed failed_once gs)),
          );
      finishes = λ few.
          let so_far = all.finishes few in
          omega (
            arith,
            so_far,
            often_push says_finished gs g,
            next.finishes (omega (arith, so_far, few, more, often_few says_finished finished_once gs)),
          );
      come = λ few.
          come_push a.coming b.coming c.coming gs g (all.come few)
          (next.comes (omega (arith, all.counted few, few, more)) has_room);
    }

pub history_push : (h : History) (es fs : List AcceptedEvent)
    → history_after h (es ++ fs) ≡ history_after (history_after h es) fs
history_push h [] fs = refl
history_push h (e ∷ es) fs = history_push (accept h e) es fs

-- a step more is served
pub serves_push : (way : FrameReading) (h : History) (w v z : ℕ → ℕ) (n m l : ℕ) (gs : List Given) (g : Given)
    (es fs : List AcceptedEvent) (xs ys : List ℕ) → ServesAll way h w v n m gs es xs
    → ServesStep way (history_after h es) v z m l g fs ys
    → ServesAll way h w z n l (gs ++ g ∷ []) (es ++ fs) (xs ++ ys)
serves_push way h w v z n m l [] g es fs xs ys (waits, number, events, lines) step =
    let all : v ≡ w = λ i d. waits d i in
    let there : History = history_after h es in
    let one = subst (λ (k : ℕ). ServesStep way h w z k l g fs ys) number
    (subst (λ (f : ℕ → ℕ). ServesStep way h f z m l g fs ys) all
    (subst (λ (t : List AcceptedEvent). ServesStep way (history_after h t) v z m l g fs ys) events step)) in (
      z,
      l,
      fs,
      [],
      ys,
      [],
      ap (λ (t : List AcceptedEvent). t ++ fs) events ∙ sym (append-nil fs),
      ap (λ (t : List ℕ). t ++ ys) lines ∙ sym (append-nil ys),
      one,
      (λ d. refl, refl, refl, refl),
    )
serves_push way h w v z n m l (x ∷ gs) g es fs xs ys (u, k, here, later, first, rest, events, lines, one, more)
    step = (
      u,
      k,
      here,
      later ++ fs,
      first,
      rest ++ ys,
      ap (λ (t : List AcceptedEvent). t ++ fs) events ∙ append_assoc here later fs,
      ap (λ (t : List ℕ). t ++ ys) lines ∙ append_assoc first rest ys,
      one,
      serves_push way (history_after h here) u v z k m l gs g later fs rest ys more
          (subst (λ (t : History). ServesStep way t v z m l g fs ys)
          (ap (λ (t : List AcceptedEvent). history_after h t) events ∙ history_push h here later) step),
    )

pub serves_one_more : (way : FrameReading) (h : History) (w v z : ℕ → ℕ) (m l : ℕ) (gs : List Given) (g : Given)
    (es fs : List AcceptedEvent) (xs ys : List ℕ) (last : Bool) → last ≡ false → ServesAll way h w v 1 m gs es xs
    → StepServed way (history_after h es) v z m l (Ok last) g fs ys
    → ServesAll way h w z 1 l (gs ++ g ∷ []) (es ++ fs) (xs ++ ys)
serves_one_more way h w v z m l gs g es fs xs ys last is_false all one =
    serves_push way h w v z 1 m l gs g es fs xs ys all
    (subst (λ (b : Bool). StepServed way (history_after h es) v z m l (Ok b) g fs ys) is_false one)

pub has_some_append : (xs ys : List ℕ) → has_some (xs ++ ys) ≡ (has_some xs || has_some ys)
has_some_append [] ys = refl
has_some_append (x ∷ xs) ys = refl

-- ---- where serving ends

-- a step after events, as one after their history
pub step_here : (way now : FrameReading) (before es : List AcceptedEvent) (u v : ℕ → ℕ) (n m : ℕ)
    (result : Result Bool Stopped) (g : Given) (fs : List AcceptedEvent) (ys : List ℕ) → now ≡ way
    → StepServed now (history_of (before ++ es)) u v n m result g fs ys
    → StepServed way (history_after (history_of before) es) u v n m result g fs ys
step_here way now before es u v n m result g fs ys same served =
    subst (λ (k : FrameReading). StepServed k (history_after (history_of before) es) u v n m result g fs ys) same
    (subst (λ (h : History). StepServed now h u v n m result g fs ys) (history_push initial before es) served)

-- the end of the source
pub serves_end : (way : FrameReading) (h : History) (w u v : ℕ → ℕ) (n m : ℕ) (gs : List Given) (g : Given)
    (es fs : List AcceptedEvent) (xs ys : List ℕ) (refused was last : Bool) → last ≡ true
    → ServesAll way h w u 1 n gs es xs → StepServed way (history_after h es) u v n m (Ok last) g fs ys
    → was ≡ has_some xs → refused ≡ (was || has_some ys)
    → ServesToEnd way h w v refused (gs ++ g ∷ []) (es ++ fs) (xs ++ ys)
serves_end way h w u v n m gs g es fs xs ys refused was last is_last all one before is =
    let (finished, waits, number, events, lines) =
    subst (λ (b : Bool). StepServed way (history_after h es) u v n m (Ok b) g fs ys) is_last one in
    let same : v ≡ u = λ i d. waits d i in
    let none : es ≡ es ++ fs = sym (ap (λ (t : List AcceptedEvent). es ++ t) events ∙ append-nil es) in
    let quiet : xs ≡ xs ++ ys = sym (ap (λ (t : List ℕ). xs ++ t) lines ∙ append-nil xs) in (
      gs,
      n,
      ap (λ (t : Given). gs ++ t ∷ []) finished,
      subst (λ (t : List ℕ). ServesAll way h w v 1 n gs (es ++ fs) t) quiet
          (subst (λ (t : List AcceptedEvent). ServesAll way h w v 1 n gs t xs) none
          (subst (λ (f : ℕ → ℕ). ServesAll way h w f 1 n gs es xs) (sym same) all)),
      is ∙ ap (λ (b : Bool). b || has_some ys) before ∙ sym (has_some_append xs ys),
    )

pub serves_stop : (way : FrameReading) (h : History) (w u v : ℕ → ℕ) (n : ℕ) (gs : List Given) (g : Given)
    (es fs : List AcceptedEvent) (xs ys : List ℕ) (stop : Stopped) → ServesAll way h w u 1 n gs es xs
    → StopsAtStep way (history_after h es) u v n stop g fs ys
    → StepsServed way h w v (Err stop) (gs ++ g ∷ []) (es ++ fs) (xs ++ ys)
serves_stop way h w u v n gs g es fs xs ys stopped.Step all last =
    (gs, g, u, n, es, fs, xs, ys, refl, refl, refl, all, last)
serves_stop way h w u v n gs g es fs xs ys stopped.Notes all last =
    (gs, g, u, n, es, fs, xs, ys, refl, refl, refl, all, last)
serves_stop way h w u v n gs g es fs xs ys stopped.Memory all last =
    inr (gs, g, u, n, es, fs, xs, ys, refl, refl, refl, all, last)
serves_stop way h w u v n gs g es fs xs ys stopped.MemoryAndNotes all last =
    (gs, g, u, n, es, fs, xs, ys, refl, refl, refl, all, last)
serves_stop way h w u v n gs g es fs xs ys stopped.Endless all (inl last) = let e = last.0 in absurd (cc)
serves_stop way h w u v n gs g es fs xs ys stopped.Endless all (inr last) = absurd last.2

pub one_more : {A : Type 0} (xs : List A) (x : A) (n : ℕ) → length xs ≡ n → length (xs ++ x ∷ []) ≡ n + 1
one_more xs x n is = length-append xs (x ∷ []) ∙ ap (λ (m : ℕ). m + 1) is

pub stopped_as : (way : FrameReading) (h : History) (w v : ℕ → ℕ) (was why : Stopped) (gs : List Given)
    (es : List AcceptedEvent) (xs : List ℕ) → was ≡ why → StepsServed way h w v (Err was) gs es xs
    → StepsServed way h w v (Err why) gs es xs
stopped_as way h w v was why gs es xs is served =
    subst (λ (k : Stopped). StepsServed way h w v (Err k) gs es xs) is served

pub stopped_fails : (was why : Stopped) (before now : ℕ) → was ≡ why → NotesFail {A = Bool} (Err was) before now
    → NotesFail {A = Bool} (Err why) before now
stopped_fails was why before now is fails = subst (λ (k : Stopped). NotesFail {A = Bool} (Err k) before now) is fails

pub stopped_settled : (was why : Stopped) (P : Type 0) → was ≡ why → UnlessMemory {A = Bool} (Err was) P
    → UnlessMemory {A = Bool} (Err why) P
stopped_settled was why P is h = subst (λ (k : Stopped). UnlessMemory {A = Bool} (Err k) P) is h
