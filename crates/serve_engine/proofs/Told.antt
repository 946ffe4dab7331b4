-- Lines that were told.
use Rattle.std.proofs.Common.{◌≡◌, ◌∙◌, ◌⊎◌, ℕ, ◌+◌, ◌*◌, ◌≤◌, List, [], ◌∷◌, ◌++◌, length, take, ap, arith, inl, inr}
use Rattle.std.proofs.Common.{refl, sym, subst}
use Rattle.std.specs.Bool.{OnTrue}
use Rattle.std.specs.Prelude.{Bool, false, OnOk, Result, Ok, Err, Option, Some, None, if◌then◌else◌, is_ok, sum_by}
use Rattle.std.specs.Prelude.{true}
use Rattle.std.specs.Io.KnownBytes.{Appends}
use Rattle.std.proofs.lemmas.List.{length-append, take_all}
use Rattle.std.proofs.lemmas.List.Sums.{sum_by-cons}
use Rattle.std.proofs.lemmas.Bool.Decides.{eqb_tells}
use Rattle.std.proofs.Math.Nat.{add-mul}
use Rattle.octet_devices.specs.Device.{OutputState}
use Rattle.octet_devices.specs.Transfers.{WritesAll}
use Rattle.octet_devices.specs.declared.loops.WriteFault.{WriteFault}
use Rattle.syslog_collect.specs.History.{Stream}
use Rattle.syslog_collect.specs.Observers.{AreTold, HearsPiece, IsTold}
use Rattle.syslog_collect.specs.declared.outcome.Outcome.{Outcome}
use Rattle.syslog_collect.specs.declared.outcome.Outcome.TheVariants.{New, Held, Refused, RefusedLegacy, TooLong}
use Rattle.syslog_collect.specs.declared.outcome.Outcome.TheVariants.{BadCount}
use Rattle.collect_engine.specs.Receiving.{HearsReceived}
use Rattle.serve_engine.specs.Notes.{IsNote, OwesLittle, Passes, PaysLines, TakesLines, TakesMade, TakesSome}
use Rattle.serve_engine.specs.Notes.{TakesText, TellTurns, Telling}
use Rattle.serve_engine.specs.Notes.{TellsFew, TellsLines, TellsOf, TellsTurn, Told, line_count, line_counts}
use Rattle.serve_engine.specs.Lines.{is_refused}
use Rattle.serve_engine.specs.Notes.{told_in}
use Rattle.serve_engine.specs.Peers.{peer_of}
use Rattle.serve_engine.specs.Refusals.{KeepsNext, kept_in}
use Rattle.serve_engine.specs.declared.report.Report.{Report}
use Rattle.serve_engine.specs.Paces.{HasLine, SpendsLine, clock_of, owed_by, owed_by_all}
use Rattle.serve_engine.specs.declared.pace.Pace.{Pace}
use Rattle.serve_engine.specs.declared.pace.TheConstants.{ALL_COST, ALL_MOST, PEER_COST, PEER_MOST}
use Rattle.serve_engine.specs.declared.limits.TheConstants.{STATUS_LINES, TURN_LINES}

-- ---- lines

pub lines_none : (m : ℕ) (a b : OutputState) → b ≡ a → TellsFew m a b
lines_none m a b same = ([], omega arith, same)

lines_both : (xs ys : List (List ℕ)) (a b c : OutputState) → TakesLines xs a b → TakesLines ys b c → TakesLines
    (xs ++ ys) a c
lines_both [] ys a b c same more = subst (λ (s : OutputState). TakesLines ys s c) same more
lines_both (x ∷ xs) ys a b c (mid, is, text, rest) more = (mid, is, text, lines_both xs ys mid b c rest more)

pub few_then : (m n : ℕ) (a b c : OutputState) → TellsFew m a b → TellsFew n b c → TellsFew (m + n) a c
few_then m n a b c (xs, few, one) (ys, more, two) =
    (xs ++ ys, omega (arith, few, more, length-append xs ys), lines_both xs ys a b c one two)

pub few_more : (m n : ℕ) (a b : OutputState) → m ≤ n → TellsFew m a b → TellsFew n a b
few_more m n a b within (xs, few, told) = (xs, omega (arith, few, within), told)

-- one line was written, or its first octets
writes_text : {A : Type 0} (a b : OutputState) (text : List ℕ) (r : Result A WriteFault) → WritesAll a b text r
    → TakesText text a b
writes_text a b text (Ok u) w = (
  length text,
  subst (λ (t : List ℕ). Appends a.taken b.taken t) (sym (take_all (length text) text
      (omega arith))) w.octets,
)
writes_text a b text (Err fault) w = (fault.sent, w.octets)

pub taken_once : {A : Type 0} (a b c : OutputState) (text whole : List ℕ) (r : Result A WriteFault) → whole ≡ text
    → WritesAll a b whole r → c ≡ b → TakesText text a c
taken_once a b c text whole r same w still =
    subst (λ (s : OutputState). TakesText text a s) (sym still)
    (subst (λ (t : List ℕ). TakesText t a b) same (writes_text a b whole r w))

-- at most one line, or none where none was made
pub few_made : {U F : Type 0} (r : Result U F) (line : List ℕ) (a b : OutputState) → OnOk r (IsNote line)
    → TakesMade r line a b → TellsFew 1 a b
few_made (Ok u) line a b is took = (line ∷ [], omega arith, (b, is, took, refl))
few_made (Err e) line a b is same = lines_none 1 a b same

pub some_made : {U F : Type 0} (r : Result U F) (front text line : List ℕ) (a b : OutputState) → front ≡ []
    → OnOk r (line ≡ front ++ text) → TakesMade r line a b → TakesSome text a b
some_made (Ok u) front text line a b none is took =
    inr (subst (λ (t : List ℕ). TakesText t a b) (is ∙ ap (λ (t : List ℕ). t ++ text) none) took)
some_made (Err e) front text line a b none is same = inl same

pub on_true : (b : Bool) (P : Type 0) → b ≡ true → OnTrue b P → P
on_true true P is holds = holds
on_true false P is holds = absurd (cc)

-- a line that was made
pub made_note : {U F : Type 0} (r : Result U F) (front text line : List ℕ) → front ≡ [] → IsNote text
    → OnOk r (line ≡ front ++ text) → OnOk r (IsNote line)
made_note (Ok u) front text line none is made =
    subst IsNote (sym (made ∙ ap (λ (t : List ℕ). t ++ text) none)) is
made_note (Err e) front text line none is made = tt

pub text_note : {U F : Type 0} (r : Result U F) (front text line : List ℕ) → front ≡ []
    → line ≡ (if is_ok r then front ++ text else front) → IsNote text → OnOk r (IsNote line)
text_note (Ok u) front text line none made is =
    subst IsNote (sym (made ∙ ap (λ (t : List ℕ). t ++ text) none)) is
text_note (Err e) front text line none made is = tt

-- of a frame that is refused one is told
pub refused_one : (o : Outcome) → is_refused o ≡ true → line_count o ≡ 1
refused_one New is = absurd (cc)
refused_one Held is = absurd (cc)
refused_one (Refused fault) is = refl
refused_one (RefusedLegacy offset) is = refl
refused_one TooLong is = refl
refused_one (BadCount at) is = absurd (cc)

pub counts_more : (os : List Outcome) (o : Outcome) → line_counts (os ++ o ∷ []) ≡ line_counts os + line_count o
counts_more [] o = omega arith
counts_more (p ∷ os) o = omega (arith, counts_more os o)

-- ---- the pace

pub pays_none : (peer : ℕ) (a b : Pace) → b ≡ a → PaysLines peer 0 a b
pays_none peer a b same = record {
  clock = ap clock_of same;
  own = omega (arith, ap (λ (p : Pace). owed_by p peer) same);
  own_within = inl refl;
  all = omega (arith, ap owed_by_all same);
  all_within = inl refl;
  others = λ q other. inl (ap (λ (p : Pace). owed_by p q) same);
}

-- what is within a number stays so
within_then : (m n a b most : ℕ) → (m ≡ 0) ⊎ (a ≤ most) → (n ≡ 0) ⊎ (b ≤ most) → (n ≡ 0 → b ≡ a)
    → ((m + n ≡ 0) ⊎ (b ≤ most))
within_then m n a b most (inl none) (inl also) same = inl (omega (arith, none, also))
within_then m n a b most (inr few) (inl also) same = inr (omega (arith, few, same also))
within_then m n a b most one (inr more) same = inr more

pub pays_then : (peer m n : ℕ) (a b c : Pace) → PaysLines peer m a b → PaysLines peer n b c → PaysLines peer (m + n) a c
pays_then peer m n a b c one two = record {
  clock = two.clock ∙ one.clock;
  own = omega (arith, one.own, two.own, add-mul m n PEER_COST);
  own_within = within_then m n (owed_by b peer) (owed_by c peer) PEER_MOST one.own_within two.own_within
      (λ none. omega (arith, two.own, ap (λ k. k * PEER_COST) none));
  all = omega (arith, one.all, two.all, add-mul m n ALL_COST);
  all_within = within_then m n (owed_by_all b) (owed_by_all c) ALL_MOST one.all_within two.all_within
      (λ none. omega (arith, two.all, ap (λ k. k * ALL_COST) none));
  others = λ q other. others_then q (one.others q other) (two.others q other);
}
  where
    others_then : (q : ℕ) → (owed_by b q ≡ owed_by a q) ⊎ (owed_by b q ≡ 0) → (owed_by c q ≡ owed_by b q) ⊎
        (owed_by c q ≡ 0)
        → (owed_by c q ≡ owed_by a q) ⊎ (owed_by c q ≡ 0)
    others_then q (inl same) (inl still) = inl (still ∙ same)
    others_then q (inr none) (inl still) = inr (still ∙ none)
    others_then q one (inr none) = inr none

pays_one : (peer : ℕ) (a b : Pace) → clock_of b ≡ clock_of a → HasLine a peer → SpendsLine a b peer
    → PaysLines peer 1 a b
pays_one peer a b still has spends = record {
  clock = still;
  own = omega (arith, spends.own);
  own_within = inr (omega (arith, spends.own, has.0));
  all = omega (arith, spends.all);
  all_within = inr (omega (arith, spends.all, has.1));
  others = spends.others;
}

-- ---- both

pub of_none : (peer m : ℕ) (a b : Told) → b ≡ a → TellsOf peer m a b
of_none peer m a b same = record {
  lines = 0;
  within = omega arith;
  few = lines_none 0 a.output b.output (ap (λ (t : Told). t.output) same);
  pays = pays_none peer a.pace b.pace (ap (λ (t : Told). t.pace) same);
}

pub of_then : (peer m n : ℕ) (a b c : Told) → TellsOf peer m a b → TellsOf peer n b c → TellsOf peer (m + n) a c
of_then peer m n a b c one two = record {
  lines = one.lines + two.lines;
  within = omega (arith, one.within, two.within);
  few = few_then one.lines two.lines a.output b.output c.output one.few two.few;
  pays = pays_then peer one.lines two.lines a.pace b.pace c.pace one.pays two.pays;
}

pub of_more : (peer m n : ℕ) (a b : Told) → m ≤ n → TellsOf peer m a b → TellsOf peer n a b
of_more peer m n a b within t = record {
  lines = t.lines;
  within = omega (arith, t.within, within);
  few = t.few;
  pays = t.pays;
}

-- behind the same, or of it
pub of_behind : (peer m : ℕ) (a b c : Told) → b ≡ a → TellsOf peer m b c → TellsOf peer m a c
of_behind peer m a b c same t = subst (λ (s : Told). TellsOf peer m s c) same t

pub of_before : (peer m : ℕ) (a b c : Told) → TellsOf peer m a b → c ≡ b → TellsOf peer m a c
of_before peer m a b c t same = subst (λ (s : Told). TellsOf peer m a s) (sym same) t

-- a line that the pace has
of_paced : (peer : ℕ) (a b : Told) (mid : Pace) → clock_of mid ≡ clock_of a.pace → HasLine a.pace peer
    → SpendsLine a.pace mid peer → b.pace ≡ mid → TellsFew 1 a.output b.output → TellsOf peer 1 a b
of_paced peer a b mid still has spends same few = record {
  lines = 1;
  within = omega arith;
  few = few;
  pays = subst (λ (p : Pace). PaysLines peer 1 a.pace p) (sym same) (pays_one peer a.pace mid still has spends);
}

pub of_let : (own peer : ℕ) (a b : Told) (mid : Pace) → own ≡ peer → clock_of mid ≡ clock_of a.pace → HasLine a.pace own
    → SpendsLine a.pace mid own → b.pace ≡ mid → TellsFew 1 a.output b.output → TellsOf peer 1 a b
of_let own peer a b mid is still has spends same few =
    subst (λ (p : ℕ). TellsOf p 1 a b) is (of_paced own a b mid still has spends same few)

-- ---- what an observer is told

weaker_one : {O : Type 0} (t u : O → Outcome → Option (List ℕ) → O → Type 0)
    → ((x : O) (o : Outcome) (f : Option (List ℕ)) (y : O) → t x o f y → u x o f y) → (x y : O) (fs : List (List ℕ))
    (o : Outcome) → IsTold t x fs o y → IsTold u x fs o y
weaker_one t u imp x y fs New (f, is, told) = (f, is, imp x New _ y told)
weaker_one t u imp x y fs Held (f, is, told) = (f, is, imp x Held _ y told)
weaker_one t u imp x y fs (Refused fault) (f, is, told) = (f, is, imp x (Refused fault) _ y told)
weaker_one t u imp x y fs (RefusedLegacy offset) (f, is, told) = (f, is, imp x (RefusedLegacy offset) _ y told)
weaker_one t u imp x y fs TooLong (f, is, inl told) = (f, is, inl (imp x TooLong _ y told))
weaker_one t u imp x y fs TooLong (f, is, inr told) = (f, is, inr (imp x TooLong _ y told))
weaker_one t u imp x y fs (BadCount at) (none, told) = (none, imp x (BadCount at) _ y told)

weaker_all : {O : Type 0} (t u : O → Outcome → Option (List ℕ) → O → Type 0)
    → ((x : O) (o : Outcome) (f : Option (List ℕ)) (y : O) → t x o f y → u x o f y) → (x y : O) (fs : List (List ℕ))
    (os : List Outcome) → AreTold t x fs os y → AreTold u x fs os y
weaker_all t u imp x y fs [] told = told
weaker_all t u imp x y fs (o ∷ os) (here, later, mid, is, one, more) =
    (here, later, mid, is, weaker_one t u imp x mid here o one, weaker_all t u imp mid y later os more)

-- of a part of that
pub hears_weaker : {O : Type 0} (t u : O → Outcome → Option (List ℕ) → O → Type 0)
    → ((x : O) (o : Outcome) (f : Option (List ℕ)) (y : O) → t x o f y → u x o f y) → (q : Option Stream)
    (octets : List ℕ) (waited waits : ℕ) (kept : List Outcome) (x y : O)
    → HearsReceived t q octets waited waits kept x y
    → HearsReceived u q octets waited waits kept x y
hears_weaker {O = O} t u imp q octets waited waits kept x y (n, os, h, same) = (n, os, at q h, same)
  where
    at : (r : Option Stream) → HearsPiece t r (take n octets) waited waits [] os x y
        → HearsPiece u r (take n octets) waited waits [] os x y
    at None heard = heard
    at (Some s) (outs, log, heard) = (
      outs,
      log,
      record {
        handled = heard.handled;
        waiting_before = heard.waiting_before;
        fresh = heard.fresh;
        waiting_now = heard.waiting_now;
        before = heard.before;
        count_before = heard.count_before;
        now = heard.now;
        count_now = heard.count_now;
        told = weaker_all t u imp x y heard.fresh outs heard.told;
      },
    )

-- of each outcome as many lines were told as that has, on one peer
abbrev HearsLines : {O : Type 0} (peer : O → ℕ) (told : O → Told) → O → Outcome → Option (List ℕ) → O → Type 0
HearsLines peer told x o f y = TellsOf (peer x) (line_count o) (told x) (told y) × (peer y ≡ peer x)

lines_one : {O : Type 0} (peer : O → ℕ) (told : O → Told) (x y : O) (fs : List (List ℕ)) (o : Outcome)
    → IsTold (HearsLines peer told) x fs o y → TellsOf (peer x) (line_count o) (told x) (told y) × (peer y ≡ peer x)
lines_one peer told x y fs New (f, is, h) = h
lines_one peer told x y fs Held (f, is, h) = h
lines_one peer told x y fs (Refused fault) (f, is, h) = h
lines_one peer told x y fs (RefusedLegacy offset) (f, is, h) = h
lines_one peer told x y fs TooLong (f, is, inl h) = h
lines_one peer told x y fs TooLong (f, is, inr h) = h
lines_one peer told x y fs (BadCount at) (none, h) = h

lines_all : {O : Type 0} (peer : O → ℕ) (told : O → Told) (x y : O) (fs : List (List ℕ)) (os : List Outcome)
    → AreTold (HearsLines peer told) x fs os y → TellsOf (peer x) (line_counts os) (told x) (told y) × (peer y ≡ peer x)
lines_all peer told x y fs [] (none, same) = (of_none (peer x) 0 (told x) (told y) (ap told same), ap peer same)
lines_all peer told x y fs (o ∷ os) (here, later, mid, is, one, more) =
    let a = lines_one peer told x mid here o one in
    let b = lines_all peer told mid y later os more in (
      of_then (peer x) (line_count o) (line_counts os) (told x) (told mid) (told y) a.0
          (subst (λ (p : ℕ). TellsOf p (line_counts os) (told mid) (told y)) a.1 b.0),
      b.1 ∙ a.1,
    )

pub lines_received : {O : Type 0} (peer : O → ℕ) (told : O → Told) (q : Option Stream) (octets : List ℕ)
    (waited waits : ℕ)
    (kept : List Outcome) (x y : O)
    → HearsReceived (λ a o f b. TellsOf (peer a) (line_count o) (told a) (told b) ×
    (peer b ≡ peer a)) q octets waited waits kept x y
    → (most : ℕ) × TellsOf (peer x) most (told x) (told y)
lines_received {O = O} peer told q octets waited waits kept x y (n, os, h, same) = at q h
  where
    at : (r : Option Stream) → HearsPiece (HearsLines peer told) r (take n octets) waited waits [] os x y
        → (most : ℕ) × TellsOf (peer x) most (told x) (told y)
    at None (log, alike) = (0, of_none (peer x) 0 (told x) (told y) (ap told alike))
    at (Some s) (outs, log, heard) = (line_counts outs, (lines_all peer told x y heard.fresh outs heard.told).0)

-- of a piece
pub piece_told : {N R : Type 0} (told : N → OutputState) (state : R → OutputState) (q : Option Stream) (octets : List ℕ)
    (waited waits : ℕ) (kept : List Outcome) (x y : Report N R)
    → HearsReceived (λ a p f b. KeepsNext (kept_in state a) p f (kept_in state b)
    × TellsOf (peer_of a.way) (line_count p) (told_in told a) (told_in told b) × (b.way ≡ a.way)) q octets waited waits
    kept x y
    → (most : ℕ) × TellsOf (peer_of x.way) most (told_in told x) (told_in told y)
piece_told {N = N} {R = R} told state q octets waited waits kept x y h =
    lines_received (λ (r : Report N R). peer_of r.way) (told_in told) q octets waited waits kept x y
    (hears_weaker _ (λ (a : Report N R) (p : Outcome) (f : Option (List ℕ)) (b : Report N R).
    TellsOf (peer_of a.way) (line_count p) (told_in told a) (told_in told b) × (peer_of b.way ≡ peer_of a.way))
    (λ a p f b all. (all.1, ap peer_of all.2)) q octets waited waits kept x y h)

-- ---- turns

pub turn_of : (peer most : ℕ) (a b : Told) → TellsOf peer most a b → TellsTurn a b
turn_of peer most a b t = (t.lines, 0, inr (refl, (peer, t.few, t.pays)))

pub piece_turn : (peer : ℕ) (a b c d : Told) → b ≡ a → (most : ℕ) × TellsOf peer most b c → d ≡ c → TellsTurn a d
piece_turn peer a b c d same (most, t) still =
    turn_of peer most a d (of_before peer most a c d (of_behind peer most a b c same t) still)

pub piece_lost : (peer own : ℕ) (a b c d e : Told) → b ≡ a → (most : ℕ) × TellsOf peer most b c → peer ≡ own
    → TellsOf own 1 c d → e ≡ d → TellsTurn a e
piece_lost peer own a b c d e same (most, t) is one still =
    let both = of_then peer most 1 a c d (of_behind peer most a b c same t)
    (subst (λ (p : ℕ). TellsOf p 1 c d) (sym is) one) in
    turn_of peer (most + 1) a e (of_before peer (most + 1) a d e both still)

pub turn_on : (lines millis : ℕ) (a b : Told) → lines ≤ STATUS_LINES → TellsFew lines a.output b.output
    → Passes millis a.pace b.pace → TellsTurn a b
turn_on lines millis a b few told pace =
    (0, millis, inl (refl, few_more lines STATUS_LINES a.output b.output few told, pace))

pub turn_none : (a b : Told) → b ≡ a → TellsTurn a b
turn_none a b same = turn_of 0 0 a b (of_none 0 0 a b same)

-- one turn more
run_then : (ts : List Telling) (t : Telling) (a b c : Told) → TellTurns ts a b → TellsLines t.lines t.millis b c
    → TellTurns (ts ++ t ∷ []) a c
run_then [] t a b c same turn = (c, subst (λ (s : Told). TellsLines t.lines t.millis s c) same turn, refl)
run_then (u ∷ us) t a b c (mid, one, rest) turn = (mid, one, run_then us t mid b c rest turn)

pub run_more : (a b c : Told) → (ts : List Telling) × TellTurns ts a b → TellsTurn b c →
    (ts : List Telling) × TellTurns ts a c
run_more a b c (ts, told) (lines, millis, turn) =
    let t : Telling = record { lines = lines; millis = millis } in (ts ++ t ∷ [], run_then ts t a b c told turn)

-- ---- laws

-- so few lines are paid for
few_paid : (lines owed now : ℕ) → now ≡ owed + lines * PEER_COST → (lines ≡ 0) ⊎ (now ≤ PEER_MOST) → lines ≤ TURN_LINES
few_paid lines owed now is (inl none) = omega (arith, none)
few_paid lines owed now is (inr few) = omega (arith, is, few)

pub few_lines : (old new : Told) → TellsTurn old new → TellsFew TURN_LINES old.output new.output
few_lines old new (lines, millis, inl (none, few, pace)) =
    few_more STATUS_LINES TURN_LINES old.output new.output (omega arith) few
few_lines old new (lines, millis, inr (still, (peer, few, pays))) =
    few_more lines TURN_LINES old.output new.output
    (few_paid lines (owed_by old.pace peer) (owed_by new.pace peer) pays.own pays.own_within) few

owes_paid : (lines owed now most : ℕ) → owed ≤ most → now ≡ owed + lines * PEER_COST → (lines ≡ 0) ⊎ (now ≤ most)
    → now ≤ most
owes_paid lines owed now most little is (inl none) = omega (arith, little, is, none)
owes_paid lines owed now most little is (inr few) = few

owes_all : (lines owed now most : ℕ) → owed ≤ most → now ≡ owed + lines * ALL_COST → (lines ≡ 0) ⊎ (now ≤ most)
    → now ≤ most
owes_all lines owed now most little is (inl none) = omega (arith, little, is, none)
owes_all lines owed now most little is (inr few) = few

owes_other : (owed now most : ℕ) → owed ≤ most → (now ≡ owed) ⊎ (now ≡ 0) → now ≤ most
owes_other owed now most little (inl same) = omega (arith, little, same)
owes_other owed now most little (inr none) = omega (arith, none)

still_little : (lines millis : ℕ) (old new : Told) → OwesLittle old.pace → TellsLines lines millis old new
    → OwesLittle new.pace
still_little lines millis old new little (inl (none, few, inl same)) = subst OwesLittle (sym same) little
still_little lines millis old new little (inl (none, few, inr pays)) = record {
  peers = λ q. omega (arith, pays.peers q, little.peers q);
  all = omega (arith, pays.all, little.all);
}
still_little lines millis old new little (inr (still, (peer, few, pays))) = record {
  peers = λ q. elim (eqb_tells q peer) [
    | inl (test, same) ↦ subst (λ (p : ℕ). owed_by new.pace p ≤ PEER_MOST) (sym same)
        (owes_paid lines (owed_by old.pace peer) (owed_by new.pace peer) PEER_MOST
        (little.peers peer) pays.own pays.own_within)
    | inr (test, other) ↦ owes_other (owed_by old.pace q) (owed_by new.pace q) PEER_MOST (little.peers q)
        (pays.others q other)
  ];
  all = owes_all lines (owed_by_all old.pace) (owed_by_all new.pace) ALL_MOST little.all pays.all pays.all_within;
}

pub little_owed : (old new : Told) → OwesLittle old.pace → TellsTurn old new → OwesLittle new.pace
little_owed old new little (lines, millis, turn) = still_little lines millis old new little turn

-- lines cost, and time pays
costs : (lines millis : ℕ) (old new : Told) → TellsLines lines millis old new
    → owed_by_all old.pace + lines * ALL_COST ≤ owed_by_all new.pace + millis
costs lines millis old new (inl (none, few, inl same)) = omega (arith, none, ap owed_by_all same)
costs lines millis old new (inl (none, few, inr pays)) = omega (arith, none, pays.all, pays.clock)
costs lines millis old new (inr (still, (peer, few, pays))) = omega (arith, pays.all)

run_costs : (ts : List Telling) (old new : Told) → OwesLittle old.pace → TellTurns ts old new
    → OwesLittle new.pace
    × (owed_by_all old.pace + sum_by (λ (t : Telling). t.lines) ts * ALL_COST
    ≤ owed_by_all new.pace + sum_by (λ (t : Telling). t.millis) ts)
run_costs [] old new little same = (
  subst (λ (t : Told). OwesLittle t.pace) (sym same) little,
  omega (
    arith,
    ap (λ
        (t : Told). owed_by_all t.pace) same,
  ),
)
run_costs (t ∷ ts) old new little (mid, turn, rest) =
    let one = costs t.lines t.millis old mid turn in
    let lines : sum_by (λ (t : Telling). t.lines) (t ∷ ts) ≡ t.lines + sum_by (λ
    (t : Telling). t.lines) ts = sum_by-cons (λ (t : Telling). t.lines) t ts in
    let millis : sum_by (λ (t : Telling). t.millis) (t ∷ ts) ≡ t.millis + sum_by (λ
    (t : Telling). t.millis) ts = sum_by-cons (λ (t : Telling). t.millis) t ts in
    let more = run_costs ts mid new (still_little t.lines t.millis old mid little turn) rest in (
      more.0,
      omega (arith, one, more.1, add-mul t.lines (sum_by (λ (t : Telling). t.lines) ts) ALL_COST),
    )

pub run_paced : (ts : List Telling) (old new : Told) → OwesLittle old.pace → TellTurns ts old new
    → sum_by (λ (t : Telling). t.lines) ts * ALL_COST ≤ ALL_MOST + sum_by (λ (t : Telling). t.millis) ts
run_paced ts old new little turns =
    let all = run_costs ts old new little turns in omega (arith, all.1, all.0.all)
