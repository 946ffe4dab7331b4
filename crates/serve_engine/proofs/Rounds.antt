-- Turns, one after the other.
use Rattle.std.proofs.Common.{◌≡◌, ℕ, ◌+◌, true, false, List, [], ◌∷◌, ◌++◌, length, inl, inr, refl, sym, subst, arith}
use Rattle.std.proofs.Common.{◌∙◌, ap, append_assoc}
use Rattle.std.specs.Prelude.{◌-◌, ◌^◌, ◌<◌, Bool, IfNone, Option, Some, None, if◌then◌else◌}
use Rattle.std.proofs.lemmas.List.{append-nil}
use Rattle.archive_text.specs.Entries.{Entry}
use Rattle.syslog_collect.specs.Collectors.{NoneWaits, reading_of}
use Rattle.syslog_collect.specs.History.{AcceptedEvent}
use Rattle.socket_source.specs.Steps.{Given, given_of, octets_of}
use Rattle.socket_source.specs.declared.step.ServerStep.{ServerStep}
use Rattle.serve_engine.specs.Events.{Manner, event_of, manner_of}
use Rattle.serve_engine.specs.Intakes.{IsCommitted, StandsBy}
use Rattle.serve_engine.specs.Keepings.{Kept, StaysCommitted}
use Rattle.serve_engine.specs.Refusals.{KeepsSilent, with_peer}
use Rattle.serve_engine.specs.Servers.{AreTurns, Around, DoneRun, GoOn, IsGiven, IsTurn, Made, Place}
use Rattle.serve_engine.specs.Servers.{RunsTo, ServesRun, ServesTurn, around_after, events_of, kept_after, rests}
use Rattle.serve_engine.specs.Serving.{CommitsAll, GivesStep, HoldsReceived, IfCommitted, IfSettled, IsCause, IsCommitTurn}
use Rattle.serve_engine.specs.Serving.{IsStepTurn, ServesStep, UnlessStopped, asks_commit, is_due, is_last}
use Rattle.serve_engine.specs.declared.intake.Intake.{Intake}
use Rattle.serve_engine.specs.declared.serve_end.ServeEnd.{ServeEnd}
use Rattle.serve_engine.specs.declared.serve_end.ServeEnd.TheVariants.{Finished, Source, Disk, Memory, Endless}
use Rattle.serve_engine.specs.declared.turn.Turn.{Turn}
use Rattle.serve_engine.specs.declared.turn.Turn.TheVariants.{On, End}
use Rattle.serve_engine.proofs.Turns.{any_settled, commit_try, committed_all}

-- where all is committed and no frame waits
unless_both : (t : Turn) (full : Bool) (P Q R : Type 0) → UnlessStopped t full P → IfSettled t Q → (P → Q → R)
    → UnlessStopped t full R
unless_both On full P Q R h q f = λ room. f (h room) q
unless_both (End Finished) full P Q R h q f = f h q
unless_both (End (Source fault)) full P Q R h q f = f h q
unless_both (End Disk) full P Q R h q f = tt
unless_both (End Memory) full P Q R h q f = tt
unless_both (End Endless) full P Q R h q f = tt

-- what is committed then
holds_all : {S K : Type 0} (entries : S → List Entry) (stands : K → Kept → Type 0) (way : Manner) (i : Intake S K)
    (full : Bool) (t : Turn) (j : Kept) (first : List Entry) (es : List AcceptedEvent)
    → manner_of i.collector ≡ way → StandsBy entries stands i j first es
    → IfSettled t (NoneWaits i.collector) → UnlessStopped t full (IsCommitted entries i j)
    → UnlessStopped t full (HoldsReceived way.reading j.committed first es)
holds_all entries stands way i full t j first es same at settled commits =
    unless_both t full (IsCommitted entries i j) (NoneWaits i.collector)
    (HoldsReceived way.reading j.committed first es) commits settled
    (λ done none. subst (λ (w : Manner). HoldsReceived w.reading j.committed first es) same
    (committed_all entries stands i j first es at none done))

-- where nothing is read
pub rests_full : (full short : Bool) → full ≡ true → (if full then true else short) ≡ true
rests_full full short is = ap (λ (b : Bool). if b then true else short) is

-- or is not
pub as_short : (full short now : Bool) → full ≡ false → short ≡ now → (if full then true else short) ≡ now
as_short full short now room is = ap (λ (b : Bool). if b then true else short) room ∙ is

-- nothing was read, and a commit was tried
pub tried : {S K : Type 0} (entries : S → List Entry) (stands : K → Kept → Type 0) (a b : Place S K) (t : Turn)
    → rests a.around ≡ true → b.around.source ≡ a.around.source
    → CommitsAll entries stands a.intake b.intake b.around.full t
    → (NoneWaits a.intake.collector → NoneWaits b.intake.collector)
    → manner_of b.intake.collector ≡ manner_of a.intake.collector → IsCommitTurn t
    → KeepsSilent true a.around.refusals b.around.refusals → ServesTurn entries stands t a b
tried entries stands a b t rest still commits settled same turn kept = record {
  step = None;
  lost = false;
  given = given;
  done = λ k first before at none.
      let d = commits k first before at in
      let quiet = any_settled t (NoneWaits b.intake.collector) (settled none) in
      let stands_on = subst (λ (es : List AcceptedEvent). StandsBy entries stands b.intake d.0 first es)
      (sym (append-nil before)) d.1 in
      record {
        events = [];
        kept = d.0;
        stands_by = stands_on;
        is = record {
          given = given;
          served = (refl, refl);
          stays = d.2;
          commits = λ due. holds_all entries stands (manner_of a.intake.collector) b.intake b.around.full t d.0 first
              (before ++ []) same stands_on quiet d.3;
          rests = λ none_due. absurd (cc);
          fills = λ none_due. absurd (cc);
          cause = commit_try t turn;
          ends = λ over. absurd (cc);
        };
        settled = quiet;
      };
}
  where
    given : IsGiven a.around b.around None false
    given = record { asked = sym rest; gave = still; silent = kept }

-- a step was served
pub stepped : {S K : Type 0} (entries : S → List Entry) (stands : K → Kept → Type 0) (a b : Place S K)
    (s : ServerStep) (buf : List ℕ) (lost : Bool) (t : Turn) → rests a.around ≡ false
    → ServesStep entries stands a.intake b.intake s (octets_of s buf) lost b.around.full t a.around.refusals
    b.around.refusals
    → GivesStep a.around.source b.around.source (given_of s buf) lost
    → IfNone (event_of s (octets_of s buf)) (KeepsSilent (asks_commit s) (with_peer s a.around.refusals) b.around.refusals)
    → manner_of b.intake.collector ≡ manner_of a.intake.collector
    → (asks_commit s ≡ false → b.around.full ≡ a.around.full) → IsStepTurn s t
    → (is_last s ≡ true → t ≡ On → b.around.full ≡ true) → ServesTurn entries stands t a b
stepped entries stands a b s buf lost t awake serves gives silent same fills turn last = record {
  step = Some (given_of s buf);
  lost = lost;
  given = given;
  done = λ k first before at none.
      let d = serves k first before at none in
      record {
        events = d.1;
        kept = d.0;
        stands_by = d.2;
        is = record {
          given = given;
          served = d.4;
          stays = d.3;
          commits = λ asks. holds_all entries stands (manner_of a.intake.collector) b.intake b.around.full t d.0 first
              (before ++ d.1) same d.2 d.5 (d.6 asks);
          rests = d.7;
          fills = fills;
          cause = turn;
          ends = last;
        };
        settled = d.5;
      };
}
  where
    given : IsGiven a.around b.around (Some (given_of s buf)) lost
    given = record { asked = sym awake; gave = gives; silent = silent }

-- ---- a run

-- after so many turns that went on
pub record SoFar {S K : Type 0} (entries : S → List Entry) (stands : K → Kept → Type 0) (a b : Place S K) (n : ℕ)
    (k : Kept) (first : List Entry) (before : List AcceptedEvent) : Type 0 where
  pub made : List Made
  pub stands_by : StandsBy entries stands b.intake (kept_after k made) first (before ++ events_of made)
  pub turns : AreTurns (manner_of a.intake.collector) first k before a.around made
  pub left : b.around ≡ around_after a.around made
  pub stays : StaysCommitted k (kept_after k made)
  pub settled : NoneWaits b.intake.collector
  pub on : GoOn made
  pub count : length made ≡ n

pub start : {S K : Type 0} (entries : S → List Entry) (stands : K → Kept → Type 0) (a : Place S K) (k : Kept)
    (first : List Entry) (before : List AcceptedEvent) → StandsBy entries stands a.intake k first before
    → NoneWaits a.intake.collector → SoFar entries stands a a 0 k first before
start entries stands a k first before at none = record {
  made = [];
  stands_by = subst (λ (es : List AcceptedEvent). StandsBy entries stands a.intake k first es)
      (sym (append-nil before)) at;
  turns = tt;
  left = refl;
  stays = λ x had. had;
  settled = none;
  on = tt;
  count = refl;
}

-- a turn is one of a run that reads frames alike, with what was left round the intake before it
turn_of_run : (way : Manner) (first : List Entry) (k : Kept) (before : List AcceptedEvent) (a : Around) (m : Made)
    (mid_way : Manner) (mid : Around) → mid_way ≡ way → mid ≡ a → IsTurn mid_way first k before mid m
    → IsTurn way first k before a m
turn_of_run way first k before a m mid_way mid same left is =
    subst (λ (w : Manner). IsTurn w first k before a m) same
    (subst (λ (r : Around). IsTurn mid_way first k before r m) left is)

pub next : {S K : Type 0} (entries : S → List Entry) (stands : K → Kept → Type 0) (a mid b : Place S K) (n : ℕ)
    (k : Kept) (first : List Entry) (before : List AcceptedEvent)
    → manner_of mid.intake.collector ≡ manner_of a.intake.collector → SoFar entries stands a mid n k first before
    → ServesTurn entries stands On mid b → SoFar entries stands a b (n + 1) k first before
next entries stands a mid b n k first before same was serves =
    let d = serves.done (kept_after k was.made) first (before ++ events_of was.made) was.stands_by was.settled in
    let m : Made = record {
      step = serves.step;
      lost = serves.lost;
      events = d.events;
      kept = d.kept;
      around = b.around;
      turn = On;
    } in
    record {
      made = m ∷ was.made;
      stands_by = subst (λ (es : List AcceptedEvent). StandsBy entries stands b.intake d.kept first es)
          (append_assoc before (events_of was.made) d.events) d.stands_by;
      turns = (
        was.turns,
        turn_of_run (manner_of a.intake.collector) first (kept_after k was.made) (before ++ events_of was.made)
            (around_after a.around was.made) m (manner_of mid.intake.collector) mid.around same was.left d.is,
      );
      left = refl;
      stays = λ x had. d.is.stays x (was.stays x had);
      settled = d.settled;
      on = (refl, was.on);
      count = omega (arith, was.count);
    }

end_committed : (end : ServeEnd) (step : Option Given) (full : Bool) (P : Type 0) → IsCause step (End end)
    → (is_due step ≡ true → UnlessStopped (End end) full P) → IfCommitted end P
end_committed Finished None full P cause h = absurd cause
end_committed Finished (Some g) full P cause h = h (rw cause refl)
end_committed (Source fault) None full P cause h = absurd cause
end_committed (Source fault) (Some g) full P cause h = h (rw cause refl)
end_committed Disk step full P cause h = tt
end_committed Memory step full P cause h = tt
end_committed Endless step full P cause h = tt

never_endless : (step : Option Given) → IsCause step (End Endless) → ⊥
never_endless None cause = cause
never_endless (Some g) cause = cause

runs_to : (end : ServeEnd) (m : Made) (ms : List Made) → m.turn ≡ End end → IsCause m.step (End end) → GoOn ms
    → RunsTo (m ∷ ms) end
runs_to Finished m ms is cause on = (is, on)
runs_to (Source fault) m ms is cause on = (is, on)
runs_to Disk m ms is cause on = (is, on)
runs_to Memory m ms is cause on = inl (is, on)
runs_to Endless m ms is cause on = absurd (never_endless m.step cause)

pub ends : {S K : Type 0} (entries : S → List Entry) (stands : K → Kept → Type 0) (a mid b : Place S K) (n : ℕ)
    (end : ServeEnd) (k : Kept) (first : List Entry) (before : List AcceptedEvent) → n + 1 < 2 ^ 64
    → manner_of mid.intake.collector ≡ manner_of a.intake.collector → SoFar entries stands a mid n k first before
    → ServesTurn entries stands (End end) mid b → DoneRun entries stands end a b k first before
ends entries stands a mid b n end k first before less same was serves =
    let d = serves.done (kept_after k was.made) first (before ++ events_of was.made) was.stands_by was.settled in
    let m : Made = record {
      step = serves.step;
      lost = serves.lost;
      events = d.events;
      kept = d.kept;
      around = b.around;
      turn = End end;
    } in
    let joined = append_assoc before (events_of was.made) d.events in
    record {
      made = m ∷ was.made;
      stands_by = subst (λ (es : List AcceptedEvent). StandsBy entries stands b.intake d.kept first es) joined
          d.stands_by;
      turns = (
        was.turns,
        turn_of_run (manner_of a.intake.collector) first (kept_after k was.made) (before ++ events_of was.made)
            (around_after a.around was.made) m (manner_of mid.intake.collector) mid.around same was.left d.is,
      );
      left = refl;
      stays = λ x had. d.is.stays x (was.stays x had);
      settled = d.settled;
      committed = subst (λ (w : Manner). IfCommitted end (HoldsReceived w.reading d.kept.committed first
          (before ++ (events_of was.made ++ d.events)))) same
          (subst (λ (es : List AcceptedEvent). IfCommitted end (HoldsReceived (reading_of mid.intake.collector)
          d.kept.committed first es)) joined
          (end_committed end serves.step b.around.full _ d.is.cause d.is.commits));
      ends = runs_to end m was.made refl d.is.cause was.on;
      few = omega (arith, was.count, less);
    }

-- there were as many turns as there may be
pub endless : {S K : Type 0} (entries : S → List Entry) (stands : K → Kept → Type 0) (a b : Place S K) (n : ℕ)
    (k : Kept) (first : List Entry) (before : List AcceptedEvent) → n ≡ 2 ^ 64 - 1
    → SoFar entries stands a b n k first before → DoneRun entries stands Endless a b k first before
endless entries stands a b n k first before all was = record {
  made = was.made;
  stands_by = was.stands_by;
  turns = was.turns;
  left = was.left;
  stays = was.stays;
  settled = was.settled;
  committed = tt;
  ends = (was.on, omega (arith, was.count, all));
  few = omega (arith, was.count, all);
}

-- there was no memory for the first
pub none_served : {S K : Type 0} (entries : S → List Entry) (stands : K → Kept → Type 0) (a : Place S K)
    → ServesRun entries stands Memory a a
none_served entries stands a = record {
  leads = (a, ([], refl), inl refl);
  done = λ k first before at none. record {
    made = [];
    stands_by = subst (λ (es : List AcceptedEvent). StandsBy entries stands a.intake k first es)
        (sym (append-nil before)) at;
    turns = tt;
    left = refl;
    stays = λ x had. had;
    settled = tt;
    committed = tt;
    ends = inr refl;
    few = omega arith;
  };
}
