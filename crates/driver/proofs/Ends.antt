-- Ends of a run.
use Rattle.std.proofs.Common.{◌≡◌, ℕ, List, [], ◌++◌, refl, ap, sym, subst, ◌∙◌, append_assoc, append-nil, Some, Ok, Err}
use Rattle.std.proofs.Common.{inl, inr, None, ◌<◌, ◌^◌, Result, take, drop, length, Bool, true, false, arith}
use Rattle.std.specs.Prelude.{◌||◌, if◌then◌else◌}
use Rattle.std.proofs.KnownBytes.{Appends-nil, Appends-trans, Consumes-nil}
use Rattle.octet_devices.specs.Device.{OutputState}
use Rattle.octet_devices.specs.Transfers.{WritesAll, WroteAll, WrotePart}
use Rattle.octet_devices.specs.declared.loops.WriteFault.{WriteFault}
use Rattle.std.proofs.lemmas.List.{length-append, length-take-le, take-append-drop}
use Rattle.std.specs.Io.KnownBytes.{Appends}
use Rattle.driver.specs.Devices.{Devices, Reports}
use Rattle.driver.specs.Effects.{Done, IsPrefixOf, IsWrittenOut, nothing, status_of, then_done, written}
use Rattle.driver.specs.Holding.{Closes, FailsAs, FlushFailed, Flushed, HoldsAnswer, Pumped, Reached, StopsHolding}
use Rattle.driver.specs.Run.{AnswersPart, ComesOf, IsStopped, Limits, RanWithin, Used, WriteFailedWith, WritesPrefix}
use Rattle.driver.specs.Run.{line_of, stop_status}
use Rattle.driver.specs.Sessions.{HasOneOutput, Meaning, with_rest}
use Rattle.driver.specs.declared.stopped.Stopped.{Stopped}
use Rattle.driver.specs.declared.stopped.Stopped.TheVariants.{Diagnostics, Endless, Memory, Read, Write}
use Rattle.driver.proofs.Known.{wrote_nothing, wrote_then}
use Rattle.driver.proofs.Turns.{Leads, flush_stops, leads_answer, prefix_from}

-- the devices of a run after a flush
abbrev pub flushed_to : Devices → OutputState → OutputState → Devices
flushed_to mid o d = record { input = mid.input; output = o; diagnostics = d }

-- all that was held back was written
all_output : (o n o_new n_new : OutputState) (held kept : Done) (f : Flushed o n o_new n_new held kept)
    → IsWrittenOut kept → held.output ≡ f.output
all_output o n o_new n_new held kept f k =
    ap (λ (d : Done). d.output) f.whole ∙ (ap (λ xs. f.output ++ xs) k.output ∙ append-nil f.output)

all_diagnostics : (o n o_new n_new : OutputState) (held kept : Done) (f : Flushed o n o_new n_new held kept)
    → IsWrittenOut kept → held.diagnostics ≡ f.diagnostics
all_diagnostics o n o_new n_new held kept f k =
    ap (λ (d : Done). d.diagnostics) f.whole ∙ (ap (λ xs. f.diagnostics ++ xs) k.diagnostics ∙ append-nil f.diagnostics)

-- the output of what was held back follows what was written
output_after : (a b c n n_new : OutputState) (held kept : Done) (out : List ℕ) → WroteAll a b out
    → Flushed b n c n_new held kept → IsWrittenOut kept → WroteAll a c (out ++ held.output)
output_after a b c n n_new held kept out w f k =
    subst (λ (xs : List ℕ). WroteAll a c (out ++ xs)) (sym (all_output _ _ _ _ held kept f k))
    (wrote_then a b c _ _ w f.to_output)

diagnostics_after : (a b c o o_new : OutputState) (held kept : Done) (out : List ℕ) → WroteAll a b out
    → Flushed o b o_new c held kept → IsWrittenOut kept → WroteAll a c (out ++ held.diagnostics)
diagnostics_after a b c o o_new held kept out w f k =
    subst (λ (xs : List ℕ). WroteAll a c (out ++ xs)) (sym (all_diagnostics _ _ _ _ held kept f k))
    (wrote_then a b c _ _ w f.to_diagnostics)

or_false : (a : Bool) → (a || false) ≡ a
or_false true = refl
or_false false = refl

abbrev status_of_bool : Bool → ℕ
status_of_bool b = if b then 1 else 0

-- all that was done was written
begins_whole : (M : Meaning) (old new : Devices) (held : Done) (out notes : List ℕ)
    → Leads M old.input.left (then_done (written out notes) held)
    → WroteAll old.output new.output (out ++ held.output) → HasOneOutput M → WritesPrefix M old new
begins_whole M old new held out notes leads w =
    prefix_from M old new (then_done (written out notes) held) (out ++ held.output) [] leads
    (sym (append-nil (out ++ held.output))) w.octets

-- all of it, and the rest of the output
pub pumped_answer : (L : Limits) (M : Meaning) (old mid : Devices) (o d o_rest : OutputState) (held kept : Done) (rest : List ℕ)
    (status : ℕ) → HoldsAnswer M old mid held rest → Flushed mid.output mid.diagnostics o d held kept
    → IsWrittenOut kept → WroteAll o o_rest rest → status ≡ status_of kept → Used L M old.input mid.input
    → Pumped L M old (flushed_to mid o_rest d) (Ok status)
pumped_answer L M old mid o d o_rest held kept rest status h f k w s used =
    let base : Done = then_done (written h.output h.diagnostics) held in
    let total : Done = with_rest base rest in
    let to_output = wrote_then old.output o o_rest (h.output ++ held.output) rest
    (output_after _ _ _ _ _ held kept h.output h.wrote.to_output f k) w in
    let to_diagnostics = diagnostics_after _ _ _ _ _ held kept h.diagnostics h.wrote.to_diagnostics f k in
    record {
      outcome = record {
        input = h.input;
        done = total;
        is_input = h.is_input;
        means = h.means;
        wrote = record {
          to_output = to_output;
          to_diagnostics = subst (WroteAll old.diagnostics d) (sym (append-nil (h.diagnostics ++ held.diagnostics)))
              to_diagnostics;
        };
        no_failure = h.no_failure;
        status_is = s ∙ ap status_of_bool
            (ap (λ (x : Done). x.refused) (sym f.whole) ∙ sym (or_false (false || held.refused)));
      };
      begins = prefix_from M old (flushed_to mid o_rest d) total ((h.output ++ held.output) ++ rest) []
          (leads_answer M _ h.input total h.is_input h.means)
          (sym (append-nil ((h.output ++ held.output) ++ rest))) to_output.octets;
      used = used;
    }

-- all of it, and a part of the rest
pub pumped_short : (L : Limits) (M : Meaning) (old mid : Devices) (o d o_rest : OutputState) (held kept : Done)
    (rest sent unsent : List ℕ) → HoldsAnswer M old mid held rest → Flushed mid.output mid.diagnostics o d held kept
    → IsWrittenOut kept → rest ≡ sent ++ unsent → 0 < length unsent → Appends o.taken o_rest.taken sent
    → (o.failures < 2 ^ 63 → o.failures < o_rest.failures) → Used L M old.input mid.input
    → Pumped L M old (flushed_to mid o_rest d) (Err Write)
pumped_short L M old mid o d o_rest held kept rest sent unsent h f k split left w failed used =
    let base : Done = then_done (written h.output h.diagnostics) held in
    let total : Done = with_rest base rest in
    let to_output = output_after _ _ _ _ _ held kept h.output h.wrote.to_output f k in
    let to_diagnostics = diagnostics_after _ _ _ _ _ held kept h.diagnostics h.wrote.to_diagnostics f k in
    record {
      outcome = record {
        failed = λ small. omega (arith, to_output.no_failure, failed (omega (arith, to_output.no_failure, small)));
        done = total;
        sent = (h.output ++ held.output) ++ sent;
        unsent = unsent;
        comes = inl (h.input, h.is_input, h.means);
        parts = ap (λ (xs : List ℕ). (h.output ++ held.output) ++ xs) split
            ∙ sym (append_assoc (h.output ++ held.output) sent unsent);
        some_left = left;
        to_output = Appends-trans _ _ _ _ _ to_output.octets w;
        to_diagnostics = subst (WroteAll old.diagnostics d)
            (sym (append-nil ((h.diagnostics ++ held.diagnostics) ++ []) ∙ append-nil (h.diagnostics ++ held.diagnostics)))
            to_diagnostics;
      };
      begins = prefix_from M old (flushed_to mid o_rest d) total ((h.output ++ held.output) ++ sent) unsent
          (leads_answer M _ h.input total h.is_input h.means)
          (ap (λ (xs : List ℕ). (h.output ++ held.output) ++ xs) split
          ∙ sym (append_assoc (h.output ++ held.output) sent unsent))
          (Appends-trans _ _ _ _ _ to_output.octets w);
      used = used;
    }

pub part_written : (P : List ℕ → Done → Type 0) (old mid : Devices) (o d : OutputState) (held kept : Done)
    → Reached P old mid held → Flushed mid.output mid.diagnostics o d held kept → IsWrittenOut kept
    → AnswersPart P [] old (flushed_to mid o d)
part_written P old mid o d held kept h f k = record {
  given = h.given;
  done = then_done (written h.output h.diagnostics) held;
  consumed = h.consumed;
  means = h.means;
  wrote = record {
    to_output = output_after _ _ _ _ _ held kept h.output h.wrote.to_output f k;
    to_diagnostics = subst (WroteAll old.diagnostics d) (sym (append-nil (h.diagnostics ++ held.diagnostics)))
        (diagnostics_after _ _ _ _ _ held kept h.diagnostics h.wrote.to_diagnostics f k);
  };
}

pub part_begins : (M : Meaning) (P : List ℕ → Done → Type 0) (old mid : Devices) (o d : OutputState) (held kept : Done)
    → (h : Reached P old mid held)
    → Leads M old.input.left (then_done (written h.output h.diagnostics) held)
    → Flushed mid.output mid.diagnostics o d held kept → IsWrittenOut kept → HasOneOutput M
    → WritesPrefix M old (flushed_to mid o d)
part_begins M P old mid o d held kept h leads f k =
    begins_whole M old (flushed_to mid o d) held h.output h.diagnostics leads
    (output_after _ _ _ _ _ held kept h.output h.wrote.to_output f k)

-- a flush fails only as the output or the diagnostics do
stop_of : (L : Limits) (stop : Stopped) (M : Meaning) (old new : Devices) (o o_new n n_new : OutputState) (held : Done)
    (rest : List ℕ) → FailsAs stop o o_new n n_new held.diagnostics rest → StopsHolding L stop M old new held
    → IsStopped L stop M [] old new
stop_of L Read M old new o o_new n n_new held rest f h = absurd f
stop_of L Endless M old new o o_new n n_new held rest f h = absurd f
stop_of L Write M old new o o_new n n_new held rest f h = h
stop_of L Diagnostics M old new o o_new n n_new held rest f h = h
stop_of L Memory M old new o o_new n n_new held rest f h = absurd f

pub pumped_fails : (L : Limits) (M : Meaning) (old mid : Devices) (o d : OutputState) (held total : Done) (stop : Stopped)
    (out notes more : List ℕ)
    → (HasOneOutput M → (input : List ℕ) (x : Done) → old.input.left ≡ Some input → M.whole input x
    → IsPrefixOf (out ++ held.output) x.output)
    → WroteAll old.output mid.output out → WroteAll old.diagnostics mid.diagnostics notes
    → ComesOf M old.input mid.input total → total.output ≡ (out ++ held.output) ++ more
    → total.diagnostics ≡ notes ++ held.diagnostics
    → FlushFailed mid.output mid.diagnostics o d held stop → Used L M old.input mid.input
    → Pumped L M old (flushed_to mid o d) (Err stop)
pumped_fails L M old mid o d held total stop out notes more leads a b comes whole lines f used =
    let new : Devices = flushed_to mid o d in
    record {
      outcome = stop_of L stop M old new mid.output o mid.diagnostics d held f.rest f.cause
          (flush_stops L M old new mid.output mid.diagnostics held held total stop out notes more a b comes whole lines f);
      begins = prefix_from M old new (then_done (written out notes) held) (out ++ f.sent) f.rest leads
          (ap (λ xs. out ++ xs) f.begins ∙ sym (append_assoc out f.sent f.rest))
          (Appends-trans _ _ _ _ _ a.octets f.to_output);
      used = used;
    }

-- ---- the last line

-- a line behind what was written
part_lined : (P : List ℕ → Done → Type 0) (line : List ℕ) (old mid : Devices) (d : OutputState)
    → AnswersPart P [] old mid → WroteAll mid.diagnostics d line
    → AnswersPart P line old (flushed_to mid mid.output d)
part_lined P line old mid d h w = record {
  given = h.given;
  done = h.done;
  consumed = h.consumed;
  means = h.means;
  wrote = record {
    to_output = h.wrote.to_output;
    to_diagnostics = wrote_then _ _ _ _ _
        (subst (WroteAll old.diagnostics mid.diagnostics) (append-nil h.done.diagnostics) h.wrote.to_diagnostics) w;
  };
}

failed_lined : (M : Meaning) (line : List ℕ) (old mid : Devices) (d : OutputState) → WriteFailedWith M [] old mid
    → WroteAll mid.diagnostics d line → WriteFailedWith M line old (flushed_to mid mid.output d)
failed_lined M line old mid d h w = record {
  failed = h.failed;
  done = h.done;
  sent = h.sent;
  unsent = h.unsent;
  comes = h.comes;
  parts = h.parts;
  some_left = h.some_left;
  to_output = h.to_output;
  to_diagnostics = wrote_then _ _ _ _ _
      (subst (WroteAll old.diagnostics mid.diagnostics) (append-nil h.done.diagnostics) h.to_diagnostics) w;
}

-- the line was written, or the diagnostics failed
told : (L : Limits) (M : Meaning) (old mid : Devices) (d : OutputState) (stop : Stopped) (status : ℕ)
    → Pumped L M old mid (Err stop) → mid.diagnostics.failures ≡ old.diagnostics.failures
    → (WroteAll mid.diagnostics d (line_of stop) → IsStopped L stop M (line_of stop) old (flushed_to mid mid.output d))
    → Reports (line_of stop) (stop_status stop) mid.diagnostics d status
    → RanWithin L M old (flushed_to mid mid.output d) status
told L M old mid d stop status p sound lined t =
    elim t [
      | inl h ↦ record { ending = Some stop; outcome = (h.0, lined h.1); begins = p.begins; used = p.used }
      | inr h ↦ record {
        ending = Some Diagnostics;
        outcome = (h.0, λ small. subst (λ (n : ℕ). n < d.failures) sound (h.1 (subst (λ (n : ℕ). n < 2 ^ 63) (sym sound) small)));
        begins = p.begins;
        used = p.used;
      }
    ]

pub ran_stopped : (L : Limits) (M : Meaning) (old mid : Devices) (d : OutputState) (stop : Stopped) (status : ℕ)
    → Pumped L M old mid (Err stop) → Closes stop mid.diagnostics d status
    → RanWithin L M old (flushed_to mid mid.output d) status
ran_stopped L M old mid d Read status p t =
    told L M old mid d Read status p p.outcome.1.wrote.to_diagnostics.no_failure
    (λ w. (p.outcome.0, part_lined M.so_far _ old mid d p.outcome.1 w)) t
ran_stopped L M old mid d Endless status p t =
    told L M old mid d Endless status p p.outcome.1.wrote.to_diagnostics.no_failure
    (λ w. (p.outcome.0, part_lined M.so_far _ old mid d p.outcome.1 w)) t
ran_stopped L M old mid d Write status p t =
    told L M old mid d Write status p p.outcome.to_diagnostics.no_failure
    (λ w. failed_lined M _ old mid d p.outcome w) t
ran_stopped L M old mid d Diagnostics status p t = record {
  ending = Some Diagnostics;
  outcome = (t.0, λ small. subst (λ (x : OutputState). old.diagnostics.failures < x.failures) (sym t.1) (p.outcome small));
  begins = p.begins;
  used = p.used;
}
ran_stopped L M old mid d Memory status p t =
    told L M old mid d Memory status p p.outcome.1.wrote.to_diagnostics.no_failure
    (λ w. (p.outcome.0, part_lined M.part _ old mid d p.outcome.1 w)) t

pub ran_answered : (L : Limits) (M : Meaning) (old new : Devices) (status : ℕ) → Pumped L M old new (Ok status) → RanWithin L M old new status
ran_answered L M old new status p =
    record { ending = None; outcome = p.outcome; begins = p.begins; used = p.used }

-- ---- what is held back is written

-- of a text a prefix was written
pub written_part : {A : Type 0} (r : Result A WriteFault) (o o_new : OutputState) (text : List ℕ)
    → WritesAll o o_new text r
    → (sent : List ℕ) × (rest : List ℕ) × (text ≡ sent ++ rest) × Appends o.taken o_new.taken sent
written_part (Ok x) o o_new text w = (text, [], sym (append-nil text), w.octets)
written_part (Err fault) o o_new text w =
    (take fault.sent text, drop fault.sent text, sym (take-append-drop fault.sent text), w.octets)

-- of a text a part was written, and not all
pub unsent_part : (fault : WriteFault) (o o_new : OutputState) (text : List ℕ) → WrotePart o o_new text fault.sent
    → (sent : List ℕ) × (rest : List ℕ) × (text ≡ sent ++ rest) × Appends o.taken o_new.taken sent × (0 < length rest)
unsent_part fault o o_new text w =
    let parts : take fault.sent text ++ drop fault.sent text ≡ text = take-append-drop fault.sent text in (
      take fault.sent text,
      drop fault.sent text,
      sym parts,
      w.octets,
      omega (
        arith,
        w.some_left,
        length-take-le fault.sent text (omega (arith, w.some_left)),
        ap length parts,
        length-append (take fault.sent text) (drop fault.sent text),
      ),
    )

-- ---- a run that stopped before it read anything

-- memory ran out, and that was told
pub unstarted : (L : Limits) (M : Meaning) (old : Devices) (d : OutputState) (status : ℕ) → M.so_far [] nothing → M.part [] nothing
    → Reports (line_of Memory) (stop_status Memory) old.diagnostics d status
    → RanWithin L M old (flushed_to old old.output d) status
unstarted L M old d status so_far part t =
    let unread : Used L M old.input old.input = record {
      calls = λ _. omega arith;
      ends = omega arith;
      ended = λ _. refl;
      needed = λ _.
          record {
            before = [];
            last = [];
            done = nothing;
            consumed = Consumes-nil old.input.left;
            means = so_far;
            few = omega arith;
            each = omega arith;
          };
      failed = λ h. absurd (omega (arith, h));
    } in
    let begins : HasOneOutput M → WritesPrefix M old (flushed_to old old.output d) =
    λ laws input x known whole. ([], (x.output, refl), Appends-nil old.output.taken) in
    elim t [
      | inl h ↦ record {
        ending = Some Memory;
        outcome = (
          h.0,
          (
            refl,
            record {
              given = [];
              done = nothing;
              consumed = Consumes-nil old.input.left;
              means = part;
              wrote = record { to_output = wrote_nothing old.output; to_diagnostics = h.1 };
            },
          ),
        );
        begins = begins;
        used = unread;
      }
      | inr h ↦ record { ending = Some Diagnostics; outcome = (h.0, h.1); begins = begins; used = unread }
    ]
