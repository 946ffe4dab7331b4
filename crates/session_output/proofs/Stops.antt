-- Steps of a session that is given its octets by calls.
use Rattle.std.proofs.Common.{◌≡◌, ℕ, ◌<◌, ◌^◌, List, [], ◌++◌, refl, ap, sym, subst, ◌∙◌, append_assoc, append-nil, arith}
use Rattle.std.proofs.Common.{inl, inr}
use Rattle.std.proofs.KnownBytes.{Appends-trans}
use Rattle.std.specs.Io.KnownBytes.{Appends}
use Rattle.octet_devices.specs.Device.{OutputState}
use Rattle.octet_devices.specs.Transfers.{WroteAll}
use Rattle.driver.specs.Effects.{Done, IsWrittenOut, then_done, written}
use Rattle.driver.specs.Holding.{FlushFailed, Flushed}
use Rattle.driver.specs.Sessions.{Meaning, with_rest}
use Rattle.driver.specs.declared.stopped.Stopped.{Stopped as Reason}
use Rattle.driver.specs.declared.stopped.Stopped.TheVariants.{Diagnostics, Endless, Memory, Read, Write}
use Rattle.driver.proofs.Known.{wrote_then}
use Rattle.driver.proofs.Turns.{moved}
use Rattle.session_output.specs.Runs.{ComesOf, GoesOn, HoldsAnswer, HoldsFirst, IsStopped, Outputs, Wrote, WroteFirst, outputs}

-- a text in the middle is cut in two
regrouped : (a b c d e : List ℕ) → b ≡ c ++ d → (a ++ b) ++ e ≡ (a ++ c) ++ (d ++ e)
regrouped a b c d e is = rw is (simp append_assoc)

-- the output of what was held back follows what was written
pub output_after : (a b c n n_new : OutputState) (held kept : Done) (out : List ℕ) → WroteAll a b out
    → Flushed b n c n_new held kept → IsWrittenOut kept → WroteAll a c (out ++ held.output)
output_after a b c n n_new held kept out w f k =
    let whole : held.output ≡ f.output = ap (λ (x : Done). x.output) f.whole
    ∙ (ap (λ xs. f.output ++ xs) k.output ∙ append-nil f.output) in
    subst (λ (xs : List ℕ). WroteAll a c (out ++ xs)) (sym whole) (wrote_then a b c _ _ w f.to_output)

-- some of what was held back was written
pub goes_on_flushed : (M : Meaning) (S : List ℕ → Type 0) (old mid : Outputs) (o d : OutputState) (held kept : Done)
    (room : ℕ) (given : List ℕ) → GoesOn M S old mid held room given
    → Flushed mid.output mid.diagnostics o d held kept → GoesOn M S old (outputs o d) kept room given
goes_on_flushed M S old mid o d held kept room given g f = record {
  output = g.output ++ f.output;
  diagnostics = g.diagnostics ++ f.diagnostics;
  stands = g.stands;
  so_far = subst (λ (x : Done). M.so_far given x)
      (ap (λ (x : Done). then_done (written g.output g.diagnostics) x) f.whole
      ∙ moved g.output g.diagnostics f.output f.diagnostics kept) g.so_far;
  wrote = record {
    to_output = wrote_then _ _ _ _ _ g.wrote.to_output f.to_output;
    to_diagnostics = wrote_then _ _ _ _ _ g.wrote.to_diagnostics f.to_diagnostics;
  };
  room_is = g.room_is;
}

-- what was written of what comes so far
pub first_of : (M : Meaning) (S : List ℕ → Type 0) (old mid : Outputs) (held : Done) (room : ℕ) (given : List ℕ)
    → GoesOn M S old mid held room given → WroteFirst M old mid given
first_of M S old mid held room given g = record {
  done = then_done (written g.output g.diagnostics) held;
  sent = g.output;
  comes = inr (inl g.so_far);
  begins = (held.output, refl);
  to_output = g.wrote.to_output.octets;
}

-- a prefix of what was held back was written
pub first_flushed : (M : Meaning) (old mid : Outputs) (o d : OutputState) (held total : Done) (given : List ℕ)
    (stop : Reason) (out notes more : List ℕ) → Wrote old mid out notes → ComesOf M given total
    → total.output ≡ (out ++ held.output) ++ more → FlushFailed mid.output mid.diagnostics o d held stop
    → WroteFirst M old (outputs o d) given
first_flushed M old mid o d held total given stop out notes more w comes whole f = record {
  done = total;
  sent = out ++ f.sent;
  comes = comes;
  begins = (f.rest ++ more, whole ∙ regrouped out held.output f.sent f.rest more f.begins);
  to_output = Appends-trans _ _ _ _ _ w.to_output.octets f.to_output;
}

-- a failed flush stops the session
pub flush_stops : (M : Meaning) (old mid : Outputs) (o d : OutputState) (held total : Done) (given : List ℕ)
    (stop : Reason) (out notes more : List ℕ) → Wrote old mid out notes → ComesOf M given total
    → total.output ≡ (out ++ held.output) ++ more → FlushFailed mid.output mid.diagnostics o d held stop
    → IsStopped M stop old (outputs o d) given
flush_stops M old mid o d held total given Read out notes more w comes whole f = absurd f.cause
flush_stops M old mid o d held total given Endless out notes more w comes whole f = absurd f.cause
flush_stops M old mid o d held total given Write out notes more w comes whole f = record {
  cause = λ small. omega (arith, w.to_output.no_failure, f.cause.0 (omega (arith, w.to_output.no_failure, small)));
  first = first_flushed M old mid o d held total given Write out notes more w comes whole f;
}
flush_stops M old mid o d held total given Diagnostics out notes more w comes whole f = record {
  cause = λ small. omega (arith, w.to_diagnostics.no_failure, f.cause (omega (arith, w.to_diagnostics.no_failure, small)));
  first = first_flushed M old mid o d held total given Diagnostics out notes more w comes whole f;
}
flush_stops M old mid o d held total given Memory out notes more w comes whole f = absurd f.cause

-- all that was held back was written, and a part of the rest
pub rest_stops : (M : Meaning) (old mid : Outputs) (o d o_rest : OutputState) (held kept : Done) (rest text sent unsent : List ℕ)
    → HoldsAnswer M old mid held rest text → Flushed mid.output mid.diagnostics o d held kept → IsWrittenOut kept
    → rest ≡ sent ++ unsent → Appends o.taken o_rest.taken sent → (o.failures < 2 ^ 63 → o.failures < o_rest.failures)
    → IsStopped M Write old (outputs o_rest d) text
rest_stops M old mid o d o_rest held kept rest text sent unsent h f k split w failed =
    let to_output = output_after _ _ _ _ _ held kept h.output h.wrote.to_output f k in
    record {
      cause = λ small. omega (arith, to_output.no_failure, failed (omega (arith, to_output.no_failure, small)));
      first = record {
        done = with_rest (then_done (written h.output h.diagnostics) held) rest;
        sent = (h.output ++ held.output) ++ sent;
        comes = inl h.whole;
        begins = (
          unsent,
          ap (λ xs. (h.output ++ held.output) ++ xs) split
              ∙ sym (append_assoc (h.output ++ held.output) sent unsent),
        );
        to_output = Appends-trans _ _ _ _ _ to_output.octets w;
      };
    }

-- memory ran out at the end of a text, and what came of a part of it was written
pub memory_stops : (M : Meaning) (S : List ℕ → Type 0) (old mid : Outputs) (o d : OutputState) (held after kept : Done)
    (room : ℕ) (text : List ℕ) → (g : GoesOn M S old mid held room text)
    → M.part text (then_done (written g.output g.diagnostics) after)
    → Flushed mid.output mid.diagnostics o d after kept → IsWrittenOut kept → IsStopped M Memory old (outputs o d) text
memory_stops M S old mid o d held after kept room text g part f k =
    let to_output = output_after _ _ _ _ _ after kept g.output g.wrote.to_output f k in
    record {
      cause = tt;
      first = record {
        done = then_done (written g.output g.diagnostics) after;
        sent = g.output ++ after.output;
        comes = inr (inr part);
        begins = ([], sym (append-nil (g.output ++ after.output)));
        to_output = to_output.octets;
      };
    }

pub holds_open : (M : Meaning) (S : List ℕ → Type 0) (old mid : Outputs) (held : Done) (room : ℕ) (given : List ℕ)
    → GoesOn M S old mid held room given → HoldsFirst M old mid held given
holds_open M S old mid held room given g = record {
  output = g.output;
  diagnostics = g.diagnostics;
  done = then_done (written g.output g.diagnostics) held;
  more = [];
  comes = inr (inl g.so_far);
  parts = sym (append-nil (g.output ++ held.output));
  wrote = g.wrote;
}

pub holds_answer : (M : Meaning) (old mid : Outputs) (held : Done) (rest text : List ℕ)
    → HoldsAnswer M old mid held rest text → HoldsFirst M old mid held text
holds_answer M old mid held rest text h = record {
  output = h.output;
  diagnostics = h.diagnostics;
  done = with_rest (then_done (written h.output h.diagnostics) held) rest;
  more = rest;
  comes = inl h.whole;
  parts = refl;
  wrote = h.wrote;
}

-- all that was held back was written
pub held_written : (M : Meaning) (old mid : Outputs) (o d : OutputState) (held kept : Done) (given : List ℕ)
    → HoldsFirst M old mid held given → Flushed mid.output mid.diagnostics o d held kept → IsWrittenOut kept
    → WroteFirst M old (outputs o d) given
held_written M old mid o d held kept given h f k = record {
  done = h.done;
  sent = h.output ++ held.output;
  comes = h.comes;
  begins = (h.more, h.parts);
  to_output = (output_after _ _ _ _ _ held kept h.output h.wrote.to_output f k).octets;
}
